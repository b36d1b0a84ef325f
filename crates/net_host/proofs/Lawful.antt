-- A lawful moment is not the least number.
use Rattle.std.proofs.Common.{◌≡◌, Option, Some, subst, arith}
use Rattle.std.specs.Prelude.{negsuc, ◌<ℤ◌}
use Rattle.std.proofs.lemmas.Int.{ints}
use Rattle.net_base.specs.declared.time.Duration.{Duration}
use Rattle.net_base.specs.declared.time.Instant.{Instant}
use Rattle.sock_core.specs.Bounds.{IsMoment}
use Rattle.sock_tcp.specs.Timers.{IsLastTs, after}
use Rattle.net_host.specs.Remembered.{IsTold}

clear : (t : Instant) → IsMoment t.micros → negsuc 9223372036854775807 <ℤ t.micros
clear t h = let p = h.0 in grind (arith, ints, p)

pub lawful_told : (o : Option Instant) → IsLastTs o → IsTold o
lawful_told o h = λ t is. clear t (h t is)

out : (t u : Instant) → Some t ≡ Some u → t ≡ u
out t u e = cc

later : (t : Instant) (d : Duration) → IsMoment t.micros → negsuc 9223372036854775807 <ℤ (after t d).micros
later t d h = let p = h.0 in grind (arith, ints, p)

pub after_told : (t : Instant) (d : Duration) → IsMoment t.micros → IsTold (Some (after t d))
after_told t d h = λ u is. subst (λ (v : Instant). negsuc 9223372036854775807 <ℤ v.micros) (out (after t d) u is) (later t d h)
