-- A socket without a peer sends nothing, and waits for a packet.
use Rattle.std.proofs.Common.{◌≡◌, ℕ, List, pos, Bool, true, false, Option, Some, None, refl, sym, ap, subst}
use Rattle.std.specs.Prelude.{is_some, option_map}
use Rattle.sock_core.specs.Facts.{Facts}
use Rattle.sock_core.specs.declared.context.PollAt.{PollAt}
use Rattle.sock_core.specs.declared.context.PollAt.TheVariants as poll
use Rattle.sock_tcp.specs.Begin.{before_emit, before_emit_to, begun, begun_to, peer_of}
use Rattle.sock_tcp.specs.Poll.{poll_moment, poll_moment_to}
use Rattle.sock_tcp.specs.View.{View}
use Rattle.sock_tcp.specs.declared.tuple.Tuple.{Tuple}
use Rattle.smoltcp_c.specs.Context.{facts_in}
use Rattle.smoltcp_c.specs.Packets.{DispatchesInto, SendsIf, stamp_told}
use Rattle.smoltcp_c.specs.declared.clock.Clock.{Clock}
use Rattle.smoltcp_c.specs.declared.context.Cx.{Cx}

pub none_there : (o : Option Tuple) → is_some (option_map (λ (t : Tuple). t.remote) o) ≡ false → o ≡ None
none_there None e = refl
none_there (Some t) e = let no : true ≡ false = e in absurd cc

pub nothing_awaited : (v : View) (f : Facts) → v.tuple ≡ None → poll_moment v f ≡ poll.Ingress
unfolding poll_moment
nothing_awaited v f none = ap (λ o. poll_moment_to o v f) none

pub nothing_sent : (cx : Cx) (clock : Option Clock) (v : View) (out : List ℕ) → v.tuple ≡ None → DispatchesInto cx clock v out (pos 0) v out
unfolding DispatchesInto before_emit begun
nothing_sent cx clock v out none =
    subst
    (λ (o : Option Tuple). SendsIf
    (peer_of (before_emit_to (peer_of (begun_to o v (facts_in cx))) (begun_to o v (facts_in cx)).view (facts_in cx)))
    (facts_in cx) (stamp_told clock)
    (before_emit_to (peer_of (begun_to o v (facts_in cx))) (begun_to o v (facts_in cx)).view (facts_in cx)).view
    out (pos 0) v out)
    (sym none) (refl, refl, refl)
