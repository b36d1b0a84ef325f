-- A sender that was closed sends all that it has, and its FIN with the last of it.
use Rattle.std.proofs.Common.{◌≡◌, ℕ, zero, suc, ◌<◌, ◌≤◌, ◌⊎◌, inl, inr, subst, List, ◌++◌, length, drop, Option, true, arith}
use Rattle.std.specs.Prelude.{◌≤ℤ◌}
use Rattle.net_base.specs.declared.time.Duration.{Duration}
use Rattle.net_base.specs.declared.time.Instant.{Instant}
use Rattle.sock_core.specs.Bounds.{IsMtu}
use Rattle.sock_core.specs.Facts.{Facts}
use Rattle.sock_tcp.specs.Timers.{is_over}
use Rattle.sock_tcp.specs.View.{View}
use Rattle.sock_tcp.specs.declared.tuple.Tuple.{Tuple}
use Rattle.tcp_laws.proofs.Probing.{ProbesIn, reached_probing}
use Rattle.progress_laws.specs.AfterClose.{AfterClose, BringsAll, ClosedSenderFinishes}
use Rattle.progress_laws.specs.InStep.{ForAnswer, ForKeepAlive, ForNothing, ForProbe, Moves, Rests}
use Rattle.progress_laws.proofs.Begins.{later_moment, some_or_none}
use Rattle.progress_laws.proofs.Both.{measure}
use Rattle.progress_laws.proofs.Closes.{says_fin}
use Rattle.progress_laws.proofs.ClosingSays.{says_on}
use Rattle.progress_laws.proofs.Rounds.{joined}
use Rattle.progress_laws.proofs.Speaks.{IsNoProbe, wakes}
use Rattle.progress_laws.proofs.ClosingRounds.{Onward, fin_alone, goes_on}

-- ---- all of it

module _ (d : Option Duration) (t : Tuple) (f : Facts) (mtu : IsMtu f.mtu) (address : f.has_address t.local.addr ≡ true) where
  step : (at : Instant) (v w : View) (got : List ℕ) (i : AfterClose d t v w) → 0 < length v.tx_buffer.bytes → Onward d t f at v w got i ⊎ BringsAll d t f at v w got i
  step at v w got i queue = by (later_moment at (wakes i.sender.rests))
    where
      no_probing : (r : Rests v) → IsNoProbe r
      no_probing (ForProbe m delay probes nxt some) = let z : v.remote_win_len ≡ 0 = subst (λ tm. ProbesIn tm v.remote_win_len) probes (reached_probing v i.sender.reached).window in absurd (omega (arith, z, i.over.some))
      no_probing (ForKeepAlive m idle nxt) = tt
      no_probing (ForNothing idle nxt some) = tt
      no_probing (ForAnswer m again) = tt

      by : (z : Instant) × (at.micros ≤ℤ z.micros) × (is_over (wakes i.sender.rests) z ≡ true) → Onward d t f at v w got i ⊎ BringsAll d t f at v w got i
      by z = goes_on d t f at z.0 z.1 v w got i (says_on d t v f z.0 mtu address i.sender (no_probing i.sender.rests) z.2 i.over.some queue)

  done : (at : Instant) (v w : View) (got : List ℕ) (i : AfterClose d t v w) → length v.tx_buffer.bytes ≡ 0 → BringsAll d t f at v w got i
  done at v w got i none = let z = later_moment at (wakes i.sender.rests) in fin_alone d t f at z.0 z.1 v w got i (says_fin d t v f z.0 address i.sender z.2 none) none

  then_rest : (at : Instant) (v w : View) (got : List ℕ) (i : AfterClose d t v w) (r : Onward d t f at v w got i) → BringsAll d t f r.end r.sender r.receiver r.more r.in_step → BringsAll d t f at v w got i
  then_rest at v w got i r c = record {
    end = c.end;
    sender = c.sender;
    receiver = c.receiver;
    moves = joined at r.end c.end v w r.sender r.receiver c.sender c.receiver got r.more (got ++ drop i.over.taken v.tx_buffer.bytes) r.moves (subst (λ l. Moves f r.end r.sender r.receiver r.more c.end c.sender c.receiver l) r.whole c.moves);
    finished = c.finished;
  }

  abbrev Brings : ℕ → Type 0
  Brings m = (at : Instant) (v w : View) (got : List ℕ) (i : AfterClose d t v w) → measure v i.over.taken ≤ m → BringsAll d t f at v w got i

  more : (m : ℕ) → Brings m → Brings (suc m)
  more m rest at v w got i few = by (some_or_none (length v.tx_buffer.bytes))
    where
      on : Onward d t f at v w got i ⊎ BringsAll d t f at v w got i → BringsAll d t f at v w got i
      on (inl r) = then_rest at v w got i r (rest r.end r.sender r.receiver r.more r.in_step (omega (arith, r.less, few)))
      on (inr c) = c

      by : (length v.tx_buffer.bytes ≡ 0) ⊎ (0 < length v.tx_buffer.bytes) → BringsAll d t f at v w got i
      by (inl z) = done at v w got i z
      by (inr some) = on (step at v w got i some)

  brings_all : (m : ℕ) → Brings m
  brings_all zero at v w got i few = done at v w got i (omega (arith, few, i.over.taken_within))
  brings_all (suc m) at v w got i few = more m (brings_all m) at v w got i few

pub closed_sender_finishes : ClosedSenderFinishes
closed_sender_finishes d t f at v w got mtu here i = brings_all d t f mtu here (measure v i.over.taken) at v w got i (omega arith)
