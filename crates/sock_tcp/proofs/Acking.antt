-- What passes the verdict acknowledges no more than was sent.
use Rattle.std.proofs.Common.{◌≡◌, ℕ, ◌+◌, ◌-◌, ◌^◌, ◌<◌, ◌≤◌, Bool, true, false, cond, eqb, Some, None, length, refl, arith}
use Rattle.std.specs.Prelude.{◌&&◌}
use Rattle.std.proofs.lemmas.Bool.{leb-false, eqb-true}
use Rattle.std.proofs.lemmas.Grind.{common_steps}
use Rattle.control_wire.specs.Seq.{seq_add, seq_sub, seq_eq}
use Rattle.sock_core.specs.Places.{number_is_before, number_distance}
use Rattle.sock_core.specs.Seq.{is_before}
use Rattle.control_wire.specs.declared.seq_number.TcpSeqNumber.{TcpSeqNumber}
use Rattle.control_wire.specs.declared.tcp.TcpControl.{TcpControl}
use Rattle.control_wire.specs.declared.tcp.TcpControl.TheVariants as control
use Rattle.sock_tcp.specs.declared.state.State.{State}
use Rattle.sock_tcp.specs.declared.state.State.TheVariants as state
use Rattle.sock_tcp.specs.declared.verdict.Verdict.TheVariants as verdicts
use Rattle.sock_tcp.specs.View.{View}
use Rattle.sock_tcp.specs.Verdict.{fin_place, open_verdict, verdict_at, verdict_of}
use Rattle.sock_tcp.specs.Acked.{acked_places, acked_at, acked_of}

-- a number between una and k places after it
pub between : (una ack : TcpSeqNumber) (k : ℕ) → una.0 < 2 ^ 32 → ack.0 < 2 ^ 32 → k < 2 ^ 31 → is_before ack una ≡ false → is_before (seq_add una k) ack ≡ false → seq_sub ack una ≤ k
unfolding is_before number_is_before number_distance
between una ack k hb ha hk low high = omega (arith, leb-false (2 ^ 31) (seq_sub ack una) low, leb-false (2 ^ 31) (seq_sub (seq_add una k) ack) high)

pub two_guards : (a b : Bool) → cond a verdicts.Drop (cond b verdicts.Challenge verdicts.Pass) ≡ verdicts.Pass → (a ≡ false) × (b ≡ false)
two_guards true b e = absurd cc
two_guards false true e = absurd cc
two_guards false false e = (refl, refl)

pub passes : (b : Bool) → cond b verdicts.Pass verdicts.Reset ≡ verdicts.Pass → b ≡ true
passes true e = refl
passes false e = absurd cc

pub fin_place_le : (st : State) → fin_place st ≤ 1
fin_place_le state.FinWait1 = omega arith
fin_place_le state.Closing = omega arith
fin_place_le state.LastAck = omega arith
fin_place_le _ = omega arith

-- the length, where a FIN's place is taken off
lowered : (f n queue : ℕ) → n ≤ queue + f → f ≤ 1 → cond (eqb f 1 && eqb n (queue + 1)) (n - 1) n ≤ queue
lowered f n queue h k = grind (arith, common_steps)

-- the acknowledgement of a SYN alone
pub one_place : (una a : TcpSeqNumber) → una.0 < 2 ^ 32 → seq_eq a (seq_add una 1) ≡ true → seq_sub a una ≡ 1
one_place una a hu e = let h : a.0 ≡ (seq_add una 1).0 = eqb-true a.0 (seq_add una 1).0 e in omega arith

syn_fits : (una a : TcpSeqNumber) (n : ℕ) → una.0 < 2 ^ 32 → cond (seq_eq a (seq_add una 1)) verdicts.Pass verdicts.Reset ≡ verdicts.Pass → seq_sub a una - 1 ≤ n
syn_fits una a n hu e = let h = one_place una a hu (passes (seq_eq a (seq_add una 1)) e) in omega (arith, h)

open_fits : (st : State) (k : ℕ) (una a nxt : TcpSeqNumber) (n : ℕ) → una.0 < 2 ^ 32 → a.0 < 2 ^ 32 → n ≤ 2 ^ 30 → open_verdict st a una n ≡ verdicts.Pass → (acked_places st a nxt n (seq_sub a una - k)).len ≤ n
open_fits st k una a nxt n hu ha hn e =
    let g = two_guards (is_before a una) (is_before (seq_add una (n + fin_place st)) a) e in
    let f : fin_place st ≤ 1 = fin_place_le st in
    let h : seq_sub a una ≤ n + fin_place st = between una a (n + fin_place st) hu ha (omega arith) g.0 g.1 in
    lowered (fin_place st) (seq_sub a una - k) n (omega (arith, h)) f

some_fits : (st : State) (c : TcpControl) (una a nxt : TcpSeqNumber) (n : ℕ) → una.0 < 2 ^ 32 → a.0 < 2 ^ 32 → n ≤ 2 ^ 30 → verdict_at st c (Some a) una n ≡ verdicts.Pass → (acked_at st c (Some a) una nxt n).len ≤ n
unfolding verdict_at acked_at
some_fits _ control.Rst una a nxt n hu ha hn e = omega arith
some_fits state.SynSent control.Syn una a nxt n hu ha hn e = syn_fits una a n hu e
some_fits state.SynSent control.None una a nxt n hu ha hn e = elim (seq_eq a (seq_add una 1)) as (λ b. cond b verdicts.Drop verdicts.Reset ≡ verdicts.Pass → seq_sub a una - 1 ≤ n) [ true ↦ λ e. absurd cc | false ↦ λ e. absurd cc ] e
some_fits state.SynSent _ una a nxt n hu ha hn e = absurd cc
some_fits state.SynReceived _ una a nxt n hu ha hn e = syn_fits una a n hu e
some_fits st _ una a nxt n hu ha hn e = open_fits st 0 una a nxt n hu ha hn e

none_fits : (st : State) (c : TcpControl) (una nxt : TcpSeqNumber) (n : ℕ) → (acked_at st c None una nxt n).len ≤ n
unfolding acked_at
none_fits _ control.Rst una nxt n = omega arith
none_fits _ _ una nxt n = omega arith

pub acked_fits : (c : TcpControl) (v : View) (a : TcpSeqNumber) → v.local_seq_no.0 < 2 ^ 32 → a.0 < 2 ^ 32 → length v.tx_buffer.bytes ≤ 2 ^ 30 → verdict_of v c (Some a) ≡ verdicts.Pass → (acked_of v c (Some a)).len ≤ length v.tx_buffer.bytes
acked_fits c v a hu ha hn e = some_fits v.state c v.local_seq_no a v.remote_last_seq (length v.tx_buffer.bytes) hu ha hn e

pub none_acked : (c : TcpControl) (v : View) → (acked_of v c None).len ≤ length v.tx_buffer.bytes
none_acked c v = none_fits v.state c v.local_seq_no v.remote_last_seq (length v.tx_buffer.bytes)
