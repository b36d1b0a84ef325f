-- Bytes are not dropped for the age of the acknowledgement that they come with.
use Rattle.std.proofs.Common.{◌≡◌, ℕ, ◌+◌, ◌<◌, ◌≤◌, ◌^◌, Bool, true, false, true≢false, refl, sym, ap, ◌∙◌, arith, length, Option, Some, None}
use Rattle.std.specs.Prelude.{if◌then◌else◌}
use Rattle.std.proofs.lemmas.Bool.{and_parts}
use Rattle.control_wire.specs.Seq.{seq_add, seq_sub}
use Rattle.control_wire.specs.Segment.{Segment}
use Rattle.control_wire.specs.declared.seq_number.TcpSeqNumber.{TcpSeqNumber}
use Rattle.control_wire.specs.declared.tcp.TcpControl.{TcpControl}
use Rattle.control_wire.specs.declared.tcp.TcpControl.TheVariants as control
use Rattle.sock_core.specs.Seq.{is_before}
use Rattle.sock_tcp.specs.Rfc.Checks.{verdict_by, verdict_then}
use Rattle.sock_tcp.specs.Rfc.Windows.{ack_heeded, brings, is_heeded, is_heeding, is_ignored}
use Rattle.sock_tcp.specs.Verdict.{fin_place, open_verdict, verdict_at, verdict_of}
use Rattle.sock_tcp.specs.View.{View}
use Rattle.sock_tcp.specs.declared.rules.Rules.TheVariants as rules
use Rattle.sock_tcp.specs.declared.state.State.{State}
use Rattle.sock_tcp.specs.declared.state.State.TheVariants as state
use Rattle.sock_tcp.specs.declared.verdict.Verdict.TheVariants as verdicts
use Rattle.sock_tcp.proofs.Windows.{far}
use Rattle.tcp_laws.specs.Windows.{OldAcknowledgementPasses}
use Rattle.tcp_laws.proofs.OrderedCalls.{reached_ordered}

open_in : (k una : TcpSeqNumber) (q n : ℕ) (st : State) (c : TcpControl) → is_heeding st ≡ true → brings c n ≡ true → verdict_at st c (Some k) una q ≡ open_verdict st k una q
unfolding verdict_at
open_in k una q n state.Established control.None h b = refl
open_in k una q n state.Established control.Psh h b = refl
open_in k una q n state.Established control.Fin h b = refl
open_in k una q n state.FinWait1 control.None h b = refl
open_in k una q n state.FinWait1 control.Psh h b = refl
open_in k una q n state.FinWait1 control.Fin h b = refl
open_in k una q n state.FinWait2 control.None h b = refl
open_in k una q n state.FinWait2 control.Psh h b = refl
open_in k una q n state.FinWait2 control.Fin h b = refl
open_in k una q n state.CloseWait control.None h b = refl
open_in k una q n state.CloseWait control.Psh h b = refl
open_in k una q n state.CloseWait control.Fin h b = refl
open_in k una q n state.Closing control.None h b = refl
open_in k una q n state.Closing control.Psh h b = refl
open_in k una q n state.Closing control.Fin h b = refl
open_in k una q n state.LastAck control.None h b = refl
open_in k una q n state.LastAck control.Psh h b = refl
open_in k una q n state.LastAck control.Fin h b = refl
open_in k una q n state.TimeWait control.None h b = refl
open_in k una q n state.TimeWait control.Psh h b = refl
open_in k una q n state.TimeWait control.Fin h b = refl
open_in k una q n _ control.Syn h b = absurd (true≢false (sym b))
open_in k una q n _ control.Rst h b = absurd (true≢false (sym b))
open_in k una q n state.Closed _ h b = absurd (true≢false (sym h))
open_in k una q n state.Listen _ h b = absurd (true≢false (sym h))
open_in k una q n state.SynSent _ h b = absurd (true≢false (sym h))
open_in k una q n state.SynReceived _ h b = absurd (true≢false (sym h))

at_most_one : (st : State) → fin_place st ≤ 1
at_most_one state.FinWait1 = omega arith
at_most_one state.Closing = omega arith
at_most_one state.LastAck = omega arith
at_most_one _ = omega arith

-- SND.UNA lies neither before itself nor behind what was given to the socket
passes_at : (st : State) (una : TcpSeqNumber) (n : ℕ) → una.0 < 2 ^ 32 → n ≤ 2 ^ 30 → open_verdict st (seq_add una 0) una n ≡ verdicts.Pass
passes_at st una n small room = go (is_before (seq_add una 0) una) refl (is_before (seq_add una (n + fin_place st)) (seq_add una 0)) refl
  where
    go : (x : Bool) → is_before (seq_add una 0) una ≡ x → (y : Bool) → is_before (seq_add una (n + fin_place st)) (seq_add una 0) ≡ y → (if x then verdicts.Drop else (if y then verdicts.Challenge else verdicts.Pass)) ≡ verdicts.Pass
    go true e y f = absurd (omega (arith, far (seq_add una 0) una e, small))
    go false e true f = absurd (omega (arith, far (seq_add una (n + fin_place st)) (seq_add una 0) f, small, room, at_most_one st))
    go false e false f = refl

ignored_passes : (v : View) (s : Segment) (o : Option TcpSeqNumber) → v.local_seq_no.0 < 2 ^ 32 → length v.tx_buffer.bytes ≤ 2 ^ 30 → is_ignored v s o ≡ true → verdict_of v s.control (ack_heeded rules.Rfc v s o) ≡ verdicts.Pass
ignored_passes v s None small room i = absurd (true≢false (sym i))
ignored_passes v s (Some a) small room i =
    let p = and_parts (is_heeding v.state) _ i in
    let q = and_parts (brings s.control (length s.payload)) _ p.1 in
    ap (λ b. verdict_of v s.control (Some (if b then seq_add v.local_seq_no 0 else a))) i
    ∙ open_in (seq_add v.local_seq_no 0) v.local_seq_no (length v.tx_buffer.bytes) (length s.payload) v.state s.control p.0 q.0
    ∙ passes_at v.state v.local_seq_no (length v.tx_buffer.bytes) small room

pub old_acknowledgement_passes : OldAcknowledgementPasses
old_acknowledgement_passes v now s r is i c =
    let o = reached_ordered v r in
    ap (λ x. verdict_by x v now s) is ∙ ap (λ x. verdict_then x v s) c ∙ ignored_passes v s s.ack_number o.una_small (omega (arith, o.room)) i
