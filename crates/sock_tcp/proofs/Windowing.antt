-- An answer does not depend on the window that the segment tells.
use Rattle.std.proofs.Common.{◌≡◌, ℕ, Option, Some, None, refl, ◌∙◌, sym, ap}
use Rattle.ip_wire.specs.declared.repr.IpRepr.{IpRepr}
use Rattle.net_base.specs.declared.time.Instant.{Instant}
use Rattle.control_wire.specs.Segment.{Segment}
use Rattle.control_wire.specs.declared.seq_number.TcpSeqNumber.{TcpSeqNumber}
use Rattle.control_wire.specs.declared.tcp.TcpControl.{TcpControl}
use Rattle.control_wire.specs.declared.tcp.TcpControl.TheVariants as control
use Rattle.sock_tcp.specs.Arrival.{arrival}
use Rattle.sock_tcp.specs.Process.{Outcome, answered, by_verdict, challenged, processed_by, rst_sent, tuple_of}
use Rattle.sock_tcp.specs.Replies.{ack_segment, bare_reply, rst_ack, rst_number}
use Rattle.sock_tcp.specs.Rfc.Checks.{verdict_by}
use Rattle.sock_tcp.specs.Rfc.Windows.{ack_heeded, windowed}
use Rattle.sock_tcp.specs.View.{View}
use Rattle.sock_tcp.specs.declared.process.Answer.{Answer}
use Rattle.sock_tcp.specs.declared.process.Answer.TheVariants as answers
use Rattle.sock_tcp.specs.declared.rules.Rules.{Rules}
use Rattle.sock_tcp.specs.declared.verdict.Verdict.TheVariants as verdicts
use Rattle.sock_tcp.proofs.Answering.{IsNoRst, not_rst}
use Rattle.sock_tcp.proofs.Checking.{resets_unheeded}

module _ (r : Rules) (u v : View) (now : Instant) (s : Segment) where
  same_ack : (c : TcpControl) (ack : Option TcpSeqNumber) → rst_ack c ack (windowed r v s) ≡ rst_ack c ack s
  same_ack control.Syn None = refl
  same_ack control.Syn (Some k) = refl
  same_ack control.None ack = refl
  same_ack control.Psh ack = refl
  same_ack control.Fin ack = refl
  same_ack control.Rst ack = refl

  same_reset : ack_heeded r v s s.ack_number ≡ s.ack_number → rst_sent u (windowed r v s) ≡ rst_sent u s
  same_reset e =
      ap (λ k. record { view = u; reply = Some (record (bare_reply s) { control = control.Rst; seq_number = rst_number k; ack_number = rst_ack s.control k (windowed r v s) }) }) e
      ∙ ap (λ a. record { view = u; reply = Some (record (bare_reply s) { control = control.Rst; seq_number = rst_number s.ack_number; ack_number = a }) }) (same_ack s.control s.ack_number)

  same_challenge : challenged u now (windowed r v s) ≡ challenged u now s
  unfolding challenged ack_segment
  same_challenge = refl

  same_answer : (x : Answer) → (x ≡ answers.Rst → ⊥) → answered x u (windowed r v s) ≡ answered x u s
  unfolding ack_segment
  same_answer answers.Nothing n = refl
  same_answer answers.Ack n = refl
  same_answer answers.Rst n = absurd (n refl)

pub answers_so : (x : Answer) (r : Rules) (u v : View) (now : Instant) (s w : Segment) (o : Outcome) → w ≡ windowed r v s → IsNoRst o.reply → answered x u w ≡ o → answered x u s ≡ o
answers_so x r u v now s w o e n h = sym (same_answer r u v now s x (not_rst x u w o n h)) ∙ ap (λ z. answered x u z) (sym e) ∙ h

-- ---- by the verdict

module _ (o : Outcome) (r : Rules) (v : View) (now : Instant) (word : ℕ) (ip : IpRepr) (s : Segment) where
  pub challenges : verdict_by r v now s ≡ verdicts.Challenge → o ≡ challenged v now s → o ≡ processed_by r v now word ip s
  unfolding processed_by
  challenges p h = h ∙ sym (same_challenge r v v now s) ∙ ap (λ x. by_verdict r x v (arrival now (tuple_of ip s) word (windowed r v s))) (sym p)

  pub resets : verdict_by r v now s ≡ verdicts.Reset → o ≡ rst_sent v s → o ≡ processed_by r v now word ip s
  unfolding processed_by
  resets p h = h ∙ sym (same_reset r v v now s (resets_unheeded r v now s p)) ∙ ap (λ x. by_verdict r x v (arrival now (tuple_of ip s) word (windowed r v s))) (sym p)
