-- What the checks before the acknowledgement leave of the verdict, by either rules.
use Rattle.std.proofs.Common.{◌≡◌, ◌∙◌, ℕ, ◌+◌, Bool, true, false, ◌&&◌, refl, sym, ap, length, Option, Some, None}
use Rattle.std.specs.Prelude.{if◌then◌else◌}
use Rattle.net_base.specs.declared.time.Instant.{Instant}
use Rattle.control_wire.specs.Segment.{Segment}
use Rattle.control_wire.specs.Seq.{seq_add}
use Rattle.sock_core.specs.Seq.{is_before}
use Rattle.control_wire.specs.declared.seq_number.TcpSeqNumber.{TcpSeqNumber}
use Rattle.control_wire.specs.declared.tcp.TcpControl.{TcpControl}
use Rattle.control_wire.specs.declared.tcp.TcpControl.TheVariants as control
use Rattle.sock_tcp.specs.Draw.{draws}
use Rattle.sock_tcp.specs.Rfc.Checks.{checked, checked_in, verdict_by, verdict_then}
use Rattle.sock_tcp.specs.Rfc.Windows.{ack_heeded, brings, is_heeding, is_old_ack}
use Rattle.sock_tcp.specs.Verdict.{fin_place, verdict_at, verdict_of}
use Rattle.sock_tcp.specs.View.{View}
use Rattle.sock_tcp.specs.Window.{has_window}
use Rattle.sock_tcp.specs.declared.advance.Next.{Next}
use Rattle.sock_tcp.specs.declared.advance.Next.TheVariants as next
use Rattle.sock_tcp.specs.declared.rules.Rules.{Rules}
use Rattle.sock_tcp.specs.declared.rules.Rules.TheVariants as rules
use Rattle.sock_tcp.specs.declared.state.State.{State}
use Rattle.sock_tcp.specs.declared.state.State.TheVariants as state
use Rattle.sock_tcp.specs.declared.verdict.Verdict.{Verdict}
use Rattle.sock_tcp.specs.declared.verdict.Verdict.TheVariants as verdicts

-- in a state with a window a segment may be dropped or challenged; else the verdict is that on its acknowledgement
pub verdict_as : (Q : Verdict → Type 0) (r : Rules) (v : View) (now : Instant) (s : Segment) → (has_window v.state ≡ true → Q verdicts.Drop) → (has_window v.state ≡ true → Q verdicts.Challenge) → Q (verdict_of v s.control (ack_heeded r v s s.ack_number)) → Q (verdict_by r v now s)
unfolding checked
verdict_as Q rules.Smoltcp v now s drops challenges goes_on = goes_on
verdict_as Q rules.Rfc v now s drops challenges goes_on = by (has_window v.state) refl
  where
    next_as : has_window v.state ≡ true → (x : Next) → Q (verdict_then x v s)
    next_as w next.Stop = drops w
    next_as w next.Challenge = challenges w
    next_as w next.Continue = goes_on

    by : (b : Bool) → has_window v.state ≡ b → Q (verdict_then (if b then checked_in v.state s.control v now s else next.Continue) v s)
    by true w = next_as w (checked_in v.state s.control v now s)
    by false w = goes_on

-- only LISTEN draws a number, which has no window
windowed_draws : (st : State) (x : Verdict) (c : TcpControl) → has_window st ≡ true → draws x st c ≡ false
windowed_draws state.Listen x c w = absurd cc
windowed_draws _ verdicts.Pass c w = refl
windowed_draws _ _ c w = refl

pub passes_by : (r : Rules) (v : View) (now : Instant) (s : Segment) → verdict_by r v now s ≡ verdicts.Pass → verdict_of v s.control (ack_heeded r v s s.ack_number) ≡ verdicts.Pass
passes_by r v now s = verdict_as (λ x. x ≡ verdicts.Pass → verdict_of v s.control (ack_heeded r v s s.ack_number) ≡ verdicts.Pass) r v now s (λ w e. let no : verdicts.Drop ≡ verdicts.Pass = e in cc) (λ w e. let no : verdicts.Challenge ≡ verdicts.Pass = e in cc) (λ e. e)

-- in LISTEN and SYN-SENT no acknowledgement is ignored
pub not_heeding : (st : State) → has_window st ≡ false → is_heeding st ≡ false
not_heeding state.Listen e = refl
not_heeding state.SynSent e = refl
not_heeding _ e = absurd cc

pub none_heeded : (r : Rules) (v : View) (s : Segment) (ack : Option TcpSeqNumber) → is_heeding v.state ≡ false → ack_heeded r v s ack ≡ ack
none_heeded rules.Smoltcp v s ack e = refl
none_heeded rules.Rfc v s None e = refl
none_heeded rules.Rfc v s (Some ack) e = ap (λ b. Some (if b && (brings s.control (length s.payload) && is_old_ack v ack) then seq_add v.local_seq_no 0 else ack)) e

-- nor where an RST answers
never_reset : (a b : Bool) → (if a then verdicts.Drop else (if b then verdicts.Challenge else verdicts.Pass)) ≡ verdicts.Reset → ⊥
never_reset true b e = cc
never_reset false true e = cc
never_reset false false e = cc

opening_resets : (st : State) (c : TcpControl) (o : Option TcpSeqNumber) (una : TcpSeqNumber) (n : ℕ) → verdict_at st c o una n ≡ verdicts.Reset → is_heeding st ≡ false
unfolding verdict_at
opening_resets state.SynSent c o una n e = refl
opening_resets state.SynReceived c o una n e = refl
opening_resets state.Listen c o una n e = refl
opening_resets state.Closed c o una n e = refl
opening_resets _ control.Rst o una n e = absurd cc
opening_resets _ c None una n e = absurd cc
opening_resets st c (Some a) una n e = absurd (never_reset (is_before a una) (is_before (seq_add una (n + fin_place st)) a) e)

pub resets_unheeded : (r : Rules) (v : View) (now : Instant) (s : Segment) → verdict_by r v now s ≡ verdicts.Reset → ack_heeded r v s s.ack_number ≡ s.ack_number
resets_unheeded r v now s = verdict_as (λ x. x ≡ verdicts.Reset → ack_heeded r v s s.ack_number ≡ s.ack_number) r v now s (λ w e. let no : verdicts.Drop ≡ verdicts.Reset = e in cc) (λ w e. let no : verdicts.Challenge ≡ verdicts.Reset = e in cc) (λ e. none_heeded r v s s.ack_number (opening_resets v.state s.control (ack_heeded r v s s.ack_number) v.local_seq_no (length v.tx_buffer.bytes) e))

pub draws_by : (r : Rules) (v : View) (now : Instant) (s : Segment) → draws (verdict_of v s.control s.ack_number) v.state s.control ≡ draws (verdict_by r v now s) v.state s.control
draws_by r v now s = verdict_as (λ x. draws (verdict_of v s.control s.ack_number) v.state s.control ≡ draws x v.state s.control) r v now s (none verdicts.Drop) (none verdicts.Challenge) (by (has_window v.state) refl)
  where
    none : (x : Verdict) → has_window v.state ≡ true → draws (verdict_of v s.control s.ack_number) v.state s.control ≡ draws x v.state s.control
    none x w = windowed_draws v.state (verdict_of v s.control s.ack_number) s.control w ∙ sym (windowed_draws v.state x s.control w)

    by : (b : Bool) → has_window v.state ≡ b → draws (verdict_of v s.control s.ack_number) v.state s.control ≡ draws (verdict_of v s.control (ack_heeded r v s s.ack_number)) v.state s.control
    by true w = none (verdict_of v s.control (ack_heeded r v s s.ack_number)) w
    by false w = ap (λ o. draws (verdict_of v s.control o) v.state s.control) (sym (none_heeded r v s s.ack_number (not_heeding v.state w)))
