-- A segment that was heard outside of the window: what the state table answered, and what is answered then.
use Rattle.std.proofs.Common.{◌≡◌, ◌∙◌, Bool, true, false, true≢false, ◌&&◌, [], length, Option, Some, None, refl, sym, ap, subst}
use Rattle.std.specs.Prelude.{if◌then◌else◌}
use Rattle.control_wire.specs.Segment.{Segment}
use Rattle.control_wire.specs.declared.tcp.TcpControl.{TcpControl}
use Rattle.control_wire.specs.declared.tcp.TcpControl.TheVariants as control
use Rattle.sock_tcp.specs.Arrival.{Arrival}
use Rattle.sock_tcp.specs.Process.{Outcome, ack_sent, acked_by, outside, processed_inside, rst_sent, stopped}
use Rattle.sock_tcp.specs.Rfc.Refused.{answered_if_not, answered_outside, has_ended, is_fin, is_heard_outside, is_next_fin, is_plain_control, refused, rfc_refused, then_answered}
use Rattle.sock_tcp.specs.View.{View}
use Rattle.sock_tcp.specs.Window.{honored_window}
use Rattle.sock_tcp.specs.declared.rules.Rules.{Rules}
use Rattle.sock_tcp.specs.declared.rules.Rules.TheVariants as rules

pub nothing_said : (o p : Outcome) (w : View) (a : Arrival) → stopped w ≡ o → p ≡ answered_outside w a → p ≡ then_answered o a
nothing_said o p w a e h = subst (λ x. p ≡ then_answered x a) e h

pub acknowledged : (o : Outcome) (w : View) (s : Segment) (a : Arrival) → ack_sent w s ≡ o → ack_sent w s ≡ then_answered o a
acknowledged o w s a e = subst (λ x. ack_sent w s ≡ then_answered x a) e refl

pub reset : (o : Outcome) (w : View) (s : Segment) (a : Arrival) → rst_sent w s ≡ o → rst_sent w s ≡ then_answered o a
reset o w s a e = subst (λ x. rst_sent w s ≡ then_answered x a) e refl

pub ruleset then_said = (acknowledged, reset)

-- ---- what a segment outside of the window may do, by either rules

-- what the state table makes of an acknowledgement alone
abbrev pub heard_alone : View → Arrival → Outcome
heard_alone v a = processed_inside v a control.None 0 []

abbrev pub counts_fin : View → Arrival → Bool
counts_fin v a = is_next_fin a.segment.control (honored_window v) a.segment.seq_number (length a.segment.payload)

-- it is answered; its FIN is taken; its acknowledgement is heard, and perhaps answered by the table; or else answered then
pub record Refuses (Q : Outcome → Type 0) (v : View) (a : Arrival) : Type 0 where
  pub answers : Q (outside v a.now a.segment)
  pub counts : counts_fin v a ≡ true → Q (processed_inside v a control.Fin 0 [])
  pub hears : is_plain_control a.segment.control ≡ true → Q (heard_alone v a)
  pub ends : is_plain_control a.segment.control ≡ true → Q (stopped (heard_alone v a).view)
  pub goes_on : is_plain_control a.segment.control ≡ true → Q (outside (heard_alone v a).view a.now a.segment)

first_holds : (a b : Bool) → (a && b) ≡ true → a ≡ true
first_holds true b e = refl
first_holds false b e = e

pub refused_as : (Q : Outcome → Type 0) (r : Rules) (v : View) (a : Arrival) → Refuses Q v a → Q (refused r v a)
unfolding rfc_refused
refused_as Q rules.Smoltcp v a k = k.answers
refused_as Q rules.Rfc v a k = by (counts_fin v a) refl (is_heard_outside v a.segment (acked_by v a)) refl
  where
    ended_or_not : is_plain_control a.segment.control ≡ true → (b : Bool) → Q (if b then stopped (heard_alone v a).view else outside (heard_alone v a).view a.now a.segment)
    ended_or_not e true = k.ends e
    ended_or_not e false = k.goes_on e

    or_answered : is_plain_control a.segment.control ≡ true → (r : Option Segment) → Q (answered_if_not r (heard_alone v a) a)
    or_answered e (Some x) = k.hears e
    or_answered e None = ended_or_not e (has_ended (heard_alone v a).view.state)

    by : (fin : Bool) → counts_fin v a ≡ fin → (heard : Bool) → is_heard_outside v a.segment (acked_by v a) ≡ heard → Q (if fin then processed_inside v a control.Fin 0 [] else (if heard then then_answered (heard_alone v a) a else outside v a.now a.segment))
    by true e heard h = k.counts e
    by false e true h = or_answered (first_holds (is_plain_control a.segment.control) _ h) (heard_alone v a).reply
    by false e false h = k.answers

-- a FIN that counts is no RST, and neither is a segment that is heard
pub fin_is_plain : (v : View) (a : Arrival) → counts_fin v a ≡ true → is_plain_control a.segment.control ≡ true
fin_is_plain v a e = by a.segment.control (first_holds (is_fin a.segment.control) _ e)
  where
    by : (c : TcpControl) → is_fin c ≡ true → is_plain_control c ≡ true
    by control.Fin e = refl
    by control.None e = absurd (true≢false (sym e))
    by control.Psh e = absurd (true≢false (sym e))
    by control.Syn e = absurd (true≢false (sym e))
    by control.Rst e = absurd (true≢false (sym e))

pub plain_is_no_rst : (c : TcpControl) → is_plain_control c ≡ true → c ≡ control.Rst → ⊥
plain_is_no_rst c e r = true≢false (sym e ∙ ap is_plain_control r)
