-- A close that waited: whatever it leaves alone.
use Rattle.std.proofs.Common.{◌≡◌, Bool, true, false, refl, sym, ◌∙◌, ap, Some}
use Rattle.std.specs.Prelude.{if◌then◌else◌}
use Rattle.control_wire.specs.Segment.{Segment}
use Rattle.sock_tcp.specs.Closing.{closed_from, closed_late, late_from}
use Rattle.sock_tcp.specs.Due.{window_field}
use Rattle.sock_tcp.specs.Process.{Outcome, answered, closed_then}
use Rattle.sock_tcp.specs.Replies.{ack_kept, ack_segment, sack_ranges}
use Rattle.sock_tcp.specs.View.{View}
use Rattle.sock_tcp.specs.declared.process.Answer.{Answer}
use Rattle.sock_tcp.specs.declared.process.Answer.TheVariants as answers
use Rattle.sock_tcp.specs.declared.rules.Rules.{Rules}
use Rattle.sock_tcp.specs.declared.rules.Rules.TheVariants as rules
use Rattle.sock_tcp.specs.declared.state.State.{State}
use Rattle.sock_tcp.specs.declared.state.State.TheVariants as state
use Rattle.sock_tcp.proofs.OwnWindow.{field_is}

-- an answer is the same before and after it
module _ (u : View) (s : Segment) where
  same_field : window_field (closed_late u) ≡ window_field u
  same_field = field_is (closed_late u) ∙ sym (field_is u)

  kept_view : ack_kept (closed_late u) ≡ closed_late (ack_kept u)
  unfolding ack_kept
  kept_view = λ i. record (closed_late (ack_kept u)) { remote_last_win = same_field i }

  kept_reply : ack_segment (closed_late u) s ≡ ack_segment u s
  unfolding ack_segment sack_ranges
  kept_reply = λ i. record (ack_segment u s) { window_len = same_field i }

  said : (x : Answer) → answered x (closed_late u) s ≡ closed_then rules.Rfc (answered x u s)
  unfolding ack_kept
  said answers.Nothing = refl
  said answers.Ack = λ i. record { view = kept_view i; reply = Some (kept_reply i) }
  said answers.Rst = refl

pub said_late : (x : Answer) (u w : View) (s : Segment) (o : Outcome) → answered x u s ≡ o → w ≡ closed_late u → answered x w s ≡ closed_then rules.Rfc o
said_late x u w s o e h = ap (λ y. answered x y s) h ∙ said u s x ∙ ap (closed_then rules.Rfc) e

-- what holds of a state, and of it closed
pub late_as : (Q : State → Type 0) (b : Bool) (st : State) → Q st → Q (closed_from st) → Q (if b then late_from st else st)
late_as Q true state.SynReceived h k = h
late_as Q true state.Closed h k = k
late_as Q true state.Listen h k = k
late_as Q true state.SynSent h k = k
late_as Q true state.Established h k = k
late_as Q true state.FinWait1 h k = k
late_as Q true state.FinWait2 h k = k
late_as Q true state.CloseWait h k = k
late_as Q true state.Closing h k = k
late_as Q true state.LastAck h k = k
late_as Q true state.TimeWait h k = k
late_as Q false st h k = h

-- what holds of an outcome, and of one whose socket is closed as well
pub closed_as : (Q : Outcome → Type 0) (r : Rules) (o : Outcome) → Q o → Q (record { view = record o.view { state = closed_from o.view.state }; reply = o.reply }) → Q (closed_then r o)
closed_as Q rules.Smoltcp o h k = h
closed_as Q rules.Rfc o h k = late_as (λ st. Q (record { view = record o.view { state = st }; reply = o.reply })) o.view.close_waits o.view.state h k

-- and of what the call leaves
pub called_as : (Q : State → Type 0) (b : Bool) (st : State) → Q st → Q (closed_from st) → Q (if b then st else closed_from st)
called_as Q true st h k = h
called_as Q false st h k = k
