-- An answer has a timestamp where it is to have one.
use Rattle.std.proofs.Common.{ℕ, Bool, true, false, refl, Option, Some, None}
use Rattle.std.specs.Prelude.{if◌then◌else◌}
use Rattle.control_wire.specs.Segment.{Segment}
use Rattle.control_wire.specs.declared.tcp.TcpControl.TheVariants as control
use Rattle.control_wire.specs.declared.tcp.TcpTimestampRepr.{TcpTimestampRepr}
use Rattle.sock_tcp.specs.Replies.{IsReplyStamp, ack_segment, echoed}
use Rattle.sock_tcp.specs.View.{View}
use Rattle.progress_laws.specs.Stamped.{IsAnswerStamp, any_told, stamped}

abbrev stamp_by : Bool → Option ℕ → Option TcpTimestampRepr
stamp_by b None = None
stamp_by b (Some echo) = if b then Some (record { tsval = 0; tsecr = echo }) else None

abbrev source_by : Bool → Option (Unit {0})
source_by b = if b then Some tt else None

is_stamp_by : (b : Bool) (echo : Option ℕ) → IsReplyStamp any_told (source_by b) echo control.None (stamp_by b echo)
is_stamp_by true (Some echo) = (tt, refl)
is_stamp_by true None = refl
is_stamp_by false (Some echo) = refl
is_stamp_by false None = refl

-- a timestamp of the answer of w to what came
abbrev pub answer_stamp : View → Segment → Option TcpTimestampRepr
answer_stamp w came = stamp_by w.stamps (echoed w came.timestamp)

-- an acknowledgement of v, which goes out of w
abbrev pub stamped_ack : View → View → Segment → Segment
stamped_ack v w came = stamped (ack_segment v came) (answer_stamp w came)

pub ack_stamped : (v w : View) (came : Segment) → IsAnswerStamp w came (ack_segment v came) (answer_stamp w came)
unfolding ack_segment
ack_stamped v w came = is_stamp_by w.stamps (echoed w came.timestamp)
