-- The timestamp of an answer.
use Rattle.std.specs.Prelude.{ℕ, Option, Some, None, if◌then◌else◌}
use Rattle.control_wire.specs.Segment.{Segment}
use Rattle.control_wire.specs.declared.tcp.TcpTimestampRepr.{TcpTimestampRepr}
use Rattle.sock_tcp.specs.Replies.{IsReplyStamp, echoed}
use Rattle.sock_tcp.specs.View.{View}

-- a source of timestamps, where the socket's segments carry one: it may tell any
abbrev pub any_source : View → Option (Unit {0})
any_source w = if w.stamps then Some tt else None

abbrev pub any_told : Unit {0} → ℕ → Type 0
any_told u n = Unit {0}

-- the answer of w goes out with one where there is a value to echo
abbrev pub IsAnswerStamp : View → Segment → Segment → Option TcpTimestampRepr → Type 0
IsAnswerStamp w came answer stamp = IsReplyStamp any_told (any_source w) (echoed w came.timestamp) answer.control
    stamp

abbrev pub stamped : Segment → Option TcpTimestampRepr → Segment
stamped answer stamp = record answer { timestamp = stamp }
