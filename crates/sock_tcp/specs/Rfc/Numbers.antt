-- The number of what is sent without bytes: by the RFCs' rules SND.MAX, the highest that was sent, where SND.NXT went
-- back (RFC 9293, sections 3.4 and 3.10.7.4).
use Rattle.std.specs.Prelude.{◌+◌, length, min, Option, Some, None, Bool, true, false, not, ◌==◌, ◌&&◌}
use Rattle.control_wire.specs.Segment.{Segment, is_empty_segment, segment_len}
use Rattle.control_wire.specs.Seq.{seq_add}
use Rattle.control_wire.specs.declared.seq_number.TcpSeqNumber.{TcpSeqNumber}
use Rattle.sock_tcp.specs.Content.{Sending}
use Rattle.sock_tcp.specs.Due.{is_closed}
use Rattle.sock_tcp.specs.Rfc.Recovery.{sent_of}
use Rattle.sock_tcp.specs.View.{View}
use Rattle.sock_tcp.specs.declared.rules.Rules.{Rules}
use Rattle.sock_tcp.specs.declared.rules.Rules.TheVariants as rules

-- SND.MAX, and at most one behind the transmit queue
abbrev pub highest_number : View → TcpSeqNumber
highest_number v = seq_add v.local_seq_no (min (sent_of v) (length v.tx_buffer.bytes + 1))

-- the number of a segment that has the number n otherwise
abbrev pub number_out_by : Bool → Rules → View → TcpSeqNumber → TcpSeqNumber
number_out_by false r v n = n
number_out_by true rules.Smoltcp v n = n
number_out_by true rules.Rfc v n = highest_number v

-- what a dispatch emits, where it takes no number
abbrev pub numbered : View → Segment → Segment
numbered v s = record s { seq_number = number_out_by (segment_len s == 0) v.rules v s.seq_number }

abbrev pub outgoing : View → Option Sending → Option Sending
outgoing v None = None
outgoing v (Some s) = Some (record s { segment = numbered v s.segment })

-- ---- what answers a segment

-- an acknowledgement, of a socket that is not closed
abbrev pub renumbered : View → Segment → Segment
renumbered v s =
    record s {
      seq_number = number_out_by (is_empty_segment s && not (is_closed v.state)) v.rules v s.seq_number;
    }

-- of a socket that the segment left so
abbrev pub reply_numbered : View → Option Segment → Option Segment
reply_numbered v None = None
reply_numbered v (Some s) = Some (renumbered v s)
