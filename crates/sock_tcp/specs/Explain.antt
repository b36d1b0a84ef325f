-- Which row of the tables of `process` a segment falls into that the socket accepts, read as these are: the verdict,
-- then the window test, then the control bit that counts, and then the bytes that the window takes.
use Rattle.std.specs.Prelude.{ℕ, List, length, codes, Option, Some, None, Bool, true, false, not, ◌==◌}
use Rattle.std.specs.Prelude.{◌&&◌, if◌then◌else◌}
use Rattle.net_base.specs.declared.time.Instant.{Instant}
use Rattle.control_wire.specs.Segment.{Segment}
use Rattle.control_wire.specs.declared.seq_number.TcpSeqNumber.{TcpSeqNumber}
use Rattle.control_wire.specs.declared.tcp.TcpControl.{TcpControl}
use Rattle.control_wire.specs.declared.tcp.TcpControl.TheVariants as control
use Rattle.sock_core.specs.Seq.{is_before}
use Rattle.sock_tcp.specs.Acked.{acked_of}
use Rattle.sock_tcp.specs.Advance.{counted_control}
use Rattle.sock_tcp.specs.Rfc.Checks.{acks_unsent, sent_end, stamp_checked, verdict_by}
use Rattle.sock_tcp.specs.Rfc.Refused.{is_heard_outside, is_next_fin}
use Rattle.sock_tcp.specs.Rfc.Windows.{windowed}
use Rattle.sock_tcp.specs.View.{View}
use Rattle.sock_tcp.specs.Window.{accepted_window, cut_bytes, cut_of, has_window, is_inside}
use Rattle.sock_tcp.specs.declared.acked.Acked.{Acked}
use Rattle.sock_tcp.specs.declared.advance.Next.{Next}
use Rattle.sock_tcp.specs.declared.advance.Next.TheVariants as next
use Rattle.sock_tcp.specs.declared.explain.Row.{Row}
use Rattle.sock_tcp.specs.declared.explain.Row.TheVariants as row
use Rattle.sock_tcp.specs.declared.rules.Rules.{Rules}
use Rattle.sock_tcp.specs.declared.rules.Rules.TheVariants as rules
use Rattle.sock_tcp.specs.declared.state.State.{State}
use Rattle.sock_tcp.specs.declared.state.State.TheVariants as state
use Rattle.sock_tcp.specs.declared.verdict.Verdict.{Verdict}
use Rattle.sock_tcp.specs.declared.verdict.Verdict.TheVariants as verdicts
use Rattle.sock_tcp.specs.declared.window.Cut.{Cut}
use Rattle.sock_tcp.specs.declared.window.Window.{Window}

-- ---- before the window test, by the verdict

abbrev pub dropped_row : State → TcpControl → Option TcpSeqNumber → Row
dropped_row state.SynSent control.Rst ack = row.ResetUnacceptable
dropped_row state.SynSent c ack = row.NoSyn
dropped_row state.TimeWait control.Rst ack = row.ResetInTimeWait
dropped_row st control.Rst ack = row.ResetOutside
dropped_row st c None = row.NoAck
dropped_row st c (Some ack) = row.OldAck

abbrev pub stamp_row : Next → Row
stamp_row next.Challenge = row.OldTimestamp
stamp_row _ = row.AckUnsent

abbrev pub unsent_row : View → Instant → Segment → Row
unsent_row v now s =
    if acks_unsent s.ack_number (sent_end v) then row.AckUnsent else stamp_row (stamp_checked v now s.timestamp)

abbrev pub challenged_row : Rules → State → TcpControl → View → Instant → Segment → Row
challenged_row rules.Smoltcp st c v now s = row.AckUnsent
challenged_row rules.Rfc st control.Rst v now s = row.ResetChallenged
challenged_row rules.Rfc state.SynReceived c v now s = row.OldTimestamp
challenged_row rules.Rfc st control.Syn v now s = row.SynChallenged
challenged_row rules.Rfc st c v now s = unsent_row v now s

-- ---- in LISTEN and SYN-SENT

abbrev pub opening_row : TcpControl → Row
opening_row control.Rst = row.Reset
opening_row control.Syn = row.Opens
opening_row _ = row.Ignored

-- ---- inside the window, by the control bit that counts

-- no second FIN counts
abbrev pub fin_row : State → Row
fin_row state.SynReceived = row.Fin
fin_row state.Established = row.Fin
fin_row state.FinWait1 = row.Fin
fin_row state.FinWait2 = row.Fin
fin_row _ = row.Ignored

-- n bytes, o past RCV.NXT
abbrev pub bytes_row : ℕ → ℕ → Row
bytes_row n o = if n == 0 then row.BareAck else (if o == 0 then row.InOrder else row.BehindGap)

-- by smoltcp's rules what acknowledges nothing new is challenged in LAST-ACK
abbrev pub no_news_by : Rules → Acked → Bool
no_news_by rules.Smoltcp k = not k.fin && k.len == 0
no_news_by rules.Rfc k = false

abbrev pub has_no_news : View → Segment → Bool
has_no_news v s = no_news_by v.rules (acked_of v s.control s.ack_number)

abbrev pub plain_row : Bool → State → ℕ → ℕ → Row
plain_row old state.Closed n o = row.Ignored
plain_row old state.TimeWait n o = row.Ignored
plain_row old state.LastAck n o = if old then row.NothingNew else bytes_row n o
plain_row old _ n o = bytes_row n o

abbrev pub counted_row : Bool → State → TcpControl → ℕ → ℕ → Row
counted_row old st control.Rst n o = row.Reset
counted_row old st control.Fin n o = fin_row st
counted_row old st control.None n o = plain_row old st n o
counted_row old st _ n o = row.Ignored

abbrev pub cut_row : Bool → State → TcpControl → Cut → List ℕ → Row
cut_row old st c cut bs = counted_row old st c (length (cut_bytes cut bs)) cut.offset

abbrev pub inside_row : Window → View → Segment → Row
inside_row w v s =
    cut_row (has_no_news v s) v.state (counted_control s.control w s.seq_number (length s.payload))
    (cut_of w s.seq_number (length s.payload)) s.payload

-- ---- outside of it

abbrev pub place_row : Window → TcpSeqNumber → Row
place_row w number = if is_before number w.start then row.OldDuplicate else row.BeyondWindow

-- an RST is not answered
abbrev pub answered_row : TcpControl → Window → TcpSeqNumber → Row
answered_row control.Rst w number = row.ResetOutside
answered_row _ w number = place_row w number

abbrev pub heard_row : Bool → Window → TcpSeqNumber → Row
heard_row true w number = row.HeardOutside
heard_row false w number = place_row w number

abbrev pub rfc_refused_row : Window → View → Segment → Row
rfc_refused_row w v s =
    if is_next_fin s.control w s.seq_number (length s.payload) then fin_row v.state
    else heard_row (is_heard_outside v s (acked_of v s.control s.ack_number)) w s.seq_number

abbrev pub refused_row : Rules → Window → View → Segment → Row
refused_row rules.Smoltcp w v s = answered_row s.control w s.seq_number
refused_row rules.Rfc w v s = rfc_refused_row w v s

-- ---- the row

abbrev pub tested_row : Rules → Window → Bool → View → Segment → Row
tested_row r w false v s = opening_row s.control
tested_row r w true v s =
    if is_inside w s.seq_number (length s.payload) then inside_row w v s else refused_row r w v s

abbrev pub verdict_row : Rules → Verdict → View → Instant → Segment → Row
verdict_row r verdicts.Drop v now s = dropped_row v.state s.control s.ack_number
verdict_row r verdicts.Reset v now s = row.AckUnacceptable
verdict_row r verdicts.Challenge v now s = challenged_row r v.state s.control v now s
verdict_row r verdicts.Pass v now s = tested_row r (accepted_window r v) (has_window v.state) v (windowed r v s)

abbrev pub row_by : Rules → View → Instant → Segment → Row
row_by r v now s = verdict_row r (verdict_by r v now s) v now s

-- by the socket's own rules
unfoldable pub row_of : View → Instant → Segment → Row
row_of v now s = row_by v.rules v now s

-- ---- its text

abbrev pub row_text : Row → List ℕ
row_text row.NotAccepted = codes "not for this socket"
row_text row.NoSyn = codes "no SYN while one is awaited"
row_text row.ResetUnacceptable = codes "RST without an acceptable ACK in SYN-SENT"
row_text row.ResetInTimeWait = codes "RST in TIME-WAIT"
row_text row.ResetOutside = codes "RST outside of the receive window"
row_text row.NoAck = codes "no ACK"
row_text row.OldAck = codes "ACK before SND.UNA"
row_text row.AckUnacceptable = codes "unacceptable ACK of the SYN"
row_text row.AckUnsent = codes "ACK of what was never sent"
row_text row.ResetChallenged = codes "RST in the receive window, but not at RCV.NXT"
row_text row.SynChallenged = codes "SYN in a synchronized state"
row_text row.OldTimestamp = codes "timestamp before TS.Recent"
row_text row.OldDuplicate = codes "before the receive window"
row_text row.BeyondWindow = codes "beyond the receive window"
row_text row.HeardOutside = codes "outside of the receive window, but its ACK is heard"
row_text row.Opens = codes "SYN that opens"
row_text row.Reset = codes "RST that counts"
row_text row.Ignored = codes "nothing that the state takes"
row_text row.Fin = codes "FIN that counts"
row_text row.InOrder = codes "bytes at RCV.NXT"
row_text row.BehindGap = codes "bytes behind a gap"
row_text row.NothingNew = codes "ACK of nothing new in LAST-ACK"
row_text row.BareAck = codes "ACK without bytes"
