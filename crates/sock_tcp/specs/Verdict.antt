-- What a segment's acknowledgement says: it passes, is dropped, or is answered by an RST or a challenge ACK.
use Rattle.std.specs.Prelude.{ℕ, ◌+◌, length, Option, Some, None, Bool, if◌then◌else◌}
use Rattle.control_wire.specs.Seq.{seq_add, seq_eq}
use Rattle.sock_core.specs.Seq.{is_before}
use Rattle.control_wire.specs.declared.seq_number.TcpSeqNumber.{TcpSeqNumber}
use Rattle.control_wire.specs.declared.tcp.TcpControl.{TcpControl}
use Rattle.control_wire.specs.declared.tcp.TcpControl.TheVariants as control
use Rattle.sock_tcp.specs.declared.state.State.{State}
use Rattle.sock_tcp.specs.declared.state.State.TheVariants as state
use Rattle.sock_tcp.specs.declared.verdict.Verdict.{Verdict}
use Rattle.sock_tcp.specs.declared.verdict.Verdict.TheVariants as verdicts
use Rattle.sock_tcp.specs.View.{View}

-- 1 where a FIN of our own stands behind the transmit queue
abbrev pub fin_place : State → ℕ
fin_place state.FinWait1 = 1
fin_place state.Closing = 1
fin_place state.LastAck = 1
fin_place _ = 0

-- in LISTEN and in states whose SYN is acknowledged: before SND.UNA, behind all that was given to the socket, or
-- between
abbrev pub open_verdict : State → TcpSeqNumber → TcpSeqNumber → ℕ → Verdict
open_verdict st ack una n =
    if is_before ack una then verdicts.Drop
    else (if is_before (seq_add una (n + fin_place st)) ack then verdicts.Challenge else verdicts.Pass)

-- the acknowledgement of a SYN alone
abbrev pub is_next : TcpSeqNumber → TcpSeqNumber → Bool
is_next ack una = seq_eq ack (seq_add una 1)

-- the verdict, where SND.UNA is una and n bytes wait in the transmit queue; the first row that fits
unfoldable pub verdict_at : State → TcpControl → Option TcpSeqNumber → TcpSeqNumber → ℕ → Verdict
verdict_at state.SynSent control.Rst None una n = verdicts.Drop
verdict_at state.SynSent control.Rst (Some ack) una n = if is_next ack una then verdicts.Pass else verdicts.Drop
verdict_at _ control.Rst ack una n = verdicts.Pass
verdict_at state.Listen c None una n = verdicts.Pass
verdict_at state.Listen c (Some ack) una n = open_verdict state.Listen ack una n
verdict_at state.SynSent control.Syn None una n = verdicts.Pass
verdict_at state.SynSent control.Syn (Some ack) una n = if is_next ack una then verdicts.Pass else verdicts.Reset
verdict_at state.SynSent control.None None una n = verdicts.Drop
verdict_at state.SynSent control.None (Some ack) una n = if is_next ack una then verdicts.Drop else verdicts.Reset
verdict_at state.SynSent c ack una n = verdicts.Drop
verdict_at st c None una n = verdicts.Drop
verdict_at state.SynReceived c (Some ack) una n = if is_next ack una then verdicts.Pass else verdicts.Reset
verdict_at st c (Some ack) una n = open_verdict st ack una n

-- the verdict on a segment, which reads the state, SND.UNA and the transmit queue alone
abbrev pub verdict_of : View → TcpControl → Option TcpSeqNumber → Verdict
verdict_of v c ack = verdict_at v.state c ack v.local_seq_no (length v.tx_buffer.bytes)
