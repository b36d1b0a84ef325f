-- Which segment tells the peer's window (RFC 9293, section 3.10.7.4).
use Rattle.std.specs.Prelude.{ℕ, ◌-◌, ◌/◌, ◌^◌, length, min, nat_le, Option, Some, None, Bool, true, false, not}
use Rattle.std.specs.Prelude.{◌==◌, ◌&&◌, ◌||◌}
use Rattle.std.specs.Prelude.{if◌then◌else◌}
use Rattle.control_wire.specs.Seq.{seq_add, seq_eq, seq_sub}
use Rattle.control_wire.specs.Segment.{Segment}
use Rattle.control_wire.specs.declared.seq_number.TcpSeqNumber.{TcpSeqNumber}
use Rattle.control_wire.specs.declared.tcp.TcpControl.{TcpControl}
use Rattle.control_wire.specs.declared.tcp.TcpControl.TheVariants as control
use Rattle.sock_core.specs.Seq.{is_before}
use Rattle.sock_tcp.specs.Acked.{acked_of}
use Rattle.sock_tcp.specs.Scale.{scale_of}
use Rattle.sock_tcp.specs.View.{View}
use Rattle.sock_tcp.specs.declared.rules.Rules.{Rules}
use Rattle.sock_tcp.specs.declared.rules.Rules.TheVariants as rules
use Rattle.sock_tcp.specs.declared.state.State.{State}
use Rattle.sock_tcp.specs.declared.state.State.TheVariants as state

-- ---- SND.WL1 and SND.WL2

abbrev pub acks_before : Option TcpSeqNumber → TcpSeqNumber → Bool
acks_before None wl2 = false
acks_before (Some ack) wl2 = is_before ack wl2

-- the segment is no older than the one that told the window last: a SYN, which opens; or its number lies after SND.WL1,
-- or is that, and what it acknowledges not before SND.WL2
abbrev pub is_newer_by : TcpControl → TcpSeqNumber → TcpSeqNumber → TcpSeqNumber → Option TcpSeqNumber → Bool
is_newer_by control.Syn wl1 wl2 number ack = true
is_newer_by _ wl1 wl2 number ack =
    is_before wl1 number || (seq_eq wl1 number && not (acks_before ack wl2))

abbrev pub is_newer : TcpSeqNumber → TcpSeqNumber → Segment → Bool
is_newer wl1 wl2 s = is_newer_by s.control wl1 wl2 s.seq_number s.ack_number

abbrev pub acked_or : TcpSeqNumber → Option TcpSeqNumber → TcpSeqNumber
acked_or wl2 None = wl2
acked_or wl2 (Some ack) = ack

-- of a segment that is heard
abbrev pub wl1_by : Rules → TcpSeqNumber → TcpSeqNumber → Segment → TcpSeqNumber
wl1_by rules.Smoltcp wl1 wl2 s = wl1
wl1_by rules.Rfc wl1 wl2 s = if is_newer wl1 wl2 s then s.seq_number else wl1

abbrev pub wl2_by : Rules → TcpSeqNumber → TcpSeqNumber → Segment → TcpSeqNumber
wl2_by rules.Smoltcp wl1 wl2 s = wl2
wl2_by rules.Rfc wl1 wl2 s = if is_newer wl1 wl2 s then acked_or wl2 s.ack_number else wl2

-- ---- the acknowledgement that a segment counts as having

-- the own SYN is acknowledged
abbrev pub is_heeding : State → Bool
is_heeding state.Established = true
is_heeding state.FinWait1 = true
is_heeding state.FinWait2 = true
is_heeding state.CloseWait = true
is_heeding state.Closing = true
is_heeding state.LastAck = true
is_heeding state.TimeWait = true
is_heeding _ = false

-- bytes or a FIN
abbrev pub brings : TcpControl → ℕ → Bool
brings control.None n = not (n == 0)
brings control.Psh n = not (n == 0)
brings control.Fin n = true
brings _ n = false

-- before SND.UNA, by no more than the largest window that was told (RFC 5961, section 5.2)
abbrev pub is_old_ack : View → TcpSeqNumber → Bool
is_old_ack v ack = is_before ack v.local_seq_no && nat_le (seq_sub v.local_seq_no ack) v.largest_window

-- such an acknowledgement is ignored, and what comes with it is taken as if it were SND.UNA, a number of 32 bits
abbrev pub is_heeded : View → Segment → TcpSeqNumber → Bool
is_heeded v s ack = is_heeding v.state && (brings s.control (length s.payload) && is_old_ack v ack)

abbrev pub ack_heeded : Rules → View → Segment → Option TcpSeqNumber → Option TcpSeqNumber
ack_heeded rules.Smoltcp v s ack = ack
ack_heeded rules.Rfc v s None = None
ack_heeded rules.Rfc v s (Some ack) = Some (if is_heeded v s ack then seq_add v.local_seq_no 0 else ack)

abbrev pub is_ignored : View → Segment → Option TcpSeqNumber → Bool
is_ignored v s None = false
is_ignored v s (Some ack) = is_heeded v s ack

-- ---- the window that a segment counts as telling

-- an older one tells what is left of the window, up to the same right edge, as a field has it
abbrev pub field_kept : View → Segment → ℕ
field_kept v s =
    min
    ((v.remote_win_len - (acked_of v s.control (ack_heeded rules.Rfc v s s.ack_number)).len)
    / 2 ^ scale_of v.remote_win_scale) 65535

-- so does one whose acknowledgement is ignored
abbrev pub tells_window : View → Segment → Bool
tells_window v s = is_newer v.snd_wl1 v.snd_wl2 s && not (is_ignored v s s.ack_number)

abbrev pub told_by : Rules → View → Segment → ℕ
told_by rules.Smoltcp v s = s.window_len
told_by rules.Rfc v s = if tells_window v s then s.window_len else field_kept v s

abbrev pub windowed : Rules → View → Segment → Segment
windowed r v s = record s { window_len = told_by r v s; ack_number = ack_heeded r v s s.ack_number }
