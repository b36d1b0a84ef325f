-- The receive window.
use Rattle.std.specs.Prelude.{ℕ, ◌*◌, ◌^◌, List, length, take, drop, Option, Some, None, Bool, true, false, ◌==◌}
use Rattle.std.specs.Prelude.{◌&&◌, ◌||◌, if◌then◌else◌}
use Rattle.control_wire.specs.Seq.{seq_add, seq_sub, seq_minus, seq_eq}
use Rattle.control_wire.specs.declared.seq_number.TcpSeqNumber.{TcpSeqNumber}
use Rattle.sock_core.specs.Seq.{is_before, is_not_after, later_of}
use Rattle.sock_tcp.specs.declared.rules.Rules.{Rules}
use Rattle.sock_tcp.specs.declared.rules.Rules.TheVariants as rules
use Rattle.sock_tcp.specs.declared.state.State.{State}
use Rattle.sock_tcp.specs.declared.state.State.TheVariants as state
use Rattle.sock_tcp.specs.declared.window.Cut.{Cut}
use Rattle.sock_tcp.specs.declared.window.Window.{Window}
use Rattle.sock_tcp.specs.View.{View}

-- LISTEN and SYN-SENT have no receive window, and take no bytes
abbrev pub has_window : State → Bool
has_window state.Listen = false
has_window state.SynSent = false
has_window _ = true

-- RCV.NXT, the left edge of the window
abbrev pub next_ack : View → TcpSeqNumber
next_ack v = seq_add v.remote_seq_no (length v.rx_buffer.bytes)

-- an edge, kept from start to limit
abbrev pub kept_between : TcpSeqNumber → TcpSeqNumber → TcpSeqNumber → TcpSeqNumber
kept_between start limit edge = if is_before edge start then start else (if is_before limit edge then limit else edge)

-- the right edge: the last acknowledgement sent plus the last window sent, but neither before the left edge nor past
-- the free space
abbrev pub window_end : View → Option TcpSeqNumber → TcpSeqNumber
window_end v None = next_ack v
window_end v (Some ack) =
    kept_between (next_ack v) (seq_add (next_ack v) (length v.rx_buffer.held))
    (seq_add ack (v.remote_last_win * 2 ^ v.remote_win_shift))

unfoldable pub receive_window : View → Window
receive_window v = record { start = next_ack v; end = window_end v v.remote_last_ack }

-- ---- the window in which a segment is taken

-- the end of the free space, once a window was told: no edge that was told lies behind it
abbrev pub space_end : View → Option TcpSeqNumber → TcpSeqNumber
space_end v None = next_ack v
space_end v (Some ack) = seq_add (next_ack v) (length v.rx_buffer.held)

-- whatever was told once is honored (RFC 7323, section 2.4), also where the right edge has gone back since
unfoldable pub honored_window : View → Window
honored_window v = record { start = next_ack v; end = space_end v v.remote_last_ack }

-- by smoltcp's rules a segment is taken in the window that was told last
abbrev pub accepted_window : Rules → View → Window
accepted_window rules.Smoltcp v = receive_window v
accepted_window rules.Rfc v = honored_window v

-- ---- the window test

-- a number lies from the left edge on, and before the right one
abbrev pub starts_inside : Window → TcpSeqNumber → Bool
starts_inside w number = is_not_after w.start number && is_before number w.end

-- a segment without bytes, at this number
abbrev pub empty_inside : Window → TcpSeqNumber → Bool
empty_inside w number =
    if seq_eq number (seq_minus w.start 1) then false
    else (if seq_eq w.start w.end then seq_eq number w.start else starts_inside w number)

-- a segment with bytes, from this number up to the end behind its last
abbrev pub full_inside : Window → TcpSeqNumber → TcpSeqNumber → Bool
full_inside w number end =
    if seq_eq w.start w.end then false
    else (starts_inside w number || (is_before w.start end && is_not_after end w.end))

-- a segment of n bytes
unfoldable pub is_inside : Window → TcpSeqNumber → ℕ → Bool
is_inside w number n = if n == 0 then empty_inside w number else full_inside w number (seq_add number n)

-- ---- the cut of a segment to the window

-- the sooner of the segment's end and the right edge
abbrev pub cut_end : Window → TcpSeqNumber → TcpSeqNumber
cut_end w end = if is_before end w.end then end else w.end

-- from the later of the left edge and the segment's number up to there
unfoldable pub cut_of : Window → TcpSeqNumber → ℕ → Cut
cut_of w number n =
    record {
      skip = seq_sub (later_of w.start number) number;
      count = seq_sub (cut_end w (seq_add number n)) (later_of w.start number);
      offset = seq_sub (later_of w.start number) w.start;
    }

-- the part of a payload that a cut names
abbrev pub cut_bytes : Cut → List ℕ → List ℕ
cut_bytes cut bs = take cut.count (drop cut.skip bs)
