-- Every window that was told is honored by the RFCs' rules (RFC 7323, section 2.4).
use Rattle.std.specs.Prelude.{ℕ, ◌≡◌, ◌+◌, ◌-◌, ◌*◌, ◌<◌, ◌≤◌, ◌^◌, ◌⊎◌, length, min, Some, true, false}
use Rattle.net_base.specs.Ring.{Ring}
use Rattle.control_wire.specs.Seq.{seq_add, seq_sub}
use Rattle.control_wire.specs.declared.seq_number.TcpSeqNumber.{TcpSeqNumber}
use Rattle.sock_core.specs.Received.{receiving}
use Rattle.sock_tcp.specs.Content.{aside_field}
use Rattle.sock_tcp.specs.Due.{window_field}
use Rattle.sock_tcp.specs.Queue.{queue_of}
use Rattle.sock_tcp.specs.Rfc.OwnWindow.{told_left}
use Rattle.sock_tcp.specs.View.{View, fresh}
use Rattle.sock_tcp.specs.Window.{accepted_window, next_ack, starts_inside}
use Rattle.sock_tcp.specs.declared.rules.Rules.TheVariants as rules
use Rattle.sock_tcp.specs.declared.window.Window.{Window}
use Rattle.tcp_laws.specs.SocketBytes.{begins}
use Rattle.tcp_laws.specs.SocketRun.{Counts, Run, Step, starting}

-- any list of calls of which none begins a connection
pub data Lasts : View → Counts → View → Counts → Type 0 where
  Stands : (v : View) (k : Counts) → Lasts v k v k
  GoesOn : (v u w : View) (k i j : Counts) → (s : Step v k u i) → begins v k u i s ≡ false
      → Lasts u i w j → Lasts v k w j

-- how many bytes a window takes
abbrev pub width : Window → ℕ
width w = seq_sub w.end w.start

-- The socket v has told its peer a window of n bytes from RCV.NXT on: it is what is left of the one that was told last;
-- or its segments tell it, a probe too, or a keep-alive does; or its SYN, whose window field is not shifted
abbrev pub HasTold : View → ℕ → Type 0
HasTold v n =
    (n ≡ told_left v) ⊎ (n ≡ window_field v * 2 ^ v.remote_win_shift)
    ⊎ (n ≡ aside_field v.rules v (window_field v) * 2 ^ v.remote_win_shift)
    ⊎ (n ≡ min (length v.rx_buffer.held) 65535)

-- A right edge, by its place in the peer's stream, does not lie behind that of the window in which the socket w takes a
-- segment, with RCV.NXT behind the bytes that have joined; and each place from RCV.NXT on, and before that edge, lies
-- inside
pub record Honors (edge : ℕ) (w : View) (j : Counts) : Type 0 where
  pub reaches : edge ≤ length j.joined + width (accepted_window w.rules w)
  pub inside : (place : ℕ) → length j.joined ≤ place → place < edge
      → starts_inside (accepted_window w.rules w) (seq_add (next_ack w) (place - length j.joined)) ≡ true

-- The socket v after any list of calls on a new one, and w after more of them on the same connection, which has told a
-- window, by the RFCs' rules: it honors each window that v had told
abbrev pub ToldWindowsAreHonored : Type 0
ToldWindowsAreHonored = (rx tx : Ring ℕ) (v w : View) (k j : Counts) (n : ℕ) (ack : TcpSeqNumber)
    → length rx.queue + length rx.spare ≤ 2 ^ 30
    → Run (fresh (receiving rx) (queue_of tx)) (starting (fresh (receiving rx) (queue_of tx))) v k
    → HasTold v n
    → Lasts v k w j
    → w.rules ≡ rules.Rfc
    → w.remote_last_ack ≡ Some ack
    → Honors (length k.joined + n) w j
