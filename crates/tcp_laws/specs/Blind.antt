-- What a segment of one who does not know the numbers of a connection does by the RFCs' rules: nothing but an answer.
use Rattle.std.specs.Prelude.{ℕ, ◌≡◌, Some, true, false}
use Rattle.ip_wire.specs.declared.repr.IpRepr.{IpRepr}
use Rattle.net_base.specs.declared.time.Instant.{Instant}
use Rattle.control_wire.specs.Segment.{Segment}
use Rattle.control_wire.specs.declared.tcp.TcpControl.TheVariants as control
use Rattle.control_wire.specs.declared.tcp.TcpTimestampRepr.{TcpTimestampRepr}
use Rattle.sock_tcp.specs.Process.{processed}
use Rattle.sock_tcp.specs.Rfc.Checks.{acks_unsent, is_forgotten, is_older, sent_end}
use Rattle.sock_tcp.specs.View.{View}
use Rattle.sock_tcp.specs.Window.{has_window, next_ack}
use Rattle.sock_tcp.specs.declared.rules.Rules.TheVariants as rules
use Rattle.sock_tcp.specs.declared.state.State.TheVariants as state

-- It is an RST whose number is not RCV.NXT, or any in TIME-WAIT; a SYN, once the own one is acknowledged; no RST, and
-- acknowledges what was never sent; or, where timestamps were agreed, no RST, and has one that lies before the last
pub data IsBlind (v : View) (now : Instant) (s : Segment) : Type 0 where
  Reset : s.control ≡ control.Rst → (s.seq_number ≡ next_ack v → ⊥) → IsBlind v now s
  LateReset : s.control ≡ control.Rst → v.state ≡ state.TimeWait → IsBlind v now s
  Synchronizes : s.control ≡ control.Syn → (v.state ≡ state.SynReceived → ⊥) → IsBlind v now s
  Unsent : (s.control ≡ control.Rst → ⊥) → (v.state ≡ state.SynReceived → ⊥)
      → acks_unsent s.ack_number (sent_end v) ≡ true → IsBlind v now s
  Older : (s.control ≡ control.Rst → ⊥) → v.stamps ≡ true → (t : TcpTimestampRepr) → s.timestamp ≡ Some t
      → is_older t.tsval v.last_remote_tsval ≡ true → is_forgotten v.remote_last_ts now ≡ false → IsBlind v now s

-- nothing changes but what an acknowledgement that goes out changes
abbrev pub OnlyAnswered : View → View → Type 0
OnlyAnswered v w =
    w ≡ record v {
      challenge_ack_timer = w.challenge_ack_timer;
      remote_last_ack = w.remote_last_ack;
      remote_last_win = w.remote_last_win;
    }

abbrev pub BlindSegmentsChangeNothing : Type 0
BlindSegmentsChangeNothing = (v : View) (now : Instant) (word : ℕ) (ip : IpRepr) (s : Segment)
    → v.rules ≡ rules.Rfc
    → has_window v.state ≡ true
    → IsBlind v now s
    → OnlyAnswered v (processed v now word ip s).view
