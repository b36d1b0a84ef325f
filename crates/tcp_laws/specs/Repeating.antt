-- When a dispatch that sent nothing but an acknowledgement wants another one at the same moment.
use Rattle.std.specs.Prelude.{ℕ, ◌≡◌, ◌⊎◌, List, Option, Some, true}
use Rattle.net_base.specs.declared.time.Duration.{Duration}
use Rattle.net_base.specs.declared.time.Instant.{Instant}
use Rattle.control_wire.specs.Segment.{segment_len}
use Rattle.sock_core.specs.Facts.{Facts, IsLawful}
use Rattle.sock_tcp.specs.Begin.{before_emit, going_on}
use Rattle.sock_tcp.specs.Content.{Sending, asked, content, is_probing, offset_of}
use Rattle.sock_tcp.specs.Due.{ack_due, window_doubled}
use Rattle.sock_tcp.specs.Poll.{poll_moment}
use Rattle.sock_tcp.specs.Polls.{is_reached}
use Rattle.sock_tcp.specs.Queue.{IsLent}
use Rattle.sock_tcp.specs.Sent.{left_by}
use Rattle.sock_tcp.specs.Timers.{is_close_over, is_probe_over}
use Rattle.sock_tcp.specs.View.{View, moment_of}
use Rattle.sock_tcp.specs.declared.emission.Kind.{Kind}
use Rattle.sock_tcp.specs.declared.emission.Kind.TheVariants as kind
use Rattle.sock_tcp.specs.declared.state.State.TheVariants as state
use Rattle.sock_tcp.specs.declared.tuple.Tuple.{Tuple}
use Rattle.tcp_laws.specs.Polling.{IsReached}

-- the dispatch of v sent this, its emit answered Ok, and it left w; u is the socket just before the emit
pub record Emitted (f : Facts) (v u : View) (out : Sending) (w : View) : Type 0 where
  pub stamp : Option ℕ
  pub peer : Tuple
  pub begins : before_emit v f ≡ going_on u
  pub to : u.tuple ≡ Some peer
  pub bytes : List ℕ
  pub lent : IsLent u.tx_buffer (offset_of u) (asked u peer f) bytes
  pub sends : content u peer f stamp bytes ≡ Some out
  pub view : w ≡ left_by (Some out) u (moment_of f) true

-- no sequence number is taken, or it is a keep-alive
abbrev pub IsAckAlone : Sending → Type 0
IsAckAlone s = ((s.kind ≡ kind.Plain) × (segment_len s.segment ≡ 0)) ⊎ (s.kind ≡ kind.KeepAlive)

-- why the next dispatch has something to do at once, the first two again and again
pub data WantsAnother (w : View) (k : Kind) (now : Instant) : Type 0 where
  ProbeLeft : w.state ≡ state.FinWait2 → is_probe_over w.timer now ≡ true → WantsAnother w k now
  NoInterval : (d : Duration) → w.keep_alive ≡ Some d → d.micros ≡ 0 → WantsAnother w k now
  ProbeDue : is_probing w now ≡ true → WantsAnother w k now
  WaitOver : is_close_over w.timer now ≡ true → WantsAnother w k now
  AckOwed : k ≡ kind.KeepAlive → (ack_due w ≡ true) ⊎ (window_doubled w ≡ true) → WantsAnother w k now

abbrev pub AcksRepeatOnlySo : Type 0
AcksRepeatOnlySo = (v u w : View) (f : Facts) (out : Sending)
    → IsReached v
    → IsLawful f
    → (h : Emitted f v u out w)
    → IsAckAlone out
    → is_reached (poll_moment w f) (moment_of f) ≡ true
    → WantsAnother w out.kind (moment_of f)
