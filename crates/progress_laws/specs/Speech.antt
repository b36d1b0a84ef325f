-- What a socket says of what is not acknowledged, once its timer is over.
use Rattle.std.specs.Prelude.{ℕ, zero, suc, ◌≡◌, ◌<◌, ◌⊎◌, List, [], ◌∷◌, length, Option, Some, None, is_some, true}
use Rattle.std.specs.Prelude.{false}
use Rattle.net_base.specs.declared.time.Duration.{Duration}
use Rattle.control_wire.specs.Segment.{segment_len}
use Rattle.control_wire.specs.Seq.{seq_minus}
use Rattle.sock_core.specs.Facts.{Facts, IsLawful}
use Rattle.sock_tcp.specs.Begin.{before_emit, readied, peer_of}
use Rattle.sock_tcp.specs.Content.{Sending, asked, carries_data, content, offset_of}
use Rattle.sock_tcp.specs.Due.{flight}
use Rattle.sock_tcp.specs.declared.rules.Rules.TheVariants as rules
use Rattle.sock_tcp.specs.Polls.{is_reached, timeout_poll, timer_poll}
use Rattle.sock_tcp.specs.Rfc.UserTimeout.{timeout_of}
use Rattle.sock_tcp.specs.Queue.{IsLent}
use Rattle.sock_tcp.specs.Sent.{left_by}
use Rattle.sock_tcp.specs.Timers.{is_close_over}
use Rattle.sock_tcp.specs.View.{View, moment_of}
use Rattle.sock_tcp.specs.declared.emission.Kind.TheVariants as kind
use Rattle.sock_tcp.specs.declared.tuple.Tuple.{Tuple}
use Rattle.tcp_laws.specs.Polling.{IsReached}
use Rattle.tcp_laws.specs.Waking.{HasToSend}

-- ---- a dispatch whose emit answers Ok

-- the socket u sends this, or nothing, and becomes w
pub record SendsOk (f : Facts) (t : Tuple) (u : View) (out : Option Sending) (w : View) : Type 0 where
  pub stamp : Option ℕ
  pub told : is_some stamp ≡ u.stamps
  pub bytes : List ℕ
  pub lent : IsLent u.tx_buffer (offset_of u) (asked u t f) bytes
  pub sends : out ≡ content u t f stamp bytes
  pub view : w ≡ left_by out u (moment_of f) true

abbrev pub SendsOkTo : Option Tuple → Facts → View → Option Sending → View → Type 0
SendsOkTo None f u out w = (out ≡ None) × (w ≡ u)
SendsOkTo (Some t) f u out w = SendsOk f t u out w

abbrev pub DispatchesOk : Facts → View → Option Sending → View → Type 0
DispatchesOk f v out w = SendsOkTo (peer_of (before_emit v f)) f (before_emit v f).view out w

-- ---- past its timer

-- the socket has the peer t and its address; neither the user timeout nor TIME-WAIT is over
pub record GoesOn (v : View) (t : Tuple) (f : Facts) : Type 0 where
  pub peer : v.tuple ≡ Some t
  pub address : f.has_address t.local.addr ≡ true
  pub alive : is_reached (timeout_poll (timeout_of v) (readied v (moment_of f)).remote_last_ts) (moment_of f) ≡ false
  pub no_end : is_close_over v.timer (moment_of f) ≡ false

-- and what its timer waits for has come
pub record IsPastTimer (v : View) (t : Tuple) (f : Facts) : Type 0 where
  pub on : GoesOn v t f
  pub over : is_reached (timer_poll v.timer) (moment_of f) ≡ true

-- ---- what is said

-- Of what the socket v has to send: from SND.UNA on, with at least one byte of the stream or the FIN; or a probe of the
-- peer's window at SND.NXT, which has a byte where not all is in flight; or a keep-alive
pub data Speech (v : View) (s : Sending) : Type 0 where
  FromUna : (s.kind ≡ kind.KeepAlive → ⊥)
      → s.segment.seq_number ≡ v.local_seq_no
      → 0 < segment_len s.segment
      → Speech v s
  Probes : s.kind ≡ kind.Probe
      → s.segment.seq_number ≡ v.remote_last_seq
      → (flight v < length v.tx_buffer.bytes → length s.segment.payload ≡ 1)
      → Speech v s
  KeepsAlive : s.kind ≡ kind.KeepAlive
      → s.segment.seq_number ≡ seq_minus v.local_seq_no 1
      → s.segment.payload ≡ 0 ∷ []
      → Speech v s

abbrev pub Says : View → Option Sending → Type 0
Says v None = ⊥
Says v (Some s) = Speech v s

-- Of at most so many dispatches, each once the timer that stands then is over, the last one says it, whatever moments
-- and stamps they have
abbrev pub SpeaksWithin : ℕ → View → Tuple → Type 0
SpeaksWithin zero v t = ⊥
SpeaksWithin (suc n) v t =
    (f : Facts) (out : Option Sending) (w : View)
    → IsLawful f
    → IsPastTimer v t f
    → DispatchesOk f v out w
    → Says v out ⊎ SpeaksWithin n w t

-- ---- the law

-- With smoltcp's rules, a keep-alive interval, and bytes or a FIN that are not acknowledged
abbrev pub SpeaksPastItsTimers : Type 0
SpeaksPastItsTimers = (v : View) (t : Tuple) (d : Duration)
    → IsReached v
    → v.keep_alive ≡ Some d
    → v.rules ≡ rules.Smoltcp
    → carries_data v.state ≡ true
    → HasToSend v
    → SpeaksWithin 3 v t
