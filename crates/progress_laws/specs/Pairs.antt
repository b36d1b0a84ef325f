-- Of every pair, whatever happened to it: how the bytes of its sides, and their FINs, still come over.
use Rattle.std.specs.Prelude.{◌≡◌, ◌⊎◌, ◌<◌, ◌++◌, Some, None, Err, true}
use Rattle.net_base.specs.declared.time.Duration.{Duration}
use Rattle.net_base.specs.declared.time.Instant.{Instant}
use Rattle.sock_core.specs.Bounds.{IsMtu}
use Rattle.sock_core.specs.Facts.{Facts}
use Rattle.sock_core.specs.Received.{room_of}
use Rattle.sock_tcp.specs.Content.{carries_data}
use Rattle.sock_tcp.specs.Due.{is_closing}
use Rattle.sock_tcp.specs.Queues.{may_send, receives, recv_check}
use Rattle.sock_tcp.specs.View.{View}
use Rattle.sock_tcp.specs.Window.{next_ack}
use Rattle.sock_tcp.specs.declared.error.RecvError.TheVariants as recv_error
use Rattle.sock_tcp.specs.declared.state.State.TheVariants as state
use Rattle.pair_core.specs.PairInvariant.{IsSocket}
use Rattle.pair_core.specs.PairViews.{HostView}
use Rattle.progress_laws.specs.Agreement.{EitherWays, Exchanges, InReach, Waits}
use Rattle.sock_tcp.specs.declared.rules.Rules.TheVariants as rules

-- ---- the sides

-- The side h, with smoltcp's rules, the keep-alive interval d and without a user timeout, is in ESTABLISHED,
-- CLOSE-WAIT, FIN-WAIT-1, CLOSING or LAST-ACK; where it was closed, that was after its SYN was acknowledged. How it
-- waits is that of `Waits` (`stall_empty_probe` in docs/STALLS.md)
pub record MaySpeak {G : Type 0} (d : Duration) (h : HostView G) : Type 0 where
  pub carries : carries_data h.control_block.state ≡ true
  pub closed : is_closing h.control_block.state ≡ true → h.closed ≡ true
  pub no_timeout : h.control_block.timeout ≡ None
  pub smoltcp : h.control_block.rules ≡ rules.Smoltcp
  pub keep_alive : h.control_block.keep_alive ≡ Some d
  pub waits : Waits h.control_block

-- The side o is in ESTABLISHED, FIN-WAIT-1 or FIN-WAIT-2, with smoltcp's rules and a receive buffer of at least a byte.
-- Its types say that no FIN is counted in these states
pub record MayTake {G : Type 0} (o : HostView G) : Type 0 where
  pub receives : receives o.control_block.state ≡ true
  pub smoltcp : o.control_block.rules ≡ rules.Smoltcp
  pub types : IsSocket o.control_block
  pub place : 0 < room_of o.control_block.rx_buffer

-- h hears o (`stall_both_again`); and in LAST-ACK o took something that h has not heard of, or h knows a window above 0
-- (`stall_last_ack`)
pub record CanComeOver {G : Type 0} (d : Duration) (h o : HostView G) : Type 0 where
  pub speaks : MaySpeak d h
  pub takes : MayTake o
  pub in_reach : InReach h.control_block o.control_block
  pub last : h.control_block.state ≡ state.LastAck
      → (next_ack o.control_block ≡ h.control_block.local_seq_no → ⊥) ⊎ (0 < h.control_block.remote_win_len)

-- and the other way round
pub record BothCanComeOver {G : Type 0} (d e : Duration) (h o : HostView G) : Type 0 where
  pub over : CanComeOver d h o
  pub speaks_back : MaySpeak e o
  pub takes_back : MayTake h

-- ---- what comes over

-- Some list of dispatches, deliveries and reads, at moments that do not go back, hands out of o all that h ever
-- accepted (o handed out the beginning of it before); and where h was closed, a read answers `Finished` then
pub record ComesOver {G : Type 0} (f : Facts) (at : Instant) (h o : HostView G) : Type 0 where
  pub end : Instant
  pub sender : View
  pub receiver : View
  pub exchanges : Exchanges f at h.control_block o.control_block o.handed_out end sender receiver h.accepted
  pub finished : is_closing h.control_block.state ≡ true → recv_check receiver ≡ Err recv_error.Finished

-- and some list does so both ways; where o was closed, reads of h answer `Finished` then
pub record BothComeOver {G : Type 0} (f : Facts) (at : Instant) (h o : HostView G) : Type 0 where
  pub end : Instant
  pub here : View
  pub across : View
  pub exchanges : EitherWays f at h.control_block o.control_block o.handed_out h.handed_out end here across h.accepted
      o.accepted
  pub finished : is_closing o.control_block.state ≡ true → recv_check here ≡ Err recv_error.Finished

-- and where both were closed, first all of h comes over, and reads of o answer `Finished`; and then it is the other way
-- round
pub record BothFinish {G : Type 0} (f : Facts) (at : Instant) (h o : HostView G) : Type 0 where
  pub mid : Instant
  pub here : View
  pub across : View
  pub one : EitherWays f at h.control_block o.control_block o.handed_out h.handed_out mid here across h.accepted
      (h.handed_out ++ h.control_block.rx_buffer.bytes)
  pub finished_across : recv_check across ≡ Err recv_error.Finished
  pub end : Instant
  pub last_here : View
  pub last_across : View
  pub other : EitherWays f mid here across h.accepted (h.handed_out ++ h.control_block.rx_buffer.bytes) end last_here
      last_across h.accepted o.accepted
  pub finished_here : recv_check last_here ≡ Err recv_error.Finished

-- from any moment on, in any context that has the address of h
abbrev pub CanAlways : {G : Type 0} → HostView G → HostView G → Type 0
CanAlways h o = (d : Duration) (f : Facts) (at : Instant)
    → IsMtu f.mtu
    → f.has_address h.endpoint.addr ≡ true
    → CanComeOver d h o
    → ComesOver f at h o

-- or both addresses; h was not closed, or both were
abbrev pub BothCanAlways : {G : Type 0} → HostView G → HostView G → Type 0
BothCanAlways h o = (d e : Duration) (f : Facts) (at : Instant)
    → IsMtu f.mtu
    → f.has_address h.endpoint.addr ≡ true
    → f.has_address o.endpoint.addr ≡ true
    → may_send h.control_block.state ≡ true
    → BothCanComeOver d e h o
    → BothComeOver f at h o

abbrev pub BothClosedCanAlways : {G : Type 0} → HostView G → HostView G → Type 0
BothClosedCanAlways h o = (d e : Duration) (f : Facts) (at : Instant)
    → IsMtu f.mtu
    → f.has_address h.endpoint.addr ≡ true
    → f.has_address o.endpoint.addr ≡ true
    → is_closing h.control_block.state ≡ true
    → is_closing o.control_block.state ≡ true
    → BothCanComeOver d e h o
    → BothFinish f at h o
