-- What contracts see of a socket.
use Rattle.std.specs.Prelude.{ℕ, pos, ◌≡◌, ◌≤◌, ◌^◌, Option, Some, None, Bool, true, false}
use Rattle.std.specs.Option.{ForSome}
use Rattle.ip_wire.specs.Address.{SameVersion}
use Rattle.ip_wire.specs.declared.endpoint.IpListenEndpoint.{IpListenEndpoint}
use Rattle.net_base.specs.declared.time.Duration.{Duration}
use Rattle.net_base.specs.declared.time.Instant.{Instant}
use Rattle.control_wire.specs.declared.seq_number.TcpSeqNumber.{TcpSeqNumber}
use Rattle.control_wire.specs.Seq.{seq_of}
use Rattle.sock_core.specs.Facts.{Facts}
use Rattle.sock_core.specs.Received.{Received, room_of}
use Rattle.sock_core.specs.WindowShift.{window_shift}
use Rattle.sock_core.specs.Congestion.{fresh_reno}
use Rattle.sock_core.specs.Estimator.{Estimator, fresh_estimator}
use Rattle.sock_core.specs.declared.congestion.AnyController.{AnyController}
use Rattle.sock_core.specs.declared.congestion.AnyController.TheVariants as controller
use Rattle.sock_tcp.specs.Queue.{Queue, capacity}
use Rattle.sock_tcp.specs.Timers.{IsLastTs, IsTimer}
use Rattle.sock_tcp.specs.declared.timer.AckDelayTimer.{AckDelayTimer}
use Rattle.sock_tcp.specs.declared.timer.AckDelayTimer.TheVariants as ack_delay
use Rattle.sock_tcp.specs.declared.timer.Timer.{Timer}
use Rattle.sock_tcp.specs.declared.timer.Timer.TheVariants as timer
use Rattle.sock_tcp.specs.declared.recovery.Recovery.{Recovery}
use Rattle.sock_tcp.specs.declared.recovery.Recovery.TheVariants as recovery
use Rattle.sock_tcp.specs.Rfc.Scoreboard.{nothing_told}
use Rattle.sock_tcp.specs.declared.rules.Rules.{Rules}
use Rattle.sock_tcp.specs.declared.rules.Rules.TheVariants as rules
use Rattle.sock_tcp.specs.declared.scoreboard.Scoreboard.{Scoreboard}
use Rattle.sock_tcp.specs.declared.state.State.{State}
use Rattle.sock_tcp.specs.declared.state.State.TheVariants as state
use Rattle.sock_tcp.specs.declared.tuple.Tuple.{Tuple}
use Rattle.sock_tcp.specs.declared.undo.Undo.{Undo}
use Rattle.sock_tcp.specs.Rfc.Undo.{nothing_to_undo}

-- the fields have the names of smoltcp's
pub record View : Type 0 where
  pub state : State
  pub timer : Timer
  pub rtte : Estimator
  pub rx_buffer : Received  -- the receive queue, and what is held behind it
  pub rx_fin_received : Bool  -- a FIN of the peer was counted
  pub tx_buffer : Queue  -- the transmit queue, which is the retransmission queue too
  pub timeout : Option Duration  -- the user's timeout
  pub keep_alive : Option Duration  -- how long after the last segment a keep-alive comes
  pub hop_limit : Option ℕ
  pub listen_endpoint : IpListenEndpoint
  pub tuple : Option Tuple  -- both endpoints, where there is a peer
  pub local_seq_no : TcpSeqNumber  -- SND.UNA
  pub remote_seq_no : TcpSeqNumber  -- the number of the first byte of the receive queue
  pub remote_last_seq : TcpSeqNumber  -- SND.NXT
  pub remote_last_ack : Option TcpSeqNumber  -- the acknowledgement that was sent last
  pub remote_last_win : ℕ  -- the window field that was sent last
  pub remote_win_shift : ℕ  -- by how many bits the own window field is shifted
  pub remote_win_len : ℕ  -- SND.WND
  pub remote_win_scale : Option ℕ  -- by how many bits the peer's window field is shifted
  pub remote_has_sack : Bool
  pub remote_mss : ℕ
  pub remote_last_ts : Option Instant  -- when the last segment came
  pub local_rx_last_seq : Option TcpSeqNumber  -- the number of the last segment in the window
  pub local_rx_last_ack : Option TcpSeqNumber  -- the last acknowledgement that was no duplicate
  pub local_rx_dup_acks : ℕ  -- how many duplicates of it came
  pub pending_fast_retransmit : Bool  -- the segment at SND.UNA goes out again, or by the RFCs' rules the next hole
  pub ack_delay : Option Duration  -- how long an acknowledgement may wait for data to go with
  pub ack_delay_timer : AckDelayTimer
  pub challenge_ack_timer : Instant  -- before this moment no further challenge ACK goes out
  pub nagle : Bool
  pub congestion_controller : AnyController
  pub last_remote_tsval : ℕ  -- the last timestamp value of the peer
  pub synack_paused : Bool  -- a SYN|ACK waits
  pub stamps : Bool  -- segments carry a timestamp (RFC 7323, section 3)
  pub rules : Rules  -- where smoltcp's differ from the RFCs'
  pub recovery : Recovery  -- what goes on of a loss, by the RFCs' rules
  pub sacked : Scoreboard  -- what the peer told by SACK, by the RFCs' rules
  pub snd_wl1 : TcpSeqNumber  -- SND.WL1, the number of the segment that told SND.WND, by the RFCs' rules
  pub snd_wl2 : TcpSeqNumber  -- SND.WL2, what it acknowledged
  pub idle_at : Option Instant  -- from when on nothing was sent for a retransmission timeout, by the RFCs' rules
  pub largest_window : ℕ  -- the largest SND.WND that was told, by the RFCs' rules
  pub undo : Undo  -- what undoes a recovery that was for nothing, by the RFCs' rules
  pub close_waits : Bool  -- a close waits for the acknowledgement of the SYN, by the RFCs' rules
  pub reordering : ℕ  -- how many quarters of a round trip a loss is waited for, by the RFCs' rules

-- the moment that a context tells
abbrev pub moment_of : Facts → Instant
moment_of f = record { micros = f.now }

-- at most 2^61 microseconds, where one is set
abbrev pub IsShort : Option Duration → Type 0
IsShort d = ForSome d (λ t. t.micros ≤ 2 ^ 61)

-- only a state behind the peer's FIN, or CLOSED, has counted it
abbrev pub FinSays : State → Bool → Type 0
FinSays state.CloseWait fin = Unit {0}
FinSays state.Closing fin = Unit {0}
FinSays state.LastAck fin = Unit {0}
FinSays state.TimeWait fin = Unit {0}
FinSays state.Closed fin = Unit {0}
FinSays _ fin = fin ≡ false

-- what holds of every socket
pub record IsSound (rx : Received) (tx : Queue) (tuple : Option Tuple) (shift : ℕ) (scale : Option ℕ) (mss : ℕ)
    (timeout keep_alive ack_delay : Option Duration) (last_ts : Option Instant) (timer : Timer)
    (st : State) (fin : Bool) : Type 0 where
  pub rx_size : room_of rx ≤ 2 ^ 30
  pub tx_size : capacity tx ≤ 2 ^ 30
  pub versions : ForSome tuple (λ t. SameVersion t.local.addr t.remote.addr)
  pub shift_at_most : shift ≤ 14
  pub scale_at_most : ForSome scale (λ n. n ≤ 14)
  pub mss_at_most : mss ≤ 65535
  pub timeout_short : IsShort timeout
  pub keep_alive_short : IsShort keep_alive
  pub ack_delay_short : IsShort ack_delay
  pub last_ts_lawful : IsLastTs last_ts
  pub timer_lawful : IsTimer timer
  pub fin_says : FinSays st fin

abbrev pub no_endpoint : IpListenEndpoint
no_endpoint = record { addr = None; port = 0 }

-- a new socket
unfoldable pub fresh : Received → Queue → View
fresh rx tx =
    record {
      state = state.Closed;
      timer = timer.Idle None;
      rtte = fresh_estimator;
      rx_buffer = rx;
      rx_fin_received = false;
      tx_buffer = tx;
      timeout = None;
      keep_alive = None;
      hop_limit = None;
      listen_endpoint = no_endpoint;
      tuple = None;
      local_seq_no = seq_of 0;
      remote_seq_no = seq_of 0;
      remote_last_seq = seq_of 0;
      remote_last_ack = None;
      remote_last_win = 0;
      remote_win_shift = window_shift (room_of rx);
      remote_win_len = 0;
      remote_win_scale = None;
      remote_has_sack = false;
      remote_mss = 536;
      remote_last_ts = None;
      local_rx_last_seq = None;
      local_rx_last_ack = None;
      local_rx_dup_acks = 0;
      pending_fast_retransmit = false;
      ack_delay = Some (record { micros = 10000 });
      ack_delay_timer = ack_delay.Idle;
      challenge_ack_timer = record { micros = pos 0 };
      nagle = true;
      congestion_controller = controller.Reno fresh_reno;
      last_remote_tsval = 0;
      synack_paused = false;
      stamps = false;
      rules = rules.Smoltcp;
      recovery = recovery.Open;
      sacked = nothing_told;
      snd_wl1 = seq_of 0;
      snd_wl2 = seq_of 0;
      idle_at = None;
      largest_window = 0;
      undo = nothing_to_undo;
      close_waits = false;
      reordering = 0;
    }
