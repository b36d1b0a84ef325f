-- What a pair says of the numbers of its two sockets, in the words of the sockets alone.
use Rattle.std.specs.Prelude.{ℕ, ◌≡◌, ◌+◌, ◌≤◌, ◌++◌, length, drop, slice_get, Some, true}
use Rattle.control_wire.specs.Seq.{seq_add}
use Rattle.sock_core.specs.Received.{byte_at}
use Rattle.sock_core.specs.Streams.{fin_length}
use Rattle.sock_tcp.specs.Content.{carries_data}
use Rattle.sock_tcp.specs.Due.{is_closing}
use Rattle.sock_tcp.specs.Verdict.{fin_place}
use Rattle.sock_tcp.specs.Window.{next_ack}
use Rattle.pair_core.specs.PairNetwork.{phase_of}
use Rattle.pair_core.specs.PairViews.{HostView}
use Rattle.pair_core.specs.StreamViews.{IsSynchronized}

-- The stream from h to o. The side o took so many bytes of the transmit queue of h, which h has not heard of, and may
-- have counted the FIN behind all of it. What o handed out, what waits there, and the rest of the queue are together
-- what h accepted; and what o holds out of order are bytes of that rest, at their places. And h has counted of the
-- queue of o, and of its FIN, what o has not heard of
pub record SidesAgree {G : Type 0} (h o : HostView G) : Type 0 where
  pub taken : ℕ
  pub taken_within : taken ≤ length h.control_block.tx_buffer.bytes
  pub there : next_ack o.control_block
      ≡ seq_add h.control_block.local_seq_no (taken + fin_length o.control_block.rx_fin_received)
  pub fin : o.control_block.rx_fin_received ≡ true → taken ≡ length h.control_block.tx_buffer.bytes
  pub whole : o.handed_out ++ o.control_block.rx_buffer.bytes ++ drop taken h.control_block.tx_buffer.bytes
      ≡ h.accepted
  pub held : (k b : ℕ) → byte_at o.control_block.rx_buffer.held k ≡ Some b
      → slice_get h.control_block.tx_buffer.bytes (taken + k) ≡ Some b
  pub heard : ℕ
  pub heard_within : heard ≤ length o.control_block.tx_buffer.bytes + fin_place o.control_block.state
  pub back : next_ack h.control_block ≡ seq_add o.control_block.local_seq_no heard

-- So it is of a side h that sends, and whose close, where it was closed, came after its SYN was acknowledged, and a
-- side o that is in ESTABLISHED or behind it
abbrev pub SynchronizedSidesAgree : {G : Type 0} → HostView G → HostView G → Type 0
SynchronizedSidesAgree h o =
    carries_data h.control_block.state ≡ true
    → (is_closing h.control_block.state ≡ true → h.closed ≡ true)
    → IsSynchronized (phase_of o.control_block.state)
    → SidesAgree h o
