-- What the laws of a socket's case tables speak of.
use Rattle.std.specs.Prelude.{◌≡◌, ℕ, [], Some, true}
use Rattle.net_base.specs.declared.time.Instant.{Instant}
use Rattle.sock_tcp.specs.Rfc.Numbers.{numbered}
use Rattle.sock_tcp.specs.Content.{Sending}
use Rattle.sock_tcp.specs.Sent.{left_by}
use Rattle.sock_tcp.specs.View.{View}
use Rattle.pair_core.specs.PairNetwork.{phase_of, shown, stream_segment}
use Rattle.pair_core.specs.StreamCalls.{DispatchEffect, EmitEffect}
use Rattle.pair_core.specs.StreamTables.{HasSendingBounds}
use Rattle.pair_core.specs.StreamViews.{HasIss, IsNonSynchronized}

-- what the network's invariant says of one opened socket: its numbers are in their bounds once its initial sequence
-- number is chosen, and before any byte can have come its receive queue is empty
pub record IsBounded (v : View) : Type 0 where
  pub sending : HasIss (phase_of v.state) → HasSendingBounds (shown v)
  pub unread : IsNonSynchronized (phase_of v.state) → v.rx_buffer.bytes ≡ []

-- the socket may emit the segment of the sending c, with its number by the socket's rules, and an emit that succeeds at
-- now leaves no more than a dispatch may change
pub record MayEmit (v : View) (c : Sending) (now : Instant) (released taken : ℕ) : Type 0 where
  pub sends : EmitEffect (shown v) (stream_segment (numbered v c.segment) released taken)
  pub leaves : DispatchEffect (shown v) (shown (left_by (Some c) v now true))
