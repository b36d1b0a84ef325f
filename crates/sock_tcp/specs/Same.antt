-- What a step leaves alone.
use Rattle.std.specs.Prelude.{◌≡◌}
use Rattle.sock_tcp.specs.View.{View}

-- both queues are as they were
pub record SameQueues (old new : View) : Type 0 where
  pub rx : new.rx_buffer ≡ old.rx_buffer
  pub tx : new.tx_buffer ≡ old.tx_buffer
