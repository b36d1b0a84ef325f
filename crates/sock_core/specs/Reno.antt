-- What Reno keeps, in bytes.
use Rattle.std.specs.Prelude.{ℕ, Bool}

pub record RenoNumbers : Type 0 where
  pub cwnd : ℕ  -- the congestion window
  pub mss : ℕ  -- the peer's maximum segment size
  pub rwnd : ℕ  -- the greatest window that the peer gave
  pub ssthresh : ℕ  -- the window at which slow start ends
  pub in_timeout : Bool  -- a timeout came, and no new data was acknowledged since
  pub in_recovery : Bool  -- in fast recovery
