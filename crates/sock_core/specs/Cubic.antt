-- What CUBIC keeps, in bytes and milliseconds.
use Rattle.std.specs.Prelude.{ℕ}
use Rattle.net_base.specs.declared.time.Instant.{Instant}
use Rattle.sock_core.specs.Reno.{RenoNumbers}

pub record CubicNumbers : Type 0 where
  pub reno : RenoNumbers  -- the window and its bounds
  pub w_max : ℕ  -- W_max: the window before the last reduction, less where it fell since the one before
  pub w_est : ℕ  -- W_est: the window that Reno would have; 0 where no epoch of congestion avoidance has begun
  pub epoch : Instant  -- when the epoch began
  pub k : ℕ  -- K: how long the window takes from then on to W_max
