-- What is known of every script that was read.
use Rattle.std.specs.Prelude.{ℕ, ◌≤◌, List, Option, slice_index}
use Rattle.pair_core.specs.NetworkInvariant.{IsLimit}

-- the sizes of a's receive and transmit buffer, and of b's
pub record AreSizes (sizes : List ℕ) : Type 0 where
  pub arx : slice_index sizes 0 ≤ 1048576
  pub atx : slice_index sizes 1 ≤ 1048576
  pub brx : slice_index sizes 2 ≤ 1048576
  pub btx : slice_index sizes 3 ≤ 1048576

pub record IsPlayable (sizes : List ℕ) (limit : Option ℕ) : Type 0 where
  pub buffers : AreSizes sizes
  pub limited : IsLimit limit
