-- The two sides of a connection.
use Rattle.pair_core.specs.declared.side.Side.{Side}
use Rattle.pair_core.specs.declared.side.Side.TheVariants as side

abbrev pub other_side : Side → Side
other_side side.A = side.B
other_side side.B = side.A
