-- The text of a pair's error.
use Rattle.std.specs.Prelude.{ℕ, List, codes}
use Rattle.pair_core.specs.declared.outcome.PairError.{PairError}
use Rattle.pair_core.specs.declared.outcome.PairError.TheVariants as pair_error

abbrev pub pair_error_text : PairError → List ℕ
pair_error_text pair_error.Memory = codes "out of memory"
