-- What was accepted and handed out, added up from events and their outcomes.
use Rattle.std.specs.Prelude.{ℕ, ◌≡◌, List, [], ◌∷◌, ◌++◌, take}
use Rattle.pair_core.specs.PairViews.{PairView, host_of}
use Rattle.pair_core.specs.declared.event.Event.{Event}
use Rattle.pair_core.specs.declared.event.Event.TheVariants as event
use Rattle.pair_core.specs.declared.outcome.Outcome.{Outcome}
use Rattle.pair_core.specs.declared.outcome.Outcome.TheVariants as outcome
use Rattle.pair_core.specs.declared.side.Side.{Side}
use Rattle.pair_core.specs.declared.side.Side.TheVariants.{A, B}

-- the bytes, where both sides are one
abbrev pub where_same : Side → Side → List ℕ → List ℕ
where_same A A bytes = bytes
where_same B B bytes = bytes
where_same A B bytes = []
where_same B A bytes = []

-- what the side accepted by an event with its outcome: the first n bytes of a send of its own that answered
-- `Accepted(n)`
abbrev pub accepted_by : Side → Event → Outcome → List ℕ
accepted_by s (event.SendSlice t bytes) (outcome.Accepted n) = where_same s t (take n bytes.items)
accepted_by s (event.Send t bytes size) (outcome.Accepted n) = where_same s t (take n bytes.items)
accepted_by s _ _ = []

-- what the side handed out by it: the bytes of a read of its own
abbrev pub handed_out_by : Side → Event → Outcome → List ℕ
handed_out_by s (event.RecvSlice t size) (outcome.Read bytes) = where_same s t bytes.items
handed_out_by s (event.Recv t size) (outcome.Read bytes) = where_same s t bytes.items
handed_out_by s _ _ = []

-- the same of events in turn, as far as there are outcomes
abbrev pub accepted_in : Side → List Event → List Outcome → List ℕ
accepted_in s (e ∷ es) (o ∷ os) = accepted_by s e o ++ accepted_in s es os
accepted_in s _ _ = []

abbrev pub handed_out_in : Side → List Event → List Outcome → List ℕ
handed_out_in s (e ∷ es) (o ∷ os) = handed_out_by s e o ++ handed_out_in s es os
handed_out_in s _ _ = []

-- each side's streams in q are those in p, followed by these bytes
pub record AddsUp {G : Type 0} (p q : PairView G) (accepted handed_out : Side → List ℕ) : Type 0 where
  pub accepted_bytes : (s : Side) → (host_of s q).accepted ≡ (host_of s p).accepted ++ accepted s
  pub handed_out_bytes : (s : Side) → (host_of s q).handed_out ≡ (host_of s p).handed_out ++ handed_out s
