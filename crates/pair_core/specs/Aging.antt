-- A delivery, where the counts of the emitter are given.
use Rattle.std.specs.Prelude.{ℕ, List, Option, Some, None}
use Rattle.pair_core.specs.PairViews.{HostView, StoredView}
use Rattle.pair_core.specs.PairSteps.{is_too_old, DeliversTo, TakesRoom}
use Rattle.pair_core.specs.declared.moment.Moment.{Moment}
use Rattle.pair_core.specs.declared.outcome.Outcome.{Outcome}
use Rattle.pair_core.specs.declared.side.Side.{Side}

abbrev pub DeliversAt : {G : Type 0} → (G → ℕ → Type 0) → Option StoredView → ℕ → ℕ → Side → Moment → Outcome
    → HostView G → List StoredView → HostView G → List StoredView → Type 0
DeliversAt tells None released taken s m o h ks h' ks' = ⊥
DeliversAt tells (Some t) released taken s m o h ks h' ks' =
    DeliversTo tells (is_too_old t.released_at released t.taken_at taken) s m t o h ks h' ks'

abbrev pub TakesRoomAt : {G : Type 0} → Option StoredView → ℕ → ℕ → HostView G → Type 0
TakesRoomAt None released taken h = ⊥
TakesRoomAt (Some t) released taken h = TakesRoom (is_too_old t.released_at released t.taken_at taken) h t
