-- A run of events, and what holds at each of its steps.
use Rattle.std.specs.Prelude.{◌≡◌, List, [], ◌∷◌, ◌++◌, length, take, ℕ}
use Rattle.pair_core.specs.PairPromises.{Prefix, Release, Complete, Prompt}
use Rattle.pair_core.specs.PairSteps.{EventStep}
use Rattle.pair_core.specs.PairStreams.{AddsUp, accepted_in, handed_out_in}
use Rattle.pair_core.specs.PairViews.{PairView}
use Rattle.pair_core.specs.declared.event.Event.{Event}
use Rattle.pair_core.specs.declared.outcome.Outcome.{Outcome}

-- an event meets its table, and what is promised of it
pub record Happens {G : Type 0} (tells : G → ℕ → Type 0) (e : Event) (p : PairView G) (o : Outcome)
    (q : PairView G) : Type 0 where
  pub step : EventStep tells e p o q
  pub prefix : Prefix q
  pub release : Release q
  pub complete : Complete e p o q
  pub prompt : Prompt e p o q

-- every event in turn, each with its outcome and with the pair that it leaves
abbrev pub EventRun : {G : Type 0} → (G → ℕ → Type 0) → List Event → PairView G → List Outcome → PairView G → Type 0
EventRun tells [] p [] q = p ≡ q
EventRun tells (e ∷ es) p (o ∷ os) q = (r : PairView _) × Happens tells e p o r × EventRun tells es r os q
EventRun tells _ _ _ _ = ⊥

-- A run that did as many of the first events as it added outcomes to the list before. What each side accepted and
-- handed out is what it had, followed by what these outcomes say
pub record Ran {G : Type 0} (tells : G → ℕ → Type 0) (es : List Event) (p : PairView G) (before after : List Outcome)
    (q : PairView G) : Type 0 where
  pub outcomes : List Outcome
  pub are : after ≡ before ++ outcomes
  pub run : EventRun tells (take (length outcomes) es) p outcomes q
  pub adds : AddsUp p q (λ s. accepted_in s es outcomes) (λ s. handed_out_in s es outcomes)
