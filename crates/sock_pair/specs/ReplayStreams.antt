-- What a stream notes of its calls.
use Rattle.std.specs.Prelude.{◌≡◌, ℕ, Bool, true, false, List, Option, Result, MatchResult}
use Rattle.std.specs.Io.KnownBytes.{Appends}

-- a stream has failed from the first call on that answers a fault
abbrev pub NotesFault : {X E : Type 0} → Bool → Result X E → Bool → Type 0
NotesFault old r new = MatchResult r (λ _. new ≡ old) (λ _. new ≡ true)

-- a sink that had not failed took all of these bytes, or it failed
abbrev pub Takes : {E : Type 0} → Option (List ℕ) → Result (Unit {0}) E → List ℕ → Option (List ℕ) → Bool → Type 0
Takes old r bytes new failed = MatchResult r (λ _. Appends old new bytes × (failed ≡ false)) (λ _. failed ≡ true)
