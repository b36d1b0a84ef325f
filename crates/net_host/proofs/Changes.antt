-- One element of a list is changed, or stays.
use Rattle.std.proofs.Common.{◌≡◌, ℕ, ◌<◌, List, length, get_or, Option, Some, None, refl, ap, ◌∙◌}
use Rattle.std.specs.Prelude.{IfSome, IfNone, slice_set}
use Rattle.std.proofs.lemmas.List.{set-get_or}
use Rattle.std.proofs.lemmas.Option.{slice_get_read}
use Rattle.net_host.specs.Walks.{ChangesAt}

pub changes_at : {X : Type 0} (R : X → X → Type 0) (xs : List X) (i : ℕ) (b a : X) → i < length xs → b ≡ get_or xs i b → R b a → ChangesAt R xs i (slice_set xs i a)
changes_at R xs i b a within is h = record { before = b; after = a; was = slice_get_read xs (length xs) i b refl within is; changed = h; now = refl }

pub changes_if : {X Y : Type 0} (r : Option Y) (R : Y → X → X → Type 0) (xs : List X) (i : ℕ) (b a : X) → i < length xs → b ≡ get_or xs i b → IfSome r (λ y. R y b a) → IfSome r (λ y. ChangesAt (R y) xs i (slice_set xs i a))
changes_if None R xs i b a within is h = tt
changes_if (Some y) R xs i b a within is h = changes_at (R y) xs i b a within is h

stays_at : {X : Type 0} (xs : List X) (i : ℕ) (b a : X) → b ≡ get_or xs i b → a ≡ b → slice_set xs i a ≡ xs
stays_at xs i b a is e = ap (slice_set xs i) (e ∙ is) ∙ set-get_or xs i b

pub stays_if : {X Y : Type 0} (r : Option Y) (xs : List X) (i : ℕ) (b a : X) → b ≡ get_or xs i b → IfNone r (a ≡ b) → IfNone r (slice_set xs i a ≡ xs)
stays_if None xs i b a is h = stays_at xs i b a is h
stays_if (Some y) xs i b a is h = tt
