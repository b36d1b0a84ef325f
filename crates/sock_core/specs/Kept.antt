-- What stands beside a flag, as an option takes more room.
use Rattle.std.specs.Prelude.{Option, Some, None, Bool, true, false, is_some, ◌≡◌, refl}

-- a value, where the flag says that there is one
abbrev pub kept : {A : Type 0} → Bool → A → Option A
kept true a = Some a
kept false a = None

-- what stands there: this one, where there is none
abbrev pub or_blank : {A : Type 0} → A → Option A → A
or_blank b None = b
or_blank b (Some a) = a

-- there is a value exactly with the flag
pub is_kept : {A : Type 0} (has : Bool) (a : A) → is_some (kept has a) ≡ has
is_kept true a = refl
is_kept false a = refl
