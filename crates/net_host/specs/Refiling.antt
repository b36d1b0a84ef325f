-- A place is filed anew, under the keys that it has now.
use Rattle.std.specs.Prelude.{ℕ, ◌≡◌, ◌<◌, ◌≤◌, ◌*◌, ◌&&◌, nat_eq, min, not, List, length, Bool, true, false}
use Rattle.host_index.specs.Columns.{IsPut, entry_in, fits, is_free, number_of, other_of}
use Rattle.host_index.specs.Entries.{entry_at, rank}
use Rattle.host_index.specs.Filing.{Filing, SameMemory, places_of}
use Rattle.host_index.specs.declared.columns.Columns.{Columns}
use Rattle.host_index.specs.declared.entry.Which.{Which}
use Rattle.host_index.specs.declared.entry.Which.TheVariants as which
use Rattle.net_host.specs.declared.key.Key.{Key}
use Rattle.net_host.specs.declared.key.Key.TheVariants as key
use Rattle.net_host.specs.declared.key.Keys.{Keys}

-- ---- keys that can be filed: they fit, and are two

abbrev pub fits_key : Which → Key → Bool
fits_key w key.Nothing = true
fits_key w (key.Under e) = fits w e

abbrev pub are_two : Key → Key → Bool
are_two (key.Under a) (key.Under b) = not (nat_eq a.major b.major && nat_eq a.minor b.minor)
are_two _ _ = true

-- a second key, whose second part is from 2^32 on
abbrev pub IsHigh : Key → Type 0
IsHigh key.Nothing = Unit {0}
IsHigh (key.Under e) = 4294967296 ≤ e.minor

abbrev pub can_file : Keys → Bool
can_file keys = fits_key which.First keys.first && (fits_key which.Second keys.second && are_two keys.first keys.second)

-- ---- what is there of a place

-- this key, where it is one
abbrev pub HasKey : Which → ℕ → Key → Filing → Type 0
HasKey w k key.Nothing i = k < places_of i → is_free i.columns (number_of w k) ≡ true
HasKey w k (key.Under e) i = IsPut (number_of w k) (entry_at e k) i.columns

-- if any, this key
abbrev pub IsKeyAt : ℕ → Key → Columns → ℕ → Type 0
IsKeyAt k key.Nothing c n = ⊥
IsKeyAt k (key.Under e) c n = entry_in c n ≡ entry_at e k

abbrev pub HasOnly : Which → ℕ → Key → Columns → Type 0
HasOnly w k key c = is_free c (number_of w k) ≡ false → IsKeyAt k key c (number_of w k)

-- no other key stands in the way of this one
abbrev pub IsApart : Which → ℕ → Key → Columns → Type 0
IsApart w k key.Nothing c = Unit {0}
IsApart w k (key.Under e) c =
    is_free c (other_of w k) ≡ false → rank (entry_in c (other_of w k)) ≡ rank (entry_at e k) → ⊥

-- the keys of other numbers are as they were
pub record KeepsOthers (n : ℕ) (c d : Columns) : Type 0 where
  pub others : (m : ℕ) → nat_eq m n ≡ false → entry_in d m ≡ entry_in c m
  pub others_free : (m : ℕ) → nat_eq m n ≡ false → is_free d m ≡ is_free c m
  pub len : length d.majors.items ≡ length c.majors.items

-- ---- a set of places

-- an index that is complete stays so, where it has a place for each; and no memory is asked for
pub record StaysWhole {X : Type 0} (xs : List X) (c : Bool) (i : Filing) (d : Bool) (j : Filing) : Type 0 where
  pub whole : c ≡ true → length xs ≤ places_of i → d ≡ true
  pub memory : SameMemory i j

-- the index has a place for each of so many, at most 2^30, and is complete where it has
pub record IsWhole (complete : Bool) (places count : ℕ) : Type 0 where
  pub places_for : places ≡ min count 1073741824
  pub whole : count ≤ 1073741824 → complete ≡ true
