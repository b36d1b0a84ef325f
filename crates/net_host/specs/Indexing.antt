-- Places that are filed in an index under their keys.
use Rattle.std.specs.Prelude.{ℕ, ◌≡◌, ◌<◌, ◌/◌, ◌&&◌, ◌||◌, not, nat_eq, nat_lt, Bool, true, false, List, length}
use Rattle.std.specs.Prelude.{Option}
use Rattle.std.specs.Prelude.{Some, None, slice_get, if◌then◌else◌}
use Rattle.host_bounds.specs.Marking.{bit_of}
use Rattle.host_index.specs.Entries.{entry_at, has}
use Rattle.host_index.specs.declared.entry.Entry.{Entry}
use Rattle.net_host.specs.declared.key.Key.{Key}
use Rattle.net_host.specs.declared.key.Key.TheVariants as key
use Rattle.net_host.specs.declared.key.Keys.{Keys}

-- of a place where nothing is
abbrev pub no_keys : Keys
no_keys = record { first = key.Nothing; second = key.Nothing; free = true }

-- ---- what is filed

abbrev pub is_under : List Entry → ℕ → Key → Bool
is_under es k key.Nothing = true
is_under es k (key.Under e) = has es (entry_at e k)

abbrev pub are_filed : List Entry → ℕ → Keys → Bool
are_filed es k keys = is_under es k keys.first && is_under es k keys.second

abbrev pub is_filed : {X : Type 0} → (X → Keys) → List Entry → ℕ → Option X → Bool
is_filed keys_of es k None = true
is_filed keys_of es k (Some s) = are_filed es k (keys_of s)

-- each place is filed under its keys
abbrev pub AreFiled : {X : Type 0} → (X → Keys) → List X → List Entry → Type 0
AreFiled keys_of ss es = (k : ℕ) → is_filed keys_of es k (slice_get ss k) ≡ true

-- each before the place i
abbrev pub AreFiledBefore : {X : Type 0} → (X → Keys) → ℕ → List X → List Entry → Type 0
AreFiledBefore keys_of i ss es = (k : ℕ) → k < i → is_filed keys_of es k (slice_get ss k) ≡ true

-- ---- filing

-- the place i, where it is there
abbrev pub lent_of : {X : Type 0} → ℕ → Option X → Option ℕ
lent_of i None = None
lent_of i (Some s) = Some i

-- the place i, or it is not there
abbrev pub IsLentAt : {X : Type 0} → ℕ → Option X → Option ℕ → Type 0
IsLentAt i o None = o ≡ None
IsLentAt i o (Some l) = l ≡ i

-- ---- marks

-- a place with a mark, which is on where nothing is there
abbrev pub is_noted : List ℕ → ℕ → Bool → Bool
is_noted ws k free = nat_lt (k / 64) (length ws) && (not free || nat_eq (bit_of ws k) 1)

abbrev pub is_noted_of : {X : Type 0} → (X → Keys) → List ℕ → ℕ → Option X → Bool
is_noted_of keys_of ws k None = true
is_noted_of keys_of ws k (Some s) = is_noted ws k (keys_of s).free

-- the marks of other places are as they were
pub record KeepsMarks (place : ℕ) (ws us : List ℕ) : Type 0 where
  pub len : length us ≡ length ws
  pub others : (k : ℕ) → nat_eq k place ≡ false → bit_of us k ≡ bit_of ws k

-- ---- all places

-- of a place with these keys: it is filed under them, where the index is complete, and noted
abbrev pub is_kept : Bool → List Entry → List ℕ → ℕ → Keys → Bool
is_kept complete es ws k keys = (not complete || are_filed es k keys) && is_noted ws k keys.free

abbrev pub is_kept_of : {X : Type 0} → (X → Keys) → Bool → List Entry → List ℕ → ℕ → Option X → Bool
is_kept_of keys_of complete es ws k None = true
is_kept_of keys_of complete es ws k (Some s) = is_kept complete es ws k (keys_of s)

-- the same, but for a place that was lent: of that there is a mark alone
abbrev pub is_kept_at : {X : Type 0} → (X → Keys) → Bool → Option ℕ → List X → List Entry → List ℕ → ℕ → Bool
is_kept_at keys_of complete None ss es ws k = is_kept_of keys_of complete es ws k (slice_get ss k)
is_kept_at keys_of complete (Some l) ss es ws k =
    if nat_eq k l then nat_lt (k / 64) (length ws) else is_kept_of keys_of complete es ws k (slice_get ss k)

-- each place
abbrev pub IsIndexed : {X : Type 0} → (X → Keys) → Bool → Option ℕ → List X → List Entry → List ℕ → Type 0
IsIndexed keys_of complete lent ss es ws = (k : ℕ) → is_kept_at keys_of complete lent ss es ws k ≡ true

-- each place, none lent: the one that was is filed as the others
abbrev pub IsSettled : {X : Type 0} → (X → Keys) → Bool → List X → List Entry → List ℕ → Type 0
IsSettled keys_of complete ss es ws = IsIndexed keys_of complete None ss es ws
