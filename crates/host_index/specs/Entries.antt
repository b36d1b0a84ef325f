-- Entries in order.
use Rattle.std.specs.Prelude.{ℕ, ◌≡◌, ◌<◌, ◌≤◌, ◌+◌, ◌*◌, ◌^◌, ◌&&◌, ◌||◌, Bool, true, false, nat_eq, List, length, []}
use Rattle.std.specs.Prelude.{◌∷◌, get_or}
use Rattle.host_index.specs.declared.entry.Entry.{Entry}

abbrev pub nothing : Entry
nothing = record { major = 0; minor = 0; place = 0 }

-- their order
abbrev pub rank : Entry → ℕ
rank e = (e.major * 2 ^ 64 + e.minor) * 2 ^ 64 + e.place

abbrev pub rank_at : List Entry → ℕ → ℕ
rank_at es k = rank (get_or es k (nothing))

abbrev pub IsSortedByRank : List Entry → Type 0
IsSortedByRank es = (i j : ℕ) → i < j → j < length es → rank_at es i ≤ rank_at es j

abbrev pub is_entry : Entry → Entry → Bool
is_entry a b = nat_eq a.major b.major && (nat_eq a.minor b.minor && nat_eq a.place b.place)

-- whether it is among them
unfoldable pub has : List Entry → Entry → Bool
has [] x = false
has (e ∷ es) x = is_entry e x || has es x

-- where entries of a rank would begin
pub record Splits (es : List Entry) (n : ℕ) (p : ℕ) : Type 0 where
  pub within : p ≤ length es
  pub below : (k : ℕ) → k < p → rank_at es k < n
  pub above : (k : ℕ) → p ≤ k → k < length es → n ≤ rank_at es k

-- what was among them still is
abbrev pub Keeps : List Entry → List Entry → Type 0
Keeps es fs = (x : Entry) → has es x ≡ true → has fs x ≡ true

-- but for this one
abbrev pub KeepsBut : Entry → List Entry → List Entry → Type 0
KeepsBut e es fs = (x : Entry) → is_entry e x ≡ false → has es x ≡ true → has fs x ≡ true

-- the entry of a place under the key of another
abbrev pub entry_at : Entry → ℕ → Entry
entry_at key k = record { major = key.major; minor = key.minor; place = k }

-- what was among them of other places still is
abbrev pub KeepsElsewhere : ℕ → List Entry → List Entry → Type 0
KeepsElsewhere place es fs = (x : Entry) → nat_eq x.place place ≡ false → has es x ≡ true → has fs x ≡ true

-- the first place under a key
pub record IsFirst (es : List Entry) (key : Entry) (place : ℕ) : Type 0 where
  pub here : has es (entry_at key place) ≡ true
  pub before : (k : ℕ) → k < place → has es (entry_at key k) ≡ false
