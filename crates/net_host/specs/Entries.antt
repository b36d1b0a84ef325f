-- The entries of an index, in order.
use Rattle.std.specs.Prelude.{ℕ, ◌≡◌, ◌<◌, ◌≤◌, ◌&&◌, Bool, true, unsigned_abs}
use Rattle.std.specs.Prelude.{int_le, pos, negsuc, ◌+ℤ◌, ◌≤ℤ◌, ◌<ℤ◌, List, length, Option, Some, None}
use Rattle.std.specs.Prelude.{IfSome, slice_get, if◌then◌else◌}
use Rattle.net_base.specs.declared.time.Instant.{Instant}
use Rattle.host_index.specs.Entries.{entry_at, has}
use Rattle.host_index.specs.declared.entry.Entry.{Entry}

-- ---- a walk through the entries under a key

-- among the places with an entry under the key, the first whose element P holds of
pub record IsFirstListed {X : Type 0} (P : X → Type 0) (xs : List X) (es : List Entry) (key : Entry) (i : ℕ)
    : Type 0 where
  pub holds : IfSome (slice_get xs i) P
  pub within : i < length xs
  pub before : (k : ℕ) → k < i → has es (entry_at key k) ≡ true → IfSome (slice_get xs k) (λ x. P x → ⊥)

abbrev pub FindsListed : {X : Type 0} → (X → Type 0) → List X → List Entry → Entry → Option ℕ → Type 0
FindsListed P xs es key None = (k : ℕ) → has es (entry_at key k) ≡ true → IfSome (slice_get xs k) (λ x. P x → ⊥)
FindsListed P xs es key (Some i) = IsFirstListed P xs es key i

-- ---- the places under a key, one after the other

-- the first place from one on, and before another, that has an entry under the key
pub record IsNextUnder (es : List Entry) (key : Entry) (start end i : ℕ) : Type 0 where
  pub behind : start ≤ i
  pub within : i < end
  pub listed : has es (entry_at key i) ≡ true
  pub before : (k : ℕ) → start ≤ k → k < i → has es (entry_at key k) ≡ true → ⊥

abbrev pub FindsUnder : List Entry → Entry → (start end : ℕ) → Option ℕ → Type 0
FindsUnder es key start end None = (k : ℕ) → start ≤ k → k < end → has es (entry_at key k) ≡ true → ⊥
FindsUnder es key start end (Some i) = IsNextUnder es key start end i

-- ---- a walk through the entries of one major, by moments

-- moments within 2^61 microseconds of zero, in their order, from 2^32 on
abbrev pub order_of : Instant → ℕ
order_of t = unsigned_abs (t.micros +ℤ pos 2305843013508661248)

abbrev pub is_ordered : Instant → Bool
is_ordered t = int_le (negsuc 2305843009213693951) t.micros && int_le t.micros (pos 2305843009213693952)

abbrev pub ordered : Instant → Option ℕ
ordered t = if is_ordered t then Some (order_of t) else None

abbrev pub entry_of : ℕ → Instant → ℕ → Entry
entry_of major t k = record { major = major; minor = order_of t; place = k }

abbrev pub IsListedOf : List Entry → ℕ → Instant → ℕ → Type 0
IsListedOf es major u k = (is_ordered u ≡ true) × (has es (entry_of major u k) ≡ true)

-- R of the element at i and this moment, and of none that is listed with an earlier one
pub record IsEarliestListed {X : Type 0} (R : Instant → X → Type 0) (xs : List X) (es : List Entry) (major : ℕ) (i : ℕ)
    (t : Instant) : Type 0 where
  pub within : i < length xs
  pub holds : IfSome (slice_get xs i) (R t)
  pub others : (k : ℕ) (u : Instant) → IsListedOf es major u k
      → IfSome (slice_get xs k) (λ x. R u x → t.micros ≤ℤ u.micros)
  pub before : (k : ℕ) (u : Instant) → k < i → IsListedOf es major u k
      → IfSome (slice_get xs k) (λ x. R u x → t.micros <ℤ u.micros)

abbrev pub FindsEarliestListed : {X : Type 0} → (Instant → X → Type 0) → List X → List Entry → ℕ
    → Option (ℕ × Instant) → Type 0
FindsEarliestListed R xs es major None =
    (k : ℕ) (u : Instant) → IsListedOf es major u k → IfSome (slice_get xs k) (λ x. R u x → ⊥)
FindsEarliestListed R xs es major (Some p) = IsEarliestListed R xs es major p.0 p.1
