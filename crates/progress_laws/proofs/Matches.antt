-- Bytes that stand in a list so far behind its first, place by place.
use Rattle.std.proofs.Common.{◌≡◌, ℕ, zero, suc, ◌+◌, ◌-◌, ◌≤◌, Bool, true, false, cond, refl, sym, ap, subst, ◌∙◌, List, [], ◌∷◌, ◌++◌, length, take, drop, slice_get, get_or, Option, Some, None, inl, inr, arith}
use Rattle.std.specs.Prelude.{if◌then◌else◌}
use Rattle.std.proofs.lemmas.Bool.{cases_lt}
use Rattle.std.proofs.lemmas.Bool.Decides.{nat_tests}
use Rattle.std.proofs.lemmas.Option.{none-some, same_Some, slice_get-get_or, slice_get_within}
use Rattle.net_base.specs.Ranges.{is_within}
use Rattle.sock_core.specs.Received.{Received, TakesIn, byte_at, merged, room_of}

abbrev pub IsPart : List ℕ → List ℕ → ℕ → Type 0
IsPart xs l n = (k b : ℕ) → slice_get xs k ≡ Some b → slice_get l (n + k) ≡ Some b

abbrev pub HoldsPart : List (Option ℕ) → List ℕ → ℕ → Type 0
HoldsPart hs l n = (k b : ℕ) → byte_at hs k ≡ Some b → slice_get l (n + k) ≡ Some b

get_take : (xs : List ℕ) (n k b : ℕ) → slice_get (take n xs) k ≡ Some b → slice_get xs k ≡ Some b
get_take xs zero k b e = absurd (none-some b e)
get_take [] (suc n) k b e = e
get_take (x ∷ xs) (suc n) zero b e = e
get_take (x ∷ xs) (suc n) (suc k) b e = get_take xs n k b e

pub get_drop : (xs : List ℕ) (n k : ℕ) → slice_get (drop n xs) k ≡ slice_get xs (n + k)
get_drop xs zero k = ap (slice_get xs) {x = k} {y = 0 + k} (omega arith)
get_drop [] (suc n) k = refl
get_drop (x ∷ xs) (suc n) k = get_drop xs n k ∙ ap (slice_get (x ∷ xs)) {x = suc (n + k)} {y = suc n + k} (omega arith)

first_drop : (l : List ℕ) (n b : ℕ) → slice_get l n ≡ Some b → drop n l ≡ b ∷ drop (suc n) l
first_drop [] n b e = absurd (none-some b e)
first_drop (x ∷ l) zero b e = ap (λ (c : ℕ). c ∷ l) (same_Some x b e)
first_drop (x ∷ l) (suc n) b e = first_drop l n b e

-- they are the beginning of what stands there
pub part_whole : (xs l : List ℕ) (n : ℕ) → n ≤ length l → IsPart xs l n → (xs ++ drop (n + length xs) l ≡ drop n l) × (n + length xs ≤ length l)
part_whole [] l n few h = (ap (λ m. drop m l) {x = n + 0} {y = n} (omega arith), omega (arith, few))
part_whole (x ∷ xs) l n few h =
    let first : slice_get l n ≡ Some x = subst (λ m. slice_get l m ≡ Some x) {x = n + 0} {y = n} (omega arith) (h zero x refl) in
    let rest : (xs ++ drop (suc n + length xs) l ≡ drop (suc n) l) × (suc n + length xs ≤ length l) = part_whole xs l (suc n) (omega (arith, slice_get_within l n x first)) (λ k b e. subst (λ m. slice_get l m ≡ Some b) {x = n + suc k} {y = suc n + k} (omega arith) (h (suc k) b e)) in
    (ap (λ (m : ℕ). x ∷ xs ++ drop m l) {x = n + length (x ∷ xs)} {y = suc n + length xs} (omega arith) ∙ ap (λ (ys : List ℕ). x ∷ ys) rest.0 ∙ sym (first_drop l n x first), omega (arith, rest.1))

-- what is cut, behind n bytes, out of a beginning
pub cut_part : (xs l : List ℕ) (m c n : ℕ) → xs ≡ take m l → IsPart (take c (drop n xs)) l n
cut_part xs l m c n is k b e = get_take l m (n + k) b (subst (λ ys. slice_get ys (n + k) ≡ Some b) is (sym (get_drop xs n k) ∙ get_take (drop n xs) c k b e))

merged_part : (hs : List (Option ℕ)) (o : ℕ) (bs l : List ℕ) (n : ℕ) → o ≡ 0 → IsPart bs l n → HoldsPart hs l n → (k b : ℕ) → merged hs o bs k ≡ Some b → slice_get l (n + k) ≡ Some b
merged_part hs o bs l n first part holds k b e = go (is_within o (o + length bs) k) e
  where
    go : (t : Bool) → (if t then slice_get bs (k - o) else byte_at hs k) ≡ Some b → slice_get l (n + k) ≡ Some b
    go true e = part k b (ap (slice_get bs) {x = k} {y = k - o} (omega (arith, first)) ∙ e)
    go false e = holds k b e

-- ---- bytes that come into a buffer

-- a run of what stands there joins the queue, and what is held then stands behind it
pub record Grows (old new : Received) (l : List ℕ) (n : ℕ) : Type 0 where
  pub run : List ℕ
  pub queue : new.bytes ≡ old.bytes ++ run
  pub whole : run ++ drop (n + length run) l ≡ drop n l
  pub within : n + length run ≤ length l
  pub held : HoldsPart new.held l (n + length run)
  pub room : room_of new ≡ room_of old

module _ (old new : Received) (o : ℕ) (bs : List ℕ) (t : TakesIn old new o bs) (first : o ≡ 0) where
  pub grows : (l : List ℕ) (n : ℕ) → n ≤ length l → IsPart bs l n → HoldsPart old.held l n → Grows old new l n
  grows l n few part holds =
      let w = part_whole t.run l n few (λ k b e. merged_part old.held o bs l n first part holds k b (sym (t.joined k (slice_get_within t.run k b e)) ∙ e)) in
      record {
        run = t.run;
        queue = t.queue;
        whole = w.0;
        within = w.1;
        held = λ k b e. subst (λ m. slice_get l m ≡ Some b) {x = n + (length t.run + k)} {y = n + length t.run + k} (omega arith) (merged_part old.held o bs l n first part holds (length t.run + k) b (sym (t.held k) ∙ e));
        room = t.room;
      }

  -- all of the bytes are in the run
  pub all_join : length bs ≤ length t.run
  all_join = elim (cases_lt (length t.run) (length bs)) [
    | inl low ↦
        let near : is_within o (o + length bs) (length t.run) ≡ true = grind (arith, nat_tests, low, first) in
        let none : slice_get bs (length t.run - o) ≡ None = ap (λ b. cond b (slice_get bs (length t.run - o)) (byte_at old.held (length t.run))) (sym near) ∙ t.stops in
        absurd (none-some (get_or bs (length t.run - o) 0) (sym none ∙ slice_get-get_or bs (length t.run - o) 0 (omega (arith, low))))
    | inr high ↦ high
  ]
