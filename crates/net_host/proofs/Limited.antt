-- In any second at most a hundred answers go out: each takes 20 milliseconds, which lie in that second or in the next.
use Rattle.std.proofs.Common.{◌≡◌, ◌∙◌, ℕ, ℤ, ◌+◌, ◌*◌, ◌/◌, ◌<◌, ◌≤◌, ◌&&◌, nat_eq, List, [], ◌∷◌, length, Bool, true, false, ◌⊎◌, inl, inr, ⊎_elim, refl, subst, sym, arith}
use Rattle.std.specs.Prelude.{pos, ◌+ℤ◌, ◌<ℤ◌, ◌≤ℤ◌, int_le, int_lt, if◌then◌else◌}
use Rattle.std.proofs.lemmas.Int.{ints}
use Rattle.std.proofs.lemmas.Bool.{and_parts}
use Rattle.net_base.specs.declared.time.Instant.{Instant}
use Rattle.std.proofs.lemmas.List.{get_or-set_other, get_or-set_same, length-set}
use Rattle.host_bounds.specs.Bounding.{at_once}
use Rattle.net_host.specs.Limits.{AnswersAreLimited, allows, allows_in, gone, in_second, later, next_seed, bucket_of, spent, taken_in, takes, until_of}
use Rattle.net_host.specs.declared.limit.Limit.{Limit}

-- the time that so many answers take behind this moment ends before the next second does
record Ends (start until : ℤ) (n : ℕ) : Type 0 where
  few : n < 100
  before : (until +ℤ pos (n * 20000)) <ℤ (start +ℤ pos 2000000)

abbrev Lies : ℤ → ℤ → ℕ → Type 0
Lies start until n = (n ≡ 0) ⊎ Ends start until n

first_later : (t u : ℤ) → t ≤ℤ later t u
first_later t u = go (int_le t u) refl
  where
    go : (b : Bool) → int_le t u ≡ b → t ≤ℤ (if b then u else t)
    go true e = omega (arith, ints)
    go false e = omega (arith, ints)

second_later : (t u : ℤ) → u ≤ℤ later t u
second_later t u = go (int_le t u) refl
  where
    go : (b : Bool) → int_le t u ≡ b → u ≤ℤ (if b then u else t)
    go true e = omega (arith, ints)
    go false e = omega (arith, ints)

-- time is taken from a later moment on
sooner : (start u v : ℤ) (n : ℕ) → u ≤ℤ v → Lies start v n → Lies start u n
sooner start u v n h = ⊎_elim (λ z. inl z) (λ e. inr (let b : (v +ℤ pos (n * 20000)) <ℤ (start +ℤ pos 2000000) = e.before in record { few = e.few; before = omega (arith, ints, h, b) }))

-- one more, in that second
one_more : (start u now : ℤ) (n : ℕ) → u ≤ℤ (now +ℤ pos 980000) → start ≤ℤ now → now <ℤ (start +ℤ pos 1000000) → Lies start (later u now +ℤ pos 20000) n → Lies start u (1 + n)
one_more start u now n ahead from below = ⊎_elim (λ z. inr (record { few = omega (arith, z); before = omega (arith, ints, z, ahead, below) })) (λ e. inr (go (later u now) (first_later u now) (second_later u now) e.few e.before))
  where
    go : (v : ℤ) → u ≤ℤ v → now ≤ℤ v → n < 100 → ((v +ℤ pos 20000) +ℤ pos (n * 20000)) <ℤ (start +ℤ pos 2000000) → Ends start u (1 + n)
    go v h k few b = record { few = omega (arith, ints, k, from, b); before = omega (arith, ints, h, b) }

as_many : (start u : ℤ) (n : ℕ) → Lies start u n → Lies start u (0 + n)
as_many start u n h = let same : n ≡ 0 + n = omega arith in subst (Lies start u) same h

-- an answer that takes longer
longer : (start u now : ℤ) (more n : ℕ) → u ≤ℤ (now +ℤ pos 980000) → start ≤ℤ now → now <ℤ (start +ℤ pos 1000000) → Lies start (later u now +ℤ pos (20000 + more)) n → Lies start u (1 + n)
longer start u now more n ahead from below h = one_more start u now n ahead from below (sooner start (later u now +ℤ pos 20000) (later u now +ℤ pos (20000 + more)) n (omega (arith, ints)) h)

step : (start u now : ℤ) (more : ℕ) (a b : Bool) (n : ℕ) → int_le u (now +ℤ pos 980000) ≡ a → (int_le start now && int_lt now (start +ℤ pos 1000000)) ≡ b → Lies start (if a then later u now +ℤ pos (20000 + more) else u) n → Lies start u ((if b && a then 1 else 0) + n)
step start u now more true true n e f h =
    let p = and_parts (int_le start now) (int_lt now (start +ℤ pos 1000000)) f in
    longer start u now more n (omega (arith, ints, e)) (let q : int_le start now ≡ true = p.0 in omega (arith, ints, q)) (let q : int_lt now (start +ℤ pos 1000000) ≡ true = p.1 in omega (arith, ints, q)) h
step start u now more true false n e f h = as_many start u n (sooner start u (later u now +ℤ pos (20000 + more)) n (let q : u ≤ℤ later u now = first_later u now in omega (arith, ints, q)) h)
step start u now more false true n e f h = as_many start u n h
step start u now more false false n e f h = as_many start u n h

-- ---- of a bucket

not_same : (c b : ℕ) → nat_eq c b ≡ false → b ≡ c → ⊥
not_same c b e t = grind (arith, e, t)

module _ (start : ℤ) (b : ℕ) (within : b < 16) where
  -- what is asked for of this bucket
  here : (l : Limit) (now : Instant) (a : Bool) (n : ℕ) → length l.until ≡ 16 → allows_in l b now ≡ a → Lies start (until_of (if a then taken_in l b now else l) b) n → Lies start (until_of l b) ((if in_second start now && a then 1 else 0) + n)
  here l now true n len e h = step start (until_of l b) now.micros (next_seed l.seed / 1125899906842624) true (in_second start now) n e refl (subst (λ t. Lies start t n) (get_or-set_same l.until b (later (until_of l b) now.micros +ℤ takes (next_seed l.seed)) at_once (omega (arith, within, len))) h)
  here l now false n len e h = step start (until_of l b) now.micros 0 false (in_second start now) n e refl h

  -- and of another
  elsewhere : (l : Limit) (c : ℕ) (now : Instant) (a : Bool) (n : ℕ) → nat_eq c b ≡ false → Lies start (until_of (if a then taken_in l c now else l) b) n → Lies start (until_of l b) (0 + n)
  elsewhere l c now true n e h =
      as_many start (until_of l b) n (subst (λ t. Lies start t n) (get_or-set_other l.until c b (later (until_of l c) now.micros +ℤ takes (next_seed l.seed)) at_once (λ t. not_same c b e t)) h)
  elsewhere l c now false n e h = as_many start (until_of l b) n h

  one : (l : Limit) (c : ℕ) (now : Instant) (q : Bool) (n : ℕ) → length l.until ≡ 16 → nat_eq c b ≡ q → Lies start (until_of (if allows_in l c now then taken_in l c now else l) b) n → Lies start (until_of l b) ((if q && (in_second start now && allows_in l c now) then 1 else 0) + n)
  one l c now true n len e h =
      let s : c ≡ b = grind (arith, e) in
      subst (λ d. Lies start (until_of (if allows_in l d now then taken_in l d now else l) b) n → Lies start (until_of l b) ((if in_second start now && allows_in l d now then 1 else 0) + n)) (sym s) (λ k. here l now (allows_in l b now) n len refl k) h
  one l c now false n len e h = elsewhere l c now (allows_in l c now) n e h

  as_long : (l : Limit) (c : ℕ) (now : Instant) (a : Bool) → length l.until ≡ 16 → length (if a then taken_in l c now else l).until ≡ 16
  as_long l c now true len = length-set l.until c (later (until_of l c) now.micros +ℤ takes (next_seed l.seed)) ∙ len
  as_long l c now false len = len

  lies : (asked : List (ℕ × Instant)) (l : Limit) → length l.until ≡ 16 → Lies start (until_of l b) (gone start b l asked)
  unfolding gone
  lies [] l len = inl refl
  lies (e ∷ rest) l len = one l (bucket_of l.key e.0) e.1 (nat_eq (bucket_of l.key e.0) b) (gone start b (spent l e.0 e.1) rest) len refl (lies rest (spent l e.0 e.1) (as_long l (bucket_of l.key e.0) e.1 (allows l e.0 e.1) len))

few_of : (start u : ℤ) (n : ℕ) → Lies start u n → n ≤ 100
few_of start u n = ⊎_elim (λ z. omega (arith, z)) (λ e. let f : n < 100 = e.few in omega (arith, f))

pub limited : AnswersAreLimited
limited start b l asked within len = few_of start (until_of l b) (gone start b l asked) (lies start b within asked l len)
