-- How many keys are free.
use Rattle.std.proofs.Common.{◌≡◌, ◌∙◌, ℕ, ◌+◌, ◌*◌, ◌<◌, ◌≤◌, Bool, true, false, nat_eq, suc, zero, refl, sym, ap, arith}
use Rattle.std.specs.Prelude.{if◌then◌else◌}
use Rattle.host_index.specs.Columns.{how_many}

one_if : Bool → ℕ
one_if b = if b then 1 else 0

equal : (m n : ℕ) → nat_eq m n ≡ true → m ≡ n
equal m n h = grind (arith, h)

apart : (m n : ℕ) → m < n → nat_eq m n ≡ false
apart m n h = grind (arith, h)

below : (m n : ℕ) → n < suc m → nat_eq m n ≡ false → n < m
below m n h e = grind (arith, h, e)

next : (f : ℕ → Bool) (m : ℕ) → how_many f (suc m) ≡ one_if (f m) + how_many f m
unfolding how_many one_if
next f m = refl

same_below : (f g : ℕ → Bool) (n m : ℕ) → m ≤ n → ((k : ℕ) → nat_eq k n ≡ false → g k ≡ f k) → how_many f m ≡ how_many g m
unfolding how_many
same_below f g n zero less others = refl
same_below f g n (suc m) less others =
    let a : one_if (f m) ≡ one_if (g m) = ap one_if (sym (others m (apart m n (omega (arith, less))))) in
    let b : how_many f m ≡ how_many g m = same_below f g n m (omega (arith, less)) others in
    let u = next f m in
    let v = next g m in
    omega (arith, a, b, u, v)

-- one that had it has it no more
pub one_less : (f g : ℕ → Bool) (n m : ℕ) → n < m → f n ≡ true → g n ≡ false → ((k : ℕ) → nat_eq k n ≡ false → g k ≡ f k) → how_many f m ≡ how_many g m + 1
unfolding one_if
one_less f g n zero less was now others = absurd (omega (arith, less))
one_less f g n (suc m) less was now others = go (nat_eq m n) refl (λ h. one_less f g n m h was now others)
  where
    go : (b : Bool) → nat_eq m n ≡ b → (n < m → how_many f m ≡ how_many g m + 1) → how_many f (suc m) ≡ how_many g (suc m) + 1
    go true e rest =
        let is : m ≡ n = equal m n e in
        let a : one_if (f m) ≡ 1 = ap one_if (ap f is ∙ was) in
        let b : one_if (g m) ≡ 0 = ap one_if (ap g is ∙ now) in
        let c : how_many f m ≡ how_many g m = same_below f g n m (omega (arith, is)) others in
        let u = next f m in
        let v = next g m in
        omega (arith, a, b, c, u, v)
    go false e rest =
        let a : one_if (f m) ≡ one_if (g m) = ap one_if (sym (others m e)) in
        let c : how_many f m ≡ how_many g m + 1 = rest (below m n less e) in
        let u = next f m in
        let v = next g m in
        omega (arith, a, c, u, v)

pub some : (f : ℕ → Bool) (n m : ℕ) → n < m → f n ≡ true → 0 < how_many f m
unfolding one_if
some f n zero less is = absurd (omega (arith, less))
some f n (suc m) less is = go (nat_eq m n) refl (λ h. some f n m h is)
  where
    go : (b : Bool) → nat_eq m n ≡ b → (n < m → 0 < how_many f m) → 0 < how_many f (suc m)
    go true e rest =
        let a : one_if (f m) ≡ 1 = ap one_if (ap f (equal m n e) ∙ is) in
        let u = next f m in
        omega (arith, a, u)
    go false e rest =
        let c : 0 < how_many f m = rest (below m n less e) in
        let u = next f m in
        omega (arith, c, u)

pub all : (f : ℕ → Bool) (m : ℕ) → ((k : ℕ) → k < m → f k ≡ true) → how_many f m ≡ m
unfolding how_many one_if
all f zero is = refl
all f (suc m) is =
    let a : one_if (f m) ≡ 1 = ap one_if (is m (omega arith)) in
    let b : how_many f m ≡ m = all f m (λ k less. is k (omega (arith, less))) in
    let u = next f m in
    omega (arith, a, b, u)
