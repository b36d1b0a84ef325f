-- How many places a walk asks.
use Rattle.std.proofs.Common.{◌≡◌, ◌∙◌, ℕ, ◌+◌, ◌<◌, ◌≤◌, List, [], ◌∷◌, length, get_or, Bool, true, false, nat_eq, nat_lt, suc, zero, refl, sym, subst, ap, arith}
use Rattle.std.specs.Prelude.{◌-◌, ◌&&◌, if◌then◌else◌}
use Rattle.host_index.specs.declared.entry.Entry.{Entry}
use Rattle.host_index.specs.Entries.{Splits, nothing, rank, rank_at}
use Rattle.net_host.specs.Asking.{has_key, how_many}

one_if : Bool → ℕ
one_if b = if b then 1 else 0

next : (f : Entry → Bool) (e : Entry) (es : List Entry) → how_many f (e ∷ es) ≡ one_if (f e) + how_many f es
unfolding how_many one_if
next f e es = refl

one : (b : Bool) → b ≡ true → one_if b ≡ 1
unfolding one_if
one true h = refl
one false h = absurd (nay h)
  where
    nay : false ≡ true → ⊥
    nay e = cc

-- as many entries as stand one behind the other and have a property are among those that have it
counts : (f : Entry → Bool) (es : List Entry) (from n : ℕ) → from + n ≤ length es → ((j : ℕ) → from ≤ j → j < from + n → f (get_or es j nothing) ≡ true) → n ≤ how_many f es
counts f [] zero n within each = omega (arith, within)
counts f [] (suc k) n within each = absurd (omega (arith, within))
counts f (e ∷ es) (suc k) n within each =
    let rest : n ≤ how_many f es = counts f es k n (omega (arith, within)) (λ j a b. each (suc j) (omega (arith, a)) (omega (arith, b))) in
    let u = next f e es in
    omega (arith, rest, u)
counts f (e ∷ es) zero zero within each = omega arith
counts f (e ∷ es) zero (suc m) within each =
    let rest : m ≤ how_many f es = counts f es zero m (omega (arith, within)) (λ j a b. each (suc j) (omega (arith, a)) (omega (arith, b))) in
    let head : one_if (f e) ≡ 1 = one (f e) (each zero (omega arith) (omega arith)) in
    let u = next f e es in
    omega (arith, rest, head, u)

-- from one place of the order on and before another stand entries with a property, and no more were asked
pub record Ran (f : Entry → Bool) (es : List Entry) (from p old new : ℕ) : Type 0 where
  pub order : from ≤ p
  pub within : p ≤ length es
  pub each : (j : ℕ) → from ≤ j → j < p → f (get_or es j nothing) ≡ true
  pub count : new + from ≤ old + p

module _ (f : Entry → Bool) (es : List Entry) (from : ℕ) where
  pub ran_none : (n : ℕ) → from ≤ length es → Ran f es from from n n
  ran_none n within = record { order = omega arith; within = within; each = λ j a b. absurd (omega (arith, a, b)); count = omega arith }

  pub ran_on : (p old n m : ℕ) (e : Entry) → p < length es → Ran f es from p old n → e ≡ get_or es p nothing → f e ≡ true → m ≤ n + 1 → Ran f es from (p + 1) old m
  ran_on p old n m e inside r is has more = record {
    order = (let o = r.order in omega (arith, o));
    within = omega (arith, inside);
    each = λ j a b. go j a b (nat_lt j p) refl;
    count = (let c = r.count in omega (arith, c, more));
  }
    where
      go : (j : ℕ) → from ≤ j → j < p + 1 → (b : Bool) → nat_lt j p ≡ b → f (get_or es j nothing) ≡ true
      go j a b true q = r.each j a (grind (arith, q))
      go j a b false q =
          let least : p ≤ j = grind (arith, q) in
          let same : p ≡ j = omega (arith, b, least) in
          subst (λ i. f (get_or es i nothing) ≡ true) same (subst (λ d. f d ≡ true) is has)

  pub ran_done : (p old n : ℕ) → Ran f es from p old n → n ≤ old + how_many f es
  ran_done p old n r = go (p - from) (let o = r.order in omega (arith, o))
    where
      go : (k : ℕ) → from + k ≡ p → n ≤ old + how_many f es
      go k is =
          let all : k ≤ how_many f es = counts f es from k (let w = r.within in omega (arith, is, w)) (λ j a b. r.each j a (omega (arith, b, is))) in
          let c = r.count in
          omega (arith, all, c, is)

pub under_key : (e key : Entry) → e.major ≡ key.major → e.minor ≡ key.minor → has_key key e ≡ true
under_key e key a b = both (nat_eq e.major key.major) (nat_eq e.minor key.minor) (grind (arith, a)) (grind (arith, b))
  where
    both : (x y : Bool) → x ≡ true → y ≡ true → (x && y) ≡ true
    both true y h k = k
    both false y h k = h

pub same_major : (a b : ℕ) → a ≡ b → nat_eq a b ≡ true
same_major a b h = grind (arith, h)

-- no entry stands before a key from where those under it begin
pub none_before : (es : List Entry) (n from p : ℕ) (e : Entry) {P : Type 0} → Splits es n from → from ≤ p → p < length es → e ≡ get_or es p nothing → rank e < n → P
none_before es n from p e s order within is less =
    let above : n ≤ rank_at es p = s.above p order within in
    let same : rank e ≡ rank_at es p = ap rank is in
    absurd (omega (arith, above, same, less))
