-- After a walk no place is touched.
use Rattle.std.proofs.Common.{◌≡◌, ◌∙◌, ℕ, ℤ, ◌+◌, ◌<◌, ◌≤◌, ◌<ℤ◌, List, length, Bool, true, false, nat_eq, nat_lt, refl, sym, subst, ap, arith}
use Rattle.std.specs.Prelude.{slice_set}
use Rattle.std.proofs.lemmas.Int.{ints}
use Rattle.std.proofs.lemmas.Grind.{get_or-set_at}
use Rattle.std.proofs.lemmas.List.{get_or-set_other, length-set}
use Rattle.host_bounds.specs.Bounding.{KeepsBut, at_once, bound_at}
use Rattle.sock_core.specs.Bounds.{IsMoment}
use Rattle.net_host.specs.Touching.{NoneIsMarked, UnmarksIn}

-- ---- one place

pub keeps_same : (i : ℕ) (bs cs : List ℤ) → cs ≡ bs → KeepsBut i bs cs
keeps_same i bs cs e = record { len = ap length e; others = λ k other. ap (λ ds. bound_at ds k) e }

pub keeps_set : (i : ℕ) (bs cs : List ℤ) (b : ℤ) → cs ≡ slice_set bs i b → KeepsBut i bs cs
keeps_set i bs cs b e = record {
  len = ap length e ∙ length-set bs i b;
  others = λ k other. ap (λ ds. bound_at ds k) e ∙ get_or-set_other bs i k b at_once (λ same. absurd (grind (arith, other, same)));
}

pub keeps_then : (i : ℕ) (bs cs ds : List ℤ) → KeepsBut i bs cs → KeepsBut i cs ds → KeepsBut i bs ds
keeps_then i bs cs ds one two = record { len = two.len ∙ one.len; others = λ k other. two.others k other ∙ one.others k other }

pub set_later : (i : ℕ) (bs cs : List ℤ) (b : ℤ) → i < length bs → at_once <ℤ b → cs ≡ slice_set bs i b → at_once <ℤ bound_at cs i
set_later i bs cs b within later e =
    let is : bound_at cs i ≡ b = ap (λ ds. bound_at ds i) e ∙ get_or-set_at bs i i b at_once refl within in
    subst (λ m. at_once <ℤ m) (sym is) later

pub after_now : (now b : ℤ) → IsMoment now → now <ℤ b → at_once <ℤ b
after_now now b lawful later = grind (arith, ints, lawful.0, later)

-- ---- a walk

pub unmarks_none : (start : ℕ) (bs : List ℤ) → UnmarksIn start start bs bs
unmarks_none start bs = record {
  len = refl;
  here = λ k h l. absurd (omega (arith, h, l));
  before = λ k h. refl;
  behind = λ k h. refl;
}

module _ (start from : ℕ) (bs cs : List ℤ) (u : UnmarksIn start from bs cs) where
  -- those up to i are not marked, and then i is not
  pub unmarks_next : (i : ℕ) (ds : List ℤ) → start ≤ from → from ≤ i → ((k : ℕ) → from ≤ k → k < i → at_once <ℤ bound_at cs k) → KeepsBut i cs ds → at_once <ℤ bound_at ds i → UnmarksIn start (i + 1) bs ds
  unmarks_next i ds order behind more keeps last = record {
    len = keeps.len ∙ u.len;
    here = λ k h l. go k h l (nat_eq k i) refl;
    before = λ k h. let other : nat_eq k i ≡ false = grind (arith, h, order, behind) in keeps.others k other ∙ u.before k h;
    behind = λ k h. let other : nat_eq k i ≡ false = grind (arith, h) in keeps.others k other ∙ u.behind k (omega (arith, h, behind));
  }
    where
      by : (k : ℕ) → start ≤ k → k < i → (b : Bool) → nat_lt k from ≡ b → at_once <ℤ bound_at cs k
      by k h l true e = u.here k h (grind (arith, e))
      by k h l false e = more k (grind (arith, e)) l

      go : (k : ℕ) → start ≤ k → k < i + 1 → (b : Bool) → nat_eq k i ≡ b → at_once <ℤ bound_at ds k
      go k h l true e = let at : i ≡ k = grind (arith, e) in subst (λ j. at_once <ℤ bound_at ds j) at last
      go k h l false e =
          let less : k < i = grind (arith, e, l) in
          subst (λ m. at_once <ℤ m) (sym (keeps.others k e)) (by k h less (nat_lt k from) refl)

  -- those up to the end are not
  pub unmarks_all : (end : ℕ) → start ≤ from → (start < from → from ≤ end) → ((k : ℕ) → from ≤ k → k < end → at_once <ℤ bound_at cs k) → UnmarksIn start end bs cs
  unmarks_all end order limit more = record {
    len = u.len;
    here = λ k h l. go k h l (nat_lt k from) refl;
    before = u.before;
    behind = λ k h. past k h (nat_lt k from) refl (nat_lt k start) refl;
  }
    where
      go : (k : ℕ) → start ≤ k → k < end → (b : Bool) → nat_lt k from ≡ b → at_once <ℤ bound_at cs k
      go k h l true e = u.here k h (grind (arith, e))
      go k h l false e = more k (grind (arith, e)) l

      past : (k : ℕ) → end ≤ k → (b : Bool) → nat_lt k from ≡ b → (c : Bool) → nat_lt k start ≡ c → bound_at cs k ≡ bound_at bs k
      past k h false e c f = u.behind k (grind (arith, e))
      past k h true e true f = u.before k (grind (arith, f))
      past k h true e false f =
          let less : start < from = grind (arith, e, f) in
          let within : from ≤ end = limit less in
          absurd (grind (arith, e, h, within))

-- from one place on, and then before it
pub all_unmarked : (start count : ℕ) (bs cs ds : List ℤ) → UnmarksIn start count bs cs → UnmarksIn 0 start cs ds → length bs ≡ count → NoneIsMarked ds
all_unmarked start count bs cs ds one two many k within = go (nat_lt k start) refl
  where
    len : length ds ≡ count
    len = two.len ∙ one.len ∙ many

    go : (b : Bool) → nat_lt k start ≡ b → at_once <ℤ bound_at ds k
    go true e = two.here k (omega arith) (grind (arith, e))
    go false e = subst (λ m. at_once <ℤ m) (sym (two.behind k (grind (arith, e)))) (one.here k (grind (arith, e)) (omega (arith, within, len)))
