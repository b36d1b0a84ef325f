-- An index stays complete.
use Rattle.std.proofs.Common.{◌≡◌, ◌∙◌, ◌≤◌, ℕ, List, Bool, true, length, refl, ap, arith}
use Rattle.std.specs.Prelude.{◌&&◌, min}
use Rattle.host_index.specs.Filing.{Filing, SameMemory, places_of}
use Rattle.net_host.specs.Refiling.{IsWhole, StaysWhole}

both_true : (a b : Bool) → a ≡ true → b ≡ true → (a && b) ≡ true
both_true a b g h = ap (λ x. x && b) g ∙ h

-- one place is filed anew
pub one_filed : {X : Type 0} (xs : List X) (c f d : Bool) (i j : Filing) → d ≡ (c && f) → SameMemory i j → (length xs ≤ places_of i → f ≡ true) → StaysWhole xs c i d j
one_filed xs c f d i j is memory filed = record {
  whole = λ was within. is ∙ both_true c f was (filed within);
  memory = memory;
}

-- none is
pub none_filed : {X : Type 0} (xs : List X) (c : Bool) (i : Filing) → StaysWhole xs c i c i
none_filed xs c i = record {
  whole = λ was within. was;
  memory = record { room = refl; firsts = refl; columns = record { majors = refl; minors = refl; doors = refl; moments = refl; places = refl } };
}

pub still_whole : {X : Type 0} (xs : List X) (c f d : Bool) (i j : Filing) → d ≡ (c && f) → SameMemory i j → (length xs ≤ places_of i → f ≡ true) → IsWhole c (places_of i) (length xs) → IsWhole d (places_of j) (length xs)
still_whole xs c f d i j is memory filed w = record {
  places_for = memory.columns.places ∙ w.places_for;
  whole = λ few. is ∙ both_true c f (w.whole few) (filed (room few));
}
  where
    room : length xs ≤ 1073741824 → length xs ≤ places_of i
    room few = let places : places_of i ≡ min (length xs) 1073741824 = w.places_for in omega (arith, few, places)
