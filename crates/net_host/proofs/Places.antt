-- Each place is filed, whatever is done to one of them.
use Rattle.std.proofs.Common.{◌≡◌, ◌∙◌, ℕ, ◌<◌, ◌≤◌, ◌/◌, List, [], ◌∷◌, length, Bool, true, false, not, nat_eq, nat_lt, suc, zero, Option, Some, None, refl, sym, subst, ap, arith}
use Rattle.std.specs.Prelude.{IfSome, IfNone, slice_get, slice_set, ◌&&◌, ◌||◌, if◌then◌else◌}
use Rattle.std.specs.List.{All}
use Rattle.std.proofs.lemmas.Bool.{and_parts}
use Rattle.std.proofs.lemmas.List.Elements.{All-get_or}
use Rattle.std.proofs.lemmas.Option.{get_or_from_slice_get, slice_get_within}
use Rattle.host_index.specs.declared.entry.Entry.{Entry}
use Rattle.net_host.specs.declared.key.Key.{Key}
use Rattle.net_host.specs.declared.key.Key.TheVariants as key
use Rattle.net_host.specs.declared.key.Keys.{Keys}
use Rattle.host_index.specs.Entries.{KeepsElsewhere, entry_at}
use Rattle.net_host.specs.Indexing.{AreFiledBefore, IsIndexed, IsLentAt, IsSettled, KeepsMarks, are_filed, is_filed, is_kept, is_kept_of, is_noted, is_noted_of, is_under, lent_of, no_keys}
use Rattle.host_bounds.specs.Marking.{bit_of}
use Rattle.net_host.specs.Walks.{Both, ChangesAt, ChangesEach}
use Rattle.net_host.proofs.Each.{elsewhere}

false_not_true : false ≡ true → ⊥
false_not_true e = cc

both : (a b : Bool) → a ≡ true → b ≡ true → (a && b) ≡ true
both true b h k = k
both false b h k = h

-- ---- keys

pub under_kept : (place : ℕ) (es fs : List Entry) (k : ℕ) → KeepsElsewhere place es fs → nat_eq k place ≡ false → (q : Key) → is_under es k q ≡ true → is_under fs k q ≡ true
under_kept place es fs k keep other key.Nothing h = refl
under_kept place es fs k keep other (key.Under e) h = keep (entry_at e k) other h

keys_kept : (place : ℕ) (es fs : List Entry) (k : ℕ) → KeepsElsewhere place es fs → nat_eq k place ≡ false → (q : Keys) → are_filed es k q ≡ true → are_filed fs k q ≡ true
keys_kept place es fs k keep other q h =
    let p = and_parts (is_under es k q.first) (is_under es k q.second) h in
    both (is_under fs k q.first) (is_under fs k q.second) (under_kept place es fs k keep other q.first p.0) (under_kept place es fs k keep other q.second p.1)

-- ---- marks

mark_kept : (place : ℕ) (ws us : List ℕ) (k : ℕ) → KeepsMarks place ws us → nat_eq k place ≡ false → (free : Bool) → is_noted ws k free ≡ true → is_noted us k free ≡ true
mark_kept place ws us k marks other free h =
    subst (λ n. (nat_lt (k / 64) n && (not free || nat_eq (bit_of us k) 1)) ≡ true) (sym marks.len)
    (subst (λ b. (nat_lt (k / 64) (length ws) && (not free || nat_eq b 1)) ≡ true) (sym (marks.others k other)) h)

pub noted_on : (ws : List ℕ) (k : ℕ) → k / 64 < length ws → bit_of ws k ≡ 1 → is_noted ws k true ≡ true
noted_on ws k room on = both (nat_lt (k / 64) (length ws)) (nat_eq (bit_of ws k) 1) (grind (arith, room)) (grind (arith, on))

set_none : {X : Type 0} (xs : List X) (i : ℕ) (x : X) → slice_get xs i ≡ None → slice_set xs i x ≡ xs
set_none [] i x h = refl
set_none (y ∷ ys) zero x h = cc
set_none (y ∷ ys) (suc i) x h = ap (λ zs. y ∷ zs) (set_none ys i x h)

none_past : {X : Type 0} (xs : List X) (i : ℕ) → slice_get xs i ≡ None → length xs ≤ i
none_past [] i h = omega arith
none_past (x ∷ xs) zero h = cc
none_past (x ∷ xs) (suc i) h = let rest : length xs ≤ i = none_past xs i h in omega (arith, rest)

all_at : {X : Type 0} (P : X → Type 0) (xs : List X) (k : ℕ) → All P xs → IfSome (slice_get xs k) P
all_at {X = X} P xs k h = go (slice_get xs k) refl
  where
    go : (o : Option X) → slice_get xs k ≡ o → IfSome o P
    go None e = tt
    go (Some x) e =
        let within : k < length xs = slice_get_within xs k x e in
        subst P (get_or_from_slice_get xs k x x e) (All-get_or P xs k x within h)

-- nothing is known of what is not settled
pub unsettled : {P : Type 0} {b : Bool} → b ≡ false → b ≡ true → P
unsettled off on = absurd (false_not_true (sym off ∙ on))

module _ {X : Type 0} (keys_of : X → Keys) where
  -- ---- places

  slot_kept : (place : ℕ) (es fs : List Entry) (ws us : List ℕ) (k : ℕ) (complete filed : Bool) → KeepsElsewhere place es fs → KeepsMarks place ws us → nat_eq k place ≡ false → (o : Option X) → is_kept_of keys_of complete es ws k o ≡ true → is_kept_of keys_of (complete && filed) fs us k o ≡ true
  slot_kept place es fs ws us k complete filed keep marks other None h = refl
  slot_kept place es fs ws us k complete filed keep marks other (Some s) h =
      let p = and_parts (not complete || are_filed es k (keys_of s)) (is_noted ws k (keys_of s).free) h in
      both (not (complete && filed) || are_filed fs k (keys_of s)) (is_noted us k (keys_of s).free) (in_order complete filed p.0) (mark_kept place ws us k marks other (keys_of s).free p.1)
    where
      in_order : (c d : Bool) → (not c || are_filed es k (keys_of s)) ≡ true → (not (c && d) || are_filed fs k (keys_of s)) ≡ true
      in_order false d h = refl
      in_order true false h = refl
      in_order true true h = keys_kept place es fs k keep other (keys_of s) h

  -- ---- what was lent comes back

  comes_back : (complete filed : Bool) (l : ℕ) (fs : List Entry) (us : List ℕ) (o : Option X) → (filed ≡ true → is_filed keys_of fs l o ≡ true) → is_noted_of keys_of us l o ≡ true → is_kept_of keys_of (complete && filed) fs us l o ≡ true
  comes_back complete filed l fs us None back noted = refl
  comes_back complete filed l fs us (Some s) back noted = both (not (complete && filed) || are_filed fs l (keys_of s)) (is_noted us l (keys_of s).free) (in_order complete filed back) noted
    where
      in_order : (c d : Bool) → (d ≡ true → are_filed fs l (keys_of s) ≡ true) → (not (c && d) || are_filed fs l (keys_of s)) ≡ true
      in_order false d back = refl
      in_order true false back = refl
      in_order true true back = back refl

  pub settled : (complete filed : Bool) (l : ℕ) (ss : List X) (es fs : List Entry) (ws us : List ℕ) → IsIndexed keys_of complete (Some l) ss es ws → KeepsElsewhere l es fs → (filed ≡ true → is_filed keys_of fs l (slice_get ss l) ≡ true) → KeepsMarks l ws us → is_noted_of keys_of us l (slice_get ss l) ≡ true → IsIndexed keys_of (complete && filed) None ss fs us
  settled complete filed l ss es fs ws us before keep back marks noted = λ k. by k (nat_eq k l) refl (before k)
    where
      by : (k : ℕ) (b : Bool) → nat_eq k l ≡ b → (if b then nat_lt (k / 64) (length ws) else is_kept_of keys_of complete es ws k (slice_get ss k)) ≡ true → is_kept_of keys_of (complete && filed) fs us k (slice_get ss k) ≡ true
      by k true e h =
          let same : l ≡ k = grind (arith, e) in
          subst (λ j. is_kept_of keys_of (complete && filed) fs us j (slice_get ss j) ≡ true) same (comes_back complete filed l fs us (slice_get ss l) back noted)
      by k false e h = slot_kept l es fs ws us k complete filed keep marks e (slice_get ss k) h

  -- a place that is lent has a mark
  pub lent_room : (complete : Bool) (lent : Option ℕ) (l : ℕ) (ss : List X) (es : List Entry) (ws : List ℕ) → lent ≡ Some l → IsIndexed keys_of complete lent ss es ws → l / 64 < length ws
  lent_room complete lent l ss es ws is h =
      let here : (if nat_eq l l then nat_lt (l / 64) (length ws) else is_kept_of keys_of complete es ws l (slice_get ss l)) ≡ true = subst (λ o. IsIndexed keys_of complete o ss es ws) is h l in
      let same : nat_eq l l ≡ true = grind arith in
      let room : nat_lt (l / 64) (length ws) ≡ true = subst (λ b. (if b then nat_lt (l / 64) (length ws) else is_kept_of keys_of complete es ws l (slice_get ss l)) ≡ true) same here in
      grind (arith, room)

  -- each place has a mark
  pub place_room : (complete : Bool) (lent : Option ℕ) (k : ℕ) (ss : List X) (es : List Entry) (ws : List ℕ) → k < length ss → IsIndexed keys_of complete lent ss es ws → k / 64 < length ws
  place_room complete lent k ss es ws within h = go lent h
    where
      noted : (o : Option X) → slice_get ss k ≡ o → is_kept_of keys_of complete es ws k o ≡ true → k / 64 < length ws
      noted None e kept =
          let past : length ss ≤ k = none_past ss k e in
          absurd (omega (arith, within, past))
      noted (Some s) e kept =
          let free : is_noted ws k (keys_of s).free ≡ true = (and_parts (not complete || are_filed es k (keys_of s)) (is_noted ws k (keys_of s).free) kept).1 in
          let room : nat_lt (k / 64) (length ws) ≡ true = (and_parts (nat_lt (k / 64) (length ws)) (not (keys_of s).free || nat_eq (bit_of ws k) 1) free).0 in
          grind (arith, room)

      by : (l : ℕ) (b : Bool) → nat_eq k l ≡ b → (if b then nat_lt (k / 64) (length ws) else is_kept_of keys_of complete es ws k (slice_get ss k)) ≡ true → k / 64 < length ws
      by l true e room = grind (arith, room)
      by l false e kept = noted (slice_get ss k) refl kept

      go : (o : Option ℕ) → IsIndexed keys_of complete o ss es ws → k / 64 < length ws
      go None settled = noted (slice_get ss k) refl (settled k)
      go (Some l) settled = by l (nat_eq k l) refl (settled k)

  -- ---- a place is lent

  pub lent_one : (complete : Bool) (i : ℕ) (s : X) (ss : List X) (es : List Entry) (ws : List ℕ) → slice_get ss i ≡ Some s → IsIndexed keys_of complete None ss es ws → IsIndexed keys_of complete (Some i) ss es ws
  lent_one complete i s ss es ws is h = λ k. by k (nat_eq k i) refl
    where
      by : (k : ℕ) (b : Bool) → nat_eq k i ≡ b → (if b then nat_lt (k / 64) (length ws) else is_kept_of keys_of complete es ws k (slice_get ss k)) ≡ true
      by k true e =
          let same : k ≡ i = grind (arith, e) in
          let at : slice_get ss k ≡ Some s = ap (slice_get ss) same ∙ is in
          let kept : is_kept complete es ws k (keys_of s) ≡ true = subst (λ o. is_kept_of keys_of complete es ws k o ≡ true) at (h k) in
          let noted : is_noted ws k (keys_of s).free ≡ true = (and_parts (not complete || are_filed es k (keys_of s)) (is_noted ws k (keys_of s).free) kept).1 in
          (and_parts (nat_lt (k / 64) (length ws)) (not (keys_of s).free || nat_eq (bit_of ws k) 1) noted).0
      by k false e = h k

  pub lent_changes : (complete : Bool) (l : ℕ) (ss : List X) (es : List Entry) (ws : List ℕ) (w : X) → IsIndexed keys_of complete (Some l) ss es ws → IsIndexed keys_of complete (Some l) (slice_set ss l w) es ws
  lent_changes complete l ss es ws w h = λ k. by k (nat_eq k l) refl (h k)
    where
      by : (k : ℕ) (b : Bool) → nat_eq k l ≡ b → (if b then nat_lt (k / 64) (length ws) else is_kept_of keys_of complete es ws k (slice_get ss k)) ≡ true → (if b then nat_lt (k / 64) (length ws) else is_kept_of keys_of complete es ws k (slice_get (slice_set ss l w) k)) ≡ true
      by k true e x = x
      by k false e x = subst (λ o. is_kept_of keys_of complete es ws k o ≡ true) (sym (elsewhere ss l k w e)) x

  -- ---- all places change, but for their keys

  same_at : (complete : Bool) (es : List Entry) (ws : List ℕ) (k : ℕ) (a b : Option X) → Both (λ before after. keys_of after ≡ keys_of before) a b → is_kept_of keys_of complete es ws k a ≡ true → is_kept_of keys_of complete es ws k b ≡ true
  same_at complete es ws k None None h f = refl
  same_at complete es ws k None (Some t) h f = absurd h
  same_at complete es ws k (Some s) None h f = absurd h
  same_at complete es ws k (Some s) (Some t) h f = subst (λ q. is_kept complete es ws k q ≡ true) (sym h) f

  pub all_same : (complete : Bool) (lent : Option ℕ) (ss ts : List X) (es : List Entry) (ws : List ℕ) → ChangesEach (λ before after. keys_of after ≡ keys_of before) ss ts → IsIndexed keys_of complete lent ss es ws → IsIndexed keys_of complete lent ts es ws
  all_same complete None ss ts es ws same h = λ k. same_at complete es ws k (slice_get ss k) (slice_get ts k) (same k) (h k)
  all_same complete (Some l) ss ts es ws same h = λ k. by k (nat_eq k l) (h k)
    where
      by : (k : ℕ) (b : Bool) → (if b then nat_lt (k / 64) (length ws) else is_kept_of keys_of complete es ws k (slice_get ss k)) ≡ true → (if b then nat_lt (k / 64) (length ws) else is_kept_of keys_of complete es ws k (slice_get ts k)) ≡ true
      by k true x = x
      by k false x = same_at complete es ws k (slice_get ss k) (slice_get ts k) (same k) x

  -- where the place that was lent is filed, and something is there, none might as well be lent
  pub all_settled : (complete : Bool) (l : ℕ) (ss : List X) (es : List Entry) (ws : List ℕ) → IfSome (slice_get ss l) (λ s. (are_filed es l (keys_of s) ≡ true) × ((keys_of s).free ≡ false)) → IsIndexed keys_of complete (Some l) ss es ws → IsIndexed keys_of complete None ss es ws
  all_settled complete l ss es ws filed kept = λ k. by k (nat_eq k l) refl (kept k)
    where
      noted : (k : ℕ) (free : Bool) → free ≡ false → nat_lt (k / 64) (length ws) ≡ true → is_noted ws k free ≡ true
      noted k true nay room = absurd (false_not_true (sym nay))
      noted k false nay room = both (nat_lt (k / 64) (length ws)) true room refl

      in_order : (c : Bool) (b : Bool) → b ≡ true → (not c || b) ≡ true
      in_order true b h = h
      in_order false b h = refl

      here : (o : Option X) → IfSome o (λ s. (are_filed es l (keys_of s) ≡ true) × ((keys_of s).free ≡ false)) → nat_lt (l / 64) (length ws) ≡ true → is_kept_of keys_of complete es ws l o ≡ true
      here None h room = refl
      here (Some s) h room = both (not complete || are_filed es l (keys_of s)) (is_noted ws l (keys_of s).free) (in_order complete (are_filed es l (keys_of s)) h.0) (noted l (keys_of s).free h.1 room)

      by : (k : ℕ) (b : Bool) → nat_eq k l ≡ b → (if b then nat_lt (k / 64) (length ws) else is_kept_of keys_of complete es ws k (slice_get ss k)) ≡ true → is_kept_of keys_of complete es ws k (slice_get ss k) ≡ true
      by k true e f =
          let same : l ≡ k = grind (arith, e) in
          subst (λ j. is_kept_of keys_of complete es ws j (slice_get ss j) ≡ true) same (here (slice_get ss l) filed (subst (λ j. nat_lt (j / 64) (length ws) ≡ true) (sym same) f))
      by k false e f = f

  pub lent_at_place : (complete : Bool) (i : ℕ) (ss : List X) (es : List Entry) (ws : List ℕ) → IsSettled keys_of complete ss es ws → IsIndexed keys_of complete (lent_of i (slice_get ss i)) ss es ws
  lent_at_place complete i ss es ws before = go (slice_get ss i) refl
    where
      go : (o : Option X) → slice_get ss i ≡ o → IsIndexed keys_of complete (lent_of i o) ss es ws
      go None e = before
      go (Some s) e = lent_one complete i s ss es ws e before

  -- ---- the place that is lent changes

  pub lent_there : (i : ℕ) (o : Option X) → IsLentAt i o (lent_of i o)
  lent_there i None = refl
  lent_there i (Some s) = refl

  pub lent_writes : (complete : Bool) (lent : Option ℕ) (ss : List X) (es : List Entry) (ws : List ℕ) (i : ℕ) (w : X) → IsLentAt i (slice_get ss i) lent → IsIndexed keys_of complete lent ss es ws → IsIndexed keys_of complete lent (slice_set ss i w) es ws
  lent_writes complete None ss es ws i w none h = subst (λ us. IsIndexed keys_of complete None us es ws) (sym (set_none ss i w none)) h
  lent_writes complete (Some l) ss es ws i w at h = subst (λ j. IsIndexed keys_of complete (Some l) (slice_set ss j w) es ws) at (lent_changes complete l ss es ws w h)

  pub lent_changed : (R : X → X → Type 0) (complete : Bool) (lent : Option ℕ) (ss ts : List X) (es : List Entry) (ws : List ℕ) (i : ℕ) → IsLentAt i (slice_get ss i) lent → IsIndexed keys_of complete lent ss es ws → ChangesAt R ss i ts → IsIndexed keys_of complete lent ts es ws
  lent_changed R complete lent ss ts es ws i is h c = subst (λ us. IsIndexed keys_of complete lent us es ws) (sym c.now) (lent_writes complete lent ss es ws i c.after is h)

  pub lent_changed_if : {Y : Type 0} (r : Option Y) (R : Y → X → X → Type 0) (complete : Bool) (lent : Option ℕ) (ss ts : List X) (es : List Entry) (ws : List ℕ) (i : ℕ) → IsLentAt i (slice_get ss i) lent → IsIndexed keys_of complete lent ss es ws → IfSome r (λ y. ChangesAt (R y) ss i ts) → IfNone r (ts ≡ ss) → IsIndexed keys_of complete lent ts es ws
  lent_changed_if None R complete lent ss ts es ws i is h c same = subst (λ us. IsIndexed keys_of complete lent us es ws) (sym same) h
  lent_changed_if (Some y) R complete lent ss ts es ws i is h c same = lent_changed (R y) complete lent ss ts es ws i is h c

  -- one place changes, but for its keys
  one_same : (ss : List X) (i k : ℕ) (b a : X) → slice_get ss i ≡ Some b → keys_of a ≡ keys_of b → Both (λ before after. keys_of after ≡ keys_of before) (slice_get ss k) (slice_get (slice_set ss i a) k)
  one_same ss i k b a was same = by (nat_eq k i) refl
    where
      itself : (o : Option X) → Both (λ before after. keys_of after ≡ keys_of before) o o
      itself None = tt
      itself (Some s) = refl

      by : (c : Bool) → nat_eq k i ≡ c → Both (λ before after. keys_of after ≡ keys_of before) (slice_get ss k) (slice_get (slice_set ss i a) k)
      by true e =
          let at : k ≡ i = grind (arith, e) in
          subst (λ j. Both (λ before after. keys_of after ≡ keys_of before) (slice_get ss j) (slice_get (slice_set ss i a) j)) (sym at) (here ss i b a was same)
        where
          here : (xs : List X) (j : ℕ) (b a : X) → slice_get xs j ≡ Some b → keys_of a ≡ keys_of b → Both (λ before after. keys_of after ≡ keys_of before) (slice_get xs j) (slice_get (slice_set xs j a) j)
          here [] j b a is same = tt
          here (x ∷ xs) zero b a is same = same ∙ ap keys_of (sym (out is))
            where
              out : Some x ≡ Some b → x ≡ b
              out e = cc
          here (x ∷ xs) (suc j) b a is same = here xs j b a is same
      by false e = subst (λ o. Both (λ before after. keys_of after ≡ keys_of before) (slice_get ss k) o) (sym (elsewhere ss i k a e)) (itself (slice_get ss k))

  pub keeps_keys : (R : X → X → Type 0) (complete : Bool) (lent : Option ℕ) (ss ts : List X) (es : List Entry) (ws : List ℕ) (i : ℕ) → ((b a : X) → R b a → keys_of a ≡ keys_of b) → ChangesAt R ss i ts → IsIndexed keys_of complete lent ss es ws → IsIndexed keys_of complete lent ts es ws
  keeps_keys R complete lent ss ts es ws i same c h =
      subst (λ us. IsIndexed keys_of complete lent us es ws) (sym c.now) (all_same complete lent ss (slice_set ss i c.after) es ws (λ k. one_same ss i k c.before c.after c.was (same c.before c.after c.changed)) h)

  pub each_keeps : (R : X → X → Type 0) (complete : Bool) (lent : Option ℕ) (ss ts : List X) (es : List Entry) (ws : List ℕ) → ((b a : X) → R b a → keys_of a ≡ keys_of b) → ChangesEach R ss ts → IsIndexed keys_of complete lent ss es ws → IsIndexed keys_of complete lent ts es ws
  each_keeps R complete lent ss ts es ws same c h = all_same complete lent ss ts es ws (λ k. weaken (slice_get ss k) (slice_get ts k) (c k)) h
    where
      weaken : (a b : Option X) → Both R a b → Both (λ before after. keys_of after ≡ keys_of before) a b
      weaken None None h = tt
      weaken None (Some t) h = absurd h
      weaken (Some s) None h = absurd h
      weaken (Some s) (Some t) h = same s t h

  -- ---- places where nothing is

  nothing_kept : (es : List Entry) (ws : List ℕ) (k : ℕ) (o : Option X) → is_noted ws k true ≡ true → IfSome o (λ x. keys_of x ≡ no_keys) → is_kept_of keys_of true es ws k o ≡ true
  nothing_kept es ws k None noted h = refl
  nothing_kept es ws k (Some x) noted h = subst (λ q. is_kept true es ws k q ≡ true) (sym h) noted

  pub nothing_indexed : (ss : List X) (es : List Entry) (ws : List ℕ) → All (λ x. keys_of x ≡ no_keys) ss → ((k : ℕ) → k < length ss → is_noted ws k true ≡ true) → IsIndexed keys_of true None ss es ws
  nothing_indexed ss es ws h noted = λ k. go k (slice_get ss k) refl (all_at (λ x. keys_of x ≡ no_keys) ss k h)
    where
      go : (k : ℕ) (o : Option X) → slice_get ss k ≡ o → IfSome o (λ x. keys_of x ≡ no_keys) → is_kept_of keys_of true es ws k o ≡ true
      go k None e f = refl
      go k (Some x) e f = nothing_kept es ws k (Some x) (noted k (slice_get_within ss k x e)) f

  pub all_filed : (complete : Bool) (ss : List X) (es : List Entry) (ws : List ℕ) → complete ≡ true → IsSettled keys_of complete ss es ws → (k : ℕ) → is_filed keys_of es k (slice_get ss k) ≡ true
  all_filed false ss es ws c settled = absurd (false_not_true c)
  all_filed true ss es ws c settled = λ k. go k (slice_get ss k) (settled k)
    where
      go : (k : ℕ) (o : Option X) → is_kept_of keys_of true es ws k o ≡ true → is_filed keys_of es k o ≡ true
      go k None f = refl
      go k (Some x) f = (and_parts (are_filed es k (keys_of x)) (is_noted ws k (keys_of x).free) f).0

  -- where none is lent, each place is filed
  pub settled_before : (complete : Bool) (ss : List X) (es : List Entry) (ws : List ℕ) (known : Option ℕ) → IsSettled keys_of complete ss es ws → complete ≡ true → IfSome known (λ i. AreFiledBefore keys_of i ss es)
  settled_before complete ss es ws None h c = tt
  settled_before complete ss es ws (Some i) h c = λ k less. all_filed complete ss es ws c h k
