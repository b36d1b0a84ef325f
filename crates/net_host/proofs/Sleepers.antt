-- Places that need not be asked before a moment, whatever is done to one of them.
use Rattle.std.proofs.Common.{◌≡◌, ◌∙◌, ℕ, ℤ, ◌<◌, ◌≤◌, List, [], ◌∷◌, length, Bool, true, false, nat_eq, nat_lt, suc, zero, Option, Some, None, refl, sym, subst, ap, arith}
use Rattle.std.specs.Prelude.{IfSome, IfNone, slice_get, slice_set, ◌||◌}
use Rattle.std.specs.List.{All}
use Rattle.std.proofs.lemmas.List.{get_or-set_other, set_past}
use Rattle.std.proofs.lemmas.Grind.{get_or-set_at}
use Rattle.host_bounds.specs.Bounding.{at_once, bound_at}
use Rattle.net_host.specs.Sleeping.{AreAsleep, is_marked, sleeps_at}
use Rattle.net_host.specs.Walks.{Both, ChangesAt, ChangesEach}
use Rattle.net_host.specs.declared.terms.Terms.{Terms}
use Rattle.net_host.proofs.Each.{elsewhere, set_len}

pub changed_len : {X : Type 0} (R : X → X → Type 0) (ss ts : List X) (i : ℕ) → ChangesAt R ss i ts → length ts ≡ length ss
changed_len R ss ts i c = ap length c.now ∙ set_len ss i c.after

pub each_len : {X : Type 0} (R : X → X → Type 0) (ss ts : List X) → ChangesEach R ss ts → length ts ≡ length ss
each_len R [] [] c = refl
each_len R [] (t ∷ ts) c = absurd (c zero)
each_len R (s ∷ ss) [] c = absurd (c zero)
each_len R (s ∷ ss) (t ∷ ts) c = ap suc (each_len R ss ts (λ k. c (suc k)))

past : (cs : List ℤ) (j : ℕ) → length cs ≤ j → bound_at cs j ≡ at_once
past [] j h = refl
past (c ∷ cs) zero h = absurd (omega (arith, h))
past (c ∷ cs) (suc j) h = past cs j (omega (arith, h))

all_marked_at : (bs : List ℤ) → All (λ b. b ≡ at_once) bs → (k : ℕ) → bound_at bs k ≡ at_once
all_marked_at bs all k = go (nat_lt k (length bs)) refl
  where
    go : (d : Bool) → nat_lt k (length bs) ≡ d → bound_at bs k ≡ at_once
    go true f = all k at_once (grind (arith, f))
    go false f = past bs k (grind (arith, f))

apart : (k i : ℕ) → nat_eq k i ≡ false → k ≡ i → ⊥
apart k i h e = absurd (grind (arith, h, e))

pub marked_there : (bs : List ℤ) (i : ℕ) → bound_at (slice_set bs i at_once) i ≡ at_once
marked_there bs i = go (nat_lt i (length bs)) refl
  where
    go : (d : Bool) → nat_lt i (length bs) ≡ d → bound_at (slice_set bs i at_once) i ≡ at_once
    go true f = get_or-set_at bs i i at_once at_once refl (grind (arith, f))
    go false f = let beyond : length bs ≤ i = grind (arith, f) in ap (λ cs. bound_at cs i) (set_past bs i at_once beyond) ∙ past bs i beyond

module _ {X : Type 0} (sleeps : Terms → ℤ → X → Bool) where
  abbrev Is : Terms → ℤ → Option X → Bool
  Is t b o = is_marked b || sleeps_at sleeps t b o

  -- a place that is marked changes
  pub marked_writes : (t : Terms) (bs : List ℤ) (ss : List X) (i : ℕ) (x : X) → bound_at bs i ≡ at_once → AreAsleep sleeps t bs ss → AreAsleep sleeps t bs (slice_set ss i x)
  marked_writes t bs ss i x marked asleep k = go (nat_eq k i) refl
    where
      go : (b : Bool) → nat_eq k i ≡ b → Is t (bound_at bs k) (slice_get (slice_set ss i x) k) ≡ true
      go true e =
          let at : i ≡ k = grind (arith, e) in
          subst (λ j. Is t (bound_at bs j) (slice_get (slice_set ss i x) j) ≡ true) at (ap (λ m. Is t m (slice_get (slice_set ss i x) i)) marked)
      go false e = subst (λ o. Is t (bound_at bs k) o ≡ true) (sym (elsewhere ss i k x e)) (asleep k)

  pub marked_changes : (R : X → X → Type 0) (t : Terms) (bs : List ℤ) (ss ts : List X) (i : ℕ) → bound_at bs i ≡ at_once → ChangesAt R ss i ts → AreAsleep sleeps t bs ss → AreAsleep sleeps t bs ts
  marked_changes R t bs ss ts i marked c asleep = subst (λ us. AreAsleep sleeps t bs us) (sym c.now) (marked_writes t bs ss i c.after marked asleep)

  -- a bound is set
  pub bound_set : (t : Terms) (bs : List ℤ) (ss : List X) (i : ℕ) (b : ℤ) → Is t b (slice_get ss i) ≡ true → AreAsleep sleeps t bs ss → AreAsleep sleeps t (slice_set bs i b) ss
  bound_set t bs ss i b is asleep k = go (nat_eq k i) refl (nat_lt i (length bs)) refl
    where
      go : (c : Bool) → nat_eq k i ≡ c → (d : Bool) → nat_lt i (length bs) ≡ d → Is t (bound_at (slice_set bs i b) k) (slice_get ss k) ≡ true
      go true e true f =
          let at : i ≡ k = grind (arith, e) in
          let within : i < length bs = grind (arith, f) in
          subst (λ m. Is t m (slice_get ss k) ≡ true) (sym (get_or-set_at bs i k b at_once (sym at) within)) (subst (λ j. Is t b (slice_get ss j) ≡ true) at is)
      go true e false f =
          let beyond : length bs ≤ i = grind (arith, f) in
          subst (λ cs. Is t (bound_at cs k) (slice_get ss k) ≡ true) (sym (set_past bs i b beyond)) (asleep k)
      go false e d f = subst (λ m. Is t m (slice_get ss k) ≡ true) (sym (get_or-set_other bs i k b at_once (apart k i e))) (asleep k)

  pub marked_set : (t : Terms) (bs : List ℤ) (ss : List X) (i : ℕ) → AreAsleep sleeps t bs ss → AreAsleep sleeps t (slice_set bs i at_once) ss
  marked_set t bs ss i asleep = bound_set t bs ss i at_once refl asleep

  pub all_marked : (t : Terms) (bs : List ℤ) (ss : List X) → All (λ b. b ≡ at_once) bs → AreAsleep sleeps t bs ss
  all_marked t bs ss all k = ap (λ m. Is t m (slice_get ss k)) (all_marked_at bs all k)

  -- each place changes, and none wants to be asked sooner
  pub each_sleeps : (R : X → X → Type 0) (t : Terms) (bs : List ℤ) (ss ts : List X) → ((b : ℤ) (x y : X) → R x y → sleeps t b y ≡ sleeps t b x) → ChangesEach R ss ts → AreAsleep sleeps t bs ss → AreAsleep sleeps t bs ts
  each_sleeps R t bs ss ts same c asleep k = go (bound_at bs k) (slice_get ss k) (slice_get ts k) (c k) (asleep k)
    where
      go : (b : ℤ) (o p : Option X) → Both R o p → Is t b o ≡ true → Is t b p ≡ true
      go b None None r h = h
      go b None (Some y) r h = absurd r
      go b (Some x) None r h = absurd r
      go b (Some x) (Some y) r h = ap (λ z. is_marked b || z) (same b x y r) ∙ h

  -- the same of one place
  pub one_sleeps : (R : X → X → Type 0) (t : Terms) (bs : List ℤ) (ss ts : List X) (i : ℕ) → ((b : ℤ) (x y : X) → R x y → sleeps t b y ≡ sleeps t b x) → ChangesAt R ss i ts → AreAsleep sleeps t bs ss → AreAsleep sleeps t bs ts
  one_sleeps R t bs ss ts i same c asleep k = go (nat_eq k i) refl
    where
      still : (b : ℤ) (xs : List X) (j : ℕ) → slice_get xs j ≡ Some c.before → Is t b (slice_get xs j) ≡ true → Is t b (slice_get (slice_set xs j c.after) j) ≡ true
      still b [] j e h = h
      still b (x ∷ xs) zero e h = ap (λ z. is_marked b || z) (same b c.before c.after c.changed) ∙ subst (λ o. Is t b o ≡ true) e h
      still b (x ∷ xs) (suc j) e h = still b xs j e h

      go : (d : Bool) → nat_eq k i ≡ d → Is t (bound_at bs k) (slice_get ts k) ≡ true
      go true e =
          let at : i ≡ k = grind (arith, e) in
          subst (λ j. Is t (bound_at bs j) (slice_get ts j) ≡ true) at (subst (λ us. Is t (bound_at bs i) (slice_get us i) ≡ true) (sym c.now) (still (bound_at bs i) ss i c.was (asleep i)))
      go false e = subst (λ o. Is t (bound_at bs k) o ≡ true) (sym (ap (λ us. slice_get us k) c.now ∙ elsewhere ss i k c.after e)) (asleep k)

  -- what lies after now sleeps
  pub asleep_after : (t : Terms) (b now : ℤ) (o : Option X) → is_marked b ≡ false → Is t b o ≡ true → sleeps_at sleeps t b o ≡ true
  asleep_after t b now o m h = subst (λ z. (z || sleeps_at sleeps t b o) ≡ true) m h

-- ---- a change that there may be

pub changed_len_if : {X Y : Type 0} (r : Option Y) (R : Y → X → X → Type 0) (ss ts : List X) (i : ℕ) → IfSome r (λ y. ChangesAt (R y) ss i ts) → IfNone r (ts ≡ ss) → length ts ≡ length ss
changed_len_if None R ss ts i c same = ap length same
changed_len_if (Some y) R ss ts i c same = changed_len (R y) ss ts i c

pub marked_changes_if : {X Y : Type 0} (sleeps : Terms → ℤ → X → Bool) (r : Option Y) (R : Y → X → X → Type 0) (t : Terms) (bs : List ℤ) (ss ts : List X) (i : ℕ) → bound_at bs i ≡ at_once → IfSome r (λ y. ChangesAt (R y) ss i ts) → IfNone r (ts ≡ ss) → AreAsleep sleeps t bs ss → AreAsleep sleeps t bs ts
marked_changes_if sleeps None R t bs ss ts i marked c same h = subst (λ us. AreAsleep sleeps t bs us) (sym same) h
marked_changes_if sleeps (Some y) R t bs ss ts i marked c same h = marked_changes sleeps (R y) t bs ss ts i marked c h
