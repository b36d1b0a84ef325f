-- The first moment at which a socket wants to be asked.
use Rattle.std.proofs.Common.{◌≡◌, ◌∙◌, ℕ, ℤ, ◌<◌, List, [], ◌∷◌, length, Bool, true, false, suc, zero, Option, Some, None, pos, ◌+ℤ◌, refl, sym, subst, ap, arith}
use Rattle.std.specs.Prelude.{IfSome, slice_get, int_le, int_lt, ◌<ℤ◌, ◌≤ℤ◌, ◌||◌, if◌then◌else◌}
use Rattle.std.specs.List.{fold}
use Rattle.std.proofs.lemmas.Bool.{and_parts}
use Rattle.std.proofs.lemmas.Int.{ints}
use Rattle.std.proofs.lemmas.Option.{slice_get_within}
use Rattle.net_base.specs.declared.time.Instant.{Instant}
use Rattle.sock_core.specs.Facts.{Facts}
use Rattle.sock_core.specs.declared.context.PollAt.{PollAt}
use Rattle.sock_core.specs.declared.context.PollAt.TheVariants as poll
use Rattle.sock_tcp.specs.Polls.{earlier, earlier_moment, is_reached}
use Rattle.sock_tcp.specs.Timers.{after}
use Rattle.sock_tcp.specs.View.{moment_of}
use Rattle.host_bounds.specs.Bounding.{IsBelowAll, IsGreatest, bound_at, latest}
use Rattle.host_guard.specs.Guarding.{later_moment, not_before}
use Rattle.net_host.specs.Looking.{asked_under, bound_of, is_at_most, is_bound, is_seen, never, sleeps, soonest}
use Rattle.net_host.specs.Sleeping.{AreAsleep, is_marked, sleeps_at}
use Rattle.net_host.specs.Speaking.{Due, earliest}
use Rattle.net_host.specs.Turns.{asked_of, delayed, may_speak, slot_poll}
use Rattle.net_host.specs.Walks.{Nowhere}
use Rattle.net_host.specs.declared.slot.Slot.{Slot}
use Rattle.net_host.specs.declared.terms.Terms.{Terms}
use Rattle.net_host.proofs.Polls.{asks_under, bound_is, time_bound}

-- the second is not before the first, which is a moment or never comes
abbrev NotBefore : PollAt → PollAt → Type 0
NotBefore poll.Now q = ⊥
NotBefore (poll.Time t) poll.Now = ⊥
NotBefore (poll.Time t) (poll.Time u) = t.micros ≤ℤ u.micros
NotBefore (poll.Time t) poll.Ingress = Unit {0}
NotBefore poll.Ingress poll.Now = ⊥
NotBefore poll.Ingress (poll.Time u) = ⊥
NotBefore poll.Ingress poll.Ingress = Unit {0}

same_instant : (t u : Instant) → t.micros ≡ u.micros → t ≡ u
same_instant t u e = ap (λ m. record { micros = m }) e

least_left : (t u : Instant) → t.micros ≤ℤ u.micros → earlier_moment t u ≡ t
least_left t u h = let e : int_le t.micros u.micros ≡ true = grind (arith, ints, h) in ap (λ b. if b then t else u) e

least_right : (t u : Instant) → t.micros ≤ℤ u.micros → earlier_moment u t ≡ t
least_right t u h = go (int_le u.micros t.micros) refl
  where
    go : (b : Bool) → int_le u.micros t.micros ≡ b → (if b then u else t) ≡ t
    go true e = same_instant u t (grind (arith, ints, h, e))
    go false e = refl

stays : (p q : PollAt) → NotBefore p q → earlier p q ≡ p
stays poll.Now q h = refl
stays (poll.Time t) poll.Now h = absurd h
stays (poll.Time t) (poll.Time u) h = ap (λ m. poll.Time m) (least_left t u h)
stays (poll.Time t) poll.Ingress h = refl
stays poll.Ingress poll.Now h = absurd h
stays poll.Ingress (poll.Time u) h = absurd h
stays poll.Ingress poll.Ingress h = refl

comes : (p q : PollAt) → NotBefore p q → earlier q p ≡ p
comes poll.Now q h = absurd h
comes (poll.Time t) poll.Now h = absurd h
comes (poll.Time t) (poll.Time u) h = ap (λ m. poll.Time m) (least_right t u h)
comes (poll.Time t) poll.Ingress h = refl
comes poll.Ingress poll.Now h = absurd h
comes poll.Ingress (poll.Time u) h = absurd h
comes poll.Ingress poll.Ingress h = refl

least_of_two : (t u v : Instant) → t.micros ≤ℤ u.micros → t.micros ≤ℤ v.micros → t.micros ≤ℤ (earlier_moment u v).micros
least_of_two t u v h k = go (int_le u.micros v.micros)
  where
    go : (b : Bool) → t.micros ≤ℤ (if b then u else v).micros
    go true = h
    go false = k

both_behind : (p q r : PollAt) → NotBefore p q → NotBefore p r → NotBefore p (earlier q r)
both_behind poll.Now q r h k = absurd h
both_behind (poll.Time t) poll.Now r h k = absurd h
both_behind (poll.Time t) poll.Ingress r h k = k
both_behind (poll.Time t) (poll.Time u) poll.Now h k = absurd k
both_behind (poll.Time t) (poll.Time u) poll.Ingress h k = h
both_behind (poll.Time t) (poll.Time u) (poll.Time v) h k = least_of_two t u v h k
both_behind poll.Ingress poll.Now r h k = absurd h
both_behind poll.Ingress (poll.Time u) r h k = absurd h
both_behind poll.Ingress poll.Ingress r h k = k

-- ---- the first of many

module _ {G : Type 0} (f : Facts) (p : PollAt) where
  abbrev Behind : Slot G → Type 0
  Behind s = NotBefore p (slot_poll s f)

  abbrev AllBehind : List (Slot G) → Type 0
  AllBehind ss = (k : ℕ) → IfSome (slice_get ss k) Behind

  all_stay : (ss : List (Slot G)) → AllBehind ss → fold (λ q s. earlier q (slot_poll s f)) p ss ≡ p
  all_stay [] h = refl
  all_stay (s ∷ ss) h =
      let rest : fold (λ q s. earlier q (slot_poll s f)) p ss ≡ p = all_stay ss (λ k. h (suc k)) in
      ap (λ q. fold (λ q s. earlier q (slot_poll s f)) q ss) (stays p (slot_poll s f) (h zero)) ∙ rest

  comes_first : (ss : List (Slot G)) (a : PollAt) (i : ℕ) → NotBefore p a → AllBehind ss → i < length ss → IfSome (slice_get ss i) (λ s. p ≡ slot_poll s f) → fold (λ q s. earlier q (slot_poll s f)) a ss ≡ p
  comes_first [] a i b h within is = absurd (omega (arith, within))
  comes_first (s ∷ ss) a zero b h within is =
      let rest : fold (λ q s. earlier q (slot_poll s f)) p ss ≡ p = all_stay ss (λ k. h (suc k)) in
      ap (λ q. fold (λ q s. earlier q (slot_poll s f)) q ss) (ap (earlier a) (sym is) ∙ comes p a b) ∙ rest
  comes_first (s ∷ ss) a (suc i) b h within is = comes_first ss (earlier a (slot_poll s f)) i (both_behind p a (slot_poll s f) b (h zero)) (λ k. h (suc k)) (omega (arith, within)) is

-- ---- by bounds

later_behind : (t u v : Instant) → t.micros ≤ℤ v.micros → t.micros ≤ℤ (later_moment u v).micros
later_behind t u v h = go (int_le u.micros v.micros) refl
  where
    go : (b : Bool) → int_le u.micros v.micros ≡ b → t.micros ≤ℤ (if b then v else u).micros
    go true e = h
    go false e = grind (arith, ints, h, e)

not_sooner : (p q : PollAt) (u : Instant) → NotBefore p q → NotBefore p (not_before u q)
not_sooner poll.Now q u h = absurd h
not_sooner (poll.Time t) poll.Now u h = absurd h
not_sooner (poll.Time t) (poll.Time v) u h = later_behind t u v h
not_sooner (poll.Time t) poll.Ingress u h = h
not_sooner poll.Ingress poll.Now u h = absurd h
not_sooner poll.Ingress (poll.Time v) u h = absurd h
not_sooner poll.Ingress poll.Ingress u h = h

delayed_behind : (p q : PollAt) (may : Bool) (now : Instant) → NotBefore p q → NotBefore p (delayed may now q)
delayed_behind p q true now h = h
delayed_behind p q false now h = not_sooner p q (after now (record { micros = 1 })) h

bound_behind : (p q : PollAt) (least b : ℤ) → soonest <ℤ least → is_at_most p least ≡ true → least ≤ℤ b → b ≡ bound_of q → NotBefore p q
bound_behind poll.Now q least b clear most below h = absurd (no most)
  where
    no : false ≡ true → ⊥
    no e = cc
bound_behind (poll.Time t) poll.Now least b clear most below h = absurd (grind (arith, ints, clear, below, h))
bound_behind (poll.Time t) (poll.Time u) least b clear most below h = go (int_lt u.micros never) refl (time_bound u b (grind (arith, ints, clear, below)) h)
  where
    go : (d : Bool) → int_lt u.micros never ≡ d → b ≡ (if d then u.micros else pos 9223372036854775806) → t.micros ≤ℤ u.micros
    go true e is = grind (arith, ints, most, below, is)
    go false e is = grind (arith, ints, most, below, is, e)
bound_behind (poll.Time t) poll.Ingress least b clear most below h = tt
bound_behind poll.Ingress poll.Now least b clear most below h = absurd (grind (arith, ints, clear, below, h))
bound_behind poll.Ingress (poll.Time u) least b clear most below h = absurd (go (int_lt u.micros never) refl (time_bound u b (grind (arith, ints, clear, below)) h))
  where
    go : (d : Bool) → int_lt u.micros never ≡ d → b ≡ (if d then u.micros else pos 9223372036854775806) → ⊥
    go true e is = absurd (grind (arith, ints, most, below, is, e))
    go false e is = absurd (grind (arith, ints, most, below, is))
bound_behind poll.Ingress poll.Ingress least b clear most below h = tt

module _ {G : Type 0} (f : Facts) (t : Terms) (bs : List ℤ) (ss : List (Slot G)) (p : PollAt) (least : ℤ) where
  one_behind : (b : ℤ) (s : Slot G) → t.mtu ≡ f.mtu → soonest <ℤ least → is_at_most p least ≡ true → least ≤ℤ b → (is_marked b || sleeps t b s) ≡ true → NotBefore p (slot_poll s f)
  one_behind b s same clear most below h =
      let no : is_marked b ≡ false = grind (arith, ints, clear, below) in
      let all : sleeps t b s ≡ true = subst (λ z. (z || sleeps t b s) ≡ true) no h in
      let parts = and_parts (is_bound b (asked_under t.mtu s)) (is_seen t.guards s) all in
      delayed_behind p (asked_of s.guard.phase s.guard.end s.guard.last s.socket f) (may_speak s (moment_of f)) (moment_of f)
      (subst (λ q. NotBefore p q) (sym (asks_under s f t.mtu same)) (bound_behind p (asked_under t.mtu s) least b clear most below (bound_is b (asked_under t.mtu s) parts.0)))

  pub all_behind : t.mtu ≡ f.mtu → soonest <ℤ least → is_at_most p least ≡ true → IsBelowAll least bs → length bs ≡ length ss → AreAsleep (λ u b s. sleeps u b s) t bs ss → (k : ℕ) → IfSome (slice_get ss k) (λ s. NotBefore p (slot_poll s f))
  all_behind same clear most below many asleep k = go (slice_get ss k) refl (asleep k)
    where
      go : (o : Option (Slot G)) → slice_get ss k ≡ o → (is_marked (bound_at bs k) || sleeps_at (λ u b s. sleeps u b s) t (bound_at bs k) o) ≡ true → IfSome o (λ s. NotBefore p (slot_poll s f))
      go None e h = tt
      go (Some s) e h = one_behind (bound_at bs k) s same clear most (below k (subst (λ n. k < n) (sym many) (slice_get_within ss k s e))) h

  starts_behind : (q : PollAt) → is_at_most q least ≡ true → NotBefore q poll.Ingress
  starts_behind poll.Now h = absurd (no h)
    where
      no : false ≡ true → ⊥
      no e = cc
  starts_behind (poll.Time u) h = tt
  starts_behind poll.Ingress h = tt

  pub is_earliest : (i : ℕ) → t.mtu ≡ f.mtu → soonest <ℤ least → is_at_most p least ≡ true → IsBelowAll least bs → length bs ≡ length ss → AreAsleep (λ u b s. sleeps u b s) t bs ss → i < length ss → IfSome (slice_get ss i) (λ s. p ≡ slot_poll s f) → p ≡ earliest f ss
  is_earliest i same clear most below many asleep within is = sym (comes_first f p ss poll.Ingress i (starts_behind p most) (all_behind same clear most below many asleep) within is)

-- ---- by the least bound alone, where it is still to come

-- a place with the least bound, or there is none
find_least : (bs : List ℤ) (m : ℤ) (Goal : Type 0) → ((i : ℕ) → i < length bs → bound_at bs i ≡ m → Goal) → (IsBelowAll (m +ℤ pos 1) bs → Goal) → IsBelowAll m bs → Goal
find_least [] m Goal some none below = none (λ k h. absurd (omega (arith, h)))
find_least (b ∷ bs) m Goal some none below = go (int_le b m) refl (λ none. find_least bs m Goal (λ i h is. some (suc i) (omega (arith, h)) is) none (λ k h. below (suc k) (omega (arith, h))))
  where
    by : int_le b m ≡ false → IsBelowAll (m +ℤ pos 1) bs → (k : ℕ) → k < length (b ∷ bs) → (m +ℤ pos 1) ≤ℤ bound_at (b ∷ bs) k
    by e h zero within = grind (arith, ints, e)
    by e h (suc k) within = h k (omega (arith, within))

    go : (d : Bool) → int_le b m ≡ d → ((IsBelowAll (m +ℤ pos 1) bs → Goal) → Goal) → Goal
    go true e rest =
        let least : m ≤ℤ b = below 0 (omega arith) in
        some 0 (omega arith) (grind (arith, ints, e, least))
    go false e rest = rest (λ h. none (by e h))

-- what asks for that moment
told_by : (least : ℤ) (q : PollAt) → soonest <ℤ least → least <ℤ pos 9223372036854775806 → least ≡ bound_of q → q ≡ poll.Time (record { micros = least })
told_by least poll.Now clear soon is = absurd (grind (arith, ints, clear, is))
told_by least (poll.Time t) clear soon is = go (int_lt t.micros never) refl (time_bound t least clear is)
  where
    go : (d : Bool) → int_lt t.micros never ≡ d → least ≡ (if d then t.micros else pos 9223372036854775806) → poll.Time t ≡ poll.Time (record { micros = least })
    go true e h = ap (λ m. poll.Time (record { micros = m })) (sym h)
    go false e h = absurd (grind (arith, ints, soon, h))
told_by least poll.Ingress clear soon is = absurd (grind (arith, ints, soon, is))

-- is not delayed
not_later : (may : Bool) (now t : Instant) → (after now (record { micros = 1 })).micros ≤ℤ t.micros → delayed may now (poll.Time t) ≡ poll.Time t
not_later true now t h = refl
not_later false now t h = let e : int_le (after now (record { micros = 1 })).micros t.micros ≡ true = grind (arith, ints, h) in ap (λ b. poll.Time (if b then t else after now (record { micros = 1 }))) e

module _ {G : Type 0} (f : Facts) (t : Terms) (bs : List ℤ) (ss : List (Slot G)) (least : ℤ) where
  abbrev coming : PollAt
  coming = poll.Time (record { micros = least })

  asks_for_it : (s : Slot G) → t.mtu ≡ f.mtu → soonest <ℤ least → least <ℤ pos 9223372036854775806 → f.now <ℤ least → (is_marked least || sleeps t least s) ≡ true → coming ≡ slot_poll s f
  asks_for_it s same clear soon later h =
      let no : is_marked least ≡ false = grind (arith, ints, clear) in
      let all : sleeps t least s ≡ true = subst (λ z. (z || sleeps t least s) ≡ true) no h in
      let parts = and_parts (is_bound least (asked_under t.mtu s)) (is_seen t.guards s) all in
      let told : asked_under t.mtu s ≡ coming = told_by least (asked_under t.mtu s) clear soon (bound_is least (asked_under t.mtu s) parts.0) in
      let asked : asked_of s.guard.phase s.guard.end s.guard.last s.socket f ≡ coming = asks_under s f t.mtu same ∙ told in
      sym (ap (λ q. delayed (may_speak s (moment_of f)) (moment_of f) q) asked ∙ not_later (may_speak s (moment_of f)) (moment_of f) (record { micros = least }) (grind (arith, ints, later)))

  there_asks : (i : ℕ) → t.mtu ≡ f.mtu → soonest <ℤ least → least <ℤ pos 9223372036854775806 → f.now <ℤ least → AreAsleep (λ u b s. sleeps u b s) t bs ss → bound_at bs i ≡ least → IfSome (slice_get ss i) (λ s. coming ≡ slot_poll s f)
  there_asks i same clear soon later asleep is = go (slice_get ss i) (subst (λ b. (is_marked b || sleeps_at (λ u b s. sleeps u b s) t b (slice_get ss i)) ≡ true) is (asleep i))
    where
      go : (o : Option (Slot G)) → (is_marked least || sleeps_at (λ u b s. sleeps u b s) t least o) ≡ true → IfSome o (λ s. coming ≡ slot_poll s f)
      go None h = tt
      go (Some s) h = asks_for_it s same clear soon later h

  pub comes_at_least : t.mtu ≡ f.mtu → soonest <ℤ least → least <ℤ pos 9223372036854775806 → f.now <ℤ least → IsBelowAll least bs → IsGreatest least bs → length bs ≡ length ss → AreAsleep (λ u b s. sleeps u b s) t bs ss → coming ≡ earliest f ss
  comes_at_least same clear soon later below greatest many asleep = find_least bs least (coming ≡ earliest f ss)
      (λ i within is. is_earliest f t bs ss coming least i same clear (grind (arith, ints)) below many asleep (subst (λ n. i < n) many within) (there_asks i same clear soon later asleep is))
      (λ above. let room : (least +ℤ pos 1) ≤ℤ latest = grind (arith, ints, soon) in let no : (least +ℤ pos 1) ≤ℤ least = greatest (least +ℤ pos 1) room above in absurd (grind (arith, ints, no)))
      below

-- ---- where none is due

neither : (p q : PollAt) (now : Instant) → is_reached p now ≡ false → is_reached q now ≡ false → is_reached (earlier p q) now ≡ false
neither poll.Now q now h k = h
neither poll.Ingress q now h k = k
neither (poll.Time t) poll.Now now h k = k
neither (poll.Time t) poll.Ingress now h k = h
neither (poll.Time t) (poll.Time u) now h k = go (int_le t.micros u.micros)
  where
    go : (b : Bool) → is_reached (poll.Time (if b then t else u)) now ≡ false
    go true = h
    go false = k

not_true : (b : Bool) → (b ≡ true → ⊥) → b ≡ false
not_true false h = refl
not_true true h = absurd (h refl)

none_reached : {G : Type 0} (f : Facts) (ss : List (Slot G)) (p : PollAt) → Nowhere (Due f) ss → is_reached p (moment_of f) ≡ false → is_reached (fold (λ q s. earlier q (slot_poll s f)) p ss) (moment_of f) ≡ false
none_reached f [] p h k = k
none_reached f (s ∷ ss) p h k = none_reached f ss (earlier p (slot_poll s f)) (λ j. h (suc j)) (neither p (slot_poll s f) (moment_of f) k (not_true (is_reached (slot_poll s f) (moment_of f)) (h zero)))

pub none_due_yet : {G : Type 0} (f : Facts) (ss : List (Slot G)) → Nowhere (Due f) ss → is_reached (earliest f ss) (moment_of f) ≡ false
none_due_yet f ss h = none_reached f ss poll.Ingress h refl
