-- A walk in which guards look at the sockets that may want to be asked by now.
use Rattle.std.proofs.Common.{◌≡◌, ◌∙◌, ℕ, ℤ, ◌+◌, ◌-◌, ◌<◌, ◌≤◌, List, [], ◌∷◌, length, min, Bool, true, false, not, nat_eq, suc, zero, Option, Some, None, refl, sym, subst, ap, inl, inr, arith}
use Rattle.std.specs.Prelude.{IfSome, slice_get, nat_lt, nat_le, ◌<ℤ◌, ◌&&◌, ◌||◌, if◌then◌else◌}
use Rattle.std.proofs.lemmas.Bool.{and_parts}
use Rattle.std.proofs.lemmas.List.Sums.{sum_by-cons}
use Rattle.std.proofs.lemmas.Option.{slice_get_within}
use Rattle.net_base.specs.declared.time.Instant.{Instant}
use Rattle.sock_core.specs.Bounds.{IsMoment}
use Rattle.sock_core.specs.Facts.{Facts}
use Rattle.sock_tcp.specs.View.{moment_of}
use Rattle.smoltcp_socket.specs.declared.socket.Socket.{Socket}
use Rattle.smoltcp_socket.specs.declared.socket.Socket.TheVariants as socket
use Rattle.host_bounds.specs.Bounding.{bound_at}
use Rattle.host_guard.specs.Guarding.{taken_at}
use Rattle.net_host.specs.Looking.{Astir, DueAt, LooksIn, LooksNext, MayLook, Unseen, is_seen, sleeps}
use Rattle.net_host.specs.Sleeping.{AreAsleep, is_marked, sleeps_at}
use Rattle.net_host.specs.Speaking.{Due}
use Rattle.net_host.specs.Turns.{Watches, WatchesIn, is_due}
use Rattle.net_host.specs.Walks.{Both, ChangesAt, ChangesEach, FindsIn, IsNext, Nowhere}
use Rattle.net_host.specs.Remembered.{Remembered as Guard}
use Rattle.net_host.specs.declared.guard.GuardSettings.{GuardSettings}
use Rattle.net_host.specs.declared.slot.Slot.{Slot}
use Rattle.net_host.specs.declared.terms.Terms.{Terms}
use Rattle.net_host.proofs.Polls.{rests_by, sleeper_rests, watched_seen}
use Rattle.net_host.proofs.Each.{elsewhere, there}
use Rattle.net_host.proofs.Measure.{left_in, left_turns}
use Rattle.net_host.proofs.Sleepers.{each_len}
use Rattle.net_host.proofs.Turning.{around}

nay : true ≡ false → ⊥
nay e = cc

each_itself : {X : Type 0} (R : X → X → Type 0) → ((x : X) → R x x) → (o : Option X) → Both R o o
each_itself R same None = tt
each_itself R same (Some x) = same x

-- ---- one walk

module _ {G : Type 0} (f : Facts) (st : GuardSettings) (start end : ℕ) (ss : List (Slot G)) where
  -- the places before `from` rest, and those from it on are as they were
  pub record Passes (from : ℕ) (ys : List (Slot G)) : Type 0 where
    pub order : start ≤ from
    pub limit : start < from → from ≤ end
    pub changed : (k : ℕ) → Both (MayLook st (moment_of f)) (slice_get ss k) (slice_get ys k)
    pub before : (k : ℕ) → k < start → slice_get ys k ≡ slice_get ss k
    pub left : (k : ℕ) → from ≤ k → slice_get ys k ≡ slice_get ss k
    pub rested : (k : ℕ) → start ≤ k → k < from → IfSome (slice_get ys k) (λ s. Astir f st s → ⊥)

  pub begins : Passes start ss
  begins = record {
    order = omega arith;
    limit = λ h. absurd (omega (arith, h));
    changed = λ k. each_itself (MayLook st (moment_of f)) (λ x. inl refl) (slice_get ss k);
    before = λ k h. refl;
    left = λ k h. refl;
    rested = λ k h l. absurd (omega (arith, h, l));
  }

  module _ (from : ℕ) (ys : List (Slot G)) (p : Passes from ys) where
    -- those before i need not be asked
    pub passes_to : (i : ℕ) → ((k : ℕ) → from ≤ k → k < i → IfSome (slice_get ys k) (λ s. Astir f st s → ⊥)) → (k : ℕ) → start ≤ k → k < i → IfSome (slice_get ys k) (λ s. Astir f st s → ⊥)
    passes_to i more k h l = go (nat_lt k from) refl
      where
        go : (b : Bool) → nat_lt k from ≡ b → IfSome (slice_get ys k) (λ s. Astir f st s → ⊥)
        go true e = p.rested k h (grind (arith, e))
        go false e = more k (grind (arith, e)) l

    -- the guard at i looks
    module _ (i : ℕ) (zs : List (Slot G)) (behind : from ≤ i) (c : ChangesAt (λ b a. Watches st (moment_of f) b a) ys i zs) where
      is_there : slice_get zs i ≡ Some c.after
      is_there = ap (λ us. slice_get us i) c.now ∙ there ys i c.after (slice_get_within ys i c.before c.was)

      is_other : (k : ℕ) → nat_eq k i ≡ false → slice_get zs k ≡ slice_get ys k
      is_other k e = ap (λ us. slice_get us k) c.now ∙ elsewhere ys i k c.after e

      was_there : slice_get ss i ≡ Some c.before
      was_there = sym (p.left i behind) ∙ c.was

      pub looked : Both (λ b a. Watches st (moment_of f) b a) (slice_get ss i) (slice_get zs i)
      looked = subst (λ o. Both (λ b a. Watches st (moment_of f) b a) o (slice_get zs i)) (sym was_there) (subst (λ o. Both (λ b a. Watches st (moment_of f) b a) (Some c.before) o) (sym is_there) c.changed)

      pub changed_then : (k : ℕ) → Both (MayLook st (moment_of f)) (slice_get ss k) (slice_get zs k)
      changed_then k = go (nat_eq k i) refl
        where
          go : (b : Bool) → nat_eq k i ≡ b → Both (MayLook st (moment_of f)) (slice_get ss k) (slice_get zs k)
          go true e =
              let at : i ≡ k = grind (arith, e) in
              subst (λ j. Both (MayLook st (moment_of f)) (slice_get ss j) (slice_get zs j)) at (subst (λ o. Both (MayLook st (moment_of f)) o (slice_get zs i)) (sym was_there) (subst (λ o. Both (MayLook st (moment_of f)) (Some c.before) o) (sym is_there) (inr c.changed)))
          go false e = subst (λ o. Both (MayLook st (moment_of f)) (slice_get ss k) o) (sym (is_other k e)) (p.changed k)

      pub before_then : (k : ℕ) → k < start → slice_get zs k ≡ slice_get ss k
      before_then k h = let o = p.order in let e : nat_eq k i ≡ false = grind (arith, h, o, behind) in is_other k e ∙ p.before k h

      pub left_then : (k : ℕ) → i + 1 ≤ k → slice_get zs k ≡ slice_get ss k
      left_then k h = let e : nat_eq k i ≡ false = grind (arith, h) in is_other k e ∙ p.left k (omega (arith, h, behind))

      pub rested_then : ((k : ℕ) → start ≤ k → k < i → IfSome (slice_get ys k) (λ s. Astir f st s → ⊥)) → (k : ℕ) → start ≤ k → k < i → IfSome (slice_get zs k) (λ s. Astir f st s → ⊥)
      rested_then h k a l = let e : nat_eq k i ≡ false = grind (arith, l) in subst (λ o. IfSome o (λ s. Astir f st s → ⊥)) (sym (is_other k e)) (h k a l)

      not_astir : IfSome (slice_get zs i) (λ s. is_due f s ≡ false) → IfSome (slice_get zs i) (λ s. Astir f st s → ⊥)
      not_astir d = subst (λ o. IfSome o (λ s. is_due f s ≡ false) → IfSome o (λ s. Astir f st s → ⊥)) (sym is_there) (λ e a. nay (sym (rests_by f st c.after e (watched_seen st (moment_of f) c.before c.after c.changed)) ∙ a)) d

      pub goes_on : i < end → ((k : ℕ) → start ≤ k → k < i → IfSome (slice_get ys k) (λ s. Astir f st s → ⊥)) → IfSome (slice_get zs i) (λ s. is_due f s ≡ false) → Passes (i + 1) zs
      goes_on inside h d = record {
        order = let o = p.order in omega (arith, o, behind);
        limit = λ h. omega (arith, inside);
        changed = changed_then;
        before = before_then;
        left = left_then;
        rested = λ k a l. go k a l (nat_eq k i) refl;
      }
        where
          go : (k : ℕ) → start ≤ k → k < i + 1 → (b : Bool) → nat_eq k i ≡ b → IfSome (slice_get zs k) (λ s. Astir f st s → ⊥)
          go k a l true e = let at : i ≡ k = grind (arith, e) in subst (λ j. IfSome (slice_get zs j) (λ s. Astir f st s → ⊥)) at (not_astir d)
          go k a l false e = rested_then h k a (grind (arith, e, l))

      astir_there : IfSome (slice_get zs i) (λ s. is_due f s ≡ true) → IfSome (slice_get zs i) (λ s. Astir f st s)
      astir_there d = go (slice_get zs i) d
        where
          go : (o : Option (Slot G)) → IfSome o (λ s. is_due f s ≡ true) → IfSome o (λ s. Astir f st s)
          go None e = tt
          go (Some s) e = ap (λ b. not b && is_seen st s) e

      pub ends_there : i < end → ((k : ℕ) → start ≤ k → k < i → IfSome (slice_get ys k) (λ s. Astir f st s → ⊥)) → IfSome (slice_get zs i) (λ s. is_due f s ≡ true) → LooksIn f st start end ss (Some i) zs
      ends_there inside h d = record {
        changed = changed_then;
        outside = λ k e. out k e (nat_le start k) refl;
        found = (record { within = slice_get_within zs i c.after is_there; behind = let o = p.order in omega (arith, o, behind); holds = astir_there d; before = rested_then h }, inside);
        due = (looked, d);
      }
        where
          out : (k : ℕ) → (nat_le start k && nat_lt k end) ≡ false → (b : Bool) → nat_le start k ≡ b → slice_get zs k ≡ slice_get ss k
          out k e false g = before_then k (grind (arith, g))
          out k e true g = let q : (true && nat_lt k end) ≡ false = subst (λ b. (b && nat_lt k end) ≡ false) g e in left_then k (grind (arith, q, inside))

    -- none of the rest need be asked
    pub ends_quiet : ((k : ℕ) → from ≤ k → k < end → IfSome (slice_get ys k) (λ s. Astir f st s → ⊥)) → LooksIn f st start end ss None ys
    ends_quiet more = record { changed = p.changed; outside = λ k e. out k e (nat_lt k start) refl (nat_lt k from) refl; found = passes_to end more; due = tt }
      where
        out : (k : ℕ) → (nat_le start k && nat_lt k end) ≡ false → (b : Bool) → nat_lt k start ≡ b → (c : Bool) → nat_lt k from ≡ c → slice_get ys k ≡ slice_get ss k
        out k e true g c h = p.before k (grind (arith, g))
        out k e false g false h = p.left k (grind (arith, h))
        out k e false g true h =
            let o : start ≤ k = grind (arith, g) in
            let l : k < from = grind (arith, h) in
            let m : from ≤ end = p.limit (omega (arith, o, l)) in
            let b : nat_le start k ≡ true = grind (arith, o) in
            let q : (true && nat_lt k end) ≡ false = subst (λ b. (b && nat_lt k end) ≡ false) b e in
            absurd (grind (arith, q, l, m))

-- ---- by bounds

-- what lies after now rests
module _ {G : Type 0} (f : Facts) (t : Terms) (bs : List ℤ) (ys : List (Slot G)) (lawful : IsMoment f.now) (same : t.mtu ≡ f.mtu) where
  rests_there : (k : ℕ) → f.now <ℤ bound_at bs k → (o : Option (Slot G)) → (is_marked (bound_at bs k) || sleeps_at (λ u b s. sleeps u b s) t (bound_at bs k) o) ≡ true → IfSome o (λ s. Astir f t.guards s → ⊥)
  rests_there k below None h = tt
  rests_there k below (Some s) h = λ a. nay (sym (sleeper_rests f t (bound_at bs k) s lawful same below h) ∙ a)

  pub over_now : AreAsleep (λ u b s. sleeps u b s) t bs ys → (k : ℕ) → f.now <ℤ bound_at bs k → IfSome (slice_get ys k) (λ s. Astir f t.guards s → ⊥)
  over_now asleep k below = rests_there k below (slice_get ys k) (asleep k)

-- nobody need be asked
module _ {G : Type 0} (f : Facts) (st : GuardSettings) (turn : ℕ) (ss : List (Slot G)) where
  pub all_rest : ((k : ℕ) → k < length ss → IfSome (slice_get ss k) (λ s. Astir f st s → ⊥)) → LooksNext f st turn ss None ss
  all_rest h = record { changed = λ k. each_itself (MayLook st (moment_of f)) (λ x. inl refl) (slice_get ss k); found = λ k. go k (slice_get ss k) refl; due = tt }
    where
      go : (k : ℕ) (o : Option (Slot G)) → slice_get ss k ≡ o → IfSome o (λ s. Astir f st s → ⊥)
      go k None e = tt
      go k (Some s) e = subst (λ o. IfSome o (λ s. Astir f st s → ⊥)) e (h k (slice_get_within ss k s e))

-- ---- two walks, one behind the other

module _ {G : Type 0} (f : Facts) (st : GuardSettings) (turn start : ℕ) (ss us ts : List (Slot G)) (is : start ≡ min turn (length ss)) where
  -- the first finds one
  pub first_finds : (i : ℕ) → LooksIn f st start (length ss) ss (Some i) ts → LooksNext f st turn ss (Some i) ts
  first_finds i l = record {
    changed = l.changed;
    found = record { within = l.found.0.within; holds = l.found.0.holds; passed = λ k h. go k h (nat_le turn i) refl };
    due = l.due;
  }
    where
      go : (k : ℕ) → (if nat_le turn i then (nat_le turn k && nat_lt k i) else (nat_le turn k || nat_lt k i)) ≡ true → (b : Bool) → nat_le turn i ≡ b → IfSome (slice_get ts k) (λ s. Astir f st s → ⊥)
      go k h true e =
          let q : (nat_le turn k && nat_lt k i) ≡ true = subst (λ b. (if b then (nat_le turn k && nat_lt k i) else (nat_le turn k || nat_lt k i)) ≡ true) e h in
          let p = and_parts (nat_le turn k) (nat_lt k i) q in
          l.found.0.before k (grind (arith, p.0, is)) (grind (arith, p.1))
      go k h false e = let a = l.found.1 in let b = l.found.0.behind in absurd (grind (arith, e, is, a, b))

  -- the second goes on before it
  pub second_goes : (r : Option ℕ) → LooksIn f st start (length ss) ss None us → LooksIn f st 0 start us r ts → LooksNext f st turn ss r ts
  second_goes r a b = record {
    changed = λ k. changes k (nat_lt k start) refl;
    found = around (Astir f st) ts turn start r (is ∙ ap (min turn) len) (λ k h l. stays k h l) b.found;
    due = later r b.due b.found;
  }
    where
      len : length ss ≡ length ts
      len = sym (each_len (MayLook st (moment_of f)) us ts b.changed ∙ each_len (MayLook st (moment_of f)) ss us a.changed)

      kept : (k : ℕ) → start ≤ k → slice_get ts k ≡ slice_get us k
      kept k h = b.outside k (grind (arith, h))

      was : (k : ℕ) → k < start → slice_get us k ≡ slice_get ss k
      was k h = a.outside k (grind (arith, h))

      changes : (k : ℕ) → (c : Bool) → nat_lt k start ≡ c → Both (MayLook st (moment_of f)) (slice_get ss k) (slice_get ts k)
      changes k true e = subst (λ o. Both (MayLook st (moment_of f)) o (slice_get ts k)) (was k (grind (arith, e))) (b.changed k)
      changes k false e = subst (λ o. Both (MayLook st (moment_of f)) (slice_get ss k) o) (sym (kept k (grind (arith, e)))) (a.changed k)

      stays : (k : ℕ) → start ≤ k → k < length ts → IfSome (slice_get ts k) (λ s. Astir f st s → ⊥)
      stays k h l = subst (λ o. IfSome o (λ s. Astir f st s → ⊥)) (sym (kept k h)) (a.found k h (subst (λ n. k < n) (sym len) l))

      later : (r : Option ℕ) → DueAt f st us r ts → FindsIn (Astir f st) ts 0 start r → DueAt f st ss r ts
      later None d e = tt
      later (Some i) d e = (subst (λ o. Both (Watches st (moment_of f)) o (slice_get ts i)) (was i e.1) d.0, d.1)

-- ---- what follows

weaker : {X : Type 0} (P Q : X → Type 0) → ((x : X) → Q x → P x) → (o : Option X) → IfSome o (λ x. P x → ⊥) → IfSome o (λ x. Q x → ⊥)
weaker P Q less None h = tt
weaker P Q less (Some x) h = λ q. h (less x q)

pub due_astir : {G : Type 0} (f : Facts) (st : GuardSettings) (s : Slot G) → Due f s → Astir f st s
due_astir f st s d = ap (λ b. not b && is_seen st s) d

pub unseen_astir : {G : Type 0} (f : Facts) (st : GuardSettings) (s : Slot G) → Unseen st s → Astir f st s
unseen_astir f st s u = go (is_due f s) (is_seen st s) u
  where
    go : (a b : Bool) → b ≡ false → (not a && b) ≡ false
    go true b h = refl
    go false b h = h

pub next_due : {G : Type 0} (f : Facts) (st : GuardSettings) (turn i : ℕ) (ss ts : List (Slot G)) → LooksNext f st turn ss (Some i) ts → IsNext (Due f) ts turn i
next_due f st turn i ss ts l = record {
  within = l.found.within;
  holds = l.due.1;
  passed = λ k h. weaker (Astir f st) (Due f) (due_astir f st) (slice_get ts k) (l.found.passed k h);
}

pub none_due : {G : Type 0} (f : Facts) (st : GuardSettings) (ts : List (Slot G)) → Nowhere (Astir f st) ts → Nowhere (Due f) ts
none_due f st ts h k = weaker (Astir f st) (Due f) (due_astir f st) (slice_get ts k) (h k)

pub none_unseen : {G : Type 0} (f : Facts) (st : GuardSettings) (ts : List (Slot G)) → Nowhere (Astir f st) ts → Nowhere (Unseen st) ts
none_unseen f st ts h k = weaker (Astir f st) (Unseen st) (unseen_astir f st) (slice_get ts k) (h k)

-- ---- a look leaves the turns that a socket has at this moment

keeps_turns : {G : Type 0} (st : GuardSettings) (t now : Instant) (s u : Option (Socket G)) (g h : Guard) → WatchesIn st t s g u h → taken_at h.moment h.taken now ≡ taken_at g.moment g.taken now
keeps_turns st t now (Some (socket.Tcp x)) (Some (socket.Tcp y)) g h w = ap (λ m. taken_at m h.taken now) w.0.moment ∙ ap (λ n. taken_at g.moment n now) w.0.taken
keeps_turns st t now (Some (socket.Tcp x)) (Some (socket.Raw y)) g h w = absurd w
keeps_turns st t now (Some (socket.Tcp x)) (Some (socket.Udp y)) g h w = absurd w
keeps_turns st t now (Some (socket.Tcp x)) (Some (socket.Icmp y)) g h w = absurd w
keeps_turns st t now (Some (socket.Tcp x)) None g h w = absurd w
keeps_turns st t now (Some (socket.Raw x)) u g h w = ap (λ (k : Guard). taken_at k.moment k.taken now) w.1
keeps_turns st t now (Some (socket.Udp x)) u g h w = ap (λ (k : Guard). taken_at k.moment k.taken now) w.1
keeps_turns st t now (Some (socket.Icmp x)) u g h w = ap (λ (k : Guard). taken_at k.moment k.taken now) w.1
keeps_turns st t now None u g h w = ap (λ (k : Guard). taken_at k.moment k.taken now) w.1

look_keeps : {G : Type 0} (st : GuardSettings) (t now : Instant) (a b : Slot G) → MayLook st t a b → left_in now b ≡ left_in now a
look_keeps st t now a b (inl e) = ap (left_in now) e
look_keeps st t now a b (inr w) = ap (λ n. 64 - n) (keeps_turns st t now a.socket b.socket a.guard b.guard w.looked)

pub looks_keep : {G : Type 0} (st : GuardSettings) (t now : Instant) (ss ts : List (Slot G)) → ChangesEach (MayLook st t) ss ts → left_turns now ts ≡ left_turns now ss
looks_keep st t now [] [] c = refl
looks_keep st t now [] (y ∷ ys) c = absurd (c zero)
looks_keep st t now (x ∷ xs) [] c = absurd (c zero)
looks_keep st t now (x ∷ xs) (y ∷ ys) c =
    let head : left_in now y ≡ left_in now x = look_keeps st t now x y (c zero) in
    let tail : left_turns now ys ≡ left_turns now xs = looks_keep st t now xs ys (λ k. c (suc k)) in
    sum_by-cons (λ s. left_in now s) y ys ∙ ap (λ n. n + left_turns now ys) head ∙ ap (λ n. left_in now x + n) tail ∙ sym (sum_by-cons (λ s. left_in now s) x xs)
