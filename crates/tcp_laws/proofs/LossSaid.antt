-- What a scoreboard says.
use Rattle.std.proofs.Common.{◌≡◌, ℕ, ◌<◌, ◌≤◌, ◌⊎◌, inl, inr, Bool, true, false, not, refl, ◌&&◌, ◌||◌, [], ◌∷◌, Option, Some, None, min, max, nat_le, arith}
use Rattle.std.specs.Prelude.{if◌then◌else◌}
use Rattle.std.proofs.lemmas.Bool.{and_parts, cases_lt, leb-true}
use Rattle.control_wire.specs.declared.seq_number.TcpSeqNumber.{TcpSeqNumber}
use Rattle.sock_tcp.specs.Rfc.Scoreboard.{added, all_told, block_from, is_credible, is_known, is_news_of, is_none, is_within, joined, joined_all, no_block, pushed, told, unless_within, without}
use Rattle.sock_tcp.specs.declared.scoreboard.SackBlock.{SackBlock}
use Rattle.sock_tcp.specs.declared.scoreboard.Scoreboard.{Scoreboard}
use Rattle.tcp_laws.specs.Loss.{Covers, IsIn, IsInAny, Tells, TellsOnlyWhatCame, TellsTheNewest}
use Rattle.tcp_laws.proofs.Repeating.{or_true}

-- ---- blocks that are joined

joined_covers : (b c : SackBlock) (x : ℕ) → Covers (joined b c) x → Covers b x ⊎ Covers c x
joined_covers b c x = go (nat_le b.start c.end && nat_le c.start b.end) refl
  where
    behind : c.start ≤ b.end → x < max b.end c.end → b.start ≤ x → (x < b.end) ⊎ (b.end ≤ x) → Covers b x ⊎ Covers c x
    behind near last first (inl h) = inl (first, h)
    behind near last first (inr h) = inr (omega (arith, near, h), omega (arith, last, h))

    from : b.start ≤ c.end → c.start ≤ b.end → min b.start c.start ≤ x → x < max b.end c.end → (x < b.start) ⊎ (b.start ≤ x) → Covers b x ⊎ Covers c x
    from near back first last (inl h) = inr (omega (arith, first, h), omega (arith, near, h))
    from near back first last (inr h) = behind back last h (cases_lt x b.end)

    go : (t : Bool) → (nat_le b.start c.end && nat_le c.start b.end) ≡ t → Covers (if t then record { start = min b.start c.start; end = max b.end c.end } else b) x → Covers b x ⊎ Covers c x
    go true e h =
        let p = and_parts (nat_le b.start c.end) (nat_le c.start b.end) e in
        from (leb-true b.start c.end p.0) (leb-true c.start b.end p.1) h.0 h.1 (cases_lt x b.start)
    go false e h = inl h

covers_joined : (b c : SackBlock) (x : ℕ) → Covers b x → Covers (joined b c) x
covers_joined b c x h = go (nat_le b.start c.end && nat_le c.start b.end)
  where
    go : (t : Bool) → Covers (if t then record { start = min b.start c.start; end = max b.end c.end } else b) x
    go true = (omega (arith, h.0), omega (arith, h.1))
    go false = h

module _ (k : Scoreboard) (b : SackBlock) (x : ℕ) where
  all_covers : Covers (joined_all k b) x → Covers b x ⊎ Tells k x
  unfolding joined_all
  all_covers h = fourth (joined_covers (joined (joined (joined b k.newest) k.second) k.third) k.oldest x h)
    where
      first : Covers b x ⊎ Covers k.newest x → Covers b x ⊎ Tells k x
      first (inl a) = inl a
      first (inr a) = inr (inl a)

      second : Covers (joined b k.newest) x ⊎ Covers k.second x → Covers b x ⊎ Tells k x
      second (inl a) = first (joined_covers b k.newest x a)
      second (inr a) = inr (inr (inl a))

      third : Covers (joined (joined b k.newest) k.second) x ⊎ Covers k.third x → Covers b x ⊎ Tells k x
      third (inl a) = second (joined_covers (joined b k.newest) k.second x a)
      third (inr a) = inr (inr (inr (inl a)))

      fourth : Covers (joined (joined (joined b k.newest) k.second) k.third) x ⊎ Covers k.oldest x → Covers b x ⊎ Tells k x
      fourth (inl a) = third (joined_covers (joined (joined b k.newest) k.second) k.third x a)
      fourth (inr a) = inr (inr (inr (inr a)))

  covers_all : Covers b x → Covers (joined_all k b) x
  unfolding joined_all
  covers_all h = covers_joined _ k.oldest x (covers_joined _ k.third x (covers_joined _ k.second x (covers_joined b k.newest x h)))

-- ---- the block is added

unless_covers : (b c : SackBlock) (x : ℕ) → Covers (unless_within b c) x → Covers c x
unless_covers b c x = go (is_within c b)
  where
    go : (t : Bool) → Covers (if t then no_block else c) x → Covers c x
    go true h = absurd (omega (arith, h.1))
    go false h = h

without_tells : (k : Scoreboard) (b : SackBlock) (x : ℕ) → Tells (without k b) x → Tells k x
unfolding without
without_tells k b x (inl h) = inl (unless_covers b k.newest x h)
without_tells k b x (inr (inl h)) = inr (inl (unless_covers b k.second x h))
without_tells k b x (inr (inr (inl h))) = inr (inr (inl (unless_covers b k.third x h)))
without_tells k b x (inr (inr (inr h))) = inr (inr (inr (unless_covers b k.oldest x h)))

pushed_tells : (k : Scoreboard) (b : SackBlock) (x : ℕ) → Tells (pushed k b) x → Covers b x ⊎ Tells k x
unfolding pushed
pushed_tells k b x = go (is_none k.newest) (is_none k.second) (is_none k.third)
  where
    go : (p q r : Bool) → Tells (if p then record k { newest = b } else (if q then record k { newest = b; second = k.newest } else (if r then record k { newest = b; second = k.newest; third = k.second } else record { newest = b; second = k.newest; third = k.second; oldest = k.third }))) x → Covers b x ⊎ Tells k x
    go true q r (inl h) = inl h
    go true q r (inr h) = inr (inr h)
    go false true r (inl h) = inl h
    go false true r (inr (inl h)) = inr (inl h)
    go false true r (inr (inr h)) = inr (inr (inr h))
    go false false true (inl h) = inl h
    go false false true (inr (inl h)) = inr (inl h)
    go false false true (inr (inr (inl h))) = inr (inr (inl h))
    go false false true (inr (inr (inr h))) = inr (inr (inr (inr h)))
    go false false false (inl h) = inl h
    go false false false (inr (inl h)) = inr (inl h)
    go false false false (inr (inr (inl h))) = inr (inr (inl h))
    go false false false (inr (inr (inr h))) = inr (inr (inr (inl h)))

tells_pushed : (k : Scoreboard) (b : SackBlock) (x : ℕ) → Covers b x → Tells (pushed k b) x
unfolding pushed
tells_pushed k b x h = go (is_none k.newest) (is_none k.second) (is_none k.third)
  where
    go : (p q r : Bool) → Tells (if p then record k { newest = b } else (if q then record k { newest = b; second = k.newest } else (if r then record k { newest = b; second = k.newest; third = k.second } else record { newest = b; second = k.newest; third = k.second; oldest = k.third }))) x
    go true q r = inl h
    go false true r = inl h
    go false false true = inl h
    go false false false = inl h

added_tells : (k : Scoreboard) (b : SackBlock) (x : ℕ) → Tells (added k b) x → Covers b x ⊎ Tells k x
added_tells k b x h = by (pushed_tells (without k (joined_all k b)) (joined_all k b) x h)
  where
    by : Covers (joined_all k b) x ⊎ Tells (without k (joined_all k b)) x → Covers b x ⊎ Tells k x
    by (inl a) = all_covers k b x a
    by (inr a) = inr (without_tells k (joined_all k b) x a)

-- ---- the blocks of a segment

told_tells : (k : Scoreboard) (n : ℕ) (una : TcpSeqNumber) (r : Option (ℕ × ℕ)) (x : ℕ) → Tells (told k n una r) x → Tells k x ⊎ IsIn n una r x
told_tells k n una None x h = inl h
told_tells k n una (Some r) x h = go (is_news_of k n (block_from una r)) refl h
  where
    by : is_credible n (block_from una r) ≡ true → Covers (block_from una r) x ⊎ Tells k x → Tells k x ⊎ IsIn n una (Some r) x
    by e (inl a) = inr (e, a)
    by e (inr a) = inl a

    go : (t : Bool) → is_news_of k n (block_from una r) ≡ t → Tells (if t then added k (block_from una r) else k) x → Tells k x ⊎ IsIn n una (Some r) x
    go true e i = by (and_parts (is_credible n (block_from una r)) (not (is_known k (block_from una r))) e).0 (added_tells k (block_from una r) x i)
    go false e i = inl i

pub tells_only_what_came : TellsOnlyWhatCame
tells_only_what_came k n una [] x h = inl h
tells_only_what_came k n una (r ∷ rs) x h = by (told_tells (all_told k n una rs) n una r x h) (λ a. tells_only_what_came k n una rs x a)
  where
    rest : Tells k x ⊎ IsInAny n una rs x → Tells k x ⊎ IsInAny n una (r ∷ rs) x
    rest (inl a) = inl a
    rest (inr a) = inr (inr a)

    by : Tells (all_told k n una rs) x ⊎ IsIn n una r x → (Tells (all_told k n una rs) x → Tells k x ⊎ IsInAny n una rs x) → Tells k x ⊎ IsInAny n una (r ∷ rs) x
    by (inl a) go = rest (go a)
    by (inr a) go = inr (inl a)

-- ---- the newest

within_covers : (b c : SackBlock) (x : ℕ) → is_within b c ≡ true → Covers b x → Covers c x
within_covers b c x e h =
    let p = and_parts (nat_le c.start b.start) (nat_le b.end c.end) e in
    let s : c.start ≤ b.start = leb-true c.start b.start p.0 in
    let t : b.end ≤ c.end = leb-true b.end c.end p.1 in
    (omega (arith, s, h.0), omega (arith, t, h.1))

known_tells : (k : Scoreboard) (b : SackBlock) (x : ℕ) → is_known k b ≡ true → Covers b x → Tells k x
known_tells k b x e h = first (or_true (is_within b k.newest) (is_within b k.second || (is_within b k.third || is_within b k.oldest)) e)
  where
    third : (is_within b k.third ≡ true) ⊎ (is_within b k.oldest ≡ true) → Tells k x
    third (inl i) = inr (inr (inl (within_covers b k.third x i h)))
    third (inr i) = inr (inr (inr (within_covers b k.oldest x i h)))

    second : (is_within b k.second ≡ true) ⊎ ((is_within b k.third || is_within b k.oldest) ≡ true) → Tells k x
    second (inl i) = inr (inl (within_covers b k.second x i h))
    second (inr i) = third (or_true (is_within b k.third) (is_within b k.oldest) i)

    first : (is_within b k.newest ≡ true) ⊎ ((is_within b k.second || (is_within b k.third || is_within b k.oldest)) ≡ true) → Tells k x
    first (inl i) = inl (within_covers b k.newest x i h)
    first (inr i) = second (or_true (is_within b k.second) (is_within b k.third || is_within b k.oldest) i)

news_or_known : (c d : Bool) → c ≡ true → (c && not d) ≡ false → d ≡ true
news_or_known true true e h = refl
news_or_known true false e h = absurd cc
news_or_known false d e h = absurd cc

pub tells_the_newest : TellsTheNewest
tells_the_newest k n una None rs x h = absurd h
tells_the_newest k n una (Some r) rs x h = go (is_news_of (all_told k n una rs) n (block_from una r)) refl
  where
    go : (t : Bool) → is_news_of (all_told k n una rs) n (block_from una r) ≡ t → Tells (if t then added (all_told k n una rs) (block_from una r) else all_told k n una rs) x
    go true e = tells_pushed (without (all_told k n una rs) (joined_all (all_told k n una rs) (block_from una r))) (joined_all (all_told k n una rs) (block_from una r)) x (covers_all (all_told k n una rs) (block_from una r) x h.1)
    go false e = known_tells (all_told k n una rs) (block_from una r) x (news_or_known (is_credible n (block_from una r)) (is_known (all_told k n una rs) (block_from una r)) h.0 e) h.1
