-- The window cut of a segment, the bytes that join the queue, and what hearing may do.
use Rattle.std.proofs.Common.{◌≡◌, ℕ, suc, ◌+◌, ◌-◌, ◌%◌, ◌^◌, ◌<◌, ◌≤◌, ◌⊎◌, Bool, true, false, refl, sym, ap, subst, ◌∙◌, arith, List, [], ◌∷◌, ◌++◌, length, drop, take, Some, None, slice_get, inl, inr, ⊎_elim, length-append, length-drop, length-take}
use Rattle.std.specs.Prelude.{nat_le, nat_lt, ◌&&◌, if◌then◌else◌, min, max}
use Rattle.std.proofs.lemmas.Bool.Decides.{nat_tests}
use Rattle.std.proofs.lemmas.Bool.{cases_lt}
use Rattle.std.proofs.lemmas.List.{append-nil}
use Rattle.std.proofs.lemmas.Option.{slice_get-get_or}
use Rattle.sock_core.specs.Places.{later_number, number_at, number_distance, number_is_before, sooner_number}
use Rattle.sock_core.specs.Streams.{ByteAt, IsPrefix, fin_length}
use Rattle.sock_core.proofs.Numbers.{distance_back, distance_self, distance_up, is_before, later_place, not_before, number_add, sooner_place, sooner_same}
use Rattle.sock_core.proofs.Streams.{byte_drop, byte_take, byte_within, prefix_from_at}
use Rattle.pair_core.specs.StreamEffects.{Brings, HearsData}
use Rattle.pair_core.specs.StreamTables.{Gathers, GathersNothing, IsInside, JoinsWithHeld, TakesPayload, TakesWhole, cut, cut_from, cut_offset, merged, segment_end}
use Rattle.pair_core.specs.StreamViews.{SocketView, StreamSegment}

-- the cut of a segment at the place s against the window from l up to r
pub cut_places : (o l r s : ℕ) (g : StreamSegment) → g.seq ≡ number_at o s → l ≤ r → r < l + 2 ^ 30 → s < l + 2 ^ 30 → l < s + 2 ^ 30 → length g.payload ≤ 65535 → s ≤ r → l ≤ s + length g.payload
    → cut (number_at o l) (number_at o r) g ≡ take (min (s + length g.payload) r - max l s) (drop (max l s - s) g.payload)
cut_places o l r s g e a b c d small inside reach =
    let from : later_number (number_at o l) g.seq ≡ number_at o (max l s) = ap (later_number (number_at o l)) e ∙ later_place o l s (omega arith) (omega arith) in
    let at_end : segment_end g ≡ number_at o (s + length g.payload) = ap (λ n. (n + length g.payload) % 2 ^ 32) e ∙ number_add o s (length g.payload) in
    let upto : sooner_number (segment_end g) (number_at o r) ≡ number_at o (min (s + length g.payload) r) = ap (λ n. sooner_number n (number_at o r)) at_end ∙ sooner_place o (s + length g.payload) r (omega arith) (omega arith) in
    let n : number_distance (sooner_number (segment_end g) (number_at o r)) (later_number (number_at o l) g.seq) ≡ min (s + length g.payload) r - max l s = (λ i. number_distance (upto i) (from i)) ∙ distance_up o (min (s + length g.payload) r) (max l s) (omega arith) (omega arith) in
    let k : number_distance (later_number (number_at o l) g.seq) g.seq ≡ max l s - s = (λ i. number_distance (from i) (e i)) ∙ distance_up o (max l s) s (omega arith) (omega arith) in
    (λ i. take (n i) (drop (k i) g.payload))

-- in order, the cut joins at once, and then what was held
module _ (v w : SocketView) (o : ℕ) (bs : List ℕ) (zero_o : o ≡ 0) (d : Gathers v w o bs) where
  -- the bytes stand at their offsets
  inside : (k : ℕ) → k < length bs → merged v.held o bs k ≡ slice_get bs k
  inside k l = let t : (nat_le o k && nat_lt k (o + length bs)) ≡ true = grind (arith, nat_tests) in rw t (ap (slice_get bs) (omega arith))

  -- past them all is as it was
  past : (k : ℕ) → length bs ≤ k → merged v.held o bs k ≡ v.held k
  past k l = let t : (nat_le o k && nat_lt k (o + length bs)) ≡ false = grind (arith, nat_tests) in rw t refl

  -- all of them join
  pub longer : length bs ≤ length d.more
  longer = ⊎_elim
      (λ l. let e : Some _ ≡ None = sym (slice_get-get_or bs (length d.more) 0 l) ∙ sym (inside (length d.more) l) ∙ d.stops in cc)
      (λ l. l)
      (cases_lt (length d.more) (length bs))

  -- at the front
  pub joins_at_once : IsPrefix bs d.more
  joins_at_once = prefix_from_at bs d.more (λ j b h. let l = byte_within bs j b h in d.run j (omega (arith, longer)) ∙ inside j l ∙ h)

  -- and then what was held
  pub then_held : (k : ℕ) → length bs ≤ k → k < length d.more → slice_get d.more k ≡ v.held k
  then_held k l m = d.run k m ∙ past k l

  -- so they join at once
  pub at_once : JoinsWithHeld v w bs
  at_once =
      let f = joins_at_once in
      let long : length d.more ≡ length bs + length f.0 = ap length (sym f.1) ∙ length-append bs f.0 in
      record {
        then_held = f.0;
        queue = d.receive_queue ∙ ap (λ (l : List ℕ). v.receive_queue ++ l) (sym f.1);
        were_held = λ k low. sym (right bs f.0 k) ∙ ap (λ (l : List ℕ). slice_get l (length bs + k)) f.1 ∙ then_held (length bs + k) (omega arith) (omega (arith, low, long));
        stops = sym (past (length bs + length f.0) (omega arith)) ∙ ap (merged v.held o bs) (sym long) ∙ d.stops;
      }
    where
      right : (xs ys : List ℕ) (k : ℕ) → slice_get (xs ++ ys) (length xs + k) ≡ slice_get ys k
      right [] ys k = ap (slice_get ys) (omega arith)
      right (x ∷ xs) ys k = ap (slice_get (x ∷ (xs ++ ys))) {x = length (x ∷ xs) + k} {y = suc (length xs + k)} (omega arith) ∙ right xs ys k

-- where byte i of the cut stands
pub cut_place : (l r : ℕ) (g : StreamSegment) (i : ℕ) → l < 2 ^ 32 → g.seq < 2 ^ 32 → (g.seq + (number_distance (cut_from l g) g.seq + i)) % 2 ^ 32 ≡ (l + (cut_offset l g + i)) % 2 ^ 32
unfolding number_distance
cut_place l r g i a b = omega arith

-- The segment reaches into the window: what is cut lies in the window and in the payload. w is the window's size
pub cut_within : (l w s n : ℕ) → l < 2 ^ 32 → s < 2 ^ 32 → w ≤ 2 ^ 30 → n ≤ 65535
    → ((number_is_before s l ≡ false) × (number_is_before s ((l + w) % 2 ^ 32) ≡ true)) ⊎ ((number_is_before l ((s + n) % 2 ^ 32) ≡ true) × (number_is_before ((l + w) % 2 ^ 32) ((s + n) % 2 ^ 32) ≡ false))
    → (number_distance (later_number l s) l + number_distance (sooner_number ((s + n) % 2 ^ 32) ((l + w) % 2 ^ 32)) (later_number l s) ≤ w) × (number_distance (later_number l s) s + number_distance (sooner_number ((s + n) % 2 ^ 32) ((l + w) % 2 ^ 32)) (later_number l s) ≤ n)
unfolding number_distance
cut_within l w s n a b c d inside = go (number_is_before l s) refl (number_is_before ((s + n) % 2 ^ 32) ((l + w) % 2 ^ 32)) refl inside
  where
    go : (t : Bool) → number_is_before l s ≡ t → (u : Bool) → number_is_before ((s + n) % 2 ^ 32) ((l + w) % 2 ^ 32) ≡ u
        → ((number_is_before s l ≡ false) × (number_is_before s ((l + w) % 2 ^ 32) ≡ true)) ⊎ ((number_is_before l ((s + n) % 2 ^ 32) ≡ true) × (number_is_before ((l + w) % 2 ^ 32) ((s + n) % 2 ^ 32) ≡ false))
        → (number_distance (later_number l s) l + number_distance (sooner_number ((s + n) % 2 ^ 32) ((l + w) % 2 ^ 32)) (later_number l s) ≤ w) × (number_distance (later_number l s) s + number_distance (sooner_number ((s + n) % 2 ^ 32) ((l + w) % 2 ^ 32)) (later_number l s) ≤ n)
    go true e true k (inl h) = rw (e, k) (omega (arith, is_before _ _ e, is_before _ _ k, not_before _ _ h.0, is_before _ _ h.1))
    go true e false k (inl h) = rw (e, k) (omega (arith, is_before _ _ e, not_before _ _ k, not_before _ _ h.0, is_before _ _ h.1))
    go false e true k (inl h) = rw (e, k) (omega (arith, not_before _ _ e, is_before _ _ k, not_before _ _ h.0, is_before _ _ h.1))
    go false e false k (inl h) = rw (e, k) (omega (arith, not_before _ _ e, not_before _ _ k, not_before _ _ h.0, is_before _ _ h.1))
    go true e true k (inr h) = rw (e, k) (omega (arith, is_before _ _ e, is_before _ _ k, is_before _ _ h.0, not_before _ _ h.1))
    go true e false k (inr h) = rw (e, k) (omega (arith, is_before _ _ e, not_before _ _ k, is_before _ _ h.0, not_before _ _ h.1))
    go false e true k (inr h) = rw (e, k) (omega (arith, not_before _ _ e, is_before _ _ k, is_before _ _ h.0, not_before _ _ h.1))
    go false e false k (inr h) = rw (e, k) (omega (arith, not_before _ _ e, not_before _ _ k, is_before _ _ h.0, not_before _ _ h.1))

-- what is gathered came by the segment or was held
module _ (v w : SocketView) (g : StreamSegment) (o : ℕ) (bs : List ℕ) (small : o + length bs ≤ 2 ^ 30) (at : (i b : ℕ) → ByteAt bs i b → (j : ℕ) × ((g.seq + j) % 2 ^ 32 ≡ (v.rcv_nxt + (o + i)) % 2 ^ 32) × ByteAt g.payload j b) (d : Gathers v w o bs) where
  -- what is held after the write came by the segment or was held
  merged_brings : (k b : ℕ) → merged v.held o bs k ≡ Some b → Brings v g k b
  merged_brings k b h = go (nat_le o k && nat_lt k (o + length bs)) refl
    where
      go : (t : Bool) → (nat_le o k && nat_lt k (o + length bs)) ≡ t → Brings v g k b
      go true e =
          let lo : o ≤ k = grind (arith, nat_tests) in
          let hi : k < o + length bs = grind (arith, nat_tests) in
          let here : ByteAt bs (k - o) b = subst (λ t. (if t then slice_get bs (k - o) else v.held k) ≡ Some b) e h in
          let r = at (k - o) b here in
          inr (r.0, omega arith, r.1 ∙ ap (λ n. (v.rcv_nxt + n) % 2 ^ 32) (omega arith), r.2)
      go false e = inl (subst (λ t. (if t then slice_get bs (k - o) else v.held k) ≡ Some b) e h)

  -- so did what joins
  more_at : (k b : ℕ) → ByteAt d.more k b → Brings v g k b
  more_at k b h = merged_brings k b (sym (d.run k (byte_within d.more k b h)) ∙ h)

  -- and what is held then
  held_at : (k b : ℕ) → w.held k ≡ Some b → Brings v g (length d.more + k) b
  held_at k b h = merged_brings (length d.more + k) b (sym (d.held k) ∙ h)

  -- the data half of hearing, once the FIN and the counted acknowledgement are told
  pub gathers_hears : (fins : ℕ) → fin_length w.fin_counted ≡ fin_length v.fin_counted + fins → (v.fin_counted ≡ true → w.fin_counted ≡ true) → w.rcv_nxt ≡ (v.rcv_nxt + length d.more + fins) % 2 ^ 32
      → (w.fin_counted ≡ true → (v.fin_counted ≡ true) ⊎ ((n : ℕ) × (g.fin ≡ true) × (n ≤ length d.more) × (n < 2 ^ 31) × ((g.seq + length g.payload) % 2 ^ 32 ≡ (v.rcv_nxt + n) % 2 ^ 32))) → HearsData v w g
  gathers_hears fins c kept l fin = record { more = d.more; receive_queue = d.receive_queue; joined = more_at; held = held_at; fin = fin; kept = kept; fins = fins; fin_counts = c; rcv_nxt = l }

-- a segment that is in order and ends in the window is cut at the rcv_nxt edge alone
fin_reach : (l w s n : ℕ) → l < 2 ^ 32 → s < 2 ^ 32 → w ≤ 2 ^ 30 → n ≤ 65535 → IsInside l w s n → number_is_before l s ≡ false → number_is_before ((l + w) % 2 ^ 32) ((s + n) % 2 ^ 32) ≡ false
    → (number_distance ((s + n) % 2 ^ 32) l ≤ w) × (number_distance l s + number_distance ((s + n) % 2 ^ 32) l ≡ n)
unfolding number_distance
fin_reach l w s n a b c d inside x y = ⊎_elim
    (λ h. omega (arith, h.0, h.1, h.2))
    (λ r. ⊎_elim
    (λ h. omega (arith, h.0, h.1, not_before _ _ h.2, is_before _ _ h.3, not_before _ _ x, not_before _ _ y))
    (λ h. ⊎_elim
    (λ k. omega (arith, h.0, h.1, not_before _ _ k.0, is_before _ _ k.1, not_before _ _ x, not_before _ _ y))
    (λ k. omega (arith, h.0, h.1, is_before _ _ k.0, not_before _ _ k.1, not_before _ _ x, not_before _ _ y))
    h.2)
    r)
    inside

module _ (v w : SocketView) (g : StreamSegment) (win : ℕ) (t : TakesPayload v w g win) where
  -- how long the cut is
  cut_length : length (cut v.rcv_nxt ((v.rcv_nxt + win) % 2 ^ 32) g) ≡ min (number_distance (sooner_number (segment_end g) ((v.rcv_nxt + win) % 2 ^ 32)) (cut_from v.rcv_nxt g)) (length g.payload - number_distance (cut_from v.rcv_nxt g) g.seq)
  cut_length = length-take (number_distance (sooner_number (segment_end g) ((v.rcv_nxt + win) % 2 ^ 32)) (cut_from v.rcv_nxt g)) (drop (number_distance (cut_from v.rcv_nxt g) g.seq) g.payload) ∙ ap (min (number_distance (sooner_number (segment_end g) ((v.rcv_nxt + win) % 2 ^ 32)) (cut_from v.rcv_nxt g))) (length-drop (number_distance (cut_from v.rcv_nxt g) g.seq) g.payload)

  -- a FIN that fins ends the cut
  module _ (x : number_is_before v.rcv_nxt g.seq ≡ false) (y : number_is_before ((v.rcv_nxt + win) % 2 ^ 32) (segment_end g) ≡ false) where
    -- it is cut from the left edge
    from : cut_from v.rcv_nxt g ≡ v.rcv_nxt
    from = ap (λ b. if b then g.seq else v.rcv_nxt) x

    -- at offset 0
    offset_none : cut_offset v.rcv_nxt g ≡ 0
    offset_none = ap (λ n. number_distance n v.rcv_nxt) from ∙ distance_self v.rcv_nxt t.rcv_nxt_small

    -- to its own end
    upto : sooner_number (segment_end g) ((v.rcv_nxt + win) % 2 ^ 32) ≡ segment_end g
    upto = sooner_same (segment_end g) ((v.rcv_nxt + win) % 2 ^ 32) (omega arith) (omega arith) y

    -- which lies in the window
    reach : (number_distance (segment_end g) v.rcv_nxt ≤ win) × (number_distance v.rcv_nxt g.seq + number_distance (segment_end g) v.rcv_nxt ≡ length g.payload)
    reach = fin_reach v.rcv_nxt win g.seq (length g.payload) t.rcv_nxt_small t.seq_small t.win_small t.payload t.inside x y

    -- so the cut is all that is new of it
    whole : length (cut v.rcv_nxt ((v.rcv_nxt + win) % 2 ^ 32) g) ≡ number_distance (segment_end g) v.rcv_nxt
    whole =
        let c : number_distance (sooner_number (segment_end g) ((v.rcv_nxt + win) % 2 ^ 32)) (cut_from v.rcv_nxt g) ≡ number_distance (segment_end g) v.rcv_nxt = (λ i. number_distance (upto i) (from i)) in
        let k : number_distance (cut_from v.rcv_nxt g) g.seq ≡ number_distance v.rcv_nxt g.seq = ap (λ n. number_distance n g.seq) from in
        omega (arith, cut_length, c, k, reach.1)

  -- so the FIN ends within what joins
  ends : (m : ℕ) → ((number_is_before v.rcv_nxt g.seq ≡ false) → (number_is_before ((v.rcv_nxt + win) % 2 ^ 32) (segment_end g) ≡ false) → number_distance (segment_end g) v.rcv_nxt ≤ m)
      → w.fin_counted ≡ true → (v.fin_counted ≡ true) ⊎ ((n : ℕ) × (g.fin ≡ true) × (n ≤ m) × (n < 2 ^ 31) × ((g.seq + length g.payload) % 2 ^ 32 ≡ (v.rcv_nxt + n) % 2 ^ 32))
  ends m reaches e = ⊎_elim
      (λ was. inl was)
      (λ h. inr (number_distance (segment_end g) v.rcv_nxt, h.0, reaches h.1 h.2, omega (arith, (reach h.1 h.2).0, t.win_small), distance_back (segment_end g) v.rcv_nxt (omega arith) t.rcv_nxt_small))
      (t.fin e)

  -- each byte of the cut is the segment's at its number
  byte_at : (i b : ℕ) → ByteAt (cut v.rcv_nxt ((v.rcv_nxt + win) % 2 ^ 32) g) i b → (j : ℕ) × ((g.seq + j) % 2 ^ 32 ≡ (v.rcv_nxt + (cut_offset v.rcv_nxt g + i)) % 2 ^ 32) × ByteAt g.payload j b
  byte_at i b h = (
    number_distance (cut_from v.rcv_nxt g) g.seq + i,
    cut_place v.rcv_nxt ((v.rcv_nxt + win) % 2 ^ 32) g i t.rcv_nxt_small t.seq_small,
    byte_drop g.payload (number_distance (cut_from v.rcv_nxt g) g.seq) i b (byte_take (drop (number_distance (cut_from v.rcv_nxt g) g.seq) g.payload) (number_distance (sooner_number (segment_end g) ((v.rcv_nxt + win) % 2 ^ 32)) (cut_from v.rcv_nxt g)) i b h),
  )

  -- a cut that isn't empty lies in the window
  in_window : 0 < length (cut v.rcv_nxt ((v.rcv_nxt + win) % 2 ^ 32) g) → cut_offset v.rcv_nxt g + length (cut v.rcv_nxt ((v.rcv_nxt + win) % 2 ^ 32) g) ≤ 2 ^ 30
  in_window some = ⊎_elim
      (λ h. absurd (omega (arith, h.0, some, cut_length)))
      (λ r. ⊎_elim
      (λ h. absurd (omega (arith, h.0, some, cut_length)))
      (λ h. omega (arith, (cut_within v.rcv_nxt win g.seq (length g.payload) t.rcv_nxt_small t.seq_small t.win_small t.payload h.2).0, cut_length, t.win_small))
      r)
      t.inside

  -- a segment that changes nothing is heard
  none_joins : w.receive_queue ≡ v.receive_queue → w.held ≡ v.held → (cut v.rcv_nxt ((v.rcv_nxt + win) % 2 ^ 32) g ≡ []) ⊎ (0 < cut_offset v.rcv_nxt g) → HearsData v w g
  none_joins receive_queue held why = record {
    more = [];
    receive_queue = receive_queue ∙ sym (append-nil v.receive_queue);
    joined = λ k b h. let e : None ≡ Some b = h in cc;
    held = λ k b h. inl (subst (λ n. v.held n ≡ Some b) {x = k} {y = 0 + k} (omega arith) ((λ i. sym held i k) ∙ h));
    fin = ends 0 (λ x y. ⊎_elim (λ c. omega (arith, whole x y, ap length c)) (λ c. absurd (omega (arith, offset_none x y, c))) why);
    kept = t.kept;
    fins = t.fins;
    fin_counts = t.fin_counts;
    rcv_nxt = t.rcv_nxt ∙ ap (λ n. (v.rcv_nxt + n + t.fins) % 2 ^ 32) (omega (arith, ap length receive_queue));
  }

  -- a segment of which something joins is heard
  some_join : 0 < length (cut v.rcv_nxt ((v.rcv_nxt + win) % 2 ^ 32) g) → Gathers v w (cut_offset v.rcv_nxt g) (cut v.rcv_nxt ((v.rcv_nxt + win) % 2 ^ 32) g) → HearsData v w g
  some_join some d =
      let more : length w.receive_queue - length v.receive_queue ≡ length d.more = omega (arith, ap length d.receive_queue, length-append v.receive_queue d.more) in
      gathers_hears v w g (cut_offset v.rcv_nxt g) (cut v.rcv_nxt ((v.rcv_nxt + win) % 2 ^ 32) g) (in_window some) byte_at d t.fins t.fin_counts t.kept
      (t.rcv_nxt ∙ ap (λ n. (v.rcv_nxt + n + t.fins) % 2 ^ 32) more)
      (ends (length d.more) (λ x y.
      omega (arith, whole x y, longer v w (cut_offset v.rcv_nxt g) (cut v.rcv_nxt ((v.rcv_nxt + win) % 2 ^ 32) g) (offset_none x y) d)))

  -- so a segment that is taken is heard
  pub takes_hears : HearsData v w g
  takes_hears = ⊎_elim (λ h. none_joins h.0 h.1 h.2) (λ h. some_join h.0 h.1) t.joins

-- a segment that is in order and comes whole is heard
module _ (v w : SocketView) (g : StreamSegment) (t : TakesWhole v w g) where
  -- a FIN ends it
  whole_fin : (m : ℕ) → length g.payload ≤ m → w.fin_counted ≡ true → (v.fin_counted ≡ true) ⊎ ((n : ℕ) × (g.fin ≡ true) × (n ≤ m) × (n < 2 ^ 31) × ((g.seq + length g.payload) % 2 ^ 32 ≡ (v.rcv_nxt + n) % 2 ^ 32))
  whole_fin m le e = ⊎_elim (λ was. inl was) (λ new. inr (length g.payload, new, le, omega (arith, t.short), ap (λ n. (n + length g.payload) % 2 ^ 32) t.in_order)) (t.fin e)

  whole_none : GathersNothing v w g.payload → HearsData v w g
  whole_none h = record {
    more = [];
    receive_queue = h.receive_queue ∙ sym (append-nil v.receive_queue);
    joined = λ k b x. let e : None ≡ Some b = x in cc;
    held = λ k b x. inl (subst (λ n. v.held n ≡ Some b) {x = k} {y = 0 + k} (omega arith) ((λ i. sym h.held i k) ∙ x));
    fin = whole_fin 0 (omega (arith, ap length h.none));
    kept = t.kept;
    fins = t.fins;
    fin_counts = t.fin_counts;
    rcv_nxt = t.rcv_nxt ∙ ap (λ n. (v.rcv_nxt + n + t.fins) % 2 ^ 32) (omega (arith, ap length h.receive_queue));
  }

  whole_some : Gathers v w 0 g.payload → HearsData v w g
  whole_some d =
      let more : length w.receive_queue - length v.receive_queue ≡ length d.more = omega (arith, ap length d.receive_queue, length-append v.receive_queue d.more) in
      gathers_hears v w g 0 g.payload (omega (arith, t.short)) (λ i b h. (i, ap (λ n. (n + i) % 2 ^ 32) t.in_order ∙ ap (λ n. (v.rcv_nxt + n) % 2 ^ 32) (omega arith), h)) d t.fins t.fin_counts t.kept
      (t.rcv_nxt ∙ ap (λ n. (v.rcv_nxt + n + t.fins) % 2 ^ 32) more)
      (whole_fin (length d.more) (longer v w 0 g.payload refl d))

  pub whole_hears : HearsData v w g
  whole_hears = ⊎_elim whole_none whole_some t.joins
