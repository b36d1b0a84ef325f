-- The calls of a receive buffer, from those of its ring and its ranges.
use Rattle.std.proofs.Common.{◌≡◌, ℕ, zero, suc, ◌+◌, ◌-◌, ◌^◌, ◌<◌, ◌≤◌, ◌⊎◌, Bool, true, false, cond, not, ◌&&◌, min, List, [], ◌∷◌, ◌++◌, length, take, drop, replicate, slice_get, Option, Some, None, Ok, Err, refl, sym, ap, ap₂, subst, ◌∙◌, inl, inr, arith, length-append, length-drop, length-take}
use Rattle.std.specs.Prelude.{◌==◌, nat_le, Result}
use Rattle.std.proofs.lemmas.Bool.{cases_lt}
use Rattle.std.proofs.lemmas.Bool.Decides.{nat_tests}
use Rattle.std.proofs.lemmas.List.{take_all}
use Rattle.net_base.specs.declared.assembler.Range.{Range}
use Rattle.net_base.specs.Ranges.{edges, insert_range, is_refused, run_after, ranges_after}
use Rattle.net_base.specs.Ring.{Ring, ring, overwrite, cells_from, end_after, queue_piece, shortened, emptied, DequeuesWith}
use Rattle.net_base.proofs.Cells.{piece_within, length_around}
use Rattle.net_base.specs.Held.{IsKept, Joins}
use Rattle.net_base.proofs.Sets.{below_apart, insert_range_behind, insert_range_before, insert_range_joined}
use Rattle.net_base.proofs.Helds.{joins_all}
use Rattle.sock_core.specs.declared.ranges.TooManyRanges.{TooManyRanges}
use Rattle.std.specs.Prelude.{nat_eq, ◌||◌, ◌%◌}
use Rattle.sock_core.specs.Places.{number_distance, number_is_before}
use Rattle.sock_core.specs.HeldRanges.{HeldRanges, added, run_removed}
use Rattle.sock_core.specs.Received.{Received, received, room_of, byte_at, holds_nothing, ranges_from, ranges_of, written, makes_fifth_range, gathered, taken_in, handed_out, cleared, shown, range_around, reaches_number, first_piece, DequeuesBytesWith}
use Rattle.sock_core.proofs.Receiving.{length-shown, byte_shown, ranges_shown, nothing_shown, shown_read, refused_makes_fifth_range, length-overwritten, gathers, room_cleared, room_handed_out, room_taken_in}

-- ---- no byte is held exactly where there is no range

some_range : (rs : List Range) (lo hi : ℕ) → 0 < length (insert_range lo hi rs)
some_range [] lo hi = omega arith
some_range (r ∷ rs) lo hi = elim (cases_lt r.end lo) [
  | inl behind ↦ subst (λ (l : List Range). 0 < length l) (sym (insert_range_behind lo hi r rs behind)) (omega arith)
  | inr reaches ↦ elim (cases_lt hi r.start) [
    | inl before ↦ subst (λ (l : List Range). 0 < length l) (sym (insert_range_before lo hi r rs reaches before)) (omega arith)
    | inr touches ↦ subst (λ (l : List Range). 0 < length l) (sym (insert_range_joined lo hi r rs reaches touches)) (some_range rs _ _)
  ]
]

no_ranges : (k : ℕ) (hs : List (Option ℕ)) → (length (ranges_from k hs) == 0) ≡ holds_nothing hs
no_ranges k [] = refl
no_ranges k (None ∷ hs) = no_ranges (k + 1) hs
no_ranges k (Some b ∷ hs) = let some : 0 < length (insert_range k (k + 1) (ranges_from (k + 1) hs)) = some_range (ranges_from (k + 1) hs) k (k + 1) in grind (arith, nat_tests, some)

-- ---- what an addition to the ranges answered

err_means : (t : Bool) (run : ℕ) (e f : TooManyRanges) (o : Result ℕ TooManyRanges) → o ≡ cond t (Err f) (Ok run) → o ≡ Err e → t ≡ true
err_means true run e f o is err = refl
err_means false run e f o is err = absurd cc

ok_means : (t : Bool) (run n : ℕ) (f : TooManyRanges) (o : Result ℕ TooManyRanges) → o ≡ cond t (Err f) (Ok run) → o ≡ Ok n → (t ≡ false) × (n ≡ run)
ok_means true run n f o is ok = absurd cc
ok_means false run n f o is ok = (refl, cc)

-- ---- a buffer of the ring r and the ranges h, which shows b

module _ (r : Ring ℕ) (h : HeldRanges) (b : Received) (is : received r.queue (shown h.ranges r.spare) r.until_end ≡ b) where
  pub queue_is : b.bytes ≡ r.queue
  queue_is = ap (λ (b : Received). b.bytes) (sym is)

  pub window_is : length r.spare ≡ length b.held
  window_is = sym (length-shown 0 h.ranges r.spare) ∙ ap (λ (b : Received). length b.held) is

  pub room_is : length r.queue + length r.spare ≡ room_of b
  room_is = omega (arith, window_is, ap (λ (l : List ℕ). length l) queue_is)

  pub is_cleared : (r' : Ring ℕ) (h' : HeldRanges) → r' ≡ emptied r → h' ≡ record { front = 0; ranges = [] } → received r'.queue (shown h'.ranges r'.spare) r'.until_end ≡ cleared b
  unfolding cleared
  is_cleared r' h' c none =
      let all = cells_from r.until_end (r.queue ++ r.spare) in
      let count : length all ≡ room_of b = length_around r.until_end (r.queue ++ r.spare) ∙ length-append r.queue r.spare ∙ room_is in
      (λ i. received (c i).queue (shown (none i).ranges (c i).spare) (c i).until_end)
      ∙ (λ i. received [] ((nothing_shown 0 all ∙ ap (λ n. replicate {A = Option ℕ} n None) count) i) (room_is i))

  pub cleared_room : (r' : Ring ℕ) (h' : HeldRanges) → r' ≡ emptied r → h' ≡ record { front = 0; ranges = [] } → room_of (received r'.queue (shown h'.ranges r'.spare) r'.until_end) ≡ room_of b
  cleared_room r' h' c none = ap (λ (b : Received). room_of b) (is_cleared r' h' c none) ∙ room_cleared b

  module _ (kept : IsKept h.ranges (length r.spare)) where
    pub ranges_is : h.ranges ≡ ranges_of b.held
    ranges_is = sym (ranges_shown h.ranges r.spare kept) ∙ ap (λ (b : Received). ranges_of b.held) is

    pub range_at_is : (i : ℕ) → slice_get (edges h.ranges) i ≡ slice_get (edges (ranges_of b.held)) i
    range_at_is i = ap (λ (l : List Range). slice_get (edges l) i) ranges_is

    pub holds_nothing_is : (length h.ranges == 0) ≡ holds_nothing b.held
    holds_nothing_is = ap (λ (l : List Range). length l == 0) ranges_is ∙ no_ranges 0 b.held

    pub few_is : length (ranges_of b.held) ≤ 4
    few_is = omega (arith, kept.tidy.few, ap (λ (l : List Range). length l) ranges_is)

    pub first_is : byte_at b.held 0 ≡ None
    first_is =
        ap (λ (b : Received). byte_at b.held 0) (sym is) ∙ byte_shown h.ranges r.spare 0
        ∙ ap (λ t. cond t (slice_get r.spare 0) None) (below_apart h.ranges 1 0 kept.tidy.apart (omega arith))

    pub is_handed_out : (n : ℕ) (r' : Ring ℕ) → n ≤ length r.queue → r' ≡ shortened r n → received r'.queue (shown h.ranges r'.spare) r'.until_end ≡ handed_out b n
    unfolding handed_out
    is_handed_out n r' within after =
        let count : length (take n r.queue) ≡ n = omega (arith, length-take n r.queue, within) in
        let held = shown_read h.ranges r.spare (take n r.queue) kept ∙ ap (λ m. shown h.ranges r.spare ++ replicate m None) count in
        let room : length r.queue + length r.spare ≡ length r.queue + length (shown h.ranges r.spare) = ap (λ j. length r.queue + j) (sym (length-shown 0 h.ranges r.spare)) in
        ap (λ (x : Ring ℕ). received x.queue (shown h.ranges x.spare) x.until_end) after
        ∙ (λ i. received (drop n r.queue) (held i) (end_after r.until_end n (room i)))
        ∙ ap (λ (b : Received). received (drop n b.bytes) (b.held ++ replicate n None) (end_after b.until_end n (room_of b))) is

    pub handed_out_room : (n : ℕ) (r' : Ring ℕ) → n ≤ length r.queue → r' ≡ shortened r n → room_of (received r'.queue (shown h.ranges r'.spare) r'.until_end) ≡ room_of b
    handed_out_room n r' within after = ap (λ (b : Received). room_of b) (is_handed_out n r' within after) ∙ room_handed_out b n (omega (arith, within, ap (λ (l : List ℕ). length l) queue_is))

    pub piece_is : queue_piece r 0 ≡ first_piece b
    piece_is = ap first_piece is

    reads_within : (n : ℕ) → n ≤ queue_piece r 0 → n ≤ length r.queue
    reads_within n within = omega (arith, within, piece_within r.until_end (length r.queue) 0)

    pub reads_with : {R : Type 0} (called : List ℕ → ℕ × R → Type 0) (result : ℕ × R) (r' : Ring ℕ) → DequeuesWith called r result r' → DequeuesBytesWith called b result (received r'.queue (shown h.ranges r'.spare) r'.until_end)
    reads_with called result r' d = record {
      met = subst (λ (l : List ℕ). called l result) (λ i. take (piece_is i) (sym queue_is i)) d.met;
      size_within = omega (arith, d.size_within, piece_is);
      after = is_handed_out result.0 r' (reads_within result.0 d.size_within) d.after;
    }

    pub reads_room : (n : ℕ) (r' : Ring ℕ) → n ≤ queue_piece r 0 → r' ≡ shortened r n → room_of (received r'.queue (shown h.ranges r'.spare) r'.until_end) ≡ room_of b
    reads_room n r' within after = handed_out_room n r' (reads_within n within) after

    module _ (o : ℕ) (ys : List ℕ) (some : 0 < length ys) (fits : o + length ys ≤ length b.held) where
      fits_spare : o + length ys ≤ length r.spare
      fits_spare = omega (arith, fits, window_is)

      pub taken_in_room : (c : Received) → c ≡ taken_in b o ys → room_of c ≡ room_of b
      taken_in_room c is = ap (λ (b : Received). room_of b) is ∙ room_taken_in b o ys fits

      same_refusal : makes_fifth_range b o ys ≡ is_refused o (length ys) h.ranges
      same_refusal = ap (λ (b : Received). makes_fifth_range b o ys) (sym is) ∙ sym (refused_makes_fifth_range h.ranges r.spare ys o kept some fits_spare r.queue r.until_end)

      module _ (h' : HeldRanges) (f : TooManyRanges) (answer : Result ℕ TooManyRanges) (after : h' ≡ added o (length ys) h) (answer_is : answer ≡ cond (is_refused o (length ys) h.ranges) (Err f) (Ok (run_after o (length ys) h.ranges))) where
        module _ (e : TooManyRanges) (err : answer ≡ Err e) where
          refused : is_refused o (length ys) h.ranges ≡ true
          refused = err_means (is_refused o (length ys) h.ranges) _ e f answer answer_is err

          pub is_refused_answer : false ≡ not (makes_fifth_range b o ys)
          is_refused_answer = sym (ap not (same_refusal ∙ refused))

          pub stays : received r.queue (shown h'.ranges r.spare) r.until_end ≡ taken_in b o ys
          unfolding taken_in
          stays =
              ap (λ (h : HeldRanges). received r.queue (shown h.ranges r.spare) r.until_end) (after ∙ ap (λ t. cond t h (run_removed o (length ys) h)) refused)
              ∙ is ∙ ap (λ t. cond t b (gathered (received b.bytes (written b.held o ys) b.until_end))) (sym (same_refusal ∙ refused))

        module _ (run : ℕ) (ok : answer ≡ Ok run) where
          passes : is_refused o (length ys) h.ranges ≡ false
          passes = (ok_means (is_refused o (length ys) h.ranges) (run_after o (length ys) h.ranges) run f answer answer_is ok).0

          run_is : run ≡ run_after o (length ys) h.ranges
          run_is = (ok_means (is_refused o (length ys) h.ranges) (run_after o (length ys) h.ranges) run f answer answer_is ok).1

          pub is_taken_answer : true ≡ not (makes_fifth_range b o ys)
          is_taken_answer = sym (ap not (same_refusal ∙ passes))

          ranges_then : h'.ranges ≡ ranges_after o (length ys) h.ranges
          ranges_then = ap (λ (h : HeldRanges). h.ranges) (after ∙ ap (λ t. cond t h (run_removed o (length ys) h)) passes)

          joins : Joins h.ranges r.spare o ys run h'.ranges (drop run (overwrite r.spare o ys))
          joins =
              subst (λ (l : List Range). Joins h.ranges r.spare o ys run l (drop run (overwrite r.spare o ys))) (sym ranges_then)
              (subst (λ n. Joins h.ranges r.spare o ys n (ranges_after o (length ys) h.ranges) (drop n (overwrite r.spare o ys))) (sym run_is) (joins_all h.ranges r.spare ys o kept some fits_spare passes))

          -- w is the ring once the bytes are written
          module _ (n : ℕ) (w : Ring ℕ) (count : n ≡ min (length ys) (length r.spare - o)) (wrote : w ≡ ring r.queue (overwrite r.spare o (take n ys)) r.until_end) where
            all_written : w ≡ ring r.queue (overwrite r.spare o ys) r.until_end
            all_written = wrote ∙ ap (λ (l : List ℕ). ring r.queue (overwrite r.spare o l) r.until_end) (take_all n ys (omega (arith, count, fits_spare)))

            long : length w.spare ≡ length r.spare
            long = ap (λ (x : Ring ℕ). length x.spare) all_written ∙ length-overwritten h.ranges r.spare ys o kept some fits_spare

            pub run_fits : run ≤ length w.spare
            run_fits = omega (arith, joins.fits, long)

            module _ (r' : Ring ℕ) (queued : r' ≡ ring (w.queue ++ take run w.spare) (drop run w.spare) w.until_end) where
              then_is : r' ≡ ring (r.queue ++ take run (overwrite r.spare o ys)) (drop run (overwrite r.spare o ys)) r.until_end
              then_is = queued ∙ ap (λ (x : Ring ℕ). ring (x.queue ++ take run x.spare) (drop run x.spare) x.until_end) all_written

              pub keeps_sound : length r.queue + length r.spare ≤ 2 ^ 30 → (length r'.queue + length r'.spare ≤ 2 ^ 30) × IsKept h'.ranges (length r'.spare)
              keeps_sound small = (
                omega (
                  arith,
                  small,
                  ap (λ (x : Ring ℕ). length x.queue + length x.spare) then_is,
                  length-append r.queue (take run (overwrite r.spare o ys)),
                  length-take run (overwrite r.spare o ys),
                  length-drop run (overwrite r.spare o ys),
                  length-overwritten h.ranges r.spare ys o kept some fits_spare,
                ),
                subst (λ (x : Ring ℕ). IsKept h'.ranges (length x.spare)) (sym then_is) joins.kept,
              )

              pub is_taken_in : received r'.queue (shown h'.ranges r'.spare) r'.until_end ≡ taken_in b o ys
              unfolding taken_in
              is_taken_in =
                  ap (λ (x : Ring ℕ). received x.queue (shown h'.ranges x.spare) x.until_end) then_is
                  ∙ gathers h.ranges r.spare ys o kept some fits_spare run h'.ranges joins r.queue r.until_end
                  ∙ ap (λ (b : Received). gathered (received b.bytes (written b.held o ys) b.until_end)) is
                  ∙ ap (λ t. cond t b (gathered (received b.bytes (written b.held o ys) b.until_end))) (sym (same_refusal ∙ passes))

-- ---- the search for a range

length-edges : (rs : List Range) → length (edges rs) ≡ length rs
length-edges [] = refl
length-edges (r ∷ rs) = ap suc (length-edges rs)

none_past : (es : List (ℕ × ℕ)) (i d : ℕ) → length es ≤ i → range_around (drop i es) d ≡ None
none_past [] zero d h = refl
none_past [] (suc i) d h = refl
none_past (e ∷ es) zero d h = absurd (omega arith)
none_past (e ∷ es) (suc i) d h = none_past es i d (omega arith)

pub around_none : (rs : List Range) (i d : ℕ) → length rs ≤ i → range_around (drop i (edges rs)) d ≡ None
around_none rs i d h = none_past (edges rs) i d (omega (arith, h, length-edges rs))

past_next : (es : List (ℕ × ℕ)) (i d : ℕ) → slice_get es i ≡ None → range_around (drop (suc i) es) d ≡ range_around (drop i es) d
past_next [] zero d h = refl
past_next [] (suc i) d h = refl
past_next (e ∷ es) zero d h = absurd cc
past_next (e ∷ es) (suc i) d h = past_next es i d h

other_next : (es : List (ℕ × ℕ)) (i d s t : ℕ) → slice_get es i ≡ Some (s, t) → (nat_le s d && nat_le d t) ≡ false → range_around (drop (suc i) es) d ≡ range_around (drop i es) d
other_next [] i d s t h out = absurd cc
other_next (e ∷ es) zero d s t h out =
    let is : e ≡ (s, t) = cc in
    sym (ap (λ (e : ℕ × ℕ). cond (nat_le e.0 d && nat_le d e.1) (Some e) (range_around es d)) is ∙ ap (λ b. cond b (Some (s, t)) (range_around es d)) out)
other_next (e ∷ es) (suc i) d s t h out = other_next es i d s t h out

next_is : (es : List (ℕ × ℕ)) (i d : ℕ) → range_around (drop (i + 1) es) d ≡ range_around (drop (suc i) es) d
next_is es i d = ap (λ n. range_around (drop n es) d) {x = i + 1} {y = suc i} (omega arith)

pub around_past : (es : List (ℕ × ℕ)) (i d : ℕ) → slice_get es i ≡ None → range_around (drop (i + 1) es) d ≡ range_around (drop i es) d
around_past es i d h = next_is es i d ∙ past_next es i d h

pub around_other : (es : List (ℕ × ℕ)) (i d s t : ℕ) → slice_get es i ≡ Some (s, t) → ((s ≤ d) × (t < d)) ⊎ (d < s) → range_around (drop (i + 1) es) d ≡ range_around (drop i es) d
around_other es i d s t h (inl past) = let out : (nat_le s d && nat_le d t) ≡ false = grind (arith, nat_tests, past.1) in next_is es i d ∙ other_next es i d s t h out
around_other es i d s t h (inr before) = let out : (nat_le s d && nat_le d t) ≡ false = grind (arith, nat_tests, before) in next_is es i d ∙ other_next es i d s t h out

pub around_found : (es : List (ℕ × ℕ)) (i d s t : ℕ) → slice_get es i ≡ Some (s, t) → s ≤ d → d ≤ t → range_around (drop i es) d ≡ Some (s, t)
around_found [] i d s t h lo hi = absurd cc
around_found (e ∷ es) zero d s t h lo hi =
    let is : e ≡ (s, t) = cc in
    let inside : (nat_le s d && nat_le d t) ≡ true = grind (arith, nat_tests, lo, hi) in
    ap (λ (e : ℕ × ℕ). cond (nat_le e.0 d && nat_le d e.1) (Some e) (range_around es d)) is ∙ ap (λ b. cond b (Some (s, t)) (range_around es d)) inside
around_found (e ∷ es) (suc i) d s t h lo hi = around_found es i d s t h lo hi

-- ---- a range in wire numbers

wire_lo : (nxt last lo : ℕ) → nxt < 2 ^ 32 → last < 2 ^ 32 → lo ≤ 2 ^ 30 → number_distance last nxt < 2 ^ 31 → (number_is_before ((nxt + lo) % 2 ^ 32) last || nat_eq ((nxt + lo) % 2 ^ 32) last) ≡ nat_le lo (number_distance last nxt)
unfolding number_is_before number_distance
wire_lo nxt last lo a b c d = grind (arith, nat_tests)

wire_hi : (nxt last hi : ℕ) → nxt < 2 ^ 32 → last < 2 ^ 32 → hi ≤ 2 ^ 30 → number_distance last nxt < 2 ^ 31 → not (number_is_before ((nxt + hi) % 2 ^ 32) last) ≡ nat_le (number_distance last nxt) hi
unfolding number_is_before number_distance
wire_hi nxt last hi a b c d = grind (arith, nat_tests)

-- behind half of the numbers there is no range
wire_far : (nxt last lo hi : ℕ) → nxt < 2 ^ 32 → last < 2 ^ 32 → lo < hi → hi ≤ 2 ^ 30 → 2 ^ 31 ≤ number_distance last nxt → (t u w : Bool) → number_is_before ((nxt + lo) % 2 ^ 32) last ≡ t → nat_eq ((nxt + lo) % 2 ^ 32) last ≡ u → number_is_before ((nxt + hi) % 2 ^ 32) last ≡ w → ((t || u) && not w) ≡ false
unfolding number_is_before number_distance
wire_far nxt last lo hi a b c d far t u true e f g = by (t || u)
  where
    by : (x : Bool) → (x && false) ≡ false
    by true = refl
    by false = refl
wire_far nxt last lo hi a b c d far false false false e f g = refl
wire_far nxt last lo hi a b c d far true u false e f g = absurd (grind (arith, nat_tests, e, g, far))
wire_far nxt last lo hi a b c d far false true false e f g = absurd (grind (arith, nat_tests, f, g, far))

pub reaches_in_wire_numbers : (nxt last lo hi : ℕ) → nxt < 2 ^ 32 → last < 2 ^ 32 → lo < hi → hi ≤ 2 ^ 30 → reaches_number nxt lo hi last ≡ (nat_le lo (number_distance last nxt) && nat_le (number_distance last nxt) hi)
reaches_in_wire_numbers nxt last lo hi a b c d = elim (cases_lt (number_distance last nxt) (2 ^ 31)) [
  | inl near ↦ ap₂ ◌&&◌ (wire_lo nxt last lo a b (omega (arith, c, d)) near) (wire_hi nxt last hi a b d near)
  | inr far ↦
      let past : nat_le (number_distance last nxt) hi ≡ false = grind (arith, nat_tests, far, d) in
      wire_far nxt last lo hi a b c d far _ _ _ refl refl refl
      ∙ (let none : (nat_le lo (number_distance last nxt) && false) ≡ false = by (nat_le lo (number_distance last nxt)) in sym (ap (λ t. nat_le lo (number_distance last nxt) && t) past ∙ none))
]
  where
    by : (x : Bool) → (x && false) ≡ false
    by true = refl
    by false = refl

-- what `ReceiveBuffer::keeps_bounds` rests on
pub ruleset bounds = (room_is, few_is, first_is)
