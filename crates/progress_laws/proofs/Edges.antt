-- The receive window, as seen from its left edge.
use Rattle.std.proofs.Common.{◌≡◌, ℕ, zero, suc, ◌<◌, ◌≤◌, ◌^◌, ◌⊎◌, inl, inr, Bool, true, false, ◌&&◌, ◌||◌, refl, ap, ◌∙◌, arith}
use Rattle.std.specs.Prelude.{if◌then◌else◌}
use Rattle.std.proofs.lemmas.Bool.{eq-eqb, eqb-true}
use Rattle.control_wire.specs.Seq.{seq_add, seq_eq, seq_minus, seq_sub}
use Rattle.control_wire.specs.declared.seq_number.TcpSeqNumber.{TcpSeqNumber}
use Rattle.sock_core.specs.Seq.{is_before, is_not_after, later_of}
use Rattle.sock_tcp.proofs.Windows.{not_far}
pub use Rattle.sock_tcp.proofs.Windows.{is_not_before, same_seq}
use Rattle.sock_tcp.specs.Window.{cut_end, cut_of, empty_inside, full_inside, kept_between, starts_inside}
use Rattle.sock_tcp.specs.declared.window.Cut.{Cut}
use Rattle.sock_tcp.specs.declared.window.Window.{Window}

-- ---- comparisons

pub is_earlier : (x y : TcpSeqNumber) → 2 ^ 31 ≤ seq_sub x y → is_before x y ≡ true
is_earlier x y h = go (is_before x y) refl
  where
    go : (b : Bool) → is_before x y ≡ b → is_before x y ≡ true
    go false e = absurd (omega (arith, h, not_far x y e))
    go true e = e

pub later_is : (x y : TcpSeqNumber) → is_before x y ≡ true → later_of x y ≡ y
unfolding later_of
later_is x y e = rw e refl

pub later_stays : (x y : TcpSeqNumber) → is_before x y ≡ false → later_of x y ≡ x
unfolding later_of
later_stays x y e = rw e refl

-- what is not before a number is later, or the same
pub later_all : (x y : TcpSeqNumber) → is_not_after x y ≡ true → later_of x y ≡ y
unfolding is_not_after
later_all x y e = go (is_before x y) refl
  where
    same : (b : Bool) → b ≡ false → (b || seq_eq x y) ≡ true → x ≡ y
    same true f h = absurd cc
    same false f h = same_seq x y (eqb-true x.0 y.0 h)

    go : (b : Bool) → is_before x y ≡ b → later_of x y ≡ y
    go true b = later_is x y b
    go false b = later_stays x y b ∙ same (is_before x y) b e

pub differs : (x y : TcpSeqNumber) → (x.0 ≡ y.0 → ⊥) → seq_eq x y ≡ false
differs x y n = go (seq_eq x y) refl
  where
    go : (b : Bool) → seq_eq x y ≡ b → seq_eq x y ≡ false
    go true e = absurd (n (eqb-true x.0 y.0 e))
    go false e = e

abbrev pub cut_at : ℕ → ℕ → ℕ → Cut
cut_at skip count offset = record { skip = skip; count = count; offset = offset }

-- ---- the window from start on, so wide

module _ (w : Window) (start_small : w.start.0 < 2 ^ 32) (end_small : w.end.0 < 2 ^ 32) (wide : seq_sub w.end w.start ≤ 2 ^ 30) where
  abbrev width : ℕ
  width = seq_sub w.end w.start

  apart : 0 < width → seq_eq w.start w.end ≡ false
  apart some = differs w.start w.end (λ e. omega (arith, e, some, start_small, end_small))

  shut : width ≡ 0 → seq_eq w.start w.end ≡ true
  shut z = eq-eqb w.start.0 w.end.0 (omega (arith, z, start_small, end_small))

  at_start : is_not_after w.start w.start ≡ true
  unfolding is_not_after
  at_start = rw (is_not_before w.start w.start (omega (arith, start_small)), eq-eqb w.start.0 w.start.0 refl) refl

  -- one without any
  pub empty_inside_so : empty_inside w w.start ≡ true
  empty_inside_so = go (width_or)
    where
      not_one_before : seq_eq w.start (seq_minus w.start 1) ≡ false
      not_one_before = differs w.start (seq_minus w.start 1) (λ e. omega (arith, e, start_small))

      width_or : (width ≡ 0) ⊎ (0 < width)
      width_or = by width refl
        where
          by : (k : ℕ) → width ≡ k → (width ≡ 0) ⊎ (0 < width)
          by zero e = inl e
          by (suc k) e = inr (omega (arith, e))

      go : (width ≡ 0) ⊎ (0 < width) → empty_inside w w.start ≡ true
      go (inl z) = rw (not_one_before, shut z, eq-eqb w.start.0 w.start.0 refl) refl
      go (inr some) = rw (not_one_before, apart some, at_start, is_earlier w.start w.end (omega (arith, some, start_small, end_small, wide))) refl

  pub reach_inside : (number : TcpSeqNumber) → number.0 < 2 ^ 32 → seq_sub number w.start < width → empty_inside w number ≡ true
  unfolding is_not_after
  reach_inside number small reach = rw (not_one_before, apart (omega (arith, reach)), is_earlier number w.end (omega (arith, reach, wide, small, start_small, end_small))) (go (is_before w.start number) refl)
    where
      not_one_before : seq_eq number (seq_minus w.start 1) ≡ false
      not_one_before = differs number (seq_minus w.start 1) (λ e. omega (arith, e, reach, wide, start_small))

      go : (b : Bool) → is_before w.start number ≡ b → ((b || seq_eq w.start number) && true) ≡ true
      go true e = refl
      go false e = let h = not_far w.start number e in rw (eq-eqb w.start.0 number.0 (omega (arith, h, reach, wide, small, start_small))) refl

  -- a shut window has no place for bytes
  pub shut_outside : (number end : TcpSeqNumber) → width ≡ 0 → full_inside w number end ≡ false
  shut_outside number end z = rw (shut z) refl

  -- what begins before the left edge, and ends there or before
  pub old_outside : (number end : TcpSeqNumber) → number.0 < 2 ^ 32 → 0 < seq_sub w.start number → seq_sub w.start number < 2 ^ 31 → seq_sub w.start end < 2 ^ 31 → full_inside w number end ≡ false
  unfolding is_not_after
  old_outside number end small before near behind = go (seq_eq w.start w.end)
    where
      late : is_not_after w.start number ≡ false
      late = rw (is_not_before w.start number near, differs w.start number (λ e. omega (arith, e, before, small, start_small))) refl

      go : (b : Bool) → (if b then false else (starts_inside w number || (is_before w.start end && is_not_after end w.end))) ≡ false
      go true = refl
      go false = rw (late, is_not_before w.start end behind) refl

  -- what ends n bytes past the left edge, within the window
  module _ (number end : TcpSeqNumber) (n : ℕ) (end_there : end.0 < 2 ^ 32) (some : 0 < n) (fits : n ≤ width) (past : seq_sub end w.start ≡ n) where
    pub tail_inside : full_inside w number end ≡ true
    unfolding is_not_after
    tail_inside = rw (apart (omega (arith, some, fits)), is_earlier w.start end (omega (arith, past, some, fits, wide, start_small, end_there))) (by (starts_inside w number) (is_not_after end w.end) at_end)
      where
        at_end : is_not_after end w.end ≡ true
        at_end = go (is_before end w.end) refl
          where
            go : (b : Bool) → is_before end w.end ≡ b → (b || seq_eq end w.end) ≡ true
            go true e = refl
            go false e = let h = not_far end w.end e in eq-eqb end.0 w.end.0 (omega (arith, h, past, fits, wide, start_small, end_there, end_small))

        by : (a b : Bool) → b ≡ true → (a || (true && b)) ≡ true
        by true b e = refl
        by false b e = e

    -- is cut to these, where it begins j bytes before the left edge
    pub tail_cut : (j k : ℕ) → seq_sub w.start number ≡ j → j < 2 ^ 31 → seq_add number k ≡ end → cut_of w number k ≡ cut_at j n 0
    unfolding cut_of later_of
    tail_cut j k skips near ends = rw (is_not_before w.start number (omega (arith, skips, near)), ends) (by (is_before end w.end) refl)
      where
        none : seq_sub w.start w.start ≡ 0
        none = omega (arith, start_small)

        counts : (b : Bool) → is_before end w.end ≡ b → seq_sub (if b then end else w.end) w.start ≡ n
        counts true e = past
        counts false e = let h = not_far end w.end e in omega (arith, h, start_small, end_small, end_there, past, fits, wide)

        by : (b : Bool) → is_before end w.end ≡ b → cut_at (seq_sub w.start number) (seq_sub (cut_end w end) w.start) (seq_sub w.start w.start) ≡ cut_at j n 0
        by b e = (λ i. cut_at (skips i) ((ap (λ c. seq_sub (if c then end else w.end) w.start) e ∙ counts b e) i) (none i))

-- ---- the edge that was told with the acknowledgement at the left edge

pub told_edge : (start : TcpSeqNumber) (room n : ℕ) → start.0 < 2 ^ 32 → n ≤ room → room ≤ 2 ^ 30 → seq_sub (kept_between start (seq_add start room) (seq_add start n)) start ≡ n
told_edge start room n small fits narrow = rw (is_not_before (seq_add start n) start (omega (arith, small, fits, narrow)), is_not_before (seq_add start room) (seq_add start n) (omega (arith, small, fits, narrow))) (omega (arith, small, fits, narrow))
