-- The receive window lies within the free space, and so does what is cut to it.
use Rattle.std.proofs.Common.{◌≡◌, ℕ, ◌+◌, ◌-◌, ◌*◌, ◌/◌, ◌^◌, ◌<◌, ◌≤◌, ◌⊎◌, Bool, true, false, cond, ◌&&◌, ◌||◌, List, length, drop, min, Option, Some, None, refl, ap, sym, ◌∙◌, arith, inl, inr, ⊎_elim, length-drop, length-take}
use Rattle.std.specs.Prelude.{if◌then◌else◌, ◌==◌}
use Rattle.std.proofs.lemmas.Bool.{leb-true, leb-false, eqb-true, lt-leb}
use Rattle.std.proofs.Math.Nat.{mul-div_cancel, mul-le-mul_left}
use Rattle.std.proofs.Math.Pow.{pow_mono}
use Rattle.std.proofs.lemmas.Nat.{pow_pos}
use Rattle.std.proofs.lemmas.Bool.Decides.{nat_tests}
use Rattle.control_wire.specs.Seq.{seq_add, seq_sub, seq_minus, seq_eq}
use Rattle.control_wire.specs.declared.seq_number.TcpSeqNumber.{TcpSeqNumber}
use Rattle.sock_core.specs.Places.{number_is_before, number_distance}
use Rattle.sock_core.specs.Seq.{is_before, is_not_after, later_of}
use Rattle.sock_tcp.specs.View.{View}
use Rattle.sock_tcp.specs.Window.{next_ack, kept_between, window_end, receive_window, space_end, honored_window, accepted_window, starts_inside, empty_inside, full_inside, is_inside, cut_end, cut_of, cut_bytes}
use Rattle.sock_tcp.specs.declared.window.Cut.{Cut}
use Rattle.sock_tcp.specs.declared.rules.Rules.{Rules}
use Rattle.sock_tcp.specs.declared.rules.Rules.TheVariants as rules
use Rattle.sock_tcp.specs.declared.window.Window.{Window}
use Rattle.sock_tcp.proofs.Acking.{between}

-- ---- comparisons as distances

pub not_far : (x y : TcpSeqNumber) → is_before x y ≡ false → seq_sub x y < 2 ^ 31
unfolding is_before number_is_before number_distance
not_far x y e = leb-false (2 ^ 31) (seq_sub x y) e

pub far : (x y : TcpSeqNumber) → is_before x y ≡ true → 2 ^ 31 ≤ seq_sub x y
unfolding is_before number_is_before number_distance
far x y e = leb-true (2 ^ 31) (seq_sub x y) e

pub same_seq : (x y : TcpSeqNumber) → x.0 ≡ y.0 → x ≡ y
same_seq x y e = ap (λ n. record { 0 = n }) e

pub is_not_before : (x y : TcpSeqNumber) → seq_sub x y < 2 ^ 31 → is_before x y ≡ false
unfolding is_before number_is_before number_distance
is_not_before x y h = lt-leb (2 ^ 31) (seq_sub x y) h

-- what is left of a window that was just told, from the next number on, is told by the same field
pub left_is_told : (next : TcpSeqNumber) (field shift : ℕ) → next.0 < 2 ^ 32 → field < 2 ^ 16 → field * 2 ^ shift ≤ 2 ^ 30 → (if is_before (seq_add next (field * 2 ^ shift)) next then 0 else min (seq_sub (seq_add next (field * 2 ^ shift)) next / 2 ^ shift) 65535) ≡ field
left_is_told next field shift range small fits =
    let far_on : seq_sub (seq_add next (field * 2 ^ shift)) next ≡ field * 2 ^ shift = omega (arith, range, fits) in
    let whole : seq_sub (seq_add next (field * 2 ^ shift)) next / 2 ^ shift ≡ field = ap (λ n. n / 2 ^ shift) far_on ∙ mul-div_cancel field (pow_pos shift) in
    ap (λ b. cond b 0 (min (seq_sub (seq_add next (field * 2 ^ shift)) next / 2 ^ shift) 65535)) (is_not_before (seq_add next (field * 2 ^ shift)) next (omega (arith, far_on, fits)))
    ∙ omega (arith, whole, small)

-- a field of 16 bits, shifted by 14 bits at most
pub shifted_fits : (field shift : ℕ) → field < 2 ^ 16 → shift ≤ 14 → field * 2 ^ shift ≤ 2 ^ 30
shifted_fits field shift small few =
    let p : field * 2 ^ shift ≤ field * 2 ^ 14 = mul-le-mul_left field (pow_mono few) in
    omega (arith, p, small)

both : (a b : Bool) → (a && b) ≡ true → (a ≡ true) × (b ≡ true)
both true true e = (refl, refl)
both true false e = absurd cc
both false b e = absurd cc

either : (a b : Bool) → (a || b) ≡ true → (a ≡ true) ⊎ (b ≡ true)
either true b e = inl refl
either false b e = inr e

pub not_after : (x y : TcpSeqNumber) → is_not_after x y ≡ true → (2 ^ 31 ≤ seq_sub x y) ⊎ (x.0 ≡ y.0)
unfolding is_not_after
not_after x y e = ⊎_elim (λ h. inl (far x y h)) (λ h. inr (eqb-true x.0 y.0 h)) (either (is_before x y) (seq_eq x y) e)

-- ---- the receive window is no wider than the free space

-- an edge that is kept from start to limit lies at most so far from start as the limit
pub kept_within : (start edge : TcpSeqNumber) (n : ℕ) → start.0 < 2 ^ 32 → edge.0 < 2 ^ 32 → n ≤ 2 ^ 30 → seq_sub (kept_between start (seq_add start n) edge) start ≤ n
kept_within start edge n hs he hn = go (is_before edge start) refl (is_before (seq_add start n) edge) refl
  where
    go : (a : Bool) → is_before edge start ≡ a → (b : Bool) → is_before (seq_add start n) edge ≡ b → seq_sub (if a then start else (if b then seq_add start n else edge)) start ≤ n
    go true x b y = omega arith
    go false x true y = omega arith
    go false x false y = between start edge n hs he (omega arith) x y

pub kept_small : (start limit edge : TcpSeqNumber) → start.0 < 2 ^ 32 → limit.0 < 2 ^ 32 → edge.0 < 2 ^ 32 → (kept_between start limit edge).0 < 2 ^ 32
kept_small start limit edge a b c = go (is_before edge start) (is_before limit edge)
  where
    go : (x y : Bool) → (if x then start else (if y then limit else edge)).0 < 2 ^ 32
    go true y = a
    go false true = b
    go false false = c

pub start_small : (v : View) → (receive_window v).start.0 < 2 ^ 32
unfolding receive_window
start_small v = omega arith

pub end_small : (v : View) → (receive_window v).end.0 < 2 ^ 32
unfolding receive_window
end_small v = go v.remote_last_ack
  where
    go : (o : Option TcpSeqNumber) → (window_end v o).0 < 2 ^ 32
    go None = omega arith
    go (Some a) = kept_small (next_ack v) (seq_add (next_ack v) (length v.rx_buffer.held)) (seq_add a (v.remote_last_win * 2 ^ v.remote_win_shift)) (omega arith) (omega arith) (omega arith)

pub window_width : (v : View) → length v.rx_buffer.held ≤ 2 ^ 30 → seq_sub (receive_window v).end (receive_window v).start ≤ length v.rx_buffer.held
unfolding receive_window
window_width v room = go v.remote_last_ack
  where
    go : (o : Option TcpSeqNumber) → seq_sub (window_end v o) (next_ack v) ≤ length v.rx_buffer.held
    go None = omega arith
    go (Some a) = kept_within (next_ack v) (seq_add a (v.remote_last_win * 2 ^ v.remote_win_shift)) (length v.rx_buffer.held) (omega arith) (omega arith) room

-- ---- the same of the window that honors whatever was told

honored_start_small : (v : View) → (honored_window v).start.0 < 2 ^ 32
unfolding honored_window
honored_start_small v = omega arith

honored_end_small : (v : View) → (honored_window v).end.0 < 2 ^ 32
unfolding honored_window
honored_end_small v = go v.remote_last_ack
  where
    go : (o : Option TcpSeqNumber) → (space_end v o).0 < 2 ^ 32
    go None = omega arith
    go (Some a) = omega arith

pub honored_width : (v : View) → length v.rx_buffer.held ≤ 2 ^ 30 → seq_sub (honored_window v).end (honored_window v).start ≤ length v.rx_buffer.held
unfolding honored_window
honored_width v room = go v.remote_last_ack
  where
    go : (o : Option TcpSeqNumber) → seq_sub (space_end v o) (next_ack v) ≤ length v.rx_buffer.held
    go None = omega arith
    go (Some a) = omega (arith, room)

-- ---- and so by either rules

pub accepted_start : (r : Rules) (v : View) → (accepted_window r v).start ≡ next_ack v
unfolding receive_window honored_window
accepted_start rules.Smoltcp v = refl
accepted_start rules.Rfc v = refl

pub accepted_is : (r : Rules) (v : View) → accepted_window r v ≡ record { start = next_ack v; end = (accepted_window r v).end }
unfolding receive_window honored_window
accepted_is rules.Smoltcp v = refl
accepted_is rules.Rfc v = refl

pub accepted_start_small : (r : Rules) (v : View) → (accepted_window r v).start.0 < 2 ^ 32
accepted_start_small rules.Smoltcp v = start_small v
accepted_start_small rules.Rfc v = honored_start_small v

pub accepted_end_small : (r : Rules) (v : View) → (accepted_window r v).end.0 < 2 ^ 32
accepted_end_small rules.Smoltcp v = end_small v
accepted_end_small rules.Rfc v = honored_end_small v

pub accepted_width : (r : Rules) (v : View) → length v.rx_buffer.held ≤ 2 ^ 30 → seq_sub (accepted_window r v).end (accepted_window r v).start ≤ length v.rx_buffer.held
accepted_width rules.Smoltcp v room = window_width v room
accepted_width rules.Rfc v room = honored_width v room

-- ---- what is cut lies in the window

module _ (w : Window) (s : TcpSeqNumber) (n : ℕ) (ls : w.start.0 < 2 ^ 32) (le : w.end.0 < 2 ^ 32) (ss : s.0 < 2 ^ 32) (wide : seq_sub w.end w.start ≤ 2 ^ 30) (short : n ≤ 65535) where
  -- a segment that isn't empty
  pub full_cut : full_inside w s (seq_add s n) ≡ true → (cut_of w s n).offset + (cut_of w s n).count ≤ seq_sub w.end w.start
  unfolding cut_of later_of
  full_cut inside = go (seq_eq w.start w.end) refl
    where
      fits : (w.start.0 ≡ w.end.0 → ⊥) → ((2 ^ 31 ≤ seq_sub w.start s) ⊎ (w.start.0 ≡ s.0)) × (2 ^ 31 ≤ seq_sub s w.end) ⊎ (2 ^ 31 ≤ seq_sub w.start (seq_add s n)) × ((2 ^ 31 ≤ seq_sub (seq_add s n) w.end) ⊎ ((seq_add s n).0 ≡ w.end.0))
          → (t : Bool) → is_before w.start s ≡ t → (u : Bool) → is_before (seq_add s n) w.end ≡ u
          → seq_sub (cond t s w.start) w.start + seq_sub (cond u (seq_add s n) w.end) (cond t s w.start) ≤ seq_sub w.end w.start
      fits apart h true e true k = omega (arith, apart, h, far _ _ e, far _ _ k)
      fits apart h true e false k = omega (arith, apart, h, far _ _ e, not_far _ _ k)
      fits apart h false e true k = omega (arith, apart, h, not_far _ _ e, far _ _ k)
      fits apart h false e false k = omega (arith, apart, h, not_far _ _ e, not_far _ _ k)

      go : (b : Bool) → seq_eq w.start w.end ≡ b → seq_sub (later_of w.start s) w.start + seq_sub (cut_end w (seq_add s n)) (later_of w.start s) ≤ seq_sub w.end w.start
      go true e = let no : false ≡ true = ap (λ b. cond b false (starts_inside w s || (is_before w.start (seq_add s n) && is_not_after (seq_add s n) w.end))) (sym e) ∙ inside in cc
      go false e =
          let apart : (w.start.0 ≡ w.end.0 → ⊥) = λ h. grind (arith, nat_tests, e, h) in
          let open_ : (starts_inside w s || (is_before w.start (seq_add s n) && is_not_after (seq_add s n) w.end)) ≡ true = ap (λ b. cond b false (starts_inside w s || (is_before w.start (seq_add s n) && is_not_after (seq_add s n) w.end))) (sym e) ∙ inside in
          fits apart (⊎_elim
          (λ h. let p = both _ _ h in inl (not_after w.start s p.0, far s w.end p.1))
          (λ h. let p = both _ _ h in inr (far w.start (seq_add s n) p.0, not_after (seq_add s n) w.end p.1))
          (either (starts_inside w s) _ open_)) (is_before w.start s) refl (is_before (seq_add s n) w.end) refl

  -- an empty one
  pub empty_cut : empty_inside w s ≡ true → (cut_of w s n).offset ≤ seq_sub w.end w.start
  unfolding cut_of later_of
  empty_cut inside = go (seq_eq s (seq_minus w.start 1)) refl (seq_eq w.start w.end) refl
    where
      at : (w.start.0 ≡ w.end.0 → ⊥) × ((2 ^ 31 ≤ seq_sub w.start s) ⊎ (w.start.0 ≡ s.0)) × (2 ^ 31 ≤ seq_sub s w.end) ⊎ (s.0 ≡ w.start.0) → (t : Bool) → is_before w.start s ≡ t → seq_sub (cond t s w.start) w.start ≤ seq_sub w.end w.start
      at (inl h) true e = omega (arith, h.0, h.1, h.2, far _ _ e)
      at (inr h) true e = omega (arith, h, far _ _ e)
      at h false e = omega arith

      go : (a : Bool) → seq_eq s (seq_minus w.start 1) ≡ a → (b : Bool) → seq_eq w.start w.end ≡ b → seq_sub (later_of w.start s) w.start ≤ seq_sub w.end w.start
      go true e b k = let no : false ≡ true = ap (λ a. cond a false (cond (seq_eq w.start w.end) (seq_eq s w.start) (starts_inside w s))) (sym e) ∙ inside in cc
      go false e true k =
          let here : seq_eq s w.start ≡ true = (λ i. cond (sym e i) false (cond (sym k i) (seq_eq s w.start) (starts_inside w s))) ∙ inside in
          let is = eqb-true s.0 w.start.0 here in
          at (inr is) (is_before w.start s) refl
      go false e false k =
          let here : starts_inside w s ≡ true = (λ i. cond (sym e i) false (cond (sym k i) (seq_eq s w.start) (starts_inside w s))) ∙ inside in
          let p = both _ _ here in
          at (inl ((λ h. grind (arith, nat_tests, k, h)), not_after w.start s p.0, far s w.end p.1)) (is_before w.start s) refl

pub length-cut : (k : Cut) (bs : List ℕ) → length (cut_bytes k bs) ≡ min k.count (length bs - k.skip)
length-cut k bs = length-take k.count (drop k.skip bs) ∙ ap (min k.count) (length-drop k.skip bs)

-- what is cut of a segment inside fits into so much as the window is wide at most
pub cut_fits_in : (w : Window) (held : ℕ) (s : TcpSeqNumber) (bs : List ℕ) → w.start.0 < 2 ^ 32 → w.end.0 < 2 ^ 32 → seq_sub w.end w.start ≤ held → held ≤ 2 ^ 30 → s.0 < 2 ^ 32 → length bs ≤ 65535 → is_inside w s (length bs) ≡ true
    → (cut_of w s (length bs)).offset + length (cut_bytes (cut_of w s (length bs)) bs) ≤ held
unfolding is_inside
cut_fits_in w held s bs start end wide room small short inside = go (length bs == 0) refl
  where
    go : (b : Bool) → (length bs == 0) ≡ b → (cut_of w s (length bs)).offset + length (cut_bytes (cut_of w s (length bs)) bs) ≤ held
    go true e =
        let none : length bs ≡ 0 = eqb-true (length bs) 0 e in
        let is : empty_inside w s ≡ true = ap (λ b. cond b (empty_inside w s) (full_inside w s (seq_add s (length bs)))) (sym e) ∙ inside in
        let low = empty_cut w s (length bs) start end small (omega (arith, wide, room)) short is in
        omega (arith, low, wide, none, length-cut (cut_of w s (length bs)) bs)
    go false e =
        let is : full_inside w s (seq_add s (length bs)) ≡ true = ap (λ b. cond b (empty_inside w s) (full_inside w s (seq_add s (length bs)))) (sym e) ∙ inside in
        let low = full_cut w s (length bs) start end small (omega (arith, wide, room)) short is in
        omega (arith, low, wide, length-cut (cut_of w s (length bs)) bs)

-- behind the receive queue, by either rules
pub cut_fits : (r : Rules) (v : View) (s : TcpSeqNumber) (bs : List ℕ) → length v.rx_buffer.held ≤ 2 ^ 30 → s.0 < 2 ^ 32 → length bs ≤ 65535 → is_inside (accepted_window r v) s (length bs) ≡ true
    → (cut_of (accepted_window r v) s (length bs)).offset + length (cut_bytes (cut_of (accepted_window r v) s (length bs)) bs) ≤ length v.rx_buffer.held
cut_fits r v s bs room small short inside = cut_fits_in (accepted_window r v) (length v.rx_buffer.held) s bs (accepted_start_small r v) (accepted_end_small r v) (accepted_width r v room) room small short inside
