-- What an acknowledgement tells of bytes that came twice is so.
use Rattle.std.proofs.Common.{◌≡◌, ◌⊎◌, ℕ, ◌+◌, ◌-◌, ◌<◌, ◌≤◌, Bool, true, false, refl, sym, ap, ◌∙◌, arith, List, [], ◌∷◌, length, Option, Some, None, inl, inr, ◌&&◌}
use Rattle.std.specs.Prelude.{if◌then◌else◌, min, nat_le, slice_index_or, zero, suc, ◌==◌}
use Rattle.std.proofs.lemmas.Bool.{and_parts, leb-true}
use Rattle.std.proofs.lemmas.Bool.Decides.{nat_tests}
use Rattle.net_base.specs.Ranges.{edges}
use Rattle.control_wire.specs.Segment.{Segment}
use Rattle.control_wire.specs.Seq.{seq_sub}
use Rattle.control_wire.specs.declared.tcp.TcpControl.{TcpControl}
use Rattle.control_wire.specs.declared.tcp.TcpControl.TheVariants as control
use Rattle.sock_core.specs.Received.{lies_around, range_around, ranges_of, room_of}
use Rattle.sock_core.specs.Streams.{fin_length}
use Rattle.sock_core.proofs.Receiving.{ranges_are}
use Rattle.sock_tcp.specs.Rfc.Duplicates.{blocks_behind, came_before, came_from, duplicate_block, is_plain_control, up_to_end, with_duplicate}
use Rattle.sock_tcp.specs.Rfc.Windows.{is_heeding}
use Rattle.sock_tcp.specs.View.{View}
use Rattle.sock_tcp.specs.Window.{next_ack}
use Rattle.sock_tcp.specs.declared.rules.Rules.TheVariants as rules
use Rattle.tcp_laws.specs.Telling.{AllHeld, HadCome, IsHeldRange, TellsRanges}
use Rattle.tcp_laws.proofs.HeldRanges.{AnyOf, IsOf, all_of, around_of}

-- nothing else than what is held, as long as what came twice is not told
abbrev pub SaysHeld : View → Option Segment → Type 0
SaysHeld v None = Unit {0}
SaysHeld v (Some x) = AllHeld v x.sack_ranges

-- ---- two ranges of those that are told

abbrev HeldOr : View → Option (ℕ × ℕ) → Type 0
HeldOr w None = Unit {0}
HeldOr w (Some r) = IsHeldRange (next_ack w) w.rx_buffer.held r

one_of : (w : View) (rs : List (Option (ℕ × ℕ))) (i : ℕ) → AllHeld w rs → HeldOr w (slice_index_or rs i None)
one_of w [] i h = tt
one_of w (None ∷ rs) zero h = tt
one_of w (Some r ∷ rs) zero h = h.0
one_of w (None ∷ rs) (suc i) h = one_of w rs i h
one_of w (Some r ∷ rs) (suc i) h = one_of w rs i h.1

before_them : (w : View) (o : Option (ℕ × ℕ)) (rs : List (Option (ℕ × ℕ))) → HeldOr w o → AllHeld w rs → AllHeld w (o ∷ rs)
before_them w None rs a h = h
before_them w (Some r) rs a h = (a, h)

two_of : (w : View) (rs : List (Option (ℕ × ℕ))) → AllHeld w rs → AllHeld w (slice_index_or rs 0 None ∷ slice_index_or rs 1 None ∷ [])
two_of w rs h = before_them w (slice_index_or rs 0 None) _ (one_of w rs 0 h) (before_them w (slice_index_or rs 1 None) [] (one_of w rs 1 h) tt)

-- ---- what came before

-- a range around an offset
around_it : (rs : List (ℕ × ℕ)) (d : ℕ) (r : ℕ × ℕ) → range_around rs d ≡ Some r → lies_around r d ≡ true
around_it [] d r e = absurd cc
around_it (x ∷ rs) d r e = go (around_it rs d r) (lies_around x d) refl e
  where
    go : (range_around rs d ≡ Some r → lies_around r d ≡ true) → (b : Bool) → lies_around x d ≡ b → (if b then Some x else range_around rs d) ≡ Some r → lies_around r d ≡ true
    go rest true is h = let same : x ≡ r = cc in ap (λ y. lies_around y d) (sym same) ∙ is
    go rest false is h = rest h

module _ (v : View) (s : Segment) where
  abbrev m : ℕ
  m = came_before v s.control s.seq_number (length s.payload)

  abbrev d : ℕ
  d = seq_sub s.seq_number (next_ack v)

  abbrev back : ℕ
  back = seq_sub (next_ack v) s.seq_number

  abbrev hs : List (Option ℕ)
  hs = v.rx_buffer.held

  record Came (n : ℕ) : Type 0 where
    heeds : is_heeding v.state ≡ true
    carried : n ≤ length s.payload
    came : HadCome v s.seq_number n ⊎ IsHeldRange (next_ack v) hs (duplicate_block n s)

  in_range : (n : ℕ) (r : ℕ × ℕ) → 0 < n → n ≤ r.1 - d → range_around (edges (ranges_of hs)) d ≡ Some r → IsOf hs r → IsHeldRange (next_ack v) hs (duplicate_block n s)
  in_range n r some most e is =
      let around = and_parts (nat_le r.0 d) (nat_le d r.1) (around_it (edges (ranges_of hs)) d r e) in
      let from : r.0 ≤ d = leb-true r.0 d around.0 in
      record {
        start = d;
        len = n;
        some = some;
        begins = omega arith;
        ends = omega arith;
        all = λ k less. is.held (d + k) (omega (arith, from)) (omega (arith, less, most, some));
      }

  any : AnyOf hs (range_around (edges (ranges_of hs)) d)
  any = let a = ranges_are hs in around_of hs (edges (ranges_of hs)) d (all_of hs 0 (ranges_of hs) a.0 (λ k e. sym (a.1 k) ∙ e))

  in_some : (n : ℕ) (o : Option (ℕ × ℕ)) → 0 < n → n ≤ up_to_end o d → range_around (edges (ranges_of hs)) d ≡ o → AnyOf hs o → IsHeldRange (next_ack v) hs (duplicate_block n s)
  in_some n None some most e is = absurd (omega (arith, some, most))
  in_some n (Some r) some most e is = in_range n r some most e is

  came_by : (b : Bool) → nat_le back (room_of v.rx_buffer) ≡ b → (n : ℕ) → 0 < n → n ≤ (if b then back - fin_length v.rx_fin_received else up_to_end (range_around (edges (ranges_of hs)) d) d) → HadCome v s.seq_number n ⊎ IsHeldRange (next_ack v) hs (duplicate_block n s)
  came_by true e n some most = inl (record { near = leb-true back (room_of v.rx_buffer) e; before = omega (arith, some, most) })
  came_by false e n some most = inr (in_some n (range_around (edges (ranges_of hs)) d) some most refl any)

  came_is : 0 < m → Came m
  came_is = go (v.remote_has_sack && (is_heeding v.state && is_plain_control s.control)) refl
    where
      go : (b : Bool) → (v.remote_has_sack && (is_heeding v.state && is_plain_control s.control)) ≡ b → 0 < (if b then min (length s.payload) (came_from v s.seq_number back) else 0) → Came (if b then min (length s.payload) (came_from v s.seq_number back) else 0)
      go false e some = absurd (omega (arith, some))
      go true e some =
          let two = and_parts v.remote_has_sack (is_heeding v.state && is_plain_control s.control) e in
          record {
            heeds = (and_parts (is_heeding v.state) (is_plain_control s.control) two.1).0;
            carried = omega arith;
            came = came_by (nat_le back (room_of v.rx_buffer)) refl (min (length s.payload) (came_from v s.seq_number back)) some (omega arith);
          }

-- ---- the answer

module _ (v : View) (s : Segment) (w : View) (x : Segment) (h : AllHeld w x.sack_ranges) where
  blocks_say : (b : Bool) → (m v s == 0) ≡ b → TellsRanges rules.Rfc v s w (if b then x.sack_ranges else Some (duplicate_block (m v s) s) ∷ slice_index_or x.sack_ranges 0 None ∷ slice_index_or x.sack_ranges 1 None ∷ [])
  blocks_say true e = inl h
  blocks_say false e =
      let some : 0 < m v s = grind (arith, nat_tests, e) in
      let c = came_is v s some in
      inr (record {
        first = duplicate_block (m v s) s;
        others = slice_index_or x.sack_ranges 0 None ∷ slice_index_or x.sack_ranges 1 None ∷ [];
        are = refl;
        heeds = c.heeds;
        twice = record { len = m v s; some = some; carried = c.carried; begins = refl; ends = refl; came = c.came };
        held = two_of w x.sack_ranges h;
      })

  by_control : (c : TcpControl) → TellsRanges rules.Rfc v s w (blocks_behind c (m v s) (duplicate_block (m v s) s) x.sack_ranges)
  by_control control.Rst = inl h
  by_control control.None = blocks_say (m v s == 0) refl
  by_control control.Psh = blocks_say (m v s == 0) refl
  by_control control.Syn = blocks_say (m v s == 0) refl
  by_control control.Fin = blocks_say (m v s == 0) refl

  pub duplicate_says : TellsRanges rules.Rfc v s w (with_duplicate (m v s) s x).sack_ranges
  duplicate_says = by_control x.control
