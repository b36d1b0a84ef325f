-- Steps of `emit` that tell of each end.
use Rattle.std.proofs.Common.{◌≡◌, ◌∙◌, ℕ, ◌/◌, ◌%◌, ◌<◌, ◌≤◌, List, length, get_or, Bool, true, false, nat_eq, nat_lt, Option, Some, None, refl, sym, subst, ap, arith}
use Rattle.std.specs.Prelude.{IfSome, slice_get}
use Rattle.std.specs.Int.{bit_at}
use Rattle.std.proofs.lemmas.List.{get_or_past}
use Rattle.std.proofs.lemmas.Nat.Bits.{bit_at-lt, bit_at-zero}
use Rattle.std.proofs.lemmas.Option.{slice_get_within}
use Rattle.host_bounds.specs.Marking.{Clears, Sets, bit_of}
use Rattle.net_base.specs.declared.time.Duration.{Duration}
use Rattle.net_base.specs.declared.time.Instant.{Instant}
use Rattle.sock_tcp.specs.View.{View}
use Rattle.smoltcp_socket.specs.declared.socket.Socket.{Socket}
use Rattle.smoltcp_socket.specs.declared.socket.Socket.TheVariants as socket
use Rattle.net_host.specs.Guards.{ended_if, lawful_limit, phase_of, with_timeout}
use Rattle.net_host.specs.Remembered.{Remembered as Guard}
use Rattle.net_host.specs.Telling.{IsTold, TellsEnds, TellsHere, is_over, is_over_at, is_over_in}
use Rattle.net_host.specs.Turns.{Watches, WatchesIn, ends, ends_in}
use Rattle.net_host.specs.Walks.{ChangesAt}
use Rattle.net_host.specs.Watching.{is_over_for}
use Rattle.net_host.specs.declared.guard.GuardSettings.{GuardSettings}
use Rattle.net_host.specs.declared.guard.Phase.{Phase}
use Rattle.net_host.specs.declared.slot.Slot.{Slot}
use Rattle.net_host.proofs.Each.{elsewhere, there}

module _ {G : Type 0} where
  -- nothing changes
  pub tells_none : (ss : List (Slot G)) (ms : List ℕ) (ts : List (Slot G)) (ns : List ℕ) → ts ≡ ss → ns ≡ ms → TellsEnds ss ms ts ns
  tells_none ss ms ts ns s m k = record { kept = λ on. ap (λ us. bit_of us k) m ∙ on; ended = λ off over. ap (λ us. is_over_at (slice_get us k)) (sym s) ∙ over }

  -- one step and then another
  pub tells_then : (ss : List (Slot G)) (ms : List ℕ) (ts : List (Slot G)) (ns : List ℕ) (us : List (Slot G)) (os : List ℕ) → TellsEnds ss ms ts ns → TellsEnds ts ns us os → TellsEnds ss ms us os
  tells_then ss ms ts ns us os one two k =
      let first : IsTold ss ms ts ns k = one k in
      let then : IsTold ts ns us os k = two k in
      record {
        kept = λ on. then.kept (first.kept on);
        ended = λ off over. first.ended (λ on. off (then.kept on)) (then.ended off over);
      }

  -- a place changes, and it is told where there is no connection any more
  pub tells_at : (R : Slot G → Slot G → Type 0) (ss : List (Slot G)) (ms : List ℕ) (ts : List (Slot G)) (ns : List ℕ) (i : ℕ) → ChangesAt R ss i ts → ((k : ℕ) → bit_of ms k ≡ 1 → bit_of ns k ≡ 1) → ((bit_of ns i ≡ 1 → ⊥) → is_over_at (slice_get ts i) ≡ true → is_over_at (slice_get ss i) ≡ true) → TellsEnds ss ms ts ns
  tells_at R ss ms ts ns i c kept ended k = record { kept = kept k; ended = go (nat_eq k i) refl }
    where
      go : (d : Bool) → nat_eq k i ≡ d → (bit_of ns k ≡ 1 → ⊥) → is_over_at (slice_get ts k) ≡ true → is_over_at (slice_get ss k) ≡ true
      go true e =
          let at : i ≡ k = grind (arith, e) in
          subst (λ j. (bit_of ns j ≡ 1 → ⊥) → is_over_at (slice_get ts j) ≡ true → is_over_at (slice_get ss j) ≡ true) at ended
      go false e = λ off over. ap (λ o. is_over_at o) (sym (ap (λ us. slice_get us k) c.now ∙ elsewhere ss i k c.after e)) ∙ over

  -- it is told after a turn
  pub tells_turn : (R : Slot G → Slot G → Type 0) (ss : List (Slot G)) (ms : List ℕ) (ts : List (Slot G)) (ns : List ℕ) (i : ℕ) → ChangesAt R ss i ts → TellsHere ts i ms ns → TellsEnds ss ms ts ns
  tells_turn R ss ms ts ns i c h = tells_at R ss ms ts ns i c h.kept (λ off over. absurd (h.ended off over))

-- ---- a guard that ends nothing

over_timed : (d : Option Duration) (v : View) → is_over (with_timeout d v).state ≡ is_over v.state
over_timed None v = refl
over_timed (Some t) v = refl

over_not_ended : (b : Bool) (p : Phase) (d : Option Duration) (v : View) → b ≡ false → is_over (ended_if b p (with_timeout d v)).state ≡ is_over v.state
over_not_ended false p d v h = over_timed d v
over_not_ended true p d v h = absurd (nay h)
  where
    nay : true ≡ false → ⊥
    nay e = cc

over_in : {G : Type 0} (st : GuardSettings) (now : Instant) (s t : Option (Socket G)) (g h : Guard) → WatchesIn st now s g t h → ends_in st now s g ≡ false → is_over_in t ≡ is_over_in s
over_in st now (Some (socket.Tcp x)) (Some (socket.Tcp y)) g h w e = ap (λ (v : View). is_over v.state) w.0.socket ∙ over_not_ended (is_over_for st g x.control_block now) (phase_of x.control_block) (lawful_limit st.timeout) x.control_block e
over_in st now (Some (socket.Tcp x)) (Some (socket.Raw y)) g h w e = absurd w
over_in st now (Some (socket.Tcp x)) (Some (socket.Udp y)) g h w e = absurd w
over_in st now (Some (socket.Tcp x)) (Some (socket.Icmp y)) g h w e = absurd w
over_in st now (Some (socket.Tcp x)) None g h w e = absurd w
over_in st now (Some (socket.Raw x)) t g h w e = ap is_over_in w.0
over_in st now (Some (socket.Udp x)) t g h w e = ap is_over_in w.0
over_in st now (Some (socket.Icmp x)) t g h w e = ap is_over_in w.0
over_in st now None t g h w e = ap is_over_in w.0

module _ {G : Type 0} (st : GuardSettings) (now : Instant) (ss ts : List (Slot G)) (ms ns : List ℕ) (i : ℕ) (c : ChangesAt (λ b a. Watches st now b a) ss i ts) where
  -- the guard ends the connection, which is told
  pub tells_ended : Sets i ms ns → TellsEnds ss ms ts ns
  tells_ended h = tells_at (λ b a. Watches st now b a) ss ms ts ns i c keeps (λ off over. absurd (off h.here))
    where
      keeps : (k : ℕ) → bit_of ms k ≡ 1 → bit_of ns k ≡ 1
      keeps k on = go (nat_eq k i) refl
        where
          go : (d : Bool) → nat_eq k i ≡ d → bit_of ns k ≡ 1
          go true e = let at : i ≡ k = grind (arith, e) in subst (λ j. bit_of ns j ≡ 1) at h.here
          go false e = h.others k e ∙ on

  -- the guard ends nothing
  pub tells_kept : IfSome (slice_get ss i) (λ s. ends st now s ≡ false) → ns ≡ ms → TellsEnds ss ms ts ns
  tells_kept kept same =
      let e : ends st now c.before ≡ false = subst (λ o. IfSome o (λ s. ends st now s ≡ false)) c.was kept in
      let is : slice_get ts i ≡ Some c.after = ap (λ us. slice_get us i) c.now ∙ there ss i c.after (slice_get_within ss i c.before c.was) in
      tells_at (λ b a. Watches st now b a) ss ms ts ns i c (λ k on. ap (λ us. bit_of us k) same ∙ on)
      (λ off over. ap (λ o. is_over_at o) c.was ∙ sym (over_in st now c.before.socket c.after.socket c.before.guard c.after.guard c.changed.looked e) ∙ sym (ap (λ o. is_over_at o) is) ∙ over)

-- ---- a mark

no_bit : (ms : List ℕ) (k : ℕ) → length ms ≤ k / 64 → bit_of ms k ≡ 0
no_bit ms k past = ap (λ n. bit_at n (k % 64)) (get_or_past ms (k / 64) 0 past) ∙ bit_at-zero (k % 64)

pub marked_room : (ms : List ℕ) (k : ℕ) → bit_of ms k ≡ 1 → k / 64 < length ms
marked_room ms k on = go (nat_lt (k / 64) (length ms)) refl
  where
    go : (b : Bool) → nat_lt (k / 64) (length ms) ≡ b → k / 64 < length ms
    go true e = grind (arith, e)
    go false e =
        let past : length ms ≤ k / 64 = grind (arith, e) in
        let zero : bit_of ms k ≡ 0 = no_bit ms k past in
        absurd (omega (arith, on, zero))

-- what is not marked stays so
pub cleared : (ms ns : List ℕ) (k : ℕ) → nat_eq (bit_of ms k) 1 ≡ false → ns ≡ ms → Clears k ms ns
cleared ms ns k off same =
    let small : bit_of ms k < 2 = bit_at-lt (get_or ms (k / 64) 0) (k % 64) in
    record {
      len = ap length same;
      here = ap (λ us. bit_of us k) same ∙ grind (arith, off, small);
      others = λ j other. ap (λ us. bit_of us j) same;
    }
