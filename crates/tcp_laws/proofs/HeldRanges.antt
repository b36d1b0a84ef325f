-- Ranges of bytes that a socket holds: one of them, or one around an offset.
use Rattle.std.proofs.Common.{◌≡◌, ℕ, ◌+◌, ◌<◌, ◌≤◌, Bool, true, false, refl, ap, arith, List, [], ◌∷◌, Option, Some, None, is_some, ◌||◌}
use Rattle.std.specs.Prelude.{if◌then◌else◌, slice_get, zero, suc}
use Rattle.std.proofs.lemmas.Bool.Decides.{nat_tests}
use Rattle.net_base.specs.Ranges.{Apart, edges, is_held, is_within}
use Rattle.net_base.specs.declared.assembler.Range.{Range}
use Rattle.control_wire.specs.Seq.{seq_sub}
use Rattle.control_wire.specs.declared.seq_number.TcpSeqNumber.{TcpSeqNumber}
use Rattle.sock_core.specs.Received.{byte_at, lies_around, range_around}
use Rattle.sock_tcp.specs.Replies.{chosen_range, first_of}

-- ---- one range of those that are held

-- it is not empty, and all of its offsets are held
pub record IsOf (hs : List (Option ℕ)) (r : ℕ × ℕ) : Type 0 where
  pub some : r.0 < r.1
  pub held : (k : ℕ) → r.0 ≤ k → k < r.1 → is_some (byte_at hs k) ≡ true

abbrev pub AllOf : List (Option ℕ) → List (ℕ × ℕ) → Type 0
AllOf hs [] = Unit {0}
AllOf hs (r ∷ rs) = IsOf hs r × AllOf hs rs

abbrev pub AnyOf : List (Option ℕ) → Option (ℕ × ℕ) → Type 0
AnyOf hs None = Unit {0}
AnyOf hs (Some r) = IsOf hs r

pub all_of : (hs : List (Option ℕ)) (b : ℕ) (rs : List Range) → Apart b rs → ((k : ℕ) → is_held rs k ≡ true → is_some (byte_at hs k) ≡ true) → AllOf hs (edges rs)
all_of hs b [] a h = tt
all_of hs b (r ∷ rs) a h = (
  record { some = a.1; held = λ k from to. h k (ap (λ t. t || is_held rs k) (let here : is_within r.start r.end k ≡ true = grind (arith, nat_tests, from, to) in here)) },
  all_of hs (r.end + 1) rs a.2 (λ k e. h k (or_second (is_within r.start r.end k) (is_held rs k) e)),
)
  where
    or_second : (a b : Bool) → b ≡ true → (a || b) ≡ true
    or_second true b e = refl
    or_second false b e = e

pub got_of : (hs : List (Option ℕ)) (rs : List (ℕ × ℕ)) (i : ℕ) → AllOf hs rs → AnyOf hs (slice_get rs i)
got_of hs [] i a = tt
got_of hs (r ∷ rs) zero a = a.0
got_of hs (r ∷ rs) (suc i) a = got_of hs rs i a.1

pub around_of : (hs : List (Option ℕ)) (rs : List (ℕ × ℕ)) (d : ℕ) → AllOf hs rs → AnyOf hs (range_around rs d)
around_of hs [] d a = tt
around_of hs (r ∷ rs) d a = go (lies_around r d) (around_of hs rs d a.1)
  where
    go : (b : Bool) → AnyOf hs (range_around rs d) → AnyOf hs (if b then Some r else range_around rs d)
    go true later = a.0
    go false later = later

first_of_them : (hs : List (Option ℕ)) (r s : Option (ℕ × ℕ)) → AnyOf hs r → AnyOf hs s → AnyOf hs (first_of r s)
first_of_them hs None s a b = b
first_of_them hs (Some r) s a b = a

pub chosen_of : (hs : List (Option ℕ)) (rs : List (ℕ × ℕ)) (nxt : TcpSeqNumber) (last : Option TcpSeqNumber) → AllOf hs rs → AnyOf hs (chosen_range rs nxt last)
chosen_of hs rs nxt None a = got_of hs rs 0 a
chosen_of hs rs nxt (Some n) a = first_of_them hs (range_around rs (seq_sub n nxt)) (slice_get rs 0) (around_of hs rs (seq_sub n nxt) a) (got_of hs rs 0 a)
