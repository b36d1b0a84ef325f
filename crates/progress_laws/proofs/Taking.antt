-- Bytes come to a receive buffer that holds nothing, and all of them are read.
use Rattle.std.proofs.Common.{◌≡◌, ℕ, zero, suc, ◌+◌, true, false, List, [], ◌∷◌, ◌++◌, length, map, drop, take, replicate, Option, Some, None, refl, ap, ◌∙◌, arith}
use Rattle.std.proofs.lemmas.List.{length-map, replicate-append-replicate}
use Rattle.sock_core.specs.Received.{Received, behind_run, handed_out, holds_nothing, makes_fifth_range, run_of, taken_in, written}

-- places that hold nothing
abbrev pub blank : ℕ → List (Option ℕ)
blank n = replicate n None

drop_blank : (j k m : ℕ) → m ≡ j + k → drop j (blank m) ≡ blank k
drop_blank zero k m e = ap blank (omega (arith, e))
drop_blank (suc j) k zero e = absurd (omega (arith, e))
drop_blank (suc j) k (suc m) e = drop_blank j k m (omega (arith, e))

pub blank_holds_nothing : (k : ℕ) → holds_nothing (blank k) ≡ true
blank_holds_nothing zero = refl
blank_holds_nothing (suc k) = blank_holds_nothing k

run_blank : (ys : List ℕ) (k : ℕ) → run_of (map Some ys ++ blank k) ≡ ys
run_blank [] zero = refl
run_blank [] (suc k) = refl
run_blank (y ∷ ys) k = ap (λ (l : List ℕ). y ∷ l) (run_blank ys k)

behind_blank : (ys : List ℕ) (k : ℕ) → behind_run (map Some ys ++ blank k) ≡ blank k
behind_blank [] zero = refl
behind_blank [] (suc k) = refl
behind_blank (y ∷ ys) k = behind_blank ys k

pub at_once : (b : Received) (ys : List ℕ) → makes_fifth_range b 0 ys ≡ false
unfolding makes_fifth_range
at_once b ys = refl

module _ (b : Received) (room k : ℕ) (ys : List ℕ) (read : b.bytes ≡ []) (held : b.held ≡ blank room) (fits : room ≡ length ys + k) where
  written_is : written b.held 0 ys ≡ map Some ys ++ blank k
  written_is = ap (λ (l : List (Option ℕ)). map Some ys ++ l) (ap (drop (0 + length (map {A = ℕ} {B = Option ℕ} Some ys))) held ∙ drop_blank (0 + length (map {A = ℕ} {B = Option ℕ} Some ys)) k room (omega (arith, fits, length-map {A = ℕ} {B = Option ℕ} ys Some)))

  pub taken_bytes : (taken_in b 0 ys).bytes ≡ ys
  unfolding taken_in makes_fifth_range
  taken_bytes = ap (λ (l : List ℕ). l ++ run_of (written b.held 0 ys)) read ∙ ap run_of written_is ∙ run_blank ys k

  pub taken_held : (taken_in b 0 ys).held ≡ blank k
  unfolding taken_in makes_fifth_range
  taken_held = ap behind_run written_is ∙ behind_blank ys k

pub read_held : (b : Received) (k n : ℕ) → b.held ≡ blank k → (handed_out b n).held ≡ blank (k + n)
unfolding handed_out
read_held b k n held = ap (λ (l : List (Option ℕ)). l ++ blank n) held ∙ replicate-append-replicate k n None

drop_all : (ys : List ℕ) → drop (length ys) ys ≡ []
drop_all [] = refl
drop_all (y ∷ ys) = drop_all ys

pub read_bytes : (b : Received) (ys : List ℕ) → b.bytes ≡ ys → (handed_out b (length ys)).bytes ≡ []
unfolding handed_out
read_bytes b ys e = ap (drop (length ys)) e ∙ drop_all ys

pub take_all : (ys : List ℕ) → take (length ys) ys ≡ ys
take_all [] = refl
take_all (y ∷ ys) = ap (λ (l : List ℕ). y ∷ l) (take_all ys)

pub read_out : (b : Received) (ys : List ℕ) → b.bytes ≡ ys → take (length ys) b.bytes ≡ ys
read_out b ys e = ap (take (length ys)) e ∙ take_all ys
