-- Decimal digits and what they write.
use Rattle.std.proofs.Common.{ℕ, zero, suc, ◌+◌, ◌-◌, ◌*◌, ◌^◌, ◌<◌, ◌≤◌, ◌≡◌, List, [], ◌∷◌, length, get_or, take, true, arith, refl}
use Rattle.std.proofs.Math.Nat.{pow-suc}
use Rattle.std.proofs.lemmas.Bool.{and_parts, leb-true}
use Rattle.std.proofs.lemmas.List.Sums.{fold_more}
use Rattle.std.specs.Char.{is_ascii_digit}
use Rattle.std.specs.List.{list_all}
use Rattle.sock_pair.specs.ScriptWords.{is_number, value_of}

is_digit : (x : ℕ) → is_ascii_digit x ≡ true → (48 ≤ x) × (x ≤ 57)
is_digit x h = let both = and_parts _ _ h in (leb-true 48 x both.0, leb-true x 57 both.1)

-- each byte of a text of digits is one of `0` to `9`
pub digit_at : (xs : List ℕ) (i : ℕ) → list_all is_ascii_digit xs ≡ true → i < length xs → (48 ≤ get_or xs i 0) × (get_or xs i 0 ≤ 57)
digit_at [] i h lt = absurd (omega (arith, lt))
digit_at (x ∷ xs) zero h lt = is_digit x (and_parts (is_ascii_digit x) (list_all is_ascii_digit xs) h).0
digit_at (x ∷ xs) (suc i) h lt = digit_at xs i (and_parts (is_ascii_digit x) (list_all is_ascii_digit xs) h).1 (omega (arith, lt))

pub value-more : (xs : List ℕ) (i : ℕ) → i < length xs → value_of (take (i + 1) xs) ≡ value_of (take i xs) * 10 + (get_or xs i 0 - 48)
unfolding value_of
value-more xs i lt = fold_more (λ n digit. n * 10 + (digit - 48)) 0 xs i 0 lt

pub value-none : 0 ≡ value_of []
unfolding value_of
value-none = refl

pub power-more : (i : ℕ) → 10 ^ (i + 1) ≡ 10 ^ i * 10
power-more i = let e : i + 1 ≡ suc i = omega arith in rw e (pow-suc 10 i)

pub number_parts : (word : List ℕ) → is_number word ≡ true → (length word ≤ 10) × (list_all is_ascii_digit word ≡ true)
unfolding is_number
number_parts word h =
    let both = and_parts _ _ h in
    (leb-true (length word) 10 (and_parts _ _ both.0).1, both.1)
