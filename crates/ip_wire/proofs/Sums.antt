-- Laws of ones' complement sums.
use Rattle.std.proofs.Common.{ℕ, ◌+◌, ◌-◌, ◌*◌, ◌/◌, ◌%◌, ◌<◌, ◌≤◌, ◌^◌, List, [], ◌∷◌, ◌++◌, ◌≡◌, length, drop, get_or, refl, ap, sym, ◌∙◌, arith}
use Rattle.std.specs.List.{AllByRecursion}
use Rattle.std.proofs.lemmas.Bool.Decides.{nat_tests}
use Rattle.std.proofs.lemmas.List.{drop_all, drop_more}
use Rattle.std.proofs.lemmas.List.Elements.{recursion_from_All}
use Rattle.ip_wire.specs.Address.{octets_of}
use Rattle.ip_wire.specs.Octets.{IsOctets, be16, be16_at, be32, be32_at}
use Rattle.ip_wire.specs.Packet.{ipv4_with}
use Rattle.ip_wire.specs.Protocol.{number_of}
use Rattle.ip_wire.specs.Sum.{IsEven, all_ones, complement, le16_at, le32_at, le64_at, ones_add, pseudo_sum, sum_after, swapped_word, word_of}
use Rattle.ip_wire.specs.declared.address.IpAddress.{IpAddress}
use Rattle.ip_wire.specs.declared.repr.Ipv4Repr.{Ipv4Repr}

-- two octets more
pub drop_two : (xs : List ℕ) (i : ℕ) → i + 1 < length xs → drop i xs ≡ get_or xs i 0 ∷ get_or xs (i + 1) 0 ∷ drop (i + 2) xs
drop_two xs i h =
    let a : i < length xs = omega arith in
    let e : (i + 1) + 1 ≡ i + 2 = omega arith in
    drop_more xs i 0 a ∙ ap (λ ys. get_or xs i 0 ∷ ys) (drop_more xs (i + 1) 0 h ∙ ap (λ j. get_or xs (i + 1) 0 ∷ drop j xs) e)

pub step_two : (s : ℕ) (xs : List ℕ) (i : ℕ) → i + 1 < length xs → sum_after s (drop i xs) ≡ sum_after (ones_add s (256 * get_or xs i 0 + get_or xs (i + 1) 0)) (drop (i + 2) xs)
step_two s xs i h = ap (sum_after s) (drop_two xs i h)

pub continues : (s : ℕ) (xs ys : List ℕ) → IsEven (length xs) → sum_after s (xs ++ ys) ≡ sum_after (sum_after s xs) ys
continues s [] ys e = refl
continues s (a ∷ []) ys e = absurd (omega arith)
continues s (a ∷ b ∷ xs) ys e = continues (ones_add s (256 * a + b)) xs ys (omega arith)

pub ones_add_small : (a b : ℕ) → a < 2 ^ 16 → b < 2 ^ 16 → ones_add a b < 2 ^ 16
ones_add_small a b h k = grind (arith, nat_tests)

pub swapped : (a b c : ℕ) → a < 2 ^ 16 → b < 2 ^ 16 → c < 2 ^ 16 → ones_add (ones_add a b) c ≡ ones_add (ones_add a c) b
swapped a b c h k l = grind (arith, nat_tests)

pub word_small : (a b : ℕ) → a < 256 → b < 256 → 256 * a + b < 2 ^ 16
word_small a b h k = omega arith

pub sum_small : (s : ℕ) (xs : List ℕ) → s < 2 ^ 16 → AllByRecursion (λ x. x < 256) xs → sum_after s xs < 2 ^ 16
sum_small s [] h k = h
sum_small s (a ∷ []) h k = ones_add_small s (256 * a) h (omega (arith, k.0))
sum_small s (a ∷ b ∷ xs) h k =
    sum_small (ones_add s (256 * a + b)) xs (ones_add_small s (256 * a + b) h (word_small a b k.0 k.1.0)) k.1.1

-- a word that is added first may as well be added last
pub late : (s w : ℕ) (xs : List ℕ) → s < 2 ^ 16 → w < 2 ^ 16 → AllByRecursion (λ x. x < 256) xs → sum_after (ones_add s w) xs ≡ ones_add (sum_after s xs) w
late s w [] h l k = refl
late s w (a ∷ []) h l k = swapped s w (256 * a) h l (omega (arith, k.0))
late s w (a ∷ b ∷ xs) h l k =
    let v : 256 * a + b < 2 ^ 16 = word_small a b k.0 k.1.0 in
    ap (λ t. sum_after t xs) (swapped s w (256 * a + b) h l v) ∙ late (ones_add s (256 * a + b)) w xs (ones_add_small s (256 * a + b) h v) l k.1.1

plus_zero : (s : ℕ) → s < 2 ^ 16 → ones_add s (256 * 0 + 0) ≡ s
plus_zero s h = grind (arith, nat_tests)

completes : (s : ℕ) → s < 2 ^ 16 → ones_add s (256 * ((65535 - s) / 256 % 256) + (65535 - s) % 256) ≡ 65535
completes s h =
    let e : 256 * ((65535 - s) / 256 % 256) + (65535 - s) % 256 ≡ 65535 - s = omega arith in
    ap (ones_add s) e ∙ full s h
  where
    full : (s : ℕ) → s < 2 ^ 16 → ones_add s (65535 - s) ≡ 65535
    full s h = grind (arith, nat_tests)

-- with the complement of the sum in place of a word that was 0
pub verifies : (s : ℕ) (front back : List ℕ) → s < 2 ^ 16 → IsOctets front → IsOctets back → IsEven (length front) → sum_after s (front ++ (be16 (complement (sum_after s (front ++ 0 ∷ 0 ∷ back))) ++ back)) ≡ all_ones
verifies s front back h f b e =
    let fs : AllByRecursion (λ x. x < 256) front = recursion_from_All _ _ f in
    let bs : AllByRecursion (λ x. x < 256) back = recursion_from_All _ _ b in
    let t = sum_after s front in
    let ts : t < 2 ^ 16 = sum_small s front h fs in
    let zeros : sum_after s (front ++ 0 ∷ 0 ∷ back) ≡ sum_after t back = continues s front (0 ∷ 0 ∷ back) e ∙ ap (λ u. sum_after u back) (plus_zero t ts) in
    let total = sum_after t back in
    let small : total < 2 ^ 16 = sum_small t back ts bs in
    let w = 256 * ((65535 - total) / 256 % 256) + (65535 - total) % 256 in
    let ws : w < 2 ^ 16 = omega arith in
    ap (λ u. sum_after s (front ++ (be16 (complement u) ++ back))) zeros
    ∙ continues s front (be16 (complement total) ++ back) e
    ∙ late t w back ts ws bs
    ∙ completes total small

-- only ones in place of a word that was 0
pub ones_for_zero : (s : ℕ) (front back : List ℕ) → s < 2 ^ 16 → IsOctets front → IsOctets back → IsEven (length front) → sum_after s (front ++ 0 ∷ 0 ∷ back) ≡ all_ones → sum_after s (front ++ (255 ∷ 255 ∷ back)) ≡ all_ones
ones_for_zero s front back h f b e z =
    let fs : AllByRecursion (λ x. x < 256) front = recursion_from_All _ _ f in
    let bs : AllByRecursion (λ x. x < 256) back = recursion_from_All _ _ b in
    let t = sum_after s front in
    let ts : t < 2 ^ 16 = sum_small s front h fs in
    let total : sum_after t back ≡ all_ones = ap (λ u. sum_after u back) (sym (plus_zero t ts)) ∙ sym (continues s front (0 ∷ 0 ∷ back) e) ∙ z in
    continues s front (255 ∷ 255 ∷ back) e ∙ late t 65535 back ts (omega arith) bs ∙ ap (λ u. ones_add u 65535) total

-- a word more to a wide sum
pub word_of_more : (n w : ℕ) → w < 65536 → ones_add (word_of n) w ≡ word_of (n + w)
word_of_more n w h = grind (arith, nat_tests)

-- a start and nothing more
pub swapped_word_zero : (s : ℕ) → s < 65536 → swapped_word s 0 ≡ s
swapped_word_zero s h = grind (arith, nat_tests)

-- a carry of a wide sum comes to 1
carried : (m k : ℕ) → k ≤ m → word_of (m + 65535 * k) ≡ word_of m
carried m k h = grind (arith, nat_tests)

pub word_of_carries : (n k : ℕ) → word_of (n + k) ≡ word_of (n + 65536 * k)
word_of_carries n k =
    let e : n + 65536 * k ≡ n + k + 65535 * k = omega arith in
    sym (ap word_of e ∙ carried (n + k) k (omega arith))

-- the upper half of a wide sum added to the lower one
pub halves : (n m : ℕ) → word_of (n % 4294967296 + n / 4294967296 + m) ≡ word_of (n + m)
halves n m =
    let e : n + m ≡ n % 4294967296 + n / 4294967296 + m + 65535 * (65537 * (n / 4294967296)) = omega arith in
    grind (arith, nat_tests)

pub quarters : (n : ℕ) → word_of (n % 65536 + n / 65536) ≡ word_of n
quarters n =
    let e : n % 65536 + 65536 * (n / 65536) ≡ n = omega arith in
    word_of_carries (n % 65536) (n / 65536) ∙ ap word_of e

-- two words and their carry
two_added : (n : ℕ) → n < 131071 → (n + n / 65536) % 65536 ≡ word_of n
two_added n h = grind (arith, nat_tests)

pub rotated : (n : ℕ) → n < 4294967296 → (n + (n % 65536 * 65536 + n / 65536)) / 65536 % 65536 ≡ word_of n
rotated n h =
    let both = n % 65536 + n / 65536 in
    let e : (n + (n % 65536 * 65536 + n / 65536)) / 65536 % 65536 ≡ (both + both / 65536) % 65536 = omega (arith, h) in
    e ∙ two_added both (omega (arith, h)) ∙ quarters n

pub halves_swapped : (s n : ℕ) → swapped_word s (n % 4294967296 + n / 4294967296) ≡ swapped_word s n
halves_swapped s n =
    let e : s + 256 * n ≡ s + 256 * (n % 4294967296 + n / 4294967296) + 65535 * (16777472 * (n / 4294967296)) = omega arith in
    grind (arith, nat_tests)

-- 2^32 comes to 1
carry_swapped : (s n k : ℕ) → swapped_word s (n + k) ≡ swapped_word s (n + 4294967296 * k)
carry_swapped s n k =
    let e : s + 256 * (n + 4294967296 * k) ≡ s + 256 * (n + k) + 65535 * (16777472 * k) = omega arith in
    grind (arith, nat_tests)

-- two octets more to a wide sum
two_more : (s n : ℕ) (xs : List ℕ) (i j : ℕ) → ((k : ℕ) → k < length xs → get_or xs k 0 < 256) → i + 1 < length xs
    → j ≡ i + 2 → sum_after (swapped_word s n) (drop i xs) ≡ sum_after (swapped_word s (n + le16_at xs i)) (drop j xs)
two_more s n xs i j h k e =
    let high = get_or xs i 0 in
    let low = get_or xs (i + 1) 0 in
    let hs : high < 256 = h i (omega arith) in
    let ls : low < 256 = h (i + 1) k in
    let front : s + 256 * n + (256 * high + low) ≡ s + 256 * n + 256 * high + low = omega arith in
    let number : s + 256 * n + 256 * high + 65536 * low ≡ s + 256 * (n + (high + 256 * low)) = omega arith in
    step_two (swapped_word s n) xs i k
    ∙ ap (λ v. sum_after v (drop (i + 2) xs))
    (word_of_more (s + 256 * n) (256 * high + low) (omega arith) ∙ ap word_of front
    ∙ word_of_carries (s + 256 * n + 256 * high) low ∙ ap word_of number)
    ∙ ap (λ v. sum_after (swapped_word s (n + le16_at xs i)) (drop v xs)) (sym e)

-- four octets more, as one number
number_more : (s n : ℕ) (xs : List ℕ) (i j : ℕ) → ((k : ℕ) → k < length xs → get_or xs k 0 < 256) → i + 4 ≤ length xs
    → j ≡ i + 4 → sum_after (swapped_word s n) (drop i xs) ≡ sum_after (swapped_word s (n + le32_at xs i)) (drop j xs)
number_more s n xs i j h k e =
    let low = le16_at xs i in
    let high = le16_at xs (i + 2) in
    let apart : s + 256 * (n + low + high) ≡ s + 256 * (n + low) + 256 * high = omega arith in
    let number : s + 256 * (n + low) + 65536 * (256 * high) ≡ s + 256 * (n + (low + 65536 * high)) = omega arith in
    two_more s n xs i (i + 2) h (omega arith) refl
    ∙ two_more s (n + low) xs (i + 2) j h (omega arith) (omega arith)
    ∙ ap (λ v. sum_after v (drop j xs))
    (ap word_of apart ∙ word_of_carries (s + 256 * (n + low)) (256 * high) ∙ ap word_of number)

-- the halves of a wider sum added up, and the halves of that
wide_halves_swapped : (s n : ℕ) → swapped_word s (n % 18446744073709551616 + n / 18446744073709551616) ≡ swapped_word s n
wide_halves_swapped s n =
    let e : s + 256 * n ≡ s + 256 * (n % 18446744073709551616 + n / 18446744073709551616) + 65535 * (72058693566333184 * (n / 18446744073709551616)) = omega arith in
    grind (arith, nat_tests)

pub carried_swapped : (s n m : ℕ) → m ≡ n % 18446744073709551616 + n / 18446744073709551616
    → swapped_word s (m % 18446744073709551616 + m / 18446744073709551616) ≡ swapped_word s n
carried_swapped s n m e = wide_halves_swapped s m ∙ ap (swapped_word s) e ∙ wide_halves_swapped s n

-- eight octets more, as one number
eight_more : (s n : ℕ) (xs : List ℕ) (i j : ℕ) → ((k : ℕ) → k < length xs → get_or xs k 0 < 256) → i + 8 ≤ length xs
    → j ≡ i + 8 → sum_after (swapped_word s n) (drop i xs) ≡ sum_after (swapped_word s (n + le64_at xs i)) (drop j xs)
eight_more s n xs i j h k e =
    let low = le32_at xs i in
    let high = le32_at xs (i + 4) in
    let regrouped : n + low + 4294967296 * high ≡ n + (low + 4294967296 * high) = omega arith in
    number_more s n xs i (i + 4) h (omega arith) refl
    ∙ number_more s (n + low) xs (i + 4) j h (omega arith) (omega arith)
    ∙ ap (λ v. sum_after v (drop j xs)) (carry_swapped s (n + low) high)
    ∙ ap (λ v. sum_after (swapped_word s v) (drop j xs)) regrouped

pub eight_octets_more : (s n : ℕ) (xs : List ℕ) (i : ℕ) → ((k : ℕ) → k < length xs → get_or xs k 0 < 256) → i + 8 ≤ length xs
    → sum_after (swapped_word s (n + le64_at xs i)) (drop (i + 8) xs) ≡ sum_after (swapped_word s n) (drop i xs)
eight_octets_more s n xs i h k = sym (eight_more s n xs i (i + 8) h k refl)

pub thirty_two_more : (s n : ℕ) (xs : List ℕ) (i : ℕ) → ((k : ℕ) → k < length xs → get_or xs k 0 < 256)
    → i + 32 ≤ length xs
    → sum_after (swapped_word s (n + le64_at xs i + le64_at xs (i + 8) + le64_at xs (i + 16) + le64_at xs (i + 24)))
    (drop (i + 32) xs) ≡ sum_after (swapped_word s n) (drop i xs)
thirty_two_more s n xs i h k =
    let a = le64_at xs i in
    let b = le64_at xs (i + 8) in
    let c = le64_at xs (i + 16) in
    sym (eight_more s n xs i (i + 8) h (omega arith) refl
    ∙ eight_more s (n + a) xs (i + 8) (i + 16) h (omega arith) (omega arith)
    ∙ eight_more s (n + a + b) xs (i + 16) (i + 24) h (omega arith) (omega arith)
    ∙ eight_more s (n + a + b + c) xs (i + 24) (i + 32) h (omega arith) (omega arith))

pub four_octets_more : (s n : ℕ) (xs : List ℕ) (i : ℕ) → ((k : ℕ) → k < length xs → get_or xs k 0 < 256) → i + 4 ≤ length xs
    → sum_after (swapped_word s (n + le32_at xs i)) (drop (i + 4) xs) ≡ sum_after (swapped_word s n) (drop i xs)
four_octets_more s n xs i h k = sym (number_more s n xs i (i + 4) h k refl)

-- the last bytes: four, two and one, where the number of bytes has that bit
pub last_four : (s n : ℕ) (xs : List ℕ) → ((k : ℕ) → k < length xs → get_or xs k 0 < 256) → 4 ≤ length xs % 8
    → sum_after (swapped_word s (n + le32_at xs (length xs / 8 * 8))) (drop (length xs / 4 * 4) xs)
    ≡ sum_after (swapped_word s n) (drop (length xs / 8 * 8) xs)
last_four s n xs h k = sym (number_more s n xs (length xs / 8 * 8) (length xs / 4 * 4) h (omega (arith, k)) (omega (arith, k)))

pub no_four : (s n : ℕ) (xs : List ℕ) → length xs % 8 < 4
    → sum_after (swapped_word s n) (drop (length xs / 4 * 4) xs) ≡ sum_after (swapped_word s n) (drop (length xs / 8 * 8) xs)
no_four s n xs k =
    let e : length xs / 4 * 4 ≡ length xs / 8 * 8 = omega (arith, k) in
    ap (λ i. sum_after (swapped_word s n) (drop i xs)) e

pub last_pair : (s n : ℕ) (xs : List ℕ) → ((k : ℕ) → k < length xs → get_or xs k 0 < 256) → 2 ≤ length xs % 4
    → sum_after (swapped_word s (n + le16_at xs (length xs / 4 * 4))) (drop (length xs / 2 * 2) xs)
    ≡ sum_after (swapped_word s n) (drop (length xs / 4 * 4) xs)
last_pair s n xs h k = sym (two_more s n xs (length xs / 4 * 4) (length xs / 2 * 2) h (omega (arith, k)) (omega (arith, k)))

pub no_pair : (s n : ℕ) (xs : List ℕ) → length xs % 4 < 2
    → sum_after (swapped_word s n) (drop (length xs / 2 * 2) xs) ≡ sum_after (swapped_word s n) (drop (length xs / 4 * 4) xs)
no_pair s n xs k =
    let e : length xs / 2 * 2 ≡ length xs / 4 * 4 = omega (arith, k) in
    ap (λ i. sum_after (swapped_word s n) (drop i xs)) e

pub last_one : (s n : ℕ) (xs : List ℕ) → ((k : ℕ) → k < length xs → get_or xs k 0 < 256) → 1 ≤ length xs % 2
    → swapped_word s (n + get_or xs (length xs - 1) 0) ≡ sum_after (swapped_word s n) (drop (length xs / 2 * 2) xs)
last_one s n xs h k =
    let i = length xs - 1 in
    let b = get_or xs i 0 in
    let small : b < 256 = h i (omega (arith, k)) in
    let whole : s + 256 * n + 256 * b ≡ s + 256 * (n + b) = omega arith in
    let place : length xs / 2 * 2 ≡ i = omega (arith, k) in
    let end : length xs ≤ i + 1 = omega (arith, k) in
    sym (ap (λ j. sum_after (swapped_word s n) (drop j xs)) place
    ∙ ap (sum_after (swapped_word s n)) (drop_more xs i 0 (omega (arith, k)) ∙ ap (λ ys. b ∷ ys) (drop_all (i + 1) xs end))
    ∙ word_of_more (s + 256 * n) (256 * b) (omega (arith, small)) ∙ ap word_of whole)

pub no_one : (s n : ℕ) (xs : List ℕ) → length xs % 2 ≡ 0 → swapped_word s n ≡ sum_after (swapped_word s n) (drop (length xs / 2 * 2) xs)
no_one s n xs k = ap (sum_after (swapped_word s n)) (sym (drop_all (length xs / 2 * 2) xs (omega (arith, k))))

-- the 20 octets of a header, behind what was summed before
pub twenty_octets : (s : ℕ) (xs : List ℕ) → s < 65536 → ((k : ℕ) → k < length xs → get_or xs k 0 < 256) → length xs ≡ 20
    → swapped_word s (le32_at xs 0 + le32_at xs 4 + le32_at xs 8 + le32_at xs 12 + le32_at xs 16) ≡ sum_after s xs
twenty_octets s xs small h e =
    let a = le32_at xs 0 in
    let b = le32_at xs 4 in
    let c = le32_at xs 8 in
    let d = le32_at xs 12 in
    let start : swapped_word s 0 ≡ s = swapped_word_zero s small in
    let all : 0 + a + b + c + d + le32_at xs 16 ≡ a + b + c + d + le32_at xs 16 = omega arith in
    sym (ap (λ v. sum_after v xs) (sym start)
    ∙ number_more s 0 xs 0 4 h (omega (arith, e)) refl
    ∙ number_more s (0 + a) xs 4 8 h (omega (arith, e)) refl
    ∙ number_more s (0 + a + b) xs 8 12 h (omega (arith, e)) refl
    ∙ number_more s (0 + a + b + c) xs 12 16 h (omega (arith, e)) refl
    ∙ number_more s (0 + a + b + c + d) xs 16 20 h (omega (arith, e)) refl
    ∙ ap (sum_after (swapped_word s (0 + a + b + c + d + le32_at xs 16))) (drop_all 20 xs (omega (arith, e)))
    ∙ ap (swapped_word s) all)

-- the four octets of an address
pub four_swapped : (s n : ℕ) (xs : List ℕ) → ((k : ℕ) → k < length xs → get_or xs k 0 < 256) → length xs ≡ 4
    → sum_after (swapped_word s n) xs ≡ swapped_word s (n + le32_at xs 0)
four_swapped s n xs h e =
    number_more s n xs 0 4 h (omega (arith, e)) refl ∙ ap (sum_after (swapped_word s (n + le32_at xs 0))) (drop_all 4 xs (omega (arith, e)))

-- nothing to be read, and nothing before
pub after_nothing : (s : ℕ) (xs : List ℕ) → length xs ≡ 0 → s ≡ sum_after s xs
after_nothing s [] e = refl
after_nothing s (x ∷ xs) e = absurd (omega (arith, e))

pub after_start : (s : ℕ) (xs : List ℕ) → s < 65536 → sum_after (swapped_word s 0) xs ≡ sum_after s xs
after_start s xs h = ap (λ v. sum_after v xs) (swapped_word_zero s h)

-- four octets more to a word, as one number in network order
number_after : (n : ℕ) (xs : List ℕ) (i j : ℕ) → ((k : ℕ) → k < length xs → get_or xs k 0 < 256) → i + 4 ≤ length xs
    → j ≡ i + 4 → sum_after (word_of n) (drop i xs) ≡ sum_after (word_of (n + be32_at xs i)) (drop j xs)
number_after n xs i j h k e =
    let a = get_or xs i 0 in
    let b = get_or xs (i + 1) 0 in
    let c = get_or xs (i + 2) 0 in
    let d = get_or xs (i + 3) 0 in
    let a-small : a < 256 = h i (omega arith) in
    let b-small : b < 256 = h (i + 1) (omega arith) in
    let c-small : c < 256 = h (i + 2) (omega arith) in
    let d-small : d < 256 = h (i + 3) (omega arith) in
    let high = be16_at xs i in
    let low = be16_at xs (i + 2) in
    let end : i + 2 + 2 ≡ j = omega (arith, e) in
    let regrouped : n + high + low ≡ n + low + high = omega arith in
    let number : n + low + 65536 * high ≡ n + (65536 * high + low) = omega arith in
    step_two (word_of n) xs i (omega arith)
    ∙ ap (λ v. sum_after v (drop (i + 2) xs)) (word_of_more n high (omega arith))
    ∙ step_two (word_of (n + high)) xs (i + 2) (omega arith)
    ∙ ap (λ v. sum_after v (drop (i + 2 + 2) xs))
    (word_of_more (n + high) low (omega arith) ∙ ap word_of regrouped ∙ word_of_carries (n + low) high ∙ ap word_of number)
    ∙ ap (λ v. sum_after (word_of (n + be32_at xs i)) (drop v xs)) end

pub four_octets : (n : ℕ) (xs : List ℕ) → ((k : ℕ) → k < length xs → get_or xs k 0 < 256) → length xs ≡ 4
    → sum_after (word_of n) xs ≡ word_of (n + be32_at xs 0)
four_octets n xs h e =
    number_after n xs 0 4 h (omega (arith, e)) refl
    ∙ ap (sum_after (word_of (n + be32_at xs 0))) (drop_all 4 xs (omega (arith, e)))

pub sixteen_octets : (n : ℕ) (xs : List ℕ) → ((k : ℕ) → k < length xs → get_or xs k 0 < 256) → length xs ≡ 16
    → sum_after (word_of n) xs ≡ word_of (n + (be32_at xs 0 + be32_at xs 4 + be32_at xs 8 + be32_at xs 12))
sixteen_octets n xs h e =
    let a = be32_at xs 0 in
    let b = be32_at xs 4 in
    let c = be32_at xs 8 in
    let d = be32_at xs 12 in
    let all : n + a + b + c + d ≡ n + (a + b + c + d) = omega arith in
    number_after n xs 0 4 h (omega (arith, e)) refl
    ∙ number_after (n + a) xs 4 8 h (omega (arith, e)) refl
    ∙ number_after (n + a + b) xs 8 12 h (omega (arith, e)) refl
    ∙ number_after (n + a + b + c) xs 12 16 h (omega (arith, e)) refl
    ∙ ap (sum_after (word_of (n + a + b + c + d))) (drop_all 16 xs (omega (arith, e)))
    ∙ ap word_of all

-- the sums of two addresses are one of both
pub both_sums : (src dst : List ℕ) (s d : ℕ)
    → ((n : ℕ) → sum_after (word_of n) src ≡ word_of (n + s))
    → ((n : ℕ) → sum_after (word_of n) dst ≡ word_of (n + d))
    → (n : ℕ) → sum_after (sum_after (word_of n) src) dst ≡ word_of (n + (s + d))
both_sums src dst s d ss ds n =
    let grouped : n + s + d ≡ n + (s + d) = omega arith in
    ap (λ v. sum_after v dst) (ss n) ∙ ds (n + s) ∙ ap word_of grouped

-- the addresses' sum, and what follows them in a pseudo header
pub pseudo : (src dst : IpAddress) (protocol len t : ℕ) → protocol < 256
    → ((n : ℕ) → sum_after (sum_after (word_of n) (octets_of src)) (octets_of dst) ≡ word_of (n + t))
    → pseudo_sum src dst protocol len ≡ word_of (t + (len % 4294967296 + protocol))
pseudo src dst protocol len t h both =
    let a = len / 65536 / 256 % 256 in
    let b = len / 65536 % 256 in
    let c = len / 256 % 256 in
    let e = len % 256 in
    let high = 256 * a + b in
    let low = 256 * c + e in
    let n = 0 + t in
    let end = 0 ∷ 0 ∷ 0 ∷ protocol ∷ [] in
    let regrouped : n + high + low ≡ n + low + high = omega arith in
    let whole : n + low + 65536 * high + 0 + (0 + protocol) ≡ t + (len % 4294967296 + protocol) = omega arith in
    ap (λ v. sum_after v (be32 len ++ end)) (both 0)
    ∙ ap (λ v. sum_after (ones_add v low) end) (word_of_more n high (omega arith))
    ∙ ap (λ v. sum_after v end) (word_of_more (n + high) low (omega arith) ∙ ap word_of regrouped ∙ word_of_carries (n + low) high)
    ∙ ap (λ v. ones_add v (0 + protocol)) (word_of_more (n + low + 65536 * high) 0 (omega arith))
    ∙ word_of_more (n + low + 65536 * high + 0) (0 + protocol) (omega (arith, h))
    ∙ ap word_of whole

-- two lists of four octets after a wide sum
pub two_after : (n : ℕ) (xs ys : List ℕ) (a b : ℕ) → length xs ≡ 4
    → ((m : ℕ) → sum_after (word_of m) xs ≡ word_of (m + a)) → ((m : ℕ) → sum_after (word_of m) ys ≡ word_of (m + b))
    → word_of (n + a + b) ≡ sum_after (word_of n) (xs ++ ys)
two_after n xs ys a b l p q =
    sym (continues (word_of n) xs ys (omega (arith, l)) ∙ ap (λ v. sum_after v ys) (p n) ∙ q (n + a))

-- the same, where what they add is read with the low octet first
pub addresses_after : (n h : ℕ) (xs ys : List ℕ) (a b : ℕ) → length xs ≡ 4 → ((m : ℕ) → word_of (h + m) ≡ word_of (n + m))
    → ((s t : ℕ) → sum_after (swapped_word s t) xs ≡ swapped_word s (t + a))
    → ((s t : ℕ) → sum_after (swapped_word s t) ys ≡ swapped_word s (t + b))
    → swapped_word h (a + b) ≡ sum_after (word_of n) (xs ++ ys)
addresses_after n h xs ys a b l e p q =
    let none : n + 256 * 0 ≡ n = omega arith in
    let all : n + 256 * (0 + a + b) ≡ n + 256 * (a + b) = omega arith in
    sym (continues (word_of n) xs ys (omega (arith, l))
    ∙ ap (λ v. sum_after (sum_after v xs) ys) (sym (ap word_of none))
    ∙ ap (λ v. sum_after v ys) (p n 0) ∙ q n (0 + a) ∙ ap word_of all ∙ sym (e (256 * (a + b))))

-- an IPv4 header whose checksum is 0, up to its addresses
pub header_words : (h : Ipv4Repr) → h.hop_limit < 256 → number_of h.next_header < 256
    → sum_after (word_of (34048 + (20 + h.payload_len) % 65536 + 256 * h.hop_limit + number_of h.next_header))
    (h.src_addr.0 ++ h.dst_addr.0) ≡ sum_after 0 (ipv4_with h 0)
header_words h a b =
    let len = 256 * ((20 + h.payload_len) / 256 % 256) + (20 + h.payload_len) % 256 in
    let hops = 256 * h.hop_limit + number_of h.next_header in
    let rest = h.src_addr.0 ++ h.dst_addr.0 in
    let all : 34048 + (20 + h.payload_len) % 65536 + 256 * h.hop_limit + number_of h.next_header
    ≡ 17664 + len + 0 + 16384 + hops + 0 = omega arith in
    sym (ap (λ v. sum_after (ones_add (ones_add (ones_add v 16384) hops) 0) rest)
    (ap (λ v. ones_add v 0) (word_of_more 17664 len (omega arith)) ∙ word_of_more (17664 + len) 0 (omega arith))
    ∙ ap (λ v. sum_after (ones_add (ones_add v hops) 0) rest) (word_of_more (17664 + len + 0) 16384 (omega arith))
    ∙ ap (λ v. sum_after (ones_add v 0) rest) (word_of_more (17664 + len + 0 + 16384) hops (omega (arith, a, b)))
    ∙ ap (λ v. sum_after v rest) (word_of_more (17664 + len + 0 + 16384 + hops) 0 (omega arith))
    ∙ ap (λ v. sum_after (word_of v) rest) (sym all))
