-- The sum of a pseudo header, not folded: numbers, and others with the low octet first.
use Rattle.std.proofs.Common.{ℕ, ◌+◌, ◌*◌, ◌%◌, ◌<◌, ◌≡◌, List, ap, sym, ◌∙◌, arith}
use Rattle.ip_wire.proofs.Sums.{both_sums, pseudo, swapped_word_zero}
use Rattle.ip_wire.specs.Sum.{pseudo_sum, sum_after, swapped_word, word_of}
use Rattle.ip_wire.specs.declared.address.Ipv4Address.{Ipv4Address}
use Rattle.ip_wire.specs.declared.address.IpAddress.TheVariants as address

-- a sum that was folded stands alone
pub alone : (s : ℕ) → s < 65536 → swapped_word s 0 ≡ s
alone s h = swapped_word_zero s h

-- what octets add to a sum of numbers with the low octet first they add 256 times to one of words
wide : (xs : List ℕ) (a : ℕ) → ((s t : ℕ) → sum_after (swapped_word s t) xs ≡ swapped_word s (t + a))
    → (n : ℕ) → sum_after (word_of n) xs ≡ word_of (n + 256 * a)
wide xs a p n =
    let none : n + 256 * 0 ≡ n = omega arith in
    let all : n + 256 * (0 + a) ≡ n + 256 * a = omega arith in
    ap (λ v. sum_after v xs) (sym (ap word_of none)) ∙ p n 0 ∙ ap word_of all

pub of_v4 : (src dst : Ipv4Address) (len a b : ℕ)
    → ((s t : ℕ) → sum_after (swapped_word s t) src.0 ≡ swapped_word s (t + a))
    → ((s t : ℕ) → sum_after (swapped_word s t) dst.0 ≡ swapped_word s (t + b))
    → swapped_word (len % 4294967296 + 6) (a + b) ≡ pseudo_sum (address.Ipv4 src) (address.Ipv4 dst) 6 len
of_v4 src dst len a b p q =
    let order : len % 4294967296 + 6 + 256 * (a + b) ≡ 256 * a + 256 * b + (len % 4294967296 + 6) = omega arith in
    ap word_of order
    ∙ sym (pseudo (address.Ipv4 src) (address.Ipv4 dst) 6 len (256 * a + 256 * b) (omega arith)
    (both_sums src.0 dst.0 (256 * a) (256 * b) (wide src.0 a p) (wide dst.0 b q)))
