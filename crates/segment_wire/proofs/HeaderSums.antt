-- The sums of the headers of TCP and UDP, worked out from their numbers.
use Rattle.std.proofs.Common.{ℕ, ◌+◌, ◌*◌, ◌/◌, ◌%◌, ◌<◌, ◌^◌, List, ◌∷◌, ◌++◌, ◌≡◌, ap, sym, ◌∙◌, arith}
use Rattle.control_wire.specs.Segment.{Segment, segment_header_len}
use Rattle.ip_wire.specs.Octets.{be16, be32}
use Rattle.ip_wire.specs.Sum.{ones_add, sum_after, word_of}
use Rattle.ip_wire.proofs.Sums.{swapped_word_zero, word_of_carries, word_of_more}
use Rattle.segment_wire.specs.Tcp.{ack_bit, ack_field, control_bits, tcp_header}

-- two words more to a wide sum
two_words : (n a b : ℕ) (rest : List ℕ) → a < 65536 → b < 65536 → sum_after (ones_add (ones_add (word_of n) a) b) rest ≡ sum_after (word_of (n + a + b)) rest
two_words n a b rest h k = ap (λ v. sum_after (ones_add v b) rest) (word_of_more n a h) ∙ ap (λ v. sum_after v rest) (word_of_more (n + a) b k)

-- a number of four octets more
number : (n x : ℕ) (rest : List ℕ) → x < 2 ^ 32 → sum_after (word_of n) (be32 x ++ rest) ≡ sum_after (word_of (n + x)) rest
number n x rest h =
    let high = 256 * (x / 65536 / 256 % 256) + x / 65536 % 256 in
    let low = 256 * (x / 256 % 256) + x % 256 in
    let regrouped : n + high + low ≡ n + low + high = omega arith in
    let whole : n + low + 65536 * high ≡ n + x = omega (arith, h) in
    two_words n high low rest (omega arith) (omega arith)
    ∙ ap (λ v. sum_after v rest) (ap word_of regrouped ∙ word_of_carries (n + low) high ∙ ap word_of whole)

-- a number of two octets more
short : (n x : ℕ) (rest : List ℕ) → x < 65536 → sum_after (word_of n) (be16 x ++ rest) ≡ sum_after (word_of (n + x)) rest
short n x rest h =
    let same : 256 * (x / 256 % 256) + x % 256 ≡ x = omega (arith, h) in
    ap (λ v. sum_after (ones_add (word_of n) v) rest) same ∙ ap (λ v. sum_after v rest) (word_of_more n x h)

from_start : (s : ℕ) (rest : List ℕ) → s < 65536 → sum_after s rest ≡ sum_after (word_of s) rest
from_start s rest h =
    let e : s + 0 ≡ s = omega arith in
    ap (λ v. sum_after v rest) (sym (swapped_word_zero s h) ∙ ap word_of e)

pub tcp_words : (s : Segment) (start : ℕ) → s.src_port < 65536 → s.dst_port < 65536 → s.seq_number.0 < 2 ^ 32
    → ack_field s.ack_number < 2 ^ 32 → segment_header_len s < 64 → control_bits s.control + ack_bit s.ack_number < 256
    → s.window_len < 65536
    → sum_after (word_of start) (tcp_header s 0)
    ≡ word_of (start + (s.src_port + s.dst_port + (s.seq_number.0 + ack_field s.ack_number)
    + (segment_header_len s / 4 * 16 * 256 + (control_bits s.control + ack_bit s.ack_number) + s.window_len)))
tcp_words s start b c d e f g h =
    let src = s.src_port in
    let dst = s.dst_port in
    let seq = s.seq_number.0 in
    let ack = ack_field s.ack_number in
    let offset = segment_header_len s / 4 * 16 in
    let flags = control_bits s.control + ack_bit s.ack_number in
    let zeros = be16 0 ++ be16 0 in
    let after_flags = be16 s.window_len ++ zeros in
    let after_ack = offset ∷ flags ∷ after_flags in
    let n = start + src + dst + seq + ack in
    let m = n + (256 * offset + flags) in
    let all : m + s.window_len + 0 + 0 ≡ start + (src + dst + (seq + ack) + (offset * 256 + flags + s.window_len)) = omega arith in
    short start src (be16 dst ++ (be32 seq ++ (be32 ack ++ after_ack))) b
    ∙ short (start + src) dst (be32 seq ++ (be32 ack ++ after_ack)) c
    ∙ number (start + src + dst) seq (be32 ack ++ after_ack) d
    ∙ number (start + src + dst + seq) ack after_ack e
    ∙ ap (λ v. sum_after v after_flags) (word_of_more n (256 * offset + flags) (omega (arith, f, g)))
    ∙ short m s.window_len zeros h
    ∙ ap (λ v. ones_add v 0) (word_of_more (m + s.window_len) 0 (omega arith))
    ∙ word_of_more (m + s.window_len + 0) 0 (omega arith)
    ∙ ap word_of all

pub udp_words : (start src dst len : ℕ) → start < 65536 → src < 65536 → dst < 65536
    → word_of (start + src + dst + len % 65536) ≡ sum_after start (be16 src ++ (be16 dst ++ (be16 len ++ be16 0)))
udp_words start src dst len a b c =
    let low = 256 * (len / 256 % 256) + len % 256 in
    let n = start + src + dst in
    let all : n + low + 0 ≡ n + len % 65536 = omega arith in
    let head = be16 src ++ (be16 dst ++ (be16 len ++ be16 0)) in
    sym (from_start start head a
    ∙ short start src (be16 dst ++ (be16 len ++ be16 0)) b
    ∙ short (start + src) dst (be16 len ++ be16 0) c
    ∙ ap (λ v. ones_add v 0) (word_of_more n low (omega arith))
    ∙ word_of_more (n + low) 0 (omega arith)
    ∙ ap word_of all)
