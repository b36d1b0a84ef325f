-- A segment is written piece by piece.
use Rattle.std.proofs.Common.{ℕ, suc, ◌+◌, ◌-◌, ◌*◌, ◌≤◌, Bool, true, false, List, [], ◌∷◌, ◌++◌, ◌≡◌, length, take, drop, refl, ap, sym, ◌∙◌, arith, append_assoc, length-append}
use Rattle.std.specs.Prelude.{Option, Some, None, is_some, cond, count_by, if◌then◌else◌, ◌==◌}
use Rattle.std.specs.List.{fold}
use Rattle.std.proofs.lemmas.List.{append-nil, drop_all, drop_at, drop-drop, length-take-le, take_at, take_all}
use Rattle.control_wire.specs.Segment.{Segment, options_len, sack_option_len, segment_header_len}
use Rattle.control_wire.specs.declared.tcp.TcpTimestampRepr.{TcpTimestampRepr}
use Rattle.segment_wire.specs.Options.{mss_octets, options_octets, padding, permitted_octets, ranges_octets, sack_if, sack_octets, scale_octets, stamp_octets}
use Rattle.segment_wire.specs.Tcp.{tcp_header, tcp_octets, tcp_with}
use Rattle.segment_wire.specs.Udp.{ones_if_zero, udp_octets, udp_with}
use Rattle.control_wire.specs.declared.udp.UdpRepr.{UdpRepr}
use Rattle.ip_wire.specs.Octets.{be16}
use Rattle.ip_wire.specs.Sum.{complement, pseudo_sum, sum_after}
use Rattle.ip_wire.specs.declared.address.IpAddress.{IpAddress}

pub nothing_more : (xs : List ℕ) → xs ≡ xs ++ []
nothing_more xs = sym (append-nil xs)

-- what stands before a piece stays, and the piece stands behind it
pub front_kept : (xs ys piece : List ℕ) (at : ℕ) → at + length piece ≤ length xs → ys ≡ take at xs ++ (piece ++ drop (at + length piece) xs) → take (at + length piece) ys ≡ take at xs ++ piece
front_kept xs ys piece at h y =
    let l : length (take at xs) ≡ at = length-take-le at xs (omega arith) in
    ap (take (at + length piece)) (y ∙ sym (append_assoc (take at xs) piece (drop (at + length piece) xs)))
    ∙ take_at (take at xs ++ piece) (drop (at + length piece) xs) (at + length piece) (length-append (take at xs) piece ∙ ap (λ n. n + length piece) l)

pub two : (xs a b y z : List ℕ) → y ≡ xs ++ a → z ≡ y ++ b → z ≡ xs ++ (a ++ b)
two xs a b y z e f = f ∙ ap (λ us. us ++ b) e ∙ append_assoc xs a b

pub three : (xs a b c y z w : List ℕ) → y ≡ xs ++ a → z ≡ y ++ b → w ≡ z ++ c → w ≡ xs ++ (a ++ (b ++ c))
three xs a b c y z w e f g = two y b c z w f g ∙ ap (λ us. us ++ (b ++ c)) e ∙ append_assoc xs a (b ++ c)

pub six : (xs a b c d e f x1 x2 x3 x4 x5 x6 : List ℕ) → x1 ≡ xs ++ a → x2 ≡ x1 ++ b → x3 ≡ x2 ++ c → x4 ≡ x3 ++ d → x5 ≡ x4 ++ e → x6 ≡ x5 ++ f → x6 ≡ xs ++ (a ++ (b ++ (c ++ (d ++ (e ++ f)))))
six xs a b c d e f x1 x2 x3 x4 x5 x6 p q r s t u =
    three x3 d e f x4 x5 x6 s t u ∙ ap (λ us. us ++ (d ++ (e ++ f))) (three xs a b c x1 x2 x3 p q r)
    ∙ append_assoc xs (a ++ (b ++ c)) (d ++ (e ++ f))
    ∙ ap (λ us. xs ++ us) (append_assoc a (b ++ c) (d ++ (e ++ f)) ∙ ap (λ us. a ++ us) (append_assoc b c (d ++ (e ++ f))))

mss_count : (m : Option ℕ) → length (mss_octets m) ≡ (if is_some m then 4 else 0)
mss_count None = refl
mss_count (Some n) = refl

scale_count : (m : Option ℕ) → length (scale_octets m) ≡ (if is_some m then 3 else 0)
scale_count None = refl
scale_count (Some n) = refl

permitted_count : (m : Bool) → length (permitted_octets m) ≡ (if m then 2 else 0)
permitted_count false = refl
permitted_count true = refl

stamp_count : (m : Option TcpTimestampRepr) → length (stamp_octets m) ≡ (if is_some m then 10 else 0)
stamp_count None = refl
stamp_count (Some n) = refl

abbrev counted : ℕ → List (Option (ℕ × ℕ)) → ℕ
counted a rs = fold (λ n r. n + cond (is_some r) 1 0) a rs

eight_more : (a n : ℕ) → 8 * a + suc (suc (suc (suc (suc (suc (suc (suc n))))))) ≡ 8 * (a + 1) + n
eight_more a n = omega arith

none_more : (a n : ℕ) → 8 * a + n ≡ 8 * (a + 0) + n
none_more a n = omega arith

count_from : (a : ℕ) (rs : List (Option (ℕ × ℕ))) → 8 * a + length (ranges_octets rs) ≡ 8 * counted a rs
count_from a [] = omega arith
count_from a (None ∷ rs) = none_more a (length (ranges_octets rs)) ∙ count_from (a + 0) rs
count_from a (Some r ∷ rs) = eight_more a (length (ranges_octets rs)) ∙ count_from (a + 1) rs

from_none : (n : ℕ) → n ≡ 8 * 0 + n
from_none n = omega arith

range_count : (rs : List (Option (ℕ × ℕ))) → length (ranges_octets rs) ≡ 8 * count_by is_some rs
range_count rs = from_none (length (ranges_octets rs)) ∙ count_from 0 rs

two_more : (n : ℕ) → suc (suc (8 * n)) ≡ 2 + 8 * n
two_more n = omega arith

sack_count : (rs : List (Option (ℕ × ℕ))) → length (sack_octets rs) ≡ sack_option_len (count_by is_some rs)
sack_count rs = go (count_by is_some rs == 0) (count_by is_some rs) (range_count rs)
  where
    go : (none : Bool) (n : ℕ) → length (ranges_octets rs) ≡ 8 * n → length (sack_if none n rs) ≡ (if none then 0 else 2 + 8 * n)
    go true n e = refl
    go false n e = ap (λ m. suc (suc m)) e ∙ two_more n

pub options_count : (s : Segment) → length (mss_octets s.max_seg_size) + (length (scale_octets s.window_scale) + (length (permitted_octets s.sack_permitted) + (length (sack_octets s.sack_ranges) + length (stamp_octets s.timestamp)))) ≡ options_len s
options_count s = omega (arith, mss_count s.max_seg_size, scale_count s.window_scale, permitted_count s.sack_permitted, sack_count s.sack_ranges, stamp_count s.timestamp)

none_of : (xs : List ℕ) → length xs ≡ 0 → xs ≡ []
none_of [] e = refl
none_of (x ∷ xs) e = absurd (omega (arith, e))

-- a header of 20 octets has no options
pub no_octets : (s : Segment) (xs : List ℕ) → segment_header_len s ≡ 20 → xs ≡ xs ++ options_octets s
no_octets s xs e =
    let a = mss_octets s.max_seg_size in
    let b = scale_octets s.window_scale in
    let c = permitted_octets s.sack_permitted in
    let d = sack_octets s.sack_ranges in
    let f = stamp_octets s.timestamp in
    let n : options_len s ≡ 0 = omega (arith, e) in
    let all : length a + (length b + (length c + (length d + length f))) ≡ 0 = options_count s ∙ n in
    let p : padding s ≡ [] = ap (λ k. take k (0 ∷ 0 ∷ 0 ∷ [])) (ap (λ k. k - (20 + options_len s)) e ∙ ap (λ k. 20 - (20 + k)) n) in
    sym (ap (λ ys. xs ++ (ys ++ (b ++ (c ++ (d ++ (f ++ padding s)))))) (none_of a (omega (arith, all)))
    ∙ ap (λ ys. xs ++ (ys ++ (c ++ (d ++ (f ++ padding s))))) (none_of b (omega (arith, all)))
    ∙ ap (λ ys. xs ++ (ys ++ (d ++ (f ++ padding s)))) (none_of c (omega (arith, all)))
    ∙ ap (λ ys. xs ++ (ys ++ (f ++ padding s))) (none_of d (omega (arith, all)))
    ∙ ap (λ ys. xs ++ (ys ++ padding s)) (none_of f (omega (arith, all)))
    ∙ ap (λ ys. xs ++ ys) p ∙ append-nil xs)

-- the header and its options fill the buffer
pub whole : (header options ws xs ys : List ℕ) (i j : ℕ) → take i xs ≡ take 0 ws ++ header → take j ys ≡ take i xs ++ options → length ys ≤ j → ys ≡ header ++ options
whole header options ws xs ys i j x y l = sym (take_all j ys l) ∙ y ∙ ap (λ us. us ++ options) x

-- with its checksum in the place of 0
pub filled : (src dst : IpAddress) (s : Segment) (xs ys : List ℕ) (start front : ℕ) → xs ≡ tcp_with s 0 → start ≡ pseudo_sum src dst 6 (length xs) → front ≡ sum_after start (tcp_header s 0) → ys ≡ take 16 xs ++ (be16 (complement (sum_after front (drop 20 xs))) ++ drop 18 xs) → ys ≡ tcp_octets true src dst s
unfolding tcp_with
filled src dst s xs ys start front x p f y =
    y ∙ ap (λ t. take 16 xs ++ (be16 (complement (sum_after t (drop 20 xs))) ++ drop 18 xs)) (f ∙ ap (λ t. sum_after t (tcp_header s 0)) p)
    ∙ ap (λ us. take 16 us ++ (be16 (complement (sum_after (sum_after (pseudo_sum src dst 6 (length us)) (tcp_header s 0)) (drop 20 us))) ++ drop 18 us)) x

-- nothing is left behind what fills the buffer
pub ends : (xs ws zs : List ℕ) (n : ℕ) → zs ≡ xs ++ drop n ws → length ws ≡ n → zs ≡ xs
ends xs ws zs n z l = z ∙ ap (λ us. xs ++ us) (drop_all n ws (omega arith)) ∙ append-nil xs

pub filled_datagram : (src dst : IpAddress) (u : UdpRepr) (payload xs ys : List ℕ) (start front : ℕ) → xs ≡ udp_with u payload 0 → start ≡ pseudo_sum src dst 17 (length xs) → front ≡ sum_after start (be16 u.src_port ++ (be16 u.dst_port ++ (be16 (8 + length payload) ++ be16 0))) → ys ≡ take 6 xs ++ (be16 (ones_if_zero (complement (sum_after front (drop 8 xs)))) ++ drop 8 xs) → ys ≡ udp_octets true src dst u payload
unfolding udp_with
filled_datagram src dst u payload xs ys start front x p f y =
    let head = be16 u.src_port ++ (be16 u.dst_port ++ (be16 (8 + length payload) ++ be16 0)) in
    y ∙ ap (λ t. take 6 xs ++ (be16 (ones_if_zero (complement (sum_after t (drop 8 xs)))) ++ drop 8 xs)) (f ∙ ap (λ t. sum_after t head) p)
    ∙ ap (λ us. take 6 us ++ (be16 (ones_if_zero (complement (sum_after (sum_after (pseudo_sum src dst 17 (length us)) head) (drop 8 us)))) ++ drop 8 us)) x

-- a payload that was put behind n octets stands behind them, and nothing behind it
pub payload_behind : (xs payload ys : List ℕ) (n : ℕ) → length xs ≡ n + length payload → ys ≡ take n xs ++ (payload ++ drop (n + length payload) xs) → drop n ys ≡ payload
payload_behind xs payload ys n l y =
    ends payload xs (drop n ys) (n + length payload) (ap (drop n) y ∙ drop_at (take n xs) _ n (length-take-le n xs (omega (arith, l)))) l

-- where nothing is put, nothing stands behind
pub no_payload : (xs payload : List ℕ) (n : ℕ) → length xs ≡ n + length payload → length payload ≡ 0 → drop n xs ≡ payload
no_payload xs payload n l e = drop_all n xs (omega (arith, l, e)) ∙ sym (none_of payload e)

-- what stands behind both headers of a packet stands behind the second one, in what stands behind the first
pub behind_both : (xs payload : List ℕ) (m n : ℕ) → drop (m + n) xs ≡ payload → drop n (drop m xs) ≡ payload
behind_both xs payload m n e = drop-drop n m xs ∙ e
