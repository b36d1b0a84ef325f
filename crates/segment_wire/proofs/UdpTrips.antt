-- UDP datagrams are read as they were written.
use Rattle.std.proofs.Common.{ℕ, ◌+◌, ◌-◌, ◌*◌, ◌/◌, ◌%◌, ◌<◌, ◌≤◌, ◌^◌, ◌&&◌, ◌||◌, not, Bool, true, false, List, ◌∷◌, ◌++◌, ◌≡◌, length, take, refl, ap, sym, ◌∙◌, arith}
use Rattle.std.specs.Prelude.{Some, None, ◌==◌, nat_le, if◌then◌else◌}
use Rattle.std.proofs.lemmas.Bool.Decides.{nat_tests}
use Rattle.std.proofs.lemmas.List.{take_all}
use Rattle.ip_wire.specs.Address.{octets_of}
use Rattle.ip_wire.specs.Octets.{IsOctets, be16, be16_at}
use Rattle.ip_wire.specs.Sum.{IsEven, all_ones, complement, pseudo_sum, sum_after}
use Rattle.ip_wire.specs.declared.address.IpAddress.{IpAddress}
use Rattle.control_wire.specs.Source.{both_ipv4, is_datagram, sum_holds, udp_sum_holds}
use Rattle.control_wire.specs.declared.udp.UdpRepr.{UdpRepr}
use Rattle.segment_wire.specs.RoundTrip.{IsDatagram}
use Rattle.segment_wire.specs.Udp.{Datagram, datagram_if, ones_if_zero, udp_checksum, udp_octets, udp_parsed, udp_with}
use Rattle.segment_wire.proofs.TcpTrips.{AreWords, Verifies, from_two, number, small_start, two_octets}

abbrev pub OnesForZero : Type 0
OnesForZero = (start : ℕ) (front back : List ℕ) → start < 2 ^ 16 → IsOctets front → IsOctets back → IsEven (length front) → sum_after start (front ++ 0 ∷ 0 ∷ back) ≡ all_ones → sum_after start (front ++ (255 ∷ 255 ∷ back)) ≡ all_ones

abbrev front : UdpRepr → ℕ → List ℕ
front u len = be16 u.src_port ++ (be16 u.dst_port ++ be16 len)

front_are : (u : UdpRepr) (len : ℕ) → IsOctets (front u len)
front_are u len = number u.src_port (be16 u.dst_port ++ be16 len) (number u.dst_port (be16 len) (be16_are len))
  where
    be16_are : (n : ℕ) → IsOctets (be16 n)
    be16_are n =
        let h : n / 256 % 256 < 256 = omega arith in
        let k : n % 256 < 256 = omega arith in
        two_octets (n / 256 % 256) (n % 256) h k

all_of : (sum : ℕ) → (sum == 0) ≡ true → sum ≡ 0
all_of sum h = grind (arith, nat_tests)

full : (sum : ℕ) → sum < 2 ^ 16 → complement sum ≡ 0 → sum ≡ all_ones
full sum h e = omega arith

datagram_are : (u : UdpRepr) (payload : List ℕ) → IsOctets payload → IsOctets (udp_with u payload 0)
unfolding udp_with
datagram_are u payload o = number u.src_port (be16 u.dst_port ++ (be16 (8 + length payload) ++ (be16 0 ++ payload))) (number u.dst_port (be16 (8 + length payload) ++ (be16 0 ++ payload)) (number (8 + length payload) (be16 0 ++ payload) (number 0 payload o)))

verified : Verifies → OnesForZero → AreWords → (start : ℕ) (u : UdpRepr) (payload : List ℕ) → start < 2 ^ 16 → IsOctets payload → sum_after start (udp_with u payload (ones_if_zero (complement (sum_after start (udp_with u payload 0))))) ≡ all_ones
unfolding udp_with
verified law ones words start u payload h o = go (complement (sum_after start (udp_with u payload 0)) == 0) refl
  where
    go : (z : Bool) → (complement (sum_after start (udp_with u payload 0)) == 0) ≡ z → sum_after start (udp_with u payload (if z then all_ones else complement (sum_after start (udp_with u payload 0)))) ≡ all_ones
    go false e = law start (front u (8 + length payload)) payload h (front_are u (8 + length payload)) o refl
    go true e =
        let c : complement (sum_after start (udp_with u payload 0)) ≡ 0 = all_of (complement (sum_after start (udp_with u payload 0))) e in
        let small : sum_after start (udp_with u payload 0) < 2 ^ 16 = words start (udp_with u payload 0) h (datagram_are u payload o) in
        ones start (front u (8 + length payload)) payload h (front_are u (8 + length payload)) o refl (full (sum_after start (udp_with u payload 0)) small c)

there : (n : ℕ) → 0 < n → not (n == 0) ≡ true
there n h = grind (arith, nat_tests)

le_true : (m n : ℕ) → m ≤ n → nat_le m n ≡ true
le_true m n h = grind (arith, nat_tests)

all_three : (a b c : Bool) → a ≡ true → b ≡ true → c ≡ true → (a && b && c) ≡ true
all_three a b c p q r = rw (p, q, r) refl

or_true : (a b : Bool) → b ≡ true → (a || b) ≡ true
or_true true b e = refl
or_true false b e = e

length_back : (u : UdpRepr) (payload : List ℕ) (n : ℕ) → 8 + length payload < 2 ^ 16 → be16_at (udp_with u payload n) 4 ≡ 8 + length payload
unfolding udp_with
length_back u payload n h = from_two (8 + length payload) h

pub size : (u : UdpRepr) (payload : List ℕ) (n : ℕ) → length (udp_with u payload n) ≡ 8 + length payload
unfolding udp_with
size u payload n = omega arith

is_back : (u : UdpRepr) (payload : List ℕ) (n : ℕ) → IsDatagram u payload → is_datagram (udp_with u payload n) ≡ true
unfolding udp_with
is_back u payload n is =
    let l : 256 * ((8 + length payload) / 256 % 256) + (8 + length payload) % 256 ≡ 8 + length payload = from_two (8 + length payload) is.length_fits in
    let p : nat_le 8 (256 * ((8 + length payload) / 256 % 256) + (8 + length payload) % 256) ≡ true = le_true 8 _ (omega (arith, l)) in
    let q : nat_le (256 * ((8 + length payload) / 256 % 256) + (8 + length payload) % 256) (length (udp_with u payload n)) ≡ true = le_true _ _ (omega (arith, l, size u payload n)) in
    let r : not (256 * (u.dst_port / 256 % 256) + u.dst_port % 256 == 0) ≡ true = ap (λ k. not (k == 0)) (from_two u.dst_port is.dst_fits) ∙ there u.dst_port is.dst_there in
    all_three _ _ _ p q r

-- the whole datagram is what its length counts
whole : (u : UdpRepr) (payload : List ℕ) (n : ℕ) → 8 + length payload < 2 ^ 16 → take (be16_at (udp_with u payload n) 4) (udp_with u payload n) ≡ udp_with u payload n
whole u payload n h = take_all (be16_at (udp_with u payload n) 4) (udp_with u payload n) (omega (arith, length_back u payload n h, size u payload n))

sum_back : Verifies → OnesForZero → AreWords → (src dst : IpAddress) (u : UdpRepr) (payload : List ℕ) → IsDatagram u payload → IsOctets (octets_of src) → IsOctets (octets_of dst) → udp_sum_holds src dst (udp_octets true src dst u payload) ≡ true
sum_back law ones words src dst u payload is p q =
    let start = pseudo_sum src dst 17 (length (udp_with u payload 0)) in
    let sum = udp_checksum src dst (udp_with u payload 0) in
    let o = udp_with u payload sum in
    let same : length o ≡ length (udp_with u payload 0) = size u payload sum ∙ sym (size u payload 0) in
    or_true (both_ipv4 src dst && (be16_at o 6 == 0)) (sum_holds src dst 17 (take (be16_at o 4) o))
    (ap (sum_holds src dst 17) (whole u payload sum is.length_fits)
    ∙ ap (λ l. sum_after (pseudo_sum src dst 17 l) o == all_ones) same
    ∙ ap (λ k. k == all_ones) (verified law ones words start u payload (small_start words src dst 17 (length (udp_with u payload 0)) (omega arith) p q) is.octets))

tested_well : Verifies → OnesForZero → AreWords → (sent tested : Bool) (src dst : IpAddress) (u : UdpRepr) (payload : List ℕ) → IsDatagram u payload → IsOctets (octets_of src) → IsOctets (octets_of dst) → (tested ≡ true → sent ≡ true) → (not tested || udp_sum_holds src dst (udp_octets sent src dst u payload)) ≡ true
tested_well law ones words sent false src dst u payload is p q t = refl
tested_well law ones words true true src dst u payload is p q t = sum_back law ones words src dst u payload is p q
tested_well law ones words false true src dst u payload is p q t = let e : false ≡ true = t refl in absurd (cc)

both : (a b : Bool) → a ≡ true → b ≡ true → (a && b) ≡ true
both a b p q = rw (p, q) refl

abbrev datagram : UdpRepr → List ℕ → Datagram
datagram u payload = record { header = u; payload = payload }

fields_back : (u : UdpRepr) (payload : List ℕ) (n : ℕ) → IsDatagram u payload → datagram_if (udp_with u payload n) (Some (be16_at (udp_with u payload n) 0)) ≡ Some (datagram u payload)
unfolding udp_with
fields_back u payload n is =
    let l : (256 * ((8 + length payload) / 256 % 256) + (8 + length payload) % 256) - 8 ≡ length payload = omega (arith, from_two (8 + length payload) is.length_fits) in
    ap (λ x. Some (datagram (record { src_port = x; dst_port = 256 * (u.dst_port / 256 % 256) + u.dst_port % 256 }) (take ((256 * ((8 + length payload) / 256 % 256) + (8 + length payload) % 256) - 8) payload))) (from_two u.src_port is.src_fits)
    ∙ ap (λ x. Some (datagram (record { src_port = u.src_port; dst_port = x }) (take ((256 * ((8 + length payload) / 256 % 256) + (8 + length payload) % 256) - 8) payload))) (from_two u.dst_port is.dst_fits)
    ∙ ap (λ k. Some (datagram u (take k payload))) l
    ∙ ap (λ x. Some (datagram u x)) (take_all (length payload) payload (omega arith))

pub datagram_back : Verifies → OnesForZero → AreWords → (sent tested : Bool) (src dst : IpAddress) (u : UdpRepr) (payload : List ℕ) → IsDatagram u payload → IsOctets (octets_of src) → IsOctets (octets_of dst) → (tested ≡ true → sent ≡ true) → udp_parsed tested src dst (udp_octets sent src dst u payload) ≡ Some (record { header = u; payload = payload })
datagram_back law ones words sent tested src dst u payload is p q t =
    let n = if sent then udp_checksum src dst (udp_with u payload 0) else 0 in
    let o = udp_with u payload n in
    let ok : (is_datagram o && (not tested || udp_sum_holds src dst o)) ≡ true = both (is_datagram o) (not tested || udp_sum_holds src dst o) (is_back u payload n is) (tested_well law ones words sent tested src dst u payload is p q t) in
    ap (λ b. datagram_if o (if b then Some (be16_at o 0) else None)) ok ∙ fields_back u payload n is
