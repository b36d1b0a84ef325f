-- Headers are read as they were written.
use Rattle.std.proofs.Common.{ℕ, suc, ◌||◌, not, ◌+◌, ◌-◌, ◌*◌, ◌/◌, ◌%◌, ◌<◌, ◌≤◌, Bool, true, false, List, [], ◌∷◌, ◌++◌, ◌≡◌, length, take, drop, refl, ap, ◌∙◌, arith, append_assoc, length-append}
use Rattle.std.specs.Prelude.{◌==◌}
use Rattle.std.proofs.lemmas.List.{drop_at, take_at, length-take-le}
use Rattle.std.proofs.lemmas.List.Elements.{All-append, All-drop, All-from_recursion, All-take}
use Rattle.std.proofs.Math.Seq.{take-append-add}
use Rattle.ip_wire.proofs.Sums.{verifies}
use Rattle.ip_wire.specs.Octets.{IsOctets, be16}
use Rattle.ip_wire.specs.Packet.{IsIpv4, checksum_filled, checksum_holds, ipv4_octets, ipv6_octets}
use Rattle.ip_wire.specs.Protocol.{number_of}
use Rattle.ip_wire.specs.RoundTrip.{IsIpv4Header, IsIpv6Header, ReadsIpv4, ReadsIpv6}
use Rattle.ip_wire.specs.Sum.{all_ones, complement, sum_after}
use Rattle.ip_wire.specs.declared.repr.Ipv4Repr.{Ipv4Repr}
use Rattle.ip_wire.specs.declared.repr.Ipv6Repr.{Ipv6Repr}

-- both halves of two lists before a rest
first_of : (a b rest : List ℕ) (n : ℕ) → length a ≡ n → take n ((a ++ b) ++ rest) ≡ a
first_of a b rest n l = ap (take n) (append_assoc a b rest) ∙ take_at a (b ++ rest) n l

second_of : (a b rest : List ℕ) (n m : ℕ) → length a ≡ n → length b ≡ m → take m (drop n ((a ++ b) ++ rest)) ≡ b
second_of a b rest n m la lb = ap (λ us. take m (drop n us)) (append_assoc a b rest) ∙ ap (take m) (drop_at a (b ++ rest) n la) ∙ take_at b rest m lb

rest_of : (a b rest : List ℕ) (n : ℕ) → length (a ++ b) ≡ n → drop n ((a ++ b) ++ rest) ≡ rest
rest_of a b rest n l = drop_at (a ++ b) rest n l

-- a number below 2^16 from its two octets
from_two : (n : ℕ) → n < 65536 → 256 * (n / 256 % 256) + n % 256 ≡ n
from_two n h = omega arith

pub ipv6_whole : (h : Ipv6Repr) (payload rest : List ℕ) → IsIpv6Header h → length payload ≡ h.payload_len → ReadsIpv6 (ipv6_octets h ++ (payload ++ rest)) h payload
ipv6_whole h payload rest is l =
    let addresses : length (h.src_addr.0 ++ h.dst_addr.0) ≡ 32 = omega (arith, is.src, is.dst, length-append h.src_addr.0 h.dst_addr.0) in
    let size : 256 * (h.payload_len / 256 % 256) + h.payload_len % 256 ≡ h.payload_len = from_two h.payload_len is.payload in
    let behind : drop 32 ((h.src_addr.0 ++ h.dst_addr.0) ++ (payload ++ rest)) ≡ payload ++ rest = rest_of h.src_addr.0 h.dst_addr.0 (payload ++ rest) 32 addresses in
    record {
      whole = record {
        header = omega (arith, addresses, length-append (h.src_addr.0 ++ h.dst_addr.0) (payload ++ rest));
        room = omega (arith, size, l, addresses, length-append payload rest, length-append (h.src_addr.0 ++ h.dst_addr.0) (payload ++ rest));
      };
      header =
          rw (first_of h.src_addr.0 h.dst_addr.0 (payload ++ rest) 16 is.src, second_of h.src_addr.0 h.dst_addr.0 (payload ++ rest) 16 16 is.src is.dst, is.protocol.name, size) refl;
      payload = rw (size, behind) (take_at payload rest h.payload_len l);
    }

abbrev ipv4_front : Ipv4Repr → List ℕ
ipv4_front h = 69 ∷ 0 ∷ (20 + h.payload_len) / 256 % 256 ∷ (20 + h.payload_len) % 256 ∷ 0 ∷ 0 ∷ 64 ∷ 0 ∷ h.hop_limit ∷ number_of h.next_header ∷ []

front_octets : (h : Ipv4Repr) → IsIpv4Header h → IsOctets (ipv4_front h)
front_octets h is =
    let hops : h.hop_limit < 256 = is.hops in
    let number : number_of h.next_header < 256 = is.protocol.octet in
    All-from_recursion (λ octet. octet < 256) (ipv4_front h) (omega arith, (omega arith, (omega arith, (omega arith, (omega arith, (omega arith, (omega arith, (omega arith, (hops, (number, tt))))))))))

emitted_holds : (h : Ipv4Repr) (tail : List ℕ) → IsIpv4Header h → checksum_holds (ipv4_octets true h ++ tail) ≡ true
emitted_holds h tail is =
    let addresses : length (h.src_addr.0 ++ h.dst_addr.0) ≡ 8 = omega (arith, is.src, is.dst, length-append h.src_addr.0 h.dst_addr.0) in
    let octets : IsOctets (h.src_addr.0 ++ h.dst_addr.0) = All-append (λ octet. octet < 256) h.src_addr.0 h.dst_addr.0 is.src_octets is.dst_octets in
    let size : length (ipv4_octets true h) ≡ 20 = omega (arith, addresses) in
    ap (λ us. sum_after 0 us == all_ones) (take_at (ipv4_octets true h) tail 20 size)
    ∙ ap (λ n. n == all_ones) (verifies 0 (ipv4_front h) (h.src_addr.0 ++ h.dst_addr.0) (omega arith) (front_octets h is) octets refl)

tested_well : (sent tested : Bool) (h : Ipv4Repr) (tail : List ℕ) → IsIpv4Header h → (tested ≡ true → sent ≡ true) → (not tested || checksum_holds (ipv4_octets sent h ++ tail)) ≡ true
tested_well sent false h tail is t = refl
tested_well true true h tail is t = emitted_holds h tail is
tested_well false true h tail is t = let e : false ≡ true = t refl in absurd (cc)

pub ipv4_whole : (sent tested : Bool) (h : Ipv4Repr) (payload rest : List ℕ) → IsIpv4Header h → length payload ≡ h.payload_len → (tested ≡ true → sent ≡ true) → ReadsIpv4 tested (ipv4_octets sent h ++ (payload ++ rest)) h payload
ipv4_whole sent tested h payload rest is l t =
    let addresses : length (h.src_addr.0 ++ h.dst_addr.0) ≡ 8 = omega (arith, is.src, is.dst, length-append h.src_addr.0 h.dst_addr.0) in
    let size : 256 * ((20 + h.payload_len) / 256 % 256) + (20 + h.payload_len) % 256 ≡ 20 + h.payload_len = from_two (20 + h.payload_len) is.total in
    let behind : drop 8 ((h.src_addr.0 ++ h.dst_addr.0) ++ (payload ++ rest)) ≡ payload ++ rest = rest_of h.src_addr.0 h.dst_addr.0 (payload ++ rest) 8 addresses in
    let less : (20 + h.payload_len) - 20 ≡ h.payload_len = omega arith in
    record {
      whole = record {
        header = omega arith;
        total = omega (arith, size);
        room = omega (arith, size, l, addresses, length-append payload rest, length-append (h.src_addr.0 ++ h.dst_addr.0) (payload ++ rest));
      };
      header =
          rw (tested_well sent tested h (payload ++ rest) is t, first_of h.src_addr.0 h.dst_addr.0 (payload ++ rest) 4 is.src, second_of h.src_addr.0 h.dst_addr.0 (payload ++ rest) 4 4 is.src is.dst, is.protocol.name, size, less) refl;
      payload = rw (size, less, behind) (take_at payload rest h.payload_len l);
    }

take_past : (a rest : List ℕ) (x y k : ℕ) → take (length a + suc (suc k)) (a ++ x ∷ y ∷ rest) ≡ a ++ x ∷ y ∷ take k rest
take_past a rest x y k = take-append-add a (x ∷ y ∷ rest) (suc (suc k))

holds_of : (a rest : List ℕ) (n k : ℕ) → n ≡ length a + suc (suc k) → IsOctets a → IsOctets rest → length a ≡ 10 → sum_after 0 (take n (a ++ (be16 (complement (sum_after 0 (take n (a ++ (be16 0 ++ rest))))) ++ rest))) ≡ all_ones
holds_of a rest n k e os rs l =
    let even : length a % 2 ≡ 0 = omega arith in
    ap (λ m. sum_after 0 (take m (a ++ (be16 (complement (sum_after 0 (take m (a ++ (be16 0 ++ rest))))) ++ rest)))) e
    ∙ ap (λ us. sum_after 0 (take (length a + suc (suc k)) (a ++ (be16 (complement (sum_after 0 us)) ++ rest)))) (take_past a rest 0 0 k)
    ∙ ap (sum_after 0) (take_past a rest _ _ k)
    ∙ verifies 0 a (take k rest) (omega arith) os (All-take (λ octet. octet < 256) k rest rs) even

pub filled : (packet : List ℕ) → IsOctets packet → IsIpv4 packet → checksum_holds (checksum_filled packet) ≡ true
filled [] o is = absurd (omega (arith, is.header))
filled (x ∷ xs) o is =
    let header : 20 ≤ x % 16 * 4 = is.header in
    let room : x % 16 * 4 ≤ length (x ∷ xs) = omega (arith, is.total, is.room) in
    let front : length (take 10 (x ∷ xs)) ≡ 10 = length-take-le 10 (x ∷ xs) (omega arith) in
    let e : x % 16 * 4 ≡ length (take 10 (x ∷ xs)) + suc (suc (x % 16 * 4 - 12)) = omega arith in
    ap (λ n. n == all_ones) (holds_of (take 10 (x ∷ xs)) (drop 12 (x ∷ xs)) (x % 16 * 4) (x % 16 * 4 - 12) e (All-take (λ octet. octet < 256) 10 (x ∷ xs) o) (All-drop (λ octet. octet < 256) 12 (x ∷ xs) o) front)
