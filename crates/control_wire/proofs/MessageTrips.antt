-- ICMP messages are read as they were written.
use Rattle.std.proofs.Common.{ℕ, ◌+◌, ◌-◌, ◌*◌, ◌/◌, ◌%◌, ◌<◌, ◌≤◌, ◌^◌, ◌&&◌, Bool, true, false, List, [], ◌∷◌, ◌++◌, ◌≡◌, length, take, drop, refl, ap, ◌∙◌, arith, append_assoc, length-append}
use Rattle.std.specs.Prelude.{Some, None, ◌==◌, nat_le, if◌then◌else◌, slice_index}
use Rattle.std.proofs.lemmas.Bool.Decides.{nat_tests}
use Rattle.std.proofs.lemmas.List.{drop_at, take_at}
use Rattle.std.proofs.lemmas.List.Elements.{All-append, All-from_recursion}
use Rattle.ip_wire.specs.Checksum.{is_sent}
use Rattle.ip_wire.specs.Octets.{IsOctets, be16, be32}
use Rattle.ip_wire.specs.Packet.{ipv4_octets, ipv4_with, ipv6_octets}
use Rattle.ip_wire.specs.Protocol.{number_of}
use Rattle.ip_wire.specs.RoundTrip.{IsIpv4Header, IsIpv6Header}
use Rattle.ip_wire.specs.Sum.{IsEven, all_ones, complement, sum_after}
use Rattle.ip_wire.specs.declared.address.Ipv6Address.{Ipv6Address}
use Rattle.ip_wire.specs.declared.checksum.ChecksumCapabilities.{ChecksumCapabilities}
use Rattle.ip_wire.specs.declared.repr.Ipv4Repr.{Ipv4Repr}
use Rattle.ip_wire.specs.declared.repr.Ipv6Repr.{Ipv6Repr}
use Rattle.control_wire.specs.Icmp.{Exceeded, Kinds, Message, Problem, Reply, Request, Unreachable, icmpv4_message, icmpv4_octets, icmpv4_parsed, icmpv6_message, icmpv6_octets, icmpv6_parsed, is_message, kinds_v4, kinds_v6, message_of, message_with, quoted_v4, quoted_v6, v4_with, v6_start, v6_with}
use Rattle.control_wire.specs.IcmpRoundTrip.{IsV4, IsV6}

-- a number below 2^16 from its two octets
from_two : (n : ℕ) → n < 65536 → 256 * (n / 256 % 256) + n % 256 ≡ n
from_two n h = omega arith

first_of : (a b rest : List ℕ) (n : ℕ) → length a ≡ n → take n ((a ++ b) ++ rest) ≡ a
first_of a b rest n l = ap (take n) (append_assoc a b rest) ∙ take_at a (b ++ rest) n l

second_of : (a b rest : List ℕ) (n m : ℕ) → length a ≡ n → length b ≡ m → take m (drop n ((a ++ b) ++ rest)) ≡ b
second_of a b rest n m la lb = ap (λ us. take m (drop n us)) (append_assoc a b rest) ∙ ap (take m) (drop_at a (b ++ rest) n la) ∙ take_at b rest m lb

-- a number below 2^32 from its four octets
from_four : (n : ℕ) → n < 2 ^ 32 → 65536 * (256 * (n / 65536 / 256 % 256) + n / 65536 % 256) + (256 * (n / 256 % 256) + n % 256) ≡ n
from_four n h = omega arith

le_true : (m n : ℕ) → m ≤ n → nat_le m n ≡ true
le_true m n h = grind (arith, nat_tests)

-- a quoted header and what stands behind it
quoted_back_v4 : (sent : Bool) (h : Ipv4Repr) (b : List ℕ) → IsIpv4Header h → h.payload_len ≡ length b → 8 ≤ length b → quoted_v4 (ipv4_octets sent h ++ b) ≡ Some (h, b)
unfolding quoted_v4
quoted_back_v4 sent h b is l e =
    let addresses : length (h.src_addr.0 ++ h.dst_addr.0) ≡ 8 = omega (arith, is.src, is.dst, length-append h.src_addr.0 h.dst_addr.0) in
    let size : length (ipv4_octets sent h ++ b) ≡ 20 + length b = omega (arith, addresses, length-append (h.src_addr.0 ++ h.dst_addr.0) b) in
    let fits : nat_le 28 (length (ipv4_octets sent h ++ b)) ≡ true = le_true 28 (length (ipv4_octets sent h ++ b)) (omega arith) in
    let count : length (ipv4_octets sent h ++ b) - 20 ≡ h.payload_len = omega arith in
    let behind : drop 8 ((h.src_addr.0 ++ h.dst_addr.0) ++ b) ≡ b = drop_at (h.src_addr.0 ++ h.dst_addr.0) b 8 addresses in
    rw (fits, count, behind, first_of h.src_addr.0 h.dst_addr.0 b 4 is.src, second_of h.src_addr.0 h.dst_addr.0 b 4 4 is.src is.dst, is.protocol.name) refl

-- whatever the checksum
read_back_v4 : (sent : Bool) (m : Message Ipv4Repr) (n : ℕ) → IsV4 m → message_of false kinds_v4 quoted_v4 (slice_index (message_with kinds_v4 (ipv4_octets sent) m n) 0) (slice_index (message_with kinds_v4 (ipv4_octets sent) m n) 1) (message_with kinds_v4 (ipv4_octets sent) m n) ≡ Some m
read_back_v4 sent (Request i s b) n is = rw (from_two i is.ident_fits, from_two s is.seq_no_fits) refl
read_back_v4 sent (Reply i s b) n is = rw (from_two i is.ident_fits, from_two s is.seq_no_fits) refl
read_back_v4 sent (Unreachable r h b) n is = rw (quoted_back_v4 sent h b is.0 is.1.counted is.1.enough) refl
read_back_v4 sent (Exceeded r h b) n is = rw (quoted_back_v4 sent h b is.0 is.1.counted is.1.enough) refl
read_back_v4 sent (Problem r p h b) n is = absurd is

abbrev pub Verifies : Type 0
Verifies = (start : ℕ) (front back : List ℕ) → start < 2 ^ 16 → IsOctets front → IsOctets back → IsEven (length front) → sum_after start (front ++ (be16 (complement (sum_after start (front ++ 0 ∷ 0 ∷ back))) ++ back)) ≡ all_ones

-- what of a message stands behind its checksum has octets alone, with the header that is quoted
abbrev AreOctets : {H : Type 0} → (H → List ℕ) → Message H → Type 0
AreOctets quoted (Request i s b) = IsOctets b
AreOctets quoted (Reply i s b) = IsOctets b
AreOctets quoted (Unreachable r h b) = (r < 256) × IsOctets (quoted h ++ b)
AreOctets quoted (Exceeded r h b) = (r < 256) × IsOctets (quoted h ++ b)
AreOctets quoted (Problem r p h b) = (r < 256) × IsOctets (quoted h ++ b)

pub record AreSmall (kinds : Kinds) : Type 0 where
  pub request : kinds.request < 256
  pub reply : kinds.reply < 256
  pub unreachable : kinds.unreachable < 256
  pub exceeded : kinds.exceeded < 256
  pub problem : kinds.problem < 256

two_octets : (a b : ℕ) → a < 256 → b < 256 → IsOctets (a ∷ b ∷ [])
two_octets a b h k = All-from_recursion (λ octet. octet < 256) (a ∷ b ∷ []) (h, (k, tt))

be16_octets : (n : ℕ) → IsOctets (be16 n)
be16_octets n =
    let h : n / 256 % 256 < 256 = omega arith in
    let k : n % 256 < 256 = omega arith in
    two_octets (n / 256 % 256) (n % 256) h k

joined : (xs ys : List ℕ) → IsOctets xs → IsOctets ys → IsOctets (xs ++ ys)
joined xs ys h k = All-append (λ octet. octet < 256) xs ys h k

echo_rest : (i s : ℕ) (b : List ℕ) → IsOctets b → IsOctets (be16 i ++ (be16 s ++ b))
echo_rest i s b o = joined (be16 i) (be16 s ++ b) (be16_octets i) (joined (be16 s) b (be16_octets s) o)

error_rest : (rest : List ℕ) → IsOctets rest → IsOctets (0 ∷ 0 ∷ 0 ∷ 0 ∷ rest)
error_rest rest o = joined (be16 0) (be16 0 ++ rest) (be16_octets 0) (joined (be16 0) rest (be16_octets 0) o)

problem_rest : (p : ℕ) (rest : List ℕ) → IsOctets rest → IsOctets (be32 p ++ rest)
problem_rest p rest o = joined (be32 p) rest (joined (be16 (p / 65536)) (be16 p) (be16_octets (p / 65536)) (be16_octets p)) o

verified : {H : Type 0} (kinds : Kinds) (quoted : H → List ℕ) → Verifies → (start : ℕ) (m : Message H) → start < 2 ^ 16 → AreSmall kinds → AreOctets quoted m → sum_after start (message_with kinds quoted m (complement (sum_after start (message_with kinds quoted m 0)))) ≡ all_ones
verified kinds quoted law start (Request i s b) h k o = law start (kinds.request ∷ 0 ∷ []) (be16 i ++ (be16 s ++ b)) h (two_octets kinds.request 0 k.request (omega arith)) (echo_rest i s b o) refl
verified kinds quoted law start (Reply i s b) h k o = law start (kinds.reply ∷ 0 ∷ []) (be16 i ++ (be16 s ++ b)) h (two_octets kinds.reply 0 k.reply (omega arith)) (echo_rest i s b o) refl
verified kinds quoted law start (Unreachable r header b) h k o = law start (kinds.unreachable ∷ r ∷ []) (0 ∷ 0 ∷ 0 ∷ 0 ∷ (quoted header ++ b)) h (two_octets kinds.unreachable r k.unreachable o.0) (error_rest (quoted header ++ b) o.1) refl
verified kinds quoted law start (Exceeded r header b) h k o = law start (kinds.exceeded ∷ r ∷ []) (0 ∷ 0 ∷ 0 ∷ 0 ∷ (quoted header ++ b)) h (two_octets kinds.exceeded r k.exceeded o.0) (error_rest (quoted header ++ b) o.1) refl
verified kinds quoted law start (Problem r p header b) h k o = law start (kinds.problem ∷ r ∷ []) (be32 p ++ (quoted header ++ b)) h (two_octets kinds.problem r k.problem o.0) (problem_rest p (quoted header ++ b) o.1) refl

-- the octets of headers
pair : (a b : ℕ) (rest : List ℕ) → a < 256 → b < 256 → IsOctets rest → IsOctets (a ∷ b ∷ rest)
pair a b rest h k o = joined (a ∷ b ∷ []) rest (two_octets a b h k) o

number : (n : ℕ) (rest : List ℕ) → IsOctets rest → IsOctets (be16 n ++ rest)
number n rest o = joined (be16 n) rest (be16_octets n) o

ipv4_header : (sent : Bool) (h : Ipv4Repr) → IsIpv4Header h → IsOctets (ipv4_octets sent h)
ipv4_header sent h is =
    let sum = if sent then complement (sum_after 0 (ipv4_with h 0)) else 0 in
    let a : List ℕ = h.src_addr.0 ++ h.dst_addr.0 in
    let oa : IsOctets a = joined h.src_addr.0 h.dst_addr.0 is.src_octets is.dst_octets in
    let b : List ℕ = be16 sum ++ a in
    let ob : IsOctets b = number sum a oa in
    let d : List ℕ = h.hop_limit ∷ number_of h.next_header ∷ b in
    let od : IsOctets d = pair h.hop_limit (number_of h.next_header) b is.hops is.protocol.octet ob in
    let e : List ℕ = 0 ∷ 0 ∷ 64 ∷ 0 ∷ d in
    let oe : IsOctets e = pair 0 0 (64 ∷ 0 ∷ d) (omega arith) (omega arith) (pair 64 0 d (omega arith) (omega arith) od) in
    pair 69 0 (be16 (20 + h.payload_len) ++ e) (omega arith) (omega arith) (number (20 + h.payload_len) e oe)

ipv6_header : (h : Ipv6Repr) → IsIpv6Header h → IsOctets (ipv6_octets h)
ipv6_header h is =
    let a : List ℕ = h.src_addr.0 ++ h.dst_addr.0 in
    let oa : IsOctets a = joined h.src_addr.0 h.dst_addr.0 is.src_octets is.dst_octets in
    let b : List ℕ = number_of h.next_header ∷ h.hop_limit ∷ a in
    let ob : IsOctets b = pair (number_of h.next_header) h.hop_limit a is.protocol.octet is.hops oa in
    let d : List ℕ = be16 h.payload_len ++ b in
    let od : IsOctets d = number h.payload_len b ob in
    pair 96 0 (0 ∷ 0 ∷ d) (omega arith) (omega arith) (pair 0 0 d (omega arith) (omega arith) od)

octets_v4 : (sent : Bool) (m : Message Ipv4Repr) → IsV4 m → AreOctets (ipv4_octets sent) m
octets_v4 sent (Request i s b) is = is.octets
octets_v4 sent (Reply i s b) is = is.octets
octets_v4 sent (Unreachable r h b) is = (is.1.reason_fits, joined (ipv4_octets sent h) b (ipv4_header sent h is.0) is.1.octets)
octets_v4 sent (Exceeded r h b) is = (is.1.reason_fits, joined (ipv4_octets sent h) b (ipv4_header sent h is.0) is.1.octets)
octets_v4 sent (Problem r p h b) is = absurd is

octets_v6 : (m : Message Ipv6Repr) → IsV6 m → AreOctets ipv6_octets m
octets_v6 (Request i s b) is = is.octets
octets_v6 (Reply i s b) is = is.octets
octets_v6 (Unreachable r h b) is = (is.1.reason_fits, joined (ipv6_octets h) b (ipv6_header h is.0) is.1.octets)
octets_v6 (Exceeded r h b) is = (is.1.reason_fits, joined (ipv6_octets h) b (ipv6_header h is.0) is.1.octets)
octets_v6 (Problem r p h b) is = (is.1.reason_fits, joined (ipv6_octets h) b (ipv6_header h is.0) is.1.octets)

-- a message has at least eight octets
long : {H : Type 0} (kinds : Kinds) (quoted : H → List ℕ) (m : Message H) (n : ℕ) → 8 ≤ length (message_with kinds quoted m n)
long kinds quoted (Request i s b) n = omega arith
long kinds quoted (Reply i s b) n = omega arith
long kinds quoted (Unreachable r h b) n = omega arith
long kinds quoted (Exceeded r h b) n = omega arith
long kinds quoted (Problem r p h b) n = omega arith

taken_well : (tested sent : Bool) (start : ℕ) (f : ℕ → List ℕ) → ((n : ℕ) → 8 ≤ length (f n)) → sum_after start (f (complement (sum_after start (f 0)))) ≡ all_ones → (tested ≡ true → sent ≡ true) → is_message tested start (f (if sent then complement (sum_after start (f 0)) else 0)) ≡ true
taken_well false sent start f l v t = ap (λ b. b && true) (le_true 8 (length (f (if sent then complement (sum_after start (f 0)) else 0))) (l (if sent then complement (sum_after start (f 0)) else 0)))
taken_well true true start f l v t =
    let sum = complement (sum_after start (f 0)) in
    ap (λ b. b && (sum_after start (f sum) == all_ones)) (le_true 8 (length (f sum)) (l sum)) ∙ ap (λ n. n == all_ones) v
taken_well true false start f l v t = let e : false ≡ true = t refl in absurd (cc)

pub trip_v4 : Verifies → (caps : ChecksumCapabilities) (tested : Bool) (m : Message Ipv4Repr) → IsV4 m → (tested ≡ true → is_sent caps.icmpv4 ≡ true) → icmpv4_parsed tested (icmpv4_octets caps m) ≡ Some m
unfolding icmpv4_message
trip_v4 law caps tested m is t =
    let o = icmpv4_octets caps m in
    let v : sum_after 0 (v4_with caps m (complement (sum_after 0 (v4_with caps m 0)))) ≡ all_ones =
    verified kinds_v4 (ipv4_octets (is_sent caps.ipv4)) law 0 m (omega arith) (record { request = omega arith; reply = omega arith; unreachable = omega arith; exceeded = omega arith; problem = omega arith }) (octets_v4 (is_sent caps.ipv4) m is) in
    let ok : is_message tested 0 o ≡ true = taken_well tested (is_sent caps.icmpv4) 0 (v4_with caps m) (long kinds_v4 (ipv4_octets (is_sent caps.ipv4)) m) v t in
    ap (λ b. if b then message_of false kinds_v4 quoted_v4 (slice_index o 0) (slice_index o 1) o else None) ok
    ∙ read_back_v4 (is_sent caps.ipv4) m (if is_sent caps.icmpv4 then complement (sum_after 0 (v4_with caps m 0)) else 0) is

quoted_back_v6 : (h : Ipv6Repr) (b : List ℕ) → IsIpv6Header h → h.payload_len ≡ length b → 8 ≤ length b → quoted_v6 (ipv6_octets h ++ b) ≡ Some (h, b)
unfolding quoted_v6
quoted_back_v6 h b is l e =
    let addresses : length (h.src_addr.0 ++ h.dst_addr.0) ≡ 32 = omega (arith, is.src, is.dst, length-append h.src_addr.0 h.dst_addr.0) in
    let size : length (ipv6_octets h ++ b) ≡ 40 + length b = omega (arith, addresses, length-append (h.src_addr.0 ++ h.dst_addr.0) b) in
    let fits : nat_le 48 (length (ipv6_octets h ++ b)) ≡ true = le_true 48 (length (ipv6_octets h ++ b)) (omega arith) in
    let count : length (ipv6_octets h ++ b) - 40 ≡ h.payload_len = omega arith in
    let behind : drop 32 ((h.src_addr.0 ++ h.dst_addr.0) ++ b) ≡ b = drop_at (h.src_addr.0 ++ h.dst_addr.0) b 32 addresses in
    rw (fits, count, behind, first_of h.src_addr.0 h.dst_addr.0 b 16 is.src, second_of h.src_addr.0 h.dst_addr.0 b 16 16 is.src is.dst, is.protocol.name) refl

read_back_v6 : (m : Message Ipv6Repr) (n : ℕ) → IsV6 m → message_of true kinds_v6 quoted_v6 (slice_index (v6_with m n) 0) (slice_index (v6_with m n) 1) (v6_with m n) ≡ Some m
read_back_v6 (Request i s b) n is = rw (from_two i is.ident_fits, from_two s is.seq_no_fits) refl
read_back_v6 (Reply i s b) n is = rw (from_two i is.ident_fits, from_two s is.seq_no_fits) refl
read_back_v6 (Unreachable r h b) n is = rw (quoted_back_v6 h b is.0 is.1.counted is.1.enough) refl
read_back_v6 (Exceeded r h b) n is = rw (quoted_back_v6 h b is.0 is.1.counted is.1.enough) refl
read_back_v6 (Problem r p h b) n is = rw (from_four p is.2, quoted_back_v6 h b is.0 is.1.counted is.1.enough) refl

same_len : (m : Message Ipv6Repr) (n : ℕ) → length (v6_with m n) ≡ length (v6_with m 0)
same_len (Request i s b) n = refl
same_len (Reply i s b) n = refl
same_len (Unreachable r h b) n = refl
same_len (Exceeded r h b) n = refl
same_len (Problem r p h b) n = refl

abbrev pub AreWords : Type 0
AreWords = (start : ℕ) (octets : List ℕ) → start < 2 ^ 16 → IsOctets octets → sum_after start octets < 2 ^ 16

small_start : AreWords → (src dst : Ipv6Address) (len : ℕ) → IsOctets src.0 → IsOctets dst.0 → v6_start src dst len < 2 ^ 16
small_start words src dst len s d =
    let tail : IsOctets (be32 len ++ (0 ∷ 0 ∷ 0 ∷ 58 ∷ [])) = joined (be16 (len / 65536) ++ be16 len) (0 ∷ 0 ∷ 0 ∷ 58 ∷ []) (number (len / 65536) (be16 len) (be16_octets len)) (pair 0 0 (0 ∷ 58 ∷ []) (omega arith) (omega arith) (two_octets 0 58 (omega arith) (omega arith))) in
    words (sum_after (sum_after 0 src.0) dst.0) (be32 len ++ (0 ∷ 0 ∷ 0 ∷ 58 ∷ [])) (words (sum_after 0 src.0) dst.0 (words 0 src.0 (omega arith) s) d) tail

pub trip_v6 : Verifies → AreWords → (caps : ChecksumCapabilities) (tested : Bool) (src dst : Ipv6Address) (m : Message Ipv6Repr) → IsV6 m → IsOctets src.0 → IsOctets dst.0 → (tested ≡ true → is_sent caps.icmpv6 ≡ true) → icmpv6_parsed tested src dst (icmpv6_octets caps src dst m) ≡ Some m
unfolding icmpv6_message
trip_v6 law words caps tested src dst m is s d t =
    let o = icmpv6_octets caps src dst m in
    let start = v6_start src dst (length (v6_with m 0)) in
    let sum = if is_sent caps.icmpv6 then complement (sum_after start (v6_with m 0)) else 0 in
    let v : sum_after start (v6_with m (complement (sum_after start (v6_with m 0)))) ≡ all_ones =
    verified kinds_v6 ipv6_octets law start m (small_start words src dst (length (v6_with m 0)) s d) (record { request = omega arith; reply = omega arith; unreachable = omega arith; exceeded = omega arith; problem = omega arith }) (octets_v6 m is) in
    let ok : is_message tested (v6_start src dst (length o)) o ≡ true =
    ap (λ l. is_message tested (v6_start src dst l) o) (same_len m sum) ∙ taken_well tested (is_sent caps.icmpv6) start (v6_with m) (long kinds_v6 ipv6_octets m) v t in
    ap (λ b. if b then message_of true kinds_v6 quoted_v6 (slice_index o 0) (slice_index o 1) o else None) ok ∙ read_back_v6 m sum is
