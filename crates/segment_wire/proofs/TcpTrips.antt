-- TCP segments are read as they were written.
use Rattle.std.proofs.Common.{ℕ, suc, zero, ◌+◌, ◌-◌, ◌*◌, ◌/◌, ◌%◌, ◌<◌, ◌≤◌, ◌^◌, ◌&&◌, ◌||◌, not, Bool, true, false, List, [], ◌∷◌, ◌++◌, ◌≡◌, length, take, drop, refl, ap, sym, ◌∙◌, arith, append_assoc, length-append}
use Rattle.std.specs.Prelude.{Option, Some, None, ◌==◌, nat_le, if◌then◌else◌}
use Rattle.std.proofs.lemmas.Bool.Decides.{nat_tests}
use Rattle.std.proofs.lemmas.List.{drop_at, take_at, length-take-le}
use Rattle.std.proofs.lemmas.List.Elements.{All-append, All-from_recursion, All-take}
use Rattle.ip_wire.specs.Address.{octets_of}
use Rattle.ip_wire.specs.Octets.{IsOctets, be16, be32}
use Rattle.ip_wire.specs.Sum.{IsEven, all_ones, complement, pseudo_sum, sum_after}
use Rattle.ip_wire.specs.declared.address.IpAddress.{IpAddress}
use Rattle.control_wire.specs.Seq.{seq_of}
use Rattle.control_wire.specs.Source.{at_most_one, sum_holds, tcp_header_len}
use Rattle.control_wire.specs.declared.seq_number.TcpSeqNumber.{TcpSeqNumber}
use Rattle.control_wire.specs.declared.tcp.TcpControl.{TcpControl}
use Rattle.control_wire.specs.declared.tcp.TcpControl.TheVariants as control
use Rattle.segment_wire.specs.Tcp.{ack_bit, ack_field, ack_of, control_bits, control_of, is_head, options_of, segment_at, segment_if, tcp_checksum, tcp_header, tcp_octets, tcp_parsed, tcp_with}
use Rattle.segment_wire.proofs.Written.{options_count}
use Rattle.control_wire.specs.Segment.{Segment, options_len, segment_header_len}
use Rattle.control_wire.specs.declared.tcp.TcpTimestampRepr.{TcpTimestampRepr}
use Rattle.segment_wire.specs.Options.{mss_octets, no_options, options_octets, options_read, padding, permitted_octets, ranges_octets, sack_octets, scale_octets, stamp_octets}
use Rattle.segment_wire.specs.RoundTrip.{AreRanges, IsShift, IsWritable, NumberFits, SizeFits, StampFits}
use Rattle.segment_wire.specs.declared.options.TcpOptions.{TcpOptions}

-- numbers from their octets
pub from_two : (n : ℕ) → n < 65536 → 256 * (n / 256 % 256) + n % 256 ≡ n
from_two n h = omega arith

pub from_four : (n : ℕ) → n < 4294967296 → 65536 * (256 * (n / 65536 / 256 % 256) + n / 65536 % 256) + (256 * (n / 256 % 256) + n % 256) ≡ n
from_four n h = omega arith

abbrev made : Option ℕ → Option ℕ → Bool → List (Option (ℕ × ℕ)) → Option TcpTimestampRepr → TcpOptions
made m w p r t = record { max_seg_size = m; window_scale = w; sack_permitted = p; sack_ranges = r; timestamp = t }

mss_read : (m : Option ℕ) (rest : List ℕ) → SizeFits m → options_read 0 no_options (mss_octets m ++ rest) ≡ options_read 0 (made m None false (None ∷ None ∷ None ∷ []) None) rest
mss_read None rest h = refl
mss_read (Some n) rest h = ap (λ k. options_read 0 (made (Some k) None false (None ∷ None ∷ None ∷ []) None) rest) (from_two n h)

small_shift : (n : ℕ) → n ≤ 14 → (if nat_le n 14 then n else 14) ≡ n
small_shift n h = grind (arith, nat_tests)

scale_read : (m w : Option ℕ) (rest : List ℕ) → IsShift w → options_read 0 (made m None false (None ∷ None ∷ None ∷ []) None) (scale_octets w ++ rest) ≡ options_read 0 (made m w false (None ∷ None ∷ None ∷ []) None) rest
scale_read m None rest h = refl
scale_read m (Some n) rest h = ap (λ k. options_read 0 (made m (Some k) false (None ∷ None ∷ None ∷ []) None) rest) (small_shift n h)

permitted_read : (m w : Option ℕ) (p : Bool) (rest : List ℕ) → options_read 0 (made m w false (None ∷ None ∷ None ∷ []) None) (permitted_octets p ++ rest) ≡ options_read 0 (made m w p (None ∷ None ∷ None ∷ []) None) rest
permitted_read m w false rest = refl
permitted_read m w true rest = refl

two_equal : (a b c d : ℕ) → a ≡ c → b ≡ d → ◌≡◌ {A = Option (ℕ × ℕ)} (Some (a, b)) (Some (c, d))
two_equal a b c d e f = ap (λ x. Some (x, b)) e ∙ ap (λ y. Some (c, y)) f

sack_read : (m w : Option ℕ) (p : Bool) (r : List (Option (ℕ × ℕ))) (rest : List ℕ) → AreRanges r → options_read 0 (made m w p (None ∷ None ∷ None ∷ []) None) (sack_octets r ++ rest) ≡ options_read 0 (made m w p r None) rest
sack_read m w p (None ∷ None ∷ None ∷ []) rest h = refl
sack_read m w p (Some a ∷ None ∷ None ∷ []) rest h = rw (from_four a.0 h.0, from_four a.1 h.1) refl
sack_read m w p (Some a ∷ Some b ∷ None ∷ []) rest h = rw (from_four a.0 h.0.0, from_four a.1 h.0.1, from_four b.0 h.1.0, from_four b.1 h.1.1) refl
sack_read m w p (Some a ∷ Some b ∷ Some c ∷ []) rest h = rw (from_four a.0 h.0.0, from_four a.1 h.0.1, from_four b.0 h.1.0, from_four b.1 h.1.1, from_four c.0 h.2.0, from_four c.1 h.2.1) refl
sack_read m w p _ rest h = absurd h

stamp_read : (m w : Option ℕ) (p : Bool) (r : List (Option (ℕ × ℕ))) (t : Option TcpTimestampRepr) (rest : List ℕ) → StampFits t → options_read 0 (made m w p r None) (stamp_octets t ++ rest) ≡ options_read 0 (made m w p r t) rest
stamp_read m w p r None rest h = refl
stamp_read m w p r (Some t) rest h = rw (from_four t.tsval h.0, from_four t.tsecr h.1) refl

padding_read : (o : TcpOptions) (n : ℕ) → options_read 0 o (take n (0 ∷ 0 ∷ 0 ∷ [])) ≡ Some o
padding_read o zero = refl
padding_read o (suc zero) = refl
padding_read o (suc (suc n)) = refl

pub options_back : (s : Segment) → IsWritable s → options_read 0 no_options (options_octets s) ≡ Some (made s.max_seg_size s.window_scale s.sack_permitted s.sack_ranges s.timestamp)
options_back s is =
    mss_read s.max_seg_size _ is.numbers.max_seg_size ∙ scale_read s.max_seg_size s.window_scale _ is.scale
    ∙ permitted_read s.max_seg_size s.window_scale s.sack_permitted _
    ∙ sack_read s.max_seg_size s.window_scale s.sack_permitted s.sack_ranges _ is.ranges
    ∙ stamp_read s.max_seg_size s.window_scale s.sack_permitted s.sack_ranges s.timestamp _ is.numbers.timestamp
    ∙ padding_read (made s.max_seg_size s.window_scale s.sack_permitted s.sack_ranges s.timestamp) _

-- the octets of what is written
pub two_octets : (a b : ℕ) → a < 256 → b < 256 → IsOctets (a ∷ b ∷ [])
two_octets a b h k = All-from_recursion (λ octet. octet < 256) (a ∷ b ∷ []) (h, (k, tt))

none_octets : IsOctets []
none_octets = All-from_recursion (λ octet. octet < 256) [] tt

joined : (xs ys : List ℕ) → IsOctets xs → IsOctets ys → IsOctets (xs ++ ys)
joined xs ys h k = All-append (λ octet. octet < 256) xs ys h k

be16_octets : (n : ℕ) → IsOctets (be16 n)
be16_octets n =
    let h : n / 256 % 256 < 256 = omega arith in
    let k : n % 256 < 256 = omega arith in
    two_octets (n / 256 % 256) (n % 256) h k

pub pair : (a b : ℕ) (rest : List ℕ) → a < 256 → b < 256 → IsOctets rest → IsOctets (a ∷ b ∷ rest)
pair a b rest h k o = joined (a ∷ b ∷ []) rest (two_octets a b h k) o

pub number : (n : ℕ) (rest : List ℕ) → IsOctets rest → IsOctets (be16 n ++ rest)
number n rest o = joined (be16 n) rest (be16_octets n) o

wide : (n : ℕ) (rest : List ℕ) → IsOctets rest → IsOctets (be32 n ++ rest)
wide n rest o = number (n / 65536) (be16 n ++ rest) (number n rest o)

mss_are : (m : Option ℕ) → IsOctets (mss_octets m)
mss_are None = none_octets
mss_are (Some n) = pair 2 4 (be16 n) (omega arith) (omega arith) (be16_octets n)

scale_are : (m : Option ℕ) → IsShift m → IsOctets (scale_octets m)
scale_are None h = none_octets
scale_are (Some n) h =
    let k : n < 256 = omega (arith, h) in
    pair 3 3 (n ∷ []) (omega arith) (omega arith) (All-from_recursion (λ octet. octet < 256) (n ∷ []) (k, tt))

permitted_are : (m : Bool) → IsOctets (permitted_octets m)
permitted_are false = none_octets
permitted_are true = two_octets 4 2 (omega arith) (omega arith)

ranges_are : (rs : List (Option (ℕ × ℕ))) → IsOctets (ranges_octets rs)
ranges_are [] = none_octets
ranges_are (None ∷ rs) = ranges_are rs
ranges_are (Some r ∷ rs) = joined (be32 r.0 ++ be32 r.1) (ranges_octets rs) (wide r.0 (be32 r.1) (wide r.1 [] none_octets)) (ranges_are rs)

sack_are : (r : List (Option (ℕ × ℕ))) → AreRanges r → IsOctets (sack_octets r)
sack_are (None ∷ None ∷ None ∷ []) h = none_octets
sack_are (Some a ∷ None ∷ None ∷ []) h = pair 5 10 (ranges_octets (Some a ∷ None ∷ None ∷ [])) (omega arith) (omega arith) (ranges_are (Some a ∷ None ∷ None ∷ []))
sack_are (Some a ∷ Some b ∷ None ∷ []) h = pair 5 18 (ranges_octets (Some a ∷ Some b ∷ None ∷ [])) (omega arith) (omega arith) (ranges_are (Some a ∷ Some b ∷ None ∷ []))
sack_are (Some a ∷ Some b ∷ Some c ∷ []) h = pair 5 26 (ranges_octets (Some a ∷ Some b ∷ Some c ∷ [])) (omega arith) (omega arith) (ranges_are (Some a ∷ Some b ∷ Some c ∷ []))
sack_are _ h = absurd h

stamp_are : (t : Option TcpTimestampRepr) → IsOctets (stamp_octets t)
stamp_are None = none_octets
stamp_are (Some t) = pair 8 10 (be32 t.tsval ++ be32 t.tsecr) (omega arith) (omega arith) (wide t.tsval (be32 t.tsecr) (wide t.tsecr [] none_octets))

zeros_are : (n : ℕ) → IsOctets (take n (0 ∷ 0 ∷ 0 ∷ []))
zeros_are n = All-take (λ octet. octet < 256) n (0 ∷ 0 ∷ 0 ∷ []) (pair 0 0 (0 ∷ []) (omega arith) (omega arith) (All-from_recursion (λ octet. octet < 256) (0 ∷ []) (zero_small, tt)))
  where
    zero_small : 0 < 256
    zero_small = omega arith

options_are : (s : Segment) → IsWritable s → IsOctets (options_octets s)
options_are s is =
    joined (mss_octets s.max_seg_size) _ (mss_are s.max_seg_size) (joined (scale_octets s.window_scale) _ (scale_are s.window_scale is.scale) (joined (permitted_octets s.sack_permitted) _ (permitted_are s.sack_permitted) (joined (sack_octets s.sack_ranges) _ (sack_are s.sack_ranges is.ranges) (joined (stamp_octets s.timestamp) (padding s) (stamp_are s.timestamp) (zeros_are (segment_header_len s - (20 + options_len s)))))))

abbrev flags_of : Segment → ℕ
flags_of s = control_bits s.control + ack_bit s.ack_number

-- the bits of a control and of an acknowledgement
record FlagsBack (c : TcpControl) (a : Option TcpSeqNumber) : Type 0 where
  small : control_bits c + ack_bit a < 256
  one_at_most : at_most_one ((control_bits c + ack_bit a) % 8) ≡ true
  control_is : control_of (control_bits c + ack_bit a) ≡ c
  ack_is : (n : ℕ) → n ≡ ack_field a → ack_of (control_bits c + ack_bit a) n ≡ a

flags_back : (c : TcpControl) (a : Option TcpSeqNumber) → FlagsBack c a
flags_back control.None None = record { small = omega arith; one_at_most = refl; control_is = refl; ack_is = λ n e. refl }
flags_back control.None (Some m) = record { small = omega arith; one_at_most = refl; control_is = refl; ack_is = λ n e. ap (λ k. Some (seq_of k)) e }
flags_back control.Psh None = record { small = omega arith; one_at_most = refl; control_is = refl; ack_is = λ n e. refl }
flags_back control.Psh (Some m) = record { small = omega arith; one_at_most = refl; control_is = refl; ack_is = λ n e. ap (λ k. Some (seq_of k)) e }
flags_back control.Fin None = record { small = omega arith; one_at_most = refl; control_is = refl; ack_is = λ n e. refl }
flags_back control.Fin (Some m) = record { small = omega arith; one_at_most = refl; control_is = refl; ack_is = λ n e. ap (λ k. Some (seq_of k)) e }
flags_back control.Syn None = record { small = omega arith; one_at_most = refl; control_is = refl; ack_is = λ n e. refl }
flags_back control.Syn (Some m) = record { small = omega arith; one_at_most = refl; control_is = refl; ack_is = λ n e. ap (λ k. Some (seq_of k)) e }
flags_back control.Rst None = record { small = omega arith; one_at_most = refl; control_is = refl; ack_is = λ n e. refl }
flags_back control.Rst (Some m) = record { small = omega arith; one_at_most = refl; control_is = refl; ack_is = λ n e. ap (λ k. Some (seq_of k)) e }

-- a header up to its checksum
abbrev front : Segment → List ℕ
front s =
    be16 s.src_port ++ (be16 s.dst_port ++ (be32 s.seq_number.0 ++ (be32 (ack_field s.ack_number)
    ++ ((segment_header_len s / 4 * 16) ∷ flags_of s ∷ be16 s.window_len))))

front_are : (s : Segment) → IsWritable s → IsOctets (front s)
front_are s is =
    let offset : segment_header_len s / 4 * 16 < 256 = omega (arith, is.options) in
    let a : List ℕ = (segment_header_len s / 4 * 16) ∷ flags_of s ∷ be16 s.window_len in
    let oa : IsOctets a = pair (segment_header_len s / 4 * 16) (flags_of s) (be16 s.window_len) offset (flags_back s.control s.ack_number).small (be16_octets s.window_len) in
    let b : List ℕ = be32 (ack_field s.ack_number) ++ a in
    let ob : IsOctets b = wide (ack_field s.ack_number) a oa in
    let d : List ℕ = be32 s.seq_number.0 ++ b in
    let od : IsOctets d = wide s.seq_number.0 b ob in
    number s.src_port (be16 s.dst_port ++ d) (number s.dst_port d od)

abbrev pub Verifies : Type 0
Verifies = (start : ℕ) (front back : List ℕ) → start < 2 ^ 16 → IsOctets front → IsOctets back → IsEven (length front) → sum_after start (front ++ (be16 (complement (sum_after start (front ++ 0 ∷ 0 ∷ back))) ++ back)) ≡ all_ones

abbrev pub AreWords : Type 0
AreWords = (start : ℕ) (octets : List ℕ) → start < 2 ^ 16 → IsOctets octets → sum_after start octets < 2 ^ 16

pub small_start : AreWords → (src dst : IpAddress) (protocol len : ℕ) → protocol < 256 → IsOctets (octets_of src) → IsOctets (octets_of dst) → pseudo_sum src dst protocol len < 2 ^ 16
small_start words src dst protocol len p s d =
    let tail : IsOctets (be32 len ++ (0 ∷ 0 ∷ 0 ∷ protocol ∷ [])) = wide len (0 ∷ 0 ∷ 0 ∷ protocol ∷ []) (pair 0 0 (0 ∷ protocol ∷ []) (omega arith) (omega arith) (two_octets 0 protocol (omega arith) p)) in
    words (sum_after (sum_after 0 (octets_of src)) (octets_of dst)) (be32 len ++ (0 ∷ 0 ∷ 0 ∷ protocol ∷ [])) (words (sum_after 0 (octets_of src)) (octets_of dst) (words 0 (octets_of src) (omega arith) s) d) tail

verified : Verifies → (start : ℕ) (s : Segment) → start < 2 ^ 16 → IsWritable s → sum_after start (tcp_with s (complement (sum_after start (tcp_with s 0)))) ≡ all_ones
unfolding tcp_with
verified law start s h is =
    law start (front s) (0 ∷ 0 ∷ (options_octets s ++ s.payload)) h (front_are s is) (pair 0 0 (options_octets s ++ s.payload) (omega arith) (omega arith) (joined (options_octets s) s.payload (options_are s is) is.numbers.payload)) refl

-- what is read
ack_small : (a : Option TcpSeqNumber) → NumberFits a → ack_field a < 4294967296
ack_small None h = omega arith
ack_small (Some n) h = h

offset_back : (n : ℕ) → (20 + n + 3) / 4 * 4 / 4 * 16 / 16 * 4 ≡ (20 + n + 3) / 4 * 4
offset_back n = omega arith

there : (n : ℕ) → 0 < n → not (n == 0) ≡ true
there n h = grind (arith, nat_tests)

le_true : (m n : ℕ) → m ≤ n → nat_le m n ≡ true
le_true m n h = grind (arith, nat_tests)

all_five : (a b c d e : Bool) → a ≡ true → b ≡ true → c ≡ true → d ≡ true → e ≡ true → (a && b && c && d && e) ≡ true
all_five a b c d e p q r s t = rw (p, q, r, s, t) refl

options_size : (s : Segment) → length (options_octets s) ≡ segment_header_len s - 20
options_size s =
    let few : segment_header_len s - (20 + options_len s) ≤ 3 = omega arith in
    let pad : length (padding s) ≡ segment_header_len s - (20 + options_len s) = length-take-le (segment_header_len s - (20 + options_len s)) (0 ∷ 0 ∷ 0 ∷ []) few in
    omega (
      arith,
      pad,
      options_count s,
      length-append (stamp_octets s.timestamp) (padding s),
      length-append (sack_octets s.sack_ranges) (stamp_octets s.timestamp ++ padding s),
      length-append (permitted_octets s.sack_permitted) (sack_octets s.sack_ranges ++ (stamp_octets s.timestamp ++ padding s)),
      length-append (scale_octets s.window_scale) (permitted_octets s.sack_permitted ++ (sack_octets s.sack_ranges ++ (stamp_octets s.timestamp ++ padding s))),
      length-append (mss_octets s.max_seg_size) (scale_octets s.window_scale ++ (permitted_octets s.sack_permitted ++ (sack_octets s.sack_ranges ++ (stamp_octets s.timestamp ++ padding s)))),
    )

header_size : (s : Segment) (n : ℕ) → tcp_header_len (tcp_with s n) ≡ segment_header_len s
unfolding tcp_with
header_size s n = offset_back (options_len s)

room : (s : Segment) (n : ℕ) → segment_header_len s ≤ length (tcp_with s n)
unfolding tcp_with
room s n = omega (arith, options_size s, length-append (options_octets s) s.payload)

head_back : (s : Segment) (n : ℕ) → IsWritable s → is_head (tcp_with s n) ≡ true
unfolding tcp_with is_head
head_back s n is =
    let o = tcp_with s n in
    let e : tcp_header_len o ≡ segment_header_len s = header_size s n in
    let p : nat_le 20 (tcp_header_len o) ≡ true = ap (nat_le 20) e ∙ le_true 20 (segment_header_len s) (omega arith) in
    let q : nat_le (tcp_header_len o) (length o) ≡ true = ap (λ l. nat_le l (length o)) e ∙ le_true (segment_header_len s) (length o) (room s n) in
    let r : not (256 * (s.src_port / 256 % 256) + s.src_port % 256 == 0) ≡ true = ap (λ k. not (k == 0)) (from_two s.src_port is.numbers.src_port) ∙ there s.src_port is.ports.src_port in
    let t : not (256 * (s.dst_port / 256 % 256) + s.dst_port % 256 == 0) ≡ true = ap (λ k. not (k == 0)) (from_two s.dst_port is.numbers.dst_port) ∙ there s.dst_port is.ports.dst_port in
    all_five _ _ _ _ _ p q r t (flags_back s.control s.ack_number).one_at_most

options_at : (s : Segment) (n : ℕ) → options_of (tcp_with s n) ≡ options_octets s
unfolding tcp_with
options_at s n =
    ap (λ l. take (l - 20) (options_octets s ++ s.payload)) (header_size s n)
    ∙ take_at (options_octets s) s.payload (segment_header_len s - 20) (options_size s)

payload_at : (s : Segment) (n : ℕ) → drop (tcp_header_len (tcp_with s n)) (tcp_with s n) ≡ s.payload
unfolding tcp_with
payload_at s n =
    let l : length (tcp_header s n ++ options_octets s) ≡ segment_header_len s = omega (arith, options_size s, length-append (tcp_header s n) (options_octets s)) in
    ap (λ k. drop k (tcp_with s n)) (header_size s n)
    ∙ ap (drop (segment_header_len s)) (sym (append_assoc (tcp_header s n) (options_octets s) s.payload))
    ∙ drop_at (tcp_header s n ++ options_octets s) s.payload (segment_header_len s) l

abbrev built : ℕ → ℕ → TcpControl → TcpSeqNumber → Option TcpSeqNumber → ℕ → TcpOptions → List ℕ → Segment
built a b c d e f o p = record { src_port = a; dst_port = b; control = c; seq_number = d; ack_number = e; window_len = f; window_scale = o.window_scale; max_seg_size = o.max_seg_size; sack_permitted = o.sack_permitted; sack_ranges = o.sack_ranges; timestamp = o.timestamp; payload = p }

fields_back : (s : Segment) (n : ℕ) → IsWritable s → segment_at (tcp_with s n) (made s.max_seg_size s.window_scale s.sack_permitted s.sack_ranges s.timestamp) ≡ s
unfolding tcp_with
fields_back s n is =
    let o = made s.max_seg_size s.window_scale s.sack_permitted s.sack_ranges s.timestamp in
    let p = drop (tcp_header_len (tcp_with s n)) (tcp_with s n) in
    let ack = 65536 * (256 * (ack_field s.ack_number / 65536 / 256 % 256) + ack_field s.ack_number / 65536 % 256) + (256 * (ack_field s.ack_number / 256 % 256) + ack_field s.ack_number % 256) in
    let seq = 65536 * (256 * (s.seq_number.0 / 65536 / 256 % 256) + s.seq_number.0 / 65536 % 256) + (256 * (s.seq_number.0 / 256 % 256) + s.seq_number.0 % 256) in
    let w = 256 * (s.window_len / 256 % 256) + s.window_len % 256 in
    let b = 256 * (s.dst_port / 256 % 256) + s.dst_port % 256 in
    let flags = control_bits s.control + ack_bit s.ack_number in
    ap (λ x. built x b (control_of flags) (seq_of seq) (ack_of flags ack) w o p) (from_two s.src_port is.numbers.src_port)
    ∙ ap (λ x. built s.src_port x (control_of flags) (seq_of seq) (ack_of flags ack) w o p) (from_two s.dst_port is.numbers.dst_port)
    ∙ ap (λ x. built s.src_port s.dst_port x (seq_of seq) (ack_of flags ack) w o p) (flags_back s.control s.ack_number).control_is
    ∙ ap (λ x. built s.src_port s.dst_port s.control (seq_of x) (ack_of flags ack) w o p) (from_four s.seq_number.0 is.numbers.seq_number)
    ∙ ap (λ x. built s.src_port s.dst_port s.control s.seq_number x w o p) ((flags_back s.control s.ack_number).ack_is ack (from_four (ack_field s.ack_number) (ack_small s.ack_number is.numbers.ack_number)))
    ∙ ap (λ x. built s.src_port s.dst_port s.control s.seq_number s.ack_number x o p) (from_two s.window_len is.numbers.window_len)
    ∙ ap (λ x. built s.src_port s.dst_port s.control s.seq_number s.ack_number s.window_len o x) (payload_at s n)

same_size : (s : Segment) (n : ℕ) → length (tcp_with s n) ≡ length (tcp_with s 0)
unfolding tcp_with
same_size s n = refl

tested_well : Verifies → AreWords → (sent tested : Bool) (src dst : IpAddress) (s : Segment) → IsWritable s → IsOctets (octets_of src) → IsOctets (octets_of dst) → (tested ≡ true → sent ≡ true) → (not tested || sum_holds src dst 6 (tcp_octets sent src dst s)) ≡ true
tested_well law words sent false src dst s is p q t = refl
tested_well law words true true src dst s is p q t =
    let start = pseudo_sum src dst 6 (length (tcp_with s 0)) in
    let sum = complement (sum_after start (tcp_with s 0)) in
    ap (λ l. sum_after (pseudo_sum src dst 6 l) (tcp_with s sum) == all_ones) (same_size s sum)
    ∙ ap (λ k. k == all_ones) (verified law start s (small_start words src dst 6 (length (tcp_with s 0)) (omega arith) p q) is)
tested_well law words false true src dst s is p q t = let e : false ≡ true = t refl in absurd (cc)

both : (a b : Bool) → a ≡ true → b ≡ true → (a && b) ≡ true
both a b p q = rw (p, q) refl

pub segment_back : Verifies → AreWords → (sent tested : Bool) (src dst : IpAddress) (s : Segment) → IsWritable s → IsOctets (octets_of src) → IsOctets (octets_of dst) → (tested ≡ true → sent ≡ true) → tcp_parsed tested src dst (tcp_octets sent src dst s) ≡ Some s
segment_back law words sent tested src dst s is p q t =
    let n = if sent then tcp_checksum src dst (tcp_with s 0) else 0 in
    let o = tcp_with s n in
    let ok : (is_head o && (not tested || sum_holds src dst 6 o)) ≡ true = both (is_head o) (not tested || sum_holds src dst 6 o) (head_back s n is) (tested_well law words sent tested src dst s is p q t) in
    ap (λ b. if b then segment_if o (options_read 0 no_options (options_of o)) else None) ok
    ∙ ap (segment_if o) (ap (options_read 0 no_options) (options_at s n) ∙ options_back s is)
    ∙ ap Some (fields_back s n is)

pub segment_size : (s : Segment) (n : ℕ) → length (tcp_with s n) ≡ segment_header_len s + length s.payload
unfolding tcp_with
segment_size s n = omega (arith, options_size s, length-append (options_octets s) s.payload)
