-- What a dispatch emits fits a packet.
use Rattle.std.proofs.Common.{◌≡◌, ℕ, ◌+◌, ◌-◌, ◌*◌, ◌/◌, ◌≤◌, List, [], ◌∷◌, Bool, true, false, Option, Some, None, is_some, refl, sym, ap, subst, ◌∙◌, length, max, min, arith}
use Rattle.std.specs.Prelude.{count_by, option_map, if◌then◌else◌, MatchOption}
use Rattle.std.specs.Option.{ForSome}
use Rattle.std.proofs.lemmas.Option.{none-some, same_Some}
use Rattle.std.proofs.lemmas.Bool.{true≢false}
use Rattle.ip_wire.specs.Address.{SameVersion}
use Rattle.ip_wire.specs.IpHeader.{ip_header}
use Rattle.ip_wire.specs.declared.address.IpAddress.{IpAddress}
use Rattle.ip_wire.specs.declared.address.IpAddress.TheVariants as address
use Rattle.ip_wire.specs.declared.protocol.IpProtocol.TheVariants as protocol
use Rattle.control_wire.specs.Fits.{is_packed, FitsHeader, FitsPacket}
use Rattle.control_wire.specs.Segment.{Segment, options_len, sack_option_len, segment_header_len}
use Rattle.sock_core.specs.Bounds.{IsMtu}
use Rattle.sock_core.specs.Facts.{Facts}
use Rattle.sock_tcp.specs.Content.{carries_data, Sending, is_probing, window_left, size_of, asked, filled, emission_kind, of_kind, resent_size, hop_limit_of, plain_segment, sent_as, content, scale_back}
use Rattle.sock_tcp.specs.Due.{congestion_left, effective_mss, ip_header_len, mtu_for, options_room, ranges_room, sent_ranges, tells_ranges, timestamp_room}
use Rattle.sock_tcp.specs.Sack.{sack_ranges}
use Rattle.sock_tcp.proofs.FittingReplies.{ranges_len, ranges_packed}
use Rattle.sock_tcp.specs.View.{View, moment_of}
use Rattle.sock_tcp.specs.declared.emission.Kind.{Kind}
use Rattle.sock_tcp.specs.declared.emission.Kind.TheVariants as kind
use Rattle.sock_tcp.specs.declared.state.State.{State}
use Rattle.sock_tcp.specs.declared.state.State.TheVariants as state
use Rattle.sock_tcp.specs.declared.tuple.Tuple.{Tuple}
use Rattle.sock_tcp.proofs.Holes.{again_at_most}

-- ---- how many bytes are asked of the ring

one_of : (p q : Bool) (k m w c : ℕ) → k ≤ m → (if p then k else (if q then min 1 m else min (min w m) c)) ≤ m
one_of true q k m w c few = few
one_of false true k m w c few = omega arith
one_of false false k m w c few = omega arith

or_none : (b : Bool) (n k : ℕ) → n ≤ k → (if b then n else 0) ≤ k
or_none true n k h = h
or_none false n k h = omega arith

asked_mss : (v : View) (t : Tuple) (f : Facts) → asked v t f ≤ effective_mss v t f
unfolding asked
asked_mss v t f = or_none (carries_data v.state) (size_of v t f) (effective_mss v t f) (one_of v.pending_fast_retransmit (is_probing v (moment_of f)) (resent_size v (effective_mss v t f)) (effective_mss v t f) (window_left v) (congestion_left v) (again_at_most v (effective_mss v t f)))

-- ---- the header of each state's segment

no_scale : ForSome None (λ n. n ≤ 14)
no_scale n e = absurd (none-some n e)

scaled : (n : ℕ) → n ≤ 14 → ForSome (Some n) (λ n. n ≤ 14)
scaled n h m e = subst (λ k. k ≤ 14) (same_Some n m e) h

told_back : (o : Option ℕ) (n : ℕ) → n ≤ 14 → ForSome (scale_back o n) (λ n. n ≤ 14)
told_back None n h = no_scale
told_back (Some m) n h = scaled n h

-- the ranges of a segment that is no reply
module _ (v : View) (t : Tuple) (f : Facts) where
  sent_packed : is_packed (sent_ranges v t f) ≡ true
  sent_packed = by (tells_ranges v t f)
    where
      by : (b : Bool) → is_packed (if b then sack_ranges v else None ∷ None ∷ None ∷ []) ≡ true
      by true = ranges_packed v
      by false = refl

  sent_len : sack_option_len (count_by is_some (sent_ranges v t f)) ≤ 26
  sent_len = by (tells_ranges v t f)
    where
      by : (b : Bool) → sack_option_len (count_by is_some (if b then sack_ranges v else None ∷ None ∷ None ∷ [])) ≤ 26
      by true = ranges_len v
      by false = omega arith

  pub room_is : options_room v t f ≡ ranges_room v.stamps (count_by is_some (sent_ranges v t f))
  room_is = by (tells_ranges v t f) v.stamps
    where
      by : (b x : Bool) → (if b then ranges_room x (count_by is_some (sack_ranges v)) else timestamp_room x) ≡ ranges_room x (count_by is_some (if b then sack_ranges v else None ∷ None ∷ None ∷ []))
      by true x = refl
      by false true = refl
      by false false = refl

  pub room_small : options_room v t f ≤ 36
  room_small = by v.stamps room_is
    where
      by : (x : Bool) → options_room v t f ≡ ranges_room x (count_by is_some (sent_ranges v t f)) → options_room v t f ≤ 36
      by true e = omega (arith, e, sent_len)
      by false e = omega (arith, e, sent_len)

-- what a segment takes of a packet, with the room that the IP header leaves
pub record FitsRoom (room : ℕ) (s : Segment) : Type 0 where
  pub header : FitsHeader s
  pub size : segment_header_len s + length s.payload ≤ room

abbrev InRoom : ℕ → Option Segment → Type 0
InRoom room o = MatchOption o (Unit {0}) (FitsRoom room)

abbrev nothing : List (Option (ℕ × ℕ))
nothing = None ∷ None ∷ None ∷ []

-- the options of a SYN that answers one
answer_options : (o : Option ℕ) (n : ℕ) (permits stamps : Bool) → 4 + (if is_some (scale_back o n) then 3 else 0) + (if permits then 2 else 0) + (if stamps then 10 else 0) + 0 ≤ 19
answer_options None n true true = omega arith
answer_options None n true false = omega arith
answer_options None n false true = omega arith
answer_options None n false false = omega arith
answer_options (Some m) n true true = omega arith
answer_options (Some m) n true false = omega arith
answer_options (Some m) n false true = omega arith
answer_options (Some m) n false false = omega arith

short_header : (n : ℕ) → n ≤ 40 → (20 + n + 3) / 4 * 4 ≤ 60
short_header n h = omega arith

module _ (v : View) (t : Tuple) (f : Facts) (small : v.remote_win_shift ≤ 14) (room : ℕ) (least : 536 ≤ room) where
  -- a segment between the two ends, without ranges
  between : (s : Segment) → s.src_port ≡ t.local.port → s.dst_port ≡ t.remote.port → ForSome s.window_scale (λ n. n ≤ 14) → s.sack_ranges ≡ nothing → options_len s ≤ 40 → segment_header_len s + length s.payload ≤ room → FitsRoom room s
  between s a b c d e h =
      record {
        header = record {
          scale = c;
          permission = λ _. ap (λ x. count_by is_some x) d;
          ranges = ap is_packed d;
          options = e;
        };
        size = h;
      }

  -- the same with what is held
  telling : (s : Segment) → s.src_port ≡ t.local.port → s.dst_port ≡ t.remote.port → s.window_scale ≡ None → s.sack_permitted ≡ false → s.sack_ranges ≡ sent_ranges v t f → options_len s ≤ 40 → segment_header_len s + length s.payload ≤ room → FitsRoom room s
  telling s a b c q d e h =
      record {
        header = record {
          scale = subst (λ o. ForSome o (λ n. n ≤ 14)) (sym c) no_scale;
          permission = λ is. absurd (true≢false (sym is ∙ q));
          ranges = ap is_packed d ∙ sent_packed v t f;
          options = e;
        };
        size = h;
      }

  filled_fits : (st : State) (stamp : Option ℕ) (bytes : List ℕ) → 20 + ranges_room (is_some stamp) (count_by is_some (sent_ranges v t f)) + length bytes ≤ room → InRoom room (filled st v t f bytes (plain_segment v t stamp))
  unfolding plain_segment
  filled_fits state.Closed None bytes h = between _ refl refl no_scale refl (omega arith) (omega (arith, least))
  filled_fits state.Closed (Some n) bytes h = between _ refl refl no_scale refl (omega arith) (omega (arith, least))
  filled_fits state.Listen stamp bytes h = tt
  filled_fits state.SynSent None bytes h = between _ refl refl (scaled v.remote_win_shift small) refl (omega arith) (omega (arith, least))
  filled_fits state.SynSent (Some n) bytes h = between _ refl refl (scaled v.remote_win_shift small) refl (omega arith) (omega (arith, least))
  filled_fits state.SynReceived None bytes h =
      let k = answer_options v.remote_win_scale v.remote_win_shift v.remote_has_sack false in
      let m = short_header (4 + (if is_some (scale_back v.remote_win_scale v.remote_win_shift) then 3 else 0) + (if v.remote_has_sack then 2 else 0) + 0 + 0) (omega (arith, k)) in
      between _ refl refl (told_back v.remote_win_scale v.remote_win_shift small) refl (omega (arith, k)) (omega (arith, m, least))
  filled_fits state.SynReceived (Some n) bytes h =
      let k = answer_options v.remote_win_scale v.remote_win_shift v.remote_has_sack true in
      let m = short_header (4 + (if is_some (scale_back v.remote_win_scale v.remote_win_shift) then 3 else 0) + (if v.remote_has_sack then 2 else 0) + 10 + 0) (omega (arith, k)) in
      between _ refl refl (told_back v.remote_win_scale v.remote_win_shift small) refl (omega (arith, k)) (omega (arith, m, least))
  filled_fits state.FinWait2 None bytes h = telling _ refl refl refl refl refl (omega (arith, sent_len v t f)) (omega (arith, sent_len v t f, least))
  filled_fits state.FinWait2 (Some n) bytes h = telling _ refl refl refl refl refl (omega (arith, sent_len v t f)) (omega (arith, sent_len v t f, least))
  filled_fits state.TimeWait None bytes h = between _ refl refl no_scale refl (omega arith) (omega (arith, least))
  filled_fits state.TimeWait (Some n) bytes h = between _ refl refl no_scale refl (omega arith) (omega (arith, least))
  filled_fits _ None bytes h = telling _ refl refl refl refl refl (omega (arith, sent_len v t f)) (omega (arith, h))
  filled_fits _ (Some n) bytes h = telling _ refl refl refl refl refl (omega (arith, sent_len v t f)) (omega (arith, h))

  -- a keep-alive has one byte
  of_kind_fits : (k : Kind) (s : Segment) → FitsRoom room s → FitsRoom room (of_kind k v s)
  of_kind_fits kind.KeepAlive s h =
      let m = short_header (options_len s) h.header.options in
      record {
        header = record { scale = h.header.scale; permission = h.header.permission; ranges = h.header.ranges; options = h.header.options };
        size = omega (arith, m, least);
      }
  of_kind_fits kind.Plain s h = h
  of_kind_fits kind.Probe s h = h

-- ---- with the IP header

packet_of_room : (a b : IpAddress) (mtu hops : ℕ) (s : Segment) → SameVersion a b → IsMtu mtu → FitsRoom (max mtu 576 - ip_header_len a) s → FitsPacket (ip_header a b protocol.Tcp (segment_header_len s + length s.payload) hops) s
packet_of_room (address.Ipv4 a) (address.Ipv4 b) mtu hops s same m h = record { header = h.header; protocol = refl; octets = refl; total = omega (arith, m.0, m.1, h.size) }
packet_of_room (address.Ipv6 a) (address.Ipv6 b) mtu hops s same m h = record { header = h.header; protocol = refl; octets = refl; total = omega (arith, m.0, m.1, h.size) }
packet_of_room (address.Ipv4 a) (address.Ipv6 b) mtu hops s same m h = absurd cc
packet_of_room (address.Ipv6 a) (address.Ipv4 b) mtu hops s same m h = absurd cc

at_least : (a : IpAddress) (mtu : ℕ) → 536 ≤ max mtu 576 - ip_header_len a
at_least (address.Ipv4 a) mtu = omega arith
at_least (address.Ipv6 a) mtu = omega arith

data_room : (a : IpAddress) (mtu mss n k : ℕ) → 68 ≤ mtu → k ≤ 36 → n ≤ min (mtu_for a mtu - ip_header_len a - 20) mss - k → 20 + k + n ≤ max mtu 576 - ip_header_len a
data_room (address.Ipv4 a) mtu mss n k m few h = omega arith
data_room (address.Ipv6 a) mtu mss n k m few h = omega arith

sent_fits : (v : View) (t : Tuple) (f : Facts) (o : Option Segment) → v.remote_win_shift ≤ 14 → SameVersion t.local.addr t.remote.addr → IsMtu f.mtu → InRoom (max f.mtu 576 - ip_header_len t.local.addr) o → ForSome (option_map (λ s. sent_as v t (emission_kind v (moment_of f) s) s) o) (λ s. FitsPacket s.ip s.segment)
sent_fits v t f None small same m h x e = absurd (none-some x e)
sent_fits v t f (Some s) small same m h x e =
    let k = emission_kind v (moment_of f) s in
    subst (λ (y : Sending). FitsPacket y.ip y.segment) (same_Some _ x e) (packet_of_room t.local.addr t.remote.addr f.mtu (hop_limit_of v.hop_limit) (of_kind k v s) same m (of_kind_fits v t f small (max f.mtu 576 - ip_header_len t.local.addr) (at_least t.local.addr f.mtu) k s h))

pub content_fits : (v : View) (t : Tuple) (f : Facts) (stamp : Option ℕ) (bytes : List ℕ) → v.remote_win_shift ≤ 14 → SameVersion t.local.addr t.remote.addr → IsMtu f.mtu → is_some stamp ≡ v.stamps → length bytes ≤ asked v t f → ForSome (content v t f stamp bytes) (λ s. FitsPacket s.ip s.segment)
unfolding content
content_fits v t f stamp bytes small same m stamped h =
    let a : length bytes ≤ effective_mss v t f = omega (arith, h, asked_mss v t f) in
    let k = subst (λ x. options_room v t f ≡ ranges_room x (count_by is_some (sent_ranges v t f))) (sym stamped) (room_is v t f) in
    let c = data_room t.local.addr f.mtu v.remote_mss (length bytes) (options_room v t f) m.0 (room_small v t f) a in
    let b = subst (λ x. 20 + x + length bytes ≤ max f.mtu 576 - ip_header_len t.local.addr) k c in
    sent_fits v t f (filled v.state v t f bytes (plain_segment v t stamp)) small same m (filled_fits v t f small (max f.mtu 576 - ip_header_len t.local.addr) (at_least t.local.addr f.mtu) v.state stamp bytes b)
