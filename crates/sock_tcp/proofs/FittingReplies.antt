-- What answers a segment fits a packet.
use Rattle.std.proofs.Common.{◌≡◌, ℕ, ◌+◌, ◌*◌, ◌/◌, ◌≤◌, [], ◌∷◌, Bool, true, false, true≢false, ◌||◌, List, Option, Some, None, is_some, refl, sym, subst, ap, ◌∙◌, length, arith}
use Rattle.std.specs.Prelude.{count_by, if◌then◌else◌, option_map, slice_index_or, ◌==◌}
use Rattle.std.specs.Option.{ForSome}
use Rattle.std.proofs.lemmas.Option.{none-some}
use Rattle.ip_wire.specs.declared.repr.IpRepr.{IpRepr}
use Rattle.ip_wire.specs.declared.repr.IpRepr.TheVariants as header
use Rattle.control_wire.specs.Fits.{is_packed, FitsHeader, FitsPacket}
use Rattle.control_wire.specs.Segment.{Segment, options_len, sack_option_len}
use Rattle.control_wire.specs.Seq.{seq_sub}
use Rattle.control_wire.specs.declared.seq_number.TcpSeqNumber.{TcpSeqNumber}
use Rattle.control_wire.specs.declared.tcp.TcpControl.{TcpControl}
use Rattle.control_wire.specs.declared.tcp.TcpTimestampRepr.{TcpTimestampRepr}
use Rattle.sock_tcp.specs.Replies.{reply_ip, bare_reply, rst_segment, with_header, chosen_range, first_of, wire_edges, told_by, told_of, sack_ranges, ack_segment, IsSentAs}
use Rattle.net_base.specs.Ranges.{edges}
use Rattle.sock_core.specs.Received.{ranges_of, range_around}
use Rattle.sock_tcp.specs.Rfc.Duplicates.{duplicate_block, with_duplicate}
use Rattle.sock_tcp.specs.Rfc.Numbers.{renumbered}
use Rattle.sock_tcp.specs.View.{View}
use Rattle.sock_tcp.specs.Window.{next_ack}
use Rattle.sock_tcp.specs.declared.rules.Rules.{Rules}
use Rattle.sock_tcp.specs.declared.rules.Rules.TheVariants as rules

-- ---- headers

no_scale : ForSome None (λ n. n ≤ 14)
no_scale n e = absurd (none-some n e)

bare_fits : (s : Segment) → FitsHeader (bare_reply s)
bare_fits s = record { scale = no_scale; permission = λ e. absurd cc; ranges = refl; options = omega arith }

stamp_len : (x : Option TcpTimestampRepr) → (if is_some x then 10 else 0) ≤ 10
stamp_len None = omega arith
stamp_len (Some t) = omega arith

three_len : (a b c : Option (ℕ × ℕ)) → sack_option_len (count_by is_some (a ∷ b ∷ c ∷ [])) ≤ 26
three_len None None None = omega arith
three_len None None (Some c) = omega arith
three_len None (Some b) None = omega arith
three_len None (Some b) (Some c) = omega arith
three_len (Some a) None None = omega arith
three_len (Some a) None (Some c) = omega arith
three_len (Some a) (Some b) None = omega arith
three_len (Some a) (Some b) (Some c) = omega arith

module _ (n : TcpSeqNumber) where
  abbrev wired : Option (ℕ × ℕ) → Option (ℕ × ℕ)
  wired o = option_map (wire_edges n) o

  one_range : (o : Option (ℕ × ℕ)) → is_packed (wired o ∷ None ∷ None ∷ []) ≡ true
  one_range None = refl
  one_range (Some r) = refl

  -- two ranges behind the chosen one, where that is the first or the second of them or neither
  with_one : (c : ℕ × ℕ) (rs : List (ℕ × ℕ)) → is_packed (told_by rules.Rfc n (Some c) rs) ≡ true
  with_one c [] = refl
  with_one c (r ∷ []) = by (c.0 == r.0)
    where
      by : (a : Bool) → is_packed (wired (Some c) ∷ wired (if a then None else Some r) ∷ wired (if a || false then None else None) ∷ []) ≡ true
      by true = refl
      by false = refl
  with_one c (r ∷ s ∷ []) = by (c.0 == r.0) (c.0 == s.0)
    where
      by : (a b : Bool) → is_packed (wired (Some c) ∷ wired (if a then Some s else Some r) ∷ wired (if a || b then None else Some s) ∷ []) ≡ true
      by true b = refl
      by false true = refl
      by false false = refl
  with_one c (r ∷ s ∷ t ∷ rs) = by (c.0 == r.0) (c.0 == s.0)
    where
      by : (a b : Bool) → is_packed (wired (Some c) ∷ wired (if a then Some s else Some r) ∷ wired (if a || b then Some t else Some s) ∷ []) ≡ true
      by true b = refl
      by false true = refl
      by false false = refl

  packed : (last : Option TcpSeqNumber) (rs : List (ℕ × ℕ)) → is_packed (told_of rules.Rfc n last rs) ≡ true
  packed None [] = refl
  packed (Some m) [] = refl
  packed None (r ∷ rs) = with_one r (r ∷ rs)
  packed (Some m) (r ∷ rs) = by (range_around (r ∷ rs) (seq_sub m n))
    where
      by : (o : Option (ℕ × ℕ)) → is_packed (told_by rules.Rfc n (first_of o (Some r)) (r ∷ rs)) ≡ true
      by None = with_one r (r ∷ rs)
      by (Some x) = with_one x (r ∷ rs)

module _ (v : View) where
  abbrev those : Bool → Rules → List (Option (ℕ × ℕ))
  those b r = if b then told_of r (next_ack v) v.local_rx_last_seq (edges (ranges_of v.rx_buffer.held)) else None ∷ None ∷ None ∷ []

  pub ranges_packed : is_packed (sack_ranges v) ≡ true
  unfolding sack_ranges
  ranges_packed = go v.remote_has_sack v.rules
    where
      go : (b : Bool) (r : Rules) → is_packed (those b r) ≡ true
      go false r = refl
      go true rules.Smoltcp = one_range (next_ack v) (chosen_range (edges (ranges_of v.rx_buffer.held)) (next_ack v) v.local_rx_last_seq)
      go true rules.Rfc = packed (next_ack v) v.local_rx_last_seq (edges (ranges_of v.rx_buffer.held))

  pub ranges_len : sack_option_len (count_by is_some (sack_ranges v)) ≤ 26
  unfolding sack_ranges
  ranges_len = go v.remote_has_sack v.rules
    where
      go : (b : Bool) (r : Rules) → sack_option_len (count_by is_some (those b r)) ≤ 26
      go false r = omega arith
      go true rules.Smoltcp = three_len _ None None
      go true rules.Rfc = three_len _ _ _

-- a block in front of two of them
module _ (v : View) (n : ℕ) (r : ℕ × ℕ) where
  abbrev with_front : List (Option (ℕ × ℕ)) → Bool → List (Option (ℕ × ℕ))
  with_front rs none = if none then rs else Some r ∷ slice_index_or rs 0 None ∷ slice_index_or rs 1 None ∷ []

  three_packed : (a b c : Option (ℕ × ℕ)) → is_packed (a ∷ b ∷ c ∷ []) ≡ true → (none : Bool) → is_packed (with_front (a ∷ b ∷ c ∷ []) none) ≡ true
  three_packed a b c h true = h
  three_packed None None c h false = refl
  three_packed None (Some b) None h false = absurd (true≢false (sym h))
  three_packed None (Some b) (Some c) h false = absurd (true≢false (sym h))
  three_packed (Some a) None c h false = refl
  three_packed (Some a) (Some b) c h false = refl

  front_packed : is_packed (with_front (sack_ranges v) (n == 0)) ≡ true
  unfolding sack_ranges
  front_packed = go v.remote_has_sack v.rules (ranges_packed v)
    where
      go : (b : Bool) (q : Rules) → is_packed (those v b q) ≡ true → is_packed (with_front (those v b q) (n == 0)) ≡ true
      go false q h = three_packed None None None h (n == 0)
      go true rules.Smoltcp h = three_packed _ None None h (n == 0)
      go true rules.Rfc h = three_packed _ _ _ h (n == 0)

  front_len : sack_option_len (count_by is_some (with_front (sack_ranges v) (n == 0))) ≤ 26
  front_len = go (n == 0)
    where
      go : (b : Bool) → sack_option_len (count_by is_some (with_front (sack_ranges v) b)) ≤ 26
      go true = ranges_len v
      go false = three_len (Some r) (slice_index_or (sack_ranges v) 0 None) (slice_index_or (sack_ranges v) 1 None)

ack_fits : (w v : View) (s : Segment) (n : ℕ) (x : Option TcpTimestampRepr) → FitsHeader (record (renumbered w (with_duplicate n s (ack_segment v s))) { timestamp = x })
unfolding ack_segment
ack_fits w v s n x = record {
  scale = no_scale;
  permission = λ e. absurd cc;
  ranges = front_packed v n (duplicate_block n s);
  options = omega (arith, stamp_len x, front_len v n (duplicate_block n s));
}

rst_fits : (s : Segment) (x : Option TcpTimestampRepr) → FitsHeader (record (rst_segment s) { timestamp = x })
rst_fits s x = record { scale = no_scale; permission = λ e. absurd cc; ranges = refl; options = omega (arith, stamp_len x) }

-- ---- with the IP header

short_header : (n : ℕ) → n ≤ 40 → (20 + n + 3) / 4 * 4 ≤ 60
short_header n h = omega arith

packet_of : (ip : IpRepr) (s : Segment) → FitsHeader s → length s.payload ≡ 0 → FitsPacket (reply_ip ip s) s
packet_of (header.Ipv4 p) s h z = record { header = h; protocol = refl; octets = refl; total = omega (arith, z, short_header (options_len s) h.options) }
packet_of (header.Ipv6 p) s h z = record { header = h; protocol = refl; octets = refl; total = omega (arith, z, short_header (options_len s) h.options) }

empty_ack : (w v : View) (s : Segment) (n : ℕ) → length (renumbered w (with_duplicate n s (ack_segment v s))).payload ≡ 0
unfolding ack_segment
empty_ack w v s n = refl

sent_fits : (stamped : TcpControl → Option TcpTimestampRepr → Type 0) (ip : IpRepr) (s : Segment) (out : IpRepr × Segment) → length s.payload ≡ 0 → ((x : Option TcpTimestampRepr) → FitsHeader (record s { timestamp = x })) → IsSentAs stamped ip s out → FitsPacket out.0 out.1
sent_fits stamped ip s out z h i = subst (λ (o : IpRepr × Segment). FitsPacket o.0 o.1) (sym i.is) (packet_of ip (record s { timestamp = i.stamp }) (h i.stamp) z)

-- an acknowledgement that went out
pub ack_sent : (stamped : TcpControl → Option TcpTimestampRepr → Type 0) (ip : IpRepr) (w v : View) (s made told seg : Segment) (n : ℕ) (out : IpRepr × Segment) → made ≡ ack_segment v s → told ≡ with_duplicate n s made → seg ≡ renumbered w told → IsSentAs stamped ip seg out → FitsPacket out.0 out.1
ack_sent stamped ip w v s made told seg n out m t e i = sent_fits stamped ip (renumbered w (with_duplicate n s (ack_segment v s))) out (empty_ack w v s n) (λ x. ack_fits w v s n x) (subst (λ y. IsSentAs stamped ip y out) (e ∙ ap (renumbered w) (t ∙ ap (with_duplicate n s) m)) i)

-- an RST that went out
pub rst_sent : (stamped : TcpControl → Option TcpTimestampRepr → Type 0) (ip : IpRepr) (s seg : Segment) (out : IpRepr × Segment) → seg ≡ rst_segment s → IsSentAs stamped ip seg out → FitsPacket out.0 out.1
rst_sent stamped ip s seg out e i = sent_fits stamped ip (rst_segment s) out refl (λ x. rst_fits s x) (subst (λ y. IsSentAs stamped ip y out) e i)

-- ---- the replies of no socket

pub bare_reply_fits : (ip : IpRepr) (s : Segment) (out : IpRepr × Segment) → out ≡ with_header ip (bare_reply s) → FitsPacket out.0 out.1
bare_reply_fits ip s out e = subst (λ (r : IpRepr × Segment). FitsPacket r.0 r.1) (sym e) (packet_of ip (bare_reply s) (bare_fits s) refl)

pub rst_reply_fits : (ip : IpRepr) (s : Segment) (out : IpRepr × Segment) → out ≡ with_header ip (rst_segment s) → FitsPacket out.0 out.1
rst_reply_fits ip s out e = subst (λ (r : IpRepr × Segment). FitsPacket r.0 r.1) (sym e) (packet_of ip (rst_segment s) (rst_fits s None) refl)
