-- What the transmit queue lends to a segment: a fast retransmission or a probe has a byte, or the FIN.
use Rattle.std.proofs.Common.{◌≡◌, ℕ, zero, suc, ◌-◌, ◌<◌, ◌≤◌, ◌^◌, ◌⊎◌, inl, inr, Bool, true, false, refl, ap, ◌∙◌, List, length, drop, min, Option, arith, length-take, length-drop}
use Rattle.net_base.specs.Ring.{in_one_piece}
use Rattle.net_base.proofs.Cells.{piece_none}
use Rattle.ip_wire.specs.declared.address.IpAddress.{IpAddress}
use Rattle.ip_wire.specs.declared.address.IpAddress.TheVariants as address
use Rattle.control_wire.specs.Segment.{segment_len}
use Rattle.sock_core.specs.Facts.{Facts}
use Rattle.sock_tcp.proofs.Lending.{lent_at_most}
use Rattle.sock_tcp.specs.Content.{asked, carries_data, hole_of, is_probing, offset_of, resent_size}
use Rattle.sock_tcp.specs.Due.{effective_mss, flight, ip_header_len, mtu_for, options_room}
use Rattle.sock_tcp.specs.Queue.{IsLent, Queue}
use Rattle.sock_tcp.proofs.Holes.{again_some, start_within}
use Rattle.sock_tcp.specs.View.{View, moment_of}
use Rattle.sock_tcp.specs.declared.tuple.Tuple.{Tuple}
use Rattle.tcp_laws.proofs.AckAlone.{mss_some as some_mss}
use Rattle.tcp_laws.specs.Waking.{HasToSend}
use Rattle.progress_laws.proofs.Begins.{fin_len, segment_for, some_or_none}

pub lent_some : (q : Queue) (o n : ℕ) (bs : List ℕ) → IsLent q o n bs → 0 < n → o < length q.bytes → 0 < length bs
lent_some q o n bs lent some within = go (in_one_piece q.until_end (length q.bytes) o) refl
  where
    go : (i : ℕ) → in_one_piece q.until_end (length q.bytes) o ≡ i → 0 < length bs
    go zero z = absurd (omega (arith, piece_none q.until_end (length q.bytes) o z, within))
    go (suc i) z =
        let long : length bs ≡ min (min n (in_one_piece q.until_end (length q.bytes) o)) (length (drop o q.bytes)) = ap (λ (l : List ℕ). length l) lent ∙ length-take (min n (in_one_piece q.until_end (length q.bytes) o)) (drop o q.bytes) in
        omega (arith, long, z, some, within, length-drop o q.bytes)

pub mss_some : (v : View) (t : Tuple) (f : Facts) → 68 ≤ f.mtu → 48 ≤ v.remote_mss → 0 < effective_mss v t f
mss_some = some_mss

-- a payload is no longer than the longest packet
pub mss_short : (v : View) (t : Tuple) (f : Facts) → f.mtu ≤ 65535 → effective_mss v t f ≤ 65535
mss_short v t f mtu = go t.local.addr (options_room v t f)
  where
    go : (a : IpAddress) (k : ℕ) → min (mtu_for a f.mtu - ip_header_len a - 20) v.remote_mss - k ≤ 65535
    go (address.Ipv4 a) k = omega (arith, mtu)
    go (address.Ipv6 a) k = omega (arith, mtu)

module _ (u : View) (p : Tuple) (f : Facts) (stamp : Option ℕ) (bytes : List ℕ) (mtu : 68 ≤ f.mtu) (mss : 48 ≤ u.remote_mss) (carries : carries_data u.state ≡ true) (lent : IsLent u.tx_buffer (offset_of u) (asked u p f) bytes) where
  room : 0 < effective_mss u p f
  room = mss_some u p f mtu mss

  pub marked_some : u.pending_fast_retransmit ≡ true → HasToSend u → 0 < segment_len (segment_for u p stamp bytes)
  unfolding asked
  marked_some m waits = by (some_or_none (length u.tx_buffer.bytes)) waits
    where
      start : offset_of u ≤ min (length u.tx_buffer.bytes - 1) (2 ^ 30)
      start = rw m (start_within (hole_of u) (length u.tx_buffer.bytes))

      whole : asked u p f ≡ resent_size u (effective_mss u p f)
      whole = rw (carries, m) refl

      asks : 0 < resent_size u (effective_mss u p f)
      asks = again_some u (effective_mss u p f) room

      bytes_go : 0 < length u.tx_buffer.bytes → 0 < segment_len (segment_for u p stamp bytes)
      bytes_go some = let h = lent_some u.tx_buffer (offset_of u) (asked u p f) bytes lent (omega (arith, whole, asks)) (omega (arith, start, some)) in omega (arith, h)

      none : length u.tx_buffer.bytes ≡ 0 → length bytes ≡ 0
      none z = let h = lent_at_most u.tx_buffer (offset_of u) (asked u p f) bytes lent in omega (arith, h, z)

      by : (length u.tx_buffer.bytes ≡ 0) ⊎ (0 < length u.tx_buffer.bytes) → HasToSend u → 0 < segment_len (segment_for u p stamp bytes)
      by (inr some) h = bytes_go some
      by (inl z) (inl some) = absurd (omega (arith, z, some))
      by (inl z) (inr c) = fin_len u p stamp bytes c (omega (arith, start, z, none z))

  pub probe_byte : u.pending_fast_retransmit ≡ false → is_probing u (moment_of f) ≡ true → flight u < length u.tx_buffer.bytes → length bytes ≡ 1
  unfolding asked
  probe_byte m probing within =
      let start : offset_of u ≡ flight u = rw m refl in
      let one : asked u p f ≡ min 1 (effective_mss u p f) = rw (probing, carries, m) refl in
      let some = lent_some u.tx_buffer (offset_of u) (asked u p f) bytes lent (omega (arith, one, room)) (omega (arith, start, within)) in
      let few = lent_at_most u.tx_buffer (offset_of u) (asked u p f) bytes lent in
      omega (arith, one, some, few)
