-- `dispatch` of a raw socket.
use Rattle.std.specs.Prelude.{ℕ, ◌≡◌, ◌+◌, ◌-◌, ◌↔◌, ◌&&◌, nat_le, IsTrue, List, [], ◌∷◌, drop, length, cond}
use Rattle.std.specs.Prelude.{Bool, Option, None, Some, Result, is_ok, true, false, if◌then◌else◌}
use Rattle.std.specs.Borrow.{Bor}
use Rattle.ip_wire.specs.Octets.{be16_at}
use Rattle.ip_wire.specs.Packet.{checksum_filled, ipv4_fields, ipv4_header_len, ipv4_payload, ipv4_total_len}
use Rattle.ip_wire.specs.Packet.{ipv6_fields, ipv6_payload, with_checksum}
use Rattle.ip_wire.specs.Protocol.{version_of_packet}
use Rattle.ip_wire.specs.declared.protocol.IpVersion.{IpVersion}
use Rattle.ip_wire.specs.declared.protocol.IpVersion.TheVariants as version
use Rattle.ip_wire.specs.declared.repr.IpRepr.{IpRepr}
use Rattle.ip_wire.specs.declared.repr.IpRepr.TheVariants as header
use Rattle.net_base.specs.Packets.{Packets, first_packet, skipped, with_first, Dequeues}
use Rattle.sock_core.specs.Emission.{Emit, Emits}
use Rattle.sock_dgram.specs.Raw.{View, waiting, Accepts}

-- a packet that goes out
pub record Outgoing : Type 0 where
  pub ip : IpRepr
  pub payload : List ℕ

abbrev pub outgoing_of : IpRepr × Bor (List ℕ) → Outgoing
outgoing_of s = record { ip = s.0; payload = s.1.now }

-- the lengths that a packet states of itself fit
abbrev pub is_sound_ipv4 : List ℕ → Bool
is_sound_ipv4 bs = nat_le 20 (ipv4_header_len bs) && (nat_le (ipv4_header_len bs) (ipv4_total_len bs)
    && nat_le (ipv4_total_len bs) (length bs))

abbrev pub is_sound_ipv6 : List ℕ → Bool
is_sound_ipv6 bs = nat_le 40 (length bs) && nat_le (40 + be16_at bs 4) (length bs)

-- the checksum of an IPv4 packet is filled, or set to zero where it is not computed here
abbrev pub prepared_as : Option IpVersion → Bool → List ℕ → List ℕ
prepared_as (Some version.Ipv4) sent bs =
    if is_sound_ipv4 bs then (if sent then checksum_filled bs else with_checksum bs 0) else bs
prepared_as _ sent bs = bs

unfoldable pub prepared : Bool → List ℕ → List ℕ
prepared sent bs = prepared_as (version_of_packet bs) sent bs

-- the packet, whatever its checksum
abbrev pub parsed_as : Option IpVersion → List ℕ → Option Outgoing
parsed_as None bs = None
parsed_as (Some version.Ipv4) bs =
    if is_sound_ipv4 bs
    then Some (record {
      ip = header.Ipv4 (ipv4_fields bs (ipv4_total_len bs - ipv4_header_len bs));
      payload = ipv4_payload bs;
    })
    else None
parsed_as (Some version.Ipv6) bs =
    if is_sound_ipv6 bs
    then Some (record { ip = header.Ipv6 (ipv6_fields bs (be16_at bs 4)); payload = ipv6_payload bs })
    else None

unfoldable pub parsed : List ℕ → Option Outgoing
parsed bs = parsed_as (version_of_packet bs) bs

abbrev pub parsed_first : Option (Unit {0} × List ℕ) → Option Outgoing
parsed_first None = None
parsed_first (Some d) = parsed d.1

-- a packet of another version or protocol is not emitted, nor a malformed one
pub record Passes (v : View) (out : Outgoing) (planned : Option Outgoing) : Type 0 where
  pub accepted : Bool
  pub says : IsTrue accepted ↔ Accepts v out.ip
  pub is : planned ≡ (if accepted then Some out else None)

abbrev pub Plans : View → Option Outgoing → Option Outgoing → Type 0
Plans v None planned = planned ≡ None
Plans v (Some out) planned = Passes v out planned

-- the one call of `emit`, if there is something to emit
pub record EmitsFirst {F C E : Type 0} (g : Emit F C (IpRepr × Bor (List ℕ)) E) (f : F) (v : View)
    (c : C) (r : Result (Unit {0}) E) (c' : C) : Type 0 where
  pub planned : Option Outgoing
  pub plans : Plans v (parsed_first (first_packet v.tx_buffer)) planned
  pub emits : Emits g outgoing_of f planned c r c'

abbrev pub first_prepared : Bool → List (Unit {0} × List ℕ) → List (Unit {0} × List ℕ)
first_prepared sent [] = []
first_prepared sent (d ∷ ds) = (d.0, prepared sent d.1) ∷ ds

-- the buffer without the padding in front, and with the checksum of its first packet set
abbrev pub set_first : Bool → Packets (Unit {0}) → List (Option (Unit {0}) × List ℕ) → Packets (Unit {0})
set_first sent p [] = p
set_first sent p (e ∷ es) = with_first (prepared sent e.1) p

unfoldable pub prepared_buffer : Bool → Packets (Unit {0}) → Packets (Unit {0})
prepared_buffer sent p = set_first sent (skipped p) (skipped p).entries

abbrev pub offered : Bool → Option (Unit {0} × List ℕ) → Option Outgoing
offered sent None = None
offered sent (Some d) = parsed (prepared sent d.1)

-- the whole: at Ok the first packet leaves; at Err it stays first, with its checksum as it was set, and the next
-- dispatch in the same context offers it again
pub record Dispatched {F C E : Type 0} (g : Emit F C (IpRepr × Bor (List ℕ)) E) (f : F) (sent : Bool) (v : View)
    (c : C) (r : Result (Unit {0}) E) (c' : C) (w : View) : Type 0 where
  pub planned : Option Outgoing
  pub plans : Plans v (offered sent (first_packet v.tx_buffer)) planned
  pub emits : Emits g outgoing_of f planned c r c'
  pub queue : waiting w ≡ cond (is_ok r) (drop 1 (waiting v)) (first_prepared sent (waiting v))
  pub emitted : is_ok r ≡ true → Dequeues (prepared_buffer sent v.tx_buffer) w.tx_buffer
  pub failed : is_ok r ≡ false → w.tx_buffer ≡ prepared_buffer sent v.tx_buffer
  pub again : is_ok r ≡ false → offered sent (first_packet w.tx_buffer) ≡ offered sent (first_packet v.tx_buffer)
  pub same : w ≡ record v { tx_buffer = w.tx_buffer }
