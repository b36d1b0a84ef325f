-- The calls of an ICMP socket, each with its effect on it: the clauses of the call's own contract.
use Rattle.std.specs.Prelude.{ℕ, ◌≡◌, List, [], ◌∷◌, ◌++◌, length, cond, Option, Result, is_ok}
use Rattle.std.specs.Borrow.{MutBor}
use Rattle.std.specs.Fn.{Once}
use Rattle.ip_wire.specs.declared.address.IpAddress.{IpAddress}
use Rattle.ip_wire.specs.declared.address.IpAddress.TheVariants as address
use Rattle.ip_wire.specs.declared.repr.IpRepr.{IpRepr}
use Rattle.ip_wire.specs.declared.repr.Ipv4Repr.{Ipv4Repr}
use Rattle.ip_wire.specs.declared.repr.Ipv6Repr.{Ipv6Repr}
use Rattle.control_wire.specs.Icmp.{Message, message_len}
use Rattle.control_wire.specs.declared.icmp.IcmpRepr.{IcmpRepr}
use Rattle.net_base.specs.Packets.{first_packet, takes}
use Rattle.sock_core.specs.Emission.{Emit}
use Rattle.sock_core.specs.Facts.{Facts}
use Rattle.sock_dgram.specs.Addressed.{Takes}
use Rattle.sock_dgram.specs.Datagrams.{stored_as}
use Rattle.sock_dgram.specs.Icmp.{View, received, waiting, bind_answer, after_bind, send_answer, after_send}
use Rattle.sock_dgram.specs.IcmpDispatch.{Outgoing, outgoing, Dispatched}
use Rattle.sock_dgram.specs.IcmpFilter.{octets_v4, octets_v6}
use Rattle.sock_dgram.specs.Transfers.{AnyCall, Plain, SendWith, Dispatch, Transfers, Written, nothing, sends, departs}
use Rattle.sock_dgram.specs.Transfers.{queues, reads, copies_out, Reads, Copies}
use Rattle.sock_dgram.specs.declared.error.RecvError.{RecvError}
use Rattle.sock_dgram.specs.declared.error.SendError.{SendError}
use Rattle.sock_dgram.specs.declared.icmp.endpoint.Endpoint.{Endpoint}

-- a call that takes no closure, with what it is given and what it answers; a slice stands as it was before and after
pub data Call : Type 0 where
  Look : Call  -- any call on `&self`
  Bind : Endpoint → Call
  SetHopLimit : Option ℕ → Call
  SendSlice : List ℕ → IpAddress → Result (Unit {0}) SendError → Call
  Recv : Result (IpAddress × List ℕ) RecvError → Call
  RecvSlice : (before after : List ℕ) → Result (ℕ × IpAddress) RecvError → Call
  ProcessV4 : Ipv4Repr → Message Ipv4Repr → Call
  ProcessV6 : Ipv6Repr → Message Ipv6Repr → Call

-- what `process_v4` and `process_v6` queue: a message of n octets, where there is room for it
abbrev pub Queues : ℕ → IpAddress × List ℕ → View → View → Type 0
Queues n d v w = (w ≡ record v { rx_buffer = stored_as n d.0 d.1 v.rx_buffer })
    × (received w ≡ cond (takes n v.rx_buffer) (received v ++ d ∷ []) (received v))

abbrev pub datagram_v4 : Ipv4Repr → Message Ipv4Repr → IpAddress × List ℕ
datagram_v4 ip m = (address.Ipv4 ip.src_addr, octets_v4 m)

abbrev pub datagram_v6 : Ipv6Repr → Message Ipv6Repr → IpAddress × List ℕ
datagram_v6 ip m = (address.Ipv6 ip.src_addr, octets_v6 ip m)

abbrev pub Effect : Call → View → View → Type 0
Effect Look v w = w ≡ v
Effect (Bind e) v w = w ≡ after_bind (bind_answer v e) v e
Effect (SetHopLimit n) v w = w ≡ record v { hop_limit = n }
Effect (SendSlice bs m r) v w = (r ≡ send_answer v m (length bs)) × (w ≡ after_send v m bs)
    × (waiting w ≡ cond (is_ok r) (waiting v ++ (m, bs) ∷ []) (waiting v))
Effect (Recv r) v w = Reads v.rx_buffer r × Takes v w
Effect (RecvSlice before after r) v w = Copies v.rx_buffer before after r × Takes v w
Effect (ProcessV4 ip m) v w = Queues (message_len 20 m) (datagram_v4 ip m) v w
Effect (ProcessV6 ip m) v w = Queues (message_len 40 m) (datagram_v6 ip m) v w

-- the packets that it moves
abbrev pub moved : Call → View → Transfers IpAddress Outgoing
moved (SendSlice bs m r) v = sends (is_ok r) (m, bs)
moved (Recv r) v = reads r
moved (RecvSlice before after r) v = copies_out r after (first_packet v.rx_buffer)
moved (ProcessV4 ip m) v = queues (takes (message_len 20 m) v.rx_buffer) (datagram_v4 ip m)
moved (ProcessV6 ip m) v = queues (takes (message_len 40 m) v.rx_buffer) (datagram_v6 ip m)
moved _ v = nothing

module _ {C E F G : Type 0} (facts : C → Facts) (emit : Emit F C (IpRepr × IcmpRepr) E)
    (write : Once G (MutBor (List ℕ) × Unit {0}) (ℕ × (MutBor (List ℕ) × Unit {0}))) where
  abbrev pub AnyEffect : AnyCall Call IpAddress SendError C E F G → View → Transfers IpAddress Outgoing → View → Type 0
  AnyEffect (Plain k) v t w = Effect k v w × (t ≡ moved k v)
  AnyEffect (SendWith size m f r) v t w =
      Written write r size m f v.tx_buffer t w.tx_buffer × (w ≡ record v { tx_buffer = w.tx_buffer })
  AnyEffect (Dispatch before after f r) v t w =
      Dispatched emit f v (facts before) before r after w
      × (t ≡ departs (is_ok r) (outgoing v (facts before)) (waiting v))
