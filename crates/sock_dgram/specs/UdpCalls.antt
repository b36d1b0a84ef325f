-- The calls of a UDP socket, each with its effect on it: the clauses of the call's own contract.
use Rattle.std.specs.Prelude.{ℕ, ◌≡◌, List, [], ◌∷◌, ◌++◌, length, cond, Option, Result, is_ok}
use Rattle.std.specs.Borrow.{Bor, MutBor}
use Rattle.std.specs.Fn.{Once}
use Rattle.ip_wire.specs.declared.endpoint.IpListenEndpoint.{IpListenEndpoint}
use Rattle.ip_wire.specs.declared.repr.IpRepr.{IpRepr}
use Rattle.control_wire.specs.declared.udp.UdpRepr.{UdpRepr}
use Rattle.net_base.specs.Packets.{first_packet, skipped, takes}
use Rattle.sock_core.specs.Emission.{Emit}
use Rattle.sock_core.specs.Facts.{Facts}
use Rattle.sock_dgram.specs.Datagrams.{stored}
use Rattle.sock_dgram.specs.Addressed.{Takes}
use Rattle.sock_dgram.specs.Transfers.{AnyCall, Plain, SendWith, Dispatch, Transfers, Written, nothing, sends, departs}
use Rattle.sock_dgram.specs.Transfers.{queues, reads, copies_out, clears, Reads, Copies}
use Rattle.sock_dgram.specs.Udp.{View, received, waiting, bind_answer, after_bind, closed}
use Rattle.sock_dgram.specs.Udp.{send_answer, after_send, metadata_of}
use Rattle.sock_dgram.specs.UdpDispatch.{Outgoing, outgoing, Dispatched}
use Rattle.sock_dgram.specs.declared.error.RecvError.{RecvError}
use Rattle.sock_dgram.specs.declared.error.SendError.{SendError}
use Rattle.sock_dgram.specs.declared.udp.socket.UdpMetadata.{UdpMetadata}

-- a call that takes no closure, with what it is given and what it answers; a slice stands as it was before and after
pub data Call : Type 0 where
  Look : Call  -- any call on `&self`
  Bind : IpListenEndpoint → Call
  Close : Call
  SetHopLimit : Option ℕ → Call
  SendSlice : List ℕ → UdpMetadata → Result (Unit {0}) SendError → Call
  Recv : Result (UdpMetadata × List ℕ) RecvError → Call
  RecvSlice : (before after : List ℕ) → Result (ℕ × UdpMetadata) RecvError → Call
  Peek : Call  -- or `peek_slice`
  Process : IpRepr → UdpRepr → List ℕ → Call

abbrev pub Effect : Call → View → View → Type 0
Effect Look v w = w ≡ v
Effect (Bind e) v w = w ≡ after_bind (bind_answer v e) v e
Effect Close v w = w ≡ closed v
Effect (SetHopLimit n) v w = w ≡ record v { hop_limit = n }
Effect (SendSlice bs m r) v w = (r ≡ send_answer v m (length bs)) × (w ≡ after_send v m bs)
    × (waiting w ≡ cond (is_ok r) (waiting v ++ (m, bs) ∷ []) (waiting v))
Effect (Recv r) v w = Reads v.rx_buffer r × Takes v w
Effect (RecvSlice before after r) v w = Copies v.rx_buffer before after r × Takes v w
Effect Peek v w = w ≡ record v { rx_buffer = skipped v.rx_buffer }
Effect (Process ip udp payload) v w =
    let m = metadata_of ip udp in
    (w ≡ record v { rx_buffer = stored m payload v.rx_buffer })
    × (received w ≡ cond (takes (length payload) v.rx_buffer) (received v ++ (m, payload) ∷ []) (received v))

-- the packets that it moves
abbrev pub moved : Call → View → Transfers UdpMetadata Outgoing
moved Close v = clears (waiting v) (received v)
moved (SendSlice bs m r) v = sends (is_ok r) (m, bs)
moved (Recv r) v = reads r
moved (RecvSlice before after r) v = copies_out r after (first_packet v.rx_buffer)
moved (Process ip udp payload) v = queues (takes (length payload) v.rx_buffer) (metadata_of ip udp, payload)
moved _ v = nothing

module _ {C E F G : Type 0} (facts : C → Facts) (emit : Emit F C (IpRepr × UdpRepr × Bor (List ℕ)) E)
    (write : Once G (MutBor (List ℕ) × Unit {0}) (ℕ × (MutBor (List ℕ) × Unit {0}))) where
  abbrev pub AnyEffect : AnyCall Call UdpMetadata SendError C E F G → View → Transfers UdpMetadata Outgoing → View
      → Type 0
  AnyEffect (Plain k) v t w = Effect k v w × (t ≡ moved k v)
  AnyEffect (SendWith size m f r) v t w =
      Written write r size m f v.tx_buffer t w.tx_buffer × (w ≡ record v { tx_buffer = w.tx_buffer })
  AnyEffect (Dispatch before after f r) v t w =
      Dispatched emit f v (facts before) before r after w
      × (t ≡ departs (is_ok r) (outgoing v (facts before)) (waiting v))
