-- The calls of a raw socket, each with its effect on it: the clauses of the call's own contract.
use Rattle.std.specs.Prelude.{ℕ, ◌≡◌, List, [], ◌∷◌, ◌++◌, length, map, cond, Some, Result, Ok, Err}
use Rattle.std.specs.Prelude.{IfOk, is_ok, false}
use Rattle.std.specs.Borrow.{Bor, MutBor}
use Rattle.std.specs.Fn.{Once}
use Rattle.ip_wire.specs.Checksum.{is_sent}
use Rattle.ip_wire.specs.declared.repr.IpRepr.{IpRepr}
use Rattle.net_base.specs.Packets.{first_packet, skipped, takes}
use Rattle.sock_core.specs.Emission.{Emit}
use Rattle.sock_core.specs.Facts.{Facts}
use Rattle.sock_dgram.specs.Datagrams.{answered, stored, take_answer, with_metadata}
use Rattle.sock_dgram.specs.Raw.{View, Takes, received, waiting, send_answer, whole_packet}
use Rattle.sock_dgram.specs.RawDispatch.{Outgoing, Dispatched, prepared}
use Rattle.sock_dgram.specs.Transfers.{AnyCall, Plain, SendWith, Dispatch, Transfers, Written, nothing, sends, departs}
use Rattle.sock_dgram.specs.Transfers.{queues, reads, copies_out, Copies}
use Rattle.sock_dgram.specs.declared.error.RecvError.{RecvError}
use Rattle.sock_dgram.specs.declared.raw.error.SendError.{SendError}

-- a call that takes no closure, with what it is given and what it answers; a slice stands as it was before and after
pub data Call : Type 0 where
  Look : Call  -- any call on `&self`
  SendSlice : List ℕ → Result (Unit {0}) SendError → Call
  Recv : Result (List ℕ) RecvError → Call
  RecvSlice : (before after : List ℕ) → Result ℕ RecvError → Call
  Peek : Call  -- or `peek_slice`
  Process : Facts → IpRepr → List ℕ → Call  -- in a context that answers so

-- bytes that were received, beside the one metadata that there is
abbrev pub beside_metadata : Result (List ℕ) RecvError → Result (Unit {0} × List ℕ) RecvError
beside_metadata (Ok bs) = Ok (tt, bs)
beside_metadata (Err e) = Err e

abbrev pub Effect : Call → View → View → Type 0
Effect Look v w = w ≡ v
Effect (SendSlice bs r) v w = (r ≡ send_answer v (length bs))
    × (w ≡ record v { tx_buffer = stored tt bs v.tx_buffer })
    × (waiting w ≡ cond (is_ok r) (waiting v ++ (tt, bs) ∷ []) (waiting v))
Effect (Recv r) v w =
    (answered r ≡ take_answer (first_packet v.rx_buffer)) × IfOk r (λ bs. first_packet v.rx_buffer ≡ Some (tt, bs))
    × Takes v w
Effect (RecvSlice before after r) v w = Copies v.rx_buffer before after (with_metadata tt r) × Takes v w
Effect Peek v w = w ≡ record v { rx_buffer = skipped v.rx_buffer }
Effect (Process f ip payload) v w =
    let packet = whole_packet f.checksums ip payload in
    (w ≡ record v { rx_buffer = stored tt packet v.rx_buffer })
    × (received w ≡ cond (takes (length packet) v.rx_buffer) (received v ++ (tt, packet) ∷ []) (received v))

-- the packets that it moves
abbrev pub moved : Call → View → Transfers (Unit {0}) Outgoing
moved (SendSlice bs r) v = sends (is_ok r) (tt, bs)
moved (Recv r) v = reads (beside_metadata r)
moved (RecvSlice before after r) v = copies_out (with_metadata tt r) after (first_packet v.rx_buffer)
moved (Process f ip payload) v =
    let packet = whole_packet f.checksums ip payload in queues (takes (length packet) v.rx_buffer) (tt, packet)
moved _ v = nothing

module _ {C E F G : Type 0} (facts : C → Facts) (emit : Emit F C (IpRepr × Bor (List ℕ)) E)
    (write : Once G (MutBor (List ℕ) × Unit {0}) (ℕ × (MutBor (List ℕ) × Unit {0}))) where
  abbrev pub AnyEffect : AnyCall Call (Unit {0}) SendError C E F G → View → Transfers (Unit {0}) Outgoing → View
      → Type 0
  AnyEffect (Plain k) v t w = Effect k v w × (t ≡ moved k v)
  AnyEffect (SendWith size m f r) v t w =
      Written write r size m f v.tx_buffer t w.tx_buffer × (w ≡ record v { tx_buffer = w.tx_buffer })
  AnyEffect (Dispatch before after f r) v t w =
      (d : Dispatched emit f (is_sent (facts before).checksums.ipv4) v before r after w)
      × (t ≡ departs (is_ok r) d.planned (waiting v))

-- ---- packets as they compare: a dispatch sets the checksum of an IPv4 packet, so here it is 0 in each

abbrev pub without_checksum : Unit {0} × List ℕ → Unit {0} × List ℕ
without_checksum d = (d.0, prepared false d.1)

abbrev pub bare : List (Unit {0} × List ℕ) → List (Unit {0} × List ℕ)
bare ds = map without_checksum ds

abbrev pub bare_traffic : Transfers (Unit {0}) Outgoing → Transfers (Unit {0}) Outgoing
bare_traffic t = record {
  sent = bare t.sent;
  departed = map (λ e. (without_checksum e.0, e.1)) t.departed;
  queued = t.queued;
  taken = t.taken;
}
