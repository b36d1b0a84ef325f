-- Each call of a UDP socket keeps the order of both queues.
use Rattle.std.proofs.Common.{ℕ, List, length, refl, sym, ap, subst, ◌∙◌}
use Rattle.std.specs.Prelude.{is_ok}
use Rattle.std.specs.Borrow.{Bor, MutBor}
use Rattle.std.specs.Fn.{Once}
use Rattle.ip_wire.specs.declared.repr.IpRepr.{IpRepr}
use Rattle.control_wire.specs.declared.udp.UdpRepr.{UdpRepr}
use Rattle.net_base.specs.Packets.{takes}
use Rattle.net_base.proofs.PacketLists.{packets_skipped}
use Rattle.sock_core.specs.Emission.{Emit}
use Rattle.sock_core.specs.Facts.{Facts}
use Rattle.sock_dgram.proofs.Orders.{idle, sending, departing, queueing, clearing, receiving, copying_out, by_transfers, bound_waiting, bound_received, sent_received, sent_with, runs}
use Rattle.sock_dgram.specs.Transfers.{AnyCall, Plain, SendWith, Dispatch, Transfers, clears, InOrder, Runs}
use Rattle.sock_dgram.specs.Udp.{View, received, waiting, bind_answer, is_sendable, metadata_of}
use Rattle.sock_dgram.specs.UdpCalls.{Call, Look, Bind, Close, SetHopLimit, SendSlice, Recv, RecvSlice, Peek, Process, Effect, moved, AnyEffect}
use Rattle.sock_dgram.specs.UdpDispatch.{Outgoing, outgoing}
use Rattle.sock_dgram.specs.declared.error.SendError.{SendError}
use Rattle.sock_dgram.specs.declared.udp.socket.UdpMetadata.{UdpMetadata}

keeps : (k : Call) (v w : View) → Effect k v w → InOrder (moved k v) (waiting v) (received v) (waiting w) (received w)
keeps Look v w h = idle (ap waiting h) (ap received h)
keeps (Bind e) v w h = let r = bind_answer v e in idle (ap waiting h ∙ bound_waiting r v e) (ap received h ∙ bound_received r v e)
keeps Close v w h = subst (λ x. InOrder (clears {O = Outgoing} (waiting v) (received v)) (waiting v) (received v) (waiting x) (received x)) (sym h) (clearing (waiting v) (received v))
keeps (SetHopLimit n) v w h = idle (ap waiting h) (ap received h)
keeps (SendSlice bs m r) v w h = sending (is_ok r) (m, bs) h.2 (ap received h.1 ∙ sent_received (is_sendable v m) v m bs)
keeps (Recv r) v w h = receiving v.rx_buffer w.rx_buffer r h.0 h.1.queue.packets (ap waiting h.1.same)
keeps (RecvSlice before after r) v w h = copying_out v.rx_buffer w.rx_buffer before after r h.0 h.1.queue.packets (ap waiting h.1.same)
keeps Peek v w h = idle (ap waiting h) (ap received h ∙ packets_skipped v.rx_buffer)
keeps (Process ip udp payload) v w h = queueing (takes (length payload) v.rx_buffer) (metadata_of ip udp, payload) (ap waiting h.0) h.1

module _ {C E F G : Type 0} (facts : C → Facts) (emit : Emit F C (IpRepr × UdpRepr × Bor (List ℕ)) E)
    (write : Once G (MutBor (List ℕ) × Unit {0}) (ℕ × (MutBor (List ℕ) × Unit {0}))) where
  step : (k : AnyCall Call UdpMetadata SendError C E F G) (v : View) (t : Transfers UdpMetadata Outgoing) (w : View) → AnyEffect facts emit write k v t w → InOrder t (waiting v) (received v) (waiting w) (received w)
  step (Plain k) v t w h = by_transfers h.1 (keeps k v w h.0)
  step (SendWith size m f r) v t w h = sent_with write r size m f t v.tx_buffer w.tx_buffer (received v) (received w) h.0 (ap received h.1)
  step (Dispatch before after f r) v t w h = by_transfers h.1 (departing (is_ok r) (outgoing v (facts before)) h.0.queue (ap received h.0.same))

  pub in_order : (calls : List (AnyCall Call UdpMetadata SendError C E F G)) (v w : View) (t : Transfers UdpMetadata Outgoing) → Runs (AnyEffect facts emit write) calls v t w → InOrder t (waiting v) (received v) (waiting w) (received w)
  in_order calls v w t h = runs (AnyEffect facts emit write) waiting received (λ s. s) refl (λ a b. refl) step calls v t w h
