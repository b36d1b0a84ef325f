-- Each call of an ICMP socket keeps the order of both queues.
use Rattle.std.proofs.Common.{ℕ, List, refl, ap, ◌∙◌}
use Rattle.std.specs.Prelude.{is_ok, not}
use Rattle.std.specs.Borrow.{MutBor}
use Rattle.std.specs.Fn.{Once}
use Rattle.ip_wire.specs.declared.repr.IpRepr.{IpRepr}
use Rattle.ip_wire.specs.declared.address.IpAddress.{IpAddress}
use Rattle.ip_wire.specs.Address.{is_unspecified}
use Rattle.control_wire.specs.Icmp.{message_len}
use Rattle.control_wire.specs.declared.icmp.IcmpRepr.{IcmpRepr}
use Rattle.net_base.specs.Packets.{takes}
use Rattle.sock_core.specs.Emission.{Emit}
use Rattle.sock_core.specs.Facts.{Facts}
use Rattle.sock_dgram.proofs.Orders.{idle, sending, departing, queueing, receiving, copying_out, by_transfers, bound_waiting, bound_received, sent_received, sent_with, runs}
use Rattle.sock_dgram.specs.Transfers.{AnyCall, Plain, SendWith, Dispatch, Transfers, InOrder, Runs}
use Rattle.sock_dgram.specs.Icmp.{View, received, waiting, bind_answer}
use Rattle.sock_dgram.specs.IcmpCalls.{Call, Look, Bind, SetHopLimit, SendSlice, Recv, RecvSlice, ProcessV4, ProcessV6, Effect, moved, AnyEffect, datagram_v4, datagram_v6}
use Rattle.sock_dgram.specs.IcmpDispatch.{Outgoing, outgoing}
use Rattle.sock_dgram.specs.declared.error.SendError.{SendError}

keeps : (k : Call) (v w : View) → Effect k v w → InOrder (moved k v) (waiting v) (received v) (waiting w) (received w)
keeps Look v w h = idle (ap waiting h) (ap received h)
keeps (Bind e) v w h = let r = bind_answer v e in idle (ap waiting h ∙ bound_waiting r v e) (ap received h ∙ bound_received r v e)
keeps (SetHopLimit n) v w h = idle (ap waiting h) (ap received h)
keeps (SendSlice bs m r) v w h = sending (is_ok r) (m, bs) h.2 (ap received h.1 ∙ sent_received (not (is_unspecified m)) v m bs)
keeps (Recv r) v w h = receiving v.rx_buffer w.rx_buffer r h.0 h.1.queue.packets (ap waiting h.1.same)
keeps (RecvSlice before after r) v w h = copying_out v.rx_buffer w.rx_buffer before after r h.0 h.1.queue.packets (ap waiting h.1.same)
keeps (ProcessV4 ip m) v w h = queueing (takes (message_len 20 m) v.rx_buffer) (datagram_v4 ip m) (ap waiting h.0) h.1
keeps (ProcessV6 ip m) v w h = queueing (takes (message_len 40 m) v.rx_buffer) (datagram_v6 ip m) (ap waiting h.0) h.1

module _ {C E F G : Type 0} (facts : C → Facts) (emit : Emit F C (IpRepr × IcmpRepr) E)
    (write : Once G (MutBor (List ℕ) × Unit {0}) (ℕ × (MutBor (List ℕ) × Unit {0}))) where
  step : (k : AnyCall Call IpAddress SendError C E F G) (v : View) (t : Transfers IpAddress Outgoing) (w : View) → AnyEffect facts emit write k v t w → InOrder t (waiting v) (received v) (waiting w) (received w)
  step (Plain k) v t w h = by_transfers h.1 (keeps k v w h.0)
  step (SendWith size m f r) v t w h = sent_with write r size m f t v.tx_buffer w.tx_buffer (received v) (received w) h.0 (ap received h.1)
  step (Dispatch before after f r) v t w h = by_transfers h.1 (departing (is_ok r) (outgoing v (facts before)) h.0.queue (ap received h.0.same))

  pub in_order : (calls : List (AnyCall Call IpAddress SendError C E F G)) (v w : View) (t : Transfers IpAddress Outgoing) → Runs (AnyEffect facts emit write) calls v t w → InOrder t (waiting v) (received v) (waiting w) (received w)
  in_order calls v w t h = runs (AnyEffect facts emit write) waiting received (λ s. s) refl (λ a b. refl) step calls v t w h
