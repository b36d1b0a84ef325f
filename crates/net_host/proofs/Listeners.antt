-- A segment that cannot open a connection is for no listener.
use Rattle.std.proofs.Common.{◌≡◌, List, true, false, Option, Some, None}
use Rattle.std.specs.Prelude.{IfSome, slice_get}
use Rattle.ip_wire.specs.declared.repr.IpRepr.{IpRepr}
use Rattle.control_wire.specs.Segment.{Segment}
use Rattle.sock_tcp.specs.Opening.{is_listening}
use Rattle.sock_tcp.specs.Process.{AcceptsIn, Opens}
use Rattle.sock_tcp.specs.View.{View}
use Rattle.sock_tcp.specs.declared.state.State.{State}
use Rattle.sock_tcp.specs.declared.state.State.TheVariants as state
use Rattle.smoltcp_socket.specs.declared.socket.Socket.{Socket}
use Rattle.smoltcp_socket.specs.declared.socket.Socket.TheVariants as socket
use Rattle.net_host.specs.Segments.{IsTaker, TakesIn, TakesSegment}
use Rattle.net_host.specs.Walks.{Nowhere}
use Rattle.net_host.specs.declared.segments.Taker.TheVariants as taker
use Rattle.net_host.specs.declared.slot.Slot.{Slot}
use Rattle.net_host.proofs.Again.{no_ack, no_reset}

no_truth : false ≡ true → ⊥
no_truth e = cc

module _ (ip : IpRepr) (s : Segment) (nay : Opens s → ⊥) where
  no_listener : (st : State) (v : View) → is_listening st ≡ true → AcceptsIn st v ip s → ⊥
  no_listener state.Listen v is h = nay h.0
  no_listener state.Closed v is h = no_truth is
  no_listener state.SynSent v is h = no_truth is
  no_listener state.SynReceived v is h = no_truth is
  no_listener state.Established v is h = no_truth is
  no_listener state.FinWait1 v is h = no_truth is
  no_listener state.FinWait2 v is h = no_truth is
  no_listener state.CloseWait v is h = no_truth is
  no_listener state.Closing v is h = no_truth is
  no_listener state.LastAck v is h = no_truth is
  no_listener state.TimeWait v is h = no_truth is

  none_in : {G : Type 0} (o : Option (Socket G)) → TakesIn o true ip s → ⊥
  none_in None h = h
  none_in (Some (socket.Raw x)) h = h
  none_in (Some (socket.Icmp x)) h = h
  none_in (Some (socket.Udp x)) h = h
  none_in (Some (socket.Tcp x)) h = no_listener x.control_block.state x.control_block h.0 h.1

  none_at : {G : Type 0} (o : Option (Slot G)) → IfSome o (λ x. TakesSegment true ip s x → ⊥)
  none_at None = tt
  none_at (Some x) = λ h. none_in x.socket h

  pub nobody : {G : Type 0} (ss : List (Slot G)) → Nowhere (λ x. TakesSegment false ip s x) ss → IsTaker ss ip s taker.Nobody
  nobody ss none = ((none, λ k. none_at (slice_get ss k)), λ opening. absurd (nay (record { no_ack = no_ack s.control s.ack_number opening; no_reset = no_reset s.control s.ack_number opening })))
