-- The interface layer of a host with TCP sockets: what a dispatch and a packet that came do to a socket, to the
-- interface, and to the packets in its outbox.
use Rattle.std.specs.Prelude.{ℕ, ◌≡◌, ◌≤◌, ◌++◌, [], ◌∷◌, ⊤, List, length, Bool, true, false, Option, Some, None}
use Rattle.std.specs.Prelude.{Result, Ok, IfOk, OnErr}
use Rattle.std.specs.declared.alloc.AllocError.{AllocError}
use Rattle.ip_wire.specs.declared.checksum.ChecksumCapabilities.{ChecksumCapabilities}
use Rattle.ip_wire.specs.declared.repr.IpRepr.{IpRepr}
use Rattle.control_wire.specs.Segment.{Segment, segment_of}
use Rattle.control_wire.specs.declared.tcp.TcpControl.{TcpControl}
use Rattle.control_wire.specs.declared.tcp.TcpRepr.{TcpRepr}
use Rattle.control_wire.specs.declared.tcp.TcpTimestampRepr.{TcpTimestampRepr}
use Rattle.segment_wire.specs.Packet.{TcpPacket, tcp_packet}
use Rattle.sock_core.specs.Facts.{Facts}
use Rattle.sock_tcp.specs.Dispatch.{EmitTcp}
use Rattle.sock_tcp.specs.Process.{Accepts, Processes}
use Rattle.sock_tcp.specs.View.{View}
use Rattle.host_context.specs.Outbox.{CarriesTcp, octets}
use Rattle.host_context.specs.declared.interface.Interface.{Interface}
use Rattle.host_context.specs.declared.outbox.Outbox.{Outbox}

-- ---- dispatch

-- the packet of a segment that its header counts comes behind the others; where memory is wanting, they are those of
-- before. Nothing else of the interface changes
pub record PutsTcp {W : Type 0} (ip : IpRepr) (s : Segment) (old : Interface W Outbox)
    (r : Result (Unit {0}) AllocError) (new : Interface W Outbox) : Type 0 where
  pub added : CarriesTcp ip s → IfOk r (λ _.
      octets new.outbox.packets.items ≡ octets old.outbox.packets.items ++ tcp_packet old.checksums ip s ∷ [])
  pub kept : OnErr r (new.outbox.packets.items ≡ old.outbox.packets.items)
  pub same : new ≡ record old { outbox = new.outbox }

-- the emit that does so
abbrev pub puts_tcp : {W : Type 0} → EmitTcp (Unit {0}) (Interface W Outbox) AllocError
puts_tcp = record {
  pre = λ f a. ⊤;
  post = λ f a r. PutsTcp a.1.0.0 (segment_of a.1.0.1) a.0.now r.0 r.1.0.now;
}

-- ---- a packet that comes

-- the segment is for the socket. One of more than 65535 octets is for none: no packet carries it
pub record IsFor (v : View) (p : TcpPacket) : Type 0 where
  pub accepted : Accepts v p.ip p.segment
  pub small : length p.segment.payload ≤ 65535

-- packets with that of a reply behind them, if any
abbrev pub with_reply : ChecksumCapabilities → List (List ℕ) → Option (IpRepr × TcpRepr) → List (List ℕ)
with_reply caps ps None = ps
with_reply caps ps (Some r) = ps ++ tcp_packet caps r.0 (segment_of r.1) ∷ []

-- The socket processes the segment, in the interface as it is but for its outbox. The packet of what answers it comes
-- behind the others; where memory is wanting, they are those of before, and the answer is lost
pub record Hears {W : Type 0} (facts : Interface W Outbox → Facts) (word_at : Interface W Outbox → ℕ → ℕ)
    (stamped : TcpControl → Option TcpTimestampRepr → Type 0) (v : View) (i : Interface W Outbox) (p : TcpPacket)
    (r : Result Bool AllocError) (w : View) (i' : Interface W Outbox) : Type 0 where
  pub reply : Option (IpRepr × TcpRepr)
  pub before : Interface W Outbox
  pub after : Interface W Outbox
  pub told : before ≡ record i { outbox = before.outbox }
  pub processes : Processes facts word_at stamped v before p.ip p.segment reply w after
  pub left : i' ≡ record after { outbox = i'.outbox }
  pub answer : IfOk r (λ b. b ≡ true)
  pub added : IfOk r (λ _. octets i'.outbox.packets.items
      ≡ with_reply i.checksums (octets i.outbox.packets.items) reply)
  pub kept : OnErr r (i'.outbox.packets.items ≡ i.outbox.packets.items)

-- nothing changes
pub record Refuses {G W : Type 0} (v : View) (source : Option G) (i : Interface W Outbox)
    (r : Result Bool AllocError) (w : View) (source' : Option G) (i' : Interface W Outbox) : Type 0 where
  pub answer : r ≡ Ok false
  pub socket : w ≡ v
  pub generator : source' ≡ source
  pub interface : i' ≡ i
