-- What a dispatch stores.
use Rattle.std.specs.Prelude.{ℕ, ◌≡◌, ◌++◌, ⊤, List, Option, Some, None, is_some, IsSomeAnd, Result, Ok, Err, Bool}
use Rattle.std.specs.Prelude.{true, false, not, Vec}
use Rattle.std.specs.Global.{Global}
use Rattle.std.specs.Option.{ForSome}
use Rattle.ip_wire.specs.declared.repr.IpRepr.{IpRepr}
use Rattle.control_wire.specs.Fits.{FitsPacket}
use Rattle.control_wire.specs.Segment.{Segment}
use Rattle.sock_core.specs.Facts.{Facts}
use Rattle.sock_tcp.specs.Rfc.Numbers.{outgoing}
use Rattle.sock_tcp.specs.Queue.{IsLent}
use Rattle.sock_tcp.specs.View.{View, moment_of}
use Rattle.sock_tcp.specs.Begin.{before_emit, peer_of}
use Rattle.sock_tcp.specs.Content.{Sending, asked, offset_of, content}
use Rattle.sock_tcp.specs.Dispatch.{IsStamp}
use Rattle.sock_tcp.specs.Sent.{left_by}
use Rattle.sock_tcp.specs.declared.tuple.Tuple.{Tuple}
use Rattle.pair_core.specs.declared.capture.EmitFailed.{EmitFailed}
use Rattle.pair_core.specs.declared.capture.Capture.{Capture}
use Rattle.pair_core.specs.declared.capture.Sent.{Sent}
use Rattle.pair_core.specs.declared.capture.Sent.TheVariants as sent
use Rattle.pair_core.specs.declared.segment.Header.{Header}
use Rattle.pair_core.specs.Holding.{IsHeaderOf, segment_at}

-- the segment s was stored in new
pub record Holds (old new : Capture) (ip : IpRepr) (s : Segment) : Type 0 where
  pub header : IsSomeAnd new.header (λ h. IsHeaderOf h ip s)
  pub payload : new.payload.items ≡ old.payload.items ++ s.payload

abbrev pub sent_with : Option Header → Vec ℕ Global → Sent
sent_with None room = sent.Quiet
sent_with (Some h) room = sent.Emitted h room

-- what came of a dispatch whose emit answered so
abbrev pub sent_of : Result (Unit {0}) EmitFailed → Capture → Sent
sent_of (Ok u) r = sent_with r.header r.payload
sent_of (Err e) r = sent.Failed

-- what was emitted can be written as a packet and read back
abbrev pub FitsSent : Sent → Type 0
FitsSent (sent.Emitted h p) = FitsPacket h.ip_repr (segment_at h p.items)
FitsSent _ = ⊤

-- what is recorded of an emit
abbrev pub Records : Bool → Option Sending → Sent → Type 0
Records fail None r = r ≡ sent.Quiet
Records true (Some s) r = r ≡ sent.Failed
Records false (Some s) (sent.Emitted h p) = IsHeaderOf h s.ip s.segment × (p.items ≡ s.segment.payload)
Records false (Some s) _ = ⊥

-- the socket sends to its peer, with what its source of timestamps tells, where it has one, and for some bytes that its
-- ring lent
pub record SendsTo {G : Type 0} (tells : G → ℕ → Type 0) (source : Option G) (v : View) (t : Tuple) (f : Facts)
    (fail : Bool) (r : Sent) (w : View) : Type 0 where
  pub stamp : Option ℕ
  pub told : IsStamp tells source stamp
  pub stamped : is_some stamp ≡ v.stamps
  pub bytes : List ℕ
  pub lent : IsLent v.tx_buffer (offset_of v) (asked v t f) bytes
  pub records : Records fail (outgoing v (content v t f stamp bytes)) r
  pub view : w ≡ left_by (content v t f stamp bytes) v (moment_of f) (not fail)
  pub fits : ForSome (outgoing v (content v t f stamp bytes)) (λ s. FitsPacket s.ip s.segment)

abbrev pub SendsFrom : {G : Type 0} → (G → ℕ → Type 0) → Option G → Option Tuple → View → Facts → Bool → Sent → View
    → Type 0
SendsFrom tells source None v f fail r w = (r ≡ sent.Quiet) × (w ≡ v)
SendsFrom tells source (Some t) v f fail r w = SendsTo tells source v t f fail r w

-- a whole dispatch of the socket v
unfoldable pub SocketDispatches : {G : Type 0} → (G → ℕ → Type 0) → Option G → View → Facts → Bool → Sent → View
    → Type 0
SocketDispatches tells source v f fail r w =
    SendsFrom tells source (peer_of (before_emit v f)) (before_emit v f).view f fail r w
