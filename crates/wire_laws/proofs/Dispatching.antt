-- What a dispatch emits survives the wire.
use Rattle.std.proofs.Common.{ℕ, Option, Some, None}
use Rattle.std.specs.Prelude.{Result}
use Rattle.std.proofs.lemmas.Option.{none-some}
use Rattle.ip_wire.specs.declared.repr.IpRepr.{IpRepr}
use Rattle.control_wire.specs.Fits.{FitsPacket}
use Rattle.control_wire.specs.Segment.{Segment}
use Rattle.sock_core.specs.Facts.{Facts}
use Rattle.sock_tcp.specs.Rfc.Numbers.{outgoing}
use Rattle.sock_tcp.specs.Begin.{before_emit, peer_of}
use Rattle.sock_tcp.specs.Content.{content}
use Rattle.sock_tcp.specs.Dispatch.{EmitTcp, EmitsTo, Dispatches}
use Rattle.sock_tcp.specs.View.{View}
use Rattle.sock_tcp.specs.declared.tuple.Tuple.{Tuple}
use Rattle.wire_laws.specs.Fields.{HasWidths}
use Rattle.wire_laws.specs.Survival.{SurvivesWithPorts, DispatchesSurviving}

module _ {F C E G : Type 0} (g : EmitTcp F C E) (f : F) (facts : Facts) (tells : G → ℕ → Type 0) (clock : Option G) (law : (ip : IpRepr) (s : Segment) → FitsPacket ip s → HasWidths ip s → SurvivesWithPorts ip s) where
  emits : (o : Option Tuple) (v : View) (c : C) (r : Result (Unit {0}) E) (w : View) (c' : C) → EmitsTo g f facts tells clock o v c r w c' → DispatchesSurviving g f c r c'
  emits None v c r w c' h = record { out = None; emits = (h.answer, h.context); survives = λ s e. absurd (none-some s e) }
  emits (Some t) v c r w c' h = record { out = outgoing v (content v t facts h.stamp h.emits.bytes); emits = h.emits.emits; survives = λ s e. law s.ip s.segment (h.emits.fits s e) }

  pub dispatched : (u : View) (c : C) (r : Result (Unit {0}) E) (w : View) (c' : C) → Dispatches g f facts tells clock u c r w c' → DispatchesSurviving g f c r c'
  unfolding Dispatches
  dispatched u c r w c' h = emits (peer_of (before_emit u facts)) (before_emit u facts).view c r w c' h
