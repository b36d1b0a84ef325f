use Rattle.std.proofs.Common.{refl}
use Rattle.net_host.specs.Sheets.{writing}
use Rattle.net_host.specs.SheetOf.{KeepsWire, sheet_of}
use Rattle.net_host.specs.declared.wire.Wire.{Wire}
use Rattle.net_host.proofs.Emitting.{dispatches, dispatch_keeps}
use Rattle.net_host.proofs.emission.emit_segment.Goals as goal

pub returns-clause-table : goal.returns-clause-table
returns-clause-table g c = dispatches sheet_of _ _ writing tt (λ shown left s r h. h.1.0) _ g.G.TsvalSource.tells _ _ _ _ _ _ c.dispatch.ensures.table

pub returns-clause-kept : goal.returns-clause-kept
returns-clause-kept g c = dispatch_keeps (λ (c : Wire) r (d : Wire). KeepsWire c r d) (λ c. record { within = λ h. h; fits = λ h. h; short = λ e. cc; same_buffer = refl; environment = refl }) _ _ (λ shown left s r h. h.1.1) _ g.G.TsvalSource.tells _ _ _ _ _ _ c.dispatch.ensures.table
