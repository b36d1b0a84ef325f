use Rattle.std.proofs.Common.{refl}
use Rattle.net_host.specs.Sheets.{writing_raw}
use Rattle.net_host.specs.SheetOf.{KeepsWire, sheet_of}
use Rattle.net_host.specs.declared.wire.Wire.{Wire}
use Rattle.net_host.proofs.Emitting.{dispatches_raw, keeps}
use Rattle.net_host.proofs.emission.emit_packet.Goals as goal

pub returns-clause-table : goal.returns-clause-table
returns-clause-table c = dispatches_raw sheet_of _ _ writing_raw tt (λ shown left s r h. h.1.0) _ _ _ _ _ _ c.dispatch.ensures.table

pub returns-clause-kept : goal.returns-clause-kept
returns-clause-kept c = keeps (λ (c : Wire) r (d : Wire). KeepsWire c r d) (λ c. record { within = λ h. h; fits = λ h. h; short = λ e. cc; same_buffer = refl; environment = refl }) _ _ (λ shown left s r h. h.1.1) _ _ _ _ _ c.dispatch.ensures.table.emits
