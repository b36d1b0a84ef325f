use Rattle.std.proofs.Common.{arith, ◌∙◌, refl}
use Rattle.net_base.proofs.Cells.{read_in_run, read_around}
use Rattle.net_base.proofs.ring_buffer.read_cells.Goals as goal

pub returns-then-count-run : goal.returns-then-count-run
returns-then-count-run g c = c.copy_from_slice.ensures.after ∙ read_in_run _ _ _ _ c.requires.at_within c.place-from.ensures.low c.place-from.ensures.high _ _ c.requires.fits (omega arith) (omega arith)

pub returns-else-count-run : goal.returns-else-count-run
returns-else-count-run g c =
    read_around _ _ _ _ c.requires.at_within c.place-from.ensures.low c.place-from.ensures.high _ _ _ _ c.copy_from_slice-else-count-run.ensures.after c.copy_from_slice-else-count-run-2.ensures.after refl (omega arith) (omega arith) c.requires.fits
