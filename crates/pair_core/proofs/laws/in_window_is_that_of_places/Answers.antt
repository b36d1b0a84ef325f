use Rattle.std.proofs.Common.{sym, ◌∙◌, refl}
use Rattle.sock_tcp.specs.Window.{accepted_window}
use Rattle.pair_core.specs.PairNetwork.{stream_segment}
use Rattle.pair_core.specs.StreamTables.{cut}
use Rattle.pair_core.proofs.ShownWindow.{cut_to}
use Rattle.pair_core.proofs.StreamCut.{cut_places}
use Rattle.pair_core.proofs.laws.in_window_is_that_of_places.Goals as goal

pub returns : goal.returns
returns c v s origin l r n left right number =
    let g = stream_segment s 0 0 in
    λ a b d e f h k. sym (cut_to (accepted_window v.rules v) s.seq_number g refl) ∙ ((λ i. cut (left i) (right i) g) ∙ cut_places origin l r n g number a b d e f h k)
