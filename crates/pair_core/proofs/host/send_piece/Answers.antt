use Rattle.std.proofs.Common.{ap, ◌∙◌, sym, length, take}
use Rattle.std.specs.Prelude.{min}
use Rattle.pair_core.proofs.HostPieces.{sends_piece}
use Rattle.pair_core.proofs.host.send_piece.Goals as goal

pub returns-clause-call : goal.returns-clause-call
returns-clause-call g c =
    sends_piece _ c.args.size c.args.bytes.now c.args.socket.now.control_block c.send.result c.send.new.self.control_block
    (λ lent x left h. record {
      count = h.met.0 ∙ ap (λ l. min c.args.size (min (length c.args.bytes.now) (length l))) h.shows;
      same = h.met.1.0;
      written = ap (take x.0) (sym h.leaves) ∙ h.met.1.1;
    })
    c.send.ensures.table
