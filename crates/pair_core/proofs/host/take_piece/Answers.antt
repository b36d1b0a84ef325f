use Rattle.std.proofs.Common.{ap, ◌∙◌, length, take, vec_len}
use Rattle.std.specs.Prelude.{min}
use Rattle.pair_core.proofs.HostPieces.{receives_piece}
use Rattle.pair_core.proofs.host.take_piece.Goals as goal

pub returns-clause-call : goal.returns-clause-call
returns-clause-call g c =
    receives_piece _ (vec_len c.args.room) c.args.socket.now.control_block c.recv.result c.recv.new.self.control_block
    (λ lent x h. record {
      count = h.1.0 ∙ ap (λ l. min (vec_len c.args.room) (length l)) h.2;
      read = h.1.1 ∙ ap (take x.0) h.2;
    })
    c.recv.ensures.table
