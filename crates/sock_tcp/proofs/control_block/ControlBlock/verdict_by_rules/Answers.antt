use Rattle.std.proofs.Common.{◌∙◌, sym, ap}
use Rattle.control_wire.specs.Segment.{segment_of}
use Rattle.sock_tcp.specs.Draw.{draws}
use Rattle.sock_tcp.specs.declared.rules.Rules.TheVariants as rules
use Rattle.sock_tcp.proofs.Checking.{draws_by}
use Rattle.sock_tcp.proofs.control_block.ControlBlock.verdict_by_rules.Goals as goal

pub returns-in-Rfc-clause-draws : goal.returns-in-Rfc-clause-draws
returns-in-Rfc-clause-draws c = draws_by rules.Rfc c.args.self.now c.args.now (segment_of c.args.repr.now) ∙ ap (λ x. draws x c.args.self.now.state c.args.repr.now.control) (sym c.checked_verdict.ensures)
