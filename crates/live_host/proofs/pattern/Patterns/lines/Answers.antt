use Rattle.std.proofs.Common.{arith}
use Rattle.live_host.proofs.Periods.{piece_of_lines}
use Rattle.live_host.proofs.pattern.Patterns.lines.Goals as goal

pub returns-clause-bytes : goal.returns-clause-bytes
returns-clause-bytes c = λ k h. piece_of_lines c.args.self.now.lines c.args.self.now.lined c.args.at _ k (omega arith) h
