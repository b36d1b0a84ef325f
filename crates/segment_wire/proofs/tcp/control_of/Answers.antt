use Rattle.segment_wire.proofs.Controls.{read}
use Rattle.segment_wire.proofs.tcp.control_of.Goals as goal

pub returns : goal.returns
returns c = read _ c.args.flags
