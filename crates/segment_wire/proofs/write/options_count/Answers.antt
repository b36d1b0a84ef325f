use Rattle.control_wire.specs.Segment.{segment_of}
use Rattle.segment_wire.proofs.Written.{options_count}
use Rattle.segment_wire.proofs.write.options_count.Goals as goal

pub returns : goal.returns
returns c = options_count (segment_of c.args.repr.now)
