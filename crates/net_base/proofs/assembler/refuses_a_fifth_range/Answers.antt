use Rattle.net_base.proofs.Sets.{refused_is_fifth}
use Rattle.net_base.proofs.assembler.refuses_a_fifth_range.Goals as goal

pub returns : goal.returns
returns c = refused_is_fifth
