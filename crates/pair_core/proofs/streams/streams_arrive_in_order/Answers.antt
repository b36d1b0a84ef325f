use Rattle.std.specs.declared.option.Option.TheVariants.{Some}
use Rattle.pair_core.proofs.NetworkRuns.{always_delivers, always_completes, always_ends}
use Rattle.pair_core.proofs.streams.streams_arrive_in_order.Goals as goal

pub returns : goal.returns
returns c = record {
  delivers = λ limit below. always_delivers (Some limit) below;
  completes = λ limit below. always_completes (Some limit) below;
  ends = λ limit below. always_ends (Some limit) below;
}
