use Rattle.std.specs.declared.option.Option.TheVariants.{None}
use Rattle.pair_core.proofs.NetworkRuns.{always_delivers, always_completes, always_ends}
use Rattle.pair_core.proofs.streams.long_streams_arrive_in_order.Goals as goal

pub returns : goal.returns
returns c = record { delivers = always_delivers None tt; completes = always_completes None tt; ends = always_ends None tt }
