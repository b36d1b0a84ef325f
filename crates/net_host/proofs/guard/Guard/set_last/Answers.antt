use Rattle.net_host.proofs.Lawful.{lawful_told}
use Rattle.net_host.proofs.guard.Guard.set_last.Goals as goal

pub micros_of-self-inside-requires : goal.micros_of-self-inside-requires
micros_of-self-inside-requires c = lawful_told c.args.last c.requires
