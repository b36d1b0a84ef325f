use Rattle.net_host.proofs.Aim.{ends_what_stands}
use Rattle.net_host.proofs.aims.what_stands_ends.Goals as goal

pub returns : goal.returns
returns c = ends_what_stands
