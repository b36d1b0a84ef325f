use Rattle.std.proofs.Common.{◌≡◌, true, rules}
use Rattle.net_host.proofs.Telling.{cleared, marked_room}
use Rattle.net_host.proofs.filed.Filed.hear_end.Goals as goal

pub take_off-requires : goal.take_off-requires
take_off-requires g c = marked_room c.args.self.now.ended c.args.place (search rules)
