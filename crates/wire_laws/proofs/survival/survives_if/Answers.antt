use Rattle.std.proofs.Common.{rules, ◌≡◌, Some, ap, option_map}
use Rattle.sock_tcp.specs.Process.{reply_of}
use Rattle.wire_laws.proofs.survival.survives_if.Goals as goal

pub what_fits_survives-requires : goal.what_fits_survives-requires
what_fits_survives-requires c =
    let is : c.args.reply.now ≡ Some (c.in-Some.ip_repr, c.in-Some.repr) = search rules in
    c.requires (reply_of (c.in-Some.ip_repr, c.in-Some.repr)) (ap (option_map reply_of) is)
