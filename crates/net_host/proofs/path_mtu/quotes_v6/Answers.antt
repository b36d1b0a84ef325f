use Rattle.std.proofs.Common.{◌≡◌, ◌∙◌, ◌-◌, ap, arith, length, length-drop}
use Rattle.net_host.proofs.path_mtu.quotes_v6.Goals as goal

pub said_of-requires : goal.said_of-requires
said_of-requires c =
    let long : length c.behind.result.now ≡ length c.args.packet.now - 40 = ap length c.behind.ensures ∙ length-drop 40 c.args.packet.now in
    omega (arith, long)
