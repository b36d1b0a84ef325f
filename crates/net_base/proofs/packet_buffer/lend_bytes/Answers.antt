use Rattle.std.proofs.Common.{◌≤◌, ◌+◌, ◌-◌, length, take, drop, refl, arith, length-take}
use Rattle.net_base.proofs.packet_buffer.lend_bytes.Goals as goal

pub returns-clause-size : goal.returns-clause-size
returns-clause-size g c =
    let within : c.f.result ≤ length (take (c.args.from + c.args.count - c.args.from) (drop c.args.from c.args.places.now)) =
    c.requires.sized _ _ _ (record { shown = _; shows = refl; left = _; met = c.f.ensures; leaves = refl }) in
    omega (arith, length-take (c.args.from + c.args.count - c.args.from) (drop c.args.from c.args.places.now))
