use Rattle.std.proofs.Common.{rules, ◌≡◌, ◌<◌, false, subst, sym, arith}
use Rattle.std.specs.Prelude.{is_none}
use Rattle.net_host.specs.Ports.{Connects, at_port, port_after}
use Rattle.net_host.specs.Walks.{Nowhere}
use Rattle.net_host.proofs.Taken.{goes_on, taken}
use Rattle.net_host.proofs.ports.free_port.Goals as goal

pub loop-k-preserved : goal.loop-k-preserved
loop-k-preserved g c =
    let found : is_none c.connection.result ≡ false = search rules in
    goes_on (λ j. Nowhere (λ s. Connects (at_port c.args.addr (port_after c.args.start j)) c.args.remote.now s) c.args.slots.now) c.loop-k.k c.loop-k.invariant
    (λ n. taken (λ s. Connects (at_port c.args.addr c.port_after-port.result) c.args.remote.now s) c.args.slots.now c.connection.result found c.connection.ensures
    (subst (λ p. Nowhere (λ s. Connects (at_port c.args.addr p) c.args.remote.now s) c.args.slots.now) (sym c.port_after-port.ensures) n))

pub returns : goal.returns
returns g c = λ k within. c.loop-k.invariant k (omega (arith, within))
