use Rattle.std.proofs.Common.{◌≡◌, ◌<◌, length, get_or, refl, true, false, arith}
use Rattle.host_index.specs.Entries.{nothing}
use Rattle.net_host.specs.Datagrams.{TakesDatagram}
use Rattle.net_host.proofs.Runs.{at_end, before_key, behind_key, here_first, not_there, passes}
use Rattle.net_host.proofs.datagrams.first_under.Goals.{in-Before, in-Under+else-takes_at}
use Rattle.net_host.proofs.datagrams.first_under.Goals as goal

no_truth : false ≡ true → ⊥
no_truth e = cc

pub returns-then-takes_at : goal.returns-then-takes_at
returns-then-takes_at g c =
    let within : c.loop-p.p < length c.args.index.now.entries = omega arith in
    here_first (TakesDatagram (g.C.Context.facts c.args.cx.now) c.args.ip.now c.args.repr.now) c.args.slots.now c.args.index.now.entries c.args.key c.loop-p.p c.get-entry.result c.requires c.lower-p.ensures.sorted c.loop-p.invariant within c.get-entry.ensures c.in-Under.ensures.0 c.in-Under.ensures.1 (c.if-takes_at.ensures.0 refl).within (c.if-takes_at.ensures.0 refl).holds

pub returns-in-Behind : goal.returns-in-Behind
returns-in-Behind g c =
    let within : c.loop-p.p < length c.args.index.now.entries = omega arith in
    behind_key (TakesDatagram (g.C.Context.facts c.args.cx.now) c.args.ip.now c.args.repr.now) c.args.slots.now c.args.index.now.entries c.args.key c.loop-p.p c.get-entry.result c.requires c.lower-p.ensures.sorted c.loop-p.invariant within c.get-entry.ensures (omega arith) c.in-Behind.ensures

pub loop-p-preserved : goal.loop-p-preserved
loop-p-preserved g c =
    let within : c.loop-p.p < length c.args.index.now.entries = omega arith in
    let is : c.get-entry.result ≡ get_or c.args.index.now.entries c.loop-p.p nothing = c.get-entry.ensures in
    elim c.match-stands.branch [
      | in-Before w ↦ before_key (TakesDatagram (g.C.Context.facts c.args.cx.now) c.args.ip.now c.args.repr.now) c.args.slots.now c.args.index.now.entries c.args.key c.loop-p.p c.get-entry.result c.loop-p.invariant is w.in-Before.ensures
      | in-Under+else-takes_at w ↦ passes (TakesDatagram (g.C.Context.facts c.args.cx.now) c.args.ip.now c.args.repr.now) c.args.slots.now c.args.index.now.entries c.args.key c.loop-p.p c.get-entry.result c.loop-p.invariant is (not_there (TakesDatagram (g.C.Context.facts c.args.cx.now) c.args.ip.now c.args.repr.now) c.args.slots.now c.get-entry.result.place (λ h. no_truth (w.if-takes_at.ensures.1 h)))
    ]

pub returns : goal.returns
returns g c = at_end (TakesDatagram (g.C.Context.facts c.args.cx.now) c.args.ip.now c.args.repr.now) c.args.slots.now c.args.index.now.entries c.args.key c.loop-p.p c.requires c.loop-p.invariant (omega arith)
