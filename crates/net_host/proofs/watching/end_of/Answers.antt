use Rattle.std.proofs.Common.{rules, Some, subst, sym}
use Rattle.sock_core.specs.Bounds.{IsMoment}
use Rattle.net_host.specs.Remembered.{IsTold}
use Rattle.net_host.proofs.Lawful.{after_told}
use Rattle.net_host.proofs.watching.end_of.Goals as goal

pub returns-in-Some-Some-clause-told : goal.returns-in-Some-Some-clause-told
returns-in-Some-Some-clause-told c =
    let lawful : IsMoment c.in-Some-Some.since.micros = search rules in
    subst (λ t. IsTold (Some t)) (sym c.after.ensures) (after_told c.in-Some-Some.since c.in-Some-Some.limit lawful)
