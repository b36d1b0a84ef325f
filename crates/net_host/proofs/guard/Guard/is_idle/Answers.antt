use Rattle.std.proofs.Common.{rules, ◌≡◌, true, refl}
use Rattle.net_host.specs.Guards.{lawful_limit}
use Rattle.net_host.specs.Looking.{has_timeout}
use Rattle.net_host.proofs.Idle.{looks_on, seen_on}
use Rattle.net_host.proofs.guard.Guard.is_idle.Goals as goal

pub returns-then-goes_on-clause-looked : goal.returns-then-goes_on-clause-looked
returns-then-goes_on-clause-looked g c = λ h.
    let timed : has_timeout (lawful_limit c.args.limits.now.timeout) c.args.socket.now.control_block.timeout ≡ true = search (rules, h) in
    looks_on c.args.limits.now c.args.now c.args.socket.now.control_block c.args.self.now c.args.socket.now.control_block.local_seq_no (c.if-still_waits.ensures.phase refl) (c.if-still_waits.ensures.before refl) (c.if-goes_on.ensures.since refl) (c.if-goes_on.ensures.end refl) (c.if-goes_on.ensures.kept refl) (c.if-still_waits.ensures.last refl) timed

pub returns-then-goes_on-clause-seen : goal.returns-then-goes_on-clause-seen
returns-then-goes_on-clause-seen g c = λ h.
    let timed : has_timeout (lawful_limit c.args.limits.now.timeout) c.args.socket.now.control_block.timeout ≡ true = search (rules, h) in
    seen_on c.args.limits.now c.args.now c.args.socket.now.control_block c.args.self.now c.args.socket.now.control_block.local_seq_no (c.if-still_waits.ensures.phase refl) (c.if-still_waits.ensures.before refl) (c.if-goes_on.ensures.end refl) timed
