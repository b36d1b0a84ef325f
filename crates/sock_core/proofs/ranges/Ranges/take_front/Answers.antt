use Rattle.std.proofs.Common.{arith, refl}
use Rattle.sock_core.proofs.Tables.{table_run, table_invariant, table_after_is}
use Rattle.sock_core.proofs.ranges.Ranges.take_front.Goals as goal

pub overflow_cast-self : goal.overflow_cast-self
overflow_cast-self c = omega (arith, table_run _ _ _ _ _ _ _ _ c.self.view_is c.self.invariant (omega (arith, c.self.ranges)) c.requires.some c.requires.small c.run_from-reached.ensures.within c.run_from-reached.ensures.joined)

pub invariant_of-self : goal.invariant_of-self
invariant_of-self c = table_invariant _ _ _ _ _ _ _ _ c.self.view_is c.self.invariant (omega (arith, c.self.ranges)) c.requires.some c.requires.small c.run_from-reached.ensures.within c.run_from-reached.ensures.joined

pub returns-clause-after : goal.returns-clause-after
returns-clause-after c =
    table_after_is _ _ _ _ _ _ _ _ c.self.view_is c.self.invariant (omega (arith, c.self.ranges)) c.requires.some c.requires.small c.run_from-reached.ensures.within c.run_from-reached.ensures.joined _ _ refl refl
