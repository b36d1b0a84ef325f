use Rattle.progress_laws.proofs.Pairs.{a_can, a_first, b_can, b_first, both_closed}
use Rattle.progress_laws.proofs.pairs_can_go_on.Goals as goal

pub returns-clause-of_a : goal.returns-clause-of_a
returns-clause-of_a g c p i = a_can c.sides_agree.ensures.of_a c.sides_agree.ensures.of_b p i c.agreeing_bytes_arrive.ensures c.agreeing_fin_arrives.ensures

pub returns-clause-of_b : goal.returns-clause-of_b
returns-clause-of_b g c p i = b_can c.sides_agree.ensures.of_a c.sides_agree.ensures.of_b p i c.agreeing_bytes_arrive.ensures c.agreeing_fin_arrives.ensures

pub returns-clause-a_first : goal.returns-clause-a_first
returns-clause-a_first g c p i = a_first c.sides_agree.ensures.of_a c.sides_agree.ensures.of_b p i c.agreeing_streams_arrive.ensures

pub returns-clause-b_first : goal.returns-clause-b_first
returns-clause-b_first g c p i = b_first c.sides_agree.ensures.of_a c.sides_agree.ensures.of_b p i c.agreeing_streams_arrive.ensures

pub returns-clause-closed : goal.returns-clause-closed
returns-clause-closed g c p i = both_closed c.sides_agree.ensures.of_a c.sides_agree.ensures.of_b p i c.agreeing_closers_finish.ensures
