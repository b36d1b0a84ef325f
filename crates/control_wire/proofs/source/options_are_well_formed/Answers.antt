use Rattle.std.proofs.Common.{sym, ◌∙◌}
use Rattle.control_wire.proofs.Options.{StepsAt, none_at, steps_at}
use Rattle.control_wire.proofs.source.options_are_well_formed.Goals as goal

pub returns-in_default : goal.returns-in_default
returns-in_default c = sym (sym c.loop-at.invariant.rest ∙ none_at c.args.options.now c.loop-at.at c.loop-at-test.true c.if-options-at-eq0.false (sym c.option_len.ensures ∙ c.in_default.is))

pub loop-at-preserved : goal.loop-at-preserved
loop-at-preserved c =
    let s : StepsAt c.args.options.now c.loop-at.at c.in-Some.length = steps_at c.args.options.now c.loop-at.at c.in-Some.length c.loop-at-test.true c.if-options-at-eq0.false (sym c.option_len.ensures ∙ c.in-Some.is) in
    record { within = s.within; rest = s.same ∙ c.loop-at.invariant.rest }
