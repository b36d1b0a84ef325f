use Rattle.std.proofs.Common.{ap, drop, refl, sym, ◌∙◌, ◌+◌}
use Rattle.segment_wire.proofs.Steps.{StepsAt, ended_at, none_at, steps_at}
use Rattle.segment_wire.specs.Options.{options_read}
use Rattle.segment_wire.proofs.options.read_options.Goals as goal

pub returns-then-options-at-eq0 : goal.returns-then-options-at-eq0
returns-then-options-at-eq0 c =
    sym (ended_at c.args.options.now c.loop-at.at c.loop-at.found c.loop-at-test.true c.if-options-at-eq0.true) ∙ c.loop-at.invariant.rest

pub returns-in_default : goal.returns-in_default
returns-in_default c =
    sym (none_at c.args.options.now c.loop-at.at c.loop-at.found c.behind.result.now c.behind.ensures c.loop-at-test.true c.if-options-at-eq0.false (sym c.read_option.ensures.size ∙ c.in_default.is)) ∙ c.loop-at.invariant.rest

pub loop-at-preserved : goal.loop-at-preserved
loop-at-preserved c =
    let s : StepsAt c.args.options.now c.loop-at.at c.in-Some.size c.loop-at.found c.behind.result.now =
    steps_at c.args.options.now c.loop-at.at c.in-Some.size c.loop-at.found c.behind.result.now c.behind.ensures c.loop-at-test.true c.if-options-at-eq0.false (sym c.read_option.ensures.size ∙ c.in-Some.is) in
    record {
      within = s.within;
      rest = ap (λ o. options_read 0 o (drop (c.loop-at.at + c.in-Some.size) c.args.options.now)) (c.in-Some.ensures.found refl) ∙ s.same ∙ c.loop-at.invariant.rest;
    }
