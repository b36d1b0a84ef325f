use Rattle.std.proofs.Common.{ℕ, ◌+◌, ◌-◌, get_or, ap, ◌∙◌, sym, arith}
use Rattle.std.proofs.lemmas.List.{length-set}
use Rattle.net_base.specs.Ranges.{range}
use Rattle.net_base.proofs.Sets.{lowered_one, lowered_all}
use Rattle.net_base.proofs.assembler.lowered.Goals as goal

pub loop-range-preserved : goal.loop-range-preserved
loop-range-preserved c =
    let l = c.loop-range in
    record {
      long = length-set _ _ _ ∙ l.invariant.long;
      count = ap (λ (n : ℕ). n + 1) l.invariant.count;
      so_far =
          let rs = c.args.ranges.now in
          let by = c.args.by in
          lowered_one rs l.all l.count by c.saturating_sub.result c.saturating_sub-in-loop-range.result _ (range 0 0)
          (omega (arith, c.loop-range-test.true, l.invariant.count)) (omega (arith, c.loop-range-test.true, l.invariant.long, l.invariant.count, c.requires))
          (c.saturating_sub.ensures ∙ ap (λ j. (get_or rs j (range 0 0)).start - by) (sym l.invariant.count))
          (c.saturating_sub-in-loop-range.ensures ∙ ap (λ j. (get_or rs j (range 0 0)).end - by) (sym l.invariant.count))
          l.invariant.so_far;
    }

pub returns : goal.returns
returns c =
    let l = c.loop-range in
    record {
      long = l.invariant.long;
      ranges = lowered_all _ _ l.count _ _ _ (omega (arith, l.invariant.count, l.auto.range-index-end, c.loop-range-test.false)) (omega (arith, l.invariant.count, c.loop-range-test.false)) l.invariant.so_far;
    }
