use Rattle.std.proofs.Common.{◌<◌, ◌≤◌, ◌+◌, true, false, length, cond, ◌∙◌, arith}
use Rattle.std.proofs.lemmas.Bool.{lt-ltb}
use Rattle.std.proofs.lemmas.List.{length-set}
use Rattle.net_base.proofs.Sets.{kept, put_before, put_last, or_first, or_true}
use Rattle.net_base.proofs.assembler.with_range.Goals as goal
use Rattle.net_base.proofs.assembler.with_range.Goals.{then-placed-via-then-placed, then-placed-via-else-placed+then-range-low}

pub loop-range-preserved-then-placed : goal.loop-range-preserved-then-placed
loop-range-preserved-then-placed c =
    let l = c.loop-range in
    let room : l.count < length l.all = elim l.placed as (λ b. l.count ≤ l.range-index + cond b 1 0 → l.count < length l.all) [ true ↦ λ h. omega arith | false ↦ λ h. omega arith ] l.invariant.within in
    record {
      long = length-set _ _ _ ∙ l.invariant.long;
      within = omega (arith, l.invariant.within);
      some = omega (arith, l.invariant.some);
      so_far = kept _ _ _ _ _ _ _ _ c.loop-range-test.true l.placed room
          (elim c.then-placed.branch [
            | then-placed-via-then-placed w ↦ or_first l.placed _ w.if-placed.true
            | then-placed-via-else-placed+then-range-low w ↦ or_true l.placed _ (lt-ltb _ _ w.if-range-low.true)
          ]) l.invariant.so_far;
    }

pub loop-range-preserved : goal.loop-range-preserved
loop-range-preserved c =
    let l = c.loop-range in
    let within : l.count ≤ l.range-index + 0 = rw c.if-placed.false at l.invariant.within in
    let so_far = rw c.if-placed.false at l.invariant.so_far in
    record {
      long = length-set _ _ _ ∙ length-set _ _ _ ∙ l.invariant.long;
      within = omega arith;
      some = omega arith;
      so_far = put_before _ _ _ _ _ _ _ _ c.loop-range-test.true (omega (arith, l.invariant.long)) c.if-range-low.false c.if-range-high.false so_far;
    }

pub returns-then-not-placed-clause-ranges : goal.returns-then-not-placed-clause-ranges
returns-then-not-placed-clause-ranges c =
    let l = c.loop-range in
    let within : l.count ≤ l.range-index + 0 = rw c.if-not-placed.true at l.invariant.within in
    let so_far = rw c.if-not-placed.true at l.invariant.so_far in
    put_last _ _ _ _ _ _ _ c.loop-range-test.false (omega (arith, l.invariant.long)) so_far
