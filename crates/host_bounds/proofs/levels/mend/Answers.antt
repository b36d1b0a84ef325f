use Rattle.std.proofs.Common.{rules, ◌≡◌, ◌∙◌, ◌/◌, ◌<◌, length, subst, sym, to_z, of_z, w64, arith, slice_index_or, pos}
use Rattle.std.specs.Prelude.{slice_set, ◌≤ℤ◌, ◌<ℤ◌}
use Rattle.std.proofs.lemmas.Int.{ints}
use Rattle.std.proofs.lemmas.List.{get_or_default}
use Rattle.host_bounds.specs.Bounding.{Covers, Nears, at_once, bound_at}
use Rattle.host_bounds.proofs.Layers.{covers_by, nears_set, nears_still}
use Rattle.host_bounds.proofs.levels.mend.Goals as goal

pub returns-then-was-old-clause-covers : goal.returns-then-was-old-clause-covers
returns-then-was-old-clause-covers c =
    let same : to_z w64 (of_z w64 c.least_beside.result) ≡ c.least_beside.result = search rules in
    let there : c.args.place / 16 < length c.args.high.now.items = search rules in
    subst (λ m. Covers c.args.low.now (slice_set c.args.high.now.items (c.args.place / 16) m)) (sym same)
    (covers_by c.args.low.now c.args.high.now.items c.args.place c.least_beside.result there c.requires.others c.least_beside.ensures.below)

pub returns-then-was-old-clause-near : goal.returns-then-was-old-clause-near
returns-then-was-old-clause-near c =
    let same : to_z w64 (of_z w64 c.least_beside.result) ≡ c.least_beside.result = search rules in
    let there : c.args.place / 16 < length c.args.high.now.items = search rules in
    subst (λ m. Nears c.args.low.now (slice_set c.args.high.now.items (c.args.place / 16) m)) (sym same)
    (nears_set c.args.low.now c.args.high.now.items c.args.place c.args.was c.least_beside.result there c.requires.near c.least_beside.ensures.greatest)

pub returns-else-was-old-clause-near : goal.returns-else-was-old-clause-near
returns-else-was-old-clause-near c =
    let there : c.args.place / 16 < length c.args.high.now.items = search rules in
    let old : c.index-old.result.now ≡ bound_at c.args.high.now.items (c.args.place / 16) = c.index-old.ensures ∙ get_or_default c.args.high.now.items (c.args.place / 16) c.index-old.result.now at_once there in
    let low : slice_index_or c.args.low.now c.args.place (pos 0) ≡ bound_at c.args.low.now c.args.place = get_or_default c.args.low.now c.args.place (pos 0) at_once c.requires.within in
    let lower : c.index-old.result.now ≤ℤ slice_index_or c.args.low.now c.args.place (pos 0) = search rules in
    let other : c.args.was ≡ c.index-old.result.now → ⊥ = search rules in
    let above : bound_at c.args.high.now.items (c.args.place / 16) ≤ℤ c.args.was = c.requires.was in
    let higher : bound_at c.args.high.now.items (c.args.place / 16) <ℤ c.args.was = grind (arith, ints, old, other, above) in
    nears_still c.args.low.now c.args.high.now.items c.args.place c.args.was there higher (subst (λ m. m ≤ℤ bound_at c.args.low.now c.args.place) old (subst (λ m. c.index-old.result.now ≤ℤ m) low lower)) c.requires.near
