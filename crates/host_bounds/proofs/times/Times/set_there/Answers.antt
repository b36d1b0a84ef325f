use Rattle.std.proofs.Common.{rules, ◌≡◌, ◌∙◌, ◌/◌, ◌<◌, ◌≤ℤ◌, length, subst, sym, to_z, of_z, w64, arith}
use Rattle.std.specs.Prelude.{slice_set}
use Rattle.std.proofs.lemmas.List.{get_or_default}
use Rattle.host_bounds.specs.Bounding.{Covers, IsBelowAll, IsGreatest, KeepsBut, Nears, NearsBut, at_once, bound_at}
use Rattle.host_bounds.proofs.Layers.{layered, layered_still, nears_but, same_bounds, sets}
use Rattle.host_bounds.proofs.times.Times.set_there.Goals as goal

pub mend-was-requires-clause-near : goal.mend-was-requires-clause-near
mend-was-requires-clause-near c =
    let there : c.args.place < length c.self.inside.places.items = search rules in
    let was : to_z w64 (of_z w64 c.index-was.result.now) ≡ c.index-was.result.now = search rules in
    let is : c.index-was.result.now ≡ bound_at c.self.inside.places.items c.args.place = c.index-was.ensures ∙ get_or_default c.self.inside.places.items c.args.place c.index-was.result.now at_once there in
    let low : KeepsBut c.args.place c.self.inside.places.items c.deref.result.now = subst (λ ps. KeepsBut c.args.place c.self.inside.places.items ps) (sym c.deref.ensures.value) (sets c.self.inside.places.items c.args.place (to_z w64 (of_z w64 c.args.bound))) in
    subst (λ m. NearsBut c.args.place m c.deref.result.now c.self.inside.blocks.items) (sym (was ∙ is)) (nears_but c.self.inside.places.items c.deref.result.now c.self.inside.blocks.items c.args.place low c.self.invariant.layers.blocks_near)

pub mend-was-requires-2-clause-near : goal.mend-was-requires-2-clause-near
mend-was-requires-2-clause-near c =
    let was : to_z w64 (of_z w64 c.mend-was.result) ≡ bound_at c.self.inside.blocks.items (c.args.place / 16) = search rules in
    let low : KeepsBut (c.args.place / 16) c.self.inside.blocks.items c.deref-2.result.now = subst (λ ps. KeepsBut (c.args.place / 16) c.self.inside.blocks.items ps) (sym c.deref-2.ensures.value) c.mend-was.ensures.kept in
    subst (λ m. NearsBut (c.args.place / 16) m c.deref-2.result.now c.self.inside.groups.items) (sym was) (nears_but c.self.inside.blocks.items c.deref-2.result.now c.self.inside.groups.items (c.args.place / 16) low c.self.invariant.layers.groups_near)

pub invariant_of-self : goal.invariant_of-self
invariant_of-self c =
    let placed = sets c.self.inside.places.items c.args.place (to_z w64 (of_z w64 c.args.bound)) in
    let low : Covers (slice_set c.self.inside.places.items c.args.place (to_z w64 (of_z w64 c.args.bound))) c.mend-was.new.high.items = subst (λ ps. Covers ps c.mend-was.new.high.items) c.deref.ensures.value c.mend-was.ensures.covers in
    let low_near : Nears (slice_set c.self.inside.places.items c.args.place (to_z w64 (of_z w64 c.args.bound))) c.mend-was.new.high.items = subst (λ ps. Nears ps c.mend-was.new.high.items) c.deref.ensures.value c.mend-was.ensures.near in
    let there : c.args.place / 16 < length c.mend-was.new.high.items = search rules in
    let now : c.index.result.now ≡ bound_at c.mend-was.new.high.items (c.args.place / 16) = c.index.ensures ∙ get_or_default c.mend-was.new.high.items (c.args.place / 16) c.index.result.now at_once there in
    let is : c.index.result.now ≡ c.mend-was.result = search rules in
    let here : bound_at c.mend-was.new.high.items (c.args.place / 16) ≡ bound_at c.self.inside.blocks.items (c.args.place / 16) = sym now ∙ is ∙ c.mend-was.ensures.result in
    let same = same_bounds c.self.inside.blocks.items c.mend-was.new.high.items (c.args.place / 16) c.mend-was.ensures.kept here in
    record {
      layers = layered_still c.self.inside.places.items c.self.inside.blocks.items c.self.inside.groups.items _ _ _ _ c.self.invariant.layers placed c.mend-was.ensures.kept low low_near same;
      below = c.self.invariant.below;
      greatest = c.self.invariant.greatest;
    }

pub invariant_of-self-then-index-was-2 : goal.invariant_of-self-then-index-was-2
invariant_of-self-then-index-was-2 c =
    let placed = sets c.self.inside.places.items c.args.place (to_z w64 (of_z w64 c.args.bound)) in
    let low : Covers (slice_set c.self.inside.places.items c.args.place (to_z w64 (of_z w64 c.args.bound))) c.mend-was.new.high.items = subst (λ ps. Covers ps c.mend-was.new.high.items) c.deref.ensures.value c.mend-was.ensures.covers in
    let high : Covers c.mend-was.new.high.items c.mend-was-2.new.high.items = subst (λ bs. Covers bs c.mend-was-2.new.high.items) c.deref-2.ensures.value c.mend-was-2.ensures.covers in
    let low_near : Nears (slice_set c.self.inside.places.items c.args.place (to_z w64 (of_z w64 c.args.bound))) c.mend-was.new.high.items = subst (λ ps. Nears ps c.mend-was.new.high.items) c.deref.ensures.value c.mend-was.ensures.near in
    let high_near : Nears c.mend-was.new.high.items c.mend-was-2.new.high.items = subst (λ bs. Nears bs c.mend-was-2.new.high.items) c.deref-2.ensures.value c.mend-was-2.ensures.near in
    let blocks : KeepsBut (c.args.place / 16) c.self.inside.blocks.items c.mend-was.new.high.items = c.mend-was.ensures.kept in
    let groups : KeepsBut (c.args.place / 16 / 16) c.self.inside.groups.items c.mend-was-2.new.high.items = c.mend-was-2.ensures.kept in
    let top : to_z w64 (of_z w64 c.least_between-self-inside.result) ≡ c.least_between-self-inside.result = search rules in
    let many : c.len.result ≡ length c.mend-was-2.new.high.items = search rules in
    let below : IsBelowAll c.least_between-self-inside.result c.mend-was-2.new.high.items = λ k h. subst (λ gs. c.least_between-self-inside.result ≤ℤ bound_at gs k) c.deref-then-index-was-2.ensures.value (c.least_between-self-inside.ensures.below k (omega arith) (subst (λ n. k < n) (sym many) h)) in
    let greatest : IsGreatest c.least_between-self-inside.result c.mend-was-2.new.high.items = λ n most h. c.least_between-self-inside.ensures.greatest n most (λ k from to. subst (λ gs. n ≤ℤ bound_at gs k) (sym c.deref-then-index-was-2.ensures.value) (h k (subst (λ m. k < m) many to))) in
    record {
      layers = layered c.self.inside.places.items c.self.inside.blocks.items c.self.inside.groups.items _ _ _ _ _ _ c.self.invariant.layers placed blocks groups low high low_near high_near;
      below = subst (λ m. IsBelowAll m c.mend-was-2.new.high.items) (sym top) below;
      greatest = subst (λ m. IsGreatest m c.mend-was-2.new.high.items) (sym top) greatest;
    }

pub invariant_of-self-else-index-was-2 : goal.invariant_of-self-else-index-was-2
invariant_of-self-else-index-was-2 c =
    let placed = sets c.self.inside.places.items c.args.place (to_z w64 (of_z w64 c.args.bound)) in
    let low : Covers (slice_set c.self.inside.places.items c.args.place (to_z w64 (of_z w64 c.args.bound))) c.mend-was.new.high.items = subst (λ ps. Covers ps c.mend-was.new.high.items) c.deref.ensures.value c.mend-was.ensures.covers in
    let high : Covers c.mend-was.new.high.items c.mend-was-2.new.high.items = subst (λ bs. Covers bs c.mend-was-2.new.high.items) c.deref-2.ensures.value c.mend-was-2.ensures.covers in
    let low_near : Nears (slice_set c.self.inside.places.items c.args.place (to_z w64 (of_z w64 c.args.bound))) c.mend-was.new.high.items = subst (λ ps. Nears ps c.mend-was.new.high.items) c.deref.ensures.value c.mend-was.ensures.near in
    let high_near : Nears c.mend-was.new.high.items c.mend-was-2.new.high.items = subst (λ bs. Nears bs c.mend-was-2.new.high.items) c.deref-2.ensures.value c.mend-was-2.ensures.near in
    let there : c.args.place / 16 / 16 < length c.mend-was-2.new.high.items = search rules in
    let now : c.index-2.result.now ≡ bound_at c.mend-was-2.new.high.items (c.args.place / 16 / 16) = c.index-2.ensures ∙ get_or_default c.mend-was-2.new.high.items (c.args.place / 16 / 16) c.index-2.result.now at_once there in
    let is : c.index-2.result.now ≡ c.mend-was-2.result = search rules in
    let here : bound_at c.mend-was-2.new.high.items (c.args.place / 16 / 16) ≡ bound_at c.self.inside.groups.items (c.args.place / 16 / 16) = sym now ∙ is ∙ c.mend-was-2.ensures.result in
    let same = same_bounds c.self.inside.groups.items c.mend-was-2.new.high.items (c.args.place / 16 / 16) c.mend-was-2.ensures.kept here in
    record {
      layers = layered c.self.inside.places.items c.self.inside.blocks.items c.self.inside.groups.items _ _ _ _ _ _ c.self.invariant.layers placed c.mend-was.ensures.kept c.mend-was-2.ensures.kept low high low_near high_near;
      below = λ k h. subst (λ b. c.self.inside.top ≤ℤ b) (sym (same k)) (c.self.invariant.below k (subst (λ n. k < n) c.mend-was-2.ensures.kept.len h));
      greatest = λ n most h. c.self.invariant.greatest n most (λ k from. subst (λ b. n ≤ℤ b) (same k) (h k (subst (λ m. k < m) (sym c.mend-was-2.ensures.kept.len) from)));
    }
