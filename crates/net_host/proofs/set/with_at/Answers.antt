use Rattle.std.proofs.Common.{arith}
use Rattle.std.specs.Fn.{FnOnceReturnsAtMut}
use Rattle.net_host.proofs.Changes.{changes_if, stays_if}
use Rattle.net_host.specs.Slots.{LeavesAny}
use Rattle.net_host.proofs.set.with_at.Goals as goal

pub returns-clause-called : goal.returns-clause-called
returns-clause-called g c = changes_if c.with.result (λ r b a. LeavesAny (λ s t. FnOnceReturnsAtMut g.F.FnOnce c.args.f s r t) c.args.handle.generation b a) _ _ _ _ (omega arith) c.index_mut.ensures.value c.with.ensures.called

pub returns-clause-stale : goal.returns-clause-stale
returns-clause-stale g c = stays_if c.with.result _ _ _ _ c.index_mut.ensures.value c.with.ensures.stale
