use Rattle.std.proofs.Common.{sym, subst}
use Rattle.net_host.specs.Filing.{keys_of}
use Rattle.net_host.specs.Indexing.{AreFiled}
use Rattle.net_host.proofs.Places.{all_filed}
use Rattle.net_host.proofs.unreachable.first_raw.Goals as goal

pub raw_by-requires : goal.raw_by-requires
raw_by-requires g c = λ whole. subst (λ xs. AreFiled (λ s. keys_of s) xs c.settle.new.self.index.entries) (sym c.deref.ensures.value) (all_filed (λ s. keys_of s) c.settle.new.self.complete c.settle.new.self.slots.items c.settle.new.self.index.entries c.settle.new.self.free whole c.settle.ensures.settled)
