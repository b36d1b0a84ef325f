use Rattle.std.proofs.Common.{◌∙◌, sym, refl, subst}
use Rattle.net_host.specs.Filing.{keys_of}
use Rattle.net_host.specs.Looking.{sleeps}
use Rattle.net_host.specs.Messages.{mail_of}
use Rattle.host_index.specs.Filing.{places_of}
use Rattle.net_host.specs.Refiling.{IsWhole}
use Rattle.net_host.proofs.Sleepers.{each_len}
use Rattle.net_host.proofs.KeptKeys.{mails_keep}
use Rattle.net_host.proofs.Places.{all_filed, unsettled}
use Rattle.net_host.proofs.Touching.{touches_sleep}
use Rattle.net_host.proofs.copies.copy_mail.Goals as goal

pub copy_to-requires : goal.copy_to-requires
copy_to-requires g c = λ whole. all_filed (λ s. keys_of s) c.settle.new.self.complete c.settle.new.self.slots.items c.settle.new.self.index.entries c.settle.new.self.free whole c.settle.ensures.settled

pub invariant_of-sockets : goal.invariant_of-sockets
invariant_of-sockets g c = record {
  indexed = mails_keep (g.C.Context.facts c.args.cx.now) (mail_of c.args.mail.now) c.settle.new.self.complete c.settle.new.self.lent c.settle.new.self.slots.items c.copy_to.new.slots.items c.settle.new.self.index.entries c.settle.new.self.free c.copy_to.ensures.copied c.settle.new.self.indexed;
  asleep = touches_sleep (λ u b s. sleeps u b s) c.settle.new.self.terms c.settle.new.self.bounds c.settle.new.self.slots.items c.copy_to.new.bounds c.copy_to.new.slots.items c.copy_to.ensures.touched c.settle.new.self.asleep;
  as_many = c.copy_to.ensures.len ∙ c.settle.new.self.as_many ∙ sym (each_len _ c.settle.new.self.slots.items c.copy_to.new.slots.items c.copy_to.ensures.copied);
  kept = unsettled refl;
  as_marked = c.settle.new.self.as_marked;
  whole = subst (λ n. IsWhole c.settle.new.self.complete (places_of c.settle.new.self.index) n) (sym (each_len _ c.settle.new.self.slots.items c.copy_to.new.slots.items c.copy_to.ensures.copied)) c.settle.new.self.whole;
}
