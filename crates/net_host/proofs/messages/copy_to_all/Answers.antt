use Rattle.std.proofs.Common.{◌∙◌, refl, arith}
use Rattle.net_host.specs.Messages.{Copies, mail_of}
use Rattle.net_host.proofs.Jumps.{ends, goes_on, starts}
use Rattle.net_host.proofs.Touching.{touches_none, touches_then}
use Rattle.net_host.proofs.messages.copy_to_all.Goals as goal

pub loop-i-init : goal.loop-i-init
loop-i-init g c = record {
  reached = starts (λ b a. Copies (g.C.Context.facts c.args.cx.now) (mail_of c.args.mail.now) b a) c.args.slots.now.items;
  touched = touches_none _ _ _ _ refl refl;
  len = refl;
}

pub copy_at-requires : goal.copy_at-requires
copy_at-requires g c = omega (arith, c.loop-i.invariant.reached.len)

pub loop-i-preserved : goal.loop-i-preserved
loop-i-preserved g c = record {
  reached = goes_on (λ b a. Copies (g.C.Context.facts c.args.cx.now) (mail_of c.args.mail.now) b a) c.args.slots.now.items c.loop-i.i c.loop-i.slots.items c.loop-i.invariant.reached c.loop-i.i c.copy_at.new.slots.items (omega arith) (λ k h l. absurd (omega (arith, h, l))) c.copy_at.ensures.copied;
  touched = touches_then _ _ _ _ _ _ c.loop-i.invariant.touched c.copy_at.ensures.touched;
  len = c.copy_at.ensures.len ∙ c.loop-i.invariant.len;
}

pub returns-clause-copied : goal.returns-clause-copied
returns-clause-copied g c = ends (λ b a. Copies (g.C.Context.facts c.args.cx.now) (mail_of c.args.mail.now) b a) c.args.slots.now.items c.loop-i.i c.loop-i.slots.items c.loop-i.invariant.reached (λ k h l. absurd (omega (arith, h, l)))
