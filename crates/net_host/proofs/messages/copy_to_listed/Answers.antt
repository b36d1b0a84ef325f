use Rattle.std.proofs.Common.{None, ◌∙◌, refl, arith, subst}
use Rattle.net_host.specs.Entries.{FindsUnder, IsNextUnder}
use Rattle.net_host.specs.Filing.{icmp_key}
use Rattle.net_host.specs.Messages.{Copies, mail_of}
use Rattle.net_host.proofs.Jumps.{ends, goes_on, starts}
use Rattle.net_host.proofs.Touching.{touches_none, touches_then}
use Rattle.net_host.proofs.KeptKeys.{icmp_idle}
use Rattle.net_host.proofs.messages.copy_to_listed.Goals as goal

pub loop-i-init : goal.loop-i-init
loop-i-init g c = record {
  reached = starts (λ b a. Copies (g.C.Context.facts c.args.cx.now) (mail_of c.args.mail.now) b a) c.args.slots.now.items;
  touched = touches_none _ _ _ _ refl refl;
  len = refl;
}

pub copy_at-requires : goal.copy_at-requires
copy_at-requires g c = omega (arith, c.loop-i.invariant.reached.len, c.in-Some.ensures.within)

pub loop-i-preserved : goal.loop-i-preserved
loop-i-preserved g c =
    let next : IsNextUnder c.args.index.now.entries icmp_key c.loop-i.from c.len-end.result c.in-Some.i = subst (λ key. IsNextUnder c.args.index.now.entries key c.loop-i.from c.len-end.result c.in-Some.i) c.icmp_key-key.ensures.value c.in-Some.ensures in
    record {
      reached = goes_on (λ b a. Copies (g.C.Context.facts c.args.cx.now) (mail_of c.args.mail.now) b a) c.args.slots.now.items c.loop-i.from c.loop-i.slots.items c.loop-i.invariant.reached c.in-Some.i c.copy_at.new.slots.items next.behind
          (λ k h l. icmp_idle c.args.slots.now.items c.args.index.now.entries c.requires (g.C.Context.facts c.args.cx.now) (mail_of c.args.mail.now) k (next.before k h l))
          c.copy_at.ensures.copied;
      touched = touches_then _ _ _ _ _ _ c.loop-i.invariant.touched c.copy_at.ensures.touched;
      len = c.copy_at.ensures.len ∙ c.loop-i.invariant.len;
    }

pub returns-clause-copied : goal.returns-clause-copied
returns-clause-copied g c =
    let none : FindsUnder c.args.index.now.entries icmp_key c.loop-i.from c.len-end.result None = subst (λ key. FindsUnder c.args.index.now.entries key c.loop-i.from c.len-end.result None) c.icmp_key-key.ensures.value c.in_default.ensures in
    ends (λ b a. Copies (g.C.Context.facts c.args.cx.now) (mail_of c.args.mail.now) b a) c.args.slots.now.items c.loop-i.from c.loop-i.slots.items c.loop-i.invariant.reached
    (λ k h l. icmp_idle c.args.slots.now.items c.args.index.now.entries c.requires (g.C.Context.facts c.args.cx.now) (mail_of c.args.mail.now) k (none k h (omega (arith, l))))
