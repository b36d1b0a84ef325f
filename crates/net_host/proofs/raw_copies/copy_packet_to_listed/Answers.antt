use Rattle.std.proofs.Common.{None, ◌∙◌, refl, arith, subst}
use Rattle.net_host.specs.Entries.{FindsUnder, IsNextUnder}
use Rattle.net_host.specs.Filing.{raw_key}
use Rattle.net_host.specs.RawCopies.{CopiesPacket}
use Rattle.net_host.proofs.Jumps.{ends, goes_on, starts}
use Rattle.net_host.proofs.Touching.{touches_none, touches_then}
use Rattle.net_host.proofs.KeptKeys.{raw_idle}
use Rattle.net_host.proofs.raw_copies.copy_packet_to_listed.Goals as goal

pub loop-i-init : goal.loop-i-init
loop-i-init g c = record {
  reached = starts (λ b a. CopiesPacket (g.C.Context.facts c.args.cx.now) c.args.ip.now c.args.payload.now b a) c.args.slots.now.items;
  touched = touches_none _ _ _ _ refl refl;
  len = refl;
}

pub copy_packet_at-requires : goal.copy_packet_at-requires
copy_packet_at-requires g c = omega (arith, c.loop-i.invariant.reached.len, c.in-Some.ensures.within)

pub loop-i-preserved : goal.loop-i-preserved
loop-i-preserved g c =
    let next : IsNextUnder c.args.index.now.entries raw_key c.loop-i.from c.len-end.result c.in-Some.i = subst (λ key. IsNextUnder c.args.index.now.entries key c.loop-i.from c.len-end.result c.in-Some.i) c.raw_key-key.ensures.value c.in-Some.ensures in
    record {
      reached = goes_on (λ b a. CopiesPacket (g.C.Context.facts c.args.cx.now) c.args.ip.now c.args.payload.now b a) c.args.slots.now.items c.loop-i.from c.loop-i.slots.items c.loop-i.invariant.reached c.in-Some.i c.copy_packet_at.new.slots.items next.behind
          (λ k h l. raw_idle c.args.slots.now.items c.args.index.now.entries c.requires (g.C.Context.facts c.args.cx.now) c.args.ip.now c.args.payload.now k (next.before k h l))
          c.copy_packet_at.ensures.copied;
      touched = touches_then _ _ _ _ _ _ c.loop-i.invariant.touched c.copy_packet_at.ensures.touched;
      len = c.copy_packet_at.ensures.len ∙ c.loop-i.invariant.len;
    }

pub returns-clause-copied : goal.returns-clause-copied
returns-clause-copied g c =
    let none : FindsUnder c.args.index.now.entries raw_key c.loop-i.from c.len-end.result None = subst (λ key. FindsUnder c.args.index.now.entries key c.loop-i.from c.len-end.result None) c.raw_key-key.ensures.value c.in_default.ensures in
    ends (λ b a. CopiesPacket (g.C.Context.facts c.args.cx.now) c.args.ip.now c.args.payload.now b a) c.args.slots.now.items c.loop-i.from c.loop-i.slots.items c.loop-i.invariant.reached
    (λ k h l. raw_idle c.args.slots.now.items c.args.index.now.entries c.requires (g.C.Context.facts c.args.cx.now) c.args.ip.now c.args.payload.now k (none k h (omega (arith, l))))
