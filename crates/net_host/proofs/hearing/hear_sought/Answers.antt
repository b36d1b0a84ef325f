use Rattle.std.proofs.Common.{◌∙◌, ap, subst, sym, option_map, rules}
use Rattle.control_wire.specs.Segment.{segment_of}
use Rattle.sock_tcp.specs.Process.{reply_of}
use Rattle.net_host.specs.Cookies.{IsAgain, OpensOn, TakenOn, class_if, course_among, own_of}
use Rattle.net_host.specs.Crowding.{IsLimited}
use Rattle.net_host.specs.Segments.{IsTaker}
use Rattle.net_host.specs.Wire.{with_reply}
use Rattle.net_host.proofs.Opens.{opens_if, opens_on}
use Rattle.net_host.proofs.hearing.hear_sought.Goals as goal

pub returns-clause-taker : goal.returns-clause-taker
returns-clause-taker g c = subst (λ s. IsTaker s.items c.args.ip.now (segment_of c.args.repr.now) c.heard_by-heard.result.taker) c.settle_for.ensures.slots c.heard_by-heard.ensures.taker

pub returns-clause-again : goal.returns-clause-again
returns-clause-again g c = subst (λ s. IsAgain (class_if c.args.cookies.now c.heard_by-heard.result.taker (g.C.Context.facts c.args.cx.now).now (segment_of c.args.repr.now)) s.items c.args.ip.now (segment_of c.args.repr.now) c.heard_by-heard.result.again) c.settle_for.ensures.slots c.heard_by-heard.ensures.again

pub take_heard-requires-clause-opens : goal.take_heard-requires-clause-opens
take_heard-requires-clause-opens g c = subst (λ k. OpensOn k c.settle_for.new.self.slots.items c.args.ip.now (segment_of c.args.repr.now) c.heard_by-heard.result.again) (sym c.heard_by-heard.ensures.course)
    (opens_if c.settle_for.new.self.slots.items c.args.ip.now (segment_of c.args.repr.now) c.heard_by-heard.result.again c.heard_by-heard.result.dropped _ (opens_on c.settle_for.new.self.slots.items c.args.ip.now (segment_of c.args.repr.now) c.heard_by-heard.result.again c.args.cookies.now (own_of c.settle_for.new.self.slots.items c.heard_by-heard.result.taker) c.heard_by-heard.result.taker (g.C.Context.facts c.args.cx.now).now c.heard_by-heard.ensures.again))

pub returns-clause-heard : goal.returns-clause-heard
returns-clause-heard g c = record {
  reply = c.take_heard.new.reply;
  taken = subst (λ s. TakenOn g.C.Context.facts g.C.Context.word_at g.G.TsvalSource.tells c.heard_by-heard.result.course c.heard_by-heard.result.taker c.heard_by-heard.result.again s.items c.args.cx.now c.args.ip.now (segment_of c.args.repr.now) c.take_heard.new.reply c.take_heard.new.sockets.slots.items c.take_heard.new.cx) c.settle_for.ensures.slots c.take_heard.ensures.taken;
  sent = c.keep_within.new.reply;
  within = search rules;
  len = c.put_reply-len.ensures.len;
  octets = c.put_reply-len.ensures.bytes ∙ ap (λ caps. with_reply caps (option_map reply_of c.keep_within.new.reply) c.args.out.now) c.checksum_caps-caps.ensures;
}

pub returns-clause-dropped : goal.returns-clause-dropped
returns-clause-dropped g c = subst (λ s. IsLimited c.args.most s.items c.args.ip.now (segment_of c.args.repr.now) c.heard_by-heard.result.taker (course_among s.items c.args.cookies.now c.heard_by-heard.result.taker c.heard_by-heard.result.again (g.C.Context.facts c.args.cx.now).now c.args.ip.now (segment_of c.args.repr.now)) c.heard_by-heard.result.dropped) c.settle_for.ensures.slots c.heard_by-heard.ensures.dropped
