use Rattle.std.proofs.Common.{ap, subst}
use Rattle.ip_wire.specs.contracts.address.IpAddressPartialEq.TheImpl.{eq-value}
use Rattle.control_wire.specs.Segment.{segment_of}
use Rattle.net_host.specs.Receiving.{TakesSegment}
use Rattle.net_host.proofs.KnownAnswers.{known_taken}
use Rattle.net_host.proofs.interface.Interface.take_segment.Goals as goal

pub returns-in-Some-clause-table : goal.returns-in-Some-clause-table
returns-in-Some-clause-table g c = known_taken _ g.W.Words.word_at g.G.TsvalSource.tells c.args.self.now c.hear_known.new.cx c.hear_known.new.limit c.args.sockets.now.slots.items c.known_taker.new.sockets.slots.items c.hear_known.new.sockets.slots.items c.in-Some.i c.args.ip.now (segment_of c.args.repr.now) c.args.out.now c.hear_known.new.out c.hear_known.result c.in-Some.ensures.taker (ap (λ v. v.items) c.known_taker.ensures.slots) c.hear_known.ensures.heard

pub returns-in-None-clause-table : goal.returns-in-None-clause-table
returns-in-None-clause-table g c = subst (λ v. TakesSegment eq-value.it g.W.Words.word_at g.G.TsvalSource.tells c.args.ip.now (segment_of c.args.repr.now) c.args.self.now v.items c.args.out.now c.seek_taker.result c.seek_taker.new.self c.seek_taker.new.sockets.slots.items c.seek_taker.new.out) c.known_taker.ensures.slots c.seek_taker.ensures.table
