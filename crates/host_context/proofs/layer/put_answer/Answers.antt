use Rattle.host_context.specs.Outbox.{octets}
use Rattle.host_context.proofs.Puts.{answered}
use Rattle.host_context.proofs.layer.put_answer.Goals as goal

pub returns-in-Some-clause-added : goal.returns-in-Some-clause-added
returns-in-Some-clause-added g c =
    answered c.args.interface.now.checksums (octets c.args.interface.now.outbox.packets.items) (octets c.put_tcp.new.interface.outbox.packets.items) c.put_tcp.result c.args.answer.now c.in-Some.ip c.in-Some.repr c.in-Some.is c.requires.fits c.put_tcp.ensures.added
