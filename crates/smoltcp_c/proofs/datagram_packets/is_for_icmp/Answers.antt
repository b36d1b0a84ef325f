use Rattle.smoltcp_c.specs.Context.{facts_in}
use Rattle.smoltcp_c.specs.Icmp.{AcceptsMessage}
use Rattle.smoltcp_c.proofs.Told.{none_for, some_for}
use Rattle.smoltcp_c.proofs.datagram_packets.is_for_icmp.Goals as goal

pub returns-in-None : goal.returns-in-None
returns-in-None c = none_for (AcceptsMessage (facts_in c.args.moment.now.cx)) c.args.socket.now _ c.in-None.ensures

pub returns-in-Some : goal.returns-in-Some
returns-in-Some c = some_for (AcceptsMessage (facts_in c.args.moment.now.cx)) c.args.socket.now _ _ _ c.in-Some.ensures c.is_for.ensures
