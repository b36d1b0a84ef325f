use Rattle.smoltcp_c.specs.Raw.{AcceptsRaw}
use Rattle.smoltcp_c.proofs.Told.{none_for, some_for}
use Rattle.smoltcp_c.proofs.datagram_packets.is_for_raw.Goals as goal

pub returns-in-None : goal.returns-in-None
returns-in-None c = none_for AcceptsRaw c.args.socket.now _ c.in-None.ensures

pub returns-in-Some : goal.returns-in-Some
returns-in-Some c = some_for AcceptsRaw c.args.socket.now _ _ _ c.in-Some.ensures c.accepts.ensures
