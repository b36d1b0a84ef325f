use Rattle.std.proofs.Common.{◌<◌, rules}
use Rattle.smoltcp_c.proofs.Lent.{beyond_free}
use Rattle.smoltcp_c.proofs.streams.committed.Goals as goal

pub returns-else-count-there-clause-table : goal.returns-else-count-there-clause-table
returns-else-count-there-clause-table c =
    let more : c.in-Ok.there < c.args.count = search rules in
    beyond_free _ _ c.args.count (λ shown left r h. (h.0, (h.1, h.2))) c.args.socket.now.control_block c.send-sent.new.self.control_block c.in-Ok.there more c.in-Ok.ensures.table
