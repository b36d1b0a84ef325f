use Rattle.std.proofs.Common.{◌≡◌, pos, ◌^◌, min, rules, subst, sym, to_z, w64}
use Rattle.smoltcp_c.specs.Streams.{LendsFree}
use Rattle.smoltcp_c.proofs.Lent.{reserved}
use Rattle.smoltcp_c.proofs.streams.reserved.Goals as goal

pub returns-in-Ok-clause-table : goal.returns-in-Ok-clause-table
returns-in-Ok-clause-table c =
    let e : to_z w64 c.min.result ≡ pos (min c.in-Ok.free.len (2 ^ 30)) = search rules in
    subst (λ z. LendsFree c.args.socket.now.control_block c.args.out.now z c.in-Ok.free c.send-lent.new.self.control_block) (sym e)
    (reserved _ _ (λ shown left r h. (h.0, (h.1, h.2))) c.args.socket.now.control_block c.send-lent.new.self.control_block c.args.out.now c.in-Ok.free c.in-Ok.ensures.table)
