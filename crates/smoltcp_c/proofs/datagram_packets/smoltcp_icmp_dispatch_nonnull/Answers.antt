use Rattle.std.proofs.Common.{◌≡◌, refl, rules, sym, to_z, of_z, w64}
use Rattle.smoltcp_c.specs.Context.{facts_in}
use Rattle.smoltcp_c.specs.Icmp.{DispatchesMessage}
use Rattle.smoltcp_c.proofs.datagram_packets.smoltcp_icmp_dispatch_nonnull.Goals as goal

pub returns-clause-table : goal.returns-clause-table
returns-clause-table c = λ k.
    let m : c.in-Some.moment.cx ≡ c.args.cx.now = c.in-Some.ensures.value _ refl in
    let s : c.socket.result.now ≡ c.args.h.now.socket = c.socket.ensures.value in
    let e : to_z w64 (of_z w64 c.sent_by_icmp.result) ≡ c.sent_by_icmp.result = search rules in
    coe 0 1 (i. DispatchesMessage (facts_in (m i)) (s i) c.args.out.now (sym e i) c.sent_by_icmp.new.socket c.sent_by_icmp.new.out) c.sent_by_icmp.ensures
