use Rattle.std.proofs.Common.{◌≡◌, refl, rules, sym, ◌∙◌, to_z, of_z, w64}
use Rattle.std.proofs.lemmas.Option.{same_Some}
use Rattle.smoltcp_c.specs.Context.{facts_in}
use Rattle.smoltcp_c.specs.Icmp.{HearsMessage, icmp_packet_of}
use Rattle.smoltcp_c.proofs.datagram_packets.smoltcp_icmp_process_nonnull.Goals as goal

pub returns-clause-table : goal.returns-clause-table
returns-clause-table c = λ p k x.
    let m : c.in-Some.moment.cx ≡ c.args.cx.now = c.in-Some.ensures.value _ refl in
    let s : c.socket.result.now ≡ c.args.h.now.socket = c.socket.ensures.value in
    let f : icmp_packet_of c.in-Some-read.found ≡ p = same_Some _ _ (c.in-Some-read.ensures ∙ x) in
    let e : to_z w64 (of_z w64 c.heard_by_icmp.result) ≡ c.heard_by_icmp.result = search rules in
    coe 0 1 (i. HearsMessage (facts_in (m i)) (s i) (f i) (sym e i) c.heard_by_icmp.new.socket) c.heard_by_icmp.ensures
