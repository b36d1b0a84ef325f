use Rattle.std.proofs.Common.{◌≡◌, ◌∙◌, ap, rules, to_z, of_z, w64}
use Rattle.smoltcp_c.specs.Answers.{not_accepted}
use Rattle.smoltcp_c.proofs.datagram_packets.smoltcp_udp_process_nonnull.Goals as goal

pub returns-clause-broken : goal.returns-clause-broken
returns-clause-broken c = λ k e.
    let b = c.read_by_udp.ensures.broken e in
    let answer : to_z w64 (of_z w64 c.read_by_udp.result) ≡ not_accepted = search rules in
    let same : c.read_by_udp.new.socket ≡ c.args.h.now.socket = search rules in
    (answer, ap (λ s. record c.args.h.now { socket = s }) same)
