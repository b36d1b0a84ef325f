use Rattle.std.proofs.Common.{◌≡◌, false, refl, rules, ap}
use Rattle.ip_wire.specs.Checksum.{all_checksums}
use Rattle.ip_wire.specs.declared.checksum.Checksum.TheVariants.{Both}
use Rattle.sock_tcp.specs.Process.{Accepts}
use Rattle.smoltcp_c.specs.Ports.{has_ports}
use Rattle.smoltcp_c.specs.Tcp.{clock, view}
use Rattle.smoltcp_c.proofs.Foreign.{foreign}
use Rattle.smoltcp_c.proofs.packets.smoltcp_tcp_process_nonnull.Goals as goal

pub returns-then-not-has_ports-clause-table : goal.returns-then-not-has_ports-clause-table
returns-then-not-has_ports-clause-table c = λ p k n x.
    let s : c.has_ports.new.h ≡ c.args.h.now = c.has_ports.ensures.same in
    let other : has_ports (view c.args.h.now) c.args.packet.now ≡ false = search rules in
    let never : Accepts (view c.args.h.now) p.ip p.segment → ⊥ = foreign (view c.args.h.now) c.args.packet.now (all_checksums Both) p other x in
    record {
      foreign = λ not_for. (refl, ap view s, ap clock s, refl);
      socket = λ a. absurd (never a);
      clocked = λ a. absurd (never a);
      answer = λ a. absurd (never a);
      bytes = λ a. absurd (never a);
    }
