-- `udp_place` tells where the socket lies. Assumes `Logic`.
use Rattle.sock_dgram.specs.contracts.udp.socket.Socket.{the_row}
use Rattle.smoltcp_c.specs.contracts.host_lends.udp_place as f
use Rattle.smoltcp_c.specs.contracts.host_lends.udp_place.Key.{name}
use Rattle.smoltcp_c.proofs.Pointing.{at_met}
use Rattle.smoltcp_c.proofs.Owned.{entered, static_lft, tables, tables_of, triple_of}
use Rattle.smoltcp_c.proofs.host_lends.udp_place.Statement.{statement}
use Rattle.smoltcp_c.proofs.host_lends.udp_place.Code as code

pub udp_place_spec : {M : Type 1} → statement M
unfolding tables_of
udp_place_spec 𝓤 𝓛 𝓜 𝓡 wired =
    let 𝓣 = tables 𝓤 𝓛.H 𝓜 𝓡 𝓡.env in
    entered 𝓤 𝓛.H (triple_of 𝓛 f.signature (f.spec 𝓛 𝓜.mem 𝓡.returns)) 𝓣.C 𝓣.Λ name code.function (code.unfolded 𝓤 𝓛.H 𝓜 𝓡 wired)
    (at_met (the_row static_lft) 𝓛 (tables_of 𝓤 𝓛.H 𝓜 𝓣) code.function _ _)
