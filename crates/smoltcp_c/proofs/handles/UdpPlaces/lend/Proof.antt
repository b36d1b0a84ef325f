-- `lend` makes a slice of the places, for good. Assumes `Logic`.
use native.Mathlib.Omega.{arith}
use Rattle.smoltcp_c.specs.Places.{udp_place_row}
use Rattle.smoltcp_c.specs.declared.handles.UdpPlaces.{UdpPlaces}
use Rattle.smoltcp_c.specs.contracts.handles.UdpPlaces.{the_type}
use Rattle.smoltcp_c.specs.contracts.handles.UdpPlaces.lend as f
use Rattle.smoltcp_c.specs.contracts.handles.UdpPlaces.lend.Key.{name}
use Rattle.smoltcp_c.proofs.Owned.{entered, tables, tables_of, triple_of}
use Rattle.smoltcp_c.proofs.Placing.{lend_met}
use Rattle.smoltcp_c.proofs.handles.UdpPlaces.lend.Statement.{statement}
use Rattle.smoltcp_c.proofs.handles.UdpPlaces.lend.Code as code

pub lend_spec : {M : Type 1} → statement M
unfolding tables_of
lend_spec 𝓤 𝓛 𝓜 𝓡 wired =
    let 𝓣 = tables 𝓤 𝓛.H 𝓜 𝓡 𝓡.env in
    entered 𝓤 𝓛.H (triple_of 𝓛 f.signature (f.spec 𝓛 𝓜.mem 𝓡.returns)) 𝓣.C 𝓣.Λ name code.function (code.unfolded 𝓤 𝓛.H 𝓜 𝓡 wired)
    (lend_met (the_type).name UdpPlaces (λ d. d.at) (λ d. d.len) (the_type).coded (the_type).exit (the_type).shr_at udp_place_row tt (λ n h. omega (arith, h)) (λ d z. tt) 𝓛 (tables_of 𝓤 𝓛.H 𝓜 𝓣) code.function)
