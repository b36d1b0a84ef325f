-- `fill` writes the place into the room. Assumes `Logic`.
use Rattle.net_base.proofs.packet_buffer.PacketMetadata.TheLaws.{the_row_laws}
use Rattle.net_base.specs.declared.packet_buffer.PacketMetadata.{PacketMetadata}
use Rattle.ip_wire.specs.contracts.address.IpAddress.{the_row as meta_row}
use Rattle.ip_wire.specs.declared.address.IpAddress.{IpAddress}
use Rattle.ip_wire.proofs.address.IpAddress.TheLaws.{the_row_laws as meta_laws}
use Rattle.smoltcp_c.specs.Places.{icmp_place_row}
use Rattle.smoltcp_c.specs.declared.handles.IcmpPlaceRoom.{IcmpPlaceRoom}
use Rattle.smoltcp_c.specs.contracts.handles.IcmpPlaceRoom.{the_type}
use Rattle.smoltcp_c.specs.contracts.handles.IcmpPlaceRoom.fill as f
use Rattle.smoltcp_c.specs.contracts.handles.IcmpPlaceRoom.fill.Key.{name}
use Rattle.smoltcp_c.proofs.Filling.{copy_met}
use Rattle.smoltcp_c.proofs.Owned.{Some, entered, refl, tables, tables_of, triple_of, yes}
use Rattle.smoltcp_c.proofs.handles.IcmpPlaceRoom.fill.Statement.{statement}
use Rattle.smoltcp_c.proofs.handles.IcmpPlaceRoom.fill.Code as code

pub fill_spec : {M : Type 1} → statement M
unfolding tables_of
fill_spec 𝓤 𝓛 𝓜 𝓡 wired =
    let 𝓣 = tables 𝓤 𝓛.H 𝓜 𝓡 𝓡.env in
    entered 𝓤 𝓛.H (triple_of 𝓛 f.signature (f.spec 𝓛 𝓜.mem 𝓡.returns)) 𝓣.C 𝓣.Λ name code.function (code.unfolded 𝓤 𝓛.H 𝓜 𝓡 wired)
    (copy_met (the_type).name IcmpPlaceRoom (λ d. d.at) (the_type).coded (the_type).exit (the_type).shr_at icmp_place_row (λ d. d.made) (λ d (x : PacketMetadata IpAddress). record d { made = Some x }) (λ d x. refl) (λ d x. refl) yes
    (the_row_laws meta_row meta_laws) (λ x z. tt) 𝓛 (tables_of 𝓤 𝓛.H 𝓜 𝓣) code.function _ _ refl _ _ refl refl)
