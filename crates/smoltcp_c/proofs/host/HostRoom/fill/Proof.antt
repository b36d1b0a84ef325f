-- `fill` writes the host into the room. Assumes `Logic`.
use Rattle.smoltcp_c.specs.declared.host.Host.{Host}
use Rattle.smoltcp_c.specs.contracts.host.Host.{the_row}
use Rattle.smoltcp_c.proofs.host.Host.TheLaws.{the_row_laws}
use Rattle.smoltcp_c.specs.declared.host.HostRoom.{HostRoom}
use Rattle.smoltcp_c.specs.contracts.host.HostRoom.{the_type}
use Rattle.smoltcp_c.specs.contracts.host.HostRoom.fill as f
use Rattle.smoltcp_c.specs.contracts.host.HostRoom.fill.Key.{name}
use Rattle.smoltcp_c.proofs.Filling.{fill_met}
use Rattle.smoltcp_c.proofs.Owned.{Some, entered, no, refl, tables, tables_of, triple_of}
use Rattle.smoltcp_c.proofs.host.HostRoom.fill.Statement.{statement}
use Rattle.smoltcp_c.proofs.host.HostRoom.fill.Code as code

pub fill_spec : {M : Type 1} → statement M
unfolding tables_of
fill_spec 𝓤 𝓛 𝓜 𝓡 wired =
    let 𝓣 = tables 𝓤 𝓛.H 𝓜 𝓡 𝓡.env in
    entered 𝓤 𝓛.H (triple_of 𝓛 f.signature (f.spec 𝓛 𝓜.mem 𝓡.returns)) 𝓣.C 𝓣.Λ name code.function (code.unfolded 𝓤 𝓛.H 𝓜 𝓡 wired)
    (fill_met (the_type).name HostRoom (λ d. d.at) (the_type).coded (the_type).exit (the_type).shr_at the_row (λ d. d.made) (λ d (x : Host). record d { made = Some x }) (λ d x. refl) (λ d x. refl) no
    the_row_laws (λ x z. tt) 𝓛 (tables_of 𝓤 𝓛.H 𝓜 𝓣) code.function _ _ refl _ _ _ refl refl refl)
