-- `take` moves the host out of the room. Assumes `Logic`.
use Rattle.smoltcp_c.specs.contracts.host.Host.{the_row}
use Rattle.smoltcp_c.proofs.host.Host.TheLaws.{the_row_laws}
use Rattle.smoltcp_c.specs.declared.host.HostRoom.{HostRoom}
use Rattle.smoltcp_c.specs.contracts.host.HostRoom.{the_type}
use Rattle.smoltcp_c.specs.contracts.host.HostRoom.take as f
use Rattle.smoltcp_c.specs.contracts.host.HostRoom.take.Key.{name}
use Rattle.smoltcp_c.proofs.Taking.{take_met}
use Rattle.smoltcp_c.proofs.Owned.{None, entered, refl, tables, tables_of, triple_of}
use Rattle.smoltcp_c.proofs.host.HostRoom.take.Statement.{statement}
use Rattle.smoltcp_c.proofs.host.HostRoom.take.Code as code

pub take_spec : {M : Type 1} → statement M
unfolding tables_of
take_spec 𝓤 𝓛 𝓜 𝓡 wired =
    let 𝓣 = tables 𝓤 𝓛.H 𝓜 𝓡 𝓡.env in
    entered 𝓤 𝓛.H (triple_of 𝓛 f.signature (f.spec 𝓛 𝓜.mem 𝓡.returns)) 𝓣.C 𝓣.Λ name code.function (code.unfolded 𝓤 𝓛.H 𝓜 𝓡 wired)
    (take_met (the_type).name HostRoom (λ d. d.at) (the_type).coded (the_type).exit (the_type).shr_at the_row (λ d. d.made) (λ d. record d { made = None }) (λ d. refl) (λ d. refl)
    the_row_laws 𝓛 (tables_of 𝓤 𝓛.H 𝓜 𝓣) code.function _ _ _ _ _ refl refl refl refl)
