-- `host` lends the host at the pointer, and the handle follows it. Assumes `Logic`.
use Rattle.smoltcp_c.specs.declared.host.Host.{Host}
use Rattle.smoltcp_c.specs.contracts.host.Host.{the_row}
use Rattle.smoltcp_c.specs.declared.host.HostHandle.{HostHandle}
use Rattle.smoltcp_c.specs.contracts.host.HostHandle.{the_type}
use Rattle.smoltcp_c.specs.contracts.host.HostHandle.host as f
use Rattle.smoltcp_c.specs.contracts.host.HostHandle.host.Key.{name}
use Rattle.smoltcp_c.proofs.Lending.{lend_met}
use Rattle.smoltcp_c.proofs.Owned.{entered, refl, tables, tables_of, triple_of}
use Rattle.smoltcp_c.proofs.host.HostHandle.host.Statement.{statement}
use Rattle.smoltcp_c.proofs.host.HostHandle.host.Code as code

pub host_spec : {M : Type 1} → statement M
unfolding tables_of
host_spec 𝓤 𝓛 𝓜 𝓡 wired =
    let 𝓣 = tables 𝓤 𝓛.H 𝓜 𝓡 𝓡.env in
    entered 𝓤 𝓛.H (triple_of 𝓛 f.signature (f.spec 𝓛 𝓜.mem 𝓡.returns)) 𝓣.C 𝓣.Λ name code.function (code.unfolded 𝓤 𝓛.H 𝓜 𝓡 wired)
    (lend_met (the_type).name HostHandle (λ h. h.at) (the_type).coded (the_type).exit (the_type).shr_at the_row (λ h. h.host) (λ h (w : Host). record h { host = w }) (λ h w. refl) (λ h w. refl)
    𝓛 (tables_of 𝓤 𝓛.H 𝓜 𝓣) code.function _ _ _ _ _ refl)
