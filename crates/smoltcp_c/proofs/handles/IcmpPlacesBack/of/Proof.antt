-- `of` takes places back that were lent for good. Assumes `Logic`.
use Rattle.smoltcp_c.specs.Places.{icmp_place_row}
use Rattle.smoltcp_c.specs.declared.handles.IcmpPlacesBack.{IcmpPlacesBack}
use Rattle.smoltcp_c.specs.contracts.handles.IcmpPlacesBack.{the_type}
use Rattle.smoltcp_c.specs.contracts.handles.IcmpPlacesBack.of as f
use Rattle.smoltcp_c.specs.contracts.handles.IcmpPlacesBack.of.Key.{name}
use Rattle.smoltcp_c.proofs.Owned.{entered, refl, tables, tables_of, triple_of, true}
use Rattle.smoltcp_c.proofs.Returning.{return_met}
use Rattle.smoltcp_c.proofs.handles.IcmpPlacesBack.of.Statement.{statement}
use Rattle.smoltcp_c.proofs.handles.IcmpPlacesBack.of.Code as code

pub of_spec : {M : Type 1} → statement M
unfolding tables_of
of_spec 𝓤 𝓛 𝓜 𝓡 wired =
    let 𝓣 = tables 𝓤 𝓛.H 𝓜 𝓡 𝓡.env in
    entered 𝓤 𝓛.H (triple_of 𝓛 f.signature (f.spec 𝓛 𝓜.mem 𝓡.returns)) 𝓣.C 𝓣.Λ name code.function (code.unfolded 𝓤 𝓛.H 𝓜 𝓡 wired)
    (return_met (the_type).name IcmpPlacesBack (λ d. d.at) (λ d. d.len) (λ d. d.given) (the_type).coded (the_type).exit (the_type).shr_at icmp_place_row (λ p n. record { at = p; len = n; given = true }) (λ p n. refl) (λ p n. refl) (λ p n. refl) 𝓛 (tables_of 𝓤 𝓛.H 𝓜 𝓣) code.function _)
