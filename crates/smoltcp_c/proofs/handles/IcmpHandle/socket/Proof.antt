-- `socket` lends the socket at the pointer, and the handle follows it. Assumes `Logic`.
use Rattle.sock_dgram.specs.Icmp.{View}
use Rattle.sock_dgram.specs.contracts.icmp.socket.Socket.{the_row}
use Rattle.smoltcp_c.specs.declared.handles.IcmpHandle.{IcmpHandle}
use Rattle.smoltcp_c.specs.contracts.handles.IcmpHandle.{the_type}
use Rattle.smoltcp_c.specs.contracts.handles.IcmpHandle.socket as f
use Rattle.smoltcp_c.specs.contracts.handles.IcmpHandle.socket.Key.{name}
use Rattle.smoltcp_c.proofs.Lending.{lend_met}
use Rattle.smoltcp_c.proofs.Owned.{entered, refl, static_lft, tables, tables_of, triple_of}
use Rattle.smoltcp_c.proofs.handles.IcmpHandle.socket.Statement.{statement}
use Rattle.smoltcp_c.proofs.handles.IcmpHandle.socket.Code as code

pub socket_spec : {M : Type 1} → statement M
unfolding tables_of
socket_spec 𝓤 𝓛 𝓜 𝓡 wired =
    let 𝓣 = tables 𝓤 𝓛.H 𝓜 𝓡 𝓡.env in
    entered 𝓤 𝓛.H (triple_of 𝓛 f.signature (f.spec 𝓛 𝓜.mem 𝓡.returns)) 𝓣.C 𝓣.Λ name code.function (code.unfolded 𝓤 𝓛.H 𝓜 𝓡 wired)
    (lend_met (the_type).name IcmpHandle (λ h. h.at) (the_type).coded (the_type).exit (the_type).shr_at (the_row static_lft) (λ h. h.socket) (λ h (w : View). record h { socket = w }) (λ h w. refl) (λ h w. refl)
    𝓛 (tables_of 𝓤 𝓛.H 𝓜 𝓣) code.function _ _ _ _ _ refl)
