-- `socket` lends the socket at the pointer, and the handle follows it. Assumes `Logic`.
use Rattle.sock_tcp.specs.contracts.socket.Socket.{the_row}
use Rattle.sock_tcp.specs.declared.socket.Socket.{Socket}
use Rattle.smoltcp_c.specs.contracts.clock.Clock.{the_row as clock_row}
use Rattle.smoltcp_c.specs.declared.clock.Clock.{Clock}
use Rattle.smoltcp_c.specs.declared.handles.TcpHandle.{TcpHandle}
use Rattle.smoltcp_c.specs.contracts.handles.TcpHandle.{the_type}
use Rattle.smoltcp_c.specs.contracts.handles.TcpHandle.socket as f
use Rattle.smoltcp_c.specs.contracts.handles.TcpHandle.socket.Key.{name}
use Rattle.smoltcp_c.proofs.Lending.{lend_met}
use Rattle.smoltcp_c.proofs.Owned.{entered, refl, static_lft, tables, tables_of, triple_of}
use Rattle.smoltcp_c.proofs.handles.TcpHandle.socket.Statement.{statement}
use Rattle.smoltcp_c.proofs.handles.TcpHandle.socket.Code as code

pub socket_spec : {M : Type 1} → statement M
unfolding tables_of
socket_spec 𝓤 𝓛 𝓜 𝓡 wired =
    let 𝓣 = tables 𝓤 𝓛.H 𝓜 𝓡 𝓡.env in
    entered 𝓤 𝓛.H (triple_of 𝓛 f.signature (f.spec 𝓛 𝓜.mem 𝓡.returns)) 𝓣.C 𝓣.Λ name code.function (code.unfolded 𝓤 𝓛.H 𝓜 𝓡 wired)
    (lend_met (the_type).name TcpHandle (λ h. h.at) (the_type).coded (the_type).exit (the_type).shr_at (the_row static_lft clock_row) (λ h. h.socket) (λ h (w : Socket Clock). record h { socket = w }) (λ h w. refl) (λ h w. refl)
    𝓛 (tables_of 𝓤 𝓛.H 𝓜 𝓣) code.function _ _ _ _ _ refl)
