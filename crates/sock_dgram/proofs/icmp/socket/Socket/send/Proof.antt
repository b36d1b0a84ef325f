-- `send` of an ICMP socket meets its contract. Assumes `Logic`.
use mathlib.Core.Path.{refl}
use mir.Raw.{raw as raw_ty}
use denote.Exit.{no}
use denote.Param.{layout}
use denote.Param.Laws.{Laws, arg_laws}
use Rattle.net_base.proofs.packet_buffer.PacketBuffer.part_mut.Met.{met as part_mut_met}
use Rattle.sock_dgram.proofs.LentField.{unnamed, place, lends_part}
use Rattle.sock_dgram.proofs.SendWalk.{given, send_met}
use Rattle.sock_dgram.specs.Icmp.{View, with_tx}
use Rattle.std.specs.Prelude.{not}
use Rattle.ip_wire.specs.Address.{is_unspecified}
use Rattle.ip_wire.specs.contracts.address.IpAddress.{the_row as meta_row}
use Rattle.ip_wire.proofs.address.IpAddress.TheLaws.{the_told, the_row_laws, the_within}
use Rattle.sock_dgram.specs.contracts.icmp.socket.Socket.TheInside as inside
use Rattle.sock_dgram.specs.declared.icmp.socket.Socket.{the_code}
use Rattle.sock_dgram.specs.declared.icmp.socket.Socket.TheView.{view, invariant}
use Rattle.sock_dgram.proofs.icmp.socket.Socket.TheInside.TheLaws.{the_loose}
use Rattle.sock_dgram.proofs.icmp.socket.Socket.claim.Met.{met as claim_met}
use Rattle.sock_dgram.specs.contracts.icmp.socket.Socket.send.Key.{name}
use Rattle.sock_dgram.proofs.icmp.socket.Socket.send.Statement.{statement}
use Rattle.sock_dgram.proofs.icmp.socket.Socket.send.Code as code

pub send_spec : {M : Type 1} → statement M
send_spec 𝓤 𝓛 𝓜 𝓡 wired =
    let given_laws : Laws (given meta_row) = arg_laws (raw_ty (layout meta_row)) no meta_row the_row_laws refl in
    send_met View the_code inside.the_row (λ a. view) (λ a. invariant) meta_row (λ v. v.tx_buffer) with_tx (λ v m. not (is_unspecified m)) (λ v p q. refl) the_row_laws the_told given_laws the_within _ _ _ _ _
    (place (inside.the_type unnamed) (the_loose unnamed) 2) refl 𝓛
    (λ at. let T = inside.the_type at in let S = inside.struct at in
    lends_part T (the_loose at) 2 S.as_values S.Ghost S.make (λ v. tt) (λ x. refl) (λ v g. refl) (λ y. y) refl (λ f. refl) refl View the_code view invariant with_tx (λ v. v.tx_buffer) (λ x w. refl) (λ x w k. k) (λ x. refl) 𝓛)
    𝓜 𝓡 code.function name _ _ (code.unfolded 𝓤 𝓛.H 𝓜 𝓡 wired) (claim_met 𝓤 𝓛 𝓜 𝓡 (code.calls-sock_dgram::icmp::socket::Socket::claim 𝓡.env wired))
    (part_mut_met 𝓤 𝓛 𝓜 𝓡 (code.calls-net_base::packet_buffer::PacketBuffer::part_mut 𝓡.env wired) (given meta_row) given_laws)
