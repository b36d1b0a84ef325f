-- `downcast_mut` of an ICMP socket meets its contract. Assumes `Logic`.
use mathlib.Core.Path.{refl}
use mathlib.Core.List.{[], ◌∷◌}
use mir.Syntax.{Args, Fn, a_type}
use mir.MapTy.{inst_fn}
use denote.Memory.{lone}
use denote.Param.{layouts}
use denote.Signature.{named_lft}
use Rattle.sock_dgram.specs.contracts.icmp.socket.Socket.{the_row}
use Rattle.smoltcp_socket.specs.Kinds.{icmp_of}
use Rattle.smoltcp_socket.specs.declared.socket.Socket.TheVariants.{Icmp}
use Rattle.smoltcp_socket.specs.contracts.any_socket.IcmpSocketAnySocket.downcast_mut.Key.{name}
use Rattle.smoltcp_socket.proofs.LentKind.{unnamed, lent_met}
use Rattle.smoltcp_socket.proofs.FoundKinds.{found}
use Rattle.smoltcp_socket.proofs.any_socket.IcmpSocketAnySocket.downcast_mut.Statement.{statement}
use Rattle.smoltcp_socket.proofs.any_socket.IcmpSocketAnySocket.downcast_mut.Code as code

pub downcast_mut_spec : {M : Type 1} → statement M
downcast_mut_spec 𝓤 𝓛 𝓜 𝓡 wired G L =
    let args : Args = layouts (a_type ∷ []) (G, tt) in let function : Fn = inst_fn args code.function in
    lent_met G (λ κs. the_row (named_lft 3 1 tt κs)) (λ κs. Icmp) (λ κs. icmp_of) 1 (0 ∷ 2 ∷ 3 ∷ []) (lone (the_row unnamed).mir) refl tt tt
    (λ κs. refl) (λ κs. refl) (λ κs y vs. refl) (λ κs y. refl) function _ _ _ 𝓛 𝓜 𝓡 (name args) (code.unfolded 𝓤 𝓛.H 𝓜 𝓡 wired (G, tt)) (λ κs h. (found h).1)
