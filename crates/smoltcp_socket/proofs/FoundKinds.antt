-- A value of the enum of all kinds is of a kind, or is not.
use mathlib.Core.Path.{refl}
use mathlib.Core.Logic.{inl, inr}
use Rattle.smoltcp_socket.proofs.LentKind.{Found}
use Rattle.smoltcp_socket.specs.Kinds.{raw_of, icmp_of, udp_of, tcp_of}
use Rattle.smoltcp_socket.specs.declared.socket.Socket.{Socket}
use Rattle.smoltcp_socket.specs.declared.socket.Socket.TheVariants.{Raw, Icmp, Udp, Tcp}

pub found : {G : Type 0} (h : Socket G) → Found 0 Raw raw_of h × Found 1 Icmp icmp_of h × Found 2 Udp udp_of h × Found 3 Tcp tcp_of h
found (Raw y) = (inl (y, refl), inr (tt, refl), inr (tt, refl), inr (tt, refl))
found (Icmp y) = (inr (tt, refl), inl (y, refl), inr (tt, refl), inr (tt, refl))
found (Udp y) = (inr (tt, refl), inr (tt, refl), inl (y, refl), inr (tt, refl))
found (Tcp y) = (inr (tt, refl), inr (tt, refl), inr (tt, refl), inl (y, refl))
