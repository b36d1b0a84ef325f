-- What a UDP socket ends as, where a call lends a part of it.
use Rattle.std.specs.Prelude.{◌≡◌, ℕ, List, length, Result}
use Rattle.std.specs.Borrow.{LendsSoOk, MutBor, Fml, Array, u8}
use Rattle.sock_dgram.specs.Lends.{lent_first}
use Rattle.sock_dgram.specs.Udp.{View, after_send, refused_send}
use Rattle.sock_dgram.specs.declared.udp.socket.UdpMetadata.{UdpMetadata}
use Rattle.sock_dgram.specs.declared.error.SendError.{SendError}
use Rattle.sock_dgram.specs.contracts.udp.socket.Socket.{the_row}
use denote.RattleType.{RattleType}
pub use Rattle.sock_dgram.specs.Lends.{TakesFirst, KeepsFirst}

abbrev pub lender : RattleType
lender = lent_first the_row

-- `send_slice` of the bytes that stand in the slice as the loan ends
abbrev pub LendsDatagram : ℕ → UdpMetadata → MutBor View → Result (MutBor (List ℕ)) SendError → Fml
LendsDatagram size m s r =
    LendsSoOk lender (Array u8 0) s r (λ v w. length w ≡ size → v ≡ after_send s.now m w)
    (λ v. v ≡ refused_send s.now m size)
