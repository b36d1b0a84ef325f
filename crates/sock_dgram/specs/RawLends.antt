-- What a raw socket ends as, where a call lends a part of it.
use Rattle.std.specs.Prelude.{◌≡◌, ℕ, List, length, Result}
use Rattle.std.specs.Borrow.{LendsSoOk, MutBor, Fml, Array, u8}
use Rattle.net_base.specs.Packets.{made_room}
use Rattle.sock_dgram.specs.Datagrams.{stored}
use Rattle.sock_dgram.specs.Lends.{lent_first}
use Rattle.sock_dgram.specs.Raw.{View}
use Rattle.sock_dgram.specs.declared.raw.error.SendError.{SendError}
use Rattle.sock_dgram.specs.contracts.raw.socket.Socket.{the_row}
use denote.RattleType.{RattleType}
pub use Rattle.sock_dgram.specs.Lends.{TakesFirst, KeepsFirst}

abbrev pub lender : RattleType
lender = lent_first the_row

-- `send_slice` of the bytes that stand in the slice as the loan ends
abbrev pub LendsPacket : ℕ → MutBor View → Result (MutBor (List ℕ)) SendError → Fml
LendsPacket size s r =
    LendsSoOk lender (Array u8 0) s r
    (λ v w. length w ≡ size → v ≡ record s.now { tx_buffer = stored tt w s.now.tx_buffer })
    (λ v. v ≡ record s.now { tx_buffer = made_room size s.now.tx_buffer })
