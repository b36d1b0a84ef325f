-- What the enum of all kinds is once the socket that it lent is given back.
use Rattle.std.specs.Prelude.{Option, []}
use Rattle.std.specs.Borrow.{LendsIf, Fml, RattleType, MutBor}
use Rattle.smoltcp_socket.specs.declared.socket.Socket.{Socket}
use Rattle.smoltcp_socket.specs.contracts.socket.Socket.{the_row}
use mir.Syntax.{named}

-- it holds what was left behind the reference to the kind K; where none was lent it is as before
abbrev pub lends_kind : (G K : RattleType) → MutBor (Socket G.Denot) → Option (MutBor K.Denot)
    → (K.Denot → Socket G.Denot) → Fml
lends_kind G K e r held = LendsIf (the_row (record { mir = named 0; lft = [] }) G) K e r held e.now
