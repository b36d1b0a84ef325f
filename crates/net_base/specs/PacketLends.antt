-- What a packet buffer ends as, where a call lends a part of it.
use Rattle.std.specs.Prelude.{◌≡◌, ℕ, List, length, take, drop, ◌++◌, Some, Result, ⊤}
use Rattle.std.specs.Borrow.{follows_so, Lends, LendsIfOk, MutBor, Fml, RattleType, Array, u8}
use Rattle.std.specs.List.{refill}
use Rattle.net_base.specs.Packets.{Packets, with_storage, skipped, Dequeues, end_of, made_room, appended}
use Rattle.net_base.specs.contracts.packet_buffer.PacketBuffer.{the_row}
use Rattle.net_base.specs.declared.packet_buffer.Full.{Full}
use denote.Param.{copied, param}
use mir.Syntax.{named}
use mathlib.Core.List.{[]}
use mathlib.Core.Option.{none}

-- the padding in front left
abbrev pub ShowsFirst : (H : RattleType) → MutBor (Packets H.Denot) → Fml
ShowsFirst H p =
    let row = the_row (record { mir = named 1; lft = [] }) (copied 0 H) in
    follows_so row row p.ghost_name none (λ _ _. ⊤) (λ v. v ≡ skipped p.now)

-- the first packet left
abbrev pub TakesPacket : (H : RattleType) → MutBor (Packets H.Denot) → Fml
TakesPacket H p =
    let row = the_row (record { mir = named 1; lft = [] }) (copied 0 H) in
    follows_so row row p.ghost_name none (λ _ _. ⊤) (λ v. Dequeues p.now v)

-- the payload bytes end as w, cut or filled up to their count
abbrev pub with_all : {X : Type 0} → Packets X → List ℕ → Packets X
with_all p w = with_storage p (refill (length p.storage) p.storage w)

abbrev pub LendsAll : (H : RattleType) → MutBor (Packets H.Denot) → MutBor (List ℕ) → Fml
LendsAll H p r = Lends (the_row (record { mir = named 1; lft = [] }) (param 0 H)) (Array u8 0) p r (with_all p.now)

-- the storage with w in the place of the size bytes from k on
abbrev pub around : List ℕ → ℕ → ℕ → List ℕ → List ℕ
around bs k size w = take k bs ++ (w ++ drop size (drop k bs))

-- a packet was appended, with w in the place of its bytes
abbrev pub with_packet : {X : Type 0} → ℕ → X → Packets X → List ℕ → Packets X
with_packet size h p w =
    with_all (appended (Some h) size (made_room size p)) (around p.storage (end_of (made_room size p)) size w)

abbrev pub LendsPacket : (H : RattleType) → ℕ → H.Denot → MutBor (Packets H.Denot) → Result (MutBor (List ℕ)) Full → Fml
LendsPacket H size h p r =
    LendsIfOk (the_row (record { mir = named 1; lft = [] }) (copied 0 H)) (Array u8 0) p r (with_packet size h p.now)
    (made_room size p.now)

-- the size bytes from k on end as w
abbrev pub LendsPart : (H : RattleType) → ℕ → ℕ → MutBor (Packets H.Denot) → MutBor (List ℕ) → Fml
LendsPart H k size p r =
    Lends (the_row (record { mir = named 1; lft = [] }) (param 0 H)) (Array u8 0) p r
    (λ w. with_all p.now (around p.now.storage k size w))
