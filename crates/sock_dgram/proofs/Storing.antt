-- What waits in a queue after a packet is stored.
use Rattle.std.proofs.Common.{◌≡◌, ℕ, List, [], ◌∷◌, ◌++◌, true, false, cond, ap, ◌∙◌}
use Rattle.std.specs.Prelude.{if◌then◌else◌}
use Rattle.net_base.specs.Packets.{Packets, packets, made_room, takes}
use Rattle.net_base.proofs.PacketLists.{made_room_packets, packets-append}
use Rattle.sock_dgram.specs.Datagrams.{put, stored_as}

-- what waits after a packet is stored: what waited before, then the packet, where there was room for it
pub stored_queue : {M : Type 0} (size : ℕ) (meta : M) (octets : List ℕ) (old new : Packets M) → new ≡ stored_as size meta octets old → packets new.entries ≡ cond (takes size old) (packets old.entries ++ (meta, octets) ∷ []) (packets old.entries)
stored_queue {M} size meta octets old new is =
    let room : packets (made_room size old).entries ≡ packets old.entries = made_room_packets size old in
    ap (λ (p : Packets M). packets p.entries) is
    ∙ elim (takes size old) as (λ b. packets (if b then put meta octets (made_room size old) else made_room size old).entries ≡ cond b (packets old.entries ++ (meta, octets) ∷ []) (packets old.entries)) [
      | true ↦ packets-append (made_room size old).entries meta octets ∙ ap (λ (l : List (M × List ℕ)). l ++ (meta, octets) ∷ []) room
      | false ↦ room
    ]
