-- A packet that was appended as its bytes stood is the bytes that are then written there.
use Rattle.std.proofs.Common.{◌≡◌, ℕ, List, length, take, drop, Bool, true, refl, sym, ap, ◌∙◌, arith, length-drop, length-take-le}
use Rattle.std.specs.Prelude.{if◌then◌else◌}
use Rattle.std.proofs.lemmas.List.{same_lists, places}
use Rattle.net_base.specs.Packets.{Packets, made_room, with_storage, Claims}
use Rattle.net_base.specs.PacketLends.{with_all, around}
use Rattle.net_base.proofs.Refilled.{refill_same}
use Rattle.net_base.specs.Ring.{overwrite}
use Rattle.sock_dgram.specs.Datagrams.{put, stored, stored_as}

module _ {M : Type 0} (size : ℕ) (meta : M) (old new : Packets M) where
  -- as long as the bytes that a packet was given
  pub left_long : (t : Bool) (from : ℕ) → Claims size meta old t from new → t ≡ true → (lent w : List ℕ) → lent ≡ take size (drop from new.storage) → length w ≡ length lent → length w ≡ size
  left_long t from c room lent w is same = same ∙ ap length is ∙ length-take-le size (drop from new.storage) (omega (arith, length-drop from new.storage, c.within room))

  -- whatever is left in the bytes that a packet was given is the packet
  pub left_whole : (t : Bool) (from : ℕ) → Claims size meta old t from new → t ≡ true → (w : List ℕ) → length w ≡ size → with_all new (around new.storage from size w) ≡ stored_as size meta w old
  left_whole t from c room w long =
      let ys : List ℕ = around new.storage from size w in
      let same : ys ≡ overwrite new.storage from w = same_lists _ _ (grind (arith, places)) (λ i d h. grind (arith, places)) in
      let as_long : length ys ≡ length new.storage = (let in_storage = c.within room in grind (arith, places)) in
      ap (with_storage new) (refill_same new.storage ys as_long ∙ same) ∙ c.written room w long
      ∙ sym (ap (λ b. if b then put meta w (made_room size old) else made_room size old) (sym c.variant ∙ room))

  pub left_as : (from : ℕ) → Claims size meta old true from new → (w : List ℕ) → length w ≡ size → with_all new (around new.storage from size w) ≡ stored meta w old
  left_as from c w long = left_whole true from c refl w long ∙ (λ i. stored_as (sym long i) meta w old)
