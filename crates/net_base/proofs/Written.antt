-- What is written over the bytes of the entry that was appended last is that entry.
use Rattle.std.proofs.Common.{◌≡◌, ℕ, ◌+◌, ◌<◌, ◌≤◌, List, [], ◌∷◌, ◌++◌, length, take, drop, Option, sym, ap, ◌∙◌, refl, arith, length-drop, length-append, length-take-le}
use Rattle.std.proofs.lemmas.List.{take_all}
use Rattle.net_base.specs.Ring.{Ring, ring, overwrite, LeavesRun}
use Rattle.net_base.specs.Packets.{Packets, packets_with, place_of, end_of, run_of, with_storage, written_behind}
use Rattle.net_base.specs.PacketsInside.{packets_of, IsLaid}
use Rattle.net_base.specs.declared.packet_buffer.PacketMetadata.{PacketMetadata}
use Rattle.net_base.proofs.Refilled.{refill_same}
use Rattle.net_base.proofs.Entries.{run-view, laid_appended, appended_after, rewritten_view}

module _ {X : Type 0} (ms : Ring (PacketMetadata X)) (bytes : List ℕ) (k n : ℕ) (p : Packets X) (is : packets_of ms bytes k n ≡ p) (laid : IsLaid ms bytes k n)
    (size at : ℕ) (header : Option X) (fits : size ≤ run_of p) (at_is : at ≡ place_of (length bytes) k n) (low : k + n < length bytes → at ≡ k + n) (high : length bytes ≤ k + n → at + length bytes ≡ k + n)
    (ns : Ring (PacketMetadata X)) (ns_is : ns ≡ ring (ms.queue ++ record { size = size; header = header } ∷ []) (drop 1 ms.spare) ms.until_end) (free : length p.entries < p.places) where
  pub appended_written : (left : List ℕ) → length left ≡ size → with_storage (packets_of ns bytes k (n + size)) (overwrite bytes at left) ≡ written_behind header left p
  appended_written left long =
      let f = run-view ms bytes k n p is laid size fits in
      let ys : List ℕ = overwrite bytes at left in
      let called : List ℕ → ℕ → List ℕ → Type 0 = λ s r l. l ≡ left in
      let lent : LeavesRun called bytes at size size ys = record { left = left; left_length = long; met = refl; after = refl } in
      let new : Packets X = packets_of ns bytes k (n + size) in
      let same_length : length ys ≡ length bytes =
      (let a = length-take-le at bytes (omega (arith, f.1, at_is)) in let b = length-drop (at + length left) bytes in simp (length-append) (omega (arith, f.1, at_is))) in
      let a = appended_after ms bytes k n p is laid called size at header size ys fits (omega arith) at_is lent low high ns ns_is free in
      let whole : take size a.left ≡ left = ap (take size) a.met ∙ take_all size left (omega (arith, long)) in
      ap (λ (bs : List ℕ). with_storage new bs) (sym (refill_same bytes ys same_length))
      ∙ sym (rewritten_view ns bytes k (n + size) ys (laid_appended ms bytes k n p is laid size at header fits at_is low high ns ns_is) same_length)
      ∙ a.after
      ∙ (λ i. packets_with (p.entries ++ (header, whole i) ∷ []) p.places (overwrite p.storage (end_of p) (a.met i)) p.start)
