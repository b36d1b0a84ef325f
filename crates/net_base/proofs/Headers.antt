-- Which headers the packets of a buffer have.
use Rattle.std.proofs.Common.{◌≡◌, ℕ, List, [], ◌∷◌, ◌++◌, take, drop, length, Option, None, Some, refl, ap, ◌∙◌}
use Rattle.net_base.specs.Packets.{Packets, packets, put_packet, headers, recut, end_of, made_room}
use Rattle.net_base.specs.PacketLends.{with_packet, around}
use Rattle.std.specs.List.{refill}
use Rattle.net_base.proofs.PacketLists.{packets-append, made_room_packets}

module _ {X : Type 0} where
  put_headers : (o : Option X) (bs cs : List ℕ) (ps qs : List (X × List ℕ)) → headers ps ≡ headers qs → headers (put_packet o bs ps) ≡ headers (put_packet o cs qs)
  put_headers None bs cs ps qs e = e
  put_headers (Some h) bs cs ps qs e = ap (λ (l : List X). h ∷ l) e

  recut_headers : (es : List (Option X × List ℕ)) (bs : List ℕ) → headers (packets (recut es bs)) ≡ headers (packets es)
  recut_headers [] bs = refl
  recut_headers (e ∷ es) bs = put_headers e.0 (take (length e.1) bs) e.1 (packets (recut es (drop (length e.1) bs))) (packets es) (recut_headers es (drop (length e.1) bs))

  headers-append : (ps : List (X × List ℕ)) (h : X) (bs : List ℕ) → headers (ps ++ (h, bs) ∷ []) ≡ headers ps ++ h ∷ []
  headers-append [] h bs = refl
  headers-append (p ∷ ps) h bs = ap (λ (l : List X). p.0 ∷ l) (headers-append ps h bs)

  pub enqueued_headers : (size : ℕ) (h : X) (p : Packets X) (w : List ℕ) → headers (packets (with_packet size h p w).entries) ≡ headers (packets p.entries) ++ h ∷ []
  enqueued_headers size h p w =
      let q : Packets X = made_room size p in
      let bs : List ℕ = take size (drop (end_of q) q.storage) in
      let cs : List ℕ = refill (length q.storage) q.storage (around p.storage (end_of q) size w) in
      recut_headers (q.entries ++ (Some h, bs) ∷ []) (drop q.start cs ++ take q.start cs) ∙ ap headers (packets-append q.entries h bs) ∙ headers-append (packets q.entries) h bs ∙ ap (λ (ps : List (X × List ℕ)). headers ps ++ h ∷ []) (made_room_packets size p)
