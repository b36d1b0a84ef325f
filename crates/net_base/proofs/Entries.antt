-- Lemmas about the entries of a packet buffer.
use Rattle.std.proofs.Common.{◌≡◌, ℕ, suc, ◌+◌, ◌-◌, ◌<◌, ◌≤◌, nat_lt, List, [], ◌∷◌, ◌++◌, length, take, drop, Option, refl, sym, ap, ap₂, subst, ◌∙◌, inl, inr, arith, length-take, length-drop, length-append, length-take-le}
use Rattle.std.proofs.lemmas.Bool.{cases_lt}
use Rattle.std.proofs.lemmas.Bool.Decides.{nat_tests}
use Rattle.std.specs.Prelude.{◌==◌}
use Rattle.std.proofs.lemmas.List.{take-take, drop-take, take_all, drop_all, take-append-le, drop-append-le, same_lists, places}
use Rattle.net_base.specs.Ring.{Ring, ring, ring_of, cells_from, overwrite, capacity_of, shortened, LeavesRun}
use Rattle.net_base.specs.Packets.{Packets, packets_with, taken, place_of, end_of, run_of, room_of, first_bytes, first_header, with_first, WritesFirst, without_first, restarted, fits, appended, AppendsWith}
use Rattle.net_base.specs.PacketsInside.{cut, sizes, Laid, packets_of, IsLaid}
use Rattle.net_base.specs.declared.packet_buffer.PacketMetadata.{PacketMetadata}
use Rattle.net_base.specs.Packets.{recut, with_storage}
use Rattle.net_base.specs.PacketLends.{with_all}
use Rattle.std.specs.List.{refill}
use Rattle.net_base.proofs.Refilled.{refill_same}
use Rattle.net_base.proofs.Cells.{length-cells, run_joined, cells_more, queue_dequeued}
use Rattle.net_base.proofs.Around.{place_of-high, place_of-low, place_of-place_of, place_of-within}
use Rattle.net_base.proofs.PacketLists.{restarted-none, restarted-some}

same_packets : {X : Type 0} {es fs : List (Option X × List ℕ)} {a b k l : ℕ} {xs ys : List ℕ} → es ≡ fs → a ≡ b → xs ≡ ys → k ≡ l → packets_with es a xs k ≡ packets_with fs b ys l
same_packets e f g h = cc

module _ {X : Type 0} where
  pub taken-cut : (ms : List (PacketMetadata X)) (bs : List ℕ) → sizes ms ≡ length bs → taken (cut ms bs) ≡ length bs
  taken-cut [] bs total = total
  taken-cut (m ∷ ms) bs total =
      let one = length-take-le m.size bs (omega (arith, total)) in
      let left = length-drop m.size bs in
      let rest = taken-cut ms (drop m.size bs) (omega (arith, total)) in
      omega (arith, total)

  pub length-cut : (ms : List (PacketMetadata X)) (bs : List ℕ) → length (cut ms bs) ≡ length ms
  length-cut [] bs = refl
  length-cut (m ∷ ms) bs = ap (λ j. suc j) (length-cut ms (drop m.size bs))

  pub sizes-append : (ms : List (PacketMetadata X)) (m : PacketMetadata X) → sizes (ms ++ m ∷ []) ≡ sizes ms + m.size
  sizes-append [] m = omega arith
  sizes-append (l ∷ ms) m = let rest = sizes-append ms m in omega arith

  pub cut-append : (ms : List (PacketMetadata X)) (m : PacketMetadata X) (bs ws : List ℕ) → sizes ms ≡ length bs → m.size ≡ length ws → cut (ms ++ m ∷ []) (bs ++ ws) ≡ cut ms bs ++ (m.header, ws) ∷ []
  cut-append [] m [] ws total fits = ap (λ (l : List ℕ). (m.header, l) ∷ []) (take_all m.size ws (omega arith))
  cut-append [] m (b ∷ bs) ws total fits = absurd (omega arith)
  cut-append (l ∷ ms) m bs ws total fits =
      let within : l.size ≤ length bs = omega (arith, total) in
      let left = length-drop l.size bs in
      ap₂ (λ (a c : List ℕ). (l.header, a) ∷ cut (ms ++ m ∷ []) c) (take-append-le l.size bs ws within) (drop-append-le l.size bs ws within)
      ∙ ap (λ es. (l.header, take l.size bs) ∷ es) (cut-append ms m (drop l.size bs) ws (omega (arith, total)) fits)

  pub Laid-append : (r k : ℕ) (ms : List (PacketMetadata X)) (m : PacketMetadata X) → k ≤ r - 1 → Laid r k ms → sizes ms + m.size ≤ r → place_of r k (sizes ms) + m.size ≤ r → Laid r k (ms ++ m ∷ [])
  Laid-append r k [] m start laid fits run = (subst (λ j. j + m.size ≤ r) (place_of-none r k start (omega (arith, fits))) run, tt)
    where
      place_of-none : (r k : ℕ) → k ≤ r - 1 → 0 ≤ r → place_of r k 0 ≡ k
      place_of-none r k start h = elim (cases_lt (k + 0) r) [ inl low ↦ place_of-low r k 0 low ∙ omega arith | inr high ↦ place_of-high r k 0 high ∙ omega arith ]
  Laid-append r k (l ∷ ms) m start laid fits run = (
    laid.0,
    Laid-append r (place_of r k l.size) ms m (place_of-within r k l.size start (omega (arith, fits))) laid.1 (omega (arith, fits))
        (subst (λ j. j + m.size ≤ r) (sym (place_of-place_of r k l.size (sizes ms) start (omega (arith, fits)))) run),
  )

  pub Laid-none : (r : ℕ) (ms : List (PacketMetadata X)) → sizes ms ≡ 0 → Laid r 0 ms
  Laid-none r [] none = tt
  Laid-none r (m ∷ ms) none =
      let here : m.size ≡ 0 = omega arith in
      (omega (arith, here), subst (λ j. Laid r j ms) (sym (ap (λ j. place_of r 0 j) here ∙ stays_first r)) (Laid-none r ms (omega (arith, none))))
    where
      stays_first : (r : ℕ) → place_of r 0 0 ≡ 0
      stays_first r = elim (cases_lt (0 + 0) r) [ inl low ↦ place_of-low r 0 0 low | inr high ↦ place_of-high r 0 0 high ∙ omega arith ]

  module _ (ms : Ring (PacketMetadata X)) (bytes : List ℕ) (k n : ℕ) (p : Packets X) (is : packets_of ms bytes k n ≡ p) (laid : IsLaid ms bytes k n) where
    within : k ≤ length bytes
    within = omega (arith, laid.start_within)

    length-bytes : length (take n (cells_from k bytes)) ≡ n
    length-bytes = let long = length-cells k bytes within in length-take-le n (cells_from k bytes) (omega (arith, laid.length_within))

    pub taken_view : taken p.entries ≡ n
    taken_view = ap (λ (p : Packets X). taken p.entries) (sym is) ∙ taken-cut ms.queue (take n (cells_from k bytes)) (laid.total ∙ sym length-bytes) ∙ length-bytes

    pub room-view : length p.storage ≡ length bytes
    room-view = ap (λ (p : Packets X). length p.storage) (sym is)

    pub start-view : p.start ≡ k
    start-view = ap (λ (p : Packets X). p.start) (sym is)

    pub places-view : p.places ≡ capacity_of ms
    places-view = ap (λ (p : Packets X). p.places) (sym is)

    pub count-view : length p.entries ≡ length ms.queue
    count-view = ap (λ (p : Packets X). length p.entries) (sym is) ∙ length-cut ms.queue (take n (cells_from k bytes))

    pub end-view : end_of p ≡ place_of (length bytes) k n
    end-view = ap (λ j. place_of j p.start (taken p.entries)) room-view ∙ ap₂ (λ (j l : ℕ). place_of (length bytes) j l) start-view taken_view

    pub run-view : (size : ℕ) → size ≤ run_of p → (n + size ≤ length bytes) × (place_of (length bytes) k n + size ≤ length bytes)
    run-view size fits =
        let e = end-view in let t = taken_view in let r = room-view in let l = laid.length_within in
        let w = place_of-within (length bytes) k n laid.start_within laid.length_within in
        (omega arith, omega arith)

    pub empty_view : (length ms.queue == 0) ≡ (length p.entries == 0)
    empty_view = ap (λ j. j == 0) (sym count-view)

    pub bare_view : (n == 0) ≡ (taken p.entries == 0)
    bare_view = ap (λ j. j == 0) (sym taken_view)

    pub full_view : (length ms.spare == 0) ≡ (length p.entries == p.places)
    full_view = grind (arith, nat_tests, count-view, places-view)

    pub two_view : nat_lt 1 (length ms.spare) ≡ nat_lt (length p.entries + 1) p.places
    two_view = grind (arith, nat_tests, count-view, places-view)

    pub places_within : length p.entries ≤ p.places
    places_within = omega (arith, count-view, places-view)

    pub free-view : length p.entries < p.places → 0 < length ms.spare
    free-view free = let c = count-view in let l = places-view in omega arith

    -- one more entry, whose bytes are the first of a run behind the others
    module _ (called : List ℕ → ℕ → List ℕ → Type 0) (size at : ℕ) (header : Option X) (kept : ℕ) (ys : List ℕ) (fits : size ≤ run_of p) (within_size : kept ≤ size)
        (at_is : at ≡ place_of (length bytes) k n) (left : LeavesRun called bytes at size kept ys) (low : k + n < length bytes → at ≡ k + n) (high : length bytes ≤ k + n → at + length bytes ≡ k + n) where
      abbrev entry : PacketMetadata X
      entry = record { size = kept; header = header }

      bytes_after : ring_of k (n + kept) ys ≡ ring (take n (cells_from k bytes) ++ take kept left.left) (drop kept (overwrite (drop n (cells_from k bytes)) 0 left.left)) (length bytes - k)
      bytes_after =
          let f = run-view size fits in let e = left.left_length in
          run_joined k n at kept bytes ys left.left (ring_of k n bytes) refl (within, laid.length_within) low high (omega (arith, f.0)) (omega (arith, f.1, at_is)) (omega arith) left.after

      length-ys : length ys ≡ length bytes
      length-ys =
          let f = run-view size fits in let e = left.left_length in
          let a = length-take-le at bytes (omega (arith, f.1, at_is)) in
          let b = length-drop (at + length left.left) bytes in
          ap (λ (l : List ℕ). length l) left.after ∙ simp (length-append) (omega (arith, f.1, at_is))

      length-kept : length (take kept left.left) ≡ kept
      length-kept = let e = left.left_length in length-take-le kept left.left (omega arith)

      module _ (ns : Ring (PacketMetadata X)) (ns_is : ns ≡ ring (ms.queue ++ entry ∷ []) (drop 1 ms.spare) ms.until_end) where
        queue_is : ns.queue ≡ ms.queue ++ entry ∷ []
        queue_is = ap (λ (r : Ring (PacketMetadata X)). r.queue) ns_is

        pub laid_after : IsLaid ns ys k (n + kept)
        laid_after =
            let f = run-view size fits in let t = laid.total in let y = length-ys in let s = sizes-append ms.queue entry in
            record {
              start_within = omega (arith, laid.start_within);
              length_within = omega (arith, f.0);
              total = ap (λ (l : List (PacketMetadata X)). sizes l) queue_is ∙ s ∙ ap (λ j. j + kept) laid.total;
              laid = subst (λ (l : List (PacketMetadata X)). Laid (length ys) k l) (sym queue_is) (subst (λ j. Laid j k (ms.queue ++ entry ∷ [])) (sym length-ys)
                  (Laid-append (length bytes) k ms.queue entry laid.start_within laid.laid (omega (arith, f.0)) (subst (λ j. place_of (length bytes) k j + kept ≤ length bytes) (sym laid.total) (omega (arith, f.1)))));
            }

        places_is : capacity_of ms ≡ p.places → length p.entries < p.places → capacity_of ns ≡ p.places
        places_is same free =
            let room = free-view free in
            ap (λ (r : Ring (PacketMetadata X)). capacity_of r) ns_is ∙ simp (length-append, length-drop) (omega arith)

        at-view : at ≡ end_of p
        at-view = at_is ∙ sym end-view

        storage-view : bytes ≡ p.storage
        storage-view = ap (λ (p : Packets X). p.storage) is

        entries_after : cut ns.queue (take (n + kept) (cells_from k ys)) ≡ p.entries ++ (header, take kept left.left) ∷ []
        entries_after =
            ap₂ (λ (l : List (PacketMetadata X)) (bs : List ℕ). cut l bs) queue_is (ap (λ (r : Ring ℕ). r.queue) bytes_after)
            ∙ cut-append ms.queue entry (take n (cells_from k bytes)) (take kept left.left) (laid.total ∙ sym length-bytes) (sym length-kept)
            ∙ ap (λ (p : Packets X). p.entries ++ (header, take kept left.left) ∷ []) is

        pub appended_after : length p.entries < p.places → AppendsWith called size header p kept (packets_of ns ys k (n + kept))
        appended_after free =
            record {
              left = left.left;
              left_length = left.left_length;
              kept_within = within_size;
              met = subst (λ (s : List ℕ). called s kept left.left) (λ i. take size (drop (at-view i) (storage-view i))) left.met;
              after = same_packets entries_after (places_is (sym places-view) free) (left.after ∙ (λ i. overwrite (storage-view i) (at-view i) left.left)) (sym start-view);
            }

    -- the bytes that stand behind the others become one more entry
    module _ (size at : ℕ) (header : Option X) (fits : size ≤ run_of p) (at_is : at ≡ place_of (length bytes) k n) (low : k + n < length bytes → at ≡ k + n) (high : length bytes ≤ k + n → at + length bytes ≡ k + n) where
      same_bytes : bytes ≡ overwrite bytes at (take size (drop at bytes))
      same_bytes =
          let f = run-view size fits in
          let long : length (take size (drop at bytes)) ≡ size = length-take-le size (drop at bytes) (simp length-drop (omega (arith, f.1, at_is))) in
          same_lists _ _ (grind (arith, places)) (λ i d h. grind (arith, places))

      abbrev stays : LeavesRun (λ s r l. Unit {0}) bytes at size size bytes
      stays =
          let f = run-view size fits in
          let long : length (take size (drop at bytes)) ≡ size = length-take-le size (drop at bytes) (simp length-drop (omega (arith, f.1, at_is))) in
          record {
            left = take size (drop at bytes);
            left_length = long;
            met = tt;
            after = same_bytes;
          }

      stays_long : length (take size (drop at bytes)) ≤ size
      stays_long = omega (arith, length-take size (drop at bytes))

      module _ (ns : Ring (PacketMetadata X)) (ns_is : ns ≡ ring (ms.queue ++ record { size = size; header = header } ∷ []) (drop 1 ms.spare) ms.until_end) where
        pub laid_appended : IsLaid ns bytes k (n + size)
        laid_appended = laid_after (λ s r l. Unit {0}) size at header size bytes fits (omega arith) at_is stays low high ns ns_is

        pub appended_is : length p.entries < p.places → packets_of ns bytes k (n + size) ≡ appended header size p
        appended_is free =
            let nothing : List ℕ → ℕ → List ℕ → Type 0 = λ s r l. Unit {0} in
            let le : size ≤ size = omega arith in
            let whole : take size (take size (drop at bytes)) ≡ take size (drop at bytes) = take_all size (take size (drop at bytes)) (omega (arith, stays_long)) in
            same_packets
            (entries_after nothing size at header size bytes fits le at_is stays low high ns ns_is
            ∙ ap (λ (bs : List ℕ). p.entries ++ (header, bs) ∷ []) (whole ∙ (λ i. take size (drop ((at_is ∙ sym end-view) i) ((ap (λ (p : Packets X). p.storage) is) i)))))
            (places_is nothing size at header size bytes fits le at_is stays low high ns ns_is (sym places-view) free)
            (ap (λ (p : Packets X). p.storage) is) (sym start-view)

    -- the entries of no bytes may stand at the first place
    module _ (none : n ≡ 0) where
      pub laid_restarted : IsLaid ms bytes 0 n
      laid_restarted = record { start_within = omega arith; length_within = laid.length_within; total = laid.total; laid = Laid-none (length bytes) ms.queue (laid.total ∙ none) }

      pub restarted_is : packets_of ms bytes 0 n ≡ restarted p
      restarted_is =
          same_packets (ap (λ j. cut ms.queue (take j (cells_from 0 bytes))) none ∙ sym (ap (λ j. cut ms.queue (take j (cells_from k bytes))) none) ∙ ap (λ (p : Packets X). p.entries) is)
          (sym places-view) (ap (λ (p : Packets X). p.storage) is) refl
          ∙ sym (restarted-none p (taken_view ∙ none))

    pub not_restarted_is : (n ≡ 0 → ⊥) → p ≡ restarted p
    not_restarted_is some = sym (restarted-some p (λ none. some (sym taken_view ∙ none)))

    pub room_free : length bytes - n ≡ room_of p
    room_free = omega (arith, room-view, taken_view)

    module _ (m : PacketMetadata X) (rest : List (PacketMetadata X)) (starts : ms.queue ≡ m ∷ rest) where
      entries-view : p.entries ≡ (m.header, take m.size (take n (cells_from k bytes))) ∷ cut rest (drop m.size (take n (cells_from k bytes)))
      entries-view = ap (λ (p : Packets X). p.entries) (sym is) ∙ ap (λ (l : List (PacketMetadata X)). cut l (take n (cells_from k bytes))) starts

      total_is : m.size + sizes rest ≡ n
      total_is = ap (λ (l : List (PacketMetadata X)). sizes l) (sym starts) ∙ laid.total

      laid_is : (k + m.size ≤ length bytes) × Laid (length bytes) (place_of (length bytes) k m.size) rest
      laid_is = subst (λ (l : List (PacketMetadata X)). Laid (length bytes) k l) starts laid.laid

      -- the first entry's bytes stand from the start on, in one run
      run_is : take m.size (take n (cells_from k bytes)) ≡ take m.size (drop k bytes)
      run_is =
          let t = total_is in let long = length-drop k bytes in
          take-take m.size n (cells_from k bytes) (omega arith) ∙ take-append-le m.size (drop k bytes) (take k bytes) (omega (arith, laid_is.0))

      pub first-view : first_bytes p.entries ≡ take m.size (drop p.start p.storage)
      first-view =
          ap (λ (es : List (Option X × List ℕ)). first_bytes es) entries-view ∙ run_is
          ∙ ap₂ (λ (j : ℕ) (bs : List ℕ). take m.size (drop j bs)) (sym start-view) (ap (λ (p : Packets X). p.storage) is)

      pub place-view : p.start + m.size ≤ length p.storage
      place-view = omega (arith, start-view, room-view, laid_is.0)

      size_is : length (first_bytes p.entries) ≡ m.size
      size_is = let t = total_is in let l = length-bytes in ap (λ (es : List (Option X × List ℕ)). length (first_bytes es)) entries-view ∙ length-take-le m.size (take n (cells_from k bytes)) (omega arith)

      module _ (ns : Ring (PacketMetadata X)) (at : ℕ) (ns_is : ns ≡ shortened ms 1) (at_is : at ≡ place_of (length bytes) k m.size) where
        next_queue : ns.queue ≡ rest
        next_queue = ap (λ (r : Ring (PacketMetadata X)). r.queue) ns_is ∙ ap (λ (l : List (PacketMetadata X)). drop 1 l) starts

        pub laid_dropped : IsLaid ns bytes at (n - m.size)
        laid_dropped =
            let t = total_is in
            record {
              start_within = subst (λ j. j ≤ length bytes - 1) (sym at_is) (place_of-within (length bytes) k m.size laid.start_within (omega (arith, laid.length_within)));
              length_within = omega (arith, laid.length_within);
              total = ap (λ (l : List (PacketMetadata X)). sizes l) next_queue ∙ omega arith;
              laid = subst (λ (l : List (PacketMetadata X)). Laid (length bytes) at l) (sym next_queue) (subst (λ j. Laid (length bytes) j rest) (sym at_is) laid_is.1);
            }

        bytes_dropped : take (n - m.size) (cells_from at bytes) ≡ drop m.size (take n (cells_from k bytes))
        bytes_dropped =
            let t = total_is in let w = laid.length_within in let long = length-cells k bytes within in
            let moved : cells_from at bytes ≡ drop m.size (cells_from k bytes) ++ take m.size (cells_from k bytes) =
            cells_more k m.size at bytes within (omega arith) (λ low. at_is ∙ place_of-low (length bytes) k m.size low) (λ high. let e = place_of-high (length bytes) k m.size high in omega (arith, at_is)) in
            ap (λ (l : List ℕ). take (n - m.size) l) moved
            ∙ queue_dequeued n m.size (cells_from k bytes) (omega arith) (omega arith)

        pub view_dropped : packets_of ns bytes at (n - m.size) ≡ without_first p
        view_dropped =
            let entries : cut ns.queue (take (n - m.size) (cells_from at bytes)) ≡ drop 1 p.entries =
            ap₂ (λ (l : List (PacketMetadata X)) (bs : List ℕ). cut l bs) next_queue bytes_dropped ∙ ap (λ (es : List (Option X × List ℕ)). drop 1 es) (sym entries-view) in
            let places : capacity_of ns ≡ p.places =
            ap (λ (r : Ring (PacketMetadata X)). capacity_of r) ns_is ∙ simp (length-append, length-drop, length-take) (omega (arith, ap (λ (l : List (PacketMetadata X)). length l) starts)) ∙ sym places-view in
            let storage = ap (λ (p : Packets X). p.storage) is in
            let start : at ≡ place_of (length p.storage) p.start (length (first_bytes p.entries)) =
            at_is ∙ ap₂ (λ (a b : ℕ). place_of a b m.size) (sym room-view) (sym start-view) ∙ ap (λ j. place_of (length p.storage) p.start j) (sym size_is) in
            same_packets entries places storage start

-- ---- other payload bytes, as many as before

module _ {X : Type 0} where
  recut_cut : (ms : List (PacketMetadata X)) (bs cs : List ℕ) → sizes ms ≡ length bs → cut ms (take (length bs) cs) ≡ recut (cut ms bs) cs
  recut_cut [] bs cs total = refl
  recut_cut (m ∷ ms) bs cs total =
      let fits : m.size ≤ length bs = omega (arith, total) in
      let one : length (take m.size bs) ≡ m.size = length-take-le m.size bs fits in
      let left : length (drop m.size bs) ≡ length bs - m.size = length-drop m.size bs in
      let all : length bs ≡ m.size + length (drop m.size bs) = omega (arith, left) in
      ap₂ ◌∷◌
      (ap (λ l. (m.header, l)) (take-take m.size (length bs) cs fits ∙ ap (λ j. take j cs) (sym one)))
      (ap (cut ms) (ap (λ j. drop m.size (take j cs)) all ∙ drop-take m.size (length (drop m.size bs)) cs)
      ∙ recut_cut ms (drop m.size bs) (drop m.size cs) (omega (arith, left))
      ∙ ap (λ j. recut (cut ms (drop m.size bs)) (drop j cs)) (sym one))

  module _ (ms : Ring (PacketMetadata X)) (bytes : List ℕ) (k n : ℕ) (w : List ℕ) (laid : IsLaid ms bytes k n) (long : length w ≡ length bytes) where
    pub laid_rewritten : IsLaid ms w k n
    laid_rewritten = record {
      start_within = omega (arith, laid.start_within, long);
      length_within = omega (arith, laid.length_within, long);
      total = laid.total;
      laid = subst (λ j. Laid j k ms.queue) (sym long) laid.laid;
    }

    pub rewritten_view : packets_of ms w k n ≡ with_all (packets_of ms bytes k n) w
    rewritten_view =
        let within : k ≤ length bytes = omega (arith, laid.start_within) in
        let cells = length-cells k bytes within in
        let count : length (take n (cells_from k bytes)) ≡ n = length-take-le n (cells_from k bytes) (omega (arith, laid.length_within, cells)) in
        let same : refill (length bytes) bytes w ≡ w = refill_same bytes w long in
        (λ i. packets_with ((ap (λ j. cut ms.queue (take j (cells_from k w))) (sym count) ∙ recut_cut ms.queue (take n (cells_from k bytes)) (cells_from k w) (laid.total ∙ sym count)) i) (capacity_of ms) w k)
        ∙ ap (with_storage (packets_of ms bytes k n)) (sym same)

-- ---- other bytes of the first entry

module _ {X R : Type 0} (ms : Ring (PacketMetadata X)) (bytes : List ℕ) (k n : ℕ) (p : Packets X) (is : packets_of ms bytes k n ≡ p) (laid : IsLaid ms bytes k n)
    (m : PacketMetadata X) (rest : List (PacketMetadata X)) (starts : ms.queue ≡ m ∷ rest) (called : List ℕ → R → List ℕ → Type 0) (r : R) (ys : List ℕ) (lent : LeavesRun called bytes k m.size r ys) where
  run : k + m.size ≤ length bytes
  run = (laid_is ms bytes k n p is laid m rest starts).0

  total : m.size + sizes rest ≡ n
  total = total_is ms bytes k n p is laid m rest starts

  long : length ys ≡ length bytes
  long =
      let e = lent.left_length in let f = run in
      let a = length-take-le k bytes (omega (arith, f)) in
      let b = length-drop (k + length lent.left) bytes in
      ap (λ (l : List ℕ). length l) lent.after ∙ simp (length-append) (omega (arith, f))

  pub laid_written : IsLaid ms ys k n
  laid_written = laid_rewritten ms bytes k n ys laid long

  whole : length lent.left ≤ m.size
  whole = omega (arith, lent.left_length)

  cells_written : cells_from k ys ≡ lent.left ++ drop m.size (cells_from k bytes)
  cells_written =
      let e = lent.left_length in let f = run in
      ap (λ (l : List ℕ). cells_from k l) lent.after ∙ same_lists _ _ (grind (arith, places)) (λ i d h. grind (arith, places))

  queue_written : take n (cells_from k ys) ≡ lent.left ++ drop m.size (take n (cells_from k bytes))
  queue_written =
      let e = lent.left_length in let f = run in let t = total in let w = laid.length_within in
      ap (λ (l : List ℕ). take n l) cells_written ∙ same_lists _ _ (grind (arith, places)) (λ i d h. grind (arith, places))

  pub view_written : packets_of ms ys k n ≡ with_first lent.left p
  view_written =
      let e = lent.left_length in
      let entries = entries-view ms bytes k n p is laid m rest starts in
      same_packets
      (ap₂ (λ (l : List (PacketMetadata X)) (bs : List ℕ). cut l bs) starts queue_written
      ∙ ap₂ (λ (a c : List ℕ). (m.header, a) ∷ cut rest c) (take-append-le m.size lent.left _ (omega (arith, e)) ∙ take_all m.size lent.left whole) (drop-append-le m.size lent.left _ (omega (arith, e)) ∙ ap (λ (l : List ℕ). l ++ drop m.size (take n (cells_from k bytes))) (drop_all m.size lent.left whole))
      ∙ ap (λ (es : List (Option X × List ℕ)). (first_header es, lent.left) ∷ drop 1 es) (sym entries))
      (sym (places-view ms bytes k n p is laid))
      (lent.after ∙ (λ i. overwrite (ap (λ (p : Packets X). p.storage) is i) (sym (start-view ms bytes k n p is laid) i) lent.left))
      (sym (start-view ms bytes k n p is laid))

  pub writes_first : WritesFirst called p r (packets_of ms ys k n)
  writes_first = record {
    left = lent.left;
    left_length = lent.left_length ∙ sym (size_is ms bytes k n p is laid m rest starts);
    met = subst (λ (bs : List ℕ). called bs r lent.left) (sym (first-view ms bytes k n p is laid m rest starts ∙ (λ i. take m.size (drop (start-view ms bytes k n p is laid i) (sym (ap (λ (p : Packets X). p.storage) is) i))))) lent.met;
    after = view_written;
  }

pub ruleset restarts = (laid_restarted, restarted_is, not_restarted_is)
