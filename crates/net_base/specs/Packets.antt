-- What a contract sees of a packet buffer.
use Rattle.std.specs.Prelude.{ℕ, ◌+◌, ◌-◌, ◌≡◌, ◌≤◌, ◌<◌, ◌==◌, Bool, false, true, not, ◌&&◌, ◌||◌, List, [], ◌∷◌}
use Rattle.std.specs.Prelude.{◌++◌, length, take, drop, cond, nat_lt, nat_le, min, Option, Some, None, is_none}
use Rattle.std.specs.Prelude.{slice_get, Result, is_ok, refl, if◌then◌else◌}
use Rattle.std.specs.Fn.{Once}
use Rattle.std.specs.Borrow.{Bor, MutBor}
use Rattle.std.specs.Coded.{Coded, code_by, coded×, coded_list, coded_ℕ, coded_option}
use Rattle.net_base.specs.Ring.{overwrite}

-- The entries in order, each with its header (none where it is padding) and its bytes; how many places there are for
-- entries; what stands in the payload storage, and where in it the first entry's bytes begin. An entry's bytes stand
-- behind those of the one before it, around the storage's end
pub record Packets (X : Type 0) : Type 0 where
  pub entries : List (Option X × List ℕ)
  pub places : ℕ
  pub storage : List ℕ
  pub start : ℕ

-- the place n places on from k, of m
abbrev pub place_of : ℕ → ℕ → ℕ → ℕ
place_of m k n = cond (nat_lt (k + n) m) (k + n) (k + n - m)

module _ {X : Type 0} where
  abbrev pub packets_with : List (Option X × List ℕ) → ℕ → List ℕ → ℕ → Packets X
  packets_with es n bs k = record { entries = es; places = n; storage = bs; start = k }

  abbrev pub packets_code : Coded X → Coded (Packets X)
  packets_code c =
      code_by (List (Option X × List ℕ) × (ℕ × (List ℕ × ℕ)))
      (coded× (coded_list (coded× (coded_option c) (coded_list coded_ℕ)))
      (coded× coded_ℕ (coded× (coded_list coded_ℕ) coded_ℕ)))
      (λ p. (p.entries, (p.places, (p.storage, p.start)))) (λ q. packets_with q.0 q.1.0 q.1.1.0 q.1.1.1) (λ _. refl)

  -- ---- the packets among the entries

  -- an entry before the packets, or none where it is padding
  abbrev pub put_packet : Option X → List ℕ → List (X × List ℕ) → List (X × List ℕ)
  put_packet None bs ps = ps
  put_packet (Some h) bs ps = (h, bs) ∷ ps

  -- the packets in order, without the padding
  abbrev pub packets : List (Option X × List ℕ) → List (X × List ℕ)
  packets [] = []
  packets (e ∷ es) = put_packet e.0 e.1 (packets es)

  -- their headers
  abbrev pub headers : List (X × List ℕ) → List X
  headers [] = []
  headers (r ∷ ps) = r.0 ∷ headers ps

  abbrev pub starts_padded : List (Option X × List ℕ) → Bool
  starts_padded [] = false
  starts_padded (e ∷ es) = is_none e.0

  -- ---- the payload bytes

  -- how many payload bytes the entries take
  abbrev pub taken : List (Option X × List ℕ) → ℕ
  taken [] = 0
  taken (e ∷ es) = length e.1 + taken es

  abbrev pub room_of : Packets X → ℕ
  room_of p = length p.storage - taken p.entries

  -- the place behind the entries, and how many places are free from there on before the storage's end
  abbrev pub end_of : Packets X → ℕ
  end_of p = place_of (length p.storage) p.start (taken p.entries)

  abbrev pub run_of : Packets X → ℕ
  run_of p = min (room_of p) (length p.storage - end_of p)

  -- ---- taking the first entry

  abbrev pub first_bytes : List (Option X × List ℕ) → List ℕ
  first_bytes [] = []
  first_bytes (e ∷ es) = e.1

  abbrev pub first_header : List (Option X × List ℕ) → Option X
  first_header [] = None
  first_header (e ∷ es) = e.0

  abbrev pub without_first : Packets X → Packets X
  without_first p = packets_with (drop 1 p.entries) p.places p.storage
      (place_of (length p.storage) p.start (length (first_bytes p.entries)))

  -- the entries without the padding in front, and where they begin
  abbrev pub skipped_from : ℕ → ℕ → List (Option X × List ℕ) → List (Option X × List ℕ) × ℕ
  skipped_from m k [] = ([], k)
  skipped_from m k (e ∷ es) = cond (is_none e.0) (skipped_from m (place_of m k (length e.1)) es) (e ∷ es, k)

  unfoldable pub skipped : Packets X → Packets X
  skipped p = packets_with (skipped_from (length p.storage) p.start p.entries).0 p.places p.storage
      (skipped_from (length p.storage) p.start p.entries).1

  -- ---- adding an entry

  -- the bytes that stand behind the entries become one more
  abbrev pub appended : Option X → ℕ → Packets X → Packets X
  appended header size p = packets_with (p.entries
      ++ (header, take size (drop (end_of p) p.storage)) ∷ []) p.places p.storage p.start

  -- where no payload byte is taken, the entries begin anew at the storage's first place
  unfoldable pub restarted : Packets X → Packets X
  restarted p = cond (taken p.entries == 0) (packets_with p.entries p.places p.storage 0) p

  -- size bytes fit behind the entries, or in the other free places
  abbrev pub fits_behind : ℕ → Packets X → Bool
  fits_behind size p = nat_le size (run_of p)

  abbrev pub fits_before : ℕ → Packets X → Bool
  fits_before size p = nat_le size (room_of p - run_of p)

  -- where they do not fit behind the entries, the free run behind these becomes padding
  unfoldable pub padded_for : ℕ → Packets X → Packets X
  padded_for size p = if fits_behind size p then p else appended None (run_of p) p

  -- they fit behind the entries, or in the other free places with one more place left for the padding
  abbrev pub fits : ℕ → Packets X → Bool
  fits size p = fits_behind size p || (fits_before size p && nat_lt (length p.entries + 1) p.places)

  -- whether size more bytes can become an entry
  unfoldable pub takes : ℕ → Packets X → Bool
  takes size p = not (length p.entries == p.places) && fits size (restarted p)

  -- where they cannot, nothing changes
  unfoldable pub made_room : ℕ → Packets X → Packets X
  made_room size p = if takes size p then padded_for size (restarted p) else p

-- other payload bytes, cut into the entries' parts as the old ones were
abbrev pub recut : {X : Type 0} → List (Option X × List ℕ) → List ℕ → List (Option X × List ℕ)
recut [] bs = []
recut (e ∷ es) bs = (e.0, take (length e.1) bs) ∷ recut es (drop (length e.1) bs)

abbrev pub with_storage : {X : Type 0} → Packets X → List ℕ → Packets X
with_storage p bs = packets_with (recut p.entries (drop p.start bs ++ take p.start bs)) p.places bs p.start

-- an entry of these bytes, which are written behind the others
abbrev pub written_behind : {X : Type 0} → Option X → List ℕ → Packets X → Packets X
written_behind header bs p =
    packets_with (p.entries ++ (header, bs) ∷ []) p.places (overwrite p.storage (end_of p) bs) p.start

-- the first packet left, with the padding in front of it
pub record Dequeues {X : Type 0} (old new : Packets X) : Type 0 where
  pub some : 0 < length (skipped old).entries → new ≡ without_first (skipped old)
  pub none : length (skipped old).entries ≡ 0 → new ≡ skipped old
  pub packets : packets new.entries ≡ drop 1 (packets old.entries)

-- room was made, and where there was room a packet of the size bytes behind the entries was appended; what is then
-- written over these bytes is the packet
pub record Claims {X : Type 0} (size : ℕ) (header : X) (old : Packets X) (taken : Bool) (from : ℕ)
    (new : Packets X) : Type 0 where
  pub variant : taken ≡ takes size old
  pub err : taken ≡ false → new ≡ made_room size old
  pub place : taken ≡ true → from ≡ end_of (made_room size old)
  pub after : taken ≡ true → new ≡ appended (Some header) size (made_room size old)
  pub within : taken ≡ true → from + size ≤ length new.storage
  pub written : taken ≡ true → (left : List ℕ) → length left ≡ size → with_storage new (overwrite new.storage from left)
      ≡ written_behind (Some header) left (made_room size old)

-- a call that was lent the size bytes behind the entries left `left` there, and of these the first `kept` became an
-- entry
pub record AppendsWith {X : Type 0} (called : List ℕ → ℕ → List ℕ → Type 0) (size : ℕ) (header : Option X)
    (old : Packets X) (kept : ℕ) (new : Packets X) : Type 0 where
  pub left : List ℕ
  pub left_length : length left ≡ size
  pub kept_within : kept ≤ size
  pub met : called (take size (drop (end_of old) old.storage)) kept left
  pub after : new ≡ packets_with (old.entries ++ (header, take kept left) ∷ []) old.places
      (overwrite old.storage (end_of old) left) old.start

-- the same of a packet, once room was made for it
pub record Enqueues {X : Type 0} (called : List ℕ → ℕ → List ℕ → Type 0) (size : ℕ) (header : X) (old : Packets X)
    (kept : ℕ) (new : Packets X) : Type 0 where
  pub appends : AppendsWith called size (Some header) (made_room size old) kept new
  pub packets : packets new.entries ≡ packets old.entries ++ (header, take kept appends.left) ∷ []

-- the packet that stands first
abbrev pub first_packet : {X : Type 0} → Packets X → Option (X × List ℕ)
first_packet p = slice_get (packets p.entries) 0

-- f was called at a `&` to a header and a `&mut` to bytes, gave r, and left other bytes there
pub record WritesBoth {F X R : Type 0} (g : Once F (Bor X × (MutBor (List ℕ) × Unit {0}))
    (R × (MutBor (List ℕ) × Unit {0}))) (f : F) (header : X) (bytes : List ℕ) (r : R) (left : List ℕ) : Type 0 where
  pub header_shown : Bor X
  pub header_shows : header_shown.now ≡ header
  pub shown : MutBor (List ℕ)
  pub shows : shown.now ≡ bytes
  pub end : MutBor (List ℕ)
  pub met : g.post f (header_shown, (shown, tt)) (r, (end, tt))
  pub leaves : end.now ≡ left

-- other bytes of the first entry, as many as it had
abbrev pub with_first : {X : Type 0} → List ℕ → Packets X → Packets X
with_first bs p = packets_with ((first_header p.entries, bs) ∷ drop 1 p.entries) p.places
    (overwrite p.storage p.start bs) p.start

-- a call that was lent the first entry's bytes left others there
pub record WritesFirst {X R : Type 0} (called : List ℕ → R → List ℕ → Type 0) (old : Packets X) (result : R)
    (new : Packets X) : Type 0 where
  pub left : List ℕ
  pub left_length : length left ≡ length (first_bytes old.entries)
  pub met : called (first_bytes old.entries) result left
  pub after : new ≡ with_first left old

-- a call that was lent the first packet left other bytes there; at Ok the packet left, at Err it stands first with
-- these bytes
pub record TakesFirst {X R E : Type 0} (called : X → List ℕ → Result R E → List ℕ → Type 0) (old : Packets X)
    (outcome : Result R E) (new : Packets X) : Type 0 where
  pub header : X
  pub bytes : List ℕ
  pub left : List ℕ
  pub first : first_packet old ≡ Some (header, bytes)
  pub left_length : length left ≡ length bytes
  pub met : called header bytes outcome left
  pub after : new ≡ cond (is_ok outcome) (without_first (with_first left (skipped old))) (with_first left (skipped old))
  pub packets : packets new.entries ≡ cond (is_ok outcome) (drop 1 (packets old.entries))
      ((header, left) ∷ drop 1 (packets old.entries))
