-- First places under keys that were sought.
use Rattle.std.specs.Prelude.{ℕ, ◌≡◌, ◌<◌, ◌≤◌, length, ◌+◌, ◌*◌, ◌/◌, ◌%◌, false, List}
use Rattle.std.specs.Prelude.{get_or, slice_set, Option, Some, None}
use Rattle.host_index.specs.Columns.{IsPut, entry_in}
use Rattle.host_index.specs.Entries.{Splits, entry_at, has, rank}
use Rattle.host_index.specs.Indexing.{IsIndex, entries_in}
use Rattle.host_index.specs.declared.columns.Columns.{Columns}
use Rattle.host_index.specs.declared.entry.Entry.{Entry}

-- the room of a key
abbrev pub slot_of : Entry → ℕ
slot_of e = (e.major % 256 + e.minor / 65536 % 256 + e.minor % 256) % 256

-- the place that has the key's room, or what is no place
abbrev pub known_at : List ℕ → Entry → ℕ
known_at ks e = get_or ks (slot_of e) 4294967295

-- with this place for the key, if one is given
abbrev pub learned : List ℕ → Entry → Option ℕ → List ℕ
learned ks key None = ks
learned ks key (Some place) = slice_set ks (slot_of key) place

-- this place is the first under a key, where it is a place under it
abbrev pub IsFirstIf : Columns → List ℕ → Entry → ℕ → Type 0
IsFirstIf c os key place =
    IsPut (2 * place) (entry_at key place) c → (k : ℕ) → k < place → has (entries_in c os) (entry_at key k) ≡ false

-- what is known of each key is
abbrev pub AreFirst : Columns → List ℕ → List ℕ → Type 0
AreFirst c os ks = (key : Entry) → IsFirstIf c os key (known_at ks key)

-- the first place under a key, as its first one
pub record IsFirstIn (c : Columns) (os : List ℕ) (key : Entry) (place : ℕ) : Type 0 where
  pub here : entry_in c (2 * place) ≡ entry_at key place
  pub before : (k : ℕ) → k < place → has (entries_in c os) (entry_at key k) ≡ false

-- an index, with the place where the entries of a key begin, with first places, and with memory for all entries
pub record Knows (c : Columns) (os : List ℕ) (key : Entry) (p : ℕ) (ks : List ℕ) (room : ℕ) : Type 0 where
  pub index : IsIndex c os
  pub begins : Splits (entries_in c os) (rank key) p
  pub firsts : AreFirst c os ks
  pub room_for_all : 2 * length c.majors.items ≤ room
