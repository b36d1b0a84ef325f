-- An index, as its callers see it.
use Rattle.std.specs.Prelude.{ℕ, ◌≡◌, ◌<◌, ◌/◌, List, get_or, length, true, false}
use Rattle.host_index.specs.Columns.{KeepsMemory, entry_in, fits, is_free, number_of, other_of}
use Rattle.host_index.specs.Entries.{nothing, rank}
use Rattle.host_index.specs.Indexing.{number_at}
use Rattle.host_index.specs.declared.columns.Columns.{Columns}
use Rattle.host_index.specs.declared.entry.Entry.{Entry}
use Rattle.host_index.specs.declared.entry.Which.{Which}

pub record Filing : Type 0 where
  pub entries : List Entry
  -- the numbers of their keys, and the keys
  pub order : List ℕ
  pub columns : Columns
  -- how many entries and how many first places there is memory for
  pub room : ℕ
  pub firsts : ℕ

-- how many places it is of
abbrev pub places_of : Filing → ℕ
places_of i = length i.columns.majors.items

-- no memory is asked for and none given back
pub record SameMemory (i j : Filing) : Type 0 where
  pub room : j.room ≡ i.room
  pub firsts : j.firsts ≡ i.firsts
  pub columns : KeepsMemory i.columns j.columns

-- a key can be added: it is free and fits, and the place's other key is another
pub record HasPlaceFor (i : Filing) (which : Which) (e : Entry) : Type 0 where
  pub within : e.place < places_of i
  pub free : is_free i.columns (number_of which e.place) ≡ true
  pub fits : fits which e ≡ true
  pub other : is_free i.columns (other_of which e.place) ≡ false
      → rank (entry_in i.columns (other_of which e.place)) ≡ rank e → ⊥

-- where an entry of this rank would begin stands the place's other key, under the same
pub record IsSecondOf (i : Filing) (p : ℕ) (e : Entry) : Type 0 where
  pub within : p < length i.entries
  pub same_place : number_at i.order p / 2 ≡ e.place
  pub same_rank : rank (get_or i.entries p nothing) ≡ rank e
