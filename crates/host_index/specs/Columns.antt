-- The keys of many places, in columns.
use Rattle.std.specs.Prelude.{ℕ, ◌≡◌, ◌<◌, ◌≤◌, ◌+◌, ◌*◌, ◌/◌, ◌%◌, ◌-◌, ◌==◌, Bool, true, false, nat_eq}
use Rattle.std.specs.Prelude.{length, get_or}
use Rattle.std.specs.Prelude.{suc, zero, ◌&&◌, nat_le, nat_lt, not, slice_set, if◌then◌else◌, vec_capacity}
use Rattle.host_index.specs.declared.columns.Columns.{Columns}
use Rattle.host_index.specs.declared.entry.Entry.{Entry}
use Rattle.host_index.specs.declared.entry.Which.{Which}
use Rattle.host_index.specs.declared.entry.Which.TheVariants as which

pub record AreAsMany (c : Columns) : Type 0 where
  pub minors : length c.minors.items ≡ length c.majors.items
  pub doors : length c.doors.items ≡ length c.majors.items
  pub moments : length c.moments.items ≡ length c.majors.items
  pub few : length c.majors.items ≤ 1073741824

-- the number of a key
abbrev pub number_of : Which → ℕ → ℕ
number_of which.First place = 2 * place
number_of which.Second place = 2 * place + 1

-- ---- what stands there

abbrev pub first_in : Columns → ℕ → Entry
first_in c k = record { major = get_or c.majors.items k 0; minor = get_or c.minors.items k 0; place = k }

abbrev pub second_in : Columns → ℕ → Entry
second_in c k = record { major = 65536 + get_or c.doors.items k 0; minor = get_or c.moments.items k 0; place = k }

abbrev pub entry_in : Columns → ℕ → Entry
entry_in c n = if n % 2 == 0 then first_in c (n / 2) else second_in c (n / 2)

-- whether none was put there
abbrev pub is_free : Columns → ℕ → Bool
is_free c n =
    if n % 2 == 0 then get_or c.majors.items (n / 2) 0 == 340282366920938463463374607431768211455
    else get_or c.moments.items (n / 2) 0 == 18446744073709551615

-- how many of the first n have this property
unfoldable pub how_many : (ℕ → Bool) → ℕ → ℕ
how_many f zero = 0
how_many f (suc n) = (if f n then 1 else 0) + how_many f n

-- the number of a place's other key
abbrev pub other_of : Which → ℕ → ℕ
other_of which.First place = 2 * place + 1
other_of which.Second place = 2 * place

-- the key of this number is there, and is this one
pub record IsPut (n : ℕ) (e : Entry) (c : Columns) : Type 0 where
  pub within : n / 2 < length c.majors.items
  pub taken : is_free c n ≡ false
  pub here : entry_in c n ≡ e

-- whether a key fits there: 32 bits of the second part of a first one, sixteen of the first part of a second one
abbrev pub fits : Which → Entry → Bool
fits which.First e = not (e.major == 340282366920938463463374607431768211455) && nat_lt e.minor 4294967296
fits which.Second e = nat_le 65536 e.major && nat_lt e.major 131072 && nat_lt e.minor 18446744073709551615

-- ---- what is done

-- no memory is asked for and none given back, for as many places
pub record KeepsMemory (c d : Columns) : Type 0 where
  pub majors : vec_capacity d.majors ≡ vec_capacity c.majors
  pub minors : vec_capacity d.minors ≡ vec_capacity c.minors
  pub doors : vec_capacity d.doors ≡ vec_capacity c.doors
  pub moments : vec_capacity d.moments ≡ vec_capacity c.moments
  pub places : length d.majors.items ≡ length c.majors.items

pub record PutsFirst (e : Entry) (c d : Columns) : Type 0 where
  pub was_free : get_or c.majors.items e.place 0 ≡ 340282366920938463463374607431768211455
  pub taken : (e.major == 340282366920938463463374607431768211455) ≡ false
  pub majors : d.majors.items ≡ slice_set c.majors.items e.place e.major
  pub minors : d.minors.items ≡ slice_set c.minors.items e.place e.minor
  pub doors : d.doors ≡ c.doors
  pub moments : d.moments ≡ c.moments
  pub memory : KeepsMemory c d

pub record PutsSecond (e : Entry) (c d : Columns) : Type 0 where
  pub was_free : get_or c.moments.items e.place 0 ≡ 18446744073709551615
  pub taken : (e.minor == 18446744073709551615) ≡ false
  pub least : 65536 ≤ e.major
  pub doors : d.doors.items ≡ slice_set c.doors.items e.place (e.major - 65536)
  pub moments : d.moments.items ≡ slice_set c.moments.items e.place e.minor
  pub majors : d.majors ≡ c.majors
  pub minors : d.minors ≡ c.minors
  pub memory : KeepsMemory c d

-- the key of this number is put where it was free, and the others are what they were
pub record Puts (n : ℕ) (e : Entry) (c d : Columns) : Type 0 where
  pub within : n < 2 * length c.majors.items
  pub was_free : is_free c n ≡ true
  pub here : entry_in d n ≡ e
  pub taken : is_free d n ≡ false
  pub others : (k : ℕ) → nat_eq k n ≡ false → entry_in d k ≡ entry_in c k
  pub others_free : (k : ℕ) → nat_eq k n ≡ false → is_free d k ≡ is_free c k
  pub as_many : AreAsMany d
  pub len : length d.majors.items ≡ length c.majors.items
  pub memory : KeepsMemory c d

-- it is free, where it is there, and the others are what they were
pub record Frees (n : ℕ) (c d : Columns) : Type 0 where
  pub freed : n / 2 < length c.majors.items → is_free d n ≡ true
  pub others : (k : ℕ) → nat_eq k n ≡ false → entry_in d k ≡ entry_in c k
  pub others_free : (k : ℕ) → nat_eq k n ≡ false → is_free d k ≡ is_free c k
  pub as_many : AreAsMany d
  pub len : length d.majors.items ≡ length c.majors.items
  pub memory : KeepsMemory c d
