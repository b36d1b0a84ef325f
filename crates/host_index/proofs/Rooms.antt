-- Whether there is room for one more key.
use Rattle.std.proofs.Common.{◌≡◌, ◌∙◌, ℕ, ◌+◌, ◌*◌, ◌/◌, ◌<◌, ◌≤◌, List, [], true, false, length, get_or, refl, sym, ap, arith, subst}
use Rattle.host_index.specs.declared.columns.Columns.{Columns}
use Rattle.host_index.specs.declared.entry.Entry.{Entry}
use Rattle.host_index.specs.declared.entry.Which.{Which}
use Rattle.host_index.specs.declared.entry.Which.TheVariants as which
use Rattle.host_index.specs.Columns.{AreAsMany, Frees, KeepsMemory, how_many, entry_in, is_free, number_of, other_of}
use Rattle.host_index.specs.Entries.{has, nothing, rank}
use Rattle.host_index.specs.Filing.{Filing, HasPlaceFor, IsSecondOf}
use Rattle.host_index.specs.Indexing.{IsIndex, entries_in, number_at}
use Rattle.host_index.specs.Known.{AreFirst}
use Rattle.host_index.proofs.Counting.{all, some}
use Rattle.host_index.proofs.Numbers.{as_many, entry_of, not_free}

pub in_all : (w : Which) (k n : ℕ) → k < n → number_of w k < 2 * n
in_all which.First k n h = omega (arith, h)
in_all which.Second k n h = omega (arith, h)

-- where a key is free there are fewer entries than keys
pub room_left : (c : Columns) (os : List ℕ) (n : ℕ) → IsIndex c os → n < 2 * length c.majors.items → is_free c n ≡ true → length os < 2 * length c.majors.items
room_left c os n index within free =
    let a : 0 < how_many (λ m. is_free c m) (2 * length c.majors.items) = some (λ m. is_free c m) n (2 * length c.majors.items) within free in
    let b = index.counted in
    omega (arith, a, b)

-- of two numbers of a place, the other
the_other : (w : Which) (m k : ℕ) → m / 2 ≡ k → (m ≡ number_of w k → ⊥) → m ≡ other_of w k
the_other which.First m k h nay = omega (arith, h, nay)
the_other which.Second m k h nay = omega (arith, h, nay)

-- a key that has a place stands nowhere as the second of its place
pub no_second : (c : Columns) (os : List ℕ) (room firsts p : ℕ) (w : Which) (e : Entry) → IsIndex c os → HasPlaceFor (record { entries = entries_in c os; order = os; columns = c; room = room; firsts = firsts }) w e → IsSecondOf (record { entries = entries_in c os; order = os; columns = c; room = room; firsts = firsts }) p e → ⊥
no_second c os room firsts p w e index has second =
    let within : p < length os = subst (λ n. p < n) (as_many c os) second.within in
    let taken : is_free c (number_at os p) ≡ false = index.taken p within in
    let is : number_at os p ≡ other_of w e.place = the_other w (number_at os p) e.place second.same_place (λ s. not_free (sym (ap (is_free c) s ∙ has.free) ∙ taken)) in
    let ranks : rank (entry_in c (number_at os p)) ≡ rank e = sym (ap rank (entry_of c os p within)) ∙ second.same_rank in
    has.other (sym (ap (is_free c) is) ∙ taken) (sym (ap (λ m. rank (entry_in c m)) is) ∙ ranks)

-- where a key is free or of no place, nothing is freed
pub frees_none : (c : Columns) (n : ℕ) → AreAsMany c → (n / 2 < length c.majors.items → is_free c n ≡ true) → Frees n c c
frees_none c n many free = record {
  freed = free;
  others = λ k h. refl;
  others_free = λ k h. refl;
  as_many = many;
  len = refl;
  memory = record { majors = refl; minors = refl; doors = refl; moments = refl; places = refl };
}

-- ---- where nothing is filed

pub nothing_filed : (c : Columns) → AreAsMany c → ((n : ℕ) → n / 2 < length c.majors.items → is_free c n ≡ true) → IsIndex c []
nothing_filed c many free = record {
  as_many = many;
  ordered = λ i j less within. absurd (omega (arith, within));
  taken = λ k within. absurd (omega (arith, within));
  listed = λ n there taken. absurd (not_free (sym (free n there) ∙ taken));
  inside = λ k within. absurd (omega (arith, within));
  counted = (let a = all (λ n. is_free c n) (2 * length c.majors.items) (λ k less. free k (omega (arith, less))) in omega (arith, a));
}

pub none_first : (c : Columns) (ks : List ℕ) → AreFirst c [] ks
unfolding has
none_first c ks key put k less = refl
