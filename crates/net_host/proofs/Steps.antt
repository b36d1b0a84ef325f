-- One turn, and what it makes of the walk.
use Rattle.std.proofs.Common.{◌≡◌, ℕ, ◌+◌, ◌<◌, List, true, false, Some, None, subst, ap, arith}
use Rattle.std.specs.Prelude.{Result, Ok, Err, is_err, slice_get}
use Rattle.sock_core.specs.Facts.{Facts}
use Rattle.net_host.specs.Counts.{lost_by}
use Rattle.net_host.specs.Kinds.{is_tcp_at}
use Rattle.net_host.specs.Looking.{LooksNext, Unseen}
use Rattle.net_host.specs.Speaking.{Due, Packet, Quiet, Quiets, Readies, Short, Silent, Speaks, TurnAt}
use Rattle.net_host.specs.Walks.{Nowhere}
use Rattle.net_host.specs.declared.counters.Counters.{Counters}
use Rattle.net_host.specs.declared.guard.GuardSettings.{GuardSettings}
use Rattle.net_host.specs.declared.slot.Slot.{Slot}
use Rattle.net_host.specs.declared.wire.Sent.{Sent}
use Rattle.net_host.specs.declared.wire.TooShort.{TooShort}
use Rattle.net_host.proofs.Walking.{next_due, none_due, none_unseen}

abbrev ok_of : Result ℕ TooShort → ℕ
ok_of (Ok n) = n
ok_of (Err x) = 1

abbrev ok : ℕ → Result ℕ TooShort
ok n = Ok n

pub not_zero : (n : ℕ) → 0 < n → ok n ≡ ok 0 → ⊥
not_zero n some e = let z : n ≡ 0 = ap ok_of e in omega (arith, some, z)

module _ {G : Type 0} (f : Facts) (st : GuardSettings) (ss seen : List (Slot G)) (turn : ℕ) where
  pub readies : (i : ℕ) → LooksNext f st turn ss (Some i) seen → Readies f st ss turn i seen
  readies i l = record { changed = l.changed; next = next_due f st turn i ss seen l; looked = l.due.0 }

  pub quiets : LooksNext f st turn ss None seen → Quiets f st ss seen
  quiets l = record { changed = l.changed; none = none_due f st seen l.found; all = none_unseen f st seen l.found }

module _ {G : Type 0} (f : Facts) (tells : G → ℕ → Type 0) (st : GuardSettings) (ss seen us : List (Slot G)) (turn i : ℕ) (n : Sent) (k : Counters) (out mid : List ℕ) where
  pub short : (r : Result (Unit {0}) TooShort) → Readies f st ss turn i seen → TurnAt f tells seen i out r n us mid → is_err r ≡ true → Speaks f tells st ss turn k out (Err (record {})) us (i + 1) k mid
  short (Ok u) next h e = cc
  short (Err x) next h e = Short ss seen us turn i n k out mid x next h

  pub packet : (r : Result (Unit {0}) TooShort) → Readies f st ss turn i seen → TurnAt f tells seen i out r n us mid → is_err r ≡ false → 0 < n.len → Speaks f tells st ss turn k out (Ok n.len) us (i + 1) k mid
  packet (Ok u) next h e some = Packet ss seen us turn i n k out mid next h some
  packet (Err x) next h e some = cc

  pub silent : (r : Result (Unit {0}) TooShort) → Readies f st ss turn i seen → TurnAt f tells seen i out r n us mid → is_err r ≡ false → n.len ≡ 0 → (q : Result ℕ TooShort) (ts : List (Slot G)) (turn' : ℕ) (k' : Counters) (out' : List ℕ) → Speaks f tells st us (i + 1) (lost_by n.lost (is_tcp_at (slice_get us i)) k) mid q ts turn' k' out' → Speaks f tells st ss turn k out q ts turn' k' out'
  silent (Ok u) next h e none q ts turn' k' out' rest = Silent ss seen us ts turn i turn' n k k' out mid out' q next h none rest
  silent (Err x) next h e none q ts turn' k' out' rest = cc

-- where no packet went out, nobody is due any more, and each was seen
module _ {G : Type 0} (f : Facts) (tells : G → ℕ → Type 0) (st : GuardSettings) where
  pub nobody_left : (ss ts : List (Slot G)) (turn turn' : ℕ) (k k' : Counters) (out out' : List ℕ) (r : Result ℕ TooShort) → Speaks f tells st ss turn k out r ts turn' k' out' → r ≡ Ok 0 → Nowhere (Due f) ts × Nowhere (Unseen st) ts
  nobody_left ss ts turn turn' k k' out out' r (Quiet _ _ _ _ _ h) e = (h.none, h.all)
  nobody_left ss ts turn turn' k k' out out' r (Packet _ _ _ _ _ n _ _ _ next h some) e = absurd (not_zero n.len some e)
  nobody_left ss ts turn turn' k k' out out' r (Short _ _ _ _ _ _ _ _ _ x next h) e = cc
  nobody_left ss ts turn turn' k k' out out' r (Silent _ _ us _ _ i _ n _ _ _ mid _ _ next h none rest) e = nobody_left us ts (i + 1) turn' (lost_by n.lost (is_tcp_at (slice_get us i)) k) k' mid out' r rest e
