-- Turns go round: between two of a place, each that is due throughout has had one.
use Rattle.std.specs.Prelude.{ℕ, ◌≡◌, ◌+◌, ◌<◌, ◌⊎◌, List, [], ◌∷◌, ◌++◌, length, IfSome, Result, slice_get}
use Rattle.sock_core.specs.Facts.{Facts}
use Rattle.net_host.specs.Speaking.{Due, Packet, Quiet, Readies, Short, Silent, Speaks}
use Rattle.net_host.specs.Walks.{IsNext}
use Rattle.net_host.specs.declared.counters.Counters.{Counters}
use Rattle.net_host.specs.declared.guard.GuardSettings.{GuardSettings}
use Rattle.net_host.specs.declared.slot.Slot.{Slot}
use Rattle.net_host.specs.declared.wire.TooShort.{TooShort}

-- A turn of a place: the sockets as guards had looked at them before it, and the place from which the walk began. It is
-- the first one that is due from there on.
pub record Turn (G : Type 0) : Type 0 where
  pub facts : Facts
  pub seen : List (Slot G)
  pub from : ℕ
  pub place : ℕ
  pub next : IsNext (Due facts) seen from place

abbrev pub turn_of : {G : Type 0} (f : Facts) (st : GuardSettings) (ss : List (Slot G)) (turn i : ℕ)
    (seen : List (Slot G)) → Readies f st ss turn i seen → Turn G
turn_of f st ss turn i seen h = record { facts = f; seen = seen; from = turn; place = i; next = h.next }

module _ {G : Type 0} (f : Facts) (tells : G → ℕ → Type 0) (st : GuardSettings) where
  -- the turns of an `emit`, one after the other
  unfoldable pub turns_of : (ss : List (Slot G)) (turn : ℕ) (k : Counters) (out : List ℕ) (r : Result ℕ TooShort)
      (ts : List (Slot G)) (turn' : ℕ) (k' : Counters) (out' : List ℕ)
      → Speaks f tells st ss turn k out r ts turn' k' out' → List (Turn G)
  turns_of ss turn k out r ts turn' k' out' (Quiet _ _ _ _ _ h) = []
  turns_of ss turn k out r ts turn' k' out' (Packet _ seen _ _ i _ _ _ _ next h some) =
      turn_of f st ss turn i seen next ∷ []
  turns_of ss turn k out r ts turn' k' out' (Short _ seen _ _ i _ _ _ _ x next h) =
      turn_of f st ss turn i seen next ∷ []
  turns_of ss turn k out r ts turn' k' out' (Silent _ seen us _ _ i _ n _ _ _ mid _ _ next h none rest) =
      turn_of f st ss turn i seen next ∷ turns_of us (i + 1) _ mid r ts turn' k' out' rest

module _ {G : Type 0} where
  -- Each walk begins behind the place that had its turn last. This is the place from which the first begins, and the
  -- one from which the next will.
  abbrev pub Follow : ℕ → List (Turn G) → ℕ → Type 0
  Follow t [] t' = t' ≡ t
  Follow t (u ∷ us) t' = (u.from ≡ t) × Follow (u.place + 1) us t'

  -- the last turn is that of this place
  abbrev pub EndsWith : ℕ → List (Turn G) → Type 0
  EndsWith i [] = ⊥
  EndsWith i (u ∷ []) = u.place ≡ i
  EndsWith i (u ∷ (v ∷ us)) = EndsWith i (v ∷ us)

  -- the place is due at each turn, once guards have looked
  abbrev pub IsDueThroughout : ℕ → List (Turn G) → Type 0
  IsDueThroughout k [] = Unit {0}
  IsDueThroughout k (u ∷ us) =
      ((k < length u.seen) × IfSome (slice_get u.seen k) (Due u.facts)) × IsDueThroughout k us

  -- it has had one of them
  abbrev pub HasTurn : ℕ → List (Turn G) → Type 0
  HasTurn k [] = ⊥
  HasTurn k (u ∷ us) = (u.place ≡ k) ⊎ HasTurn k us

-- Of any `emit`, and so of any list of them: no other call of an interface changes whose turn it is.
abbrev pub TurnsFollow : {G : Type 0} → (G → ℕ → Type 0) → Type 0
TurnsFollow {G} tells =
    (f : Facts) (st : GuardSettings) (ss : List (Slot G)) (turn : ℕ) (k : Counters)
    (out : List ℕ) (r : Result ℕ TooShort) (ts : List (Slot G)) (turn' : ℕ) (k' : Counters) (out' : List ℕ)
    (h : Speaks f tells st ss turn k out r ts turn' k' out')
    → Follow turn (turns_of f tells st ss turn k out r ts turn' k' out' h) turn'

-- the turns of two lists of `emit`s that follow each other
abbrev pub TurnsGoOn : Type 0 → Type 0
TurnsGoOn G = (us vs : List (Turn G)) (t t' t'' : ℕ) → Follow t us t' → Follow t' vs t'' → Follow t (us ++ vs) t''

-- from behind a turn of the place i up to its next one, each other place that is due throughout has a turn
abbrev pub TurnsGoRound : Type 0 → Type 0
TurnsGoRound G =
    (us : List (Turn G)) (i k end : ℕ) → Follow (i + 1) us end → EndsWith i us → IsDueThroughout k us → (k ≡ i → ⊥)
    → HasTurn k us
