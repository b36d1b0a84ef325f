-- What a side told stays true while what it has grows, and so does what the other side heard of it.
use Rattle.std.proofs.Common.{◌≡◌, ◌⊎◌, ℕ, ◌+◌, ◌%◌, ◌^◌, arith, List, [], ◌∷◌, ◌++◌, true, refl, sym, subst, ◌∙◌, Option, Some, None, inl, inr}
use Rattle.std.specs.Prelude.{slice_get, zero, suc}
use Rattle.sock_tcp.specs.declared.rules.Rules.TheVariants as rules
use Rattle.tcp_laws.specs.Loss.{Tells}
use Rattle.pair_core.specs.Network.{Endpoint}
use Rattle.pair_core.specs.PairNetwork.{endpoint_of}
use Rattle.pair_core.specs.PairSteps.{exchanged}
use Rattle.pair_core.specs.PairViews.{HostView, StoredView, PairView, host_of}
use Rattle.pair_core.specs.Sides.{other_side}
use Rattle.pair_core.specs.StreamViews.{Phase, Unopened, Listening, SynSent, SynReceived, Open, FinQueued, Silent, Dead, IsSynchronized, IsNonSynchronized}
use Rattle.pair_core.specs.declared.side.Side.{Side}
use Rattle.pair_core.specs.declared.side.Side.TheVariants.{A, B}
use Rattle.sack_laws.specs.Told.{AllToldBy, AllTrue, AreTrue, IsTold, IsTrueRange, IsTwiceRange, NoRange, ScoreboardIsTrue, TrueIn, counted_by, has_byte, keeps_scoreboard}

-- ---- phases

pub phase_is : (p : Phase) → IsNonSynchronized p ⊎ (IsSynchronized p ⊎ (p ≡ Dead))
phase_is Unopened = inl tt
phase_is Listening = inl tt
phase_is SynSent = inl tt
phase_is SynReceived = inl tt
phase_is Open = inr (inl tt)
phase_is FinQueued = inr (inl tt)
phase_is Silent = inr (inl tt)
phase_is Dead = inr (inr refl)

pub no_range : (p : Phase) (e : Endpoint) (low : ℕ) (rs : List (Option (ℕ × ℕ))) → IsNonSynchronized p → TrueIn p e low rs → NoRange rs
no_range Unopened e low rs n h = h
no_range Listening e low rs n h = h
no_range SynSent e low rs n h = h
no_range SynReceived e low rs n h = h
no_range Open e low rs n h = absurd n
no_range FinQueued e low rs n h = absurd n
no_range Silent e low rs n h = absurd n
no_range Dead e low rs n h = absurd n

pub all_true : (p : Phase) (e : Endpoint) (low : ℕ) (rs : List (Option (ℕ × ℕ))) → IsSynchronized p → TrueIn p e low rs → AreTrue e low rs
all_true Open e low rs n h = h
all_true FinQueued e low rs n h = h
all_true Silent e low rs n h = h
all_true Unopened e low rs n h = absurd n
all_true Listening e low rs n h = absurd n
all_true SynSent e low rs n h = absurd n
all_true SynReceived e low rs n h = absurd n
all_true Dead e low rs n h = absurd n

pub true_in : (p : Phase) (e : Endpoint) (low : ℕ) (rs : List (Option (ℕ × ℕ))) → IsSynchronized p → AreTrue e low rs → TrueIn p e low rs
true_in Open e low rs n h = h
true_in FinQueued e low rs n h = h
true_in Silent e low rs n h = h
true_in Unopened e low rs n h = absurd n
true_in Listening e low rs n h = absurd n
true_in SynSent e low rs n h = absurd n
true_in SynReceived e low rs n h = absurd n
true_in Dead e low rs n h = absurd n

pub none_true : (e : Endpoint) (low : ℕ) (rs : List (Option (ℕ × ℕ))) → NoRange rs → AllTrue e low rs
none_true e low [] h = tt
none_true e low (None ∷ rs) h = none_true e low rs h
none_true e low (Some r ∷ rs) h = absurd h

-- what tells nothing is true
pub nothing_in : (p : Phase) (e : Endpoint) (low : ℕ) (rs : List (Option (ℕ × ℕ))) → NoRange rs → TrueIn p e low rs
nothing_in Unopened e low rs h = h
nothing_in Listening e low rs h = h
nothing_in SynSent e low rs h = h
nothing_in SynReceived e low rs h = h
nothing_in Open e low rs h = inl (none_true e low rs h)
nothing_in FinQueued e low rs h = inl (none_true e low rs h)
nothing_in Silent e low rs h = inl (none_true e low rs h)
nothing_in Dead e low rs h = tt

pub dead_true : (p : Phase) (e : Endpoint) (low : ℕ) (rs : List (Option (ℕ × ℕ))) → p ≡ Dead → TrueIn p e low rs
dead_true p e low rs d = subst (λ q. TrueIn q e low rs) (sym d) tt

-- ---- what a side has grows

-- it is CLOSED for good, or no byte of it is lost
abbrev pub KeepsBytes : Endpoint → Endpoint → Type 0
KeepsBytes e f = (f.view.phase ≡ Dead) ⊎ ((n : ℕ) → has_byte e n ≡ true → has_byte f n ≡ true)

-- what it counted and RCV.NXT moved together
pub record Follows (e f : Endpoint) : Type 0 where
  pub synced : IsSynchronized f.view.phase
  pub more : ℕ
  pub counted : counted_by f ≡ counted_by e + more
  pub rcv_nxt : f.view.rcv_nxt % 2 ^ 32 ≡ (e.view.rcv_nxt + more) % 2 ^ 32

pub record Grows (e f : Endpoint) : Type 0 where
  pub dead : e.view.phase ≡ Dead → f.view.phase ≡ Dead
  pub follows : IsSynchronized e.view.phase → (f.view.phase ≡ Dead) ⊎ Follows e f
  pub bytes : KeepsBytes e f

module _ (e f : Endpoint) where
  range_moves : (low : ℕ) (r : ℕ × ℕ) → Follows e f → ((n : ℕ) → has_byte e n ≡ true → has_byte f n ≡ true) → IsTrueRange e low r → IsTrueRange f low r
  range_moves low r m keeps t = record {
    first = t.first;
    len = t.len;
    some = t.some;
    since = t.since;
    small = t.small;
    begins = omega (arith, t.begins, m.counted, m.rcv_nxt);
    ends = omega (arith, t.ends, m.counted, m.rcv_nxt);
    there = λ i less. keeps (t.first + i) (t.there i less);
  }

  all_move : (low : ℕ) (rs : List (Option (ℕ × ℕ))) → Follows e f → ((n : ℕ) → has_byte e n ≡ true → has_byte f n ≡ true) → AllTrue e low rs → AllTrue f low rs
  all_move low [] m keeps h = tt
  all_move low (None ∷ rs) m keeps h = all_move low rs m keeps h
  all_move low (Some r ∷ rs) m keeps h = (range_moves low r m keeps h.0, all_move low rs m keeps h.1)

  pub twice_moves : (low : ℕ) (r : ℕ × ℕ) → Follows e f → ((n : ℕ) → has_byte e n ≡ true → has_byte f n ≡ true) → IsTwiceRange e low r → IsTwiceRange f low r
  twice_moves low r m keeps t = record {
    first = t.first;
    len = t.len;
    some = t.some;
    since = t.since;
    small = t.small;
    begins = omega (arith, t.begins, m.counted, m.rcv_nxt);
    ends = omega (arith, t.ends, m.counted, m.rcv_nxt);
    there = λ n from to. keeps n (t.there n from to);
  }

  are_moved : (low : ℕ) (rs : List (Option (ℕ × ℕ))) → Follows e f → ((n : ℕ) → has_byte e n ≡ true → has_byte f n ≡ true) → AreTrue e low rs → AreTrue f low rs
  are_moved low rs m keeps (inl h) = inl (all_move low rs m keeps h)
  are_moved low rs m keeps (inr t) = inr (record { first = t.first; others = t.others; are = t.are; twice = twice_moves low t.first m keeps t.twice; all = all_move low t.others m keeps t.all })

  one_grows : (low : ℕ) (rs : List (Option (ℕ × ℕ))) → Grows e f → TrueIn e.view.phase e low rs → TrueIn f.view.phase f low rs
  one_grows low rs g h = by (phase_is e.view.phase)
    where
      kept : IsSynchronized e.view.phase → Follows e f → KeepsBytes e f → TrueIn f.view.phase f low rs
      kept synced m (inl d) = dead_true f.view.phase f low rs d
      kept synced m (inr k) = true_in f.view.phase f low rs m.synced (are_moved low rs m k (all_true e.view.phase e low rs synced h))

      moved : IsSynchronized e.view.phase → (f.view.phase ≡ Dead) ⊎ Follows e f → TrueIn f.view.phase f low rs
      moved synced (inl d) = dead_true f.view.phase f low rs d
      moved synced (inr m) = kept synced m g.bytes

      by : IsNonSynchronized e.view.phase ⊎ (IsSynchronized e.view.phase ⊎ (e.view.phase ≡ Dead)) → TrueIn f.view.phase f low rs
      by (inl early) = nothing_in f.view.phase f low rs (no_range e.view.phase e low rs early h)
      by (inr (inl synced)) = moved synced (g.follows synced)
      by (inr (inr d)) = dead_true f.view.phase f low rs (g.dead d)

  pub told_grows : (s : Side) (ts : List StoredView) → Grows e f → AllToldBy s e ts → AllToldBy s f ts
  told_grows s [] g h = tt
  told_grows s (t ∷ ts) g h = (λ own. one_grows t.taken_at t.segment.sack_ranges g (h.0 own), told_grows s ts g h.1)

pub scoreboard_grows : {G : Type 0} (h : HostView G) (e f : Endpoint) → Grows e f → ScoreboardIsTrue h e → ScoreboardIsTrue h f
scoreboard_grows h e f g (inl d) = inl (g.dead d)
scoreboard_grows h e f g (inr b) = by g.bytes
  where
    by : KeepsBytes e f → ScoreboardIsTrue h f
    by (inl d) = inl d
    by (inr k) = inr (λ r s x t. k (h.released + x) (b r s x t))

-- ---- the scoreboard stays

pub record SameBoard {G : Type 0} (h k : HostView G) : Type 0 where
  pub rules : k.control_block.rules ≡ rules.Rfc → keeps_scoreboard k.control_block.state ≡ true → (h.control_block.rules ≡ rules.Rfc) × (keeps_scoreboard h.control_block.state ≡ true)
  pub sacked : (x : ℕ) → Tells k.control_block.sacked x → Tells h.control_block.sacked x
  pub released : k.released ≡ h.released

-- ---- segments that are stored

pub append_told : (s : Side) (e : Endpoint) (ts us : List StoredView) → AllToldBy s e ts → AllToldBy s e us → AllToldBy s e (ts ++ us)
append_told s e [] us h k = k
append_told s e (t ∷ ts) us h k = (h.0, append_told s e ts us h.1 k)

-- all of one side
abbrev pub AllOf : Side → List StoredView → Type 0
AllOf s [] = Unit {0}
AllOf s (t ∷ ts) = (t.emitter ≡ s) × AllOf s ts

pub foreign : (s : Side) (e : Endpoint) (ts : List StoredView) → AllOf s ts → AllToldBy (other_side s) e ts
foreign s e [] h = tt
foreign s e (t ∷ ts) h = (λ own. absurd (apart s (sym h.0 ∙ own)), foreign s e ts h.1)
  where
    apart : (s : Side) → s ≡ other_side s → ⊥
    apart A d = cc
    apart B d = cc

pub told_at : (s : Side) (e : Endpoint) (ts : List StoredView) (i : ℕ) (t : StoredView) → slice_get ts i ≡ Some t → t.emitter ≡ s → AllToldBy s e ts → TrueIn e.view.phase e t.taken_at t.segment.sack_ranges
told_at s e [] i t at own h = absurd cc
told_at s e (u ∷ us) zero t at own h = let same : u ≡ t = cc in subst (λ (x : StoredView). x.emitter ≡ s → TrueIn e.view.phase e x.taken_at x.segment.sack_ranges) same h.0 own
told_at s e (u ∷ us) (suc i) t at own h = told_at s e us i t at own h.1

-- ---- one side acts

module _ {G : Type 0} (p : PairView G) (k : HostView G) (ts : List StoredView) where
  pub acts : (s : Side)
      → AllToldBy s (endpoint_of k) ts
      → AllToldBy (other_side s) (endpoint_of (host_of (other_side s) p)) ts
      → ScoreboardIsTrue k (endpoint_of (host_of (other_side s) p))
      → ScoreboardIsTrue (host_of (other_side s) p) (endpoint_of k)
      → IsTold (exchanged s p k ts)
  acts A own others heard theirs A = record { told = own; heard = heard }
  acts A own others heard theirs B = record { told = others; heard = theirs }
  acts B own others heard theirs B = record { told = own; heard = heard }
  acts B own others heard theirs A = record { told = others; heard = theirs }

-- it stores more segments of its own, what it has grows, and this is what it heard
module _ {G : Type 0} (p : PairView G) (k : HostView G) (more : List StoredView) (s : Side) where
  pub acts_storing : IsTold p → Grows (endpoint_of (host_of s p)) (endpoint_of k) → AllOf s more → AllToldBy s (endpoint_of k) more → ScoreboardIsTrue k (endpoint_of (host_of (other_side s) p)) → IsTold (exchanged s p k (p.segments ++ more))
  acts_storing h g own new heard =
      acts p k (p.segments ++ more) s
      (append_told s (endpoint_of k) p.segments more (told_grows (endpoint_of (host_of s p)) (endpoint_of k) s p.segments g (h s).told) new)
      (append_told (other_side s) (endpoint_of (host_of (other_side s) p)) p.segments more (h (other_side s)).told (foreign s (endpoint_of (host_of (other_side s) p)) more own))
      heard
      (scoreboard_grows (host_of (other_side s) p) (endpoint_of (host_of s p)) (endpoint_of k) g (theirs s h))
    where
      theirs : (s : Side) → IsTold p → ScoreboardIsTrue (host_of (other_side s) p) (endpoint_of (host_of s p))
      theirs A h = (h B).heard
      theirs B h = (h A).heard

  -- and of the other side it heard nothing
  pub same_scoreboard : IsTold p → SameBoard (host_of s p) k → ScoreboardIsTrue k (endpoint_of (host_of (other_side s) p))
  same_scoreboard h b = by (h s).heard
    where
      e : Endpoint
      e = endpoint_of (host_of (other_side s) p)

      by : ScoreboardIsTrue (host_of s p) e → ScoreboardIsTrue k e
      by (inl d) = inl d
      by (inr c) = inr (λ r st x t. let o = b.rules r st in subst (λ n. has_byte e (n + x) ≡ true) (sym b.released) (c o.0 o.1 x (b.sacked x t)))
