-- What a guard counts from, while bytes or a FIN wait.
use Rattle.std.proofs.Common.{◌≡◌, ◌∙◌, ◌<◌, Bool, true, false, Option, Some, None, refl, sym, ap, subst, arith}
use Rattle.std.specs.Prelude.{◌≤ℤ◌, ◌<ℤ◌, int_le, if◌then◌else◌}
use Rattle.std.proofs.lemmas.Int.{ints}
use Rattle.net_base.specs.declared.time.Duration.{Duration}
use Rattle.net_base.specs.declared.time.Instant.{Instant}
use Rattle.control_wire.specs.Seq.{seq_eq}
use Rattle.control_wire.specs.declared.seq_number.TcpSeqNumber.{TcpSeqNumber}
use Rattle.sock_tcp.specs.Timers.{after, is_over}
use Rattle.sock_tcp.specs.View.{View}
use Rattle.sock_tcp.specs.declared.state.State.TheVariants as state
use Rattle.host_guard.specs.Guarding.{first_seen}
use Rattle.net_host.specs.Aim.{Asked, Begins, EndsWhatStands, Looked, Moved, Moves, Saw, SparesWhatMoved, SparesWhatMoves, Stands, Turned, waiting}
use Rattle.net_host.specs.Guards.{end_of, ended, ended_if, has_ended, lawful_limit, moment_left, phase_left, phase_of, same_phase, since_by, since_in, with_timeout}
use Rattle.net_host.specs.Remembered.{Remembered as Guard}
use Rattle.net_host.specs.Watching.{Looks, is_over_for}
use Rattle.net_host.specs.declared.guard.GuardSettings.{GuardSettings}
use Rattle.net_host.specs.declared.guard.Phase.{Phase}
use Rattle.net_host.specs.declared.guard.Phase.TheVariants as phase

no_number : (a : TcpSeqNumber) → None ≡ Some a → ⊥
no_number a e = cc

out : (a b : TcpSeqNumber) → Some a ≡ Some b → a ≡ b
out a b e = cc

out_of : (t u : Instant) → Some t ≡ Some u → t ≡ u
out_of t u e = cc

itself : (a : TcpSeqNumber) → seq_eq a a ≡ true
itself a = grind arith

numbers : (x y a : TcpSeqNumber) → Some x ≡ Some a → Some y ≡ Some a → seq_eq x y ≡ true
numbers x y a e f = subst (λ z. seq_eq x z ≡ true) (out x a e ∙ sym (out y a f)) (itself x)

same : (p q : Phase) (a : TcpSeqNumber) → waiting p ≡ Some a → waiting q ≡ Some a → same_phase p q ≡ true
same phase.Free q a e f = absurd (no_number a e)
same phase.Handshake q a e f = absurd (no_number a e)
same phase.FinWait2 q a e f = absurd (no_number a e)
same (phase.Closing x) phase.Free a e f = absurd (no_number a f)
same (phase.Closing x) phase.Handshake a e f = absurd (no_number a f)
same (phase.Closing x) phase.FinWait2 a e f = absurd (no_number a f)
same (phase.Closing x) (phase.Closing y) a e f = numbers x y a e f
same (phase.Closing x) (phase.Stuck y) a e f = numbers x y a e f
same (phase.Stuck x) phase.Free a e f = absurd (no_number a f)
same (phase.Stuck x) phase.Handshake a e f = absurd (no_number a f)
same (phase.Stuck x) phase.FinWait2 a e f = absurd (no_number a f)
same (phase.Stuck x) (phase.Closing y) a e f = numbers x y a e f
same (phase.Stuck x) (phase.Stuck y) a e f = numbers x y a e f

equal : (x y : TcpSeqNumber) → seq_eq x y ≡ true → x ≡ y
equal x y e = let n : x.0 ≡ y.0 = grind (arith, e) in ap (λ k. record { 0 = k }) n

-- another number, another phase
other : (p q : Phase) (a : TcpSeqNumber) → waiting p ≡ Some a → (waiting q ≡ Some a → ⊥) → same_phase p q ≡ false
other p q a e nay = go p q e nay (same_phase p q) refl
  where
    no_truth : true ≡ false → ⊥
    no_truth e = cc

    not_same : (x y : TcpSeqNumber) → Some x ≡ Some a → (Some y ≡ Some a → ⊥) → (b : Bool) → seq_eq x y ≡ b → seq_eq x y ≡ false
    not_same x y e nay true s = absurd (nay (ap (λ z. Some z) (sym (equal x y s)) ∙ e))
    not_same x y e nay false s = s

    go : (p q : Phase) → waiting p ≡ Some a → (waiting q ≡ Some a → ⊥) → (b : Bool) → same_phase p q ≡ b → same_phase p q ≡ false
    go phase.Free q e nay b s = absurd (no_number a e)
    go phase.Handshake q e nay b s = absurd (no_number a e)
    go phase.FinWait2 q e nay b s = absurd (no_number a e)
    go (phase.Closing x) phase.Free e nay b s = refl
    go (phase.Closing x) phase.Handshake e nay b s = refl
    go (phase.Closing x) phase.FinWait2 e nay b s = refl
    go (phase.Closing x) (phase.Closing y) e nay b s = not_same x y e nay b s
    go (phase.Closing x) (phase.Stuck y) e nay b s = not_same x y e nay b s
    go (phase.Stuck x) phase.Free e nay b s = refl
    go (phase.Stuck x) phase.Handshake e nay b s = refl
    go (phase.Stuck x) phase.FinWait2 e nay b s = refl
    go (phase.Stuck x) (phase.Closing y) e nay b s = not_same x y e nay b s
    go (phase.Stuck x) (phase.Stuck y) e nay b s = not_same x y e nay b s

since_of : (p q : Phase) (a : TcpSeqNumber) (since : Option Instant) (now : Instant) → waiting p ≡ Some a → since_in p q since now ≡ since_by (same_phase p q) since now
since_of phase.Free q a since now e = absurd (no_number a e)
since_of phase.Handshake q a since now e = refl
since_of phase.FinWait2 q a since now e = refl
since_of (phase.Closing x) q a since now e = refl
since_of (phase.Stuck x) q a since now e = refl

first_before : (t now : Instant) → (first_seen (Some t) now).micros ≤ℤ t.micros
first_before t now = go (int_le t.micros now.micros) refl
  where
    go : (b : Bool) → int_le t.micros now.micros ≡ b → (if b then t else now).micros ≤ℤ t.micros
    go true e = grind (arith, ints)
    go false e = grind (arith, ints, e)

first_by_now : (t now : Instant) → (first_seen (Some t) now).micros ≤ℤ now.micros
first_by_now t now = go (int_le t.micros now.micros) refl
  where
    go : (b : Bool) → int_le t.micros now.micros ≡ b → (if b then t else now).micros ≤ℤ now.micros
    go true e = grind (arith, ints, e)
    go false e = grind (arith, ints)

first_from : (from t now : Instant) → from.micros ≤ℤ t.micros → from.micros ≤ℤ now.micros → from.micros ≤ℤ (first_seen (Some t) now).micros
first_from from t now h k = go (int_le t.micros now.micros)
  where
    go : (b : Bool) → from.micros ≤ℤ (if b then t else now).micros
    go true = h
    go false = k

-- ---- it counts from a moment at which SND.UNA stood where it is

record SeenBy (from : Instant) (since : Option Instant) : Type 0 where
  t : Instant
  is : since ≡ Some t
  before : t.micros ≤ℤ from.micros

seen_by_now : (b : Bool) (since : Option Instant) (from now : Instant) → now.micros ≤ℤ from.micros → SeenBy from (since_by b since now)
seen_by_now false since from now h = record { t = now; is = refl; before = h }
seen_by_now true None from now h = record { t = now; is = refl; before = h }
seen_by_now true (Some u) from now h =
    let p = first_by_now u now in
    record { t = first_seen (Some u) now; is = refl; before = grind (arith, ints, p, h) }

seen_still : (since : Option Instant) (from now : Instant) → SeenBy from since → SeenBy from (since_by true since now)
seen_still since from now s =
    let p = first_before s.t now in
    let q = s.before in
    record { t = first_seen (Some s.t) now; is = ap (λ o. since_by true o now) s.is; before = grind (arith, ints, p, q) }

record Seen (una : TcpSeqNumber) (from : Instant) (g : Guard) : Type 0 where
  waits : waiting g.phase ≡ Some una
  since : SeenBy from g.since

seen_next : (una : TcpSeqNumber) (from now : Instant) (v : View) (g : Guard) → waiting (phase_of v) ≡ Some una → Seen una from g → SeenBy from (since_in (phase_of v) g.phase g.since now)
seen_next una from now v g waits s =
    subst (λ o. SeenBy from o) (sym (since_of (phase_of v) g.phase una g.since now waits ∙ ap (λ b. since_by b g.since now) (same (phase_of v) g.phase una waits s.waits))) (seen_still g.since from now s.since)

kept : (una : TcpSeqNumber) (from : Instant) (st : GuardSettings) (now : Instant) (v w : View) (g h : Guard) → waiting (phase_of v) ≡ Some una → Looks st now v g h w → is_over_for st g v now ≡ false → SeenBy from (since_in (phase_of v) g.phase g.since now) → Seen una from h
kept una from st now v w g h waits k over s = record {
  waits = ap waiting (k.phase ∙ ap (λ b. phase_left b (phase_of v)) over) ∙ waits;
  since = subst (λ o. SeenBy from o) (sym (k.since ∙ ap (λ b. moment_left b (since_in (phase_of v) g.phase g.since now)) over)) s;
}

seen : (una : TcpSeqNumber) (from : Instant) (g : Guard) → Stands una from g → Seen una from g
seen una from x (Begins st now v w g h waits at k over) =
    kept una from st now v w g h waits k over
    (subst (λ o. SeenBy from o) (sym (since_of (phase_of v) g.phase una g.since now waits)) (seen_by_now (same_phase (phase_of v) g.phase) g.since from now at))
seen una from x (Looked st now v w g h s waits k over) =
    kept una from st now v w g h waits k over (seen_next una from now v g waits (seen una from g s))
seen una from x (Turned now g h s k) =
    let before = seen una from g s in
    record { waits = ap waiting k.phase ∙ before.waits; since = subst (λ o. SeenBy from o) (sym k.since) before.since }

closed : (p : Phase) (una : TcpSeqNumber) (v : View) → waiting p ≡ Some una → (ended p v).state ≡ state.Closed
closed phase.Free una v e = absurd (no_number una e)
closed phase.Handshake una v e = absurd (no_number una e)
closed phase.FinWait2 una v e = absurd (no_number una e)
closed (phase.Closing x) una v e = refl
closed (phase.Stuck x) una v e = refl

late : (t from now : Instant) (limit : Duration) → t.micros ≤ℤ from.micros → (after from limit).micros ≤ℤ now.micros → is_over (after t limit) now ≡ true
late t from now limit h k = grind (arith, ints, h, k)

early : (t from now : Instant) (limit : Duration) → from.micros ≤ℤ t.micros → now.micros <ℤ (after from limit).micros → is_over (after t limit) now ≡ false
early t from now limit h k = grind (arith, ints, h, k)

pub ends_what_stands : EndsWhatStands
ends_what_stands st una from now limit v w g h stands waits is past k =
    let s = seen_next una from now v g waits (seen una from g stands) in
    let over : is_over_for st g v now ≡ true =
    ap (λ o. has_ended (end_of o (since_in (phase_of v) g.phase g.since now)) now) is
    ∙ ap (λ o. has_ended (end_of (Some limit) o) now) s.is
    ∙ late s.t from now limit s.before past in
    ap (λ (x : View). x.state) (k.socket ∙ ap (λ b. ended_if b (phase_of v) (with_timeout (lawful_limit st.timeout) v)) over)
    ∙ closed (phase_of v) una (with_timeout (lawful_limit st.timeout) v) waits

-- ---- it counts from no moment before

NotBefore : Instant → Option Instant → Type 0
NotBefore from since = (t : Instant) → since ≡ Some t → from.micros ≤ℤ t.micros

no_moment : (t : Instant) → None ≡ Some t → ⊥
no_moment t e = cc

none_before : (from : Instant) → NotBefore from None
unfolding NotBefore
none_before from t e = absurd (no_moment t e)

at_least : (from u : Instant) → from.micros ≤ℤ u.micros → NotBefore from (Some u)
unfolding NotBefore
at_least from u h t e = subst (λ (x : Instant). from.micros ≤ℤ x.micros) (out_of u t e) h

by_least : (from : Instant) (b : Bool) (since : Option Instant) (now : Instant) → from.micros ≤ℤ now.micros → NotBefore from since → NotBefore from (since_by b since now)
unfolding NotBefore
by_least from false since now h k = at_least from now h
by_least from true None now h k = at_least from now h
by_least from true (Some u) now h k = at_least from (first_seen (Some u) now) (first_from from u now (k u refl) h)

in_least : (from : Instant) (p q : Phase) (since : Option Instant) (now : Instant) → from.micros ≤ℤ now.micros → NotBefore from since → NotBefore from (since_in p q since now)
in_least from phase.Free q since now h k = none_before from
in_least from phase.Handshake q since now h k = by_least from (same_phase phase.Handshake q) since now h k
in_least from phase.FinWait2 q since now h k = by_least from (same_phase phase.FinWait2 q) since now h k
in_least from (phase.Closing x) q since now h k = by_least from (same_phase (phase.Closing x) q) since now h k
in_least from (phase.Stuck x) q since now h k = by_least from (same_phase (phase.Stuck x) q) since now h k

left_least : (from : Instant) (b : Bool) (since : Option Instant) → NotBefore from since → NotBefore from (moment_left b since)
left_least from true since k = none_before from
left_least from false since k = k

-- what is seen anew is counted from now
anew : (p q : Phase) (una : TcpSeqNumber) (since : Option Instant) (now : Instant) → waiting p ≡ Some una → (waiting q ≡ Some una → ⊥) → since_in p q since now ≡ Some now
anew p q una since now waits nay = since_of p q una since now waits ∙ ap (λ b. since_by b since now) (other p q una waits nay)

moved : (from : Instant) (g : Guard) → Moved from g → NotBefore from g.since
moved from x (Moves st now v w g h una waits nay at k) =
    subst (NotBefore from) (sym k.since) (left_least from (is_over_for st g v now) (since_in (phase_of v) g.phase g.since now) (subst (NotBefore from) (sym (anew (phase_of v) g.phase una g.since now waits nay)) (at_least from now at)))
moved from x (Saw st now v w g h m at k) =
    subst (NotBefore from) (sym k.since) (left_least from (is_over_for st g v now) (since_in (phase_of v) g.phase g.since now) (in_least from (phase_of v) g.phase g.since now at (moved from g m)))
moved from x (Asked now g h m k) = subst (NotBefore from) (sym k.since) (moved from g m)

spared : (st : GuardSettings) (now : Instant) (v w : View) (g h : Guard) → is_over_for st g v now ≡ false → Looks st now v g h w → w ≡ with_timeout (lawful_limit st.timeout) v
spared st now v w g h over k = k.socket ∙ ap (λ b. ended_if b (phase_of v) (with_timeout (lawful_limit st.timeout) v)) over

not_over : (from now : Instant) (limit : Duration) (since : Option Instant) → NotBefore from since → now.micros <ℤ (after from limit).micros → has_ended (end_of (Some limit) since) now ≡ false
unfolding NotBefore
not_over from now limit None k below = refl
not_over from now limit (Some t) k below = early t from now limit (k t refl) below

pub spares_what_moved : SparesWhatMoved
spares_what_moved st una from now limit v w g h m at waits is below k =
    spared st now v w g h
    (ap (λ o. has_ended (end_of o (since_in (phase_of v) g.phase g.since now)) now) is
    ∙ not_over from now limit (since_in (phase_of v) g.phase g.since now) (in_least from (phase_of v) g.phase g.since now at (moved from g m)) below)
    k

pub spares_what_moves : SparesWhatMoves
spares_what_moves st una now limit v w g h waits nay is some k =
    let below : now.micros <ℤ (after now limit).micros = grind (arith, ints, some) in
    let same : now.micros ≤ℤ now.micros = grind (arith, ints) in
    spared st now v w g h
    (ap (λ o. has_ended (end_of o (since_in (phase_of v) g.phase g.since now)) now) is
    ∙ ap (λ o. has_ended (end_of (Some limit) o) now) (anew (phase_of v) g.phase una g.since now waits nay)
    ∙ early now now now limit same below)
    k
