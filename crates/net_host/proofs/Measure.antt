-- Each turn of a socket that is due leaves it one turn fewer at this moment.
use Rattle.std.proofs.Common.{◌≡◌, ℕ, ◌+◌, ◌-◌, ◌<◌, List, get_or, Bool, true, false, Some, refl, sym, subst, ap, ◌∙◌, arith}
use Rattle.std.specs.Prelude.{IfSome, slice_set, nat_lt, Result, int_le, ◌-ℤ◌, unsigned_abs, ℤ, sum_by, if◌then◌else◌, ◌==◌}
use Rattle.std.proofs.lemmas.Int.{ints}
use Rattle.std.proofs.lemmas.List.Sums.{sum_by-set}
use Rattle.std.proofs.lemmas.Option.{get_or_from_slice_get}
use Rattle.std.proofs.lemmas.Bool.{and_parts}
use Rattle.net_base.specs.declared.time.Instant.{Instant}
use Rattle.sock_core.specs.Facts.{Facts}
use Rattle.sock_core.specs.declared.context.PollAt.{PollAt}
use Rattle.sock_core.specs.declared.context.PollAt.TheVariants as poll
use Rattle.sock_tcp.specs.Polls.{is_reached}
use Rattle.sock_tcp.specs.Timers.{after, is_over}
use Rattle.sock_tcp.specs.View.{moment_of}
use Rattle.host_guard.specs.Guarding.{not_before, taken_after, taken_at}
use Rattle.net_host.specs.Guards.{may_in}
use Rattle.net_host.specs.Speaking.{Due, TurnAt}
use Rattle.net_host.specs.Turns.{TakesTurn, asked_of, delayed, is_due, may_speak}
use Rattle.net_host.specs.Walks.{IsNext}
use Rattle.net_host.specs.declared.slot.Slot.{Slot}
use Rattle.net_host.specs.declared.wire.Sent.{Sent}
use Rattle.net_host.specs.declared.wire.TooShort.{TooShort}

not_over : (now : Instant) → is_over (after now (record { micros = 1 })) now ≡ false
not_over now = grind (arith, ints)

later_not_over : (b : Bool) (t u now : Instant) → int_le t.micros u.micros ≡ b → is_over t now ≡ false → is_over (if b then u else t) now ≡ false
later_not_over true t u now e h = grind (arith, ints)
later_not_over false t u now e h = h

pub not_reached : (now : Instant) (asked : PollAt) → is_reached (not_before (after now (record { micros = 1 })) asked) now ≡ false
not_reached now poll.Now = not_over now
not_reached now (poll.Time u) = later_not_over (int_le (after now (record { micros = 1 })).micros u.micros) (after now (record { micros = 1 })) u now refl (not_over now)
not_reached now poll.Ingress = refl

may_if : (b : Bool) (now : Instant) (asked : PollAt) → is_reached (delayed b now asked) now ≡ true → b ≡ true
may_if true now asked h = refl
may_if false now asked h = let no : true ≡ false = sym h ∙ not_reached now asked in cc

pub due_may : {G : Type 0} (f : Facts) (s : Slot G) → is_due f s ≡ true → may_speak s (moment_of f) ≡ true
due_may f s h = may_if (may_speak s (moment_of f)) (moment_of f) (asked_of s.guard.phase s.guard.end s.guard.last s.socket f) h

-- how many turns a socket has left at a moment
abbrev pub left_in : {G : Type 0} → Instant → Slot G → ℕ
left_in now s = 64 - taken_at s.guard.moment s.guard.taken now

abbrev pub left_turns : {G : Type 0} → Instant → List (Slot G) → ℕ
left_turns now ss = sum_by (λ s. left_in now s) ss

no_gap : (z : ℤ) → unsigned_abs (z -ℤ z) ≡ 0
no_gap z = grind (arith, ints)

spent_at : (now : Instant) (n : ℕ) → taken_at (Some now) n now ≡ n
spent_at now n = ap (λ k. if k == 0 then n else 0) (no_gap now.micros)

turn_spends : {G : Type 0} (f : Facts) (tells : G → ℕ → Type 0) (before after : Slot G) (out out' : List ℕ) (r : Result (Unit {0}) TooShort) (n : Sent) → is_due f before ≡ true → TakesTurn f tells before out r n after out' → left_in (moment_of f) after < left_in (moment_of f) before
turn_spends f tells before after out out' r n due h =
    let may : may_speak before (moment_of f) ≡ true = due_may f before due in
    let k : ℕ = taken_at before.guard.moment before.guard.taken (moment_of f) in
    let below : k < 64 = grind (arith, (and_parts (nat_lt k 64) (may_in before.guard.phase before.guard.last (moment_of f)) may).0) in
    let is : taken_at after.guard.moment after.guard.taken (moment_of f) ≡ k + 1 = ap (λ m. taken_at m after.guard.taken (moment_of f)) h.asked.moment ∙ spent_at (moment_of f) after.guard.taken ∙ h.asked.taken ∙ ap (λ b. taken_after b k) may in
    omega (arith, is, below)

pub turn_decreases : {G : Type 0} (f : Facts) (tells : G → ℕ → Type 0) (ss ts : List (Slot G)) (turn i : ℕ) (out out' : List ℕ) (r : Result (Unit {0}) TooShort) (n : Sent) → IsNext (Due f) ss turn i → TurnAt f tells ss i out r n ts out' → left_turns (moment_of f) ts < left_turns (moment_of f) ss
turn_decreases f tells ss ts turn i out out' r n next h =
    let due : is_due f h.before ≡ true = subst (λ o. IfSome o (Due f)) h.was next.holds in
    let fewer : left_in (moment_of f) h.after < left_in (moment_of f) h.before = turn_spends f tells h.before h.after out out' r n due h.changed in
    let is : get_or ss i h.before ≡ h.before = get_or_from_slice_get ss i h.before h.before h.was in
    let sum : sum_by (λ s. left_in (moment_of f) s) (slice_set ss i h.after) + left_in (moment_of f) (get_or ss i h.before) ≡ left_turns (moment_of f) ss + left_in (moment_of f) h.after = sum_by-set (λ s. left_in (moment_of f) s) ss i h.after h.before next.within in
    let here : left_in (moment_of f) (get_or ss i h.before) ≡ left_in (moment_of f) h.before = ap (left_in (moment_of f)) is in
    let whole : left_turns (moment_of f) (slice_set ss i h.after) < left_turns (moment_of f) ss = omega (arith, sum, here, fewer) in
    subst (λ (xs : List (Slot _)). left_turns (moment_of f) xs < left_turns (moment_of f) ss) (sym h.now) whole
