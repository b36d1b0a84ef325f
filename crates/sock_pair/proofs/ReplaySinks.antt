-- Calls on a sink, one after the other.
use Rattle.std.proofs.Common.{◌≡◌, ℕ, List, [], ◌++◌, Option, None, Some, ap, ◌∙◌, append_assoc, append-nil, sym, subst, Bool, Result, Ok, Err, ◌∷◌, ◌+◌, ◌<◌, length, take, get_or}
use Rattle.std.proofs.lemmas.List.{take_more}
use Rattle.pair_core.specs.PairViews.{StoredView}
use Rattle.sock_pair.specs.ReplayLines.{outcome_line, outcome_lines}
use Rattle.pair_core.specs.declared.outcome.Outcome.{Outcome}
use Rattle.std.specs.Io.KnownBytes.{Appends}
use Rattle.sock_pair.specs.ReplayStreams.{Takes}

pub appends_nil : (a : Option (List ℕ)) → Appends a a []
appends_nil None = tt
appends_nil (Some x) = sym (append-nil x)

pub appends_both : (a b c : Option (List ℕ)) (bs cs : List ℕ) → Appends a b bs → Appends b c cs → Appends a c (bs ++ cs)
appends_both None b c bs cs p q = tt
appends_both (Some x) None c bs cs p q = absurd p
appends_both (Some x) (Some y) None bs cs p q = absurd q
appends_both (Some x) (Some y) (Some z) bs cs p q = q ∙ ap (λ l. l ++ cs) p ∙ append_assoc x bs cs

-- a call after others that were taken
pub takes_after : {E : Type 0} (a b c : Option (List ℕ)) (r : Result (Unit {0}) E) (failed : Bool) (bs cs : List ℕ) → Appends a b bs → Takes b r cs c failed → Takes a r (bs ++ cs) c failed
takes_after a b c (Ok u) failed bs cs p q = (appends_both a b c bs cs p q.0, q.1)
takes_after a b c (Err e) failed bs cs p q = q

-- the lines of one outcome more
pub lines_more : (segments : List StoredView) (os : List Outcome) (o : Outcome) → outcome_lines segments (os ++ o ∷ []) ≡ outcome_lines segments os ++ outcome_line segments o
unfolding outcome_lines
lines_more segments [] o = append-nil (outcome_line segments o)
lines_more segments (x ∷ os) o =
    ap (λ l. outcome_line segments x ++ l) (lines_more segments os o)
    ∙ sym (append_assoc (outcome_line segments x) (outcome_lines segments os) (outcome_line segments o))

pub lines_to : (segments : List StoredView) (os : List Outcome) (n : ℕ) (o : Outcome) → n < length os → o ≡ get_or os n o → outcome_lines segments (take (n + 1) os) ≡ outcome_lines segments (take n os) ++ outcome_line segments o
lines_to segments os n o l is =
    ap (outcome_lines segments) (take_more os n o l ∙ ap (λ x. take n os ++ x ∷ []) (sym is)) ∙ lines_more segments (take n os) o

pub appends_no_line : (segments : List StoredView) (a : Option (List ℕ)) → Appends a a (outcome_lines segments [])
unfolding outcome_lines
appends_no_line segments a = appends_nil a

pub appends_line : (segments : List StoredView) (os : List Outcome) (n : ℕ) (o : Outcome) (a b c : Option (List ℕ)) → n < length os → o ≡ get_or os n o → Appends a b (outcome_lines segments (take n os)) → Appends b c (outcome_line segments o) → Appends a c (outcome_lines segments (take (n + 1) os))
appends_line segments os n o a b c l is p q = subst (Appends a c) (sym (lines_to segments os n o l is)) (appends_both a b c _ _ p q)
