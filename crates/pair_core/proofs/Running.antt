-- One step more of a run.
use Rattle.std.proofs.Common.{◌≡◌, ℕ, ◌+◌, ◌<◌, refl, sym, ap, subst, ◌∙◌, arith, List, [], ◌∷◌, ◌++◌, length, take, get_or, append_assoc, length-append}
use Rattle.std.proofs.lemmas.List.{append-nil, take_more}
use Rattle.pair_core.specs.declared.event.Event.{Event}
use Rattle.pair_core.specs.declared.outcome.Outcome.{Outcome}
use Rattle.pair_core.specs.PairViews.{PairView}
use Rattle.pair_core.specs.PairRuns.{EventRun, Happens, Ran}
use Rattle.pair_core.proofs.PairAdding.{first_adds_up}

run_more : {G : Type 0} (tells : G → ℕ → Type 0) (es : List Event) (e : Event) (p r q : PairView G) (os : List Outcome) (o : Outcome) → EventRun tells es p os r → Happens tells e r o q → EventRun tells (es ++ e ∷ []) p (os ++ o ∷ []) q
run_more tells [] e p r q [] o run step = (q, subst (λ z. Happens tells e z o q) (sym run) step, refl)
run_more tells [] e p r q (x ∷ os) o run step = absurd run
run_more tells (x ∷ es) e p r q [] o run step = absurd run
run_more tells (x ∷ es) e p r q (y ∷ os) o run step = (run.0, run.1, run_more tells es e run.0 r q os o run.2 step)

ran : {G : Type 0} (tells : G → ℕ → Type 0) (es : List Event) (p q : PairView G) (before after os : List Outcome) → after ≡ before ++ os → EventRun tells (take (length os) es) p os q → Ran tells es p before after q
ran tells es p q before after os are run = record { outcomes = os; are = are; run = run; adds = first_adds_up tells es p os q run }

-- a run of no event
pub ran_none : {G : Type 0} (tells : G → ℕ → Type 0) (es : List Event) (p : PairView G) (os : List Outcome) → Ran tells es p os os p
ran_none tells es p os = ran tells es p p os os [] (sym (append-nil os)) refl

-- the run of one event more
pub ran_more : {G : Type 0} (tells : G → ℕ → Type 0) (es : List Event) (n : ℕ) (e : Event) (p r q : PairView G) (before now after : List Outcome) (o : Outcome) → n < length es → e ≡ get_or es n e → length now ≡ length before + n → Ran tells es p before now r → Happens tells e r o q → after ≡ now ++ o ∷ [] → Ran tells es p before after q
ran_more tells es n e p r q before now after o l is count d step app =
    ran tells es p q before after (d.outcomes ++ o ∷ []) (app ∙ ap (λ xs. xs ++ o ∷ []) d.are ∙ append_assoc before d.outcomes (o ∷ []))
    (subst (λ xs. EventRun tells xs p (d.outcomes ++ o ∷ []) q) first (run_more tells (take (length d.outcomes) es) e p r q d.outcomes o d.run step))
  where
    done : length d.outcomes ≡ n
    done = omega (arith, count, ap length d.are, length-append before d.outcomes)

    more : length (d.outcomes ++ o ∷ []) ≡ n + 1
    more = omega (arith, done, length-append d.outcomes (o ∷ []))

    first : take (length d.outcomes) es ++ e ∷ [] ≡ take (length (d.outcomes ++ o ∷ [])) es
    first = ap (λ k. take k es ++ e ∷ []) done ∙ ap (λ x. take n es ++ x ∷ []) is ∙ sym (take_more es n e l) ∙ ap (λ k. take k es) (sym more)
