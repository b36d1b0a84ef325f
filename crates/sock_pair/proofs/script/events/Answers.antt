use Rattle.std.proofs.Common.{◌≡◌, map, [], ◌∷◌, ◌++◌, ◌∙◌, ap, sym, subst}
use Rattle.std.specs.Prelude.{is_ok}
use Rattle.std.proofs.lemmas.List.{map-append}
use Rattle.std.proofs.lemmas.Result.{err_from_is_err_and}
use Rattle.pair_core.specs.EventValue.{event_value}
use Rattle.sock_pair.specs.ScriptText.{lines_left, words_of}
use Rattle.sock_pair.proofs.ScriptEvents.{HasRead, faults, read_all, read_more, read_none, stops}
use Rattle.sock_pair.proofs.script.events.Goals as goal

pub loop-line-init : goal.loop-line-init
loop-line-init c = subst (λ es. HasRead (lines_left c.args.lines.now.number c.args.lines.now.rest.now) (lines_left c.args.lines.now.number c.args.lines.now.rest.now) (map event_value es)) (sym c.new-events.ensures.items) (read_none _)

pub loop-line-preserved : goal.loop-line-preserved
loop-line-preserved c =
    let all = lines_left c.args.lines.now.number c.args.lines.now.rest.now in
    let done = map event_value c.loop-line.events.items in
    let left = lines_left c.next.new.self.number c.next.new.self.rest.now in
    let line = c.in-Some.line in
    let pushed : done ++ event_value c.in_ok-event.event ∷ [] ≡ map event_value c.push.new.self.items =
    sym (ap (map event_value) c.in_ok-push.ensures.items ∙ map-append event_value c.loop-line.events.items (c.in_ok-event.event ∷ [])) in
    subst (HasRead all left) pushed
    (read_more all line.number (line.name.now ∷ words_of line.values.now) left done (subst (λ ls. HasRead all ls done) c.in-Some.ensures.lines c.loop-line.invariant) (event_value c.in_ok-event.event) c.in_ok-event.ensures)

pub returns-in_err-event : goal.returns-in_err-event
returns-in_err-event c =
    let all = lines_left c.args.lines.now.number c.args.lines.now.rest.now in
    let done = map event_value c.loop-line.events.items in
    let left = lines_left c.next.new.self.number c.next.new.self.rest.now in
    let line = c.in-Some.line in
    let p = err_from_is_err_and c.from_residual.result c.from_residual.ensures.1 in
    rw (p.1, p.2)
    (faults all line.number (line.name.now ∷ words_of line.values.now) left done (subst (λ ls. HasRead all ls done) c.in-Some.ensures.lines c.loop-line.invariant) c.in_err-event.field-0.0 c.in_err-event.ensures)

pub returns-in_err-push : goal.returns-in_err-push
returns-in_err-push c =
    let all = lines_left c.args.lines.now.number c.args.lines.now.rest.now in
    let done = map event_value c.loop-line.events.items in
    let left = lines_left c.next.new.self.number c.next.new.self.rest.now in
    let line = c.in-Some.line in
    let p = err_from_is_err_and c.from_residual-in_err-push.result c.from_residual-in_err-push.ensures.1 in
    rw (p.1, p.2)
    (stops all line.number (line.name.now ∷ words_of line.values.now) left done (subst (λ ls. HasRead all ls done) c.in-Some.ensures.lines c.loop-line.invariant) (ap is_ok c.in_ok-event.ensures))

pub returns : goal.returns
returns c =
    let all = lines_left c.args.lines.now.number c.args.lines.now.rest.now in
    let done = map event_value c.loop-line.events.items in
    read_all all done (subst (λ ls. HasRead all ls done) c.in_default.ensures.lines c.loop-line.invariant)
