use Rattle.std.proofs.Common.{◌≡◌, ◌∷◌, ◌∙◌, ap, sym}
use Rattle.sock_pair.specs.ScriptText.{line_words, lines_left}
use Rattle.std.proofs.lemmas.Result.{err_from_is_err_and}
use Rattle.sock_pair.proofs.ScriptEvents.{first_faults}
use Rattle.sock_pair.proofs.script.parse.Goals as goal

pub returns-in_err-sizes-clause-value : goal.returns-in_err-sizes-clause-value
returns-in_err-sizes-clause-value c =
    let first : lines_left 1 c.args.text.now ≡ (c.in-Some.first.number, line_words c.in-Some.first) ∷ lines_left c.next.new.self.number c.next.new.self.rest.now = sym (ap (λ n. lines_left n c.new-lines.result.rest.now) c.new-lines.ensures.number ∙ ap (lines_left 1) c.new-lines.ensures.rest) ∙ c.in-Some.ensures.lines in
    let p = err_from_is_err_and c.from_residual.result c.from_residual.ensures.1 in
    rw (p.1, p.2) (first_faults c.args.text.now c.in-Some.first.number (line_words c.in-Some.first) (lines_left c.next.new.self.number c.next.new.self.rest.now) c.in_err-sizes.field-0.0 first (sym c.in_err-sizes.ensures.value))
