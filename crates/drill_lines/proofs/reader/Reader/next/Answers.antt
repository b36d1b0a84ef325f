use Rattle.std.proofs.Common.{◌≡◌, ◌∙◌, ap}
use Rattle.std.proofs.lemmas.Result.{err_from_is_err_and}
use Rattle.drill_lines.specs.Drills.{known, left}
use Rattle.drill_lines.proofs.DrillLemmas.{first_faults}
use Rattle.drill_lines.proofs.reader.Reader.next.Goals as goal

pub returns-in_err-numbered : goal.returns-in_err-numbered
returns-in_err-numbered c =
    let p = err_from_is_err_and c.from_residual.result c.from_residual.ensures.1 in
    rw (p.1, p.2) (first_faults (known c.args.self.now) (left c.args.self.now) _ c.in-Some.line c.in_err-numbered.field-0.0 c.in-Some.ensures.lines c.in_err-numbered.ensures.read)
