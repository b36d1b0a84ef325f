use Rattle.std.proofs.Common.{◌≡◌, ap, subst, sym}
use Rattle.host_index.specs.Columns.{Frees, number_of}
use Rattle.host_index.proofs.Rooms.{frees_none}
use Rattle.host_index.proofs.index.Index.unfile.Goals as goal

pub returns-else-not-is_free-clause-frees : goal.returns-else-not-is_free-clause-frees
returns-else-not-is_free-clause-frees c =
    subst (λ v. Frees (number_of c.args.which c.args.place) v.columns v.columns) c.self.view_is
    (subst (λ n. Frees n c.self.inside.columns c.self.inside.columns) c.number_of-number.ensures
    (frees_none c.self.inside.columns c.number_of-number.result c.self.invariant.index.as_many (c.is_free.ensures.free c.if-not-is_free.false)))
