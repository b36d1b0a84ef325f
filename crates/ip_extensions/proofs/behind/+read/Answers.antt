use Rattle.std.proofs.Common.{◌≡◌, ◌-◌, slice_index, subst}
use Rattle.ip_extensions.specs.Headers.{behind_of, read}
use Rattle.ip_extensions.proofs.Reading.{goes_on, is_known}
use Rattle.ip_extensions.proofs.behind.+read.Goals as goal

pub returns-in-Some : goal.returns-in-Some
returns-in-Some t c = is_known c.args.most c.args.next c.args.bytes.now (behind_of c.in-Some.known) c.in-Some.ensures.value

pub returns-else-most-eq0 : goal.returns-else-most-eq0
returns-else-most-eq0 t c = goes_on c.args.most c.args.next c.args.bytes.now (behind_of c.read.result) c.if-most-eq0.false c.in-None.ensures.value
    (subst (λ os. behind_of c.read.result ≡ read (c.args.most - 1) (slice_index c.args.bytes.now 0) os) c.rest_of.ensures (subst (λ n. behind_of c.read.result ≡ read (c.args.most - 1) n c.rest_of.result.now) c.next_of.ensures c.read.ensures))
