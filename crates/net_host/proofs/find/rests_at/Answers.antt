use Rattle.std.proofs.Common.{◌∙◌, length, refl, ap}
use Rattle.std.proofs.lemmas.Option.{slice_get_read}
use Rattle.control_wire.specs.Segment.{segment_of}
use Rattle.net_host.specs.Finding.{with_minor}
use Rattle.net_host.proofs.Rested.{rests_by}
use Rattle.net_host.proofs.find.rests_at.Goals as goal

pub returns-in-Some-rests_until-clause-rests : goal.returns-in-Some-rests_until-clause-rests
returns-in-Some-rests_until-clause-rests g c =
    rests_by c.args.ip.now (segment_of c.args.repr.now) c.args.slots.now c.args.entry c.in-Some.slot.now c.in-Some-rests_until.until c.has_minor.result (slice_get_read c.args.slots.now (length c.args.slots.now) c.args.entry.place c.in-Some.slot.now refl c.in-Some.ensures.lookup.3.0 c.in-Some.ensures.lookup.1) c.in-Some-rests_until.ensures.until (c.has_minor.ensures ∙ ap (λ o. with_minor o c.args.entry.minor c.in-Some-rests_until.until) c.order.ensures.value)
