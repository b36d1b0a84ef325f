use Rattle.std.proofs.Common.{◌≡◌, ◌∙◌, ap, refl, length, Some, map, slice_get, option_map}
use Rattle.std.proofs.lemmas.Option.{slice_get-map, slice_get_read}
use Rattle.pair_core.specs.Holding.{stored_of}
use Rattle.sock_pair.proofs.ReplaySinks.{takes_after}
use Rattle.sock_pair.proofs.script.output.put_numbered.Goals as goal

pub returns-in_ok-put-in-Some : goal.returns-in_ok-put-in-Some
returns-in_ok-put-in-Some g c =
    let found : slice_get (map stored_of c.args.segments.now) c.args.index ≡ Some (stored_of c.in-Some.segment.now) =
    slice_get-map stored_of c.args.segments.now c.args.index ∙ ap (option_map stored_of) (slice_get_read c.args.segments.now (length c.args.segments.now) c.args.index _ refl c.in-Some.ensures.lookup.3.0 c.in-Some.ensures.lookup.1) in
    rw found
    (takes_after _ _ _ _ _ _ _ c.in_ok-put_number.ensures.0 (takes_after _ _ _ _ _ _ _ c.in_ok-put-in-Some.ensures.0 c.put_segment.ensures))
