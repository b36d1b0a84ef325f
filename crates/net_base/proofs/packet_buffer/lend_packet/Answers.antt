use Rattle.std.proofs.Common.{rules, arith, ◌≡◌, ◌+◌, ◌-◌, ◌++◌, ℕ, List, length, take, drop, refl, ap, ◌∙◌}
use Rattle.std.proofs.lemmas.List.{drop-drop}
use Rattle.net_base.proofs.packet_buffer.lend_packet.Goals as goal

pub returns : goal.returns
returns g c =
    let long : length c.f.new.arg3 ≡ c.args.count = search rules in
    let seam : c.args.from + (c.args.from + c.args.count - c.args.from) ≡ c.args.from + length c.f.new.arg3 = omega arith in
    record {
      left = _;
      left_length = long;
      met = record { header_shown = _; header_shows = refl; shown = _; shows = search rules; end = _; met = c.f.ensures; leaves = refl };
      after = ap (λ (l : List ℕ). take c.args.from c.args.places.now ++ (c.f.new.arg3 ++ l)) (drop-drop _ _ c.args.places.now ∙ ap (λ j. drop j c.args.places.now) seam);
    }
