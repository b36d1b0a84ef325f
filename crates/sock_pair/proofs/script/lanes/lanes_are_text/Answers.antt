use Rattle.std.proofs.Common.{ℕ, cond, ltb, bit_or, refl, w8}
use Rattle.std.proofs.lemmas.Simd.{chunk-fits, length-chunk, zip2_of_maps, zip2_splat, zip2_splat_left}
use lib.Lanes.{chunk}
use Rattle.sock_pair.proofs.ScriptLanes.{none_stops}
use Rattle.sock_pair.proofs.script.lanes.lanes_are_text.Goals as goal

abbrev below : ℕ → ℕ → ℕ
below a b = cond (ltb a b) 255 0

pub returns : goal.returns
returns c =
    let v = chunk c.args.at 16 c.args.bytes.now in
    let long = length-chunk c.args.at 16 c.args.bytes.now c.requires in
    none_stops (λ x. bit_or (below x 33) (below 126 x)) _ _ v long
    (zip2_of_maps bit_or (λ x. below x 33) (λ x. below 126 x) v (zip2_splat below v 16 33 long) (zip2_splat_left below 126 16 v long)) refl
    (chunk-fits w8 c.args.at 16 c.args.bytes.now c.type_inv.bytes)
