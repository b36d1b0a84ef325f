-- A list cut or filled up to its own length.
use Rattle.std.proofs.Common.{◌≡◌, ℕ, ◌++◌, length, take, drop, List, sym, ap, ◌∙◌}
use Rattle.std.proofs.Math.Seq.{take-append_seam}
use Rattle.std.specs.List.{refill}

pub refill_same : (ys w : List ℕ) → length w ≡ length ys → refill (length ys) ys w ≡ w
refill_same ys w e = ap (λ (k : ℕ). take k (w ++ drop (length w) ys)) (sym e) ∙ take-append_seam w (drop (length w) ys)
