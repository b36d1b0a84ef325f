use Rattle.std.proofs.Common.{◌≡◌, ℕ, ◌+◌, ◌*◌, ◌/◌, ◌%◌, ◌<◌, List, take, drop, slice_index, arith, lit<, ap, sym, ◌∙◌}
use Rattle.std.proofs.Math.Nat.{div-add-mod, add-mul-div_right, add-mul-mod_self_right, mod-lt}
use Rattle.std.proofs.lemmas.List.{get_or-take, get_or-drop}
use Rattle.live_host.specs.Patterns.{character, place_of_line}

-- A period of 7030 bytes is 95 lines of 74.
in_lines : (m q : ℕ) → m + q * 7030 ≡ m + (q * 95) * 74
in_lines m q = omega arith

same_line : (m q : ℕ) → (m + q * 7030) / 74 % 95 ≡ m / 74 % 95
same_line m q =
    ap (λ n. n / 74 % 95) (in_lines m q) ∙ ap (λ n. n % 95) (add-mul-div_right m (q * 95) {z = 74} (lit< tt))
    ∙ add-mul-mod_self_right (m / 74) q 95

same_column : (m q : ℕ) → (m + q * 7030) % 74 ≡ m % 74
same_column m q = ap (λ n. n % 74) (in_lines m q) ∙ add-mul-mod_self_right m (q * 95) 74

same_character : (m q : ℕ) → character (m + q * 7030) ≡ character m
unfolding character
same_character m q = λ i. place_of_line (same_line m q i) (same_column m q i)

character_again : (at k : ℕ) → character (at % 7030 + k) ≡ character (at + k)
character_again at k =
    let whole : at + k ≡ at % 7030 + k + at / 7030 * 7030 = omega (arith, div-add-mod at 7030) in
    sym (ap character whole ∙ same_character (at % 7030 + k) (at / 7030))

-- A piece of the lines that are written out, from any place of the first period.
pub piece_of_lines : (lines : List ℕ) → ((k : ℕ) → k < 11126 → slice_index lines k ≡ character k)
    → (at count k : ℕ) → count ≡ 4096 → k < 4096
    → slice_index (take count (drop (at % 7030) lines)) k ≡ character (at + k)
piece_of_lines lines lined at count k whole h =
    let within : at % 7030 < 7030 = mod-lt at (lit< tt) in
    get_or-take count (drop (at % 7030) lines) k 0 (omega (arith, whole, h))
    ∙ get_or-drop (at % 7030) lines k 0
    ∙ lined (at % 7030 + k) (omega (arith, within, h))
    ∙ character_again at k
