-- Four octets are the same where their numbers are.
use Rattle.std.proofs.Common.{ℕ, ◌≡◌, ◌∙◌, ◌+◌, ◌*◌, ◌<◌, ap, sym, refl, Bool, true, nat_eq, List, [], ◌∷◌, length, get_or, arith}
use Rattle.std.proofs.lemmas.Bool.{eq-eqb, eqb-true}
use Rattle.std.proofs.lemmas.Bool.Decides.{same_from_decides}
use Rattle.std.proofs.lemmas.Slice.Eq.{bytes_eq-Decides}
use Rattle.std.specs.Str.{bytes_eq}
use Rattle.ip_wire.specs.Octets.{be32_at}

-- a list of four
four : (xs : List ℕ) → length xs ≡ 4
    → get_or xs 0 0 ∷ get_or xs 1 0 ∷ get_or xs 2 0 ∷ get_or xs 3 0 ∷ [] ≡ xs
four [] l = absurd (omega arith)
four (a ∷ []) l = absurd (omega arith)
four (a ∷ b ∷ []) l = absurd (omega arith)
four (a ∷ b ∷ c ∷ []) l = absurd (omega arith)
four (a ∷ b ∷ c ∷ d ∷ []) l = refl
four (a ∷ b ∷ c ∷ d ∷ e ∷ es) l = absurd (omega arith)

-- their number tells them
told : (a b c d e f g h : ℕ) → a < 256 → b < 256 → c < 256 → d < 256 → e < 256 → f < 256 → g < 256 → h < 256
    → 65536 * (256 * a + b) + (256 * c + d) ≡ 65536 * (256 * e + f) + (256 * g + h)
    → a ∷ b ∷ c ∷ d ∷ [] ≡ e ∷ f ∷ g ∷ h ∷ []
told a b c d e f g h a' b' c' d' e' f' g' h' is =
    let first : a ≡ e = omega (arith, is) in
    let second : b ≡ f = omega (arith, is) in
    let third : c ≡ g = omega (arith, is) in
    let fourth : d ≡ h = omega (arith, is) in
    rw (first, second, third, fourth) refl

pub same_numbers : (xs ys : List ℕ) → length xs ≡ 4 → ((k : ℕ) → k < length xs → get_or xs k 0 < 256)
    → length ys ≡ 4 → ((k : ℕ) → k < length ys → get_or ys k 0 < 256)
    → nat_eq (be32_at xs 0) (be32_at ys 0) ≡ bytes_eq xs ys
same_numbers xs ys l s m t =
    same_from_decides _ _ (
      (λ e. sym (four xs l)
          ∙ told (get_or xs 0 0) (get_or xs 1 0) (get_or xs 2 0) (get_or xs 3 0) (get_or ys 0 0) (get_or ys 1 0)
          (get_or ys 2 0) (get_or ys 3 0) (s 0 (omega (arith, l))) (s 1 (omega (arith, l))) (s 2 (omega (arith, l)))
          (s 3 (omega (arith, l))) (t 0 (omega (arith, m))) (t 1 (omega (arith, m))) (t 2 (omega (arith, m)))
          (t 3 (omega (arith, m))) (eqb-true _ _ e)
          ∙ four ys m),
      (λ e. eq-eqb _ _ (ap (λ zs. be32_at zs 0) e)),
    )
    (bytes_eq-Decides xs ys)
