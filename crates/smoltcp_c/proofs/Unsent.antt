-- What a dispatch answers where nothing was written.
use Rattle.std.proofs.Common.{◌≡◌, ℤ, zero, suc, pos, negsuc, Bool, true, false, refl, sym, ap}
use Rattle.smoltcp_c.specs.Answers.{error_address}
use Rattle.smoltcp_c.specs.Sends.{told_unsent}

pub dropped : (waits : Bool) (n : ℤ) → waits ≡ true → n ≡ pos 0 → error_address ≡ told_unsent waits n
dropped waits n a b = λ i. told_unsent (sym a i) (sym b i)

pub written : (waits : Bool) (n : ℤ) → (n ≡ pos 0 → ⊥) → n ≡ told_unsent waits n
written true (pos zero) other = absurd (other refl)
written true (pos (suc n)) other = refl
written true (negsuc n) other = refl
written false n other = refl

pub idle : (waits : Bool) (n : ℤ) → waits ≡ false → n ≡ told_unsent waits n
idle waits n a = ap (λ b. told_unsent b n) (sym a)
