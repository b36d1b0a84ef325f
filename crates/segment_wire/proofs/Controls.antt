-- The control of a segment, read from a table by the four low flags.
use Rattle.std.proofs.Common.{ℕ, suc, zero, ◌/◌, ◌%◌, ◌<◌, ◌≡◌, List, [], ◌∷◌, get_or, refl, ap, ◌∙◌, arith}
use Rattle.std.specs.Prelude.{◌==◌, if◌then◌else◌}
use Rattle.control_wire.specs.declared.tcp.TcpControl.{TcpControl}
use Rattle.control_wire.specs.declared.tcp.TcpControl.TheVariants as control
use Rattle.segment_wire.specs.Tcp.{control_of}

abbrev table : List TcpControl
table =
    control.None ∷ control.Fin ∷ control.Syn ∷ control.None ∷ control.Rst ∷ control.None ∷ control.None ∷ control.None ∷ control.Psh ∷ control.Fin ∷ control.Syn ∷ control.Psh ∷ control.Rst ∷ control.Psh ∷ control.Psh ∷ control.Psh ∷ []

low : (d : TcpControl) (n : ℕ) → n < 16 → get_or table n d ≡ control_of n
low d zero h = refl
low d (suc zero) h = refl
low d (suc (suc zero)) h = refl
low d (suc (suc (suc zero))) h = refl
low d (suc (suc (suc (suc zero)))) h = refl
low d (suc (suc (suc (suc (suc zero))))) h = refl
low d (suc (suc (suc (suc (suc (suc zero)))))) h = refl
low d (suc (suc (suc (suc (suc (suc (suc zero))))))) h = refl
low d (suc (suc (suc (suc (suc (suc (suc (suc zero)))))))) h = refl
low d (suc (suc (suc (suc (suc (suc (suc (suc (suc zero))))))))) h = refl
low d (suc (suc (suc (suc (suc (suc (suc (suc (suc (suc zero)))))))))) h = refl
low d (suc (suc (suc (suc (suc (suc (suc (suc (suc (suc (suc zero))))))))))) h = refl
low d (suc (suc (suc (suc (suc (suc (suc (suc (suc (suc (suc (suc zero)))))))))))) h = refl
low d (suc (suc (suc (suc (suc (suc (suc (suc (suc (suc (suc (suc (suc zero))))))))))))) h = refl
low d (suc (suc (suc (suc (suc (suc (suc (suc (suc (suc (suc (suc (suc (suc zero)))))))))))))) h = refl
low d (suc (suc (suc (suc (suc (suc (suc (suc (suc (suc (suc (suc (suc (suc (suc zero))))))))))))))) h = refl
low d (suc (suc (suc (suc (suc (suc (suc (suc (suc (suc (suc (suc (suc (suc (suc (suc n)))))))))))))))) h = absurd (omega (arith, h))

-- the flags above the four say nothing
same : (n : ℕ) → control_of (n % 16) ≡ control_of n
same n =
    let bits : n % 16 % 8 ≡ n % 8 = omega arith in
    let push : n % 16 / 8 % 2 ≡ n / 8 % 2 = omega arith in
    ap (λ m. if m == 1 then control.Fin else (if m == 2 then control.Syn else (if m == 4 then control.Rst
    else (if n % 16 / 8 % 2 == 1 then control.Psh else control.None)))) bits
    ∙ ap (λ m. if n % 8 == 1 then control.Fin else (if n % 8 == 2 then control.Syn else (if n % 8 == 4 then control.Rst
    else (if m == 1 then control.Psh else control.None)))) push

pub read : (d : TcpControl) (n : ℕ) → get_or table (n % 16) d ≡ control_of n
read d n = low d (n % 16) (omega arith) ∙ same n
