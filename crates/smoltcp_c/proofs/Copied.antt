-- A packet that is copied out of a queue has at most as many bytes as there was room for.
use Rattle.std.proofs.Common.{◌≡◌, ℕ, ◌≤◌, Bool, true, false, List, length, Option, Some, None, refl, sym, subst, arith}
use Rattle.std.specs.Prelude.{Result, Ok, Err, IfOk, nat_lt, if◌then◌else◌}
use Rattle.std.proofs.lemmas.Bool.Decides.{nat_tests}
use Rattle.sock_dgram.specs.Datagrams.{copy_answer, with_metadata}
use Rattle.sock_dgram.specs.declared.error.RecvError.{RecvError}
use Rattle.sock_dgram.specs.declared.error.RecvError.TheVariants as recv_error

pub copied_within : {M : Type 0} (r : Result (ℕ × M) RecvError) (o : Option (M × List ℕ)) (n : ℕ) → r ≡ copy_answer o n → IfOk r (λ x. x.0 ≤ n)
copied_within {M} r o n e = subst (λ (r : Result (ℕ × M) RecvError). IfOk r (λ x. x.0 ≤ n)) (sym e) (by o)
  where
    test : (d : M × List ℕ) (b : Bool) → nat_lt n (length d.1) ≡ b → IfOk (if b then Err recv_error.Truncated else Ok (length d.1, d.0)) (λ (x : ℕ × M). x.0 ≤ n)
    test d true q = tt
    test d false q = grind (arith, nat_tests, q)

    by : (o : Option (M × List ℕ)) → IfOk (copy_answer o n) (λ x. x.0 ≤ n)
    by None = tt
    by (Some d) = test d (nat_lt n (length d.1)) refl

-- the same of a count alone
pub bytes_within : (r : Result ℕ RecvError) (o : Option (Unit {0} × List ℕ)) (n : ℕ) → with_metadata tt r ≡ copy_answer o n → IfOk r (λ k. k ≤ n)
bytes_within (Ok k) o n e = copied_within (Ok (k, tt)) o n e
bytes_within (Err x) o n e = tt
