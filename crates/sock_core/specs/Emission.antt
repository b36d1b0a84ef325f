-- The one call that a dispatch makes of the closure `emit`.
use Rattle.std.specs.Prelude.{◌≡◌, Option, None, Some, Result, Ok}
use Rattle.std.specs.Borrow.{MutBor}
use Rattle.std.specs.Fn.{Once}

-- closures of type F that take a `&mut C` and what goes out, of type S, and answer an error E or nothing
abbrev pub Emit : Type 0 → Type 0 → Type 0 → Type 0 → Type 1
Emit F C S E = Once F (MutBor C × (S × Unit {0})) (Result (Unit {0}) E × (MutBor C × Unit {0}))

-- a call of f at a `&mut` to c and at what means s may answer r, and leave c'
pub record EmitsAt {F C S E V : Type 0}
    (g : Emit F C S E) (meaning : S → V) (f : F) (c : C) (s : V) (r : Result (Unit {0}) E) (c' : C) : Type 0 where
  pub shown : MutBor C
  pub shows : shown.now ≡ c
  pub sent : S
  pub says : meaning sent ≡ s
  pub left : MutBor C
  pub met : g.post f (shown, (sent, tt)) (r, (left, tt))
  pub leaves : left.now ≡ c'

-- emit is called once with what means s, or it is not called and the context stays as it was
abbrev pub Emits : {F C S E V : Type 0}
    → Emit F C S E → (S → V) → F → Option V → C → Result (Unit {0}) E → C → Type 0
Emits g meaning f None c r c' = (r ≡ Ok tt) × (c' ≡ c)
Emits g meaning f (Some s) c r c' = EmitsAt g meaning f c s r c'
