-- The bytes of a packet in a queue, lent where they lie.
use Rattle.std.specs.Prelude.{ℕ, ℤ, pos, ◌≡◌, List, length, Option, Some, None, Result, Ok, Err, ⊤}
use Rattle.std.specs.Borrow.{Bor}
use Rattle.std.specs.Ptr.{as_ptr}
use Rattle.net_base.specs.Packets.{Enqueues, Packets}
use Rattle.smoltcp_c.specs.Answers.{error_empty}
use Rattle.smoltcp_c.specs.declared.memory.Place.{Place}

-- so many bytes are lent, where the answer is no refusal
abbrev pub TellsRoom : {U E : Type 0} → ℕ → Result U E → Place → Place → Type 0
TellsRoom n (Ok u) out out' = out'.len ≡ n
TellsRoom n (Err e) out out' = out' ≡ out

-- a call that was shown bytes left them as they stood, and kept all of them
abbrev pub Stands : List ℕ → ℕ → List ℕ → Type 0
Stands shown n left = (n ≡ length shown) × (left ≡ shown)

-- the socket as a refusal leaves it
abbrev pub RefusedIf : {U E V : Type 0} → Result U E → V → V → Type 0
RefusedIf (Ok u) refused new = ⊤
RefusedIf (Err e) refused new = new ≡ refused

-- the place of these bytes
pub record IsPlaceOf (bytes : List ℕ) (out : Place) : Type 0 where
  pub lent : Bor (List ℕ)
  pub same : lent.now ≡ bytes
  pub at : out.at ≡ as_ptr lent
  pub len : out.len ≡ length bytes

module _ {M : Type 0} where
  -- a packet of n bytes joins the queue, with those that stand where it lies, if it is not refused
  abbrev pub JoinsIf : {U E : Type 0} → Result U E → ℕ → M → Packets M → Packets M → Type 0
  JoinsIf (Ok u) n m p q = Enqueues Stands n m p n q
  JoinsIf (Err e) n m p q = ⊤

  -- how many bytes the first packet has
  abbrev pub lent_answer : Option (M × List ℕ) → ℤ
  lent_answer None = error_empty
  lent_answer (Some d) = pos (length d.1)

  -- what it came with, in place of what stood there
  abbrev pub told_first : {N : Type 0} → (M → N) → Option (M × List ℕ) → N → N
  told_first told None old = old
  told_first told (Some d) old = told d.0

  abbrev pub TellsFirst : Option (M × List ℕ) → Place → Place → Type 0
  TellsFirst None out out' = out' ≡ out
  TellsFirst (Some d) out out' = IsPlaceOf d.1 out'
