-- How a call leaves the context's random words.
use Rattle.std.specs.Prelude.{◌≡◌, ℕ, ◌+◌, ◌<◌, ◌^◌, Bool, true, false}
use Rattle.control_wire.specs.declared.tcp.TcpControl.{TcpControl}
use Rattle.control_wire.specs.declared.tcp.TcpControl.TheVariants as control
use Rattle.sock_core.specs.Facts.{Facts}
use Rattle.sock_tcp.specs.declared.state.State.{State}
use Rattle.sock_tcp.specs.declared.state.State.TheVariants as state
use Rattle.sock_tcp.specs.declared.verdict.Verdict.{Verdict}
use Rattle.sock_tcp.specs.declared.verdict.Verdict.TheVariants as verdicts

-- one word was drawn, of 32 bits, and nothing else changed
pub record HasDrawn {C : Type 0} (facts : C → Facts) (word_at : C → ℕ → ℕ) (old new : C) : Type 0 where
  pub same : facts new ≡ facts old
  pub fits : word_at old 0 < 2 ^ 32
  pub words : (k : ℕ) → word_at new k ≡ word_at old (k + 1)

-- only a SYN in LISTEN draws a number
abbrev pub draws : Verdict → State → TcpControl → Bool
draws verdicts.Pass state.Listen control.Syn = true
draws _ _ _ = false

abbrev pub Draws : {C : Type 0} → Bool → (C → Facts) → (C → ℕ → ℕ) → C → C → Type 0
Draws true facts word_at old new = HasDrawn facts word_at old new
Draws false facts word_at old new = new ≡ old
