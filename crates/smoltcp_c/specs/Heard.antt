-- The calls of a datagram socket that take and give packets. P is what a packet carries.
use Rattle.std.specs.Prelude.{ℤ, pos, negsuc, ◌≡◌, true, false, Option, Some, None, if◌then◌else◌}
use Rattle.sock_core.specs.declared.context.PollAt.{PollAt}
use Rattle.sock_core.specs.declared.context.PollAt.TheVariants as poll
use Rattle.smoltcp_c.specs.Answers.{error_context, not_accepted}
use Rattle.smoltcp_c.specs.Context.{is_context}
use Rattle.smoltcp_c.specs.Packets.{poll_answer, poll_written}
use Rattle.smoltcp_c.specs.declared.context.Cx.{Cx}

-- 1 where it is so, else 0
pub record Tells (It : Type 0) (result : ℤ) : Type 0 where
  pub yes : It → result ≡ pos 1
  pub no : (It → ⊥) → result ≡ pos 0

-- the moment of the next dispatch is written, where one is wanted
pub record TellsPoll (cx : Cx) (poll : PollAt) (at result at' : ℤ) : Type 0 where
  pub context : is_context cx ≡ false → (result ≡ error_context) × (at' ≡ at)
  pub answer : is_context cx ≡ true → result ≡ poll_answer poll
  pub written : is_context cx ≡ true → at' ≡ poll_written poll cx.now at

-- the same in one number: the greatest where none is wanted, the least where the context is out of its ranges
abbrev pub moment_told : PollAt → ℤ → ℤ
moment_told poll.Now now = now
moment_told (poll.Time t) now = t.micros
moment_told poll.Ingress now = pos 9223372036854775807

abbrev pub poll_told : Cx → PollAt → ℤ
poll_told cx poll = if is_context cx then moment_told poll cx.now else negsuc 9223372036854775807

module _ {V P : Type 0} (Accepts : V → P → Type 0) where
  -- a packet that carries something that the socket accepts
  abbrev pub AcceptsIf : V → Option P → Type 0
  AcceptsIf v None = ⊥
  AcceptsIf v (Some p) = Accepts v p

  -- what the socket does not accept changes nothing; else it comes behind the receive queue, where it finds room
  pub record Hears (queued : P → V → V) (v : V) (p : P) (result : ℤ) (w : V) : Type 0 where
    pub foreign : (Accepts v p → ⊥) → (result ≡ not_accepted) × (w ≡ v)
    pub answer : Accepts v p → result ≡ pos 0
    pub socket : Accepts v p → w ≡ queued p v
