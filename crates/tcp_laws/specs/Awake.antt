-- By the RFCs' rules a socket with work to do always has a moment.
use Rattle.std.specs.Prelude.{ℕ, ◌≡◌, ◌+◌, ◌≤◌, ◌^◌, length, true}
use Rattle.net_base.specs.Ring.{Ring}
use Rattle.sock_core.specs.Facts.{Facts, IsLawful}
use Rattle.sock_core.specs.Received.{receiving}
use Rattle.sock_core.specs.declared.context.PollAt.TheVariants as poll
use Rattle.sock_tcp.specs.Opening.{is_open}
use Rattle.sock_tcp.specs.Poll.{poll_moment}
use Rattle.sock_tcp.specs.Queue.{queue_of}
use Rattle.sock_tcp.specs.View.{View, fresh}
use Rattle.sock_tcp.specs.Work.{has_work}
use Rattle.sock_tcp.specs.declared.rules.Rules.TheVariants as rules
use Rattle.tcp_laws.specs.SocketRun.{Counts, Sets, Step, starting}
use Rattle.tcp_laws.specs.SocketRun.{Process, Dispatch, Set, SetRules}

-- ---- calls by the rules of the socket

-- an open socket keeps its rules
abbrev pub KeepsRules : {v w : View} → Sets v w → Type 0
KeepsRules {v} (SetRules x d view) = is_open v.state ≡ true → x ≡ v.rules
KeepsRules _ = Unit {0}

-- a segment is processed by the socket's own rules, and the facts that a dispatch is told are lawful, as those of every
-- context
abbrev pub IsByOwn : {v w : View} {k j : Counts} → Step v k w j → Type 0
IsByOwn {v} (Process r now word ip s small numbered short bare view counts) = r ≡ v.rules
IsByOwn (Dispatch f out sends counts) = IsLawful f
IsByOwn (Set x counts) = KeepsRules x
IsByOwn _ = Unit {0}

-- any list of them
pub data OwnRun : View → Counts → View → Counts → Type 0 where
  OwnEnds : (v : View) (k : Counts) → OwnRun v k v k
  OwnThen : (v u w : View) (k i j : Counts) (s : Step v k u i) → IsByOwn s → OwnRun u i w j → OwnRun v k w j

-- v is what some such list makes of a new socket, over buffers of at most 2^30 bytes
pub record IsReachedByOwn (v : View) : Type 0 where
  pub rx : Ring ℕ
  pub tx : Ring ℕ
  pub counts : Counts
  pub rx_size : length rx.queue + length rx.spare ≤ 2 ^ 30
  pub tx_size : length tx.queue + length tx.spare ≤ 2 ^ 30
  pub run : OwnRun (fresh (receiving rx) (queue_of tx)) (starting (fresh (receiving rx) (queue_of tx))) v counts

-- ---- the law

-- with the RFCs' rules a socket with work to do never waits for a segment alone
abbrev pub NeverSleeps : Type 0
NeverSleeps = (v : View) (f : Facts)
    → IsReachedByOwn v
    → v.rules ≡ rules.Rfc
    → has_work v ≡ true
    → poll_moment v f ≡ poll.Ingress
    → ⊥
