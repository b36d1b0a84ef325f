-- What a pair has delivered once its sockets have no work left; and that with work none of them sleeps, by the RFCs'
-- rules.
use Rattle.std.specs.Prelude.{◌≡◌, true, false, length}
use Rattle.sock_core.specs.Facts.{Facts}
use Rattle.sock_core.specs.declared.context.PollAt.TheVariants as poll
use Rattle.sock_tcp.specs.Poll.{poll_moment}
use Rattle.sock_tcp.specs.Work.{has_work}
use Rattle.sock_tcp.specs.declared.rules.Rules.TheVariants as rules
use Rattle.sock_tcp.specs.declared.state.State.TheVariants as state
use Rattle.pair_core.specs.PairViews.{HostView}

-- the receiver took all that the sender accepted, and all of it was acknowledged
pub record TookAll {G : Type 0} (sender receiver : HostView G) : Type 0 where
  pub taken : receiver.taken ≡ length sender.accepted
  pub released : sender.released ≡ length sender.accepted

-- so it is where the sender is not CLOSED, and has no work
abbrev pub NoWorkMeansTaken : {G : Type 0} → HostView G → HostView G → Type 0
NoWorkMeansTaken sender receiver =
    (sender.control_block.state ≡ state.Closed → ⊥) → has_work sender.control_block ≡ false → TookAll sender receiver

-- with the RFCs' rules a side with work to do does not wait for a segment alone
abbrev pub NeverSleeps : {G : Type 0} → HostView G → Type 0
NeverSleeps h = (f : Facts)
    → h.control_block.rules ≡ rules.Rfc
    → has_work h.control_block ≡ true
    → poll_moment h.control_block f ≡ poll.Ingress
    → ⊥
