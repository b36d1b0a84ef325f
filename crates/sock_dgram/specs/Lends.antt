-- What a datagram socket ends as, where a call lends a part of it: `lender` is its row, and its receive queue is read
-- by `rx`, and put into it by `with_rx`.
use Rattle.std.specs.Prelude.{◌≡◌, ⊤}
use Rattle.std.specs.Borrow.{follows_so, MutBor, Fml}
use Rattle.net_base.specs.Packets.{Packets, skipped}
use Rattle.sock_dgram.specs.Datagrams.{TakesBy}
use denote.RattleType.{RattleType}
use denote.Ref.{NamedLft}
use mir.Syntax.{named}
use mathlib.Core.List.{[]}
use mathlib.Core.Option.{none}

-- a socket behind the first reference of a signature
abbrev pub lent_first : (NamedLft → RattleType) → RattleType
lent_first row = row (record { mir = named 1; lft = [] })

module _ {M : Type 0} (lender : RattleType) (rx : lender.Denot → Packets M)
    (with_rx : lender.Denot → Packets M → lender.Denot) (s : MutBor lender.Denot) where
  abbrev pub TakesFirst : Fml
  TakesFirst = follows_so lender lender s.ghost_name none (λ _ _. ⊤) (TakesBy rx with_rx s.now)

  -- only padding in front of the receive queue left
  abbrev pub KeepsFirst : Fml
  KeepsFirst =
      follows_so lender lender s.ghost_name none (λ _ _. ⊤) (λ v. v ≡ with_rx s.now (skipped (rx s.now)))
