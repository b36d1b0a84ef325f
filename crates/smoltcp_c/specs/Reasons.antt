-- What C is told of a packet beforehand.
use Rattle.std.specs.Prelude.{ℤ, pos, ◌≡◌}
use Rattle.ip_wire.specs.declared.repr.IpRepr.{IpRepr}
use Rattle.control_wire.specs.Segment.{Segment}
use Rattle.sock_tcp.specs.Explain.{row_of}
use Rattle.sock_tcp.specs.Process.{Accepts}
use Rattle.sock_tcp.specs.View.{View, moment_of}
use Rattle.sock_tcp.specs.declared.explain.Row.{Row}
use Rattle.sock_tcp.specs.declared.explain.Row.TheVariants as row
use Rattle.smoltcp_c.specs.Context.{facts_in}
use Rattle.smoltcp_c.specs.declared.context.Cx.{Cx}

-- the number of a row
abbrev pub row_told : Row → ℤ
row_told row.NotAccepted = pos 0
row_told row.NoSyn = pos 1
row_told row.ResetUnacceptable = pos 2
row_told row.ResetInTimeWait = pos 3
row_told row.ResetOutside = pos 4
row_told row.NoAck = pos 5
row_told row.OldAck = pos 6
row_told row.AckUnacceptable = pos 7
row_told row.AckUnsent = pos 8
row_told row.ResetChallenged = pos 9
row_told row.SynChallenged = pos 10
row_told row.OldTimestamp = pos 11
row_told row.OldDuplicate = pos 12
row_told row.BeyondWindow = pos 13
row_told row.HeardOutside = pos 14
row_told row.Opens = pos 15
row_told row.Reset = pos 16
row_told row.Ignored = pos 17
row_told row.Fin = pos 18
row_told row.InOrder = pos 19
row_told row.BehindGap = pos 20
row_told row.NothingNew = pos 21
row_told row.BareAck = pos 22

-- the row of a segment that is for the socket, or that it is for another one
pub record Explains (cx : Cx) (v : View) (ip : IpRepr) (s : Segment) (result : ℤ) : Type 0 where
  pub not_accepted : (Accepts v ip s → ⊥) → result ≡ pos 0
  pub row : Accepts v ip s → result ≡ row_told (row_of v (moment_of (facts_in cx)) s)
