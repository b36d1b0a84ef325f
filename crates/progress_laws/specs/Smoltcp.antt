-- What `process` does by smoltcp's rules: these laws deliver segments so.
use Rattle.std.specs.Prelude.{ℕ}
use Rattle.ip_wire.specs.declared.repr.IpRepr.{IpRepr}
use Rattle.net_base.specs.declared.time.Instant.{Instant}
use Rattle.control_wire.specs.Segment.{Segment}
use Rattle.sock_tcp.specs.Process.{Outcome, processed_by}
use Rattle.sock_tcp.specs.View.{View}
use Rattle.sock_tcp.specs.declared.rules.Rules.TheVariants as rules

abbrev pub processed : View → Instant → ℕ → IpRepr → Segment → Outcome
processed v now word ip s = processed_by rules.Smoltcp v now word ip s
