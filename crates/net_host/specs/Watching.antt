-- What a guard remembers of its socket, and what it allows.
use Rattle.std.specs.Prelude.{◌≡◌, Bool, Some}
use Rattle.net_base.specs.declared.time.Instant.{Instant}
use Rattle.host_guard.specs.Guarding.{taken_after, taken_at}
use Rattle.sock_tcp.specs.View.{View}
use Rattle.net_host.specs.Remembered.{Remembered as Guard}
use Rattle.net_host.specs.declared.guard.GuardSettings.{GuardSettings}
use Rattle.net_host.specs.Guards.{end_in, has_ended, last_after, last_left, may_take, moment_left, phase_left, phase_of}
use Rattle.net_host.specs.Guards.{since_in, watched}

-- whether what the peer is waited for has lasted too long
abbrev pub is_over_for : GuardSettings → Guard → View → Instant → Bool
is_over_for s g v now = has_ended (end_in s (phase_of v) g.phase g.since now) now

-- the guard looks at a socket
pub record Looks (s : GuardSettings) (now : Instant) (v : View) (g h : Guard) (w : View) : Type 0 where
  pub phase : h.phase ≡ phase_left (is_over_for s g v now) (phase_of v)
  pub since : h.since ≡ moment_left (is_over_for s g v now) (since_in (phase_of v) g.phase g.since now)
  pub end : h.end ≡ moment_left (is_over_for s g v now) (end_in s (phase_of v) g.phase g.since now)
  pub last : h.last ≡ last_left (is_over_for s g v now) (phase_of v) g.last
  pub moment : h.moment ≡ g.moment
  pub taken : h.taken ≡ g.taken
  pub socket : w ≡ watched s (is_over_for s g v now) v

-- whether it allows a dispatch
abbrev pub may_turn : Guard → Instant → Bool
may_turn g now = may_take (taken_at g.moment g.taken now) g.phase g.last now

-- it was asked for a dispatch
pub record Asks (now : Instant) (g h : Guard) : Type 0 where
  pub phase : h.phase ≡ g.phase
  pub since : h.since ≡ g.since
  pub end : h.end ≡ g.end
  pub last : h.last ≡ last_after (may_turn g now) g.phase g.last now
  pub moment : h.moment ≡ Some now
  pub taken : h.taken ≡ taken_after (may_turn g now) (taken_at g.moment g.taken now)
