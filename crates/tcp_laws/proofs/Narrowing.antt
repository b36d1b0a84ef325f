-- What the step of a path MTU keeps: what shorter segments keep, and what goes out again.
use Rattle.std.proofs.Common.{◌≡◌, ℕ, ◌≤◌, Bool, true, false, refl, arith, Option, Some, None}
use Rattle.std.specs.Prelude.{nat_lt, max, min, ◌-◌, not, length, ◌==◌, ◌&&◌}
use Rattle.std.proofs.lemmas.Bool.{and_parts}
use Rattle.ip_wire.specs.declared.address.IpAddress.{IpAddress}
use Rattle.ip_wire.specs.declared.address.IpAddress.TheVariants as address
use Rattle.net_base.specs.declared.time.Instant.{Instant}
use Rattle.sock_tcp.specs.Content.{carries_data}
use Rattle.sock_tcp.specs.Due.{flight}
use Rattle.sock_tcp.specs.PathMtu.{again_if, all_sent_again, has_sent_bytes, mss_by_path, narrowed_if, path_mss, path_mtu_set, shortened}
use Rattle.sock_tcp.specs.View.{View}
use Rattle.sock_tcp.specs.declared.state.State.{State}
use Rattle.sock_tcp.specs.declared.tuple.Tuple.{Tuple}

-- no path makes segments of less than 536 bytes
path_at_least : (a : IpAddress) (mtu : ℕ) → 48 ≤ path_mss a mtu
path_at_least (address.Ipv4 a) mtu = omega arith
path_at_least (address.Ipv6 a) mtu = omega arith

by_path_at_least : (o : Option Tuple) (old mtu : ℕ) → 48 ≤ old → 48 ≤ mss_by_path o old mtu
by_path_at_least None old mtu h = h
by_path_at_least (Some t) old mtu h = let p = path_at_least t.remote.addr mtu in omega (arith, h, p)

module _ (P : View → Type 0) (v : View) (now : Instant) (mtu : ℕ) (h : P v) (shortens : (mss : ℕ) → (48 ≤ v.remote_mss → 48 ≤ mss) → P (shortened v mss)) (repeats : (u : View) → carries_data u.state ≡ true → P u → P (all_sent_again u now)) where
  abbrev size : ℕ
  size = mss_by_path v.tuple v.remote_mss mtu

  again : (b : Bool) → has_sent_bytes v ≡ b → P (again_if b (shortened v size) now)
  unfolding shortened
  again true e = repeats (shortened v size) (and_parts (carries_data v.state) _ e).0 (shortens size (by_path_at_least v.tuple v.remote_mss mtu))
  again false e = shortens size (by_path_at_least v.tuple v.remote_mss mtu)

  pub narrowed_as : P (path_mtu_set v now mtu)
  unfolding path_mtu_set
  narrowed_as = go (nat_lt size v.remote_mss)
    where
      go : (b : Bool) → P (narrowed_if b v now size)
      go true = again (has_sent_bytes v) refl
      go false = h
