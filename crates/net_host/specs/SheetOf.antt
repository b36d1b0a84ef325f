-- The buffer of a dispatch.
use Rattle.std.specs.Prelude.{◌≡◌, ◌<◌, ◌≤◌, length, max, true, is_err, Result}
use Rattle.net_host.specs.Sheets.{Sheet}
use Rattle.net_host.specs.declared.wire.TooShort.{TooShort}
use Rattle.net_host.specs.declared.wire.Wire.{Wire}

abbrev pub sheet_of : Wire → Sheet
sheet_of w = record {
  checksums = w.environment.now.checksums;
  mtu = w.environment.now.mtu;
  octets = w.out.now;
  len = w.len;
  lost = w.lost;
}

-- the same buffer and environment, a packet within the buffer and the MTU, and no room only in a buffer shorter than
-- the MTU, where less than 576 counts as that, as over IPv6
pub record KeepsWire (old : Wire) (r : Result (Unit {0}) TooShort) (new : Wire) : Type 0 where
  pub within : old.len ≤ length old.out.now → new.len ≤ length old.out.now
  pub fits : old.len ≤ max old.environment.now.mtu 576 → new.len ≤ max old.environment.now.mtu 576
  pub short : is_err r ≡ true → length old.out.now < max old.environment.now.mtu 576
  pub same_buffer : new.out.ghost_name ≡ old.out.ghost_name
  pub environment : new.environment ≡ old.environment
