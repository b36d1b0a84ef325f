-- The keys of a socket can be filed.
use Rattle.std.proofs.Common.{◌≡◌, ◌<◌, ◌≤◌, Bool, true, false, not, nat_eq, refl, sym, subst, arith}
use Rattle.std.specs.Prelude.{◌&&◌, nat_lt, ◌==◌}
use Rattle.std.proofs.lemmas.Bool.{and_parts}
use Rattle.host_index.specs.declared.entry.Entry.{Entry}
use Rattle.host_index.specs.declared.entry.Which.TheVariants as which
use Rattle.net_host.specs.declared.key.Key.{Key}
use Rattle.net_host.specs.declared.key.Key.TheVariants as key
use Rattle.net_host.specs.Refiling.{IsHigh, are_two, fits_key}

both : (a b : Bool) → a ≡ true → b ≡ true → (a && b) ≡ true
both true b h k = k
both false b h k = h

not_both : (a b : Bool) → b ≡ false → not (a && b) ≡ true
not_both true true h = sym h
not_both true false h = refl
not_both false b h = refl

-- by their second parts
apart : (f s : Key) → fits_key which.First f ≡ true → IsHigh s → are_two f s ≡ true
apart key.Nothing s a h = refl
apart (key.Under e) key.Nothing a h = refl
apart (key.Under e) (key.Under d) a h =
    let fits : nat_lt e.minor 4294967296 ≡ true = (and_parts (not (e.major == 340282366920938463463374607431768211455)) (nat_lt e.minor 4294967296) a).1 in
    let low : e.minor < 4294967296 = grind (arith, fits) in
    let high : 4294967296 ≤ d.minor = h in
    not_both (nat_eq e.major d.major) (nat_eq e.minor d.minor) (grind (arith, low, high))

pub two_keys : (f s : Key) → fits_key which.First f ≡ true → fits_key which.Second s ≡ true → IsHigh s → (fits_key which.First f && (fits_key which.Second s && are_two f s)) ≡ true
two_keys f s a b h = both (fits_key which.First f) (fits_key which.Second s && are_two f s) a (both (fits_key which.Second s) (are_two f s) b (apart f s a h))
