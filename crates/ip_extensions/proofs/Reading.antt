-- One header after the other.
use Rattle.std.proofs.Common.{◌≡◌, ℕ, ◌-◌, zero, suc, List, length, Bool, true, false, nat_eq, Option, Some, None, drop, slice_index, refl, sym, subst, ap, arith}
use Rattle.ip_extensions.specs.Headers.{IsMalformed, Stands, decided, header_len, read, settled}

pub is_known : (most n : ℕ) (octets : List ℕ) (s : Stands) → Some s ≡ decided n octets → s ≡ read most n octets
unfolding read
is_known zero n octets s h = ap (λ o. settled o IsMalformed) h
is_known (suc m) n octets s h = ap (λ o. settled o (read m (slice_index octets 0) (drop (header_len octets) octets))) h

pub none_left : (most n : ℕ) (octets : List ℕ) → most ≡ 0 → None ≡ decided n octets → IsMalformed ≡ read most n octets
unfolding read
none_left zero n octets z h = ap (λ o. settled o IsMalformed) h
none_left (suc m) n octets z h = absurd (grind (arith, z))

pub goes_on : (most n : ℕ) (octets : List ℕ) (s : Stands) → (most ≡ 0 → ⊥) → None ≡ decided n octets → s ≡ read (most - 1) (slice_index octets 0) (drop (header_len octets) octets) → s ≡ read most n octets
unfolding read
goes_on zero n octets s z h e = absurd (z refl)
goes_on (suc m) n octets s z h e =
    let one : suc m - 1 ≡ m = grind arith in
    subst (λ o. s ≡ settled o (read m (slice_index octets 0) (drop (header_len octets) octets))) h (subst (λ k. s ≡ read k (slice_index octets 0) (drop (header_len octets) octets)) one e)
