-- An offer comes back by a timestamp.
use Rattle.std.proofs.Common.{◌≡◌, ◌∙◌, ℕ, ◌+◌, ◌-◌, ◌/◌, ◌%◌, ◌<◌, ◌≤◌, Bool, true, false, Option, Some, None, ap, arith}
use Rattle.std.specs.Prelude.{◌==◌, min, option_map, if◌then◌else◌}
use Rattle.host_cookies.specs.Offers.{ComesBack, OffersComeBack, offer_bits, sack_in, scale_bits, scale_in, stamped}

known : (stamp bits : ℕ) → bits < 32 → stamp % 32 ≡ bits → (stamp % 16 ≡ bits % 16) × (stamp / 16 % 2 ≡ bits / 16)
known stamp bits h e = (omega (arith, h, e), omega (arith, h, e))

least : (n : ℕ) → min n 14 < 15
least n = omega arith

module _ (clock bits : ℕ) (h : clock < 4294967296) (k : bits < 32) where
  behind : (clock + 4294967296 - stamped clock bits) % 4294967296 < 32
  behind = omega (arith, h, k)

  has_bits : stamped clock bits % 32 ≡ bits
  has_bits = omega (arith, h, k)

scaled : (stamp n : ℕ) → n < 15 → stamp % 16 ≡ n → scale_in stamp ≡ Some n
scaled stamp n h e =
    let differs : (stamp % 16 == 15) ≡ false = grind (arith, h, e) in
    ap (λ b. if b then None else Some (stamp % 16)) differs ∙ ap (λ m. Some m) e

unscaled : (stamp : ℕ) → stamp % 16 ≡ 15 → scale_in stamp ≡ None
unscaled stamp e =
    let same : (stamp % 16 == 15) ≡ true = grind (arith, e) in
    ap (λ b. if b then None else Some (stamp % 16)) same

permitted : (stamp : ℕ) → stamp / 16 % 2 ≡ 1 → sack_in stamp ≡ true
permitted stamp e = grind (arith, e)

not_permitted : (stamp : ℕ) → stamp / 16 % 2 ≡ 0 → sack_in stamp ≡ false
not_permitted stamp e = grind (arith, e)

pub come_back : OffersComeBack
come_back clock (Some n) true h =
    let small : offer_bits (Some n) true < 32 = omega arith in
    let has : stamped clock (offer_bits (Some n) true) % 32 ≡ offer_bits (Some n) true = has_bits clock _ h small in
    let parts : (stamped clock (offer_bits (Some n) true) % 16 ≡ (min n 14 + 16) % 16) × (stamped clock (offer_bits (Some n) true) / 16 % 2 ≡ (min n 14 + 16) / 16) = known _ _ small has in
    record {
      behind = behind clock _ h small;
      bits = has;
      scale = scaled _ (min n 14) (least n) (parts.0 ∙ omega arith);
      sack = permitted _ (parts.1 ∙ omega arith);
    }
come_back clock (Some n) false h =
    let small : offer_bits (Some n) false < 32 = omega arith in
    let has : stamped clock (offer_bits (Some n) false) % 32 ≡ offer_bits (Some n) false = has_bits clock _ h small in
    let parts : (stamped clock (offer_bits (Some n) false) % 16 ≡ (min n 14 + 0) % 16) × (stamped clock (offer_bits (Some n) false) / 16 % 2 ≡ (min n 14 + 0) / 16) = known _ _ small has in
    record {
      behind = behind clock _ h small;
      bits = has;
      scale = scaled _ (min n 14) (least n) (parts.0 ∙ omega arith);
      sack = not_permitted _ (parts.1 ∙ omega arith);
    }
come_back clock None true h =
    let small : offer_bits None true < 32 = omega arith in
    let has : stamped clock (offer_bits None true) % 32 ≡ offer_bits None true = has_bits clock _ h small in
    let parts : (stamped clock (offer_bits None true) % 16 ≡ 15) × (stamped clock (offer_bits None true) / 16 % 2 ≡ 1) = known _ _ small has in
    record { behind = behind clock _ h small; bits = has; scale = unscaled _ parts.0; sack = permitted _ parts.1 }
come_back clock None false h =
    let small : offer_bits None false < 32 = omega arith in
    let has : stamped clock (offer_bits None false) % 32 ≡ offer_bits None false = has_bits clock _ h small in
    let parts : (stamped clock (offer_bits None false) % 16 ≡ 15) × (stamped clock (offer_bits None false) / 16 % 2 ≡ 0) = known _ _ small has in
    record { behind = behind clock _ h small; bits = has; scale = unscaled _ parts.0; sack = not_permitted _ parts.1 }
