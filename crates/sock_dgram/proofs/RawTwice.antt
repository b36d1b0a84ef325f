-- To set the checksum of a packet twice is to set it once.
use Rattle.std.proofs.Common.{◌≡◌, ℕ, ◌+◌, ◌≤◌, ◌<◌, List, [], ◌∷◌, ◌++◌, length, take, drop, Bool, true, false, Option, None, Some, refl, sym, ap, ◌∙◌, arith, length-append, length-take-le, length-drop}
use Rattle.std.proofs.lemmas.Bool.Decides.{nat_tests}
use Rattle.std.proofs.lemmas.List.{get_or_append_left, get_or-take}
use Rattle.std.specs.Prelude.{◌&&◌, ◌*◌, ◌%◌, nat_le, slice_get, slice_index, if◌then◌else◌}
use Rattle.ip_wire.proofs.Written.{checksum_again}
use Rattle.ip_wire.specs.Octets.{be16}
use Rattle.ip_wire.specs.Packet.{checksum_filled, ipv4_header_len, ipv4_total_len, with_checksum}
use Rattle.ip_wire.specs.Protocol.{version_of_packet}
use Rattle.ip_wire.specs.Sum.{complement, sum_after}
use Rattle.ip_wire.specs.declared.protocol.IpVersion.{IpVersion}
use Rattle.ip_wire.specs.declared.protocol.IpVersion.TheVariants as version
use Rattle.sock_dgram.specs.RawDispatch.{first_prepared, is_sound_ipv4, offered, parsed, prepared_as, prepared}

-- a packet with another checksum: its length, its version and what it states of its lengths are as they were
module _ (bs : List ℕ) (n : ℕ) (long : 12 ≤ length bs) where
  kept_index : (i : ℕ) → i < 10 → slice_index (with_checksum bs n) i ≡ slice_index bs i
  kept_index i low =
      let l : length (take 10 bs) ≡ 10 = length-take-le 10 bs (omega arith) in
      get_or_append_left (take 10 bs) (be16 n ++ drop 12 bs) 0 i (omega arith) ∙ get_or-take 10 bs i 0 low

  kept_length : length (with_checksum bs n) ≡ length bs
  kept_length = omega (arith, length-append (take 10 bs) (be16 n ++ drop 12 bs), length-append (be16 n) (drop 12 bs), length-take-le 10 bs (omega arith), length-drop 12 bs)

  kept_header : ipv4_header_len (with_checksum bs n) ≡ ipv4_header_len bs
  kept_header = ap (λ x. x % 16 * 4) (kept_index 0 (omega arith))

  kept_total : ipv4_total_len (with_checksum bs n) ≡ ipv4_total_len bs
  kept_total = (λ i. 256 * kept_index 2 (omega arith) i + kept_index 3 (omega arith) i)

  kept_sound : is_sound_ipv4 (with_checksum bs n) ≡ is_sound_ipv4 bs
  kept_sound = (λ i. nat_le 20 (kept_header i) && (nat_le (kept_header i) (kept_total i) && nat_le (kept_total i) (kept_length i)))

  filled_again : checksum_filled (with_checksum bs n) ≡ checksum_filled bs
  filled_again =
      checksum_again bs n _ long
      ∙ (λ i. with_checksum bs (complement (sum_after 0 (take (kept_header i) (checksum_again bs n 0 long i)))))

  set_again : is_sound_ipv4 bs ≡ true → (sent : Bool) → prepared_as (Some version.Ipv4) sent (with_checksum bs n) ≡ prepared_as (Some version.Ipv4) sent bs
  set_again sound sent =
      ap (λ b. if b then (if sent then checksum_filled (with_checksum bs n) else with_checksum (with_checksum bs n) 0) else with_checksum bs n) (kept_sound ∙ sound)
      ∙ (λ i. if sent then filled_again i else checksum_again bs n 0 long i)
      ∙ sym (ap (λ b. if b then (if sent then checksum_filled bs else with_checksum bs 0) else bs) sound)

kept_version : (bs : List ℕ) (n : ℕ) → 12 ≤ length bs → version_of_packet (with_checksum bs n) ≡ version_of_packet bs
kept_version [] n long = absurd (omega arith)
kept_version (b ∷ bs) n long = refl

-- a sound header has twelve octets
is_long : (bs : List ℕ) → is_sound_ipv4 bs ≡ true → 12 ≤ length bs
is_long bs sound = go (ipv4_header_len bs) (ipv4_total_len bs) sound
  where
    go : (h t : ℕ) → (nat_le 20 h && (nat_le h t && nat_le t (length bs))) ≡ true → 12 ≤ length bs
    go h t e = grind (arith, nat_tests, e)

pub prepared_again : (a b : Bool) (bs : List ℕ) → prepared b (prepared a bs) ≡ prepared b bs
unfolding prepared
prepared_again a b bs = go (version_of_packet bs) refl (is_sound_ipv4 bs) refl
  where
    go : (o : Option IpVersion) → version_of_packet bs ≡ o → (s : Bool) → is_sound_ipv4 bs ≡ s → prepared_as (version_of_packet (prepared_as o a bs)) b (prepared_as o a bs) ≡ prepared_as o b bs
    go None e s f = ap (λ o. prepared_as o b bs) e
    go (Some version.Ipv6) e s f = ap (λ o. prepared_as o b bs) e
    go (Some version.Ipv4) e false f =
        let same : prepared_as (Some version.Ipv4) a bs ≡ bs = ap (λ t. if t then (if a then checksum_filled bs else with_checksum bs 0) else bs) f in
        ap (λ xs. prepared_as (version_of_packet xs) b xs) same ∙ ap (λ o. prepared_as o b bs) e
    go (Some version.Ipv4) e true f = set a
      where
        -- with a checksum of either kind
        changed : (n : ℕ) → prepared_as (version_of_packet (with_checksum bs n)) b (with_checksum bs n) ≡ prepared_as (Some version.Ipv4) b bs
        changed n = ap (λ o. prepared_as o b (with_checksum bs n)) (kept_version bs n (is_long bs f) ∙ e) ∙ set_again bs n (is_long bs f) f b

        set : (a : Bool) → prepared_as (version_of_packet (prepared_as (Some version.Ipv4) a bs)) b (prepared_as (Some version.Ipv4) a bs) ≡ prepared_as (Some version.Ipv4) b bs
        set true = ap (λ xs. prepared_as (version_of_packet xs) b xs) (ap (λ t. if t then checksum_filled bs else bs) f) ∙ changed _
        set false = ap (λ xs. prepared_as (version_of_packet xs) b xs) (ap (λ t. if t then with_checksum bs 0 else bs) f) ∙ changed 0

-- what a dispatch offers of a queue whose first packet was prepared
pub offered_again : (sent : Bool) (ps qs : List (Unit {0} × List ℕ)) → qs ≡ first_prepared sent ps → offered sent (slice_get qs 0) ≡ offered sent (slice_get ps 0)
offered_again sent ps qs is = ap (λ (l : List (Unit {0} × List ℕ)). offered sent (slice_get l 0)) is ∙ of_first ps
  where
    of_first : (l : List (Unit {0} × List ℕ)) → offered sent (slice_get (first_prepared sent l) 0) ≡ offered sent (slice_get l 0)
    of_first [] = refl
    of_first (p ∷ l) = ap parsed (prepared_again sent sent p.1)
