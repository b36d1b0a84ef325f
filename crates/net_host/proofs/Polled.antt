-- What waits at a device, and what does not.
use Rattle.std.proofs.Common.{◌≡◌, ℕ, ◌<◌, List, Bool, true, false, nat_lt, inl, inr, refl, sym, subst, arith}
use Rattle.std.specs.Prelude.{◌⊎◌, ◌≤◌}
use Rattle.ip_wire.specs.declared.address.IpAddress.{IpAddress}
use Rattle.net_base.specs.declared.time.Instant.{Instant}
use Rattle.net_host.specs.Polling.{EmitsAll, EmitsUpTo, Empty, EndsTaking, Enough, HearsAll, HearsUpTo, Idles, NoRoom}
use Rattle.net_host.specs.declared.interface.Interface.{Interface}
use Rattle.net_host.specs.declared.slot.Slot.{Slot}

pub silent : {D : Type 0} (has_room : D → Bool) (receives : D → ℕ → List ℕ → D → Type 0) (n : ℕ) (d e : D) (packet : List ℕ) → has_room d ≡ true → n ≡ 0 → receives d n packet e → Idles has_room receives d e
silent has_room receives n d e packet room none arrived = Empty d e packet room (subst (λ k. receives d k packet e) none arrived)

-- 64 turns were given, or there is no room
pub stops : {W G D : Type 0} (is : IpAddress → IpAddress → Bool) (tells : G → ℕ → Type 0) (transmits : D → List ℕ → D → Type 0) (at : Instant) (has_room : D → Bool) (n : ℕ) (i j : Interface W) (ss ts : List (Slot G)) (d e : D) → n ≤ 64 → EmitsAll is tells transmits at n i ss d j ts e → (n < 64 → has_room e ≡ false) → EmitsUpTo is tells transmits at has_room n i ss d j ts e
stops is tells transmits at has_room n i j ss ts d e within all full = go (nat_lt n 64) refl
  where
    go : (b : Bool) → nat_lt n 64 ≡ b → EmitsUpTo is tells transmits at has_room n i ss d j ts e
    go true h = let less : n < 64 = grind (arith, h) in NoRoom n i j ss ts d e less all (full less)
    go false h =
        let whole : n ≡ 64 = grind (arith, h, within) in
        subst (λ k. EmitsUpTo is tells transmits at has_room k i ss d j ts e) (sym whole) (Enough i j ss ts d e (subst (λ k. EmitsAll is tells transmits at k i ss d j ts e) whole all))

module _ {W G D : Type 0} (is : IpAddress → IpAddress → Bool) (word_at : W → ℕ → ℕ) (tells : G → ℕ → Type 0) (receives : D → ℕ → List ℕ → D → Type 0) (transmits : D → List ℕ → D → Type 0) (at : Instant) (has_room : D → Bool) (n : ℕ) (i : Interface W) (ss : List (Slot G)) (d : D) where
  -- no packet more is taken, for a reason
  pub takes_no_more : (j k : Interface W) (ts us : List (Slot G)) (e f : D) → HearsAll is word_at tells receives transmits at n i ss d j ts e → (k ≡ j) × (us ≡ ts) × Idles has_room receives e f → n < 64 → HearsUpTo is word_at tells receives transmits at has_room n i ss d k us f
  takes_no_more j k ts us e f all none less = record {
    last = e;
    all = subst (λ l. HearsAll is word_at tells receives transmits at n i ss d l us e) (sym none.0) (subst (λ xs. HearsAll is word_at tells receives transmits at n i ss d j xs e) (sym none.1) all);
    ends = inr (less, none.2);
  }

  -- 64 were taken
  pub takes_enough : (j : Interface W) (ts : List (Slot G)) (e : D) → HearsAll is word_at tells receives transmits at n i ss d j ts e → n ≡ 64 → HearsUpTo is word_at tells receives transmits at has_room n i ss d j ts e
  takes_enough j ts e all whole = record { last = e; all = all; ends = inl (whole, refl) }
