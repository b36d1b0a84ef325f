-- The buffer of a raw socket once the checksum of its first packet is set.
use Rattle.std.proofs.Common.{◌≡◌, ℕ, List, [], ◌∷◌, length, Bool, false, cond, Option, None, Some, Result, Ok, Err, refl, sym, ap, ◌∙◌}
use Rattle.std.proofs.lemmas.Bool.{true≢false}
use Rattle.std.proofs.lemmas.Option.{none-some, same_Some}
use Rattle.std.specs.Prelude.{IfOk, OnErr, is_none, is_ok, slice_get}
use Rattle.net_base.proofs.PacketLists.{packets_skipped}
use Rattle.net_base.specs.Packets.{Packets, packets, place_of, first_header, starts_padded, skipped, skipped_from, with_first, without_first, TakesFirst}
use Rattle.net_base.specs.declared.packet_buffer.Empty.{Empty}
use Rattle.sock_dgram.specs.RawDispatch.{prepared, set_first, prepared_buffer}

unpadded_from : (m k : ℕ) (es : List (Option (Unit {0}) × List ℕ)) → starts_padded (skipped_from m k es).0 ≡ false
unpadded_from m k [] = refl
unpadded_from m k ((None, bs) ∷ es) = unpadded_from m (place_of m k (length bs)) es
unpadded_from m k ((Some h, bs) ∷ es) = refl

unpadded : (p : Packets (Unit {0})) → starts_padded (skipped p).entries ≡ false
unfolding skipped
unpadded p = unpadded_from (length p.storage) p.start p.entries

-- setting the checksum leaves no padding in front
still_unpadded : (sent : Bool) (p : Packets (Unit {0})) (es : List (Option (Unit {0}) × List ℕ)) → p.entries ≡ es → starts_padded es ≡ false → starts_padded (set_first sent p es).entries ≡ false
still_unpadded sent p [] is h = ap (λ (l : List (Option (Unit {0}) × List ℕ)). starts_padded l) is
still_unpadded sent p (e ∷ es) is h = ap (λ (l : List (Option (Unit {0}) × List ℕ)). is_none (first_header l)) is ∙ h

pub prepared_unpadded : (sent : Bool) (p q : Packets (Unit {0})) → q ≡ prepared_buffer sent p → starts_padded q.entries ≡ false
unfolding prepared_buffer
prepared_unpadded sent p q is = ap (λ (r : Packets (Unit {0})). starts_padded r.entries) is ∙ still_unpadded sent (skipped p) (skipped p).entries refl (unpadded p)

-- no packet, and no padding in front, is no entry
no_entry : (es : List (Option (Unit {0}) × List ℕ)) → starts_padded es ≡ false → packets es ≡ [] → (sent : Bool) (p : Packets (Unit {0})) → set_first sent p es ≡ p
no_entry [] h e sent p = refl
no_entry ((None, bs) ∷ es) h e sent p = absurd (true≢false h)
no_entry ((Some x, bs) ∷ es) h e sent p = absurd (none-some (x, bs) (sym (ap (λ (l : List (Unit {0} × List ℕ)). slice_get l 0) e)))

-- the first packet is the first entry then
first_entry : (es : List (Option (Unit {0}) × List ℕ)) → starts_padded es ≡ false → (x : Unit {0}) (bs left : List ℕ) → slice_get (packets es) 0 ≡ Some (x, bs) → (sent : Bool) → left ≡ prepared sent bs → (p : Packets (Unit {0})) → with_first left p ≡ set_first sent p es
first_entry [] h x bs left e sent is p = absurd (none-some (x, bs) e)
first_entry ((None, cs) ∷ es) h x bs left e sent is p = absurd (true≢false h)
first_entry ((Some y, cs) ∷ es) h x bs left e sent is p =
    ap (λ (l : List ℕ). with_first l p) (is ∙ ap (λ (d : Unit {0} × List ℕ). prepared sent d.1) (sym (same_Some (y, cs) (x, bs) e)))

module _ (sent : Bool) (old new : Packets (Unit {0})) (called : Unit {0} → List ℕ → Result (Unit {0}) (Unit {0}) → List ℕ → Type 0)
    (says : (x : Unit {0}) (bs : List ℕ) (r : Result (Unit {0}) (Unit {0})) (left : List ℕ) → called x bs r left → (r ≡ Err tt) × (left ≡ prepared sent bs)) where
  pub sets : (r : Result (Result (Unit {0}) (Unit {0})) Empty) → OnErr r (new ≡ skipped old) → OnErr r ((packets old.entries ≡ []) × (packets new.entries ≡ [])) → IfOk r (λ o. TakesFirst called old o new) → new ≡ prepared_buffer sent old
  unfolding prepared_buffer
  sets (Err e) err empty ok = err ∙ sym (no_entry (skipped old).entries (unpadded old) (packets_skipped old ∙ empty.0) sent (skipped old))
  sets (Ok o) err empty t =
      let s = says t.header t.bytes o t.left t.met in
      let first : slice_get (packets (skipped old).entries) 0 ≡ Some (t.header, t.bytes) = ap (λ (l : List (Unit {0} × List ℕ)). slice_get l 0) (packets_skipped old) ∙ t.first in
      t.after ∙ ap (λ r. cond (is_ok r) (without_first (with_first t.left (skipped old))) (with_first t.left (skipped old))) s.0
      ∙ first_entry (skipped old).entries (unpadded old) t.header t.bytes t.left first sent s.1 (skipped old)
