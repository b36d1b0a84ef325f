-- From the one call of `emit` to what a dispatch does.
use Rattle.std.proofs.Common.{◌≡◌, ◌<◌, ℕ, List, length, drop, Some, refl, ap, ◌∙◌, subst}
use Rattle.std.specs.Prelude.{Result, Option, option_map, false}
use Rattle.std.specs.Borrow.{MutBor}
use Rattle.net_base.specs.Packets.{Packets, packets, starts_padded, Dequeues, skipped, without_first}
use Rattle.net_base.proofs.PacketLists.{skipped_stays}
use Rattle.sock_core.specs.Emission.{Emit, Emits}

-- emit was called, and answered r
pub emitted : {F C S E V : Type 0} (g : Emit F C S E) (meaning : S → V) (f : F) (planned : Option V) (sent : S) (shown left : MutBor C) (r : Result (Unit {0}) E)
    → option_map meaning (Some sent) ≡ planned → g.post f (shown, (sent, tt)) (r, (left, tt)) → Emits g meaning f planned shown.now r left.now
emitted g meaning f planned sent shown left r e h =
    subst (λ x. Emits g meaning f x shown.now r left.now) e (record { shown = shown; shows = refl; sent = sent; says = refl; left = left; met = h; leaves = refl })

module _ {X : Type 0} where
  -- to take the first packet once the padding in front is gone is to take it
  pub dequeues_skipped : (p q r : Packets X) → q ≡ skipped p → starts_padded q.entries ≡ false → packets q.entries ≡ packets p.entries → Dequeues q r → Dequeues p r
  dequeues_skipped p q r is packet same d =
      let once : skipped q ≡ skipped p = skipped_stays q packet ∙ is in
      record {
        some = subst (λ (s : Packets X). 0 < length s.entries → r ≡ without_first s) once d.some;
        none = subst (λ (s : Packets X). length s.entries ≡ 0 → r ≡ s) once d.none;
        packets = d.packets ∙ ap (λ (l : List (X × List ℕ)). drop 1 l) same;
      }
