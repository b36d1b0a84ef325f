-- A packet that is written where it lies joins the queue with the bytes that stand there.
use Rattle.std.proofs.Common.{◌≡◌, ℕ, ◌≤◌, List, length, take, drop, sym, ap, ◌∙◌, subst, arith}
use Rattle.std.specs.Borrow.{MutBor}
use Rattle.std.specs.Fn.{FnOnceReturnsAtMut, Once}
use Rattle.net_base.specs.Packets.{AppendsWith, Enqueues, Packets}
use Rattle.smoltcp_c.specs.InPlace.{Stands}

module _ {M F : Type 0} (g : Once F (MutBor (List ℕ) × Unit {0}) (ℕ × (MutBor (List ℕ) × Unit {0}))) (f : F) (says : (shown left : MutBor (List ℕ)) (r : ℕ) → g.post f (shown, tt) (r, (left, tt)) → (r ≡ length shown.now) × (left.now ≡ shown.now)) where
  pub stands : (n : ℕ) (m : M) (p : Packets M) (kept : ℕ) (q : Packets M) → Enqueues (FnOnceReturnsAtMut g f) n m p kept q → Enqueues Stands n m p n q
  stands n m p kept q h =
      let a = h.appends in
      let met = says a.met.shown a.met.left kept a.met.met in
      let whole : length a.met.shown.now ≡ n = ap length (sym met.1 ∙ a.met.leaves) ∙ a.left_length in
      subst (λ k. Enqueues Stands n m p k q) (met.0 ∙ whole)
      (record {
        appends = record {
          left = a.left;
          left_length = a.left_length;
          kept_within = a.kept_within;
          met = (met.0 ∙ ap length a.met.shows, sym a.met.leaves ∙ met.1 ∙ a.met.shows);
          after = a.after;
        };
        packets = h.packets;
      })
