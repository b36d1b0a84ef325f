-- What a socket lends of its queues, and more than that.
use Rattle.std.proofs.Common.{◌≡◌, ℕ, pos, ◌<◌, ◌≤◌, ◌^◌, min, Bool, true, false, List, [], length, refl, sym, ap, ◌∙◌, arith}
use Rattle.std.specs.Prelude.{Result, Ok, Err, nat_le, if◌then◌else◌}
use Rattle.std.specs.Borrow.{MutBor}
use Rattle.std.specs.Fn.{FnOnceReturnsAtMut, Once}
use Rattle.std.proofs.lemmas.Bool.Decides.{nat_tests}
use Rattle.sock_tcp.specs.Queue.{free_piece}
use Rattle.sock_tcp.specs.Queues.{Drops, SendsWith, SendsWithIf, may_recv, may_send, queued, read_off, readable, recv_refusal}
use Rattle.sock_tcp.specs.View.{View}
use Rattle.sock_tcp.specs.declared.error.RecvError.{RecvError}
use Rattle.smoltcp_c.specs.Answers.{error_range, recv_answer}
use Rattle.smoltcp_c.specs.Streams.{Commits, Consumes, LendsFree, taken_of}
use Rattle.smoltcp_c.specs.declared.memory.Place.{Place}

differ : true ≡ false → ⊥
differ e = absurd cc

-- more bytes than the queue has
pub beyond_queue : (v : View) (n : ℕ) → may_recv v ≡ true → length v.rx_buffer.bytes < n → Consumes v n error_range v
beyond_queue v n may short =
    record {
      refused = λ f. absurd (differ (sym may ∙ f));
      beyond = λ t m. (refl, refl);
      done = λ t le. absurd (omega (arith, short, le));
    }

-- as many as it has at most
pub dropped : (v : View) (n : ℕ) (r : Result ℕ RecvError) (w : View) → Drops v n r w → (may_recv v ≡ true → n ≤ length v.rx_buffer.bytes) → Consumes v n (recv_answer r) w
dropped v n r w h fits = go (may_recv v) refl h.answer h.view
  where
    go : (b : Bool) → may_recv v ≡ b → r ≡ (if b then Ok (readable v n) else Err (recv_refusal v)) → w ≡ (if b then read_off v (readable v n) else v) → Consumes v n (recv_answer r) w
    go false e a k = record {
      refused = λ f. (ap recv_answer a, k);
      beyond = λ t m. absurd (differ (sym t ∙ e));
      done = λ t m. absurd (differ (sym t ∙ e));
    }
    go true e a k =
        let all : readable v n ≡ n = omega (arith, fits e) in
        record {
          refused = λ f. absurd (differ (sym e ∙ f));
          beyond = λ t m. absurd (omega (arith, m, fits e));
          done = λ t m. (ap recv_answer a ∙ ap pos all, k ∙ ap (read_off v) all);
        }

-- no byte joins the queue
none_queued : (v : View) (n : ℕ) (bs : List ℕ) → n ≡ 0 → queued v n bs ≡ queued v 0 []
unfolding queued
none_queued v n bs e = ap (λ k. queued v k bs) e

module _ {F : Type 0} (g : Once F (MutBor (List ℕ) × Unit {0}) ((ℕ × Place) × (MutBor (List ℕ) × Unit {0}))) (f : F) (says : (shown left : MutBor (List ℕ)) (r : ℕ × Place) → g.post f (shown, tt) (r, (left, tt)) → (r.0 ≡ 0) × ((r.1.len ≡ length shown.now) × (left.now ≡ shown.now))) where
  pub reserved : (v w : View) (out free : Place) → SendsWith (FnOnceReturnsAtMut g f) v (Ok free) w → LendsFree v out (pos (min free.len (2 ^ 30))) free w
  reserved v w out free h = go (may_send v.state) refl h
    where
      go : (b : Bool) → may_send v.state ≡ b → SendsWithIf b (FnOnceReturnsAtMut g f) v (Ok free) w → LendsFree v out (pos (min free.len (2 ^ 30))) free w
      go false e h = absurd h
      go true e h =
          let m = says h.met.shown h.met.left (h.size, free) h.met.met in
          let len : free.len ≡ free_piece v.tx_buffer = m.1.0 ∙ ap length h.met.shows ∙ h.lent_length in
          record {
            refused = λ n. absurd (differ (sym e ∙ n));
            answer = λ t. ap (λ n. pos (min n (2 ^ 30))) len;
            places = λ t. len;
            view = λ t. h.view ∙ none_queued v h.size h.left m.0;
          }

module _ {F : Type 0} (g : Once F (MutBor (List ℕ) × Unit {0}) ((ℕ × ℕ) × (MutBor (List ℕ) × Unit {0}))) (f : F) (count : ℕ) (says : (shown left : MutBor (List ℕ)) (r : ℕ × ℕ) → g.post f (shown, tt) (r, (left, tt)) → (r.0 ≡ taken_of count (length shown.now)) × ((r.1 ≡ length shown.now) × (left.now ≡ shown.now))) where
  -- none of so many places is taken where there are fewer
  nothing : (n m : ℕ) → m < n → taken_of n m ≡ 0
  nothing n m h = by_test (nat_le n m) (grind (arith, nat_tests, h))
    where
      by_test : (b : Bool) → b ≡ false → (if b then n else 0) ≡ 0
      by_test true e = absurd (differ e)
      by_test false e = refl

  pub beyond_free : (v w : View) (there : ℕ) → there < count → SendsWith (FnOnceReturnsAtMut g f) v (Ok there) w → Commits v count error_range w
  beyond_free v w there more h = go (may_send v.state) refl h
    where
      go : (b : Bool) → may_send v.state ≡ b → SendsWithIf b (FnOnceReturnsAtMut g f) v (Ok there) w → Commits v count error_range w
      go false e h = absurd h
      go true e h =
          let m = says h.met.shown h.met.left (h.size, there) h.met.met in
          let shown : length h.met.shown.now ≡ free_piece v.tx_buffer = ap length h.met.shows ∙ h.lent_length in
          let len : there ≡ free_piece v.tx_buffer = m.1.0 ∙ shown in
          record {
            refused = λ n. absurd (differ (sym e ∙ n));
            beyond = λ t k. (refl, h.view ∙ none_queued v h.size h.left (m.0 ∙ nothing count (length h.met.shown.now) (omega (arith, more, m.1.0))));
            done = λ t le. absurd (omega (arith, le, len, more));
          }
