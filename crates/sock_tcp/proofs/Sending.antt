-- What a closure that fills free places of the transmit buffer comes to.
use Rattle.std.proofs.Common.{◌≡◌, ℕ, ◌-◌, ◌≤◌, List, ◌++◌, length, take, drop, Bool, true, sym, ap, subst, ◌∙◌, arith, length-take, length-drop}
use Rattle.std.specs.Prelude.{◌==◌, Ok}
use Rattle.net_base.specs.Ring.{Ring, overwrite, restarted, spare_piece, EnqueuesWith}
use Rattle.net_base.proofs.Cells.{length_anew}
use Rattle.std.proofs.lemmas.List.{length-append}
use Rattle.sock_tcp.proofs.Lending.{free_within}
use Rattle.sock_tcp.specs.Queue.{Queue, queue_of, appended, appending_end, free_piece}
use Rattle.sock_tcp.specs.View.{View}
use Rattle.sock_tcp.specs.Queues.{may_send, last_ts_from, timer_after, queued, SendsWithIf, SendsWith}

module _ {R : Type 0} (called : List ℕ → ℕ × R → List ℕ → Type 0) (old new : Ring ℕ) (r : ℕ × R) (e : EnqueuesWith called old r new) where
  abbrev spare : List ℕ
  spare = (restarted old).spare

  fits : spare_piece old ≤ length old.spare
  fits = free_within (queue_of old)

  room : length spare ≡ length old.spare
  room = length_anew old.until_end old.queue old.spare

  short : length (take r.0 e.left) ≡ r.0
  short = omega (arith, length-take r.0 e.left, e.size_within, e.left_length)

  -- the length of what was written over the beginning
  same : length (overwrite spare 0 e.left) ≡ length spare
  same = simp (length-append, length-drop, length-take) (omega (arith, room, fits, e.left_length))

  rest : length (drop r.0 (overwrite spare 0 e.left)) ≡ length old.spare - length (take r.0 e.left)
  rest = omega (arith, length-drop r.0 (overwrite spare 0 e.left), same, room, short)

  joined : queue_of new ≡ appended (queue_of old) (take r.0 e.left)
  joined = ap queue_of e.after ∙ (λ i. record { bytes = old.queue ++ take r.0 e.left; window = rest i; until_end = appending_end (queue_of old) })

  pub fills : (v w : View) (was_empty : Bool) → queue_of old ≡ v.tx_buffer → may_send v.state ≡ true → was_empty ≡ (length v.tx_buffer.bytes == 0)
      → w ≡ record v { tx_buffer = queue_of new; remote_last_ts = last_ts_from was_empty v r.0; timer = timer_after v r.0 } → SendsWith called v (Ok r.1) w
  unfolding queued
  fills v w was_empty q may empty h =
      let tx : queue_of new ≡ appended v.tx_buffer (take r.0 e.left) = joined ∙ ap (λ (x : Queue). appended x (take r.0 e.left)) q in
      let piece : spare_piece old ≡ free_piece v.tx_buffer = ap free_piece q in
      subst (λ b. SendsWithIf b called v (Ok r.1) w) (sym may) (record {
        lent = take (spare_piece old) spare;
        left = e.left;
        size = r.0;
        lent_length = omega (arith, length-take (spare_piece old) spare, room, fits, piece);
        left_length = e.left_length ∙ piece;
        met = e.met;
        size_within = omega (arith, e.size_within, piece);
        view = h ∙ (λ i. record v { tx_buffer = tx i; remote_last_ts = last_ts_from (empty i) v r.0; timer = timer_after v r.0 });
      })
