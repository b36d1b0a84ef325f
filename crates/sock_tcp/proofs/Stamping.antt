-- What a segment does to timestamps: they stay, or a SYN without one takes them away.
use Rattle.std.proofs.Common.{◌≡◌, ◌∙◌, ℕ, Bool, true, false, ◌&&◌, refl, sym, ap, Option, is_some}
use Rattle.std.specs.Prelude.{IsTrue}
use Rattle.net_base.specs.declared.time.Instant.{Instant}
use Rattle.ip_wire.specs.declared.repr.IpRepr.{IpRepr}
use Rattle.control_wire.specs.Segment.{Segment}
use Rattle.sock_tcp.specs.Advance.{fallen_back, fin_counted, options_taken, syn_answered, syn_received}
use Rattle.sock_tcp.specs.Arrival.{arrival}
use Rattle.sock_tcp.specs.Process.{Outcome, closed_then, close_restarted, responded, source_kept, tested, told_then, tuple_of}
use Rattle.sock_tcp.specs.Replies.{ack_kept}
use Rattle.sock_tcp.specs.Rfc.Recovery.{recovered, recovered_by}
use Rattle.sock_tcp.specs.Steps.{ack_counted, ack_delayed, duplicate_counted, heard, joined, released, timer_set, timestamp_taken, una_advanced, window_taken}
use Rattle.sock_tcp.specs.Rfc.Windows.{windowed}
use Rattle.sock_tcp.specs.View.{View}
use Rattle.sock_tcp.specs.declared.acked.Acked.{Acked}
use Rattle.sock_tcp.specs.declared.duplicates.Response.{Response}
use Rattle.sock_tcp.specs.declared.duplicates.Response.TheVariants as responses
use Rattle.sock_tcp.proofs.KeptSegments.{KeptByAnswers, KeptByRows, KeptBySegments, heard_kept, passed_kept}

first_holds : (a b : Bool) → (a && b) ≡ true → a ≡ true
first_holds true b e = refl
first_holds false b e = e

module _ (v : View) where
  abbrev Falls : View → Type 0
  Falls w = w.stamps ≡ true → v.stamps ≡ true

  answers_fall : KeptByAnswers Falls
  unfolding ack_kept
  answers_fall = record { challenges = λ w at h. h; acks = λ w h. h }

  rows_fall : (now : Instant) (word : ℕ) (s : Segment) → KeptByRows Falls now word s
  unfolding fallen_back syn_received syn_answered options_taken fin_counted
  rows_fall now word s = record {
    falls = λ w h. h;
    drops = λ w h. h;
    opens = λ w t h e. h (first_holds w.stamps (is_some s.timestamp) e);
    answers = λ w h e. h (first_holds w.stamps (is_some s.timestamp) e);
    moves = λ w st h. h;
    counts = λ w st h. h;
    waits = λ w h. h;
  }

  hears_fall : (now : Instant) (s : Segment) (u : View) (a : Acked) → Falls u → Falls (heard u now a s)
  unfolding window_taken released duplicate_counted ack_counted una_advanced timestamp_taken timer_set
  hears_fall now s u a h = heard_kept Falls now s u a h (λ k. h) (λ k. h)

  segments_fall : (now : Instant) (word : ℕ) (s : Segment) → KeptBySegments Falls now word s
  unfolding close_restarted joined ack_delayed recovered
  segments_fall now word s = record {
    answers = answers_fall;
    restarts = λ w h. h;
    numbers = λ w n h. h;
    rows = rows_fall now word s;
    joins = λ w o bs h. h;
    hears = hears_fall now s;
    recovers = λ u w h i. i;
  }

answer_keeps : (r : Response) (v : View) (s : Segment) → (responded r v s).view.stamps ≡ v.stamps
unfolding ack_kept
answer_keeps responses.Nothing v s = refl
answer_keeps (responses.Ack n) v s = refl
answer_keeps responses.Rst v s = refl

pub stamps_fall : (r : Response) (v w : View) (now : Instant) (word : ℕ) (ip : IpRepr) (s : Segment) (b : Bool) → responded r w s ≡ told_then v.rules v (windowed v.rules v s) (closed_then v.rules (recovered_by v.rules v now (windowed v.rules v s) (tested b v (arrival now (tuple_of ip s) word (windowed v.rules v s))))) → IsTrue w.stamps → IsTrue v.stamps
stamps_fall r v w now word ip s b e h = passed_kept (Falls v) now word ip (windowed v.rules v s) (segments_fall v now word (windowed v.rules v s)) v.rules v (λ i. i) b (sym (ap (λ (o : Outcome). o.view.stamps) e) ∙ answer_keeps r w s ∙ h)

-- so the source that is kept is there exactly where they are
pub still_stamped : {G : Type 0} (g : Option G) (old new : Bool) → is_some g ≡ old → (IsTrue new → IsTrue old) → is_some (source_kept new g) ≡ new
still_stamped g old true e h = e ∙ h refl
still_stamped g old false e h = refl
