-- Any call keeps it: a receive buffer that has a byte has room for one unit of the own window field.
use Rattle.std.proofs.Common.{◌≡◌, ℕ, zero, suc, ◌+◌, ◌^◌, ◌<◌, ◌≤◌, Bool, true, false, refl, sym, ap, subst, if◌then◌else◌, List, [], ◌∷◌, ◌++◌, length, take, drop, map, min, replicate, Option, Some, None, arith, length-append, length-drop, max}
use Rattle.std.proofs.Math.Pow.{pow_mono}
use Rattle.std.proofs.lemmas.List.{length-replicate, length-take}
use Rattle.net_base.specs.declared.time.Instant.{Instant}
use Rattle.control_wire.specs.Segment.{Segment}
use Rattle.sock_core.specs.Received.{Received, behind_run, cleared, gathered, handed_out, makes_fifth_range, receiving, received, room_of, run_of, taken_in, written}
use Rattle.sock_core.specs.WindowShift.{window_shift}
use Rattle.sock_core.proofs.Shifts.{is_shift_least}
use Rattle.sock_tcp.specs.PathMtu.{all_sent_again, shortened}
use Rattle.sock_tcp.specs.Advance.{fallen_back, fin_counted, options_taken, shift_taken, syn_answered, syn_received}
use Rattle.sock_tcp.specs.Begin.{retransmission_begun, fast_retransmission_marked}
use Rattle.sock_tcp.specs.Opening.{connected, listened, renewed}
use Rattle.sock_tcp.specs.Process.{close_restarted}
use Rattle.sock_tcp.specs.Queues.{queued, read_off}
use Rattle.sock_tcp.specs.Replies.{ack_kept}
use Rattle.sock_tcp.specs.Rfc.Recovery.{recovered}
use Rattle.sock_tcp.specs.Rfc.TailLoss.{probed_by, tail_probed}
use Rattle.sock_tcp.specs.Sent.{after_any, after_probe, snd_nxt_moved}
use Rattle.sock_tcp.specs.Steps.{window_taken, released, duplicate_counted, ack_counted, una_advanced, timestamp_taken, timer_set, heard, joined, ack_delayed}
use Rattle.sock_tcp.specs.Rfc.Windows.{windowed}
use Rattle.sock_tcp.specs.View.{View, fresh, moment_of}
use Rattle.sock_tcp.specs.declared.acked.Acked.{Acked}
use Rattle.tcp_laws.specs.Polling.{IsReached}
use Rattle.tcp_laws.proofs.Kept.{Kept, KeptByBeginnings, KeptByCalls, KeptByRows, KeptBySegments, KeptBySending, heard_kept, process_kept, reached_kept, sends_kept}
use Rattle.tcp_laws.proofs.SocketSteps.{same_number, setting_leaves}

abbrev pub HasUnit : ℕ → ℕ → Type 0
HasUnit room shift = 2 ^ shift ≤ max 1 room

abbrev pub IsScaled : View → Type 0
IsScaled v = HasUnit (room_of v.rx_buffer) v.remote_win_shift

-- ---- the buffer has no fewer places than before

-- the shift of a window leaves a unit of it
pub shift_within : (n : ℕ) → 0 < n → 2 ^ window_shift n ≤ n
shift_within n some = by (window_shift n) refl
  where
    by : (r : ℕ) → r ≡ window_shift n → 2 ^ window_shift n ≤ n
    by zero e = rw (sym e) (omega (arith, some))
    by (suc r) e = let h = is_shift_least n (suc r) e (omega arith) in let m : 2 ^ suc r ≤ 2 ^ (15 + suc r) = pow_mono {i = suc r} {j = 15 + suc r} (omega arith) in rw (sym e) (omega (arith, h, m))

pub taken_within : (n : ℕ) (o : Option ℕ) → 0 < n → 2 ^ shift_taken (window_shift n) o ≤ n
taken_within n None some = omega (arith, some)
taken_within n (Some m) some = shift_within n some

unit_of : (n : ℕ) → HasUnit n (window_shift n)
unfolding window_shift
unit_of zero = omega arith
unit_of (suc n) = let h : 2 ^ window_shift (suc n) ≤ suc n = shift_within (suc n) (omega arith) in omega (arith, h)

written_room : (hs : List (Option ℕ)) (o : ℕ) (ys : List ℕ) → length hs ≤ length (written hs o ys)
written_room hs o ys =
    let zs : List (Option ℕ) = map Some ys in
    let taken : length (take o hs) ≡ min o (length hs) = length-take o hs in
    omega (arith, length-append (take o hs) (zs ++ drop (o + length zs) hs), length-append zs (drop (o + length zs) hs), taken, length-drop (o + length zs) hs)

run_and_rest : (hs : List (Option ℕ)) → length (run_of hs) + length (behind_run hs) ≡ length hs
run_and_rest [] = refl
run_and_rest (None ∷ hs) = omega arith
run_and_rest (Some b ∷ hs) = omega (arith, run_and_rest hs)

taken_room : (b : Received) (o : ℕ) (ys : List ℕ) → room_of b ≤ room_of (taken_in b o ys)
unfolding taken_in
taken_room b o ys = by (makes_fifth_range b o ys)
  where
    by : (t : Bool) → room_of b ≤ room_of (if t then b else gathered (received b.bytes (written b.held o ys) b.until_end))
    by true = omega arith
    by false = omega (arith, length-append b.bytes (run_of (written b.held o ys)), run_and_rest (written b.held o ys), written_room b.held o ys)

read_room : (b : Received) (n : ℕ) → room_of b ≤ room_of (handed_out b n)
unfolding handed_out
read_room b n = omega (arith, length-drop n b.bytes, length-append b.held (replicate n None), length-replicate {A = Option ℕ} n None)

-- ---- a segment

shift_kept : (room old : ℕ) (o : Option ℕ) → HasUnit room old → HasUnit room (shift_taken old o)
shift_kept room old None h = omega arith
shift_kept room old (Some n) h = h

module _ (s : Segment) (now : Instant) where
  heard_scaled : (u : View) (a : Acked) → IsScaled u → IsScaled (heard u now a s)
  unfolding window_taken released timestamp_taken timer_set duplicate_counted ack_counted una_advanced
  heard_scaled u a h = heard_kept IsScaled now s u a h (λ k. h) (λ k. h)

  rows_scaled : (word : ℕ) → KeptByRows IsScaled now word s
  unfolding fallen_back syn_received syn_answered options_taken fin_counted
  rows_scaled word = record {
    falls = λ v h. h;
    drops = λ v h. h;
    opens = λ v t h. shift_kept (room_of v.rx_buffer) v.remote_win_shift s.window_scale h;
    answers = λ v h. shift_kept (room_of v.rx_buffer) v.remote_win_shift s.window_scale h;
    moves = λ v st h. h;
    counts = λ v st h. h;
    waits = λ v h. h;
  }

  segments_scaled : (word : ℕ) → KeptBySegments IsScaled now word s
  unfolding ack_kept close_restarted joined ack_delayed recovered
  segments_scaled word = record {
    answers = record { challenges = λ w at h. h; acks = λ w h. h };
    restarts = λ w h. h;
    numbers = λ v n h. h;
    rows = rows_scaled word;
    joins = λ w o bs h. omega (arith, h, taken_room w.rx_buffer o bs);
    hears = λ u a h. heard_scaled u a h;
    recovers = λ v w h i. i;
  }

-- ---- a dispatch

new_scaled : (v : View) → IsScaled (renewed v)
unfolding renewed fresh
new_scaled v = unit_of (room_of (cleared v.rx_buffer))

begins_scaled : (now : Instant) → KeptByBeginnings IsScaled now
unfolding retransmission_begun fast_retransmission_marked tail_probed probed_by
begins_scaled now = record {
  remembers = λ v h. h;
  tells = λ v h. h;
  times_out = λ v h. h;
  forgets = λ v h. h;
  begins_again = λ v at e h. h;
  marks = λ v e h. h;
  goes_back = λ v at delay e h. h;
  probes_tail = λ v at e h. h;
}

sends_scaled : (now : Instant) → KeptBySending IsScaled now
unfolding after_any snd_nxt_moved after_probe
sends_scaled now = record { renews = λ u h. h; moves = λ u e h. h; times = λ u e h. h; probes = λ u h. h; arms = λ u at e h. h }

-- ---- the other calls

module _ (v w : View) (h : IsScaled v) where
  same_scaled : ((w ≡ v → ⊥) → ⊥) → IsScaled w
  same_scaled n = subst (λ k. HasUnit k w.remote_win_shift) (sym (number (λ x. room_of x.rx_buffer))) (subst (HasUnit (room_of v.rx_buffer)) (sym (number (λ x. x.remote_win_shift))) h)
    where
      number : (f : View → ℕ) → f w ≡ f v
      number f = same_number (f w) (f v) (λ d. n (λ e. d (ap f e)))

calls_scaled : KeptByCalls IsScaled (λ d. Unit {0})
unfolding queued read_off connected listened
calls_scaled = record {
  queues = λ v n bs may within h. h;
  reads = λ v n h. omega (arith, h, read_room v.rx_buffer n);
  connects = λ v t word small h. new_scaled v;
  listens = λ v e h. new_scaled v;
  decided = λ v w is n h. same_scaled v w h n;
  closes = λ v h. h;
  aborts = λ v h. h;
  sets = λ v w x m h. setting_leaves IsScaled v w (λ x. h) (λ x. h) (λ timeout delay nagle hops paused is_there rules estimator. h) x;
}

kept_scaled : Kept (λ at. IsScaled) (λ at. Unit {0}) (λ last now. Unit {0}) (λ d. Unit {0})
unfolding shortened all_sent_again
kept_scaled = record {
  later = λ last now v c h. h;
  calls = λ last b. calls_scaled;
  segments = λ r now word ip s v small numbered bare h. process_kept IsScaled now word ip s r v (segments_scaled (windowed r v s) now word) h;
  beginnings = λ now. begins_scaled now;
  resets = λ now v h. new_scaled v;
  sendings = λ o f u w out h i. sends_kept IsScaled f (sends_scaled (moment_of f)) o u w out h i;
  shortens = λ now v mss le h. h;
  repeats = λ now v e h. h;
}

-- so after any list of calls a receive buffer that has a byte has room for one unit of the window field
pub unit_fits : (v : View) → IsReached v → 0 < room_of v.rx_buffer → 2 ^ v.remote_win_shift ≤ room_of v.rx_buffer
unfolding fresh
unit_fits v r some =
    let h : IsScaled v = reached_kept IsScaled kept_scaled (λ rx tx size. unit_of (room_of (receiving rx))) v r in
    omega (arith, h, some)
