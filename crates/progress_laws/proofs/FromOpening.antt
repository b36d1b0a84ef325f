-- From the calls that open two sockets to the end of both streams.
use Rattle.std.proofs.Common.{◌≡◌, ℕ, ◌≤◌, sym, ap, subst, ◌∙◌, List, [], ◌++◌, length, take, drop, Option, Some, None, refl, arith}
use Rattle.std.specs.Prelude.{if◌then◌else◌, ◌≤ℤ◌, true, Ok, Err}
use Rattle.std.proofs.lemmas.Int.{ints}
use Rattle.net_base.specs.declared.time.Duration.{Duration}
use Rattle.net_base.specs.declared.time.Instant.{Instant}
use Rattle.sock_core.specs.Bounds.{IsMtu}
use Rattle.sock_core.specs.Facts.{Facts}
use Rattle.sock_tcp.specs.Queue.{capacity}
use Rattle.sock_tcp.specs.declared.state.State.{State}
use Rattle.sock_tcp.specs.declared.state.State.TheVariants as state
use Rattle.sock_tcp.specs.declared.timer.Timer.TheVariants as timer
use Rattle.sock_tcp.specs.declared.tuple.Tuple.{Tuple}
use Rattle.tcp_laws.specs.Polling.{IsReached}
use Rattle.sock_tcp.specs.Opening.{connected, listened}
use Rattle.sock_tcp.specs.Queues.{Sends, fitting, may_send, queued, written}
use Rattle.sock_tcp.specs.View.{View}
use Rattle.sock_tcp.specs.declared.error.SendError.TheVariants as send_error
use Rattle.progress_laws.specs.BothWays.{BothFinish, StaysInStep, Turns}
use Rattle.progress_laws.specs.FromOpening.{AnswersAgain, BothEnd, CrossedSynsComeAgain, IsUnopened, Losses, LostSynsComeAgain, NoLoss, OneLoss, OpenedPairCompletes, OpensAgain, OpensInStep, StandNew, mirrored}
use Rattle.progress_laws.specs.InStep.{told}
use Rattle.progress_laws.specs.Opening.{AnswersSyn, CanMeet, TakesSyn}
use Rattle.progress_laws.proofs.Begins.{dispatch_reached, later_moment, segment_reached}
use Rattle.progress_laws.proofs.Accepts.{sending_keeps_in_step}
use Rattle.progress_laws.proofs.BothFinish.{both_ways_finish}
use Rattle.progress_laws.proofs.Handshakes.{connected_reached, first_short, handshake_brings_in_step, meets, narrow, numbered_first, q, reached_l, reached_received, reached_x, received, s, same_versions, takes_syn, there_s}
use Rattle.progress_laws.proofs.Opening.{acknowledged, answered, answers_syn, back_out, begins, can, first, may_answer, out, sent, stands}
use Rattle.progress_laws.proofs.Repeats.{IsSent, NotSent, Repeats, SendsSyn, SynGoesOut, SynWaits, goes_so, sends, sent_so, waits_then, own_stamp}
use Rattle.progress_laws.proofs.SynSteps.{HasTakenSyn, crossed, crossed_so, crossing_passes}
use Rattle.progress_laws.proofs.Taking.{take_all}

-- bytes that fit into an empty queue
module _ (v : View) (bs : List ℕ) (may : may_send v.state ≡ true) (empty : v.tx_buffer.bytes ≡ []) (fits : length bs ≤ v.tx_buffer.window) where
  all_fit : fitting v (length bs) ≡ length bs
  all_fit = omega (arith, fits)

  all_sent : Sends v bs (Ok (length bs)) (written v bs)
  all_sent = record { answer = sym (ap (λ b. if b then Ok (fitting v (length bs)) else Err send_error.InvalidState) may ∙ ap Ok all_fit); view = sym (ap (λ b. if b then written v bs else v) may) }

  all_queued : (written v bs).tx_buffer.bytes ≡ bs
  unfolding queued
  all_queued = (λ i. empty i ++ take (all_fit i) bs) ∙ take_all bs

rest_of : (n : ℕ) (l bs : List ℕ) → n ≡ 0 → l ≡ bs → [] ++ drop n l ≡ bs
rest_of n l bs z e = (λ i. drop (z i) (e i))

-- from the handshake on
pub new_pair_ends : (d e : Option Duration) (t : Tuple) (f : Facts) (fits back_fits : ℕ) (v w : View) → IsMtu f.mtu → f.has_address t.local.addr ≡ true → StandNew d e t f fits back_fits v w → (now : Instant) (xs ys : List ℕ) → length xs ≤ fits → length ys ≤ back_fits → BothEnd f now v w xs ys
new_pair_ends d e t f fits back_fits v w mtu here n now xs ys short back_short =
    let v_fits : length xs ≤ v.tx_buffer.window = omega (arith, n.room_here, short) in
    let w_fits : length ys ≤ w.tx_buffer.window = omega (arith, n.room_across, back_short) in
    let sends_v : Sends v xs (Ok (length xs)) (written v xs) = all_sent v xs n.in_step.here.sender.state n.empty_here v_fits in
    let sends_w : Sends w ys (Ok (length ys)) (written w ys) = all_sent w ys n.in_step.across.sender.state n.empty_across w_fits in
    let i : StaysInStep d e t n.peer v w (written v xs) w n.in_step = (sending_keeps_in_step d e t n.peer v w (written v xs) xs (Ok (length xs)) n.in_step).0 sends_v in
    let j : StaysInStep d e t n.peer (written v xs) w (written v xs) (written w ys) i.in_step = (sending_keeps_in_step d e t n.peer (written v xs) w (written w ys) ys (Ok (length ys)) i.in_step).1 sends_w in
    let k : BothFinish d e t n.peer f now (written v xs) (written w ys) [] [] j.in_step = both_ways_finish d e t n.peer f now (written v xs) (written w ys) [] [] mtu here n.address j.in_step in
    let got : [] ++ drop j.in_step.over.taken (written v xs).tx_buffer.bytes ≡ xs = rest_of j.in_step.over.taken (written v xs).tx_buffer.bytes xs (j.over ∙ i.over ∙ n.none_over) (all_queued v xs n.in_step.here.sender.state n.empty_here v_fits) in
    let back : [] ++ drop j.in_step.back.taken (written w ys).tx_buffer.bytes ≡ ys = rest_of j.in_step.back.taken (written w ys).tx_buffer.bytes ys (j.back ∙ i.back ∙ n.none_back) (all_queued w ys n.in_step.across.sender.state n.empty_across w_fits) in
    record {
      here = written v xs;
      sends_here = sends_v;
      across = written w ys;
      sends_across = sends_w;
      end = k.bytes.end;
      done_here = k.bytes.here;
      done_across = k.bytes.across;
      turns = subst (λ l. Turns f now (written v xs) (written w ys) [] [] k.bytes.end k.bytes.here k.bytes.across l ys) got (subst (λ l. Turns f now (written v xs) (written w ys) [] [] k.bytes.end k.bytes.here k.bytes.across ([] ++ drop j.in_step.over.taken (written v xs).tx_buffer.bytes) l) back k.bytes.turns);
      at = k.now;
      later = k.later;
      closed_here = k.here;
      heard_across = k.across;
      one = k.one;
      last = k.end;
      later_still = k.later_still;
      last_here = k.last_here;
      last_across = k.last_across;
      other = k.other;
    }

pub opened_pair_completes : OpenedPairCompletes
opened_pair_completes t f g now number word a b remote own e p mtu =
    let o : OpensInStep t f now word a b (connected a t number) (listened b e) = handshake_brings_in_step t f g now number word a b remote own e p in
    record { opens = o; ends = λ xs ys fits back_fits. new_pair_ends a.keep_alive b.keep_alive t f (capacity a.tx_buffer) (capacity b.tx_buffer) o.handshake.ack.here o.handshake.ack.across mtu p.has_local o.new now xs ys fits back_fits }

-- ---- whatever was lost before

-- the moment at which the SYN goes out
pub goes_out : (v : View) (q : SynWaits v) (last : Instant) → (z : Instant) × (last.micros ≤ℤ z.micros) × SynGoesOut v q z
goes_out v (NotSent o idle nxt) last = (last, grind (arith, ints), tt)
goes_out v (IsSent at waits nxt) last = later_moment last at

pub losses_keep : (st : State) (t : Tuple) (f : Facts) (x : View) (c : SendsSyn st t f x) (at end : Instant) (v w : View) → Losses f at v end w → Repeats x v → IsReached v → Repeats x w × IsReached w
losses_keep st t f x c at end v w (NoLoss _ _) r p = (r, p)
losses_keep st t f x c at end v w (OneLoss _ now _ _ u _ out l d rest) r p = losses_keep st t f x c now end u w rest (goes_so st t f x c v r now out u d) (dispatch_reached (told f now) v out u p d)

module _ (t : Tuple) (f : Facts) (number word : ℕ) (a b : View) (m : CanMeet t f number word a b) (ua : IsUnopened a) (ub : IsUnopened b) (mtu : IsMtu f.mtu) (now : Instant) (v : View) (r : Repeats (connected a t number) v) (reached_s : IsReached (sent t f number word a b m now v r)) (s : Tuple) (w : View) (there : f.has_address s.local.addr ≡ true) (q : HasTakenSyn b w s word (first t f number word a b m now v r)) (reached_w : IsReached w) where
  answers_again : (end : Instant) (z : View) → Repeats w z → IsReached z → AnswersAgain a.keep_alive b.keep_alive t f (capacity a.tx_buffer) (capacity b.tx_buffer) end (sent t f number word a b m now v r) z
  unfolding answers_syn
  answers_again end z rz reached =
      let g = goes_out z rz.waits end in
      let y : AnswersSyn f g.0 (sent t f number word a b m now v r) z = answers_syn t f number word a b m now v r s w there q g.0 z rz g.2 in
      let k = acknowledged t f number word a b m now v r s w there q g.0 z rz ua.interval ua.some (narrow a ua.reached) (narrow b ub.reached) in
      let n = stands t f number word a b m now v r s w there q g.0 z rz ua.interval ua.some (narrow a ua.reached) (narrow b ub.reached) ub.some reached_s (dispatch_reached (told f g.0) z (Some (back_out t f number word a b m now v r s w there q g.0 z rz)) (answered t f number word a b m now v r s w there q g.0 z rz) reached y.sends_answer) in
      record { now = g.0; later = g.1; answer = y; ack = k; new = n; ends = new_pair_ends a.keep_alive b.keep_alive t f (capacity a.tx_buffer) (capacity b.tx_buffer) k.here k.across mtu m.here n g.0 }

  answers_losses : (end : Instant) (z : View) → Losses f now w end z → AnswersAgain a.keep_alive b.keep_alive t f (capacity a.tx_buffer) (capacity b.tx_buffer) end (sent t f number word a b m now v r) z
  answers_losses end z l =
      let k = losses_keep state.SynReceived s f w (may_answer t f number word a b m now v r s w there q) now end w z l q.repeats reached_w in
      answers_again end z k.0 k.1

pub lost_syns_come_again : LostSynsComeAgain
unfolding takes_syn
lost_syns_come_again t f g at last number word a b v remote own e p mtu l =
    let m = meets t f g number word a b remote own e p in
    let k = losses_keep state.SynSent t f (connected a t number) (can t f number word a b m) at last (connected a t number) v l (begins t f number word a b m) (reached_x t f g number word a b remote own e p) in
    let o = goes_out v k.0.waits last in
    let y : TakesSyn f o.0 word v (listened b e) = takes_syn t f number word a b m e o.0 v k.0 o.2 in
    record {
      now = o.0;
      later = o.1;
      syn = y;
      answers = answers_losses t f number word a b m p.here p.across mtu o.0 v k.0 (dispatch_reached (told f o.0) v (Some (out t f number word a b m o.0 v k.0)) (sent t f number word a b m o.0 v k.0) k.1 y.sends_syn)
          (s t f number word a b m e o.0 v k.0) (received t f number word a b m e o.0 v k.0) (there_s t f number word a b m e o.0 v k.0) (q t f number word a b m e o.0 v k.0).taken (reached_received t f number word a b m e o.0 v k.0 (reached_l t f g number word a b remote own e p));
    }

-- ---- both connect

-- the other one sent its SYN, and takes the one that comes
module _ (t : Tuple) (f : Facts) (number word : ℕ) (a b : View) (m : CanMeet t f number word a b) (ua : IsUnopened a) (ub : IsUnopened b) (mtu : IsMtu f.mtu) (v w : View) (rv : Repeats (connected a t number) v) (across : Repeats (connected b (mirrored t) word) w) (reached_v : IsReached v) (reached_w : IsReached w) (at : Instant) (waits : w.timer ≡ timer.Retransmit at) (first_at : Instant) where
  opens_again : OpensAgain t f first_at word a b v w
  unfolding connected
  opens_again =
      let o = goes_out v rv.waits first_at in
      let g = first t f number word a b m o.0 v rv in
      let q = crossed_so b w (mirrored t) word o.0 g refl across at waits in
      let comes = crossing_passes w o.0 word (out t f number word a b m o.0 v rv).ip g (w_state across) refl refl in
      let y : TakesSyn f o.0 word v w = record { syn = out t f number word a b m o.0 v rv; sent = sent t f number word a b m o.0 v rv; sends_syn = sends state.SynSent t f (connected a t number) (can t f number word a b m) v rv o.0 o.2; received = crossed b w (mirrored t) word o.0 g refl across at waits; syn_comes = comes } in
      record {
        now = o.0;
        later = o.1;
        syn = y;
        answers = answers_losses t f number word a b m ua ub mtu o.0 v rv (dispatch_reached (told f o.0) v (Some (out t f number word a b m o.0 v rv)) (sent t f number word a b m o.0 v rv) reached_v y.sends_syn)
            (mirrored t) (crossed b w (mirrored t) word o.0 g refl across at waits) m.there q (segment_reached w (crossed b w (mirrored t) word o.0 g refl across at waits) o.0 word (out t f number word a b m o.0 v rv).ip g None reached_w m.word_small (numbered_first t f number word a b m o.0 v rv) (first_short t f number word a b m o.0 v rv) (λ l. refl) comes);
      }
    where
      w_state : Repeats (connected b (mirrored t) word) w → w.state ≡ state.SynSent
      w_state r = r.same.state

pub crossed_syns_come_again : CrossedSynsComeAgain
crossed_syns_come_again t f at last from since number word a b v w p c here there mtu l k =
    let m : CanMeet t f number word a b = record { versions = same_versions t a p.context p.remote p.local p.ends; here = here; there = there; number_small = p.small; word_small = c.small; no_timeout_a = p.unopened.no_timeout; smoltcp_a = p.unopened.smoltcp; no_timeout_b = c.unopened.no_timeout; smoltcp_b = c.unopened.smoltcp; not_paused_a = p.unopened.not_paused; not_paused_b = c.unopened.not_paused } in
    let back : CanMeet (mirrored t) f word number b a = record { versions = same_versions (mirrored t) b c.context c.remote c.local c.ends; here = there; there = here; number_small = c.small; word_small = p.small; no_timeout_a = c.unopened.no_timeout; smoltcp_a = c.unopened.smoltcp; no_timeout_b = p.unopened.no_timeout; smoltcp_b = p.unopened.smoltcp; not_paused_a = c.unopened.not_paused; not_paused_b = p.unopened.not_paused } in
    let rv = losses_keep state.SynSent t f (connected a t number) (can t f number word a b m) at last (connected a t number) v l (begins t f number word a b m) (connected_reached t p.context number a p.remote p.local p.unopened.reached p.small p.ends) in
    let rk = losses_keep state.SynSent (mirrored t) f (connected b (mirrored t) word) (can (mirrored t) f word number b a back) from since (connected b (mirrored t) word) w k (begins (mirrored t) f word number b a back) (connected_reached (mirrored t) c.context word b c.remote c.local c.unopened.reached c.small c.ends) in
    let both = later_moment last since in
    let o = goes_out w rk.0.waits both.0 in
    let x = sent (mirrored t) f word number b a back o.0 w rk.0 in
    let sends_x = sends state.SynSent (mirrored t) f (connected b (mirrored t) word) (can (mirrored t) f word number b a back) w rk.0 o.0 o.2 in
    let waits = waits_then state.SynSent (mirrored t) f (connected b (mirrored t) word) (can (mirrored t) f word number b a back) w rk.0 o.0 (own_stamp state.SynSent (mirrored t) f (connected b (mirrored t) word) (can (mirrored t) f word number b a back) w rk.0 o.0) in
    record {
      first = o.0;
      later = grind (arith, ints, both.1, o.1);
      later_across = grind (arith, ints, both.2, o.1);
      syn = out (mirrored t) f word number b a back o.0 w rk.0;
      across = x;
      sends_syn = sends_x;
      opens = opens_again t f number word a b m p.unopened c.unopened mtu v x rv.0 (sent_so state.SynSent (mirrored t) f (connected b (mirrored t) word) (can (mirrored t) f word number b a back) w rk.0 o.0 (own_stamp state.SynSent (mirrored t) f (connected b (mirrored t) word) (can (mirrored t) f word number b a back) w rk.0 o.0)) rv.1
          (dispatch_reached (told f o.0) w (Some (out (mirrored t) f word number b a back o.0 w rk.0)) x rk.1 sends_x) waits.0 waits.1 o.0;
    }
