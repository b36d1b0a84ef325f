-- A speaker comes to say something, after at most one dispatch that is lost; and what it says reaches the taker.
use Rattle.std.proofs.Common.{◌≡◌, ℕ, ◌<◌, ◌⊎◌, inl, inr, true, false, true≢false, refl, sym, ap, subst, ◌∙◌, List, length, Option, Some, None, arith}
use Rattle.std.specs.Prelude.{◌≤ℤ◌}
use Rattle.std.proofs.lemmas.Int.{ints}
use Rattle.std.proofs.lemmas.Option.{none-some}
use Rattle.net_base.specs.declared.time.Duration.{Duration}
use Rattle.net_base.specs.declared.time.Instant.{Instant}
use Rattle.sock_core.specs.Bounds.{IsMtu}
use Rattle.sock_core.specs.Facts.{Facts}
use Rattle.sock_core.specs.declared.context.PollAt.TheVariants as poll
use Rattle.sock_tcp.specs.Content.{Sending, carries_data}
use Rattle.sock_tcp.specs.Due.{flight, is_closing}
use Rattle.sock_tcp.specs.Polls.{is_reached, timer_poll}
use Rattle.sock_tcp.specs.Queue.{Queue}
use Rattle.sock_tcp.specs.Timers.{is_keep_alive_over, is_over}
use Rattle.sock_tcp.specs.View.{View}
use Rattle.sock_tcp.specs.declared.state.State.{State}
use Rattle.sock_tcp.specs.declared.state.State.TheVariants as state
use Rattle.sock_tcp.specs.declared.timer.Timer.{Timer}
use Rattle.sock_tcp.specs.declared.timer.Timer.TheVariants as timer
use Rattle.sock_tcp.specs.declared.tuple.Tuple.{Tuple}
use Rattle.tcp_laws.specs.Waking.{HasToSend}
use Rattle.tcp_laws.proofs.Ordered.{HasMoment, Row}
use Rattle.tcp_laws.proofs.OrderedCalls.{reached_ordered}
use Rattle.progress_laws.specs.Agreement.{Exchanges, ForAnswer, ForKeepAlive, ForProbe, ForRepeat, IsMove, IsSpeaker, NextOne, NoMore, Waits}
use Rattle.progress_laws.specs.InStep.{GoesAstray, told}
use Rattle.progress_laws.specs.Speech.{DispatchesOk, GoesOn}
use Rattle.progress_laws.proofs.Agrees.{left_speaks}
use Rattle.progress_laws.proofs.Begins.{Same, dispatch_reached, later_moment}
use Rattle.progress_laws.proofs.Talks.{AsksOnly, Call, Left, Says, Silent, StartsAtUna, calls, goes_on}

pub onward : {f : Facts} (at mid end : Instant) (v w v1 w1 v2 w2 : View) (got got1 got2 : List ℕ) → Exchanges f at v w got mid v1 w1 got1 → Exchanges f mid v1 w1 got1 end v2 w2 got2 → Exchanges f at v w got end v2 w2 got2
onward at mid end v w v1 w1 v2 w2 got got1 got2 (NoMore _ _ _ _) b = b
onward at mid end v w v1 w1 v2 w2 got got1 got2 (NextOne _ now _ _ _ u x _ _ _ more _ l m a) b = NextOne at now end v w u x v2 w2 got more got2 l m (onward now mid end u x v1 w1 v2 w2 more got1 got2 a b)

-- ---- the moment for which it waits

row_moment : (st : State) (t : Timer) (keep : Option Duration) (m n : ℕ) → carries_data st ≡ true → Row st t keep m n → HasMoment t keep
row_moment state.Established t keep m n e r = r.0
row_moment state.CloseWait t keep m n e r = r.0
row_moment state.FinWait1 t keep m n e r = r.0
row_moment state.Closing t keep m n e r = r.0
row_moment state.LastAck t keep m n e r = r.0
row_moment _ t keep m n e r = absurd cc

wakes : (d : Duration) (t : Tuple) (v : View) (at : Instant) → IsSpeaker d t v → (z : Instant) × (at.micros ≤ℤ z.micros) × (is_reached (timer_poll v.timer) z ≡ true)
wakes d t v at s = by s.waits
  where
    to : (m : Instant) → timer_poll v.timer ≡ poll.Time m → (z : Instant) × (at.micros ≤ℤ z.micros) × (is_reached (timer_poll v.timer) z ≡ true)
    to m e = let l : (z : Instant) × (at.micros ≤ℤ z.micros) × (is_over m z ≡ true) = later_moment at m in (l.0, l.1, ap (λ p. is_reached p l.0) e ∙ l.2)

    by : Waits v → (z : Instant) × (at.micros ≤ℤ z.micros) × (is_reached (timer_poll v.timer) z ≡ true)
    by (ForAnswer m e) = to m (ap timer_poll e)
    by (ForRepeat e) = (at, grind (arith, ints), ap (λ tm. is_reached (timer_poll tm) at) e)
    by (ForKeepAlive None e front) = absurd (none-some d (sym (subst (λ tm. HasMoment tm v.keep_alive) e (row_moment v.state v.timer v.keep_alive (flight v) (length v.tx_buffer.bytes) s.carries (reached_ordered v s.reached).row)) ∙ s.keep_alive))
    by (ForKeepAlive (Some m) e front) = to m (ap timer_poll e)
    by (ForProbe m delay e front) = to m (ap timer_poll e)

-- ---- it says something

-- after the dispatches before, if any, x says out, and becomes u
pub record Utters (d : Duration) (t : Tuple) (f : Facts) (at bound : Instant) (v w : View) (got : List ℕ) : Type 0 where
  pub mid : Instant
  pub sender : View
  pub before : Exchanges f at v w got mid sender w got
  pub earlier : Left v sender
  pub speaker : IsSpeaker d t sender
  pub now : Instant
  pub since : mid.micros ≤ℤ now.micros
  pub long_since : bound.micros ≤ℤ now.micros
  pub out : Sending
  pub after : View
  pub on : GoesOn sender t (told f now)
  pub dispatch : DispatchesOk (told f now) sender (Some out) after
  pub said : StartsAtUna sender out ⊎ AsksOnly sender out
  pub left : Left sender after
  pub waits : Waits after

module _ (d : Duration) (t : Tuple) (f : Facts) (mtu : IsMtu f.mtu) (here : f.has_address t.local.addr ≡ true) (at bound : Instant) (later : at.micros ≤ℤ bound.micros) (v w : View) (got : List ℕ) where
  pub utters : IsSpeaker d t v → HasToSend v → Utters d t f at bound v w got
  utters s work = first (wakes d t v bound s)
    where
      again : (u : View) → Same v u → HasToSend v → HasToSend u
      again u s (inl some) = inl (subst (λ (q : Queue). 0 < length q.bytes) (sym s.tx) some)
      again u s (inr c) = inr (ap is_closing s.state ∙ c)

      second : (z : Instant) → bound.micros ≤ℤ z.micros → (u : View) (out : Option Sending) → DispatchesOk (told f z) v out u → (l : Left v u) → (m : Instant) → u.timer ≡ timer.Idle (Some m) → (q : IsSpeaker d t u) → (y : Instant) × (z.micros ≤ℤ y.micros) × (is_reached (timer_poll u.timer) y ≡ true) → Utters d t f at bound v w got
      second z since u out disp l m idle q y = by (calls d t f u y.0 mtu here q y.2 (again u l.same work))
        where
          by : Call (told f y.0) u y.0 → Utters d t f at bound v w got
          by (Says out' u' disp' said left waits) = record {
            mid = z;
            sender = u;
            before = NextOne at z z v w u w u w got got got (grind (arith, ints, since, later)) (IsMove (GoesAstray out disp refl refl)) (NoMore z u w got);
            earlier = l;
            speaker = q;
            now = y.0;
            since = y.1;
            long_since = let a = y.1 in grind (arith, ints, since, a);
            out = out';
            after = u';
            on = goes_on d t f u y.0 mtu here q y.2;
            dispatch = disp';
            said = said;
            left = left;
            waits = waits;
          }
          by (Silent out' u' disp' left m' idle' front quiet) = absurd (true≢false (sym (subst (λ tm. is_reached (timer_poll tm) y.0 ≡ true) idle y.2) ∙ subst (λ tm. is_keep_alive_over tm y.0 ≡ false) idle quiet))

      first : (z : Instant) × (bound.micros ≤ℤ z.micros) × (is_reached (timer_poll v.timer) z ≡ true) → Utters d t f at bound v w got
      first z = by (calls d t f v z.0 mtu here s z.2 work)
        where
          by : Call (told f z.0) v z.0 → Utters d t f at bound v w got
          by (Says out u disp said left waits) = record {
            mid = at;
            sender = v;
            before = NoMore at v w got;
            earlier = record { same = record { state = refl; peer = refl; timeout = refl; same_rules = refl; keep_alive = refl; una = refl; tx = refl; rx = refl; rcv = refl; window = refl; scale = refl; shift = refl; paused = refl }; told = inl (record { last_ack = refl; last_win = refl }) };
            speaker = s;
            now = z.0;
            since = let a = z.1 in grind (arith, ints, a, later);
            long_since = z.1;
            out = out;
            after = u;
            on = goes_on d t f v z.0 mtu here s z.2;
            dispatch = disp;
            said = said;
            left = left;
            waits = waits;
          }
          by (Silent out u disp left m idle front quiet) =
              let q : IsSpeaker d t u = left_speaks d t v u s left (dispatch_reached (told f z.0) v out u s.reached disp) (ForKeepAlive (Some m) idle front) in
              second z.0 z.1 u out disp left m idle q (wakes d t u z.0 q)
