-- One side sends all that it has, and then the other.
use Rattle.std.proofs.Common.{◌≡◌, ℕ, zero, suc, ◌<◌, ◌≤◌, ◌⊎◌, inl, inr, refl, sym, ap, subst, ◌∙◌, List, [], ◌∷◌, ◌++◌, length, drop, Option, true, arith, length-drop}
use Rattle.std.specs.Prelude.{◌≤ℤ◌}
use Rattle.std.proofs.lemmas.List.{append-nil}
use Rattle.net_base.specs.declared.time.Duration.{Duration}
use Rattle.net_base.specs.declared.time.Instant.{Instant}
use Rattle.control_wire.specs.declared.seq_number.TcpSeqNumber.{TcpSeqNumber}
use Rattle.sock_core.specs.Bounds.{IsMtu}
use Rattle.sock_core.specs.Facts.{Facts}
use Rattle.sock_tcp.specs.Due.{flight}
use Rattle.sock_tcp.specs.Timers.{is_over}
use Rattle.sock_tcp.specs.View.{View}
use Rattle.sock_tcp.specs.Window.{next_ack}
use Rattle.sock_tcp.specs.declared.tuple.Tuple.{Tuple}
use Rattle.tcp_laws.proofs.Ordered.{IsOrdered, Row}
use Rattle.tcp_laws.proofs.OrderedCalls.{reached_ordered}
use Rattle.progress_laws.specs.BothWays.{BothComplete, BothInStep, BothWaysComplete, NextTurn, NoTurn, OfThat, OfThis, Turns}
use Rattle.progress_laws.specs.InStep.{ForAnswer, ForKeepAlive, ForNothing, ForProbe, Moves, NoMove, OneMore, Rests}
use Rattle.progress_laws.proofs.Begins.{later_moment, some_or_none}
use Rattle.progress_laws.proofs.Both.{Further, further, measure}
use Rattle.progress_laws.proofs.Sides.{told_some}
use Rattle.progress_laws.proofs.Edges.{same_seq}
use Rattle.progress_laws.proofs.Probes.{no_window}
use Rattle.progress_laws.proofs.Rounds.{joined}
use Rattle.progress_laws.proofs.Speaks.{says_plain, wakes}

-- ---- one way

-- all that v had is taken, read and released
record Emptied (d e : Option Duration) (t s : Tuple) (f : Facts) (at : Instant) (v w : View) (got : List ℕ) (i : BothInStep d e t s v w) : Type 0 where
  end : Instant
  here : View
  across : View
  moves : Moves f at v w got end here across (got ++ drop i.over.taken v.tx_buffer.bytes)
  in_step : BothInStep d e t s here across
  others : drop in_step.back.taken across.tx_buffer.bytes ≡ drop i.back.taken w.tx_buffer.bytes
  fewer : length across.tx_buffer.bytes ≤ length w.tx_buffer.bytes
  sent : length here.tx_buffer.bytes ≡ 0

no_bytes : (l : List ℕ) → length l ≡ 0 → l ≡ []
no_bytes [] e = refl
no_bytes (x ∷ l) e = absurd (omega (arith, e))

module _ (d e : Option Duration) (t s : Tuple) (f : Facts) (mtu : IsMtu f.mtu) (address : f.has_address t.local.addr ≡ true) where
  step : (at : Instant) (v w : View) (got : List ℕ) (i : BothInStep d e t s v w) → 0 < length v.tx_buffer.bytes → Further d e t s f at v w got i
  step at v w got i queue = by i.here.sender.rests (later_moment at (wakes i.here.sender.rests))
    where
      by : (r : Rests v) → (z : Instant) × (at.micros ≤ℤ z.micros) × (is_over (wakes r) z ≡ true) → Further d e t s f at v w got i
      by (ForProbe m delay probes nxt some) z = absurd (omega (arith, i.over.some, no_window d t v f z.0 m delay mtu address i.here.sender probes nxt some z.2))
      by (ForKeepAlive m idle nxt) z = further d e t s f at z.0 z.1 v w got i (says_plain d t v f z.0 mtu address i.here.sender (ForKeepAlive m idle nxt) tt z.2 i.over.some queue)
      by (ForNothing idle nxt some) z = further d e t s f at z.0 z.1 v w got i (says_plain d t v f z.0 mtu address i.here.sender (ForNothing idle nxt some) tt z.2 i.over.some queue)
      by (ForAnswer m again) z = further d e t s f at z.0 z.1 v w got i (says_plain d t v f z.0 mtu address i.here.sender (ForAnswer m again) tt z.2 i.over.some queue)

  done : (at : Instant) (v w : View) (got : List ℕ) (i : BothInStep d e t s v w) → length v.tx_buffer.bytes ≡ 0 → Emptied d e t s f at v w got i
  done at v w got i z = record {
    end = at;
    here = v;
    across = w;
    moves = subst (λ l. Moves f at v w got at v w l) (sym (ap (λ (l : List ℕ). got ++ l) (no_bytes (drop i.over.taken v.tx_buffer.bytes) (omega (arith, z, length-drop i.over.taken v.tx_buffer.bytes))) ∙ append-nil got)) (NoMove at v w got);
    in_step = i;
    others = refl;
    fewer = omega arith;
    sent = z;
  }

  then_rest : (at : Instant) (v w : View) (got : List ℕ) (i : BothInStep d e t s v w) (r : Further d e t s f at v w got i) → Emptied d e t s f r.end r.here r.across r.more r.in_step → Emptied d e t s f at v w got i
  then_rest at v w got i r c = record {
    end = c.end;
    here = c.here;
    across = c.across;
    moves = joined at r.end c.end v w r.here r.across c.here c.across got r.more (got ++ drop i.over.taken v.tx_buffer.bytes) r.moves (subst (λ l. Moves f r.end r.here r.across r.more c.end c.here c.across l) r.whole c.moves);
    in_step = c.in_step;
    others = c.others ∙ r.others;
    fewer = omega (arith, c.fewer, r.fewer);
    sent = c.sent;
  }

  abbrev Empties : ℕ → Type 0
  Empties m = (at : Instant) (v w : View) (got : List ℕ) (i : BothInStep d e t s v w) → measure v i.over.taken ≤ m → Emptied d e t s f at v w got i

  more : (m : ℕ) → Empties m → Empties (suc m)
  more m rest at v w got i few = by (some_or_none (length v.tx_buffer.bytes))
    where
      by : (length v.tx_buffer.bytes ≡ 0) ⊎ (0 < length v.tx_buffer.bytes) → Emptied d e t s f at v w got i
      by (inl z) = done at v w got i z
      by (inr some) = let r = step at v w got i some in then_rest at v w got i r (rest r.end r.here r.across r.more r.in_step (omega (arith, r.less, few)))

  none : Empties zero
  none at v w got i few = done at v w got i (omega (arith, few, i.over.taken_within))

  empty : (m : ℕ) → Empties m
  empty zero at v w got i few = none at v w got i few
  empty (suc m) at v w got i few = more m (empty m) at v w got i few

-- ---- the other way round

-- with an empty queue nothing is in flight
pub nothing_out : (d e : Option Duration) (t s : Tuple) (v w : View) (i : BothInStep d e t s v w) → length v.tx_buffer.bytes ≡ 0 → v.remote_last_seq ≡ next_ack w
nothing_out d e t s v w i z = same_seq v.remote_last_seq (next_ack w) (omega (arith, none, z, i.over.taken_within, ap (λ (m : TcpSeqNumber). m.0) i.over.there, o.una_small, o.nxt_small))
  where
    o : IsOrdered v
    o = reached_ordered v i.here.sender.reached

    none : flight v ≤ length v.tx_buffer.bytes
    none = (subst (λ st. Row st v.timer v.keep_alive (flight v) (length v.tx_buffer.bytes)) i.here.established o.row).1

round_about : (d e : Option Duration) (t s : Tuple) (v w : View) (i : BothInStep d e t s v w) → length v.tx_buffer.bytes ≡ 0 → BothInStep e d s t w v
round_about d e t s v w i z = record { here = i.across; across = i.here; over = i.back; back = i.over; in_reach = omega (arith, ap (λ (m : TcpSeqNumber). m.0) (nothing_out d e t s v w i z), told_some w i.across.room i.across.nothing_held i.across.room_at_least) }

pub this_way : {f : Facts} (at end : Instant) (v w v' w' : View) (got got' back : List ℕ) → Moves f at v w got end v' w' got' → Turns f at v w got back end v' w' got' back
this_way at end v w v' w' got got' back (NoMove _ _ _ _) = NoTurn at v w got back
this_way at end v w v' w' got got' back (OneMore _ now _ _ _ u x _ _ _ more _ l m a) = NextTurn at now end v w u x v' w' got back more back got' back l (OfThis m refl) (this_way now end u x v' w' more got' back a)

pub that_way : {f : Facts} (at end : Instant) (w v w' v' : View) (back back' got : List ℕ) → Moves f at w v back end w' v' back' → Turns f at v w got back end v' w' got back'
that_way at end w v w' v' back back' got (NoMove _ _ _ _) = NoTurn at v w got back
that_way at end w v w' v' back back' got (OneMore _ now _ _ _ u x _ _ _ more _ l m a) = NextTurn at now end v w x u v' w' got back got more got back' l (OfThat m refl) (that_way now end u x w' v' more back' got a)

pub turns_then : {f : Facts} (at mid end : Instant) (v w v1 w1 v2 w2 : View) (got back got1 back1 got2 back2 : List ℕ) → Turns f at v w got back mid v1 w1 got1 back1 → Turns f mid v1 w1 got1 back1 end v2 w2 got2 back2 → Turns f at v w got back end v2 w2 got2 back2
turns_then at mid end v w v1 w1 v2 w2 got back got1 back1 got2 back2 (NoTurn _ _ _ _ _) b = b
turns_then at mid end v w v1 w1 v2 w2 got back got1 back1 got2 back2 (NextTurn _ now _ _ _ u x _ _ _ _ more less _ _ l m a) b = NextTurn at now end v w u x v2 w2 got back more less got2 back2 l m (turns_then now mid end u x v1 w1 v2 w2 more less got1 back1 got2 back2 a b)

-- ---- both

pub both_ways_complete : BothWaysComplete
unfolding round_about
both_ways_complete d e t s f at v w got back mtu here there i =
    first (empty d e t s f mtu here (measure v i.over.taken) at v w got i (omega arith))
  where
    second : (a : Emptied d e t s f at v w got i) → Emptied e d s t f a.end a.across a.here back (round_about d e t s a.here a.across a.in_step a.sent) → BothComplete d e t s f at v w got back i
    second a b = record {
      end = b.end;
      here = b.across;
      across = b.here;
      turns = turns_then at a.end b.end v w a.here a.across b.across b.here got back (got ++ drop i.over.taken v.tx_buffer.bytes) back (got ++ drop i.over.taken v.tx_buffer.bytes) (back ++ drop i.back.taken w.tx_buffer.bytes)
          (this_way at a.end v w a.here a.across got (got ++ drop i.over.taken v.tx_buffer.bytes) back a.moves)
          (that_way a.end b.end a.across a.here b.here b.across back (back ++ drop i.back.taken w.tx_buffer.bytes) (got ++ drop i.over.taken v.tx_buffer.bytes) (subst (λ l. Moves f a.end a.across a.here back b.end b.here b.across (back ++ l)) a.others b.moves));
      sent_here = still_none;
      sent_across = b.sent;
      in_step = b.in_step;
    }
      where
        still_none : length b.across.tx_buffer.bytes ≡ 0
        still_none = omega (arith, b.fewer, a.sent)

    first : Emptied d e t s f at v w got i → BothComplete d e t s f at v w got back i
    first a = second a (empty e d s t f mtu there (measure a.across a.in_step.back.taken) a.end a.across a.here back (round_about d e t s a.here a.across a.in_step a.sent) (omega arith))
