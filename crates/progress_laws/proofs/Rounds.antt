-- One round of two sockets in step, and all of them.
use Rattle.std.proofs.Common.{◌≡◌, ℕ, zero, suc, ◌+◌, ◌-◌, ◌<◌, ◌≤◌, ◌^◌, ◌⊎◌, inl, inr, Bool, true, false, true≢false, refl, sym, ap, subst, ◌∙◌, List, [], ◌∷◌, ◌++◌, length, take, drop, Option, Some, None, is_some, arith, append_assoc, length-drop}
use Rattle.std.specs.Prelude.{◌≤ℤ◌}
use Rattle.std.proofs.lemmas.Int.{ints}
use Rattle.std.proofs.lemmas.List.{append-nil, take-append-drop}
use Rattle.net_base.specs.declared.time.Duration.{Duration}
use Rattle.net_base.specs.declared.time.Instant.{Instant}
use Rattle.ip_wire.specs.declared.repr.IpRepr.{IpRepr}
use Rattle.control_wire.specs.Segment.{Segment}
use Rattle.control_wire.specs.Seq.{seq_add, seq_sub}
use Rattle.control_wire.specs.declared.seq_number.TcpSeqNumber.{TcpSeqNumber}
use Rattle.sock_core.specs.Bounds.{IsMtu}
use Rattle.sock_core.specs.Facts.{Facts}
use Rattle.sock_tcp.specs.Content.{Sending}
use Rattle.sock_tcp.specs.Polls.{delay_poll, is_reached}
use Rattle.progress_laws.specs.Smoltcp.{processed}
use Rattle.sock_tcp.specs.Queue.{Queue}
use Rattle.sock_tcp.specs.Queues.{may_send, read_off}
use Rattle.sock_tcp.specs.Replies.{ack_kept, ack_segment, reply_ip}
use Rattle.sock_tcp.specs.Steps.{scale_of}
use Rattle.sock_tcp.specs.Timers.{is_keep_alive_over, is_over}
use Rattle.sock_tcp.specs.View.{View}
use Rattle.sock_tcp.specs.Window.{is_inside, next_ack, receive_window}
use Rattle.sock_tcp.specs.declared.timer.AckDelayTimer.{AckDelayTimer}
use Rattle.sock_tcp.specs.declared.timer.AckDelayTimer.TheVariants as ack_delay
use Rattle.sock_tcp.specs.declared.timer.Timer.TheVariants as timer
use Rattle.sock_tcp.specs.declared.tuple.Tuple.{Tuple}
use Rattle.tcp_laws.proofs.OrderedCalls.{reached_ordered}
use Rattle.progress_laws.specs.Speech.{DispatchesOk}
use Rattle.progress_laws.specs.InStep.{Carries, CarriesBack, Completes, ForAnswer, ForKeepAlive, ForNothing, ForProbe, GoesAstray, InStep, IsAnswered, IsLost, Moves, NoMove, OneMore, OneWayCompletes, Reads, Rests, told}
use Rattle.progress_laws.proofs.Stamped.{stamped_ack, answer_stamp, ack_stamped}
use Rattle.progress_laws.proofs.Begins.{later_moment, some_or_none}
use Rattle.progress_laws.proofs.Edges.{same_seq}
use Rattle.progress_laws.proofs.Owed.{acknowledges, after, kept_out, late_then, next_is, not_over_then, out_of, renewed, renews, still_owes, tells}
use Rattle.progress_laws.proofs.Receives.{NewPart, Owes, Tells, answers, fresh_length, new_part, old_away, owes, room_for, shut_away, takes, took, took_bytes}
use Rattle.progress_laws.proofs.Speaks.{FallsSilent, Speaks, SpeaksBytes, SpeaksNothing, falls_silent, says_bytes, says_nothing, wakes}
use Rattle.progress_laws.proofs.Probes.{no_window, probe_one, probe_unsent, says_probe}
use Rattle.progress_laws.proofs.Told.{heard_view, hears, in_step_again, nothing_new, queue_left, window_told}
use Rattle.progress_laws.proofs.Taking.{read_out}

-- ---- one round

-- a moment at which an acknowledgement may wait no longer
late_moment : (a : Instant) (t : AckDelayTimer) → (z : Instant) × (a.micros ≤ℤ z.micros) × (is_reached (delay_poll t) z ≡ true)
late_moment a (ack_delay.Waiting at) = later_moment a at
late_moment a ack_delay.Idle = (a, grind (arith, ints), refl)
late_moment a ack_delay.Immediate = (a, grind (arith, ints), refl)

pub joined : {f : Facts} (at mid end : Instant) (v w v1 w1 v2 w2 : View) (got got1 got2 : List ℕ) → Moves f at v w got mid v1 w1 got1 → Moves f mid v1 w1 got1 end v2 w2 got2 → Moves f at v w got end v2 w2 got2
joined at mid end v w v1 w1 v2 w2 got got1 got2 (NoMove _ _ _ _) b = b
joined at mid end v w v1 w1 v2 w2 got got1 got2 (OneMore _ now _ _ _ u x _ _ _ more _ l m a) b = OneMore at now end v w u x v2 w2 got more got2 l m (joined now mid end u x v1 w1 v2 w2 more got1 got2 a b)

-- the receiver, once its acknowledgement may wait no longer and its keep-alive has gone out, if that came first
record Ready (s : Tuple) (f : Facts) (w : View) (room n : ℕ) (x : View) (got : List ℕ) (now : Instant) (y : View) : Type 0 where
  mid : Instant
  end : Instant
  receiver : View
  moves : Moves f now x y got mid x receiver got
  then_late : mid.micros ≤ℤ end.micros
  owes : Owes s w room n receiver
  late : is_reached (delay_poll receiver.ack_delay_timer) end ≡ true
  not_over : is_keep_alive_over receiver.timer end ≡ false

ready : (s : Tuple) (f : Facts) (w : View) (room n : ℕ) (x : View) (got : List ℕ) (now : Instant) (y : View) → f.has_address s.local.addr ≡ true → Owes s w room n y → Ready s f w room n x got now y
ready s f w room n x got now y there o = by (late_moment now y.ack_delay_timer)
  where
    over_or_not : (z : Instant) → now.micros ≤ℤ z.micros → is_reached (delay_poll y.ack_delay_timer) z ≡ true → (b : Bool) → is_keep_alive_over y.timer z ≡ b → Ready s f w room n x got now y
    over_or_not z h late false e = record {
      mid = now;
      end = z;
      receiver = y;
      moves = NoMove now x y got;
      then_late = h;
      owes = o;
      late = late;
      not_over = e;
    }
    over_or_not z h late true e = record {
      mid = z;
      end = z;
      receiver = renewed s w room n y f z there o e;
      moves = OneMore now z z x y x (renewed s w room n y f z there o e) x (renewed s w room n y f z there o e) got got got h (IsLost (kept_out s w room n y f z there o e) (renews s w room n y f z there o e) refl refl) (NoMove z x (renewed s w room n y f z there o e) got);
      then_late = grind (arith, ints);
      owes = still_owes s w room n y f z there o e;
      late = late_then s w room n y f z there o e;
      not_over = not_over_then s w room n y f z there o e;
    }

    by : (z : Instant) × (now.micros ≤ℤ z.micros) × (is_reached (delay_poll y.ack_delay_timer) z ≡ true) → Ready s f w room n x got now y
    by l = over_or_not l.0 l.1 l.2 (is_keep_alive_over y.timer l.0) refl

-- what was cut off behind j bytes, and the rest
pub cut_and_rest : (j k : ℕ) (l : List ℕ) → j ≤ k → drop j (take k l) ++ drop k l ≡ drop j l
cut_and_rest zero k l h = take-append-drop k l
cut_and_rest (suc j) zero l h = absurd (omega (arith, h))
cut_and_rest (suc j) (suc k) [] h = refl
cut_and_rest (suc j) (suc k) (b ∷ l) h = cut_and_rest j k l (omega (arith, h))

interval : (o : Option Duration) → is_some o ≡ true → (e : Duration) × (o ≡ Some e) × (is_some o ≡ true)
interval None h = absurd (true≢false (sym h))
interval (Some e) h = (e, refl, refl)

-- what the receiver had not taken was read, but for what is left; so many bytes were released, and with a window at least
-- one. The window is known then
record Round (d : Option Duration) (t s : Tuple) (f : Facts) (at : Instant) (v w : View) (got : List ℕ) (i : InStep d t s v w) : Type 0 where
  end : Instant
  sender : View
  receiver : View
  more : List ℕ
  moves : Moves f at v w got end sender receiver more
  in_step : InStep d t s sender receiver
  none_new : in_step.taken ≡ 0
  whole : more ++ sender.tx_buffer.bytes ≡ got ++ drop i.taken v.tx_buffer.bytes
  told_then : 0 < sender.remote_win_len
  count : ℕ
  some : 0 < v.remote_win_len → 0 < count
  left : length sender.tx_buffer.bytes + count ≡ length v.tx_buffer.bytes

module _ (d : Option Duration) (t s : Tuple) (f : Facts) (mtu : IsMtu f.mtu) (here : f.has_address t.local.addr ≡ true) (there : f.has_address s.local.addr ≡ true) where
  module _ (at now : Instant) (since : at.micros ≤ℤ now.micros) (v w : View) (got : List ℕ) (i : InStep d t s v w) where
    w_small : w.local_seq_no.0 < 2 ^ 32
    w_small = let e = ap (λ (m : TcpSeqNumber). m.0) i.back in omega (arith, e)

    v_small : v.local_seq_no.0 < 2 ^ 32
    v_small = (reached_ordered v i.sender.reached).una_small

    edge : (next_ack w).0 ≡ (seq_add v.local_seq_no i.taken).0
    edge = ap (λ (m : TcpSeqNumber). m.0) i.there

    queue_short : length v.tx_buffer.bytes ≤ 2 ^ 30
    queue_short = omega (arith, (reached_ordered v i.sender.reached).room)

    -- what w has is answered, and the answer acknowledges it
    module _ (out : Sending) (x : View) (speaks : Speaks (told f now) v out x) (some : 0 < length out.segment.payload) (away : is_inside (receive_window w) out.segment.seq_number (length out.segment.payload) ≡ false) (near : seq_sub (next_ack w) x.remote_last_seq ≤ 2 ^ 30) (counts : 0 < v.remote_win_len → 0 < i.taken) where
      answered : Round d t s f at v w got i
      unfolding ack_kept
      answered = record {
        end = now;
        sender = v1;
        receiver = ack_kept w;
        more = got;
        moves = OneMore at now now v w v1 (ack_kept w) v1 (ack_kept w) got got got since (IsAnswered out x r (answer_stamp (ack_kept w) out.segment) speaks.dispatch answer.0 (ack_stamped w (ack_kept w) out.segment) (hears d t s v w x (ack_kept w) now ip g i.taken i speaks.waits tells i.taken_within i.there near) refl) (NoMove now v1 (ack_kept w) got);
        in_step = in_step_again d t s v w x (ack_kept w) now ip g i.taken i speaks.waits tells i.taken_within i.there near;
        none_new = nothing_new d t s v w x (ack_kept w) now ip g i.taken i speaks.waits tells i.taken_within i.there near;
        whole = ap (λ (l : List ℕ). got ++ l) queue;
        told_then = window_told d t s v w x (ack_kept w) now ip g i.taken i speaks.waits tells i.taken_within i.there near;
        count = i.taken;
        some = counts;
        left = let e = ap (λ (l : List ℕ). length l) queue in omega (arith, e, length-drop i.taken v.tx_buffer.bytes, i.taken_within);
      }
        where
          r : Segment
          r = ack_segment w out.segment

          g : Segment
          g = stamped_ack w (ack_kept w) out.segment

          ip : IpRepr
          ip = reply_ip out.ip g

          answer : (processed w now 0 out.ip out.segment ≡ record { view = ack_kept w; reply = Some r }) × Tells w (ack_kept w) s r
          answer = answers s w i.receiver now out.ip out.segment w_small speaks.bit (speaks.ack ∙ ap Some (sym i.back)) some away

          tells : Tells w (ack_kept w) s g
          tells = let a = answer.1 in record { receiver = a.receiver; una = a.una; shift = a.shift; bit = a.bit; number = a.number; ack = a.ack; empty = a.empty; some = a.some; window = a.window }

          v1 : View
          v1 = heard_view d t s v w x (ack_kept w) now ip g i.taken i speaks.waits tells i.taken_within i.there near

          queue : v1.tx_buffer.bytes ≡ drop i.taken v.tx_buffer.bytes
          queue = queue_left d t s v w x (ack_kept w) now ip g i.taken i speaks.waits tells i.taken_within i.there near

    -- without a window: a keep-alive and its answer
    asks : (m : Instant) → v.timer ≡ timer.Idle (Some m) → v.remote_last_seq ≡ v.local_seq_no → is_over m now ≡ true → v.remote_win_len ≡ 0 → Round d t s f at v w got i
    asks m idle sent over z =
        let q : SpeaksNothing (told f now) v = says_nothing d t v f now mtu here i.sender m idle sent over z in
        let number = ap (λ (m : TcpSeqNumber). m.0) q.number in
        let nxt = ap (λ (m : TcpSeqNumber). m.0) q.nxt in
        let within = i.taken_within in
        answered q.out q.after q.speaks (omega (arith, q.one)) (old_away s w i.receiver now q.out.ip q.out.segment w_small q.speaks.bit (q.speaks.ack ∙ ap Some (sym i.back)) (omega (arith, q.one)) (omega (arith, number)) (omega (arith, number, edge, v_small, within, queue_short)) (omega (arith, number, edge, v_small, within, queue_short)) (omega (arith, number, q.one, edge, v_small, within, queue_short))) (omega (arith, nxt, edge, v_small, within, queue_short)) (λ h. absurd (omega (arith, h, z)))

    -- with one: bytes
    module _ (p : SpeaksBytes (told f now) v) where
      abbrev n : ℕ
      n = length p.out.segment.payload

      number_is : p.out.segment.seq_number.0 ≡ v.local_seq_no.0
      number_is = ap (λ (m : TcpSeqNumber). m.0) p.number

      nxt : p.after.remote_last_seq.0 ≡ (seq_add v.local_seq_no p.sent).0
      nxt = ap (λ (m : TcpSeqNumber). m.0) p.nxt

      answer_to : p.out.segment.ack_number ≡ Some w.local_seq_no
      answer_to = p.speaks.ack ∙ ap Some (sym i.back)

      -- the window is shut
      shut : seq_sub (receive_window w).end (receive_window w).start ≡ 0 → i.taken ≡ 0 → v.remote_win_len ≡ 0 → p.sent ≡ 0 → Round d t s f at v w got i
      shut z none win unsent = answered p.out p.after p.speaks p.some (shut_away s w i.receiver now p.out.ip p.out.segment w_small p.speaks.bit answer_to p.some z) (omega (arith, nxt, edge, v_small, none, unsent)) (λ h. absurd (omega (arith, h, win)))

      -- all of them were taken before
      old : n ≤ i.taken → Round d t s f at v w got i
      old few = let within = i.taken_within in answered p.out p.after p.speaks p.some (old_away s w i.receiver now p.out.ip p.out.segment w_small p.speaks.bit answer_to p.some (omega (arith, number_is, v_small)) (omega (arith, number_is, edge, v_small, within, queue_short, few, p.some)) (omega (arith, number_is, edge, v_small, within, queue_short)) (omega (arith, number_is, edge, v_small, within, queue_short, few))) (omega (arith, nxt, edge, v_small, within, queue_short, few, p.sent_within)) (λ h. omega (arith, few, p.some))

      -- some are new, and are read and acknowledged
      brings : i.taken < n → n ≤ i.taken + seq_sub (receive_window w).end (receive_window w).start → Round d t s f at v w got i
      brings new room_there = record {
        end = z;
        sender = v3;
        receiver = w3;
        more = more;
        moves =
            OneMore at now z v w p.after w1 v3 w3 got got more since (Carries p.out p.speaks.dispatch took_so refl)
            (OneMore now now z p.after w1 p.after w2 v3 w3 got more more (grind (arith, ints)) (Reads (length fresh) (omega (arith, ap (λ (l : List ℕ). length l) bytes)) refl refl (ap (λ (l : List ℕ). got ++ l) (sym (read_out w1.rx_buffer fresh bytes))))
            (joined now r.mid z p.after w2 p.after r.receiver v3 w3 more more more r.moves (OneMore r.mid z z p.after r.receiver v3 w3 v3 w3 more more more r.then_late (CarriesBack o back (hears d t s v w p.after w3 z o.ip o.segment n i p.speaks.waits told_so p.queued taken near) refl) (NoMove z v3 w3 more))));
        in_step = in_step_again d t s v w p.after w3 z o.ip o.segment n i p.speaks.waits told_so p.queued taken near;
        none_new = nothing_new d t s v w p.after w3 z o.ip o.segment n i p.speaks.waits told_so p.queued taken near;
        whole = ap (λ (l : List ℕ). more ++ l) queue ∙ append_assoc got fresh (drop n v.tx_buffer.bytes) ∙ ap (λ (l : List ℕ). got ++ (drop i.taken l ++ drop n v.tx_buffer.bytes)) p.first ∙ ap (λ (l : List ℕ). got ++ l) (cut_and_rest i.taken n v.tx_buffer.bytes (omega (arith, new)));
        told_then = window_told d t s v w p.after w3 z o.ip o.segment n i p.speaks.waits told_so p.queued taken near;
        count = n;
        some = λ h. p.some;
        left = let e = ap (λ (l : List ℕ). length l) queue in omega (arith, e, length-drop n v.tx_buffer.bytes, p.queued);
      }
        where
          m : ℕ
          m = n - i.taken

          ack : p.out.segment.ack_number ≡ Some w.local_seq_no
          ack = p.speaks.ack ∙ ap Some (sym i.back)

          np : NewPart w p.out.segment i.taken m
          np = new_part w p.out.segment v.local_seq_no i.taken (length v.tx_buffer.bytes) number_is edge v_small i.taken_within p.queued queue_short new room_there

          fresh : List ℕ
          fresh = drop i.taken p.out.segment.payload

          fresh_is : length fresh ≡ m
          fresh_is = fresh_length s w i.receiver now p.out.ip p.out.segment w_small p.speaks.bit ack i.taken m np

          more : List ℕ
          more = got ++ fresh

          w1 : View
          w1 = took s w i.receiver now p.out.ip p.out.segment w_small p.speaks.bit ack i.taken m np

          took_so : processed w now 0 p.out.ip p.out.segment ≡ record { view = w1; reply = None }
          took_so = takes s w i.receiver now p.out.ip p.out.segment w_small p.speaks.bit ack i.taken m np

          bytes : w1.rx_buffer.bytes ≡ fresh
          bytes = took_bytes s w i.receiver now p.out.ip p.out.segment w_small p.speaks.bit ack i.taken m np

          w2 : View
          w2 = read_off w1 (length fresh)

          owing : Owes s w i.receiver.room (length fresh) w2
          owing = owes s w i.receiver now p.out.ip p.out.segment w_small p.speaks.bit ack i.taken m np

          any : 0 < length fresh
          any = omega (arith, fresh_is, np.some)

          room : length fresh ≤ i.receiver.room
          room = omega (arith, fresh_is, room_for s w i.receiver m np.fits)

          r : Ready s f w i.receiver.room (length fresh) p.after more now w2
          r = ready s f w i.receiver.room (length fresh) p.after more now w2 there owing

          z : Instant
          z = r.end

          o : Sending
          o = out_of s w i.receiver.room (length fresh) r.receiver f z there r.owes any room i.receiver.room_at_most i.receiver.room_at_least w_small r.late r.not_over

          w3 : View
          w3 = after s w i.receiver.room (length fresh) r.receiver f z there r.owes any room i.receiver.room_at_most i.receiver.room_at_least w_small r.late r.not_over

          back : DispatchesOk (told f z) r.receiver (Some o) w3
          back = acknowledges s w i.receiver.room (length fresh) r.receiver f z there r.owes any room i.receiver.room_at_most i.receiver.room_at_least w_small r.late r.not_over

          told_so : Tells w w3 s o.segment
          told_so = tells s w i.receiver.room (length fresh) r.receiver f z there r.owes any room i.receiver.room_at_most i.receiver.room_at_least w_small r.late r.not_over

          next : next_ack w3 ≡ next_ack r.receiver
          next = next_is s w i.receiver.room (length fresh) r.receiver f z there r.owes any room i.receiver.room_at_most i.receiver.room_at_least w_small r.late r.not_over

          taken : next_ack w3 ≡ seq_add v.local_seq_no n
          taken = next ∙ same_seq (next_ack r.receiver) (seq_add v.local_seq_no n) (omega (arith, r.owes.next, edge, fresh_is, np.long, v_small))

          near : seq_sub (next_ack w3) p.after.remote_last_seq ≤ 2 ^ 30
          near = let e = ap (λ (m : TcpSeqNumber). m.0) taken in omega (arith, e, nxt, p.sent_within, p.queued, queue_short, v_small)

          v3 : View
          v3 = heard_view d t s v w p.after w3 z o.ip o.segment n i p.speaks.waits told_so p.queued taken near

          queue : v3.tx_buffer.bytes ≡ drop n v.tx_buffer.bytes
          queue = queue_left d t s v w p.after w3 z o.ip o.segment n i p.speaks.waits told_so p.queued taken near

  -- without a window, and with whatever is in flight: what waits is given up, and a keep-alive comes next
  module _ (at now : Instant) (since : at.micros ≤ℤ now.micros) (v w : View) (got : List ℕ) (i : InStep d t s v w) (q : FallsSilent (told f now) v) (z : v.remote_win_len ≡ 0) (keeps : is_some d ≡ true) where
    still : InStep d t s q.after w
    still = record {
      sender = record {
        reached = q.waits.reached;
        state = ap may_send q.waits.same.state ∙ i.sender.state;
        peer = q.waits.same.peer ∙ i.sender.peer;
        no_timeout = q.waits.same.timeout ∙ i.sender.no_timeout;
        smoltcp = q.waits.same.same_rules ∙ i.sender.smoltcp;
        keep_alive = q.waits.same.keep_alive ∙ i.sender.keep_alive;
        nothing_marked = q.waits.nothing_marked;
        rests = ForKeepAlive q.moment q.timer q.nxt;
      };
      receiver = i.receiver;
      taken = i.taken;
      taken_within = subst (λ (b : Queue). i.taken ≤ length b.bytes) (sym q.waits.same.tx) i.taken_within;
      there = i.there ∙ ap (λ m. seq_add m i.taken) (sym q.waits.same.una);
      back = i.back ∙ sym (λ j. seq_add (q.waits.same.rcv j) (length ((q.waits.same.rx j).bytes)));
      scale = ap scale_of q.waits.same.scale ∙ i.scale;
      window = subst (λ n. n ≤ i.taken + seq_sub (receive_window w).end (receive_window w).start) (sym q.window) i.window;
      not_last = λ at e. inr keeps;
    }

    next : (z : Instant) × (now.micros ≤ℤ z.micros) × (is_over q.moment z ≡ true)
    next = later_moment now q.moment

    then_asks : Round d t s f at v w got i
    unfolding still
    then_asks =
        let r : Round d t s f now q.after w got still = asks now next.0 next.1 q.after w got still q.moment q.timer q.nxt next.2 (q.window ∙ z) in
        record {
          end = r.end;
          sender = r.sender;
          receiver = r.receiver;
          more = r.more;
          moves = OneMore at now r.end v w q.after w r.sender r.receiver got got r.more since (GoesAstray q.out q.dispatch refl refl) r.moves;
          in_step = r.in_step;
          none_new = r.none_new;
          whole = r.whole ∙ ap (λ (b : Queue). got ++ drop i.taken b.bytes) q.waits.same.tx;
          told_then = r.told_then;
          count = r.count;
          some = λ h. absurd (omega (arith, h, z));
          left = r.left ∙ ap (λ (b : Queue). length b.bytes) q.waits.same.tx;
        }

  kept : {n : ℕ} → (0 < n) ⊎ (is_some d ≡ true) → n ≡ 0 → is_some d ≡ true
  kept (inl some) z = absurd (omega (arith, some, z))
  kept (inr keeps) z = keeps

  round : (at : Instant) (v w : View) (got : List ℕ) (i : InStep d t s v w) → 0 < length v.tx_buffer.bytes → Round d t s f at v w got i
  round at v w got i queue = by (some_or_none v.remote_win_len) i.sender.rests (later_moment at (wakes i.sender.rests))
    where
      known_room : (now : Instant) (p : SpeaksBytes (told f now) v) → 0 < v.remote_win_len → length p.out.segment.payload ≤ i.taken + seq_sub (receive_window w).end (receive_window w).start
      known_room now p win = by_within p.within
        where
          by_within : (length p.out.segment.payload ≤ v.remote_win_len) ⊎ (length p.out.segment.payload ≡ 1) → length p.out.segment.payload ≤ i.taken + seq_sub (receive_window w).end (receive_window w).start
          by_within (inl h) = omega (arith, h, i.window)
          by_within (inr h) = omega (arith, h, win, i.window)

      -- bytes within the window that the sender knows
      goes : (now : Instant) → at.micros ≤ℤ now.micros → (p : SpeaksBytes (told f now) v) → length p.out.segment.payload ≤ i.taken + seq_sub (receive_window w).end (receive_window w).start → Round d t s f at v w got i
      goes now since p fits = elim (some_or_none (length p.out.segment.payload - i.taken)) [
        | inl none ↦ old at now since v w got i p (omega (arith, none))
        | inr new ↦ brings at now since v w got i p (omega (arith, new)) fits
      ]

      -- a probe
      probes : (now : Instant) → at.micros ≤ℤ now.micros → (p : SpeaksBytes (told f now) v) → p.sent ≡ 0 → length p.out.segment.payload ≡ 1 → v.remote_win_len ≡ 0 → Round d t s f at v w got i
      probes now since p unsent one z = elim (some_or_none (i.taken + seq_sub (receive_window w).end (receive_window w).start)) [
        | inl none ↦ shut at now since v w got i p (omega (arith, none)) (omega (arith, none)) z unsent
        | inr some ↦ goes now since p (omega (arith, some, one))
      ]

      by : (v.remote_win_len ≡ 0) ⊎ (0 < v.remote_win_len) → (r : Rests v) → (z : Instant) × (at.micros ≤ℤ z.micros) × (is_over (wakes r) z ≡ true) → Round d t s f at v w got i
      by (inl none) (ForKeepAlive m idle nxt) z = asks at z.0 z.1 v w got i m idle nxt z.2 none
      by (inl none) (ForAnswer m again) z = let k : (e : Duration) × (d ≡ Some e) × (is_some d ≡ true) = interval d (kept (i.not_last m again) none) in then_asks at z.0 z.1 v w got i (falls_silent d t v f z.0 mtu here i.sender k.0 (i.sender.keep_alive ∙ k.1) (ForAnswer m again) tt z.2 none) none k.2
      by (inl none) (ForProbe m delay waits nxt some) z = probes z.0 z.1 (says_probe d t v f z.0 m delay mtu here i.sender waits nxt some z.2) (probe_unsent d t v f z.0 m delay mtu here i.sender waits nxt some z.2) (probe_one d t v f z.0 m delay mtu here i.sender waits nxt some z.2) none
      by (inl none) (ForNothing idle nxt some) z = absurd (omega (arith, none, some))
      by (inr win) (ForNothing idle nxt some) z = let p : SpeaksBytes (told f z.0) v = says_bytes d t v f z.0 mtu here i.sender (ForNothing idle nxt some) tt z.2 win queue in goes z.0 z.1 p (known_room z.0 p win)
      by (inr win) (ForProbe m delay waits nxt some) z = absurd (omega (arith, win, no_window d t v f z.0 m delay mtu here i.sender waits nxt some z.2))
      by (inr win) (ForKeepAlive m idle nxt) z = let p : SpeaksBytes (told f z.0) v = says_bytes d t v f z.0 mtu here i.sender (ForKeepAlive m idle nxt) tt z.2 win queue in goes z.0 z.1 p (known_room z.0 p win)
      by (inr win) (ForAnswer m again) z = let p : SpeaksBytes (told f z.0) v = says_bytes d t v f z.0 mtu here i.sender (ForAnswer m again) tt z.2 win queue in goes z.0 z.1 p (known_room z.0 p win)

  -- ---- all of them

  module _ (at : Instant) (v w : View) (got : List ℕ) (i : InStep d t s v w) where
    -- nothing is left
    done : length v.tx_buffer.bytes ≡ 0 → Completes d t s f at v w got i
    done z = record {
      end = at;
      sender = v;
      receiver = w;
      moves = subst (λ l. Moves f at v w got at v w l) (sym (ap (λ (l : List ℕ). got ++ l) (no_bytes (drop i.taken v.tx_buffer.bytes) (omega (arith, z, length-drop i.taken v.tx_buffer.bytes))) ∙ append-nil got)) (NoMove at v w got);
      sent = z;
      in_step = i;
    }
      where
        no_bytes : (l : List ℕ) → length l ≡ 0 → l ≡ []
        no_bytes [] e = refl
        no_bytes (x ∷ l) e = absurd (omega (arith, e))

    -- after a round the rest
    then_rest : (r : Round d t s f at v w got i) → Completes d t s f r.end r.sender r.receiver r.more r.in_step → Completes d t s f at v w got i
    then_rest r c = record {
      end = c.end;
      sender = c.sender;
      receiver = c.receiver;
      moves = joined at r.end c.end v w r.sender r.receiver c.sender c.receiver got r.more (got ++ drop i.taken v.tx_buffer.bytes) r.moves (subst (λ l. Moves f r.end r.sender r.receiver r.more c.end c.sender c.receiver l) whole c.moves);
      sent = c.sent;
      in_step = c.in_step;
    }
      where
        whole : r.more ++ drop r.in_step.taken r.sender.tx_buffer.bytes ≡ got ++ drop i.taken v.tx_buffer.bytes
        whole = ap (λ j. r.more ++ drop j r.sender.tx_buffer.bytes) r.none_new ∙ r.whole

  -- all that is left after a round that brought something goes over, where fewer bytes do
  abbrev Rest : ℕ → Type 0
  Rest m = (at : Instant) (v w : View) (got : List ℕ) → length v.tx_buffer.bytes ≤ m → (i : InStep d t s v w) → Completes d t s f at v w got i

  less : (m : ℕ) → Rest m → (at : Instant) (v w : View) (got : List ℕ) (i : InStep d t s v w) (r : Round d t s f at v w got i) → length v.tx_buffer.bytes ≤ suc m → 0 < r.count → Completes d t s f at v w got i
  less m rest at v w got i r few some = then_rest at v w got i r (rest r.end r.sender r.receiver r.more (omega (arith, few, some, r.left)) r.in_step)

  -- a round that brought nothing told a window, and the next one brings something
  twice : (m : ℕ) → Rest m → (at : Instant) (v w : View) (got : List ℕ) (i : InStep d t s v w) (r : Round d t s f at v w got i) → length v.tx_buffer.bytes ≤ suc m → r.count ≡ 0 → 0 < length v.tx_buffer.bytes → Completes d t s f at v w got i
  twice m rest at v w got i r few none some =
      let q = round r.end r.sender r.receiver r.more r.in_step (omega (arith, none, r.left, some)) in
      then_rest at v w got i r (less m rest r.end r.sender r.receiver r.more r.in_step q (omega (arith, r.left, few)) (q.some r.told_then))

  more : (m : ℕ) → Rest m → Rest (suc m)
  more m rest at v w got few i = by (some_or_none (length v.tx_buffer.bytes))
    where
      count : (r : Round d t s f at v w got i) → 0 < length v.tx_buffer.bytes → (r.count ≡ 0) ⊎ (0 < r.count) → Completes d t s f at v w got i
      count r any (inl none) = twice m rest at v w got i r few none any
      count r any (inr brought) = less m rest at v w got i r few brought

      by : (length v.tx_buffer.bytes ≡ 0) ⊎ (0 < length v.tx_buffer.bytes) → Completes d t s f at v w got i
      by (inl z) = done at v w got i z
      by (inr any) = let r = round at v w got i any in count r any (some_or_none r.count)

  complete : (m : ℕ) → Rest m
  complete zero at v w got few i = done at v w got i (omega (arith, few))
  complete (suc m) at v w got few i = more m (complete m) at v w got few i

pub one_way_completes : OneWayCompletes
one_way_completes d t s f at v w got mtu here there i = complete d t s f mtu here there (length v.tx_buffer.bytes) at v w got (omega arith) i
