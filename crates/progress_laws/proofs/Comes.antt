-- What a speaker says reaches the taker: something joins its queue, or its FIN is counted, or it is answered.
use Rattle.std.proofs.Common.{◌≡◌, ℕ, ◌+◌, ◌<◌, ◌≤◌, ◌^◌, ◌⊎◌, inl, inr, Bool, true, false, refl, sym, ap, subst, ◌∙◌, List, [], ◌∷◌, ◌++◌, length, drop, Option, Some, None, arith, append_assoc, length-drop, ◌/◌, min}
use Rattle.std.specs.Prelude.{Err, if◌then◌else◌, not, ◌==◌, Ok}
use Rattle.std.proofs.lemmas.Int.{ints}
use Rattle.std.proofs.lemmas.List.{append-nil, drop_all}
use Rattle.net_base.specs.declared.time.Duration.{Duration}
use Rattle.net_base.specs.declared.time.Instant.{Instant}
use Rattle.control_wire.specs.Segment.{Segment}
use Rattle.control_wire.specs.Seq.{seq_add, seq_minus}
use Rattle.control_wire.specs.declared.seq_number.TcpSeqNumber.{TcpSeqNumber}
use Rattle.sock_core.specs.Facts.{Facts}
use Rattle.sock_core.specs.Received.{handed_out}
use Rattle.sock_tcp.specs.Due.{is_closing}
use Rattle.sock_tcp.specs.Rfc.OwnWindow.{space_field}
use Rattle.sock_tcp.specs.Process.{Outcome, ack_sent}
use Rattle.progress_laws.specs.Smoltcp.{processed}
use Rattle.sock_tcp.specs.Queue.{Queue}
use Rattle.sock_tcp.specs.Queues.{may_recv, read_off, receives, recv_check}
use Rattle.sock_tcp.specs.Replies.{ack_kept, ack_segment, reply_ip}
use Rattle.sock_tcp.specs.View.{View}
use Rattle.sock_tcp.specs.Window.{next_ack}
use Rattle.sock_tcp.specs.declared.error.RecvError.TheVariants as recv_error
use Rattle.sock_tcp.specs.declared.state.State.TheVariants as states
use Rattle.sock_tcp.specs.declared.tuple.Tuple.{Tuple}
use Rattle.tcp_laws.specs.Polling.{IsReached}
use Rattle.tcp_laws.proofs.OrderedCalls.{reached_ordered}
use Rattle.progress_laws.specs.Agreement.{Agreement, AnswerIsLost, Exchange, Exchanges, ForAnswer, ForKeepAlive, ForProbe, ForRepeat, InReach, IsMove, IsSpeaker, NextOne, NoMore, Waits}
use Rattle.progress_laws.specs.Delivery.{HasSaid, has_counted}
use Rattle.progress_laws.specs.InStep.{Carries, IsAnswered, Reads, told}
use Rattle.progress_laws.specs.ShutWindows.{width}
use Rattle.progress_laws.specs.Speech.{FromUna, KeepsAlive, Speech}
use Rattle.progress_laws.proofs.Stamped.{stamped_ack, answer_stamp, ack_stamped}
use Rattle.progress_laws.proofs.Agrees.{later_reach, left_reach, left_speaks, reach_kept, answers_agree, answers_open, hears, hears_agrees, left_agrees, nothing_left, queue_left, reads_agree, same_rx, same_shift, same_state, then_heard, width_small, window_open}
use Rattle.progress_laws.proofs.Arrives.{away, before_window, reads_reached}
use Rattle.progress_laws.proofs.Begins.{dispatch_reached, not_zero, some_or_none}
use Rattle.progress_laws.proofs.Delivers.{Arrived, CountsFin, IsAnswered as Answers, Joins, arrives}
use Rattle.progress_laws.proofs.Edges.{same_seq}
use Rattle.progress_laws.proofs.Spoken.{ack, bit, field, fin_ends, fin_of_closing, first_bytes}
use Rattle.progress_laws.proofs.Taken.{FromFront, SpeaksOn, Stopped, faces_so}
use Rattle.progress_laws.proofs.Taking.{take_all}
use Rattle.progress_laws.proofs.Talks.{AsksOnly, StartsAtUna}
use Rattle.tcp_laws.proofs.Scaled.{unit_fits}
use Rattle.progress_laws.proofs.Utters.{Utters, onward}
use Rattle.progress_laws.proofs.Sends.{smoltcp_field}

may : (w : View) → 0 < length w.rx_buffer.bytes → may_recv w ≡ true
may w some = by (receives w.state)
  where
    by : (b : Bool) → (if b then true else not (length w.rx_buffer.bytes == 0)) ≡ true
    by true = refl
    by false = rw (not_zero (length w.rx_buffer.bytes) some) refl

-- ---- what comes of it

-- they agree again, all that came was read, and nothing of either stream is lost
pub record Onward (d : Duration) (t : Tuple) (f : Facts) (at : Instant) (v w : View) (got : List ℕ) (n h : ℕ) : Type 0 where
  pub end : Instant
  pub sender : View
  pub receiver : View
  pub more : List ℕ
  pub taken : ℕ
  pub heard : ℕ
  pub exchanges : Exchanges f at v w got end sender receiver more
  pub agrees : Agreement d t sender receiver taken heard
  pub read : receiver.rx_buffer.bytes ≡ []
  pub state : sender.state ≡ v.state
  pub nothing_taken : sender.rx_buffer ≡ v.rx_buffer
  pub shift : sender.remote_win_shift ≡ v.remote_win_shift
  pub fewer : length receiver.tx_buffer.bytes ≤ length w.tx_buffer.bytes
  pub speaks : (e : Duration) (r : Tuple) → IsSpeaker e r w → h ≤ length w.tx_buffer.bytes → 0 < space_field v → IsSpeaker e r receiver × (heard ≤ length receiver.tx_buffer.bytes) × (receiver.state ≡ w.state)
  pub whole : more ++ drop taken sender.tx_buffer.bytes ≡ got ++ drop n v.tx_buffer.bytes
  pub nothing_lost : drop heard receiver.tx_buffer.bytes ≡ drop h w.tx_buffer.bytes

-- the FIN was counted, and all was read
pub record Ends (d : Duration) (t : Tuple) (f : Facts) (at : Instant) (v w : View) (got : List ℕ) (n h : ℕ) : Type 0 where
  pub end : Instant
  pub sender : View
  pub receiver : View
  pub exchanges : Exchanges f at v w got end sender receiver (got ++ drop n v.tx_buffer.bytes)
  pub finished : recv_check receiver ≡ Err recv_error.Finished
  pub closing : is_closing v.state ≡ true
  pub speaker : IsSpeaker d t sender
  pub state : sender.state ≡ v.state
  pub nothing_taken : sender.rx_buffer ≡ v.rx_buffer
  pub reach : InReach sender receiver
  pub reached : IsReached receiver
  pub next : next_ack receiver ≡ seq_add sender.local_seq_no (length sender.tx_buffer.bytes + 1)
  pub una : receiver.local_seq_no ≡ next_ack sender
  pub rest : receiver.tx_buffer.bytes ≡ drop h w.tx_buffer.bytes
  pub speaks : (e : Duration) (r : Tuple) → IsSpeaker e r w → h ≤ length w.tx_buffer.bytes → 0 < space_field v → IsSpeaker e r receiver × (has_counted receiver.state ≡ true) × (is_closing receiver.state ≡ is_closing w.state) × (receiver.state ≡ states.LastAck → ⊥)

-- why nothing joined: w had it; or its window had no place; or it was a keep-alive, as v knew no window
pub data Reason (v w u : View) (n : ℕ) : Type 0 where
  Released : 0 < n → Reason v w u n
  WasShut : width w ≡ 0 → u.remote_win_len ≡ v.remote_win_len → Reason v w u n
  Asked : v.remote_win_len ≡ 0 → 0 < u.remote_win_len → Reason v w u n

-- Something joined; or the FIN was counted; or what w had taken is released, its window has a place, and that is told
pub data Round (d : Duration) (t : Tuple) (f : Facts) (at : Instant) (v w : View) (got : List ℕ) (n h : ℕ) : Type 0 where
  Grew : (o : Onward d t f at v w got n h)
      → o.sender.tx_buffer.bytes ≡ v.tx_buffer.bytes
      → n < o.taken
      → Round d t f at v w got n h
  Ended : Ends d t f at v w got n h → Round d t f at v w got n h
  Opened : (o : Onward d t f at v w got n h)
      → o.taken ≡ 0
      → o.sender.tx_buffer.bytes ≡ drop n v.tx_buffer.bytes
      → 0 < width o.receiver
      → Reason v w o.sender n
      → Round d t f at v w got n h

module _ (d : Duration) (t : Tuple) (f : Facts) (at : Instant) (v w : View) (got : List ℕ) (n h : ℕ) (read : w.rx_buffer.bytes ≡ []) (i : Agreement d t v w n h) (p : Utters d t f at at v w got) where
  abbrev fa : Facts
  fa = told f p.now

  abbrev x : View
  x = p.sender

  abbrev u : View
  u = p.after

  abbrev s : Segment
  s = p.out.segment

  abbrev o : Outcome
  o = processed w p.now 0 p.out.ip s

  agreed : Agreement d t x w n h
  agreed = left_agrees d t v w n h i x p.earlier p.speaker.reached p.speaker.waits

  room : 2 ^ w.remote_win_shift ≤ length w.rx_buffer.held
  room = omega (arith, unit_fits w agreed.taker.reached agreed.taker.room, ap (λ (l : List ℕ). length l) read)

  reached : IsReached u
  reached = dispatch_reached fa x (Some p.out) u agreed.speaker.reached p.dispatch

  same_tx : u.tx_buffer.bytes ≡ v.tx_buffer.bytes
  same_tx = ap (λ (q : Queue). q.bytes) (p.left.same.tx ∙ p.earlier.same.tx)

  same_win : u.remote_win_len ≡ v.remote_win_len
  same_win = p.left.same.window ∙ p.earlier.same.window

  same_field : space_field x ≡ space_field v
  same_field = λ i. min (length ((p.earlier.same.rx i).held) / 2 ^ p.earlier.same.shift i) 65535

  said : Speech x p.out → HasSaid t fa x p.out u
  said sp = record { reached = agreed.speaker.reached; carries = agreed.speaker.carries; on = p.on; dispatch = p.dispatch; speech = sp }

  -- ---- what w took is read

  carried : (r : Option Segment) → o.reply ≡ r → Exchange f p.now x w got u o.view got
  carried None e = IsMove (Carries p.out p.dispatch (ap (λ r. record { view = o.view; reply = r }) e) refl)
  carried (Some answer) e = AnswerIsLost p.out answer p.dispatch (ap (λ r. record { view = o.view; reply = r }) e) refl

  abbrev z : View
  z = read_off o.view (length o.view.rx_buffer.bytes)

  reads : Exchanges f at v w got p.now u z (got ++ o.view.rx_buffer.bytes)
  reads = onward at p.mid p.now v w x w u z got got (got ++ o.view.rx_buffer.bytes) p.before (NextOne p.mid p.now p.now x w u o.view u z got got (got ++ o.view.rx_buffer.bytes) p.since (carried o.reply refl) (NextOne p.now p.now p.now u o.view u z u z got (got ++ o.view.rx_buffer.bytes) (got ++ o.view.rx_buffer.bytes) (grind (arith, ints)) (IsMove (Reads (length o.view.rx_buffer.bytes) (omega arith) refl refl (ap (λ (l : List ℕ). got ++ l) (sym (take_all o.view.rx_buffer.bytes))))) (NoMore p.now u z (got ++ o.view.rx_buffer.bytes))))

  kept_waits : Waits o.view → Waits z
  unfolding read_off
  kept_waits (ForAnswer at e) = ForAnswer at e
  kept_waits (ForRepeat e) = ForRepeat e
  kept_waits (ForKeepAlive o e f) = ForKeepAlive o e f
  kept_waits (ForProbe at delay e f) = ForProbe at delay e f

  grew : (run : List ℕ) → 0 < length run → o.view.rx_buffer.bytes ≡ run → run ++ drop (n + length run) x.tx_buffer.bytes ≡ drop n x.tx_buffer.bytes → Agreement d t x o.view (n + length run) 0 → o.view.tx_buffer.bytes ≡ drop h w.tx_buffer.bytes → SpeaksOn x w h o.view → Round d t f at v w got n h
  unfolding read_off
  grew run some is whole agrees tx speaks =
      let j : Agreement d t u o.view (n + length run) 0 = left_agrees d t x o.view (n + length run) 0 agrees u p.left reached p.waits in
      Grew (record {
        end = p.now;
        sender = u;
        receiver = z;
        more = got ++ o.view.rx_buffer.bytes;
        taken = n + length run;
        heard = 0;
        exchanges = reads;
        agrees = reads_agree d t u o.view (n + length run) 0 j;
        read = nothing_left d t u o.view (n + length run) 0 j;
        state = p.left.same.state ∙ p.earlier.same.state;
        nothing_taken = p.left.same.rx ∙ p.earlier.same.rx;
        shift = p.left.same.shift ∙ p.earlier.same.shift;
        fewer = omega (arith, ap (λ (l : List ℕ). length l) tx, length-drop h w.tx_buffer.bytes);
        speaks = λ e r sp within field.
            let p' : IsSpeaker e r o.view × (o.view.state ≡ w.state) = speaks e r sp within (subst (λ m. 0 < m) (sym same_field) field) in
            let q = p'.0 in
            (record { reached = (reads_agree d t u o.view (n + length run) 0 j).taker.reached; carries = q.carries; peer = q.peer; no_timeout = q.no_timeout; smoltcp = q.smoltcp; keep_alive = q.keep_alive; waits = kept_waits q.waits }, omega arith, p'.1);
        whole = append_assoc got o.view.rx_buffer.bytes (drop (n + length run) u.tx_buffer.bytes) ∙ (λ i. got ++ (is i ++ drop (n + length run) ((p.left.same.tx i).bytes))) ∙ ap (λ (l : List ℕ). got ++ l) whole ∙ ap (λ (q : Queue). got ++ drop n q.bytes) p.earlier.same.tx;
        nothing_lost = tx;
      }) same_tx (omega (arith, some))

  -- z is what w became, or that once it was read
  record AlsoRead (b : View) : Type 0 where
    exchanges : Exchanges f at v w got p.now u b (got ++ o.view.rx_buffer.bytes)
    gone : b.rx_buffer.bytes ≡ []
    state : b.state ≡ o.view.state
    fin : b.rx_fin_received ≡ o.view.rx_fin_received
    una : b.local_seq_no ≡ o.view.local_seq_no
    nxt : b.remote_last_seq ≡ o.view.remote_last_seq
    next : next_ack b ≡ next_ack o.view
    tx : b.tx_buffer ≡ o.view.tx_buffer
    reached : IsReached o.view → IsReached b
    speaks : (e : Duration) (r : Tuple) → IsReached b → IsSpeaker e r o.view → IsSpeaker e r b

  also_read : AlsoRead z ⊎ AlsoRead o.view
  unfolding read_off handed_out
  also_read = by (some_or_none (length o.view.rx_buffer.bytes))
    where
      empty : (l : List ℕ) → length l ≡ 0 → l ≡ []
      empty [] e = refl
      empty (b ∷ l) e = absurd (omega (arith, e))

      none : z.rx_buffer.bytes ≡ []
      none = drop_all (length o.view.rx_buffer.bytes) o.view.rx_buffer.bytes (omega arith)

      by : (length o.view.rx_buffer.bytes ≡ 0) ⊎ (0 < length o.view.rx_buffer.bytes) → AlsoRead z ⊎ AlsoRead o.view
      by (inl e) =
          let none_there : o.view.rx_buffer.bytes ≡ [] = empty o.view.rx_buffer.bytes e in
          inr (record {
            exchanges = subst (λ l. Exchanges f at v w got p.now u o.view l) (sym (append-nil got) ∙ ap (λ (l : List ℕ). got ++ l) (sym none_there)) (onward at p.mid p.now v w x w u o.view got got got p.before (NextOne p.mid p.now p.now x w u o.view u o.view got got got p.since (carried o.reply refl) (NoMore p.now u o.view got)));
            gone = none_there;
            state = refl;
            fin = refl;
            una = refl;
            nxt = refl;
            next = refl;
            tx = refl;
            reached = λ r. r;
            speaks = λ e r q s. s;
          })
      by (inr some) = inl (record {
        exchanges = reads;
        gone = none;
        state = refl;
        fin = refl;
        una = refl;
        nxt = refl;
        next = same_seq (next_ack z) (next_ack o.view) (omega (arith, ap (λ (l : List ℕ). length l) none));
        tx = refl;
        reached = λ r. reads_reached o.view (length o.view.rx_buffer.bytes) (may o.view some) (omega arith) r;
        speaks = λ e r q s. record { reached = q; carries = s.carries; peer = s.peer; no_timeout = s.no_timeout; smoltcp = s.smoltcp; keep_alive = s.keep_alive; waits = kept_waits s.waits };
      })

  ended : is_closing x.state ≡ true → receives o.view.state ≡ false → o.view.rx_fin_received ≡ true → o.view.rx_buffer.bytes ≡ drop n x.tx_buffer.bytes → Stopped x w h o.view → Round d t f at v w got n h
  ended closing stops fin rest stopped = elim also_read [
    | inl b ↦ Ended (ends z b)
    | inr b ↦ Ended (ends o.view b)
  ]
    where
      ends : (b : View) → AlsoRead b → Ends d t f at v w got n h
      ends b r =
          let reached_b : IsReached b = r.reached stopped.reached in
          record {
            end = p.now;
            sender = u;
            receiver = b;
            exchanges = subst (λ l. Exchanges f at v w got p.now u b (got ++ l)) (rest ∙ ap (λ (q : Queue). drop n q.bytes) p.earlier.same.tx) r.exchanges;
            finished = ap (λ e. if (if e then true else not (length b.rx_buffer.bytes == 0)) then Ok tt else Err (if b.rx_fin_received then recv_error.Finished else recv_error.InvalidState)) (ap receives r.state ∙ stops) ∙ ap (λ (l : List ℕ). if not (length l == 0) then Ok tt else Err (if b.rx_fin_received then recv_error.Finished else recv_error.InvalidState)) r.gone ∙ ap (λ e. Err (if e then recv_error.Finished else recv_error.InvalidState)) (r.fin ∙ fin);
            closing = ap is_closing (sym p.earlier.same.state) ∙ closing;
            speaker = left_speaks d t x u p.speaker p.left reached p.waits;
            state = p.left.same.state ∙ p.earlier.same.state;
            nothing_taken = p.left.same.rx ∙ p.earlier.same.rx;
            reach = reach_kept u u o.view b refl refl (inl refl) r.nxt (left_reach x u o.view p.speaker.reached p.left (later_reach x w o.view p.speaker.reached stopped.nxt agreed.in_reach));
            reached = reached_b;
            next = r.next ∙ stopped.next ∙ (λ i. seq_add (sym p.left.same.una i) (length ((sym p.left.same.tx i).bytes) + 1));
            una = r.una ∙ stopped.una ∙ (λ i. seq_add (sym p.left.same.rcv i) (length ((sym p.left.same.rx i).bytes)));
            rest = ap (λ (q : Queue). q.bytes) r.tx ∙ stopped.tx;
            speaks = λ e y sp within field.
                let m : IsSpeaker e y o.view × (has_counted o.view.state ≡ true) × (is_closing o.view.state ≡ is_closing w.state) × (o.view.state ≡ states.LastAck → ⊥) = stopped.speaks e y sp within (subst (λ m. 0 < m) (sym same_field) field) in
                (r.speaks e y reached_b m.0, ap has_counted r.state ∙ m.1, ap is_closing r.state ∙ m.2, λ l. m.3 (sym r.state ∙ l));
          }

  -- ---- it is answered

  module _ (is : o ≡ ack_sent w s) (small : s.seq_number.0 < 2 ^ 32) (short : length s.payload ≤ 65535) (number : s.ack_number ≡ Some (next_ack x)) where
    abbrev y : View
    y = ack_kept w

    j : Agreement d t u y n h
    j = left_agrees d t x y n h (answers_agree d t x w n h agreed p.now p.out.ip s small short number is) u p.left reached p.waits

    open_ : 0 < width y
    open_ = answers_open d t x w n h agreed room

    y_speaks : (e : Duration) (r : Tuple) → IsSpeaker e r w → h ≤ length w.tx_buffer.bytes → IsSpeaker e r y × (h ≤ length y.tx_buffer.bytes) × (y.state ≡ w.state)
    unfolding ack_kept
    y_speaks e r sp within = (record { reached = j.taker.reached; carries = sp.carries; peer = sp.peer; no_timeout = sp.no_timeout; smoltcp = sp.smoltcp; keep_alive = sp.keep_alive; waits = by sp.waits }, within, refl)
      where
        by : Waits w → Waits y
        by (ForAnswer at e) = ForAnswer at e
        by (ForRepeat e) = ForRepeat e
        by (ForKeepAlive o e f) = ForKeepAlive o e f
        by (ForProbe at delay e f) = ForProbe at delay e f

    -- and the answer is heard
    heard_so : (x.state ≡ states.LastAck → 0 < n) → (u' : View) → processed u p.now 0 (reply_ip p.out.ip (stamped_ack w y s)) (stamped_ack w y s) ≡ record { view = u'; reply = None } → Exchanges f at v w got p.now u' y got
    heard_so last u' e = onward at p.mid p.now v w x w u' y got got got p.before (NextOne p.mid p.now p.now x w u' y u' y got got got p.since (IsMove (IsAnswered p.out u (ack_segment w s) (answer_stamp y s) p.dispatch is (ack_stamped w y s) e refl)) (NoMore p.now u' y got))

    hears_it : (x.state ≡ states.LastAck → 0 < n) → ((u' : View) → 0 < u'.remote_win_len → Reason v w u' n) → Round d t f at v w got n h
    unfolding ack_kept ack_segment
    hears_it last why =
        let g : Segment = stamped_ack w y s in
        let some : u.state ≡ states.LastAck → 0 < n = λ e. last (sym p.left.same.state ∙ e) in
        let ip = reply_ip p.out.ip g in
        let told : g.window_len ≡ space_field y = smoltcp_field w agreed.taker.smoltcp in
        Opened (record {
          end = p.now;
          sender = then_heard d t u y n h j room some p.now ip g refl refl refl told refl;
          receiver = y;
          more = got;
          taken = 0;
          heard = h;
          exchanges = heard_so last (then_heard d t u y n h j room some p.now ip g refl refl refl told refl) (hears d t u y n h j room some p.now ip g refl refl refl told refl);
          agrees = hears_agrees d t u y n h j room some p.now ip g refl refl refl told refl;
          read = read;
          state = same_state d t u y n h j room some p.now ip g refl refl refl told refl ∙ p.left.same.state ∙ p.earlier.same.state;
          nothing_taken = same_rx d t u y n h j room some p.now ip g refl refl refl told refl ∙ p.left.same.rx ∙ p.earlier.same.rx;
          shift = same_shift d t u y n h j room some p.now ip g refl refl refl told refl ∙ p.left.same.shift ∙ p.earlier.same.shift;
          fewer = omega arith;
          speaks = λ e r sp within field. y_speaks e r sp within;
          whole = ap (λ (l : List ℕ). got ++ l) (queue_left d t u y n h j room some p.now ip g refl refl refl told refl ∙ ap (drop n) same_tx);
          nothing_lost = refl;
        }) refl (queue_left d t u y n h j room some p.now ip g refl refl refl told refl ∙ ap (drop n) same_tx) open_ (why (then_heard d t u y n h j room some p.now ip g refl refl refl told refl) (window_open d t u y n h j room some p.now ip g refl refl refl told refl))

    -- or it is lost
    loses_it : n ≡ 0 → width w ≡ 0 → Round d t f at v w got n h
    unfolding ack_kept
    loses_it none shut = Opened (record {
      end = p.now;
      sender = u;
      receiver = y;
      more = got;
      taken = n;
      heard = h;
      exchanges = onward at p.mid p.now v w x w u y got got got p.before (NextOne p.mid p.now p.now x w u y u y got got got p.since (AnswerIsLost p.out (ack_segment w s) p.dispatch is refl) (NoMore p.now u y got));
      agrees = j;
      read = read;
      state = p.left.same.state ∙ p.earlier.same.state;
      nothing_taken = p.left.same.rx ∙ p.earlier.same.rx;
      shift = p.left.same.shift ∙ p.earlier.same.shift;
      fewer = omega arith;
      speaks = λ e r sp within field. y_speaks e r sp within;
      whole = ap (λ (l : List ℕ). got ++ drop n l) same_tx;
      nothing_lost = refl;
    }) none (same_tx ∙ ap (λ m. drop m v.tx_buffer.bytes) (sym none)) open_ (WasShut shut same_win)

  -- ---- the round

  una_small : x.local_seq_no.0 < 2 ^ 32
  una_small = (reached_ordered x agreed.speaker.reached).una_small

  from_front : StartsAtUna x p.out → Round d t f at v w got n h
  from_front q = by (arrives d t x w n h agreed read p.now p.out.ip s front)
    where
      sp : HasSaid t fa x p.out u
      sp = said (FromUna q.kind q.number q.some)

      front : FromFront x s
      front = record {
        bit = bit t fa x p.out u sp;
        ack = ack t fa x p.out u sp;
        number = q.number;
        first = first_bytes t fa x p.out u sp q.kind q.number;
        field = field t fa x p.out u sp p.speaker.smoltcp;
        fin = fin_ends t fa x p.out u sp q.kind q.number;
        closing = fin_of_closing t fa x p.out u sp q.kind q.number;
        some = q.some;
        short = q.short;
      }

      small : s.seq_number.0 < 2 ^ 32
      small = omega (arith, ap (λ (m : TcpSeqNumber). m.0) q.number, una_small)

      answered : o ≡ ack_sent w s → (n ≡ 0 → width w ≡ 0) → (n ≡ 0) ⊎ (0 < n) → Round d t f at v w got n h
      answered is shut (inl none) = loses_it is small q.short front.ack none (shut none)
      answered is shut (inr some) = hears_it is small q.short front.ack (λ e. some) (λ u' win. Released some)

      by : Arrived d t x w n h s o → Round d t f at v w got n h
      by (Joins run some is whole agrees tx speaks) = grew run some is whole agrees tx speaks
      by (CountsFin closing stops fin rest stopped) = ended closing stops fin rest stopped
      by (Answers is shut) = answered is shut (some_or_none n)

  asks : AsksOnly x p.out → Round d t f at v w got n h
  asks q = hears_it is small short number last why
    where
      sp : HasSaid t fa x p.out u
      sp = said (KeepsAlive q.kind q.number q.byte)

      number : s.ack_number ≡ Some (next_ack x)
      number = ack t fa x p.out u sp

      at_one : s.seq_number.0 ≡ (seq_minus x.local_seq_no 1).0
      at_one = ap (λ (m : TcpSeqNumber). m.0) q.number

      small : s.seq_number.0 < 2 ^ 32
      small = omega (arith, at_one)

      long : length s.payload ≡ 1
      long = ap (λ (l : List ℕ). length l) q.byte

      short : length s.payload ≤ 65535
      short = omega (arith, long)

      edge : (next_ack w).0 ≡ (seq_add x.local_seq_no n).0
      edge = ap (λ (m : TcpSeqNumber). m.0) agreed.there

      few : n ≤ 2 ^ 30
      few = omega (arith, agreed.taken_within, (reached_ordered x agreed.speaker.reached).room)

      is : o ≡ ack_sent w s
      is = away w (next_ack x) (faces_so d t x w n h agreed) p.now 0 p.out.ip s (bit t fa x p.out u sp) number (before_window w s (width_small w agreed.taker.reached) (omega (arith, long)) small (omega (arith, edge, at_one, una_small, few)) (omega (arith, edge, at_one, una_small, few)) (omega (arith, edge, at_one, una_small, few, long))) (omega (arith, long))

      last : x.state ≡ states.LastAck → 0 < n
      last e = by (agreed.last e)
        where
          by : (0 < n) ⊎ (0 < x.remote_win_len) → 0 < n
          by (inl some) = some
          by (inr win) = absurd (omega (arith, win, q.shut))

      why : (u' : View) → 0 < u'.remote_win_len → Reason v w u' n
      why u' win = Asked (sym p.earlier.same.window ∙ q.shut) win

  pub round : Round d t f at v w got n h
  round = by p.said
    where
      by : StartsAtUna x p.out ⊎ AsksOnly x p.out → Round d t f at v w got n h
      by (inl q) = from_front q
      by (inr q) = asks q
