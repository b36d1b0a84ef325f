-- What the steps of `process` leave alone.
use Rattle.std.proofs.Common.{◌≡◌, ℕ, ◌⊎◌, Bool, true, false, refl, sym, ap, subst, ◌∙◌, List, [], length, Option, Some, None, inl, inr}
use Rattle.std.specs.Prelude.{int_lt, ◌==◌, ◌&&◌, if◌then◌else◌}
use Rattle.ip_wire.specs.declared.repr.IpRepr.{IpRepr}
use Rattle.net_base.specs.declared.time.Instant.{Instant}
use Rattle.control_wire.specs.Segment.{Segment}
use Rattle.control_wire.specs.declared.seq_number.TcpSeqNumber.{TcpSeqNumber}
use Rattle.control_wire.specs.declared.tcp.TcpControl.{TcpControl}
use Rattle.control_wire.specs.declared.tcp.TcpControl.TheVariants as control
use Rattle.sock_core.specs.Received.{Received, received, written, gathered, taken_in, makes_fifth_range, holds_nothing}
use Rattle.sock_tcp.specs.Arrival.{arrival}
use Rattle.sock_tcp.specs.Rfc.Windows.{windowed}
use Rattle.sock_tcp.specs.View.{View}
use Rattle.sock_tcp.specs.Rfc.Checks.{verdict_by}
use Rattle.sock_tcp.specs.Window.{accepted_window, is_inside, cut_of, cut_bytes}
use Rattle.sock_tcp.specs.Acked.{acked_of}
use Rattle.sock_tcp.specs.Advance.{Advance, advance_in, advanced, counted_control, fallen_back, fin_counted, opened_state, options_taken, syn_answered, syn_received}
use Rattle.sock_tcp.specs.Closing.{closed_from}
use Rattle.tcp_laws.specs.Laws.{IsPeered}
use Rattle.sock_tcp.specs.Replies.{ack_kept, ack_segment}
use Rattle.sock_tcp.specs.Timers.{after, challenge_interval}
use Rattle.sock_tcp.specs.Steps.{window_taken, released, is_duplicate, ack_heard, duplicate_counted, ack_counted, una_advanced, acknowledged, timestamp_taken, timer_set, counted, heard, joined, ack_delayed}
use Rattle.sock_tcp.specs.Process.{stopped, ack_sent, challenged, close_restarted, outside_by, outside, gap_answered, bytes_taken, tuple_of, after_advance, after_table, processed_inside, has_window, cut_inside, tested_by, by_verdict, closed_then, processed_by, without_place}
use Rattle.sock_tcp.specs.declared.acked.Acked.{Acked}
use Rattle.sock_tcp.specs.declared.advance.Next.{Next}
use Rattle.sock_tcp.specs.declared.advance.Next.TheVariants as next
use Rattle.sock_tcp.specs.declared.state.State.{State}
use Rattle.sock_tcp.specs.declared.state.State.TheVariants as state
use Rattle.sock_tcp.specs.declared.tuple.Tuple.{Tuple}
use Rattle.sock_tcp.specs.declared.verdict.Verdict.{Verdict}
use Rattle.sock_tcp.specs.declared.verdict.Verdict.TheVariants as verdicts
use Rattle.tcp_laws.proofs.Kept.{KeptByAnswers, KeptByRows, challenged_kept, outside_kept, rows_kept}
use Rattle.sock_tcp.specs.Rfc.Duplicates.{duplicate_told}
use Rattle.sock_tcp.specs.Rfc.Recovery.{before_of, recovered, recovered_by}
use Rattle.sock_tcp.specs.Rfc.Refused.{refused}
use Rattle.sock_tcp.specs.declared.rules.Rules.{Rules}
use Rattle.sock_tcp.specs.declared.rules.Rules.TheVariants as rules
use Rattle.sock_tcp.proofs.Late.{closed_as}
use Rattle.sock_tcp.proofs.Recovering.{recovered_as}
use Rattle.sock_tcp.proofs.Refusing.{heard_alone, refused_as}

-- the receive buffer is b, and the rest is as it was
pub record Keeps (v w : View) (b : Received) : Type 0 where
  pub rx : w.rx_buffer ≡ b
  pub listen : w.listen_endpoint ≡ v.listen_endpoint
  pub tuple : w.tuple ≡ v.tuple
  pub state : w.state ≡ v.state

pub same : (v : View) → Keeps v v v.rx_buffer
same v = record { rx = refl; listen = refl; tuple = refl; state = refl }

-- bs come at the offset o, or none come
abbrev pub brought : Received → ℕ → List ℕ → Received
brought b o bs = if length bs == 0 then b else taken_in b o bs

pub stays_as_it_is : (b : Received) (o : ℕ) (bs : List ℕ) → makes_fifth_range b o bs ≡ true → b ≡ taken_in b o bs
unfolding taken_in
stays_as_it_is b o bs e = sym (ap (λ t. if t then b else gathered (received b.bytes (written b.held o bs) b.until_end)) e)

-- it leaves the receive buffer, and where the socket listens
pub record TableKeeps (v w : View) : Type 0 where
  pub rx : w.rx_buffer ≡ v.rx_buffer
  pub listen : w.listen_endpoint ≡ v.listen_endpoint

-- a reply goes back: its ports are the segment's, the other way round
abbrev pub GoesBack : Segment → Option Segment → Type 0
GoesBack s None = Unit {0}
GoesBack s (Some r) = (r.src_port ≡ s.dst_port) × (r.dst_port ≡ s.src_port)

module _ (s : Segment) (now : Instant) where
  -- ---- steps that take no bytes

  heard_from : (k : Option TcpSeqNumber) (w : View) (n : ℕ) (changed : Bool) → Keeps w (acknowledged w k now n (length s.payload) changed) w.rx_buffer
  unfolding acknowledged duplicate_counted ack_counted una_advanced
  heard_from None w n changed = same w
  heard_from (Some k) w n changed = go (is_duplicate w k (length s.payload) changed)
    where
      go : (b : Bool) → Keeps w (ack_heard b w now k n) w.rx_buffer
      go true = record { rx = refl; listen = refl; tuple = refl; state = refl }
      go false = record { rx = refl; listen = refl; tuple = refl; state = refl }

  counted_keeps : (w : View) (changed : Bool) (a : Acked) → Keeps w (counted w changed now a s) w.rx_buffer
  unfolding timer_set timestamp_taken
  counted_keeps w changed a =
      let k = heard_from s.ack_number w a.len changed in
      record { rx = k.rx; listen = k.listen; tuple = k.tuple; state = k.state }

  pub heard_keeps : (u : View) (a : Acked) → Keeps u (heard u now a s) u.rx_buffer
  unfolding heard window_taken released
  heard_keeps u a =
      let k = counted_keeps (released (window_taken u now s.control s.window_len) a.len) _ a in
      record { rx = k.rx; listen = k.listen; tuple = k.tuple; state = k.state }

  answers_keep : (v : View) → KeptByAnswers (λ w. Keeps v w v.rx_buffer)
  unfolding ack_kept
  answers_keep v = record {
    challenges = λ w at k. record { rx = k.rx; listen = k.listen; tuple = k.tuple; state = k.state };
    acks = λ w k. record { rx = k.rx; listen = k.listen; tuple = k.tuple; state = k.state };
  }

  pub challenged_keeps : (w : View) → Keeps w (challenged w now s).view w.rx_buffer
  challenged_keeps w = challenged_kept (λ u. Keeps w u w.rx_buffer) now s (answers_keep w) w (same w)

  pub outside_keeps : (w : View) → Keeps w (outside w now s).view w.rx_buffer
  unfolding close_restarted
  outside_keeps w = outside_kept (λ u. Keeps w u w.rx_buffer) now s (answers_keep w) (λ u k. record { rx = k.rx; listen = k.listen; tuple = k.tuple; state = k.state }) w (same w)

  acked_back : (w : View) → GoesBack s (ack_sent w s).reply
  unfolding ack_segment
  acked_back w = (refl, refl)

  pub challenged_back : (w : View) → GoesBack s (challenged w now s).reply
  unfolding challenged
  challenged_back w = go (int_lt now.micros w.challenge_ack_timer.micros)
    where
      go : (b : Bool) → GoesBack s (if b then stopped w else ack_sent (record w { challenge_ack_timer = after now challenge_interval }) s).reply
      go true = tt
      go false = acked_back (record w { challenge_ack_timer = after now challenge_interval })

  pub outside_back : (w : View) → GoesBack s (outside w now s).reply
  unfolding outside
  outside_back w = by s.control
    where
      bytes_or_none : (b : Bool) → GoesBack s (if b then challenged (close_restarted w now) now s else ack_sent (close_restarted w now) s).reply
      bytes_or_none true = challenged_back (close_restarted w now)
      bytes_or_none false = acked_back (close_restarted w now)

      by : (c : TcpControl) → GoesBack s (outside_by c (length s.payload) w now s).reply
      by control.Rst = tt
      by control.Syn = challenged_back (close_restarted w now)
      by control.None = bytes_or_none (length s.payload == 0)
      by control.Psh = bytes_or_none (length s.payload == 0)
      by control.Fin = bytes_or_none (length s.payload == 0)

  bytes_back : (w : View) (o : ℕ) (bs : List ℕ) → GoesBack s (bytes_taken w now o bs s).reply
  unfolding bytes_taken
  bytes_back w o bs = go (length bs == 0)
    where
      u : View
      u = ack_delayed (joined w o bs) now

      gap : (b : Bool) → GoesBack s (if b then stopped u else ack_sent u s).reply
      gap true = tt
      gap false = acked_back u

      placeless : (r : Rules) → GoesBack s (without_place r w s).reply
      placeless rules.Smoltcp = tt
      placeless rules.Rfc = acked_back w

      away : (b : Bool) → GoesBack s (if b then without_place w.rules w s else gap_answered w u s).reply
      away true = placeless w.rules
      away false = gap (holds_nothing w.rx_buffer.held && holds_nothing u.rx_buffer.held)

      go : (b : Bool) → GoesBack s (if b then stopped w else (if makes_fifth_range w.rx_buffer o bs then without_place w.rules w s else gap_answered w u s)).reply
      go true = tt
      go false = away (makes_fifth_range w.rx_buffer o bs)

  pub after_back : (t : Tuple) (word : ℕ) (x : Next) (u : View) (a : Acked) (o : ℕ) (bs : List ℕ) → GoesBack s (after_advance x u (arrival now t word s) a o bs).reply
  after_back t word next.Stop u a o bs = tt
  after_back t word next.Challenge u a o bs = challenged_back u
  after_back t word next.Continue u a o bs = bytes_back (heard u now a s) o bs

  -- ---- bytes

  pub bytes_keep : (w : View) (o : ℕ) (bs : List ℕ) → Keeps w (bytes_taken w now o bs s).view (brought w.rx_buffer o bs)
  unfolding bytes_taken joined ack_delayed ack_kept
  bytes_keep w o bs = go (length bs == 0)
    where
      u : View
      u = ack_delayed (joined w o bs) now

      gap : (b : Bool) → Keeps w (if b then stopped u else ack_sent u s).view (taken_in w.rx_buffer o bs)
      gap true = record { rx = refl; listen = refl; tuple = refl; state = refl }
      gap false = record { rx = refl; listen = refl; tuple = refl; state = refl }

      placeless : (r : Rules) → makes_fifth_range w.rx_buffer o bs ≡ true → Keeps w (without_place r w s).view (taken_in w.rx_buffer o bs)
      placeless rules.Smoltcp e = record { rx = stays_as_it_is w.rx_buffer o bs e; listen = refl; tuple = refl; state = refl }
      placeless rules.Rfc e = record { rx = stays_as_it_is w.rx_buffer o bs e; listen = refl; tuple = refl; state = refl }

      away : (b : Bool) → makes_fifth_range w.rx_buffer o bs ≡ b → Keeps w (if b then without_place w.rules w s else gap_answered w u s).view (taken_in w.rx_buffer o bs)
      away true e = placeless w.rules e
      away false e = gap (holds_nothing w.rx_buffer.held && holds_nothing u.rx_buffer.held)

      go : (b : Bool) → Keeps w (if b then stopped w else (if makes_fifth_range w.rx_buffer o bs then without_place w.rules w s else gap_answered w u s)).view (if b then w.rx_buffer else taken_in w.rx_buffer o bs)
      go true = same w
      go false = away (makes_fifth_range w.rx_buffer o bs) refl

  -- ---- the state table

  module _ (v : View) (t : Tuple) (word n : ℕ) where
    abbrev row : State → TcpControl → Bool → Advance
    row st c fin = advance_in st c fin v (arrival now t word s) n

    rows_keep : KeptByRows (TableKeeps v) now word s
    unfolding fallen_back syn_received syn_answered options_taken fin_counted
    rows_keep = record {
      falls = λ w k. record { rx = k.rx; listen = k.listen };
      drops = λ w k. record { rx = k.rx; listen = k.listen };
      opens = λ w t k. record { rx = k.rx; listen = k.listen };
      answers = λ w k. record { rx = k.rx; listen = k.listen };
      moves = λ w st k. record { rx = k.rx; listen = k.listen };
      counts = λ w st k. record { rx = k.rx; listen = k.listen };
      waits = λ w k. record { rx = k.rx; listen = k.listen };
    }

    pub table_keeps : (st : State) (c : TcpControl) (fin : Bool) → TableKeeps v (row st c fin).view
    table_keeps st c fin = rows_kept (TableKeeps v) now word s rows_keep v t n (record { rx = refl; listen = refl }) st c fin

    -- a peer is known as long as the state has one
    pub table_peers : (st : State) (c : TcpControl) (fin : Bool) → v.state ≡ st → IsPeered st v.tuple t → IsPeered (row st c fin).view.state (row st c fin).view.tuple t
    unfolding fallen_back syn_received syn_answered options_taken fin_counted
    table_peers state.SynReceived control.Rst fin e p = go (v.listen_endpoint.port == 0)
      where
        go : (b : Bool) → IsPeered (if b then state.Closed else state.Listen) None t
        go true = inl refl
        go false = refl
    table_peers _ control.Rst fin e p = inl refl
    table_peers state.Listen control.Syn fin e p = refl
    table_peers state.SynSent control.Syn fin e p = go s.ack_number
      where
        go : (o : Option TcpSeqNumber) → IsPeered (opened_state o) v.tuple t
        go None = p
        go (Some k) = p
    table_peers state.SynReceived control.None fin e p = p
    table_peers state.SynReceived control.Fin fin e p = p
    table_peers state.Established control.None fin e p = subst (λ st. IsPeered st v.tuple t) (sym e) p
    table_peers state.Established control.Fin fin e p = p
    table_peers state.FinWait1 control.None true e p = p
    table_peers state.FinWait1 control.None false e p = subst (λ st. IsPeered st v.tuple t) (sym e) p
    table_peers state.FinWait1 control.Fin true e p = p
    table_peers state.FinWait1 control.Fin false e p = p
    table_peers state.FinWait2 control.None fin e p = subst (λ st. IsPeered st v.tuple t) (sym e) p
    table_peers state.FinWait2 control.Fin fin e p = p
    table_peers state.CloseWait control.None fin e p = subst (λ st. IsPeered st v.tuple t) (sym e) p
    table_peers state.Closing control.None true e p = p
    table_peers state.Closing control.None false e p = subst (λ st. IsPeered st v.tuple t) (sym e) p
    table_peers state.LastAck control.None true e p = inl refl
    table_peers state.LastAck control.None false e p = subst (λ st. IsPeered st v.tuple t) (sym e) p
    table_peers st _ fin e p = subst (λ st. IsPeered st v.tuple t) (sym e) p

  -- ---- the steps behind the table

  pub after_keeps : (t : Tuple) (word : ℕ) (x : Next) (u : View) (a : Acked) (o : ℕ) (bs : List ℕ) → (Keeps u (after_advance x u (arrival now t word s) a o bs).view u.rx_buffer) ⊎ (Keeps u (after_advance x u (arrival now t word s) a o bs).view (brought u.rx_buffer o bs) × (x ≡ next.Continue))
  after_keeps t word next.Stop u a o bs = inl (same u)
  after_keeps t word next.Challenge u a o bs = inl (challenged_keeps u)
  after_keeps t word next.Continue u a o bs =
      let h = heard_keeps u a in
      let k = bytes_keep (heard u now a s) o bs in
      inr (record { rx = k.rx ∙ ap (λ b. brought b o bs) h.rx; listen = k.listen ∙ h.listen; tuple = k.tuple ∙ h.tuple; state = k.state ∙ h.state }, refl)

-- ---- the whole

-- a close leaves the peer
pub closed_peers : (st : State) (o : Option Tuple) (t : Tuple) → IsPeered st o t → IsPeered (closed_from st) o t
closed_peers state.Listen o t p = inl p
closed_peers state.SynSent o t p = inr p
closed_peers _ o t p = p

module _ (v : View) (now : Instant) (word : ℕ) (ip : IpRepr) (s : Segment) where
  -- the bytes that the window takes, and how far past RCV.NXT
  abbrev pub offset_in : Rules → ℕ
  offset_in r = (cut_of (accepted_window r v) s.seq_number (length s.payload)).offset

  abbrev pub bytes_in : Rules → List ℕ
  bytes_in r = cut_bytes (cut_of (accepted_window r v) s.seq_number (length s.payload)) s.payload

  -- where the socket listens stays; its receive buffer stays, or the segment lies inside the window and brings its bytes
  pub record Brings (r : Rules) (w : View) : Type 0 where
    pub listen : w.listen_endpoint ≡ v.listen_endpoint
    pub rx : (w.rx_buffer ≡ v.rx_buffer)
        ⊎ ((is_inside (accepted_window r v) s.seq_number (length s.payload) ≡ true) × (w.rx_buffer ≡ brought v.rx_buffer (offset_in r) (bytes_in r)))

  kept : (r : Rules) (w : View) → Keeps v w v.rx_buffer → Brings r w
  kept r w k = record { listen = k.listen; rx = inl k.rx }

  abbrev numbered : View
  numbered = record v { local_rx_last_seq = Some s.seq_number }

  -- of a socket u with the same receive buffer
  inside_brings : (u : View) (c : TcpControl) (o : ℕ) (bs : List ℕ) → u.rx_buffer ≡ v.rx_buffer → u.listen_endpoint ≡ v.listen_endpoint → (P : View → Type 0) → ((w : View) → w.listen_endpoint ≡ v.listen_endpoint → (w.rx_buffer ≡ v.rx_buffer) ⊎ (w.rx_buffer ≡ brought v.rx_buffer o bs) → P w)
      → P (processed_inside u (arrival now (tuple_of ip s) word s) c o bs).view
  unfolding processed_inside advanced
  inside_brings u c o bs rx listen P f =
      let a = acked_of u s.control s.ack_number in
      let t = advance_in u.state c a.fin u (arrival now (tuple_of ip s) word s) a.len in
      let k = table_keeps s now u (tuple_of ip s) word a.len u.state c a.fin in
      let w = (after_table t (arrival now (tuple_of ip s) word s) a o bs).view in
      go t.view w k (after_keeps s now (tuple_of ip s) word t.next t.view a o bs)
    where
      go : (x w : View) → TableKeeps u x → {n : Type 0} → (Keeps x w x.rx_buffer) ⊎ (Keeps x w (brought x.rx_buffer o bs) × n) → P w
      go x w k (inl h) = f w (h.listen ∙ k.listen ∙ listen) (inl (h.rx ∙ k.rx ∙ rx))
      go x w k (inr h) = f w (h.0.listen ∙ k.listen ∙ listen) (inr (h.0.rx ∙ ap (λ b. brought b o bs) (k.rx ∙ rx)))

  -- brings nothing, and leaves where the socket listens
  abbrev Stays : View → Type 0
  Stays w = (w.listen_endpoint ≡ v.listen_endpoint) × (w.rx_buffer ≡ v.rx_buffer)

  none_brought : (c : TcpControl) → Stays (processed_inside v (arrival now (tuple_of ip s) word s) c 0 []).view
  none_brought c = inside_brings v c 0 [] refl refl Stays (λ w l r. (l, alone w r))
    where
      alone : (w : View) → (w.rx_buffer ≡ v.rx_buffer) ⊎ (w.rx_buffer ≡ brought v.rx_buffer 0 []) → w.rx_buffer ≡ v.rx_buffer
      alone w (inl e) = e
      alone w (inr e) = e

  stays_brings : (r : Rules) (w : View) → Stays w → Brings r w
  stays_brings r w h = record { listen = h.0; rx = inl h.1 }

  refused_brings : (r : Rules) → Brings r (refused r v (arrival now (tuple_of ip s) word s)).view
  refused_brings r = refused_as (λ o. Brings r o.view) r v (arrival now (tuple_of ip s) word s) (record {
    answers = kept r _ (outside_keeps s now v);
    counts = λ e. stays_brings r _ (none_brought control.Fin);
    hears = λ e. stays_brings r _ (none_brought control.None);
    ends = λ e. stays_brings r _ (none_brought control.None);
    goes_on = λ e. let h = none_brought control.None in let k = outside_keeps s now (heard_alone v (arrival now (tuple_of ip s) word s)).view in record { listen = k.listen ∙ h.0; rx = inl (k.rx ∙ h.1) };
  })

  tested_brings : (r : Rules) (b : Bool) → Brings r (tested_by r b v (arrival now (tuple_of ip s) word s)).view
  tested_brings r false = inside_brings v s.control 0 [] refl refl (Brings r) (λ w l k. record { listen = l; rx = inl (alone w k) })
    where
      alone : (w : View) → (w.rx_buffer ≡ v.rx_buffer) ⊎ (w.rx_buffer ≡ brought v.rx_buffer 0 []) → w.rx_buffer ≡ v.rx_buffer
      alone w (inl e) = e
      alone w (inr e) = e
  tested_brings r true = go (is_inside (accepted_window r v) s.seq_number (length s.payload)) refl
    where
      go : (b : Bool) → is_inside (accepted_window r v) s.seq_number (length s.payload) ≡ b → Brings r (if b then cut_inside (accepted_window r v) (cut_of (accepted_window r v) s.seq_number (length s.payload)) v (arrival now (tuple_of ip s) word s) else refused r v (arrival now (tuple_of ip s) word s)).view
      go false e = refused_brings r
      go true e = inside_brings numbered (counted_control s.control (accepted_window r v) s.seq_number (length s.payload)) (offset_in r) (bytes_in r) refl refl (Brings r) (λ w l k. record { listen = l; rx = there w k })
        where
          there : (w : View) → (w.rx_buffer ≡ v.rx_buffer) ⊎ (w.rx_buffer ≡ brought v.rx_buffer (offset_in r) (bytes_in r)) → (w.rx_buffer ≡ v.rx_buffer) ⊎ ((is_inside (accepted_window r v) s.seq_number (length s.payload) ≡ true) × (w.rx_buffer ≡ brought v.rx_buffer (offset_in r) (bytes_in r)))
          there w (inl h) = inl h
          there w (inr h) = inr (e, h)

  recovered_brings : (r : Rules) (w : View) → Brings r w → Brings r (recovered (before_of v s) w now)
  unfolding recovered
  recovered_brings r w h = record { listen = h.listen; rx = h.rx }

  by_verdict_brings : (r : Rules) (x : Verdict) → Brings r (by_verdict r x v (arrival now (tuple_of ip s) word s)).view
  by_verdict_brings r verdicts.Drop = kept r v (same v)
  by_verdict_brings r verdicts.Reset = kept r v (same v)
  by_verdict_brings r verdicts.Challenge = kept r _ (challenged_keeps s now v)
  by_verdict_brings r verdicts.Pass =
      let o = tested_by r (has_window v.state) v (arrival now (tuple_of ip s) word s) in
      let h = tested_brings r (has_window v.state) in
      let j = recovered_as (λ o. Brings r o.view) r v now s o h (recovered_brings r _ h) in
      closed_as (λ o. Brings r o.view) r (recovered_by r v now s o) j (record { listen = j.listen; rx = j.rx })

  -- ---- the peer

  inside_peers : (u : View) (c : TcpControl) (o : ℕ) (bs : List ℕ) → IsPeered u.state u.tuple (tuple_of ip s) → IsPeered (processed_inside u (arrival now (tuple_of ip s) word s) c o bs).view.state (processed_inside u (arrival now (tuple_of ip s) word s) c o bs).view.tuple (tuple_of ip s)
  unfolding processed_inside advanced
  inside_peers u c o bs p =
      let a = acked_of u s.control s.ack_number in
      let t = advance_in u.state c a.fin u (arrival now (tuple_of ip s) word s) a.len in
      go t.view (after_table t (arrival now (tuple_of ip s) word s) a o bs).view (table_peers s now u (tuple_of ip s) word a.len u.state c a.fin refl p) (after_keeps s now (tuple_of ip s) word t.next t.view a o bs)
    where
      go : (x w : View) → IsPeered x.state x.tuple (tuple_of ip s) → {n : Type 0} → (Keeps x w x.rx_buffer) ⊎ (Keeps x w (brought x.rx_buffer o bs) × n) → IsPeered w.state w.tuple (tuple_of ip s)
      go x w q (inl h) = subst (λ st. IsPeered st w.tuple (tuple_of ip s)) (sym h.state) (subst (λ z. IsPeered x.state z (tuple_of ip s)) (sym h.tuple) q)
      go x w q (inr h) = subst (λ st. IsPeered st w.tuple (tuple_of ip s)) (sym h.0.state) (subst (λ z. IsPeered x.state z (tuple_of ip s)) (sym h.0.tuple) q)

  abbrev Peered : View → Type 0
  Peered w = IsPeered w.state w.tuple (tuple_of ip s)

  kept_peered : (w : View) → Keeps v w v.rx_buffer → Peered v → Peered w
  kept_peered w k q = subst (λ st. IsPeered st w.tuple (tuple_of ip s)) (sym k.state) (subst (λ z. IsPeered v.state z (tuple_of ip s)) (sym k.tuple) q)

  refused_peers : (r : Rules) → Peered v → Peered (refused r v (arrival now (tuple_of ip s) word s)).view
  refused_peers r p = refused_as (λ o. Peered o.view) r v (arrival now (tuple_of ip s) word s) (record {
    answers = kept_peered _ (outside_keeps s now v) p;
    counts = λ e. inside_peers v control.Fin 0 [] p;
    hears = λ e. alone;
    ends = λ e. alone;
    goes_on = λ e. let k = outside_keeps s now (heard_alone v (arrival now (tuple_of ip s) word s)).view in subst (λ st. IsPeered st (outside (heard_alone v (arrival now (tuple_of ip s) word s)).view now s).view.tuple (tuple_of ip s)) (sym k.state) (subst (λ z. IsPeered (heard_alone v (arrival now (tuple_of ip s) word s)).view.state z (tuple_of ip s)) (sym k.tuple) alone);
  })
    where
      alone : Peered (heard_alone v (arrival now (tuple_of ip s) word s)).view
      alone = inside_peers v control.None 0 [] p

  tested_peers : (r : Rules) (b : Bool) → Peered v → Peered (tested_by r b v (arrival now (tuple_of ip s) word s)).view
  tested_peers r false p = inside_peers v s.control 0 [] p
  tested_peers r true p = go (is_inside (accepted_window r v) s.seq_number (length s.payload))
    where
      go : (b : Bool) → Peered (if b then cut_inside (accepted_window r v) (cut_of (accepted_window r v) s.seq_number (length s.payload)) v (arrival now (tuple_of ip s) word s) else refused r v (arrival now (tuple_of ip s) word s)).view
      go false = refused_peers r p
      go true = inside_peers numbered (counted_control s.control (accepted_window r v) s.seq_number (length s.payload)) (offset_in r) (bytes_in r) p

  recovered_peers : (w : View) → Peered w → Peered (recovered (before_of v s) w now)
  unfolding recovered
  recovered_peers w h = h

  by_verdict_peers : (r : Rules) (x : Verdict) → Peered v → Peered (by_verdict r x v (arrival now (tuple_of ip s) word s)).view
  by_verdict_peers r verdicts.Drop p = p
  by_verdict_peers r verdicts.Reset p = p
  by_verdict_peers r verdicts.Challenge p = kept_peered _ (challenged_keeps s now v) p
  by_verdict_peers r verdicts.Pass p =
      let o = tested_by r (has_window v.state) v (arrival now (tuple_of ip s) word s) in
      let h = tested_peers r (has_window v.state) p in
      let j = recovered_as (λ o. Peered o.view) r v now s o h (recovered_peers _ h) in
      closed_as (λ o. Peered o.view) r (recovered_by r v now s o) j (closed_peers (recovered_by r v now s o).view.state (recovered_by r v now s o).view.tuple (tuple_of ip s) j)

  -- ---- the reply

  inside_back : (u : View) (c : TcpControl) (o : ℕ) (bs : List ℕ) → GoesBack s (processed_inside u (arrival now (tuple_of ip s) word s) c o bs).reply
  unfolding processed_inside
  inside_back u c o bs = after_back s now (tuple_of ip s) word _ _ _ o bs

  refused_back : (r : Rules) → GoesBack s (refused r v (arrival now (tuple_of ip s) word s)).reply
  refused_back r = refused_as (λ o. GoesBack s o.reply) r v (arrival now (tuple_of ip s) word s) (record {
    answers = outside_back s now v;
    counts = λ e. inside_back v control.Fin 0 [];
    hears = λ e. inside_back v control.None 0 [];
    ends = λ e. tt;
    goes_on = λ e. outside_back s now (heard_alone v (arrival now (tuple_of ip s) word s)).view;
  })

  tested_back : (r : Rules) (b : Bool) → GoesBack s (tested_by r b v (arrival now (tuple_of ip s) word s)).reply
  tested_back r false = inside_back v s.control 0 []
  tested_back r true = go (is_inside (accepted_window r v) s.seq_number (length s.payload))
    where
      go : (b : Bool) → GoesBack s (if b then cut_inside (accepted_window r v) (cut_of (accepted_window r v) s.seq_number (length s.payload)) v (arrival now (tuple_of ip s) word s) else refused r v (arrival now (tuple_of ip s) word s)).reply
      go false = refused_back r
      go true = inside_back numbered (counted_control s.control (accepted_window r v) s.seq_number (length s.payload)) (offset_in r) (bytes_in r)

  told_back : (r : Rules) (x : Option Segment) → GoesBack s x → GoesBack s (duplicate_told r v s x)
  told_back rules.Smoltcp x h = h
  told_back rules.Rfc None h = h
  told_back rules.Rfc (Some x) h = h

  by_verdict_back : (r : Rules) (x : Verdict) → GoesBack s (by_verdict r x v (arrival now (tuple_of ip s) word s)).reply
  by_verdict_back r verdicts.Drop = tt
  by_verdict_back r verdicts.Reset = (refl, refl)
  by_verdict_back r verdicts.Challenge = challenged_back s now v
  by_verdict_back r verdicts.Pass =
      let o = tested_by r (has_window v.state) v (arrival now (tuple_of ip s) word s) in
      let h = tested_back r (has_window v.state) in
      let j = recovered_as (λ o. GoesBack s o.reply) r v now s o h h in
      told_back r (closed_then r (recovered_by r v now s o)).reply (closed_as (λ o. GoesBack s o.reply) r (recovered_by r v now s o) j j)

-- ---- the whole, of a segment with the window that it counts as telling

pub process_brings : (v : View) (now : Instant) (word : ℕ) (ip : IpRepr) (s : Segment) (r : Rules) → Brings v now word ip s r (processed_by r v now word ip s).view
unfolding processed_by
process_brings v now word ip s r = let h = by_verdict_brings v now word ip (windowed r v s) r (verdict_by r v now s) in record { listen = h.listen; rx = h.rx }

pub process_peers : (v : View) (now : Instant) (word : ℕ) (ip : IpRepr) (s : Segment) (r : Rules) → Peered v now word ip s v → Peered v now word ip s (processed_by r v now word ip s).view
unfolding processed_by
process_peers v now word ip s r p = by_verdict_peers v now word ip (windowed r v s) r (verdict_by r v now s) p

pub process_back : (v : View) (now : Instant) (word : ℕ) (ip : IpRepr) (s : Segment) (r : Rules) → GoesBack s (processed_by r v now word ip s).reply
unfolding processed_by
process_back v now word ip s r = by_verdict_back v now word ip (windowed r v s) r (verdict_by r v now s)
