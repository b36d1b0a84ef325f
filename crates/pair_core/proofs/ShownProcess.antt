-- What `process` does to a socket is an effect of a segment on the two streams.
use Rattle.std.proofs.Common.{◌≡◌, ℕ, ◌+◌, ◌-◌, ◌%◌, ◌^◌, ◌<◌, ◌≤◌, ◌⊎◌, Bool, true, false, true≢false, refl, sym, ap, subst, ◌∙◌, arith, List, [], length, drop, append-nil, Option, Some, None, inl, inr, ⊎_elim}
use Rattle.std.specs.Prelude.{option_map, not, ◌==◌, if◌then◌else◌}
use Rattle.std.proofs.lemmas.Bool.{and_parts, eqb-true}
use Rattle.std.proofs.lemmas.Option.{none-some}
use Rattle.std.proofs.lemmas.Bool.Decides.{nat_tests}
use Rattle.std.proofs.lemmas.List.{drop_all}
use Rattle.ip_wire.specs.declared.repr.IpRepr.{IpRepr}
use Rattle.net_base.specs.declared.time.Instant.{Instant}
use Rattle.control_wire.specs.Seq.{seq_add, seq_sub, seq_eq}
use Rattle.control_wire.specs.Segment.{Segment}
use Rattle.control_wire.specs.declared.seq_number.TcpSeqNumber.{TcpSeqNumber}
use Rattle.control_wire.specs.declared.tcp.TcpControl.{TcpControl}
use Rattle.control_wire.specs.declared.tcp.TcpControl.TheVariants as control
use Rattle.sock_core.specs.Places.{number_distance, number_is_before}
use Rattle.sock_core.specs.Received.{Received, room_of}
use Rattle.sock_core.specs.Seq.{is_not_after, later_of}
use Rattle.sock_core.specs.Streams.{fin_length}
use Rattle.pair_core.proofs.ShownNumbers.{renumbered_effect}
use Rattle.sock_tcp.specs.Rfc.Windows.{ack_heeded, is_heeded, is_heeding, windowed}
use Rattle.tcp_laws.proofs.Heeding.{heeded_none, heeded_small}
use Rattle.sock_tcp.specs.Rfc.Duplicates.{duplicate_told}
use Rattle.sock_tcp.specs.Rfc.Numbers.{reply_numbered}
use Rattle.sock_tcp.specs.Arrival.{Arrival, arrival}
use Rattle.sock_tcp.specs.View.{View, FinSays}
use Rattle.sock_tcp.specs.Verdict.{verdict_at, verdict_of}
use Rattle.sock_tcp.specs.Window.{next_ack, accepted_window, honored_window, is_inside, cut_of, cut_bytes}
use Rattle.sock_tcp.specs.Acked.{syn_place, acked_places, acked_at, acked_of, nothing_acked}
use Rattle.sock_tcp.specs.Advance.{advanced, advance_in, counted_control, dropped, fallen_back, fin_counted, moved_to, opened_state, options_taken, syn_answered, syn_received, waiting, nothing_new_by}
use Rattle.ip_wire.specs.declared.endpoint.IpListenEndpoint.{IpListenEndpoint}
use Rattle.sock_tcp.specs.Process.{Outcome, stopped, tuple_of, after_table, after_advance, has_window, challenged, outside, bytes_taken, processed_inside, cut_inside, tested, by_verdict, closed_then, processed, processed_by, told_then, Accepts, AcceptsIn, IsAddressed}
use Rattle.sock_tcp.specs.Closing.{closed_from, late_from}
use Rattle.sock_tcp.specs.Rfc.Recovery.{before_of, recovered, recovered_by}
use Rattle.sock_tcp.specs.Rfc.Refused.{is_fin as rfc_fin}
use Rattle.sock_tcp.specs.Steps.{heard}
use Rattle.sock_tcp.specs.declared.acked.Acked.{Acked}
use Rattle.sock_tcp.specs.declared.advance.Next.TheVariants as next
use Rattle.sock_tcp.specs.declared.state.State.{State}
use Rattle.sock_tcp.specs.declared.state.State.TheVariants as state
use Rattle.sock_tcp.specs.declared.verdict.Verdict.{Verdict}
use Rattle.sock_tcp.specs.declared.verdict.Verdict.TheVariants as verdicts
use Rattle.sock_tcp.specs.declared.window.Cut.{Cut}
use Rattle.sock_tcp.specs.declared.window.Window.{Window}
use Rattle.sock_tcp.proofs.Acking.{acked_fits}
use Rattle.tcp_laws.proofs.Frames.{brought}
use Rattle.sock_tcp.proofs.Windows.{accepted_end_small, accepted_is, accepted_width, cut_fits_in}
use Rattle.pair_core.specs.PairLaws.{IsBounded}
use Rattle.pair_core.specs.PairNetwork.{phase_of, shown, stream_segment, is_fin, is_passive, is_rst, is_syn, IsSmall}
use Rattle.pair_core.specs.StreamCalls.{Answers as StreamAnswers, ClosesLate, Data, EndsWithQueues, HearEffect, ProcessEffect, Nothing, Acknowledgement, FallBack, ResetReply, Segment as MayAnswer, Syn, SynAck, SynAlone}
use Rattle.pair_core.specs.StreamEffects.{AcksBytes, AcksFin, AcksSyn, HearsAck, HearsData, StaysSending}
use Rattle.pair_core.specs.StreamTables.{HasSendingBounds, OfBytes, OfFin, OfSyn, segment_end}
use Rattle.pair_core.specs.StreamViews as phase
use Rattle.pair_core.specs.StreamViews.{Phase, SocketView, StreamSegment, HasIss, KnowsPeer, IsNonSynchronized, IsSynchronized}
use Rattle.pair_core.proofs.ShownReplies.{Answered, answers_as, bytes_there, challenged_there, outside_there}
use Rattle.pair_core.proofs.ShownRows.{answer_in, heard_within, knows_iss, later_same, nxt_alone, nxt_joins, nxt_past_fin}
use Rattle.pair_core.proofs.ShownSteps.{FinInside, acked_none, acked_some, acked_view, acked_when, challenge_says, counted_fin, counted_plain, counted_rst, heard_shown, knows_peer, passes_syn, passes_with, reset_says}
use Rattle.pair_core.proofs.ShownWindow.{FinCounts, before_shown, comes, cut_heard, cut_shown, edge_shown, grows, inside_shown, later_shown, offset_shown}
use Rattle.pair_core.proofs.NetworkPhases.{synchronized_knows}
use Rattle.pair_core.proofs.StreamTables.{passes_heard}
use Rattle.sock_tcp.specs.Rfc.Refused.{is_plain_control, refused}
use Rattle.sock_tcp.specs.declared.rules.Rules.{Rules}
use Rattle.sock_tcp.specs.declared.rules.Rules.TheVariants as rules
use Rattle.sock_tcp.specs.declared.tuple.Tuple.{Tuple}
use Rattle.sock_tcp.proofs.Checking.{verdict_as}
use Rattle.sock_tcp.proofs.Recovering.{recovered_as}
use Rattle.sock_tcp.proofs.Refusing.{counts_fin, fin_is_plain, heard_alone, refused_as}

fin_is : (c : TcpControl) → rfc_fin c ≡ true → is_fin c ≡ true
fin_is control.Fin e = refl
fin_is control.None e = absurd (true≢false (sym e))
fin_is control.Psh e = absurd (true≢false (sym e))
fin_is control.Syn e = absurd (true≢false (sym e))
fin_is control.Rst e = absurd (true≢false (sym e))

plain_unreset : (c : TcpControl) → is_plain_control c ≡ true → is_rst c ≡ false
plain_unreset control.Fin e = refl
plain_unreset control.None e = refl
plain_unreset control.Psh e = refl
plain_unreset control.Syn e = absurd (true≢false (sym e))
plain_unreset control.Rst e = absurd (true≢false (sym e))

module _ (v : View) (now : Instant) (word : ℕ) (ip : IpRepr) (s : Segment) (at_release at_take then_release then_take : ℕ) (small : IsSmall s) (room : room_of v.rx_buffer ≤ 2 ^ 30) (says : FinSays v.state v.rx_fin_received) (bounds : IsBounded v) (accepted : Accepts v ip s) where
  abbrev the_segment : StreamSegment
  the_segment = stream_segment s at_release at_take

  abbrev IsEffect : Outcome → Type 0
  IsEffect o = ProcessEffect (is_passive v) (shown v) (shown o.view) the_segment (option_map (λ (x : Segment). stream_segment x then_release then_take) o.reply)

  abbrev come : Arrival
  come = arrival now (tuple_of ip s) word s

  -- its number is remembered
  abbrev numbered : View
  numbered = record v { local_rx_last_seq = Some s.seq_number }

  -- the window in which it is taken
  abbrev the_window : Window
  the_window = record { start = next_ack v; end = (accepted_window v.rules v).end }

  abbrev the_cut : Cut
  the_cut = cut_of the_window s.seq_number (length s.payload)

  abbrev the_bytes : List ℕ
  the_bytes = cut_bytes the_cut s.payload

  abbrev in_window : Bool
  in_window = is_inside the_window s.seq_number (length s.payload)

  abbrev the_control : TcpControl
  the_control = counted_control s.control the_window s.seq_number (length s.payload)

  abbrev queued : ℕ
  queued = length v.tx_buffer.bytes

  not_closed : v.state ≡ state.Closed → ⊥
  not_closed e = subst (λ st. AcceptsIn st v ip s) e accepted

  -- ---- rows that stop

  -- nothing is heard
  silent : (w : View) → shown w ≡ shown v → IsEffect (stopped w)
  silent w e = record { heard = shown v; hears = Nothing refl; answers = tt; ends = inl e }

  -- nothing is heard, and the answer acknowledges where the socket stands
  answered : has_window v.state ≡ true → (o : Outcome) → Answered s (shown v) o → IsEffect o
  answered w o a =
      let knows = knows_peer v.state w not_closed in
      let iss = knows_iss (phase_of v.state) knows in
      let b = bounds.sending iss in
      record {
        heard = shown v;
        hears = Nothing refl;
        answers = answers_as s then_release then_take (shown v) o.reply the_segment iss knows (record { flight = b.flight; is = b.snd_nxt; le = b.flight_le }) a.answer;
        ends = inl a.view;
      }

  dies : IsEffect (stopped (dropped numbered))
  dies = record { heard = shown v; hears = Nothing refl; answers = tt; ends = inr (inl (record { phase = refl; transmit_queue = refl; receive_queue = refl; fin = λ e. e })) }

  dies_alone : IsEffect (stopped (dropped v))
  dies_alone = record { heard = shown v; hears = Nothing refl; answers = tt; ends = inr (inl (record { phase = refl; transmit_queue = refl; receive_queue = refl; fin = λ e. e })) }

  falls_back : v.state ≡ state.SynReceived → is_rst s.control ≡ true → IsEffect (stopped (fallen_back numbered))
  unfolding fallen_back
  falls_back es rst = go (v.listen_endpoint.port == 0) refl
    where
      go : (b : Bool) → (v.listen_endpoint.port == 0) ≡ b → IsEffect (stopped (record numbered { state = if b then state.Closed else state.Listen; tuple = None }))
      go true e = dies
      go false e = record { heard = record (shown v) { phase = phase.Listening }; hears = FallBack rst (ap phase_of es) (ap not e) refl; answers = tt; ends = inl refl }

  -- ---- rows that go on

  acks : (k : TcpSeqNumber) → s.ack_number ≡ Some k → the_segment.ack ≡ Some k.0
  acks k e = ap (λ (o : Option TcpSeqNumber). option_map (λ (x : TcpSeqNumber). x.0) o) e

  -- ---- acknowledgements

  module _ (y : SocketView) (k : TcpSeqNumber) (n : ℕ) (iss : HasIss (phase_of v.state)) (ek : s.ack_number ≡ Some k) (una : y.snd_una ≡ k.0) (queue : y.transmit_queue ≡ drop n v.tx_buffer.bytes) (nxt : y.snd_nxt ≡ (later_of v.remote_last_seq k).0) where
    of_bytes : y.phase ≡ phase_of v.state → n ≡ seq_sub k v.local_seq_no → n ≤ queued → HearsAck (shown v) y the_segment
    unfolding number_distance
    of_bytes ph is le = passes_heard _ _ _ (bounds.sending iss) (OfBytes k.0 (acks k ek) (small.ack k ek) (omega (arith, le, is)) ph una (queue ∙ ap (λ m. drop m v.tx_buffer.bytes) is) (nxt ∙ later_shown v.remote_last_seq k))

    of_syn : phase_of v.state ≡ phase.SynReceived → y.phase ≡ phase.Open → n ≡ seq_sub k v.local_seq_no - 1 → seq_eq k (seq_add v.local_seq_no 1) ≡ true → HearsAck (shown v) y the_segment
    of_syn from ph is e =
        let b = bounds.sending iss in
        let same : k.0 ≡ (seq_add v.local_seq_no 1).0 = eqb-true k.0 (seq_add v.local_seq_no 1).0 e in
        let none : n ≡ 0 = omega (arith, is, same, b.snd_una) in
        passes_heard _ _ _ b (OfSyn k.0 (acks k ek) same (inr from) ph una (queue ∙ ap (λ m. drop m v.tx_buffer.bytes) none) (inl (nxt ∙ later_shown v.remote_last_seq k)))

    of_fin : phase_of v.state ≡ phase.FinQueued → y.phase ≡ phase.Silent → n + 1 ≡ seq_sub k v.local_seq_no → n ≡ queued → HearsAck (shown v) y the_segment
    unfolding number_distance
    of_fin from ph is all =
        passes_heard _ _ _ (bounds.sending iss) (OfFin k.0 (acks k ek) (small.ack k ek) (omega (arith, is, all)) from ph una (queue ∙ drop_all n v.tx_buffer.bytes (omega (arith, all))) (nxt ∙ later_shown v.remote_last_seq k))

  -- ---- the control bit the_bit counts, and the bytes come_bytes come, at_offset past RCV.NXT

  module _ (last : Option TcpSeqNumber) (the_bit : TcpControl) (at_offset : ℕ) (come_bytes : List ℕ) (IsFin : Type 0) (is_fin_of : the_bit ≡ control.Fin → IsFin) where
    abbrev based : View
    based = record v { local_rx_last_seq = last }

    -- what such a row leaves: u, in the phase p or CLOSED, with a FIN that counts or none
    record IsRow (u : View) (p : Phase) : Type 0 where
      rx : u.rx_buffer ≡ v.rx_buffer
      fin : u.rx_fin_received ≡ true → (v.rx_fin_received ≡ true) ⊎ IsFin
      kept : v.rx_fin_received ≡ true → u.rx_fin_received ≡ true
      fins : ℕ
      counts : fin_length u.rx_fin_received ≡ fin_length v.rx_fin_received + fins
      nxt : (m : ℕ) → (u.remote_seq_no.0 + m) % 2 ^ 32 ≡ (v.remote_seq_no.0 + m + fins) % 2 ^ 32
      ends : (phase_of u.state ≡ p) ⊎ (phase_of u.state ≡ phase.Dead)

    no_fin : (u : View) (p : Phase) → u.rx_buffer ≡ v.rx_buffer → u.rx_fin_received ≡ v.rx_fin_received → u.remote_seq_no ≡ v.remote_seq_no → (phase_of u.state ≡ p) ⊎ (phase_of u.state ≡ phase.Dead) → IsRow u p
    no_fin u p rx fin nxt ends = record { rx = rx; fin = λ e. inl (sym fin ∙ e); kept = λ e. fin ∙ e; fins = 0; counts = omega (arith, ap fin_length fin); nxt = λ m. ap (λ (n : TcpSeqNumber). (n.0 + m) % 2 ^ 32) nxt ∙ ap (λ n. n % 2 ^ 32) (omega arith); ends = ends }

    with_fin : (u : View) (p : Phase) → the_bit ≡ control.Fin → v.rx_fin_received ≡ false → u.rx_buffer ≡ v.rx_buffer → u.rx_fin_received ≡ true → u.remote_seq_no ≡ seq_add v.remote_seq_no 1 → (phase_of u.state ≡ p) ⊎ (phase_of u.state ≡ phase.Dead) → IsRow u p
    with_fin u p ec none rx fin nxt ends = record {
      rx = rx;
      fin = λ e. inr (is_fin_of ec);
      kept = λ e. fin;
      fins = 1;
      counts = omega (arith, ap fin_length fin, ap fin_length none);
      nxt = λ m. ap (λ (n : TcpSeqNumber). (n.0 + m) % 2 ^ 32) nxt ∙ nxt_past_fin v.remote_seq_no.0 m;
      ends = ends;
    }

    -- the bytes join, or are held
    module _ (plain : is_rst s.control ≡ false) (knows : KnowsPeer (phase_of v.state)) (k : TcpSeqNumber) (ek : s.ack_number ≡ Some k) where
      abbrev after_bytes : View → ℕ → View
      after_bytes u n = record (acked_view u n (Some k)) { rx_buffer = brought v.rx_buffer at_offset come_bytes }

      abbrev heard_as : View → ℕ → Phase → SocketView
      heard_as u n p = record (shown (after_bytes u n)) { phase = p }

      module _ (data_heard : (u : View) (n : ℕ) (p : Phase) → IsRow u p → HearsData (shown v) (heard_as u n p) the_segment) (windowed : has_window v.state ≡ true) where
        -- such an outcome, or whatever is answered from where it leaves the socket
        abbrev GoesOn : Outcome → Type 0
        GoesOn x = IsEffect x × ((y : Outcome) → Answered s (shown x.view) y → IsEffect y)

        told : (x : Outcome) → Answered s (shown v) x → GoesOn x
        told x a = (answered windowed x a, λ y b. answered windowed y (subst (λ z. Answered s z y) a.view b))

        stops : (w : View) → shown w ≡ shown v → GoesOn (stopped w)
        stops w e = (silent w e, λ y b. answered windowed y (subst (λ z. Answered s z y) e b))

        -- a row that goes on
        row_heard : (u : View) (a : Acked) (p : Phase) → IsRow u p → HearsAck (shown v) (heard_as u a.len p) the_segment → IsSynchronized p → KnowsPeer p → GoesOn (bytes_taken (heard u now a s) now at_offset come_bytes s)
        row_heard u a p r ack sync known = (effect o here, λ y b. effect y (subst (λ q. Answered s q y) here.view b))
          where
            o : Outcome
            o = bytes_taken (heard u now a s) now at_offset come_bytes s

            z : SocketView
            z = shown (after_bytes u a.len)

            e : shown (record (heard u now a s) { rx_buffer = brought (heard u now a s).rx_buffer at_offset come_bytes }) ≡ z
            e = heard_shown now a s at_offset come_bytes u (Some k) ek ∙ ap (λ (b : Received). shown (record (acked_view u a.len (Some k)) { rx_buffer = brought b at_offset come_bytes })) r.rx

            here : Answered s z o
            here = subst (λ q. Answered s q o) e (bytes_there s now (heard u now a s) at_offset come_bytes)

            effect : (y : Outcome) → Answered s z y → IsEffect y
            effect y x = record {
              heard = heard_as u a.len p;
              hears = Acknowledgement plain knows (data_heard u a.len p r) ack sync;
              answers = answers_as s then_release then_take (heard_as u a.len p) y.reply the_segment (knows_iss p known) known (heard_within _ _ _ ack) (answer_in s z p y.reply x.answer);
              ends = ⊎_elim (λ h. inl (x.view ∙ ap (λ q. record z { phase = q }) h)) (λ h. inr (inl (record {
                phase = ap (λ (y : SocketView). y.phase) x.view ∙ h;
                transmit_queue = ap (λ (y : SocketView). y.transmit_queue) x.view;
                receive_queue = ap (λ (y : SocketView). y.receive_queue) x.view;
                fin = λ f. sym (ap (λ (y : SocketView). y.fin_counted) x.view) ∙ f;
              }))) r.ends;
            }

        -- ---- the rows of a segment that is no RST

        abbrev places : ℕ
        places = seq_sub k v.local_seq_no - 0

        abbrev syn_places : ℕ
        syn_places = seq_sub k v.local_seq_no - 1

        abbrev all_acked : Bool
        all_acked = is_not_after v.remote_last_seq k

        abbrev row_of : State → TcpControl → Acked → Outcome
        row_of st c a = after_table (advance_in st c a.fin based (arrival now (tuple_of ip s) word s) a.len) (arrival now (tuple_of ip s) word s) a at_offset come_bytes

        abbrev the_acked : Acked
        the_acked = acked_of v s.control s.ack_number

        acked_in : (st : State) → v.state ≡ st → the_acked ≡ acked_places st k v.remote_last_seq queued (seq_sub k v.local_seq_no - syn_place st)
        acked_in st es = (λ i. acked_at (es i) s.control (ek i) v.local_seq_no v.remote_last_seq queued) ∙ acked_some s.control st k v.local_seq_no v.remote_last_seq queued plain

        module _ (passed : verdict_of v s.control s.ack_number ≡ verdicts.Pass) where
          iss : HasIss (phase_of v.state)
          iss = knows_iss (phase_of v.state) knows

          fits : the_acked.len ≤ queued
          fits =
              let b = bounds.sending iss in
              subst (λ o. (acked_of v s.control o).len ≤ queued) (sym ek) (acked_fits s.control v k b.snd_una (small.ack k ek) b.room (subst (λ o. verdict_of v s.control o ≡ verdicts.Pass) ek passed))

          fits_in : (st : State) → v.state ≡ st → (acked_places st k v.remote_last_seq queued (seq_sub k v.local_seq_no - syn_place st)).len ≤ queued
          fits_in st es = subst (λ (a : Acked). a.len ≤ queued) (acked_in st es) fits

          unchanged_by : (n : ℕ) → n ≡ n - 0
          unchanged_by n = omega arith

          -- the acknowledgement of bytes, which leaves the phase
          bytes_row : (u : View) (a : Acked) → IsRow u (phase_of v.state) → a.len ≡ seq_sub k v.local_seq_no → a.len ≤ queued → u.tx_buffer.bytes ≡ v.tx_buffer.bytes → u.remote_last_seq ≡ v.remote_last_seq → IsSynchronized (phase_of v.state) → GoesOn (bytes_taken (heard u now a s) now at_offset come_bytes s)
          bytes_row u a r is le tx nxt sync = row_heard u a (phase_of v.state) r
              (of_bytes (heard_as u a.len (phase_of v.state)) k a.len iss ek refl (ap (drop a.len) tx) (ap (λ (n : TcpSeqNumber). (later_of n k).0) nxt) refl is le) sync knows

          -- the acknowledgement of the own FIN
          fin_row : (u : View) (a : Acked) → IsRow u phase.Silent → phase_of v.state ≡ phase.FinQueued → a.len + 1 ≡ seq_sub k v.local_seq_no → a.len ≡ queued → u.tx_buffer.bytes ≡ v.tx_buffer.bytes → u.remote_last_seq ≡ v.remote_last_seq → GoesOn (bytes_taken (heard u now a s) now at_offset come_bytes s)
          fin_row u a r from is all tx nxt = row_heard u a phase.Silent r
              (of_fin (heard_as u a.len phase.Silent) k a.len iss ek refl (ap (drop a.len) tx) (ap (λ (n : TcpSeqNumber). (later_of n k).0) nxt) from refl is all) tt tt

          -- the acknowledgement of the own SYN
          syn_row : (u : View) (a : Acked) → v.state ≡ state.SynReceived → IsRow u phase.Open → a.len ≡ syn_places → u.tx_buffer.bytes ≡ v.tx_buffer.bytes → u.remote_last_seq ≡ v.remote_last_seq → GoesOn (bytes_taken (heard u now a s) now at_offset come_bytes s)
          syn_row u a es r is tx nxt = row_heard u a phase.Open r
              (of_syn (heard_as u a.len phase.Open) k a.len iss ek refl (ap (drop a.len) tx) (ap (λ (n : TcpSeqNumber). (later_of n k).0) nxt) (ap phase_of es) refl is
              (passes_syn s.control k v.local_seq_no queued plain ((λ i. verdict_at (sym es i) s.control (sym ek i) v.local_seq_no queued) ∙ passed))) tt tt

          stays_in : (st : State) → v.state ≡ st → (phase_of v.state ≡ phase_of v.state) ⊎ (phase_of v.state ≡ phase.Dead)
          stays_in st es = inl refl

          says_none : (st : State) → v.state ≡ st → (FinSays st v.rx_fin_received → v.rx_fin_received ≡ false) → v.rx_fin_received ≡ false
          says_none st es f = f (subst (λ x. FinSays x v.rx_fin_received) es says)

          -- SYN-RECEIVED
          syn_received_rows : (c : TcpControl) → v.state ≡ state.SynReceived → the_bit ≡ c → (c ≡ control.Rst → ⊥) → GoesOn (row_of state.SynReceived c (acked_when false syn_places all_acked))
          unfolding fin_counted
          syn_received_rows control.None es ec unreset = syn_row (moved_to state.Established based) (acked_when false syn_places all_acked) es (no_fin _ _ refl refl refl (inl refl)) refl refl refl
          syn_received_rows control.Fin es ec unreset = syn_row (fin_counted state.CloseWait based) (acked_when false syn_places all_acked) es (with_fin _ _ ec (says_none _ es (λ e. e)) refl refl refl (inl refl)) refl refl refl
          syn_received_rows control.Psh es ec unreset = stops based refl
          syn_received_rows control.Syn es ec unreset = stops based refl
          syn_received_rows control.Rst es ec unreset = absurd (unreset refl)

          -- ESTABLISHED
          established_rows : (c : TcpControl) → v.state ≡ state.Established → the_bit ≡ c → (c ≡ control.Rst → ⊥) → places ≤ queued → GoesOn (row_of state.Established c (acked_when false places all_acked))
          unfolding fin_counted
          established_rows control.None es ec unreset le = bytes_row based (acked_when false places all_acked) (no_fin _ _ refl refl refl (inl refl)) (sym (unchanged_by _)) le refl refl (subst (λ st. IsSynchronized (phase_of st)) (sym es) tt)
          established_rows control.Fin es ec unreset le = bytes_row (fin_counted state.CloseWait based) (acked_when false places all_acked) (with_fin _ _ ec (says_none _ es (λ e. e)) refl refl refl (inl (sym (ap phase_of es)))) (sym (unchanged_by _)) le refl refl (subst (λ st. IsSynchronized (phase_of st)) (sym es) tt)
          established_rows control.Psh es ec unreset le = stops based refl
          established_rows control.Syn es ec unreset le = stops based refl
          established_rows control.Rst es ec unreset le = absurd (unreset refl)

          -- FIN-WAIT-2
          fin_wait_2_rows : (c : TcpControl) → v.state ≡ state.FinWait2 → the_bit ≡ c → (c ≡ control.Rst → ⊥) → places ≤ queued → GoesOn (row_of state.FinWait2 c (acked_when false places all_acked))
          unfolding fin_counted
          fin_wait_2_rows control.None es ec unreset le = bytes_row based (acked_when false places all_acked) (no_fin _ _ refl refl refl (inl refl)) (sym (unchanged_by _)) le refl refl (subst (λ st. IsSynchronized (phase_of st)) (sym es) tt)
          fin_wait_2_rows control.Fin es ec unreset le = bytes_row (waiting now (fin_counted state.TimeWait based)) (acked_when false places all_acked) (with_fin _ _ ec (says_none _ es (λ e. e)) refl refl refl (inl (sym (ap phase_of es)))) (sym (unchanged_by _)) le refl refl (subst (λ st. IsSynchronized (phase_of st)) (sym es) tt)
          fin_wait_2_rows control.Psh es ec unreset le = stops based refl
          fin_wait_2_rows control.Syn es ec unreset le = stops based refl
          fin_wait_2_rows control.Rst es ec unreset le = absurd (unreset refl)

          -- CLOSE-WAIT
          close_wait_rows : (c : TcpControl) → v.state ≡ state.CloseWait → (c ≡ control.Rst → ⊥) → places ≤ queued → GoesOn (row_of state.CloseWait c (acked_when false places all_acked))
          close_wait_rows control.None es unreset le = bytes_row based (acked_when false places all_acked) (no_fin _ _ refl refl refl (inl refl)) (sym (unchanged_by _)) le refl refl (subst (λ st. IsSynchronized (phase_of st)) (sym es) tt)
          close_wait_rows control.Fin es unreset le = stops based refl
          close_wait_rows control.Psh es unreset le = stops based refl
          close_wait_rows control.Syn es unreset le = stops based refl
          close_wait_rows control.Rst es unreset le = absurd (unreset refl)

          -- a FIN's place is the last
          last_place : (places == queued + 1) ≡ true → ((places - 1) + 1 ≡ seq_sub k v.local_seq_no) × (places - 1 ≡ queued)
          last_place e = let is : places ≡ queued + 1 = eqb-true places (queued + 1) e in (omega (arith, is), omega (arith, is))

          -- FIN-WAIT-1
          fin_wait_1_rows : (c : TcpControl) (t : Bool) → v.state ≡ state.FinWait1 → the_bit ≡ c → (c ≡ control.Rst → ⊥) → (places == queued + 1) ≡ t → (if t then places - 1 else places) ≤ queued → GoesOn (row_of state.FinWait1 c (acked_when t places all_acked))
          unfolding fin_counted
          fin_wait_1_rows control.None true es ec unreset e le = fin_row (moved_to state.FinWait2 based) (acked_when true places all_acked) (no_fin _ _ refl refl refl (inl refl)) (ap phase_of es) (last_place e).0 (last_place e).1 refl refl
          fin_wait_1_rows control.None false es ec unreset e le = bytes_row based (acked_when false places all_acked) (no_fin _ _ refl refl refl (inl refl)) (sym (unchanged_by _)) le refl refl (subst (λ st. IsSynchronized (phase_of st)) (sym es) tt)
          fin_wait_1_rows control.Fin true es ec unreset e le = fin_row (waiting now (fin_counted state.TimeWait based)) (acked_when true places all_acked) (with_fin _ _ ec (says_none _ es (λ e. e)) refl refl refl (inl refl)) (ap phase_of es) (last_place e).0 (last_place e).1 refl refl
          fin_wait_1_rows control.Fin false es ec unreset e le = bytes_row (fin_counted state.Closing based) (acked_when false places all_acked) (with_fin _ _ ec (says_none _ es (λ e. e)) refl refl refl (inl (sym (ap phase_of es)))) (sym (unchanged_by _)) le refl refl (subst (λ st. IsSynchronized (phase_of st)) (sym es) tt)
          fin_wait_1_rows control.Psh t es ec unreset e le = stops based refl
          fin_wait_1_rows control.Syn t es ec unreset e le = stops based refl
          fin_wait_1_rows control.Rst t es ec unreset e le = absurd (unreset refl)

          -- CLOSING
          closing_rows : (c : TcpControl) (t : Bool) → v.state ≡ state.Closing → (c ≡ control.Rst → ⊥) → (places == queued + 1) ≡ t → (if t then places - 1 else places) ≤ queued → GoesOn (row_of state.Closing c (acked_when t places all_acked))
          closing_rows control.None true es unreset e le = fin_row (waiting now based) (acked_when true places all_acked) (no_fin _ _ refl refl refl (inl refl)) (ap phase_of es) (last_place e).0 (last_place e).1 refl refl
          closing_rows control.None false es unreset e le = bytes_row based (acked_when false places all_acked) (no_fin _ _ refl refl refl (inl refl)) (sym (unchanged_by _)) le refl refl (subst (λ st. IsSynchronized (phase_of st)) (sym es) tt)
          closing_rows control.Fin t es unreset e le = stops based refl
          closing_rows control.Psh t es unreset e le = stops based refl
          closing_rows control.Syn t es unreset e le = stops based refl
          closing_rows control.Rst t es unreset e le = absurd (unreset refl)

          -- LAST-ACK: an acknowledgement of nothing new is challenged, or heard
          last_ack_row : (t : Bool) (r : Rules) → v.state ≡ state.LastAck → places ≤ queued → GoesOn (after_advance (if t then nothing_new_by r else next.Continue) based (arrival now (tuple_of ip s) word s) (acked_when false places all_acked) at_offset come_bytes)
          last_ack_row true rules.Smoltcp es le = told (challenged based now s) (challenged_there s now based (shown v) refl)
          last_ack_row _ r es le = bytes_row based (acked_when false places all_acked) (no_fin _ _ refl refl refl (inl refl)) (sym (unchanged_by _)) le refl refl (subst (λ st. IsSynchronized (phase_of st)) (sym es) tt)

          last_ack_rows : (c : TcpControl) (t : Bool) → v.state ≡ state.LastAck → (c ≡ control.Rst → ⊥) → (places == queued + 1) ≡ t → (if t then places - 1 else places) ≤ queued → GoesOn (row_of state.LastAck c (acked_when t places all_acked))
          last_ack_rows control.None true es unreset e le = fin_row (dropped based) (acked_when true places all_acked) (no_fin _ _ refl refl refl (inr refl)) (ap phase_of es) (last_place e).0 (last_place e).1 refl refl
          last_ack_rows control.None false es unreset e le = last_ack_row (places == 0) v.rules es le
          last_ack_rows control.Fin t es unreset e le = stops based refl
          last_ack_rows control.Psh t es unreset e le = stops based refl
          last_ack_rows control.Syn t es unreset e le = stops based refl
          last_ack_rows control.Rst t es unreset e le = absurd (unreset refl)

          -- TIME-WAIT
          time_wait_rows : (c : TcpControl) → (c ≡ control.Rst → ⊥) → GoesOn (row_of state.TimeWait c (acked_when false places all_acked))
          time_wait_rows control.None unreset = stops based refl
          time_wait_rows control.Fin unreset = stops based refl
          time_wait_rows control.Psh unreset = stops based refl
          time_wait_rows control.Syn unreset = stops based refl
          time_wait_rows control.Rst unreset = absurd (unreset refl)

          rows : (st : State) → v.state ≡ st → has_window st ≡ true → (the_bit ≡ control.Rst → ⊥) → GoesOn (row_of st the_bit (acked_places st k v.remote_last_seq queued (seq_sub k v.local_seq_no - syn_place st)))
          rows state.Closed es w unreset = absurd (not_closed es)
          rows state.Listen es w unreset = cc
          rows state.SynSent es w unreset = cc
          rows state.SynReceived es w unreset = syn_received_rows the_bit es refl unreset
          rows state.Established es w unreset = established_rows the_bit es refl unreset (fits_in state.Established es)
          rows state.FinWait1 es w unreset = fin_wait_1_rows the_bit (places == queued + 1) es refl unreset refl (fits_in state.FinWait1 es)
          rows state.FinWait2 es w unreset = fin_wait_2_rows the_bit es refl unreset (fits_in state.FinWait2 es)
          rows state.CloseWait es w unreset = close_wait_rows the_bit es unreset (fits_in state.CloseWait es)
          rows state.Closing es w unreset = closing_rows the_bit (places == queued + 1) es unreset refl (fits_in state.Closing es)
          rows state.LastAck es w unreset = last_ack_rows the_bit (places == queued + 1) es unreset refl (fits_in state.LastAck es)
          rows state.TimeWait es w unreset = time_wait_rows the_bit unreset

          plain_rows : has_window v.state ≡ true → (the_bit ≡ control.Rst → ⊥) → GoesOn (row_of v.state the_bit the_acked)
          plain_rows w unreset = subst (λ a. GoesOn (row_of v.state the_bit a)) (sym (acked_in v.state refl)) (rows v.state refl w unreset)

  -- ---- what lies inside the window

  abbrev FinIn : Type 0
  FinIn = FinInside the_window s.seq_number (length s.payload) s.control

  fin_in : the_control ≡ control.Fin → FinIn
  fin_in ec = counted_fin the_window s.seq_number (length s.payload) s.control ec

  module _ (here : in_window ≡ true) (plain : is_rst s.control ≡ false) (knows : KnowsPeer (phase_of v.state)) (k : TcpSeqNumber) (ek : s.ack_number ≡ Some k) where
    held_small : length v.rx_buffer.held ≤ 2 ^ 30
    held_small = omega (arith, room)

    data_heard : (u : View) (n : ℕ) (p : Phase) → IsRow (Some s.seq_number) the_control the_cut.offset the_bytes FinIn fin_in u p → HearsData (shown v) (heard_as (Some s.seq_number) the_control the_cut.offset the_bytes FinIn fin_in plain knows k ek u n p) the_segment
    data_heard u n p r =
        let low : the_window.start.0 < 2 ^ 32 = omega arith in
        let high : the_window.end.0 < 2 ^ 32 = accepted_end_small v.rules v in
        let within : seq_sub the_window.end the_window.start ≤ length v.rx_buffer.held = subst (λ (w : Window). seq_sub w.end w.start ≤ length v.rx_buffer.held) (accepted_is v.rules v) (accepted_width v.rules v held_small) in
        let brings = comes v.rx_buffer the_cut.offset the_bytes (cut_fits_in the_window (length v.rx_buffer.held) s.seq_number s.payload low high within held_small small.seq small.payload here) in
        let wide : seq_sub the_window.end the_window.start ≤ 2 ^ 30 = omega (arith, within, held_small) in
        let edge = edge_shown the_window.start the_window.end low high in
        let c = brought v.rx_buffer the_cut.offset the_bytes in
        let f : FinCounts (shown v) (heard_as (Some s.seq_number) the_control the_cut.offset the_bytes FinIn fin_in plain knows k ek u n p) the_segment ((the_window.start.0 + seq_sub the_window.end the_window.start) % 2 ^ 32) = record {
          fin = λ e. ⊎_elim inl (λ x. inr (x.is, before_shown the_window.start s.seq_number ∙ x.begins, ap (λ m. number_is_before m (segment_end the_segment)) edge ∙ before_shown the_window.end (seq_add s.seq_number (length s.payload)) ∙ x.ends)) (r.fin e);
          kept = r.kept;
          fins = r.fins;
          counts = r.counts;
        } in
        cut_heard (shown v) (heard_as (Some s.seq_number) the_control the_cut.offset the_bytes FinIn fin_in plain knows k ek u n p) the_segment (seq_sub the_window.end the_window.start) the_cut.offset the_bytes v.rx_buffer c brings low small.seq wide small.payload
        (inside_shown the_window s.seq_number (length s.payload) low high small.seq wide small.payload here)
        (cut_shown the_window s.seq_number the_segment low high refl) (offset_shown the_window s.seq_number the_segment refl) f
        (r.nxt (length c.bytes) ∙ nxt_joins v.remote_seq_no.0 (length v.rx_buffer.bytes) (length c.bytes) r.fins (grows _ _ _ _ brings))

  -- ---- an RST inside the window

  rst_row : (st : State) (a : Acked) → v.state ≡ st → is_rst s.control ≡ true → IsEffect (after_table (advance_in st control.Rst a.fin numbered (arrival now (tuple_of ip s) word s) a.len) (arrival now (tuple_of ip s) word s) a the_cut.offset the_bytes)
  rst_row state.SynReceived a es rst = falls_back es rst
  rst_row _ a es rst = dies

  inside : in_window ≡ true → has_window v.state ≡ true → verdict_of v s.control s.ack_number ≡ verdicts.Pass → IsEffect (cut_inside the_window the_cut v (arrival now (tuple_of ip s) word s))
  unfolding processed_inside advanced
  inside here w passed = go the_control refl
    where
      other : (the_control ≡ control.Rst → ⊥) → IsEffect (after_table (advance_in v.state the_control (acked_of v s.control s.ack_number).fin numbered (arrival now (tuple_of ip s) word s) (acked_of v s.control s.ack_number).len) (arrival now (tuple_of ip s) word s) (acked_of v s.control s.ack_number) the_cut.offset the_bytes)
      other unreset =
          let plain = counted_plain the_window s.seq_number (length s.payload) s.control unreset in
          let p = passes_with v.state s.control s.ack_number v.local_seq_no queued w plain passed in
          let knows = knows_peer v.state w not_closed in
          (plain_rows (Some s.seq_number) the_control the_cut.offset the_bytes FinIn fin_in plain knows p.0 p.1 (data_heard here plain knows p.0 p.1) w passed w unreset).0

      go : (c : TcpControl) → the_control ≡ c → IsEffect (after_table (advance_in v.state the_control (acked_of v s.control s.ack_number).fin numbered (arrival now (tuple_of ip s) word s) (acked_of v s.control s.ack_number).len) (arrival now (tuple_of ip s) word s) (acked_of v s.control s.ack_number) the_cut.offset the_bytes)
      go control.Rst e = subst (λ c. IsEffect (after_table (advance_in v.state c (acked_of v s.control s.ack_number).fin numbered (arrival now (tuple_of ip s) word s) (acked_of v s.control s.ack_number).len) (arrival now (tuple_of ip s) word s) (acked_of v s.control s.ack_number) the_cut.offset the_bytes)) (sym e) (rst_row v.state (acked_of v s.control s.ack_number) refl (counted_rst the_window s.seq_number (length s.payload) s.control e))
      go control.None e = other (λ h. let no : control.None ≡ control.Rst = sym e ∙ h in cc)
      go control.Psh e = other (λ h. let no : control.Psh ≡ control.Rst = sym e ∙ h in cc)
      go control.Syn e = other (λ h. let no : control.Syn ≡ control.Rst = sym e ∙ h in cc)
      go control.Fin e = other (λ h. let no : control.Fin ≡ control.Rst = sym e ∙ h in cc)

  -- ---- LISTEN and SYN-SENT, which take no bytes

  abbrev alone_of : State → TcpControl → Acked → Outcome
  alone_of st c a = after_table (advance_in st c a.fin v (arrival now (tuple_of ip s) word s) a.len) (arrival now (tuple_of ip s) word s) a 0 []

  alone : (u : View) (a : Acked) (k : Option TcpSeqNumber) → s.ack_number ≡ k → HearEffect (is_passive v) (shown v) (shown (acked_view u a.len k)) the_segment → IsEffect (bytes_taken (heard u now a s) now 0 [] s)
  unfolding bytes_taken
  alone u a k ek h = record { heard = shown (acked_view u a.len k); hears = h; answers = tt; ends = inl (heard_shown now a s 0 [] u k ek) }

  no_bytes : IsNonSynchronized (phase_of v.state) → length v.rx_buffer.bytes ≡ 0
  no_bytes e = ap length (bounds.unread e)

  listen_syn : v.state ≡ state.Listen → s.control ≡ control.Syn → s.ack_number ≡ None → word < 2 ^ 32 → IsEffect (alone_of state.Listen control.Syn nothing_acked)
  unfolding syn_received options_taken
  listen_syn es ec ek word_small =
      let none = no_bytes (subst (λ st. IsNonSynchronized (phase_of st)) (sym es) tt) in
      alone (syn_received v now (tuple_of ip s) word s) nothing_acked None ek (Syn word word_small (ap is_rst ec) (ap is_syn ec) (ap phase_of es)
      (λ i. record (shown v) { phase = phase.SynReceived; snd_una = word; snd_nxt = word; rcv_nxt = nxt_alone s.seq_number.0 (length v.rx_buffer.bytes) none i }))

  listen_rows : (c : TcpControl) → v.state ≡ state.Listen → s.control ≡ c → s.ack_number ≡ None → (c ≡ control.Rst → ⊥) → word < 2 ^ 32 → IsEffect (alone_of state.Listen c nothing_acked)
  listen_rows control.Syn es ec ek unreset small_word = listen_syn es ec ek small_word
  listen_rows control.None es ec ek unreset small_word = silent v refl
  listen_rows control.Psh es ec ek unreset small_word = silent v refl
  listen_rows control.Fin es ec ek unreset small_word = silent v refl
  listen_rows control.Rst es ec ek unreset small_word = absurd (unreset refl)

  -- a SYN alone in SYN-SENT
  syn_alone : v.state ≡ state.SynSent → s.control ≡ control.Syn → s.ack_number ≡ None → IsEffect (alone_of state.SynSent control.Syn nothing_acked)
  unfolding syn_answered options_taken
  syn_alone es ec ek =
      let none = no_bytes (subst (λ st. IsNonSynchronized (phase_of st)) (sym es) tt) in
      alone (syn_answered v s) nothing_acked None ek (SynAlone ((v.local_seq_no.0 + 1) % 2 ^ 32) (record { flight = 1; is = refl; le = omega arith }) (ap is_rst ec) (ap is_syn ec) (ap phase_of es)
      (λ i. record (shown v) { phase = phase_of (opened_state (ek i)); snd_nxt = (v.local_seq_no.0 + 1) % 2 ^ 32; rcv_nxt = nxt_alone s.seq_number.0 (length v.rx_buffer.bytes) none i }))

  -- a SYN that acknowledges the own one
  syn_ack : (k : TcpSeqNumber) (all : Bool) → v.state ≡ state.SynSent → s.control ≡ control.Syn → s.ack_number ≡ Some k → seq_eq k (seq_add v.local_seq_no 1) ≡ true → IsEffect (alone_of state.SynSent control.Syn (acked_when false (seq_sub k v.local_seq_no - 1) all))
  unfolding syn_answered options_taken
  syn_ack k all es ec ek e =
      let none = no_bytes (subst (λ st. IsNonSynchronized (phase_of st)) (sym es) tt) in
      let b = bounds.sending (subst (λ st. HasIss (phase_of st)) (sym es) tt) in
      let same : k.0 ≡ (seq_add v.local_seq_no 1).0 = eqb-true k.0 (seq_add v.local_seq_no 1).0 e in
      let zero : seq_sub k v.local_seq_no - 1 ≡ 0 = omega (arith, same, b.snd_una) in
      alone (syn_answered v s) (acked_when false (seq_sub k v.local_seq_no - 1) all) (Some k) ek (SynAck (ap is_rst ec) (ap is_syn ec) (ap phase_of es)
      (passes_heard _ _ _ b (OfSyn k.0 (acks k ek) same (inl (ap phase_of es)) (ap (λ o. phase_of (opened_state o)) ek) refl (ap (λ m. drop m v.tx_buffer.bytes) zero) (inr (later_same (seq_add v.local_seq_no 1) k (sym same)))))
      (ap (λ o. phase_of (opened_state o)) ek) (nxt_alone s.seq_number.0 (length v.rx_buffer.bytes) none) refl refl refl)

  syn_sent_rows : (c : TcpControl) (o : Option TcpSeqNumber) → v.state ≡ state.SynSent → s.control ≡ c → s.ack_number ≡ o → verdict_at state.SynSent c o v.local_seq_no queued ≡ verdicts.Pass → IsEffect (alone_of state.SynSent c (acked_at state.SynSent c o v.local_seq_no v.remote_last_seq queued))
  unfolding verdict_at acked_at
  syn_sent_rows control.Syn None es ec ek p = syn_alone es ec ek
  syn_sent_rows control.Syn (Some k) es ec ek p = syn_ack k (is_not_after v.remote_last_seq k) es ec ek (go (seq_eq k (seq_add v.local_seq_no 1)) p)
    where
      go : (b : Bool) → (if b then verdicts.Pass else verdicts.Reset) ≡ verdicts.Pass → b ≡ true
      go true e = refl
      go false e = cc
  syn_sent_rows control.Rst o es ec ek p = dies_alone
  syn_sent_rows _ o es ec ek p = silent v refl

  -- ---- the whole

  alone_rows : (st : State) → v.state ≡ st → has_window st ≡ false → verdict_of v s.control s.ack_number ≡ verdicts.Pass → word < 2 ^ 32 → IsEffect (alone_of st s.control (acked_at st s.control s.ack_number v.local_seq_no v.remote_last_seq queued))
  alone_rows state.Listen es w p small_word =
      let opens = (subst (λ st. AcceptsIn st v ip s) es accepted).0 in
      subst (λ a. IsEffect (alone_of state.Listen s.control a)) (sym (acked_none s.control state.Listen s.ack_number v.local_seq_no v.remote_last_seq queued opens.no_ack)) (listen_rows s.control es refl opens.no_ack opens.no_reset small_word)
  alone_rows state.SynSent es w p small_word = syn_sent_rows s.control s.ack_number es refl refl (ap (λ st. verdict_at st s.control s.ack_number v.local_seq_no queued) (sym es) ∙ p)
  alone_rows _ es w p small_word = cc

  unwindowed : has_window v.state ≡ false → verdict_of v s.control s.ack_number ≡ verdicts.Pass → word < 2 ^ 32 → IsEffect (processed_inside v (arrival now (tuple_of ip s) word s) s.control 0 [])
  unfolding processed_inside advanced
  unwindowed w p small_word = alone_rows v.state refl w p small_word

  -- ---- what lies outside of the window

  -- the number of the FIN is RCV.NXT
  record FinNext : Type 0 where
    is : the_segment.fin ≡ true
    there : segment_end the_segment ≡ (next_ack v).0

  -- no bytes come
  module _ (bit : TcpControl) (is_fin_of : bit ≡ control.Fin → FinNext) (plain : is_rst s.control ≡ false) (knows : KnowsPeer (phase_of v.state)) (k : TcpSeqNumber) (ek : s.ack_number ≡ Some k) where
    bare_data : (u : View) (n : ℕ) (p : Phase) → IsRow v.local_rx_last_seq bit 0 [] FinNext is_fin_of u p → HearsData (shown v) (heard_as v.local_rx_last_seq bit 0 [] FinNext is_fin_of plain knows k ek u n p) the_segment
    bare_data u n p r = record {
      more = [];
      receive_queue = sym (append-nil v.rx_buffer.bytes);
      joined = λ m b h. absurd (none-some b h);
      held = λ m b h. inl (subst (λ j. (shown v).held j ≡ Some b) {x = m} {y = 0 + m} (omega arith) h);
      fin = λ e. ⊎_elim inl (λ x. inr (0, x.is, omega arith, omega arith, x.there ∙ next_small)) (r.fin e);
      kept = r.kept;
      fins = r.fins;
      fin_counts = r.counts;
      rcv_nxt = r.nxt (length v.rx_buffer.bytes) ∙ omega arith;
    }
      where
        next_small : (next_ack v).0 ≡ ((next_ack v).0 + 0) % 2 ^ 32
        next_small = omega arith

  -- by the state table alone
  bare_rows : (bit : TcpControl) → (bit ≡ control.Rst → ⊥) → (bit ≡ control.Fin → FinNext) → is_plain_control s.control ≡ true → has_window v.state ≡ true → verdict_of v s.control s.ack_number ≡ verdicts.Pass → IsEffect (processed_inside v come bit 0 []) × ((y : Outcome) → Answered s (shown (processed_inside v come bit 0 []).view) y → IsEffect y)
  unfolding processed_inside advanced
  bare_rows bit unreset f e w passed =
      let plain = plain_unreset s.control e in
      let p = passes_with v.state s.control s.ack_number v.local_seq_no queued w plain passed in
      let knows = knows_peer v.state w not_closed in
      plain_rows v.local_rx_last_seq bit 0 [] FinNext f plain knows p.0 p.1 (bare_data bit f plain knows p.0 p.1) w passed w unreset

  next_fin : counts_fin v come ≡ true → FinNext
  unfolding honored_window
  next_fin e = let h = and_parts (rfc_fin s.control) (seq_eq (seq_add s.seq_number (length s.payload)) (next_ack v)) e in record { is = fin_is s.control h.0; there = eqb-true _ _ h.1 }

  refuses : (r : Rules) → has_window v.state ≡ true → verdict_of v s.control s.ack_number ≡ verdicts.Pass → IsEffect (refused r v come)
  refuses r w passed = refused_as IsEffect r v come (record {
    answers = answered w (outside v now s) (outside_there s now v);
    counts = λ e. (bare_rows control.Fin (λ h. let no : control.Fin ≡ control.Rst = h in cc) (λ _. next_fin e) (fin_is_plain v come e) w passed).0;
    hears = λ e. (alone_rows e).0;
    ends = λ e. (alone_rows e).1 (stopped (heard_alone v come).view) (record { view = refl; answer = inl refl });
    goes_on = λ e. (alone_rows e).1 (outside (heard_alone v come).view now s) (outside_there s now (heard_alone v come).view);
  })
    where
      alone_rows : is_plain_control s.control ≡ true → IsEffect (heard_alone v come) × ((y : Outcome) → Answered s (shown (heard_alone v come).view) y → IsEffect y)
      alone_rows e = bare_rows control.None (λ h. let no : control.None ≡ control.Rst = h in cc) (λ h. let no : control.None ≡ control.Fin = h in cc) e w passed

  by_window : (b : Bool) → in_window ≡ b → has_window v.state ≡ true → verdict_of v s.control s.ack_number ≡ verdicts.Pass → IsEffect (if b then cut_inside the_window the_cut v (arrival now (tuple_of ip s) word s) else refused v.rules v (arrival now (tuple_of ip s) word s))
  by_window true here w p = inside here w p
  by_window false here w p = refuses v.rules w p

  is_tested : (b : Bool) → has_window v.state ≡ b → verdict_of v s.control s.ack_number ≡ verdicts.Pass → word < 2 ^ 32 → IsEffect (tested b v (arrival now (tuple_of ip s) word s))
  is_tested true w p small_word = subst (λ (x : Window). IsEffect (if is_inside x s.seq_number (length s.payload) then cut_inside x (cut_of x s.seq_number (length s.payload)) v (arrival now (tuple_of ip s) word s) else refused v.rules v (arrival now (tuple_of ip s) word s))) (sym (accepted_is v.rules v)) (by_window in_window refl w p)
  is_tested false w p small_word = unwindowed w p small_word

  -- LISTEN lets no segment with an acknowledgement in
  no_ack : v.state ≡ state.Listen → s.ack_number ≡ None
  no_ack es = (subst (λ st. AcceptsIn st v ip s) es accepted).0.no_ack

  -- what is done of loss then is not shown
  recovered_effect : (o : Outcome) → IsEffect o → IsEffect (record { view = recovered (before_of v s) o.view now; reply = o.reply })
  unfolding recovered
  recovered_effect o h = h

  -- a close that waited is done in ESTABLISHED or CLOSE-WAIT, and in LISTEN ends the connection
  late_open : (w : View) (r : Option Segment) → phase_of w.state ≡ phase.Open → IsEffect (record { view = w; reply = r }) → IsEffect (record { view = record w { state = closed_from w.state }; reply = r })
  late_open w r is h = record { heard = h.heard; hears = h.hears; answers = h.answers; ends = by h.ends }
    where
      queued : (st : State) → phase_of st ≡ phase.Open → phase_of (closed_from st) ≡ phase.FinQueued
      queued state.Established e = refl
      queued state.CloseWait e = refl
      queued _ e = absurd cc

      by : (shown w ≡ h.heard) ⊎ EndsWithQueues h.heard (shown w) ⊎ ClosesLate h.heard (shown w) → (shown (record w { state = closed_from w.state }) ≡ h.heard) ⊎ EndsWithQueues h.heard (shown (record w { state = closed_from w.state })) ⊎ ClosesLate h.heard (shown (record w { state = closed_from w.state }))
      by (inl e) = inr (inr (record { phase = sym (ap (λ (y : SocketView). y.phase) e) ∙ is; is = (λ i. record (shown w) { phase = queued w.state is i }) ∙ ap (λ (y : SocketView). record y { phase = phase.FinQueued }) e }))
      by (inr (inl d)) = let no : phase.Open ≡ phase.Dead = sym is ∙ d.phase in cc
      by (inr (inr c)) = let no : phase.Open ≡ phase.FinQueued = sym is ∙ ap (λ (y : SocketView). y.phase) c.is in cc

  late_dead : (w : View) (r : Option Segment) → phase_of (closed_from w.state) ≡ phase.Dead → (phase_of w.state ≡ phase.FinQueued → ⊥) → IsEffect (record { view = w; reply = r }) → IsEffect (record { view = record w { state = closed_from w.state }; reply = r })
  late_dead w r is alive h = record { heard = h.heard; hears = h.hears; answers = h.answers; ends = by h.ends }
    where
      by : (shown w ≡ h.heard) ⊎ EndsWithQueues h.heard (shown w) ⊎ ClosesLate h.heard (shown w) → (shown (record w { state = closed_from w.state }) ≡ h.heard) ⊎ EndsWithQueues h.heard (shown (record w { state = closed_from w.state })) ⊎ ClosesLate h.heard (shown (record w { state = closed_from w.state }))
      by (inl e) = inr (inl (record { phase = is; transmit_queue = ap (λ (y : SocketView). y.transmit_queue) e; receive_queue = ap (λ (y : SocketView). y.receive_queue) e; fin = λ f. sym (ap (λ (y : SocketView). y.fin_counted) e) ∙ f }))
      by (inr (inl d)) = inr (inl (record { phase = is; transmit_queue = d.transmit_queue; receive_queue = d.receive_queue; fin = d.fin }))
      by (inr (inr c)) = absurd (alive (ap (λ (y : SocketView). y.phase) c.is))

  late_by : (w : View) (r : Option Segment) (st : State) → w.state ≡ st → IsEffect (record { view = w; reply = r }) → IsEffect (record { view = record w { state = late_from st }; reply = r })
  late_by w r state.SynReceived e h = subst (λ st. IsEffect (record { view = record w { state = st }; reply = r })) e h
  late_by w r state.Established e h = subst (λ st. IsEffect (record { view = record w { state = closed_from st }; reply = r })) e (late_open w r (ap phase_of e) h)
  late_by w r state.CloseWait e h = subst (λ st. IsEffect (record { view = record w { state = closed_from st }; reply = r })) e (late_open w r (ap phase_of e) h)
  late_by w r state.Listen e h = subst (λ st. IsEffect (record { view = record w { state = closed_from st }; reply = r })) e (late_dead w r (ap (λ st. phase_of (closed_from st)) e) (λ q. let no : phase.Listening ≡ phase.FinQueued = sym (ap phase_of e) ∙ q in cc) h)
  late_by w r state.SynSent e h = subst (λ st. IsEffect (record { view = record w { state = closed_from st }; reply = r })) e (late_dead w r (ap (λ st. phase_of (closed_from st)) e) (λ q. let no : phase.SynSent ≡ phase.FinQueued = sym (ap phase_of e) ∙ q in cc) h)
  late_by w r state.Closed e h = subst (λ st. IsEffect (record { view = record w { state = st }; reply = r })) e h
  late_by w r state.FinWait1 e h = subst (λ st. IsEffect (record { view = record w { state = st }; reply = r })) e h
  late_by w r state.FinWait2 e h = subst (λ st. IsEffect (record { view = record w { state = st }; reply = r })) e h
  late_by w r state.Closing e h = subst (λ st. IsEffect (record { view = record w { state = st }; reply = r })) e h
  late_by w r state.LastAck e h = subst (λ st. IsEffect (record { view = record w { state = st }; reply = r })) e h
  late_by w r state.TimeWait e h = subst (λ st. IsEffect (record { view = record w { state = st }; reply = r })) e h

  closed_effect : (r : Rules) (o : Outcome) → IsEffect o → IsEffect (closed_then r o)
  closed_effect rules.Smoltcp o h = h
  closed_effect rules.Rfc o h = by o.view.close_waits
    where
      by : (b : Bool) → IsEffect (record { view = record o.view { state = if b then late_from o.view.state else o.view.state }; reply = o.reply })
      by true = late_by o.view o.reply o.view.state refl h
      by false = h

  -- what is told by SACK is no part of a stream
  told_effect : (r : Rules) (o : Outcome) → IsEffect o → IsEffect (told_then r v s o)
  told_effect rules.Smoltcp o h = h
  told_effect rules.Rfc o h = by o.reply h
    where
      by : (x : Option Segment) → IsEffect (record { view = o.view; reply = x }) → IsEffect (record { view = o.view; reply = duplicate_told rules.Rfc v s x })
      by None e = e
      by (Some x) e = e

  -- in a state with a window
  challenged_in : has_window v.state ≡ true → IsEffect (challenged v now s)
  challenged_in w = answered w (challenged v now s) (challenged_there s now v (shown v) refl)

  by_the_verdict : (x : Verdict) → verdict_of v s.control s.ack_number ≡ x → word < 2 ^ 32 → IsEffect (by_verdict v.rules x v (arrival now (tuple_of ip s) word s))
  by_the_verdict verdicts.Drop e small_word = silent v refl
  by_the_verdict verdicts.Reset e small_word =
      let r = reset_says v.state s.control s.ack_number v.local_seq_no queued e in
      record {
        heard = shown v;
        hears = Nothing refl;
        answers = ResetReply r.ack.0 refl r.plain (⊎_elim (λ h. inl (ap phase_of h)) (λ h. inr (ap phase_of h)) r.opening) (acks r.ack r.is) (λ h. grind (arith, nat_tests, r.other, h));
        ends = inl refl;
      }
  by_the_verdict verdicts.Challenge e small_word = challenged_in (challenge_says v.state s.control s.ack_number v.local_seq_no queued no_ack e)
  by_the_verdict verdicts.Pass e small_word =
      let o : Outcome = tested (has_window v.state) v (arrival now (tuple_of ip s) word s) in
      let h = is_tested (has_window v.state) refl e small_word in
      told_effect v.rules (closed_then v.rules (recovered_by v.rules v now s o))
      (closed_effect v.rules (recovered_by v.rules v now s o) (recovered_as IsEffect v.rules v now s o h (recovered_effect o h)))

-- ---- an acknowledgement that is ignored

module _ (l : Bool) (v : SocketView) (g : StreamSegment) (k : Option ℕ) (live : IsSynchronized v.phase) (at_una : k ≡ Some v.snd_una) (b : HasSendingBounds v) where
  abbrev at_k : StreamSegment
  at_k = record g { ack = k }

  same_data : (u : SocketView) → HearsData v u at_k → HearsData v u g
  same_data u d = record { more = d.more; receive_queue = d.receive_queue; joined = d.joined; held = d.held; fin = d.fin; kept = d.kept; fins = d.fins; fin_counts = d.fin_counts; rcv_nxt = d.rcv_nxt }

  is_una : (a : ℕ) → at_k.ack ≡ Some a → a ≡ v.snd_una
  is_una a e = let same : Some v.snd_una ≡ Some a = sym at_una ∙ e in let out : v.snd_una ≡ a = cc in sym out

  ignored : (u : SocketView) → HearsAck v u at_k → StaysSending v u
  ignored u (AcksBytes a n e le is ph una queue within) =
      let none : n ≡ 0 = omega (arith, is, is_una a e, le, b.snd_una, b.room) in
      record { phase = ph; snd_una = una ∙ is_una a e; transmit_queue = queue ∙ ap (λ m. drop m v.transmit_queue) none; snd_nxt = within }
  ignored u (AcksSyn a e is from to una queue within) = absurd (⊎_elim (λ q. subst IsSynchronized q live) (λ q. subst IsSynchronized q live) from)
  ignored u (AcksFin a e is from to una queue within) = absurd (omega (arith, is, is_una a e, b.snd_una, b.room))

  ignoring : (u : SocketView) → HearEffect l v u at_k → HearEffect l v u g
  ignoring u (Nothing is) = Nothing is
  ignoring u (Data plain was d same) = Data plain was (same_data u d) same
  ignoring u (Acknowledgement plain knows d ack now) = Data plain live (same_data u d) (ignored u ack)
  ignoring u (FallBack r was listener is) = absurd (subst IsSynchronized was live)
  ignoring u (Syn iss less plain syn was is) = absurd (subst IsSynchronized was live)
  ignoring u (SynAlone n within plain syn was is) = absurd (subst IsSynchronized was live)
  ignoring u (SynAck plain syn was ack now nxt queue held fin) = absurd (subst IsSynchronized was live)

  still_live : (u : SocketView) → HearEffect l v u at_k → IsSynchronized u.phase
  still_live u (Nothing is) = subst (λ (y : SocketView). IsSynchronized y.phase) (sym is) live
  still_live u (Data plain was d same) = subst IsSynchronized (sym same.phase) was
  still_live u (Acknowledgement plain knows d ack now) = now
  still_live u (FallBack r was listener is) = absurd (subst IsSynchronized was live)
  still_live u (Syn iss less plain syn was is) = absurd (subst IsSynchronized was live)
  still_live u (SynAlone n within plain syn was is) = absurd (subst IsSynchronized was live)
  still_live u (SynAck plain syn was ack now nxt queue held fin) = absurd (subst IsSynchronized was live)

  same_replies : (u : SocketView) (r : Option StreamSegment) → IsSynchronized u.phase → StreamAnswers u at_k r → StreamAnswers u g r
  same_replies u None now h = tt
  same_replies u (Some x) now (MayAnswer m) = MayAnswer m
  same_replies u (Some x) now (ResetReply a rst plain opening ack other) = absurd (⊎_elim (λ q. subst IsSynchronized q now) (λ q. subst IsSynchronized q now) opening)

  pub ignored_effect : (w : SocketView) (r : Option StreamSegment) → ProcessEffect l v w at_k r → ProcessEffect l v w g r
  ignored_effect w r h = record { heard = h.heard; hears = ignoring h.heard h.hears; answers = same_replies h.heard r (still_live h.heard h.hears) h.answers; ends = h.ends }

-- the states that ignore one
heeds_live : (st : State) → is_heeding st ≡ true → IsSynchronized (phase_of st)
heeds_live state.Closed e = absurd cc
heeds_live state.Listen e = absurd cc
heeds_live state.SynSent e = absurd cc
heeds_live state.SynReceived e = absurd cc
heeds_live state.Established e = tt
heeds_live state.FinWait1 e = tt
heeds_live state.FinWait2 e = tt
heeds_live state.CloseWait e = tt
heeds_live state.Closing e = tt
heeds_live state.LastAck e = tt
heeds_live state.TimeWait e = tt

-- ---- the whole, of a segment with the window that it counts as telling

addressed : (r : Rules) (v : View) (o : Option Tuple) (e : IpListenEndpoint) (ip : IpRepr) (s : Segment) → IsAddressed o e ip s → IsAddressed o e ip (windowed r v s)
addressed r v None e ip s h = record { addr = h.addr; port = h.port; not_zero = h.not_zero }
addressed r v (Some t) e ip s h = record { local_addr = h.local_addr; local_port = h.local_port; remote_addr = h.remote_addr; remote_port = h.remote_port }

accepted_too : (st : State) (r : Rules) (v : View) (ip : IpRepr) (s : Segment) → AcceptsIn st v ip s → AcceptsIn st v ip (windowed r v s)
accepted_too state.Closed r v ip s h = h
accepted_too state.Listen r v ip s h = (record { no_ack = heeded_none r v s s.ack_number h.0.no_ack; no_reset = h.0.no_reset }, addressed r v v.tuple v.listen_endpoint ip s h.1)
accepted_too _ r v ip s h = addressed r v v.tuple v.listen_endpoint ip s h

module _ (v : View) (now : Instant) (word : ℕ) (ip : IpRepr) (s : Segment) (released taken released_then taken_then : ℕ) (word_small : word < 2 ^ 32) (small : IsSmall s) (room : room_of v.rx_buffer ≤ 2 ^ 30) (says : FinSays v.state v.rx_fin_received) (bounds : IsBounded v) (accepted : Accepts v ip s) where
  abbrev y : Segment
  y = windowed v.rules v s

  small_too : IsSmall y
  small_too = record { payload = small.payload; seq = small.seq; ack = heeded_small v.rules v s s.ack_number small.ack }

  there : Accepts v ip y
  there = accepted_too v.state v.rules v ip s accepted

  abbrev Heard : StreamSegment → Type 0
  Heard g = ProcessEffect (is_passive v) (shown v) (shown (processed v now word ip s).view) g (option_map (λ (r : Segment). stream_segment r released_then taken_then) (processed v now word ip s).reply)

  heard_as_counted : Heard (stream_segment y released taken)
  unfolding processed_by
  heard_as_counted =
      verdict_as (λ x. IsEffect v now word ip y released taken released_then taken_then small_too room says bounds there (by_verdict v.rules x v (arrival now (tuple_of ip s) word y))) v.rules v now s
      (λ w. silent v now word ip y released taken released_then taken_then small_too room says bounds there v refl)
      (challenged_in v now word ip y released taken released_then taken_then small_too room says bounds there)
      (by_the_verdict v now word ip y released taken released_then taken_then small_too room says bounds there (verdict_of v s.control (ack_heeded v.rules v s s.ack_number)) refl word_small)

  abbrev with_ack : Option TcpSeqNumber → StreamSegment
  with_ack o = record (stream_segment s released taken) { ack = option_map (λ (x : TcpSeqNumber). x.0) o }

  heard_as_is : Heard (stream_segment s released taken)
  heard_as_is = by v.rules s.ack_number refl heard_as_counted
    where
      heeded_or_not : (t : Bool) (a : TcpSeqNumber) → is_heeded v s a ≡ t → s.ack_number ≡ Some a → Heard (with_ack (Some (if t then seq_add v.local_seq_no 0 else a))) → Heard (stream_segment s released taken)
      heeded_or_not false a i e h = subst (λ o. Heard (with_ack o)) (sym e) h
      heeded_or_not true a i e h =
          let live : IsSynchronized (phase_of v.state) = heeds_live v.state (and_parts (is_heeding v.state) _ i).0 in
          let iss : HasIss (phase_of v.state) = knows_iss (phase_of v.state) (synchronized_knows (phase_of v.state) live) in
          let b = bounds.sending iss in
          ignored_effect (is_passive v) (shown v) (stream_segment s released taken) (Some (seq_add v.local_seq_no 0).0) live (ap Some (omega (arith, b.snd_una))) b _ _ h

      by : (r : Rules) (o : Option TcpSeqNumber) → s.ack_number ≡ o → Heard (with_ack (ack_heeded r v s o)) → Heard (stream_segment s released taken)
      by rules.Smoltcp o e h = subst (λ x. Heard (with_ack x)) (sym e) h
      by rules.Rfc None e h = subst (λ x. Heard (with_ack x)) (sym e) h
      by rules.Rfc (Some a) e h = heeded_or_not (is_heeded v s a) a refl e h

pub process_heard : (v : View) (now : Instant) (word : ℕ) (ip : IpRepr) (s : Segment) (released taken released_then taken_then : ℕ) → word < 2 ^ 32 → IsSmall s → room_of v.rx_buffer ≤ 2 ^ 30 → FinSays v.state v.rx_fin_received → IsBounded v → Accepts v ip s
    → ProcessEffect (is_passive v) (shown v) (shown (processed v now word ip s).view) (stream_segment s released taken) (option_map (λ (r : Segment). stream_segment r released_then taken_then) (reply_numbered (processed v now word ip s).view (processed v now word ip s).reply))
process_heard v now word ip s released taken released_then taken_then word_small small room says bounds accepted =
    renumbered_effect (is_passive v) (shown v) (processed v now word ip s).view (stream_segment s released taken) released_then taken_then (processed v now word ip s).reply
    (heard_as_is v now word ip s released taken released_then taken_then word_small small room says bounds accepted)
