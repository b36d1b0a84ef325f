-- What becomes of the taker when a segment from SND.UNA on reaches it.
use Rattle.std.proofs.Common.{◌≡◌, ℕ, ◌+◌, ◌*◌, mul-pos, ◌-◌, ◌<◌, ◌≤◌, ◌^◌, ◌⊎◌, inl, inr, Bool, true, false, ◌||◌, true≢false, refl, sym, ap, subst, ◌∙◌, List, [], ◌++◌, length, take, drop, Some, arith, length-append}
use Rattle.std.specs.Prelude.{if◌then◌else◌, ◌==◌}
use Rattle.std.proofs.lemmas.Bool.{and_parts, eqb-true}
use Rattle.std.proofs.lemmas.List.{append-nil, drop_all}
use Rattle.std.proofs.lemmas.Nat.{pow_pos}
use Rattle.net_base.specs.declared.time.Duration.{Duration}
use Rattle.net_base.specs.declared.time.Instant.{Instant}
use Rattle.ip_wire.specs.declared.repr.IpRepr.{IpRepr}
use Rattle.control_wire.specs.Segment.{Segment}
use Rattle.control_wire.specs.Seq.{seq_add, seq_sub}
use Rattle.control_wire.specs.declared.seq_number.TcpSeqNumber.{TcpSeqNumber}
use Rattle.control_wire.specs.declared.tcp.TcpControl.{TcpControl}
use Rattle.control_wire.specs.declared.tcp.TcpControl.TheVariants as control
use Rattle.sock_core.specs.Received.{Received, TakesIn}
use Rattle.sock_core.specs.Seq.{is_before, is_not_after, later_of}
use Rattle.sock_tcp.proofs.Windows.{end_small, length-cut, start_small}
use Rattle.sock_tcp.specs.Arrival.{arrival}
use Rattle.sock_tcp.specs.Acked.{acked_at, acked_of, acked_places, is_fin_acked, syn_place}
use Rattle.sock_tcp.specs.Advance.{advance_in, counted_control, fin_counted, moved_to, waiting}
use Rattle.sock_tcp.specs.Content.{carries_data}
use Rattle.sock_tcp.specs.Due.{is_closing}
use Rattle.sock_tcp.specs.Rfc.OwnWindow.{space_field}
use Rattle.sock_tcp.specs.Process.{Outcome, ack_sent, after_table, bytes_taken, tuple_of}
use Rattle.progress_laws.specs.Smoltcp.{processed}
use Rattle.sock_tcp.specs.Queue.{Queue}
use Rattle.sock_tcp.specs.Queues.{receives}
use Rattle.sock_tcp.specs.Steps.{heard, scale_of, window_of}
use Rattle.sock_tcp.specs.Verdict.{fin_place}
use Rattle.sock_tcp.specs.View.{View}
use Rattle.sock_tcp.specs.Window.{cut_bytes, cut_of, full_inside, empty_inside, is_inside, next_ack, receive_window}
use Rattle.sock_tcp.specs.declared.acked.Acked.{Acked}
use Rattle.sock_tcp.specs.declared.state.State.{State}
use Rattle.sock_tcp.specs.declared.state.State.TheVariants as state
use Rattle.sock_tcp.specs.declared.tuple.Tuple.{Tuple}
use Rattle.sock_tcp.specs.declared.window.Cut.{Cut}
use Rattle.sock_tcp.specs.declared.window.Window.{Window}
use Rattle.tcp_laws.specs.Polling.{IsReached}
use Rattle.tcp_laws.proofs.OrderedCalls.{reached_ordered}
use Rattle.tcp_laws.proofs.Receiving.{only_appends}
use Rattle.tcp_laws.specs.Laws.{MayTake}
use Rattle.progress_laws.specs.Agreement.{Agreement, ForAnswer, ForKeepAlive, ForProbe, ForRepeat, Waits}
use Rattle.progress_laws.specs.Delivery.{has_counted}
use Rattle.progress_laws.specs.ShutWindows.{width}
use Rattle.progress_laws.proofs.Agrees.{later_reach, no_listener, reached_room, width_small}
use Rattle.progress_laws.proofs.Answered.{not_fin}
use Rattle.progress_laws.proofs.Arrives.{CountsIt, Faces, IsCounted, away, count_to_end, counted_so, cut_at_edge, cut_some, edge_inside, fin_counts, fin_place_small, inside as fin_inside, counts as fin_counted_so, heard_so, in_window, joins, skip_at_edge}
use Rattle.progress_laws.proofs.Begins.{not_zero, numbered_as, segment_reached, some_or_none}
use Rattle.progress_laws.proofs.Edges.{same_seq}
use Rattle.progress_laws.proofs.Heeds.{waits_on}
use Rattle.progress_laws.proofs.Hears.{HeardAs, IsSaid, heard_any}
use Rattle.progress_laws.proofs.Matches.{Grows, IsPart, all_join, cut_part, grows}
use Rattle.progress_laws.proofs.Spoken.{is_fin}
use Rattle.progress_laws.proofs.Taken.{FromFront, Like, Rest, SpeaksOn, Stopped, Took, bytes_rest, counted_carries, faces_so, no_syn, rest_waits}
use Rattle.sock_tcp.specs.declared.rules.Rules.TheVariants as rules

-- what w becomes: a run of what it had not taken joins the queue; or the FIN is counted, and all of it is there; or it is
-- answered, and without anything that v has not heard of only where the window has no place
pub data Arrived (d : Duration) (t : Tuple) (v w : View) (n h : ℕ) (s : Segment) (o : Outcome) : Type 0 where
  Joins : (run : List ℕ)
      → 0 < length run
      → o.view.rx_buffer.bytes ≡ run
      → run ++ drop (n + length run) v.tx_buffer.bytes ≡ drop n v.tx_buffer.bytes
      → Agreement d t v o.view (n + length run) 0
      → o.view.tx_buffer.bytes ≡ drop h w.tx_buffer.bytes
      → SpeaksOn v w h o.view
      → Arrived d t v w n h s o
  CountsFin : is_closing v.state ≡ true
      → receives o.view.state ≡ false
      → o.view.rx_fin_received ≡ true
      → o.view.rx_buffer.bytes ≡ drop n v.tx_buffer.bytes
      → Stopped v w h o.view
      → Arrived d t v w n h s o
  IsAnswered : o ≡ ack_sent w s
      → (n ≡ 0 → width w ≡ 0)
      → Arrived d t v w n h s o

module _ (d : Duration) (t : Tuple) (v w : View) (n h : ℕ) (i : Agreement d t v w n h) (read : w.rx_buffer.bytes ≡ []) (now : Instant) (ip : IpRepr) (s : Segment) (q : FromFront v s) where
  abbrev k : TcpSeqNumber
  k = next_ack v

  abbrev o : Outcome
  o = processed w now 0 ip s

  abbrev u : View
  u = o.view

  abbrev win : Window
  win = receive_window w

  abbrev cut : Cut
  cut = cut_of (receive_window w) s.seq_number (length s.payload)

  abbrev bs : List ℕ
  bs = cut_bytes cut s.payload

  abbrev a : Acked
  a = acked_of w s.control s.ack_number

  abbrev x : View
  x = record w { local_rx_last_seq = Some s.seq_number }

  v_small : v.local_seq_no.0 < 2 ^ 32
  v_small = (reached_ordered v i.speaker.reached).una_small

  w_small : w.local_seq_no.0 < 2 ^ 32
  w_small = (reached_ordered w i.taker.reached).una_small

  v_short : length v.tx_buffer.bytes ≤ 2 ^ 30
  v_short = omega (arith, (reached_ordered v i.speaker.reached).room)

  w_short : length w.tx_buffer.bytes ≤ 2 ^ 30
  w_short = omega (arith, (reached_ordered w i.taker.reached).room)

  at : s.seq_number.0 ≡ v.local_seq_no.0
  at = ap (λ (m : TcpSeqNumber). m.0) q.number

  small : s.seq_number.0 < 2 ^ 32
  small = omega (arith, at, v_small)

  edge : (next_ack w).0 ≡ (seq_add v.local_seq_no n).0
  edge = ap (λ (m : TcpSeqNumber). m.0) i.there

  start_is : win.start ≡ next_ack w
  unfolding receive_window
  start_is = refl

  skips : seq_sub win.start s.seq_number ≡ n
  skips = ap (λ m. seq_sub m s.seq_number) start_is ∙ omega (arith, edge, at, v_small, i.taken_within, v_short)

  narrow : seq_sub win.end win.start ≤ 2 ^ 30
  narrow = width_small w i.taker.reached

  near : seq_sub win.start s.seq_number < 2 ^ 31
  near = omega (arith, skips, i.taken_within, v_short)

  few : length s.payload ≤ 2 ^ 30
  few = omega (arith, q.short)

  faces : Faces w k
  faces = faces_so d t v w n h i

  -- ---- what is acknowledged of w

  places : a ≡ acked_places w.state k w.remote_last_seq (length w.tx_buffer.bytes) h
  unfolding acked_at
  places = ap (λ r. acked_of w s.control r) q.ack ∙ by s.control q.bit ∙ ap (acked_places w.state k w.remote_last_seq (length w.tx_buffer.bytes)) covers
    where
      covers : seq_sub k w.local_seq_no - syn_place w.state ≡ h
      covers = omega (arith, ap (λ (m : TcpSeqNumber). m.0) i.back, no_syn w.state i.taker.state, w_small, w_short, i.heard_within, fin_place_small w.state)

      by : (c : TcpControl) → IsSaid c → acked_at w.state c (Some k) w.local_seq_no w.remote_last_seq (length w.tx_buffer.bytes) ≡ acked_places w.state k w.remote_last_seq (length w.tx_buffer.bytes) (seq_sub k w.local_seq_no - syn_place w.state)
      by control.None e = refl
      by control.Psh e = refl
      by control.Fin e = refl
      by _ e = absurd e

  -- all of it leaves the transmit queue
  leaves : drop a.len w.tx_buffer.bytes ≡ drop h w.tx_buffer.bytes
  leaves = ap (λ (m : Acked). drop m.len w.tx_buffer.bytes) places ∙ go (is_fin_acked w.state (length w.tx_buffer.bytes) h) refl
    where
      go : (b : Bool) → is_fin_acked w.state (length w.tx_buffer.bytes) h ≡ b → drop (if b then h - 1 else h) w.tx_buffer.bytes ≡ drop h w.tx_buffer.bytes
      go true e =
          let all : h ≡ length w.tx_buffer.bytes + 1 = eqb-true h (length w.tx_buffer.bytes + 1) (and_parts (fin_place w.state == 1) (h == length w.tx_buffer.bytes + 1) e).1 in
          drop_all (h - 1) w.tx_buffer.bytes (omega (arith, all)) ∙ sym (drop_all h w.tx_buffer.bytes (omega (arith, all)))
      go false e = refl

  -- ---- inside of the window

  took : (y : View) → Like w y → Took w k h (bytes_taken (heard y now a s) now cut.offset bs s).view y.state y.remote_seq_no y.rx_fin_received
  took y l =
      let z : View = heard y now a s in
      let r : Rest z (bytes_taken z now cut.offset bs s).view = bytes_rest now s z cut.offset bs in
      let g : HeardAs y k a.len (window_of s.control s.window_len y.remote_win_scale) z = heard_any y now a s k q.ack in
      record {
        state = r.state ∙ g.state;
        rcv = r.rcv ∙ g.rcv;
        fin = r.fin ∙ (heard_so y now a s).fin;
        una = r.una ∙ g.una;
        nxt = r.nxt ∙ g.nxt ∙ ap (λ m. later_of m k) l.nxt;
        tx = ap (λ (b : Queue). b.bytes) r.tx ∙ ap (λ (b : Queue). b.bytes) g.tx ∙ ap (λ (b : Queue). drop a.len b.bytes) l.tx ∙ leaves;
        shift = r.shift ∙ g.shift ∙ l.shift;
        peer = r.peer ∙ g.peer ∙ l.peer;
        timeout = r.timeout ∙ g.timeout ∙ l.timeout;
        same_rules = r.same_rules ∙ g.same_rules ∙ l.same_rules;
        keep_alive = r.keep_alive ∙ g.keep_alive ∙ l.keep_alive;
      }

  like : (y : View) → y.remote_last_seq ≡ w.remote_last_seq → y.tx_buffer ≡ w.tx_buffer → y.remote_win_shift ≡ w.remote_win_shift → y.tuple ≡ w.tuple → y.timeout ≡ w.timeout → y.rules ≡ w.rules → y.keep_alive ≡ w.keep_alive → Like w y
  like y nxt tx shift peer timeout ruled keep = record { nxt = nxt; tx = tx; shift = shift; peer = peer; timeout = timeout; same_rules = ruled; keep_alive = keep }

  abbrev table : TcpControl → Outcome
  table c = after_table (advance_in w.state c a.fin x (arrival now (tuple_of ip s) 0 s) a.len) (arrival now (tuple_of ip s) 0 s) a cut.offset bs

  -- no FIN counts
  abbrev WaitsOn : View → Type 0
  WaitsOn z = Waits w → h ≤ length w.tx_buffer.bytes → 0 < space_field v → (z.state ≡ w.state) × Waits z

  abbrev Goes : View → Type 0
  Goes z = (st : State) × (receives st ≡ true) × Took w k h z st w.remote_seq_no w.rx_fin_received × WaitsOn z

  -- it waits as it may
  waits_from : (y : View) → Waits y → y.remote_last_seq ≡ w.remote_last_seq → y.local_seq_no ≡ w.local_seq_no → h ≤ length w.tx_buffer.bytes → 0 < space_field v → Waits (bytes_taken (heard y now a s) now cut.offset bs s).view
  waits_from y waits nxt una within field = rest_waits (heard y now a s) (bytes_taken (heard y now a s) now cut.offset bs s).view (bytes_rest now s (heard y now a s) cut.offset bs) (waits_on y now a s k q.ack q.bit window waits (λ e. ap (λ m. is_not_after m k) nxt ∙ ap (λ (m : Acked). m.all) (sym places) ∙ e) (subst (λ (m : TcpSeqNumber). m.0 < 2 ^ 32) (sym una) w_small) (omega arith) (omega (arith, ap (λ m. seq_sub k m) una, ap (λ (m : TcpSeqNumber). m.0) i.back, w_small, w_short, within)))
    where
      window : 0 < s.window_len * 2 ^ scale_of y.remote_win_scale
      window = mul-pos (subst (λ m. 0 < m) (sym q.field) field) (pow_pos (scale_of y.remote_win_scale))

  waits_on_then : WaitsOn (bytes_taken (heard x now a s) now cut.offset bs s).view
  waits_on_then waits within field = ((took x (like x refl refl refl refl refl refl refl)).state, waits_from x (by waits) refl refl within field)
    where
      by : Waits w → Waits x
      by (ForAnswer at e) = ForAnswer at e
      by (ForRepeat e) = ForRepeat e
      by (ForKeepAlive o e f) = ForKeepAlive o e f
      by (ForProbe at delay e f) = ForProbe at delay e f

  on : Goes (bytes_taken (heard x now a s) now cut.offset bs s).view
  on = (w.state, i.taker.state, took x (like x refl refl refl refl refl refl refl), waits_on_then)

  no_own_fin : a.fin ≡ true → h ≤ length w.tx_buffer.bytes → ⊥
  no_own_fin e within = true≢false (sym e ∙ ap (λ (m : Acked). m.fin) places ∙ not_fin w.state (length w.tx_buffer.bytes) h within)

  goes_rows : (st : State) → receives st ≡ true → (fin : Bool) → a.fin ≡ fin → Goes (after_table (advance_in st control.None fin x (arrival now (tuple_of ip s) 0 s) a.len) (arrival now (tuple_of ip s) 0 s) a cut.offset bs).view
  goes_rows state.Established e fin f = on
  goes_rows state.FinWait1 e true f = (state.FinWait2, refl, took (moved_to state.FinWait2 x) (like (moved_to state.FinWait2 x) refl refl refl refl refl refl refl), λ waits within field. absurd (no_own_fin f within))
  goes_rows state.FinWait1 e false f = on
  goes_rows state.FinWait2 e fin f = on
  goes_rows _ e fin f = absurd cc

  -- the FIN counts
  abbrev StopsOn : View → Type 0
  StopsOn z = carries_data w.state ≡ true → Waits w → h ≤ length w.tx_buffer.bytes → 0 < space_field v → Waits z × (has_counted z.state ≡ true) × (is_closing z.state ≡ is_closing w.state) × (z.state ≡ state.LastAck → ⊥)

  abbrev Stops : View → Type 0
  Stops z = (st : State) × (receives st ≡ false) × Took w k h z st (seq_add w.remote_seq_no 1) true × StopsOn z

  abbrev after_fin : View → View
  after_fin y = (bytes_taken (heard y now a s) now cut.offset bs s).view

  -- in CLOSE-WAIT or CLOSING it waits as it may
  counts_on : (st : State) → has_counted st ≡ true → is_closing st ≡ is_closing w.state → (st ≡ state.LastAck → ⊥) → StopsOn (after_fin (fin_counted st x))
  unfolding fin_counted
  counts_on st counted same apart c waits within field =
      let g : Took w k h (after_fin (fin_counted st x)) st (seq_add w.remote_seq_no 1) true = took (fin_counted st x) (like (fin_counted st x) refl refl refl refl refl refl refl) in
      (waits_from (fin_counted st x) (by waits) refl refl within field, ap has_counted g.state ∙ counted, ap is_closing g.state ∙ same, λ l. apart (sym g.state ∙ l))
    where
      by : Waits w → Waits (fin_counted st x)
      by (ForAnswer at e) = ForAnswer at e
      by (ForRepeat e) = ForRepeat e
      by (ForKeepAlive o e f) = ForKeepAlive o e f
      by (ForProbe at delay e f) = ForProbe at delay e f

  stops_rows : (st : State) → w.state ≡ st → receives st ≡ true → (fin : Bool) → a.fin ≡ fin → Stops (after_table (advance_in st control.Fin fin x (arrival now (tuple_of ip s) 0 s) a.len) (arrival now (tuple_of ip s) 0 s) a cut.offset bs).view
  unfolding fin_counted
  stops_rows state.Established is e fin f = (state.CloseWait, refl, took (fin_counted state.CloseWait x) (like (fin_counted state.CloseWait x) refl refl refl refl refl refl refl), counts_on state.CloseWait refl (sym (ap is_closing is)) (λ l. absurd cc))
  stops_rows state.FinWait1 is e true f = (state.TimeWait, refl, took (waiting now (fin_counted state.TimeWait x)) (like (waiting now (fin_counted state.TimeWait x)) refl refl refl refl refl refl refl), λ c waits within field. absurd (no_own_fin f within))
  stops_rows state.FinWait1 is e false f = (state.Closing, refl, took (fin_counted state.Closing x) (like (fin_counted state.Closing x) refl refl refl refl refl refl refl), counts_on state.Closing refl (sym (ap is_closing is)) (λ l. absurd cc))
  stops_rows state.FinWait2 is e fin f = (state.TimeWait, refl, took (waiting now (fin_counted state.TimeWait x)) (like (waiting now (fin_counted state.TimeWait x)) refl refl refl refl refl refl refl), λ c waits within field. absurd (true≢false (sym (ap carries_data (sym is) ∙ c))))
  stops_rows _ is e fin f = absurd cc

  reached_then : IsReached u
  reached_then = segment_reached w u now 0 ip s o.reply i.taker.reached (omega arith) (numbered_as s k q.ack small (omega arith)) q.short (λ e. absurd (no_listener w.state i.taker.state e)) refl

  stopped : Stops u → length u.rx_buffer.bytes + n ≡ length v.tx_buffer.bytes → Stopped v w h u
  stopped g all = record {
    reached = reached_then;
    next = same_seq (next_ack u) (seq_add v.local_seq_no (length v.tx_buffer.bytes + 1)) (omega (arith, ap (λ (m : TcpSeqNumber). m.0) g.2.rcv, ap (λ (l : List ℕ). length l) read, edge, v_small, all));
    una = g.2.una;
    nxt = g.2.nxt;
    tx = g.2.tx;
    speaks = λ e r sp within field.
        let z : Waits u × (has_counted u.state ≡ true) × (is_closing u.state ≡ is_closing w.state) × (u.state ≡ state.LastAck → ⊥) = g.3 sp.carries sp.waits within field in
        (record { reached = reached_then; carries = counted_carries u.state z.1; peer = g.2.peer ∙ sp.peer; no_timeout = g.2.timeout ∙ sp.no_timeout; smoltcp = g.2.same_rules ∙ sp.smoltcp; keep_alive = g.2.keep_alive ∙ sp.keep_alive; waits = z.0 }, z.1, z.2, z.3);
  }

  abbrev counted : TcpControl
  counted = counted_control s.control win s.seq_number (length s.payload)

  is_table : is_inside win s.seq_number (length s.payload) ≡ true → (c : TcpControl) → counted ≡ c → o ≡ table c
  is_table inside c e = in_window w k faces now 0 ip s q.bit q.ack inside ∙ ap (λ c. table c) e

  -- ---- with bytes

  module _ (some : 0 < length s.payload) where
    full : (b : Bool) → is_inside win s.seq_number (length s.payload) ≡ b → full_inside win s.seq_number (seq_add s.seq_number (length s.payload)) ≡ b
    unfolding is_inside
    full b e = ap (λ z. if z then empty_inside win s.seq_number else full_inside win s.seq_number (seq_add s.seq_number (length s.payload))) (sym (not_zero (length s.payload) some)) ∙ e

    is_away : is_inside win s.seq_number (length s.payload) ≡ false → Arrived d t v w n h s o
    is_away e = IsAnswered (away w k faces now 0 ip s q.bit q.ack e some) shut
      where
        shut : n ≡ 0 → width w ≡ 0
        shut z = by (some_or_none (width w))
          where
            by : (width w ≡ 0) ⊎ (0 < width w) → width w ≡ 0
            by (inl none) = none
            by (inr place) = absurd (true≢false (sym (edge_inside win (start_small w) (end_small w) narrow s.seq_number small (length s.payload) some few near (omega (arith, ap (λ (m : TcpSeqNumber). m.0) start_is, edge, at, z, v_small)) place) ∙ full false e))

    module _ (inside : is_inside win s.seq_number (length s.payload) ≡ true) where
      first_offset : cut.offset ≡ 0
      first_offset = cut_at_edge win (start_small w) (end_small w) narrow s.seq_number small (length s.payload) some few near

      skip_is : cut.skip ≡ n
      skip_is = skip_at_edge win (start_small w) (end_small w) narrow s.seq_number small (length s.payload) some few near ∙ skips

      some_bytes : 0 < length bs
      some_bytes = subst (λ m. 0 < m) (sym (length-cut cut s.payload)) (cut_some win (start_small w) (end_small w) narrow s.seq_number small (length s.payload) some few near (full true inside))

      longer : length w.rx_buffer.bytes < length u.rx_buffer.bytes
      longer = joins w k faces now 0 ip s q.bit q.ack i.taker.state inside first_offset some_bytes

      takes_in : TakesIn w.rx_buffer u.rx_buffer cut.offset bs
      takes_in = by (only_appends rules.Smoltcp w now 0 ip s (reached_room w i.taker.reached) small q.short)
        where
          by : MayTake rules.Smoltcp w s u → TakesIn w.rx_buffer u.rx_buffer cut.offset bs
          by (inl e) = absurd (omega (arith, longer, ap (λ (b : Received). length b.bytes) e))
          by (inr r) = r.takes

      part : IsPart bs v.tx_buffer.bytes n
      part = subst (λ j. IsPart (take cut.count (drop j s.payload)) v.tx_buffer.bytes n) (sym skip_is) (cut_part s.payload v.tx_buffer.bytes (length s.payload) cut.count n q.first)

      grown : Grows w.rx_buffer u.rx_buffer v.tx_buffer.bytes n
      grown = grows w.rx_buffer u.rx_buffer cut.offset bs takes_in first_offset v.tx_buffer.bytes n i.taken_within part i.held

      rx_is : u.rx_buffer.bytes ≡ grown.run
      rx_is = grown.queue ∙ ap (λ (l : List ℕ). l ++ grown.run) read

      run_some : 0 < length grown.run
      run_some = omega (arith, longer, ap (λ (l : List ℕ). length l) rx_is)

      next_is : u.remote_seq_no ≡ w.remote_seq_no → next_ack u ≡ seq_add v.local_seq_no (n + length grown.run)
      next_is e = same_seq (next_ack u) (seq_add v.local_seq_no (n + length grown.run)) (omega (arith, ap (λ (m : TcpSeqNumber). m.0) e, ap (λ (l : List ℕ). length l) rx_is, ap (λ (l : List ℕ). length l) read, edge, v_small))

      agrees : Goes u → Agreement d t v u (n + length grown.run) 0
      agrees g = record {
        speaker = i.speaker;
        taker = record { reached = reached_then; state = ap receives g.2.state ∙ g.1; smoltcp = g.2.same_rules ∙ i.taker.smoltcp; room = omega (arith, i.taker.room, grown.room) };
        taken_within = grown.within;
        there = next_is g.2.rcv;
        held = grown.held;
        heard_within = omega arith;
        back = same_seq k (seq_add u.local_seq_no 0) (omega (arith, ap (λ (m : TcpSeqNumber). m.0) g.2.una));
        in_reach = later_reach v w u i.speaker.reached g.2.nxt i.in_reach;
        last = λ e. inl (omega (arith, run_some));
      }

      speaks : Goes u → SpeaksOn v w h u
      speaks g e r sp within field =
          let z : (u.state ≡ w.state) × Waits u = g.3 sp.waits within field in
          (record { reached = (agrees g).taker.reached; carries = ap carries_data z.0 ∙ sp.carries; peer = g.2.peer ∙ sp.peer; no_timeout = g.2.timeout ∙ sp.no_timeout; smoltcp = g.2.same_rules ∙ sp.smoltcp; keep_alive = g.2.keep_alive ∙ sp.keep_alive; waits = z.1 }, z.0)

      goes_on : counted ≡ control.None → Arrived d t v w n h s o
      goes_on e =
          let g : Goes u = subst (λ (z : Outcome). Goes z.view) (sym (is_table inside control.None e)) (goes_rows w.state i.taker.state a.fin refl) in
          Joins grown.run run_some rx_is grown.whole (agrees g) g.2.tx (speaks g)

      -- with the FIN all of it came
      ends : (c : TcpControl) → IsSaid c → counted_control c win s.seq_number (length s.payload) ≡ control.Fin → (c ≡ control.Fin) × (is_before win.end (seq_add s.seq_number (length s.payload)) ≡ false)
      unfolding counted_control
      ends control.None b e = absurd cc
      ends control.Psh b e = absurd cc
      ends control.Fin b e = (refl, go (is_before win.start s.seq_number) (is_before win.end (seq_add s.seq_number (length s.payload))) e)
        where
          go : (a b : Bool) → (if a || b then control.None else control.Fin) ≡ control.Fin → b ≡ false
          go true b e = absurd cc
          go false true e = absurd cc
          go false false e = refl
      ends _ b e = absurd b

      stops : counted ≡ control.Fin → Arrived d t v w n h s o
      stops e = CountsFin (q.closing f.0) (ap receives g.2.state ∙ g.1) g.2.fin (rx_is ∙ sym (append-nil grown.run) ∙ ap (λ (l : List ℕ). grown.run ++ l) (sym (drop_all (n + length grown.run) v.tx_buffer.bytes all)) ∙ grown.whole) (stopped g (omega (arith, all, grown.within, ap (λ (l : List ℕ). length l) rx_is)))
        where
          g : Stops u
          g = subst (λ (z : Outcome). Stops z.view) (sym (is_table inside control.Fin e)) (stops_rows w.state refl i.taker.state a.fin refl)

          f : (s.control ≡ control.Fin) × (is_before win.end (seq_add s.seq_number (length s.payload)) ≡ false)
          f = ends s.control q.bit e

          whole : length s.payload ≡ length v.tx_buffer.bytes
          whole = q.fin f.0

          count_is : cut.count ≡ length s.payload - seq_sub win.start s.seq_number
          count_is = count_to_end win (start_small w) (end_small w) narrow s.seq_number small (length s.payload) some few near f.1 (omega (arith, skips, whole, i.taken_within))

          same_run : length takes_in.run ≡ length grown.run
          same_run = omega (arith, ap (λ (l : List ℕ). length l) takes_in.queue, ap (λ (l : List ℕ). length l) grown.queue, length-append w.rx_buffer.bytes takes_in.run, length-append w.rx_buffer.bytes grown.run)

          all : length v.tx_buffer.bytes ≤ n + length grown.run
          all = omega (arith, all_join w.rx_buffer u.rx_buffer cut.offset bs takes_in first_offset, same_run, length-cut cut s.payload, count_is, skip_is, skips, whole)

      lands : Arrived d t v w n h s o
      lands = by counted refl (counted_so s.control win s.seq_number (length s.payload) q.bit)
        where
          by : (c : TcpControl) → counted ≡ c → IsCounted c → Arrived d t v w n h s o
          by control.None e z = goes_on e
          by control.Fin e z = stops e
          by _ e z = absurd z

    with_bytes : Arrived d t v w n h s o
    with_bytes = by (is_inside win s.seq_number (length s.payload)) refl
      where
        by : (b : Bool) → is_inside win s.seq_number (length s.payload) ≡ b → Arrived d t v w n h s o
        by true e = lands e
        by false e = is_away e

  -- ---- a FIN alone

  fin_lands : length s.payload ≡ 0 → Arrived d t v w n h s o
  fin_lands none = CountsFin (q.closing fin) c.state c.fin (ap (λ (b : Received). b.bytes) c.rx ∙ read ∙ sym (drop_all n v.tx_buffer.bytes (omega (arith, empty)))) (stopped g (omega (arith, ap (λ (b : Received). length b.bytes) c.rx, ap (λ (l : List ℕ). length l) read, empty, i.taken_within)))
    where
      fin : s.control ≡ control.Fin
      fin = is_fin s.control q.bit (omega (arith, q.some, none))

      empty : length v.tx_buffer.bytes ≡ 0
      empty = sym (q.fin fin) ∙ none

      next : s.seq_number.0 ≡ (next_ack w).0
      next = omega (arith, at, edge, empty, i.taken_within, v_small)

      c : CountsIt w o
      c = fin_counts w k faces now 0 ip s q.bit q.ack fin none next i.taker.state

      g : Stops u
      g = subst (λ (z : Outcome). Stops z.view) (sym (is_table (fin_inside w k faces now 0 ip s q.bit q.ack fin none next) control.Fin (fin_counted_so w k faces now 0 ip s q.bit q.ack fin none next))) (stops_rows w.state refl i.taker.state a.fin refl)

  pub arrives : Arrived d t v w n h s o
  arrives = by (some_or_none (length s.payload))
    where
      by : (length s.payload ≡ 0) ⊎ (0 < length s.payload) → Arrived d t v w n h s o
      by (inl z) = fin_lands z
      by (inr some) = with_bytes some
