-- What a sender makes of the answer to what it said; and that each delivery moves something.
use Rattle.std.proofs.Common.{◌≡◌, ℕ, ◌+◌, ◌-◌, ◌*◌, ◌/◌, ◌<◌, ◌≤◌, ◌^◌, ◌⊎◌, inl, inr, Bool, true, false, ◌&&◌, true≢false, refl, sym, ap, subst, ◌∙◌, length, drop, Some, arith, mul-pos}
use Rattle.std.specs.Prelude.{if◌then◌else◌, ◌==◌}
use Rattle.std.proofs.lemmas.Bool.{eqb-true}
use Rattle.std.proofs.lemmas.Nat.{le-div, pow_pos}
use Rattle.ip_wire.specs.declared.repr.IpRepr.{IpRepr}
use Rattle.net_base.specs.declared.time.Instant.{Instant}
use Rattle.control_wire.specs.Segment.{Segment}
use Rattle.control_wire.specs.Seq.{seq_add, seq_sub}
use Rattle.control_wire.specs.declared.seq_number.TcpSeqNumber.{TcpSeqNumber}
use Rattle.control_wire.specs.declared.tcp.TcpControl.TheVariants as control
use Rattle.sock_core.specs.Facts.{Facts}
use Rattle.sock_core.specs.Seq.{is_not_after}
use Rattle.sock_tcp.proofs.Windows.{end_small, length-cut, start_small}
use Rattle.sock_tcp.specs.Arrival.{arrival}
use Rattle.sock_tcp.specs.Acked.{acked_at, acked_of, acked_places, is_fin_acked, syn_place}
use Rattle.sock_tcp.specs.Advance.{advance_in, advanced, continues, counted_control}
use Rattle.sock_tcp.specs.Content.{Sending, carries_data}
use Rattle.sock_tcp.specs.Rfc.OwnWindow.{space_field}
use Rattle.sock_tcp.specs.Process.{Outcome, ack_sent, after_table, bytes_taken, processed_inside, stopped, tuple_of, processed_by}
use Rattle.progress_laws.specs.Smoltcp.{processed}
use Rattle.sock_tcp.specs.Queue.{Queue}
use Rattle.sock_tcp.specs.Replies.{ack_segment}
use Rattle.sock_tcp.specs.Steps.{heard, scale_of, window_of}
use Rattle.sock_tcp.specs.Verdict.{fin_place, verdict_of}
use Rattle.sock_tcp.specs.View.{View}
use Rattle.sock_tcp.specs.Window.{cut_bytes, cut_of, empty_inside, full_inside, is_inside, next_ack, receive_window}
use Rattle.sock_tcp.specs.declared.acked.Acked.{Acked}
use Rattle.sock_tcp.specs.declared.emission.Kind.TheVariants as kind
use Rattle.sock_tcp.specs.declared.state.State.{State}
use Rattle.sock_tcp.specs.declared.state.State.TheVariants as state
use Rattle.sock_tcp.specs.declared.tuple.Tuple.{Tuple}
use Rattle.sock_tcp.specs.declared.verdict.Verdict.TheVariants as verdicts
use Rattle.sock_tcp.specs.declared.window.Cut.{Cut}
use Rattle.tcp_laws.proofs.OrderedCalls.{reached_ordered}
use Rattle.tcp_laws.proofs.SocketSteps.{holds_after}
use Rattle.tcp_laws.specs.Polling.{IsReached}
use Rattle.progress_laws.specs.Delivery.{CountsFin, DeliveryMoves, HasSaid, HasWindow, HearsOf, Joins, Moved, Releases, TellsWindow}
use Rattle.progress_laws.proofs.Arrives.{CountsIt, Faces, HeardSo, away, cut_at_edge, cut_some, edge_inside, fin_counts, heard_so, is_synchronized, joins, passes_so, receives_so, synchronized_has, wide}
use Rattle.progress_laws.proofs.Begins.{and_no, not_zero, some_or_none}
use Rattle.progress_laws.proofs.Spoken.{FinAlone, Stands, Still, WithBytes, ack, bit, reached_then, short, stands, still}
use Rattle.progress_laws.proofs.Sends.{smoltcp_field}

pub carries_so : (st : State) → carries_data st ≡ true → is_synchronized st ≡ true
carries_so state.Established e = refl
carries_so state.CloseWait e = refl
carries_so state.FinWait1 e = refl
carries_so state.Closing e = refl
carries_so state.LastAck e = refl
carries_so _ e = absurd cc

pub no_syn : (st : State) → carries_data st ≡ true → syn_place st ≡ 0
no_syn state.SynSent e = absurd cc
no_syn state.SynReceived e = absurd cc
no_syn _ e = refl

-- of bytes alone the FIN is not acknowledged
pub not_fin : (st : State) (q n : ℕ) → n ≤ q → is_fin_acked st q n ≡ false
not_fin st q n within = ap (λ b. (fin_place st == 1) && b) (go (n == q + 1) refl) ∙ and_no (fin_place st == 1)
  where
    go : (b : Bool) → (n == q + 1) ≡ b → (n == q + 1) ≡ false
    go true e = let h = eqb-true n (q + 1) e in absurd (omega (arith, h, within))
    go false e = e

covers : (st : State) (k nxt : TcpSeqNumber) (q m n : ℕ) → m ≡ n → n ≤ q → acked_places st k nxt q m ≡ record { len = n; fin = false; all = is_not_after nxt k }
covers st k nxt q m n e within = ap (acked_places st k nxt q) e ∙ ap (λ b. record { len = if b then n - 1 else n; fin = b; all = is_not_after nxt k }) (not_fin st q n within)

-- nothing of it counts in the state table; in LAST-ACK it must acknowledge something
stays_on : (st : State) → carries_data st ≡ true → (x : View) (now : Instant) (t : Tuple) (word n : ℕ) (s : Segment) → (st ≡ state.LastAck → 0 < n) → advance_in st control.None false x (arrival now t word s) n ≡ continues x
stays_on state.Established e x now t word n s h = refl
stays_on state.CloseWait e x now t word n s h = refl
stays_on state.FinWait1 e x now t word n s h = refl
stays_on state.Closing e x now t word n s h = refl
stays_on state.LastAck e x now t word n s h = rw (not_zero n (h refl)) refl
stays_on _ e x now t word n s h = absurd cc

-- ---- the answer

module _ (u : View) (reached : IsReached u) (carries : carries_data u.state ≡ true) (k : TcpSeqNumber) (n : ℕ) (there : k ≡ seq_add u.local_seq_no n) (within : n ≤ length u.tx_buffer.bytes) (some : u.state ≡ state.LastAck → 0 < n) (now : Instant) (word : ℕ) (ip : IpRepr) (g : Segment) (bit : g.control ≡ control.None) (ack : g.ack_number ≡ Some k) (empty : length g.payload ≡ 0) (inside : is_inside (receive_window u) g.seq_number 0 ≡ true) where
  abbrev cut : Cut
  cut = cut_of (receive_window u) g.seq_number (length g.payload)

  abbrev x : View
  x = record u { local_rx_last_seq = Some g.seq_number }

  abbrev a : Acked
  a = acked_of u g.control g.ack_number

  queue_short : length u.tx_buffer.bytes ≤ 2 ^ 30
  queue_short = omega (arith, (reached_ordered u reached).room)

  small : u.local_seq_no.0 < 2 ^ 32
  small = (reached_ordered u reached).una_small

  open_state : is_synchronized u.state ≡ true
  open_state = carries_so u.state carries

  passes : verdict_of u g.control g.ack_number ≡ verdicts.Pass
  passes = (λ i. verdict_of u (bit i) (ack i)) ∙ passes_so u control.None k n tt open_state small queue_short (ap (λ (m : TcpSeqNumber). m.0) there) (omega (arith, within))

  pub acked : a ≡ record { len = n; fin = false; all = is_not_after u.remote_last_seq k }
  unfolding acked_at
  acked = (λ i. acked_of u (bit i) (ack i)) ∙ covers u.state k u.remote_last_seq (length u.tx_buffer.bytes) (seq_sub k u.local_seq_no - syn_place u.state) n (omega (arith, ap (λ (m : TcpSeqNumber). m.0) there, no_syn u.state carries, small, within, queue_short)) within

  lies_inside : is_inside (receive_window u) g.seq_number (length g.payload) ≡ true
  lies_inside = ap (is_inside (receive_window u) g.seq_number) empty ∙ inside

  counts : counted_control g.control (receive_window u) g.seq_number (length g.payload) ≡ control.None
  unfolding counted_control
  counts = rw bit refl

  none_taken : (y : View) → bytes_taken y now cut.offset (cut_bytes cut g.payload) g ≡ stopped y
  unfolding bytes_taken
  none_taken y = let z : length (cut_bytes cut g.payload) ≡ 0 = omega (arith, length-cut cut g.payload, empty) in rw z refl

  in_window : processed u now word ip g ≡ after_table (advance_in u.state (counted_control g.control (receive_window u) g.seq_number (length g.payload)) a.fin x (arrival now (tuple_of ip g) word g) a.len) (arrival now (tuple_of ip g) word g) a cut.offset (cut_bytes cut g.payload)
  unfolding processed_by processed_inside advanced
  in_window = rw (passes, synchronized_has u.state open_state, lies_inside) refl

  table : advance_in u.state (counted_control g.control (receive_window u) g.seq_number (length g.payload)) a.fin x (arrival now (tuple_of ip g) word g) a.len ≡ continues x
  table = (λ i. advance_in u.state (counts i) ((acked i).fin) x (arrival now (tuple_of ip g) word g) ((acked i).len)) ∙ stays_on u.state carries x now (tuple_of ip g) word n g some

  pub heard_answer : processed u now word ip g ≡ stopped (heard x now a g)
  heard_answer = in_window ∙ ap (λ t. after_table t (arrival now (tuple_of ip g) word g) a cut.offset (cut_bytes cut g.payload)) table ∙ none_taken (heard x now a g)

  h : HeardSo x a g (heard x now a g)
  h = heard_so x now a g

  pub released : (processed u now word ip g).view.tx_buffer.bytes ≡ drop n u.tx_buffer.bytes
  released = ap (λ (o : Outcome). o.view.tx_buffer.bytes) heard_answer ∙ ap (λ (q : Queue). q.bytes) h.tx ∙ ap (λ (m : Acked). drop m.len u.tx_buffer.bytes) acked

  pub told : 0 < g.window_len → 0 < (processed u now word ip g).view.remote_win_len
  told field = subst (λ m. 0 < m) (sym (ap (λ (o : Outcome). o.view.remote_win_len) heard_answer ∙ h.window ∙ window)) (mul-pos field (pow_pos (scale_of u.remote_win_scale)))
    where
      window : window_of g.control g.window_len u.remote_win_scale ≡ g.window_len * 2 ^ scale_of u.remote_win_scale
      window = rw bit refl

pub field_some : (w : View) → 2 ^ w.remote_win_shift ≤ length w.rx_buffer.held → 0 < space_field w
field_some w room = omega (arith, one)
  where
    one : 1 ≤ length w.rx_buffer.held / 2 ^ w.remote_win_shift
    one = le-div 1 (length w.rx_buffer.held) (2 ^ w.remote_win_shift) (pow_pos w.remote_win_shift) (omega (arith, room))

-- ---- the law

module _ (t : Tuple) (f : Facts) (v u w : View) (out : Sending) (n : ℕ) (now : Instant) (word : ℕ) (said : HasSaid t f v out u) (r : HearsOf v w n) (in_reach : is_inside (receive_window u) w.remote_last_seq 0 ≡ true) where
  k : Still v u
  k = still t f v out u said

  goes_on : carries_data u.state ≡ true
  goes_on = ap carries_data k.state ∙ said.carries

  faces : Faces w (next_ack v)
  faces =
      let q = r.reached in
      let o = reached_ordered w q in
      record {
        state = receives_so w.state r.receives;
        una_small = o.una_small;
        short = omega (arith, o.room);
        heard = r.heard;
        heard_within = r.heard_within;
        back = ap (λ (m : TcpSeqNumber). m.0) r.back;
        room = omega (arith, (holds_after q.rx q.tx w q.counts q.rx_size q.run).room);
      }

  next : next_ack w ≡ seq_add u.local_seq_no n
  next = r.there ∙ ap (λ m. seq_add m n) (sym k.una)

  taken : n ≤ length u.tx_buffer.bytes
  taken = subst (λ (q : Queue). n ≤ length q.bytes) (sym k.tx) r.taken_within

  answers : processed w now word out.ip out.segment ≡ ack_sent w out.segment → (v.state ≡ state.LastAck → 0 < n) → Moved v u w out n now word
  unfolding ack_segment
  answers is some = by (some_or_none n)
    where
      some_then : u.state ≡ state.LastAck → 0 < n
      some_then e = some (sym k.state ∙ e)

      by : (n ≡ 0) ⊎ (0 < n) → Moved v u w out n now word
      by (inl z) = TellsWindow (ack_segment w out.segment) (ap (λ (o : Outcome). o.reply) is) z (λ ip stamp. told u (reached_then t f v out u said) goes_on (next_ack w) n next taken some_then now word ip (record (ack_segment w out.segment) { timestamp = stamp }) refl refl refl in_reach (subst (λ m. 0 < m) (sym (smoltcp_field w r.smoltcp)) (field_some w r.room)))
      by (inr p) = Releases (ack_segment w out.segment) (ap (λ (o : Outcome). o.reply) is) p (λ ip stamp. released u (reached_then t f v out u said) goes_on (next_ack w) n next taken some_then now word ip (record (ack_segment w out.segment) { timestamp = stamp }) refl refl refl in_reach ∙ ap (λ (q : Queue). drop n q.bytes) k.tx)

  -- with a byte
  module _ (before : seq_sub (next_ack w) out.segment.seq_number < 2 ^ 31) (some : 0 < length out.segment.payload) (small : out.segment.seq_number.0 < 2 ^ 32) where
    edge : (receive_window w).start ≡ next_ack w
    unfolding receive_window
    edge = refl

    near : seq_sub (receive_window w).start out.segment.seq_number < 2 ^ 31
    near = subst (λ m. seq_sub m out.segment.seq_number < 2 ^ 31) (sym edge) before

    few : length out.segment.payload ≤ 2 ^ 30
    few = short t f v out u said

    full : (b : Bool) → is_inside (receive_window w) out.segment.seq_number (length out.segment.payload) ≡ b → full_inside (receive_window w) out.segment.seq_number (seq_add out.segment.seq_number (length out.segment.payload)) ≡ b
    unfolding is_inside
    full b e = ap (λ z. if z then empty_inside (receive_window w) out.segment.seq_number else full_inside (receive_window w) out.segment.seq_number (seq_add out.segment.seq_number (length out.segment.payload))) (sym (not_zero (length out.segment.payload) some)) ∙ e

    wide_so : seq_sub (receive_window w).end (receive_window w).start ≤ 2 ^ 30
    wide_so = wide w (next_ack v) faces now word out.ip out.segment (bit t f v out u said) (ack t f v out u said)

    with_bytes : (v.state ≡ state.LastAck → (0 < n) ⊎ ((next_ack w).0 ≡ out.segment.seq_number.0) × HasWindow w) → Moved v u w out n now word
    with_bytes last = by (is_inside (receive_window w) out.segment.seq_number (length out.segment.payload)) refl
      where
        moves_then : is_inside (receive_window w) out.segment.seq_number (length out.segment.payload) ≡ false → v.state ≡ state.LastAck → 0 < n
        moves_then e is = either (last is)
          where
            either : (0 < n) ⊎ ((next_ack w).0 ≡ out.segment.seq_number.0) × HasWindow w → 0 < n
            either (inl p) = p
            either (inr q) = absurd (true≢false (sym (edge_inside (receive_window w) (start_small w) (end_small w) wide_so out.segment.seq_number small (length out.segment.payload) some few near (ap (λ (m : TcpSeqNumber). m.0) edge ∙ q.0) q.1) ∙ full false e))

        by : (b : Bool) → is_inside (receive_window w) out.segment.seq_number (length out.segment.payload) ≡ b → Moved v u w out n now word
        by true e = Joins (joins w (next_ack v) faces now word out.ip out.segment (bit t f v out u said) (ack t f v out u said) r.receives e (cut_at_edge (receive_window w) (start_small w) (end_small w) wide_so out.segment.seq_number small (length out.segment.payload) some few near) (subst (λ m. 0 < m) (sym (length-cut (cut_of (receive_window w) out.segment.seq_number (length out.segment.payload)) out.segment.payload)) (cut_some (receive_window w) (start_small w) (end_small w) wide_so out.segment.seq_number small (length out.segment.payload) some few near (full true e))))
        by false e = answers (away w (next_ack v) faces now word out.ip out.segment (bit t f v out u said) (ack t f v out u said) e some) (moves_then e)

pub delivery_moves : DeliveryMoves
delivery_moves t f v u w out n now word said r probe in_reach last = by (stands t f v out u said w n r probe)
  where
    by : Stands w out n → Moved v u w out n now word
    by (FinAlone fin none at) =
        let c : CountsIt w (processed w now word out.ip out.segment) = fin_counts w (next_ack v) (faces t f v u w out n now word said r in_reach) now word out.ip out.segment (bit t f v out u said) (ack t f v out u said) fin none at r.receives in
        CountsFin c.fin c.next
    by (WithBytes before some small at) = with_bytes t f v u w out n now word said r in_reach before some small waits
      where
        waits : v.state ≡ state.LastAck → (0 < n) ⊎ ((next_ack w).0 ≡ out.segment.seq_number.0) × HasWindow w
        waits is = either (some_or_none n) (last is)
          where
            either : (n ≡ 0) ⊎ (0 < n) → (0 < n) ⊎ ((out.kind ≡ kind.KeepAlive → ⊥) × HasWindow w) → (0 < n) ⊎ ((next_ack w).0 ≡ out.segment.seq_number.0) × HasWindow w
            either (inr p) h = inl p
            either (inl z) (inl p) = inl p
            either (inl z) (inr q) = inr (at z q.0, q.1)
