-- A segment keeps the order of SND.UNA, SND.NXT, the transmit queue and the timer.
use Rattle.std.proofs.Common.{◌≡◌, ℕ, ◌+◌, ◌-◌, ◌<◌, ◌≤◌, ◌^◌, Bool, true, false, not, refl, sym, ap, subst, ◌∙◌, List, [], length, drop, Option, Some, None, arith, length-drop}
use Rattle.std.specs.Prelude.{if◌then◌else◌, ◌==◌, ◌&&◌, ◌||◌}
use Rattle.std.specs.Option.{ForSome}
use Rattle.std.proofs.lemmas.Bool.{and_parts, eqb-true, eqb-false}
use Rattle.ip_wire.specs.declared.repr.IpRepr.{IpRepr}
use Rattle.net_base.specs.declared.time.Duration.{Duration}
use Rattle.net_base.specs.declared.time.Instant.{Instant}
use Rattle.control_wire.specs.Segment.{Segment}
use Rattle.control_wire.specs.Seq.{seq_add, seq_sub}
use Rattle.control_wire.specs.declared.seq_number.TcpSeqNumber.{TcpSeqNumber}
use Rattle.control_wire.specs.declared.tcp.TcpControl.{TcpControl}
use Rattle.control_wire.specs.declared.tcp.TcpControl.TheVariants as control
use Rattle.sock_core.specs.Seq.{is_before, later_of}
use Rattle.sock_tcp.specs.Arrival.{arrival}
use Rattle.sock_tcp.specs.Acked.{acked_of, acked_at}
use Rattle.sock_tcp.specs.Advance.{Advance, advance_in, advanced, continues, counted_control, dropped, fallen_back, fin_counted, moved_to, opened_state, options_taken, syn_answered, syn_received, waiting, nothing_new_by}
use Rattle.sock_tcp.specs.Process.{challenged, close_restarted, timer_restarted, bytes_taken, tuple_of, after_table, processed_inside, has_window, cut_inside, tested_by, by_verdict, processed_by}
use Rattle.sock_tcp.specs.Queue.{Queue, capacity}
use Rattle.sock_tcp.specs.Replies.{ack_kept}
use Rattle.sock_tcp.specs.Steps.{window_taken, released, is_duplicate, is_last_ack, is_window_changed, ack_heard, duplicate_counted, ack_counted, una_advanced, acknowledged, timestamp_taken, timer_set, timer_acked, probe_set, heard, joined, ack_delayed}
use Rattle.sock_tcp.specs.Verdict.{fin_place, is_next, open_verdict, verdict_at, verdict_of}
use Rattle.sock_tcp.specs.Rfc.Windows.{ack_heeded, windowed}
use Rattle.sock_tcp.specs.View.{View}
use Rattle.sock_tcp.specs.Window.{accepted_window, is_inside, cut_of}
use Rattle.sock_tcp.specs.declared.acked.Acked.{Acked}
use Rattle.sock_tcp.specs.declared.advance.Next.TheVariants as next
use Rattle.sock_tcp.specs.declared.state.State.{State}
use Rattle.sock_tcp.specs.declared.state.State.TheVariants as state
use Rattle.sock_tcp.specs.declared.timer.Timer.{Timer}
use Rattle.sock_tcp.specs.declared.timer.Timer.TheVariants as timer
use Rattle.sock_tcp.specs.declared.tuple.Tuple.{Tuple}
use Rattle.sock_tcp.specs.declared.window.Window.{Window}
use Rattle.sock_tcp.specs.declared.verdict.Verdict.{Verdict}
use Rattle.sock_tcp.specs.declared.verdict.Verdict.TheVariants as verdicts
use Rattle.sock_tcp.proofs.Acking.{acked_fits, none_acked, between, fin_place_le, one_place, passes, two_guards}
use Rattle.tcp_laws.proofs.Kept.{KeptByAnswers, bytes_kept, challenged_kept, outside_kept}
use Rattle.tcp_laws.proofs.Ordered.{HasMoment, IsOpen, IsOrdered, IsPeeredIn, Row, closed_ordered, is_close, acked_open, bytes_acked_open, close_stays, dup_acked_open, idle_has_moment, later_small, lost_open, opened_open, partially_acked_open, left_in_flight, less_in_flight, set_has_moment, taken_open, undone_open, window_open}
use Rattle.sock_core.specs.Congestion.{dup_acked, lost, opened, partially_acked}
use Rattle.sock_tcp.specs.Due.{flight as flight_of}
use Rattle.sock_tcp.specs.Content.{carries_data}
use Rattle.sock_tcp.specs.Rfc.Recovery.{before_it, before_of, controller_after, controller_told, echo_known, flight_before, has_timer, is_news, is_partial, is_repaired, is_timed_out, is_uncounted, is_undone, is_void, lets_out, opens_well, recovered, told_of_bytes, told_of_count, told_repaired, undone_if, waited_for, recovered_by}
use Rattle.sock_tcp.specs.Rfc.Refused.{is_plain_control, refused}
use Rattle.sock_tcp.specs.declared.recovery.Before.{Before}
use Rattle.sock_tcp.specs.declared.rules.Rules.{Rules}
use Rattle.sock_tcp.specs.declared.rules.Rules.TheVariants as rules
use Rattle.sock_tcp.specs.Timers.{after as moment_after, rto_of}
use Rattle.tcp_laws.proofs.Heeding.{heeded_none, heeded_small}
use Rattle.sock_tcp.proofs.Late.{closed_as}
use Rattle.sock_tcp.proofs.Recovering.{known_as, recovered_as, waited_as}
use Rattle.sock_tcp.proofs.Checking.{verdict_as}
use Rattle.sock_tcp.proofs.Refusing.{fin_is_plain, heard_alone, plain_is_no_rst, refused_as}

-- ---- what a segment that passes acknowledges

abbrev FinCovers : Bool → ℕ → ℕ → ℕ → Type 0
FinCovers true d n len = (d ≡ n + 1) × (len ≡ n)
FinCovers false d n len = (d ≤ n) × (len ≡ d)

-- an acknowledgement that reaches d places past SND.UNA, of a queue of n bytes: it covers the FIN or not, and len bytes
abbrev CoversSome : State → Bool → ℕ → ℕ → ℕ → Type 0
CoversSome state.SynSent fin d n len = (d ≡ 1) × (len ≡ 0)
CoversSome state.SynReceived fin d n len = (d ≡ 1) × (len ≡ 0)
CoversSome state.FinWait1 fin d n len = FinCovers fin d n len
CoversSome state.Closing fin d n len = FinCovers fin d n len
CoversSome state.LastAck fin d n len = FinCovers fin d n len
CoversSome _ fin d n len = (d ≤ n) × (len ≡ d)

-- only LISTEN and SYN-SENT let a segment without one pass
abbrev CoversNone : State → ℕ → Type 0
CoversNone state.Listen len = len ≡ 0
CoversNone state.SynSent len = len ≡ 0
CoversNone _ len = ⊥

abbrev Covers : State → Option TcpSeqNumber → TcpSeqNumber → ℕ → Bool → ℕ → Type 0
Covers st None una n fin len = CoversNone st len
Covers st (Some k) una n fin len = CoversSome st fin (seq_sub k una) n len

fin_covers : (d i n : ℕ) → i ≡ d → d ≤ n + 1 → (b : Bool) → (i == n + 1) ≡ b → FinCovers b d n (if b then i - 1 else i)
fin_covers d i n e h true t = let x : i ≡ n + 1 = eqb-true i (n + 1) t in (omega (arith, e, x), omega (arith, x))
fin_covers d i n e h false t = let x : (i ≡ n + 1 → ⊥) = eqb-false i (n + 1) t in (grind (arith), e)

reaches : (st : State) (una k : TcpSeqNumber) (n : ℕ) → una.0 < 2 ^ 32 → k.0 < 2 ^ 32 → n ≤ 2 ^ 30 → open_verdict st k una n ≡ verdicts.Pass → seq_sub k una ≤ n + fin_place st
reaches st una k n hu hk hn e =
    let g = two_guards (is_before k una) (is_before (seq_add una (n + fin_place st)) k) e in
    between una k (n + fin_place st) hu hk (let f : fin_place st ≤ 1 = fin_place_le st in omega (arith, f, hn)) g.0 g.1

syn_covers : (una k : TcpSeqNumber) → una.0 < 2 ^ 32 → (if is_next k una then verdicts.Pass else verdicts.Reset) ≡ verdicts.Pass → (seq_sub k una ≡ 1) × (seq_sub k una - 1 ≡ 0)
syn_covers una k hu e = let h = one_place una k hu (passes (is_next k una) e) in (h, omega (arith, h))

covers_some : (st : State) (c : TcpControl) (una k nxt : TcpSeqNumber) (n : ℕ) → (c ≡ control.Rst → ⊥) → una.0 < 2 ^ 32 → k.0 < 2 ^ 32 → n ≤ 2 ^ 30 → verdict_at st c (Some k) una n ≡ verdicts.Pass
    → CoversSome st (acked_at st c (Some k) una nxt n).fin (seq_sub k una) n (acked_at st c (Some k) una nxt n).len
unfolding verdict_at acked_at
covers_some _ control.Rst una k nxt n nr hu hk hn e = absurd (nr refl)
covers_some state.SynSent control.Syn una k nxt n nr hu hk hn e = syn_covers una k hu e
covers_some state.SynSent control.None una k nxt n nr hu hk hn e = by (is_next k una) e
  where
    by : (b : Bool) → (if b then verdicts.Drop else verdicts.Reset) ≡ verdicts.Pass → (seq_sub k una ≡ 1) × (seq_sub k una - 1 ≡ 0)
    by true e = absurd cc
    by false e = absurd cc
covers_some state.SynSent _ una k nxt n nr hu hk hn e = absurd cc
covers_some state.SynReceived _ una k nxt n nr hu hk hn e = syn_covers una k hu e
covers_some state.FinWait1 _ una k nxt n nr hu hk hn e = fin_covers (seq_sub k una) (seq_sub k una - 0) n (omega arith) (reaches state.FinWait1 una k n hu hk hn e) (seq_sub k una - 0 == n + 1) refl
covers_some state.Closing _ una k nxt n nr hu hk hn e = fin_covers (seq_sub k una) (seq_sub k una - 0) n (omega arith) (reaches state.Closing una k n hu hk hn e) (seq_sub k una - 0 == n + 1) refl
covers_some state.LastAck _ una k nxt n nr hu hk hn e = fin_covers (seq_sub k una) (seq_sub k una - 0) n (omega arith) (reaches state.LastAck una k n hu hk hn e) (seq_sub k una - 0 == n + 1) refl
covers_some st _ una k nxt n nr hu hk hn e = let h = reaches st una k n hu hk hn e in (omega (arith, h), omega arith)

covers_none : (st : State) (c : TcpControl) (una nxt : TcpSeqNumber) (n : ℕ) → (c ≡ control.Rst → ⊥) → verdict_at st c None una n ≡ verdicts.Pass → CoversNone st (acked_at st c None una nxt n).len
unfolding verdict_at acked_at
covers_none _ control.Rst una nxt n nr e = absurd (nr refl)
covers_none state.Listen _ una nxt n nr e = refl
covers_none state.SynSent control.Syn una nxt n nr e = refl
covers_none state.SynSent _ una nxt n nr e = absurd cc
covers_none st _ una nxt n nr e = absurd cc

covers : (st : State) (c : TcpControl) (o : Option TcpSeqNumber) (una nxt : TcpSeqNumber) (n : ℕ) → (c ≡ control.Rst → ⊥) → una.0 < 2 ^ 32 → ForSome o (λ k. k.0 < 2 ^ 32) → n ≤ 2 ^ 30 → verdict_at st c o una n ≡ verdicts.Pass
    → Covers st o una n (acked_at st c o una nxt n).fin (acked_at st c o una nxt n).len
covers st c None una nxt n nr hu hk hn e = covers_none st c una nxt n nr e
covers st c (Some k) una nxt n nr hu hk hn e = covers_some st c una k nxt n nr hu (hk k refl) hn e

module _ (s : Segment) (now : Instant) where
  -- ---- steps that leave it alone

  restarted_row : (st : State) (t : Timer) (keep : Option Duration) (flight n : ℕ) → Row st t keep flight n → Row st (timer_restarted st t now) keep flight n
  restarted_row state.TimeWait t keep flight n r = (refl, r.1, r.2)
  restarted_row _ t keep flight n r = r

  restarted_ordered : (w : View) → IsOrdered w → IsOrdered (close_restarted w now)
  unfolding close_restarted
  restarted_ordered w h = record { una_small = h.una_small; nxt_small = h.nxt_small; room = h.room; congestion = h.congestion; peered = h.peered; row = restarted_row w.state w.timer w.keep_alive (seq_sub w.remote_last_seq w.local_seq_no) (length w.tx_buffer.bytes) h.row }

  answers_ordered : KeptByAnswers IsOrdered
  unfolding ack_kept
  answers_ordered = record { challenges = λ w at h. h; acks = λ w h. h }

  challenged_ordered : (w : View) → IsOrdered w → IsOrdered (challenged w now s).view
  challenged_ordered w h = challenged_kept IsOrdered now s answers_ordered w h

  bytes_ordered : (w : View) (o : ℕ) (bs : List ℕ) → IsOrdered w → IsOrdered (bytes_taken w now o bs s).view
  unfolding joined ack_delayed
  bytes_ordered w o bs h = bytes_kept IsOrdered now s answers_ordered (λ w o bs h. h) w o bs h

  -- ---- the steps behind the table

  module _ (a : Acked) (st : State) where
    -- what is known of a socket in the state st that hears an acknowledgement of a.len bytes
    record Hears (u : View) : Type 0 where
      state : u.state ≡ st
      una_small : u.local_seq_no.0 < 2 ^ 32
      nxt_small : u.remote_last_seq.0 < 2 ^ 32
      room : capacity u.tx_buffer ≤ 2 ^ 30
      congestion : IsOpen u.congestion_controller
      peered : IsPeeredIn st u.tuple
      covered : a.len ≤ length u.tx_buffer.bytes

    -- what the timer may be afterwards: where it was TIME-WAIT's, and nothing is left, it still is
    abbrev LeavesRow : View → ℕ → ℕ → Type 0
    LeavesRow u flight n = (t : Timer) → HasMoment t u.keep_alive → (is_close u.timer ≡ true → flight ≡ 0 → n ≡ 0 → is_close t ≡ true) → Row st t u.keep_alive flight n

    hears_nothing : (u : View) → s.ack_number ≡ None → Hears u → LeavesRow u (seq_sub u.remote_last_seq u.local_seq_no) (length u.tx_buffer.bytes - a.len) → IsOrdered (heard u now a s)
    unfolding heard window_taken released timestamp_taken timer_set acknowledged
    hears_nothing u e h leaves = subst (λ o. IsOrdered (timer_set (timestamp_taken (acknowledged x o now a.len (length s.payload) changed) s) now a)) (sym e) by_none
      where
        x : View
        x = released (window_taken u now s.control s.window_len) a.len

        changed : Bool
        changed = is_window_changed u s.control s.window_len

        y : View
        y = timestamp_taken x s

        t : Timer
        t = probe_set (timer_acked u.timer y now a) y now a

        long : length (drop a.len u.tx_buffer.bytes) ≡ length u.tx_buffer.bytes - a.len
        long = length-drop a.len u.tx_buffer.bytes

        row : Row st t u.keep_alive (seq_sub u.remote_last_seq u.local_seq_no) (length (drop a.len u.tx_buffer.bytes))
        row = subst (λ n. Row st t u.keep_alive (seq_sub u.remote_last_seq u.local_seq_no) n) (sym long) (leaves t (set_has_moment now a u.timer y) (λ c f z. close_stays now a u.timer y c (long ∙ z)))

        by_none : IsOrdered (timer_set (timestamp_taken (acknowledged x None now a.len (length s.payload) changed) s) now a)
        by_none = record {
          una_small = h.una_small;
          nxt_small = h.nxt_small;
          room = omega (arith, h.room, long, h.covered);
          congestion = window_open u.congestion_controller _ h.congestion;
          peered = subst (λ z. IsPeeredIn z u.tuple) (sym h.state) h.peered;
          row = subst (λ z. Row z t u.keep_alive (seq_sub u.remote_last_seq u.local_seq_no) (length (drop a.len u.tx_buffer.bytes))) (sym h.state) row;
        }

    hears : (u : View) (k : TcpSeqNumber) → s.ack_number ≡ Some k → k.0 < 2 ^ 32 → Hears u → seq_sub u.remote_last_seq u.local_seq_no < 2 ^ 31 → seq_sub k u.local_seq_no < 2 ^ 31
        → LeavesRow u (seq_sub u.remote_last_seq u.local_seq_no - seq_sub k u.local_seq_no) (length u.tx_buffer.bytes - a.len) → IsOrdered (heard u now a s)
    unfolding heard window_taken released timestamp_taken timer_set acknowledged duplicate_counted ack_counted una_advanced
    hears u k e small h fn fk leaves = subst (λ o. IsOrdered (timer_set (timestamp_taken (acknowledged x o now a.len (length s.payload) changed) s) now a)) (sym e) (by (is_duplicate x k (length s.payload) changed) refl)
      where
        x : View
        x = released (window_taken u now s.control s.window_len) a.len

        changed : Bool
        changed = is_window_changed u s.control s.window_len

        flight : ℕ
        flight = seq_sub u.remote_last_seq u.local_seq_no - seq_sub k u.local_seq_no

        n : ℕ
        n = length u.tx_buffer.bytes - a.len

        long : length (drop a.len u.tx_buffer.bytes) ≡ n
        long = length-drop a.len u.tx_buffer.bytes

        left : seq_sub (later_of u.remote_last_seq k) k ≡ flight
        left = left_in_flight u.remote_last_seq k u.local_seq_no h.nxt_small small h.una_small fn fk

        row_holds : (t : Timer) → Row st t u.keep_alive flight n → Row u.state t u.keep_alive (seq_sub (later_of u.remote_last_seq k) k) (length (drop a.len u.tx_buffer.bytes))
        row_holds t r = subst (λ z. Row z t u.keep_alive (seq_sub (later_of u.remote_last_seq k) k) (length (drop a.len u.tx_buffer.bytes))) (sym h.state) (subst (λ i. Row st t u.keep_alive i (length (drop a.len u.tx_buffer.bytes))) (sym left) (subst (λ i. Row st t u.keep_alive flight i) (sym long) r))

        peered : IsPeeredIn u.state u.tuple
        peered = subst (λ z. IsPeeredIn z u.tuple) (sym h.state) h.peered

        after_duplicate : View
        after_duplicate = timestamp_taken (una_advanced (duplicate_counted x now) k) s

        after_ack : View
        after_ack = timestamp_taken (una_advanced (ack_counted x now k a.len) k) s

        in_order : is_duplicate x k (length s.payload) changed ≡ true → flight ≡ 0 → ⊥
        in_order d f =
            let parts = and_parts (is_last_ack u.local_rx_last_ack k) (is_before k u.remote_last_seq && ((length s.payload == 0) && not changed)) d in
            let b = and_parts (is_before k u.remote_last_seq) ((length s.payload == 0) && not changed) parts.1 in
            let l : seq_sub k u.local_seq_no < seq_sub u.remote_last_seq u.local_seq_no = less_in_flight k u.remote_last_seq u.local_seq_no small h.nxt_small h.una_small fn fk b.0 in
            omega (arith, l, f)

        by : (b : Bool) → is_duplicate x k (length s.payload) changed ≡ b → IsOrdered (timer_set (timestamp_taken (ack_heard b x now k a.len) s) now a)
        by true d = record {
          una_small = small;
          nxt_small = later_small u.remote_last_seq k h.nxt_small small;
          room = omega (arith, h.room, long, h.covered);
          congestion = dup_acked_open _ _ _ _ (window_open u.congestion_controller _ h.congestion);
          peered = peered;
          row = row_holds _ (leaves _ (set_has_moment now a after_duplicate.timer after_duplicate) (λ c f z. absurd (in_order d f)));
        }
        by false d = record {
          una_small = small;
          nxt_small = later_small u.remote_last_seq k h.nxt_small small;
          room = omega (arith, h.room, long, h.covered);
          congestion = acked_open _ _ _ _ _ (window_open u.congestion_controller _ h.congestion);
          peered = peered;
          row = row_holds _ (leaves _ (set_has_moment now a u.timer after_ack) (λ c f z. close_stays now a u.timer after_ack c (long ∙ z)));
        }

  -- ---- the table

  module _ (v : View) (t : Tuple) (word : ℕ) (a : Acked) (o : ℕ) (bs : List ℕ) (small : word < 2 ^ 32) (numbered : ForSome s.ack_number (λ k. k.0 < 2 ^ 32)) (bare : v.state ≡ state.Listen → s.ack_number ≡ None) (h : IsOrdered v) (covered : a.len ≤ length v.tx_buffer.bytes) where
    abbrev n : ℕ
    n = length v.tx_buffer.bytes

    abbrev flight : ℕ
    flight = seq_sub v.remote_last_seq v.local_seq_no

    short : n ≤ 2 ^ 30
    short = omega (arith, h.room)

    abbrev After : Advance → Type 0
    After x = IsOrdered (after_table x (arrival now t word s) a o bs).view

    own : (st : State) → v.state ≡ st → Row st v.timer v.keep_alive flight n
    own st is = subst (λ z. Row z v.timer v.keep_alive flight n) is h.row

    peer : (st : State) → v.state ≡ st → IsPeeredIn st v.tuple
    peer st is = subst (λ z. IsPeeredIn z v.tuple) is h.peered

    fallen : n ≡ 0 → IsOrdered (fallen_back v)
    unfolding fallen_back
    fallen z = go (v.listen_endpoint.port == 0)
      where
        peered : (b : Bool) → IsPeeredIn (if b then state.Closed else state.Listen) None
        peered true = tt
        peered false = refl

        row : (b : Bool) → Row (if b then state.Closed else state.Listen) v.timer v.keep_alive flight n
        row true = tt
        row false = z

        go : (b : Bool) → IsOrdered (record v { state = if b then state.Closed else state.Listen; tuple = None })
        go b = record { una_small = h.una_small; nxt_small = h.nxt_small; room = h.room; congestion = h.congestion; peered = peered b; row = row b }

    dropped_ordered : IsOrdered (dropped v)
    dropped_ordered = record { una_small = h.una_small; nxt_small = h.nxt_small; room = h.room; congestion = h.congestion; peered = tt; row = tt }

    -- a socket that differs from v in no number that counts
    hearing : (st : State) (u : View) → u.state ≡ st → IsPeeredIn st u.tuple → u.local_seq_no ≡ v.local_seq_no → u.remote_last_seq ≡ v.remote_last_seq → u.tx_buffer ≡ v.tx_buffer → u.congestion_controller ≡ v.congestion_controller → Hears a st u
    hearing st u is p una nxt tx c = record {
      state = is;
      una_small = subst (λ (z : TcpSeqNumber). z.0 < 2 ^ 32) (sym una) h.una_small;
      nxt_small = subst (λ (z : TcpSeqNumber). z.0 < 2 ^ 32) (sym nxt) h.nxt_small;
      room = subst (λ q. capacity q ≤ 2 ^ 30) (sym tx) h.room;
      congestion = subst IsOpen (sym c) h.congestion;
      peered = p;
      covered = subst (λ (q : Queue). a.len ≤ length q.bytes) (sym tx) covered;
    }

    moves : (st : State) (u : View) (k : TcpSeqNumber) → s.ack_number ≡ Some k → Hears a st u → seq_sub u.remote_last_seq u.local_seq_no ≤ n + 1 → seq_sub k u.local_seq_no ≤ n + 1
        → LeavesRow a st u (seq_sub u.remote_last_seq u.local_seq_no - seq_sub k u.local_seq_no) (length u.tx_buffer.bytes - a.len) → After (continues u)
    moves st u k e hu fn fk leaves = bytes_ordered (heard u now a s) o bs (hears a st u k e (numbered k e) hu (omega (arith, fn, short)) (omega (arith, fk, short)) leaves)

    opens : (ack : Option TcpSeqNumber) → s.ack_number ≡ ack → (fin : Bool) → v.state ≡ state.SynSent → Covers state.SynSent ack v.local_seq_no n fin a.len → After (continues (syn_answered v s))
    unfolding syn_answered options_taken
    opens None e fin is c = bytes_ordered (heard u now a s) o bs (hears_nothing a state.SynReceived u e hu (λ t m z. (m, omega (arith, (own state.SynSent is).1), omega (arith, h.una_small))))
      where
        u : View
        u = syn_answered v s

        hu : Hears a state.SynReceived u
        hu = record { state = ap opened_state e; una_small = h.una_small; nxt_small = omega arith; room = h.room; congestion = taken_open v.congestion_controller s.max_seg_size h.congestion; peered = peer state.SynSent is; covered = covered }
    opens (Some k) e fin is c = moves state.Established u k e hu (omega (arith, one)) (omega (arith, c.0)) (λ t m z. (m, omega (arith, one, c.0)))
      where
        u : View
        u = syn_answered v s

        one : seq_sub (seq_add v.local_seq_no 1) v.local_seq_no ≡ 1
        one = omega (arith, h.una_small)

        hu : Hears a state.Established u
        hu = record { state = ap opened_state e; una_small = h.una_small; nxt_small = omega arith; room = h.room; congestion = taken_open v.congestion_controller s.max_seg_size h.congestion; peered = peer state.SynSent is; covered = covered }

    ack_in_listen : (k : TcpSeqNumber) → s.ack_number ≡ Some k → v.state ≡ state.Listen → ⊥
    ack_in_listen k e is = let no : Some k ≡ None = sym e ∙ bare is in cc

    listens : (ack : Option TcpSeqNumber) → s.ack_number ≡ ack → (fin : Bool) → v.state ≡ state.Listen → Covers state.Listen ack v.local_seq_no n fin a.len → After (continues (syn_received v now t word s))
    unfolding syn_received options_taken
    listens (Some k) e fin is c = absurd (ack_in_listen k e is)
    listens None e fin is c = bytes_ordered (heard u now a s) o bs (hears_nothing a state.SynReceived u e hu (λ t m z. (m, omega (arith, own state.Listen is), omega (arith, small))))
      where
        u : View
        u = syn_received v now t word s

        hu : Hears a state.SynReceived u
        hu = record { state = refl; una_small = small; nxt_small = small; room = h.room; congestion = taken_open v.congestion_controller s.max_seg_size h.congestion; peered = refl; covered = covered }

    -- with an acknowledgement
    row_with : (st : State) (c : TcpControl) (fin : Bool) (k : TcpSeqNumber) → s.ack_number ≡ Some k → v.state ≡ st → CoversSome st fin (seq_sub k v.local_seq_no) n a.len → After (advance_in st c fin v (arrival now t word s) a.len)
    unfolding fin_counted
    row_with state.SynReceived control.Rst fin k e is c = fallen (own state.SynReceived is).1
    row_with _ control.Rst fin k e is c = dropped_ordered
    row_with state.Listen control.Syn fin k e is c = absurd (ack_in_listen k e is)
    row_with state.SynSent control.Syn fin k e is c = opens (Some k) e fin is c
    row_with state.SynReceived control.None fin k e is c = let r = own state.SynReceived is in moves state.Established (moved_to state.Established v) k e (hearing state.Established _ refl (peer state.SynReceived is) refl refl refl refl) (omega (arith, r.2)) (omega (arith, c.0)) (λ t m z. (m, omega (arith, r.2, c.0)))
    row_with state.SynReceived control.Fin fin k e is c = let r = own state.SynReceived is in moves state.CloseWait (fin_counted state.CloseWait v) k e (hearing state.CloseWait _ refl (peer state.SynReceived is) refl refl refl refl) (omega (arith, r.2)) (omega (arith, c.0)) (λ t m z. (m, omega (arith, r.2, c.0)))
    row_with state.Established control.None fin k e is c = let r = own state.Established is in moves state.Established v k e (hearing state.Established v is (peer state.Established is) refl refl refl refl) (omega (arith, r.1)) (omega (arith, c.0)) (λ t m z. (m, omega (arith, r.1, c.0, c.1)))
    row_with state.Established control.Fin fin k e is c = let r = own state.Established is in moves state.CloseWait (fin_counted state.CloseWait v) k e (hearing state.CloseWait _ refl (peer state.Established is) refl refl refl refl) (omega (arith, r.1)) (omega (arith, c.0)) (λ t m z. (m, omega (arith, r.1, c.0, c.1)))
    row_with state.FinWait1 control.None true k e is c = let r = own state.FinWait1 is in moves state.FinWait2 (moved_to state.FinWait2 v) k e (hearing state.FinWait2 _ refl (peer state.FinWait1 is) refl refl refl refl) (omega (arith, r.1)) (omega (arith, c.0)) (λ t m z. (m, omega (arith, c.1), omega (arith, r.1, c.0)))
    row_with state.FinWait1 control.None false k e is c = let r = own state.FinWait1 is in moves state.FinWait1 v k e (hearing state.FinWait1 v is (peer state.FinWait1 is) refl refl refl refl) (omega (arith, r.1)) (omega (arith, c.0)) (λ t m z. (m, omega (arith, r.1, c.0, c.1)))
    row_with state.FinWait1 control.Fin true k e is c = let r = own state.FinWait1 is in moves state.TimeWait (waiting now (fin_counted state.TimeWait v)) k e (hearing state.TimeWait _ refl (peer state.FinWait1 is) refl refl refl refl) (omega (arith, r.1)) (omega (arith, c.0)) (λ t m z. (z refl (omega (arith, r.1, c.0)) (omega (arith, c.1)), omega (arith, c.1), omega (arith, r.1, c.0)))
    row_with state.FinWait1 control.Fin false k e is c = let r = own state.FinWait1 is in moves state.Closing (fin_counted state.Closing v) k e (hearing state.Closing _ refl (peer state.FinWait1 is) refl refl refl refl) (omega (arith, r.1)) (omega (arith, c.0)) (λ t m z. (m, omega (arith, r.1, c.0, c.1)))
    row_with state.FinWait2 control.None fin k e is c = let r = own state.FinWait2 is in moves state.FinWait2 v k e (hearing state.FinWait2 v is (peer state.FinWait2 is) refl refl refl refl) (omega (arith, r.2)) (omega (arith, c.0)) (λ t m z. (m, omega (arith, r.1), omega (arith, r.2)))
    row_with state.FinWait2 control.Fin fin k e is c = let r = own state.FinWait2 is in moves state.TimeWait (waiting now (fin_counted state.TimeWait v)) k e (hearing state.TimeWait _ refl (peer state.FinWait2 is) refl refl refl refl) (omega (arith, r.2)) (omega (arith, c.0)) (λ t m z. (z refl (omega (arith, r.2)) (omega (arith, r.1)), omega (arith, r.1), omega (arith, r.2)))
    row_with state.CloseWait control.None fin k e is c = let r = own state.CloseWait is in moves state.CloseWait v k e (hearing state.CloseWait v is (peer state.CloseWait is) refl refl refl refl) (omega (arith, r.1)) (omega (arith, c.0)) (λ t m z. (m, omega (arith, r.1, c.0, c.1)))
    row_with state.Closing control.None true k e is c = let r = own state.Closing is in moves state.TimeWait (waiting now v) k e (hearing state.TimeWait _ refl (peer state.Closing is) refl refl refl refl) (omega (arith, r.1)) (omega (arith, c.0)) (λ t m z. (z refl (omega (arith, r.1, c.0)) (omega (arith, c.1)), omega (arith, c.1), omega (arith, r.1, c.0)))
    row_with state.Closing control.None false k e is c = let r = own state.Closing is in moves state.Closing v k e (hearing state.Closing v is (peer state.Closing is) refl refl refl refl) (omega (arith, r.1)) (omega (arith, c.0)) (λ t m z. (m, omega (arith, r.1, c.0, c.1)))
    row_with state.LastAck control.None true k e is c = let r = own state.LastAck is in moves state.Closed (dropped v) k e (hearing state.Closed _ refl tt refl refl refl refl) (omega (arith, r.1)) (omega (arith, c.0)) (λ t m z. tt)
    row_with state.LastAck control.None false k e is c = by (a.len == 0) v.rules
      where
        by : (b : Bool) (r : Rules) → After (record { view = v; next = if b then nothing_new_by r else next.Continue })
        by true rules.Smoltcp = challenged_ordered v h
        by _ r = let r = own state.LastAck is in moves state.LastAck v k e (hearing state.LastAck v is (peer state.LastAck is) refl refl refl refl) (omega (arith, r.1)) (omega (arith, c.0)) (λ t m z. (m, omega (arith, r.1, c.0, c.1)))
    row_with _ _ fin k e is c = h

    row_without : (st : State) (c : TcpControl) (fin : Bool) → s.ack_number ≡ None → v.state ≡ st → CoversNone st a.len → After (advance_in st c fin v (arrival now t word s) a.len)
    row_without state.Listen control.Rst fin e is c = dropped_ordered
    row_without state.Listen control.Syn fin e is c = listens None e fin is c
    row_without state.Listen _ fin e is c = h
    row_without state.SynSent control.Rst fin e is c = dropped_ordered
    row_without state.SynSent control.Syn fin e is c = opens None e fin is c
    row_without state.SynSent _ fin e is c = h
    row_without _ _ fin e is c = absurd c

    pub row_ordered : (st : State) (c : TcpControl) (fin : Bool) (ack : Option TcpSeqNumber) → s.ack_number ≡ ack → v.state ≡ st → Covers st ack v.local_seq_no n fin a.len → After (advance_in st c fin v (arrival now t word s) a.len)
    row_ordered st c fin None e is cv = row_without st c fin e is cv
    row_ordered st c fin (Some k) e is cv = row_with st c fin k e is cv

    -- an RST
    pub reset_ordered : (st : State) (fin : Bool) → v.state ≡ st → After (advance_in st control.Rst fin v (arrival now t word s) a.len)
    reset_ordered state.SynReceived fin is = fallen (own state.SynReceived is).1
    reset_ordered _ fin is = dropped_ordered

-- ---- the whole

none_not_rst : control.None ≡ control.Rst → ⊥
none_not_rst e = absurd cc

psh_not_rst : control.Psh ≡ control.Rst → ⊥
psh_not_rst e = absurd cc

syn_not_rst : control.Syn ≡ control.Rst → ⊥
syn_not_rst e = absurd cc

fin_not_rst : control.Fin ≡ control.Rst → ⊥
fin_not_rst e = absurd cc

rst_counts : (c : TcpControl) → c ≡ control.Rst → (w : Window) (number : TcpSeqNumber) (n : ℕ) → counted_control c w number n ≡ control.Rst
unfolding counted_control
rst_counts c e w number n = subst (λ x. counted_control x w number n ≡ control.Rst) (sym e) refl

module _ (now : Instant) (word : ℕ) (ip : IpRepr) (s : Segment) (small : word < 2 ^ 32) (numbered : ForSome s.ack_number (λ k. k.0 < 2 ^ 32)) where
  acked_within : (v : View) → IsOrdered v → (o : Option TcpSeqNumber) → s.ack_number ≡ o → verdict_of v s.control o ≡ verdicts.Pass → (acked_of v s.control o).len ≤ length v.tx_buffer.bytes
  acked_within v h None e p = none_acked s.control v
  acked_within v h (Some k) e p = acked_fits s.control v k h.una_small (numbered k e) (omega (arith, h.room)) p

  -- of a socket u whose numbers are those of v
  inside_ordered : (u : View) (c : TcpControl) (o : ℕ) (bs : List ℕ) → IsOrdered u → (u.state ≡ state.Listen → s.ack_number ≡ None) → (s.control ≡ control.Rst → c ≡ control.Rst) → verdict_of u s.control s.ack_number ≡ verdicts.Pass → IsOrdered (processed_inside u (arrival now (tuple_of ip s) word s) c o bs).view
  unfolding processed_inside advanced
  inside_ordered u c o bs h bare rst p = by s.control refl
    where
      a : Acked
      a = acked_of u s.control s.ack_number

      within : a.len ≤ length u.tx_buffer.bytes
      within = acked_within u h s.ack_number refl p

      goes : (s.control ≡ control.Rst → ⊥) → IsOrdered (after_table (advance_in u.state c a.fin u (arrival now (tuple_of ip s) word s) a.len) (arrival now (tuple_of ip s) word s) a o bs).view
      goes nr = row_ordered s now u (tuple_of ip s) word a o bs small numbered bare h within u.state c a.fin s.ack_number refl refl (covers u.state s.control s.ack_number u.local_seq_no u.remote_last_seq (length u.tx_buffer.bytes) nr h.una_small numbered (omega (arith, h.room)) p)

      by : (x : TcpControl) → s.control ≡ x → IsOrdered (after_table (advance_in u.state c a.fin u (arrival now (tuple_of ip s) word s) a.len) (arrival now (tuple_of ip s) word s) a o bs).view
      by control.Rst e = subst (λ z. IsOrdered (after_table (advance_in u.state z a.fin u (arrival now (tuple_of ip s) word s) a.len) (arrival now (tuple_of ip s) word s) a o bs).view) (sym (rst e)) (reset_ordered s now u (tuple_of ip s) word a o bs small numbered bare h within u.state a.fin refl)
      by control.None e = goes (λ r. absurd (none_not_rst (sym e ∙ r)))
      by control.Psh e = goes (λ r. absurd (psh_not_rst (sym e ∙ r)))
      by control.Syn e = goes (λ r. absurd (syn_not_rst (sym e ∙ r)))
      by control.Fin e = goes (λ r. absurd (fin_not_rst (sym e ∙ r)))

  refused_ordered : (r : Rules) (v : View) → IsOrdered v → (v.state ≡ state.Listen → s.ack_number ≡ None) → verdict_of v s.control s.ack_number ≡ verdicts.Pass → IsOrdered (refused r v (arrival now (tuple_of ip s) word s)).view
  refused_ordered r v h bare p = refused_as (λ o. IsOrdered o.view) r v (arrival now (tuple_of ip s) word s) (record {
    answers = outside_kept IsOrdered now s (answers_ordered s now) (λ w h. restarted_ordered s now w h) v h;
    counts = λ e. inside_ordered v control.Fin 0 [] h bare (λ i. absurd (plain_is_no_rst s.control (fin_is_plain v (arrival now (tuple_of ip s) word s) e) i)) p;
    hears = alone;
    ends = alone;
    goes_on = λ e. outside_kept IsOrdered now s (answers_ordered s now) (λ w h. restarted_ordered s now w h) (heard_alone v (arrival now (tuple_of ip s) word s)).view (alone e);
  })
    where
      alone : is_plain_control s.control ≡ true → IsOrdered (heard_alone v (arrival now (tuple_of ip s) word s)).view
      alone e = inside_ordered v control.None 0 [] h bare (λ i. absurd (plain_is_no_rst s.control e i)) p

  tested_ordered : (r : Rules) (v : View) → IsOrdered v → (v.state ≡ state.Listen → s.ack_number ≡ None) → verdict_of v s.control s.ack_number ≡ verdicts.Pass → (b : Bool) → IsOrdered (tested_by r b v (arrival now (tuple_of ip s) word s)).view
  tested_ordered r v h bare p false = inside_ordered v s.control 0 [] h bare (λ e. e) p
  tested_ordered r v h bare p true = go (is_inside (accepted_window r v) s.seq_number (length s.payload))
    where
      go : (b : Bool) → IsOrdered (if b then cut_inside (accepted_window r v) (cut_of (accepted_window r v) s.seq_number (length s.payload)) v (arrival now (tuple_of ip s) word s) else refused r v (arrival now (tuple_of ip s) word s)).view
      go false = refused_ordered r v h bare p
      go true = inside_ordered (record v { local_rx_last_seq = Some s.seq_number }) (counted_control s.control (accepted_window r v) s.seq_number (length s.payload)) _ _ h bare (λ e. rst_counts _ e (accepted_window r v) s.seq_number (length s.payload)) p

  -- ---- where it has recovered

  controller_open : (b : Before) (w : View) → IsOpen b.controller → IsOpen w.congestion_controller → IsOpen (controller_after b w now)
  controller_open b w h i = by (is_partial b w) (lets_out b w || is_void b w) (is_uncounted b w)
    where
      before : IsOpen (before_it b w)
      before = window_open b.controller w.remote_win_len h

      repaired : (r : Bool) → IsOpen (if r then lost (before_it b w) now (flight_before b w) else before_it b w)
      repaired true = lost_open _ now _ before
      repaired false = before

      told : (o n : Bool) → IsOpen (if o then opened w.congestion_controller w.remote_mss else (if n then told_of_count b w now (told_repaired b w now) else w.congestion_controller))
      told true n = opened_open w.congestion_controller w.remote_mss i
      told false true = bytes_acked_open _ now _ (is_timed_out b.recovery) w.rtte (repaired (is_repaired b w))
      told false false = i

      by : (p o g : Bool) → IsOpen (if p then partially_acked (before_it b w) now (seq_sub w.local_seq_no b.una) else (if o then before_it b w else (if g then dup_acked w.congestion_controller now w.remote_mss (flight_of w) else told_of_bytes b w now)))
      by true o g = partially_acked_open _ now _ before
      by false true g = before
      by false false true = dup_acked_open w.congestion_controller now w.remote_mss (flight_of w) i
      by false false false = told (opens_well b w) (is_news b w && carries_data b.state)

  told_open : (b : Before) (w : View) → IsOpen b.controller → IsOpen w.congestion_controller → IsOpen (controller_told b w now)
  told_open b w h i = by (is_undone b w)
    where
      by : (u : Bool) → IsOpen (undone_if u (controller_after b w now) w.undo)
      by true = undone_open (controller_after b w now) w.undo.window w.undo.threshold (controller_open b w h i)
      by false = controller_open b w h i

  row_recovers : (st : State) (waited t : Timer) (keep : Option Duration) (f q : ℕ) → (HasMoment t keep → HasMoment waited keep) → Row st t keep f q → Row st (if has_timer st then waited else t) keep f q
  row_recovers state.Closed waited t keep f q m h = tt
  row_recovers state.Listen waited t keep f q m h = h
  row_recovers state.SynSent waited t keep f q m h = h
  row_recovers state.TimeWait waited t keep f q m h = h
  row_recovers state.SynReceived waited t keep f q m h = (m h.0, h.1, h.2)
  row_recovers state.Established waited t keep f q m h = (m h.0, h.1)
  row_recovers state.CloseWait waited t keep f q m h = (m h.0, h.1)
  row_recovers state.FinWait1 waited t keep f q m h = (m h.0, h.1)
  row_recovers state.Closing waited t keep f q m h = (m h.0, h.1)
  row_recovers state.LastAck waited t keep f q m h = (m h.0, h.1)
  row_recovers state.FinWait2 waited t keep f q m h = (m h.0, h.1, h.2)

  -- the echo puts off a retransmission alone
  abbrev known : View → View → View
  known v w = echo_known (before_of v s) w now

  row_again : (st : State) (at next : Instant) (keep : Option Duration) (f q : ℕ) → Row st (timer.Retransmit at) keep f q → Row st (timer.Retransmit next) keep f q
  row_again state.Closed at next keep f q h = h
  row_again state.Listen at next keep f q h = h
  row_again state.SynSent at next keep f q h = h
  row_again state.SynReceived at next keep f q h = h
  row_again state.Established at next keep f q h = h
  row_again state.CloseWait at next keep f q h = h
  row_again state.FinWait1 at next keep f q h = h
  row_again state.FinWait2 at next keep f q h = h
  row_again state.Closing at next keep f q h = h
  row_again state.LastAck at next keep f q h = h
  row_again state.TimeWait at next keep f q h = h

  row_known : (v w : View) (st : State) (f q : ℕ) → Row st w.timer w.keep_alive f q → Row st (known v w).timer w.keep_alive f q
  row_known v w st f q = known_as (λ t. Row st t w.keep_alive f q) (before_of v s) w now (λ at h. row_again st at (moment_after now (rto_of (known v w).rtte)) w.keep_alive f q h)

  recovered_ordered : (v w : View) → IsOrdered v → IsOrdered w → IsOrdered (recovered (before_of v s) w now)
  unfolding recovered before_of
  recovered_ordered v w h i = record {
    una_small = i.una_small;
    nxt_small = i.nxt_small;
    room = i.room;
    congestion = told_open (before_of v s) (known v w) h.congestion i.congestion;
    peered = i.peered;
    row = row_recovers w.state (waited_for (before_of v s) (known v w) now) (known v w).timer w.keep_alive (seq_sub w.remote_last_seq w.local_seq_no) (length w.tx_buffer.bytes) (λ m. waited_as (λ t. HasMoment t w.keep_alive) (before_of v s) (known v w) now m tt (λ at e. tt) tt tt (λ at delay e. idle_has_moment now w.keep_alive) (λ at delay h. h) tt) (row_known v w w.state (seq_sub w.remote_last_seq w.local_seq_no) (length w.tx_buffer.bytes) i.row);
  }

  verdict_ordered : (r : Rules) (v : View) → IsOrdered v → (v.state ≡ state.Listen → s.ack_number ≡ None) → (x : Verdict) → verdict_of v s.control s.ack_number ≡ x → IsOrdered (by_verdict r x v (arrival now (tuple_of ip s) word s)).view
  verdict_ordered r v h bare verdicts.Drop e = h
  verdict_ordered r v h bare verdicts.Reset e = h
  verdict_ordered r v h bare verdicts.Challenge e = challenged_ordered s now v h
  verdict_ordered r v h bare verdicts.Pass e =
      let o = tested_by r (has_window v.state) v (arrival now (tuple_of ip s) word s) in
      let i = tested_ordered r v h bare e (has_window v.state) in
      let j = recovered_as (λ o. IsOrdered o.view) r v now s o i (recovered_ordered v _ h i) in
      closed_as (λ o. IsOrdered o.view) r (recovered_by r v now s o) j (closed_ordered (recovered_by r v now s o).view j)

-- of a segment with the window that it counts as telling
pub process_ordered : (now : Instant) (word : ℕ) (ip : IpRepr) (s : Segment) → word < 2 ^ 32 → ForSome s.ack_number (λ k. k.0 < 2 ^ 32) → (r : Rules) (v : View) → IsOrdered v → (v.state ≡ state.Listen → s.ack_number ≡ None) → IsOrdered (processed_by r v now word ip s).view
unfolding processed_by
process_ordered now word ip s small ack r v h bare =
    let y : Segment = windowed r v s in
    verdict_as (λ x. IsOrdered (by_verdict r x v (arrival now (tuple_of ip s) word y)).view) r v now s (λ w. h) (λ w. challenged_ordered y now v h) (verdict_ordered now word ip y small (heeded_small r v s s.ack_number ack) r v h (λ e. heeded_none r v s s.ack_number (bare e)) (verdict_of v s.control (ack_heeded r v s s.ack_number)) refl)
