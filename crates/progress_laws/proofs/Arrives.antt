-- What a socket that still takes bytes makes of a segment at the left edge of its window, or from before it.
use Rattle.std.proofs.Common.{◌≡◌, ℕ, ◌+◌, ◌-◌, ◌<◌, ◌≤◌, ◌^◌, ◌⊎◌, inl, inr, Bool, true, false, ◌&&◌, ◌||◌, refl, sym, ap, subst, ◌∙◌, List, length, min, Option, Some, None, arith, length-append, take, drop, length-take}
use Rattle.std.specs.Prelude.{int_lt, if◌then◌else◌, ◌++◌, Ok}
use Rattle.std.proofs.lemmas.Bool.{and_parts, eq-eqb, eqb-true}
use Rattle.ip_wire.specs.declared.repr.IpRepr.{IpRepr}
use Rattle.net_base.specs.declared.time.Instant.{Instant}
use Rattle.control_wire.specs.Segment.{Segment}
use Rattle.control_wire.specs.Seq.{seq_add, seq_eq, seq_sub}
use Rattle.control_wire.specs.declared.seq_number.TcpSeqNumber.{TcpSeqNumber}
use Rattle.control_wire.specs.declared.tcp.TcpControl.{TcpControl}
use Rattle.control_wire.specs.declared.tcp.TcpControl.TheVariants as control
use Rattle.sock_core.proofs.Receiving.{joins_all_at_once}
use Rattle.sock_core.specs.Received.{JoinsAtOnce, Received, taken_in}
use Rattle.sock_core.specs.Seq.{is_before, is_not_after, later_of}
use Rattle.sock_tcp.proofs.Windows.{end_small, far, length-cut, not_after, not_far, start_small, window_width}
use Rattle.sock_tcp.specs.Arrival.{arrival}
use Rattle.sock_tcp.specs.Acked.{acked_of}
use Rattle.sock_tcp.specs.Advance.{Advance, advance_in, advanced, counted_control, fin_counted, waiting}
use Rattle.sock_tcp.specs.Process.{Outcome, ack_sent, after_advance, challenged, after_table, bytes_taken, close_restarted, has_window, outside, outside_by, processed_inside, stopped, timer_restarted, tuple_of, processed_by}
use Rattle.progress_laws.specs.Smoltcp.{processed}
use Rattle.sock_tcp.specs.Queue.{shortened}
use Rattle.sock_tcp.specs.Queues.{can_recv, may_recv, receives, read_off, readable}
use Rattle.sock_tcp.specs.Replies.{ack_segment, sack_ranges}
use Rattle.sock_tcp.specs.Steps.{ack_counted, ack_heard, acknowledged, duplicate_counted, heard, is_duplicate, is_window_changed, released, timer_set, timestamp_taken, una_advanced, window_of, window_taken}
use Rattle.sock_tcp.specs.Verdict.{fin_place, open_verdict, verdict_at, verdict_of}
use Rattle.sock_tcp.specs.View.{View}
use Rattle.sock_tcp.specs.Window.{cut_bytes, cut_end, cut_of, full_inside, is_inside, next_ack, receive_window, starts_inside}
use Rattle.sock_tcp.specs.declared.acked.Acked.{Acked}
use Rattle.sock_tcp.specs.declared.advance.Next.{Next}
use Rattle.sock_tcp.specs.declared.advance.Next.TheVariants as next
use Rattle.sock_tcp.specs.declared.state.State.{State}
use Rattle.sock_tcp.specs.declared.state.State.TheVariants as state
use Rattle.sock_tcp.specs.declared.timer.Timer.{Timer}
use Rattle.sock_tcp.specs.declared.tuple.Tuple.{Tuple}
use Rattle.sock_tcp.specs.declared.verdict.Verdict.TheVariants as verdicts
use Rattle.sock_tcp.specs.declared.window.Cut.{Cut}
use Rattle.sock_tcp.specs.declared.window.Window.{Window}
use Rattle.tcp_laws.proofs.Frames.{brought, bytes_keep, heard_keeps, table_keeps}
use Rattle.tcp_laws.specs.Polling.{IsReached}
use Rattle.tcp_laws.specs.SocketRun.{RecvSlice, handed_slice, with_handed}
use Rattle.progress_laws.proofs.Widths.{start_is}
use Rattle.progress_laws.proofs.Begins.{not_zero, step_reached}
use Rattle.progress_laws.proofs.Edges.{empty_inside_so, is_earlier, is_not_before, same_seq, old_outside}
use Rattle.progress_laws.proofs.Spoken.{IsSaid}
use Rattle.sock_tcp.specs.Timers.{after, challenge_interval}
use Rattle.sock_tcp.specs.Due.{window_field}
use Rattle.sock_tcp.proofs.OwnWindow.{field_is}

-- ---- synchronized states

abbrev pub is_synchronized : State → Bool
is_synchronized state.Established = true
is_synchronized state.FinWait1 = true
is_synchronized state.FinWait2 = true
is_synchronized state.CloseWait = true
is_synchronized state.Closing = true
is_synchronized state.LastAck = true
is_synchronized _ = false

pub synchronized_has : (st : State) → is_synchronized st ≡ true → has_window st ≡ true
synchronized_has state.Listen e = absurd cc
synchronized_has state.SynSent e = absurd cc
synchronized_has _ e = refl

pub synchronized_stays : (st : State) (t : Timer) (now : Instant) → is_synchronized st ≡ true → timer_restarted st t now ≡ t
synchronized_stays state.TimeWait t now e = absurd cc
synchronized_stays _ t now e = refl

pub receives_so : (st : State) → receives st ≡ true → is_synchronized st ≡ true
receives_so state.Established e = refl
receives_so state.FinWait1 e = refl
receives_so state.FinWait2 e = refl
receives_so _ e = absurd cc

pub fin_place_small : (st : State) → fin_place st ≤ 1
fin_place_small state.FinWait1 = omega arith
fin_place_small state.Closing = omega arith
fin_place_small state.LastAck = omega arith
fin_place_small _ = omega arith

verdict_is : (c : TcpControl) → IsSaid c → (st : State) → is_synchronized st ≡ true → (k una : TcpSeqNumber) (n : ℕ) → verdict_at st c (Some k) una n ≡ open_verdict st k una n
unfolding verdict_at
verdict_is control.None d state.Established e k una n = refl
verdict_is control.None d state.FinWait1 e k una n = refl
verdict_is control.None d state.FinWait2 e k una n = refl
verdict_is control.None d state.CloseWait e k una n = refl
verdict_is control.None d state.Closing e k una n = refl
verdict_is control.None d state.LastAck e k una n = refl
verdict_is control.None d _ e k una n = absurd cc
verdict_is control.Psh d state.Established e k una n = refl
verdict_is control.Psh d state.FinWait1 e k una n = refl
verdict_is control.Psh d state.FinWait2 e k una n = refl
verdict_is control.Psh d state.CloseWait e k una n = refl
verdict_is control.Psh d state.Closing e k una n = refl
verdict_is control.Psh d state.LastAck e k una n = refl
verdict_is control.Psh d _ e k una n = absurd cc
verdict_is control.Fin d state.Established e k una n = refl
verdict_is control.Fin d state.FinWait1 e k una n = refl
verdict_is control.Fin d state.FinWait2 e k una n = refl
verdict_is control.Fin d state.CloseWait e k una n = refl
verdict_is control.Fin d state.Closing e k una n = refl
verdict_is control.Fin d state.LastAck e k una n = refl
verdict_is control.Fin d _ e k una n = absurd cc
verdict_is control.Syn d st e k una n = absurd d
verdict_is control.Rst d st e k una n = absurd d

-- an acknowledgement of n of the m places behind SND.UNA passes
pub passes_so : (v : View) (c : TcpControl) (k : TcpSeqNumber) (n : ℕ) → IsSaid c → is_synchronized v.state ≡ true → v.local_seq_no.0 < 2 ^ 32 → length v.tx_buffer.bytes ≤ 2 ^ 30 → k.0 ≡ (seq_add v.local_seq_no n).0 → n ≤ length v.tx_buffer.bytes + fin_place v.state → verdict_of v c (Some k) ≡ verdicts.Pass
passes_so v c k n d e small short there within = verdict_is c d v.state e k v.local_seq_no (length v.tx_buffer.bytes) ∙ rw (low, high) refl
  where
    low : is_before k v.local_seq_no ≡ false
    low = is_not_before k v.local_seq_no (omega (arith, there, small, short, within, fin_place_small v.state))

    high : is_before (seq_add v.local_seq_no (length v.tx_buffer.bytes + fin_place v.state)) k ≡ false
    high = is_not_before (seq_add v.local_seq_no (length v.tx_buffer.bytes + fin_place v.state)) k (omega (arith, there, small, short, within, fin_place_small v.state))

-- ---- what is heard leaves alone

pub record HeardSo (u : View) (a : Acked) (s : Segment) (x : View) : Type 0 where
  pub state : x.state ≡ u.state
  pub fin : x.rx_fin_received ≡ u.rx_fin_received
  pub rcv : x.remote_seq_no ≡ u.remote_seq_no
  pub rx : x.rx_buffer ≡ u.rx_buffer
  pub tx : x.tx_buffer ≡ shortened u.tx_buffer a.len
  pub window : x.remote_win_len ≡ window_of s.control s.window_len u.remote_win_scale

pub heard_so : (u : View) (now : Instant) (a : Acked) (s : Segment) → HeardSo u a s (heard u now a s)
unfolding heard window_taken released timestamp_taken timer_set acknowledged duplicate_counted ack_counted una_advanced
heard_so u now a s = by s.ack_number
  where
    x : View
    x = released (window_taken u now s.control s.window_len) a.len

    changed : Bool
    changed = is_window_changed u s.control s.window_len

    either : (b : Bool) (k : TcpSeqNumber) → HeardSo u a s (timer_set (timestamp_taken (ack_heard b x now k a.len) s) now a)
    either true k = record { state = refl; fin = refl; rcv = refl; rx = refl; tx = refl; window = refl }
    either false k = record { state = refl; fin = refl; rcv = refl; rx = refl; tx = refl; window = refl }

    by : (o : Option TcpSeqNumber) → HeardSo u a s (timer_set (timestamp_taken (acknowledged x o now a.len (length s.payload) changed) s) now a)
    by None = record { state = refl; fin = refl; rcv = refl; rx = refl; tx = refl; window = refl }
    by (Some k) = either (is_duplicate x k (length s.payload) changed) k

-- ---- what a cut takes

either : (a b : Bool) → (a || b) ≡ true → (a ≡ true) ⊎ (b ≡ true)
either true b e = inl refl
either false b e = inr e

-- of what lies in the window, and begins at the left edge or before it, at least a byte is taken at the left edge
module _ (w : Window) (start_there : w.start.0 < 2 ^ 32) (end_there : w.end.0 < 2 ^ 32) (wide : seq_sub w.end w.start ≤ 2 ^ 30) (number : TcpSeqNumber) (small : number.0 < 2 ^ 32) (n : ℕ) (some : 0 < n) (short : n ≤ 2 ^ 30) (near : seq_sub w.start number < 2 ^ 31) where
  at_edge : later_of w.start number ≡ w.start
  unfolding later_of
  at_edge = rw (is_not_before w.start number near) refl

  pub cut_at_edge : (cut_of w number n).offset ≡ 0
  unfolding cut_of
  cut_at_edge = ap (λ m. seq_sub m w.start) at_edge ∙ omega (arith, start_there)

  pub skip_at_edge : (cut_of w number n).skip ≡ seq_sub w.start number
  unfolding cut_of
  skip_at_edge = ap (λ m. seq_sub m number) at_edge

  -- all of what lies behind the left edge, where the right one does not lie before its end
  pub count_to_end : is_before w.end (seq_add number n) ≡ false → seq_sub w.start number ≤ n → (cut_of w number n).count ≡ n - seq_sub w.start number
  unfolding cut_of
  count_to_end e within = ap (λ m. seq_sub (cut_end w (seq_add number n)) m) at_edge ∙ go (is_before (seq_add number n) w.end) refl
    where
      go : (b : Bool) → is_before (seq_add number n) w.end ≡ b → seq_sub (if b then seq_add number n else w.end) w.start ≡ n - seq_sub w.start number
      go true f = omega (arith, within, near, short, small, start_there)
      go false f = omega (arith, within, near, short, small, start_there, end_there, not_far (seq_add number n) w.end f, not_far w.end (seq_add number n) e)

  pub cut_some : full_inside w number (seq_add number n) ≡ true → 0 < min (cut_of w number n).count (n - (cut_of w number n).skip)
  unfolding cut_of
  cut_some inside = subst (λ m. 0 < min (seq_sub (cut_end w (seq_add number n)) m) (n - seq_sub m number)) (sym at_edge) (go (seq_eq w.start w.end) refl)
    where
      Past : Type 0
      Past = 0 < min (seq_sub (cut_end w (seq_add number n)) w.start) (n - seq_sub w.start number)

      counted : (w.start.0 ≡ w.end.0 → ⊥) → (w.start.0 ≡ number.0) ⊎ (2 ^ 31 ≤ seq_sub w.start (seq_add number n)) → (b : Bool) → is_before (seq_add number n) w.end ≡ b → 0 < min (seq_sub (if b then seq_add number n else w.end) w.start) (n - seq_sub w.start number)
      counted apart (inl at) true e = omega (arith, at, some, short, small, start_there)
      counted apart (inl at) false e = omega (arith, at, some, start_there, end_there, apart)
      counted apart (inr past) true e = omega (arith, past, near, some, short, small, start_there)
      counted apart (inr past) false e = omega (arith, past, near, some, short, small, start_there, end_there, apart)

      go : (b : Bool) → seq_eq w.start w.end ≡ b → Past
      go true e = let no : false ≡ true = ap (λ b. if b then false else (starts_inside w number || (is_before w.start (seq_add number n) && is_not_after (seq_add number n) w.end))) (sym e) ∙ inside in absurd cc
      go false e = by (either (starts_inside w number) (is_before w.start (seq_add number n) && is_not_after (seq_add number n) w.end) (ap (λ b. if b then false else (starts_inside w number || (is_before w.start (seq_add number n) && is_not_after (seq_add number n) w.end))) (sym e) ∙ inside))
        where
          apart : w.start.0 ≡ w.end.0 → ⊥
          apart same = let q : seq_eq w.start w.end ≡ true = eq-eqb w.start.0 w.end.0 same in absurd cc

          at_start : (2 ^ 31 ≤ seq_sub w.start number) ⊎ (w.start.0 ≡ number.0) → w.start.0 ≡ number.0
          at_start (inl h) = absurd (omega (arith, h, near))
          at_start (inr h) = h

          by : (starts_inside w number ≡ true) ⊎ ((is_before w.start (seq_add number n) && is_not_after (seq_add number n) w.end) ≡ true) → Past
          by (inl h) = counted apart (inl (at_start (not_after w.start number (and_parts (is_not_after w.start number) (is_before number w.end) h).0))) (is_before (seq_add number n) w.end) refl
          by (inr h) = counted apart (inr (far w.start (seq_add number n) (and_parts (is_before w.start (seq_add number n)) (is_not_after (seq_add number n) w.end) h).0)) (is_before (seq_add number n) w.end) refl

  -- and what begins there lies in a window that has a place
  pub edge_inside : w.start.0 ≡ number.0 → 0 < seq_sub w.end w.start → full_inside w number (seq_add number n) ≡ true
  unfolding is_not_after
  edge_inside at open_ = rw (apart (seq_eq w.start w.end) refl, is_not_before w.start number near, eq-eqb w.start.0 number.0 at, is_earlier number w.end (omega (arith, at, open_, wide, start_there, end_there))) refl
    where
      apart : (b : Bool) → seq_eq w.start w.end ≡ b → seq_eq w.start w.end ≡ false
      apart true e = let same = eqb-true w.start.0 w.end.0 e in absurd (omega (arith, same, open_, start_there, end_there))
      apart false e = e

-- a read is a call
pub receives_may : (w : View) → receives w.state ≡ true → may_recv w ≡ true
receives_may w e = ap (λ b. if b then true else can_recv w) e

pub reads_reached : (w : View) (n : ℕ) → may_recv w ≡ true → n ≤ length w.rx_buffer.bytes → IsReached w → IsReached (read_off w n)
reads_reached w n takes few r = step_reached w (read_off w n) (with_handed r.counts (handed_slice bs' (Ok (length bs)))) r (RecvSlice bs bs' (Ok (length bs)) (record {
  answer = rw takes (ap Ok (sym all));
  view = rw takes (ap (read_off w) (sym size));
  read = refl;
  refused = tt;
}) refl)
  where
    bs : List ℕ
    bs = take n w.rx_buffer.bytes

    long : length bs ≡ n
    long = length-take n w.rx_buffer.bytes ∙ omega (arith, few)

    bs' : List ℕ
    bs' = take (length bs) w.rx_buffer.bytes ++ drop (length bs) bs

    all : readable w (length bs) ≡ length bs
    all = omega (arith, long, few)

    size : readable w (length bs) ≡ n
    size = omega (arith, long, few)

-- what lies before the window is outside of it
pub before_window : (w : View) (g : Segment) → seq_sub (receive_window w).end (receive_window w).start ≤ 2 ^ 30 → 0 < length g.payload → g.seq_number.0 < 2 ^ 32 → 0 < seq_sub (next_ack w) g.seq_number → seq_sub (next_ack w) g.seq_number < 2 ^ 31 → seq_sub (next_ack w) (seq_add g.seq_number (length g.payload)) < 2 ^ 31 → is_inside (receive_window w) g.seq_number (length g.payload) ≡ false
unfolding is_inside
before_window w g narrow some there before near behind = rw (not_zero (length g.payload) some) (old_outside (receive_window w) (start_small w) (end_small w) narrow g.seq_number (seq_add g.seq_number (length g.payload)) there (subst (λ m. 0 < seq_sub m g.seq_number) (sym (start_is w)) before) (subst (λ m. seq_sub m g.seq_number < 2 ^ 31) (sym (start_is w)) near) (subst (λ m. seq_sub m (seq_add g.seq_number (length g.payload)) < 2 ^ 31) (sym (start_is w)) behind))

-- ---- the state table

-- control None or FIN
abbrev pub IsCounted : TcpControl → Type 0
IsCounted control.None = Unit {0}
IsCounted control.Fin = Unit {0}
IsCounted c = ⊥

pub counted_so : (c : TcpControl) (w : Window) (number : TcpSeqNumber) (n : ℕ) → IsSaid c → IsCounted (counted_control c w number n)
unfolding counted_control
counted_so control.None w number n d = tt
counted_so control.Psh w number n d = tt
counted_so control.Fin w number n d = go (is_before w.start number || is_before w.end (seq_add number n))
  where
    go : (b : Bool) → IsCounted (if b then control.None else control.Fin)
    go true = tt
    go false = tt
counted_so _ w number n d = absurd d

goes_on : (c : TcpControl) → IsCounted c → (st : State) (fin : Bool) → receives st ≡ true → (x : View) (now : Instant) (t : Tuple) (word n : ℕ) (s : Segment) → (advance_in st c fin x (arrival now t word s) n).next ≡ next.Continue
goes_on control.None d state.Established fin r x now t word n s = refl
goes_on control.None d state.FinWait1 true r x now t word n s = refl
goes_on control.None d state.FinWait1 false r x now t word n s = refl
goes_on control.None d state.FinWait2 fin r x now t word n s = refl
goes_on control.None d _ fin r x now t word n s = absurd cc
goes_on control.Fin d state.Established fin r x now t word n s = refl
goes_on control.Fin d state.FinWait1 true r x now t word n s = refl
goes_on control.Fin d state.FinWait1 false r x now t word n s = refl
goes_on control.Fin d state.FinWait2 fin r x now t word n s = refl
goes_on control.Fin d _ fin r x now t word n s = absurd cc
goes_on _ d st fin r x now t word n s = absurd d

longer : (old new : Received) (ys : List ℕ) → JoinsAtOnce old new ys → 0 < length ys → length old.bytes < length new.bytes
longer old new ys j some = let e = ap (λ (l : List ℕ). length l) j.queue in omega (arith, e, length-append old.bytes (ys ++ j.then_held), length-append ys j.then_held, some)

brings : (b : Received) (bs : List ℕ) → 0 < length bs → JoinsAtOnce b (brought b 0 bs) bs
brings b bs some = subst (λ (z : Bool). JoinsAtOnce b (if z then b else taken_in b 0 bs) bs) (sym (not_zero (length bs) some)) (joins_all_at_once b bs)

-- w is synchronized, and k acknowledges so many of the places behind its SND.UNA
pub record Faces (w : View) (k : TcpSeqNumber) : Type 0 where
  pub state : is_synchronized w.state ≡ true
  pub una_small : w.local_seq_no.0 < 2 ^ 32
  pub short : length w.tx_buffer.bytes ≤ 2 ^ 30
  pub heard : ℕ
  pub heard_within : heard ≤ length w.tx_buffer.bytes + fin_place w.state
  pub back : k.0 ≡ (seq_add w.local_seq_no heard).0
  pub room : length w.rx_buffer.held ≤ 2 ^ 30

-- the peer's FIN is counted, without an answer, and nothing else joins
pub record CountsIt (w : View) (o : Outcome) : Type 0 where
  pub reply : o.reply ≡ None
  pub state : receives o.view.state ≡ false
  pub rx : o.view.rx_buffer ≡ w.rx_buffer
  pub fin : o.view.rx_fin_received ≡ true
  pub next : next_ack o.view ≡ seq_add (next_ack w) 1

-- ---- the segment

module _ (w : View) (k : TcpSeqNumber) (r : Faces w k) (now : Instant) (word : ℕ) (ip : IpRepr) (s : Segment) (bit : IsSaid s.control) (ack : s.ack_number ≡ Some k) where
  abbrev cut : Cut
  cut = cut_of (receive_window w) s.seq_number (length s.payload)

  abbrev bs : List ℕ
  bs = cut_bytes cut s.payload

  abbrev a : Acked
  a = acked_of w s.control s.ack_number

  abbrev c : TcpControl
  c = counted_control s.control (receive_window w) s.seq_number (length s.payload)

  abbrev x : View
  x = record w { local_rx_last_seq = Some s.seq_number }

  abbrev row : TcpControl → Advance
  row c = advance_in w.state c a.fin x (arrival now (tuple_of ip s) word s) a.len

  pub wide : seq_sub (receive_window w).end (receive_window w).start ≤ 2 ^ 30
  wide = omega (arith, window_width w r.room, r.room)

  passes : verdict_of w s.control s.ack_number ≡ verdicts.Pass
  passes = ap (λ q. verdict_of w s.control q) ack ∙ passes_so w s.control k r.heard bit r.state r.una_small r.short r.back r.heard_within

  has : has_window w.state ≡ true
  has = synchronized_has w.state r.state

  pub in_window : is_inside (receive_window w) s.seq_number (length s.payload) ≡ true → processed w now word ip s ≡ after_table (row c) (arrival now (tuple_of ip s) word s) a cut.offset bs
  unfolding processed_by processed_inside advanced
  in_window i = rw (passes, has, i) refl

  pub from_outside : is_inside (receive_window w) s.seq_number (length s.payload) ≡ false → processed w now word ip s ≡ outside w now s
  unfolding processed_by
  from_outside e = rw (passes, has, e) refl

  -- outside of the window, with a byte
  pub away : is_inside (receive_window w) s.seq_number (length s.payload) ≡ false → 0 < length s.payload → processed w now word ip s ≡ ack_sent w s
  unfolding processed_by outside close_restarted
  away e some = rw (passes, has, e) (by s.control bit ∙ ap (λ tm. ack_sent (record w { timer = tm }) s) (synchronized_stays w.state w.timer now r.state))
    where
      by : (c : TcpControl) → IsSaid c → outside_by c (length s.payload) w now s ≡ ack_sent (close_restarted w now) s
      by control.None d = rw (not_zero (length s.payload) some) refl
      by control.Psh d = rw (not_zero (length s.payload) some) refl
      by control.Fin d = rw (not_zero (length s.payload) some) refl
      by _ d = absurd d

  -- and without one, a challenge: at most one a second
  pub away_empty : is_inside (receive_window w) s.seq_number (length s.payload) ≡ false → length s.payload ≡ 0 → int_lt now.micros w.challenge_ack_timer.micros ≡ false → (processed w now word ip s).reply ≡ Some (ack_segment w s)
  unfolding processed_by outside challenged close_restarted ack_segment sack_ranges
  away_empty e none over = rw (passes, has, e) (by s.control bit)
    where
      later : View
      later = record (close_restarted w now) { challenge_ack_timer = after now challenge_interval }

      same_field : window_field later ≡ window_field w
      same_field = field_is later ∙ sym (field_is w)

      same : Some (ack_segment later s) ≡ Some (ack_segment w s)
      same = λ i. Some (record (ack_segment w s) { window_len = same_field i })

      by : (c : TcpControl) → IsSaid c → (outside_by c (length s.payload) w now s).reply ≡ Some (ack_segment w s)
      by control.None d = rw (none, over) same
      by control.Psh d = rw (none, over) same
      by control.Fin d = rw (none, over) same
      by _ d = absurd d

  -- inside of it, with bytes in order
  pub joins : receives w.state ≡ true → is_inside (receive_window w) s.seq_number (length s.payload) ≡ true → cut.offset ≡ 0 → 0 < length bs → length w.rx_buffer.bytes < length (processed w now word ip s).view.rx_buffer.bytes
  joins takes i at some = subst (λ (o : Outcome). length w.rx_buffer.bytes < length o.view.rx_buffer.bytes) (sym (in_window i)) (grows (row c).next (row c).view (goes_on c (counted_so s.control (receive_window w) s.seq_number (length s.payload) bit) w.state a.fin takes x now (tuple_of ip s) word a.len s) (table_keeps s now x (tuple_of ip s) word a.len w.state c a.fin).rx)
    where
      grows : (m : Next) (y : View) → m ≡ next.Continue → y.rx_buffer ≡ w.rx_buffer → length w.rx_buffer.bytes < length (after_advance m y (arrival now (tuple_of ip s) word s) a cut.offset bs).view.rx_buffer.bytes
      grows next.Stop y e q = absurd cc
      grows next.Challenge y e q = absurd cc
      grows next.Continue y e q =
          let h = heard_keeps s now y a in
          let k = bytes_keep s now (heard y now a s) cut.offset bs in
          longer w.rx_buffer (bytes_taken (heard y now a s) now cut.offset bs s).view.rx_buffer bs (subst (λ b. JoinsAtOnce w.rx_buffer b bs) (sym (k.rx ∙ (λ j. brought ((h.rx ∙ q) j) (at j) bs))) (brings w.rx_buffer bs some)) some

  -- ---- a FIN alone, in order

  module _ (fin : s.control ≡ control.Fin) (empty : length s.payload ≡ 0) (number : s.seq_number.0 ≡ (next_ack w).0) where
    number_is : s.seq_number ≡ (receive_window w).start
    unfolding receive_window
    number_is = same_seq s.seq_number (next_ack w) number

    pub inside : is_inside (receive_window w) s.seq_number (length s.payload) ≡ true
    unfolding is_inside
    inside = rw (empty, number_is) (empty_inside_so (receive_window w) (start_small w) (end_small w) wide)

    pub counts : c ≡ control.Fin
    unfolding counted_control
    counts = rw (fin, empty, number_is, left_edge, right_edge) refl
      where
        left_edge : is_before (receive_window w).start (receive_window w).start ≡ false
        left_edge = is_not_before (receive_window w).start (receive_window w).start (omega (arith, start_small w))

        right_edge : is_before (receive_window w).end (seq_add (receive_window w).start 0) ≡ false
        right_edge = is_not_before (receive_window w).end (seq_add (receive_window w).start 0) (omega (arith, start_small w, end_small w, wide))

    none : length bs ≡ 0
    none = omega (arith, length-cut cut s.payload, empty)

    none_taken : (z : View) → bytes_taken z now cut.offset bs s ≡ stopped z
    unfolding bytes_taken
    none_taken z = rw none refl

    after_fin : (y : View) → receives y.state ≡ false → y.rx_fin_received ≡ true → y.remote_seq_no ≡ seq_add w.remote_seq_no 1 → y.rx_buffer ≡ w.rx_buffer → CountsIt w (bytes_taken (heard y now a s) now cut.offset bs s)
    unfolding bytes_taken
    after_fin y st f q b = subst (CountsIt w) (sym (none_taken (heard y now a s))) (record {
      reply = refl;
      state = ap receives h.state ∙ st;
      rx = h.rx ∙ b;
      fin = h.fin ∙ f;
      next = same_seq (next_ack (heard y now a s)) (seq_add (next_ack w) 1) (omega (arith, ap (λ (m : TcpSeqNumber). m.0) (h.rcv ∙ q), ap (λ (d : Received). length d.bytes) (h.rx ∙ b)));
    })
      where
        h : HeardSo y a s (heard y now a s)
        h = heard_so y now a s

    pub fin_row : w.state ≡ state.Established → processed w now word ip s ≡ stopped (heard (fin_counted state.CloseWait x) now a s)
    fin_row e = in_window inside ∙ ap (λ m. after_table (row m) (arrival now (tuple_of ip s) word s) a cut.offset bs) counts ∙ ap (λ st. after_table (advance_in st control.Fin a.fin x (arrival now (tuple_of ip s) word s) a.len) (arrival now (tuple_of ip s) word s) a cut.offset bs) e ∙ none_taken (heard (fin_counted state.CloseWait x) now a s)

    rows : (st : State) (acked : Bool) → receives st ≡ true → CountsIt w (after_table (advance_in st control.Fin acked x (arrival now (tuple_of ip s) word s) a.len) (arrival now (tuple_of ip s) word s) a cut.offset bs)
    unfolding fin_counted
    rows state.Established acked e = after_fin (fin_counted state.CloseWait x) refl refl refl refl
    rows state.FinWait1 true e = after_fin (waiting now (fin_counted state.TimeWait x)) refl refl refl refl
    rows state.FinWait1 false e = after_fin (fin_counted state.Closing x) refl refl refl refl
    rows state.FinWait2 acked e = after_fin (waiting now (fin_counted state.TimeWait x)) refl refl refl refl
    rows _ acked e = absurd cc

    pub fin_counts : receives w.state ≡ true → CountsIt w (processed w now word ip s)
    fin_counts takes = subst (CountsIt w) (sym (in_window inside ∙ ap (λ m. after_table (row m) (arrival now (tuple_of ip s) word s) a cut.offset bs) counts)) (rows w.state a.fin takes)
