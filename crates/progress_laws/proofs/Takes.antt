-- A socket that also has bytes to send takes bytes in order, and answers what it has.
use Rattle.std.proofs.Common.{◌≡◌, ℕ, ◌+◌, ◌-◌, ◌*◌, ◌<◌, ◌≤◌, ◌^◌, ◌⊎◌, inl, inr, Bool, true, false, refl, sym, ap, subst, ◌∙◌, List, [], length, take, drop, Option, Some, None, arith, length-drop}
use Rattle.std.specs.Prelude.{if◌then◌else◌}
use Rattle.std.proofs.lemmas.List.{length-replicate}
use Rattle.std.proofs.lemmas.Bool.{eq-eqb}
use Rattle.std.proofs.lemmas.Option.{same_Some}
use Rattle.net_base.specs.declared.time.Instant.{Instant}
use Rattle.ip_wire.specs.declared.repr.IpRepr.{IpRepr}
use Rattle.control_wire.specs.Segment.{Segment}
use Rattle.control_wire.specs.Seq.{seq_add, seq_sub}
use Rattle.control_wire.specs.declared.seq_number.TcpSeqNumber.{TcpSeqNumber}
use Rattle.sock_core.specs.Received.{Received, holds_nothing, taken_in}
use Rattle.sock_core.specs.Seq.{is_before, is_not_after}
use Rattle.sock_tcp.proofs.Windows.{end_small, far, not_far, start_small, window_width}
use Rattle.sock_tcp.specs.Process.{Outcome, ack_sent, bytes_taken}
use Rattle.progress_laws.specs.Smoltcp.{processed}
use Rattle.sock_tcp.specs.Queue.{Queue}
use Rattle.sock_tcp.specs.Queues.{read_off, receives}
use Rattle.sock_tcp.specs.Steps.{ack_delayed, heard, joined, scale_of}
use Rattle.sock_tcp.specs.View.{View}
use Rattle.sock_tcp.specs.Window.{cut_bytes, cut_of, is_inside, kept_between, next_ack, receive_window, window_end}
use Rattle.sock_tcp.specs.declared.timer.Timer.TheVariants as timer
use Rattle.sock_tcp.specs.declared.window.Cut.{Cut}
use Rattle.tcp_laws.specs.Polling.{IsReached}
use Rattle.tcp_laws.specs.SocketRun.{IsNumbered, Process, after_segment}
use Rattle.progress_laws.specs.InStep.{ForAnswer, ForKeepAlive, ForNothing, ForProbe, Rests}
use Rattle.progress_laws.proofs.Begins.{not_zero, some_or_none, step_reached}
use Rattle.progress_laws.proofs.Edges.{cut_at, is_not_before, later_stays, tail_cut, tail_inside, differs, same_seq}
use Rattle.progress_laws.proofs.Hears.{HeardAs, IsData, IsNoDuplicate, data_is_said, IsOpenTimer, answered_outside, covered, heard_as, bytes_no_duplicate, heard_again, heard_inside, heard_open, heard_rests, seen}
use Rattle.progress_laws.proofs.Learns.{idle_rests}
use Rattle.progress_laws.proofs.Receives.{NewPart}
use Rattle.progress_laws.proofs.States.{is_steady, not_listening}
use Rattle.progress_laws.proofs.Taking.{at_once, blank, blank_holds_nothing, read_bytes, read_held, take_all, taken_bytes, taken_held}
use Rattle.progress_laws.proofs.Widths.{start_is}
use Rattle.progress_laws.proofs.Arrives.{before_window, reads_reached, receives_may}
use Rattle.sock_tcp.specs.declared.rules.Rules.TheVariants as rules

-- w takes bytes, and has read all, with room for so many bytes. Its peer acknowledges n bytes of its queue, by k
pub record IsCaughtUp (w : View) (k : TcpSeqNumber) (n room : ℕ) : Type 0 where
  pub state : is_steady w.state ≡ true
  pub takes : receives w.state ≡ true
  pub una_small : w.local_seq_no.0 < 2 ^ 32
  pub short : length w.tx_buffer.bytes ≤ 2 ^ 30
  pub there : k ≡ seq_add w.local_seq_no n
  pub queued : n ≤ length w.tx_buffer.bytes
  pub nxt_small : w.remote_last_seq.0 < 2 ^ 32
  pub ahead : seq_sub w.remote_last_seq k ≤ 2 ^ 30
  pub timer : IsOpenTimer w.timer
  pub read : w.rx_buffer.bytes ≡ []
  pub held : w.rx_buffer.held ≡ blank room
  pub narrow : room ≤ 2 ^ 30

-- y heard all that, and took and read m bytes
pub record Took (w : View) (k : TcpSeqNumber) (n room m win : ℕ) (now : Instant) (y : View) : Type 0 where
  pub state : y.state ≡ w.state
  pub peer : y.tuple ≡ w.tuple
  pub timeout : y.timeout ≡ w.timeout
  pub same_rules : y.rules ≡ w.rules
  pub keep_alive : y.keep_alive ≡ w.keep_alive
  pub scale : y.remote_win_scale ≡ w.remote_win_scale
  pub shift : y.remote_win_shift ≡ w.remote_win_shift
  pub marked : y.pending_fast_retransmit ≡ w.pending_fast_retransmit
  pub una : y.local_seq_no ≡ k
  pub nxt : y.remote_last_seq ≡ w.remote_last_seq
  pub tx : y.tx_buffer.bytes ≡ drop n w.tx_buffer.bytes
  pub window : y.remote_win_len ≡ win
  pub read : y.rx_buffer.bytes ≡ []
  pub held : y.rx_buffer.held ≡ blank room
  pub last_ack : y.remote_last_ack ≡ w.remote_last_ack
  pub last_win : y.remote_last_win ≡ w.remote_last_win
  pub next : (next_ack y).0 ≡ (seq_add (next_ack w) m).0

not_after_itself : (k : TcpSeqNumber) → k.0 < 2 ^ 32 → is_not_after k k ≡ true
unfolding is_not_after
not_after_itself k small = rw (is_not_before k k (omega (arith, small)), eq-eqb k.0 k.0 refl) refl

not_after_ahead : (a k : TcpSeqNumber) → a.0 < 2 ^ 32 → k.0 < 2 ^ 32 → 0 < seq_sub a k → seq_sub a k ≤ 2 ^ 30 → is_not_after a k ≡ false
unfolding is_not_after
not_after_ahead a k ha hk some ahead = rw (is_not_before a k (omega (arith, ahead)), differs a k (λ e. omega (arith, e, some, ha, hk))) refl

module _ (w : View) (k : TcpSeqNumber) (n room : ℕ) (now : Instant) (ip : IpRepr) (g : Segment) (c : IsCaughtUp w k n room) (bit : IsData g.control) (ack : g.ack_number ≡ Some k) where
  wide : length w.rx_buffer.held ≡ room
  wide = ap (λ (l : List (Option ℕ)). length l) c.held ∙ length-replicate room None

  pub width_small : seq_sub (receive_window w).end (receive_window w).start ≤ 2 ^ 30
  width_small = omega (arith, window_width w (omega (arith, wide, c.narrow)), wide, c.narrow)

  small : k.0 < 2 ^ 32
  small = omega (arith, ap (λ (m : TcpSeqNumber). m.0) c.there)

  covers_n : seq_sub k w.local_seq_no ≡ n
  covers_n = omega (arith, ap (λ (m : TcpSeqNumber). m.0) c.there, c.una_small, c.queued, c.short)

  within : seq_sub k w.local_seq_no ≤ length w.tx_buffer.bytes
  within = omega (arith, covers_n, c.queued)

  -- what lies before the window is answered
  pub old_answered : 0 < length g.payload → g.seq_number.0 < 2 ^ 32 → 0 < seq_sub (next_ack w) g.seq_number → seq_sub (next_ack w) g.seq_number < 2 ^ 31 → seq_sub (next_ack w) (seq_add g.seq_number (length g.payload)) < 2 ^ 31 → processed w now 0 ip g ≡ ack_sent w g
  old_answered some there before near behind = answered_outside w now 0 ip g k c.state ack bit small c.una_small within c.short (before_window w g width_small some there before near behind) (not_zero (length g.payload) some)

  -- of what lies in it, but for j bytes before it, m bytes are taken
  abbrev z : View
  z = seen w now 0 ip g k c.state ack bit

  abbrev x : View
  x = heard z now (covered w now 0 ip g k c.state ack bit) g

  hears : HeardAs z k (seq_sub k w.local_seq_no) (g.window_len * 2 ^ scale_of w.remote_win_scale) x
  hears = heard_as z now (covered w now 0 ip g k c.state ack bit) g k ack (data_is_said g.control bit)

  module _ (j m : ℕ) (np : NewPart w g j m) where
    abbrev pub fresh_bytes : List ℕ
    fresh_bytes = drop j g.payload

    abbrev pub took : View
    took = ack_delayed (joined x 0 fresh_bytes) now

    pub fresh_length : length fresh_bytes ≡ m
    fresh_length = length-drop j g.payload ∙ omega (arith, np.long)

    abbrev rest : ℕ
    rest = room - m

    room_is : room ≡ length fresh_bytes + rest
    room_is = let h = window_width w (omega (arith, wide, c.narrow)) in omega (arith, h, wide, np.fits, fresh_length)

    past_start : seq_sub (seq_add g.seq_number (length g.payload)) (receive_window w).start ≡ m
    past_start = ap (λ e. seq_sub (seq_add g.seq_number (length g.payload)) e) (start_is w) ∙ np.past

    inside : is_inside (receive_window w) g.seq_number (length g.payload) ≡ true
    unfolding is_inside
    inside = rw (not_zero (length g.payload) (omega (arith, np.long, np.some))) (tail_inside (receive_window w) (start_small w) (end_small w) width_small g.seq_number (seq_add g.seq_number (length g.payload)) m (omega arith) np.some np.fits past_start)

    cut_is : cut_of (receive_window w) g.seq_number (length g.payload) ≡ cut_at j m 0
    cut_is = tail_cut (receive_window w) (start_small w) (end_small w) width_small g.seq_number (seq_add g.seq_number (length g.payload)) m (omega arith) np.some np.fits past_start j (length g.payload) (ap (λ e. seq_sub e g.seq_number) (start_is w) ∙ np.skips) np.near refl

    no_bytes : x.rx_buffer.bytes ≡ []
    no_bytes = ap (λ (b : Received). b.bytes) hears.rx ∙ c.read

    none_held : x.rx_buffer.held ≡ blank room
    none_held = ap (λ (b : Received). b.held) hears.rx ∙ c.held

    all_taken : bytes_taken x now 0 fresh_bytes g ≡ record { view = took; reply = None }
    unfolding bytes_taken joined ack_delayed
    all_taken = rw (not_zero (length fresh_bytes) (omega (arith, fresh_length, np.some)), at_once x.rx_buffer fresh_bytes, nothing_before, nothing_after) refl
      where
        nothing_before : holds_nothing x.rx_buffer.held ≡ true
        nothing_before = ap holds_nothing none_held ∙ blank_holds_nothing room

        nothing_after : holds_nothing (taken_in x.rx_buffer 0 fresh_bytes).held ≡ true
        nothing_after = ap holds_nothing (taken_held x.rx_buffer room rest fresh_bytes no_bytes none_held room_is) ∙ blank_holds_nothing rest

    pub takes : processed w now 0 ip g ≡ record { view = took; reply = None }
    takes = heard_inside w now 0 ip g k c.state ack bit small c.una_small within c.short inside
        ∙ ap (λ (d : Cut). bytes_taken x now d.offset (cut_bytes d g.payload) g) cut_is
        ∙ ap (λ (l : List ℕ). bytes_taken x now 0 l g) (ap (λ n. take n fresh_bytes) (sym fresh_length) ∙ take_all fresh_bytes)
        ∙ all_taken

    pub took_bytes : took.rx_buffer.bytes ≡ fresh_bytes
    unfolding joined ack_delayed
    took_bytes = taken_bytes x.rx_buffer room rest fresh_bytes no_bytes none_held room_is

    took_held : took.rx_buffer.held ≡ blank rest
    unfolding joined ack_delayed
    took_held = taken_held x.rx_buffer room rest fresh_bytes no_bytes none_held room_is

    abbrev pub y : View
    y = read_off took (length fresh_bytes)

    pub took_so : Took w k n room m (g.window_len * 2 ^ scale_of w.remote_win_scale) now y
    unfolding read_off joined ack_delayed
    took_so = record {
      state = hears.state;
      peer = hears.peer;
      timeout = hears.timeout;
      same_rules = hears.same_rules;
      keep_alive = hears.keep_alive;
      scale = hears.scale;
      shift = hears.shift;
      marked = hears.marked;
      una = hears.una;
      nxt = hears.nxt ∙ later_stays w.remote_last_seq k (is_not_before w.remote_last_seq k (omega (arith, c.ahead)));
      tx = ap (λ (q : Queue). q.bytes) hears.tx ∙ ap (λ q. drop q w.tx_buffer.bytes) covers_n;
      window = hears.window;
      read = read_bytes took.rx_buffer fresh_bytes took_bytes;
      held = read_held took.rx_buffer rest (length fresh_bytes) took_held ∙ ap blank (omega (arith, room_is));
      last_ack = hears.last_ack;
      last_win = hears.last_win;
      next = omega (arith, ap (λ (q : TcpSeqNumber). q.0) hears.rcv, ap (λ (l : List ℕ). length l) c.read, ap (λ (l : List ℕ). length l) (read_bytes took.rx_buffer fresh_bytes took_bytes), fresh_length);
    }

    no_duplicate : IsNoDuplicate z now (covered w now 0 ip g k c.state ack bit) g k
    no_duplicate = bytes_no_duplicate z now (covered w now 0 ip g k c.state ack bit) g k (omega (arith, np.long, np.some))

    pub took_open : IsOpenTimer y.timer
    unfolding read_off joined ack_delayed
    took_open = heard_open z now (covered w now 0 ip g k c.state ack bit) g k ack (data_is_said g.control bit) no_duplicate c.timer

    -- it still waits, where it has bytes in flight that were not taken, and else its timer is idle
    pub took_rests : 0 < g.window_len * 2 ^ scale_of w.remote_win_scale → Rests w → Rests y
    unfolding read_off joined ack_delayed
    took_rests told r = by (some_or_none (seq_sub w.remote_last_seq k)) r
      where
        t : Took w k n room m (g.window_len * 2 ^ scale_of w.remote_win_scale) now y
        t = took_so

        all : w.remote_last_seq ≡ k → is_not_after w.remote_last_seq k ≡ true
        all e = ap (λ q. is_not_after q k) e ∙ same
          where
            same : is_not_after k k ≡ true
            same = not_after_itself k (omega (arith, small))

        rests : w.remote_last_seq ≡ k → Rests y
        rests e = idle_rests y now w.keep_alive (heard_rests z now (covered w now 0 ip g k c.state ack bit) g k ack (data_is_said g.control bit) no_duplicate c.timer (all e) told) (t.nxt ∙ e ∙ sym t.una) (subst (λ q. 0 < q) (sym t.window) told)

        some_out : 0 < seq_sub w.remote_last_seq k → is_not_after w.remote_last_seq k ≡ false
        some_out h = not_after_ahead w.remote_last_seq k c.nxt_small (omega (arith, small)) h c.ahead

        again : (at : Instant) → w.timer ≡ timer.Retransmit at → 0 < seq_sub w.remote_last_seq k → Rests y
        again at e h = let l = heard_again z now (covered w now 0 ip g k c.state ack bit) g k ack (data_is_said g.control bit) no_duplicate at e (some_out h) told in ForAnswer l.0 l.1

        behind : w.remote_last_seq ≡ w.local_seq_no → 0 < seq_sub w.remote_last_seq k → ⊥
        behind e h = omega (arith, h, c.ahead, ap (λ (q : TcpSeqNumber). q.0) e, ap (λ (q : TcpSeqNumber). q.0) c.there, c.una_small, c.queued, c.short)

        by : (seq_sub w.remote_last_seq k ≡ 0) ⊎ (0 < seq_sub w.remote_last_seq k) → Rests w → Rests y
        by (inl e) r = rests (same_seq w.remote_last_seq k (omega (arith, e, small, c.nxt_small)))
        by (inr h) (ForAnswer at e) = again at e h
        by (inr h) (ForKeepAlive at idle nxt) = absurd (behind nxt h)
        by (inr h) (ForNothing idle nxt some) = absurd (behind nxt h)
        by (inr h) (ForProbe at delay probes nxt some) = absurd (behind nxt h)

    pub took_reached : IsReached w → g.seq_number.0 < 2 ^ 32 → length g.payload ≤ 65535 → IsReached y
    unfolding joined ack_delayed
    took_reached r number few = reads_reached took (length fresh_bytes) (receives_may took receiving) (omega (arith, ap (λ (l : List ℕ). length l) took_bytes)) then_reached
      where
        receiving : receives took.state ≡ true
        receiving = ap receives hears.state ∙ c.takes

        numbered : IsNumbered g
        numbered = record { seq_number = number; ack_number = λ q e. subst (λ (b : TcpSeqNumber). b.0 < 2 ^ 32) (same_Some k q (sym ack ∙ e)) small }

        then_reached : IsReached took
        then_reached = step_reached w took (after_segment r.counts w took) r (Process rules.Smoltcp now 0 ip g (omega arith) numbered few (λ l. absurd (not_listening w.state c.state l)) (sym (ap (λ (o : Outcome). o.view) takes)) refl)

-- ---- the width of the window, after so many bytes were taken and read

kept_past : (start next edge : TcpSeqNumber) (room m : ℕ) → start.0 < 2 ^ 32 → edge.0 < 2 ^ 32 → room ≤ 2 ^ 30 → next.0 ≡ (seq_add start m).0 → m ≤ seq_sub (kept_between start (seq_add start room) edge) start → seq_sub (kept_between start (seq_add start room) edge) start ≤ m + seq_sub (kept_between next (seq_add next room) edge) next
kept_past start next edge room m small edge_small narrow moved = go (is_before edge start) refl (is_before (seq_add start room) edge) refl (is_before edge next) refl (is_before (seq_add next room) edge) refl
  where
    go : (a : Bool) → is_before edge start ≡ a → (b : Bool) → is_before (seq_add start room) edge ≡ b → (d : Bool) → is_before edge next ≡ d → (e : Bool) → is_before (seq_add next room) edge ≡ e
        → m ≤ seq_sub (if a then start else (if b then seq_add start room else edge)) start → seq_sub (if a then start else (if b then seq_add start room else edge)) start ≤ m + seq_sub (if d then next else (if e then seq_add next room else edge)) next
    go true p b q d s e t h = omega (arith, small)
    go false p true q d s e t h = by d e s t
      where
        by : (d e : Bool) → is_before edge next ≡ d → is_before (seq_add next room) edge ≡ e → seq_sub (seq_add start room) start ≤ m + seq_sub (if d then next else (if e then seq_add next room else edge)) next
        by true e s t = omega (arith, h, small, edge_small, narrow, moved, not_far edge start p, far (seq_add start room) edge q, far edge next s)
        by false true s t = omega (arith, h, small, edge_small, narrow, moved)
        by false false s t = omega (arith, h, small, edge_small, narrow, moved, not_far edge start p, far (seq_add start room) edge q, not_far edge next s, not_far (seq_add next room) edge t)
    go false p false q d s e t h = by d e s t
      where
        by : (d e : Bool) → is_before edge next ≡ d → is_before (seq_add next room) edge ≡ e → seq_sub edge start ≤ m + seq_sub (if d then next else (if e then seq_add next room else edge)) next
        by true e s t = omega (arith, h, small, edge_small, narrow, moved, not_far edge start p, not_far (seq_add start room) edge q, far edge next s)
        by false true s t = omega (arith, h, small, edge_small, narrow, moved, not_far edge start p, not_far (seq_add start room) edge q)
        by false false s t = omega (arith, h, small, edge_small, narrow, moved, not_far edge start p, not_far (seq_add start room) edge q)

pub width_kept : (w y : View) (m room : ℕ) → length w.rx_buffer.held ≡ room → length y.rx_buffer.held ≡ room → room ≤ 2 ^ 30 → y.remote_last_ack ≡ w.remote_last_ack → y.remote_last_win ≡ w.remote_last_win → y.remote_win_shift ≡ w.remote_win_shift → (next_ack y).0 ≡ (seq_add (next_ack w) m).0 → m ≤ seq_sub (receive_window w).end (receive_window w).start
    → seq_sub (receive_window w).end (receive_window w).start ≤ m + seq_sub (receive_window y).end (receive_window y).start
unfolding receive_window
width_kept w y m room wide_w wide_y narrow ack win shift next = go w.remote_last_ack ack
  where
    go : (o : Option TcpSeqNumber) → y.remote_last_ack ≡ o → m ≤ seq_sub (window_end w o) (next_ack w) → seq_sub (window_end w o) (next_ack w) ≤ m + seq_sub (window_end y y.remote_last_ack) (next_ack y)
    go None e h = omega (arith, next)
    go (Some a) e h = subst (λ q. seq_sub (window_end w (Some a)) (next_ack w) ≤ m + seq_sub (window_end y q) (next_ack y)) (sym e) (by wide_w wide_y)
      where
        edge : TcpSeqNumber
        edge = seq_add a (w.remote_last_win * 2 ^ w.remote_win_shift)

        by : length w.rx_buffer.held ≡ room → length y.rx_buffer.held ≡ room → seq_sub (window_end w (Some a)) (next_ack w) ≤ m + seq_sub (window_end y (Some a)) (next_ack y)
        by p q =
            subst (λ l. seq_sub (kept_between (next_ack w) (seq_add (next_ack w) l) edge) (next_ack w) ≤ m + seq_sub (window_end y (Some a)) (next_ack y)) (sym p)
            (subst (λ l. seq_sub (kept_between (next_ack w) (seq_add (next_ack w) room) edge) (next_ack w) ≤ m + seq_sub (kept_between (next_ack y) (seq_add (next_ack y) l) (seq_add a (y.remote_last_win * 2 ^ y.remote_win_shift))) (next_ack y)) (sym q)
            (subst (λ d. seq_sub (kept_between (next_ack w) (seq_add (next_ack w) room) edge) (next_ack w) ≤ m + seq_sub (kept_between (next_ack y) (seq_add (next_ack y) room) d) (next_ack y)) (λ i. seq_add a (sym win i * 2 ^ sym shift i))
            (kept_past (next_ack w) (next_ack y) edge room m (omega arith) (omega arith) narrow next (subst (λ l. m ≤ seq_sub (kept_between (next_ack w) (seq_add (next_ack w) l) edge) (next_ack w)) p h))))
