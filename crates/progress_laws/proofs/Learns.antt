-- A sender hears how much of what it sent was taken, all of what is in flight with it.
use Rattle.std.proofs.Common.{◌≡◌, ℕ, ◌||◌, ◌*◌, ◌<◌, ◌≤◌, ◌^◌, ◌⊎◌, inl, inr, true, false, refl, sym, ap, subst, ◌∙◌, length, drop, Option, Some, None, arith}
use Rattle.std.proofs.lemmas.Bool.{eq-eqb}
use Rattle.std.proofs.lemmas.Option.{same_Some}
use Rattle.net_base.specs.declared.time.Duration.{Duration}
use Rattle.net_base.specs.declared.time.Instant.{Instant}
use Rattle.ip_wire.specs.declared.repr.IpRepr.{IpRepr}
use Rattle.control_wire.specs.Segment.{Segment}
use Rattle.control_wire.specs.Seq.{seq_add, seq_eq, seq_sub}
use Rattle.control_wire.specs.declared.seq_number.TcpSeqNumber.{TcpSeqNumber}
use Rattle.sock_core.specs.Seq.{is_before, is_not_after, later_of}
use Rattle.sock_tcp.proofs.Windows.{end_small, start_small, window_width}
use Rattle.sock_tcp.specs.Process.{Outcome}
use Rattle.progress_laws.specs.Smoltcp.{processed}
use Rattle.sock_tcp.specs.Queue.{Queue}
use Rattle.sock_tcp.specs.Steps.{heard, scale_of}
use Rattle.sock_tcp.specs.Timers.{after as moment_after, idle_from}
use Rattle.sock_tcp.specs.View.{View}
use Rattle.sock_tcp.specs.Window.{cut_of, is_inside, next_ack, receive_window}
use Rattle.tcp_laws.specs.Polling.{IsReached}
use Rattle.tcp_laws.specs.SocketRun.{IsNumbered, Process, after_segment}
use Rattle.tcp_laws.proofs.OrderedCalls.{reached_ordered}
use Rattle.tcp_laws.proofs.SocketSteps.{holds_after}
use Rattle.progress_laws.specs.InStep.{ForKeepAlive, ForNothing, Rests}
use Rattle.progress_laws.proofs.Begins.{some_or_none, step_reached}
use Rattle.progress_laws.proofs.Edges.{empty_inside_so, is_earlier, is_not_before, later_is, later_stays, same_seq}
use Rattle.progress_laws.proofs.Hears.{HeardAs, IsData, all_no_duplicate, data_is_said, covered, heard_as, heard_inside, heard_rests, none_taken, seen}
use Rattle.progress_laws.proofs.Speaks.{Waits}
use Rattle.progress_laws.proofs.States.{flat_steady, is_flat, is_steady, not_listening}
use Rattle.sock_tcp.specs.declared.rules.Rules.TheVariants as rules

-- with an idle timer and nothing in flight
pub idle_rests : (v : View) (now : Instant) (keep : Option Duration) → v.timer ≡ idle_from now keep → v.remote_last_seq ≡ v.local_seq_no → 0 < v.remote_win_len → Rests v
idle_rests v now None idle nxt some = ForNothing idle nxt some
idle_rests v now (Some d) idle nxt some = ForKeepAlive (moment_after now d) idle nxt

-- x hears in g that n bytes behind v's SND.UNA were taken, up to the number k, and becomes this
pub record Learnt (v x : View) (now : Instant) (ip : IpRepr) (g : Segment) (k : TcpSeqNumber) (n : ℕ) : Type 0 where
  pub view : View
  pub hears : processed x now 0 ip g ≡ record { view = view; reply = None }
  pub heard : HeardAs (record x { local_rx_last_seq = Some g.seq_number }) k (seq_sub k x.local_seq_no) (g.window_len * 2 ^ scale_of x.remote_win_scale) view
  pub reached : IsReached view
  pub timer : view.timer ≡ idle_from now x.keep_alive
  pub nothing_in_flight : view.remote_last_seq ≡ view.local_seq_no
  pub window : 0 < view.remote_win_len
  pub queue : view.tx_buffer.bytes ≡ drop n v.tx_buffer.bytes

-- a segment without bytes at the left edge lies in the window
pub lies_at_edge : (x : View) (g : Segment) → IsReached x → length g.payload ≡ 0 → g.seq_number ≡ next_ack x → is_inside (receive_window x) g.seq_number (length g.payload) ≡ true
unfolding is_inside receive_window
lies_at_edge x g r empty at = rw (empty, at) (empty_inside_so (receive_window x) (start_small x) (end_small x) (omega (arith, window_width x room, room)))
  where
    room : length x.rx_buffer.held ≤ 2 ^ 30
    room = omega (arith, (holds_after r.rx r.tx x r.counts r.rx_size r.run).room)

-- v sent something, or nothing, and became x; g says that n bytes behind SND.UNA were taken, and tells a window
module _ (v x : View) (now : Instant) (ip : IpRepr) (g : Segment) (k : TcpSeqNumber) (n : ℕ) (is_flat_v : is_flat v.state ≡ true) (wait : Waits v x) (bit : IsData g.control) (number_small : g.seq_number.0 < 2 ^ 32) (inside : is_inside (receive_window x) g.seq_number (length g.payload) ≡ true) (ack : g.ack_number ≡ Some k) (empty : length g.payload ≡ 0) (some : 0 < g.window_len * 2 ^ scale_of v.remote_win_scale) (queued : n ≤ length v.tx_buffer.bytes) (taken : k ≡ seq_add v.local_seq_no n) (near : seq_sub k x.remote_last_seq ≤ 2 ^ 30) where
  flat : is_steady x.state ≡ true
  flat = ap is_steady wait.same.state ∙ flat_steady v.state is_flat_v

  una_small : x.local_seq_no.0 < 2 ^ 32
  una_small = (reached_ordered x wait.reached).una_small

  short : length x.tx_buffer.bytes ≤ 2 ^ 30
  short = omega (arith, (reached_ordered x wait.reached).room)

  same_queue : length x.tx_buffer.bytes ≡ length v.tx_buffer.bytes
  same_queue = ap (λ (q : Queue). length q.bytes) wait.same.tx

  same_una : x.local_seq_no.0 ≡ v.local_seq_no.0
  same_una = ap (λ (m : TcpSeqNumber). m.0) wait.same.una

  covers_n : seq_sub k x.local_seq_no ≡ n
  covers_n = omega (arith, ap (λ (m : TcpSeqNumber). m.0) taken, una_small, same_una, queued, short, same_queue)

  within : seq_sub k x.local_seq_no ≤ length x.tx_buffer.bytes
  within = omega (arith, covers_n, queued, same_queue)

  small : k.0 < 2 ^ 32
  small = omega (arith, ap (λ (m : TcpSeqNumber). m.0) taken)

  nxt_small : x.remote_last_seq.0 < 2 ^ 32
  nxt_small = (reached_ordered x wait.reached).nxt_small

  last : is_before k x.remote_last_seq ≡ false
  last = is_not_before k x.remote_last_seq (omega (arith, near))

  sooner : (seq_sub k x.remote_last_seq ≡ 0) ⊎ (0 < seq_sub k x.remote_last_seq) → (x.remote_last_seq ≡ k) ⊎ (is_before x.remote_last_seq k ≡ true)
  sooner (inl z) = inl (same_seq x.remote_last_seq k (omega (arith, z, small, nxt_small)))
  sooner (inr some) = inr (is_earlier x.remote_last_seq k (omega (arith, some, near, small, nxt_small)))

  later : later_of x.remote_last_seq k ≡ k
  later = by (sooner (some_or_none (seq_sub k x.remote_last_seq)))
    where
      by : (x.remote_last_seq ≡ k) ⊎ (is_before x.remote_last_seq k ≡ true) → later_of x.remote_last_seq k ≡ k
      by (inl e) = later_stays x.remote_last_seq k (ap (λ m. is_before m k) e ∙ is_not_before k k (omega (arith, small))) ∙ e
      by (inr e) = later_is x.remote_last_seq k e

  abbrev a : View
  a = seen x now 0 ip g k flat ack bit

  abbrev heard_view : View
  heard_view = heard a now (covered x now 0 ip g k flat ack bit) g

  hears : processed x now 0 ip g ≡ record { view = heard_view; reply = None }
  hears = heard_inside x now 0 ip g k flat ack bit small una_small within short inside ∙ none_taken x now 0 ip g k flat ack bit heard_view (cut_of (receive_window x) g.seq_number (length g.payload)) empty

  heard_so : HeardAs a k (seq_sub k x.local_seq_no) (g.window_len * 2 ^ scale_of x.remote_win_scale) heard_view
  heard_so = heard_as a now (covered x now 0 ip g k flat ack bit) g k ack (data_is_said g.control bit)

  told_so : 0 < g.window_len * 2 ^ scale_of x.remote_win_scale
  told_so = subst (λ o. 0 < g.window_len * 2 ^ scale_of o) (sym wait.same.scale) some

  all : is_not_after x.remote_last_seq k ≡ true
  unfolding is_not_after
  all = by (sooner (some_or_none (seq_sub k x.remote_last_seq)))
    where
      by : (x.remote_last_seq ≡ k) ⊎ (is_before x.remote_last_seq k ≡ true) → (is_before x.remote_last_seq k || seq_eq x.remote_last_seq k) ≡ true
      by (inl e) = rw (e, is_not_before k k (omega (arith, small)), eq-eqb k.0 k.0 refl) refl
      by (inr e) = rw e refl

  idle : heard_view.timer ≡ idle_from now a.keep_alive
  idle = heard_rests a now (covered x now 0 ip g k flat ack bit) g k ack (data_is_said g.control bit) (all_no_duplicate a now (covered x now 0 ip g k flat ack bit) g k last) wait.timer all told_so

  all_heard : heard_view.remote_last_seq ≡ heard_view.local_seq_no
  all_heard = heard_so.nxt ∙ later ∙ sym heard_so.una

  reached_so : IsReached heard_view
  reached_so = step_reached x heard_view (after_segment wait.reached.counts x heard_view) wait.reached (Process rules.Smoltcp now 0 ip g (omega arith) numbered (omega (arith, empty)) (λ l. absurd (not_listening x.state flat l)) (sym (ap (λ (o : Outcome). o.view) hears)) refl)
    where
      numbered : IsNumbered g
      numbered = record { seq_number = number_small; ack_number = λ m e. subst (λ (q : TcpSeqNumber). q.0 < 2 ^ 32) (same_Some k m (sym ack ∙ e)) small }

  window_told : 0 < heard_view.remote_win_len
  window_told = subst (λ m. 0 < m) (sym heard_so.window) told_so

  queue_left : heard_view.tx_buffer.bytes ≡ drop n v.tx_buffer.bytes
  queue_left = ap (λ (q : Queue). q.bytes) heard_so.tx ∙ ap (λ m. drop m x.tx_buffer.bytes) covers_n ∙ ap (λ (q : Queue). drop n q.bytes) wait.same.tx

  pub learnt : Learnt v x now ip g k n
  learnt = record { view = heard_view; hears = hears; heard = heard_so; reached = reached_so; timer = idle; nothing_in_flight = all_heard; window = window_told; queue = queue_left }
