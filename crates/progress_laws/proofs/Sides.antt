-- What a side tells, what it hears of an answer to it, and what it takes.
use Rattle.std.proofs.Common.{◌≡◌, ℕ, ◌*◌, ◌<◌, ◌≤◌, ◌^◌, true, refl, sym, ap, subst, ◌∙◌, List, ◌++◌, length, drop, Option, Some, None, arith}
use Rattle.std.specs.Prelude.{◌≤ℤ◌}
use Rattle.std.proofs.lemmas.Int.{ints}
use Rattle.std.proofs.lemmas.List.{length-replicate}
use Rattle.net_base.specs.declared.time.Duration.{Duration}
use Rattle.net_base.specs.declared.time.Instant.{Instant}
use Rattle.ip_wire.specs.declared.repr.IpRepr.{IpRepr}
use Rattle.control_wire.specs.Segment.{Segment}
use Rattle.control_wire.specs.Seq.{seq_add, seq_sub}
use Rattle.control_wire.specs.declared.seq_number.TcpSeqNumber.{TcpSeqNumber}
use Rattle.sock_core.specs.Facts.{Facts}
use Rattle.sock_core.specs.Received.{Received}
use Rattle.sock_tcp.specs.Content.{Sending}
use Rattle.sock_tcp.specs.Rfc.OwnWindow.{space_field}
use Rattle.progress_laws.specs.Smoltcp.{processed}
use Rattle.sock_tcp.specs.Queues.{may_send, read_off, receives}
use Rattle.sock_tcp.specs.Replies.{ack_kept, ack_segment, reply_ip}
use Rattle.sock_tcp.specs.Steps.{scale_of}
use Rattle.sock_tcp.specs.View.{View}
use Rattle.sock_tcp.specs.Window.{is_inside, next_ack, receive_window}
use Rattle.sock_tcp.specs.declared.tuple.Tuple.{Tuple}
use Rattle.tcp_laws.specs.Polling.{IsReached}
use Rattle.tcp_laws.proofs.OrderedCalls.{reached_ordered}
use Rattle.tcp_laws.proofs.SocketSteps.{holds_after}
use Rattle.progress_laws.specs.BothWays.{IsSide, Toward, window_told}
use Rattle.progress_laws.specs.InStep.{Carries, ForAnswer, ForKeepAlive, ForNothing, ForProbe, IsAnswered, Move, Moves, NoMove, OneMore, Reads, Rests, told}
use Rattle.progress_laws.specs.Speech.{DispatchesOk}
use Rattle.progress_laws.proofs.Stamped.{stamped_ack, answer_stamp, ack_stamped}
use Rattle.progress_laws.proofs.Begins.{numbered_as, segment_reached}
use Rattle.progress_laws.proofs.Edges.{same_seq}
use Rattle.progress_laws.proofs.Hears.{HeardAs, IsData, IsOpenTimer}
use Rattle.progress_laws.proofs.Learns.{Learnt, idle_rests, learnt}
use Rattle.progress_laws.proofs.Receives.{NewPart}
use Rattle.progress_laws.proofs.Speaks.{Speaks}
use Rattle.progress_laws.proofs.States.{is_steady, not_listening, sends_flat}
use Rattle.progress_laws.proofs.Takes.{IsCaughtUp, Took, fresh_bytes, takes, took, took_bytes, took_reached, took_rests, took_so}
use Rattle.progress_laws.proofs.Taking.{blank, read_out}
use Rattle.progress_laws.proofs.Widths.{unit_some, width_told}
use Rattle.progress_laws.proofs.Sends.{smoltcp_field}

-- ---- what a side tells

pub wide_so : (y : View) (room : ℕ) → y.rx_buffer.held ≡ blank room → length y.rx_buffer.held ≡ room
wide_so y room held = ap (λ (l : List (Option ℕ)). length l) held ∙ length-replicate room None

pub room_small : (y : View) (room : ℕ) → y.rx_buffer.held ≡ blank room → IsReached y → room ≤ 2 ^ 30
room_small y room held r = omega (arith, wide_so y room held, (holds_after r.rx r.tx y r.counts r.rx_size r.run).room)

pub told_some : (y : View) (room : ℕ) → y.rx_buffer.held ≡ blank room → 2 ^ y.remote_win_shift ≤ room → 0 < window_told y
told_some y room held at_least = unit_some (length y.rx_buffer.held) y.remote_win_shift (subst (λ n. 2 ^ y.remote_win_shift ≤ n) (sym (wide_so y room held)) at_least)

pub open_rests : (v : View) → Rests v → IsOpenTimer v.timer
open_rests v (ForKeepAlive at idle nxt) = subst IsOpenTimer (sym idle) tt
open_rests v (ForNothing idle nxt some) = subst IsOpenTimer (sym idle) tt
open_rests v (ForAnswer at again) = subst IsOpenTimer (sym again) tt
open_rests v (ForProbe at delay probes nxt some) = subst IsOpenTimer (sym probes) tt

pub kept_rests : (v : View) → Rests v → Rests (ack_kept v)
unfolding ack_kept
kept_rests v (ForKeepAlive at idle nxt) = ForKeepAlive at idle nxt
kept_rests v (ForNothing idle nxt some) = ForNothing idle nxt some
kept_rests v (ForAnswer at again) = ForAnswer at again
kept_rests v (ForProbe at delay probes nxt some) = ForProbe at delay probes nxt some

pub side_narrow : {d : Option Duration} {t : Tuple} {v : View} → (a : IsSide d t v) → a.room ≤ 2 ^ 30
side_narrow {d} {t} {v} a = room_small v a.room a.nothing_held a.sender.reached

-- ---- the other side has it already, and answers

-- v hears that w took n bytes of its queue, and w's window
pub record HearsAnswer (d e : Option Duration) (t s : Tuple) (f : Facts) (now : Instant) (v w x : View) (n : ℕ) : Type 0 where
  pub view : View
  pub move : (got : List ℕ) → Move f now v w got view (ack_kept w) got
  pub here : IsSide d t view
  pub across : IsSide e s (ack_kept w)
  pub over : Toward view (ack_kept w)
  pub none : over.taken ≡ 0
  pub next : next_ack view ≡ next_ack v
  pub shift : view.remote_win_shift ≡ v.remote_win_shift
  pub rx : view.rx_buffer ≡ v.rx_buffer
  pub rcv : view.remote_seq_no ≡ v.remote_seq_no
  pub last_ack : view.remote_last_ack ≡ x.remote_last_ack
  pub last_win : view.remote_last_win ≡ x.remote_last_win
  pub nxt : view.remote_last_seq ≡ next_ack w
  pub queue : view.tx_buffer.bytes ≡ drop n v.tx_buffer.bytes

module _ (d e : Option Duration) (t s : Tuple) (f : Facts) (now : Instant) (v w : View) (a : IsSide d t v) (b : IsSide e s w) (n : ℕ) (within : n ≤ length v.tx_buffer.bytes) (there : next_ack w ≡ seq_add v.local_seq_no n) (scale : scale_of v.remote_win_scale ≡ w.remote_win_shift) (out : Sending) (x : View) (speaks : Speaks (told f now) v out x) (shift : x.remote_win_shift ≡ v.remote_win_shift) (short : length out.segment.payload ≤ 65535) (number : out.segment.seq_number.0 < 2 ^ 32) (answer : processed w now 0 out.ip out.segment ≡ record { view = ack_kept w; reply = Some (ack_segment w out.segment) }) (lies : is_inside (receive_window x) w.remote_last_seq 0 ≡ true) (near : seq_sub (next_ack w) x.remote_last_seq ≤ 2 ^ 30) where
  abbrev g : Segment
  g = stamped_ack w (ack_kept w) out.segment

  abbrev ip : IpRepr
  ip = reply_ip out.ip g

  told_back : g.window_len * 2 ^ scale_of v.remote_win_scale ≡ window_told w
  unfolding ack_segment
  told_back = λ i. smoltcp_field w b.sender.smoltcp i * 2 ^ scale i

  told_back_some : 0 < g.window_len * 2 ^ scale_of v.remote_win_scale
  told_back_some = subst (λ m. 0 < m) (sym told_back) (told_some w b.room b.nothing_held b.room_at_least)

  l : Learnt v x now ip g (next_ack w) n
  unfolding ack_segment
  l = learnt v x now ip g (next_ack w) n (sends_flat v.state a.sender.state) speaks.waits tt (reached_ordered w b.sender.reached).nxt_small lies refl refl told_back_some within there near

  h : HeardAs (record x { local_rx_last_seq = Some g.seq_number }) (next_ack w) (seq_sub (next_ack w) x.local_seq_no) (g.window_len * 2 ^ scale_of x.remote_win_scale) l.view
  h = l.heard

  window_is : l.view.remote_win_len ≡ window_told w
  window_is = h.window ∙ ap (λ o. g.window_len * 2 ^ scale_of o) speaks.waits.same.scale ∙ told_back

  reached : IsReached (ack_kept w)
  reached = segment_reached w (ack_kept w) now 0 out.ip out.segment (Some (ack_segment w out.segment)) b.sender.reached (omega arith) (numbered_as out.segment (next_ack v) speaks.ack number (omega arith)) short (λ l. absurd (not_listening w.state (ap is_steady b.established) l)) answer

  pub hears_answer : HearsAnswer d e t s f now v w x n
  unfolding ack_kept
  hears_answer =
      let k = speaks.waits in
      record {
        view = l.view;
        move = λ got. IsAnswered out x (ack_segment w out.segment) (answer_stamp (ack_kept w) out.segment) speaks.dispatch answer (ack_stamped w (ack_kept w) out.segment) l.hears refl;
        here = record {
          sender = record {
            reached = l.reached;
            state = ap may_send (h.state ∙ k.same.state) ∙ a.sender.state;
            peer = h.peer ∙ k.same.peer ∙ a.sender.peer;
            no_timeout = h.timeout ∙ k.same.timeout ∙ a.sender.no_timeout;
            smoltcp = h.same_rules ∙ k.same.same_rules ∙ a.sender.smoltcp;
            keep_alive = h.keep_alive ∙ k.same.keep_alive ∙ a.sender.keep_alive;
            nothing_marked = h.marked ∙ k.nothing_marked;
            rests = idle_rests l.view now x.keep_alive l.timer l.nothing_in_flight l.window;
          };
          established = h.state ∙ k.same.state ∙ a.established;
          read = ap (λ (q : Received). q.bytes) (h.rx ∙ k.same.rx) ∙ a.read;
          room = a.room;
          nothing_held = ap (λ (q : Received). q.held) (h.rx ∙ k.same.rx) ∙ a.nothing_held;
          room_at_least = subst (λ m. 2 ^ m ≤ a.room) (sym (h.shift ∙ shift)) a.room_at_least;
        };
        across = record {
          sender = record { reached = reached; state = b.sender.state; peer = b.sender.peer; no_timeout = b.sender.no_timeout; smoltcp = b.sender.smoltcp; keep_alive = b.sender.keep_alive; nothing_marked = b.sender.nothing_marked; rests = kept_rests w b.sender.rests };
          established = b.established;
          read = b.read;
          room = b.room;
          nothing_held = b.nothing_held;
          room_at_least = b.room_at_least;
        };
        over = record {
          taken = 0;
          taken_within = omega arith;
          there = same_seq (next_ack w) (seq_add (next_ack w) 0) (omega arith) ∙ ap (λ m. seq_add m 0) (sym h.una);
          scale = ap scale_of (h.scale ∙ k.same.scale) ∙ scale;
          some = l.window;
          window = omega (arith, window_is, width_told w (ack_kept w) b.room (wide_so w b.room b.nothing_held) (side_narrow b) refl refl refl refl (smoltcp_field w b.sender.smoltcp));
          at_most = omega (arith, window_is);
        };
        none = refl;
        next = (λ j. seq_add ((h.rcv ∙ k.same.rcv) j) (length (((h.rx ∙ k.same.rx) j).bytes)));
        shift = h.shift ∙ shift;
        rx = h.rx ∙ k.same.rx;
        rcv = h.rcv ∙ k.same.rcv;
        last_ack = h.last_ack;
        last_win = h.last_win;
        nxt = l.nothing_in_flight ∙ h.una;
        queue = l.queue;
      }

-- ---- some of it is new, and is read

-- its peer acknowledges n bytes of it, by k
pub caught_side : {e : Option Duration} {s : Tuple} {w : View} → (b : IsSide e s w) → (k : TcpSeqNumber) (n : ℕ) → k ≡ seq_add w.local_seq_no n → n ≤ length w.tx_buffer.bytes → seq_sub w.remote_last_seq k ≤ 2 ^ 30 → IsCaughtUp w k n b.room
caught_side {e} {s} {w} b k n there queued ahead =
    let o = reached_ordered w b.sender.reached in
    record { state = ap is_steady b.established; takes = ap receives b.established; una_small = o.una_small; short = omega (arith, o.room); there = there; queued = queued; nxt_small = o.nxt_small; ahead = ahead; timer = open_rests w b.sender.rests; read = b.read; held = b.nothing_held; narrow = side_narrow b }

-- w took m bytes behind the first j of the segment, and they were read
pub record Brought (e : Option Duration) (s : Tuple) (f : Facts) (now : Instant) (v w x : View) (k : TcpSeqNumber) (n room m win : ℕ) (fresh : List ℕ) : Type 0 where
  pub view : View
  pub took : Took w k n room m win now view
  pub side : IsSide e s view
  pub moves : (at : Instant) → at.micros ≤ℤ now.micros → (got : List ℕ) → Moves f at v w got now x view (got ++ fresh)

module _ (e : Option Duration) (s : Tuple) (f : Facts) (now : Instant) (v x w : View) (out : Sending) (dispatch : DispatchesOk (told f now) v (Some out) x) (b : IsSide e s w) (k : TcpSeqNumber) (n : ℕ) (c : IsCaughtUp w k n b.room) (bit : IsData out.segment.control) (ack : out.segment.ack_number ≡ Some k) (number : out.segment.seq_number.0 < 2 ^ 32) (short : length out.segment.payload ≤ 65535) (win : 0 < out.segment.window_len * 2 ^ scale_of w.remote_win_scale) (j m : ℕ) (np : NewPart w out.segment j m) where
  abbrev fresh : List ℕ
  fresh = fresh_bytes w k n b.room now out.ip out.segment c bit ack j m np

  abbrev w1 : View
  w1 = took w k n b.room now out.ip out.segment c bit ack j m np

  bytes : w1.rx_buffer.bytes ≡ fresh
  bytes = took_bytes w k n b.room now out.ip out.segment c bit ack j m np

  pub brings_side : Brought e s f now v w x k n b.room m (out.segment.window_len * 2 ^ scale_of w.remote_win_scale) (drop j out.segment.payload)
  brings_side =
      let h : Took w k n b.room m (out.segment.window_len * 2 ^ scale_of w.remote_win_scale) now (read_off w1 (length fresh)) = took_so w k n b.room now out.ip out.segment c bit ack j m np in
      let r = took_reached w k n b.room now out.ip out.segment c bit ack j m np b.sender.reached number short in
      record {
        view = read_off w1 (length fresh);
        took = h;
        side = record {
          sender = record { reached = r; state = ap may_send h.state ∙ b.sender.state; peer = h.peer ∙ b.sender.peer; no_timeout = h.timeout ∙ b.sender.no_timeout; smoltcp = h.same_rules ∙ b.sender.smoltcp; keep_alive = h.keep_alive ∙ b.sender.keep_alive; nothing_marked = h.marked ∙ b.sender.nothing_marked; rests = took_rests w k n b.room now out.ip out.segment c bit ack j m np win b.sender.rests };
          established = h.state ∙ b.established;
          read = h.read;
          room = b.room;
          nothing_held = h.held;
          room_at_least = subst (λ q. 2 ^ q ≤ b.room) (sym h.shift) b.room_at_least;
        };
        moves = λ at since got.
            OneMore at now now v w x w1 x (read_off w1 (length fresh)) got got (got ++ fresh) since (Carries out dispatch (takes w k n b.room now out.ip out.segment c bit ack j m np) refl)
            (OneMore now now now x w1 x (read_off w1 (length fresh)) x (read_off w1 (length fresh)) got (got ++ fresh) (got ++ fresh) (grind (arith, ints)) (Reads (length fresh) (omega (arith, ap (λ (l : List ℕ). length l) bytes)) refl refl (ap (λ (l : List ℕ). got ++ l) (sym (read_out w1.rx_buffer fresh bytes)))) (NoMove now x (read_off w1 (length fresh)) (got ++ fresh)));
      }
