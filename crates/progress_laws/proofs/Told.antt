-- The sender hears that all it sent was taken, and the two stand in step again.
use Rattle.std.proofs.Common.{◌≡◌, ℕ, ◌*◌, ◌<◌, ◌≤◌, ◌^◌, refl, sym, ap, subst, ◌∙◌, length, drop, Option, None, inl, arith}
use Rattle.net_base.specs.declared.time.Duration.{Duration}
use Rattle.net_base.specs.declared.time.Instant.{Instant}
use Rattle.ip_wire.specs.declared.repr.IpRepr.{IpRepr}
use Rattle.control_wire.specs.Segment.{Segment}
use Rattle.control_wire.specs.Seq.{seq_add, seq_sub}
use Rattle.control_wire.specs.declared.seq_number.TcpSeqNumber.{TcpSeqNumber}
use Rattle.progress_laws.specs.Smoltcp.{processed}
use Rattle.sock_tcp.specs.Queues.{may_send}
use Rattle.sock_tcp.specs.Steps.{scale_of}
use Rattle.sock_tcp.specs.Timers.{idle_from}
use Rattle.sock_tcp.specs.View.{View}
use Rattle.sock_tcp.specs.Window.{next_ack, receive_window}
use Rattle.sock_tcp.specs.declared.tuple.Tuple.{Tuple}
use Rattle.progress_laws.specs.InStep.{InStep}
use Rattle.progress_laws.proofs.Edges.{same_seq}
use Rattle.progress_laws.proofs.Learns.{Learnt, idle_rests, learnt, lies_at_edge}
use Rattle.progress_laws.proofs.Receives.{Tells}
use Rattle.progress_laws.proofs.Speaks.{Waits}
use Rattle.progress_laws.proofs.States.{sends_flat}

-- v sent n bytes, or none, and became x; w' tells in g that it took them
module _ (d : Option Duration) (t s : Tuple) (v w x w' : View) (now : Instant) (ip : IpRepr) (g : Segment) (n : ℕ) (i : InStep d t s v w) (wait : Waits v x) (tell : Tells w w' s g) (queued : n ≤ length v.tx_buffer.bytes) (taken : next_ack w' ≡ seq_add v.local_seq_no n) (near : seq_sub (next_ack w') x.remote_last_seq ≤ 2 ^ 30) where
  number : g.seq_number ≡ next_ack v
  number = tell.number ∙ i.back

  own : next_ack x ≡ next_ack v
  own = (λ j. seq_add (wait.same.rcv j) (length ((wait.same.rx j).bytes)))

  some : 0 < g.window_len * 2 ^ scale_of v.remote_win_scale
  some = subst (λ m. 0 < g.window_len * 2 ^ m) (sym i.scale) tell.some

  pub learns : Learnt v x now ip g (next_ack w') n
  learns = learnt v x now ip g (next_ack w') n (sends_flat v.state i.sender.state) wait tell.bit (subst (λ (m : TcpSeqNumber). m.0 < 2 ^ 32) (sym number) (omega arith)) (lies_at_edge x g wait.reached tell.empty (number ∙ sym own)) tell.ack tell.empty some queued taken near

  abbrev pub heard_view : View
  heard_view = learns.view

  pub hears : processed x now 0 ip g ≡ record { view = heard_view; reply = None }
  hears = learns.hears

  pub in_step_again : InStep d t s heard_view w'
  in_step_again =
      let h = learns.heard in
      let keep = wait.same.keep_alive ∙ i.sender.keep_alive in
      let scale : scale_of x.remote_win_scale ≡ w.remote_win_shift = ap scale_of wait.same.scale ∙ i.scale in
      let own_then : next_ack heard_view ≡ next_ack v = (λ j. seq_add ((h.rcv ∙ wait.same.rcv) j) (length (((h.rx ∙ wait.same.rx) j).bytes))) in
      record {
        sender = record {
          reached = learns.reached;
          state = ap may_send (h.state ∙ wait.same.state) ∙ i.sender.state;
          peer = h.peer ∙ wait.same.peer ∙ i.sender.peer;
          no_timeout = h.timeout ∙ wait.same.timeout ∙ i.sender.no_timeout;
          smoltcp = h.same_rules ∙ wait.same.same_rules ∙ i.sender.smoltcp;
          keep_alive = h.keep_alive ∙ keep;
          nothing_marked = h.marked ∙ wait.nothing_marked;
          rests = idle_rests learns.view now d (learns.timer ∙ ap (idle_from now) keep) learns.nothing_in_flight learns.window;
        };
        receiver = tell.receiver;
        taken = 0;
        taken_within = omega arith;
        there = same_seq (next_ack w') (seq_add (next_ack w') 0) (omega arith) ∙ ap (λ m. seq_add m 0) (sym h.una);
        back = tell.una ∙ i.back ∙ sym own_then;
        scale = ap scale_of h.scale ∙ scale ∙ sym tell.shift;
        window = let e : heard_view.remote_win_len ≡ seq_sub (receive_window w').end (receive_window w').start = h.window ∙ ap (λ m. g.window_len * 2 ^ m) scale ∙ sym tell.window in omega (arith, e);
        not_last = λ at e. inl learns.window;
      }

  -- nothing is taken then that the sender has not heard of
  pub nothing_new : in_step_again.taken ≡ 0
  unfolding in_step_again
  nothing_new = refl

  pub window_told : 0 < heard_view.remote_win_len
  window_told = learns.window

  pub queue_left : heard_view.tx_buffer.bytes ≡ drop n v.tx_buffer.bytes
  queue_left = learns.queue
