-- What a sender says that probes for a window, with nothing in flight.
use Rattle.std.proofs.Common.{◌≡◌, ℕ, inr, ◌/◌, ◌^◌, ◌<◌, ◌≤◌, true, false, not, ◌&&◌, refl, sym, ap, subst, ◌∙◌, List, length, take, drop, min, Option, Some, arith}
use Rattle.std.proofs.lemmas.Bool.{eq-eqb}
use Rattle.net_base.specs.declared.time.Duration.{Duration}
use Rattle.net_base.specs.declared.time.Instant.{Instant}
use Rattle.control_wire.specs.Segment.{Segment}
use Rattle.control_wire.specs.Seq.{seq_add, seq_sub}
use Rattle.sock_core.specs.Bounds.{IsMtu}
use Rattle.sock_core.specs.Facts.{Facts}
use Rattle.sock_tcp.proofs.UserTimeout.{none_runs}
use Rattle.sock_tcp.proofs.Lending.{lent_beginning}
use Rattle.sock_tcp.specs.Begin.{after_timer, is_paused, readied}
use Rattle.sock_tcp.specs.Content.{asked, carries_data, emission_kind, is_probing, offset_of, sent_as, window_left}
use Rattle.sock_tcp.specs.Due.{flight, is_closed, is_due}
use Rattle.sock_tcp.specs.Rfc.OwnWindow.{space_field}
use Rattle.sock_tcp.specs.Queue.{Queue}
use Rattle.sock_tcp.specs.Queues.{may_send}
use Rattle.sock_tcp.specs.Timers.{after as moment_after, is_over, is_probe_over, keep_alive_renewed, probe_doubled, twice}
use Rattle.sock_tcp.specs.View.{View}
use Rattle.sock_tcp.specs.declared.emission.Kind.TheVariants as kind
use Rattle.sock_tcp.specs.declared.timer.Timer.TheVariants as timer
use Rattle.sock_tcp.specs.declared.tuple.Tuple.{Tuple}
use Rattle.tcp_laws.proofs.Ordered.{no_distance}
use Rattle.tcp_laws.proofs.OrderedCalls.{reached_ordered, readied_ordered}
use Rattle.tcp_laws.proofs.Probing.{ProbesIn, reached_probing}
use Rattle.progress_laws.specs.InStep.{IsSender, told}
use Rattle.progress_laws.specs.Speech.{DispatchesOk, GoesOn, SendsOk}
use Rattle.progress_laws.proofs.Begins.{Alike, beginning, carries_runs, content_is, dispatch_reached, lent_for, readied_alike, same_then, segment_for, told_for, sends_so, stamp_for, stamp_is, probe_alone, smoltcp_begins}
use Rattle.progress_laws.proofs.Edges.{same_seq}
use Rattle.progress_laws.proofs.Hears.{IsOpenTimer}
use Rattle.progress_laws.proofs.Lends.{probe_byte}
use Rattle.progress_laws.proofs.Says.{probe_due}
use Rattle.progress_laws.proofs.Sends.{Untold, left, probe_nxt, probe_sent, probe_timer, probe_untold, segment_ack, segment_bit, segment_number, segment_window, smoltcp_field}
use Rattle.progress_laws.proofs.Speaks.{SpeaksBytes}
use Rattle.progress_laws.proofs.States.{flat_open, is_flat, sends_data, sends_flat}

module _ (d : Option Duration) (t : Tuple) (v : View) (f : Facts) (now at : Instant) (delay : Duration) (mtu : IsMtu f.mtu) (address : f.has_address t.local.addr ≡ true) (s : IsSender d t v) (probes : v.timer ≡ timer.ZeroWindowProbe at delay) (sent : v.remote_last_seq ≡ v.local_seq_no) (queue : 0 < length v.tx_buffer.bytes) (over : is_over at now ≡ true) where
  pub no_window : v.remote_win_len ≡ 0
  no_window = subst (λ tm. ProbesIn tm v.remote_win_len) probes (reached_probing v s.reached).window

  probe_on : GoesOn v t (told f now)
  probe_on = record { peer = s.peer; address = address; alive = rw (none_runs v s.no_timeout) refl; no_end = rw probes refl }

  probe_carries : is_paused v.state v.synack_paused ≡ false
  probe_carries = carries_runs v.state v.synack_paused (sends_data v.state s.state)

  abbrev p : View
  p = readied v now

  al : Alike v p
  al = readied_alike v now

  probe_is : beginning v t (told f now) probe_on probe_carries ≡ p
  probe_is = smoltcp_begins v t (told f now) probe_on probe_carries s.smoltcp ∙ ap (λ tm. after_timer tm p now) probes ∙ probe_alone p at delay now (al.same.same_rules ∙ s.smoltcp)

  probe_may : may_send p.state ≡ true
  probe_may = ap may_send al.same.state ∙ s.state

  probe_sends : is_flat p.state ≡ true
  probe_sends = sends_flat p.state probe_may

  probe_opens : is_closed p.state ≡ false
  probe_opens = flat_open p.state probe_sends

  unmarked : p.pending_fast_retransmit ≡ false
  unmarked = al.marked ∙ s.nothing_marked

  is_probe : is_probe_over p.timer now ≡ true
  is_probe = ap (λ tm. is_probe_over tm now) (al.timer ∙ probes) ∙ over

  probing : is_probing p now ≡ true
  probing = rw (sends_data p.state probe_may, unmarked, eq-eqb (window_left p) 0 (omega (arith, al.same.window, no_window)), is_probe) refl

  probe_una : p.local_seq_no.0 < 2 ^ 32
  probe_una = (readied_ordered v now (reached_ordered v s.reached)).una_small

  nothing_sent : flight p ≡ 0
  nothing_sent = ap (λ n. seq_sub n p.local_seq_no) (al.nxt ∙ sent ∙ sym al.same.una) ∙ no_distance p.local_seq_no probe_una

  probe_start : offset_of p ≡ 0
  probe_start = rw unmarked nothing_sent

  abbrev probe_bytes : List ℕ
  probe_bytes = lent_for p t (told f now)

  one_byte : length probe_bytes ≡ 1
  one_byte = probe_byte p t (told f now) (stamp_for p) probe_bytes mtu.0 (subst (λ n. 48 ≤ n) (sym al.mss) (reached_probing v s.reached).mss) (sends_data p.state probe_may) refl unmarked probing (omega (arith, nothing_sent, queue, ap (λ (q : Queue). length q.bytes) al.same.tx))

  abbrev probe : Segment
  probe = told_for p t (told f now) (stamp_for p) probe_bytes

  kind_is : emission_kind p now probe ≡ kind.Probe
  kind_is = rw probing refl

  probe_goes : DispatchesOk (told f now) v (Some (sent_as p t kind.Probe probe)) (left p t now probe probe_opens kind.Probe)
  probe_goes = sends_so v t (told f now) probe_on probe_carries (Some (sent_as p t kind.Probe probe)) (left p t now probe probe_opens kind.Probe) (ap (λ x. is_due x t (told f now)) probe_is ∙ probe_due p t (told f now) is_probe) (subst (λ x. SendsOk (told f now) t x (Some (sent_as p t kind.Probe probe)) (left p t now probe probe_opens kind.Probe)) (sym probe_is) (record {
    stamp = stamp_for p;
    told = stamp_is p;
    bytes = probe_bytes;
    lent = refl;
    sends = sym (content_is p t (told f now) (stamp_for p) probe_bytes (sends_data p.state probe_may) ∙ ap (λ c. Some (sent_as p t c probe)) kind_is);
    view = refl;
  }))

  pub says_probe : SpeaksBytes (told f now) v
  says_probe =
      let l = probe_sent p t now probe probe_opens in
      record {
        out = sent_as p t kind.Probe probe;
        after = left p t now probe probe_opens kind.Probe;
        speaks = record {
          dispatch = probe_goes;
          bit = segment_bit p t (stamp_for p) probe_bytes probe_sends unmarked;
          ack = segment_ack p t (stamp_for p) probe_bytes probe_sends unmarked ∙ (λ i. Some (seq_add (al.same.rcv i) (length ((al.same.rx i).bytes))));
          waits = record {
            reached = dispatch_reached (told f now) v (Some (sent_as p t kind.Probe probe)) (left p t now probe probe_opens kind.Probe) s.reached probe_goes;
            same = same_then al.same l.same;
            nothing_marked = l.marked ∙ ap (λ m. m && not (carries_data p.state)) unmarked;
            timer = subst IsOpenTimer (sym (probe_timer p t now probe probe_opens ∙ ap (λ tm. probe_doubled (keep_alive_renewed tm now p.keep_alive) now) (al.timer ∙ probes))) tt;
          };
        };
        number = segment_number p t (stamp_for p) probe_bytes probe_sends unmarked ∙ al.nxt ∙ sent;
        some = omega (arith, one_byte);
        within = inr one_byte;
        queued = omega (arith, one_byte, queue);
        first = lent_beginning p.tx_buffer (offset_of p) (asked p t (told f now)) probe_bytes refl ∙ ap (λ o. take (length probe_bytes) (drop o p.tx_buffer.bytes)) probe_start ∙ ap (λ (q : Queue). take (length probe_bytes) q.bytes) al.same.tx;
        sent = 0;
        sent_within = omega arith;
        nxt = probe_nxt p t now probe probe_opens ∙ al.nxt ∙ sent ∙ same_seq v.local_seq_no (seq_add v.local_seq_no 0) (omega (arith, (reached_ordered v s.reached).una_small));
      }

  pub probe_unsent : says_probe.sent ≡ 0
  unfolding says_probe
  probe_unsent = refl

  pub probe_one : length says_probe.out.segment.payload ≡ 1
  unfolding says_probe
  probe_one = one_byte

  -- it tells the own window, which does not count as told
  pub probe_field : says_probe.out.segment.window_len ≡ space_field v
  unfolding says_probe
  probe_field = segment_window p t (stamp_for p) probe_bytes probe_sends unmarked ∙ smoltcp_field p (al.same.same_rules ∙ s.smoltcp) ∙ (λ i. min (length ((al.same.rx i).held) / 2 ^ al.same.shift i) 65535)

  pub probe_shift : says_probe.after.remote_win_shift ≡ v.remote_win_shift
  unfolding says_probe
  probe_shift = (probe_sent p t now probe probe_opens).same.shift ∙ al.same.shift

  pub probe_window_known : says_probe.after.remote_win_len ≡ v.remote_win_len
  unfolding says_probe
  probe_window_known = (probe_sent p t now probe probe_opens).same.window ∙ al.same.window

  pub probe_tells_nothing : Untold v says_probe.after
  unfolding says_probe
  probe_tells_nothing = let k = probe_untold p t now probe probe_opens in record { last_ack = k.last_ack ∙ al.last_ack; last_win = k.last_win ∙ al.last_win }

  -- and it probes again
  pub probe_again : says_probe.after.timer ≡ timer.ZeroWindowProbe (moment_after now (twice delay)) (twice delay)
  unfolding says_probe
  probe_again = probe_timer p t now probe probe_opens ∙ ap (λ tm. probe_doubled (keep_alive_renewed tm now p.keep_alive) now) (al.timer ∙ probes)
