-- A socket that has nothing to say.
use Rattle.std.proofs.Common.{◌≡◌, ℕ, ◌/◌, ◌^◌, ◌<◌, ◌≤◌, Bool, true, false, cond, ◌&&◌, ◌||◌, not, length, Some, is_none, ap, ◌∙◌, arith}
use Rattle.std.specs.Prelude.{◌==◌, nat_le}
use Rattle.std.proofs.lemmas.Bool.{and_left, and_right, eqb-true, lt-leb}
use Rattle.std.proofs.lemmas.Bool.Decides.{nat_tests}
use Rattle.net_base.specs.declared.time.Instant.{Instant}
use Rattle.control_wire.specs.Seq.{seq_add, seq_eq}
use Rattle.control_wire.specs.declared.seq_number.TcpSeqNumber.{TcpSeqNumber}
use Rattle.sock_core.specs.Facts.{Facts}
use Rattle.sock_core.specs.declared.context.PollAt.TheVariants as poll
use Rattle.sock_tcp.specs.Due.{ack_due, ack_poll, data_due, held_poll, edge_sent, effective_mss, field_left, flight, is_ack_after, is_closed, is_closing, is_doubled, is_held_back, is_opening, sendable, tells_window, window_doubled}
use Rattle.sock_tcp.specs.Poll.{is_due_now}
use Rattle.sock_tcp.specs.Polls.{delay_poll, earlier}
use Rattle.sock_tcp.specs.Rfc.OwnWindow.{may_grow, space_field}
use Rattle.sock_tcp.specs.Rfc.SmallSegments.{held_by, small_poll}
use Rattle.sock_tcp.specs.View.{View}
use Rattle.sock_tcp.specs.Window.{next_ack}
use Rattle.sock_tcp.specs.declared.rules.Rules.{Rules}
use Rattle.sock_tcp.specs.declared.rules.Rules.TheVariants as rules
use Rattle.sock_tcp.specs.declared.state.State.TheVariants as state
use Rattle.sock_tcp.specs.declared.tuple.Tuple.{Tuple}
use Rattle.sock_tcp.proofs.Windows.{is_not_before, left_is_told, same_seq, shifted_fits}

-- ---- what the peer was told

pub same_number : (a b : TcpSeqNumber) → a.0 ≡ b.0 → Some a ≡ Some b
same_number a b e = ap Some (same_seq a b e)

module _ (v : View) (is : v.remote_last_ack ≡ Some (next_ack v)) where
  pub not_owed : ack_due v ≡ false
  unfolding ack_due
  not_owed = ap (λ o. is_ack_after o (next_ack v)) is ∙ is_not_before (next_ack v) (next_ack v) (omega arith)

  not_so : is_doubled v (Some (next_ack v)) ≡ false → window_doubled v ≡ false
  unfolding window_doubled
  not_so e =
      and_right (tells_window v.state) (is_doubled v v.remote_last_ack && may_grow v.rules v) (and_left (is_doubled v v.remote_last_ack) (may_grow v.rules v) (ap (is_doubled v) is ∙ e))

  pub no_window : space_field v ≡ 0 → window_doubled v ≡ false
  no_window none = not_so (and_left (not (space_field v == 0)) _ (ap (λ n. not (n == 0)) none))

  -- what is left of the window that was told is told by the same field
  pub not_doubled : v.remote_last_win < 2 ^ 16 → v.remote_win_shift ≤ 14 → space_field v / 2 < v.remote_last_win → window_doubled v ≡ false
  not_doubled small shift more =
      let left : field_left v (edge_sent v (next_ack v)) ≡ v.remote_last_win = left_is_told (next_ack v) v.remote_last_win v.remote_win_shift (omega arith) small (shifted_fits v.remote_last_win v.remote_win_shift small shift) in
      not_so (and_right (not (space_field v == 0)) _ (ap (λ n. nat_le n (space_field v / 2)) left ∙ lt-leb v.remote_last_win (space_field v / 2) more))

-- ---- an open connection with nothing in its transmit queue

nothing_to_send : (marked held : Bool) (size : ℕ) → size ≡ 0 → ((marked && false) || (not (size == 0) && held) || (false || false)) ≡ false
nothing_to_send true held size none = grind (arith, nat_tests, none)
nothing_to_send false held size none = grind (arith, nat_tests, none)

pub no_reason : (v : View) (last : Instant) → v.state ≡ state.Established → v.remote_last_ts ≡ Some last → (length v.tx_buffer.bytes == 0) ≡ true → window_doubled v ≡ false → (t : Tuple) (f : Facts) → is_due_now v t f ≡ false
unfolding data_due
no_reason v last open_ known empty told t f = (λ i. is_none (known i) || is_closed (open_ i) || nothing i || told i)
  where
    nothing : data_due v t f ≡ false
    nothing =
        (λ i. (v.pending_fast_retransmit && not (empty i)) || (not (sendable v == 0) && not (is_held_back v (effective_mss v t f))) || ((is_opening (open_ i) && (flight v == 0)) || (is_closing (open_ i) && seq_eq v.remote_last_seq (seq_add v.local_seq_no (length v.tx_buffer.bytes)))))
        ∙ nothing_to_send v.pending_fast_retransmit (not (is_held_back v (effective_mss v t f))) (sendable v) (omega (arith, eqb-true (length v.tx_buffer.bytes) 0 empty))

pub waits_for_a_segment : (v : View) → ack_due v ≡ false → (length v.tx_buffer.bytes == 0) ≡ true → held_poll v ≡ poll.Ingress
waits_for_a_segment v e empty = by v.rules
  where
    no_ack : ack_poll v ≡ poll.Ingress
    no_ack = ap (λ b. cond b (delay_poll v.ack_delay_timer) poll.Ingress) e

    nothing : sendable v ≡ 0
    nothing = omega (arith, eqb-true (length v.tx_buffer.bytes) 0 empty)

    none : (b : Bool) (n : ℕ) → n ≡ 0 → (b && not (n == 0)) ≡ false
    none b n z = and_right b (not (n == 0)) (ap (λ k. not (k == 0)) z)

    small : small_poll ((flight v == 0) && not (sendable v == 0)) v.idle_at ≡ poll.Ingress
    small = ap (λ b. small_poll b v.idle_at) (none (flight v == 0) (sendable v) nothing)

    by : (r : Rules) → held_by r (ack_poll v) (small_poll ((flight v == 0) && not (sendable v == 0)) v.idle_at) ≡ poll.Ingress
    by rules.Smoltcp = no_ack
    by rules.Rfc = (λ i. earlier (no_ack i) (small i))
