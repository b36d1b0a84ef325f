-- A segment in order is queued before `process` returns.
use Rattle.std.proofs.Common.{◌≡◌, ℕ, ◌^◌, Bool, true, false, refl, sym, ap, subst, ◌∙◌, arith, List, length, Some}
use Rattle.std.proofs.lemmas.Bool.{eqb-true}
use Rattle.std.specs.Prelude.{◌==◌, ◌<◌, if◌then◌else◌}
use Rattle.ip_wire.specs.declared.repr.IpRepr.{IpRepr}
use Rattle.net_base.specs.declared.time.Instant.{Instant}
use Rattle.sock_core.proofs.Receiving.{joins_all_at_once}
use Rattle.sock_core.specs.Received.{Received, taken_in, JoinsAtOnce}
use Rattle.control_wire.specs.Seq.{seq_sub}
use Rattle.control_wire.specs.Segment.{Segment}
use Rattle.control_wire.specs.declared.seq_number.TcpSeqNumber.{TcpSeqNumber}
use Rattle.control_wire.specs.declared.tcp.TcpControl.{TcpControl}
use Rattle.sock_tcp.specs.Rfc.Windows.{windowed}
use Rattle.sock_tcp.specs.Arrival.{arrival}
use Rattle.sock_tcp.specs.View.{View}
use Rattle.sock_core.specs.Seq.{is_before, later_of}
use Rattle.sock_tcp.proofs.Late.{closed_as}
use Rattle.sock_tcp.proofs.Recovering.{recovered_as}
use Rattle.sock_tcp.specs.declared.verdict.Verdict.TheVariants as verdicts
use Rattle.sock_tcp.specs.Rfc.Recovery.{before_of, recovered, recovered_by}
use Rattle.sock_tcp.specs.Rfc.Refused.{refused}
use Rattle.sock_tcp.specs.Window.{next_ack, accepted_window, cut_of, is_inside}
use Rattle.sock_tcp.specs.declared.window.Cut.{Cut}
use Rattle.sock_tcp.specs.declared.window.Window.{Window}
use Rattle.sock_tcp.proofs.Windows.{accepted_start}
use Rattle.sock_tcp.specs.Acked.{acked_of}
use Rattle.sock_tcp.specs.Advance.{Advance, advance_in, advanced, counted_control}
use Rattle.sock_tcp.specs.Steps.{heard}
use Rattle.sock_tcp.specs.Process.{Outcome, tuple_of, has_window, after_advance, processed_inside, cut_inside, tested, by_verdict, processed, processed_by}
use Rattle.sock_tcp.specs.declared.acked.Acked.{Acked}
use Rattle.sock_tcp.specs.declared.advance.Next.{Next}
use Rattle.sock_tcp.specs.declared.advance.Next.TheVariants as next
use Rattle.tcp_laws.proofs.Frames.{brought, bytes_keep, heard_keeps, table_keeps}
use Rattle.pair_core.specs.PairPromises.{IsInOrder, in_window, table_for}

brings_at_once : (b : Received) (bs : List ℕ) → 0 < length bs → JoinsAtOnce b (brought b 0 bs) bs
brings_at_once b bs some = go (length bs == 0) refl
  where
    go : (t : Bool) → (length bs == 0) ≡ t → JoinsAtOnce b (if t then b else taken_in b 0 bs) bs
    go true e = absurd (omega (arith, some, eqb-true (length bs) 0 e))
    go false e = joins_all_at_once b bs

-- from the left edge on there is nothing to skip
at_the_edge : (start number : TcpSeqNumber) → start.0 < 2 ^ 32 → is_before start number ≡ false → seq_sub (later_of start number) start ≡ 0
unfolding later_of
at_the_edge start number small e = ap (λ t. seq_sub (if t then number else start) start) e ∙ omega (arith, small)

at_the_edge_of : (w : Window) (number : TcpSeqNumber) (n : ℕ) (start : TcpSeqNumber) → w.start ≡ start → start.0 < 2 ^ 32 → is_before start number ≡ false → (cut_of w number n).offset ≡ 0
unfolding cut_of
at_the_edge_of w number n start e small before = at_the_edge w.start number (subst (λ x. x.0 < 2 ^ 32) (sym e) small) (ap (λ x. is_before x number) e ∙ before)

-- the same of a segment whose acknowledgement passes, as it counts
record Lies (v : View) (now : Instant) (word : ℕ) (ip : IpRepr) (s : Segment) : Type 0 where
  window : has_window v.state ≡ true
  inside : is_inside (accepted_window v.rules v) s.seq_number (length s.payload) ≡ true
  goes_on : (table_for v now word ip s).next ≡ next.Continue
  starts : is_before (next_ack v) s.seq_number ≡ false

module _ (v : View) (now : Instant) (word : ℕ) (ip : IpRepr) (s : Segment) (i : Lies v now word ip s) (some : 0 < length (in_window v s)) where
  abbrev the_cut : Cut
  the_cut = cut_of (accepted_window v.rules v) s.seq_number (length s.payload)

  abbrev numbered : View
  numbered = record v { local_rx_last_seq = Some s.seq_number }

  abbrev the_acked : Acked
  the_acked = acked_of v s.control s.ack_number

  abbrev the_control : TcpControl
  the_control = counted_control s.control (accepted_window v.rules v) s.seq_number (length s.payload)

  abbrev Queues : Outcome → Type 0
  Queues o = JoinsAtOnce v.rx_buffer o.view.rx_buffer (in_window v s)

  at_once : the_cut.offset ≡ 0
  at_once = at_the_edge_of (accepted_window v.rules v) s.seq_number (length s.payload) (next_ack v) (accepted_start v.rules v) (omega arith) i.starts

  -- the steps go on from u
  goes_on : (x : Next) (u : View) → x ≡ next.Continue → u.rx_buffer ≡ v.rx_buffer → Queues (after_advance x u (arrival now (tuple_of ip s) word s) the_acked the_cut.offset (in_window v s))
  goes_on next.Stop u e q = cc
  goes_on next.Challenge u e q = cc
  goes_on next.Continue u e q =
      let h = heard_keeps s now u the_acked in
      let k = bytes_keep s now (heard u now the_acked s) the_cut.offset (in_window v s) in
      subst (λ b. JoinsAtOnce v.rx_buffer b (in_window v s)) (sym (k.rx ∙ (λ j. brought ((h.rx ∙ q) j) (at_once j) (in_window v s)))) (brings_at_once v.rx_buffer (in_window v s) some)

  inside : Queues (cut_inside (accepted_window v.rules v) the_cut v (arrival now (tuple_of ip s) word s))
  unfolding processed_inside advanced
  inside =
      let t : Advance = advance_in v.state the_control the_acked.fin numbered (arrival now (tuple_of ip s) word s) the_acked.len in
      goes_on t.next t.view i.goes_on (table_keeps s now numbered (tuple_of ip s) word the_acked.len v.state the_control the_acked.fin).rx

  is_cut : tested (has_window v.state) v (arrival now (tuple_of ip s) word s) ≡ cut_inside (accepted_window v.rules v) the_cut v (arrival now (tuple_of ip s) word s)
  is_cut = ap (λ b. tested b v (arrival now (tuple_of ip s) word s)) i.window ∙ ap (λ b. if b then cut_inside (accepted_window v.rules v) the_cut v (arrival now (tuple_of ip s) word s) else refused v.rules v (arrival now (tuple_of ip s) word s)) i.inside

  -- whatever is done of loss then
  recovered_queues : (o : Outcome) → Queues o → Queues (record { view = recovered (before_of v s) o.view now; reply = o.reply })
  unfolding recovered
  recovered_queues o h = h

  passed : Queues (by_verdict v.rules verdicts.Pass v (arrival now (tuple_of ip s) word s))
  passed =
      let o : Outcome = tested (has_window v.state) v (arrival now (tuple_of ip s) word s) in
      let h = subst Queues (sym is_cut) inside in
      let j = recovered_as Queues v.rules v now s o h (recovered_queues o h) in
      closed_as Queues v.rules (recovered_by v.rules v now s o) j j

pub queued_at_once : (v : View) (now : Instant) (word : ℕ) (ip : IpRepr) (s : Segment) → IsInOrder v now word ip s → 0 < length (in_window v s) → JoinsAtOnce v.rx_buffer (processed v now word ip s).view.rx_buffer (in_window v s)
unfolding processed_by
queued_at_once v now word ip s i some =
    let y : Segment = windowed v.rules v s in
    let lies : Lies v now word ip y = record { window = i.window; inside = i.inside; goes_on = i.goes_on; starts = i.starts } in
    subst (λ (o : Outcome). JoinsAtOnce v.rx_buffer o.view.rx_buffer (in_window v s)) (sym (ap (λ x. by_verdict v.rules x v (arrival now (tuple_of ip s) word y)) i.passes)) (passed v now word ip y lies some)
