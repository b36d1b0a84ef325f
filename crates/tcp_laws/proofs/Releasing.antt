-- What a segment does to the transmit queue, of which a beginning leaves, and to SND.UNA.
use Rattle.std.proofs.Common.{◌≡◌, ℕ, ◌<◌, ◌^◌, Bool, true, false, refl, ap, ◌∙◌, List, [], length, drop, Option, Some, None, arith}
use Rattle.std.specs.Prelude.{if◌then◌else◌}
use Rattle.std.specs.Option.{ForSome}
use Rattle.ip_wire.specs.declared.repr.IpRepr.{IpRepr}
use Rattle.net_base.specs.declared.time.Instant.{Instant}
use Rattle.control_wire.specs.Segment.{Segment}
use Rattle.control_wire.specs.declared.seq_number.TcpSeqNumber.{TcpSeqNumber}
use Rattle.control_wire.specs.declared.tcp.TcpControl.{TcpControl}
use Rattle.sock_tcp.specs.Arrival.{arrival}
use Rattle.sock_tcp.specs.Queue.{Queue}
use Rattle.sock_tcp.specs.Rfc.Windows.{windowed}
use Rattle.sock_tcp.specs.View.{View}
use Rattle.sock_tcp.specs.Rfc.Checks.{verdict_by}
use Rattle.sock_tcp.specs.Window.{accepted_window, is_inside, cut_of, cut_bytes}
use Rattle.sock_tcp.specs.Acked.{acked_of}
use Rattle.sock_tcp.specs.Advance.{advance_in, advanced, counted_control, fallen_back, fin_counted, options_taken, syn_answered, syn_received}
use Rattle.sock_tcp.specs.Replies.{ack_kept}
use Rattle.sock_tcp.specs.Steps.{window_taken, released, is_duplicate, is_window_changed, ack_heard, duplicate_counted, ack_counted, una_advanced, acknowledged, timestamp_taken, timer_set, heard, joined, ack_delayed}
use Rattle.sock_tcp.specs.Process.{challenged, close_restarted, outside, bytes_taken, tuple_of, after_advance, after_table, processed_inside, has_window, cut_inside, tested_by, by_verdict, processed_by}
use Rattle.sock_tcp.specs.declared.acked.Acked.{Acked}
use Rattle.sock_tcp.specs.declared.advance.Next.{Next}
use Rattle.sock_tcp.specs.declared.advance.Next.TheVariants as next
use Rattle.sock_tcp.specs.declared.tuple.Tuple.{Tuple}
use Rattle.sock_tcp.specs.declared.verdict.Verdict.{Verdict}
use Rattle.sock_tcp.specs.declared.verdict.Verdict.TheVariants as verdicts
use Rattle.tcp_laws.proofs.Kept.{KeptByAnswers, KeptByRows, bytes_kept, challenged_kept, outside_kept, rows_kept}
use Rattle.sock_tcp.specs.Rfc.Recovery.{before_of, recovered, recovered_by}
use Rattle.sock_tcp.specs.Rfc.Refused.{refused}
use Rattle.sock_tcp.specs.declared.rules.Rules.{Rules}
use Rattle.tcp_laws.proofs.Heeding.{heeded_small}
use Rattle.sock_tcp.proofs.Late.{closed_as}
use Rattle.sock_tcp.proofs.Recovering.{recovered_as}
use Rattle.sock_tcp.proofs.Refusing.{heard_alone, refused_as}
use Rattle.control_wire.specs.declared.tcp.TcpControl.TheVariants as control

record Same (v w : View) : Type 0 where
  tx : w.tx_buffer ≡ v.tx_buffer
  una : w.local_seq_no ≡ v.local_seq_no

same : (v : View) → Same v v
same v = record { tx = refl; una = refl }

-- the first bytes leave, or none, and SND.UNA stays a number of 32 bits
pub record Releases (v w : View) : Type 0 where
  pub count : ℕ
  pub tx : w.tx_buffer.bytes ≡ drop count v.tx_buffer.bytes
  pub una : v.local_seq_no.0 < 2 ^ 32 → w.local_seq_no.0 < 2 ^ 32

small_same : (a b : TcpSeqNumber) → b ≡ a → a.0 < 2 ^ 32 → b.0 < 2 ^ 32
small_same a b e h = let i : b.0 ≡ a.0 = ap (λ (x : TcpSeqNumber). x.0) e in omega (arith, h, i)

none_leave : (v w : View) → Same v w → Releases v w
none_leave v w e = record { count = 0; tx = ap (λ (q : Queue). q.bytes) e.tx; una = small_same v.local_seq_no w.local_seq_no e.una }

then_same : (v u w : View) → Releases v u → Same u w → Releases v w
then_same v u w r e = record { count = r.count; tx = ap (λ (q : Queue). q.bytes) e.tx ∙ r.tx; una = λ h. small_same u.local_seq_no w.local_seq_no e.una (r.una h) }

-- the transmit queue stays, and SND.UNA a number of 32 bits
record Numbered (v w : View) : Type 0 where
  tx : w.tx_buffer ≡ v.tx_buffer
  una : v.local_seq_no.0 < 2 ^ 32 → w.local_seq_no.0 < 2 ^ 32

numbered_then : (v u w : View) → Numbered v u → Releases u w → Releases v w
numbered_then v u w e r = record { count = r.count; tx = r.tx ∙ ap (λ (q : Queue). drop r.count q.bytes) e.tx; una = λ h. r.una (e.una h) }

module _ (s : Segment) (now : Instant) where
  -- ---- steps that release nothing

  heard_from : (k : Option TcpSeqNumber) (w : View) (n : ℕ) (changed : Bool) → ForSome k (λ a. a.0 < 2 ^ 32) → Numbered w (acknowledged w k now n (length s.payload) changed)
  unfolding acknowledged duplicate_counted ack_counted una_advanced
  heard_from None w n changed h = record { tx = refl; una = λ i. i }
  heard_from (Some k) w n changed h = go (is_duplicate w k (length s.payload) changed)
    where
      go : (b : Bool) → Numbered w (ack_heard b w now k n)
      go true = record { tx = refl; una = λ i. h k refl }
      go false = record { tx = refl; una = λ i. h k refl }

  answers_same : (v : View) → KeptByAnswers (Same v)
  unfolding ack_kept
  answers_same v = record { challenges = λ w at h. record { tx = h.tx; una = h.una }; acks = λ w h. record { tx = h.tx; una = h.una } }

  outside_same : (w : View) → Same w (outside w now s).view
  unfolding close_restarted
  outside_same w = outside_kept (Same w) now s (answers_same w) (λ u h. record { tx = h.tx; una = h.una }) w (same w)

  -- ---- the acknowledged bytes leave

  heard_releases : ForSome s.ack_number (λ a. a.0 < 2 ^ 32) → (u : View) (a : Acked) → Releases u (heard u now a s)
  unfolding heard window_taken released timer_set timestamp_taken
  heard_releases small u a =
      let h = heard_from s.ack_number (released (window_taken u now s.control s.window_len) a.len) a.len (is_window_changed u s.control s.window_len) small in
      record { count = a.len; tx = ap (λ (q : Queue). q.bytes) h.tx; una = h.una }

  bytes_same : (w : View) (o : ℕ) (bs : List ℕ) → Same w (bytes_taken w now o bs s).view
  unfolding joined ack_delayed
  bytes_same w o bs = bytes_kept (Same w) now s (answers_same w) (λ u o bs h. record { tx = h.tx; una = h.una }) w o bs (same w)

  after_releases : ForSome s.ack_number (λ a. a.0 < 2 ^ 32) → (t : Tuple) (word : ℕ) (x : Next) (u : View) (a : Acked) (o : ℕ) (bs : List ℕ) → Releases u (after_advance x u (arrival now t word s) a o bs).view
  after_releases small t word next.Stop u a o bs = none_leave u u (same u)
  after_releases small t word next.Challenge u a o bs = none_leave u (challenged u now s).view (challenged_kept (Same u) now s (answers_same u) u (same u))
  after_releases small t word next.Continue u a o bs = then_same u (heard u now a s) (bytes_taken (heard u now a s) now o bs s).view (heard_releases small u a) (bytes_same (heard u now a s) o bs)

  -- ---- the state table

  rows_numbered : (v : View) (word : ℕ) → word < 2 ^ 32 → KeptByRows (Numbered v) now word s
  unfolding fallen_back syn_received syn_answered options_taken fin_counted
  rows_numbered v word small = record {
    falls = λ w h. record { tx = h.tx; una = h.una };
    drops = λ w h. record { tx = h.tx; una = h.una };
    opens = λ w t h. record { tx = h.tx; una = λ i. small };
    answers = λ w h. record { tx = h.tx; una = h.una };
    moves = λ w st h. record { tx = h.tx; una = h.una };
    counts = λ w st h. record { tx = h.tx; una = h.una };
    waits = λ w h. record { tx = h.tx; una = h.una };
  }

-- ---- the whole

module _ (v : View) (now : Instant) (word : ℕ) (ip : IpRepr) (s : Segment) where
  module _ (word_small : word < 2 ^ 32) (ack_small : ForSome s.ack_number (λ a. a.0 < 2 ^ 32)) where
    inside_releases : (u : View) (c : TcpControl) (o : ℕ) (bs : List ℕ) → Releases u (processed_inside u (arrival now (tuple_of ip s) word s) c o bs).view
    unfolding processed_inside advanced
    inside_releases u c o bs =
        let a = acked_of u s.control s.ack_number in
        let t = advance_in u.state c a.fin u (arrival now (tuple_of ip s) word s) a.len in
        numbered_then u t.view (after_table t (arrival now (tuple_of ip s) word s) a o bs).view (rows_kept (Numbered u) now word s (rows_numbered s now u word word_small) u (tuple_of ip s) a.len (record { tx = refl; una = λ i. i }) u.state c a.fin) (after_releases s now ack_small (tuple_of ip s) word t.next t.view a o bs)

    refused_releases : (r : Rules) → Releases v (refused r v (arrival now (tuple_of ip s) word s)).view
    refused_releases r = refused_as (λ o. Releases v o.view) r v (arrival now (tuple_of ip s) word s) (record {
      answers = none_leave v (outside v now s).view (outside_same s now v);
      counts = λ e. inside_releases v control.Fin 0 [];
      hears = λ e. inside_releases v control.None 0 [];
      ends = λ e. inside_releases v control.None 0 [];
      goes_on = λ e. let w = (heard_alone v (arrival now (tuple_of ip s) word s)).view in then_same v w (outside w now s).view (inside_releases v control.None 0 []) (outside_same s now w);
    })

    tested_releases : (r : Rules) (b : Bool) → Releases v (tested_by r b v (arrival now (tuple_of ip s) word s)).view
    tested_releases r false = inside_releases v s.control 0 []
    tested_releases r true = go (is_inside (accepted_window r v) s.seq_number (length s.payload))
      where
        go : (b : Bool) → Releases v (if b then cut_inside (accepted_window r v) (cut_of (accepted_window r v) s.seq_number (length s.payload)) v (arrival now (tuple_of ip s) word s) else refused r v (arrival now (tuple_of ip s) word s)).view
        go false = refused_releases r
        go true = let r = inside_releases (record v { local_rx_last_seq = Some s.seq_number }) (counted_control s.control (accepted_window r v) s.seq_number (length s.payload)) (cut_of (accepted_window r v) s.seq_number (length s.payload)).offset (cut_bytes (cut_of (accepted_window r v) s.seq_number (length s.payload)) s.payload) in record { count = r.count; tx = r.tx; una = r.una }

    recovered_releases : (w : View) → Releases v w → Releases v (recovered (before_of v s) w now)
    unfolding recovered
    recovered_releases w h = record { count = h.count; tx = h.tx; una = h.una }

    by_verdict_releases : (r : Rules) (x : Verdict) → Releases v (by_verdict r x v (arrival now (tuple_of ip s) word s)).view
    by_verdict_releases r verdicts.Drop = none_leave v v (same v)
    by_verdict_releases r verdicts.Reset = none_leave v v (same v)
    by_verdict_releases r verdicts.Challenge = none_leave v (challenged v now s).view (challenged_kept (Same v) now s (answers_same s now v) v (same v))
    by_verdict_releases r verdicts.Pass =
        let o = tested_by r (has_window v.state) v (arrival now (tuple_of ip s) word s) in
        let h = tested_releases r (has_window v.state) in
        let j = recovered_as (λ o. Releases v o.view) r v now s o h (recovered_releases _ h) in
        closed_as (λ o. Releases v o.view) r (recovered_by r v now s o) j (record { count = j.count; tx = j.tx; una = j.una })

pub process_releases : (v : View) (now : Instant) (word : ℕ) (ip : IpRepr) (s : Segment) → word < 2 ^ 32 → ForSome s.ack_number (λ a. a.0 < 2 ^ 32) → (r : Rules) → Releases v (processed_by r v now word ip s).view
unfolding processed_by
process_releases v now word ip s small ack r = by_verdict_releases v now word ip (windowed r v s) small (heeded_small r v s s.ack_number ack) r (verdict_by r v now s)
