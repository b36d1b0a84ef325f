-- What a dispatch emits may be sent, and ends where SND.NXT may move.
use Rattle.std.proofs.Common.{◌≡◌, ℕ, ◌+◌, ◌-◌, ◌%◌, ◌^◌, ◌<◌, ◌≤◌, ◌⊎◌, Bool, true, false, cond, ◌&&◌, List, [], ◌++◌, length, take, drop, min, Option, Some, None, refl, sym, ap, subst, ◌∙◌, arith, inl, inr}
use Rattle.std.specs.Prelude.{◌==◌, option_map, if◌then◌else◌}
use Rattle.std.proofs.lemmas.Bool.{eqb-true}
use Rattle.std.proofs.lemmas.List.{take-append-drop}
use Rattle.std.proofs.lemmas.Option.{none-some, same_Some}
use Rattle.net_base.specs.declared.time.Instant.{Instant}
use Rattle.control_wire.specs.Segment.{Segment, segment_len, control_len, is_plain, is_empty_segment}
use Rattle.control_wire.specs.Seq.{seq_add}
use Rattle.control_wire.specs.declared.seq_number.TcpSeqNumber.{TcpSeqNumber}
use Rattle.control_wire.specs.declared.tcp.TcpControl.{TcpControl}
use Rattle.control_wire.specs.declared.tcp.TcpControl.TheVariants as control
use Rattle.sock_core.specs.Facts.{Facts}
use Rattle.sock_core.specs.Streams.{IsPrefix}
use Rattle.sock_tcp.specs.Content.{Sending, asked, hole_of, number_of, offset_of, is_probing, plain_segment, with_data, with_ranges, data_control, syn, syn_ack, filled, emission_kind, of_kind, sent_as, content}
use Rattle.sock_tcp.specs.Due.{flight, is_closing}
use Rattle.sock_tcp.proofs.Holes.{number_at, start_within}
use Rattle.sock_tcp.proofs.Lending.{lent_at_most, lent_beginning}
use Rattle.sock_tcp.specs.Queue.{IsLent}
use Rattle.sock_tcp.specs.Rfc.Scoreboard.{hole_number, hole_start}
use Rattle.sock_tcp.specs.Timers.{is_keep_alive_over}
use Rattle.sock_tcp.specs.View.{View, moment_of}
use Rattle.sock_tcp.specs.Window.{next_ack}
use Rattle.sock_tcp.specs.declared.emission.Kind.TheVariants as kind
use Rattle.sock_tcp.specs.declared.state.State.{State}
use Rattle.sock_tcp.specs.declared.state.State.TheVariants as state
use Rattle.sock_tcp.specs.declared.tuple.Tuple.{Tuple}
use Rattle.pair_core.specs.PairLaws.{IsBounded}
use Rattle.pair_core.specs.PairNetwork.{phase_of, shown, stream_segment, is_syn, is_rst, is_fin}
use Rattle.pair_core.specs.StreamCalls.{EmitEffect, EmitsSegment, EmitsReset}
use Rattle.pair_core.specs.StreamEffects.{MaySend, AcksRcvNxt}
use Rattle.pair_core.specs.StreamTables.{Content, Syn, Bytes, KeepAlive, HasSendingBounds}
use Rattle.pair_core.specs.StreamViews.{SynSent, SynReceived, FinQueued, HasIss, KnowsPeer}
use Rattle.pair_core.proofs.StreamTables.{content_sent}

the_number : {a b : ℕ} → Some a ≡ Some b → a ≡ b
the_number e = cc

-- ---- controls

-- the control of a segment of data; at: the payload ends the queue
record IsDataControl (c : TcpControl) (at closing : Bool) : Type 0 where
  rst : is_rst c ≡ false
  syn : is_syn c ≡ false
  fin : is_fin c ≡ true → (at ≡ true) × (closing ≡ true)
  len : control_len c ≡ (if is_fin c then 1 else 0)

data_controls : (at closing none : Bool) → IsDataControl (cond at (cond closing control.Fin (cond none control.None control.Psh)) control.None) at closing
data_controls true true none = record { rst = refl; syn = refl; fin = λ e. (refl, refl); len = refl }
data_controls true false true = record { rst = refl; syn = refl; fin = λ e. absurd cc; len = refl }
data_controls true false false = record { rst = refl; syn = refl; fin = λ e. absurd cc; len = refl }
data_controls false closing none = record { rst = refl; syn = refl; fin = λ e. absurd cc; len = refl }

-- a plain control shows nothing
record ShowsNothing (c : TcpControl) : Type 0 where
  rst : is_rst c ≡ false
  syn : is_syn c ≡ false
  fin : is_fin c ≡ false
  len : control_len c ≡ 0

plain_shows : (c : TcpControl) → is_plain c ≡ true → ShowsNothing c
plain_shows control.None e = record { rst = refl; syn = refl; fin = refl; len = refl }
plain_shows control.Psh e = record { rst = refl; syn = refl; fin = refl; len = refl }
plain_shows control.Syn e = absurd cc
plain_shows control.Fin e = absurd cc
plain_shows control.Rst e = absurd cc

both_true : (a b : Bool) → (a && b) ≡ true → b ≡ true
both_true true b e = e
both_true false b e = absurd cc

-- what was lent begins the rest
lent_prefix : (xs ys : List ℕ) → xs ≡ take (length xs) ys → IsPrefix xs ys
lent_prefix xs ys e = (drop (length xs) ys, ap (λ zs. zs ++ drop (length xs) ys) e ∙ take-append-drop (length xs) ys)

-- ---- what a segment is, and how far past SND.UNA it ends

module _ (v : View) (released taken : ℕ) where
  pub record GoesOut (s : Segment) : Type 0 where
    pub sends : MaySend (shown v) (stream_segment s released taken)
    pub reach : ℕ
    pub le : reach ≤ length v.tx_buffer.bytes + 1
    pub ends : (seq_add s.seq_number (segment_len s)).0 ≡ (v.local_seq_no.0 + reach) % 2 ^ 32

  module _ (b : HasSendingBounds (shown v)) (iss : HasIss (phase_of v.state)) where
    -- where a segment of data begins
    offset_shows : (number_of v).0 ≡ (v.local_seq_no.0 + offset_of v) % 2 ^ 32
    offset_shows = go v.pending_fast_retransmit
      where
        go : (m : Bool) → (cond m (hole_number (hole_of v) (length v.tx_buffer.bytes) v.local_seq_no) v.remote_last_seq).0 ≡ (v.local_seq_no.0 + cond m (hole_start (hole_of v) (length v.tx_buffer.bytes)) (flight v)) % 2 ^ 32
        go true = number_at (hole_of v) (length v.tx_buffer.bytes) v.local_seq_no (omega (arith, b.snd_una))
        go false = omega (arith, b.snd_una, b.snd_nxt, b.flight_le, b.room)

    offset_le : offset_of v ≤ length v.tx_buffer.bytes + 1
    offset_le = go v.pending_fast_retransmit
      where
        go : (m : Bool) → cond m (hole_start (hole_of v) (length v.tx_buffer.bytes)) (flight v) ≤ length v.tx_buffer.bytes + 1
        go true = let i : hole_start (hole_of v) (length v.tx_buffer.bytes) ≤ min (length v.tx_buffer.bytes - 1) (2 ^ 30) = start_within (hole_of v) (length v.tx_buffer.bytes) in omega (arith, i)
        go false = omega (arith, b.snd_una, b.snd_nxt, b.flight_le, b.room)

    -- an acknowledgement is RCV.NXT
    acks_next : KnowsPeer (phase_of v.state) → (s : Segment) → s.ack_number ≡ Some (next_ack v) → AcksRcvNxt (shown v) (stream_segment s released taken)
    acks_next knows s e = record { says = λ a h. (knows, the_number (sym h ∙ ap (option_map (λ (n : TcpSeqNumber). n.0)) e)) }

    acks_none : (s : Segment) → s.ack_number ≡ None → AcksRcvNxt (shown v) (stream_segment s released taken)
    acks_none s e = record { says = λ a h. absurd (none-some a (sym (ap (option_map (λ (n : TcpSeqNumber). n.0)) e) ∙ h)) }

    goes_as : (s : Segment) → Content (shown v) (stream_segment s released taken) → is_rst s.control ≡ false → AcksRcvNxt (shown v) (stream_segment s released taken)
        → (is_syn s.control ≡ true → ((phase_of v.state ≡ SynSent) ⊎ (phase_of v.state ≡ SynReceived)) × (s.seq_number.0 ≡ v.local_seq_no.0))
        → (n : ℕ) → n ≤ length v.tx_buffer.bytes + 1 → (seq_add s.seq_number (segment_len s)).0 ≡ (v.local_seq_no.0 + n) % 2 ^ 32 → GoesOut s
    goes_as s what rst acks opens n le ends = record {
      sends = record { plain = rst; iss = iss; content = content_sent (shown v) (stream_segment s released taken) b.snd_una what; acks = acks; opens = opens };
      reach = n;
      le = le;
      ends = ends;
    }

    -- a SYN
    syn_goes : (phase_of v.state ≡ SynSent) ⊎ (phase_of v.state ≡ SynReceived) → (s : Segment) → s.control ≡ control.Syn → s.seq_number ≡ v.local_seq_no → s.payload ≡ []
        → AcksRcvNxt (shown v) (stream_segment s released taken) → GoesOut s
    syn_goes ph s c seq none acks =
        let number : s.seq_number.0 ≡ v.local_seq_no.0 = ap (λ (n : TcpSeqNumber). n.0) seq in
        goes_as s (Syn (ap is_fin c) number none) (ap is_rst c) acks (λ e. (ph, number)) 1 (omega arith)
        (λ i. ((seq i).0 + (length (none i) + control_len (c i))) % 2 ^ 32)

    -- bytes that the ring lent, which may be none
    data_goes : KnowsPeer (phase_of v.state) → (is_closing v.state ≡ true → phase_of v.state ≡ FinQueued) → (t : Tuple) (f : Facts) (stamp : Option ℕ) (bytes : List ℕ)
        → IsLent v.tx_buffer (offset_of v) (asked v t f) bytes → GoesOut (with_data v bytes (plain_segment v t stamp))
    unfolding plain_segment
    data_goes knows closing t f stamp bytes lent =
        let s : Segment = with_data v bytes (plain_segment v t stamp) in
        let c : IsDataControl (data_control v (length bytes)) (offset_of v + length bytes == length v.tx_buffer.bytes) (is_closing v.state) = data_controls (offset_of v + length bytes == length v.tx_buffer.bytes) (is_closing v.state) (length bytes == 0) in
        let ole : offset_of v ≤ length v.tx_buffer.bytes + 1 = offset_le in
        let short : length bytes ≤ length v.tx_buffer.bytes - offset_of v = omega (arith, lent_at_most v.tx_buffer (offset_of v) (asked v t f) bytes lent) in
        let fin : is_fin (data_control v (length bytes)) ≡ true → (phase_of v.state ≡ FinQueued) × (offset_of v + length bytes ≡ length v.tx_buffer.bytes) = λ e. (closing (c.fin e).1, eqb-true (offset_of v + length bytes) (length v.tx_buffer.bytes) (c.fin e).0) in
        goes_as s
        (Bytes (offset_of v) offset_shows ole (lent_prefix bytes (drop (offset_of v) v.tx_buffer.bytes) (lent_beginning v.tx_buffer (offset_of v) (asked v t f) bytes lent)) fin)
        c.rst
        (acks_next knows s refl)
        (λ e. let no : true ≡ false = sym e ∙ c.syn in absurd cc)
        (offset_of v + length bytes + (if is_fin (data_control v (length bytes)) then 1 else 0))
        (reach_le (is_fin (data_control v (length bytes))) fin ole short)
        (ap (λ n. ((number_of v).0 + (length bytes + n)) % 2 ^ 32) c.len ∙ ends_at (if is_fin (data_control v (length bytes)) then 1 else 0) offset_shows)
      where
        reach_le : (e : Bool) → (e ≡ true → (phase_of v.state ≡ FinQueued) × (offset_of v + length bytes ≡ length v.tx_buffer.bytes)) → offset_of v ≤ length v.tx_buffer.bytes + 1 → length bytes ≤ length v.tx_buffer.bytes - offset_of v → offset_of v + length bytes + (if e then 1 else 0) ≤ length v.tx_buffer.bytes + 1
        reach_le true fin ole short = omega (arith, (fin refl).1)
        reach_le false fin ole short = omega (arith, ole, short)

        ends_at : (n : ℕ) → (number_of v).0 ≡ (v.local_seq_no.0 + offset_of v) % 2 ^ 32 → ((number_of v).0 + (length bytes + n)) % 2 ^ 32 ≡ (v.local_seq_no.0 + (offset_of v + length bytes + n)) % 2 ^ 32
        ends_at n e = omega (arith, e)

    -- an acknowledgement at SND.NXT
    bare_goes : KnowsPeer (phase_of v.state) → (t : Tuple) (stamp : Option ℕ) → GoesOut (plain_segment v t stamp)
    unfolding plain_segment
    bare_goes knows t stamp =
        goes_as (plain_segment v t stamp)
        (Bytes b.flight b.snd_nxt b.flight_le (drop b.flight v.tx_buffer.bytes, refl) (λ e. absurd cc))
        refl
        (acks_next knows (plain_segment v t stamp) refl)
        (λ e. absurd cc)
        b.flight
        b.flight_le
        (omega (arith, b.snd_nxt))

    -- a keep-alive in place of an empty segment
    alive_goes : KnowsPeer (phase_of v.state) → (s : Segment) → s.ack_number ≡ Some (next_ack v) → is_empty_segment s ≡ true → GoesOut (of_kind kind.KeepAlive v s)
    alive_goes knows s ack empty =
        let c : ShowsNothing s.control = plain_shows s.control (both_true (length s.payload == 0) (is_plain s.control) empty) in
        goes_as (of_kind kind.KeepAlive v s)
        (KeepAlive c.fin refl (omega arith))
        c.rst
        (acks_next knows (of_kind kind.KeepAlive v s) ack)
        (λ e. let no : true ≡ false = sym e ∙ c.syn in absurd cc)
        0
        (omega arith)
        (ap (λ n. ((v.local_seq_no.0 + (2 ^ 32 - 1)) % 2 ^ 32 + (1 + n)) % 2 ^ 32) c.len ∙ back b.snd_una)
      where
        back : v.local_seq_no.0 < 2 ^ 32 → ((v.local_seq_no.0 + (2 ^ 32 - 1)) % 2 ^ 32 + (1 + 0)) % 2 ^ 32 ≡ (v.local_seq_no.0 + 0) % 2 ^ 32
        back small = omega arith

-- ---- by kind

-- what holds of a segment, and of the keep-alive in its place where it is empty, holds of what goes out
pub by_kinds : (v : View) (P : Segment → Type 0) (now : Instant) (s : Segment) → P s → (is_empty_segment s ≡ true → P (of_kind kind.KeepAlive v s)) → P (of_kind (emission_kind v now s) v s)
by_kinds v P now s plain alive = go (is_probing v now) (is_keep_alive_over v.timer now) (is_empty_segment s) refl
  where
    go : (a b e : Bool) → is_empty_segment s ≡ e → P (of_kind (cond a kind.Probe (cond (b && e) kind.KeepAlive kind.Plain)) v s)
    go true b e h = plain
    go false true true h = alive h
    go false true false h = plain
    go false false e h = plain

-- ---- by state

module _ (v : View) (released taken : ℕ) where
  -- the segment that is filled in goes out, or nothing does
  abbrev Filled : Instant → Option Segment → Type 0
  Filled now None = Unit {0}
  Filled now (Some s) = GoesOut v released taken (of_kind (emission_kind v now s) v s)

  -- what is held beside it is no matter
  told_goes : (t : Tuple) (f : Facts) (s : Segment) → GoesOut v released taken s → GoesOut v released taken (with_ranges v t f s)
  told_goes t f s g = record { sends = g.sends; reach = g.reach; le = g.le; ends = g.ends }

  module _ (b : HasSendingBounds (shown v)) (iss : HasIss (phase_of v.state)) where
    data_filled : KnowsPeer (phase_of v.state) → (is_closing v.state ≡ true → phase_of v.state ≡ FinQueued) → (t : Tuple) (f : Facts) (stamp : Option ℕ) (bytes : List ℕ) (now : Instant)
        → IsLent v.tx_buffer (offset_of v) (asked v t f) bytes → Filled now (Some (with_ranges v t f (with_data v bytes (plain_segment v t stamp))))
    unfolding plain_segment
    data_filled knows closing t f stamp bytes now lent =
        by_kinds v (λ s. GoesOut v released taken s) now (with_ranges v t f (with_data v bytes (plain_segment v t stamp)))
        (told_goes t f (with_data v bytes (plain_segment v t stamp)) (data_goes v released taken b iss knows closing t f stamp bytes lent))
        (alive_goes v released taken b iss knows (with_ranges v t f (with_data v bytes (plain_segment v t stamp))) refl)

    bare_filled : KnowsPeer (phase_of v.state) → (t : Tuple) (stamp : Option ℕ) (now : Instant) → Filled now (Some (plain_segment v t stamp))
    unfolding plain_segment
    bare_filled knows t stamp now =
        by_kinds v (λ s. GoesOut v released taken s) now (plain_segment v t stamp) (bare_goes v released taken b iss knows t stamp) (alive_goes v released taken b iss knows (plain_segment v t stamp) refl)

    told_filled : KnowsPeer (phase_of v.state) → (t : Tuple) (f : Facts) (stamp : Option ℕ) (now : Instant) → Filled now (Some (with_ranges v t f (plain_segment v t stamp)))
    unfolding plain_segment
    told_filled knows t f stamp now =
        by_kinds v (λ s. GoesOut v released taken s) now (with_ranges v t f (plain_segment v t stamp)) (told_goes t f (plain_segment v t stamp) (bare_goes v released taken b iss knows t stamp)) (alive_goes v released taken b iss knows (with_ranges v t f (plain_segment v t stamp)) refl)

    knows_in : (st : State) → v.state ≡ st → KnowsPeer (phase_of st) → KnowsPeer (phase_of v.state)
    knows_in st e m = subst (λ x. KnowsPeer (phase_of x)) (sym e) m

    closing_in : (st : State) → v.state ≡ st → (is_closing st ≡ true → phase_of st ≡ FinQueued) → is_closing v.state ≡ true → phase_of v.state ≡ FinQueued
    closing_in st e h = subst (λ x. is_closing x ≡ true → phase_of x ≡ FinQueued) (sym e) h

    fills : (t : Tuple) (f : Facts) (stamp : Option ℕ) (bytes : List ℕ) (now : Instant) → IsLent v.tx_buffer (offset_of v) (asked v t f) bytes
        → (st : State) → v.state ≡ st → Filled now (filled st v t f bytes (plain_segment v t stamp))
    unfolding plain_segment
    fills t f stamp bytes now lent state.Closed e = absurd (subst (λ x. HasIss (phase_of x)) e iss)
    fills t f stamp bytes now lent state.Listen e = absurd (subst (λ x. HasIss (phase_of x)) e iss)
    fills t f stamp bytes now lent state.SynSent e =
        let s : Segment = syn v t f (plain_segment v t stamp) in
        by_kinds v (λ s. GoesOut v released taken s) now s
        (syn_goes v released taken b iss (inl (ap phase_of e)) s refl refl refl (acks_none v released taken b iss s refl))
        (λ h. let no : false ≡ true = h in absurd cc)
    fills t f stamp bytes now lent state.SynReceived e =
        let s : Segment = syn_ack v t f (plain_segment v t stamp) in
        by_kinds v (λ s. GoesOut v released taken s) now s
        (syn_goes v released taken b iss (inr (ap phase_of e)) s refl refl refl (acks_next v released taken b iss (knows_in state.SynReceived e tt) s refl))
        (λ h. let no : false ≡ true = h in absurd cc)
    fills t f stamp bytes now lent state.FinWait2 e = told_filled (knows_in state.FinWait2 e tt) t f stamp now
    fills t f stamp bytes now lent state.TimeWait e = bare_filled (knows_in state.TimeWait e tt) t stamp now
    fills t f stamp bytes now lent state.Established e = data_filled (knows_in state.Established e tt) (closing_in state.Established e (λ h. absurd cc)) t f stamp bytes now lent
    fills t f stamp bytes now lent state.CloseWait e = data_filled (knows_in state.CloseWait e tt) (closing_in state.CloseWait e (λ h. absurd cc)) t f stamp bytes now lent
    fills t f stamp bytes now lent state.FinWait1 e = data_filled (knows_in state.FinWait1 e tt) (closing_in state.FinWait1 e (λ h. refl)) t f stamp bytes now lent
    fills t f stamp bytes now lent state.Closing e = data_filled (knows_in state.Closing e tt) (closing_in state.Closing e (λ h. refl)) t f stamp bytes now lent
    fills t f stamp bytes now lent state.LastAck e = data_filled (knows_in state.LastAck e tt) (closing_in state.LastAck e (λ h. refl)) t f stamp bytes now lent

  out : (t : Tuple) (now : Instant) (o : Option Segment) → Filled now o → (c : Sending) → option_map (λ s. sent_as v t (emission_kind v now s) s) o ≡ Some c → GoesOut v released taken c.segment
  out t now None h c e = absurd (none-some c e)
  out t now (Some s) h c e = subst (λ (x : Sending). GoesOut v released taken x.segment) (same_Some (sent_as v t (emission_kind v now s) s) c e) h

  pub content_goes : HasSendingBounds (shown v) → HasIss (phase_of v.state) → (t : Tuple) (f : Facts) (stamp : Option ℕ) (bytes : List ℕ) → IsLent v.tx_buffer (offset_of v) (asked v t f) bytes → (c : Sending) → content v t f stamp bytes ≡ Some c → GoesOut v released taken c.segment
  unfolding content
  content_goes b iss t f stamp bytes lent c e = out t (moment_of f) (filled v.state v t f bytes (plain_segment v t stamp)) (fills b iss t f stamp bytes (moment_of f) lent v.state refl) c e

  -- ---- the RST of a closed socket

  abbrev IsResetOr : Instant → Option Segment → Type 0
  IsResetOr now None = Unit {0}
  IsResetOr now (Some s) = is_rst (of_kind (emission_kind v now s) v s).control ≡ true

  resets : (t : Tuple) (f : Facts) (stamp : Option ℕ) (bytes : List ℕ) (now : Instant) → IsResetOr now (filled state.Closed v t f bytes (plain_segment v t stamp))
  unfolding plain_segment
  resets t f stamp bytes now = by_kinds v (λ s. is_rst s.control ≡ true) now (record (plain_segment v t stamp) { control = control.Rst }) refl (λ h. let no : false ≡ true = h in absurd cc)

  reset_out : (t : Tuple) (now : Instant) (o : Option Segment) → IsResetOr now o → (c : Sending) → option_map (λ s. sent_as v t (emission_kind v now s) s) o ≡ Some c → is_rst c.segment.control ≡ true
  reset_out t now None h c e = absurd (none-some c e)
  reset_out t now (Some s) h c e = subst (λ (x : Sending). is_rst x.segment.control ≡ true) (same_Some (sent_as v t (emission_kind v now s) s) c e) h

  pub content_effect : IsBounded v → (t : Tuple) (f : Facts) (stamp : Option ℕ) (bytes : List ℕ) → IsLent v.tx_buffer (offset_of v) (asked v t f) bytes → (c : Sending) → content v t f stamp bytes ≡ Some c → EmitEffect (shown v) (stream_segment c.segment released taken)
  unfolding content
  content_effect bounds t f stamp bytes lent c e = go v.state refl
    where
      live : HasIss (phase_of v.state) → EmitEffect (shown v) (stream_segment c.segment released taken)
      live iss = EmitsSegment (content_goes (bounds.sending iss) iss t f stamp bytes lent c e).sends

      iss_in : (st : State) → v.state ≡ st → HasIss (phase_of st) → HasIss (phase_of v.state)
      iss_in st h d = subst (λ x. HasIss (phase_of x)) (sym h) d

      go : (st : State) → v.state ≡ st → EmitEffect (shown v) (stream_segment c.segment released taken)
      go state.Closed h = EmitsReset (reset_out t (moment_of f) (filled v.state v t f bytes (plain_segment v t stamp)) (subst (λ st. IsResetOr (moment_of f) (filled st v t f bytes (plain_segment v t stamp))) (sym h) (resets t f stamp bytes (moment_of f))) c e) (ap phase_of h)
      go state.Listen h = absurd (none-some c (subst (λ st. option_map (λ s. sent_as v t (emission_kind v (moment_of f) s) s) (filled st v t f bytes (plain_segment v t stamp)) ≡ Some c) h e))
      go state.SynSent h = live (iss_in state.SynSent h tt)
      go state.SynReceived h = live (iss_in state.SynReceived h tt)
      go state.Established h = live (iss_in state.Established h tt)
      go state.FinWait1 h = live (iss_in state.FinWait1 h tt)
      go state.FinWait2 h = live (iss_in state.FinWait2 h tt)
      go state.CloseWait h = live (iss_in state.CloseWait h tt)
      go state.Closing h = live (iss_in state.Closing h tt)
      go state.LastAck h = live (iss_in state.LastAck h tt)
      go state.TimeWait h = live (iss_in state.TimeWait h tt)
