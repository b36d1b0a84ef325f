-- What dispatches make of a socket in SYN-SENT or SYN-RECEIVED, and the SYN or SYN|ACK that one of them sends, again too.
use Rattle.std.proofs.Common.{◌≡◌, ℕ, ◌+◌, ◌<◌, ◌^◌, inl, inr, Bool, true, false, not, ◌&&◌, ◌||◌, refl, sym, ap, subst, ◌∙◌, List, length, Option, Some, None, arith}
use Rattle.std.specs.Prelude.{if◌then◌else◌, ◌==◌, option_map}
use Rattle.net_base.specs.declared.time.Duration.{Duration}
use Rattle.net_base.specs.declared.time.Instant.{Instant}
use Rattle.control_wire.specs.Segment.{Segment, is_empty_segment, is_plain, segment_len}
use Rattle.control_wire.specs.Seq.{seq_add, seq_eq, seq_sub}
use Rattle.control_wire.specs.declared.seq_number.TcpSeqNumber.{TcpSeqNumber}
use Rattle.control_wire.specs.declared.tcp.TcpControl.TheVariants as control
use Rattle.sock_core.specs.Facts.{Facts}
use Rattle.sock_core.specs.Seq.{later_of}
use Rattle.sock_tcp.proofs.UserTimeout.{none_runs}
use Rattle.sock_tcp.specs.Begin.{after_timer, is_paused, readied, retransmission_begun}
use Rattle.sock_tcp.specs.Content.{Sending, carries_data, content, emission_kind, filled, plain_segment, sent_as, syn, syn_ack}
use Rattle.sock_tcp.specs.Due.{data_due, effective_mss, flight, is_closed, is_closing, is_due, is_held_back, is_opening, sendable}
use Rattle.sock_tcp.specs.Sent.{left_by}
use Rattle.sock_tcp.specs.Timers.{after as moment_after, idle_from, is_close_over, is_keep_alive_over, is_over, keep_alive_renewed, retransmit_from, retransmit_unless_set, rto_of}
use Rattle.sock_tcp.specs.View.{View}
use Rattle.sock_tcp.specs.declared.emission.Kind.TheVariants as kind
use Rattle.sock_tcp.specs.declared.state.State.{State}
use Rattle.sock_tcp.specs.declared.state.State.TheVariants as state
use Rattle.sock_tcp.specs.declared.timer.AckDelayTimer.TheVariants as ack_delay
use Rattle.sock_tcp.specs.declared.timer.Timer.TheVariants as timer
use Rattle.sock_tcp.specs.declared.tuple.Tuple.{Tuple}
use Rattle.progress_laws.specs.InStep.{told}
use Rattle.progress_laws.specs.Speech.{DispatchesOk, GoesOn}
use Rattle.progress_laws.proofs.Begins.{smoltcp_begins, Alike, Goes, Same, and_no, beginning, begun_idle, goes, lent_for, readied_alike, same_again, same_then, sends_so, stamp_for, stamp_is}
use Rattle.progress_laws.proofs.Edges.{is_earlier, is_not_before, later_is, later_stays}
use Rattle.progress_laws.proofs.Hears.{idle_is, idle_moment}
use Rattle.progress_laws.proofs.Sends.{SentOf, left, plain_sent, plain_timer, plain_told}
use Rattle.sock_tcp.specs.declared.rules.Rules.TheVariants as rules

-- ---- the states in which a SYN is sent

opening_carries : (st : State) → is_opening st ≡ true → carries_data st ≡ false
opening_carries state.SynSent e = refl
opening_carries state.SynReceived e = refl
opening_carries _ e = absurd cc

opening_open : (st : State) → is_opening st ≡ true → is_closed st ≡ false
opening_open state.SynSent e = refl
opening_open state.SynReceived e = refl
opening_open _ e = absurd cc

pub opening_listens : (st : State) → is_opening st ≡ true → st ≡ state.Listen → ⊥
opening_listens state.Listen e l = absurd cc
opening_listens state.SynSent e l = absurd cc
opening_listens state.SynReceived e l = absurd cc
opening_listens _ e l = absurd cc

never_paused : (st : State) → is_paused st false ≡ false
never_paused state.SynReceived = refl
never_paused _ = refl

-- ---- the segment

abbrev pub syn_segment : State → View → Tuple → Facts → Segment → Segment
syn_segment state.SynReceived u t f s = syn_ack u t f s
syn_segment _ u t f s = syn u t f s

filled_is : (st : State) → is_opening st ≡ true → (u : View) (t : Tuple) (f : Facts) (bytes : List ℕ) (s : Segment) → filled st u t f bytes s ≡ Some (syn_segment st u t f s)
filled_is state.SynSent e u t f bytes s = refl
filled_is state.SynReceived e u t f bytes s = refl
filled_is _ e u t f bytes s = absurd cc

syn_bit : (st : State) (u : View) (t : Tuple) (f : Facts) (s : Segment) → (syn_segment st u t f s).control ≡ control.Syn
syn_bit state.SynReceived u t f s = refl
syn_bit _ u t f s = refl

syn_number : (st : State) (u : View) (t : Tuple) (f : Facts) (s : Segment) → (syn_segment st u t f s).seq_number ≡ u.local_seq_no
syn_number state.SynReceived u t f s = refl
syn_number _ u t f s = refl

syn_length : (st : State) (u : View) (t : Tuple) (f : Facts) (s : Segment) → segment_len (syn_segment st u t f s) ≡ length s.payload + 1
syn_length state.SynReceived u t f s = refl
syn_length _ u t f s = refl

-- ---- waiting for its answer

-- the SYN is to be sent, or counts as sent
pub data SynWaits (v : View) : Type 0 where
  NotSent : (o : Option Instant)
      → v.timer ≡ timer.Idle o
      → v.remote_last_seq ≡ v.local_seq_no
      → SynWaits v
  IsSent : (at : Instant)
      → v.timer ≡ timer.Retransmit at
      → v.remote_last_seq ≡ seq_add v.local_seq_no 1
      → SynWaits v

-- it goes out at this moment
abbrev pub SynGoesOut : (v : View) → SynWaits v → Instant → Type 0
SynGoesOut v (NotSent o idle nxt) now = Unit {0}
SynGoesOut v (IsSent at waits nxt) now = is_over at now ≡ true

-- v is x after some dispatches
pub record Repeats (x v : View) : Type 0 where
  pub same : Same x v
  pub marked : v.pending_fast_retransmit ≡ false
  pub waits : SynWaits v

-- x is in one of these states, with the peer t, its address, and nothing that would end or pause it
pub record SendsSyn (st : State) (t : Tuple) (f : Facts) (x : View) : Type 0 where
  pub opening : is_opening st ≡ true
  pub state : x.state ≡ st
  pub peer : x.tuple ≡ Some t
  pub address : f.has_address t.local.addr ≡ true
  pub no_timeout : x.timeout ≡ None
  pub smoltcp : x.rules ≡ rules.Smoltcp
  pub not_paused : x.synack_paused ≡ false
  pub una_small : x.local_seq_no.0 < 2 ^ 32

module _ (st : State) (t : Tuple) (f : Facts) (x : View) (c : SendsSyn st t f x) (v : View) (r : Repeats x v) (now : Instant) where
  abbrev fa : Facts
  fa = told f now

  pub on : GoesOn v t fa
  on = record { peer = r.same.peer ∙ c.peer; address = c.address; alive = rw (none_runs v (r.same.timeout ∙ c.no_timeout)) refl; no_end = by r.waits }
    where
      by : SynWaits v → is_close_over v.timer now ≡ false
      by (NotSent o idle nxt) = rw idle refl
      by (IsSent at waits nxt) = rw waits refl

  pub runs : is_paused v.state v.synack_paused ≡ false
  runs = ap (is_paused v.state) (r.same.paused ∙ c.not_paused) ∙ never_paused v.state

  abbrev pub u : View
  u = beginning v t fa on runs

  abbrev z : View
  z = readied v now

  al : Alike v z
  al = readied_alike v now

  -- ---- what a dispatch begins with

  readied_so : Repeats x z
  readied_so = record { same = same_then r.same al.same; marked = al.marked ∙ r.marked; waits = by r.waits }
    where
      by : SynWaits v → SynWaits z
      by (NotSent o idle nxt) = NotSent o (al.timer ∙ idle) (al.nxt ∙ nxt ∙ sym al.same.una)
      by (IsSent at waits nxt) = IsSent at (al.timer ∙ waits) (al.nxt ∙ nxt ∙ ap (λ q. seq_add q 1) (sym al.same.una))

  anew : View
  anew = retransmission_begun z now

  anew_so : Repeats x (retransmission_begun z now)
  unfolding retransmission_begun
  anew_so = record { same = same_then readied_so.same (same_again z now); marked = readied_so.marked; waits = NotSent (idle_moment now z.keep_alive) (begun_idle z now (al.same.same_rules ∙ r.same.same_rules ∙ c.smoltcp) ∙ idle_is now z.keep_alive) refl }

  anew_nxt : (retransmission_begun z now).remote_last_seq ≡ (retransmission_begun z now).local_seq_no
  unfolding retransmission_begun
  anew_nxt = refl

  begins_is : u ≡ after_timer v.timer z now
  begins_is = smoltcp_begins v t fa on runs (r.same.same_rules ∙ c.smoltcp)

  pub begun_so : Repeats x u
  begun_so = subst (Repeats x) (sym begins_is) (by r.waits)
    where
      go : (b : Bool) → Repeats x (if b then retransmission_begun z now else z)
      go true = anew_so
      go false = readied_so

      by : SynWaits v → Repeats x (after_timer v.timer z now)
      by (NotSent o idle nxt) = subst (λ tm. Repeats x (after_timer tm z now)) (sym idle) readied_so
      by (IsSent at waits nxt) = subst (λ tm. Repeats x (after_timer tm z now)) (sym waits) (go (is_over at now))

  front : SynGoesOut v r.waits now → u.remote_last_seq ≡ u.local_seq_no
  front d = subst (λ (y : View). y.remote_last_seq ≡ y.local_seq_no) (sym begins_is) (by r.waits d)
    where
      by : (q : SynWaits v) → SynGoesOut v q now → (after_timer v.timer z now).remote_last_seq ≡ (after_timer v.timer z now).local_seq_no
      by (NotSent o idle nxt) d = subst (λ tm. (after_timer tm z now).remote_last_seq ≡ (after_timer tm z now).local_seq_no) (sym idle) (al.nxt ∙ nxt ∙ sym al.same.una)
      by (IsSent at waits nxt) d = subst (λ tm. (after_timer tm z now).remote_last_seq ≡ (after_timer tm z now).local_seq_no) (sym waits) (subst (λ b. (if b then retransmission_begun z now else z).remote_last_seq ≡ (if b then retransmission_begun z now else z).local_seq_no) (sym d) anew_nxt)

  pub state_then : u.state ≡ st
  state_then = begun_so.same.state ∙ c.state

  opens : is_opening u.state ≡ true
  opens = ap is_opening state_then ∙ c.opening

  pub open_then : is_closed u.state ≡ false
  open_then = opening_open u.state opens

  u_small : u.local_seq_no.0 < 2 ^ 32
  u_small = subst (λ (q : TcpSeqNumber). q.0 < 2 ^ 32) (sym begun_so.same.una) c.una_small

  -- ---- what it sends, with any stamp

  -- one that it may have
  abbrev pub own_stamp : Option ℕ
  own_stamp = stamp_for u

  abbrev pub segment : Option ℕ → Segment
  segment stamp = syn_segment st u t fa (plain_segment u t stamp)

  abbrev pub out_of : Option ℕ → Sending
  out_of stamp = sent_as u t kind.Plain (segment stamp)

  abbrev pub sent : Option ℕ → View
  sent stamp = left u t now (segment stamp) open_then kind.Plain

  content_so : (stamp : Option ℕ) (bytes : List ℕ) → content u t fa stamp bytes ≡ Some (out_of stamp)
  unfolding content
  content_so stamp bytes = ap (option_map (λ s. sent_as u t (emission_kind u now s) s)) (ap (λ q. filled q u t fa bytes (plain_segment u t stamp)) state_then ∙ filled_is st c.opening u t fa bytes (plain_segment u t stamp)) ∙ ap (λ k. Some (sent_as u t k (segment stamp))) plain
    where
      empty : is_empty_segment (segment stamp) ≡ false
      empty = ap (λ c. (length (segment stamp).payload == 0) && is_plain c) (syn_bit st u t fa (plain_segment u t stamp)) ∙ and_no (length (segment stamp).payload == 0)

      plain : emission_kind u now (segment stamp) ≡ kind.Plain
      plain = rw (opening_carries u.state opens, empty) (ap (λ b. if b then kind.KeepAlive else kind.Plain) (and_no (is_keep_alive_over u.timer now)))

  long : (stamp : Option ℕ) → segment_len (segment stamp) ≡ 1
  unfolding plain_segment
  long stamp = syn_length st u t fa (plain_segment u t stamp)

  kept : (stamp : Option ℕ) → SentOf u (sent stamp)
  kept stamp = plain_sent u t now (segment stamp) open_then (begun_so.same.same_rules ∙ c.smoltcp)

  timer_then : (stamp : Option ℕ) → (sent stamp).timer ≡ retransmit_unless_set (keep_alive_renewed u.timer now u.keep_alive) now u.rtte
  timer_then stamp = plain_timer u t now (segment stamp) open_then (begun_so.same.same_rules ∙ c.smoltcp) false (ap (λ n. n == 0) (long stamp))

  nxt_then : (stamp : Option ℕ) → (sent stamp).remote_last_seq ≡ later_of u.remote_last_seq (seq_add u.local_seq_no 1)
  nxt_then stamp = (plain_told u t now (segment stamp) open_then).nxt ∙ (λ i. later_of u.remote_last_seq (seq_add (syn_number st u t fa (plain_segment u t stamp) i) (long stamp i)))

  -- its answer is waited for then
  pub waits_then : (stamp : Option ℕ) → (at : Instant) × ((sent stamp).timer ≡ timer.Retransmit at) × ((sent stamp).remote_last_seq ≡ seq_add (sent stamp).local_seq_no 1)
  waits_then stamp = by begun_so.waits
    where
      same_una : seq_add u.local_seq_no 1 ≡ seq_add (sent stamp).local_seq_no 1
      same_una = ap (λ q. seq_add q 1) (sym (kept stamp).same.una)

      from : (keep : Option Duration) → retransmit_unless_set (idle_from now keep) now u.rtte ≡ retransmit_from now u.rtte
      from None = refl
      from (Some d) = refl

      by : SynWaits u → (at : Instant) × ((sent stamp).timer ≡ timer.Retransmit at) × ((sent stamp).remote_last_seq ≡ seq_add (sent stamp).local_seq_no 1)
      by (NotSent o idle nxt) = (moment_after now (rto_of u.rtte), timer_then stamp ∙ ap (λ tm. retransmit_unless_set (keep_alive_renewed tm now u.keep_alive) now u.rtte) idle ∙ from u.keep_alive, nxt_then stamp ∙ ap (λ q. later_of q (seq_add u.local_seq_no 1)) nxt ∙ later_is u.local_seq_no (seq_add u.local_seq_no 1) (is_earlier u.local_seq_no (seq_add u.local_seq_no 1) (omega (arith, u_small))) ∙ same_una)
      by (IsSent at waits nxt) = (at, timer_then stamp ∙ ap (λ tm. retransmit_unless_set (keep_alive_renewed tm now u.keep_alive) now u.rtte) waits, nxt_then stamp ∙ ap (λ q. later_of q (seq_add u.local_seq_no 1)) nxt ∙ later_stays (seq_add u.local_seq_no 1) (seq_add u.local_seq_no 1) (is_not_before (seq_add u.local_seq_no 1) (seq_add u.local_seq_no 1) (omega arith)) ∙ same_una)

  pub sent_so : (stamp : Option ℕ) → Repeats x (sent stamp)
  sent_so stamp =
      let l = kept stamp in
      let w = waits_then stamp in
      record { same = same_then begun_so.same l.same; marked = l.marked ∙ ap (λ m. m && not (carries_data u.state)) begun_so.marked; waits = IsSent w.0 w.1 w.2 }

  pub ack_then : (stamp : Option ℕ) → (sent stamp).remote_last_ack ≡ (segment stamp).ack_number
  ack_then stamp = (plain_told u t now (segment stamp) open_then).ack

  pub window_then : (stamp : Option ℕ) → (sent stamp).remote_last_win ≡ (segment stamp).window_len
  window_then stamp = (plain_told u t now (segment stamp) open_then).window

  pub delay_then : (stamp : Option ℕ) → (sent stamp).ack_delay_timer ≡ ack_delay.Idle
  delay_then stamp = (plain_told u t now (segment stamp) open_then).delay

  -- ---- the dispatch

  data_goes : SynGoesOut v r.waits now → data_due u t fa ≡ true
  unfolding data_due
  data_goes d = by ((u.pending_fast_retransmit && not (length u.tx_buffer.bytes == 0)) || (not (sendable u == 0) && not (is_held_back u (effective_mss u t fa))))
    where
      none : flight u ≡ 0
      none = ap (λ q. seq_sub q u.local_seq_no) (front d) ∙ omega (arith, u_small)

      by : (x : Bool) → (x || ((is_opening u.state && (flight u == 0)) || (is_closing u.state && seq_eq u.remote_last_seq (seq_add u.local_seq_no (length u.tx_buffer.bytes))))) ≡ true
      by true = refl
      by false = rw (opens, none) refl

  due : SynGoesOut v r.waits now → is_due u t fa ≡ true
  unfolding is_due
  due d = rw (data_goes d) refl

  abbrev bytes : List ℕ
  bytes = lent_for u t fa

  pub sends : SynGoesOut v r.waits now → DispatchesOk fa v (Some (out_of own_stamp)) (sent own_stamp)
  sends d = sends_so v t fa on runs (Some (out_of own_stamp)) (sent own_stamp) (due d) (record { stamp = own_stamp; told = stamp_is u; bytes = bytes; lent = refl; sends = sym (content_so own_stamp bytes); view = refl })

  -- whatever a dispatch does
  pub goes_so : (out : Option Sending) (w : View) → DispatchesOk fa v out w → Repeats x w
  goes_so out w k = by (goes v t fa on runs out w k)
    where
      by : Goes v t fa on runs out w → Repeats x w
      by (inl (s, e)) = subst (Repeats x) (sym (s.view ∙ ap (λ o. left_by o u now true) (s.sends ∙ content_so s.stamp s.bytes))) (sent_so s.stamp)
      by (inr (e, n)) = subst (Repeats x) (sym e) begun_so
