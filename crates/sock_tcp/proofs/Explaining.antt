-- The row of a segment beside what `process` does with it.
use Rattle.std.proofs.Common.{◌≡◌, ◌∙◌, ℕ, List, Bool, true, false, true≢false, [], length, Option, Some, None, refl, sym, ap, subst}
use Rattle.std.specs.Prelude.{if◌then◌else◌, ◌==◌}
use Rattle.net_base.specs.declared.time.Instant.{Instant}
use Rattle.ip_wire.specs.declared.repr.IpRepr.{IpRepr}
use Rattle.control_wire.specs.Segment.{Segment}
use Rattle.control_wire.specs.declared.seq_number.TcpSeqNumber.{TcpSeqNumber}
use Rattle.control_wire.specs.declared.tcp.TcpControl.{TcpControl}
use Rattle.control_wire.specs.declared.tcp.TcpControl.TheVariants as control
use Rattle.sock_core.specs.Seq.{is_before}
use Rattle.sock_tcp.specs.Advance.{advance_in, advanced, counted_control, stops}
use Rattle.sock_tcp.specs.Arrival.{Arrival, arrival}
use Rattle.sock_tcp.specs.Explain.{answered_row, bytes_row, challenged_row, counted_row, dropped_row, fin_row, has_no_news, heard_row, opening_row, place_row, plain_row, refused_row, row_by, row_of, stamp_row, tested_row, verdict_row}
use Rattle.sock_tcp.specs.Explained.{ButNumber, ChallengedAreChallenged, DroppedChangeNothing, IgnoredTellNothing, IsIgnored, IsReset, NoRowIsNotAccepted, OutsideAreAnswered, ResetsEnd, UnacceptableAreReset, is_challenged, is_dropped, is_outside, reset_from}
use Rattle.sock_tcp.specs.Process.{Outcome, acked_by, after_table, by_verdict, challenged, closed_then, cut_inside, outside, outside_by, processed_by, processed_inside, rst_sent, stopped, tested_by, told_then, tuple_of}
use Rattle.sock_tcp.specs.Rfc.Checks.{acks_unsent, sent_end, stamp_checked, verdict_by}
use Rattle.sock_tcp.specs.Rfc.Recovery.{recovered_by}
use Rattle.sock_tcp.specs.Rfc.Refused.{is_heard_outside, is_next_fin, refused, rfc_refused, then_answered}
use Rattle.sock_tcp.specs.Rfc.Windows.{windowed}
use Rattle.sock_tcp.specs.View.{View}
use Rattle.sock_tcp.specs.Window.{accepted_window, cut_bytes, cut_of, has_window, honored_window, is_inside}
use Rattle.sock_tcp.specs.declared.advance.Next.{Next}
use Rattle.sock_tcp.specs.declared.advance.Next.TheVariants as next
use Rattle.sock_tcp.specs.declared.explain.Row.{Row}
use Rattle.sock_tcp.specs.declared.explain.Row.TheVariants as row
use Rattle.sock_tcp.specs.declared.rules.Rules.{Rules}
use Rattle.sock_tcp.specs.declared.rules.Rules.TheVariants as rules
use Rattle.sock_tcp.specs.declared.state.State.{State}
use Rattle.sock_tcp.specs.declared.state.State.TheVariants as state
use Rattle.sock_tcp.specs.declared.verdict.Verdict.{Verdict}
use Rattle.sock_tcp.specs.declared.verdict.Verdict.TheVariants as verdicts
use Rattle.sock_tcp.specs.declared.window.Window.{Window}

-- ---- by the verdict

abbrev pub come_of : Rules → View → Instant → ℕ → IpRepr → Segment → Arrival
come_of r v now word ip s = arrival now (tuple_of ip s) word (windowed r v s)

-- what is asked of a row and an outcome holds of those of each verdict
explained : (Q : Row → Outcome → Type 0) (r : Rules) (v : View) (now : Instant) (word : ℕ) (ip : IpRepr) (s : Segment) → Q (dropped_row v.state s.control s.ack_number) (stopped v) → Q row.AckUnacceptable (rst_sent v (windowed r v s)) → Q (challenged_row r v.state s.control v now s) (challenged v now (windowed r v s)) → Q (tested_row r (accepted_window r v) (has_window v.state) v (windowed r v s)) (by_verdict r verdicts.Pass v (come_of r v now word ip s)) → Q (row_by r v now s) (processed_by r v now word ip s)
unfolding processed_by
explained Q r v now word ip s drop reset challenge pass = by (verdict_by r v now s)
  where
    by : (x : Verdict) → Q (verdict_row r x v now s) (by_verdict r x v (come_of r v now word ip s))
    by verdicts.Drop = drop
    by verdicts.Reset = reset
    by verdicts.Challenge = challenge
    by verdicts.Pass = pass

-- ---- by the window test

pub record Rows (Q : Row → Outcome → Type 0) (r : Rules) (v : View) (a : Arrival) : Type 0 where
  pub opening : has_window v.state ≡ false → Q (opening_row a.segment.control) (processed_inside v a a.segment.control 0 [])
  pub inside : has_window v.state ≡ true → (c : TcpControl) (o : ℕ) (bs : List ℕ) → Q (counted_row (has_no_news v a.segment) v.state c (length bs) o) (processed_inside (record v { local_rx_last_seq = Some a.segment.seq_number }) a c o bs)
  pub fin : Q (fin_row v.state) (processed_inside v a control.Fin 0 [])
  pub heard : Q row.HeardOutside (then_answered (processed_inside v a control.None 0 []) a)
  pub answered : r ≡ rules.Smoltcp → Q (answered_row a.segment.control (accepted_window r v) a.segment.seq_number) (outside v a.now a.segment)
  pub placed : Q (place_row (accepted_window r v) a.segment.seq_number) (outside v a.now a.segment)

refused_as : (Q : Row → Outcome → Type 0) (r : Rules) (v : View) (a : Arrival) → Rows Q r v a → Q (refused_row r (accepted_window r v) v a.segment) (refused r v a)
unfolding rfc_refused
refused_as Q rules.Smoltcp v a k = k.answered refl
refused_as Q rules.Rfc v a k = go (is_next_fin a.segment.control (honored_window v) a.segment.seq_number (length a.segment.payload)) (is_heard_outside v a.segment (acked_by v a))
  where
    go : (fin heard : Bool) → Q (if fin then fin_row v.state else heard_row heard (honored_window v) a.segment.seq_number) (if fin then processed_inside v a control.Fin 0 [] else (if heard then then_answered (processed_inside v a control.None 0 []) a else outside v a.now a.segment))
    go true heard = k.fin
    go false true = k.heard
    go false false = k.placed

pub tested_as : (Q : Row → Outcome → Type 0) (r : Rules) (v : View) (a : Arrival) → Rows Q r v a → Q (tested_row r (accepted_window r v) (has_window v.state) v a.segment) (tested_by r (has_window v.state) v a)
tested_as Q r v a k = by (has_window v.state) refl
  where
    w : Window
    w = accepted_window r v

    number : TcpSeqNumber
    number = a.segment.seq_number

    n : ℕ
    n = length a.segment.payload

    go : has_window v.state ≡ true → (b : Bool) → Q (if b then counted_row (has_no_news v a.segment) v.state (counted_control a.segment.control w number n) (length (cut_bytes (cut_of w number n) a.segment.payload)) (cut_of w number n).offset else refused_row r w v a.segment) (if b then cut_inside w (cut_of w number n) v a else refused r v a)
    go e true = k.inside e (counted_control a.segment.control w number n) (cut_of w number n).offset (cut_bytes (cut_of w number n) a.segment.payload)
    go e false = refused_as Q r v a k

    by : (b : Bool) → has_window v.state ≡ b → Q (tested_row r w b v a.segment) (tested_by r b v a)
    by false e = k.opening e
    by true e = go e (is_inside w number n)

-- ---- kinds of rows, as tests: which part of the tables has none of a kind

pub absurdly : {P : Type 0} (b : Bool) → b ≡ false → b ≡ true → P
absurdly b e h = absurd (true≢false (sym h ∙ e))

dropped_is : (is : Row → Bool) → is row.ResetUnacceptable ≡ false → is row.NoSyn ≡ false → is row.ResetInTimeWait ≡ false → is row.ResetOutside ≡ false → is row.NoAck ≡ false → is row.OldAck ≡ false → (st : State) (c : TcpControl) (ack : Option TcpSeqNumber) → is (dropped_row st c ack) ≡ false
dropped_is is u n t o a p state.SynSent control.Rst ack = u
dropped_is is u n t o a p state.SynSent c ack = n
dropped_is is u n t o a p state.TimeWait control.Rst ack = t
dropped_is is u n t o a p st control.Rst ack = o
dropped_is is u n t o a p st c None = a
dropped_is is u n t o a p st c (Some x) = p

unsent_is : (is : Row → Bool) → is row.AckUnsent ≡ false → is row.OldTimestamp ≡ false → (b : Bool) (x : Next) → is (if b then row.AckUnsent else stamp_row x) ≡ false
unsent_is is u t true x = u
unsent_is is u t false next.Challenge = t
unsent_is is u t false next.Stop = u
unsent_is is u t false next.Continue = u

challenged_is : (is : Row → Bool) → is row.AckUnsent ≡ false → is row.OldTimestamp ≡ false → is row.ResetChallenged ≡ false → is row.SynChallenged ≡ false → (r : Rules) (st : State) (c : TcpControl) (v : View) (now : Instant) (s : Segment) → is (challenged_row r st c v now s) ≡ false
challenged_is is u t rst syn rules.Smoltcp st c v now s = u
challenged_is is u t rst syn rules.Rfc st control.Rst v now s = rst
challenged_is is u t rst syn rules.Rfc state.SynReceived control.Syn v now s = t
challenged_is is u t rst syn rules.Rfc state.SynReceived control.Fin v now s = t
challenged_is is u t rst syn rules.Rfc state.SynReceived control.Psh v now s = t
challenged_is is u t rst syn rules.Rfc state.SynReceived control.None v now s = t
challenged_is is u t rst syn rules.Rfc st control.Syn v now s = syn
challenged_is is u t rst syn rules.Rfc st c v now s = unsent_is is u t (acks_unsent s.ack_number (sent_end v)) (stamp_checked v now s.timestamp)

pub fin_is : (is : Row → Bool) → is row.Fin ≡ false → is row.Ignored ≡ false → (st : State) → is (fin_row st) ≡ false
fin_is is f g state.SynReceived = f
fin_is is f g state.Established = f
fin_is is f g state.FinWait1 = f
fin_is is f g state.FinWait2 = f
fin_is is f g _ = g

pub bytes_is : (is : Row → Bool) → is row.BareAck ≡ false → is row.InOrder ≡ false → is row.BehindGap ≡ false → (n o : ℕ) → is (bytes_row n o) ≡ false
bytes_is is bare at gap n o = go (n == 0) (o == 0)
  where
    go : (b c : Bool) → is (if b then row.BareAck else (if c then row.InOrder else row.BehindGap)) ≡ false
    go true c = bare
    go false true = at
    go false false = gap

plain_is : (is : Row → Bool) → is row.BareAck ≡ false → is row.InOrder ≡ false → is row.BehindGap ≡ false → is row.Ignored ≡ false → is row.NothingNew ≡ false → (old : Bool) (st : State) (n o : ℕ) → is (plain_row old st n o) ≡ false
plain_is is b i g k x old state.Closed n o = k
plain_is is b i g k x old state.TimeWait n o = k
plain_is is b i g k x true state.LastAck n o = x
plain_is is b i g k x false state.LastAck n o = bytes_is is b i g n o
plain_is is b i g k x old _ n o = bytes_is is b i g n o

pub place_is : (is : Row → Bool) → is row.OldDuplicate ≡ false → is row.BeyondWindow ≡ false → (w : Window) (number : TcpSeqNumber) → is (place_row w number) ≡ false
place_is is old beyond w number = go (is_before number w.start)
  where
    go : (b : Bool) → is (if b then row.OldDuplicate else row.BeyondWindow) ≡ false
    go true = old
    go false = beyond

pub answered_is : (is : Row → Bool) → is row.OldDuplicate ≡ false → is row.BeyondWindow ≡ false → is row.ResetOutside ≡ false → (c : TcpControl) (w : Window) (number : TcpSeqNumber) → is (answered_row c w number) ≡ false
answered_is is old beyond rst control.Rst w number = rst
answered_is is old beyond rst control.Syn w number = place_is is old beyond w number
answered_is is old beyond rst control.None w number = place_is is old beyond w number
answered_is is old beyond rst control.Psh w number = place_is is old beyond w number
answered_is is old beyond rst control.Fin w number = place_is is old beyond w number

-- where the window test comes to, a row is of a test only as one outside of it is
module _ (is : Row → Bool) (opens : is row.Opens ≡ false) (counts : is row.Reset ≡ false) (ignores : is row.Ignored ≡ false) (fins : is row.Fin ≡ false) (bare : is row.BareAck ≡ false) (next_bytes : is row.InOrder ≡ false) (gap : is row.BehindGap ≡ false) (nothing : is row.NothingNew ≡ false) (hears : is row.HeardOutside ≡ false) where
  not_opening : (c : TcpControl) → is (opening_row c) ≡ false
  not_opening control.Rst = counts
  not_opening control.Syn = opens
  not_opening _ = ignores

  not_counted : (old : Bool) (st : State) (c : TcpControl) (n o : ℕ) → is (counted_row old st c n o) ≡ false
  not_counted old st control.Rst n o = counts
  not_counted old st control.Fin n o = fin_is is fins ignores st
  not_counted old st control.None n o = plain_is is bare next_bytes gap ignores nothing old st n o
  not_counted old st control.Syn n o = ignores
  not_counted old st control.Psh n o = ignores

  -- so it holds of a row and an outcome, where it holds of those of a segment outside
  module _ (P : Outcome → Type 0) where
    no_row : (x : Row) (o : Outcome) → is x ≡ false → is x ≡ true → P o
    no_row x o e h = absurd (true≢false (sym h ∙ e))

    by_test : (r : Rules) (v : View) (a : Arrival) → (r ≡ rules.Smoltcp → is (answered_row a.segment.control (accepted_window r v) a.segment.seq_number) ≡ true → P (outside v a.now a.segment)) → (is (place_row (accepted_window r v) a.segment.seq_number) ≡ true → P (outside v a.now a.segment)) → is (tested_row r (accepted_window r v) (has_window v.state) v a.segment) ≡ true → P (tested_by r (has_window v.state) v a)
    by_test r v a answers places =
        tested_as (λ x o. is x ≡ true → P o) r v a record {
          opening = λ e. no_row (opening_row a.segment.control) _ (not_opening a.segment.control);
          inside = λ e c o bs. no_row (counted_row (has_no_news v a.segment) v.state c (length bs) o) _ (not_counted (has_no_news v a.segment) v.state c (length bs) o);
          fin = no_row (fin_row v.state) _ (fin_is is fins ignores v.state);
          heard = no_row row.HeardOutside _ hears;
          answered = answers;
          placed = places;
        }

-- by smoltcp's rules an RST outside of the window is dropped
rst_dropped : (c : TcpControl) (n : ℕ) (v : View) (now : Instant) (s : Segment) (w : Window) (number : TcpSeqNumber) → is_dropped (answered_row c w number) ≡ true → outside_by c n v now s ≡ stopped v
rst_dropped control.Rst n v now s w number h = refl
rst_dropped _ n v now s w number h = absurdly (is_dropped (place_row w number)) (place_is is_dropped refl refl w number) h

-- ---- the laws

dropped_by : (r : Rules) (v : View) (now : Instant) (word : ℕ) (ip : IpRepr) (s : Segment) → is_dropped (row_by r v now s) ≡ true → processed_by r v now word ip s ≡ stopped v
unfolding outside
dropped_by r v now word ip s =
    explained (λ x o. is_dropped x ≡ true → o ≡ stopped v) r v now word ip s (λ h. refl) (λ h. absurdly false refl h) (absurdly (is_dropped (challenged_row r v.state s.control v now s)) (challenged_is is_dropped refl refl refl refl r v.state s.control v now s)) (passing r)
  where
    passing : (r : Rules) → is_dropped (tested_row r (accepted_window r v) (has_window v.state) v (windowed r v s)) ≡ true → by_verdict r verdicts.Pass v (come_of r v now word ip s) ≡ stopped v
    passing rules.Smoltcp = by_test is_dropped refl refl refl refl refl refl refl refl refl (λ o. o ≡ stopped v) rules.Smoltcp v (come_of rules.Smoltcp v now word ip s) (λ e. rst_dropped s.control (length s.payload) v now (windowed rules.Smoltcp v s) (accepted_window rules.Smoltcp v) s.seq_number) (absurdly (is_dropped (place_row (accepted_window rules.Smoltcp v) s.seq_number)) (place_is is_dropped refl refl (accepted_window rules.Smoltcp v) s.seq_number))
    passing rules.Rfc = by_test is_dropped refl refl refl refl refl refl refl refl refl (λ o. by_verdict rules.Rfc verdicts.Pass v (come_of rules.Rfc v now word ip s) ≡ stopped v) rules.Rfc v (come_of rules.Rfc v now word ip s) (λ e. let no : rules.Rfc ≡ rules.Smoltcp = e in cc) (absurdly (is_dropped (place_row (accepted_window rules.Rfc v) s.seq_number)) (place_is is_dropped refl refl (accepted_window rules.Rfc v) s.seq_number))

pub dropped_change_nothing : DroppedChangeNothing
unfolding row_of
dropped_change_nothing v now word ip s h = dropped_by v.rules v now word ip s h

-- a row of the verdict alone: where the verdict passes no segment is in it
never_passed : (is : Row → Bool) → is row.Opens ≡ false → is row.Reset ≡ false → is row.Ignored ≡ false → is row.Fin ≡ false → is row.BareAck ≡ false → is row.InOrder ≡ false → is row.BehindGap ≡ false → is row.NothingNew ≡ false → is row.HeardOutside ≡ false → is row.OldDuplicate ≡ false → is row.BeyondWindow ≡ false → is row.ResetOutside ≡ false → (P : Type 0) (r : Rules) (v : View) (a : Arrival) → is (tested_row r (accepted_window r v) (has_window v.state) v a.segment) ≡ true → P
never_passed is op co ig fi ba ne ga nn he old beyond rst P r v a =
    by_test is op co ig fi ba ne ga nn he (λ o. P) r v a (λ e. absurdly (is (answered_row a.segment.control (accepted_window r v) a.segment.seq_number)) (answered a.segment.control)) (absurdly (is (place_row (accepted_window r v) a.segment.seq_number)) place)
  where
    place : is (place_row (accepted_window r v) a.segment.seq_number) ≡ false
    place = place_is is old beyond (accepted_window r v) a.segment.seq_number

    answered : (c : TcpControl) → is (answered_row c (accepted_window r v) a.segment.seq_number) ≡ false
    answered control.Rst = rst
    answered control.Syn = place
    answered control.None = place
    answered control.Psh = place
    answered control.Fin = place

abbrev is_unacceptable : Row → Bool
is_unacceptable row.AckUnacceptable = true
is_unacceptable _ = false

reset_by : (r : Rules) (v : View) (now : Instant) (word : ℕ) (ip : IpRepr) (s : Segment) → is_unacceptable (row_by r v now s) ≡ true → processed_by r v now word ip s ≡ rst_sent v (windowed r v s)
reset_by r v now word ip s =
    explained (λ x o. is_unacceptable x ≡ true → o ≡ rst_sent v (windowed r v s)) r v now word ip s (absurdly (is_unacceptable (dropped_row v.state s.control s.ack_number)) (dropped_is is_unacceptable refl refl refl refl refl refl v.state s.control s.ack_number)) (λ h. refl) (absurdly (is_unacceptable (challenged_row r v.state s.control v now s)) (challenged_is is_unacceptable refl refl refl refl r v.state s.control v now s)) (never_passed is_unacceptable refl refl refl refl refl refl refl refl refl refl refl refl _ r v (come_of r v now word ip s))

challenged_by : (r : Rules) (v : View) (now : Instant) (word : ℕ) (ip : IpRepr) (s : Segment) → is_challenged (row_by r v now s) ≡ true → processed_by r v now word ip s ≡ challenged v now (windowed r v s)
challenged_by r v now word ip s =
    explained (λ x o. is_challenged x ≡ true → o ≡ challenged v now (windowed r v s)) r v now word ip s (absurdly (is_challenged (dropped_row v.state s.control s.ack_number)) (dropped_is is_challenged refl refl refl refl refl refl v.state s.control s.ack_number)) (λ h. absurdly false refl h) (λ h. refl) (never_passed is_challenged refl refl refl refl refl refl refl refl refl refl refl refl _ r v (come_of r v now word ip s))

-- what the rules do behind the tables
abbrev pub behind_by : Rules → View → Instant → Segment → Outcome → Outcome
behind_by r v now s o = told_then r v (windowed r v s) (closed_then r (recovered_by r v now (windowed r v s) o))

outside_by_rules : (r : Rules) (v : View) (now : Instant) (word : ℕ) (ip : IpRepr) (s : Segment) → is_outside (row_by r v now s) ≡ true → processed_by r v now word ip s ≡ behind_by r v now s (outside v now (windowed r v s))
outside_by_rules r v now word ip s =
    explained (λ x o. is_outside x ≡ true → o ≡ behind_by r v now s (outside v now (windowed r v s))) r v now word ip s (absurdly (is_outside (dropped_row v.state s.control s.ack_number)) (dropped_is is_outside refl refl refl refl refl refl v.state s.control s.ack_number)) (λ h. absurdly false refl h) (absurdly (is_outside (challenged_row r v.state s.control v now s)) (challenged_is is_outside refl refl refl refl r v.state s.control v now s)) (by_test is_outside refl refl refl refl refl refl refl refl refl (λ o. behind_by r v now s o ≡ behind_by r v now s (outside v now (windowed r v s))) r v (come_of r v now word ip s) (λ e h. refl) (λ h. refl))

pub unacceptable_are_reset : UnacceptableAreReset
unfolding row_of
unacceptable_are_reset v now word ip s h = reset_by v.rules v now word ip s (ap is_unacceptable h)

pub challenged_are_challenged : ChallengedAreChallenged
unfolding row_of
challenged_are_challenged v now word ip s h = challenged_by v.rules v now word ip s h

pub outside_are_answered : OutsideAreAnswered
unfolding row_of
outside_are_answered v now word ip s h = outside_by_rules v.rules v now word ip s h

-- ---- an RST that counts, and what is ignored

abbrev is_reset : Row → Bool
is_reset row.Reset = true
is_reset _ = false

abbrev is_ignored : Row → Bool
is_ignored row.Ignored = true
is_ignored _ = false

abbrev is_unaccepted : Row → Bool
is_unaccepted row.NotAccepted = true
is_unaccepted _ = false

-- the state table
rst_ends : (st : State) (fin : Bool) (u : View) (a : Arrival) (n : ℕ) → advance_in st control.Rst fin u a n ≡ stops (reset_from st u)
rst_ends state.SynReceived fin u a n = refl
rst_ends _ fin u a n = refl

opening_stops : (st : State) (c : TcpControl) (fin : Bool) (u : View) (a : Arrival) (n : ℕ) → has_window st ≡ false → is_ignored (opening_row c) ≡ true → advance_in st c fin u a n ≡ stops u
opening_stops state.Listen control.None fin u a n e h = refl
opening_stops state.Listen control.Psh fin u a n e h = refl
opening_stops state.Listen control.Fin fin u a n e h = refl
opening_stops state.SynSent control.None fin u a n e h = refl
opening_stops state.SynSent control.Psh fin u a n e h = refl
opening_stops state.SynSent control.Fin fin u a n e h = refl
opening_stops st control.Rst fin u a n e h = absurdly false refl h
opening_stops st control.Syn fin u a n e h = absurdly false refl h
opening_stops _ _ fin u a n e h = absurd cc

fin_stops : (st : State) (fin : Bool) (u : View) (a : Arrival) (n : ℕ) → is_ignored (fin_row st) ≡ true → advance_in st control.Fin fin u a n ≡ stops u
fin_stops state.Closed fin u a n h = refl
fin_stops state.Listen fin u a n h = refl
fin_stops state.SynSent fin u a n h = refl
fin_stops state.CloseWait fin u a n h = refl
fin_stops state.Closing fin u a n h = refl
fin_stops state.LastAck fin u a n h = refl
fin_stops state.TimeWait fin u a n h = refl
fin_stops state.SynReceived fin u a n h = absurdly false refl h
fin_stops state.Established fin u a n h = absurdly false refl h
fin_stops state.FinWait1 fin u a n h = absurdly false refl h
fin_stops state.FinWait2 fin u a n h = absurdly false refl h

plain_stops : (old : Bool) (st : State) (fin : Bool) (u : View) (a : Arrival) (n m o : ℕ) → is_ignored (plain_row old st m o) ≡ true → advance_in st control.None fin u a n ≡ stops u
plain_stops old state.Closed fin u a n m o h = refl
plain_stops old state.TimeWait fin u a n m o h = refl
plain_stops true state.LastAck fin u a n m o h = absurdly false refl h
plain_stops false state.LastAck fin u a n m o h = absurdly (is_ignored (bytes_row m o)) (bytes_is is_ignored refl refl refl m o) h
plain_stops old _ fin u a n m o h = absurdly (is_ignored (bytes_row m o)) (bytes_is is_ignored refl refl refl m o) h

syn_stops : (st : State) (fin : Bool) (u : View) (a : Arrival) (n : ℕ) → has_window st ≡ true → advance_in st control.Syn fin u a n ≡ stops u
syn_stops state.Closed fin u a n e = refl
syn_stops state.SynReceived fin u a n e = refl
syn_stops state.Established fin u a n e = refl
syn_stops state.FinWait1 fin u a n e = refl
syn_stops state.FinWait2 fin u a n e = refl
syn_stops state.CloseWait fin u a n e = refl
syn_stops state.Closing fin u a n e = refl
syn_stops state.LastAck fin u a n e = refl
syn_stops state.TimeWait fin u a n e = refl
syn_stops _ fin u a n e = absurd cc

psh_stops : (st : State) (fin : Bool) (u : View) (a : Arrival) (n : ℕ) → advance_in st control.Psh fin u a n ≡ stops u
psh_stops state.Listen fin u a n = refl
psh_stops _ fin u a n = refl

inside_stops : (old : Bool) (st : State) (c : TcpControl) (fin : Bool) (u : View) (a : Arrival) (n m o : ℕ) → has_window st ≡ true → is_ignored (counted_row old st c m o) ≡ true → advance_in st c fin u a n ≡ stops u
inside_stops old st control.Rst fin u a n m o e h = absurdly false refl h
inside_stops old st control.Fin fin u a n m o e h = fin_stops st fin u a n h
inside_stops old st control.None fin u a n m o e h = plain_stops old st fin u a n m o h
inside_stops old st control.Syn fin u a n m o e h = syn_stops st fin u a n e
inside_stops old st control.Psh fin u a n m o e h = psh_stops st fin u a n

-- where it stops, nothing is left to do
stops_so : (u w : View) (a : Arrival) (c : TcpControl) (o : ℕ) (bs : List ℕ) → advance_in u.state c (acked_by u a).fin u a (acked_by u a).len ≡ stops w → processed_inside u a c o bs ≡ stopped w
unfolding advanced processed_inside
stops_so u w a c o bs e = ap (λ t. after_table t a (acked_by u a) o bs) e

-- with the number that the next answer repeats, or without
record Stops (f : View → View) (v : View) (o : Outcome) : Type 0 where
  pub view : View
  pub number : ButNumber v view
  pub same : o ≡ stopped (f view)

abbrev pub numbered : View → Arrival → View
numbered v a = record v { local_rx_last_seq = Some a.segment.seq_number }

-- and what the rules do then stands around it
record Behind (r : Rules) (v : View) (now : Instant) (s : Segment) (f : View → View) (o : Outcome) : Type 0 where
  pub view : View
  pub number : ButNumber v view
  pub same : o ≡ behind_by r v now s (stopped (f view))

behind_so : (r : Rules) (v : View) (now : Instant) (s : Segment) (f : View → View) (o : Outcome) → Stops f v o → Behind r v now s f (behind_by r v now s o)
behind_so r v now s f o k = record { view = k.view; number = k.number; same = ap (behind_by r v now s) k.same }

-- the rows that the verdict gives are neither
pub kinds_by : (is : Row → Bool) → is row.ResetUnacceptable ≡ false → is row.NoSyn ≡ false → is row.ResetInTimeWait ≡ false → is row.ResetOutside ≡ false → is row.NoAck ≡ false → is row.OldAck ≡ false → is row.AckUnacceptable ≡ false → is row.AckUnsent ≡ false → is row.OldTimestamp ≡ false → is row.ResetChallenged ≡ false → is row.SynChallenged ≡ false → (P : Outcome → Type 0) (r : Rules) (v : View) (now : Instant) (word : ℕ) (ip : IpRepr) (s : Segment) → (is (tested_row r (accepted_window r v) (has_window v.state) v (windowed r v s)) ≡ true → P (by_verdict r verdicts.Pass v (come_of r v now word ip s))) → is (row_by r v now s) ≡ true → P (processed_by r v now word ip s)
kinds_by is u n t o a p k un ts rc sc P r v now word ip s pass =
    explained (λ x q. is x ≡ true → P q) r v now word ip s (absurdly (is (dropped_row v.state s.control s.ack_number)) (dropped_is is u n t o a p v.state s.control s.ack_number)) (absurdly (is row.AckUnacceptable) k) (absurdly (is (challenged_row r v.state s.control v now s)) (challenged_is is un ts rc sc r v.state s.control v now s)) pass

reset_rows : (r : Rules) (v : View) (a : Arrival) → is_reset (tested_row r (accepted_window r v) (has_window v.state) v a.segment) ≡ true → Stops (reset_from v.state) v (tested_by r (has_window v.state) v a)
reset_rows r v a =
    tested_as (λ x o. is_reset x ≡ true → Stops (reset_from v.state) v o) r v a record {
      opening = λ e. opening a.segment.control;
      inside = λ e c o bs. inside c o bs;
      fin = absurdly (is_reset (fin_row v.state)) (fin_is is_reset refl refl v.state);
      heard = absurdly false refl;
      answered = λ e. absurdly (is_reset (answered_row a.segment.control (accepted_window r v) a.segment.seq_number)) (answered_is is_reset refl refl refl a.segment.control (accepted_window r v) a.segment.seq_number);
      placed = absurdly (is_reset (place_row (accepted_window r v) a.segment.seq_number)) (place_is is_reset refl refl (accepted_window r v) a.segment.seq_number);
    }
  where
    opening : (c : TcpControl) → is_reset (opening_row c) ≡ true → Stops (reset_from v.state) v (processed_inside v a c 0 [])
    opening control.Rst h = record { view = v; number = refl; same = stops_so v (reset_from v.state v) a control.Rst 0 [] (rst_ends v.state (acked_by v a).fin v a (acked_by v a).len) }
    opening control.Syn h = absurdly false refl h
    opening control.None h = absurdly false refl h
    opening control.Psh h = absurdly false refl h
    opening control.Fin h = absurdly false refl h

    inside : (c : TcpControl) (o : ℕ) (bs : List ℕ) → is_reset (counted_row (has_no_news v a.segment) v.state c (length bs) o) ≡ true → Stops (reset_from v.state) v (processed_inside (numbered v a) a c o bs)
    inside control.Rst o bs h = record { view = numbered v a; number = refl; same = stops_so (numbered v a) (reset_from v.state (numbered v a)) a control.Rst o bs (rst_ends v.state (acked_by (numbered v a) a).fin (numbered v a) a (acked_by (numbered v a) a).len) }
    inside control.Syn o bs h = absurdly false refl h
    inside control.Psh o bs h = absurdly false refl h
    inside control.Fin o bs h = absurdly (is_reset (fin_row v.state)) (fin_is is_reset refl refl v.state) h
    inside control.None o bs h = absurdly (is_reset (plain_row (has_no_news v a.segment) v.state (length bs) o)) (plain_is is_reset refl refl refl refl refl (has_no_news v a.segment) v.state (length bs) o) h

ignored_rows : (r : Rules) (v : View) (a : Arrival) → is_ignored (tested_row r (accepted_window r v) (has_window v.state) v a.segment) ≡ true → Stops (λ u. u) v (tested_by r (has_window v.state) v a)
ignored_rows r v a =
    tested_as (λ x o. is_ignored x ≡ true → Stops (λ u. u) v o) r v a record {
      opening = λ e h. record { view = v; number = refl; same = stops_so v v a a.segment.control 0 [] (opening_stops v.state a.segment.control (acked_by v a).fin v a (acked_by v a).len e h) };
      inside = λ e c o bs h. record { view = numbered v a; number = refl; same = stops_so (numbered v a) (numbered v a) a c o bs (inside_stops (has_no_news v a.segment) v.state c (acked_by (numbered v a) a).fin (numbered v a) a (acked_by (numbered v a) a).len (length bs) o e h) };
      fin = λ h. record { view = v; number = refl; same = stops_so v v a control.Fin 0 [] (fin_stops v.state (acked_by v a).fin v a (acked_by v a).len h) };
      heard = absurdly false refl;
      answered = λ e. absurdly (is_ignored (answered_row a.segment.control (accepted_window r v) a.segment.seq_number)) (answered_is is_ignored refl refl refl a.segment.control (accepted_window r v) a.segment.seq_number);
      placed = absurdly (is_ignored (place_row (accepted_window r v) a.segment.seq_number)) (place_is is_ignored refl refl (accepted_window r v) a.segment.seq_number);
    }

reset_ends : (r : Rules) (v : View) (now : Instant) (word : ℕ) (ip : IpRepr) (s : Segment) → is_reset (row_by r v now s) ≡ true → Behind r v now s (reset_from v.state) (processed_by r v now word ip s)
reset_ends r v now word ip s =
    kinds_by is_reset refl refl refl refl refl refl refl refl refl refl refl (Behind r v now s (reset_from v.state)) r v now word ip s (λ h. behind_so r v now s (reset_from v.state) (tested_by r (has_window v.state) v (come_of r v now word ip s)) (reset_rows r v (come_of r v now word ip s) h))

ignored_tell : (r : Rules) (v : View) (now : Instant) (word : ℕ) (ip : IpRepr) (s : Segment) → is_ignored (row_by r v now s) ≡ true → Behind r v now s (λ u. u) (processed_by r v now word ip s)
ignored_tell r v now word ip s =
    kinds_by is_ignored refl refl refl refl refl refl refl refl refl refl refl (Behind r v now s (λ u. u)) r v now word ip s (λ h. behind_so r v now s (λ u. u) (tested_by r (has_window v.state) v (come_of r v now word ip s)) (ignored_rows r v (come_of r v now word ip s) h))

pub resets_end : ResetsEnd
unfolding row_of
resets_end v now word ip s h = to (reset_ends v.rules v now word ip s (ap is_reset h))
  where
    to : {o : Outcome} → Behind v.rules v now s (reset_from v.state) o → IsReset v now s o
    to b = record { view = b.view; number = b.number; outcome = b.same }

pub ignored_tell_nothing : IgnoredTellNothing
unfolding row_of
ignored_tell_nothing v now word ip s h = to (ignored_tell v.rules v now word ip s (ap is_ignored h))
  where
    to : {o : Outcome} → Behind v.rules v now s (λ u. u) o → IsIgnored v now s o
    to b = record { view = b.view; number = b.number; outcome = b.same }

-- ---- no row of the tables is `NotAccepted`

unaccepted_never : (r : Rules) (v : View) (now : Instant) (s : Segment) (a : Arrival) → a.segment ≡ windowed r v s → (x : Verdict) → is_unaccepted (verdict_row r x v now s) ≡ true → ⊥
unaccepted_never r v now s a e verdicts.Drop = absurdly (is_unaccepted (dropped_row v.state s.control s.ack_number)) (dropped_is is_unaccepted refl refl refl refl refl refl v.state s.control s.ack_number)
unaccepted_never r v now s a e verdicts.Reset = absurdly false refl
unaccepted_never r v now s a e verdicts.Challenge = absurdly (is_unaccepted (challenged_row r v.state s.control v now s)) (challenged_is is_unaccepted refl refl refl refl r v.state s.control v now s)
unaccepted_never r v now s a e verdicts.Pass = λ h. never_passed is_unaccepted refl refl refl refl refl refl refl refl refl refl refl refl ⊥ r v a (subst (λ y. is_unaccepted (tested_row r (accepted_window r v) (has_window v.state) v y) ≡ true) (sym e) h)

pub no_row_is_not_accepted : NoRowIsNotAccepted
unfolding row_of
no_row_is_not_accepted v now ip s h = unaccepted_never v.rules v now s (come_of v.rules v now 0 ip s) refl (verdict_by v.rules v now s) (ap is_unaccepted h)
