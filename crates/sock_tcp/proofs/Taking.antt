-- The rows of bytes, and of what acknowledges nothing new in LAST-ACK, beside what `process` does with a segment.
use Rattle.std.proofs.Common.{◌≡◌, ◌∙◌, ℕ, List, Bool, true, false, not, ◌&&◌, length, Option, Some, None, refl, ap}
use Rattle.std.specs.Prelude.{if◌then◌else◌, ◌==◌}
use Rattle.net_base.specs.declared.time.Instant.{Instant}
use Rattle.ip_wire.specs.declared.repr.IpRepr.{IpRepr}
use Rattle.control_wire.specs.Segment.{Segment}
use Rattle.control_wire.specs.declared.seq_number.TcpSeqNumber.{TcpSeqNumber}
use Rattle.control_wire.specs.declared.tcp.TcpControl.{TcpControl}
use Rattle.control_wire.specs.declared.tcp.TcpControl.TheVariants as control
use Rattle.sock_tcp.specs.Advance.{Advance, advance_in, advanced, continues, dropped, moved_to, nothing_new_by, waiting}
use Rattle.sock_tcp.specs.Arrival.{Arrival}
use Rattle.sock_tcp.specs.Explain.{answered_row, bytes_row, counted_row, fin_row, has_no_news, no_news_by, opening_row, place_row, plain_row, row_by, row_of, tested_row}
use Rattle.sock_tcp.specs.Explained.{BehindGapAreTaken, ButNumber, InOrderAreTaken, IsOfNothingNew, IsTaken, NothingNewIsChallenged}
use Rattle.sock_tcp.specs.Process.{Outcome, acked_by, after_table, bytes_taken, challenged, processed_by, processed_inside, tested_by}
use Rattle.sock_tcp.specs.Steps.{ack_counted, ack_heard, acknowledged, duplicate_counted, heard, is_duplicate, released, timer_set, timestamp_taken, una_advanced, window_taken}
use Rattle.sock_tcp.specs.Rfc.Windows.{windowed}
use Rattle.sock_tcp.specs.View.{View}
use Rattle.sock_tcp.specs.Window.{accepted_window, has_window}
use Rattle.sock_tcp.specs.declared.acked.Acked.{Acked}
use Rattle.sock_tcp.specs.declared.advance.Next.TheVariants as next
use Rattle.sock_tcp.specs.declared.explain.Row.{Row}
use Rattle.sock_tcp.specs.declared.explain.Row.TheVariants as row
use Rattle.sock_tcp.specs.declared.rules.Rules.{Rules}
use Rattle.sock_tcp.specs.declared.rules.Rules.TheVariants as rules
use Rattle.sock_tcp.specs.declared.state.State.{State}
use Rattle.sock_tcp.specs.declared.state.State.TheVariants as state
use Rattle.sock_tcp.proofs.Explaining.{absurdly, answered_is, behind_by, bytes_is, come_of, fin_is, kinds_by, numbered, place_is, tested_as}

-- ---- what is heard leaves the receive buffer alone

heard_from : (k : Option TcpSeqNumber) (w : View) (now : Instant) (n m : ℕ) (changed : Bool) → (acknowledged w k now n m changed).rx_buffer ≡ w.rx_buffer
unfolding acknowledged duplicate_counted ack_counted una_advanced
heard_from None w now n m changed = refl
heard_from (Some k) w now n m changed = go (is_duplicate w k m changed)
  where
    go : (b : Bool) → (ack_heard b w now k n).rx_buffer ≡ w.rx_buffer
    go true = refl
    go false = refl

heard_keeps : (u : View) (now : Instant) (k : Acked) (s : Segment) → (heard u now k s).rx_buffer ≡ u.rx_buffer
unfolding heard window_taken released timer_set timestamp_taken
heard_keeps u now k s = heard_from s.ack_number (released (window_taken u now s.control s.window_len) k.len) now k.len (length s.payload) _

-- ---- the state table goes on, with the receive buffer as it was

abbrev is_bytes : Bool → Row → Bool
is_bytes true row.InOrder = true
is_bytes false row.BehindGap = true
is_bytes _ _ = false

abbrev is_nothing_new : Row → Bool
is_nothing_new row.NothingNew = true
is_nothing_new _ = false

record Goes (u : View) (t : Advance) : Type 0 where
  pub view : View
  pub buffer : view.rx_buffer ≡ u.rx_buffer
  pub on : t ≡ continues view

-- the bytes are some, and their offset is told by the row
record Fits (first : Bool) (n o : ℕ) : Type 0 where
  pub some : (n == 0) ≡ false
  pub at : (o == 0) ≡ first

fits : (first : Bool) (n o : ℕ) → is_bytes first (bytes_row n o) ≡ true → Fits first n o
fits first n o = go first (n == 0) refl (o == 0) refl
  where
    go : (f b : Bool) → (n == 0) ≡ b → (c : Bool) → (o == 0) ≡ c → is_bytes f (if b then row.BareAck else (if c then row.InOrder else row.BehindGap)) ≡ true → Fits f n o
    go true true p c q h = absurdly false refl h
    go false true p c q h = absurdly false refl h
    go true false p true q h = record { some = p; at = q }
    go true false p false q h = absurdly false refl h
    go false false p true q h = absurdly false refl h
    go false false p false q h = record { some = p; at = q }

not_last : (first : Bool) (old : Bool) (n o : ℕ) → is_bytes first (if old then row.NothingNew else bytes_row n o) ≡ true → is_bytes first (bytes_row n o) ≡ true
not_last true true n o h = absurdly false refl h
not_last false true n o h = absurdly false refl h
not_last first false n o h = h

fits_plain : (first : Bool) (old : Bool) (st : State) (n o : ℕ) → is_bytes first (plain_row old st n o) ≡ true → Fits first n o
fits_plain true old state.Closed n o h = absurdly false refl h
fits_plain false old state.Closed n o h = absurdly false refl h
fits_plain true old state.TimeWait n o h = absurdly false refl h
fits_plain false old state.TimeWait n o h = absurdly false refl h
fits_plain first old state.LastAck n o h = fits first n o (not_last first old n o h)
fits_plain first old _ n o h = fits first n o h

-- in LAST-ACK it goes on where something new is acknowledged, or by the RFCs' rules
last_goes_on : (first : Bool) (r : Rules) (k : Acked) (b : Bool) (n o : ℕ) → k.fin ≡ false → (k.len == 0) ≡ b → is_bytes first (if no_news_by r k then row.NothingNew else bytes_row n o) ≡ true → (if b then nothing_new_by r else next.Continue) ≡ next.Continue
last_goes_on first rules.Rfc k true n o f e h = refl
last_goes_on first rules.Rfc k false n o f e h = refl
last_goes_on first rules.Smoltcp k false n o f e h = refl
last_goes_on first rules.Smoltcp k true n o f e h = no_such first (not k.fin && k.len == 0) (ap (λ x. not x && k.len == 0) f ∙ e) h
  where
    no_such : (g old : Bool) → old ≡ true → is_bytes g (if old then row.NothingNew else bytes_row n o) ≡ true → nothing_new_by rules.Smoltcp ≡ next.Continue
    no_such true true p q = absurdly false refl q
    no_such false true p q = absurdly false refl q
    no_such g false p q = absurdly false refl p

last_goes : (first : Bool) (len : ℕ) (fin all : Bool) (u : View) (a : Arrival) (n o : ℕ) → is_bytes first (if no_news_by u.rules (record { len = len; fin = fin; all = all }) then row.NothingNew else bytes_row n o) ≡ true → Goes u (advance_in state.LastAck control.None fin u a len)
last_goes first len true all u a n o h = record { view = dropped u; buffer = refl; on = refl }
last_goes first len false all u a n o h = record { view = u; buffer = refl; on = ap (λ x. record { view = u; next = x }) (last_goes_on first u.rules (record { len = len; fin = false; all = all }) (len == 0) n o refl refl h) }

plain_goes : (first : Bool) (len : ℕ) (fin all : Bool) (st : State) (u : View) (a : Arrival) (n o : ℕ) → has_window st ≡ true → is_bytes first (plain_row (no_news_by u.rules (record { len = len; fin = fin; all = all })) st n o) ≡ true → Goes u (advance_in st control.None fin u a len)
plain_goes first len fin all state.LastAck u a n o e h = last_goes first len fin all u a n o h
plain_goes first len fin all state.SynReceived u a n o e h = record { view = moved_to state.Established u; buffer = refl; on = refl }
plain_goes first len fin all state.Established u a n o e h = record { view = u; buffer = refl; on = refl }
plain_goes first len true all state.FinWait1 u a n o e h = record { view = moved_to state.FinWait2 u; buffer = refl; on = refl }
plain_goes first len false all state.FinWait1 u a n o e h = record { view = u; buffer = refl; on = refl }
plain_goes first len fin all state.FinWait2 u a n o e h = record { view = u; buffer = refl; on = refl }
plain_goes first len fin all state.CloseWait u a n o e h = record { view = u; buffer = refl; on = refl }
plain_goes first len true all state.Closing u a n o e h = record { view = waiting a.now u; buffer = refl; on = refl }
plain_goes first len false all state.Closing u a n o e h = record { view = u; buffer = refl; on = refl }
plain_goes true len fin all state.Closed u a n o e h = absurdly false refl h
plain_goes false len fin all state.Closed u a n o e h = absurdly false refl h
plain_goes true len fin all state.TimeWait u a n o e h = absurdly false refl h
plain_goes false len fin all state.TimeWait u a n o e h = absurdly false refl h
plain_goes first len fin all _ u a n o e h = absurd cc

-- ---- the bytes

record Takes (first : Bool) (v : View) (a : Arrival) (o : Outcome) : Type 0 where
  pub view : View
  pub buffer : view.rx_buffer ≡ v.rx_buffer
  pub offset : ℕ
  pub at : (offset == 0) ≡ first
  pub bytes : List ℕ
  pub some : (length bytes == 0) ≡ false
  pub same : o ≡ bytes_taken view a.now offset bytes a.segment

goes_to : (u : View) (a : Arrival) (o : ℕ) (bs : List ℕ) (w : View) → advance_in u.state control.None (acked_by u a).fin u a (acked_by u a).len ≡ continues w → processed_inside u a control.None o bs ≡ bytes_taken (heard w a.now (acked_by u a) a.segment) a.now o bs a.segment
unfolding advanced processed_inside
goes_to u a o bs w e = ap (λ t. after_table t a (acked_by u a) o bs) e

plain_takes : (first : Bool) (v : View) (a : Arrival) (o : ℕ) (bs : List ℕ) → has_window v.state ≡ true → is_bytes first (plain_row (has_no_news v a.segment) v.state (length bs) o) ≡ true → Takes first v a (processed_inside (numbered v a) a control.None o bs)
plain_takes first v a o bs e h =
    let g = plain_goes first (acked_by (numbered v a) a).len (acked_by (numbered v a) a).fin (acked_by (numbered v a) a).all v.state (numbered v a) a (length bs) o e h in
    let f = fits_plain first (has_no_news v a.segment) v.state (length bs) o h in
    record {
      view = heard g.view a.now (acked_by (numbered v a) a) a.segment;
      buffer = heard_keeps g.view a.now (acked_by (numbered v a) a) a.segment ∙ g.buffer;
      offset = o;
      at = f.at;
      bytes = bs;
      some = f.some;
      same = goes_to (numbered v a) a o bs g.view g.on;
    }

-- of each kind of row of bytes
module _ (first : Bool) (opens : is_bytes first row.Opens ≡ false) (counts : is_bytes first row.Reset ≡ false) (ignores : is_bytes first row.Ignored ≡ false) (fins : is_bytes first row.Fin ≡ false) (hears : is_bytes first row.HeardOutside ≡ false) (old : is_bytes first row.OldDuplicate ≡ false) (beyond : is_bytes first row.BeyondWindow ≡ false) (outside : is_bytes first row.ResetOutside ≡ false) where
  inside_takes : (v : View) (a : Arrival) (c : TcpControl) (o : ℕ) (bs : List ℕ) → has_window v.state ≡ true → is_bytes first (counted_row (has_no_news v a.segment) v.state c (length bs) o) ≡ true → Takes first v a (processed_inside (numbered v a) a c o bs)
  inside_takes v a control.None o bs e h = plain_takes first v a o bs e h
  inside_takes v a control.Rst o bs e h = absurdly (is_bytes first row.Reset) counts h
  inside_takes v a control.Syn o bs e h = absurdly (is_bytes first row.Ignored) ignores h
  inside_takes v a control.Psh o bs e h = absurdly (is_bytes first row.Ignored) ignores h
  inside_takes v a control.Fin o bs e h = absurdly (is_bytes first (fin_row v.state)) (fin_is (is_bytes first) fins ignores v.state) h

  not_opening : (c : TcpControl) → is_bytes first (opening_row c) ≡ false
  not_opening control.Rst = counts
  not_opening control.Syn = opens
  not_opening _ = ignores

  bytes_rows : (r : Rules) (v : View) (a : Arrival) → is_bytes first (tested_row r (accepted_window r v) (has_window v.state) v a.segment) ≡ true → Takes first v a (tested_by r (has_window v.state) v a)
  bytes_rows r v a =
      tested_as (λ x o. is_bytes first x ≡ true → Takes first v a o) r v a record {
        opening = λ e. absurdly (is_bytes first (opening_row a.segment.control)) (not_opening a.segment.control);
        inside = λ e c o bs. inside_takes v a c o bs e;
        fin = absurdly (is_bytes first (fin_row v.state)) (fin_is (is_bytes first) fins ignores v.state);
        heard = absurdly (is_bytes first row.HeardOutside) hears;
        answered = λ e. absurdly (is_bytes first (answered_row a.segment.control (accepted_window r v) a.segment.seq_number)) (answered_is (is_bytes first) old beyond outside a.segment.control (accepted_window r v) a.segment.seq_number);
        placed = absurdly (is_bytes first (place_row (accepted_window r v) a.segment.seq_number)) (place_is (is_bytes first) old beyond (accepted_window r v) a.segment.seq_number);
      }

record TakesBehind (first : Bool) (r : Rules) (v : View) (now : Instant) (s : Segment) (o : Outcome) : Type 0 where
  pub view : View
  pub buffer : view.rx_buffer ≡ v.rx_buffer
  pub offset : ℕ
  pub at : (offset == 0) ≡ first
  pub bytes : List ℕ
  pub some : (length bytes == 0) ≡ false
  pub same : o ≡ behind_by r v now s (bytes_taken view now offset bytes (windowed r v s))

takes_behind : (first : Bool) (r : Rules) (v : View) (now : Instant) (word : ℕ) (ip : IpRepr) (s : Segment) (o : Outcome) → Takes first v (come_of r v now word ip s) o → TakesBehind first r v now s (behind_by r v now s o)
takes_behind first r v now word ip s o k = record { view = k.view; buffer = k.buffer; offset = k.offset; at = k.at; bytes = k.bytes; some = k.some; same = ap (behind_by r v now s) k.same }

in_order : (r : Rules) (v : View) (now : Instant) (word : ℕ) (ip : IpRepr) (s : Segment) → is_bytes true (row_by r v now s) ≡ true → TakesBehind true r v now s (processed_by r v now word ip s)
in_order r v now word ip s =
    kinds_by (is_bytes true) refl refl refl refl refl refl refl refl refl refl refl (TakesBehind true r v now s) r v now word ip s (λ h. takes_behind true r v now word ip s _ (bytes_rows true refl refl refl refl refl refl refl refl r v (come_of r v now word ip s) h))

behind_gap : (r : Rules) (v : View) (now : Instant) (word : ℕ) (ip : IpRepr) (s : Segment) → is_bytes false (row_by r v now s) ≡ true → TakesBehind false r v now s (processed_by r v now word ip s)
behind_gap r v now word ip s =
    kinds_by (is_bytes false) refl refl refl refl refl refl refl refl refl refl refl (TakesBehind false r v now s) r v now word ip s (λ h. takes_behind false r v now word ip s _ (bytes_rows false refl refl refl refl refl refl refl refl r v (come_of r v now word ip s) h))

to_taken : (first : Bool) (v : View) (now : Instant) (s : Segment) (o : Outcome) → TakesBehind first v.rules v now s o → IsTaken first v now s o
to_taken first v now s o k = record { view = k.view; buffer = k.buffer; offset = k.offset; at = k.at; bytes = k.bytes; some = k.some; outcome = k.same }

pub in_order_are_taken : InOrderAreTaken
unfolding row_of
in_order_are_taken v now word ip s h = to_taken true v now s _ (in_order v.rules v now word ip s (ap (is_bytes true) h))

pub behind_gap_are_taken : BehindGapAreTaken
unfolding row_of
behind_gap_are_taken v now word ip s h = to_taken false v now s _ (behind_gap v.rules v now word ip s (ap (is_bytes false) h))

-- ---- nothing new in LAST-ACK

abbrev challenges : View → Advance
challenges u = record { view = u; next = next.Challenge }

none_new : (n o : ℕ) → is_nothing_new (bytes_row n o) ≡ false
none_new n o = bytes_is is_nothing_new refl refl refl n o

last_new_by : (r : Rules) (b : Bool) (k : Acked) (n o : ℕ) → k.fin ≡ false → (k.len == 0) ≡ b → is_nothing_new (if no_news_by r k then row.NothingNew else bytes_row n o) ≡ true → (if b then nothing_new_by r else next.Continue) ≡ next.Challenge
last_new_by rules.Rfc b k n o f e h = absurdly (is_nothing_new (bytes_row n o)) (none_new n o) h
last_new_by rules.Smoltcp true k n o f e h = refl
last_new_by rules.Smoltcp false k n o f e h = no_such (not k.fin && k.len == 0) (ap (λ x. not x && k.len == 0) f ∙ e) h
  where
    no_such : (old : Bool) → old ≡ false → is_nothing_new (if old then row.NothingNew else bytes_row n o) ≡ true → next.Continue ≡ next.Challenge
    no_such true p q = absurdly true p refl
    no_such false p q = absurdly (is_nothing_new (bytes_row n o)) (none_new n o) q

last_new : (len : ℕ) (fin all : Bool) (u : View) (a : Arrival) (n o : ℕ) → is_nothing_new (if no_news_by u.rules (record { len = len; fin = fin; all = all }) then row.NothingNew else bytes_row n o) ≡ true → advance_in state.LastAck control.None fin u a len ≡ challenges u
last_new len true all u a n o h = go u.rules h
  where
    go : (r : Rules) → is_nothing_new (if no_news_by r (record { len = len; fin = true; all = all }) then row.NothingNew else bytes_row n o) ≡ true → continues (dropped u) ≡ challenges u
    go rules.Smoltcp q = absurdly (is_nothing_new (bytes_row n o)) (none_new n o) q
    go rules.Rfc q = absurdly (is_nothing_new (bytes_row n o)) (none_new n o) q
last_new len false all u a n o h = ap (λ x. record { view = u; next = x }) (last_new_by u.rules (len == 0) (record { len = len; fin = false; all = all }) n o refl refl h)

plain_new : (len : ℕ) (fin all : Bool) (st : State) (u : View) (a : Arrival) (n o : ℕ) → is_nothing_new (plain_row (no_news_by u.rules (record { len = len; fin = fin; all = all })) st n o) ≡ true → advance_in st control.None fin u a len ≡ challenges u
plain_new len fin all state.LastAck u a n o h = last_new len fin all u a n o h
plain_new len fin all state.Closed u a n o h = absurdly false refl h
plain_new len fin all state.TimeWait u a n o h = absurdly false refl h
plain_new len fin all _ u a n o h = absurdly (is_nothing_new (bytes_row n o)) (none_new n o) h

record Challenges (v : View) (a : Arrival) (o : Outcome) : Type 0 where
  pub view : View
  pub number : ButNumber v view
  pub same : o ≡ challenged view a.now a.segment

challenged_so : (u : View) (a : Arrival) (o : ℕ) (bs : List ℕ) → advance_in u.state control.None (acked_by u a).fin u a (acked_by u a).len ≡ challenges u → processed_inside u a control.None o bs ≡ challenged u a.now a.segment
unfolding advanced processed_inside
challenged_so u a o bs e = ap (λ t. after_table t a (acked_by u a) o bs) e

inside_new : (v : View) (a : Arrival) (c : TcpControl) (o : ℕ) (bs : List ℕ) → is_nothing_new (counted_row (has_no_news v a.segment) v.state c (length bs) o) ≡ true → Challenges v a (processed_inside (numbered v a) a c o bs)
inside_new v a control.None o bs h = record { view = numbered v a; number = refl; same = challenged_so (numbered v a) a o bs (plain_new (acked_by (numbered v a) a).len (acked_by (numbered v a) a).fin (acked_by (numbered v a) a).all v.state (numbered v a) a (length bs) o h) }
inside_new v a control.Fin o bs h = absurdly (is_nothing_new (fin_row v.state)) (fin_is is_nothing_new refl refl v.state) h
inside_new v a control.Rst o bs h = absurdly false refl h
inside_new v a control.Syn o bs h = absurdly false refl h
inside_new v a control.Psh o bs h = absurdly false refl h

new_rows : (r : Rules) (v : View) (a : Arrival) → is_nothing_new (tested_row r (accepted_window r v) (has_window v.state) v a.segment) ≡ true → Challenges v a (tested_by r (has_window v.state) v a)
new_rows r v a =
    tested_as (λ x o. is_nothing_new x ≡ true → Challenges v a o) r v a record {
      opening = λ e. absurdly (is_nothing_new (opening_row a.segment.control)) (not_opened a.segment.control);
      inside = λ e c o bs. inside_new v a c o bs;
      fin = absurdly (is_nothing_new (fin_row v.state)) (fin_is is_nothing_new refl refl v.state);
      heard = absurdly false refl;
      answered = λ e. absurdly (is_nothing_new (answered_row a.segment.control (accepted_window r v) a.segment.seq_number)) (answered_is is_nothing_new refl refl refl a.segment.control (accepted_window r v) a.segment.seq_number);
      placed = absurdly (is_nothing_new (place_row (accepted_window r v) a.segment.seq_number)) (place_is is_nothing_new refl refl (accepted_window r v) a.segment.seq_number);
    }
  where
    not_opened : (c : TcpControl) → is_nothing_new (opening_row c) ≡ false
    not_opened control.Rst = refl
    not_opened control.Syn = refl
    not_opened _ = refl

record ChallengesBehind (r : Rules) (v : View) (now : Instant) (s : Segment) (o : Outcome) : Type 0 where
  pub view : View
  pub number : ButNumber v view
  pub same : o ≡ behind_by r v now s (challenged view now (windowed r v s))

new_behind : (r : Rules) (v : View) (now : Instant) (word : ℕ) (ip : IpRepr) (s : Segment) (o : Outcome) → Challenges v (come_of r v now word ip s) o → ChallengesBehind r v now s (behind_by r v now s o)
new_behind r v now word ip s o k = record { view = k.view; number = k.number; same = ap (behind_by r v now s) k.same }

new_challenged : (r : Rules) (v : View) (now : Instant) (word : ℕ) (ip : IpRepr) (s : Segment) → is_nothing_new (row_by r v now s) ≡ true → ChallengesBehind r v now s (processed_by r v now word ip s)
new_challenged r v now word ip s =
    kinds_by is_nothing_new refl refl refl refl refl refl refl refl refl refl refl (ChallengesBehind r v now s) r v now word ip s (λ h. new_behind r v now word ip s _ (new_rows r v (come_of r v now word ip s) h))

pub nothing_new_is_challenged : NothingNewIsChallenged
unfolding row_of
nothing_new_is_challenged v now word ip s h = to (new_challenged v.rules v now word ip s (ap is_nothing_new h))
  where
    to : {o : Outcome} → ChallengesBehind v.rules v now s o → IsOfNothingNew v now s o
    to k = record { view = k.view; number = k.number; outcome = k.same }
