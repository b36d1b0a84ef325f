-- What a socket tells by SACK is what it holds.
use Rattle.std.proofs.Common.{◌≡◌, ℕ, ◌+◌, ◌-◌, Bool, true, false, refl, sym, ap, subst, ◌∙◌, arith, List, [], ◌∷◌, length, Option, Some, None, ◌||◌, ◌&&◌, inl, inr}
use Rattle.std.specs.Prelude.{int_lt, nat_lt, ◌==◌, if◌then◌else◌, slice_get, option_map}
use Rattle.std.proofs.lemmas.Option.{none-some}
use Rattle.ip_wire.specs.declared.repr.IpRepr.{IpRepr}
use Rattle.net_base.specs.Ranges.{edges}
use Rattle.net_base.specs.declared.time.Instant.{Instant}
use Rattle.control_wire.specs.Segment.{Segment}
use Rattle.control_wire.specs.Seq.{seq_add}
use Rattle.control_wire.specs.declared.tcp.TcpControl.{TcpControl}
use Rattle.control_wire.specs.declared.tcp.TcpControl.TheVariants as control
use Rattle.sock_core.specs.Facts.{Facts}
use Rattle.sock_core.specs.Received.{holds_nothing, makes_fifth_range, ranges_of}
use Rattle.sock_core.proofs.Receiving.{ranges_are}
use Rattle.sock_tcp.specs.Acked.{acked_of}
use Rattle.sock_tcp.specs.Advance.{advance_in, advanced, counted_control}
use Rattle.sock_tcp.specs.Arrival.{Arrival, arrival}
use Rattle.sock_tcp.specs.Begin.{before_emit, peer_of}
use Rattle.sock_tcp.specs.Content.{Sending, content, emission_kind, filled, of_kind, plain_segment, sent_as}
use Rattle.sock_tcp.specs.Closing.{closed_from}
use Rattle.sock_tcp.specs.Process.{Outcome, ack_sent, after_advance, by_verdict, bytes_taken, challenged, close_restarted, closed_then, cut_inside, gap_answered, has_window, outside, outside_by, processed_by, processed_inside, stopped, tested_by, tuple_of, without_place}
use Rattle.sock_tcp.specs.Replies.{ack_kept, ack_segment, chosen_range, rst_segment, is_same, sack_ranges, second_range, third_range, told_by, told_of, wire_edges}
use Rattle.sock_tcp.specs.Rfc.Checks.{verdict_by}
use Rattle.sock_tcp.specs.Rfc.Duplicates.{duplicate_told}
use Rattle.sock_tcp.specs.Rfc.Recovery.{before_of, recovered, recovered_by}
use Rattle.sock_tcp.specs.Rfc.Refused.{refused}
use Rattle.sock_tcp.specs.Rfc.Windows.{windowed}
use Rattle.sock_tcp.specs.Steps.{ack_delayed, heard, joined}
use Rattle.sock_tcp.specs.Timers.{after, challenge_interval}
use Rattle.sock_tcp.specs.View.{View, moment_of}
use Rattle.sock_tcp.specs.Window.{cut_of, is_inside, next_ack, accepted_window}
use Rattle.sock_tcp.specs.declared.acked.Acked.{Acked}
use Rattle.sock_tcp.specs.declared.advance.Next.{Next}
use Rattle.sock_tcp.specs.declared.advance.Next.TheVariants as next
use Rattle.sock_tcp.specs.declared.emission.Kind.{Kind}
use Rattle.sock_tcp.specs.declared.emission.Kind.TheVariants as kind
use Rattle.sock_tcp.specs.declared.rules.Rules.{Rules}
use Rattle.sock_tcp.specs.declared.rules.Rules.TheVariants as rules
use Rattle.sock_tcp.specs.declared.state.State.{State}
use Rattle.sock_tcp.specs.declared.state.State.TheVariants as state
use Rattle.sock_tcp.specs.declared.tuple.Tuple.{Tuple}
use Rattle.sock_tcp.specs.declared.verdict.Verdict.{Verdict}
use Rattle.sock_tcp.specs.declared.verdict.Verdict.TheVariants as verdicts
use Rattle.sock_tcp.proofs.Late.{closed_as}
use Rattle.sock_tcp.proofs.Recovering.{recovered_as}
use Rattle.sock_tcp.proofs.Refusing.{heard_alone, refused_as}
use Rattle.sock_tcp.specs.Due.{own_mss, ranges_or, sent_ranges, tells_ranges}
use Rattle.sock_tcp.specs.Sack.{tells_by}
use Rattle.sock_tcp.specs.Sent.{after_any, after_probe, snd_nxt_moved}
use Rattle.tcp_laws.proofs.Kept.{KeptBySending, sends_kept}
use Rattle.tcp_laws.proofs.HeldRanges.{AllOf, AnyOf, all_of, chosen_of, got_of}
use Rattle.tcp_laws.proofs.Duplicates.{SaysHeld, duplicate_says}
use Rattle.tcp_laws.proofs.Ruled.{before_ruled}
use Rattle.tcp_laws.specs.SocketRun.{Dispatched, SendsTo}
use Rattle.tcp_laws.specs.Telling.{AllHeld, TellsHeld}

-- ---- an acknowledgement tells it

abbrev Says : Outcome → Type 0
Says o = SaysHeld o.view o.reply

-- beside the chosen one: any two of them
if_of : (hs : List (Option ℕ)) (b : Bool) (r s : Option (ℕ × ℕ)) → AnyOf hs r → AnyOf hs s → AnyOf hs (if b then r else s)
if_of hs true r s a b = a
if_of hs false r s a b = b

module _ (v : View) where
  ranges_held : AllHeld v (sack_ranges v)
  unfolding sack_ranges
  ranges_held = go v.remote_has_sack
    where
      hs : List (Option ℕ)
      hs = v.rx_buffer.held

      rs : List (ℕ × ℕ)
      rs = edges (ranges_of hs)

      all : AllOf hs rs
      all = let a = ranges_are hs in all_of hs 0 (ranges_of hs) a.0 (λ k e. sym (a.1 k) ∙ e)

      c : Option (ℕ × ℕ)
      c = chosen_range rs (next_ack v) v.local_rx_last_seq

      chosen : AnyOf hs c
      chosen = chosen_of hs rs (next_ack v) v.local_rx_last_seq all

      second : AnyOf hs (second_range c rs)
      second = if_of hs (is_same c (slice_get rs 0)) (slice_get rs 1) (slice_get rs 0) (got_of hs rs 1 all) (got_of hs rs 0 all)

      third : AnyOf hs (third_range c rs)
      third = if_of hs (is_same c (slice_get rs 0) || is_same c (slice_get rs 1)) (slice_get rs 2) (slice_get rs 1) (got_of hs rs 2 all) (got_of hs rs 1 all)

      told : (o : Option (ℕ × ℕ)) (more : List (Option (ℕ × ℕ))) → AnyOf hs o → AllHeld v more → AllHeld v (option_map (wire_edges (next_ack v)) o ∷ more)
      told None more a b = b
      told (Some r) more a b = (
        record {
          start = r.0;
          len = r.1 - r.0;
          some = omega (arith, a.some);
          begins = refl;
          ends = ap (λ n. (seq_add (next_ack v) n).0) {x = r.1} {y = r.0 + (r.1 - r.0)} (omega (arith, a.some));
          all = λ k less. a.held (r.0 + k) (omega arith) (omega (arith, a.some, less));
        },
        b,
      )

      by : (r : Rules) → AllHeld v (told_by r (next_ack v) c rs)
      by rules.Smoltcp = told c (None ∷ None ∷ []) chosen tt
      by rules.Rfc = told c _ chosen (told (second_range c rs) _ second (told (third_range c rs) [] third tt))

      go : (b : Bool) → AllHeld v (if b then told_of v.rules (next_ack v) v.local_rx_last_seq rs else None ∷ None ∷ None ∷ [])
      go true = by v.rules
      go false = tt

module _ (s : Segment) where
  acknowledges_held : (v : View) → AllHeld v (ack_segment v s).sack_ranges
  unfolding ack_segment
  acknowledges_held v = ranges_held v

  acked_says : (w : View) → Says (ack_sent w s)
  unfolding ack_kept
  acked_says w = acknowledges_held w

  module _ (now : Instant) where
    challenged_says : (w : View) → Says (challenged w now s)
    unfolding challenged
    challenged_says w = go (int_lt now.micros w.challenge_ack_timer.micros)
      where
        go : (b : Bool) → Says (if b then stopped w else ack_sent (record w { challenge_ack_timer = after now challenge_interval }) s)
        go true = tt
        go false = acked_says (record w { challenge_ack_timer = after now challenge_interval })

    outside_says : (w : View) → Says (outside w now s)
    unfolding outside
    outside_says w = by s.control
      where
        bytes_or_none : (b : Bool) → Says (if b then challenged (close_restarted w now) now s else ack_sent (close_restarted w now) s)
        bytes_or_none true = challenged_says (close_restarted w now)
        bytes_or_none false = acked_says (close_restarted w now)

        by : (c : TcpControl) → Says (outside_by c (length s.payload) w now s)
        by control.Rst = tt
        by control.Syn = challenged_says (close_restarted w now)
        by control.None = bytes_or_none (length s.payload == 0)
        by control.Psh = bytes_or_none (length s.payload == 0)
        by control.Fin = bytes_or_none (length s.payload == 0)

    bytes_say : (w : View) (o : ℕ) (bs : List ℕ) → Says (bytes_taken w now o bs s)
    unfolding bytes_taken
    bytes_say w o bs = go (length bs == 0)
      where
        u : View
        u = ack_delayed (joined w o bs) now

        gap : (b : Bool) → Says (if b then stopped u else ack_sent u s)
        gap true = tt
        gap false = acked_says u

        placeless : (r : Rules) → Says (without_place r w s)
        placeless rules.Smoltcp = tt
        placeless rules.Rfc = acked_says w

        away : (b : Bool) → Says (if b then without_place w.rules w s else gap_answered w u s)
        away true = placeless w.rules
        away false = gap (holds_nothing w.rx_buffer.held && holds_nothing u.rx_buffer.held)

        go : (b : Bool) → Says (if b then stopped w else (if makes_fifth_range w.rx_buffer o bs then without_place w.rules w s else gap_answered w u s))
        go true = tt
        go false = away (makes_fifth_range w.rx_buffer o bs)

    after_says : (a : Arrival) → a.now ≡ now → a.segment ≡ s → (x : Next) (u : View) (k : Acked) (o : ℕ) (bs : List ℕ) → Says (after_advance x u (record a { now = now; segment = s }) k o bs)
    after_says a n e next.Stop u k o bs = tt
    after_says a n e next.Challenge u k o bs = challenged_says u
    after_says a n e next.Continue u k o bs = bytes_say (heard u now k s) o bs

-- ---- the whole

module _ (now : Instant) (word : ℕ) (ip : IpRepr) (s : Segment) where
  abbrev come : Arrival
  come = arrival now (tuple_of ip s) word s

  inside_says : (u : View) (c : TcpControl) (o : ℕ) (bs : List ℕ) → Says (processed_inside u come c o bs)
  unfolding processed_inside advanced
  inside_says u c o bs =
      let a = acked_of u s.control s.ack_number in
      let x = advance_in u.state c a.fin u come a.len in
      after_says s now come refl refl x.next x.view a o bs

  refused_says : (r : Rules) (v : View) → Says (refused r v come)
  refused_says r v = refused_as Says r v come (record {
    answers = outside_says s now v;
    counts = λ e. inside_says v control.Fin 0 [];
    hears = λ e. inside_says v control.None 0 [];
    ends = λ e. tt;
    goes_on = λ e. outside_says s now (heard_alone v come).view;
  })

  tested_says : (r : Rules) (v : View) (b : Bool) → Says (tested_by r b v come)
  tested_says r v false = inside_says v s.control 0 []
  tested_says r v true = go (is_inside (accepted_window r v) s.seq_number (length s.payload))
    where
      go : (b : Bool) → Says (if b then cut_inside (accepted_window r v) (cut_of (accepted_window r v) s.seq_number (length s.payload)) v come else refused r v come)
      go false = refused_says r v
      go true = inside_says (record v { local_rx_last_seq = Some s.seq_number }) (counted_control s.control (accepted_window r v) s.seq_number (length s.payload)) _ _

  -- what is done of loss changes neither what is held nor what is answered
  recovered_says : (v : View) (o : Outcome) → Says o → Says (record { view = recovered (before_of v s) o.view now; reply = o.reply })
  unfolding recovered
  recovered_says v o h = go o.reply h
    where
      go : (r : Option Segment) → SaysHeld o.view r → SaysHeld (recovered (before_of v s) o.view now) r
      go None h = tt
      go (Some x) h = h

  -- nor does a close that waited
  closed_says : (o : Outcome) → Says o → Says (record { view = record o.view { state = closed_from o.view.state }; reply = o.reply })
  closed_says o h = go o.reply h
    where
      go : (r : Option Segment) → SaysHeld o.view r → SaysHeld (record o.view { state = closed_from o.view.state }) r
      go None h = tt
      go (Some x) h = h

  passed_says : (r : Rules) (v : View) → Says (closed_then r (recovered_by r v now s (tested_by r (has_window v.state) v come)))
  passed_says r v = let o = tested_by r (has_window v.state) v come in let h = tested_says r v (has_window v.state) in let j = recovered_as Says r v now s o h (recovered_says v o h) in closed_as Says r (recovered_by r v now s o) j (closed_says (recovered_by r v now s o) j)

  only_held : (r : Rules) (v w : View) (x : Option Segment) → SaysHeld w x → TellsHeld r v s w x
  only_held r v w None h = tt
  only_held rules.Smoltcp v w (Some x) h = h
  only_held rules.Rfc v w (Some x) h = inl h

  then_says : (r : Rules) (v w : View) (x : Option Segment) → SaysHeld w x → TellsHeld r v s w (duplicate_told r v s x)
  then_says rules.Smoltcp v w x h = only_held rules.Smoltcp v w x h
  then_says rules.Rfc v w None h = tt
  then_says rules.Rfc v w (Some x) h = duplicate_says v s w x h

  verdict_says : (r : Rules) (v : View) (x : Verdict) → TellsHeld r v s (by_verdict r x v come).view (by_verdict r x v come).reply
  verdict_says r v verdicts.Drop = tt
  verdict_says r v verdicts.Reset = only_held r v v (Some (rst_segment s)) tt
  verdict_says r v verdicts.Challenge = only_held r v (challenged v now s).view (challenged v now s).reply (challenged_says s now v)
  verdict_says r v verdicts.Pass = let o = closed_then r (recovered_by r v now s (tested_by r (has_window v.state) v come)) in then_says r v o.view o.reply (passed_says r v)

as_it_came : (r : Rules) (q : Rules) (v w : View) (s : Segment) (x : Option Segment) → TellsHeld q v (windowed r v s) w x → TellsHeld q v s w x
as_it_came r q v w s None h = tt
as_it_came r rules.Smoltcp v w s (Some x) h = h
as_it_came r rules.Rfc v w s (Some x) (inl h) = inl h
as_it_came r rules.Rfc v w s (Some x) (inr t) =
    inr (record { first = t.first; others = t.others; are = t.are; heeds = t.heeds; twice = record { len = t.twice.len; some = t.twice.some; carried = t.twice.carried; begins = t.twice.begins; ends = t.twice.ends; came = t.twice.came }; held = t.held })

pub process_says : (r : Rules) (v : View) (now : Instant) (word : ℕ) (ip : IpRepr) (s : Segment) → TellsHeld r v s (processed_by r v now word ip s).view (processed_by r v now word ip s).reply
unfolding processed_by
process_says r v now word ip s = as_it_came r r v (processed_by r v now word ip s).view s (processed_by r v now word ip s).reply (verdict_says now word ip (windowed r v s) r v (verdict_by r v now s))

-- ---- what a dispatch sends

abbrev pub none_told : List (Option (ℕ × ℕ))
none_told = None ∷ None ∷ None ∷ []

the_sending : {a b : Sending} → Some a ≡ Some b → a ≡ b
the_sending e = cc

-- what is held, or these
or_held : (v : View) (t : Tuple) (f : Facts) (rs : List (Option (ℕ × ℕ))) → AllHeld v rs → AllHeld v (ranges_or v t f rs)
or_held v t f rs h = go (tells_ranges v t f)
  where
    go : (b : Bool) → AllHeld v (if b then sack_ranges v else rs)
    go true = ranges_held v
    go false = h

-- a property of the ranges of a segment, which the plain one has, and what is held beside it
pub record Told (v : View) (t : Tuple) (f : Facts) (P : List (Option (ℕ × ℕ)) → Type 0) : Type 0 where
  pub none : P none_told
  pub held : P (sent_ranges v t f)

module _ (P : List (Option (ℕ × ℕ)) → Type 0) (v : View) (t : Tuple) (f : Facts) (k : Told v t f P) (bytes : List ℕ) where
  abbrev Says_or_not : Option Segment → Type 0
  Says_or_not None = Unit {0}
  Says_or_not (Some s) = P s.sack_ranges

  beside : (s : Segment) → s.sack_ranges ≡ none_told → P (ranges_or v t f s.sack_ranges)
  beside s e = subst (λ rs. P (ranges_or v t f rs)) (sym e) k.held

  filled_says : (st : State) (s : Segment) → s.sack_ranges ≡ none_told → Says_or_not (filled st v t f bytes s)
  filled_says state.Closed s e = subst P (sym e) k.none
  filled_says state.Listen s e = tt
  filled_says state.SynSent s e = subst P (sym e) k.none
  filled_says state.SynReceived s e = subst P (sym e) k.none
  filled_says state.Established s e = beside s e
  filled_says state.FinWait1 s e = beside s e
  filled_says state.FinWait2 s e = beside s e
  filled_says state.CloseWait s e = beside s e
  filled_says state.Closing s e = beside s e
  filled_says state.LastAck s e = beside s e
  filled_says state.TimeWait s e = subst P (sym e) k.none

  kind_says : (x : Kind) (s : Segment) → P s.sack_ranges → P (of_kind x v s).sack_ranges
  kind_says kind.KeepAlive s h = h
  kind_says kind.Probe s h = h
  kind_says kind.Plain s h = h

  pub content_says : (stamp : Option ℕ) (c : Sending) → Some c ≡ content v t f stamp bytes → P c.segment.sack_ranges
  unfolding content plain_segment
  content_says stamp c e = go (filled v.state v t f bytes (plain_segment v t stamp)) (filled_says v.state (plain_segment v t stamp) refl) e
    where
      sent : Segment → Sending
      sent s = sent_as v t (emission_kind v (moment_of f) s) s

      go : (o : Option Segment) → Says_or_not o → Some c ≡ option_map sent o → P c.segment.sack_ranges
      go None h e = absurd (none-some c (sym e))
      go (Some s) h e = subst (λ (x : Sending). P x.segment.sack_ranges) (sym (the_sending e)) (kind_says (emission_kind v (moment_of f) s) s h)

pub held_told : (v : View) (t : Tuple) (f : Facts) → Told v t f (AllHeld v)
held_told v t f = record { none = tt; held = or_held v t f none_told tt }

pub nothing_told_by : (v : View) (t : Tuple) (f : Facts) → v.rules ≡ rules.Smoltcp → Told v t f (λ rs. rs ≡ none_told)
nothing_told_by v t f is = record { none = refl; held = ap (λ r. if tells_by r v.remote_has_sack v.rx_buffer.held && nat_lt 36 (own_mss f t) then sack_ranges v else none_told) is }

-- what goes out leaves what is held
pub sending_holds : (rs : List (Option (ℕ × ℕ))) (now : Instant) → KeptBySending (λ x. AllHeld x rs) now
unfolding after_any snd_nxt_moved after_probe
sending_holds rs now = record {
  renews = λ u h. h;
  moves = λ u e h. h;
  times = λ u e h. h;
  probes = λ u h. h;
  arms = λ u at e h. h;
}

pub dispatch_tells_held : (v w : View) (f : Facts) (out : Sending) → Dispatched f v (Some out) w → AllHeld w out.segment.sack_ranges
dispatch_tells_held v w f out h = go (peer_of (before_emit v f)) h
  where
    u : View
    u = (before_emit v f).view

    go : (o : Option Tuple) → SendsTo o f u (Some out) w → AllHeld w out.segment.sack_ranges
    go None d = absurd (none-some out (sym d.0))
    go (Some t) d = sends_kept (λ x. AllHeld x out.segment.sack_ranges) f (sending_holds out.segment.sack_ranges (moment_of f)) (Some t) u w (Some out) d (content_says (AllHeld u) u t f (held_told u t f) d.bytes d.stamp out d.sends)

pub dispatch_tells_nothing : (v w : View) (f : Facts) (out : Sending) → v.rules ≡ rules.Smoltcp → Dispatched f v (Some out) w → out.segment.sack_ranges ≡ none_told
dispatch_tells_nothing v w f out is h = go (peer_of (before_emit v f)) h
  where
    u : View
    u = (before_emit v f).view

    go : (o : Option Tuple) → SendsTo o f u (Some out) w → out.segment.sack_ranges ≡ none_told
    go None d = absurd (none-some out (sym d.0))
    go (Some t) d = content_says (λ rs. rs ≡ none_told) u t f (nothing_told_by u t f (before_ruled rules.Smoltcp f v is)) d.bytes d.stamp out d.sends
