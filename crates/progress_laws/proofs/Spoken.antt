-- What a socket says, number by number, and what stays of it.
use Rattle.std.proofs.Common.{◌||◌, ◌≡◌, ℕ, zero, suc, ◌+◌, ◌-◌, ◌/◌, ◌%◌, min, ◌<◌, ◌≤◌, ◌^◌, Bool, true, false, refl, sym, ap, subst, ◌∙◌, List, length, take, drop, Some, arith}
use Rattle.std.specs.Prelude.{if◌then◌else◌, ◌==◌}
use Rattle.std.proofs.lemmas.Bool.{eqb-true}
use Rattle.std.proofs.lemmas.Option.{same_Some}
use Rattle.net_base.specs.declared.time.Instant.{Instant}
use Rattle.control_wire.specs.Segment.{Segment, control_len, segment_len}
use Rattle.control_wire.specs.Seq.{seq_add, seq_minus, seq_sub}
use Rattle.control_wire.specs.declared.seq_number.TcpSeqNumber.{TcpSeqNumber}
use Rattle.control_wire.specs.declared.tcp.TcpControl.{TcpControl}
use Rattle.control_wire.specs.declared.tcp.TcpControl.TheVariants as control
use Rattle.sock_core.specs.Congestion.{post_transmitted}
use Rattle.sock_core.specs.Facts.{Facts}
use Rattle.sock_tcp.proofs.Arming.{armed_as}
use Rattle.sock_tcp.proofs.Lending.{lent_at_most, lent_beginning}
use Rattle.sock_tcp.specs.Rfc.Idle.{idle_by, restarted_by}
use Rattle.sock_tcp.specs.declared.rules.Rules.TheVariants as rules
use Rattle.sock_tcp.specs.declared.rules.Rules.{Rules}
use Rattle.sock_tcp.specs.Begin.{after_timer, fast_retransmission_marked, readied, retransmission_begun, probing_begun, timers_by}
use Rattle.sock_tcp.specs.Rfc.TailLoss.{probes_tail, probed_by, tail_probed}
use Rattle.sock_tcp.specs.Content.{Sending, aside_field, asked, carries_data, data_control, emission_kind, hole_of, offset_of, plain_segment, sent_as}
use Rattle.sock_tcp.specs.Due.{flight, is_closing, window_field}
use Rattle.sock_tcp.specs.Rfc.OwnWindow.{space_field}
use Rattle.sock_tcp.specs.Queue.{Queue}
use Rattle.sock_tcp.specs.Rfc.RoundTrips.{sending_measured}
use Rattle.sock_tcp.specs.Sent.{goes_on, after_any, after_kind, after_probe, after_sending, emitted_as, sending_timed, snd_nxt_moved}
use Rattle.sock_tcp.specs.Timers.{is_over, retransmit_unless_set}
use Rattle.sock_tcp.proofs.Holes.{number_at, start_within}
use Rattle.sock_tcp.specs.Rfc.Scoreboard.{hole_number, hole_start}
use Rattle.sock_tcp.specs.View.{View, moment_of}
use Rattle.sock_tcp.specs.Window.{next_ack}
use Rattle.sock_tcp.specs.declared.emission.Emitted.{Emitted}
use Rattle.sock_tcp.specs.declared.emission.Kind.{Kind}
use Rattle.sock_tcp.specs.declared.emission.Kind.TheVariants as kind
use Rattle.sock_tcp.specs.declared.timer.Timer.{Timer}
use Rattle.sock_tcp.specs.declared.timer.Timer.TheVariants as timer
use Rattle.sock_tcp.specs.declared.tuple.Tuple.{Tuple}
use Rattle.tcp_laws.proofs.Ordered.{no_distance}
use Rattle.tcp_laws.proofs.OrderedCalls.{reached_ordered}
use Rattle.tcp_laws.specs.Polling.{IsReached}
use Rattle.progress_laws.specs.Delivery.{HasSaid, HearsOf, ProbesNext}
use Rattle.progress_laws.specs.Speech.{FromUna, KeepsAlive, Probes, SendsOk, Speech}
pub use Rattle.progress_laws.proofs.Hears.{IsSaid}
use Rattle.progress_laws.proofs.Begins.{Alike, beginning, carries_runs, content_is, dispatch_reached, goes_out, readied_alike, segment_for, told_for}
use Rattle.progress_laws.proofs.Sends.{smoltcp_field}

-- ---- what a dispatch leaves alone

-- x has of v the state, the rules, the queues, and the numbers but SND.NXT
pub record Still (v x : View) : Type 0 where
  pub state : x.state ≡ v.state
  pub same_rules : x.rules ≡ v.rules
  pub una : x.local_seq_no ≡ v.local_seq_no
  pub tx : x.tx_buffer ≡ v.tx_buffer
  pub rx : x.rx_buffer ≡ v.rx_buffer
  pub rcv : x.remote_seq_no ≡ v.remote_seq_no
  pub shift : x.remote_win_shift ≡ v.remote_win_shift

unmoved : (v : View) → Still v v
unmoved v = record { state = refl; same_rules = refl; una = refl; tx = refl; rx = refl; rcv = refl; shift = refl }

pub then_still : (a b c : View) → Still a b → Still b c → Still a c
then_still a b c x y = record { state = y.state ∙ x.state; same_rules = y.same_rules ∙ x.same_rules; una = y.una ∙ x.una; tx = y.tx ∙ x.tx; rx = y.rx ∙ x.rx; rcv = y.rcv ∙ x.rcv; shift = y.shift ∙ x.shift }

timer_still : (tm : Timer) (x : View) (now : Instant) → Still x (after_timer tm x now)
unfolding retransmission_begun fast_retransmission_marked
timer_still (timer.Retransmit at) x now = go (is_over at now)
  where
    go : (b : Bool) → Still x (if b then retransmission_begun x now else x)
    go true = record { state = refl; same_rules = refl; una = refl; tx = refl; rx = refl; rcv = refl; shift = refl }
    go false = unmoved x
timer_still timer.FastRetransmit x now = record { state = refl; same_rules = refl; una = refl; tx = refl; rx = refl; rcv = refl; shift = refl }
timer_still (timer.Idle at) x now = unmoved x
timer_still (timer.ZeroWindowProbe at delay) x now = go (is_over at now) x.rules
  where
    go : (b : Bool) (r : Rules) → Still x (if b then probing_begun r x else x)
    go true rules.Smoltcp = unmoved x
    go true rules.Rfc = record { state = refl; same_rules = refl; una = refl; tx = refl; rx = refl; rcv = refl; shift = refl }
    go false r = unmoved x
timer_still (timer.Close at) x now = unmoved x

timers_still : (b : Bool) (x : View) (now : Instant) → Still x (timers_by b x now)
unfolding tail_probed probed_by
timers_still true x now = record { state = refl; same_rules = refl; una = refl; tx = refl; rx = refl; rcv = refl; shift = refl }
timers_still false x now = timer_still x.timer x now

pub sent_still : (b : View) (now : Instant) (e : Emitted) → Still b (after_sending b now e)
unfolding after_sending sending_timed snd_nxt_moved after_any after_probe
sent_still b now e = by e.kind
  where
    x : View
    x = snd_nxt_moved (after_any b now) e

    timed : (z : Bool) → Still b (if z then x else record x { rtte = sending_measured x now e; timer = retransmit_unless_set x.timer now x.rtte; congestion_controller = post_transmitted (restarted_by x.rules x.idle_at now x.congestion_controller) now e.len; idle_at = idle_by x.rules x.idle_at now x.rtte; pending_fast_retransmit = x.pending_fast_retransmit || goes_on x })
    timed true = record { state = refl; same_rules = refl; una = refl; tx = refl; rx = refl; rcv = refl; shift = refl }
    timed false = record { state = refl; same_rules = refl; una = refl; tx = refl; rx = refl; rcv = refl; shift = refl }

    by : (k : Kind) → Still b (after_kind k (after_any b now) now e)
    by kind.Plain = let h = timed (e.len == 0) in armed_as (Still b) (sending_timed x now e) now e.len h (λ at t. record { state = h.state; same_rules = h.same_rules; una = h.una; tx = h.tx; rx = h.rx; rcv = h.rcv; shift = h.shift })
    by kind.Probe = record { state = refl; same_rules = refl; una = refl; tx = refl; rx = refl; rcv = refl; shift = refl }
    by kind.KeepAlive = record { state = refl; same_rules = refl; una = refl; tx = refl; rx = refl; rcv = refl; shift = refl }

-- ---- its control bit

pub data_said : (u : View) (n : ℕ) → IsSaid (data_control u n)
data_said u n = go (offset_of u + n == length u.tx_buffer.bytes) (is_closing u.state) (n == 0)
  where
    go : (a b d : Bool) → IsSaid (if a then (if b then control.Fin else (if d then control.None else control.Psh)) else control.None)
    go true true d = tt
    go true false true = tt
    go true false false = tt
    go false b d = tt

-- a FIN stands behind the queue's end
fin_at_end : (u : View) (n : ℕ) → data_control u n ≡ control.Fin → offset_of u + n ≡ length u.tx_buffer.bytes
fin_at_end u n = go (offset_of u + n == length u.tx_buffer.bytes) refl (is_closing u.state) (n == 0)
  where
    go : (a : Bool) → (offset_of u + n == length u.tx_buffer.bytes) ≡ a → (b d : Bool) → (if a then (if b then control.Fin else (if d then control.None else control.Psh)) else control.None) ≡ control.Fin → offset_of u + n ≡ length u.tx_buffer.bytes
    go true e b d f = eqb-true (offset_of u + n) (length u.tx_buffer.bytes) e
    go false e b d f = absurd cc

fin_closing : (u : View) (n : ℕ) → data_control u n ≡ control.Fin → is_closing u.state ≡ true
fin_closing u n = go (offset_of u + n == length u.tx_buffer.bytes) (is_closing u.state) (n == 0)
  where
    go : (a b d : Bool) → (if a then (if b then control.Fin else (if d then control.None else control.Psh)) else control.None) ≡ control.Fin → b ≡ true
    go true true d f = refl
    go true false true f = absurd cc
    go true false false f = absurd cc
    go false b d f = absurd cc

pub is_fin : (c : TcpControl) → IsSaid c → 0 < control_len c → c ≡ control.Fin
is_fin control.Fin d some = refl
is_fin control.None d some = absurd (omega (arith, some))
is_fin control.Psh d some = absurd (omega (arith, some))
is_fin _ d some = absurd d

-- with a byte, from the left edge of w's window on or from before it; or a FIN alone, in order
pub data Stands (w : View) (out : Sending) (n : ℕ) : Type 0 where
  WithBytes : seq_sub (next_ack w) out.segment.seq_number < 2 ^ 31
      → 0 < length out.segment.payload
      → out.segment.seq_number.0 < 2 ^ 32
      → (n ≡ 0 → (out.kind ≡ kind.KeepAlive → ⊥) → (next_ack w).0 ≡ out.segment.seq_number.0)
      → Stands w out n
  FinAlone : out.segment.control ≡ control.Fin
      → length out.segment.payload ≡ 0
      → out.segment.seq_number.0 ≡ (next_ack w).0
      → Stands w out n

-- ---- what it says

module _ (t : Tuple) (f : Facts) (v : View) (out : Sending) (u : View) (h : HasSaid t f v out u) where
  abbrev now : Instant
  now = moment_of f

  abbrev b : View
  b = beginning v t f h.on (carries_runs v.state v.synack_paused h.carries)

  begun_still : Still v b
  begun_still =
      let al : Alike v (readied v now) = readied_alike v now in
      then_still v (readied v now) b (record { state = al.same.state; same_rules = al.same.same_rules; una = al.same.una; tx = al.same.tx; rx = al.same.rx; rcv = al.same.rcv; shift = al.same.shift }) (timers_still (probes_tail (readied v now) now) (readied v now) now)

  o : SendsOk f t b (Some out) u
  o = goes_out v t f h.on (carries_runs v.state v.synack_paused h.carries) out u h.dispatch

  abbrev g : Segment
  g = told_for b t f o.stamp o.bytes

  abbrev k : Kind
  k = emission_kind b now g

  out_is : out ≡ sent_as b t k g
  out_is = same_Some out (sent_as b t k g) (o.sends ∙ content_is b t f o.stamp o.bytes (ap carries_data begun_still.state ∙ h.carries))

  pub still : Still v u
  still = then_still v b u begun_still (subst (λ x. Still b x) (sym o.view) (sent_still b now (emitted_as out.kind out.segment)))

  pub reached_then : IsReached u
  reached_then = dispatch_reached f v (Some out) u h.reached h.dispatch

  said_ack : (k : Kind) → (sent_as b t k g).segment.ack_number ≡ Some (next_ack b)
  unfolding plain_segment
  said_ack kind.KeepAlive = refl
  said_ack kind.Plain = refl
  said_ack kind.Probe = refl

  pub ack : out.segment.ack_number ≡ Some (next_ack v)
  ack = ap (λ (s : Sending). s.segment.ack_number) out_is ∙ said_ack k ∙ (λ i. Some (seq_add (begun_still.rcv i) (length ((begun_still.rx i).bytes))))

  said_field : b.rules ≡ rules.Smoltcp → (k : Kind) → (sent_as b t k g).segment.window_len ≡ window_field b
  unfolding plain_segment
  said_field is kind.KeepAlive = ap (λ r. aside_field r b (window_field b)) is
  said_field is kind.Plain = refl
  said_field is kind.Probe = refl

  -- it tells the window that v tells now
  pub field : v.rules ≡ rules.Smoltcp → out.segment.window_len ≡ space_field v
  field smoltcp = ap (λ (s : Sending). s.segment.window_len) out_is ∙ said_field (begun_still.same_rules ∙ smoltcp) k ∙ smoltcp_field b (begun_still.same_rules ∙ smoltcp) ∙ (λ i. min (length ((begun_still.rx i).held) / 2 ^ begun_still.shift i) 65535)

  said_bit : (k : Kind) → IsSaid (sent_as b t k g).segment.control
  said_bit kind.KeepAlive = data_said b (length o.bytes)
  said_bit kind.Plain = data_said b (length o.bytes)
  said_bit kind.Probe = data_said b (length o.bytes)

  pub bit : IsSaid out.segment.control
  bit = subst (λ (s : Sending). IsSaid s.segment.control) (sym out_is) (said_bit k)

  few : length o.bytes ≤ 2 ^ 30
  few = omega (arith, lent_at_most b.tx_buffer (offset_of b) (asked b t f) o.bytes o.lent, ap (λ (q : Queue). length q.bytes) begun_still.tx, (reached_ordered v h.reached).room)

  said_short : (k : Kind) → length (sent_as b t k g).segment.payload ≤ 2 ^ 30
  said_short kind.KeepAlive = omega arith
  said_short kind.Plain = few
  said_short kind.Probe = few

  pub short : length out.segment.payload ≤ 2 ^ 30
  short = subst (λ (s : Sending). length s.segment.payload ≤ 2 ^ 30) (sym out_is) (said_short k)

  -- ---- where it stands

  same_segment : (k : Kind) → (k ≡ kind.KeepAlive → ⊥) → (sent_as b t k g).segment ≡ g
  same_segment kind.Plain n = refl
  same_segment kind.Probe n = refl
  same_segment kind.KeepAlive n = absurd (n refl)

  segment_is : (out.kind ≡ kind.KeepAlive → ⊥) → out.segment ≡ g
  segment_is nk = ap (λ (s : Sending). s.segment) out_is ∙ same_segment k (λ e. nk (ap (λ (s : Sending). s.kind) out_is ∙ e))

  -- of bytes it has no more than the queue
  pub queued : (out.kind ≡ kind.KeepAlive → ⊥) → length out.segment.payload ≤ length v.tx_buffer.bytes
  queued nk = omega (arith, ap (λ (s : Segment). length s.payload) (segment_is nk), lent_at_most b.tx_buffer (offset_of b) (asked b t f) o.bytes o.lent, ap (λ (q : Queue). length q.bytes) begun_still.tx)

  una_small : v.local_seq_no.0 < 2 ^ 32
  una_small = (reached_ordered v h.reached).una_small

  -- ---- from SND.UNA on

  module _ (nk : out.kind ≡ kind.KeepAlive → ⊥) (number : out.segment.seq_number ≡ v.local_seq_no) where
    is : out.segment ≡ g
    is = segment_is nk

    at_front : offset_of b ≡ 0
    at_front = by b.pending_fast_retransmit refl
      where
        n : ℕ
        n = length b.tx_buffer.bytes

        here : g.seq_number ≡ v.local_seq_no
        here = sym (ap (λ (s : Segment). s.seq_number) is) ∙ number

        by : (m : Bool) → b.pending_fast_retransmit ≡ m → offset_of b ≡ 0
        by true e =
            let first : hole_number (hole_of b) n b.local_seq_no ≡ v.local_seq_no = ap (λ m. if m then hole_number (hole_of b) n b.local_seq_no else b.remote_last_seq) (sym e) ∙ here in
            let una : b.local_seq_no.0 ≡ v.local_seq_no.0 = ap (λ (m : TcpSeqNumber). m.0) begun_still.una in
            let at : (hole_number (hole_of b) n b.local_seq_no).0 ≡ (b.local_seq_no.0 + hole_start (hole_of b) n) % 2 ^ 32 = number_at (hole_of b) n b.local_seq_no (omega (arith, una, una_small)) in
            let within : hole_start (hole_of b) n ≤ min (n - 1) (2 ^ 30) = start_within (hole_of b) n in
            let zero : hole_start (hole_of b) n ≡ 0 = omega (arith, ap (λ (m : TcpSeqNumber). m.0) first, una, una_small, at, within) in
            rw e zero
        by false e =
            let nxt : b.remote_last_seq ≡ v.local_seq_no = ap (λ m. if m then hole_number (hole_of b) n b.local_seq_no else b.remote_last_seq) (sym e) ∙ here in
            ap (λ m. if m then hole_start (hole_of b) n else flight b) e ∙ (λ i. seq_sub (nxt i) (begun_still.una i)) ∙ no_distance v.local_seq_no una_small

    same_bytes : out.segment.payload ≡ o.bytes
    same_bytes = ap (λ (s : Segment). s.payload) is

    -- its payload is a beginning of the transmit queue
    pub first_bytes : out.segment.payload ≡ take (length out.segment.payload) v.tx_buffer.bytes
    first_bytes = same_bytes ∙ lent_beginning b.tx_buffer (offset_of b) (asked b t f) o.bytes o.lent ∙ (λ i. take (length (sym same_bytes i)) (drop (at_front i) ((begun_still.tx i).bytes)))

    -- with the FIN all of it
    pub fin_ends : out.segment.control ≡ control.Fin → length out.segment.payload ≡ length v.tx_buffer.bytes
    fin_ends fin = omega (arith, ap (λ (l : List ℕ). length l) same_bytes, fin_at_end b (length o.bytes) (sym (ap (λ (s : Segment). s.control) is) ∙ fin), at_front, ap (λ (q : Queue). length q.bytes) begun_still.tx)

    pub fin_of_closing : out.segment.control ≡ control.Fin → is_closing v.state ≡ true
    fin_of_closing fin = ap is_closing (sym begun_still.state) ∙ fin_closing b (length o.bytes) (sym (ap (λ (s : Segment). s.control) is) ∙ fin)

  -- a FIN alone at SND.UNA has no byte before it
  pub fin_alone : (out.kind ≡ kind.KeepAlive → ⊥) → out.segment.seq_number ≡ v.local_seq_no → length out.segment.payload ≡ 0 → out.segment.control ≡ control.Fin → length v.tx_buffer.bytes ≡ 0
  fin_alone nk number none fin = omega (arith, fin_ends nk number fin, none)

  module _ (w : View) (n : ℕ) (r : HearsOf v w n) (probe : out.kind ≡ kind.Probe → ProbesNext v n) where
    start : (next_ack w).0 ≡ (seq_add v.local_seq_no n).0
    start = ap (λ (m : TcpSeqNumber). m.0) r.there

    n_short : n ≤ 2 ^ 30
    n_short = omega (arith, r.taken_within, (reached_ordered v h.reached).room)

    from_una : (out.kind ≡ kind.KeepAlive → ⊥) → out.segment.seq_number ≡ v.local_seq_no → 0 < segment_len out.segment → (m : ℕ) → length out.segment.payload ≡ m → Stands w out n
    from_una nk number some (suc m) e =
        let at : out.segment.seq_number.0 ≡ v.local_seq_no.0 = ap (λ (m : TcpSeqNumber). m.0) number in
        WithBytes (omega (arith, start, at, una_small, n_short)) (omega (arith, e)) (omega (arith, at, una_small)) (λ z k. omega (arith, start, at, una_small, z))
    from_una nk number some zero e =
        let at : out.segment.seq_number.0 ≡ v.local_seq_no.0 = ap (λ (m : TcpSeqNumber). m.0) number in
        let fin : out.segment.control ≡ control.Fin = is_fin out.segment.control bit (omega (arith, some, e)) in
        let empty : length v.tx_buffer.bytes ≡ 0 = fin_alone nk number e fin in
        FinAlone fin e (omega (arith, start, at, una_small, empty, r.taken_within))

    pub stands : Stands w out n
    stands = by h.speech
      where
        by : Speech v out → Stands w out n
        by (FromUna nk number some) = from_una nk number some (length out.segment.payload) refl
        by (Probes p number byte) =
            let q : ProbesNext v n = probe p in
            let at : out.segment.seq_number.0 ≡ v.remote_last_seq.0 = ap (λ (m : TcpSeqNumber). m.0) number in
            let small : v.remote_last_seq.0 < 2 ^ 32 = (reached_ordered v h.reached).nxt_small in
            let one : length out.segment.payload ≡ 1 = byte q.byte in
            WithBytes (omega (arith, start, at, una_small, small, n_short, q.no_gap)) (omega (arith, one)) (omega (arith, at, small)) (λ z k. omega (arith, start, at, una_small, small, z, q.no_gap))
        by (KeepsAlive k number one) =
            let at : out.segment.seq_number.0 ≡ (seq_minus v.local_seq_no 1).0 = ap (λ (m : TcpSeqNumber). m.0) number in
            let long : length out.segment.payload ≡ 1 = ap (λ (l : List ℕ). length l) one in
            WithBytes (omega (arith, start, at, una_small, n_short)) (omega (arith, long)) (omega (arith, at)) (λ z nk. absurd (nk k))
