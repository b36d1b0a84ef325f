-- From the one call of `emit` to what a host records of a dispatch.
use Rattle.std.proofs.Common.{◌≡◌, ℕ, ◌+◌, ◌-◌, ◌<◌, ◌≤◌, List, [], ◌++◌, length, min, max, Bool, true, false, Option, Some, None, refl, sym, ◌∙◌, ap, subst, arith}
use Rattle.std.specs.Prelude.{Result, Ok, Err, OnOk, OnErr, is_ok, not, IsTrue, vec_len, vec_capacity, if◌then◌else◌, option_map, IsSomeAnd}
use Rattle.std.proofs.lemmas.Option.{none-some, same_Some}
use Rattle.std.specs.Borrow.{MutBor}
use Rattle.std.specs.Option.{ForSome}
use Rattle.std.specs.Fn.{Once}
use Rattle.ip_wire.specs.declared.repr.IpRepr.{IpRepr}
use Rattle.net_base.specs.declared.time.Instant.{Instant}
use Rattle.control_wire.specs.Fits.{FitsPacket}
use Rattle.control_wire.specs.Segment.{Segment, segment_of}
use Rattle.control_wire.specs.declared.tcp.TcpRepr.{TcpRepr}
use Rattle.sock_core.specs.Facts.{Facts}
use Rattle.sock_tcp.proofs.Lending.{lent_at_most}
use Rattle.sock_tcp.specs.Rfc.Numbers.{numbered, outgoing}
use Rattle.sock_tcp.specs.Queue.{IsLent}
use Rattle.sock_tcp.specs.Rfc.TailLoss.{probed_by, tail_probed}
use Rattle.sock_tcp.specs.View.{View, fresh, moment_of}
use Rattle.sock_tcp.specs.Begin.{before_emit, fast_retransmission_marked, retransmission_begun, peer_of}
use Rattle.sock_tcp.specs.Opening.{renewed}
use Rattle.tcp_laws.proofs.Kept.{before_kept}
use Rattle.ip_wire.specs.declared.address.IpAddress.{IpAddress}
use Rattle.ip_wire.specs.declared.address.IpAddress.TheVariants as address
use Rattle.sock_tcp.specs.Due.{congestion_left, effective_mss, ip_header_len, mtu_for, options_room}
use Rattle.sock_tcp.proofs.Holes.{again_at_most}
use Rattle.sock_tcp.specs.Content.{Sending, asked, offset_of, resent_size, is_probing, content, filled, emission_kind, of_kind, sent_as, carries_data, window_left, plain_segment}
use Rattle.sock_core.specs.Emission.{Emits, EmitsAt}
use Rattle.sock_tcp.specs.Outgoing.{packet_of}
use Rattle.sock_tcp.specs.Sent.{left_by}
use Rattle.sock_tcp.specs.Dispatch.{packet_in, EmitsDue, EmitsTo, Dispatches}
use Rattle.sock_tcp.specs.declared.tuple.Tuple.{Tuple}
use Rattle.tcp_laws.proofs.PayloadWindows.{len_in, payload_of, plain_is_empty_segment}
use Rattle.pair_core.specs.Holding.{IsHeaderOf, segment_at}
use Rattle.pair_core.specs.declared.segment.Header.{Header}
use Rattle.pair_core.specs.Captures.{Holds, FitsSent, sent_with, sent_of, Records, SendsFrom, SocketDispatches}
use Rattle.pair_core.specs.declared.capture.EmitFailed.{EmitFailed}
use Rattle.pair_core.specs.declared.capture.Capture.{Capture}
use Rattle.pair_core.specs.declared.capture.Sent.{Sent}
use Rattle.pair_core.specs.declared.capture.Sent.TheVariants as sent
use Rattle.pair_core.specs.declared.moment.Moment.{Moment}
use Rattle.pair_core.specs.Moments.{facts_of}
use Rattle.pair_core.specs.PairViews.{HostView}
use Rattle.pair_core.specs.PairSteps.{HostDispatches}
use Rattle.pair_core.proofs.ShownSending.{by_kinds}

-- what the emit of a pair says: it fails where it is told to, and else keeps the segment, for which there is room
pub record EmitSays (fail : Bool) (old new : Capture) (s : IpRepr × TcpRepr) (r : Result (Unit {0}) EmitFailed) : Type 0 where
  pub kept : OnOk r (IsTrue (not fail) × Holds old new s.0 (segment_of s.1))
  pub err : OnErr r (fail ≡ false → vec_capacity old.payload < vec_len old.payload + length s.1.payload.now)

-- ---- a segment's payload is what the ring lent, or nothing

-- a keep-alive has one byte
kind_len : (v : View) (now : Instant) (s : Segment) (n : ℕ) → length s.payload ≤ n → 1 ≤ n → length (of_kind (emission_kind v now s) v s).payload ≤ n
kind_len v now s n h one = by_kinds v (λ x. length x.payload ≤ n) now s h (λ e. omega (arith, one))

content_len : (v : View) (t : Tuple) (f : Facts) (stamp : Option ℕ) (bytes : List ℕ) (n : ℕ) → length bytes ≤ n → 1 ≤ n → (s : Sending) → content v t f stamp bytes ≡ Some s → length s.segment.payload ≤ n
unfolding content
content_len v t f stamp bytes n h one s e = go (filled v.state v t f bytes (plain_segment v t stamp)) (payload_of v.state v t f bytes (plain_segment v t stamp) (plain_is_empty_segment v t stamp)) e
  where
    go : (o : Option Segment) → len_in o ≤ length bytes → option_map (λ s. sent_as v t (emission_kind v (moment_of f) s) s) o ≡ Some s → length s.segment.payload ≤ n
    go None le e = absurd (none-some s e)
    go (Some x) le e =
        let q : sent_as v t (emission_kind v (moment_of f) x) x ≡ s = same_Some (sent_as v t (emission_kind v (moment_of f) x) x) s e in
        subst (λ (y : Sending). length y.segment.payload ≤ n) q (kind_len v (moment_of f) x n (omega (arith, le, h)) one)

mss_len : (v : View) (t : Tuple) (f : Facts) → 576 ≤ f.mtu → effective_mss v t f ≤ f.mtu
mss_len v t f long = go t.local.addr
  where
    go : (a : IpAddress) → min (mtu_for a f.mtu - ip_header_len a - 20) v.remote_mss - options_room v t f ≤ f.mtu
    go (address.Ipv4 a) = omega arith
    go (address.Ipv6 a) = omega (arith, long)

asked_len : (v : View) (t : Tuple) (f : Facts) → 576 ≤ f.mtu → asked v t f ≤ f.mtu
unfolding asked
asked_len v t f long = go (carries_data v.state) v.pending_fast_retransmit (is_probing v (moment_of f))
  where
    m : effective_mss v t f ≤ f.mtu
    m = mss_len v t f long

    few : resent_size v (effective_mss v t f) ≤ effective_mss v t f
    few = again_at_most v (effective_mss v t f)

    go : (a b p : Bool) → (if a then (if b then resent_size v (effective_mss v t f) else (if p then min 1 (effective_mss v t f) else min (min (window_left v) (effective_mss v t f)) (congestion_left v))) else 0) ≤ f.mtu
    go true true p = omega (arith, m, few)
    go true false true = omega (arith, m)
    go true false false = omega (arith, m)
    go false b p = omega arith

pub payload_at_most : (v : View) (t : Tuple) (f : Facts) (stamp : Option ℕ) (bytes : List ℕ) (s : Sending) → 576 ≤ f.mtu → IsLent v.tx_buffer (offset_of v) (asked v t f) bytes → content v t f stamp bytes ≡ Some s → length s.segment.payload ≤ min f.mtu (max 1 (length v.tx_buffer.bytes))
payload_at_most v t f stamp bytes s one lent e = content_len v t f stamp bytes (min f.mtu (max 1 (length v.tx_buffer.bytes))) (omega (arith, asked_len v t f one, lent_at_most v.tx_buffer (offset_of v) (asked v t f) bytes lent)) (omega (arith, one)) s e

-- a dispatch finds no more bytes queued when it emits than when it begins
queue_at_most : (v : View) (f : Facts) (n : ℕ) → length v.tx_buffer.bytes ≤ n → length (before_emit v f).view.tx_buffer.bytes ≤ n
unfolding retransmission_begun fast_retransmission_marked tail_probed probed_by renewed fresh
queue_at_most v f n h =
    before_kept (λ w. length w.tx_buffer.bytes ≤ n) f
    (record { remembers = λ w k. k; tells = λ w k. k; times_out = λ w k. k; forgets = λ w k. k; begins_again = λ w at e k. k; marks = λ w e k. k; goes_back = λ w at delay e k. k; probes_tail = λ w at e k. k })
    (λ w k. omega arith) v h

-- ---- the emit's answer

the_header : (o : Option Header) (ip : IpRepr) (s : Segment) → IsSomeAnd o (λ h. IsHeaderOf h ip s) → (h : Header) × (o ≡ Some h) × IsHeaderOf h ip s
the_header None ip s x = absurd x
the_header (Some h) ip s x = (h, refl, x)

module _ {F : Type 0} (g : Once F (MutBor Capture × ((IpRepr × TcpRepr) × Unit {0})) (Result (Unit {0}) EmitFailed × (MutBor Capture × Unit {0}))) (f : F) (fail : Bool) (mtu : ℕ) (says : (shown left : MutBor Capture) (s : IpRepr × TcpRepr) (r : Result (Unit {0}) EmitFailed) → g.post f (shown, (s, tt)) (r, (left, tt)) → EmitSays fail shown.now left.now s r) where
  -- the capture as a dispatch finds it
  pub record IsReady (c : Capture) : Type 0 where
    pub header : c.header ≡ None
    pub empty : c.payload.items ≡ []
    pub len : vec_len c.payload ≡ 0
    pub room : mtu ≤ vec_capacity c.payload

  -- out goes s, and the socket is left as by made
  emitted : (c c' : Capture) (made s : Sending) (v new : View) (now : Instant) (r : Result (Unit {0}) EmitFailed) → IsReady c → length s.segment.payload ≤ mtu → EmitsAt g packet_of f c (packet_in s) r c' → new ≡ left_by (Some made) v now (is_ok r) → Records fail (Some s) (sent_of r c') × (new ≡ left_by (Some made) v now (not fail))
  emitted c c' made s v new now r ready small e w = go fail refl r refl
    where
      said : EmitSays fail e.shown.now e.left.now e.sent r
      said = says e.shown e.left e.sent r e.met

      held : Holds e.shown.now e.left.now e.sent.0 (segment_of e.sent.1) → Holds c c' s.ip s.segment
      held h =
          let to : Holds e.shown.now e.left.now s.ip s.segment = subst (λ (p : IpRepr × Segment). Holds e.shown.now e.left.now p.0 p.1) e.says h in
          subst (λ y. Holds c y s.ip s.segment) e.leaves (subst (λ y. Holds y e.left.now s.ip s.segment) e.shows to)

      went : (u : Unit {0}) → r ≡ Ok u → Holds c c' s.ip s.segment → Records false (Some s) (sent_of r c')
      went u x h =
          let k = the_header c'.header s.ip s.segment h.header in
          let is : sent_of r c' ≡ sent.Emitted k.0 c'.payload = ap (λ y. sent_of y c') x ∙ ap (λ y. sent_with y c'.payload) k.1 in
          let bytes : c'.payload.items ≡ s.segment.payload = h.payload ∙ ap (λ y. y ++ s.segment.payload) ready.empty in
          subst (Records false (Some s)) (sym is) (k.2, bytes)

      left : (x : Result (Unit {0}) EmitFailed) → r ≡ x → new ≡ left_by (Some made) v now (is_ok x)
      left x q = w ∙ ap (λ y. left_by (Some made) v now (is_ok y)) q

      kept_at : (x : Result (Unit {0}) EmitFailed) → r ≡ x → OnOk x (IsTrue (not fail) × Holds e.shown.now e.left.now e.sent.0 (segment_of e.sent.1))
      kept_at x q = subst (λ y. OnOk y (IsTrue (not fail) × Holds e.shown.now e.left.now e.sent.0 (segment_of e.sent.1))) q said.kept

      err_at : (x : Result (Unit {0}) EmitFailed) → r ≡ x → OnErr x (fail ≡ false → vec_capacity e.shown.now.payload < vec_len e.shown.now.payload + length e.sent.1.payload.now)
      err_at x q = subst (λ y. OnErr y (fail ≡ false → vec_capacity e.shown.now.payload < vec_len e.shown.now.payload + length e.sent.1.payload.now)) q said.err

      full : fail ≡ false → (d : EmitFailed) → r ≡ Err d → ⊥
      full b d x =
          let n : length e.sent.1.payload.now ≡ length s.segment.payload = ap (λ (p : IpRepr × Segment). length p.1.payload) e.says in
          let m : vec_capacity e.shown.now.payload < vec_len e.shown.now.payload + length e.sent.1.payload.now = err_at (Err d) x b in
          let i : vec_capacity e.shown.now.payload ≡ vec_capacity c.payload = ap (λ (y : Capture). vec_capacity y.payload) e.shows in
          let j : vec_len e.shown.now.payload ≡ vec_len c.payload = ap (λ (y : Capture). vec_len y.payload) e.shows in
          omega (arith, ready.room, ready.len)

      go : (b : Bool) → fail ≡ b → (x : Result (Unit {0}) EmitFailed) → r ≡ x → Records b (Some s) (sent_of r c') × (new ≡ left_by (Some made) v now (not b))
      go true b (Ok u) x =
          let no : IsTrue (not true) = subst (λ t. IsTrue (not t)) b (kept_at (Ok u) x).0 in cc
      go true b (Err d) x = (ap (λ y. sent_of y c') x, left (Err d) x)
      go false b (Ok u) x =
          (went u x (held (kept_at (Ok u) x).1), left (Ok u) x)
      go false b (Err d) x = absurd (full b d x)

  pub socket_dispatched : {G : Type 0} (tells : G → ℕ → Type 0) (clock : Option G) (c c' : Capture) (v new : View) (facts : Facts) (r : Result (Unit {0}) EmitFailed) → IsReady c → 576 ≤ facts.mtu → min facts.mtu (max 1 (length v.tx_buffer.bytes)) ≤ mtu → Dispatches g f facts tells clock v c r new c' → SocketDispatches tells clock v facts fail (sent_of r c') new
  unfolding Dispatches SocketDispatches
  socket_dispatched tells clock c c' v new facts r ready one small h = to (peer_of (before_emit v facts)) h
    where
      w : View
      w = (before_emit v facts).view

      quiet : (u : View) → r ≡ Ok tt → c' ≡ c → new ≡ u → (sent_of r c' ≡ sent.Quiet)
      quiet u a b d = ap (λ x. sent_of x c') a ∙ ap (λ x. sent_with x c'.payload) (ap (λ x. x.header) b ∙ ready.header)

      to : (o : Option Tuple) → EmitsTo g f facts tells clock o w c r new c' → SendsFrom tells clock o w facts fail (sent_of r c') new
      to None q = (quiet w q.answer q.context q.view, q.view)
      to (Some t) x = record { stamp = x.stamp; told = x.told; stamped = d.stamped; bytes = d.bytes; lent = d.lent; records = (both (content w t facts x.stamp d.bytes) refl d.emits d.view).0; view = (both (content w t facts x.stamp d.bytes) refl d.emits d.view).1; fits = d.fits }
        where
          d : EmitsDue g f facts t x.stamp w c r new c'
          d = x.emits

          both : (o : Option Sending) → content w t facts x.stamp d.bytes ≡ o → Emits g packet_of f (option_map packet_in (outgoing w o)) c r c' → new ≡ left_by o w (moment_of facts) (is_ok r) → Records fail (outgoing w o) (sent_of r c') × (new ≡ left_by o w (moment_of facts) (not fail))
          both None z e y = (quiet w e.0 e.1 y, y)
          both (Some s) z e y = emitted c c' s (record s { segment = numbered w s.segment }) w new (moment_of facts) r ready (omega (arith, small, queue_at_most v facts (length v.tx_buffer.bytes) (omega arith), payload_at_most w t facts x.stamp d.bytes s one d.lent z)) e y

-- ---- what is stored of a dispatch fits a packet

kept_fits : (h : Header) (ip : IpRepr) (s : Segment) (bytes : List ℕ) → IsHeaderOf h ip s → bytes ≡ s.payload → FitsPacket ip s → FitsPacket h.ip_repr (segment_at h bytes)
kept_fits h ip s bytes is e fits =
    subst (λ x. FitsPacket x (segment_at h bytes)) (sym is.ip_repr) (subst (FitsPacket ip) (sym (ap (segment_at h) e ∙ is.fields)) fits)

recorded_fits : (fail : Bool) (c : Option Sending) (r : Sent) → Records fail c r → ForSome c (λ s. FitsPacket s.ip s.segment) → FitsSent r
recorded_fits fail None r e fits = subst FitsSent (sym e) tt
recorded_fits true (Some s) r e fits = subst FitsSent (sym e) tt
recorded_fits false (Some s) sent.Quiet e fits = absurd e
recorded_fits false (Some s) sent.Failed e fits = absurd e
recorded_fits false (Some s) (sent.Emitted h p) e fits = kept_fits h s.ip s.segment p.items e.0 e.1 (fits s refl)

sent_fits : {G : Type 0} (tells : G → ℕ → Type 0) (source : Option G) (o : Option Tuple) (v w : View) (f : Facts) (fail : Bool) (r : Sent) → SendsFrom tells source o v f fail r w → FitsSent r
sent_fits tells source None v w f fail r d = subst FitsSent (sym d.0) tt
sent_fits tells source (Some t) v w f fail r d = recorded_fits fail (outgoing v (content v t f d.stamp d.bytes)) r d.records d.fits

pub dispatch_fits : {G : Type 0} (tells : G → ℕ → Type 0) (source : Option G) (v w : View) (f : Facts) (fail : Bool) (r : Sent) → SocketDispatches tells source v f fail r w → FitsSent r
unfolding SocketDispatches
dispatch_fits tells source v w f fail r d = sent_fits tells source (peer_of (before_emit v f)) (before_emit v f).view w f fail r d

-- a reply's header
pub reply_fits : (h : Header) (ip : IpRepr) (s : Segment) → IsHeaderOf h ip s → s.payload ≡ [] → FitsPacket ip s → FitsPacket h.ip_repr (segment_at h [])
reply_fits h ip s is e fits = kept_fits h ip s [] is (sym e) fits

-- a payload of a packet has at most 65535 bytes
pub short_of : (ip : IpRepr) (s : Segment) → FitsPacket ip s → length s.payload ≤ 65535
short_of ip s fits = omega (arith, fits.octets, fits.total)

-- ---- the host around the socket

pub host_dispatched : {G : Type 0} (tells : G → ℕ → Type 0) (m : Moment) (fail : Bool) (u h : HostView G) (r r' : Sent) (w : View) (source : Option G) → u ≡ h → source ≡ u.source → r' ≡ r → SocketDispatches tells u.source u.control_block (facts_of m) fail r w → HostDispatches tells m fail h r' (record u { control_block = w; source = source })
host_dispatched tells m fail u h r r' w source e b s x =
    subst (λ y. HostDispatches tells m fail y r' (record u { control_block = w; source = source })) e (record { socket = subst (λ y. SocketDispatches tells u.source u.control_block (facts_of m) fail y w) (sym s) x; same = ap (λ y. record u { control_block = w; source = y }) b })
