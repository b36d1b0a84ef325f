-- Each event of a side is a call on its socket, in the words of the law on any list of calls.
use Rattle.std.proofs.Common.{◌≡◌, ℕ, ◌+◌, ◌<◌, ◌≤◌, ◌^◌, Bool, true, false, not, refl, sym, ap, subst, ◌∙◌, List, [], ◌++◌, length, take, drop, Option, Some, None, Ok, Err, arith, length-take}
use Rattle.std.specs.Prelude.{◌==◌, ◌||◌, if◌then◌else◌}
use Rattle.std.proofs.lemmas.Bool.{eqb-true}
use Rattle.std.proofs.lemmas.List.{take-take}
use Rattle.ip_wire.specs.Address.{SameVersion, is_unspecified, same_version}
use Rattle.ip_wire.specs.declared.address.IpAddress.{IpAddress}
use Rattle.ip_wire.specs.declared.address.IpAddress.TheVariants as address
use Rattle.ip_wire.specs.declared.endpoint.IpEndpoint.{IpEndpoint}
use Rattle.ip_wire.specs.declared.endpoint.IpListenEndpoint.{IpListenEndpoint}
use Rattle.ip_wire.specs.declared.repr.IpRepr.{IpRepr}
use Rattle.net_base.specs.Ring.{Ring}
use Rattle.control_wire.specs.Segment.{Segment}
use Rattle.sock_core.specs.Facts.{Facts, IsLawful}
use Rattle.sock_core.specs.Received.{receiving}
use Rattle.sock_tcp.specs.Begin.{before_emit, peer_of}
use Rattle.sock_tcp.specs.Closing.{aborted, closed}
use Rattle.sock_tcp.specs.Content.{Sending, content}
use Rattle.sock_tcp.specs.Opening.{after_connect, connected, endpoints, is_open, listened, no_address, rules_set}
use Rattle.sock_tcp.specs.Process.{Accepts, AcceptsIn}
use Rattle.sock_tcp.specs.Queue.{appended, queue_of}
use Rattle.sock_tcp.specs.Queues.{Reads, Sends, fitting, last_ts_after, may_recv, may_send, queued, read_off, readable, recv_refusal, timer_after, written}
use Rattle.tcp_laws.specs.SocketRun as calls
use Rattle.tcp_laws.specs.SocketRun.{Counts, SendsTo as Emits, Step, starting, starting_if, is_reset, opens_listener, with_sent, accepted}
use Rattle.sock_tcp.specs.View.{View, fresh}
use Rattle.tcp_laws.specs.Awake.{IsByOwn, IsReachedByOwn, OwnEnds, OwnRun, OwnThen}
use Rattle.sock_tcp.specs.declared.error.SendError.TheVariants as send_error
use Rattle.sock_tcp.specs.declared.state.State.TheVariants as state
use Rattle.sock_tcp.specs.declared.tuple.Tuple.{Tuple}
use Rattle.sock_tcp.specs.declared.rules.Rules.{Rules}
use Rattle.pair_core.specs.Moments.{facts_of}
use Rattle.pair_core.specs.PairInvariant.{IsReachable}
use Rattle.pair_core.specs.PairNetwork.{IsSmall}
use Rattle.pair_core.specs.PairSteps.{processed_at}
use Rattle.pair_core.specs.PairViews.{StoredView}
use Rattle.pair_core.specs.Captures.{SendsFrom, SocketDispatches}
use Rattle.pair_core.specs.Settings.{set_in}
use Rattle.pair_core.specs.SocketCalls.{IsCall}
use Rattle.pair_core.specs.declared.moment.Moment.{Moment}
use Rattle.pair_core.specs.declared.capture.Sent.{Sent}
use Rattle.pair_core.specs.declared.setting.Setting.{Setting}
use Rattle.pair_core.specs.declared.setting.Setting.TheVariants as setting

-- ---- one call more

then_step : (v w x : View) (k j l : Counts) → OwnRun v k w j → (s : Step w j x l) → IsByOwn s → OwnRun v k x l
then_step v _ x k _ l (OwnEnds _ j) s own = OwnThen v x x k l l s own (OwnEnds x l)
then_step v w x k j l (OwnThen _ u _ _ i _ s b r) t own = OwnThen v u x k i l s b (then_step u w x i j l r t own)

pub called_reached : (v w : View) → IsCall v w → IsReachedByOwn v → IsReachedByOwn w
called_reached v w does h = record { rx = h.rx; tx = h.tx; counts = (does h.counts).0; rx_size = h.rx_size; tx_size = h.tx_size; run = then_step _ v w _ h.counts (does h.counts).0 h.run (does h.counts).1 (does h.counts).2 }

new_reached : (rx tx : Ring ℕ) → length rx.queue + length rx.spare ≤ 2 ^ 30 → length tx.queue + length tx.spare ≤ 2 ^ 30 → IsReachedByOwn (fresh (receiving rx) (queue_of tx))
new_reached rx tx r t = record { rx = rx; tx = tx; counts = starting (fresh (receiving rx) (queue_of tx)); rx_size = r; tx_size = t; run = OwnEnds _ _ }

-- empty buffers of at most 2^30 bytes
pub begins : (rx tx : Ring ℕ) → (rx.queue ≡ []) × (length rx.spare ≤ 2 ^ 30) → (tx.queue ≡ []) × (length tx.spare ≤ 2 ^ 30) → IsReachedByOwn (fresh (receiving rx) (queue_of tx))
begins rx tx r t =
    let a : length rx.queue ≡ 0 = ap length r.0 in
    let b : length tx.queue ≡ 0 = ap length t.0 in
    new_reached rx tx (omega (arith, a, r.1)) (omega (arith, b, t.1))

-- ---- opening

is_closed : (v : View) → v.state ≡ state.Closed → is_open v.state ≡ false
is_closed v e = ap is_open e

not_listening : (v : View) → v.state ≡ state.Closed → v.state ≡ state.Listen → ⊥
not_listening v c l = let no : state.Closed ≡ state.Listen = sym c ∙ l in cc

pub listen_call : (v : View) (e : IpListenEndpoint) → v.state ≡ state.Closed → 0 < e.port → IsCall v (listened v e)
listen_call v e shut port k = (
  starting_if (opens_listener v e) (listened v e) k,
  calls.Listen e (Ok tt) (record {
    no_port = λ z. absurd (omega (arith, port, z));
    opens = λ p o. (refl, refl);
    again = λ p l q. absurd (not_listening v shut l);
    other = λ p l n. absurd (not_listening v shut l);
    busy = λ p o n. absurd (let no : false ≡ true = sym (is_closed v shut) ∙ o in cc);
  }) refl,
  tt,
)

goes_on : {A : Type 0} (b : Bool) (x y : A) → b ≡ false → (if b then x else y) ≡ y
goes_on true x y e = absurd cc
goes_on false x y e = refl

is_versioned : (a b : IpAddress) → SameVersion a b → same_version a b ≡ true
is_versioned (address.Ipv4 a) (address.Ipv4 b) e = refl
is_versioned (address.Ipv6 a) (address.Ipv6 b) e = refl
is_versioned (address.Ipv4 a) (address.Ipv6 b) e = absurd cc
is_versioned (address.Ipv6 a) (address.Ipv4 b) e = absurd cc

there : (n : ℕ) → 0 < n → (n == 0) ≡ false
there n e = go (n == 0) refl
  where
    go : (b : Bool) → (n == 0) ≡ b → (n == 0) ≡ false
    go true z = absurd (let zero_is : n ≡ 0 = eqb-true n 0 z in omega (arith, e, zero_is))
    go false z = z

module _ (v : View) (f : Facts) (here remote : IpEndpoint) (shut : v.state ≡ state.Closed) (from_here : IsReachable here) (to_there : IsReachable remote) (version : SameVersion here.addr remote.addr) where
  abbrev local : IpListenEndpoint
  local = record { addr = Some here.addr; port = here.port }

  abbrev both : Tuple
  both = record { local = here; remote = remote }

  lawful : endpoints v f remote local ≡ Ok both
  lawful =
      goes_on (is_open v.state) _ _ (is_closed v shut)
      ∙ goes_on ((remote.port == 0) || is_unspecified remote.addr) _ _ (ap (λ b. b || is_unspecified remote.addr) (there remote.port to_there.port) ∙ to_there.addr)
      ∙ goes_on (here.port == 0) _ _ (there here.port from_here.port)
      ∙ goes_on (is_unspecified here.addr) _ _ from_here.addr
      ∙ ap (λ b. if b then Ok both else no_address) (is_versioned here.addr remote.addr version)

  pub connect_call : (word : ℕ) → word < 2 ^ 32 → IsCall v (connected v both word)
  connect_call word small k = (_, calls.Connect f word remote local small (ap (λ x. after_connect x v word) (sym lawful)) refl, tt)

-- ---- sending and receiving

module _ (v : View) (n : ℕ) (bs : List ℕ) (may : may_send v.state ≡ true) (offered : n ≤ length bs) (fits : n ≤ v.tx_buffer.window) where
  fits_all : fitting v (length (take n bs)) ≡ n
  fits_all = omega (arith, offered, fits, length-take n bs)

  same_queued : queued v n (take n bs) ≡ queued v n bs
  unfolding queued
  same_queued = ap (λ xs. record v { tx_buffer = appended v.tx_buffer xs; remote_last_ts = last_ts_after v n; timer = timer_after v n }) (take-take n n bs (omega arith))

  sends : Sends v (take n bs) (Ok n) (queued v n bs)
  sends = record {
    answer = sym (ap (λ b. if b then Ok (fitting v (length (take n bs))) else Err send_error.InvalidState) may ∙ ap Ok fits_all);
    view = sym (ap (λ b. if b then written v (take n bs) else v) may ∙ ap (λ i. queued v i (take n bs)) fits_all ∙ same_queued);
  }

  -- the bytes that a send takes, by whichever call, are those that `send_slice` of them would take
  pub send_call : IsCall v (queued v n bs)
  send_call k = (with_sent k (accepted (take n bs) (Ok n)), calls.SendSlice (take n bs) (Ok n) sends refl, tt)

module _ (v : View) (n : ℕ) (may : may_recv v ≡ true) (within : n ≤ length v.rx_buffer.bytes) where
  abbrev into : List ℕ
  into = take n v.rx_buffer.bytes

  reads_all : readable v (length into) ≡ n
  reads_all = omega (arith, within, length-take n v.rx_buffer.bytes)

  abbrev left : List ℕ
  left = take (readable v (length into)) v.rx_buffer.bytes ++ drop (readable v (length into)) into

  reads : Reads v into (Ok (readable v (length into))) (read_off v n) left
  reads = record {
    answer = sym (ap (λ b. if b then Ok (readable v (length into)) else Err (recv_refusal v)) may);
    view = sym (ap (λ b. if b then read_off v (readable v (length into)) else v) may ∙ ap (read_off v) reads_all);
    read = refl;
    refused = tt;
  }

  pub recv_call : IsCall v (read_off v n)
  recv_call k = (_, calls.RecvSlice into left (Ok (readable v (length into))) reads refl, tt)

-- ---- closing and setting

pub close_call : (v : View) → IsCall v (closed v)
close_call v k = (k, calls.Close refl refl, tt)

pub abort_call : (v : View) → IsCall v (aborted v)
abort_call v k = (k, calls.Abort refl refl, tt)

goes_on_open : (b : Bool) (old new : Rules) → b ≡ true → (if b then old else new) ≡ old
goes_on_open true old new e = refl
goes_on_open false old new e = absurd cc

pub set_call : (s : Setting) (v : View) → IsCall v (set_in s v)
set_call (setting.Timeout t) v k = (k, calls.Set (calls.SetTimeout t.duration refl) refl, tt)
set_call (setting.AckDelay t) v k = (k, calls.Set (calls.SetAckDelay t.duration refl) refl, tt)
set_call (setting.KeepAlive t) v k = (k, calls.Set (calls.SetKeepAlive t.duration refl) refl, tt)
set_call (setting.Nagle on) v k = (k, calls.Set (calls.SetNagle on refl) refl, tt)
set_call (setting.HopLimit n) v k = (k, calls.Set (calls.SetHopLimit n.hop_limit refl) refl, tt)
set_call (setting.Congestion c) v k = (k, calls.Set (calls.SetCongestionControl c refl) refl, tt)
set_call (setting.Pause on) v k = (k, calls.Set (calls.PauseSynAck on refl) refl, tt)
set_call (setting.Rules x) v k = (k, calls.Set (calls.SetRules (rules_set v x).rules (rules_set v x).timeout refl) refl, λ o. goes_on_open (is_open v.state) v.rules x o)

-- the source of timestamps that a new socket has
pub source_call : (v : View) (is_there : Bool) → IsCall v (record v { stamps = is_there })
source_call v is_there k = (k, calls.Set (calls.SetTsvalGenerator is_there refl) refl, tt)

-- ---- dispatches and deliveries

module _ {G : Type 0} (tells : G → ℕ → Type 0) (source : Option G) (f : Facts) (lawful : IsLawful f) (fail : Bool) (r : Sent) (w : View) where
  goes_out : (o : Option Tuple) (u : View) → SendsFrom tells source o u f fail r w → (out : Option Sending) × Emits o f u out w
  goes_out None u d = (None, (refl, d.1))
  goes_out (Some t) u d = (content u t f d.stamp d.bytes, record { stamp = d.stamp; told = d.stamped; bytes = d.bytes; lent = d.lent; ok = not fail; sends = refl; view = d.view })

  pub dispatch_call : (v : View) → SocketDispatches tells source v f fail r w → IsCall v w
  unfolding SocketDispatches
  dispatch_call v d k = let x = goes_out (peer_of (before_emit v f)) (before_emit v f).view d in (starting_if (is_reset v f) w k, calls.Dispatch f x.0 x.1 refl, lawful)

pub moment_lawful : (m : Moment) → IsLawful (facts_of m)
moment_lawful m = (m.moment, (omega (arith, m.mtu.0), m.mtu.1))

-- LISTEN lets no segment with an acknowledgement in
bare : (v : View) (ip : IpRepr) (s : Segment) → Accepts v ip s → v.state ≡ state.Listen → s.ack_number ≡ None
bare v ip s a e = (subst (λ st. AcceptsIn st v ip s) e a).0.no_ack

pub process_call : (v : View) (m : Moment) (t : StoredView) → IsSmall t.segment → Accepts v t.ip t.segment → IsCall v (processed_at v m t).view
process_call v m t s a k = (_, calls.Process v.rules (record { micros = m.now.micros }) m.word t.ip t.segment m.fits (record { seq_number = s.seq; ack_number = s.ack }) s.payload (bare v t.ip t.segment a) refl refl, refl)
