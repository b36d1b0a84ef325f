-- What each event keeps of a host, and of a pair but for its network.
use Rattle.std.proofs.Common.{◌≡◌, ℕ, Bool, true, false, List, [], ◌∷◌, length, Option, Some, None, refl, sym, ap, subst, ◌∙◌, inl, is_some}
use Rattle.std.specs.Prelude.{IsTrue, not, ◌==◌, if◌then◌else◌}
use Rattle.ip_wire.specs.Address.{SameVersion}
use Rattle.ip_wire.specs.declared.endpoint.IpEndpoint.{IpEndpoint}
use Rattle.sock_core.specs.Facts.{Facts}
use Rattle.sock_core.specs.Received.{Received}
use Rattle.sock_tcp.specs.Queue.{Queue}
use Rattle.sock_tcp.specs.View.{View, fresh}
use Rattle.sock_tcp.specs.Begin.{Begun, begun, begun_to, before_emit, before_emit_to, ended, peer_of}
use Rattle.sock_tcp.specs.Process.{Accepts, AcceptsIn, tuple_of}
use Rattle.sock_tcp.specs.Closing.{closed, aborted, closed_in, waits_in}
use Rattle.sock_tcp.proofs.Late.{called_as}
use Rattle.sock_tcp.specs.Queues.{may_send, may_recv, queued, read_off, receives, can_recv}
use Rattle.tcp_laws.proofs.Frames.{closed_peers, process_peers}
use Rattle.tcp_laws.specs.Laws.{IsPeered}
use Rattle.sock_tcp.specs.Opening.{connected, listened, renewed}
use Rattle.tcp_laws.specs.Awake.{IsReachedByOwn}
use Rattle.sock_tcp.specs.declared.state.State.TheVariants as state
use Rattle.sock_tcp.specs.declared.tuple.Tuple.{Tuple}
use Rattle.ip_wire.specs.declared.endpoint.IpListenEndpoint.{IpListenEndpoint}
use Rattle.pair_core.specs.Moments.{facts_of}
use Rattle.pair_core.specs.NetworkInvariant.{IsInvariant, IsLimit}
use Rattle.pair_core.specs.PairCalls.{listening, connecting, OpensAs, sending, Sends, SendsUnder, SendsIf, is_over, receiving, Receives, ReceivesIf, closing, Closes, aborting, Aborts, setting as setting_host, Sets, Calls}
use Rattle.pair_core.specs.Settings.{set_in}
use Rattle.pair_core.specs.declared.setting.Setting.{Setting}
use Rattle.pair_core.specs.declared.setting.Setting.TheVariants as setting
use Rattle.pair_core.specs.PairAddresses.{AllGo, GoesFrom, HasPeer, endpoint_at, tuple_to}
use Rattle.pair_core.specs.PairInvariant.{IsIdle, IsReachable, IsHost, IsPair}
use Rattle.pair_core.specs.PairNetwork.{network_of, IsSmall}
use Rattle.pair_core.specs.PairSteps.{HostDispatches, Dispatches, DeliversTo, DeliversIf, delivered_to, exchanged, processed_by}
use Rattle.pair_core.specs.PairViews.{HostView, StoredView, PairView, host_of, with_host, new_host}
use Rattle.pair_core.specs.Captures.{SocketDispatches, SendsFrom}
use Rattle.pair_core.specs.declared.host.Call.{Call}
use Rattle.pair_core.specs.declared.host.Call.TheVariants as call
use Rattle.pair_core.specs.declared.host.Opening.{Opening}
use Rattle.pair_core.specs.declared.host.Opening.TheVariants as opening
use Rattle.pair_core.specs.declared.moment.Moment.{Moment}
use Rattle.pair_core.specs.declared.outcome.Outcome.{Outcome}
use Rattle.pair_core.specs.declared.capture.Sent.{Sent}
use Rattle.pair_core.specs.Sides.{other_side}
use Rattle.pair_core.specs.declared.side.Side.{Side}
use Rattle.pair_core.specs.declared.side.Side.TheVariants.{A, B}
use Rattle.pair_core.proofs.NetworkRuns.{starts}
use Rattle.pair_core.proofs.Addresses.{tuple_is}
use Rattle.pair_core.proofs.DispatchKeeps.{Keeps, closed_peer, keeps_in_dispatch}
use Rattle.pair_core.proofs.PairListeners.{aborted_listens, closed_listens, connected_active, listened_passive, passive_kept, process_listens, queued_listens, read_listens, KeepsListener}
use Rattle.pair_core.proofs.PairAmounts.{takes_some, hands_some}
use Rattle.pair_core.proofs.SocketCalls.{abort_call, called_reached, close_call, connect_call, dispatch_call, listen_call, moment_lawful, process_call, recv_call, send_call, set_call, source_call}

-- a host that is one still, on the same endpoint
pub record StaysHost {G : Type 0} (remote : IpEndpoint) (h k : HostView G) : Type 0 where
  pub host : IsHost k
  pub endpoint : k.endpoint ≡ h.endpoint
  pub peer : HasPeer h remote → HasPeer k remote

pub unchanged : {remote : IpEndpoint} {G : Type 0} (h k : HostView G) → IsHost h → k ≡ h → StaysHost remote h k
unchanged {remote} h k i e = record { host = subst IsHost (sym e) i; endpoint = ap (λ (x : HostView _). x.endpoint) e; peer = λ p. subst (λ x. HasPeer x remote) (sym e) p }

-- ---- peers

listened_peer : (v : View) (e : IpListenEndpoint) (t : Tuple) → IsPeered (listened v e).state (listened v e).tuple t
unfolding listened renewed fresh
listened_peer v e t = refl

connected_peer : (v : View) (t : Tuple) (word : ℕ) → IsPeered (connected v t word).state (connected v t word).tuple t
unfolding connected renewed fresh
connected_peer v t word = refl

queued_peer : (v : View) (n : ℕ) (bs : List ℕ) (t : Tuple) → IsPeered v.state v.tuple t → IsPeered (queued v n bs).state (queued v n bs).tuple t
unfolding queued
queued_peer v n bs t p = p

read_peer : (v : View) (n : ℕ) (t : Tuple) → IsPeered v.state v.tuple t → IsPeered (read_off v n).state (read_off v n).tuple t
unfolding read_off
read_peer v n t p = p

call_peers : (v : View) (t : Tuple) → IsPeered v.state v.tuple t → IsPeered (closed v).state v.tuple t
call_peers v t p = called_as (λ st. IsPeered st v.tuple t) (waits_in v.state v.rules) v.state p (closed_peers v.state v.tuple t p)

set_peer : (s : Setting) (v : View) (t : Tuple) → IsPeered v.state v.tuple t → IsPeered (set_in s v).state (set_in s v).tuple t
set_peer (setting.KeepAlive d) v t p = p
set_peer _ v t p = p

-- ---- opening

opens : {remote : IpEndpoint} {G : Type 0} (w : Opening) (h n k : HostView G) (o : Outcome) → IsHost h → (w ≡ opening.Unopened → StaysHost remote h n) → OpensAs w h n o k → StaysHost remote h k
opens {remote} opening.Unopened h n k o i s e = subst (StaysHost remote h) (sym e.1) (s refl)
opens opening.Listener h n k o i s e = unchanged h k i e.1
opens opening.Connector h n k o i s e = unchanged h k i e.1

listen_stays : {remote : IpEndpoint} {G : Type 0} (h k : HostView G) (o : Outcome) → IsHost h → OpensAs h.opening h (listening h) o k → StaysHost remote h k
listen_stays h k o i e = opens h.opening h (listening h) k o i (λ u. record { host = record { reachable = i.reachable; idle = λ n. let no : opening.Listener ≡ opening.Unopened = n in cc; passive = λ shut live. listened_passive h.control_block (record { addr = Some h.endpoint.addr; port = h.endpoint.port }) i.reachable.port; reached = called_reached h.control_block (listening h).control_block (listen_call h.control_block (record { addr = Some h.endpoint.addr; port = h.endpoint.port }) (i.idle u).state i.reachable.port) i.reached }; endpoint = refl; peer = λ p. listened_peer h.control_block (record { addr = Some h.endpoint.addr; port = h.endpoint.port }) (tuple_to h _) }) e

pub connect_stays : {G : Type 0} (h k : HostView G) (m : Moment) (remote : IpEndpoint) (o : Outcome) → IsHost h → IsReachable remote → SameVersion h.endpoint.addr remote.addr → OpensAs h.opening h (connecting h m remote) o k → StaysHost remote h k
connect_stays h k m remote o i there version e = opens h.opening h (connecting h m remote) k o i (λ u. record { host = record { reachable = i.reachable; idle = λ n. let no : opening.Connector ≡ opening.Unopened = n in cc; passive = λ shut live. connected_active h.control_block (record { local = h.endpoint; remote = remote }) m.word; reached = called_reached h.control_block (connecting h m remote).control_block (connect_call h.control_block (facts_of m) h.endpoint remote (i.idle u).state i.reachable there version m.word m.fits) i.reached }; endpoint = refl; peer = λ p. connected_peer h.control_block (record { local = h.endpoint; remote = remote }) m.word }) e

-- ---- sending and receiving

pub cannot_send : {G : Type 0} (h : HostView G) → IsHost h → may_send h.control_block.state ≡ true → h.opening ≡ opening.Unopened → ⊥
cannot_send h i m u = let no : false ≡ true = sym (ap may_send (i.idle u).state) ∙ m in cc

pub cannot_recv : {G : Type 0} (h : HostView G) → IsHost h → may_recv h.control_block ≡ true → h.opening ≡ opening.Unopened → ⊥
cannot_recv h i m u =
    let none : can_recv h.control_block ≡ false = ap (λ (q : List ℕ). not (length q == 0)) (i.idle u).rx in
    let closed : receives h.control_block.state ≡ false = ap receives (i.idle u).state in
    let both : may_recv h.control_block ≡ false = ap (λ b. if b then true else can_recv h.control_block) closed ∙ none in
    let no : false ≡ true = sym both ∙ m in cc

pub send_stays : {remote : IpEndpoint} {G : Type 0} (h k : HostView G) (limit size : Option ℕ) (bs : List ℕ) (o : Outcome) → IsHost h → Sends limit size bs h o k → StaysHost remote h k
send_stays {remote} h k limit size bs o i e = go (is_over limit _) e
  where
    take_some : (b : Bool) → may_send h.control_block.state ≡ b → SendsIf b size bs h o k → StaysHost remote h k
    take_some true m x =
        let s = takes_some size bs h o k x in
        subst (StaysHost remote h) (sym s.host) (record { host = record { reachable = i.reachable; idle = λ u. absurd (cannot_send h i m u); passive = passive_kept h (sending h s.count bs) i refl (queued_listens h.control_block s.count bs); reached = called_reached h.control_block (sending h s.count bs).control_block (send_call h.control_block s.count bs m s.offered s.fits) i.reached }; endpoint = refl; peer = λ p. queued_peer h.control_block s.count bs (tuple_to h _) p })
    take_some false m x = unchanged h k i x.1

    go : (b : Bool) → SendsUnder b size bs h o k → StaysHost remote h k
    go true x = unchanged h k i x.1
    go false x = take_some (may_send h.control_block.state) refl x

pub recv_stays : {remote : IpEndpoint} {G : Type 0} (h k : HostView G) (piece : Bool) (size : ℕ) (o : Outcome) → IsHost h → Receives piece size h o k → StaysHost remote h k
recv_stays {remote} h k piece size o i e = go (may_recv h.control_block) refl e
  where
    go : (b : Bool) → may_recv h.control_block ≡ b → ReceivesIf b piece size h o k → StaysHost remote h k
    go true m x =
        let s = hands_some piece size h o k x in
        subst (StaysHost remote h) (sym s.does.host) (record { host = record { reachable = i.reachable; idle = λ u. absurd (cannot_recv h i m u); passive = passive_kept h (receiving h s.count) i refl (read_listens h.control_block s.count); reached = called_reached h.control_block (receiving h s.count).control_block (recv_call h.control_block s.count m s.within) i.reached }; endpoint = refl; peer = λ p. read_peer h.control_block s.count (tuple_to h _) p })
    go false m x = unchanged h k i x.1

-- ---- closing

closed_idle : (v : View) → IsIdle v → IsIdle (closed v)
closed_idle v i = record { state = ap (λ st. closed_in st v.rules) i.state; tuple = i.tuple; rx = i.rx; tx = i.tx; no_fin = i.no_fin }

aborted_idle : (v : View) → IsIdle v → IsIdle (aborted v)
aborted_idle v i = record { state = refl; tuple = i.tuple; rx = i.rx; tx = i.tx; no_fin = i.no_fin }

close_stays : {remote : IpEndpoint} {G : Type 0} (h k : HostView G) (o : Outcome) → IsHost h → Closes h o k → StaysHost remote h k
close_stays {remote} h k o i e = subst (StaysHost remote h) (sym e.1) (record { host = record { reachable = i.reachable; idle = λ u. closed_idle h.control_block (i.idle u); passive = passive_kept h (closing h) i refl (closed_listens h.control_block); reached = called_reached h.control_block (closed h.control_block) (close_call h.control_block) i.reached }; endpoint = refl; peer = λ p. call_peers h.control_block (tuple_to h _) p })

abort_stays : {remote : IpEndpoint} {G : Type 0} (h k : HostView G) (o : Outcome) → IsHost h → Aborts h o k → StaysHost remote h k
abort_stays {remote} h k o i e = subst (StaysHost remote h) (sym e.1) (record { host = record { reachable = i.reachable; idle = λ u. aborted_idle h.control_block (i.idle u); passive = passive_kept h (aborting h) i refl (aborted_listens h.control_block); reached = called_reached h.control_block (aborted h.control_block) (abort_call h.control_block) i.reached }; endpoint = refl; peer = λ p. closed_peer h.control_block.state h.control_block.tuple (tuple_to h _) p })

-- ---- settings

set_idle : (s : Setting) (v : View) → IsIdle v → IsIdle (set_in s v)
set_idle (setting.KeepAlive t) v i = record { state = i.state; tuple = i.tuple; rx = i.rx; tx = i.tx; no_fin = i.no_fin }
set_idle _ v i = record { state = i.state; tuple = i.tuple; rx = i.rx; tx = i.tx; no_fin = i.no_fin }

set_listens : (s : Setting) (v : View) → KeepsListener v (set_in s v)
set_listens (setting.KeepAlive t) v = λ n. (n, refl)
set_listens _ v = λ n. (n, refl)

set_stays : {remote : IpEndpoint} {G : Type 0} (h k : HostView G) (s : Setting) (o : Outcome) → IsHost h → Sets s h o k → StaysHost remote h k
set_stays {remote} h k s o i e = subst (StaysHost remote h) (sym e.1) (record { host = record { reachable = i.reachable; idle = λ u. set_idle s h.control_block (i.idle u); passive = passive_kept h (setting_host h s) i refl (set_listens s h.control_block); reached = called_reached h.control_block (set_in s h.control_block) (set_call s h.control_block) i.reached }; endpoint = refl; peer = λ p. set_peer s h.control_block (tuple_to h _) p })

pub call_stays : {remote : IpEndpoint} {G : Type 0} (x : Call) (h k : HostView G) (o : Outcome) → IsHost h → Calls x h o k → StaysHost remote h k
call_stays call.Listen h k o i e = listen_stays h k o i e
call_stays call.Close h k o i e = close_stays h k o i e
call_stays call.Abort h k o i e = abort_stays h k o i e
call_stays (call.Set s) h k o i e = set_stays h k s o i e

-- ---- dispatches and deliveries

pub no_peer_readies : (v : View) (f : Facts) → v.tuple ≡ None → before_emit v f ≡ ended v
unfolding before_emit begun
no_peer_readies v f e = ap (λ (b : Begun). before_emit_to (peer_of b) b.view f) (ap (λ o. begun_to o v f) e)

pub idle_dispatches : {G : Type 0} (tells : G → ℕ → Type 0) (source : Option G) (v w : View) (f : Facts) (fail : Bool) (r : Sent) → v.tuple ≡ None → SocketDispatches tells source v f fail r w → w ≡ v
unfolding SocketDispatches
idle_dispatches tells source v w f fail r e d = (subst (λ (b : Begun). SendsFrom tells source (peer_of b) b.view f fail r w) (no_peer_readies v f e) d).1

pub dispatch_stays : {remote : IpEndpoint} {G : Type 0} (tells : G → ℕ → Type 0) (s : Side) (m : Moment) (fail : Bool) (o : Outcome) (h k : HostView G) (ts ts' : List StoredView) → IsHost h → Dispatches tells s m fail o h ts k ts' → StaysHost remote h k
dispatch_stays {remote} tells s m fail o h k ts ts' i d =
    let x : HostDispatches tells m fail h d.sent k = d.does in
    let keeps : Keeps h.control_block k.control_block = keeps_in_dispatch tells h.source h.control_block k.control_block (facts_of m) fail d.sent x.socket in
    subst (StaysHost remote h) (sym x.same) (record {
      host = record { reachable = i.reachable; idle = λ u. subst IsIdle (sym (idle_dispatches tells h.source h.control_block k.control_block (facts_of m) fail d.sent (i.idle u).tuple x.socket)) (i.idle u); passive = passive_kept h (record h { control_block = k.control_block }) i refl keeps.listener; reached = called_reached h.control_block k.control_block (dispatch_call tells h.source (facts_of m) (moment_lawful m) fail d.sent k.control_block h.control_block x.socket) i.reached };
      endpoint = refl;
      peer = λ p. keeps.peer (tuple_to h _) p;
    })

pub closed_accepts_none : (v : View) (t : StoredView) → v.state ≡ state.Closed → Accepts v t.ip t.segment → ⊥
closed_accepts_none v t e a = subst (λ st. AcceptsIn st v t.ip t.segment) e a

pub deliver_stays : {remote : IpEndpoint} {G : Type 0} (tells : G → ℕ → Type 0) (old : Bool) (s : Side) (m : Moment) (t : StoredView) (o : Outcome) (h k : HostView G) (ts ts' : List StoredView) → IsHost h → IsSmall t.segment → GoesFrom t remote h.endpoint → DeliversTo tells old s m t o h ts k ts' → StaysHost remote h k
deliver_stays tells true s m t o h k ts ts' i small g d = unchanged h k i d.1.0
deliver_stays {remote} tells false s m t o h k ts ts' i small g d = go d.accepted d.says.0 d.does
  where
    is : tuple_of t.ip t.segment ≡ tuple_to h remote
    is = tuple_is t h.endpoint remote g

    peers : HasPeer h remote → HasPeer (delivered_to h m t) remote
    peers p = subst (λ x. IsPeered (processed_by h m t).view.state (processed_by h m t).view.tuple x) is (process_peers h.control_block _ m.word t.ip t.segment h.control_block.rules (subst (λ x. IsPeered h.control_block.state h.control_block.tuple x) (sym is) p))

    go : (b : Bool) → (IsTrue b → Accepts h.control_block t.ip t.segment) → DeliversIf tells b s m t o h ts k ts' → StaysHost remote h k
    go true a x = subst (StaysHost remote h) (sym x.host) (record { host = record { reachable = i.reachable; idle = λ u. absurd (closed_accepts_none h.control_block t (i.idle u).state (a refl)); passive = passive_kept h (delivered_to h m t) i refl (λ live. ((λ c. closed_accepts_none h.control_block t c (a refl)), process_listens h.control_block _ m.word t.ip t.segment)); reached = called_reached h.control_block (processed_by h m t).view (process_call h.control_block m t small (a refl)) i.reached }; endpoint = refl; peer = peers })
    go false a x = unchanged h k i x.host

-- ---- the pair

-- a peer at an endpoint that is the same
moved_peer : {G : Type 0} (h : HostView G) (x y : IpEndpoint) → x ≡ y → HasPeer h x → HasPeer h y
moved_peer h x y e p = subst (HasPeer h) e p

-- segments of two sides with the same endpoints
ends_same : {G : Type 0} (p q : PairView G) (ks : List StoredView) → q.a.endpoint ≡ p.a.endpoint → q.b.endpoint ≡ p.b.endpoint → AllGo (endpoint_at p) ks → AllGo (endpoint_at q) ks
ends_same p q [] a b g = tt
ends_same p q (k ∷ ks) a b g = (
  record {
    src_addr = g.0.src_addr ∙ ap (λ (x : IpEndpoint). x.addr) (sym (same k.emitter));
    src_port = g.0.src_port ∙ ap (λ (x : IpEndpoint). x.port) (sym (same k.emitter));
    dst_addr = g.0.dst_addr ∙ ap (λ (x : IpEndpoint). x.addr) (sym (same (other_side k.emitter)));
    dst_port = g.0.dst_port ∙ ap (λ (x : IpEndpoint). x.port) (sym (same (other_side k.emitter)));
  },
  ends_same p q ks a b g.1,
)
  where
    same : (s : Side) → endpoint_at q s ≡ endpoint_at p s
    same A = a
    same B = b

pub pair_exchanged : {G : Type 0} (s : Side) (p : PairView G) (k : HostView G) (ts : List StoredView) → IsPair p → StaysHost (host_of (other_side s) p).endpoint (host_of s p) k → AllGo (endpoint_at p) ts → IsInvariant (network_of (exchanged s p k ts)) → IsPair (exchanged s p k ts)
pair_exchanged A p k ts i s g n = record {
  a = s.host;
  b = i.b;
  versions = subst (λ (e : IpEndpoint). SameVersion e.addr p.b.endpoint.addr) (sym s.endpoint) i.versions;
  peer_of_a = s.peer i.peer_of_a;
  peer_of_b = moved_peer p.b p.a.endpoint k.endpoint (sym s.endpoint) i.peer_of_b;
  segments = ends_same p (exchanged A p k ts) ts s.endpoint refl g;
  network = n;
}
pair_exchanged B p k ts i s g n = record {
  a = i.a;
  b = s.host;
  versions = subst (λ (e : IpEndpoint). SameVersion p.a.endpoint.addr e.addr) (sym s.endpoint) i.versions;
  peer_of_a = moved_peer p.a p.b.endpoint k.endpoint (sym s.endpoint) i.peer_of_a;
  peer_of_b = s.peer i.peer_of_b;
  segments = ends_same p (exchanged B p k ts) ts refl s.endpoint g;
  network = n;
}

pub pair_with : {G : Type 0} (s : Side) (p : PairView G) (k : HostView G) → IsPair p → StaysHost (host_of (other_side s) p).endpoint (host_of s p) k → IsInvariant (network_of (with_host s p k)) → IsPair (with_host s p k)
pair_with A p k i s n = pair_exchanged A p k p.segments i s i.segments n
pair_with B p k i s n = pair_exchanged B p k p.segments i s i.segments n

pub peer_at : {G : Type 0} (s : Side) (p : PairView G) → IsPair p → HasPeer (host_of s p) (host_of (other_side s) p).endpoint
peer_at A p i = i.peer_of_a
peer_at B p i = i.peer_of_b

pub version_at : {G : Type 0} (s : Side) (p : PairView G) → IsPair p → SameVersion (endpoint_at p s).addr (endpoint_at p (other_side s)).addr
version_at A p i = i.versions
version_at B p i = sym i.versions

pub host_at : {G : Type 0} (s : Side) (p : PairView G) → IsPair p → IsHost (host_of s p)
host_at A p i = i.a
host_at B p i = i.b

-- ---- a new pair

new_idle : (rx : Received) (tx : Queue) (is_there : Bool) → rx.bytes ≡ [] → tx.bytes ≡ [] → IsIdle (record (fresh rx tx) { stamps = is_there })
unfolding fresh
new_idle rx tx is_there r t = record { state = refl; tuple = refl; rx = r; tx = t; no_fin = refl }

new_peer : (rx : Received) (tx : Queue) (t : Tuple) → IsPeered (fresh rx tx).state (fresh rx tx).tuple t
unfolding fresh
new_peer rx tx t = inl refl

new_is_host : {G : Type 0} (rx : Received) (tx : Queue) (e : IpEndpoint) (x : Option G) → rx.bytes ≡ [] → tx.bytes ≡ [] → IsReachable e → IsReachedByOwn (fresh rx tx) → IsHost (new_host (fresh rx tx) e x)
new_is_host rx tx e x r t i c = record { reachable = i; idle = λ u. new_idle rx tx (is_some x) r t; passive = λ shut live. absurd (shut refl); reached = called_reached (fresh rx tx) _ (source_call (fresh rx tx) (is_some x)) c }

pub new_is_pair : {G : Type 0} (arx : Received) (atx : Queue) (brx : Received) (btx : Queue) (a b : IpEndpoint) (x y : Option G) (limit : Option ℕ) (ha hb : HostView G) (ts : List StoredView) → ha ≡ new_host (fresh arx atx) a x → hb ≡ new_host (fresh brx btx) b y → ts ≡ [] → arx.bytes ≡ [] → atx.bytes ≡ [] → brx.bytes ≡ [] → btx.bytes ≡ [] → IsReachable a → IsReachable b → IsReachedByOwn (fresh arx atx) → IsReachedByOwn (fresh brx btx) → SameVersion a.addr b.addr → IsLimit limit → IsPair (record { a = ha; b = hb; segments = ts; limit = limit })
new_is_pair arx atx brx btx a b x y limit ha hb ts ea eb et r1 t1 r2 t2 ia ib ca cb v l =
    subst (λ h. IsPair (record { a = h; b = hb; segments = ts; limit = limit })) (sym ea)
    (subst (λ h. IsPair (record { a = new_host (fresh arx atx) a x; b = h; segments = ts; limit = limit })) (sym eb)
    (subst (λ xs. IsPair (record { a = new_host (fresh arx atx) a x; b = new_host (fresh brx btx) b y; segments = xs; limit = limit })) (sym et)
    (record { a = new_is_host arx atx a x r1 t1 ia ca; b = new_is_host brx btx b y r2 t2 ib cb; versions = v; peer_of_a = new_peer arx atx _; peer_of_b = new_peer brx btx _; segments = tt; network = starts limit l })))
