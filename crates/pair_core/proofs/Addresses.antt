-- What each event keeps of the addresses: each side's peer is the other side, and segments go from the one to the other.
use Rattle.std.proofs.Common.{◌≡◌, ℕ, Bool, true, false, refl, sym, ap, subst, ◌∙◌, List, [], ◌∷◌, ◌++◌, Option, Some, None, ⊎_elim}
use Rattle.std.specs.Prelude.{option_map, slice_get, zero, suc, if◌then◌else◌}
use Rattle.ip_wire.specs.Address.{SameVersion}
use Rattle.ip_wire.specs.IpHeader.{ip_header, src_addr_of, dst_addr_of}
use Rattle.ip_wire.specs.declared.address.IpAddress.{IpAddress}
use Rattle.ip_wire.specs.declared.address.IpAddress.TheVariants as address
use Rattle.ip_wire.specs.declared.endpoint.IpEndpoint.{IpEndpoint}
use Rattle.ip_wire.specs.declared.protocol.IpProtocol.{IpProtocol}
use Rattle.ip_wire.specs.declared.protocol.IpProtocol.TheVariants as protocol
use Rattle.ip_wire.specs.declared.repr.IpRepr.{IpRepr}
use Rattle.control_wire.specs.Segment.{Segment}
use Rattle.control_wire.specs.declared.tcp.TcpControl.{TcpControl}
use Rattle.control_wire.specs.declared.tcp.TcpTimestampRepr.{TcpTimestampRepr}
use Rattle.sock_core.specs.Facts.{Facts}
use Rattle.tcp_laws.proofs.Frames.{GoesBack}
use Rattle.sock_tcp.specs.Rfc.Numbers.{outgoing}
use Rattle.sock_tcp.specs.Begin.{before_emit, peer_of}
use Rattle.sock_tcp.specs.Content.{Sending, content, filled, emission_kind, of_kind, plain_segment, sent_as}
use Rattle.tcp_laws.specs.Laws.{IsPeered}
use Rattle.sock_tcp.specs.Process.{AcceptsIn, IsAddressed, tuple_of}
use Rattle.sock_tcp.specs.Replies.{Answers, with_header}
use Rattle.sock_tcp.specs.View.{View, moment_of}
use Rattle.sock_tcp.specs.declared.emission.Kind.{Kind}
use Rattle.sock_tcp.specs.declared.emission.Kind.TheVariants as kind
use Rattle.sock_tcp.specs.declared.state.State.{State}
use Rattle.sock_tcp.specs.declared.state.State.TheVariants as state
use Rattle.sock_tcp.specs.declared.tuple.Tuple.{Tuple}
use Rattle.pair_core.proofs.DispatchKeeps.{before_emit_keeps}
use Rattle.pair_core.specs.Holding.{kept_at}
use Rattle.pair_core.specs.PairAddresses.{AllGo, GoesFrom}
use Rattle.pair_core.specs.PairSteps.{stored_at}
use Rattle.pair_core.specs.PairViews.{StoredView}
use Rattle.pair_core.specs.Captures.{Records, SendsFrom, SendsTo, SocketDispatches}
use Rattle.pair_core.specs.Sides.{other_side}
use Rattle.pair_core.specs.declared.capture.Sent.{Sent}
use Rattle.pair_core.specs.declared.capture.Sent.TheVariants as sent
use Rattle.pair_core.specs.declared.side.Side.{Side}

-- ---- lists

pub all_append : (ends : Side → IpEndpoint) (xs ys : List StoredView) → AllGo ends xs → AllGo ends ys → AllGo ends (xs ++ ys)
all_append ends [] ys a b = b
all_append ends (x ∷ xs) ys a b = (a.0, all_append ends xs ys a.1 b)

the_stored : {a b : StoredView} → Some a ≡ Some b → a ≡ b
the_stored e = cc

pub one_goes : (ends : Side → IpEndpoint) (ks : List StoredView) (n : ℕ) (k : StoredView) → AllGo ends ks → slice_get ks n ≡ Some k → GoesFrom k (ends k.emitter) (ends (other_side k.emitter))
one_goes ends [] n k a e = let no : None ≡ Some k = e in cc
one_goes ends (x ∷ xs) zero k a e = subst (λ z. GoesFrom z (ends z.emitter) (ends (other_side z.emitter))) (the_stored e) a.0
one_goes ends (x ∷ xs) (suc n) k a e = one_goes ends xs n k a.1 e

-- ---- headers

pub header_src : (a b : IpAddress) (p : IpProtocol) (n h : ℕ) → src_addr_of (ip_header a b p n h) ≡ a
header_src (address.Ipv4 a) (address.Ipv4 b) p n h = refl
header_src (address.Ipv4 a) (address.Ipv6 b) p n h = refl
header_src (address.Ipv6 a) (address.Ipv4 b) p n h = refl
header_src (address.Ipv6 a) (address.Ipv6 b) p n h = refl

pub header_dst : (a b : IpAddress) (p : IpProtocol) (n h : ℕ) → SameVersion a b → dst_addr_of (ip_header a b p n h) ≡ b
header_dst (address.Ipv4 a) (address.Ipv4 b) p n h v = refl
header_dst (address.Ipv6 a) (address.Ipv6 b) p n h v = refl
header_dst (address.Ipv4 a) (address.Ipv6 b) p n h v = cc
header_dst (address.Ipv6 a) (address.Ipv4 b) p n h v = cc

-- ---- a reply, or the RST that answers a refused segment

-- a segment with its header that answers the stored one
pub answer_goes : (s : Side) (t : StoredView) (here there : IpEndpoint) (r : Segment) (stamp : Option TcpTimestampRepr) (released taken : ℕ) → SameVersion here.addr there.addr → GoesFrom t there here → (r.src_port ≡ t.segment.dst_port) × (r.dst_port ≡ t.segment.src_port)
    → GoesFrom (record { emitter = s; ip = (with_header t.ip (record r { timestamp = stamp })).0; segment = record r { timestamp = stamp }; released_at = released; taken_at = taken }) here there
answer_goes s t here there r stamp released taken v g p = record {
  src_addr = header_src (dst_addr_of t.ip) (src_addr_of t.ip) protocol.Tcp _ 64 ∙ g.dst_addr;
  src_port = p.0 ∙ g.dst_port;
  dst_addr = header_dst (dst_addr_of t.ip) (src_addr_of t.ip) protocol.Tcp _ 64 (subst (λ a. SameVersion a (src_addr_of t.ip)) (sym g.dst_addr) (subst (λ b. SameVersion here.addr b) (sym g.src_addr) v)) ∙ g.src_addr;
  dst_port = p.1 ∙ g.src_port;
}

module _ (ends : Side → IpEndpoint) (s : Side) (t : StoredView) (version : SameVersion (ends s).addr (ends (other_side s)).addr) (g : GoesFrom t (ends (other_side s)) (ends s)) where
  pub reply_goes : (stamped : TcpControl → Option TcpTimestampRepr → Type 0) (x : Option Segment) (r : Option (IpRepr × Segment)) (released taken : ℕ) → GoesBack t.segment x → Answers stamped t.ip x r → AllGo ends (kept_at s r released taken)
  reply_goes stamped None None released taken b a = tt
  reply_goes stamped None (Some r) released taken b a = absurd a
  reply_goes stamped (Some x) None released taken b a = absurd a
  reply_goes stamped (Some x) (Some r) released taken b a = (
    subst (λ (z : IpRepr × Segment). GoesFrom (record { emitter = s; ip = z.0; segment = z.1; released_at = released; taken_at = taken }) (ends s) (ends (other_side s))) (sym a.is)
        (answer_goes s t (ends s) (ends (other_side s)) x a.stamp released taken version g b),
    tt,
  )

-- ---- a dispatch

the_tuple : {a b : Tuple} → Some a ≡ Some b → a ≡ b
the_tuple e = cc

-- a dispatch goes on to the socket's peer
peer_is : (goes_on : Bool) (o : Option Tuple) (t : Tuple) → (if goes_on then o else None) ≡ Some t → o ≡ Some t
peer_is true o t e = e
peer_is false o t e = let no : None ≡ Some t = e in cc

peered : (st : State) (o : Option Tuple) (t u : Tuple) → IsPeered st o u → o ≡ Some t → t ≡ u
peered state.Closed o t u p e = ⊎_elim (λ h. let no : None ≡ Some t = sym h ∙ e in cc) (λ h. the_tuple (sym e ∙ h)) p
peered state.Listen o t u p e = let no : None ≡ Some t = sym p ∙ e in cc
peered _ o t u p e = the_tuple (sym e ∙ p)

-- what goes out has the ports of the connection
record HasPorts (t : Tuple) (s : Segment) : Type 0 where
  src : s.src_port ≡ t.local.port
  dst : s.dst_port ≡ t.remote.port

ports_of : (t : Tuple) (x y : Segment) → HasPorts t x → Some x ≡ Some y → HasPorts t y
ports_of t x y h e = subst (HasPorts t) (the_segment e) h
  where
    the_segment : {a b : Segment} → Some a ≡ Some b → a ≡ b
    the_segment e = cc

module _ (v : View) (t : Tuple) (f : Facts) (stamp : Option ℕ) (bytes : List ℕ) where
  filled_ports : (st : State) (x : Segment) → filled st v t f bytes (plain_segment v t stamp) ≡ Some x → HasPorts t x
  unfolding plain_segment
  filled_ports state.Listen x e = let no : None ≡ Some x = e in cc
  filled_ports state.Closed x e = ports_of t _ x (record { src = refl; dst = refl }) e
  filled_ports state.SynSent x e = ports_of t _ x (record { src = refl; dst = refl }) e
  filled_ports state.SynReceived x e = ports_of t _ x (record { src = refl; dst = refl }) e
  filled_ports state.Established x e = ports_of t _ x (record { src = refl; dst = refl }) e
  filled_ports state.FinWait1 x e = ports_of t _ x (record { src = refl; dst = refl }) e
  filled_ports state.FinWait2 x e = ports_of t _ x (record { src = refl; dst = refl }) e
  filled_ports state.CloseWait x e = ports_of t _ x (record { src = refl; dst = refl }) e
  filled_ports state.Closing x e = ports_of t _ x (record { src = refl; dst = refl }) e
  filled_ports state.LastAck x e = ports_of t _ x (record { src = refl; dst = refl }) e
  filled_ports state.TimeWait x e = ports_of t _ x (record { src = refl; dst = refl }) e

  -- from the one endpoint to the other
  record Leaves (c : Sending) : Type 0 where
    ports : HasPorts t c.segment
    src : src_addr_of c.ip ≡ t.local.addr
    dst : dst_addr_of c.ip ≡ t.remote.addr

  kind_ports : (k : Kind) (x : Segment) → HasPorts t x → HasPorts t (of_kind k v x)
  kind_ports kind.KeepAlive x h = record { src = h.src; dst = h.dst }
  kind_ports kind.Plain x h = h
  kind_ports kind.Probe x h = h

  content_leaves : SameVersion t.local.addr t.remote.addr → (c : Sending) → content v t f stamp bytes ≡ Some c → Leaves c
  unfolding content
  content_leaves version c e = go (filled v.state v t f bytes (plain_segment v t stamp)) refl e
    where
      the_sending : {a b : Sending} → Some a ≡ Some b → a ≡ b
      the_sending e = cc

      go : (o : Option Segment) → filled v.state v t f bytes (plain_segment v t stamp) ≡ o → option_map (λ x. sent_as v t (emission_kind v (moment_of f) x) x) o ≡ Some c → Leaves c
      go None is e = let no : None ≡ Some c = e in cc
      go (Some x) is e = subst Leaves (the_sending e) (record {
        ports = kind_ports (emission_kind v (moment_of f) x) x (filled_ports v.state x is);
        src = header_src t.local.addr t.remote.addr protocol.Tcp _ _;
        dst = header_dst t.local.addr t.remote.addr protocol.Tcp _ _ version;
      })

module _ (ends : Side → IpEndpoint) (s : Side) (released taken : ℕ) where
  -- what was recorded of an emit goes where it was sent
  recorded_goes : (v : View) (t : Tuple) (f : Facts) (stamp : Option ℕ) (bytes : List ℕ) (fail : Bool) (o : Option Sending) (r : Sent) → SameVersion t.local.addr t.remote.addr → t ≡ record { local = ends s; remote = ends (other_side s) } → content v t f stamp bytes ≡ o → Records fail (outgoing v o) r → AllGo ends (stored_at s r released taken)
  recorded_goes v t f stamp bytes true None r version is e x = subst (λ z. AllGo ends (stored_at s z released taken)) (sym x) tt
  recorded_goes v t f stamp bytes false None r version is e x = subst (λ z. AllGo ends (stored_at s z released taken)) (sym x) tt
  recorded_goes v t f stamp bytes true (Some c) r version is e x = subst (λ z. AllGo ends (stored_at s z released taken)) (sym x) tt
  recorded_goes v t f stamp bytes false (Some c) sent.Quiet version is e x = absurd x
  recorded_goes v t f stamp bytes false (Some c) sent.Failed version is e x = absurd x
  recorded_goes v t f stamp bytes false (Some c) (sent.Emitted h p) version is e x =
      let l = content_leaves v t f stamp bytes version c e in (
        record {
          src_addr = ap src_addr_of x.0.ip_repr ∙ l.src ∙ ap (λ (z : Tuple). z.local.addr) is;
          src_port = ap (λ (z : Segment). z.src_port) x.0.fields ∙ l.ports.src ∙ ap (λ (z : Tuple). z.local.port) is;
          dst_addr = ap dst_addr_of x.0.ip_repr ∙ l.dst ∙ ap (λ (z : Tuple). z.remote.addr) is;
          dst_port = ap (λ (z : Segment). z.dst_port) x.0.fields ∙ l.ports.dst ∙ ap (λ (z : Tuple). z.remote.port) is;
        },
        tt,
      )

  pub dispatch_goes : {G : Type 0} (tells : G → ℕ → Type 0) (source : Option G) (v w : View) (f : Facts) (fail : Bool) (r : Sent) → SameVersion (ends s).addr (ends (other_side s)).addr → IsPeered v.state v.tuple (record { local = ends s; remote = ends (other_side s) }) → SocketDispatches tells source v f fail r w → AllGo ends (stored_at s r released taken)
  unfolding SocketDispatches
  dispatch_goes tells source v w f fail r version p d = go (peer_of (before_emit v f)) refl d
    where
      u : View
      u = (before_emit v f).view

      to : (t : Tuple) → peer_of (before_emit v f) ≡ Some t → SendsTo tells source u t f fail r w → AllGo ends (stored_at s r released taken)
      to t e d =
          let is = peered u.state u.tuple t _ ((before_emit_keeps v f).peer _ p) (peer_is (before_emit v f).goes_on u.tuple t e) in
          recorded_goes u t f d.stamp d.bytes fail (content u t f d.stamp d.bytes) r (subst (λ (z : Tuple). SameVersion z.local.addr z.remote.addr) (sym is) version) is refl d.records

      go : (o : Option Tuple) → peer_of (before_emit v f) ≡ o → SendsFrom tells source o u f fail r w → AllGo ends (stored_at s r released taken)
      go None e d = subst (λ z. AllGo ends (stored_at s z released taken)) (sym d.0) tt
      go (Some t) e d = to t e d

-- ---- a segment that goes to the side is accepted, unless that is CLOSED or in LISTEN

pub accepted_in : (st : State) (v : View) (t : StoredView) (here there : IpEndpoint) → (st ≡ state.Closed → ⊥) → (st ≡ state.Listen → ⊥) → IsPeered st v.tuple (record { local = here; remote = there }) → GoesFrom t there here → AcceptsIn st v t.ip t.segment
accepted_in state.Closed v t here there open_ active p g = absurd (open_ refl)
accepted_in state.Listen v t here there open_ active p g = absurd (active refl)
accepted_in _ v t here there open_ active p g = subst (λ o. AddressedBy o) (sym p) (record { local_addr = g.dst_addr; local_port = g.dst_port; remote_addr = g.src_addr; remote_port = g.src_port })
  where
    AddressedBy : Option Tuple → Type 0
    AddressedBy o = IsAddressed o v.listen_endpoint t.ip t.segment

-- the tuple of a segment that goes to the side
pub tuple_is : (t : StoredView) (here there : IpEndpoint) → GoesFrom t there here → tuple_of t.ip t.segment ≡ record { local = here; remote = there }
tuple_is t here there g = λ i. record { local = record { addr = g.dst_addr i; port = g.dst_port i }; remote = record { addr = g.src_addr i; port = g.src_port i } }
