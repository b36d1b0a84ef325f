-- A socket that takes a segment is filed under the key of the segment.
use Rattle.std.proofs.Common.{◌≡◌, ◌∙◌, ℕ, ◌+◌, ◌*◌, List, true, false, Option, Some, None, sym, subst}
use Rattle.std.specs.Prelude.{IfSome, slice_get}
use Rattle.std.proofs.lemmas.Bool.{and_parts}
use Rattle.ip_wire.specs.declared.endpoint.IpListenEndpoint.{IpListenEndpoint}
use Rattle.ip_wire.specs.declared.repr.IpRepr.{IpRepr}
use Rattle.control_wire.specs.Segment.{Segment}
use Rattle.control_wire.specs.declared.udp.UdpRepr.{UdpRepr}
use Rattle.sock_core.specs.Facts.{Facts}
use Rattle.sock_tcp.specs.Opening.{is_listening}
use Rattle.sock_tcp.specs.Process.{AcceptsIn, IsAddressed, IsBetween}
use Rattle.sock_tcp.specs.View.{View}
use Rattle.sock_tcp.specs.declared.state.State.{State}
use Rattle.sock_tcp.specs.declared.state.State.TheVariants as state
use Rattle.sock_tcp.specs.declared.tuple.Tuple.{Tuple}
use Rattle.smoltcp_socket.specs.declared.socket.Socket.{Socket}
use Rattle.smoltcp_socket.specs.declared.socket.Socket.TheVariants as socket
use Rattle.host_index.specs.declared.entry.Entry.{Entry}
use Rattle.net_host.specs.declared.key.Key.TheVariants as key
use Rattle.net_host.specs.declared.slot.Slot.{Slot}
use Rattle.net_host.specs.Datagrams as datagrams
use Rattle.host_index.specs.Entries as entries
use Rattle.host_index.specs.Entries.{entry_at, has}
use Rattle.net_host.specs.Entries.{FindsListed}
use Rattle.net_host.specs.Filing.{connection_by, connection_key, first_by, listener_by, keys_in, keys_of, listener_key, number_of, udp_key}
use Rattle.net_host.specs.Indexing.{AreFiledBefore, are_filed, is_filed, is_under}
use Rattle.net_host.specs.Finding.{key_of_segment}
use Rattle.net_host.specs.Segments.{TakesIn, TakesSegment, has_peer_if}
use Rattle.net_host.specs.Walks.{Finds, IsAt, IsFirst}

no_truth : false ≡ true → ⊥
no_truth e = cc

module _ (es : List Entry) (k : ℕ) (ip : IpRepr) (s : Segment) where
  -- ---- a connection

  between : (t : Tuple) → IsBetween t ip s → is_under es k (key.Under (connection_key t)) ≡ true → has es (entry_at (key_of_segment ip s) k) ≡ true
  between t h f =
      subst (λ a. has es (record { major = number_of a; minor = s.dst_port * 65536 + s.src_port; place = k }) ≡ true) (sym h.remote_addr)
      (subst (λ p. has es (record { major = number_of t.remote.addr; minor = p * 65536 + s.src_port; place = k }) ≡ true) (sym h.local_port)
      (subst (λ q. has es (record { major = number_of t.remote.addr; minor = t.local.port * 65536 + q; place = k }) ≡ true) (sym h.remote_port) f))

  addressed : (t : Option Tuple) (e : IpListenEndpoint) → has_peer_if false t ≡ true → IsAddressed t e ip s → is_under es k (connection_by t) ≡ true → has es (entry_at (key_of_segment ip s) k) ≡ true
  addressed None e p h f = absurd (no_truth p)
  addressed (Some t) e p h f = between t h f

  accepted : (st : State) (v : View) → is_listening st ≡ false → AcceptsIn st v ip s → has_peer_if false v.tuple ≡ true → is_under es k (first_by st v.tuple v.listen_endpoint.port) ≡ true → has es (entry_at (key_of_segment ip s) k) ≡ true
  accepted state.Closed v l h p f = absurd h
  accepted state.Listen v l h p f = absurd (no_truth (sym l))
  accepted state.SynSent v l h p f = addressed v.tuple v.listen_endpoint p h f
  accepted state.SynReceived v l h p f = addressed v.tuple v.listen_endpoint p h f
  accepted state.Established v l h p f = addressed v.tuple v.listen_endpoint p h f
  accepted state.FinWait1 v l h p f = addressed v.tuple v.listen_endpoint p h f
  accepted state.FinWait2 v l h p f = addressed v.tuple v.listen_endpoint p h f
  accepted state.CloseWait v l h p f = addressed v.tuple v.listen_endpoint p h f
  accepted state.Closing v l h p f = addressed v.tuple v.listen_endpoint p h f
  accepted state.LastAck v l h p f = addressed v.tuple v.listen_endpoint p h f
  accepted state.TimeWait v l h p f = addressed v.tuple v.listen_endpoint p h f

  pub connection_in : {G : Type 0} (x : Option (Socket G)) → are_filed es k (keys_in x) ≡ true → TakesIn x false ip s → has es (entry_at (key_of_segment ip s) k) ≡ true
  connection_in None f h = absurd h
  connection_in (Some (socket.Raw x)) f h = absurd h
  connection_in (Some (socket.Icmp x)) f h = absurd h
  connection_in (Some (socket.Udp x)) f h = absurd h
  connection_in (Some (socket.Tcp x)) f h = accepted x.control_block.state x.control_block h.0 h.1 h.2 (and_parts _ _ f).0

  -- ---- a listener

  listening : (t : Option Tuple) (e : IpListenEndpoint) → IsAddressed t e ip s → is_under es k (listener_by t e.port) ≡ true → has es (entry_at (listener_key s.dst_port) k) ≡ true
  listening None e h f = subst (λ p. has es (record { major = 0; minor = p; place = k }) ≡ true) (sym h.port) f
  listening (Some t) e h f = subst (λ p. has es (record { major = 0; minor = p; place = k }) ≡ true) (sym h.local_port) f

  listens : (st : State) (v : View) → is_listening st ≡ true → AcceptsIn st v ip s → is_under es k (first_by st v.tuple v.listen_endpoint.port) ≡ true → has es (entry_at (listener_key s.dst_port) k) ≡ true
  listens state.Listen v l h f = listening v.tuple v.listen_endpoint h.1 f
  listens state.Closed v l h f = absurd (no_truth l)
  listens state.SynSent v l h f = absurd (no_truth l)
  listens state.SynReceived v l h f = absurd (no_truth l)
  listens state.Established v l h f = absurd (no_truth l)
  listens state.FinWait1 v l h f = absurd (no_truth l)
  listens state.FinWait2 v l h f = absurd (no_truth l)
  listens state.CloseWait v l h f = absurd (no_truth l)
  listens state.Closing v l h f = absurd (no_truth l)
  listens state.LastAck v l h f = absurd (no_truth l)
  listens state.TimeWait v l h f = absurd (no_truth l)

  pub listener_in : {G : Type 0} (x : Option (Socket G)) → are_filed es k (keys_in x) ≡ true → TakesIn x true ip s → has es (entry_at (listener_key s.dst_port) k) ≡ true
  listener_in None f h = absurd h
  listener_in (Some (socket.Raw x)) f h = absurd h
  listener_in (Some (socket.Icmp x)) f h = absurd h
  listener_in (Some (socket.Udp x)) f h = absurd h
  listener_in (Some (socket.Tcp x)) f h = listens x.control_block.state x.control_block h.0 h.1 (and_parts _ _ f).0

-- ---- what is found under a key is what a walk finds

module _ {G : Type 0} (P : Slot G → Type 0) (ss : List (Slot G)) (es : List Entry) (key : Entry) (filed : (k : ℕ) → is_filed (λ s. keys_of s) es k (slice_get ss k) ≡ true) (listed : (k : ℕ) (x : Slot G) → are_filed es k (keys_of x) ≡ true → P x → has es (entry_at key k) ≡ true) where
  none_at : (k : ℕ) (o : Option (Slot G)) → is_filed (λ s. keys_of s) es k o ≡ true → (has es (entry_at key k) ≡ true → IfSome o (λ x. P x → ⊥)) → IfSome o (λ x. P x → ⊥)
  none_at k None f h = tt
  none_at k (Some x) f h = λ p. h (listed k x f p) p

  pub found : (r : Option ℕ) → FindsListed P ss es key r → Finds P ss r
  found None h = λ k. none_at k (slice_get ss k) (filed k) (h k)
  found (Some i) h = record {
    within = h.within;
    holds = h.holds;
    before = λ k less. none_at k (slice_get ss k) (filed k) (h.before k less);
  }

-- the first place under the key, where each before it is filed
pub known_connection : {G : Type 0} (ss : List (Slot G)) (es : List Entry) (ip : IpRepr) (s : Segment) (i : ℕ) → AreFiledBefore (λ x. keys_of x) i ss es → entries.IsFirst es (key_of_segment ip s) i → IsAt (TakesSegment false ip s) ss i → IsFirst (TakesSegment false ip s) ss i
known_connection {G = G} ss es ip s i filed first at = record {
  within = at.within;
  holds = at.holds;
  before = λ k less. none (slice_get ss k) k (filed k less) (first.before k less);
}
  where
    none : (o : Option (Slot G)) (k : ℕ) → is_filed (λ x. keys_of x) es k o ≡ true → has es (entry_at (key_of_segment ip s) k) ≡ false → IfSome o (λ x. TakesSegment false ip s x → ⊥)
    none None k f h = tt
    none (Some x) k f h = λ p. no_truth (sym h ∙ connection_in es k ip s x.socket f p)

-- ---- a UDP socket

pub datagram_in : {G : Type 0} (es : List Entry) (k : ℕ) (f : Facts) (ip : IpRepr) (u : UdpRepr) (x : Option (Socket G)) → are_filed es k (keys_in x) ≡ true → datagrams.TakesIn f x ip u → has es (entry_at (udp_key u.dst_port) k) ≡ true
datagram_in es k f ip u None e h = absurd h
datagram_in es k f ip u (Some (socket.Raw x)) e h = absurd h
datagram_in es k f ip u (Some (socket.Icmp x)) e h = absurd h
datagram_in es k f ip u (Some (socket.Tcp x)) e h = absurd h
datagram_in es k f ip u (Some (socket.Udp x)) e h = subst (λ p. has es (entry_at (udp_key p) k) ≡ true) h.port (and_parts (has es (entry_at (udp_key x.endpoint.port) k)) true e).0
