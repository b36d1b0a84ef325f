-- A packet whose ports are not those of a socket is for another one.
use Rattle.std.proofs.Common.{◌≡◌, ℕ, ◌+◌, ◌-◌, ◌*◌, ◌<◌, ◌≤◌, List, Bool, true, false, Option, Some, None, length, take, drop, get_or, refl, sym, ap, subst, ◌∙◌, arith, rules, length-take, length-drop}
use Rattle.std.specs.Prelude.{◌==◌, ◌&&◌, ◌||◌, not, nat_le, if◌then◌else◌, IfSome, option_map}
use Rattle.std.proofs.lemmas.Bool.{and_from}
use Rattle.std.proofs.lemmas.Bool.Decides.{nat_tests}
use Rattle.std.proofs.lemmas.List.{get_or-drop, get_or-take}
use Rattle.ip_wire.specs.Checksum.{is_received}
use Rattle.ip_wire.specs.IpHeader.{next_header_of, src_addr_of, dst_addr_of}
use Rattle.ip_wire.specs.Octets.{be16_at}
use Rattle.ip_wire.specs.Packet.{ipv4_header_len, ipv4_parsed, ipv4_total_len, ipv6_parsed}
use Rattle.ip_wire.specs.Protocol.{number_of, version_of_packet}
use Rattle.ip_wire.specs.declared.checksum.ChecksumCapabilities.{ChecksumCapabilities}
use Rattle.ip_wire.specs.declared.endpoint.IpListenEndpoint.{IpListenEndpoint}
use Rattle.ip_wire.specs.declared.protocol.IpVersion.{IpVersion}
use Rattle.ip_wire.specs.declared.protocol.IpVersion.TheVariants as version
use Rattle.ip_wire.specs.declared.repr.IpRepr.{IpRepr}
use Rattle.ip_wire.specs.declared.repr.Ipv4Repr.{Ipv4Repr}
use Rattle.ip_wire.specs.declared.repr.Ipv6Repr.{Ipv6Repr}
use Rattle.control_wire.specs.Segment.{Segment}
use Rattle.control_wire.specs.Source.{sum_holds}
use Rattle.segment_wire.specs.Options.{no_options, options_read}
use Rattle.segment_wire.specs.Packet.{Carried, TcpPacket, carried, carried_as, carried_if, carried_v4, carried_v6, is_whole_v4, is_whole_v6, tcp_of, tcp_packet_parsed, with_segment}
use Rattle.segment_wire.specs.Tcp.{is_head, options_of, segment_if, tcp_parsed}
use Rattle.segment_wire.specs.declared.options.TcpOptions.{TcpOptions}
use Rattle.sock_tcp.specs.Process.{Accepts, AcceptsIn, IsAddressed}
use Rattle.sock_tcp.specs.View.{View}
use Rattle.sock_tcp.specs.declared.state.State.{State}
use Rattle.sock_tcp.specs.declared.state.State.TheVariants as state
use Rattle.sock_tcp.specs.declared.tuple.Tuple.{Tuple}
use Rattle.smoltcp_c.specs.Ports.{ports_by, has_ports, start_by, start_of}

-- ---- the ports of what is read are those that stand in the packet

-- octets of a packet from an offset on
record LiesAt (packet : List ℕ) (start : ℕ) (octets : List ℕ) : Type 0 where
  pub count : ℕ
  pub is : octets ≡ take count (drop start packet)

-- the ports of a segment stand at an offset
abbrev Ports : List ℕ → ℕ → Segment → Type 0
Ports packet start s = (start + 4 ≤ length packet) × ((s.src_port ≡ be16_at packet start) × (s.dst_port ≡ be16_at packet (start + 2)))

octet_at : (packet : List ℕ) (start count i : ℕ) → i < length (take count (drop start packet)) → get_or (take count (drop start packet)) i 0 ≡ get_or packet (start + i) 0
octet_at packet start count i h =
    get_or-take count (drop start packet) i 0 (omega (arith, h, length-take count (drop start packet))) ∙ get_or-drop start packet i 0

octet : (packet : List ℕ) (start : ℕ) (octets : List ℕ) → LiesAt packet start octets → (i j : ℕ) → i < length octets → start + i ≡ j → get_or octets i 0 ≡ get_or packet j 0
octet packet start octets lies i j h e =
    ap (λ xs. get_or xs i 0) lies.is ∙ octet_at packet start lies.count i (subst (λ xs. i < length xs) lies.is h) ∙ ap (λ k. get_or packet k 0) e

word_at : (packet : List ℕ) (start : ℕ) (octets : List ℕ) → LiesAt packet start octets → (i j : ℕ) → i + 1 < length octets → start + i ≡ j → be16_at octets i ≡ be16_at packet j
word_at packet start octets lies i j h e =
    let high : get_or octets i 0 ≡ get_or packet j 0 = octet packet start octets lies i j (omega (arith, h)) e in
    let low : get_or octets (i + 1) 0 ≡ get_or packet (j + 1) 0 = octet packet start octets lies (i + 1) (j + 1) h (omega (arith, e)) in
    (λ t. 256 * high t + low t)

long : (octets : List ℕ) → is_head octets ≡ true → 20 ≤ length octets
unfolding is_head
long octets h = grind (arith, nat_tests)

segment_ports : (packet : List ℕ) (start : ℕ) (octets : List ℕ) → LiesAt packet start octets → (head rest : Bool) (o : Option TcpOptions) → (head ≡ true → 20 ≤ length octets) → IfSome (if head && rest then segment_if octets o else None) (Ports packet start)
segment_ports packet start octets lies true true (Some o) h =
    let n : 20 ≤ length octets = h refl in
    let m : 20 ≤ length (take lies.count (drop start packet)) = subst (λ xs. 20 ≤ length xs) lies.is n in
    let room : start + 4 ≤ length packet = omega (arith, m, length-take lies.count (drop start packet), length-drop start packet) in
    (room, (word_at packet start octets lies 0 start (omega (arith, n)) (omega arith), word_at packet start octets lies 2 (start + 2) (omega (arith, n)) (omega arith)))
segment_ports packet start octets lies true true None h = tt
segment_ports packet start octets lies true false o h = tt
segment_ports packet start octets lies false rest o h = tt

with_ports : (packet : List ℕ) (start : ℕ) (ip : IpRepr) (o : Option Segment) → IfSome o (Ports packet start) → IfSome (with_segment ip o) (λ p. Ports packet start p.segment)
with_ports packet start ip None h = tt
with_ports packet start ip (Some s) h = h

tcp_ports : (packet : List ℕ) (start : ℕ) (tested : Bool) (o : Option Carried) → IfSome o (λ c. LiesAt packet start c.octets) → IfSome (tcp_of tested o) (λ p. Ports packet start p.segment)
tcp_ports packet start tested None h = tt
tcp_ports packet start tested (Some c) h =
    with_ports packet start c.ip (tcp_parsed tested (src_addr_of c.ip) (dst_addr_of c.ip) c.octets)
    (segment_ports packet start c.octets h (is_head c.octets) (not tested || sum_holds (src_addr_of c.ip) (dst_addr_of c.ip) 6 c.octets) (options_read 0 no_options (options_of c.octets)) (long c.octets))

kept : (packet : List ℕ) (start : ℕ) (b : Bool) (c : Carried) → LiesAt packet start c.octets → IfSome (if b then Some c else None) (λ c. LiesAt packet start c.octets)
kept packet start true c h = h
kept packet start false c h = tt

if_lies : (packet : List ℕ) (start number : ℕ) (o : Option Carried) → IfSome o (λ c. LiesAt packet start c.octets) → IfSome (carried_if number o) (λ c. LiesAt packet start c.octets)
if_lies packet start number None h = tt
if_lies packet start number (Some c) h = kept packet start (number_of (next_header_of c.ip) == number) c h

v4_lies : (packet : List ℕ) (b : Bool) (h : Option Ipv4Repr) → IfSome (if b then carried_v4 packet h else None) (λ c. LiesAt packet (ipv4_header_len packet) c.octets)
v4_lies packet false h = tt
v4_lies packet true None = tt
v4_lies packet true (Some h) = record { count = ipv4_total_len packet - ipv4_header_len packet; is = refl }

v6_lies : (packet : List ℕ) (b : Bool) (h : Option Ipv6Repr) → IfSome (if b then carried_v6 packet h else None) (λ c. LiesAt packet 40 c.octets)
v6_lies packet false h = tt
v6_lies packet true None = tt
v6_lies packet true (Some h) = record { count = be16_at packet 4; is = refl }

as_lies : (packet : List ℕ) (o : Option IpVersion) (tested : Bool) → IfSome (carried_as o tested packet) (λ c. LiesAt packet (start_by o packet) c.octets)
as_lies packet None tested = tt
as_lies packet (Some version.Ipv4) tested = v4_lies packet (is_whole_v4 packet) (ipv4_parsed tested packet)
as_lies packet (Some version.Ipv6) tested = v6_lies packet (is_whole_v6 packet) (ipv6_parsed packet)

carried_lies : (packet : List ℕ) (tested : Bool) → IfSome (carried tested packet) (λ c. LiesAt packet (start_of packet) c.octets)
unfolding carried
carried_lies packet tested = as_lies packet (version_of_packet packet) tested

read_ports : (packet : List ℕ) (caps : ChecksumCapabilities) → IfSome (tcp_packet_parsed caps packet) (λ p. Ports packet (start_of packet) p.segment)
read_ports packet caps =
    tcp_ports packet (start_of packet) (is_received caps.tcp) (carried_if 6 (carried (is_received caps.ipv4) packet))
    (if_lies packet (start_of packet) 6 (carried (is_received caps.ipv4) packet) (carried_lies packet (is_received caps.ipv4)))

-- ---- what a socket accepts has its ports

equal : (n m : ℕ) → m ≡ n → (n == m) ≡ true
equal n m e = subst (λ k. (k == m) ≡ true) e (same m)
  where
    same : (m : ℕ) → (m == m) ≡ true
    same m = search rules

addressed : (st : State) (v : View) (ip : IpRepr) (s : Segment) → AcceptsIn st v ip s → IsAddressed v.tuple v.listen_endpoint ip s
addressed state.Closed v ip s a = absurd a
addressed state.Listen v ip s a = a.1
addressed state.SynSent v ip s a = a
addressed state.SynReceived v ip s a = a
addressed state.Established v ip s a = a
addressed state.FinWait1 v ip s a = a
addressed state.FinWait2 v ip s a = a
addressed state.CloseWait v ip s a = a
addressed state.Closing v ip s a = a
addressed state.LastAck v ip s a = a
addressed state.TimeWait v ip s a = a

ports_match : (o : Option Tuple) (e : IpListenEndpoint) (ip : IpRepr) (s : Segment) → IsAddressed o e ip s → ports_by (option_map (λ t. t.local) o) (option_map (λ t. t.remote) o) e s.src_port s.dst_port ≡ true
ports_match None e ip s a = equal e.port s.dst_port a.port
ports_match (Some t) e ip s a = and_from _ _ (equal t.local.port s.dst_port a.local_port) (equal t.remote.port s.src_port a.remote_port)

fits : (n m : ℕ) → n ≤ m → nat_le n m ≡ true
fits n m h = grind (arith, nat_tests)

own_ports : (v : View) (packet : List ℕ) (caps : ChecksumCapabilities) (p : TcpPacket) → tcp_packet_parsed caps packet ≡ Some p → Accepts v p.ip p.segment → has_ports v packet ≡ true
unfolding has_ports
own_ports v packet caps p parsed accepted =
    let a : IsAddressed v.tuple v.listen_endpoint p.ip p.segment = addressed v.state v p.ip p.segment accepted in
    let at : Ports packet (start_of packet) p.segment = subst (λ o. IfSome o (λ q. Ports packet (start_of packet) q.segment)) parsed (read_ports packet caps) in
    let m = ports_match v.tuple v.listen_endpoint p.ip p.segment a in
    let ports : ℕ → ℕ → Bool = ports_by (option_map (λ t. t.local) v.tuple) (option_map (λ t. t.remote) v.tuple) v.listen_endpoint in
    and_from _ _ (fits (start_of packet + 4) (length packet) at.0) (sym (λ i. ports (at.1.0 i) (at.1.1 i)) ∙ m)

-- what has other ports is not accepted
pub foreign : (v : View) (packet : List ℕ) (caps : ChecksumCapabilities) (p : TcpPacket) → has_ports v packet ≡ false → tcp_packet_parsed caps packet ≡ Some p → Accepts v p.ip p.segment → ⊥
foreign v packet caps p other parsed accepted = differ (sym other ∙ own_ports v packet caps p parsed accepted)
  where
    differ : false ≡ true → ⊥
    differ e = absurd cc
