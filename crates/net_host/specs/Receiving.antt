-- What becomes of a packet that arrives: the first row that fits.
use Rattle.std.specs.Prelude.{ℕ, ◌≡◌, nat_le, min, Bool, true, false, List, length, Option, Some, None}
use Rattle.ip_wire.specs.Checksum.{is_received}
use Rattle.ip_wire.specs.IpHeader.{dst_addr_of, next_header_of, src_addr_of}
use Rattle.ip_wire.specs.Protocol.{number_of}
use Rattle.ip_wire.specs.declared.address.IpAddress.{IpAddress}
use Rattle.ip_wire.specs.declared.checksum.ChecksumCapabilities.{ChecksumCapabilities}
use Rattle.ip_wire.specs.declared.repr.IpRepr.{IpRepr}
use Rattle.control_wire.specs.Segment.{Segment}
use Rattle.host_groups.specs.Joining.{has_group}
use Rattle.segment_wire.specs.Packet.{Carried, carried}
use Rattle.segment_wire.specs.Tcp.{tcp_parsed}
use Rattle.sock_core.specs.Facts.{Facts}
use Rattle.sock_tcp.specs.View.{moment_of}
use Rattle.segment_wire.specs.Udp.{Datagram, udp_parsed}
use Rattle.net_host.specs.Arrivals.{kind_of, refusal}
use Rattle.net_host.specs.Cookies.{AnswersSegment, IsAgain, class_if, course_among, noted_on}
use Rattle.net_host.specs.Counts.{counted, sent, taken, wrong}
use Rattle.net_host.specs.Crowding.{IsLimited, dropped_if}
use Rattle.net_host.specs.Datagrams.{HeardBy, TakesDatagram}
use Rattle.net_host.specs.Facts.{facts_by}
use Rattle.net_host.specs.Messages.{AnyMail, Copies, answer_len, echoed, if_short, mail_in, with_answer}
use Rattle.net_host.specs.Passing.{passed}
use Rattle.net_host.specs.PathMtu.{HearsSaid, too_big_in}
use Rattle.net_host.specs.RawCopies.{CopiesPacket}
use Rattle.net_host.specs.Segments.{IsTaker}
use Rattle.net_host.specs.Unreachable.{TellsOf}
use Rattle.net_host.specs.Walks.{ChangesEach, Finds}
use Rattle.net_host.specs.declared.arrival.Kind.{Kind}
use Rattle.net_host.specs.declared.arrival.Kind.TheVariants as kind
use Rattle.net_host.specs.declared.cookies.Course.{Course}
use Rattle.net_host.specs.declared.cookies.Course.TheVariants as course
use Rattle.net_host.specs.declared.counters.Counters.{Counters}
use Rattle.net_host.specs.declared.counters.Reason.{Reason}
use Rattle.net_host.specs.declared.counters.Reason.TheVariants as reason
use Rattle.net_host.specs.declared.inner.InterfaceInner.{InterfaceInner}
use Rattle.net_host.specs.declared.interface.Interface.{Interface}
use Rattle.net_host.specs.declared.segments.Taker.{Taker}
use Rattle.net_host.specs.declared.segments.Taker.TheVariants as taker
use Rattle.net_host.specs.declared.limit.Limit.{Limit}
use Rattle.net_host.specs.declared.slot.Slot.{Slot}
use Rattle.net_host.specs.declared.unreachable.Unmet.TheVariants as unmet

-- a segment that no socket takes is counted
abbrev pub counted_for : Taker → Counters → Counters
counted_for taker.Busy k = counted reason.Busy k
counted_for taker.Nobody k = counted reason.Nobody k
counted_for _ k = k

abbrev pub counted_again : Taker → Counters → Counters
counted_again (taker.Listener i) k = taken k
counted_again (taker.Reused i) k = taken k
counted_again _ k = counted reason.Busy k

abbrev pub counted_on : Course → Taker → Taker → Counters → Counters
counted_on course.Plain t again k = counted_for t k
counted_on course.Doubted t again k = wrong (counted_for t k)
counted_on (course.Answered i number) t again k = sent k
counted_on (course.Believed class number) t again k = counted_again again k
counted_on course.Dropped t again k = counted reason.TooMany k

-- a datagram that no socket takes, or whose socket has no room for it, is counted
abbrev pub counted_if : Option ℕ → (room : Bool) → Counters → Counters
counted_if None room k = counted reason.Nobody k
counted_if (Some i) true k = k
counted_if (Some i) false k = counted reason.Full k

-- the UDP datagram that stands behind a header
unfoldable pub datagram_in : ChecksumCapabilities → IpRepr → List ℕ → Option Datagram
datagram_in caps ip octets = udp_parsed (is_received caps.udp) (src_addr_of ip) (dst_addr_of ip) octets

module _ {W G : Type 0} (is : IpAddress → IpAddress → Bool) (word_at : W → ℕ → ℕ) (tells : G → ℕ → Type 0) where
  abbrev pub facts_of : InterfaceInner W → Facts
  facts_of i = facts_by is i.environment

  abbrev pub words_of : InterfaceInner W → ℕ → ℕ
  words_of i = word_at i.words

  -- the packet is counted, and nothing else changes
  pub record Drops (why : Reason) (i : Interface W) (ss : List (Slot G)) (out : List ℕ) (n : ℕ) (j : Interface W)
      (ts : List (Slot G)) (out' : List ℕ) : Type 0 where
    pub len : n ≡ 0
    pub interface : j ≡ record i { counters = counted why i.counters }
    pub sockets : ts ≡ ss
    pub reply : out' ≡ out

  abbrev pub course_in : Interface W → List (Slot G) → (dropped : Bool) → (t again : Taker) → IpRepr → Segment → Course
  course_in i ss dropped t again ip s =
      dropped_if dropped (course_among ss i.cookies t again (facts_of i.inner).now ip s)

  -- the segment goes to its taker, or is refused, or what cookies want is done
  pub record TakesSegment (ip : IpRepr) (s : Segment) (i : Interface W) (ss : List (Slot G)) (out : List ℕ) (n : ℕ)
      (j : Interface W) (ts : List (Slot G)) (out' : List ℕ) : Type 0 where
    pub taker : Taker
    pub takes : IsTaker ss ip s taker
    pub again : Taker
    pub believes : IsAgain (class_if i.cookies taker (facts_of i.inner).now s) ss ip s again
    pub dropped : Bool
    pub limited : IsLimited i.most_of_source ss ip s taker (course_in i ss false taker again ip s) dropped
    pub answers : AnswersSegment facts_of words_of tells (course_in i ss dropped taker again ip s) taker again ss
        i.inner i.resets ip s out n ts j.inner j.resets out'
    pub counters : j.counters ≡ counted_on (course_in i ss dropped taker again ip s) taker again i.counters
    pub turn : j.turn ≡ i.turn
    pub errors : j.errors ≡ i.errors
    pub guards : j.guards ≡ i.guards
    pub cookies : j.cookies ≡ noted_on (course_in i ss dropped taker again ip s) (facts_of i.inner).now i.cookies
    pub groups : j.groups ≡ i.groups
    pub most : j.most_of_source ≡ i.most_of_source

  -- no segment has a payload of more than 65535 octets
  abbrev pub IfShort : Bool → IpRepr → Segment → Interface W → List (Slot G) → List ℕ → ℕ → Interface W → List (Slot G)
      → List ℕ → Type 0
  IfShort true ip s i ss out n j ts out' = TakesSegment ip s i ss out n j ts out'
  IfShort false ip s i ss out n j ts out' = Drops reason.Segment i ss out n j ts out'

  abbrev pub BySegment : IpRepr → Option Segment → Interface W → List (Slot G) → List ℕ → ℕ → Interface W
      → List (Slot G) → List ℕ → Type 0
  BySegment ip None i ss out n j ts out' = Drops reason.Segment i ss out n j ts out'
  BySegment ip (Some s) i ss out n j ts out' = IfShort (nat_le (length s.payload) 65535) ip s i ss out n j ts out'

  -- what stands behind the header, as a TCP segment
  abbrev pub TakesTcp : IpRepr → List ℕ → Interface W → List (Slot G) → List ℕ → ℕ → Interface W → List (Slot G)
      → List ℕ → Type 0
  TakesTcp ip octets i =
      BySegment ip (tcp_parsed (is_received i.inner.environment.checksums.tcp) (src_addr_of ip) (dst_addr_of ip) octets)
      i

  -- the sender is told, where no socket takes the datagram
  abbrev pub TellsIf : Option ℕ → Facts → IpRepr → List ℕ → List (Slot G) → Limit → List ℕ → ℕ → Limit → List ℕ
      → Type 0
  TellsIf None f ip octets ss l out n l' out' = TellsOf f unmet.Port ip octets ss l out n l' out'
  TellsIf (Some k) f ip octets ss l out n l' out' = (n ≡ 0) × (l' ≡ l) × (out' ≡ out)

  -- the datagram goes to the first socket that takes it, if any
  pub record TakesDatagramOf (ip : IpRepr) (octets : List ℕ) (d : Datagram) (i : Interface W) (ss : List (Slot G))
      (out : List ℕ) (n : ℕ) (j : Interface W) (ts : List (Slot G)) (out' : List ℕ) : Type 0 where
    pub found : Option ℕ
    pub finds : Finds (TakesDatagram (facts_of i.inner) ip d.header) ss found
    pub room : Bool
    pub heard : HeardBy found ss ip d.header d.payload room ts
    pub told : TellsIf found (facts_of i.inner) ip octets ts i.errors out n j.errors out'
    pub interface : j ≡ record i { counters = counted_if found room i.counters; errors = j.errors }

  abbrev pub ByDatagram : IpRepr → List ℕ → Option Datagram → Interface W → List (Slot G) → List ℕ → ℕ → Interface W
      → List (Slot G) → List ℕ → Type 0
  ByDatagram ip octets None i ss out n j ts out' = Drops reason.Datagram i ss out n j ts out'
  ByDatagram ip octets (Some d) i ss out n j ts out' = TakesDatagramOf ip octets d i ss out n j ts out'

  -- what stands behind the header, as a UDP datagram
  abbrev pub TakesUdp : IpRepr → List ℕ → Interface W → List (Slot G) → List ℕ → ℕ → Interface W → List (Slot G)
      → List ℕ → Type 0
  TakesUdp ip octets i =
      ByDatagram ip octets (datagram_in i.inner.environment.checksums ip octets) i

  -- another protocol is counted, and the sender told
  pub record TakesOther (ip : IpRepr) (octets : List ℕ) (i : Interface W) (ss : List (Slot G)) (out : List ℕ) (n : ℕ)
      (j : Interface W) (ts : List (Slot G)) (out' : List ℕ) : Type 0 where
    pub told : TellsOf (facts_of i.inner) unmet.Protocol ip octets ss i.errors out n j.errors out'
    pub interface : j ≡ record i { counters = counted reason.Protocol i.counters; errors = j.errors }
    pub sockets : ts ≡ ss

  -- each ICMP socket that accepts the message takes a copy, and an echo request is answered
  pub record TakesMail (m : AnyMail) (i : Interface W) (ss : List (Slot G)) (out : List ℕ) (n : ℕ) (j : Interface W)
      (ts : List (Slot G)) (out' : List ℕ) : Type 0 where
    pub copied : ChangesEach (Copies (facts_of i.inner) m) ss ts
    pub len : n ≡ answer_len (if_short (min i.inner.environment.mtu (length out)) (echoed m))
    pub octets : out' ≡ with_answer i.inner.environment.checksums
        (if_short (min i.inner.environment.mtu (length out)) (echoed m)) out
    pub interface : j ≡ i

  -- what a connection heard is not counted, though no socket takes a copy
  abbrev pub ByMail : (heard : Bool) → Option AnyMail → Interface W → List (Slot G) → List ℕ → ℕ → Interface W
      → List (Slot G) → List ℕ → Type 0
  ByMail false None i ss out n j ts out' = Drops reason.Message i ss out n j ts out'
  ByMail true None i ss out n j ts out' = (n ≡ 0) × (j ≡ i) × (ts ≡ ss) × (out' ≡ out)
  ByMail heard (Some m) i ss out n j ts out' = TakesMail m i ss out n j ts out'

  -- what stands behind the header, as an ICMP message: first a connection hears that a packet of its own was too long
  pub record TakesIcmp (ip : IpRepr) (octets : List ℕ) (i : Interface W) (ss : List (Slot G)) (out : List ℕ) (n : ℕ)
      (j : Interface W) (ts : List (Slot G)) (out' : List ℕ) : Type 0 where
    pub heard : Bool
    pub seen : List (Slot G)
    pub hears : HearsSaid (moment_of (facts_of i.inner)) (too_big_in i.inner.environment.checksums ip octets) ss heard
        seen
    pub taken : ByMail heard (mail_in i.inner.environment.checksums ip octets) i seen out n j ts out'

  -- by what it is looked at as
  abbrev pub ByKind : Kind → IpRepr → List ℕ → Interface W → List (Slot G) → List ℕ → ℕ → Interface W
      → List (Slot G) → List ℕ → Type 0
  ByKind kind.Tcp ip octets i ss out n j ts out' = TakesTcp ip octets i ss out n j ts out'
  ByKind kind.Udp ip octets i ss out n j ts out' = TakesUdp ip octets i ss out n j ts out'
  ByKind kind.Icmp ip octets i ss out n j ts out' = TakesIcmp ip octets i ss out n j ts out'
  ByKind kind.Other ip octets i ss out n j ts out' = TakesOther ip octets i ss out n j ts out'
  ByKind kind.Foreign ip octets i ss out n j ts out' = Drops reason.Destination i ss out n j ts out'

  -- each raw socket that accepts the packet takes a copy, and then it is looked at
  pub record TakesCarried (ip : IpRepr) (octets : List ℕ) (i : Interface W) (ss : List (Slot G)) (out : List ℕ) (n : ℕ)
      (j : Interface W) (ts : List (Slot G)) (out' : List ℕ) : Type 0 where
    pub seen : List (Slot G)
    pub copied : ChangesEach (CopiesPacket (facts_of i.inner) ip octets) ss seen
    pub taken : ByKind (kind_of ((facts_of i.inner).has_address (dst_addr_of ip)) (number_of (next_header_of ip))) ip
        octets i seen out n j ts out'

  abbrev pub ByAddresses : Option Reason → IpRepr → List ℕ → Interface W → List (Slot G) → List ℕ → ℕ → Interface W
      → List (Slot G) → List ℕ → Type 0
  ByAddresses (Some why) ip octets i ss out n j ts out' = Drops why i ss out n j ts out'
  ByAddresses None ip octets i ss out n j ts out' = TakesCarried ip octets i ss out n j ts out'

  -- behind its extension headers
  abbrev pub ByPassed : Option Carried → Interface W → List (Slot G) → List ℕ → ℕ → Interface W → List (Slot G)
      → List ℕ → Type 0
  ByPassed None i ss out n j ts out' = Drops reason.Malformed i ss out n j ts out'
  ByPassed (Some c) i ss out n j ts out' =
      ByAddresses (refusal (facts_of i.inner) (has_group is i.groups (dst_addr_of c.ip)) c.ip) c.ip c.octets i ss out n
      j ts out'

  -- with a header and what stands behind it, if it has them
  abbrev pub ByHeader : Option Carried → Interface W → List (Slot G) → List ℕ → ℕ → Interface W → List (Slot G)
      → List ℕ → Type 0
  ByHeader None i ss out n j ts out' = Drops reason.Malformed i ss out n j ts out'
  ByHeader (Some c) i ss out n j ts out' = ByPassed (passed c.ip c.octets) i ss out n j ts out'

  abbrev pub TakesPacket : List ℕ → Interface W → List (Slot G) → List ℕ → ℕ → Interface W → List (Slot G) → List ℕ
      → Type 0
  TakesPacket packet i = ByHeader (carried (is_received i.inner.environment.checksums.ipv4) packet) i
