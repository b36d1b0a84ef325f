-- SYN cookies: who is answered without a socket, and whose answer is believed (RFC 4987, section 3.6).
use Rattle.std.specs.Prelude.{ℕ, ℤ, ◌≡◌, ◌+◌, ◌<◌, ◌≤◌, ◌-◌, ◌/◌, ◌⊎◌, ◌==◌, min, nat_le, List, [], length, Option}
use Rattle.std.specs.Prelude.{Some}
use Rattle.std.specs.Prelude.{None, Bool, true, false, ◌&&◌, Result, IfSome, IsSomeAnd, MatchOption, is_some}
use Rattle.std.specs.Prelude.{option_map}
use Rattle.std.specs.Prelude.{slice_get, if◌then◌else◌, ◌%◌}
use Rattle.ip_wire.specs.IpHeader.{dst_addr_of, src_addr_of}
use Rattle.ip_wire.specs.declared.repr.IpRepr.{IpRepr}
use Rattle.control_wire.specs.Segment.{Segment, bare_segment}
use Rattle.control_wire.specs.Seq.{seq_add, seq_minus, seq_of}
use Rattle.control_wire.specs.declared.seq_number.TcpSeqNumber.{TcpSeqNumber}
use Rattle.control_wire.specs.declared.tcp.TcpControl.{TcpControl}
use Rattle.control_wire.specs.declared.tcp.TcpControl.TheVariants as control
use Rattle.control_wire.specs.declared.tcp.TcpRepr.{TcpRepr}
use Rattle.control_wire.specs.declared.tcp.TcpTimestampRepr.{TcpTimestampRepr}
use Rattle.rand_chacha.specs.ChaCha.{key_of}
use Rattle.host_cookies.specs.Classes.{class_of, mss_of}
use Rattle.host_cookies.specs.Numbers.{awaited, number_at, recognised, step_of}
use Rattle.host_cookies.specs.Offers.{offer_bits, sack_in, scale_in, stamped, told_number}
use Rattle.host_cookies.specs.declared.call.Call.{Call}
use Rattle.host_cookies.specs.declared.cookies.SynCookies.{SynCookies}
use Rattle.sock_core.specs.Facts.{Facts}
use Rattle.sock_core.specs.Received.{room_of}
use Rattle.sock_tcp.specs.Advance.{scale_taken}
use Rattle.sock_tcp.specs.Content.{scale_back}
use Rattle.sock_tcp.specs.Due.{ip_header_len, mtu_for}
use Rattle.sock_tcp.specs.Process.{reply_of}
use Rattle.sock_tcp.specs.Replies.{bare_reply, with_header}
use Rattle.sock_tcp.specs.View.{View, moment_of}
use Rattle.smoltcp_socket.specs.declared.socket.Socket.{Socket}
use Rattle.smoltcp_socket.specs.declared.socket.Socket.TheVariants as socket
use Rattle.net_host.specs.Resting.{anew, is_opening}
use Rattle.net_host.specs.Segments.{HearsAt, IsTaker, SendsWithin, TakenBy, TakesSegment, as_is, no_more, opened_by}
use Rattle.net_host.specs.Unsent.{PassesAt}
use Rattle.net_host.specs.Wire.{reply_len, with_reply}
use Rattle.net_host.specs.declared.cookies.Course.{Course}
use Rattle.net_host.specs.declared.cookies.Course.TheVariants as course
use Rattle.net_host.specs.declared.cookies.Told.{Told}
use Rattle.net_host.specs.declared.limit.Limit.{Limit}
use Rattle.net_host.specs.declared.segments.Taker.{Taker}
use Rattle.net_host.specs.declared.segments.Taker.TheVariants as taker
use Rattle.net_host.specs.declared.slot.Slot.{Slot}
use Rattle.net_host.specs.declared.wire.TooShort.{TooShort}

-- ---- the segment and its SYN

-- the SYN with this number, by what a cookie is made of
abbrev pub call_of : IpRepr → Segment → TcpSeqNumber → Call
call_of ip s n = record {
  remote = src_addr_of ip;
  local = dst_addr_of ip;
  remote_port = s.src_port;
  local_port = s.dst_port;
  number = n.0;
}

-- an acknowledgement that may answer a SYN|ACK
abbrev pub answers_by : TcpControl → Option TcpSeqNumber → Option TcpSeqNumber
answers_by control.Syn ack = None
answers_by control.Rst ack = None
answers_by _ ack = ack

abbrev pub acked_by : Segment → Option TcpSeqNumber
acked_by s = answers_by s.control s.ack_number

-- the options that the timestamp of an acknowledgement brings back, and the peer's clock
abbrev pub scale_brought : Option TcpTimestampRepr → Option ℕ
scale_brought None = None
scale_brought (Some t) = scale_in t.tsecr

abbrev pub sack_brought : Option TcpTimestampRepr → Bool
sack_brought None = false
sack_brought (Some t) = sack_in t.tsecr

abbrev pub clock_brought : Option TcpTimestampRepr → Option TcpTimestampRepr
clock_brought None = None
clock_brought (Some t) = Some (record { tsval = t.tsval; tsecr = 0 })

-- the SYN before an acknowledgement: of its options the size of a segment is known, and what the timestamp brings back
abbrev pub syn_before : Segment → ℕ → Segment
syn_before s class =
    record (bare_segment s.src_port s.dst_port) {
      control = control.Syn;
      seq_number = seq_minus s.seq_number 1;
      window_len = s.window_len;
      window_scale = scale_brought s.timestamp;
      max_seg_size = mss_of class;
      sack_permitted = sack_brought s.timestamp;
      timestamp = clock_brought s.timestamp;
    }

-- An acknowledgement that is believed, as its socket hears it. A single octet without PSH is not taken with it: a
-- keep-alive of a connection that is there no more has such (RFC 9293, section 3.8.4); else the peer sends it again.
abbrev pub is_none : TcpControl → Bool
is_none control.None = true
is_none _ = false

abbrev pub is_garbage : Segment → Bool
is_garbage s = is_none s.control && (length s.payload == 1)

abbrev pub opening_of : Segment → Segment
opening_of s = record s { payload = if is_garbage s then [] else s.payload }

-- ---- what an answer tells beside the size of a segment

-- the own window scale of a socket; none where it sends no timestamps
abbrev pub own_if : (stamps : Bool) → ℕ → Option ℕ
own_if true shift = Some shift
own_if false shift = None

abbrev pub own_in : {G : Type 0} → Option (Socket G) → Option ℕ
own_in (Some (socket.Tcp x)) = own_if x.control_block.stamps x.control_block.remote_win_shift
own_in _ = None

abbrev pub own_at : {G : Type 0} → Option (Slot G) → Option ℕ
own_at None = None
own_at (Some s) = own_in s.socket

-- of who listens
abbrev pub own_of : {G : Type 0} → List (Slot G) → Taker → Option ℕ
own_of ss (taker.Listener k) = own_at (slice_get ss k)
own_of ss _ = None

-- What the number stands for: what the SYN offers, where both send timestamps, and so the answer; and what the
-- timestamp of an acknowledgement brings back. So none is recognised that has a timestamp where the answer had none, or
-- brings back other bits.
abbrev pub told_to : Option ℕ → Option TcpTimestampRepr → Segment → ℕ
told_to (Some shift) (Some t) s = told_number (offer_bits s.window_scale s.sack_permitted)
told_to _ _ s = 0

abbrev pub told_by : Option TcpTimestampRepr → ℕ
told_by None = 0
told_by (Some t) = told_number (t.tsecr % 32)

-- ---- what becomes of it

abbrev pub kept_or : Bool → (k number : ℕ) → Course
kept_or true k number = course.Answered k number
kept_or false k number = course.Plain

abbrev pub believed_if : Option ℕ → ℕ → Course
believed_if (Some class) number = course.Believed class number
believed_if None number = course.Doubted

abbrev pub answer_number : SynCookies → Option ℕ → ℤ → IpRepr → Segment → ℕ
answer_number c own now ip s =
    number_at (key_of c.key) (call_of ip s s.seq_number) (step_of now) (class_of s.max_seg_size)
    (told_to own s.timestamp s)

-- the class of the SYN that this number answers
abbrev pub class_told : SynCookies → ℤ → IpRepr → Segment → TcpSeqNumber → Option ℕ
class_told c now ip s n =
    recognised (key_of c.key) (call_of ip s (seq_minus s.seq_number 1)) (step_of now) (told_by s.timestamp) n.0

abbrev pub doubted_by : SynCookies → ℤ → IpRepr → Segment → Option TcpSeqNumber → Course
doubted_by c now ip s None = course.Plain
doubted_by c now ip s (Some ack) = believed_if (class_told c now ip s (seq_minus ack 1)) (seq_minus ack 1).0

-- the class that a segment tells that no socket takes, where it may acknowledge an answer and one is awaited
abbrev pub class_awaited : Bool → Option TcpSeqNumber → Option ℕ
class_awaited true (Some ack) = Some ((seq_minus ack 1).0 / 536870912)
class_awaited _ ack = None

abbrev pub class_under : SynCookies → Taker → ℤ → Segment → Option ℕ
class_under c taker.Nobody now s = class_awaited (awaited c.answered now) (acked_by s)
class_under c _ now s = None

abbrev pub class_if : Option SynCookies → Taker → ℤ → Segment → Option ℕ
class_if None t now s = None
class_if (Some c) t now s = class_under c t now s

abbrev pub is_anybody : Taker → Bool
is_anybody taker.Nobody = false
is_anybody _ = true

-- as long as an answer is awaited
abbrev pub tested_if : Bool → SynCookies → ℤ → IpRepr → Segment → Course
tested_if true c now ip s = doubted_by c now ip s (acked_by s)
tested_if false c now ip s = course.Plain

-- A SYN that only a socket which is kept listens for is answered. An acknowledgement that no socket takes is believed
-- where it answers such an answer, as long as one that went out may be acknowledged, and the SYN before it is not for
-- nobody. `own` is the window scale of the listener (`own_of`).
abbrev pub course_under : SynCookies → Option ℕ → (t again : Taker) → ℤ → IpRepr → Segment → Course
course_under c own (taker.Listener k) again now ip s =
    kept_or (nat_le c.kept_from k && is_opening s) k (answer_number c own now ip s)
course_under c own taker.Nobody again now ip s =
    tested_if (awaited c.answered now && is_anybody again) c now ip s
course_under c own _ again now ip s = course.Plain

abbrev pub course_of : Option SynCookies → Option ℕ → (t again : Taker) → ℤ → IpRepr → Segment → Course
course_of None own t again now ip s = course.Plain
course_of (Some c) own t again now ip s = course_under c own t again now ip s

-- among these sockets
abbrev pub course_among : {G : Type 0} → List (Slot G) → Option SynCookies → (t again : Taker) → ℤ → IpRepr → Segment
    → Course
course_among ss o t again now ip s = course_of o (own_of ss t) t again now ip s

-- an answer that goes out is noted
abbrev pub noted : ℤ → Option SynCookies → Option SynCookies
noted now None = None
noted now (Some c) = Some (record c { answered = Some now })

abbrev pub noted_on : Course → ℤ → Option SynCookies → Option SynCookies
noted_on course.Plain now o = o
noted_on course.Doubted now o = o
noted_on (course.Answered k number) now o = noted now o
noted_on (course.Believed class number) now o = o
noted_on course.Dropped now o = o

-- who takes the SYN before an acknowledgement that may be believed
abbrev pub IsAgain : {G : Type 0} → Option ℕ → List (Slot G) → IpRepr → Segment → Taker → Type 0
IsAgain (Some class) ss ip s again = IsTaker ss ip (syn_before s class) again
IsAgain None ss ip s again = again ≡ taker.Nobody

-- the same of one that is believed
abbrev pub OpensOn : {G : Type 0} → Course → List (Slot G) → IpRepr → Segment → Taker → Type 0
OpensOn (course.Believed class number) ss ip s again = IsTaker ss ip (syn_before s class) again
OpensOn _ ss ip s again = Unit {0}

-- ---- the answer

-- how many octets the receive buffer holds
abbrev pub room_in : {G : Type 0} → Option (Socket G) → ℕ
room_in (Some (socket.Tcp x)) = room_of x.control_block.rx_buffer
room_in _ = 0

abbrev pub room_at : {G : Type 0} → Option (Slot G) → ℕ
room_at None = 0
room_at (Some s) = room_in s.socket

-- a SYN|ACK with this number, the window that the listener has, and the size of a segment alone
abbrev pub plain_answer : Facts → (room number : ℕ) → IpRepr → Segment → Segment
plain_answer f room number ip s =
    record (bare_reply s) {
      control = control.Syn;
      seq_number = seq_of number;
      ack_number = Some (seq_add s.seq_number 1);
      window_len = min room 65535;
      max_seg_size = Some (mtu_for (dst_addr_of ip) f.mtu - ip_header_len (dst_addr_of ip) - 20);
    }

-- to a SYN with a timestamp that of the listener, whose lowest bits tell what was offered, and the other options that
-- were: the own window scale and SACK (RFC 7323, sections 2.2 and 3.2; RFC 2018, section 2)
abbrev pub with_options : Option ℕ → (clock : Option ℕ) → Option TcpTimestampRepr → (s a : Segment) → Segment
with_options (Some shift) (Some clock) (Some t) s a =
    record a {
      window_scale = scale_back s.window_scale shift;
      sack_permitted = s.sack_permitted;
      timestamp =
          Some (record { tsval = stamped clock (offer_bits s.window_scale s.sack_permitted); tsecr = t.tsval });
    }
with_options _ _ _ s a = a

abbrev pub answer_segment : Facts → (own clock : Option ℕ) → (room number : ℕ) → IpRepr → Segment → Segment
answer_segment f own clock room number ip s =
    with_options own clock s.timestamp s (plain_answer f room number ip s)

abbrev pub answer_of : Facts → (own clock : Option ℕ) → (room number : ℕ) → IpRepr → Segment → IpRepr × Segment
answer_of f own clock room number ip s = with_header ip (answer_segment f own clock room number ip s)

-- what the clock of a socket tells, where it has one
abbrev pub TellsIn : {G : Type 0} → (G → ℕ → Type 0) → Option (Socket G) → Option ℕ → Type 0
TellsIn tells (Some (socket.Tcp x)) clock =
    MatchOption x.tsval_generator (clock ≡ None) (λ g. IsSomeAnd clock (λ t. tells g t))
TellsIn tells _ clock = clock ≡ None

abbrev pub TellsAt : {G : Type 0} → (G → ℕ → Type 0) → Option (Slot G) → Option ℕ → Type 0
TellsAt tells None clock = clock ≡ None
TellsAt tells (Some s) clock = TellsIn tells s.socket clock

-- the answer of this listener to a SYN
pub record AnswersSyn {G : Type 0} (tells : G → ℕ → Type 0) (f : Facts) (slot : Option (Slot G)) (number : ℕ)
    (ip : IpRepr) (s : Segment) (reply : Option (IpRepr × Segment)) : Type 0 where
  pub clock : Option ℕ
  pub told : TellsAt tells slot clock
  pub is : reply ≡ Some (answer_of f (own_at slot) clock (room_at slot) number ip s)

-- ---- the context in which the SYN is heard: its words are the number

abbrev pub facts_told : {C : Type 0} → (C → Facts) → Told C → Facts
facts_told facts t = facts t.cx.now

abbrev pub word_told : {C : Type 0} → Told C → ℕ → ℕ
word_told t k = t.word

module _ {C G : Type 0} (facts : C → Facts) (word_at : C → ℕ → ℕ) (tells : G → ℕ → Type 0) where
  -- the slot at i, made ready for it, hears the SYN and draws this number; and as the host has sent its SYN|ACK, it
  -- dispatches that into nothing
  pub record HearsSyn (ready : View → View) (ss : List (Slot G)) (i : ℕ) (cx : C) (number : ℕ) (ip : IpRepr)
      (s : Segment) (ts : List (Slot G)) : Type 0 where
    pub told : Told C
    pub as_told : (facts told.cx.now ≡ facts cx) × (told.word ≡ number)
    pub left : Told C
    pub reply : Option (IpRepr × TcpRepr)
    pub opened : List (Slot G)
    pub heard : HearsAt (facts_told facts) word_told tells ready (opened_by true s) ss i told ip s reply opened
        left
    pub answer : Result (Unit {0}) TooShort
    pub last : Told C
    pub passed : PassesAt (facts_told facts) tells opened i left answer ts last

  -- the slot at i hears the segment, if its socket takes it
  abbrev pub HearsIf : List (Slot G) → ℕ → C → IpRepr → Segment → Option (IpRepr × TcpRepr) → List (Slot G) → C
      → Type 0
  HearsIf ss i cx ip s r ts cx' =
      (IfSome (slice_get ss i) (TakesSegment false ip s)
      × HearsAt facts word_at tells as_is no_more ss i cx ip s r ts cx')
      ⊎ (IfSome (slice_get ss i) (λ x. TakesSegment false ip s x → ⊥) × (ts ≡ ss) × (cx' ≡ cx) × (r ≡ None))

  -- the SYN before it, and then the segment
  pub record HearsBoth (ready : View → View) (ss : List (Slot G)) (i : ℕ) (cx : C) (class number : ℕ) (ip : IpRepr)
      (s : Segment) (r : Option (IpRepr × TcpRepr)) (ts : List (Slot G)) (cx' : C) : Type 0 where
    pub opened : List (Slot G)
    pub opens : HearsSyn ready ss i cx number ip (syn_before s class) opened
    pub hears : HearsIf opened i cx ip s r ts cx'

  -- the SYN before it went to this taker, if it is one
  abbrev pub BelievedBy : Taker → (class number : ℕ) → List (Slot G) → C → IpRepr → Segment
      → Option (IpRepr × TcpRepr) → List (Slot G) → C → Type 0
  BelievedBy (taker.Listener i) class number ss cx ip s r ts cx' =
      HearsBoth as_is ss i cx class number ip s r ts cx'
  BelievedBy (taker.Reused i) class number ss cx ip s r ts cx' =
      HearsBoth anew ss i cx class number ip s r ts cx'
  BelievedBy _ class number ss cx ip s r ts cx' = (ts ≡ ss) × (cx' ≡ cx) × (r ≡ None)

  abbrev pub TakenOn : Course → Taker → Taker → List (Slot G) → C → IpRepr → Segment → Option (IpRepr × TcpRepr)
      → List (Slot G) → C → Type 0
  TakenOn course.Plain t again ss cx ip s r ts cx' = TakenBy facts word_at tells t ss cx ip s r ts cx'
  TakenOn course.Doubted t again ss cx ip s r ts cx' = TakenBy facts word_at tells t ss cx ip s r ts cx'
  TakenOn (course.Answered k number) t again ss cx ip s r ts cx' =
      (ts ≡ ss) × (cx' ≡ cx)
      × AnswersSyn tells (facts cx) (slice_get ss k) number ip s (option_map reply_of r)
  TakenOn (course.Believed class number) t again ss cx ip s r ts cx' =
      BelievedBy again class number ss cx ip (opening_of s) r ts cx'
  TakenOn course.Dropped t again ss cx ip s r ts cx' = (ts ≡ ss) × (cx' ≡ cx) × (r ≡ None)

  -- and what goes out of what it answers stands as a packet at the beginning of the buffer
  pub record AnswersSegment (c : Course) (t again : Taker) (ss : List (Slot G)) (cx : C) (l : Limit) (ip : IpRepr)
      (s : Segment) (out : List ℕ) (n : ℕ) (ts : List (Slot G)) (cx' : C) (l' : Limit) (out' : List ℕ) : Type 0 where
    pub reply : Option (IpRepr × TcpRepr)
    pub taken : TakenOn c t again ss cx ip s reply ts cx'
    pub sent : Option (IpRepr × TcpRepr)
    pub within : SendsWithin l (moment_of (facts cx)) ip reply sent l'
    pub len : n ≡ reply_len (option_map reply_of sent)
    pub octets : out' ≡ with_reply (facts cx).checksums (option_map reply_of sent) out

-- ---- the law

-- it has a timestamp where that one has, and echoes it
abbrev pub Echoes : (a s : Option TcpTimestampRepr) → Type 0
Echoes (Some t) (Some u) = t.tsecr ≡ u.tsval
Echoes None None = Unit {0}
Echoes _ _ = ⊥

-- It acknowledges the answer to a SYN, by a listener with this window scale that sends timestamps where it has one, at
-- this value of its clock; and stands behind that.
pub record AnswersCookie (c : SynCookies) (own clock : Option ℕ) (f : Facts) (room : ℕ) (sent : ℤ) (ip : IpRepr)
    (s : Segment) (ip' : IpRepr) (a : Segment) : Type 0 where
  pub clocked : is_some clock ≡ is_some own
  pub small : IfSome clock (λ t. t < 4294967296)
  pub remote : src_addr_of ip' ≡ src_addr_of ip
  pub local : dst_addr_of ip' ≡ dst_addr_of ip
  pub src_port : a.src_port ≡ s.src_port
  pub dst_port : a.dst_port ≡ s.dst_port
  pub number : a.seq_number ≡ seq_add s.seq_number 1
  pub acked : acked_by a ≡ Some (seq_add (seq_of (answer_number c own sent ip s)) 1)
  pub echoes :
      Echoes a.timestamp (answer_segment f own clock room (answer_number c own sent ip s) ip s).timestamp

-- where no socket takes it, and one takes its SYN or serves its port, it is believed in the answer's count of 64
-- seconds, and in the next, where an answer of that count or of a later one was noted last
abbrev pub AnswersAreBelieved : Type 0
AnswersAreBelieved =
    (c : SynCookies) (own clock other : Option ℕ) (f : Facts) (room : ℕ) (again : Taker) (sent last heard : ℤ)
    (ip ip' : IpRepr) (s a : Segment)
    → s.seq_number.0 < 4294967296 → is_anybody again ≡ true → c.answered ≡ Some last → step_of sent ≤ step_of last
    → AnswersCookie c own clock f room sent ip s ip' a
    → (step_of heard ≡ step_of sent) ⊎ (step_of heard ≡ step_of sent + 1)
    → course_under c other taker.Nobody again heard ip' a
    ≡ course.Believed (class_of s.max_seg_size) (answer_number c own sent ip s)

-- the options of a SYN that the answer told, which are none where it has no timestamp
pub record HasOptionsOf (told : Bool) (s syn : Segment) : Type 0 where
  pub scale : syn.window_scale ≡ (if told then scale_taken s.window_scale else None)
  pub sack : syn.sack_permitted ≡ (if told then s.sack_permitted else false)
  pub stamps : is_some syn.timestamp ≡ told

-- the SYN that the socket hears before such an acknowledgement has the options that the SYN offered and the answer told
abbrev pub OffersAreHeard : Type 0
OffersAreHeard =
    (c : SynCookies) (own clock : Option ℕ) (f : Facts) (room : ℕ) (sent : ℤ) (ip ip' : IpRepr) (s a : Segment)
    (class : ℕ) → AnswersCookie c own clock f room sent ip s ip' a
    → HasOptionsOf (is_some (answer_segment f own clock room (answer_number c own sent ip s) ip s).timestamp) s
    (syn_before a class)

-- nothing is believed once no answer is awaited, nor where the SYN before it is for nobody
abbrev pub BelievesAwaited : Type 0
BelievesAwaited =
    (c : SynCookies) (own : Option ℕ) (t again : Taker) (now : ℤ) (ip : IpRepr) (s : Segment) (class number : ℕ)
    → course_under c own t again now ip s ≡ course.Believed class number
    → (awaited c.answered now ≡ true) × (is_anybody again ≡ true)
