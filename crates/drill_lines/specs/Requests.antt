-- What lines ask for, by value: their bytes as lists.
use Rattle.std.specs.Prelude.{ℕ, List, Bool, Option}
use Rattle.control_wire.specs.declared.tcp.TcpControl.{TcpControl}
use Rattle.control_wire.specs.declared.seq_number.TcpSeqNumber.{TcpSeqNumber}
use Rattle.control_wire.specs.declared.tcp.TcpTimestampRepr.{TcpTimestampRepr}
use Rattle.ip_wire.specs.declared.checksum.Checksum.{Checksum}
use Rattle.ip_wire.specs.declared.endpoint.IpEndpoint.{IpEndpoint}
use Rattle.sock_tcp.specs.declared.rules.Rules.{Rules}
use Rattle.sock_tcp.specs.declared.settings.CongestionControl.{CongestionControl}
use Rattle.drill_lines.specs.declared.fields.Carried.{Carried}
use Rattle.drill_lines.specs.declared.fields.Carried.TheVariants as carries
use Rattle.drill_lines.specs.declared.fields.Fields.{Fields}
use Rattle.drill_lines.specs.declared.request.Bytes.{Bytes}
use Rattle.drill_lines.specs.declared.request.Call.{Call}
use Rattle.drill_lines.specs.declared.request.Call.TheVariants as calls
use Rattle.drill_lines.specs.declared.request.Counted.{Counted}
use Rattle.drill_lines.specs.declared.request.Expected.{Expected}
use Rattle.drill_lines.specs.declared.request.Expected.TheVariants as expects
use Rattle.drill_lines.specs.declared.request.Optional.{Optional}
use Rattle.drill_lines.specs.declared.request.Place.{Place}
use Rattle.drill_lines.specs.declared.request.Plain.{Plain}
use Rattle.drill_lines.specs.declared.request.Request.{Request}
use Rattle.drill_lines.specs.declared.request.Request.TheVariants as requests
use Rattle.drill_lines.specs.declared.request.Switch.{Switch}
use Rattle.drill_lines.specs.declared.request.Which.{Which}
use Rattle.drill_lines.specs.declared.room.Room.{Room}

-- the bytes that a packet carries
pub data CarriedValue : Type 0 where
  unnamed : CarriedValue
  text : List ℕ → CarriedValue
  hex : List ℕ → CarriedValue

abbrev pub carried_value : Carried → CarriedValue
carried_value carries.Unnamed = unnamed
carried_value (carries.Text t) = text t.now
carried_value (carries.Hex d) = hex d.now

-- what a line says of a packet
pub record FieldsValue : Type 0 where
  pub control : Option TcpControl
  pub seq : ℕ
  pub ack : Option TcpSeqNumber
  pub win : ℕ
  pub mss : Option ℕ
  pub scale : Option ℕ
  pub sack : Bool
  pub ranges : List (Option (ℕ × ℕ))
  pub timestamp : Option TcpTimestampRepr
  pub len : Option ℕ
  pub carried : CarriedValue
  pub from : Option IpEndpoint
  pub to : Option IpEndpoint
  pub hop : ℕ
  pub protocol : Option ℕ

abbrev pub fields_value : Fields → FieldsValue
fields_value f = record {
  control = f.control;
  seq = f.seq;
  ack = f.ack;
  win = f.win;
  mss = f.mss;
  scale = f.scale;
  sack = f.sack;
  ranges = f.ranges;
  timestamp = f.timestamp;
  len = f.len;
  carried = carried_value f.carried;
  from = f.from;
  to = f.to;
  hop = f.hop;
  protocol = f.protocol;
}

pub data CallValue : Type 0 where
  plain : Plain → CallValue
  switch : Switch → Bool → CallValue
  counted : Counted → ℕ → CallValue
  optional : Optional → Option ℕ → CallValue
  bytes : Bytes → List ℕ → CallValue
  listen : Place → CallValue
  bind : Place → CallValue
  congestion : CongestionControl → CallValue
  rules : Rules → CallValue
  checksums : Checksum → CallValue
  ends : IpEndpoint → IpEndpoint → CallValue
  take : FieldsValue → CallValue

abbrev pub call_value : Call → CallValue
call_value (calls.Plain p) = plain p
call_value (calls.Switch s on) = switch s on
call_value (calls.Counted c n) = counted c n
call_value (calls.Optional o n) = optional o n
call_value (calls.Bytes b bs) = bytes b bs.now
call_value (calls.Listen p) = listen p
call_value (calls.Bind p) = bind p
call_value (calls.Congestion c) = congestion c
call_value (calls.Rules r) = rules r
call_value (calls.Checksums c) = checksums c
call_value (calls.Ends here peer) = ends here peer
call_value (calls.Take f) = take (fields_value f)

pub data ExpectedValue : Type 0 where
  state : List ℕ → ExpectedValue
  poll : List ℕ → ExpectedValue

abbrev pub expected_value : Expected → ExpectedValue
expected_value (expects.State s) = state s.now
expected_value (expects.Poll s) = poll s.now

pub data RequestValue : Type 0 where
  example : List ℕ → RequestValue
  make : Room → RequestValue
  clock : ℕ → RequestValue
  word : ℕ → RequestValue
  call : ℕ → CallValue → RequestValue
  deliver : ℕ → Which → ℕ → RequestValue
  line : List ℕ → RequestValue
  expect : ℕ → ExpectedValue → RequestValue

abbrev pub request_value : Request → RequestValue
request_value (requests.Example name) = example name.now
request_value (requests.Make room) = make room
request_value (requests.Clock millis) = clock millis
request_value (requests.Word w) = word w
request_value (requests.Call place c) = call place (call_value c)
request_value (requests.Deliver from which to) = deliver from which to
request_value (requests.Line l) = line l.now
request_value (requests.Expect place e) = expect place (expected_value e)
