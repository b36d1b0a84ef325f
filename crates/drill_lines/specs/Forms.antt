-- What the words behind the first of a line mean, by its form: first their number counts, then each of them.
use Rattle.std.specs.Prelude.{ℕ, ◌+◌, ◌==◌, ◌%◌, ◌&&◌, List, [], ◌∷◌}
use Rattle.std.specs.Prelude.{length, drop, take, Bool, true, false, Option, Some, None}
use Rattle.std.specs.Prelude.{Result, Ok, Err, MatchResult, ◌≡◌, option_map, bytes_eq, codes, if◌then◌else◌}
use Rattle.ip_wire.specs.declared.endpoint.IpEndpoint.{IpEndpoint}
use Rattle.ip_wire.specs.declared.protocol.IpProtocol.{IpProtocol}
use Rattle.ip_wire.specs.declared.protocol.IpVersion.{IpVersion}
use Rattle.ip_wire.specs.Protocol.{protocol_of as protocol_numbered}
use Rattle.sock_dgram.specs.declared.icmp.endpoint.Endpoint.TheVariants as messages
use Rattle.sock_pair.specs.ScriptWords.{Word, number_of, switch_of, is_text, rules_of, one_of, two_of, three_of}
use Rattle.sock_pair.specs.ScriptWords.{five_of}
use Rattle.sock_pair.specs.declared.script.error.ScriptError.{ScriptError}
use Rattle.sock_pair.specs.declared.script.error.ScriptError.TheVariants as fault
use Rattle.drill_lines.specs.declared.request.Bytes.{Bytes}
use Rattle.drill_lines.specs.declared.request.Bytes.TheVariants as written
use Rattle.drill_lines.specs.declared.request.Counted.{Counted}
use Rattle.drill_lines.specs.declared.request.Counted.TheVariants as counts
use Rattle.drill_lines.specs.declared.request.Optional.{Optional}
use Rattle.drill_lines.specs.declared.request.Optional.TheVariants as sets
use Rattle.drill_lines.specs.declared.request.Place.{Place}
use Rattle.drill_lines.specs.declared.request.Place.TheVariants as place
use Rattle.drill_lines.specs.declared.request.Request.{Request}
use Rattle.drill_lines.specs.declared.request.Which.{Which}
use Rattle.drill_lines.specs.declared.request.Which.TheVariants as which
use Rattle.drill_lines.specs.declared.room.Queues.{Queues}
use Rattle.drill_lines.specs.declared.room.Room.{Room}
use Rattle.drill_lines.specs.declared.room.Room.TheVariants as room
use Rattle.drill_lines.specs.declared.shapes.Form.{Form}
use Rattle.drill_lines.specs.declared.shapes.Form.TheVariants as form
use Rattle.drill_lines.specs.declared.wrong.Wrong.{Wrong}
use Rattle.drill_lines.specs.declared.wrong.Wrong.TheVariants as wrong
use Rattle.drill_lines.specs.Fields.{fields_of}
use Rattle.drill_lines.specs.Names.{Names, is_free_in, place_in}
use Rattle.drill_lines.specs.Places.{endpoint_of, is_hex, listen_endpoint_of}
use Rattle.drill_lines.specs.Reads.{by, mapped, or_word}
use Rattle.drill_lines.specs.Requests.{CallValue, ExpectedValue, RequestValue, request_value}
use Rattle.drill_lines.specs.Requests.{plain, switch, counted, optional, bytes}
use Rattle.drill_lines.specs.Requests.{listen, bind, congestion, rules, checksums, ends}
use Rattle.drill_lines.specs.Requests.{take as taken, state, poll, example, make}
use Rattle.drill_lines.specs.Requests.{clock, word, call, deliver, line, expect}
use Rattle.drill_lines.specs.Words.{checksum_of, congestion_of, version_of}

-- the largest number of such a line
abbrev pub most_of : Counted → ℕ
most_of counts.Connect = 4294967295
most_of counts.Fill = 1048576
most_of counts.Recv = 1048576
most_of counts.Peek = 1048576
most_of counts.Dispatch = 1000000000
most_of counts.Fail = 1000000000
most_of counts.Gone = 1000000000
most_of counts.Poll = 1000000000
most_of counts.PathMtu = 65535

abbrev pub not_zero : Option ℕ → Option ℕ
not_zero None = None
not_zero (Some n) = if n == 0 then None else Some n

-- milliseconds, hops from 1 to 255, or any number of 32 bits
abbrev pub number_for : Optional → Word → Option ℕ
number_for sets.Timeout w = number_of 1000000000 w
number_for sets.AckDelay w = number_of 1000000000 w
number_for sets.KeepAlive w = number_of 1000000000 w
number_for sets.HopLimit w = not_zero (number_of 255 w)
number_for sets.Timestamps w = number_of 4294967295 w

-- such a number, or `-` for none
unfoldable pub optional_of : Optional → Word → Option (Option ℕ)
optional_of o w = if bytes_eq w (codes "-") then Some None else option_map Some (number_for o w)

abbrev pub is_written : Bytes → Word → Bool
is_written written.Send w = is_text w
is_written written.SendHex w = is_hex w
is_written written.Write w = is_text w

-- nothing, or one word
unfoldable pub bytes_mean : Bytes → List Word → Result CallValue Wrong
bytes_mean b [] = Ok (bytes b [])
bytes_mean b (w ∷ []) = if is_written b w then Ok (bytes b w) else Err wrong.Word
bytes_mean b (w ∷ x ∷ more) = Err wrong.Number

-- what stands behind this beginning
unfoldable pub behind : Word → Word → Option Word
behind beginning w =
    if bytes_eq (take (length beginning) w) beginning then Some (drop (length beginning) w) else None

abbrev pub named_or : {A : Type 0} → Option A → (A → Option Place) → Option Place → Option Place
named_or (Some x) place other = place x
named_or None place other = other

abbrev pub ident : Word → Option Place
ident w = option_map (λ n. place.Messages (messages.Ident n)) (number_of 65535 w)

abbrev pub udp : Word → Option Place
udp w = option_map (λ e. place.Messages (messages.Udp e)) (listen_endpoint_of w)

abbrev pub tcp : Word → Option Place
tcp w = option_map (λ e. place.Messages (messages.Tcp e)) (listen_endpoint_of w)

-- a port, an endpoint, or what an ICMP socket is bound to: `ident:N`, `udp:WHERE`, `tcp:WHERE` or `unspecified`
unfoldable pub place_of : Word → Option Place
place_of w =
    if bytes_eq w (codes "unspecified") then Some (place.Messages messages.Unspecified)
    else named_or (behind (codes "ident:") w) ident
    (named_or (behind (codes "udp:") w) udp
    (named_or (behind (codes "tcp:") w) tcp
    (option_map place.At (listen_endpoint_of w))))

-- nothing, or one word
unfoldable pub place_means : List Word → Result Place Wrong
place_means [] = Ok place.Here
place_means (w ∷ []) = or_word (place_of w)
place_means (w ∷ x ∷ more) = Err wrong.Number

abbrev pub ends_if : Option IpEndpoint → Option IpEndpoint → Option CallValue
ends_if (Some here) (Some peer) = Some (ends here peer)
ends_if _ _ = None

-- no word more
abbrev pub none_means : CallValue → List Word → Result CallValue Wrong
none_means c [] = Ok c
none_means c (w ∷ ws) = Err wrong.Number

unfoldable pub other_means : Form → List Word → Result CallValue Wrong
other_means form.Listen ws = mapped listen (place_means ws)
other_means form.Bind ws = mapped bind (place_means ws)
other_means form.Congestion ws = by (λ w. option_map congestion (congestion_of w)) (one_of ws)
other_means form.Rules ws = by (λ w. option_map rules (rules_of w)) (one_of ws)
other_means form.Checksums ws = by (λ w. option_map checksums (checksum_of w)) (one_of ws)
other_means _ ws = by (λ (here, peer). ends_if (endpoint_of here) (endpoint_of peer)) (two_of ws)

-- what stands behind the name of the socket
unfoldable pub call_means : Form → List Word → Result CallValue Wrong
call_means (form.Plain p) ws = none_means (plain p) ws
call_means (form.Switch s) ws = by (λ w. option_map (switch s) (switch_of w)) (one_of ws)
call_means (form.Counted c) ws = by (λ w. option_map (counted c) (number_of (most_of c) w)) (one_of ws)
call_means (form.Optional o) ws = by (λ w. option_map (optional o) (optional_of o w)) (one_of ws)
call_means (form.Bytes b) ws = bytes_mean b ws
call_means form.Take ws = mapped taken (fields_of ws)
call_means f ws = other_means f ws

abbrev pub call_if : Result CallValue Wrong → Option ℕ → Result RequestValue Wrong
call_if (Err e) place = Err e
call_if (Ok c) None = Err wrong.Word
call_if (Ok c) (Some place) = Ok (call place c)

-- the name of a socket, and what stands behind it
abbrev pub call_of : Names → Form → List Word → Result RequestValue Wrong
call_of names f [] = Err wrong.Number
call_of names f (name ∷ ws) = call_if (call_means f ws) (place_in names name)

abbrev pub free : Names → Word → Option Room → Option RequestValue
free names name None = None
free names name (Some r) = if is_free_in names name then Some (make r) else None

abbrev pub tcp_room : Option ℕ → Option ℕ → Option Room
tcp_room (Some rx) (Some tx) = Some (room.Tcp rx tx)
tcp_room _ _ = None

abbrev pub queues : Option ℕ → Option ℕ → Option ℕ → Option ℕ → Option Queues
queues (Some rx_places) (Some rx_bytes) (Some tx_places) (Some tx_bytes) = Some (record {
  rx_places = rx_places;
  rx_bytes = rx_bytes;
  tx_places = tx_places;
  tx_bytes = tx_bytes;
})
queues _ _ _ _ = None

-- `PLACES BYTES PLACES BYTES`: of what comes, and of what goes
abbrev pub queues_of : Word → Word → Word → Word → Option Queues
queues_of a b c d = queues (number_of 4096 a) (number_of 1048576 b) (number_of 4096 c) (number_of 1048576 d)

-- a number of at most 255, or `-` for any
unfoldable pub protocol_of : Word → Option (Option IpProtocol)
protocol_of w =
    if bytes_eq w (codes "-") then Some None
    else option_map (λ n. Some (protocol_numbered n)) (number_of 255 w)

abbrev pub raw_room : Option (Option IpVersion) → Option (Option IpProtocol) → Option Queues → Option Room
raw_room (Some version) (Some protocol) (Some q) = Some (room.Raw version protocol q)
raw_room _ _ _ = None

-- `S RX TX`, `S PLACES BYTES PLACES BYTES`, and `S VERSION PROTOCOL PLACES BYTES`, as many each way
unfoldable pub room_means : Names → Form → List Word → Result RequestValue Wrong
room_means names form.Tcp ws =
    by (λ (name, rx, tx). free names name (tcp_room (number_of 1048576 rx) (number_of 1048576 tx))) (three_of ws)
room_means names form.Udp ws =
    by (λ (name, a, b, c, d). free names name (option_map room.Udp (queues_of a b c d))) (five_of ws)
room_means names form.Icmp ws =
    by (λ (name, a, b, c, d). free names name (option_map room.Icmp (queues_of a b c d))) (five_of ws)
room_means names _ ws =
    by (λ (name, version, protocol, places, size).
    free names name (raw_room (version_of version) (protocol_of protocol) (queues_of places size places size)))
    (five_of ws)

-- `last`, or a number
unfoldable pub which_of : Word → Option Which
which_of w =
    if bytes_eq w (codes "last") then Some which.Last else option_map which.Number (number_of 9999999999 w)

abbrev pub deliver_if : Option ℕ → Option Which → Option ℕ → Option RequestValue
deliver_if (Some from) (Some w) (Some to) = Some (deliver from w to)
deliver_if _ _ _ = None

abbrev pub expect_if : Option ℕ → Option ExpectedValue → Option RequestValue
expect_if (Some place) (Some e) = Some (expect place e)
expect_if _ _ = None

-- `S last S`, or `S N S`
abbrev pub deliver_means : Names → List Word → Result RequestValue Wrong
deliver_means names ws =
    by (λ (from, w, to). deliver_if (place_in names from) (which_of w) (place_in names to)) (three_of ws)

-- `S STATE`, or `S poll MOMENT`
unfoldable pub expect_means : Names → List Word → Result RequestValue Wrong
expect_means names (name ∷ w ∷ []) = or_word (expect_if (place_in names name) (Some (state w)))
expect_means names (name ∷ w ∷ moment ∷ []) =
    or_word (expect_if (place_in names name) (if bytes_eq w (codes "poll") then Some (poll moment) else None))
expect_means names _ = Err wrong.Number

-- the text behind the first space
abbrev pub behind_space : List ℕ → List ℕ
behind_space [] = []
behind_space (b ∷ bs) = bs

-- what a line of this form means, with these words and this text behind its first, where sockets have these names
unfoldable pub request_means : Names → Form → List Word → List ℕ → Result RequestValue Wrong
request_means names form.Example ws text = by (λ w. Some (example w)) (one_of ws)
request_means names form.Clock ws text = by (λ w. option_map clock (number_of 1000000000 w)) (one_of ws)
request_means names form.Word ws text = by (λ w. option_map word (number_of 4294967295 w)) (one_of ws)
request_means names form.Tcp ws text = room_means names form.Tcp ws
request_means names form.Udp ws text = room_means names form.Udp ws
request_means names form.Icmp ws text = room_means names form.Icmp ws
request_means names form.Raw ws text = room_means names form.Raw ws
request_means names form.Line ws text = Ok (line (behind_space text))
request_means names form.Deliver ws text = deliver_means names ws
request_means names form.Expect ws text = expect_means names ws
request_means names f ws text = call_of names f ws

abbrev pub at_line : {V : Type 0} → ℕ → Result V Wrong → Result V ScriptError
at_line n (Ok v) = Ok v
at_line n (Err wrong.Number) = Err (fault.WrongNumberOfWords n)
at_line n (Err wrong.Word) = Err (fault.BadWord n)

-- what line n means, of this form
abbrev pub line_means : Names → ℕ → Option Form → List Word → List ℕ → Result RequestValue ScriptError
line_means names n None ws text = Err (fault.UnknownEvent n)
line_means names n (Some f) ws text = at_line n (request_means names f ws text)

-- what was read of a line is what it means
abbrev pub ReadsLine : Result RequestValue ScriptError → Result Request ScriptError → Type 0
ReadsLine meant result = MatchResult result (λ r. meant ≡ Ok (request_value r)) (λ e. meant ≡ Err e)
