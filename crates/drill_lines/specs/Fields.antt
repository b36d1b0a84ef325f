-- Segments, datagrams and messages that are written by hand: fields in any order, of those that stand twice the last.
use Rattle.std.specs.Prelude.{ℕ, ◌+◌, ◌/◌, ◌==◌, ◌&&◌, ◌||◌, nat_le, List}
use Rattle.std.specs.Prelude.{[], ◌∷◌, length, Bool, true, false, Option, Some, None}
use Rattle.std.specs.Prelude.{Result, Ok, Err, MatchResult, ◌≡◌, ◌≤◌}
use Rattle.std.specs.Prelude.{option_copied, option_map, is_some, bytes_eq, codes, if◌then◌else◌}
use Rattle.std.specs.Borrow.{Bor}
use Rattle.control_wire.specs.declared.tcp.TcpControl.{TcpControl}
use Rattle.control_wire.specs.declared.tcp.TcpControl.TheVariants as control
use Rattle.control_wire.specs.declared.seq_number.TcpSeqNumber.{TcpSeqNumber}
use Rattle.control_wire.specs.declared.tcp.TcpTimestampRepr.{TcpTimestampRepr}
use Rattle.ip_wire.specs.declared.address.IpAddress.{IpAddress}
use Rattle.ip_wire.specs.declared.endpoint.IpEndpoint.{IpEndpoint}
use Rattle.sock_pair.specs.ReplayLines.{flags_text}
use Rattle.sock_pair.specs.ScriptText.{words_of}
use Rattle.sock_pair.specs.ScriptWords.{Word, is_text, named, number_of}
use Rattle.drill_lines.specs.declared.fields.Key.{Key}
use Rattle.drill_lines.specs.declared.fields.Key.TheVariants as key
use Rattle.drill_lines.specs.declared.fields.Said.{Said as SaidSoFar}
use Rattle.drill_lines.specs.declared.fields.Values.{Values}
use Rattle.drill_lines.specs.declared.fields.Values.TheVariants as values
use Rattle.drill_lines.specs.declared.wrong.Wrong.{Wrong}
use Rattle.drill_lines.specs.declared.wrong.Wrong.TheVariants as wrong
use Rattle.drill_lines.specs.Places.{address_of, endpoint_of, is_hex}
use Rattle.drill_lines.specs.Requests.{CarriedValue, FieldsValue, fields_value, unnamed, text, hex}

-- nothing is said
abbrev pub no_fields : FieldsValue
no_fields = record {
  control = None;
  seq = 0;
  ack = None;
  win = 0;
  mss = None;
  scale = None;
  sack = false;
  ranges = None ∷ None ∷ None ∷ [];
  timestamp = None;
  len = None;
  carried = unnamed;
  from = None;
  to = None;
  hop = 64;
  protocol = None;
}

-- whether a segment with these control bits is printed so
unfoldable pub is_flags : TcpControl → Word → Bool
is_flags c w = bytes_eq (flags_text c false) w || bytes_eq (flags_text c true) w

-- the control bits that are printed so
unfoldable pub control_of : Word → Option TcpControl
control_of w =
    if is_flags control.None w then Some control.None
    else (if is_flags control.Psh w then Some control.Psh
    else (if is_flags control.Fin w then Some control.Fin
    else (if is_flags control.Syn w then Some control.Syn
    else (if is_flags control.Rst w then Some control.Rst else None))))

-- what the word of a key says of the packet
unfoldable pub key_of : Word → Option Key
key_of =
    named
    ((codes "seq", key.Seq) ∷ (codes "ack", key.Ack) ∷ (codes "win", key.Win) ∷ (codes "mss", key.Mss)
    ∷ (codes "scale", key.Scale) ∷ (codes "sack", key.Sack) ∷ (codes "range", key.Range) ∷ (codes "ts", key.Stamp)
    ∷ (codes "len", key.Len) ∷ (codes "data", key.Data) ∷ (codes "bytes", key.Bytes) ∷ (codes "from", key.From)
    ∷ (codes "to", key.To) ∷ (codes "hop", key.Hop) ∷ (codes "protocol", key.Protocol) ∷ [])

-- an acknowledgement number, or `-` for none
unfoldable pub ack_of : Word → Option (Option TcpSeqNumber)
ack_of w =
    if bytes_eq w (codes "-") then Some None
    else option_map (λ n. Some (record { 0 = n })) (number_of 4294967295 w)

abbrev pub end_or : Option IpEndpoint → Option IpAddress → Option IpEndpoint
end_or (Some e) addr = Some e
end_or None (Some addr) = Some (record { addr = addr; port = 0 })
end_or None None = None

-- an endpoint, or an address, with port 0
unfoldable pub end_of : Word → Option IpEndpoint
end_of w = end_or (endpoint_of w) (address_of w)

-- with the value of a key that has one
unfoldable pub with_one : Key → FieldsValue → Word → Option FieldsValue
with_one key.Seq f w = option_map (λ n. record f { seq = n }) (number_of 4294967295 w)
with_one key.Ack f w = option_map (λ a. record f { ack = a }) (ack_of w)
with_one key.Win f w = option_map (λ n. record f { win = n }) (number_of 65535 w)
with_one key.Mss f w = option_map (λ n. record f { mss = Some n }) (number_of 65535 w)
with_one key.Scale f w = option_map (λ n. record f { scale = Some n }) (number_of 255 w)
with_one key.Len f w = option_map (λ n. record f { len = Some n }) (number_of 65535 w)
with_one key.Data f w = if is_text w then Some (record f { carried = text w }) else None
with_one key.Bytes f w = if is_hex w then Some (record f { carried = hex w }) else None
with_one key.From f w = option_map (λ e. record f { from = Some e }) (end_of w)
with_one key.To f w = option_map (λ e. record f { to = Some e }) (end_of w)
with_one key.Hop f w = option_map (λ n. record f { hop = n }) (number_of 255 w)
with_one key.Protocol f w = option_map (λ n. record f { protocol = Some n }) (number_of 255 w)
with_one _ f w = None

-- one range more, of three at most
abbrev pub with_range : List (Option (ℕ × ℕ)) → ℕ × ℕ → Option (List (Option (ℕ × ℕ)))
with_range (None ∷ more) r = Some (Some r ∷ None ∷ None ∷ [])
with_range (Some a ∷ None ∷ more) r = Some (Some a ∷ Some r ∷ None ∷ [])
with_range (Some a ∷ Some b ∷ None ∷ more) r = Some (Some a ∷ Some b ∷ Some r ∷ [])
with_range _ r = None

abbrev pub range_added : FieldsValue → Option ℕ → Option ℕ → Option FieldsValue
range_added f (Some start) (Some end) =
    option_map (λ rs. record f { ranges = rs }) (with_range f.ranges (start, end))
range_added f _ _ = None

abbrev pub stamp_set : FieldsValue → Option ℕ → Option ℕ → Option FieldsValue
stamp_set f (Some value) (Some echo) = Some (record f { timestamp = Some (record { tsval = value; tsecr = echo }) })
stamp_set f _ _ = None

-- with the values of a key that has two
unfoldable pub with_two : Key → FieldsValue → Word → Word → Option FieldsValue
with_two key.Range f w x = range_added f (number_of 4294967295 w) (number_of 4294967295 x)
with_two key.Stamp f w x = stamp_set f (number_of 4294967295 w) (number_of 4294967295 x)
with_two _ f w x = None

-- how many values a key has
abbrev pub values_of : Key → Values
values_of key.Sack = values.None
values_of key.Range = values.Two
values_of key.Stamp = values.Two
values_of _ = values.One

-- what is awaited: a control bit or a key, the value of this key, or its second value behind this first one
pub data Awaited : Type 0 where
  field : Awaited
  value : Key → Awaited
  second : Key → Word → Awaited

-- what was said so far, and the word of the control bits
abbrev pub Said : Type 0
Said = FieldsValue × Option Word

-- what the words behind these say in addition, where this is awaited
abbrev pub Going : Type 0
Going = Said → Awaited → Result Said Wrong

abbrev pub on_value : Going → Option Word → Option FieldsValue → Result Said Wrong
on_value more bits None = Err wrong.Word
on_value more bits (Some f) = more (f, bits) field

-- behind a key with so many values; SACK alone has none
abbrev pub on_values : Going → Said → Key → Values → Result Said Wrong
on_values more s k values.None = more (record s.0 { sack = true }, s.1) field
on_values more s k values.One = more s (value k)
on_values more s k values.Two = more s (value k)

abbrev pub on_key : Going → Said → Option Key → Result Said Wrong
on_key more s None = Err wrong.Word
on_key more s (Some k) = on_values more s k (values_of k)

-- behind the first value of a key with so many
abbrev pub on_first : Going → Word → Said → Key → Values → Result Said Wrong
on_first more w s k values.None = Err wrong.Word
on_first more w s k values.One = on_value more s.1 (with_one k s.0 w)
on_first more w s k values.Two = more s (second k w)

abbrev pub on_field : Going → Word → Said → Option TcpControl → Result Said Wrong
on_field more w s (Some c) = more (record s.0 { control = Some c }, Some w) field
on_field more w s None = on_key more s (key_of w)

abbrev pub on_word : Going → Word → Going
on_word more w s field = on_field more w s (control_of w)
on_word more w s (value k) = on_first more w s k (values_of k)
on_word more w s (second k first) = on_value more s.1 (with_two k s.0 first w)

-- what words say
unfoldable pub read_words : List Word → Going
read_words [] s field = Ok s
read_words [] s (value k) = Err wrong.Number
read_words [] s (second k w) = Err wrong.Number
read_words (w ∷ ws) s a = on_word (read_words ws) w s a

-- the control bits are written as the segment is printed
abbrev pub is_printed_so : Option TcpControl → Bool → Option Word → Bool
is_printed_so (Some c) has_ack (Some w) = bytes_eq (flags_text c has_ack) w
is_printed_so _ has_ack _ = true

abbrev pub is_length : Option ℕ → ℕ → Bool
is_length None n = true
is_length (Some said) n = said == n

-- the payload is as long as it is said to be, and a packet carries it
abbrev pub is_as_long : Option ℕ → CarriedValue → Bool
is_as_long said unnamed = true
is_as_long said (text t) = nat_le (length t) 65535 && is_length said (length t)
is_as_long said (hex d) = nat_le (length d / 2) 65535 && is_length said (length d / 2)

abbrev pub is_checked : FieldsValue → Option Word → Bool
is_checked f bits = is_printed_so f.control (is_some f.ack) bits && is_as_long f.len f.carried

abbrev pub checked : Result Said Wrong → Result FieldsValue Wrong
checked (Err e) = Err e
checked (Ok (f, bits)) = if is_checked f bits then Ok f else Err wrong.Word

-- what words say of a packet
unfoldable pub fields_of : List Word → Result FieldsValue Wrong
fields_of ws = checked (read_words ws (no_fields, None) field)

abbrev pub said_value : SaidSoFar → Said
said_value s = (fields_value s.fields, option_copied s.bits)

-- what is meant goes on with what stands behind, which is answered, and no longer
abbrev pub GoesOn : Result Said Wrong → List Word → Result (Bor Word) Wrong → Said → Type 0
GoesOn meant ws result s' =
    MatchResult result
    (λ rest. (meant ≡ read_words (words_of rest.now) s' field) × (length (words_of rest.now) ≤ length ws))
    (λ e. meant ≡ Err e)
