-- The form of a line, by its first word.
use Rattle.std.specs.Prelude.{Option, Some, None, [], ◌∷◌, codes}
use Rattle.drill_lines.specs.declared.request.Bytes.TheVariants as bytes
use Rattle.drill_lines.specs.declared.request.Counted.TheVariants as counted
use Rattle.drill_lines.specs.declared.request.Optional.TheVariants as optional
use Rattle.drill_lines.specs.declared.request.Plain.TheVariants as plain
use Rattle.drill_lines.specs.declared.request.Switch.TheVariants as switch
use Rattle.drill_lines.specs.declared.shapes.Form.{Form}
use Rattle.drill_lines.specs.declared.shapes.Form.TheVariants as form
use Rattle.sock_pair.specs.ScriptWords.{Word, named}

-- of the sockets of an example, and what comes to them
unfoldable pub of_socket : Word → Option Form
of_socket =
    named
    ((codes "example", form.Example) ∷ (codes "tcp", form.Tcp) ∷ (codes "udp", form.Udp)
    ∷ (codes "icmp", form.Icmp) ∷ (codes "raw", form.Raw) ∷ (codes "clock", form.Clock) ∷ (codes "word", form.Word)
    ∷ (codes "ends", form.Ends) ∷ (codes "take", form.Take) ∷ (codes "deliver", form.Deliver)
    ∷ (codes "expect", form.Expect) ∷ (codes ">", form.Line) ∷ [])

-- of calls
unfoldable pub of_call : Word → Option Form
of_call =
    named
    ((codes "listen", form.Listen) ∷ (codes "bind", form.Bind) ∷ (codes "connect", form.Counted counted.Connect)
    ∷ (codes "close", form.Plain plain.Close) ∷ (codes "abort", form.Plain plain.Abort)
    ∷ (codes "send", form.Bytes bytes.Send) ∷ (codes "send-hex", form.Bytes bytes.SendHex)
    ∷ (codes "fill", form.Counted counted.Fill) ∷ (codes "write", form.Bytes bytes.Write)
    ∷ (codes "recv", form.Counted counted.Recv) ∷ (codes "peek", form.Counted counted.Peek)
    ∷ (codes "dispatch", form.Counted counted.Dispatch) ∷ (codes "fail", form.Counted counted.Fail)
    ∷ (codes "gone", form.Counted counted.Gone) ∷ (codes "poll", form.Counted counted.Poll) ∷ [])

-- of settings, and what a socket says of itself
unfoldable pub of_setting : Word → Option Form
of_setting =
    named
    ((codes "nagle", form.Switch switch.Nagle) ∷ (codes "pause", form.Switch switch.Pause)
    ∷ (codes "timeout", form.Optional optional.Timeout) ∷ (codes "ack-delay", form.Optional optional.AckDelay)
    ∷ (codes "keep-alive", form.Optional optional.KeepAlive) ∷ (codes "hop-limit", form.Optional optional.HopLimit)
    ∷ (codes "timestamps", form.Optional optional.Timestamps) ∷ (codes "path-mtu", form.Counted counted.PathMtu)
    ∷ (codes "congestion", form.Congestion)
    ∷ (codes "rules", form.Rules)
    ∷ (codes "checksums", form.Checksums) ∷ (codes "state", form.Plain plain.State)
    ∷ (codes "queues", form.Plain plain.Queues) ∷ (codes "settings", form.Plain plain.Settings)
    ∷ (codes "endpoints", form.Plain plain.Endpoints) ∷ (codes "measures", form.Plain plain.Measures) ∷ [])

abbrev pub or_form : Option Form → Option Form → Option Form
or_form (Some f) g = Some f
or_form None g = g

abbrev pub form_of : Word → Option Form
form_of w = or_form (of_socket w) (or_form (of_call w) (of_setting w))
