-- The lines that a replay prints.
use Rattle.std.specs.Prelude.{ℕ, Bool, true, false, List, [], ◌∷◌, ◌++◌, length, Option, Some, None, codes, decimal}
use Rattle.std.specs.Prelude.{is_some, slice_get}
use Rattle.control_wire.specs.declared.seq_number.TcpSeqNumber.{TcpSeqNumber}
use Rattle.control_wire.specs.declared.tcp.TcpControl.{TcpControl}
use Rattle.control_wire.specs.declared.tcp.TcpControl.TheVariants as control
use Rattle.control_wire.specs.Segment.{Segment}
use Rattle.sock_tcp.specs.Texts.{state_text, send_error_text, recv_error_text}
use Rattle.pair_core.specs.PairViews.{PairView, StoredView, host_of}
use Rattle.pair_core.specs.declared.outcome.Outcome.{Outcome}
use Rattle.pair_core.specs.declared.outcome.Outcome.TheVariants as outcome
use Rattle.pair_core.specs.declared.side.Side.{Side}
use Rattle.pair_core.specs.declared.side.Side.TheVariants.{A, B}

-- control bits, and whether there is an acknowledgement number
abbrev pub flags_text : TcpControl → Bool → List ℕ
flags_text control.None has_ack = codes "ACK"
flags_text control.Psh has_ack = codes "PSH|ACK"
flags_text control.Fin has_ack = codes "FIN|ACK"
flags_text control.Syn true = codes "SYN|ACK"
flags_text control.Syn false = codes "SYN"
flags_text control.Rst true = codes "RST|ACK"
flags_text control.Rst false = codes "RST"

abbrev pub ack_text : Option TcpSeqNumber → List ℕ
ack_text None = codes "-"
ack_text (Some n) = decimal n.0

-- `FLAGS seq N ack N win N len N`
abbrev pub segment_text : Segment → List ℕ
segment_text s =
    flags_text s.control (is_some s.ack_number) ++ (codes " seq " ++ decimal s.seq_number.0) ++ codes " ack "
    ++ ack_text s.ack_number ++ (codes " win " ++ decimal s.window_len) ++ codes " len " ++ decimal (length s.payload)

-- a segment after its index
abbrev pub stored_text : Option StoredView → List ℕ
stored_text None = []
stored_text (Some s) = codes " " ++ segment_text s.segment

abbrev pub numbered_text : List StoredView → ℕ → List ℕ
numbered_text segments k = decimal k ++ stored_text (slice_get segments k)

-- ` reply K SEG`, or nothing
abbrev pub reply_text : List StoredView → Option ℕ → List ℕ
reply_text segments None = []
reply_text segments (Some k) = codes " reply " ++ numbered_text segments k

-- ` BYTES`, or nothing
abbrev pub bytes_text : List ℕ → List ℕ
bytes_text [] = []
bytes_text (b ∷ bs) = codes " " ++ (b ∷ bs)

-- what an outcome prints of itself
abbrev pub outcome_text : List StoredView → Outcome → List ℕ
outcome_text segments outcome.Opened = codes "opened"
outcome_text segments outcome.Done = codes "done"
outcome_text segments (outcome.Accepted n) = codes "accepted " ++ decimal n
outcome_text segments (outcome.SendRefused e) = codes "send-refused " ++ send_error_text e
outcome_text segments (outcome.Read bytes) = (codes "read " ++ decimal (length bytes.items)) ++ bytes_text bytes.items
outcome_text segments (outcome.RecvRefused e) = codes "recv-refused " ++ recv_error_text e
outcome_text segments outcome.Quiet = codes "quiet"
outcome_text segments (outcome.Emitted k) = codes "emitted " ++ numbered_text segments k
outcome_text segments outcome.EmitFailed = codes "emit-failed"
outcome_text segments (outcome.Delivered reply) = codes "delivered" ++ reply_text segments reply
outcome_text segments outcome.AlreadyOpened = codes "already-opened"
outcome_text segments outcome.NoSegment = codes "no-segment"
outcome_text segments outcome.StreamLimit = codes "stream-limit"
outcome_text segments outcome.TooOld = codes "too-old"
outcome_text segments (outcome.NotAccepted reply) = codes "not-accepted" ++ reply_text segments reply

-- a line ends with a line feed
abbrev pub outcome_line : List StoredView → Outcome → List ℕ
outcome_line segments o = outcome_text segments o ++ 10 ∷ []

unfoldable pub outcome_lines : List StoredView → List Outcome → List ℕ
outcome_lines segments [] = []
outcome_lines segments (o ∷ os) = outcome_line segments o ++ outcome_lines segments os

abbrev pub side_text : Side → List ℕ
side_text A = codes "a "
side_text B = codes "b "

-- `NAME STATE accepted N handed-out N queued N`, where the name ends with a space
abbrev pub closing_text : List ℕ → List ℕ → ℕ → ℕ → ℕ → List ℕ
closing_text name state accepted handed_out queued =
    name ++ (state ++ ((codes " accepted " ++ decimal accepted) ++ ((codes " handed-out " ++ decimal handed_out)
    ++ ((codes " queued " ++ decimal queued) ++ (10 ∷ [])))))

-- the closing line of a side
abbrev pub side_line : {G : Type 0} → Side → PairView G → List ℕ
side_line s p =
    let host = host_of s p in
    closing_text (side_text s) (state_text host.control_block.state) (length host.accepted) (length host.handed_out)
    (length host.control_block.rx_buffer.bytes)

abbrev pub side_lines : {G : Type 0} → PairView G → List ℕ
side_lines p = side_line A p ++ side_line B p
