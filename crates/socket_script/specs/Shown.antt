-- What is printed of a segment.
use Rattle.std.specs.Prelude.{ℕ, Bool, true, false, List, [], ◌∷◌, ◌++◌, Option, Some, None, codes, decimal, is_some}
use Rattle.control_wire.specs.declared.seq_number.TcpSeqNumber.{TcpSeqNumber}
use Rattle.control_wire.specs.declared.tcp.TcpControl.{TcpControl}
use Rattle.control_wire.specs.declared.tcp.TcpTimestampRepr.{TcpTimestampRepr}
use Rattle.control_wire.specs.Segment.{Segment}
use Rattle.sock_pair.specs.ReplayLines.{ack_text, flags_text}

-- `FLAGS seq N ack N win N len N`, as a replay prints it
abbrev pub head_text : TcpControl → Option TcpSeqNumber → ℕ → ℕ → ℕ → List ℕ
head_text control ack seq win len =
    flags_text control (is_some ack) ++ (codes " seq " ++ (decimal seq ++ (codes " ack " ++ (ack_text ack
    ++ (codes " win " ++ (decimal win ++ (codes " len " ++ decimal len)))))))

-- ` mss N`, or nothing
abbrev pub mss_text : Option ℕ → List ℕ
mss_text None = []
mss_text (Some n) = codes " mss " ++ decimal n

-- ` scale N`, or nothing
abbrev pub scale_text : Option ℕ → List ℕ
scale_text None = []
scale_text (Some n) = codes " scale " ++ decimal n

-- ` sack` where SACK is permitted
abbrev pub sack_text : Bool → List ℕ
sack_text true = codes " sack"
sack_text false = []

-- ` range START END`, or nothing
abbrev pub range_text : Option (ℕ × ℕ) → List ℕ
range_text None = []
range_text (Some r) = codes " range " ++ (decimal r.0 ++ (codes " " ++ decimal r.1))

-- that of each of the three blocks
abbrev pub ranges_text : List (Option (ℕ × ℕ)) → List ℕ
ranges_text (a ∷ b ∷ c ∷ []) = range_text a ++ (range_text b ++ range_text c)
ranges_text _ = []

-- ` ts VALUE ECHO`, or nothing
abbrev pub stamp_text : Option TcpTimestampRepr → List ℕ
stamp_text None = []
stamp_text (Some t) = codes " ts " ++ (decimal t.tsval ++ (codes " " ++ decimal t.tsecr))

-- its options, in this order
abbrev pub options_text : Segment → List ℕ
options_text s =
    mss_text s.max_seg_size ++ (scale_text s.window_scale ++ (sack_text s.sack_permitted
    ++ (ranges_text s.sack_ranges ++ stamp_text s.timestamp)))
