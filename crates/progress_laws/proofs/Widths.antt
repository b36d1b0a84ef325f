-- What a socket tells as its window, and how wide its receive window is.
use Rattle.std.proofs.Common.{◌≡◌, ℕ, ◌*◌, ◌/◌, ◌<◌, ◌≤◌, ◌^◌, refl, sym, ap, ◌∙◌, length, min, Option, Some, None, arith, mul-pos, div-mul-le_self, mul-le-mul_right}
use Rattle.control_wire.specs.Seq.{seq_add, seq_sub}
use Rattle.control_wire.specs.declared.seq_number.TcpSeqNumber.{TcpSeqNumber}
use Rattle.sock_core.specs.Received.{Received}
use Rattle.sock_tcp.specs.Rfc.OwnWindow.{space_field}
use Rattle.sock_tcp.specs.View.{View}
use Rattle.sock_tcp.specs.Window.{kept_between, next_ack, receive_window, window_end}
use Rattle.std.proofs.lemmas.Nat.{le-div, pow_pos}
use Rattle.progress_laws.specs.BothWays.{window_told}
use Rattle.progress_laws.proofs.Edges.{told_edge}

-- with room for so many bytes, and a shift, the window field tells at least one unit and no more than there is
abbrev pub unit : ℕ → ℕ → ℕ
unit room shift = min (room / 2 ^ shift) 65535 * 2 ^ shift

pub unit_within : (room shift : ℕ) → unit room shift ≤ room
unit_within room shift =
    let a = mul-le-mul_right {m = min (room / 2 ^ shift) 65535} {n = room / 2 ^ shift} (2 ^ shift) (omega arith) in
    let b = div-mul-le_self room (2 ^ shift) in
    omega (arith, a, b)

pub unit_some : (room shift : ℕ) → 2 ^ shift ≤ room → 0 < unit room shift
unit_some room shift h = mul-pos (omega (arith, one)) (pow_pos shift)
  where
    one : 1 ≤ room / 2 ^ shift
    one = le-div 1 room (2 ^ shift) (pow_pos shift) (omega (arith, h))

-- the window of a socket that told its window field with RCV.NXT
pub told_window : (w : View) (room : ℕ) → length w.rx_buffer.held ≡ room → room ≤ 2 ^ 30 → w.remote_last_ack ≡ Some (next_ack w) → w.remote_last_win ≡ min (room / 2 ^ w.remote_win_shift) 65535
    → seq_sub (receive_window w).end (receive_window w).start ≡ unit room w.remote_win_shift
unfolding receive_window
told_window w room wide narrow ack field =
    ap (λ o. seq_sub (window_end w o) (next_ack w)) ack
    ∙ (λ i. seq_sub (kept_between (next_ack w) (seq_add (next_ack w) (wide i)) (seq_add (next_ack w) (field i * 2 ^ w.remote_win_shift))) (next_ack w))
    ∙ told_edge (next_ack w) room (unit room w.remote_win_shift) (omega arith) (unit_within room w.remote_win_shift) narrow

pub start_is : (w : View) → (receive_window w).start ≡ next_ack w
unfolding receive_window
start_is w = refl

pub told_alike : (v y : View) → y.rx_buffer ≡ v.rx_buffer → y.remote_win_shift ≡ v.remote_win_shift → window_told y ≡ window_told v
told_alike v y rx shift = (λ i. unit (length ((rx i).held)) (shift i))

-- the receive window of y is what v, with the same buffer, told
pub width_told : (v y : View) (room : ℕ) → length v.rx_buffer.held ≡ room → room ≤ 2 ^ 30 → y.rx_buffer ≡ v.rx_buffer → y.remote_seq_no ≡ v.remote_seq_no → y.remote_win_shift ≡ v.remote_win_shift → y.remote_last_ack ≡ Some (next_ack v) → y.remote_last_win ≡ space_field v → seq_sub (receive_window y).end (receive_window y).start ≡ window_told v
width_told v y room wide narrow rx rcv shift ack win =
    told_window y room (ap (λ (b : Received). length b.held) rx ∙ wide) narrow (ack ∙ (λ i. Some (seq_add (sym rcv i) (length ((sym rx i).bytes))))) (win ∙ (λ i. min (wide i / 2 ^ sym shift i) 65535))
    ∙ (λ i. unit (sym wide i) (shift i))

-- ---- the receive window of a socket that told nothing

edge_of : Option TcpSeqNumber → TcpSeqNumber → Received → ℕ → ℕ → TcpSeqNumber
edge_of None rcv rx win shift = seq_add rcv (length rx.bytes)
edge_of (Some a) rcv rx win shift = kept_between (seq_add rcv (length rx.bytes)) (seq_add (seq_add rcv (length rx.bytes)) (length rx.held)) (seq_add a (win * 2 ^ shift))

edge_is : (v : View) (o : Option TcpSeqNumber) → window_end v o ≡ edge_of o v.remote_seq_no v.rx_buffer v.remote_last_win v.remote_win_shift
unfolding edge_of
edge_is v None = refl
edge_is v (Some a) = refl

pub same_width : (v y : View) → y.rx_buffer ≡ v.rx_buffer → y.remote_seq_no ≡ v.remote_seq_no → y.remote_win_shift ≡ v.remote_win_shift → y.remote_last_ack ≡ v.remote_last_ack → y.remote_last_win ≡ v.remote_last_win → seq_sub (receive_window y).end (receive_window y).start ≡ seq_sub (receive_window v).end (receive_window v).start
unfolding receive_window
same_width v y rx rcv shift ack win =
    ap (λ e. seq_sub e (next_ack y)) (edge_is y y.remote_last_ack)
    ∙ (λ i. seq_sub (edge_of (ack i) (rcv i) (rx i) (win i) (shift i)) (seq_add (rcv i) (length ((rx i).bytes))))
    ∙ ap (λ e. seq_sub e (next_ack v)) (sym (edge_is v v.remote_last_ack))
