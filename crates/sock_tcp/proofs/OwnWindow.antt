-- What a window field tells.
use Rattle.std.proofs.Common.{◌≡◌, ℕ, ◌+◌, ◌-◌, ◌*◌, ◌/◌, ◌^◌, ◌<◌, ◌≤◌, Bool, true, false, refl, sym, ap, ◌∙◌, length, min, Option, Some, None, arith, div-mul-le_self, mul-le-mul_right}
use Rattle.std.specs.Prelude.{if◌then◌else◌, nat_le}
use Rattle.std.proofs.Math.Nat.{lt-div-mul-add}
use Rattle.std.proofs.lemmas.Bool.{leb-true, leb-false}
use Rattle.std.proofs.lemmas.Nat.{pow_pos}
use Rattle.control_wire.specs.Seq.{seq_add, seq_sub}
use Rattle.control_wire.specs.declared.seq_number.TcpSeqNumber.{TcpSeqNumber}
use Rattle.sock_core.specs.Received.{Received, room_of}
use Rattle.sock_tcp.specs.Due.{window_field}
use Rattle.sock_tcp.specs.Rfc.OwnWindow.{field_by, field_up, is_grown, kept_field, may_grow, space_field, told_left}
use Rattle.sock_tcp.specs.View.{View}
use Rattle.sock_tcp.specs.Window.{kept_between, next_ack, receive_window, window_end}
use Rattle.sock_tcp.specs.declared.rules.Rules.{Rules}
use Rattle.sock_tcp.specs.declared.rules.Rules.TheVariants as rules
use Rattle.sock_tcp.proofs.Windows.{is_not_before}

-- ---- it depends on these fields alone

edge_of : Option TcpSeqNumber → TcpSeqNumber → Received → ℕ → ℕ → TcpSeqNumber
edge_of None rcv rx win shift = seq_add rcv (length rx.bytes)
edge_of (Some ack) rcv rx win shift = kept_between (seq_add rcv (length rx.bytes)) (seq_add (seq_add rcv (length rx.bytes)) (length rx.held)) (seq_add ack (win * 2 ^ shift))

edge_is : (v : View) (o : Option TcpSeqNumber) → window_end v o ≡ edge_of o v.remote_seq_no v.rx_buffer v.remote_last_win v.remote_win_shift
unfolding edge_of
edge_is v None = refl
edge_is v (Some a) = refl

field_for : Rules → ℕ → ℕ → ℕ → ℕ → ℕ → ℕ
field_for rules.Smoltcp held least left shift space = space
field_for rules.Rfc held least left shift space = if nat_le least (held - left) then space else min (field_up left shift) space

pub field_of : Rules → Received → TcpSeqNumber → Option TcpSeqNumber → ℕ → ℕ → ℕ → ℕ
field_of r rx rcv ack win shift mss = field_for r (length rx.held) (min (room_of rx / 2) mss) (seq_sub (edge_of ack rcv rx win shift) (seq_add rcv (length rx.bytes))) shift (min (length rx.held / 2 ^ shift) 65535)

pub field_is : (v : View) → window_field v ≡ field_of v.rules v.rx_buffer v.remote_seq_no v.remote_last_ack v.remote_last_win v.remote_win_shift v.remote_mss
unfolding is_grown receive_window field_of field_for
field_is v = go v.rules
  where
    go : (r : Rules) → field_by r v ≡ field_for r (length v.rx_buffer.held) (min (room_of v.rx_buffer / 2) v.remote_mss) (seq_sub (edge_of v.remote_last_ack v.remote_seq_no v.rx_buffer v.remote_last_win v.remote_win_shift) (next_ack v)) v.remote_win_shift (space_field v)
    go rules.Smoltcp = refl
    go rules.Rfc = (λ i. if nat_le (min (room_of v.rx_buffer / 2) v.remote_mss) (length v.rx_buffer.held - seq_sub (edge_is v v.remote_last_ack i) (next_ack v)) then space_field v else min (field_up (seq_sub (edge_is v v.remote_last_ack i) (next_ack v)) v.remote_win_shift) (space_field v))

-- ---- what it tells

-- a window field tells at most the free space
pub field_within : (v : View) → window_field v ≤ space_field v
field_within v = go v.rules
  where
    by : (grown : Bool) → (if grown then space_field v else kept_field v) ≤ space_field v
    by true = omega arith
    by false = omega arith

    go : (r : Rules) → field_by r v ≤ space_field v
    go rules.Smoltcp = omega arith
    go rules.Rfc = by (is_grown v)

pub told_within : (v : View) → window_field v * 2 ^ v.remote_win_shift ≤ length v.rx_buffer.held
told_within v =
    let a = mul-le-mul_right (2 ^ v.remote_win_shift) (field_within v) in
    let b = mul-le-mul_right {m = space_field v} {n = length v.rx_buffer.held / 2 ^ v.remote_win_shift} (2 ^ v.remote_win_shift) (omega arith) in
    let c = div-mul-le_self (length v.rx_buffer.held) (2 ^ v.remote_win_shift) in
    omega (arith, a, b, c)

-- the least field that tells n bytes tells them
pub up_covers : (n shift : ℕ) → n ≤ field_up n shift * 2 ^ shift
up_covers n shift = let h = lt-div-mul-add {a = n + (2 ^ shift - 1)} (pow_pos shift) in omega (arith, h, pow_pos shift)

-- the edge that was told with the acknowledgement at the left edge
pub told_edge : (start : TcpSeqNumber) (room n : ℕ) → start.0 < 2 ^ 32 → n ≤ room → room ≤ 2 ^ 30 → seq_sub (kept_between start (seq_add start room) (seq_add start n)) start ≡ n
told_edge start room n small fits narrow = rw (is_not_before (seq_add start n) start (omega (arith, small, fits, narrow)), is_not_before (seq_add start room) (seq_add start n) (omega (arith, small, fits, narrow))) (omega (arith, small, fits, narrow))

-- w told the field that u had
module _ (u w : View) (rx : w.rx_buffer ≡ u.rx_buffer) (shift : w.remote_win_shift ≡ u.remote_win_shift) (mss : w.remote_mss ≡ u.remote_mss) (ack : w.remote_last_ack ≡ Some (next_ack w)) (win : w.remote_last_win ≡ window_field u) (room : length u.rx_buffer.held ≤ 2 ^ 30) where
  told_now : told_left w ≡ window_field u * 2 ^ u.remote_win_shift
  unfolding receive_window
  told_now =
      ap (λ o. seq_sub (window_end w o) (next_ack w)) ack
      ∙ (λ i. seq_sub (kept_between (next_ack w) (seq_add (next_ack w) (length ((rx i).held))) (seq_add (next_ack w) (win i * 2 ^ shift i))) (next_ack w))
      ∙ told_edge (next_ack w) (length u.rx_buffer.held) (window_field u * 2 ^ u.remote_win_shift) (omega arith) (told_within u) room

  same_space : space_field w ≡ space_field u
  same_space = λ i. min (length ((rx i).held) / 2 ^ shift i) 65535

  same_held : length w.rx_buffer.held ≡ length u.rx_buffer.held
  same_held = λ i. length ((rx i).held)

  abbrev least : View → ℕ
  least v = min (room_of v.rx_buffer / 2) v.remote_mss

  same_least : least w ≡ least u
  same_least = λ i. min (room_of (rx i) / 2) (mss i)

  -- where the edge was kept, it is kept on
  keeps_on : is_grown u ≡ false → is_grown w ≡ true → window_field u ≡ field_up (told_left u) u.remote_win_shift → ⊥
  unfolding is_grown
  keeps_on no_growth growth is =
      let told : told_left w ≡ field_up (told_left u) u.remote_win_shift * 2 ^ u.remote_win_shift = told_now ∙ ap (λ n. n * 2 ^ u.remote_win_shift) is in
      let covered = up_covers (told_left u) u.remote_win_shift in
      let less = leb-false (least u) (length u.rx_buffer.held - told_left u) no_growth in
      let more = leb-true (least w) (length w.rx_buffer.held - told_left w) growth in
      omega (arith, told, covered, less, more, same_held, same_least)

  -- where it may grow, it tells no more
  pub no_larger : (r : Rules) → window_field u ≡ field_by r u → may_grow r w ≡ true → space_field w ≤ window_field u
  no_larger rules.Smoltcp is growth = omega (arith, is, same_space)
  no_larger rules.Rfc is growth = by (is_grown u) refl is
    where
      by : (grown : Bool) → is_grown u ≡ grown → window_field u ≡ (if grown then space_field u else kept_field u) → space_field w ≤ window_field u
      by true g e = omega (arith, same_space, e)
      by false g e = kept (nat_le (space_field u) (field_up (told_left u) u.remote_win_shift)) refl
        where
          kept : (b : Bool) → nat_le (space_field u) (field_up (told_left u) u.remote_win_shift) ≡ b → space_field w ≤ window_field u
          kept true h = let n = leb-true (space_field u) (field_up (told_left u) u.remote_win_shift) h in omega (arith, same_space, e, n)
          kept false h =
              let n = leb-false (space_field u) (field_up (told_left u) u.remote_win_shift) h in
              let is_up : window_field u ≡ field_up (told_left u) u.remote_win_shift = omega (arith, e, n) in
              absurd (keeps_on g growth is_up)
