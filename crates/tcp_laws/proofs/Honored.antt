-- The free space's right edge only moves on, and no window that was told reaches beyond it.
use Rattle.std.proofs.Common.{◌≡◌, ℕ, ◌+◌, ◌-◌, ◌*◌, ◌/◌, ◌<◌, ◌≤◌, ◌^◌, inl, inr, Bool, true, false, ◌&&◌, ◌++◌, refl, sym, ap, subst, ◌∙◌, List, length, replicate, Option, Some, None, Result, Ok, Err, is_ok, arith, length-append, div-mul-le_self, mul-le-mul_right, length-drop}
use Rattle.std.specs.Prelude.{if◌then◌else◌, ◌||◌}
use Rattle.std.proofs.lemmas.Bool.{eq-eqb}
use Rattle.std.proofs.lemmas.List.{length-replicate}
use Rattle.control_wire.specs.Seq.{seq_add, seq_eq, seq_sub}
use Rattle.control_wire.specs.Segment.{Segment}
use Rattle.control_wire.specs.declared.seq_number.TcpSeqNumber.{TcpSeqNumber}
use Rattle.sock_core.specs.Received.{Received, handed_out, room_of}
use Rattle.sock_core.specs.Seq.{is_before, is_not_after}
use Rattle.sock_tcp.proofs.Lending.{first_within}
use Rattle.sock_tcp.proofs.Windows.{accepted_end_small, accepted_start, accepted_start_small, not_far, window_width}
use Rattle.sock_tcp.specs.Opening.{endpoints}
use Rattle.sock_tcp.specs.Queues.{ReadsWithIf, fitting, may_recv, may_send, read_off, readable}
use Rattle.sock_tcp.specs.Content.{aside_field}
use Rattle.sock_tcp.specs.Rfc.OwnWindow.{field_by, is_grown, kept_field, space_field}
use Rattle.sock_tcp.specs.View.{View}
use Rattle.sock_tcp.specs.Window.{accepted_window, honored_window, next_ack, space_end, starts_inside}
use Rattle.sock_tcp.specs.declared.error.RecvError.{RecvError}
use Rattle.sock_tcp.specs.declared.rules.Rules.{Rules}
use Rattle.sock_tcp.specs.declared.rules.Rules.TheVariants as rules
use Rattle.sock_tcp.specs.declared.window.Window.{Window}
use Rattle.tcp_laws.proofs.BytesAtPlaces.{closure_rx, dispatch_rx, listen_stays, no_start, queued_rx, refused}
use Rattle.tcp_laws.proofs.Receiving.{only_appends}
use Rattle.tcp_laws.proofs.SocketSteps.{Holds, holds_after, mtu_rx, same_number, setting_leaves, step_keeps}
use Rattle.tcp_laws.specs.Honored.{GoesOn, HasTold, Lasts, Stands, ToldWindowsAreHonored, width}
use Rattle.tcp_laws.specs.Laws.{MayTake}
use Rattle.tcp_laws.specs.SocketBytes.{begins}
use Rattle.tcp_laws.specs.SocketRun.{Counts, Step, any_taking, handed_slice, is_reset, listens_again, opens_listener, taken_out, with_segment}
use Rattle.tcp_laws.specs.SocketRun.{Listen, Connect, SendSlice, Send, WriteStr, RecvSlice, Recv, Close, Abort, Set, SetPathMtu, Process, Dispatch}

-- ---- what a call does to the room of the receive buffer, and to how many bytes were handed out

record Moves (v : View) (k : Counts) (w : View) (j : Counts) : Type 0 where
  room : room_of w.rx_buffer ≡ room_of v.rx_buffer
  handed : length k.handed ≤ length j.handed

alike : (v w : View) (k j : Counts) → w.rx_buffer ≡ v.rx_buffer → j.handed ≡ k.handed → Moves v k w j
alike v w k j rx e = record { room = ap room_of rx; handed = omega (arith, ap length e) }

same_handed : (k j : Counts) → j ≡ k → j.handed ≡ k.handed
same_handed k j e = ap (λ (c : Counts). c.handed) e

reads_room : (b : Received) (n : ℕ) → n ≤ length b.bytes → room_of (handed_out b n) ≡ room_of b
unfolding handed_out
reads_room b n within = omega (arith, within, length-drop n b.bytes, length-append b.held (replicate n None), length-replicate {A = Option ℕ} n None)

read_room : (may : Bool) (v w : View) (n : ℕ) → n ≤ length v.rx_buffer.bytes → w ≡ (if may then read_off v n else v) → room_of w.rx_buffer ≡ room_of v.rx_buffer
unfolding read_off
read_room true v w n within e = ap (λ (x : View). room_of x.rx_buffer) e ∙ reads_room v.rx_buffer n within
read_room false v w n within e = ap (λ (x : View). room_of x.rx_buffer) e

closure_room : (may : Bool) (v w : View) (r : Result (Unit {0}) RecvError) → ReadsWithIf may any_taking v r w → room_of w.rx_buffer ≡ room_of v.rx_buffer
closure_room true v w (Ok x) h = read_room true v w h.size (omega (arith, h.size_within, first_within v.rx_buffer)) h.view
closure_room true v w (Err e) h = absurd h
closure_room false v w (Ok x) h = absurd h
closure_room false v w (Err e) h = ap (λ (x : View). room_of x.rx_buffer) h.1

more_handed : (k j : Counts) (bs : List ℕ) → j ≡ record k { handed = k.handed ++ bs } → length k.handed ≤ length j.handed
more_handed k j bs e = omega (arith, ap (λ (c : Counts). length c.handed) e, length-append k.handed bs)

segment_room : (r : Rules) (v w : View) (s : Segment) → MayTake r v s w → room_of w.rx_buffer ≡ room_of v.rx_buffer
segment_room r v w s (inl e) = ap room_of e
segment_room r v w s (inr t) = t.takes.room

step_moves : (v w : View) (k j : Counts) → Holds v k → (s : Step v k w j) → begins v k w j s ≡ false → Moves v k w j
step_moves v w k j c (Listen e r h is) b = record {
  room = same_number _ _ (λ n. listen_stays v w e r h b (λ i. n (ap (λ (x : View). room_of x.rx_buffer) i)));
  handed = omega (arith, ap length (same_handed k j (no_start (opens_listener v e) w k j b is)));
}
step_moves v w k j c (Connect f word remote local small h is) b = alike v w k j (ap (λ (x : View). x.rx_buffer) (refused (endpoints v f remote local) v w word b h)) (same_handed k j (no_start (is_ok (endpoints v f remote local)) w k j b is))
step_moves v w k j c (SendSlice bs r h is) b = alike v w k j (queued_rx (may_send v.state) v w (fitting v (length bs)) bs h.view) (ap (λ (c : Counts). c.handed) is)
step_moves v w k j c (Send r h is) b = alike v w k j (closure_rx (may_send v.state) v w r h) (ap (λ (c : Counts). c.handed) is)
step_moves v w k j c (WriteStr bs all h is) b = alike v w k j (queued_rx (may_send v.state) v w (fitting v (length bs)) bs h.view) (ap (λ (c : Counts). c.handed) is)
step_moves v w k j c (RecvSlice bs bs' r h is) b = record {
  room = read_room (may_recv v) v w (readable v (length bs)) (omega arith) h.view;
  handed = more_handed k j (handed_slice bs' r) is;
}
step_moves v w k j c (Recv r h is) b = record {
  room = closure_room (may_recv v) v w r h;
  handed = more_handed k j (taken_out (may_recv v) v r w h) is;
}
step_moves v w k j c (Close h is) b = alike v w k j (ap (λ (x : View). x.rx_buffer) h) (same_handed k j is)
step_moves v w k j c (Abort h is) b = alike v w k j (ap (λ (x : View). x.rx_buffer) h) (same_handed k j is)
step_moves v w k j c (Set h is) b = alike v w k j (setting_leaves (λ u. u.rx_buffer ≡ v.rx_buffer) v w (λ x. refl) (λ x. refl) (λ timeout delay nagle hops paused is_there rules estimator. refl) h) (same_handed k j is)
step_moves v w k j c (SetPathMtu now mtu h is) b = alike v w k j (ap (λ (x : View). x.rx_buffer) h ∙ mtu_rx v now mtu) (same_handed k j is)
step_moves v w k j c (Process r now word ip s small numbered short bare h is) b =
    let m : MayTake r v s w = subst (MayTake r v s) (sym h) (only_appends r v now word ip s c.room numbered.seq_number short) in
    record {
      room = segment_room r v w s m;
      handed = omega (arith, ap (λ (c : Counts). length c.handed) (no_start (listens_again v.state w.state) w (with_segment k v w) j b is));
    }
step_moves v w k j c (Dispatch f out h is) b = alike v w k j (dispatch_rx v w f out b h) (same_handed k j (no_start (is_reset v f) w k j b is))

-- ---- any list of them

record Moved (v : View) (k : Counts) (w : View) (j : Counts) : Type 0 where
  holds : Holds w j
  moves : Moves v k w j

all_move : (v w : View) (k j : Counts) → Holds v k → Lasts v k w j → Moved v k w j
all_move v w k j c (Stands _ _) = record { holds = c; moves = record { room = refl; handed = omega arith } }
all_move v w k j c (GoesOn _ u _ _ i _ s b rest) =
    let here = step_moves v u k i c s b in
    let last = all_move u w i j (step_keeps v u k i s c) rest in
    record { holds = last.holds; moves = record { room = last.moves.room ∙ here.room; handed = omega (arith, here.handed, last.moves.handed) } }

-- ---- the windows

-- the window that is honored is as wide as the free space
honored_is_space : (v : View) (ack : TcpSeqNumber) → length v.rx_buffer.held ≤ 2 ^ 30 → v.remote_last_ack ≡ Some ack → width (honored_window v) ≡ length v.rx_buffer.held
unfolding honored_window
honored_is_space v ack room told = ap (λ o. seq_sub (space_end v o) (next_ack v)) told ∙ omega (arith, room)

both : (a b : Bool) → a ≡ true → b ≡ true → (a && b) ≡ true
both a b x y = rw (x, y) refl

earlier : (x y : TcpSeqNumber) → 2 ^ 31 ≤ seq_sub x y → is_before x y ≡ true
earlier x y h = go (is_before x y) refl
  where
    go : (b : Bool) → is_before x y ≡ b → is_before x y ≡ true
    go false e = absurd (omega (arith, h, not_far x y e))
    go true e = e

-- a number n places behind the left edge, and before the right one
place_inside : (w : Window) (number : TcpSeqNumber) → w.start.0 < 2 ^ 32 → w.end.0 < 2 ^ 32 → number.0 < 2 ^ 32 → width w ≤ 2 ^ 30 → seq_sub number w.start < width w → starts_inside w number ≡ true
unfolding is_not_after
place_inside w number start end small narrow less = both (is_before w.start number || seq_eq w.start number) (is_before number w.end) (go (is_before w.start number) refl) (earlier number w.end (omega (arith, narrow, less, start, end, small)))
  where
    go : (b : Bool) → is_before w.start number ≡ b → (b || seq_eq w.start number) ≡ true
    go true e = refl
    go false e = let h = not_far w.start number e in eq-eqb w.start.0 number.0 (omega (arith, h, less, narrow, small, start))

-- no field of a segment tells more than the free space
field_within : (r : Rules) (v : View) → field_by r v * 2 ^ v.remote_win_shift ≤ length v.rx_buffer.held
field_within r v =
    let most = mul-le-mul_right {m = field_by r v} {n = length v.rx_buffer.held / 2 ^ v.remote_win_shift} (2 ^ v.remote_win_shift) (less r) in
    omega (arith, most, div-mul-le_self (length v.rx_buffer.held) (2 ^ v.remote_win_shift))
  where
    either : (b : Bool) → (if b then space_field v else kept_field v) ≤ length v.rx_buffer.held / 2 ^ v.remote_win_shift
    either true = omega arith
    either false = omega arith

    less : (r : Rules) → field_by r v ≤ length v.rx_buffer.held / 2 ^ v.remote_win_shift
    less rules.Smoltcp = omega arith
    less rules.Rfc = either (is_grown v)

aside_within : (r : Rules) (v : View) → aside_field r v (field_by r v) * 2 ^ v.remote_win_shift ≤ length v.rx_buffer.held
aside_within rules.Smoltcp v = field_within rules.Smoltcp v
aside_within rules.Rfc v =
    let most = mul-le-mul_right {m = kept_field v} {n = length v.rx_buffer.held / 2 ^ v.remote_win_shift} (2 ^ v.remote_win_shift) (omega arith) in
    omega (arith, most, div-mul-le_self (length v.rx_buffer.held) (2 ^ v.remote_win_shift))

told_within : (v : View) (n : ℕ) → length v.rx_buffer.held ≤ 2 ^ 30 → HasTold v n → n ≤ length v.rx_buffer.held
told_within v n room (inl e) = omega (arith, e, window_width v room)
told_within v n room (inr (inl e)) = omega (arith, e, field_within v.rules v)
told_within v n room (inr (inr (inl e))) = omega (arith, e, aside_within v.rules v)
told_within v n room (inr (inr (inr e))) = omega (arith, e)

pub told_windows_are_honored : ToldWindowsAreHonored
told_windows_are_honored rx tx v w k j n ack size run has lasts is told = record { reaches = reaches; inside = inside }
  where
    first : Holds v k
    first = holds_after rx tx v k size run

    moved : Moved v k w j
    moved = all_move v w k j first lasts

    room : length w.rx_buffer.held ≤ 2 ^ 30
    room = omega (arith, moved.holds.room)

    accepts : Window
    accepts = accepted_window w.rules w

    is_honored : accepts ≡ honored_window w
    is_honored = ap (λ r. accepted_window r w) is

    wide : width accepts ≡ length w.rx_buffer.held
    wide = ap width is_honored ∙ honored_is_space w ack room told

    own : n ≤ length v.rx_buffer.held
    own = told_within v n (omega (arith, first.room)) has

    reaches : length k.joined + n ≤ length j.joined + width accepts
    reaches =
        let before = ap length first.receive_queue ∙ length-append k.handed v.rx_buffer.bytes in
        let after = ap length moved.holds.receive_queue ∙ length-append j.handed w.rx_buffer.bytes in
        omega (arith, before, after, own, moved.moves.room, moved.moves.handed, wide)

    inside : (place : ℕ) → length j.joined ≤ place → place < length k.joined + n → starts_inside accepts (seq_add (next_ack w) (place - length j.joined)) ≡ true
    inside place from before =
        let behind : place - length j.joined < width accepts = omega (arith, from, before, reaches) in
        let start : accepts.start ≡ next_ack w = accepted_start w.rules w in
        let apart : seq_sub (seq_add (next_ack w) (place - length j.joined)) accepts.start ≡ place - length j.joined = ap (seq_sub (seq_add (next_ack w) (place - length j.joined))) start ∙ omega (arith, behind, wide, room) in
        place_inside accepts (seq_add (next_ack w) (place - length j.joined)) (accepted_start_small w.rules w) (accepted_end_small w.rules w) (omega arith) (omega (arith, wide, room)) (omega (arith, apart, behind))
