-- A payload keeps to the peer's window and to the controller's.
use Rattle.std.proofs.Common.{◌≡◌, ℕ, ◌+◌, ◌-◌, ◌<◌, ◌≤◌, ◌⊎◌, inl, inr, List, Bool, true, false, Option, Some, None, refl, sym, ◌∙◌, ap, subst, length, max, min, nat_lt, arith}
use Rattle.std.specs.Prelude.{option_map, if◌then◌else◌}
use Rattle.std.proofs.lemmas.Option.{none-some, same_Some}
use Rattle.sock_core.specs.Facts.{Facts}
use Rattle.sock_tcp.proofs.Lending.{lent_at_most}
use Rattle.std.proofs.lemmas.Bool.{ltb-true}
use Rattle.sock_tcp.specs.declared.rules.Rules.TheVariants as rules
use Rattle.sock_tcp.specs.declared.scoreboard.Hole.{Hole}
use Rattle.sock_tcp.specs.Rfc.Scoreboard.{begins_in, hole_size, hole_start}
use Rattle.sock_tcp.specs.Queue.{IsLent}
use Rattle.sock_tcp.specs.declared.state.State.{State}
use Rattle.sock_tcp.specs.declared.state.State.TheVariants as state
use Rattle.sock_tcp.specs.declared.emission.Kind.{Kind}
use Rattle.sock_tcp.specs.declared.emission.Kind.TheVariants as kind
use Rattle.sock_tcp.specs.declared.tuple.Tuple.{Tuple}
use Rattle.sock_tcp.specs.View.{View, moment_of}
use Rattle.control_wire.specs.Segment.{Segment}
use Rattle.sock_tcp.specs.Due.{flight, congestion_left, effective_mss}
use Rattle.sock_tcp.specs.Content.{carries_data, Sending, is_probing, window_left, size_of, offset_of, asked, filled, emission_kind, of_kind, plain_segment, sent_as, content, resent_size, hole_by, hole_of, hole_within, next_hole, resent_within}
use Rattle.tcp_laws.specs.Polling.{PayloadKeepsToWindows, RetransmissionKeepsToWindow}

neither : (p q : Bool) (k m w c : ℕ) → p ≡ false → q ≡ false → (if p then k else (if q then min 1 m else min (min w m) c)) ≤ min w c
neither true q k m w c e d = absurd cc
neither false true k m w c e d = absurd cc
neither false false k m w c e d = omega arith

or_none : (b : Bool) (n k : ℕ) → n ≤ k → (if b then n else 0) ≤ k
or_none true n k h = h
or_none false n k h = omega arith

-- what is asked for where nothing is sent again, nor probed
asked_at_most : (v : View) (t : Tuple) (f : Facts) → v.pending_fast_retransmit ≡ false → is_probing v (moment_of f) ≡ false → asked v t f ≤ min (window_left v) (congestion_left v)
unfolding asked
asked_at_most v t f e p = or_none (carries_data v.state) (size_of v t f) (min (window_left v) (congestion_left v)) (neither v.pending_fast_retransmit (is_probing v (moment_of f)) (resent_size v (effective_mss v t f)) (effective_mss v t f) (window_left v) (congestion_left v) e p)

abbrev pub len_in : Option Segment → ℕ
len_in None = 0
len_in (Some u) = length u.payload

-- the payload is what the ring lent, or nothing
pub payload_of : (st : State) (v : View) (t : Tuple) (f : Facts) (bytes : List ℕ) (s : Segment) → length s.payload ≡ 0 → len_in (filled st v t f bytes s) ≤ length bytes
payload_of state.Closed v t f bytes s z = omega (arith, z)
payload_of state.SynSent v t f bytes s z = omega (arith, z)
payload_of state.SynReceived v t f bytes s z = omega (arith, z)
payload_of state.FinWait2 v t f bytes s z = omega (arith, z)
payload_of state.TimeWait v t f bytes s z = omega (arith, z)
payload_of _ v t f bytes s z = omega arith

pub plain_is_empty_segment : (v : View) (t : Tuple) (stamp : Option ℕ) → length (plain_segment v t stamp).payload ≡ 0
unfolding plain_segment
plain_is_empty_segment v t stamp = refl

no_probe : (b : Bool) (k : Kind) → (if b then kind.Probe else k) ≡ kind.Plain → b ≡ false
no_probe true k e = absurd cc
no_probe false k e = refl

of_filled : (o : Option Segment) (v : View) (t : Tuple) (f : Facts) (bytes : List ℕ) (s : Sending) → len_in o ≤ length bytes → IsLent v.tx_buffer (offset_of v) (asked v t f) bytes → option_map (λ s. sent_as v t (emission_kind v (moment_of f) s) s) o ≡ Some s → s.kind ≡ kind.Plain → v.pending_fast_retransmit ≡ false → 0 < length s.segment.payload → (flight v + length s.segment.payload ≤ v.remote_win_len) × (length s.segment.payload ≤ congestion_left v)
of_filled None v t f bytes s h lent e k fast some = absurd (none-some s e)
of_filled (Some u) v t f bytes s h lent e k fast some =
    let q : sent_as v t (emission_kind v (moment_of f) u) u ≡ s = same_Some (sent_as v t (emission_kind v (moment_of f) u) u) s e in
    let j : emission_kind v (moment_of f) u ≡ kind.Plain = ap (λ (x : Sending). x.kind) q ∙ k in
    let p : is_probing v (moment_of f) ≡ false = no_probe (is_probing v (moment_of f)) _ j in
    let m : length (of_kind (emission_kind v (moment_of f) u) v u).payload ≡ length u.payload = ap (λ (k : Kind). length (of_kind k v u).payload) j in
    let l : length s.segment.payload ≡ length u.payload = ap (λ (x : Sending). length x.segment.payload) (sym q) ∙ m in
    let a : asked v t f ≤ min (window_left v) (congestion_left v) = asked_at_most v t f fast p in
    let b : length bytes ≤ asked v t f = omega (arith, lent_at_most v.tx_buffer (offset_of v) (asked v t f) bytes lent) in
    let n : length s.segment.payload ≤ min (window_left v) (congestion_left v) = omega (arith, l, h, a, b) in
    (omega (arith, n, some), omega (arith, n))

pub payload_keeps_to_windows : PayloadKeepsToWindows
unfolding content
payload_keeps_to_windows v t f stamp bytes s lent e k fast some =
    of_filled (filled v.state v t f bytes (plain_segment v t stamp)) v t f bytes s (payload_of v.state v t f bytes (plain_segment v t stamp) (plain_is_empty_segment v t stamp)) lent e k fast some

-- ---- by the RFCs' rules, a fast retransmission, too

hole_starts : (h : Option Hole) (window n : ℕ) → (hole_start (hole_within h window) n ≡ 0) ⊎ (hole_start (hole_within h window) n < window)
hole_starts None window n = inl refl
hole_starts (Some h) window n = by (nat_lt h.start window) refl
  where
    within : h.start < window → (b : Bool) → ((if b then h.start else 0) ≡ 0) ⊎ ((if b then h.start else 0) < window)
    within less true = inr less
    within less false = inl refl

    by : (b : Bool) → nat_lt h.start window ≡ b → (hole_start (if b then Some h else None) n ≡ 0) ⊎ (hole_start (if b then Some h else None) n < window)
    by true e = within (ltb-true h.start window e) (begins_in h n)
    by false e = inl refl

-- what is asked for ends within the window, or is one byte
again_within : (v : View) (mss : ℕ) → v.rules ≡ rules.Rfc → hole_start (hole_of v) (length v.tx_buffer.bytes) + resent_size v mss ≤ max 1 v.remote_win_len
again_within v mss ruled = subst (λ r. hole_start (hole_by r v.recovery v.sacked v.local_seq_no v.remote_win_len) (length v.tx_buffer.bytes) + resent_within r v.remote_win_len (hole_start (hole_by r v.recovery v.sacked v.local_seq_no v.remote_win_len) (length v.tx_buffer.bytes)) (hole_size (hole_by r v.recovery v.sacked v.local_seq_no v.remote_win_len) (length v.tx_buffer.bytes) mss) ≤ max 1 v.remote_win_len) (sym ruled) (sums (hole_starts (next_hole v.recovery v.sacked v.local_seq_no) v.remote_win_len (length v.tx_buffer.bytes)))
  where
    start : ℕ
    start = hole_start (hole_within (next_hole v.recovery v.sacked v.local_seq_no) v.remote_win_len) (length v.tx_buffer.bytes)

    size : ℕ
    size = hole_size (hole_within (next_hole v.recovery v.sacked v.local_seq_no) v.remote_win_len) (length v.tx_buffer.bytes) mss

    sums : (start ≡ 0) ⊎ (start < v.remote_win_len) → start + min size (max 1 (v.remote_win_len - start)) ≤ max 1 v.remote_win_len
    sums (inl z) = omega (arith, z)
    sums (inr l) = omega (arith, l)

of_again : (o : Option Segment) (v : View) (t : Tuple) (f : Facts) (bytes : List ℕ) (s : Sending) → len_in o ≤ length bytes → IsLent v.tx_buffer (offset_of v) (asked v t f) bytes → option_map (λ s. sent_as v t (emission_kind v (moment_of f) s) s) o ≡ Some s → s.kind ≡ kind.Plain → asked v t f ≤ resent_size v (effective_mss v t f) → v.rules ≡ rules.Rfc → hole_start (hole_of v) (length v.tx_buffer.bytes) + length s.segment.payload ≤ max 1 v.remote_win_len
of_again None v t f bytes s h lent e k few ruled = absurd (none-some s e)
of_again (Some u) v t f bytes s h lent e k few ruled =
    let q : sent_as v t (emission_kind v (moment_of f) u) u ≡ s = same_Some (sent_as v t (emission_kind v (moment_of f) u) u) s e in
    let j : emission_kind v (moment_of f) u ≡ kind.Plain = ap (λ (x : Sending). x.kind) q ∙ k in
    let m : length (of_kind (emission_kind v (moment_of f) u) v u).payload ≡ length u.payload = ap (λ (k : Kind). length (of_kind k v u).payload) j in
    let l : length s.segment.payload ≡ length u.payload = ap (λ (x : Sending). length x.segment.payload) (sym q) ∙ m in
    let b : length bytes ≤ asked v t f = omega (arith, lent_at_most v.tx_buffer (offset_of v) (asked v t f) bytes lent) in
    let w = again_within v (effective_mss v t f) ruled in
    omega (arith, l, h, b, few, w)

pub retransmission_keeps_to_window : RetransmissionKeepsToWindow
unfolding content asked
retransmission_keeps_to_window v t f stamp bytes s ruled lent e k some = by v.pending_fast_retransmit refl
  where
    fits : len_in (filled v.state v t f bytes (plain_segment v t stamp)) ≤ length bytes
    fits = payload_of v.state v t f bytes (plain_segment v t stamp) (plain_is_empty_segment v t stamp)

    by : (b : Bool) → v.pending_fast_retransmit ≡ b → offset_of v + length s.segment.payload ≤ max 1 v.remote_win_len
    by false m =
        let w : flight v + length s.segment.payload ≤ v.remote_win_len = (payload_keeps_to_windows v t f stamp bytes s lent e k m some).0 in
        let at : offset_of v ≡ flight v = rw m refl in
        omega (arith, w, at)
    by true m =
        let at : offset_of v ≡ hole_start (hole_of v) (length v.tx_buffer.bytes) = rw m refl in
        let size : size_of v t f ≡ resent_size v (effective_mss v t f) = rw m refl in
        let few : asked v t f ≤ resent_size v (effective_mss v t f) = omega (arith, or_none (carries_data v.state) (size_of v t f) (size_of v t f) (omega arith), size) in
        let w : hole_start (hole_of v) (length v.tx_buffer.bytes) + length s.segment.payload ≤ max 1 v.remote_win_len = of_again (filled v.state v t f bytes (plain_segment v t stamp)) v t f bytes s fits lent e k few ruled in
        omega (arith, w, at)
