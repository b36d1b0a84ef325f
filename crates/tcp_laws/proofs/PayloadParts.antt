-- The payload of a segment stands at its number.
use Rattle.std.proofs.Common.{◌≡◌, ℕ, ◌+◌, ◌-◌, ◌<◌, ◌≤◌, ◌%◌, ◌^◌, ◌⊎◌, inl, inr, List, [], Bool, true, false, Option, Some, None, refl, sym, subst, ◌∙◌, ap, drop, take, length, min, arith}
use Rattle.std.specs.Prelude.{option_map, if◌then◌else◌}
use Rattle.std.proofs.lemmas.List.{drop-drop}
use Rattle.std.proofs.lemmas.Option.{none-some, same_Some}
use Rattle.control_wire.specs.Segment.{Segment}
use Rattle.control_wire.specs.Seq.{seq_sub}
use Rattle.control_wire.specs.declared.seq_number.TcpSeqNumber.{TcpSeqNumber}
use Rattle.sock_core.specs.Facts.{Facts}
use Rattle.sock_tcp.proofs.Holes.{number_at, start_within}
use Rattle.sock_tcp.proofs.Lending.{lent_beginning}
use Rattle.sock_tcp.specs.Content.{Sending, asked, hole_of, number_of, offset_of, filled, emission_kind, of_kind, plain_segment, sent_as, content}
use Rattle.sock_tcp.specs.Due.{flight}
use Rattle.sock_tcp.specs.Queue.{Queue, IsLent}
use Rattle.sock_tcp.specs.Rfc.Scoreboard.{hole_number, hole_start}
use Rattle.tcp_laws.specs.SocketRun.{Counts, IsPart, SendsTo}
use Rattle.sock_tcp.specs.View.{View, moment_of}
use Rattle.sock_tcp.specs.declared.emission.Kind.{Kind}
use Rattle.sock_tcp.specs.declared.emission.Kind.TheVariants as kind
use Rattle.sock_tcp.specs.declared.state.State.{State}
use Rattle.sock_tcp.specs.declared.state.State.TheVariants as state
use Rattle.sock_tcp.specs.declared.tuple.Tuple.{Tuple}
use Rattle.tcp_laws.proofs.DispatchFrames.{Keeps}

-- no payload, or these bytes at that number
abbrev IsData : View → List ℕ → Segment → Type 0
IsData v bytes u = (u.payload ≡ []) ⊎ ((u.payload ≡ bytes) × (u.seq_number ≡ number_of v))

abbrev DataIn : View → List ℕ → Option Segment → Type 0
DataIn v bytes None = Unit {0}
DataIn v bytes (Some u) = IsData v bytes u

filled_is : (st : State) (v : View) (t : Tuple) (f : Facts) (bytes : List ℕ) (s : Segment) → s.payload ≡ [] → DataIn v bytes (filled st v t f bytes s)
filled_is state.Closed v t f bytes s z = inl z
filled_is state.Listen v t f bytes s z = tt
filled_is state.SynSent v t f bytes s z = inl z
filled_is state.SynReceived v t f bytes s z = inl z
filled_is state.FinWait2 v t f bytes s z = inl z
filled_is state.TimeWait v t f bytes s z = inl z
filled_is _ v t f bytes s z = inr (refl, refl)

as_it_is : (k : Kind) (v : View) (u : Segment) → (k ≡ kind.KeepAlive → ⊥) → of_kind k v u ≡ u
as_it_is kind.KeepAlive v u n = absurd (n refl)
as_it_is kind.Plain v u n = refl
as_it_is kind.Probe v u n = refl

sent_is : (o : Option Segment) (v : View) (t : Tuple) (f : Facts) (bytes : List ℕ) (out : Sending) → DataIn v bytes o → option_map (λ s. sent_as v t (emission_kind v (moment_of f) s) s) o ≡ Some out → (out.kind ≡ kind.KeepAlive → ⊥) → IsData v bytes out.segment
sent_is None v t f bytes out d e n = absurd (none-some out e)
sent_is (Some u) v t f bytes out d e n =
    let q : sent_as v t (emission_kind v (moment_of f) u) u ≡ out = same_Some (sent_as v t (emission_kind v (moment_of f) u) u) out e in
    let m : out.segment ≡ of_kind (emission_kind v (moment_of f) u) v u = ap (λ (x : Sending). x.segment) (sym q) in
    let a : of_kind (emission_kind v (moment_of f) u) v u ≡ u = as_it_is (emission_kind v (moment_of f) u) v u (λ h. n (ap (λ (x : Sending). x.kind) (sym q) ∙ h)) in
    subst (IsData v bytes) (sym (m ∙ a)) d

content_is : (v : View) (t : Tuple) (f : Facts) (stamp : Option ℕ) (bytes : List ℕ) (out : Sending) → content v t f stamp bytes ≡ Some out → (out.kind ≡ kind.KeepAlive → ⊥) → IsData v bytes out.segment
unfolding content plain_segment
content_is v t f stamp bytes out e n = sent_is (filled v.state v t f bytes (plain_segment v t stamp)) v t f bytes out (filled_is v.state v t f bytes (plain_segment v t stamp) refl) e n

-- where the payload begins in the transmit queue, from its number
offset_is : (u : View) (una : TcpSeqNumber) → u.local_seq_no ≡ una → una.0 < 2 ^ 32 → offset_of u ≡ seq_sub (number_of u) una
offset_is u una e small = go u.pending_fast_retransmit
  where
    n : ℕ
    n = length u.tx_buffer.bytes

    same : u.local_seq_no.0 ≡ una.0
    same = ap (λ (x : TcpSeqNumber). x.0) e

    go : (b : Bool) → (if b then hole_start (hole_of u) n else flight u) ≡ seq_sub (if b then hole_number (hole_of u) n u.local_seq_no else u.remote_last_seq) una
    go true =
        let at : (hole_number (hole_of u) n u.local_seq_no).0 ≡ (u.local_seq_no.0 + hole_start (hole_of u) n) % 2 ^ 32 = number_at (hole_of u) n u.local_seq_no (omega (arith, same, small)) in
        let within : hole_start (hole_of u) n ≤ min (n - 1) (2 ^ 30) = start_within (hole_of u) n in
        omega (arith, same, small, at, within)
    go false = ap (seq_sub u.remote_last_seq) e

part_is : (k : Counts) (v u : View) (n : ℕ) (bytes : List ℕ) (s : Segment) → v.tx_buffer.bytes ≡ drop k.released k.sent → Keeps v u → v.local_seq_no.0 < 2 ^ 32 → IsLent u.tx_buffer (offset_of u) n bytes → IsData u bytes s → IsPart k (seq_sub s.seq_number v.local_seq_no) s.payload
part_is k v u n bytes s e same small lent (inl d) = subst (λ p. p ≡ take (length p) (drop (k.released + seq_sub s.seq_number v.local_seq_no) k.sent)) (sym d) refl
part_is k v u n bytes s e same small lent (inr d) =
    let tx : u.tx_buffer.bytes ≡ drop k.released k.sent = ap (λ (q : Queue). q.bytes) same.tx ∙ e in
    let off : offset_of u ≡ seq_sub s.seq_number v.local_seq_no = offset_is u v.local_seq_no same.una small ∙ ap (λ x. seq_sub x v.local_seq_no) (sym d.1) in
    let all : drop (offset_of u) u.tx_buffer.bytes ≡ drop (k.released + offset_of u) k.sent = ap (drop (offset_of u)) tx ∙ drop-drop (offset_of u) k.released k.sent in
    let rest : drop (offset_of u) u.tx_buffer.bytes ≡ drop (k.released + seq_sub s.seq_number v.local_seq_no) k.sent = all ∙ ap (λ i. drop (k.released + i) k.sent) off in
    subst (λ p. p ≡ take (length p) (drop (k.released + seq_sub s.seq_number v.local_seq_no) k.sent)) (sym d.0) (lent_beginning u.tx_buffer (offset_of u) n bytes lent ∙ ap (take (length bytes)) rest)

-- u is the socket before the emit
pub sends_part : (o : Option Tuple) (f : Facts) (k : Counts) (v u w : View) (out : Sending) → v.tx_buffer.bytes ≡ drop k.released k.sent → Keeps v u → v.local_seq_no.0 < 2 ^ 32 → SendsTo o f u (Some out) w → (out.kind ≡ kind.KeepAlive → ⊥) → IsPart k (seq_sub out.segment.seq_number v.local_seq_no) out.segment.payload
sends_part None f k v u w out e same small h n = absurd (none-some out (sym h.0))
sends_part (Some t) f k v u w out e same small h n = part_is k v u (asked u t f) h.bytes out.segment e same small h.lent (content_is u t f h.stamp h.bytes out (sym h.sends) n)
