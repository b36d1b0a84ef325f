-- One call keeps what is promised of a socket.
use Rattle.std.proofs.Common.{◌≡◌, ℕ, zero, suc, ◌+◌, ◌-◌, ◌<◌, ◌≤◌, ◌^◌, inl, inr, Bool, true, false, not, eqb, ◌&&◌, refl, sym, ap, ap₂, subst, ◌∙◌, List, [], ◌∷◌, ◌++◌, length, take, drop, replicate, Option, Some, None, Result, Ok, Err, is_ok, true≢false, arith, length-append, length-drop, length-take}
use Rattle.std.specs.Prelude.{◌==◌, IfOk, if◌then◌else◌}
use Rattle.std.proofs.lemmas.Bool.{eqb-false, eqb-true}
use Rattle.std.proofs.lemmas.Option.{none-some}
use Rattle.std.proofs.lemmas.List.{append_assoc, append-nil, drop-append-le, drop-drop, length-replicate, take-append-drop, take-append-le, take-take}
use Rattle.std.proofs.Math.Seq.{drop-append_seam}
use Rattle.ip_wire.specs.declared.endpoint.IpListenEndpoint.{IpListenEndpoint}
use Rattle.ip_wire.specs.declared.repr.IpRepr.{IpRepr}
use Rattle.net_base.specs.Ring.{Ring}
use Rattle.net_base.specs.declared.time.Instant.{Instant}
use Rattle.net_base.specs.declared.time.Duration.{Duration}
use Rattle.control_wire.specs.Segment.{Segment}
use Rattle.control_wire.specs.Seq.{seq_sub}
use Rattle.control_wire.specs.declared.seq_number.TcpSeqNumber.{TcpSeqNumber}
use Rattle.sock_core.specs.Estimator.{Estimator, bounded_below}
use Rattle.sock_core.specs.Facts.{Facts}
use Rattle.sock_core.specs.Received.{Received, byte_at, cleared, handed_out, merged, receiving, room_of}
use Rattle.sock_tcp.proofs.Lending.{first_within}
use Rattle.sock_tcp.specs.Begin.{Begun, before_emit, peer_of}
use Rattle.sock_tcp.specs.Closing.{keep_alive_set}
use Rattle.sock_tcp.specs.Content.{Sending}
use Rattle.tcp_laws.specs.Laws.{MayTake}
use Rattle.sock_tcp.specs.Opening.{Listens, after_connect, connected, endpoints, is_listening, is_open, listened, renewed}
use Rattle.sock_tcp.specs.Process.{processed_by}
use Rattle.sock_tcp.specs.Queue.{Queue, queue_of}
use Rattle.sock_tcp.specs.Queues.{Reads, ReadsWithIf, Sends, SendsWithIf, fitting, may_recv, may_send, queued, read_off, readable, recv_refusal}
use Rattle.tcp_laws.specs.SocketRun.{Counts, Dispatched, IsNumbered, IsPart, Promised, Run, SendsTo, Sets, Step, accepted, any_filling, any_taking, filled_in, handed_slice, is_reset, listens_again, opens_listener, starting, starting_if, taken_out, with_handed, with_segment, with_sent}
use Rattle.tcp_laws.specs.SocketRun.{Listen, Connect, SendSlice, Send, WriteStr, RecvSlice, Recv, Close, Abort, Set, SetPathMtu, Process, Dispatch, SetCongestionControl, SetTimeout, SetAckDelay, SetNagle, SetKeepAlive, SetHopLimit, PauseSynAck, SetTsvalGenerator, SetRules, SetMinRto, Ends, Then}
use Rattle.sock_tcp.specs.Settings.{of_kind}
use Rattle.sock_tcp.specs.View.{View, fresh}
use Rattle.sock_tcp.specs.declared.emission.Kind.TheVariants as kind
use Rattle.sock_tcp.specs.declared.error.ConnectError.{ConnectError}
use Rattle.sock_tcp.specs.declared.error.ListenError.{ListenError}
use Rattle.sock_tcp.specs.declared.error.RecvError.{RecvError}
use Rattle.sock_tcp.specs.declared.error.SendError.{SendError}
use Rattle.sock_tcp.specs.declared.error.SendError.TheVariants as send_error
use Rattle.sock_tcp.specs.declared.settings.CongestionControl.{CongestionControl}
use Rattle.sock_tcp.specs.declared.rules.Rules.{Rules}
use Rattle.sock_tcp.specs.declared.state.State.TheVariants as state
use Rattle.sock_tcp.specs.declared.tuple.Tuple.{Tuple}
use Rattle.tcp_laws.proofs.DispatchFrames.{Keeps, before_keeps, before_resets, sends_keeps}
use Rattle.tcp_laws.proofs.Kept.{listening_is, not_zero}
use Rattle.tcp_laws.proofs.Narrowing.{narrowed_as}
use Rattle.sock_tcp.specs.PathMtu.{all_sent_again, path_mtu_set, shortened}
use Rattle.tcp_laws.proofs.PayloadParts.{sends_part}
use Rattle.tcp_laws.proofs.Receiving.{only_appends}
use Rattle.tcp_laws.proofs.Releasing.{Releases, process_releases}

-- what is kept of the two queues and of SND.UNA
pub record Core (rx : Received) (tx : List ℕ) (una : TcpSeqNumber) (k : Counts) : Type 0 where
  pub una_small : una.0 < 2 ^ 32
  pub room : room_of rx ≤ 2 ^ 30
  pub gapless : byte_at rx.held 0 ≡ None
  pub released : k.released ≤ length k.sent
  pub transmit_queue : tx ≡ drop k.released k.sent
  pub receive_queue : k.joined ≡ k.handed ++ rx.bytes

abbrev pub Holds : View → Counts → Type 0
Holds v k = Core v.rx_buffer v.tx_buffer.bytes v.local_seq_no k

-- ---- a connection that begins

pub starts : (v : View) → v.local_seq_no.0 < 2 ^ 32 → room_of v.rx_buffer ≤ 2 ^ 30 → byte_at v.rx_buffer.held 0 ≡ None → Holds v (starting v)
starts v small room gap = record { una_small = small; room = room; gapless = gap; released = omega arith; transmit_queue = refl; receive_queue = refl }

none_first : (n : ℕ) → byte_at (replicate n None) 0 ≡ None
none_first zero = refl
none_first (suc n) = refl

-- after a reset
renewed_starts : (v w : View) → w.local_seq_no.0 < 2 ^ 32 → room_of v.rx_buffer ≤ 2 ^ 30 → w.rx_buffer ≡ cleared v.rx_buffer → Holds w (starting w)
unfolding cleared
renewed_starts v w small room e =
    let long = length-replicate {A = Option ℕ} (room_of v.rx_buffer) None in
    let same : room_of w.rx_buffer ≡ 0 + length (replicate {A = Option ℕ} (room_of v.rx_buffer) None) = ap room_of e in
    starts w small (omega (arith, same, long, room)) (ap (λ (b : Received). byte_at b.held 0) e ∙ none_first (room_of v.rx_buffer))

-- ---- bytes that are sent or read

sends : (rx : Received) (tx bs : List ℕ) (una : TcpSeqNumber) (k : Counts) → Core rx tx una k → Core rx (tx ++ bs) una (with_sent k bs)
sends rx tx bs una k c = record {
  una_small = c.una_small;
  room = c.room;
  gapless = c.gapless;
  released = omega (arith, c.released, length-append k.sent bs);
  transmit_queue = ap (λ x. x ++ bs) c.transmit_queue ∙ sym (drop-append-le k.released k.sent bs c.released);
  receive_queue = c.receive_queue;
}

first_stays : (hs : List (Option ℕ)) (n : ℕ) → byte_at hs 0 ≡ None → byte_at (hs ++ replicate n None) 0 ≡ None
first_stays [] n e = none_first n
first_stays (h ∷ hs) n e = e

reads : (rx : Received) (tx bs : List ℕ) (una : TcpSeqNumber) (k : Counts) (n : ℕ) → Core rx tx una k → n ≤ length rx.bytes → bs ≡ take n rx.bytes → Core (handed_out rx n) tx una (with_handed k bs)
unfolding handed_out
reads rx tx bs una k n c within e =
    let long = length-replicate {A = Option ℕ} n None in
    record {
      una_small = c.una_small;
      room = omega (arith, c.room, within, long, length-drop n rx.bytes, length-append rx.held (replicate n None));
      gapless = first_stays rx.held n c.gapless;
      released = c.released;
      transmit_queue = c.transmit_queue;
      receive_queue = c.receive_queue ∙ ap (λ x. k.handed ++ x) (sym (take-append-drop n rx.bytes)) ∙ sym (append_assoc k.handed (take n rx.bytes) (drop n rx.bytes)) ∙ ap (λ x. k.handed ++ x ++ drop n rx.bytes) (sym e);
    }

no_bytes : (k : Counts) → with_sent k [] ≡ k
no_bytes k = λ i. record { sent = append-nil k.sent i; released = k.released; joined = k.joined; handed = k.handed }

none_read : (k : Counts) → with_handed k [] ≡ k
none_read k = λ i. record { sent = k.sent; released = k.released; joined = k.joined; handed = append-nil k.handed i }

-- ---- the calls that send

queues : (v w : View) (k : Counts) (n : ℕ) (bs : List ℕ) → Holds v k → w ≡ queued v n bs → Holds w (with_sent k (take n bs))
unfolding queued
queues v w k n bs c e = subst (λ (x : View). Holds x (with_sent k (take n bs))) (sym e) (sends v.rx_buffer v.tx_buffer.bytes (take n bs) v.local_seq_no k c)

unchanged : (v w : View) (k : Counts) → Holds v k → w ≡ v → Holds w k
unchanged v w k c e = subst (λ x. Holds x k) (sym e) c

slice_sent : (v w : View) (k : Counts) (bs : List ℕ) (r : Result ℕ SendError) → Holds v k → Sends v bs r w → Holds w (with_sent k (accepted bs r))
slice_sent v w k bs r c h = go (may_send v.state) h.answer h.view
  where
    go : (b : Bool) → r ≡ (if b then Ok (fitting v (length bs)) else Err send_error.InvalidState) → w ≡ (if b then queued v (fitting v (length bs)) bs else v) → Holds w (with_sent k (accepted bs r))
    go true e is = subst (λ r. Holds w (with_sent k (accepted bs r))) (sym e) (queues v w k (fitting v (length bs)) bs c is)
    go false e is = subst (λ r. Holds w (with_sent k (accepted bs r))) (sym e) (subst (Holds w) (sym (no_bytes k)) (unchanged v w k c is))

closure_sent : (may : Bool) (v w : View) (k : Counts) (r : Result (Unit {0}) SendError) (h : SendsWithIf may any_filling v r w) → Holds v k → Holds w (with_sent k (filled_in may v r w h))
closure_sent true v w k (Ok x) h c = queues v w k h.size h.left c h.view
closure_sent true v w k (Err e) h c = absurd h
closure_sent false v w k (Ok x) h c = absurd h
closure_sent false v w k (Err e) h c = subst (Holds w) (sym (no_bytes k)) (unchanged v w k c h.1)

text_sent : (v w : View) (k : Counts) (bs : List ℕ) (may : Bool) → Holds v k → w ≡ (if may then queued v (fitting v (length bs)) bs else v) → Holds w (with_sent k (if may then take (fitting v (length bs)) bs else []))
text_sent v w k bs true c e = queues v w k (fitting v (length bs)) bs c e
text_sent v w k bs false c e = subst (Holds w) (sym (no_bytes k)) (unchanged v w k c e)

-- ---- the calls that receive

takes_off : (v w : View) (k : Counts) (n : ℕ) (bs : List ℕ) → Holds v k → n ≤ length v.rx_buffer.bytes → bs ≡ take n v.rx_buffer.bytes → w ≡ read_off v n → Holds w (with_handed k bs)
unfolding read_off
takes_off v w k n bs c within is e = subst (λ (x : View). Holds x (with_handed k bs)) (sym e) (reads v.rx_buffer v.tx_buffer.bytes bs v.local_seq_no k n c within is)

slice_read : (v w : View) (k : Counts) (bs bs' : List ℕ) (r : Result ℕ RecvError) → Holds v k → Reads v bs r w bs' → Holds w (with_handed k (handed_slice bs' r))
slice_read v w k bs bs' r c h = go (may_recv v) h.answer h.view
  where
    n : ℕ
    n = readable v (length bs)

    short : length (take n v.rx_buffer.bytes) ≡ n
    short = omega (arith, length-take n v.rx_buffer.bytes)

    beginning : bs' ≡ take n v.rx_buffer.bytes ++ drop n bs → take n bs' ≡ take n v.rx_buffer.bytes
    beginning e = ap (take n) e ∙ take-append-le n (take n v.rx_buffer.bytes) (drop n bs) (omega (arith, short)) ∙ take-take n n v.rx_buffer.bytes (omega arith)

    go : (b : Bool) → r ≡ (if b then Ok n else Err (recv_refusal v)) → w ≡ (if b then read_off v n else v) → Holds w (with_handed k (handed_slice bs' r))
    go true e is = subst (λ r. Holds w (with_handed k (handed_slice bs' r))) (sym e) (takes_off v w k n (take n bs') c (omega arith) (beginning (subst (λ r. IfOk r (λ n. bs' ≡ take n v.rx_buffer.bytes ++ drop n bs)) e h.read)) is)
    go false e is = subst (λ r. Holds w (with_handed k (handed_slice bs' r))) (sym e) (subst (Holds w) (sym (none_read k)) (unchanged v w k c is))

closure_read : (may : Bool) (v w : View) (k : Counts) (r : Result (Unit {0}) RecvError) (h : ReadsWithIf may any_taking v r w) → Holds v k → Holds w (with_handed k (taken_out may v r w h))
closure_read true v w k (Ok x) h c = takes_off v w k h.size (take h.size v.rx_buffer.bytes) c (omega (arith, h.size_within, first_within v.rx_buffer)) refl h.view
closure_read true v w k (Err e) h c = absurd h
closure_read false v w k (Ok x) h c = absurd h
closure_read false v w k (Err e) h c = subst (Holds w) (sym (none_read k)) (unchanged v w k c h.1)

-- ---- the setters

-- what holds of v with any settings holds after a setting; the controller and the interval of keep-alives change more
pub setting_leaves : (P : View → Type 0) (v w : View) → ((x : CongestionControl) → P (record v { congestion_controller = of_kind x })) → ((x : Option Duration) → P (keep_alive_set v x)) → ((timeout delay : Option Duration) (nagle : Bool) (hops : Option ℕ) (paused is_there : Bool) (rules : Rules) (estimator : Estimator) → P (record v { timeout = timeout; ack_delay = delay; nagle = nagle; hop_limit = hops; synack_paused = paused; stamps = is_there; rules = rules; rtte = estimator })) → Sets v w → P w
setting_leaves P v w c k o (SetCongestionControl x e) = subst P (sym e) (c x)
setting_leaves P v w c k o (SetTimeout x e) = subst P (sym e) (o x v.ack_delay v.nagle v.hop_limit v.synack_paused v.stamps v.rules v.rtte)
setting_leaves P v w c k o (SetAckDelay x e) = subst P (sym e) (o v.timeout x v.nagle v.hop_limit v.synack_paused v.stamps v.rules v.rtte)
setting_leaves P v w c k o (SetNagle x e) = subst P (sym e) (o v.timeout v.ack_delay x v.hop_limit v.synack_paused v.stamps v.rules v.rtte)
setting_leaves P v w c k o (SetKeepAlive x e) = subst P (sym e) (k x)
setting_leaves P v w c k o (SetHopLimit x e) = subst P (sym e) (o v.timeout v.ack_delay v.nagle x v.synack_paused v.stamps v.rules v.rtte)
setting_leaves P v w c k o (PauseSynAck x e) = subst P (sym e) (o v.timeout v.ack_delay v.nagle v.hop_limit x v.stamps v.rules v.rtte)
setting_leaves P v w c k o (SetTsvalGenerator x e) = subst P (sym e) (o v.timeout v.ack_delay v.nagle v.hop_limit v.synack_paused x v.rules v.rtte)
setting_leaves P v w c k o (SetRules x d e) = subst P (sym e) (o d v.ack_delay v.nagle v.hop_limit v.synack_paused v.stamps x v.rtte)
setting_leaves P v w c k o (SetMinRto x e) = subst P (sym e) (o v.timeout v.ack_delay v.nagle v.hop_limit v.synack_paused v.stamps v.rules (bounded_below v.rtte x))

-- ---- the path MTU

mtu_holds : (v : View) (k : Counts) (now : Instant) (mtu : ℕ) → Holds v k → Holds (path_mtu_set v now mtu) k
unfolding shortened all_sent_again
mtu_holds v k now mtu c = narrowed_as (λ u. Holds u k) v now mtu c (λ mss le. c) (λ u e h. h)

pub mtu_rx : (v : View) (now : Instant) (mtu : ℕ) → (path_mtu_set v now mtu).rx_buffer ≡ v.rx_buffer
unfolding shortened all_sent_again
mtu_rx v now mtu = narrowed_as (λ u. u.rx_buffer ≡ v.rx_buffer) v now mtu refl (λ mss le. refl) (λ u e h. h)

-- ---- connect

is_small : (w u : View) → w ≡ u → u.local_seq_no.0 < 2 ^ 32 → w.local_seq_no.0 < 2 ^ 32
is_small w u e h = let i : w.local_seq_no.0 ≡ u.local_seq_no.0 = ap (λ (x : View). x.local_seq_no.0) e in omega (arith, h, i)

connect_kept : (x : Result Tuple ConnectError) (v w : View) (k : Counts) (word : ℕ) → word < 2 ^ 32 → Holds v k → w ≡ after_connect x v word → Holds w (starting_if (is_ok x) w k)
unfolding connected renewed fresh
connect_kept (Ok t) v w k word small c e = renewed_starts v w (is_small w (connected v t word) e small) c.room (ap (λ (x : View). x.rx_buffer) e)
connect_kept (Err x) v w k word small c e = unchanged v w k c e

-- ---- listen

pub same_number : (a b : ℕ) → ((a ≡ b → ⊥) → ⊥) → a ≡ b
same_number a b h = go (eqb a b) refl
  where
    go : (t : Bool) → eqb a b ≡ t → a ≡ b
    go true e = eqb-true a b e
    go false e = absurd (h (eqb-false a b e))

same_bytes : (xs ys : List ℕ) → ((xs ≡ ys → ⊥) → ⊥) → xs ≡ ys
same_bytes [] [] h = refl
same_bytes [] (y ∷ ys) h = absurd (h (λ e. absurd cc))
same_bytes (x ∷ xs) [] h = absurd (h (λ e. absurd cc))
same_bytes (x ∷ xs) (y ∷ ys) h = ap₂ ◌∷◌ (same_number x y (λ n. h (λ e. n cc))) (same_bytes xs ys (λ n. h (λ e. n cc)))

is_none_twice : (o : Option ℕ) → ((o ≡ None → ⊥) → ⊥) → o ≡ None
is_none_twice None h = refl
is_none_twice (Some x) h = absurd (h (λ e. absurd cc))

-- what is kept can be decided
not_changed : (v w : View) (k : Counts) → Holds v k → ((w ≡ v → ⊥) → ⊥) → Holds w k
not_changed v w k c h =
    let tx : w.tx_buffer.bytes ≡ v.tx_buffer.bytes = same_bytes w.tx_buffer.bytes v.tx_buffer.bytes (λ n. h (λ e. n (ap (λ (x : View). x.tx_buffer.bytes) e))) in
    let rx : w.rx_buffer.bytes ≡ v.rx_buffer.bytes = same_bytes w.rx_buffer.bytes v.rx_buffer.bytes (λ n. h (λ e. n (ap (λ (x : View). x.rx_buffer.bytes) e))) in
    let room : room_of w.rx_buffer ≡ room_of v.rx_buffer = same_number (room_of w.rx_buffer) (room_of v.rx_buffer) (λ n. h (λ e. n (ap (λ (x : View). room_of x.rx_buffer) e))) in
    let una : w.local_seq_no.0 ≡ v.local_seq_no.0 = same_number w.local_seq_no.0 v.local_seq_no.0 (λ n. h (λ e. n (ap (λ (x : View). x.local_seq_no.0) e))) in
    record {
      una_small = omega (arith, una, c.una_small);
      room = omega (arith, room, c.room);
      gapless = is_none_twice (byte_at w.rx_buffer.held 0) (λ n. h (λ e. n (ap (λ (x : View). byte_at x.rx_buffer.held 0) e ∙ c.gapless)));
      released = c.released;
      transmit_queue = tx ∙ c.transmit_queue;
      receive_queue = c.receive_queue ∙ ap (λ x. k.handed ++ x) (sym rx);
    }

listen_kept : (v w : View) (k : Counts) (e : IpListenEndpoint) (r : Result (Unit {0}) ListenError) → Holds v k → Listens v e r w → Holds w (starting_if (opens_listener v e) w k)
unfolding listened renewed fresh
listen_kept v w k e r c h = port (e.port == 0) refl
  where
    waiting : (b : Bool) → is_listening v.state ≡ b → 0 < e.port → is_open v.state ≡ true → Holds w k
    waiting true l p o =
        let is : v.state ≡ state.Listen = listening_is v.state l in
        not_changed v w k c (λ n. n (h.other p is (λ q. n (h.again p is q).1)).1)
    waiting false l p o = unchanged v w k c (h.busy p o (λ q. true≢false (sym (ap is_listening q) ∙ l))).1

    opened : (b : Bool) → is_open v.state ≡ b → 0 < e.port → Holds w (starting_if (not b) w k)
    opened true o p = waiting (is_listening v.state) refl p o
    opened false o p = renewed_starts v w (is_small w (listened v e) (h.opens p o).1 (omega arith)) c.room (ap (λ (x : View). x.rx_buffer) (h.opens p o).1)

    port : (b : Bool) → (e.port == 0) ≡ b → Holds w (starting_if (not b && not (is_open v.state)) w k)
    port true z = unchanged v w k c (h.no_port (eqb-true e.port 0 z)).1
    port false z = opened (is_open v.state) refl (not_zero e.port z)

-- ---- process

-- as many bytes as left are the beginning that left
left_of : (xs : List ℕ) (n : ℕ) → drop (length xs - length (drop n xs)) xs ≡ drop n xs
left_of xs zero = ap (λ i. drop i xs) {x = length xs - length xs} {y = 0} (omega arith)
left_of [] (suc n) = refl
left_of (x ∷ xs) (suc n) = ap (λ i. drop i (x ∷ xs)) {x = length (x ∷ xs) - length (drop n xs)} {y = suc (length xs - length (drop n xs))} (omega (arith, length-drop n xs)) ∙ left_of xs n

segment_kept : (x : Rules) (v w : View) (k : Counts) (s : Segment) → Holds v k → Releases v w → MayTake x v s w → Holds w (with_segment k v w)
segment_kept x v w k s c r m = by m
  where
    gone : ℕ
    gone = length v.tx_buffer.bytes - length w.tx_buffer.bytes

    sent_long : length v.tx_buffer.bytes ≡ length k.sent - k.released
    sent_long = ap length c.transmit_queue ∙ length-drop k.released k.sent

    tx : w.tx_buffer.bytes ≡ drop (k.released + gone) k.sent
    tx = r.tx ∙ sym (left_of v.tx_buffer.bytes r.count) ∙ ap (λ x. drop (length v.tx_buffer.bytes - length x) v.tx_buffer.bytes) (sym r.tx) ∙ ap (drop gone) c.transmit_queue ∙ drop-drop gone k.released k.sent

    joins : (run : List ℕ) → w.rx_buffer.bytes ≡ v.rx_buffer.bytes ++ run → k.joined ++ drop (length v.rx_buffer.bytes) w.rx_buffer.bytes ≡ k.handed ++ w.rx_buffer.bytes
    joins run e = ap (λ x. k.joined ++ drop (length v.rx_buffer.bytes) x) e ∙ ap (λ x. k.joined ++ x) (drop-append_seam v.rx_buffer.bytes run) ∙ ap (λ x. x ++ run) c.receive_queue ∙ append_assoc k.handed v.rx_buffer.bytes run ∙ ap (λ x. k.handed ++ x) (sym e)

    by : MayTake x v s w → Holds w (with_segment k v w)
    by (inl e) = record {
      una_small = r.una c.una_small;
      room = subst (λ b. room_of b ≤ 2 ^ 30) (sym e) c.room;
      gapless = subst (λ b. byte_at b.held 0 ≡ None) (sym e) c.gapless;
      released = omega (arith, c.released, sent_long);
      transmit_queue = tx;
      receive_queue = joins [] (ap (λ (b : Received). b.bytes) e ∙ sym (append-nil v.rx_buffer.bytes));
    }
    by (inr t) = record {
      una_small = r.una c.una_small;
      room = omega (arith, t.takes.room, c.room);
      gapless = t.takes.held 0 ∙ ap (merged v.rx_buffer.held _ _) {x = length t.takes.run + 0} {y = length t.takes.run} (omega arith) ∙ t.takes.stops;
      released = omega (arith, c.released, sent_long);
      transmit_queue = tx;
      receive_queue = joins t.takes.run t.takes.queue;
    }

again_or_not : (b : Bool) (w : View) (k : Counts) → Holds w k → Holds w (starting_if b w k)
again_or_not true w k c = starts w c.una_small c.room c.gapless
again_or_not false w k c = c

process_kept : (x : Rules) (v w : View) (k : Counts) (now : Instant) (word : ℕ) (ip : IpRepr) (s : Segment) → Holds v k → word < 2 ^ 32 → IsNumbered s → length s.payload ≤ 65535 → w ≡ (processed_by x v now word ip s).view → Holds w (starting_if (listens_again v.state w.state) w (with_segment k v w))
process_kept x v w k now word ip s c small numbered short e =
    let r : Releases v w = subst (Releases v) (sym e) (process_releases v now word ip s small numbered.ack_number x) in
    let m : MayTake x v s w = subst (MayTake x v s) (sym e) (only_appends x v now word ip s c.room numbered.seq_number short) in
    again_or_not (listens_again v.state w.state) w (with_segment k v w) (segment_kept x v w k s c r m)

-- ---- dispatch

keeps_holds : (v w : View) (k : Counts) → Keeps v w → Holds v k → Holds w k
keeps_holds v w k h c = subst (λ b. Core b w.tx_buffer.bytes w.local_seq_no k) (sym h.rx) (subst (λ (q : Queue). Core v.rx_buffer q.bytes w.local_seq_no k) (sym h.tx) (subst (λ n. Core v.rx_buffer v.tx_buffer.bytes n k) (sym h.una) c))

dispatch_kept : (v w : View) (k : Counts) (f : Facts) (out : Option Sending) → Holds v k → Dispatched f v out w → Holds w (starting_if (is_reset v f) w k)
unfolding renewed fresh
dispatch_kept v w k f out c h = go (is_reset v f) refl
  where
    u : View
    u = (before_emit v f).view

    left : Keeps u w
    left = sends_keeps (peer_of (before_emit v f)) f u out w h

    go : (b : Bool) → is_reset v f ≡ b → Holds w (starting_if b w k)
    go true e =
        let r = before_resets f v e in
        let una : w.local_seq_no.0 ≡ 0 = ap (λ (x : TcpSeqNumber). x.0) left.una ∙ ap (λ (b : Begun). b.view.local_seq_no.0) r.is in
        renewed_starts r.from w (omega (arith, una)) (omega (arith, r.kept, c.room)) (left.rx ∙ ap (λ (b : Begun). b.view.rx_buffer) r.is)
    go false e = keeps_holds u w k left (keeps_holds v u k (before_keeps f v e) c)

-- ---- any call

pub step_keeps : (v w : View) (k j : Counts) → Step v k w j → Holds v k → Holds w j
step_keeps v w k j (Listen e r h is) c = subst (Holds w) (sym is) (listen_kept v w k e r c h)
step_keeps v w k j (Connect f word remote local small h is) c = subst (Holds w) (sym is) (connect_kept (endpoints v f remote local) v w k word small c h)
step_keeps v w k j (SendSlice bs r h is) c = subst (Holds w) (sym is) (slice_sent v w k bs r c h)
step_keeps v w k j (Send r h is) c = subst (Holds w) (sym is) (closure_sent (may_send v.state) v w k r h c)
step_keeps v w k j (WriteStr bs all h is) c = subst (Holds w) (sym is) (text_sent v w k bs (may_send v.state) c h.view)
step_keeps v w k j (RecvSlice bs bs' r h is) c = subst (Holds w) (sym is) (slice_read v w k bs bs' r c h)
step_keeps v w k j (Recv r h is) c = subst (Holds w) (sym is) (closure_read (may_recv v) v w k r h c)
step_keeps v w k j (Close h is) c = subst (Holds w) (sym is) (subst (λ u. Holds u k) (sym h) c)
step_keeps v w k j (Abort h is) c = subst (Holds w) (sym is) (subst (λ u. Holds u k) (sym h) c)
step_keeps v w k j (Set h is) c = subst (Holds w) (sym is) (setting_leaves (λ u. Holds u k) v w (λ x. c) (λ x. c) (λ timeout delay nagle hops paused is_there rules estimator. c) h)
step_keeps v w k j (SetPathMtu now mtu h is) c = subst (Holds w) (sym is) (subst (λ u. Holds u k) (sym h) (mtu_holds v k now mtu c))
step_keeps v w k j (Process x now word ip s small numbered short bare h is) c = subst (Holds w) (sym is) (process_kept x v w k now word ip s c small numbered short h)
step_keeps v w k j (Dispatch f out h is) c = subst (Holds w) (sym is) (dispatch_kept v w k f out c h)

pub run_keeps : (v w : View) (k j : Counts) → Run v k w j → Holds v k → Holds w j
run_keeps v w k j (Ends _ _) c = c
run_keeps v w k j (Then _ u _ _ i _ s r) c = run_keeps u w i j r (step_keeps v u k i s c)

-- ---- what is promised

pub promises : (v : View) (k : Counts) → Holds v k → Promised v k
promises v k c = record {
  released = c.released;
  transmit_queue = c.transmit_queue;
  receive_queue = c.receive_queue;
  gapless = c.gapless;
  appends = λ now word ip s numbered short. only_appends v.rules v now word ip s c.room numbered.seq_number short;
  payloads = λ f out w h n. parts f out w h n;
}
  where
    parts : (f : Facts) (out : Sending) (w : View) → Dispatched f v (Some out) w → (out.kind ≡ kind.KeepAlive → ⊥) → IsPart k (seq_sub out.segment.seq_number v.local_seq_no) out.segment.payload
    parts f out w h n = go (is_reset v f) refl
      where
        go : (b : Bool) → is_reset v f ≡ b → IsPart k (seq_sub out.segment.seq_number v.local_seq_no) out.segment.payload
        go true e = absurd (none-some out (sym (subst (λ (b : Begun). SendsTo (peer_of b) f b.view (Some out) w) (before_resets f v e).is h).0))
        go false e = sends_part (peer_of (before_emit v f)) f k v (before_emit v f).view w out c.transmit_queue (before_keeps f v e) c.una_small h n

pub holds_after : (rx tx : Ring ℕ) (w : View) (j : Counts) → length rx.queue + length rx.spare ≤ 2 ^ 30 → Run (fresh (receiving rx) (queue_of tx)) (starting (fresh (receiving rx) (queue_of tx))) w j → Holds w j
unfolding fresh
holds_after rx tx w j room r =
    let v = fresh (receiving rx) (queue_of tx) in
    let long = length-replicate {A = Option ℕ} (length rx.spare) None in
    run_keeps v w (starting v) j r (starts v (omega arith) (omega (arith, room, long)) (none_first (length rx.spare)))

pub keeps_its_streams : (rx tx : Ring ℕ) (w : View) (j : Counts) → length rx.queue + length rx.spare ≤ 2 ^ 30 → Run (fresh (receiving rx) (queue_of tx)) (starting (fresh (receiving rx) (queue_of tx))) w j → Promised w j
keeps_its_streams rx tx w j room r = promises w j (holds_after rx tx w j room r)
