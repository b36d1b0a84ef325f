-- The bytes of the peer's stream stay at their places.
use Rattle.std.proofs.Common.{◌≡◌, ℕ, zero, suc, ◌+◌, ◌-◌, ◌<◌, ◌≤◌, ◌^◌, ◌⊎◌, inl, inr, Bool, true, false, not, ◌&&◌, refl, sym, ap, subst, ◌∙◌, List, [], ◌∷◌, ◌++◌, length, drop, replicate, slice_get, Option, Some, None, Result, Ok, Err, is_ok, true≢false, arith, length-append, ltb-true, ltb-false}
use Rattle.std.specs.Prelude.{◌==◌, nat_lt, if◌then◌else◌}
use Rattle.std.proofs.lemmas.Bool.{eqb-true}
use Rattle.std.proofs.lemmas.Grind.{common_steps}
use Rattle.std.proofs.lemmas.List.{append-nil}
use Rattle.std.proofs.Math.Seq.{drop-append_seam, drop-length}
use Rattle.ip_wire.specs.declared.endpoint.IpListenEndpoint.{IpListenEndpoint}
use Rattle.net_base.specs.Ring.{Ring}
use Rattle.control_wire.specs.Segment.{Segment}
use Rattle.sock_core.specs.Facts.{Facts}
use Rattle.sock_core.specs.Received.{Received, TakesIn, byte_at, handed_out, merged, receiving}
use Rattle.sock_tcp.specs.Begin.{before_emit, peer_of}
use Rattle.sock_tcp.specs.Content.{Sending}
use Rattle.tcp_laws.specs.Laws.{MayTake}
use Rattle.sock_tcp.specs.Opening.{Listens, after_connect, endpoints, is_listening, is_open}
use Rattle.sock_tcp.specs.Queue.{queue_of}
use Rattle.sock_tcp.specs.Queues.{ReadsWithIf, SendsWithIf, fitting, may_recv, may_send, queued, read_off, readable}
use Rattle.tcp_laws.specs.SocketBytes.{IsBrought, KeepsPlaces, begins, byte_of}
use Rattle.tcp_laws.specs.SocketRun.{Counts, Dispatched, Run, Step, any_filling, any_taking, is_reset, listens_again, opens_listener, starting, starting_if, with_segment}
use Rattle.tcp_laws.specs.SocketRun.{Listen, Connect, SendSlice, Send, WriteStr, RecvSlice, Recv, Close, Abort, Set, SetPathMtu, Process, Dispatch}
use Rattle.sock_tcp.specs.View.{View, fresh}
use Rattle.sock_tcp.specs.Window.{accepted_window, is_inside, cut_of, cut_bytes}
use Rattle.sock_tcp.specs.declared.error.ConnectError.{ConnectError}
use Rattle.sock_tcp.specs.declared.error.ListenError.{ListenError}
use Rattle.sock_tcp.specs.declared.error.RecvError.{RecvError}
use Rattle.sock_tcp.specs.declared.error.SendError.{SendError}
use Rattle.sock_tcp.specs.declared.rules.Rules.{Rules}
use Rattle.sock_tcp.specs.declared.state.State.TheVariants as state
use Rattle.sock_tcp.specs.declared.tuple.Tuple.{Tuple}
use Rattle.tcp_laws.proofs.DispatchFrames.{before_keeps, sends_keeps}
use Rattle.tcp_laws.proofs.Receiving.{only_appends}
use Rattle.tcp_laws.proofs.Kept.{listening_is, not_zero}
use Rattle.tcp_laws.proofs.SocketSteps.{Holds, holds_after, mtu_rx, same_number, setting_leaves}

-- ---- places

get_left : (xs ys : List ℕ) (p : ℕ) → p < length xs → slice_get (xs ++ ys) p ≡ slice_get xs p
get_left [] ys p h = absurd (omega (arith, h))
get_left (x ∷ xs) ys zero h = refl
get_left (x ∷ xs) ys (suc p) h = get_left xs ys p (omega (arith, h))

get_right : (xs ys : List ℕ) (d : ℕ) → slice_get (xs ++ ys) (length xs + d) ≡ slice_get ys d
get_right [] ys d = ap (slice_get ys) {x = 0 + d} {y = d} (omega arith)
get_right (x ∷ xs) ys d = ap (slice_get (x ∷ xs ++ ys)) {x = suc (length xs) + d} {y = suc (length xs + d)} (omega arith) ∙ get_right xs ys d

none_merged : (hs : List (Option ℕ)) (d : ℕ) → merged hs 0 [] d ≡ byte_at hs d
none_merged hs d = grind (arith, common_steps)

-- what stands behind the bytes that joined, and before their end
at_joined : (k : Counts) (v : View) (p : ℕ) → p < length k.joined → byte_of k v p ≡ slice_get k.joined p
at_joined k v p h = go (nat_lt p (length k.joined)) refl
  where
    go : (b : Bool) → nat_lt p (length k.joined) ≡ b → (if b then slice_get k.joined p else byte_at v.rx_buffer.held (p - length k.joined)) ≡ slice_get k.joined p
    go true e = refl
    go false e = let l = ltb-false p (length k.joined) e in absurd (omega (arith, l, h))

at_held : (k : Counts) (v : View) (d : ℕ) → byte_of k v (length k.joined + d) ≡ byte_at v.rx_buffer.held d
at_held k v d = go (nat_lt (length k.joined + d) (length k.joined)) refl
  where
    go : (b : Bool) → nat_lt (length k.joined + d) (length k.joined) ≡ b → (if b then slice_get k.joined (length k.joined + d) else byte_at v.rx_buffer.held (length k.joined + d - length k.joined)) ≡ byte_at v.rx_buffer.held d
    go true e = let l = ltb-true (length k.joined + d) (length k.joined) e in absurd (omega (arith, l))
    go false e = ap (byte_at v.rx_buffer.held) {x = length k.joined + d - length k.joined} {y = d} (omega arith)

-- ---- calls that bring nothing

record Calm (v : View) (k : Counts) (w : View) (j : Counts) : Type 0 where
  joined : j.joined ≡ k.joined
  held : (d : ℕ) → byte_at w.rx_buffer.held d ≡ byte_at v.rx_buffer.held d

calm_rx : (v w : View) (k j : Counts) → j.joined ≡ k.joined → w.rx_buffer ≡ v.rx_buffer → Calm v k w j
calm_rx v w k j i e = record { joined = i; held = λ d. ap (λ (b : Received). byte_at b.held d) e }

calm_keeps : (v w : View) (k j : Counts) (s : Step v k w j) → IsBrought v k w j s 0 [] → Calm v k w j → KeepsPlaces v k w j s
calm_keeps v w k j s b c = record {
  offset = 0;
  bytes = [];
  brought = b;
  joined = λ p h. at_joined j w p (omega (arith, long, h)) ∙ ap (λ xs. slice_get xs p) c.joined ∙ sym (at_joined k v p h);
  behind = λ d. ap (λ n. byte_of j w (n + d)) (sym long) ∙ at_held j w d ∙ c.held d ∙ sym (none_merged v.rx_buffer.held d);
}
  where
    long : length j.joined ≡ length k.joined
    long = ap length c.joined

-- ---- a segment

-- nothing of it, or what lies inside the window
abbrev IsPartInside : Rules → View → Segment → ℕ → List ℕ → Type 0
IsPartInside r v s o bs = (bs ≡ []) ⊎ ((is_inside (accepted_window r v) s.seq_number (length s.payload) ≡ true) × (o ≡ (cut_of (accepted_window r v) s.seq_number (length s.payload)).offset) × (bs ≡ cut_bytes (cut_of (accepted_window r v) s.seq_number (length s.payload)) s.payload))

takes_keeps : (v w : View) (k : Counts) (o : ℕ) (ys : List ℕ) (t : TakesIn v.rx_buffer w.rx_buffer o ys) (j : Counts) → j.joined ≡ k.joined ++ t.run → ((p : ℕ) → p < length k.joined → byte_of j w p ≡ byte_of k v p) × ((d : ℕ) → byte_of j w (length k.joined + d) ≡ merged v.rx_buffer.held o ys d)
takes_keeps v w k o ys t j e = (first, later)
  where
    long : length j.joined ≡ length k.joined + length t.run
    long = ap length e ∙ length-append k.joined t.run

    first : (p : ℕ) → p < length k.joined → byte_of j w p ≡ byte_of k v p
    first p h = at_joined j w p (omega (arith, long, h)) ∙ ap (λ xs. slice_get xs p) e ∙ get_left k.joined t.run p h ∙ sym (at_joined k v p h)

    later : (d : ℕ) → byte_of j w (length k.joined + d) ≡ merged v.rx_buffer.held o ys d
    later d = go (nat_lt d (length t.run)) refl
      where
        go : (b : Bool) → nat_lt d (length t.run) ≡ b → byte_of j w (length k.joined + d) ≡ merged v.rx_buffer.held o ys d
        go true l =
            let h : d < length t.run = ltb-true d (length t.run) l in
            at_joined j w (length k.joined + d) (omega (arith, long, h)) ∙ ap (λ xs. slice_get xs (length k.joined + d)) e ∙ get_right k.joined t.run d ∙ t.joined d h
        go false l =
            let h : length t.run ≤ d = omega (arith, ltb-false d (length t.run) l) in
            ap (byte_of j w) {x = length k.joined + d} {y = length j.joined + (d - length t.run)} (omega (arith, long, h)) ∙ at_held j w (d - length t.run) ∙ t.held (d - length t.run) ∙ ap (merged v.rx_buffer.held o ys) {x = length t.run + (d - length t.run)} {y = d} (omega (arith, h))

segment_keeps : (r : Rules) (v w : View) (k j : Counts) (step : Step v k w j) (s : Segment) (m : MayTake r v s w) → j ≡ with_segment k v w → ((o : ℕ) (bs : List ℕ) → IsPartInside r v s o bs → IsBrought v k w j step o bs) → KeepsPlaces v k w j step
segment_keeps r v w k j step s (inl e) is b = calm_keeps v w k j step (b 0 [] (inl refl)) (calm_rx v w k j (ap (λ (c : Counts). c.joined) is ∙ nothing) e)
  where
    nothing : k.joined ++ drop (length v.rx_buffer.bytes) w.rx_buffer.bytes ≡ k.joined
    nothing = ap (λ (x : Received). k.joined ++ drop (length v.rx_buffer.bytes) x.bytes) e ∙ ap (λ x. k.joined ++ x) (drop-length v.rx_buffer.bytes) ∙ append-nil k.joined
segment_keeps r v w k j step s (inr t) is b =
    let run : k.joined ++ drop (length v.rx_buffer.bytes) w.rx_buffer.bytes ≡ k.joined ++ t.takes.run = ap (λ x. k.joined ++ drop (length v.rx_buffer.bytes) x) t.takes.queue ∙ ap (λ x. k.joined ++ x) (drop-append_seam v.rx_buffer.bytes t.takes.run) in
    let p = takes_keeps v w k _ _ t.takes j (ap (λ (c : Counts). c.joined) is ∙ run) in
    record {
      offset = (cut_of (accepted_window r v) s.seq_number (length s.payload)).offset;
      bytes = cut_bytes (cut_of (accepted_window r v) s.seq_number (length s.payload)) s.payload;
      brought = b _ _ (inr (t.inside, refl, refl));
      joined = p.0;
      behind = p.1;
    }

-- ---- the other calls

same_option : (a b : Option ℕ) → ((a ≡ b → ⊥) → ⊥) → a ≡ b
same_option None None h = refl
same_option None (Some y) h = absurd (h (λ e. absurd cc))
same_option (Some x) None h = absurd (h (λ e. absurd cc))
same_option (Some x) (Some y) h = ap Some (same_number x y (λ n. h (λ e. n cc)))

pub listen_stays : (v w : View) (e : IpListenEndpoint) (r : Result (Unit {0}) ListenError) → Listens v e r w → opens_listener v e ≡ false → (w ≡ v → ⊥) → ⊥
listen_stays v w e r h stays n = port (e.port == 0) refl stays
  where
    waiting : (b : Bool) → is_listening v.state ≡ b → 0 < e.port → is_open v.state ≡ true → ⊥
    waiting true l p o =
        let is : v.state ≡ state.Listen = listening_is v.state l in
        n (h.other p is (λ q. n (h.again p is q).1)).1
    waiting false l p o = n (h.busy p o (λ q. true≢false (sym (ap is_listening q) ∙ l))).1

    opened : (b : Bool) → is_open v.state ≡ b → 0 < e.port → not b ≡ false → ⊥
    opened true o p z = waiting (is_listening v.state) refl p o
    opened false o p z = absurd cc

    port : (b : Bool) → (e.port == 0) ≡ b → (not b && not (is_open v.state)) ≡ false → ⊥
    port true z y = n (h.no_port (eqb-true e.port 0 z)).1
    port false z y = opened (is_open v.state) refl (not_zero e.port z) y

pub no_start : (b : Bool) (w : View) (k j : Counts) → b ≡ false → j ≡ starting_if b w k → j ≡ k
no_start true w k j e is = absurd cc
no_start false w k j e is = is

pub refused : (x : Result Tuple ConnectError) (v w : View) (word : ℕ) → is_ok x ≡ false → w ≡ after_connect x v word → w ≡ v
refused (Ok t) v w word e h = absurd cc
refused (Err x) v w word e h = h

pub queued_rx : (may : Bool) (v w : View) (n : ℕ) (bs : List ℕ) → w ≡ (if may then queued v n bs else v) → w.rx_buffer ≡ v.rx_buffer
unfolding queued
queued_rx true v w n bs e = ap (λ (x : View). x.rx_buffer) e
queued_rx false v w n bs e = ap (λ (x : View). x.rx_buffer) e

pub closure_rx : (may : Bool) (v w : View) (r : Result (Unit {0}) SendError) → SendsWithIf may any_filling v r w → w.rx_buffer ≡ v.rx_buffer
closure_rx true v w (Ok x) h = queued_rx true v w h.size h.left h.view
closure_rx true v w (Err e) h = absurd h
closure_rx false v w (Ok x) h = absurd h
closure_rx false v w (Err e) h = ap (λ (x : View). x.rx_buffer) h.1

free_behind : (hs : List (Option ℕ)) (n d : ℕ) → byte_at (hs ++ replicate n None) d ≡ byte_at hs d
free_behind [] zero d = refl
free_behind [] (suc n) zero = refl
free_behind [] (suc n) (suc d) = free_behind [] n d
free_behind (h ∷ hs) n zero = refl
free_behind (h ∷ hs) n (suc d) = free_behind hs n d

read_held : (may : Bool) (v w : View) (n : ℕ) → w ≡ (if may then read_off v n else v) → (d : ℕ) → byte_at w.rx_buffer.held d ≡ byte_at v.rx_buffer.held d
unfolding read_off handed_out
read_held true v w n e d = ap (λ (x : View). byte_at x.rx_buffer.held d) e ∙ free_behind v.rx_buffer.held n d
read_held false v w n e d = ap (λ (x : View). byte_at x.rx_buffer.held d) e

closure_held : (may : Bool) (v w : View) (r : Result (Unit {0}) RecvError) → ReadsWithIf may any_taking v r w → (d : ℕ) → byte_at w.rx_buffer.held d ≡ byte_at v.rx_buffer.held d
closure_held true v w (Ok x) h d = read_held true v w h.size h.view d
closure_held true v w (Err e) h d = absurd h
closure_held false v w (Ok x) h d = absurd h
closure_held false v w (Err e) h d = ap (λ (x : View). byte_at x.rx_buffer.held d) h.1

pub dispatch_rx : (v w : View) (f : Facts) (out : Option Sending) → is_reset v f ≡ false → Dispatched f v out w → w.rx_buffer ≡ v.rx_buffer
dispatch_rx v w f out e h = (sends_keeps (peer_of (before_emit v f)) f (before_emit v f).view out w h).rx ∙ (before_keeps f v e).rx

same_joined : (k j : Counts) → j ≡ k → j.joined ≡ k.joined
same_joined k j e = ap (λ (c : Counts). c.joined) e

-- ---- any call

step_keeps_places : (v w : View) (k j : Counts) → Holds v k → (s : Step v k w j) → begins v k w j s ≡ false → KeepsPlaces v k w j s
step_keeps_places v w k j c (Listen e r h is) b = calm_keeps v w k j (Listen e r h is) refl (record { joined = same_joined k j (no_start (opens_listener v e) w k j b is); held = λ d. same_option _ _ (λ n. listen_stays v w e r h b (λ i. n (ap (λ (x : View). byte_at x.rx_buffer.held d) i))) })
step_keeps_places v w k j c (Connect f word remote local small h is) b = calm_keeps v w k j (Connect f word remote local small h is) refl (calm_rx v w k j (same_joined k j (no_start (is_ok (endpoints v f remote local)) w k j b is)) (ap (λ (x : View). x.rx_buffer) (refused (endpoints v f remote local) v w word b h)))
step_keeps_places v w k j c (SendSlice bs r h is) b = calm_keeps v w k j (SendSlice bs r h is) refl (calm_rx v w k j (ap (λ (c : Counts). c.joined) is) (queued_rx (may_send v.state) v w (fitting v (length bs)) bs h.view))
step_keeps_places v w k j c (Send r h is) b = calm_keeps v w k j (Send r h is) refl (calm_rx v w k j (ap (λ (c : Counts). c.joined) is) (closure_rx (may_send v.state) v w r h))
step_keeps_places v w k j c (WriteStr bs all h is) b = calm_keeps v w k j (WriteStr bs all h is) refl (calm_rx v w k j (ap (λ (c : Counts). c.joined) is) (queued_rx (may_send v.state) v w (fitting v (length bs)) bs h.view))
step_keeps_places v w k j c (RecvSlice bs bs' r h is) b = calm_keeps v w k j (RecvSlice bs bs' r h is) refl (record { joined = ap (λ (c : Counts). c.joined) is; held = read_held (may_recv v) v w (readable v (length bs)) h.view })
step_keeps_places v w k j c (Recv r h is) b = calm_keeps v w k j (Recv r h is) refl (record { joined = ap (λ (c : Counts). c.joined) is; held = closure_held (may_recv v) v w r h })
step_keeps_places v w k j c (Close h is) b = calm_keeps v w k j (Close h is) refl (calm_rx v w k j (same_joined k j is) (ap (λ (x : View). x.rx_buffer) h))
step_keeps_places v w k j c (Abort h is) b = calm_keeps v w k j (Abort h is) refl (calm_rx v w k j (same_joined k j is) (ap (λ (x : View). x.rx_buffer) h))
step_keeps_places v w k j c (Set h is) b = calm_keeps v w k j (Set h is) refl (calm_rx v w k j (same_joined k j is) (setting_leaves (λ u. u.rx_buffer ≡ v.rx_buffer) v w (λ x. refl) (λ x. refl) (λ timeout delay nagle hops paused is_there rules estimator. refl) h))
step_keeps_places v w k j c (SetPathMtu now mtu h is) b = calm_keeps v w k j (SetPathMtu now mtu h is) refl (calm_rx v w k j (same_joined k j is) (ap (λ (x : View). x.rx_buffer) h ∙ mtu_rx v now mtu))
step_keeps_places v w k j c (Process r now word ip s small numbered short bare h is) b =
    let m : MayTake r v s w = subst (MayTake r v s) (sym h) (only_appends r v now word ip s c.room numbered.seq_number short) in
    segment_keeps r v w k j (Process r now word ip s small numbered short bare h is) s m (no_start (listens_again v.state w.state) w (with_segment k v w) j b is) (λ o bs x. x)
step_keeps_places v w k j c (Dispatch f out h is) b = calm_keeps v w k j (Dispatch f out h is) refl (calm_rx v w k j (same_joined k j (no_start (is_reset v f) w k j b is)) (dispatch_rx v w f out b h))

pub places_stay : (rx tx : Ring ℕ) (v w : View) (k j : Counts) → length rx.queue + length rx.spare ≤ 2 ^ 30 → Run (fresh (receiving rx) (queue_of tx)) (starting (fresh (receiving rx) (queue_of tx))) v k → (s : Step v k w j) → begins v k w j s ≡ false → KeepsPlaces v k w j s
places_stay rx tx v w k j room r s b = step_keeps_places v w k j (holds_after rx tx v k room r) s b
