-- The window test and the cut of a socket are those of the streams.
use Rattle.std.proofs.Common.{◌≡◌, ℕ, ◌+◌, ◌-◌, ◌%◌, ◌^◌, ◌<◌, ◌≤◌, ◌⊎◌, Bool, true, false, cond, ◌&&◌, ◌||◌, List, [], ◌∷◌, length, take, drop, length-append, refl, sym, ap, subst, ◌∙◌, arith, inl, inr, ⊎_elim}
use Rattle.std.specs.Prelude.{◌==◌, not, if◌then◌else◌}
use Rattle.std.proofs.lemmas.Bool.{eqb-true}
use Rattle.std.proofs.lemmas.Bool.Decides.{nat_tests}
use Rattle.control_wire.specs.Seq.{seq_add, seq_sub, seq_minus, seq_eq}
use Rattle.control_wire.specs.declared.seq_number.TcpSeqNumber.{TcpSeqNumber}
use Rattle.sock_core.proofs.Receiving.{takes_in_all}
use Rattle.sock_core.specs.Places.{later_number, number_distance, number_is_before, sooner_number}
use Rattle.sock_core.specs.Received.{Received, received, written, gathered, taken_in, byte_at, makes_fifth_range, TakesIn}
use Rattle.sock_core.specs.Seq.{is_before, is_not_after, later_of}
use Rattle.sock_core.specs.Streams.{fin_length}
use Rattle.tcp_laws.proofs.Frames.{brought}
use Rattle.sock_tcp.proofs.Windows.{far, not_after}
use Rattle.sock_tcp.specs.Window.{starts_inside, empty_inside, full_inside, is_inside, cut_end, cut_of, cut_bytes}
use Rattle.sock_tcp.specs.declared.window.Window.{Window}
use Rattle.pair_core.specs.StreamEffects.{HearsData}
use Rattle.pair_core.specs.StreamTables.{Gathers, IsInside, cut, cut_offset, segment_end}
use Rattle.pair_core.specs.StreamViews.{SocketView, StreamSegment}
use Rattle.pair_core.proofs.StreamCut.{takes_hears}

-- ---- numbers

pub before_shown : (x y : TcpSeqNumber) → number_is_before x.0 y.0 ≡ is_before x y
unfolding is_before
before_shown x y = refl

-- the later of two sequence numbers is that of the two numbers
pub later_shown : (a b : TcpSeqNumber) → (later_of a b).0 ≡ later_number a.0 b.0
unfolding later_of is_before
later_shown a b = go (number_is_before a.0 b.0)
  where
    go : (t : Bool) → (if t then b else a).0 ≡ (if t then b.0 else a.0)
    go true = refl
    go false = refl

end_shown : (w : Window) (e : TcpSeqNumber) → (cut_end w e).0 ≡ sooner_number e.0 w.end.0
unfolding is_before
end_shown w e = go (number_is_before e.0 w.end.0)
  where
    go : (t : Bool) → (if t then e else w.end).0 ≡ (if t then e.0 else w.end.0)
    go true = refl
    go false = refl

-- the right edge is the left one and the window's size
pub edge_shown : (a b : TcpSeqNumber) → a.0 < 2 ^ 32 → b.0 < 2 ^ 32 → (a.0 + seq_sub b a) % 2 ^ 32 ≡ b.0
edge_shown a b p q = omega arith

-- ---- the cut

pub cut_to : (w : Window) (s : TcpSeqNumber) (g : StreamSegment) → g.seq ≡ s.0 → cut w.start.0 w.end.0 g ≡ cut_bytes (cut_of w s (length g.payload)) g.payload
unfolding cut_of number_distance
cut_to w s g e =
    let a : later_number w.start.0 g.seq ≡ (later_of w.start s).0 = ap (later_number w.start.0) e ∙ sym (later_shown w.start s) in
    let b : sooner_number (segment_end g) w.end.0 ≡ (cut_end w (seq_add s (length g.payload))).0 = ap (λ n. sooner_number ((n + length g.payload) % 2 ^ 32) w.end.0) e ∙ sym (end_shown w (seq_add s (length g.payload))) in
    (λ i. take ((b i + (2 ^ 32 - a i)) % 2 ^ 32) (drop ((a i + (2 ^ 32 - e i)) % 2 ^ 32) g.payload))

pub cut_shown : (w : Window) (s : TcpSeqNumber) (g : StreamSegment) → w.start.0 < 2 ^ 32 → w.end.0 < 2 ^ 32 → g.seq ≡ s.0 → cut w.start.0 ((w.start.0 + seq_sub w.end w.start) % 2 ^ 32) g ≡ cut_bytes (cut_of w s (length g.payload)) g.payload
cut_shown w s g a b e = ap (λ r. cut w.start.0 r g) (edge_shown w.start w.end a b) ∙ cut_to w s g e

pub offset_shown : (w : Window) (s : TcpSeqNumber) (g : StreamSegment) → g.seq ≡ s.0 → cut_offset w.start.0 g ≡ (cut_of w s (length g.payload)).offset
unfolding cut_of number_distance
offset_shown w s g e =
    let a : later_number w.start.0 g.seq ≡ (later_of w.start s).0 = ap (later_number w.start.0) e ∙ sym (later_shown w.start s) in
    ap (λ n. (n + (2 ^ 32 - w.start.0)) % 2 ^ 32) a

-- ---- the window test

both : (a b : Bool) → (a && b) ≡ true → (a ≡ true) × (b ≡ true)
both true true e = (refl, refl)
both true false e = cc
both false b e = cc

either : (a b : Bool) → (a || b) ≡ true → (a ≡ true) ⊎ (b ≡ true)
either true b e = inl refl
either false b e = inr e

module _ (w : Window) (s : TcpSeqNumber) (n : ℕ) (ls : w.start.0 < 2 ^ 32) (le : w.end.0 < 2 ^ 32) (ss : s.0 < 2 ^ 32) (wide : seq_sub w.end w.start ≤ 2 ^ 30) (short : n ≤ 65535) where
  starts : (w.start.0 ≡ w.end.0 → ⊥) → starts_inside w s ≡ true → (number_is_before s.0 w.start.0 ≡ false) × (number_is_before s.0 ((w.start.0 + seq_sub w.end w.start) % 2 ^ 32) ≡ true)
  starts apart h =
      let p = both (is_not_after w.start s) (is_before s w.end) h in
      let low = not_after w.start s p.0 in
      let high = far s w.end p.1 in
      (before_shown s w.start ∙ go low high (is_before s w.start) refl, ap (number_is_before s.0) (edge_shown w.start w.end ls le) ∙ before_shown s w.end ∙ p.1)
    where
      go : (2 ^ 31 ≤ seq_sub w.start s) ⊎ (w.start.0 ≡ s.0) → 2 ^ 31 ≤ seq_sub s w.end → (b : Bool) → is_before s w.start ≡ b → b ≡ false
      go low high true e = absurd (omega (arith, apart, low, high, far _ _ e))
      go low high false e = refl

  ends : (w.start.0 ≡ w.end.0 → ⊥) → (is_before w.start (seq_add s n) && is_not_after (seq_add s n) w.end) ≡ true → (number_is_before w.start.0 ((s.0 + n) % 2 ^ 32) ≡ true) × (number_is_before ((w.start.0 + seq_sub w.end w.start) % 2 ^ 32) ((s.0 + n) % 2 ^ 32) ≡ false)
  ends apart h =
      let p = both (is_before w.start (seq_add s n)) (is_not_after (seq_add s n) w.end) h in
      (before_shown w.start (seq_add s n) ∙ p.0, ap (λ k. number_is_before k ((s.0 + n) % 2 ^ 32)) (edge_shown w.start w.end ls le) ∙ before_shown w.end (seq_add s n) ∙ go (far w.start (seq_add s n) p.0) (not_after (seq_add s n) w.end p.1) (is_before w.end (seq_add s n)) refl)
    where
      go : 2 ^ 31 ≤ seq_sub w.start (seq_add s n) → (2 ^ 31 ≤ seq_sub (seq_add s n) w.end) ⊎ ((seq_add s n).0 ≡ w.end.0) → (b : Bool) → is_before w.end (seq_add s n) ≡ b → b ≡ false
      go low high true e = absurd (omega (arith, apart, low, high, far _ _ e))
      go low high false e = refl

  positive : (w.start.0 ≡ w.end.0 → ⊥) → 0 < seq_sub w.end w.start
  positive apart = omega (arith, apart)

  pub inside_shown : is_inside w s n ≡ true → IsInside w.start.0 (seq_sub w.end w.start) s.0 n
  unfolding is_inside
  inside_shown inside = go (n == 0) refl
    where
      empty : (a : Bool) → seq_eq s (seq_minus w.start 1) ≡ a → (b : Bool) → seq_eq w.start w.end ≡ b → cond a false (cond b (seq_eq s w.start) (starts_inside w s)) ≡ true → n ≡ 0 → IsInside w.start.0 (seq_sub w.end w.start) s.0 n
      empty true p b q h z = absurd cc
      empty false p true q h z = let t = eqb-true w.start.0 w.end.0 q in inl (z, omega (arith, t), eqb-true s.0 w.start.0 h)
      empty false p false q h z = let apart : (w.start.0 ≡ w.end.0 → ⊥) = λ h. grind (arith, nat_tests, q, h) in inr (inl (z, positive apart, (starts apart h).0, (starts apart h).1))

      full : (b : Bool) → seq_eq w.start w.end ≡ b → cond b false (starts_inside w s || (is_before w.start (seq_add s n) && is_not_after (seq_add s n) w.end)) ≡ true → 0 < n → IsInside w.start.0 (seq_sub w.end w.start) s.0 n
      full true q h z = absurd cc
      full false q h z =
          let apart : (w.start.0 ≡ w.end.0 → ⊥) = λ h. grind (arith, nat_tests, q, h) in
          inr (inr (z, positive apart, ⊎_elim (λ k. inl (starts apart k)) (λ k. inr (ends apart k)) (either (starts_inside w s) _ h)))

      go : (b : Bool) → (n == 0) ≡ b → IsInside w.start.0 (seq_sub w.end w.start) s.0 n
      go true e = empty (seq_eq s (seq_minus w.start 1)) refl (seq_eq w.start w.end) refl (ap (λ b. cond b (empty_inside w s) (full_inside w s (seq_add s n))) (sym e) ∙ inside) (eqb-true n 0 e)
      go false e = full (seq_eq w.start w.end) refl (ap (λ b. cond b (empty_inside w s) (full_inside w s (seq_add s n))) (sym e) ∙ inside) (grind (arith, nat_tests, e))

-- ---- what joins

-- no bytes come, or they are refused, or they are taken in
pub data Comes (b c : Received) (o : ℕ) (bs : List ℕ) : Type 0 where
  NoBytes : bs ≡ [] → c ≡ b → Comes b c o bs
  TurnedAway : 0 < o → c ≡ b → Comes b c o bs
  Joins : 0 < length bs → TakesIn b c o bs → Comes b c o bs

empty_list : (bs : List ℕ) → (length bs == 0) ≡ true → bs ≡ []
empty_list [] e = refl
empty_list (x ∷ bs) e = absurd (omega (arith, eqb-true (length (x ∷ bs)) 0 e))

not_at_zero : (b : Received) (o : ℕ) (bs : List ℕ) → makes_fifth_range b o bs ≡ true → 0 < o
unfolding makes_fifth_range
not_at_zero b o bs e = let t = both (not (o == 0)) _ e in grind (arith, nat_tests, t.0)

pub stays_so : (b : Received) (o : ℕ) (bs : List ℕ) → makes_fifth_range b o bs ≡ true → taken_in b o bs ≡ b
unfolding taken_in
stays_so b o bs e = ap (λ t. cond t b (gathered (received b.bytes (written b.held o bs) b.until_end))) e

pub comes : (b : Received) (o : ℕ) (bs : List ℕ) → o + length bs ≤ length b.held → Comes b (brought b o bs) o bs
comes b o bs fits = go (length bs == 0) refl
  where
    taken : 0 < length bs → (t : Bool) → makes_fifth_range b o bs ≡ t → Comes b (taken_in b o bs) o bs
    taken some true e = TurnedAway (not_at_zero b o bs e) (stays_so b o bs e)
    taken some false e = Joins some (takes_in_all b o bs fits e)

    go : (t : Bool) → (length bs == 0) ≡ t → Comes b (if t then b else taken_in b o bs) o bs
    go true e = NoBytes (empty_list bs e) refl
    go false e = taken (grind (arith, nat_tests, e)) (makes_fifth_range b o bs) refl

pub grows : (b c : Received) (o : ℕ) (bs : List ℕ) → Comes b c o bs → length b.bytes ≤ length c.bytes
grows b c o bs (NoBytes e same) = omega (arith, ap (λ (z : Received). length z.bytes) same)
grows b c o bs (TurnedAway p same) = omega (arith, ap (λ (z : Received). length z.bytes) same)
grows b c o bs (Joins some t) = omega (arith, ap length t.queue, length-append b.bytes t.run)

abbrev pub with_received : SocketView → Received → SocketView
with_received x b = record x { receive_queue = b.bytes; held = byte_at b.held }

-- the two ways of a cut
abbrev CutJoins : SocketView → SocketView → Received → Received → ℕ → List ℕ → Type 0
CutJoins x y b c o bs = ((c.bytes ≡ b.bytes) × (byte_at c.held ≡ byte_at b.held) × ((bs ≡ []) ⊎ (0 < o))) ⊎ ((0 < length bs) × Gathers (with_received x b) (with_received y c) o bs)

-- whether y has counted the segment's FIN, where x had not
pub record FinCounts (x y : SocketView) (g : StreamSegment) (r : ℕ) : Type 0 where
  pub fin : y.fin_counted ≡ true
      → (x.fin_counted ≡ true)
      ⊎ ((g.fin ≡ true) × (number_is_before x.rcv_nxt g.seq ≡ false) × (number_is_before r (segment_end g) ≡ false))
  pub kept : x.fin_counted ≡ true → y.fin_counted ≡ true
  pub fins : ℕ
  pub counts : fin_length y.fin_counted ≡ fin_length x.fin_counted + fins

-- so a segment inside the window is heard
pub cut_heard : (x y : SocketView) (g : StreamSegment) (win o : ℕ) (bs : List ℕ) (b c : Received) → Comes b c o bs → x.rcv_nxt < 2 ^ 32 → g.seq < 2 ^ 32 → win ≤ 2 ^ 30 → length g.payload ≤ 65535 → IsInside x.rcv_nxt win g.seq (length g.payload)
    → cut x.rcv_nxt ((x.rcv_nxt + win) % 2 ^ 32) g ≡ bs → cut_offset x.rcv_nxt g ≡ o → (f : FinCounts x y g ((x.rcv_nxt + win) % 2 ^ 32)) → y.rcv_nxt ≡ (x.rcv_nxt + (length c.bytes - length b.bytes) + f.fins) % 2 ^ 32 → HearsData (with_received x b) (with_received y c) g
cut_heard x y g win o bs b c come nxt_small seq_small win_small short inside cut_is offset_is f nxt = takes_hears (with_received x b) (with_received y c) g win (record {
  rcv_nxt_small = nxt_small;
  seq_small = seq_small;
  win_small = win_small;
  payload = short;
  inside = inside;
  joins = joins come;
  fin = f.fin;
  kept = f.kept;
  fins = f.fins;
  fin_counts = f.counts;
  rcv_nxt = nxt;
})
  where
    joined : Comes b c o bs → CutJoins x y b c o bs
    joined (NoBytes e same) = inl (ap (λ (z : Received). z.bytes) same, ap (λ (z : Received). byte_at z.held) same, inl e)
    joined (TurnedAway p same) = inl (ap (λ (z : Received). z.bytes) same, ap (λ (z : Received). byte_at z.held) same, inr p)
    joined (Joins some t) = inr (some, record { more = t.run; receive_queue = t.queue; run = t.joined; stops = t.stops; held = t.held })

    joins : Comes b c o bs → CutJoins x y b c (cut_offset x.rcv_nxt g) (cut x.rcv_nxt ((x.rcv_nxt + win) % 2 ^ 32) g)
    joins d = subst (λ k. CutJoins x y b c k (cut x.rcv_nxt ((x.rcv_nxt + win) % 2 ^ 32) g)) (sym offset_is) (subst (λ ys. CutJoins x y b c o ys) (sym cut_is) (joined d))
