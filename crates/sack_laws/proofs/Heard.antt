-- What a delivery keeps: what the side that hears a segment has grows, and its scoreboard says what the other has.
use Rattle.std.proofs.Common.{◌≡◌, ◌⊎◌, ℕ, ◌+◌, ◌-◌, ◌<◌, ◌≤◌, ◌%◌, ◌^◌, arith, List, [], ◌∷◌, length, Bool, true, false, true≢false, refl, sym, ap, subst, ◌∙◌, Option, Some, None, is_some, inl, inr, length-append}
use Rattle.std.specs.Prelude.{zero, suc, nat_lt, nat_le, ◌||◌, slice_get, if◌then◌else◌}
use Rattle.std.proofs.lemmas.Bool.{and_parts, cases_lt, leb-true, ltb-true}
use Rattle.std.proofs.lemmas.Bool.Decides.{nat_tests}
use Rattle.control_wire.specs.Segment.{Segment}
use Rattle.control_wire.specs.declared.seq_number.TcpSeqNumber.{TcpSeqNumber}
use Rattle.net_base.specs.Ranges.{is_within}
use Rattle.sock_core.specs.Received.{TakesIn, byte_at, merged}
use Rattle.sock_core.specs.Streams.{fin_length}
use Rattle.sock_core.proofs.Streams.{byte_within, le_from_at}
use Rattle.sock_tcp.specs.View.{View}
use Rattle.sock_tcp.specs.declared.rules.Rules.{Rules}
use Rattle.tcp_laws.specs.Laws.{MayTake}
use Rattle.tcp_laws.specs.Telling.{AllHeldIn, IsHeldRange}
use Rattle.tcp_laws.proofs.Repeating.{or_true}
use Rattle.pair_core.specs.Network.{Endpoint}
use Rattle.pair_core.specs.NetworkInvariant.{HasReceivedNothing, StreamInvariant}
use Rattle.pair_core.specs.StreamCalls.{HearEffect, Nothing, Data, Acknowledgement, FallBack, Syn, SynAlone, SynAck}
use Rattle.pair_core.specs.StreamEffects.{HearsData}
use Rattle.pair_core.specs.StreamModel.{Stream}
use Rattle.pair_core.specs.StreamViews.{Dead, IsNonSynchronized, IsSynchronized, KnowsPeer, SocketView, StreamSegment}
use Rattle.pair_core.proofs.NetworkPhases.{synchronized_knows}
use Rattle.sack_laws.specs.Told.{AllTrue, IsTrueRange, NoRange, TrueIn, has_byte}
use Rattle.sack_laws.proofs.Growing.{Follows, dead_true, none_true, nothing_in, phase_is, true_in}

-- ---- what a receiver has, its peer accepted

module _ (x y : Endpoint) (o : ℕ) (f : Stream) (i : StreamInvariant x y o f) where
  pub joined_le : length f.joined ≤ length x.accepted
  joined_le = omega (arith, le_from_at f.joined f.accepted i.sound.joined, ap length i.accepted)

  held_of : (k b : ℕ) → KnowsPeer y.view.phase → y.view.held k ≡ Some b → length f.joined + k < length x.accepted
  held_of k b knows e = omega (arith, byte_within f.accepted (length f.joined + k) b (i.sound.held (length f.joined + k) b (omega arith) ((i.receiving knows).held k b e)), ap length i.accepted)

  some_byte : (a : Option ℕ) → is_some a ≡ true → (b : ℕ) × (a ≡ Some b)
  some_byte None e = absurd (true≢false (sym e))
  some_byte (Some b) e = (b, refl)

  pub has_accepted : (n : ℕ) → IsSynchronized y.view.phase → has_byte y n ≡ true → n < length x.accepted
  has_accepted n synced h = by (or_true (nat_lt n y.taken) (is_some (y.view.held (n - y.taken))) h) (cases_lt n y.taken)
    where
      by : (nat_lt n y.taken ≡ true) ⊎ (is_some (y.view.held (n - y.taken)) ≡ true) → (n < y.taken) ⊎ (y.taken ≤ n) → n < length x.accepted
      by e (inl less) = omega (arith, less, i.taken, joined_le)
      by (inl e) (inr more) = absurd (let less : n < y.taken = ltb-true n y.taken e in omega (arith, less, more))
      by (inr e) (inr more) = let b = some_byte (y.view.held (n - y.taken)) e in omega (arith, held_of (n - y.taken) b.0 (synchronized_knows y.view.phase synced) b.1, i.taken, more)

  -- before any byte can have come it has none
  pub has_none : (n : ℕ) → IsNonSynchronized y.view.phase → has_byte y n ≡ true → ⊥
  has_none n early h = by (or_true (nat_lt n y.taken) (is_some (y.view.held (n - y.taken))) h)
    where
      none : HasReceivedNothing y f
      none = i.nothing_yet early

      by : (nat_lt n y.taken ≡ true) ⊎ (is_some (y.view.held (n - y.taken)) ≡ true) → ⊥
      by (inl e) = let less : n < y.taken = ltb-true n y.taken e in omega (arith, less, i.taken, ap length none.joined)
      by (inr e) = let b = some_byte (y.view.held (n - y.taken)) e in none.held (n - y.taken) b.0 b.1

  -- and once the FIN is counted it holds none
  pub fin_holds_none : (k : ℕ) → IsSynchronized y.view.phase → y.view.fin_counted ≡ true → is_some (y.view.held k) ≡ true → ⊥
  fin_holds_none k synced e h =
      let knows = synchronized_knows y.view.phase synced in
      let b = some_byte (y.view.held k) h in
      omega (arith, held_of k b.0 knows b.1, (i.sound.fin (sym (i.receiving knows).fin ∙ e)).1, ap length i.accepted)

-- ---- the side that hears a segment

-- what it has, by what it holds and how many bytes it took
abbrev has_of : (ℕ → Option ℕ) → ℕ → ℕ → Bool
has_of held taken n = nat_lt n taken || is_some (held (n - taken))

-- v became w
module _ (v w : View) (taken : ℕ) where
  abbrev then_taken : ℕ
  then_taken = taken + (length w.rx_buffer.bytes - length v.rx_buffer.bytes)

  first_true : (a b : Bool) → a ≡ true → (a || b) ≡ true
  first_true true b e = refl
  first_true false b e = absurd (true≢false (sym e))

  second_true : (a b : Bool) → b ≡ true → (a || b) ≡ true
  second_true true b e = refl
  second_true false b e = e

  is_less : (m n : ℕ) → m < n → nat_lt m n ≡ true
  is_less m n h = grind (arith, nat_tests, h)

  some_within : (xs : List ℕ) (k : ℕ) → k < length xs → is_some (slice_get xs k) ≡ true
  some_within [] k h = absurd (omega (arith, h))
  some_within (x ∷ xs) zero h = refl
  some_within (x ∷ xs) (suc k) h = some_within xs k (omega (arith, h))

  -- what was held is held or replaced
  merged_some : (hs : List (Option ℕ)) (o : ℕ) (ys : List ℕ) (k : ℕ) → is_some (byte_at hs k) ≡ true → is_some (merged hs o ys k) ≡ true
  merged_some hs o ys k h = go (is_within o (o + length ys) k) refl
    where
      go : (b : Bool) → is_within o (o + length ys) k ≡ b → is_some (if b then slice_get ys (k - o) else byte_at hs k) ≡ true
      go true e =
          let p = and_parts (nat_le o k) (nat_lt k (o + length ys)) e in
          let from : o ≤ k = leb-true o k p.0 in
          let to : k < o + length ys = ltb-true k (o + length ys) p.1 in
          some_within ys (k - o) (omega (arith, from, to))
      go false e = h

  takes_keeps : (o : ℕ) (ys : List ℕ) → TakesIn v.rx_buffer w.rx_buffer o ys → (n : ℕ) → has_of (byte_at v.rx_buffer.held) taken n ≡ true → has_of (byte_at w.rx_buffer.held) then_taken n ≡ true
  takes_keeps o ys t n h = by (or_true (nat_lt n taken) (is_some (byte_at v.rx_buffer.held (n - taken))) h) (cases_lt n taken) (cases_lt (n - taken) (length t.run))
    where
      grows : then_taken ≡ taken + length t.run
      grows = omega (arith, ap length t.queue, length-append v.rx_buffer.bytes t.run)

      here : n < then_taken → has_of (byte_at w.rx_buffer.held) then_taken n ≡ true
      here less = first_true (nat_lt n then_taken) _ (is_less n then_taken less)

      by : (nat_lt n taken ≡ true) ⊎ (is_some (byte_at v.rx_buffer.held (n - taken)) ≡ true) → (n < taken) ⊎ (taken ≤ n) → (n - taken < length t.run) ⊎ (length t.run ≤ n - taken) → has_of (byte_at w.rx_buffer.held) then_taken n ≡ true
      by e (inl less) r = here (omega (arith, less, grows))
      by (inl e) (inr more) r = absurd (let less : n < taken = ltb-true n taken e in omega (arith, less, more))
      by (inr e) (inr more) (inl joined) = here (omega (arith, more, joined, grows))
      by (inr e) (inr more) (inr behind) =
          let d : length t.run + (n - then_taken) ≡ n - taken = omega (arith, more, behind, grows) in
          second_true (nat_lt n then_taken) _
          (ap is_some (t.held (n - then_taken) ∙ ap (merged v.rx_buffer.held o ys) d) ∙ merged_some v.rx_buffer.held o ys (n - taken) e)

  pub may_keeps : (r : Rules) (s : Segment) → MayTake r v s w → (n : ℕ) → has_of (byte_at v.rx_buffer.held) taken n ≡ true → has_of (byte_at w.rx_buffer.held) then_taken n ≡ true
  may_keeps r s (inl is) n h =
      let none : then_taken ≡ taken = omega (arith, ap (λ b. length b.bytes) is) in
      (λ j. nat_lt n (none j) || is_some (byte_at (is j).held (n - none j))) ∙ h
  may_keeps r s (inr t) n h = takes_keeps _ _ t.takes n h

-- ---- RCV.NXT and what it counted move together

module _ (e f : Endpoint) (g : StreamSegment) (listener : Bool) (taken : f.taken ≡ e.taken + (length f.view.receive_queue - length e.view.receive_queue)) where
  data_follows : HearsData e.view f.view g → IsSynchronized f.view.phase → Follows e f
  data_follows d synced = record {
    synced = synced;
    more = length d.more + d.fins;
    counted = omega (arith, taken, ap length d.receive_queue, length-append e.view.receive_queue d.more, d.fin_counts);
    rcv_nxt = omega (arith, d.rcv_nxt);
  }

  pub hears_follows : HearEffect listener e.view f.view g → IsSynchronized e.view.phase → Follows e f
  hears_follows (Nothing is) synced = record {
    synced = subst (λ (y : SocketView). IsSynchronized y.phase) (sym is) synced;
    more = 0;
    counted = omega (arith, taken, ap (λ (y : SocketView). length y.receive_queue) is, ap (λ (y : SocketView). fin_length y.fin_counted) is);
    rcv_nxt = ap (λ n. n % 2 ^ 32) {x = f.view.rcv_nxt} {y = e.view.rcv_nxt + 0} (omega (arith, ap (λ (y : SocketView). y.rcv_nxt) is));
  }
  hears_follows (Data plain was d same) synced = data_follows d (subst IsSynchronized (sym same.phase) synced)
  hears_follows (Acknowledgement plain knows d a now) synced = data_follows d now
  hears_follows (FallBack r was l is) synced = absurd (subst IsSynchronized was synced)
  hears_follows (Syn iss small plain syn was is) synced = absurd (subst IsSynchronized was synced)
  hears_follows (SynAlone n within plain syn was is) synced = absurd (subst IsSynchronized was synced)
  hears_follows (SynAck plain syn was a now nxt queue held fin) synced = absurd (subst IsSynchronized was synced)

-- ---- what it answers

-- a range that it holds, where no FIN is counted
module _ (f : Endpoint) (nxt : TcpSeqNumber) (held : List (Option ℕ)) (numbers : f.view.rcv_nxt ≡ nxt.0) (holds : f.view.held ≡ byte_at held) where
  held_true : f.view.fin_counted ≡ false → (r : ℕ × ℕ) → IsHeldRange nxt held r → IsTrueRange f f.taken r
  held_true fin r h = record {
    first = f.taken + h.start;
    len = h.len;
    some = h.some;
    since = omega arith;
    small = (omega (arith, h.begins), omega (arith, h.ends));
    begins = omega (arith, h.begins, numbers, ap fin_length fin);
    ends = omega (arith, h.ends, numbers, ap fin_length fin);
    there = λ k less. second (nat_lt (f.taken + h.start + k) f.taken) _
        (ap is_some (ap (λ (b : ℕ → Option ℕ). b (f.taken + h.start + k - f.taken)) holds ∙ ap (byte_at held) {x = f.taken + h.start + k - f.taken} {y = h.start + k} (omega arith)) ∙ h.all k less);
  }
    where
      second : (a b : Bool) → b ≡ true → (a || b) ≡ true
      second true b e = refl
      second false b e = e

  all_held : f.view.fin_counted ≡ false → (rs : List (Option (ℕ × ℕ))) → AllHeldIn nxt held rs → AllTrue f f.taken rs
  all_held fin [] h = tt
  all_held fin (None ∷ rs) h = all_held fin rs h
  all_held fin (Some r ∷ rs) h = (held_true fin r h.0, all_held fin rs h.1)

  none_held : ((k : ℕ) → is_some (f.view.held k) ≡ true → ⊥) → (rs : List (Option (ℕ × ℕ))) → AllHeldIn nxt held rs → NoRange rs
  none_held none [] h = tt
  none_held none (None ∷ rs) h = none_held none rs h
  none_held none (Some r ∷ rs) h = none (h.0.start + 0) (ap is_some (ap (λ (b : ℕ → Option ℕ). b (h.0.start + 0)) holds) ∙ h.0.all 0 h.0.some)

  -- of the stream from x
  pub others_true : (x : Endpoint) (o : ℕ) (s : Stream) → StreamInvariant x f o s → (rs : List (Option (ℕ × ℕ))) → AllHeldIn nxt held rs → IsSynchronized f.view.phase → AllTrue f f.taken rs
  others_true x o s i rs h synced = by_fin f.view.fin_counted refl
    where
      by_fin : (b : Bool) → f.view.fin_counted ≡ b → AllTrue f f.taken rs
      by_fin true e = none_true f f.taken rs (none_held (λ k. fin_holds_none x f o s i k synced e) rs h)
      by_fin false e = all_held e rs h

  pub answer_true : (x : Endpoint) (o : ℕ) (s : Stream) → StreamInvariant x f o s → (rs : List (Option (ℕ × ℕ))) → AllHeldIn nxt held rs → TrueIn f.view.phase f f.taken rs
  answer_true x o s i rs h = by (phase_is f.view.phase)
    where
      some_of : (a : Option ℕ) → is_some a ≡ true → (b : ℕ) × (a ≡ Some b)
      some_of None e = absurd (true≢false (sym e))
      some_of (Some b) e = (b, refl)

      early_none : IsNonSynchronized f.view.phase → (k : ℕ) → is_some (f.view.held k) ≡ true → ⊥
      early_none early k e = let b = some_of (f.view.held k) e in (i.nothing_yet early).held k b.0 b.1

      by : IsNonSynchronized f.view.phase ⊎ (IsSynchronized f.view.phase ⊎ (f.view.phase ≡ Dead)) → TrueIn f.view.phase f f.taken rs
      by (inl early) = nothing_in f.view.phase f f.taken rs (none_held (early_none early) rs h)
      by (inr (inl synced)) = true_in f.view.phase f f.taken rs synced (inl (others_true x o s i rs h synced))
      by (inr (inr d)) = dead_true f.view.phase f f.taken rs d
