-- The ranges that a side told, heard by the other: its scoreboard says of no byte more than was told, at its place.
use Rattle.std.proofs.Common.{◌≡◌, ◌⊎◌, ℕ, ◌+◌, ◌-◌, ◌<◌, ◌≤◌, ◌%◌, ◌^◌, arith, List, [], ◌∷◌, length, Bool, true, refl, ap, subst, ◌∙◌, Option, Some, None, inl, inr, length-drop}
use Rattle.std.specs.Prelude.{nat_lt, nat_le, ◌&&◌}
use Rattle.std.proofs.lemmas.Bool.{and_parts, cases_lt, leb-true, ltb-true}
use Rattle.control_wire.specs.Seq.{seq_of, seq_sub}
use Rattle.control_wire.specs.declared.seq_number.TcpSeqNumber.{TcpSeqNumber}
use Rattle.sock_core.specs.Places.{number_at, number_distance}
use Rattle.sock_core.specs.Streams.{fin_length}
use Rattle.sock_core.proofs.Numbers.{distance_down, distance_up, number_below}
use Rattle.sock_tcp.specs.Rfc.Scoreboard.{block_from, is_credible}
use Rattle.tcp_laws.specs.Loss.{Covers, IsInAny}
use Rattle.pair_core.specs.Network.{Endpoint}
use Rattle.pair_core.specs.NetworkInvariant.{PhaseAllows, SndUnaAt, StreamInvariant}
use Rattle.pair_core.specs.StreamCalls.{HearEffect, Nothing, Data, Acknowledgement, FallBack, Syn, SynAlone, SynAck}
use Rattle.pair_core.specs.StreamEffects.{AcksBytes, AcksFin, AcksSyn, HearsAck}
use Rattle.pair_core.specs.StreamModel.{Stream}
use Rattle.pair_core.specs.StreamViews.{Unopened, Listening, SynSent, SynReceived, Open, FinQueued, Silent, Dead, HasIss, HasNoIss, IsSynchronized, Phase, SocketView, StreamSegment}
use Rattle.pair_core.proofs.NetworkPhases.{synchronized_knows}
use Rattle.sack_laws.specs.Told.{AllTrue, AreTrue, IsTrueRange, IsTwiceRange, counted_by, has_byte}
use Rattle.sack_laws.proofs.Heard.{has_accepted}

pub iss_is : (p : Phase) → HasNoIss p ⊎ (HasIss p ⊎ (p ≡ Dead))
iss_is Unopened = inl tt
iss_is Listening = inl tt
iss_is SynSent = inr (inl tt)
iss_is SynReceived = inr (inl tt)
iss_is Open = inr (inl tt)
iss_is FinQueued = inr (inl tt)
iss_is Silent = inr (inl tt)
iss_is Dead = inr (inr refl)

module _ (x y : Endpoint) (o : ℕ) (f : Stream) (i : StreamInvariant x y o f) where
  -- SND.UNA stands on the first byte that was not released
  pub record Placed : Type 0 where
    pub iss : HasIss x.view.phase
    pub at : (i.sending iss).place ≡ f.released + 2

  pub placed_number : Placed → x.view.snd_una ≡ number_at o (x.released + 2)
  placed_number p = (i.sending p.iss).snd_una ∙ ap (number_at o) {x = (i.sending p.iss).place} {y = x.released + 2} (omega (arith, p.at, i.released))

  -- so it does once a byte was accepted, and before the own FIN is acknowledged
  pub placed : (x.view.phase ≡ Dead → ⊥) → (x.view.phase ≡ Silent → ⊥) → (n : ℕ) → n < length x.accepted → Placed
  placed alive speaking n some = by (iss_is x.view.phase)
    where
      at_place : (iss : HasIss x.view.phase) → SndUnaAt x.view f (i.sending iss).place → Placed
      at_place iss (inl a) = absurd (omega (arith, some, ap length a.1, ap length i.accepted))
      at_place iss (inr (inl a)) = record { iss = iss; at = a }
      at_place iss (inr (inr a)) = absurd (speaking a.2)

      by : HasNoIss x.view.phase ⊎ (HasIss x.view.phase ⊎ (x.view.phase ≡ Dead)) → Placed
      by (inl none) = absurd (omega (arith, some, ap length (i.unsent none).accepted, ap length i.accepted))
      by (inr (inl iss)) = at_place iss (i.sending iss).at
      by (inr (inr d)) = absurd (alive d)

  -- ---- one range, of which n bytes behind SND.UNA may be believed

  module _ (una : TcpSeqNumber) (low n : ℕ) (young : y.taken < low + 2 ^ 29) (bound : n ≤ 2 ^ 30 + 1) (most : n ≤ length x.accepted + 1) (synced : IsSynchronized y.view.phase) (place : (k : ℕ) → k < length x.accepted → una.0 ≡ number_at o (x.released + 2)) where
    number_of : (r first : ℕ) → r < 2 ^ 32 → (r + counted_by y) % 2 ^ 32 ≡ (y.view.rcv_nxt + first) % 2 ^ 32 → r ≡ number_at o (first + 2)
    unfolding number_at
    number_of r first small e =
        let m = i.receiving (synchronized_knows y.view.phase synced) in
        omega (arith, small, e, m.rcv_nxt, i.taken, ap fin_length m.fin)

    module _ (r : ℕ × ℕ) (t : IsTrueRange y low r) where
      last : t.first + t.len ≤ length x.accepted
      last = let h = has_accepted x y o f i (t.first + (t.len - 1)) synced (t.there (t.len - 1) (omega (arith, t.some))) in omega (arith, h, t.some)

      una_is : una.0 ≡ number_at o (x.released + 2)
      una_is = place t.first (omega (arith, last, t.some))

      room : length x.accepted ≤ x.released + 2 ^ 30
      room = omega (arith, i.fits.room, ap length i.accepted, i.released)

      released_le : x.released ≤ y.taken
      released_le = omega (arith, i.sound.released, i.released, i.taken)

      start_is : seq_sub (seq_of r.0) una ≡ number_distance (number_at o (t.first + 2)) (number_at o (x.released + 2))
      unfolding number_distance
      start_is = λ j. (number_of r.0 t.first t.small.0 t.begins j + (2 ^ 32 - una_is j)) % 2 ^ 32

      end_is : seq_sub (seq_of r.1) una ≡ number_distance (number_at o (t.first + t.len + 2)) (number_at o (x.released + 2))
      unfolding number_distance
      end_is = λ j. (number_of r.1 (t.first + t.len) t.small.1 t.ends j + (2 ^ 32 - una_is j)) % 2 ^ 32

      pub in_range : (z : ℕ) → is_credible n (block_from una r) ≡ true → Covers (block_from una r) z → has_byte y (x.released + z) ≡ true
      in_range z c h = by (cases_lt t.first x.released)
        where
          believed : (nat_lt 0 (seq_sub (seq_of r.0) una) ≡ true) × ((nat_lt (seq_sub (seq_of r.0) una) (seq_sub (seq_of r.1) una) && nat_le (seq_sub (seq_of r.1) una) n) ≡ true)
          believed = and_parts (nat_lt 0 (seq_sub (seq_of r.0) una)) (nat_lt (seq_sub (seq_of r.0) una) (seq_sub (seq_of r.1) una) && nat_le (seq_sub (seq_of r.1) una) n) c

          both : (nat_lt (seq_sub (seq_of r.0) una) (seq_sub (seq_of r.1) una) ≡ true) × (nat_le (seq_sub (seq_of r.1) una) n ≡ true)
          both = and_parts (nat_lt (seq_sub (seq_of r.0) una) (seq_sub (seq_of r.1) una)) (nat_le (seq_sub (seq_of r.1) una) n) believed.1

          less : seq_sub (seq_of r.0) una < seq_sub (seq_of r.1) una
          less = ltb-true (seq_sub (seq_of r.0) una) (seq_sub (seq_of r.1) una) both.0

          upto : seq_sub (seq_of r.1) una ≤ n
          upto = leb-true (seq_sub (seq_of r.1) una) n both.1

          by : (t.first < x.released) ⊎ (x.released ≤ t.first) → has_byte y (x.released + z) ≡ true
          by (inl behind) =
              let start = start_is ∙ distance_down o (t.first + 2) (x.released + 2) (omega (arith, behind)) (omega (arith, young, released_le, t.since)) in
              absurd (omega (arith, start, less, upto, bound, young, released_le, t.since, behind))
          by (inr ahead) =
              let start = start_is ∙ distance_up o (t.first + 2) (x.released + 2) (omega (arith, ahead)) (omega (arith, last, room, t.some)) in
              let end = end_is ∙ distance_up o (t.first + t.len + 2) (x.released + 2) (omega (arith, ahead)) (omega (arith, last, room, t.some)) in
              let from : t.first ≤ x.released + z = omega (arith, h.0, start, ahead) in
              let to : x.released + z - t.first < t.len = omega (arith, h.1, end, ahead, from) in
              subst (λ k. has_byte y k ≡ true) {x = t.first + (x.released + z - t.first)} {y = x.released + z} (omega (arith, from)) (t.there (x.released + z - t.first) to)

    -- one of bytes that came twice: its counts have 2^32 added
    module _ (r : ℕ × ℕ) (t : IsTwiceRange y low r) where
      round : una.0 ≡ number_at o (x.released + 2) → una.0 ≡ number_at o (x.released + 2 ^ 32 + 2)
      unfolding number_at
      round e = omega (arith, e)

      module _ (z : ℕ) (c : is_credible n (block_from una r) ≡ true) (h : Covers (block_from una r) z) where
        believed : (nat_lt 0 (seq_sub (seq_of r.0) una) ≡ true) × ((nat_lt (seq_sub (seq_of r.0) una) (seq_sub (seq_of r.1) una) && nat_le (seq_sub (seq_of r.1) una) n) ≡ true)
        believed = and_parts (nat_lt 0 (seq_sub (seq_of r.0) una)) (nat_lt (seq_sub (seq_of r.0) una) (seq_sub (seq_of r.1) una) && nat_le (seq_sub (seq_of r.1) una) n) c

        both : (nat_lt (seq_sub (seq_of r.0) una) (seq_sub (seq_of r.1) una) ≡ true) × (nat_le (seq_sub (seq_of r.1) una) n ≡ true)
        both = and_parts (nat_lt (seq_sub (seq_of r.0) una) (seq_sub (seq_of r.1) una)) (nat_le (seq_sub (seq_of r.1) una) n) believed.1

        some : 0 < seq_sub (seq_of r.0) una
        some = ltb-true 0 (seq_sub (seq_of r.0) una) believed.0

        goes_up : seq_sub (seq_of r.0) una < seq_sub (seq_of r.1) una
        goes_up = ltb-true (seq_sub (seq_of r.0) una) (seq_sub (seq_of r.1) una) both.0

        upto : seq_sub (seq_of r.1) una ≤ n
        upto = leb-true (seq_sub (seq_of r.1) una) n both.1

        below : x.released ≤ y.taken
        below = omega (arith, i.sound.released, i.released, i.taken)

        module _ (any : 0 < length x.accepted) where
          here : una.0 ≡ number_at o (x.released + 2 ^ 32 + 2)
          here = round (place 0 any)

          from_here : seq_sub (seq_of r.0) una ≡ number_distance (number_at o (t.first + 2)) (number_at o (x.released + 2 ^ 32 + 2))
          unfolding number_distance
          from_here = λ j. (number_of r.0 t.first t.small.0 t.begins j + (2 ^ 32 - here j)) % 2 ^ 32

          to_here : seq_sub (seq_of r.1) una ≡ number_distance (number_at o (t.first + t.len + 2)) (number_at o (x.released + 2 ^ 32 + 2))
          unfolding number_distance
          to_here = λ j. (number_of r.1 (t.first + t.len) t.small.1 t.ends j + (2 ^ 32 - here j)) % 2 ^ 32

          ahead : x.released + 2 ^ 32 ≤ t.first → has_byte y (x.released + z) ≡ true
          ahead on =
              let last = has_accepted x y o f i (t.first + t.len - 1 - 2 ^ 32) synced (t.there (t.first + t.len - 1 - 2 ^ 32) (omega (arith, on, t.some)) (omega (arith, on, t.some))) in
              let room : length x.accepted ≤ x.released + 2 ^ 30 = omega (arith, i.fits.room, ap length i.accepted, i.released) in
              let start = from_here ∙ distance_up o (t.first + 2) (x.released + 2 ^ 32 + 2) (omega (arith, on)) (omega (arith, last, room, t.some, on)) in
              let end = to_here ∙ distance_up o (t.first + t.len + 2) (x.released + 2 ^ 32 + 2) (omega (arith, on)) (omega (arith, last, room, t.some, on)) in
              t.there (x.released + z) (omega (arith, h.0, start, on)) (omega (arith, h.1, end, on))

          by_place : (t.first < x.released + 2 ^ 32) ⊎ (x.released + 2 ^ 32 ≤ t.first) → has_byte y (x.released + z) ≡ true
          by_place (inl behind) =
              let start = from_here ∙ distance_down o (t.first + 2) (x.released + 2 ^ 32 + 2) (omega (arith, behind)) (omega (arith, young, below, t.since)) in
              absurd (omega (arith, start, goes_up, upto, bound, young, below, t.since, behind))
          by_place (inr on) = ahead on

        pub in_twice : has_byte y (x.released + z) ≡ true
        in_twice = by (cases_lt 0 (length x.accepted))
          where
            by : (0 < length x.accepted) ⊎ (length x.accepted ≤ 0) → has_byte y (x.released + z) ≡ true
            by (inl any) = by_place any (cases_lt t.first (x.released + 2 ^ 32))
            by (inr none) = absurd (omega (arith, none, most, some, goes_up, upto))

    pub in_any : (rs : List (Option (ℕ × ℕ))) → AllTrue y low rs → (z : ℕ) → IsInAny n una rs z → has_byte y (x.released + z) ≡ true
    in_any [] a z h = absurd h
    in_any (None ∷ rs) a z (inl h) = absurd h
    in_any (None ∷ rs) a z (inr h) = in_any rs a z h
    in_any (Some r ∷ rs) a z (inl h) = in_range r a.0 z h.0 h.1
    in_any (Some r ∷ rs) a z (inr h) = in_any rs a.1 z h

    pub in_these : (rs : List (Option (ℕ × ℕ))) → AreTrue y low rs → (z : ℕ) → IsInAny n una rs z → has_byte y (x.released + z) ≡ true
    in_these rs (inl a) z h = in_any rs a z h
    in_these rs (inr t) z h = by (subst (λ os. IsInAny n una os z) t.are h)
      where
        by : IsInAny n una (Some t.first ∷ t.others) z → has_byte y (x.released + z) ≡ true
        by (inl one) = in_twice t.first t.twice z one.0 one.1
        by (inr more) = in_any t.others t.all z more

  -- ---- SND.UNA moves by what is released

  no_place : (p : Phase) (place : ℕ) → (p ≡ SynSent) ⊎ (p ≡ SynReceived) → PhaseAllows p f place → place ≡ f.released + 2 → ⊥
  no_place p place (inl e) a at = let one = subst (λ q. PhaseAllows q f place) e a in omega (arith, one.0, at)
  no_place p place (inr e) a at = let one = subst (λ q. PhaseAllows q f place) e a in omega (arith, one.0, at)

  module _ (w : SocketView) (listener : Bool) (g : StreamSegment) (p : Placed) where
    abbrev moved : ℕ
    moved = (w.snd_una + (2 ^ 32 - x.view.snd_una)) % 2 ^ 32

    small : x.view.snd_una < 2 ^ 32
    small = omega (arith, placed_number p, number_below o (x.released + 2))

    fits : length x.view.transmit_queue ≤ 2 ^ 30
    fits = omega (arith, ap length (i.sending p.iss).queue, length-drop f.released f.accepted, i.fits.room)

    stays : w.snd_una ≡ x.view.snd_una → w.transmit_queue ≡ x.view.transmit_queue → moved ≡ length x.view.transmit_queue - length w.transmit_queue
    stays una queue = omega (arith, small, una, ap length queue)

    acked : HearsAck x.view w g → (w.phase ≡ Silent → ⊥) → moved ≡ length x.view.transmit_queue - length w.transmit_queue
    acked (AcksBytes a n ack le is phase una queue within) speaking = omega (arith, small, fits, le, is, una, ap length queue, length-drop n x.view.transmit_queue)
    acked (AcksSyn a ack is was now una queue within) speaking = absurd (no_place x.view.phase (i.sending p.iss).place was (i.sending p.iss).phase p.at)
    acked (AcksFin a ack is was now una queue within) speaking = absurd (speaking now)

    pub moves : HearEffect listener x.view w g → (w.phase ≡ Silent → ⊥) → moved ≡ length x.view.transmit_queue - length w.transmit_queue
    moves (Nothing is) speaking = stays (ap (λ (y : SocketView). y.snd_una) is) (ap (λ (y : SocketView). y.transmit_queue) is)
    moves (Data plain was d same) speaking = stays same.snd_una same.transmit_queue
    moves (Acknowledgement plain knows d a now) speaking = acked a speaking
    moves (FallBack r was l is) speaking = absurd (no_place x.view.phase (i.sending p.iss).place (inr was) (i.sending p.iss).phase p.at)
    moves (Syn iss less plain syn was is) speaking = absurd (subst HasIss was p.iss)
    moves (SynAlone n within plain syn was is) speaking = absurd (no_place x.view.phase (i.sending p.iss).place (inl was) (i.sending p.iss).phase p.at)
    moves (SynAck plain syn was a now nxt queue held fin) speaking = absurd (no_place x.view.phase (i.sending p.iss).place (inl was) (i.sending p.iss).phase p.at)
