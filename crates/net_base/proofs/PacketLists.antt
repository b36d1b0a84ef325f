-- Lemmas on what a contract sees of a packet buffer.
use Rattle.std.proofs.Common.{◌≡◌, ℕ, ◌+◌, ◌-◌, ◌<◌, ◌≤◌, Bool, true, false, cond, eq-eqb, List, [], ◌∷◌, ◌++◌, length, take, drop, Option, None, Some, refl, sym, ap, subst, ◌∙◌, inl, inr, arith, length-append, length-drop, length-take-le}
use Rattle.std.proofs.lemmas.Bool.{cases_lt, false≢true}
use Rattle.std.proofs.lemmas.Bool.Decides.{nat_tests}
use Rattle.std.specs.Prelude.{◌==◌, ◌&&◌, ◌||◌, not, nat_le, nat_lt, is_none, if◌then◌else◌}
use Rattle.net_base.specs.Packets.{Packets, packets_with, taken, place_of, end_of, run_of, room_of, first_bytes, starts_padded, put_packet, packets, Enqueues, without_first, skipped_from, skipped, restarted, fits_behind, fits, padded_for, made_room, takes, appended, AppendsWith}
use Rattle.net_base.proofs.Around.{place_of-high, place_of-low, place_of-place_of, place_of-within}

module _ {X : Type 0} where
  pub restarted-none : (p : Packets X) → taken p.entries ≡ 0 → restarted p ≡ packets_with p.entries p.places p.storage 0
  unfolding restarted
  restarted-none p none = ap (λ b. cond b (packets_with p.entries p.places p.storage 0) p) (eq-eqb (taken p.entries) 0 none)

  pub restarted-some : (p : Packets X) → (taken p.entries ≡ 0 → ⊥) → restarted p ≡ p
  unfolding restarted
  restarted-some p some = ap (λ b. cond b (packets_with p.entries p.places p.storage 0) p) {x = taken p.entries == 0} {y = false} (grind (arith, nat_tests, some))

  pub restarted-entries : (p : Packets X) → (restarted p).entries ≡ p.entries
  unfolding restarted
  restarted-entries p = elim (taken p.entries == 0) as (λ b. (cond b (packets_with p.entries p.places p.storage 0) p).entries ≡ p.entries) [ true ↦ refl | false ↦ refl ]

  pub restarted-places : (p : Packets X) → (restarted p).places ≡ p.places
  unfolding restarted
  restarted-places p = elim (taken p.entries == 0) as (λ b. (cond b (packets_with p.entries p.places p.storage 0) p).places ≡ p.places) [ true ↦ refl | false ↦ refl ]

  pub restarted-storage : (p : Packets X) → (restarted p).storage ≡ p.storage
  unfolding restarted
  restarted-storage p = elim (taken p.entries == 0) as (λ b. (cond b (packets_with p.entries p.places p.storage 0) p).storage ≡ p.storage) [ true ↦ refl | false ↦ refl ]

  -- making room changes no payload byte, and no packet
  pub made_room-storage : (size : ℕ) (p : Packets X) → (made_room size p).storage ≡ p.storage
  unfolding made_room padded_for
  made_room-storage size p =
      elim (takes size p) as (λ b. (cond b (cond (fits_behind size (restarted p)) (restarted p) (appended None (run_of (restarted p)) (restarted p))) p).storage ≡ p.storage) [
        | false ↦ refl
        | true ↦ elim (fits_behind size (restarted p)) as (λ b. (cond b (restarted p) (appended None (run_of (restarted p)) (restarted p))).storage ≡ p.storage) [ true ↦ restarted-storage p | false ↦ restarted-storage p ]
      ]

  -- where there is none, nothing changes
  pub refused_room : (size : ℕ) (p : Packets X) → takes size p ≡ false → made_room size p ≡ p
  unfolding made_room
  refused_room size p h = ap (λ b. if b then padded_for size (restarted p) else p) h

  -- no place is left
  pub takes_full : (size : ℕ) (p : Packets X) → (length p.entries == p.places) ≡ true → takes size p ≡ false
  unfolding takes
  takes_full size p h = ap (λ b. not b && fits size (restarted p)) h

  pub made_room_full : (size : ℕ) (p : Packets X) → (length p.entries == p.places) ≡ true → made_room size p ≡ p
  made_room_full size p h = refused_room size p (takes_full size p h)

  -- a place is left, and some payload bytes are taken
  pub takes_some : (size : ℕ) (p : Packets X) → (length p.entries == p.places) ≡ false → (taken p.entries == 0) ≡ false → takes size p ≡ fits size p
  unfolding takes restarted
  takes_some size p h some = ap (λ b. not b && fits size (restarted p)) h ∙ ap (λ b. fits size (cond b (packets_with p.entries p.places p.storage 0) p)) some

  pub made_room_some : (size : ℕ) (p : Packets X) → (length p.entries == p.places) ≡ false → (taken p.entries == 0) ≡ false → made_room size p ≡ (if fits size p then padded_for size p else p)
  unfolding made_room restarted
  made_room_some size p h some = ap (λ b. if b then padded_for size (restarted p) else p) (takes_some size p h some) ∙ ap (λ b. if fits size p then padded_for size (cond b (packets_with p.entries p.places p.storage 0) p) else p) some

  packets-padded : (es : List (Option X × List ℕ)) (bs : List ℕ) → packets (es ++ (None, bs) ∷ []) ≡ packets es
  packets-padded [] bs = refl
  packets-padded (e ∷ es) bs = ap (put_packet e.0 e.1) (packets-padded es bs)

  put-append : (o : Option X) (bs : List ℕ) (ps qs : List (X × List ℕ)) → put_packet o bs (ps ++ qs) ≡ put_packet o bs ps ++ qs
  put-append None bs ps qs = refl
  put-append (Some h) bs ps qs = refl

  pub packets-append : (es : List (Option X × List ℕ)) (h : X) (bs : List ℕ) → packets (es ++ (Some h, bs) ∷ []) ≡ packets es ++ (h, bs) ∷ []
  packets-append [] h bs = refl
  packets-append (e ∷ es) h bs = ap (put_packet e.0 e.1) (packets-append es h bs) ∙ put-append e.0 e.1 (packets es) ((h, bs) ∷ [])

  pub made_room_packets : (size : ℕ) (p : Packets X) → packets (made_room size p).entries ≡ packets p.entries
  unfolding made_room padded_for
  made_room_packets size p =
      let same : packets (restarted p).entries ≡ packets p.entries = ap (λ (es : List (Option X × List ℕ)). packets es) (restarted-entries p) in
      elim (takes size p) as (λ b. packets (cond b (cond (fits_behind size (restarted p)) (restarted p) (appended None (run_of (restarted p)) (restarted p))) p).entries ≡ packets p.entries) [
        | false ↦ refl
        | true ↦ elim (fits_behind size (restarted p)) as (λ b. packets (cond b (restarted p) (appended None (run_of (restarted p)) (restarted p))).entries ≡ packets p.entries) [ true ↦ same | false ↦ packets-padded (restarted p).entries _ ∙ same ]
      ]

  -- with a free place and no payload byte taken, exactly what the storage holds fits
  pub takes_empty : (size : ℕ) (p : Packets X) → length p.entries < p.places → taken p.entries ≡ 0 → takes size p ≡ nat_le size (length p.storage)
  unfolding takes
  takes_empty size p free none =
      let m = length p.storage in
      let fresh : Packets X = packets_with p.entries p.places p.storage 0 in
      let first : place_of m 0 (taken p.entries) ≡ 0 = ap (place_of m 0) none ∙ first_place m in
      let run : run_of fresh ≡ m = omega (arith, none, first) in
      let room : room_of fresh ≡ m = omega (arith, none) in
      let open_place : (length p.entries == p.places) ≡ false = grind (arith, nat_tests) in
      ap (λ b. not b && fits size (restarted p)) open_place ∙ ap (fits size) (restarted-none p none)
      ∙ (λ i. nat_le size (run i) || (nat_le size (room i - run i) && nat_lt (length p.entries + 1) p.places))
      ∙ only (nat_lt (length p.entries + 1) p.places)
    where
      first_place : (m : ℕ) → place_of m 0 0 ≡ 0
      first_place m = elim (cases_lt (0 + 0) m) [ inl low ↦ place_of-low m 0 0 low | inr high ↦ place_of-high m 0 0 high ∙ omega arith ]

      only : (b : Bool) → (nat_le size (length p.storage) || (nat_le size (length p.storage - length p.storage) && b)) ≡ nat_le size (length p.storage)
      only b = grind (arith, nat_tests)

  -- of an empty payload ring all of the storage is one run
  pub run_empty : (p q : Packets X) → taken p.entries ≡ 0 → q ≡ restarted p → run_of q ≡ length p.storage
  run_empty p q none is =
      let m = length p.storage in
      let first : place_of m 0 (taken p.entries) ≡ 0 = ap (place_of m 0) none ∙ first_place m in
      let fresh : q ≡ packets_with p.entries p.places p.storage 0 = is ∙ restarted-none p none in
      ap run_of fresh ∙ omega (arith, none, first)
    where
      first_place : (m : ℕ) → place_of m 0 0 ≡ 0
      first_place m = elim (cases_lt (0 + 0) m) [ inl low ↦ place_of-low m 0 0 low | inr high ↦ place_of-high m 0 0 high ∙ omega arith ]

  -- with a free place and no payload byte taken, size bytes fit just where the storage has as many
  module _ (size : ℕ) (p : Packets X) (free : length p.entries < p.places) (none : taken p.entries ≡ 0) where
    pub takes_bare : size ≤ length p.storage → true ≡ takes size p
    takes_bare le = sym (takes_empty size p free none ∙ grind (arith, nat_tests, le))

    pub refuses_bare : length p.storage < size → false ≡ takes size p
    refuses_bare lt = sym (takes_empty size p free none ∙ grind (arith, nat_tests, lt))

    pub stays_bare : length p.storage < size → p ≡ made_room size p
    stays_bare lt = sym (refused_room size p (sym (refuses_bare lt)))

    pub restarts_bare : (q : Packets X) → q ≡ restarted p → size ≤ length p.storage → q ≡ made_room size p
    unfolding made_room padded_for
    restarts_bare q is le =
        let b : fits_behind size (restarted p) ≡ true = ap (λ n. nat_le size n) (run_empty p (restarted p) none refl) ∙ grind (arith, nat_tests, le) in
        is ∙ sym (ap (λ b. if b then padded_for size (restarted p) else p) (sym (takes_bare le)) ∙ ap (λ b. if b then restarted p else appended None (run_of (restarted p)) (restarted p)) b)

    pub run_bare : (q : Packets X) → q ≡ restarted p → size ≤ length p.storage → size ≤ run_of q
    run_bare q is le = omega (arith, le, run_empty p q none is)

  pub enqueues : (called : List ℕ → ℕ → List ℕ → Type 0) (size : ℕ) (h : X) (p q : Packets X) (kept : ℕ) → AppendsWith called size (Some h) (made_room size p) kept q → Enqueues called size h p kept q
  enqueues called size h p q kept a = record {
    appends = a;
    packets = ap (λ (q : Packets X). packets q.entries) a.after ∙ packets-append (made_room size p).entries h (take kept a.left) ∙ ap (λ (l : List (X × List ℕ)). l ++ (h, take kept a.left) ∷ []) (made_room_packets size p);
  }

  pub lent_bytes : (size from : ℕ) (h : X) (p q : Packets X) (all : List ℕ) → from ≡ end_of (made_room size p) → q ≡ appended (Some h) size (made_room size p) → all ≡ q.storage
      → take (from + size - from) (drop from all) ≡ take size (drop (end_of (made_room size p)) p.storage)
  lent_bytes size from h p q all from_is q_is all_is =
      let n : from + size - from ≡ size = omega arith in
      let bytes : all ≡ p.storage = all_is ∙ ap (λ (q : Packets X). q.storage) q_is ∙ made_room-storage size p in
      (λ i. take (n i) (drop (from_is i) (bytes i)))

  pub taken-append : (es : List (Option X × List ℕ)) (e : Option X × List ℕ) → taken (es ++ e ∷ []) ≡ taken es + length e.1
  taken-append [] e = omega arith
  taken-append (x ∷ es) e = omega (arith, taken-append es e)

  -- with the run behind the entries made padding, the other free places stand behind them
  pub padded_run : (p : Packets X) (size : ℕ) → p.start ≤ length p.storage - 1 → taken p.entries ≤ length p.storage → run_of p < size → size ≤ room_of p - run_of p → size ≤ run_of (appended None (run_of p) p)
  padded_run p size start within short room =
      let m = length p.storage in
      let t = taken p.entries in
      let r = run_of p in
      let e = end_of p in
      let e_within : e ≤ m - 1 = place_of-within m p.start t start within in
      let one : length (take r (drop e p.storage)) ≡ r = length-take-le r (drop e p.storage) (omega (arith, length-drop e p.storage)) in
      let all : taken (p.entries ++ (None, take r (drop e p.storage)) ∷ []) ≡ t + r = taken-append p.entries (None, take r (drop e p.storage)) ∙ ap (λ n. t + n) one in
      let first : place_of m p.start (t + r) ≡ 0 = sym (place_of-place_of m p.start t r start (omega arith)) ∙ place_of-high m e r (omega arith) ∙ omega arith in
      let last : place_of m p.start (taken (p.entries ++ (None, take r (drop e p.storage)) ∷ [])) ≡ 0 = ap (place_of m p.start) all ∙ first in
      omega (arith, all, last)

  pub padded_place : (p q : Packets X) (run : ℕ) → q ≡ appended None run p → nat_lt (length p.entries + 1) p.places ≡ true → length q.entries < q.places
  padded_place p q run is h =
      let n : length (appended None run p).entries ≡ length p.entries + 1 = length-append p.entries ((None, take run (drop (end_of p) p.storage)) ∷ []) in
      subst (λ (q : Packets X). length q.entries < q.places) (sym is) (grind (arith, nat_tests, h, n))

  pub padded_room : (p q : Packets X) (size run room : ℕ) → q ≡ appended None run p → run ≡ run_of p → room ≡ room_of p → p.start ≤ length p.storage - 1 → taken p.entries ≤ length p.storage → run < size → size ≤ room - run → size ≤ run_of q
  padded_room p q size run room q_is run_is room_is start within short left =
      subst (λ (q : Packets X). size ≤ run_of q) (sym (q_is ∙ ap (λ r. appended None r p) run_is))
      (padded_run p size start within (subst (λ r. r < size) run_is short) (subst (λ r. size ≤ room_of p - r) run_is (subst (λ r. size ≤ r - run) room_is left)))

  -- one entry of padding less leaves the same
  step_from : (m k : ℕ) (es : List (Option X × List ℕ)) → starts_padded es ≡ true → skipped_from m (place_of m k (length (first_bytes es))) (drop 1 es) ≡ skipped_from m k es
  step_from m k [] h = absurd (false≢true h)
  step_from m k (e ∷ es) h = ap (λ b. cond b (skipped_from m (place_of m k (length e.1)) es) (e ∷ es, k)) (sym h)

  stay_from : (m k : ℕ) (es : List (Option X × List ℕ)) → starts_padded es ≡ false → skipped_from m k es ≡ (es, k)
  stay_from m k [] h = refl
  stay_from m k (e ∷ es) h = ap (λ b. cond b (skipped_from m (place_of m k (length e.1)) es) (e ∷ es, k)) h

  pub skipped_step : (p : Packets X) → starts_padded p.entries ≡ true → skipped (without_first p) ≡ skipped p
  unfolding skipped
  skipped_step p h = ap (λ (r : List (Option X × List ℕ) × ℕ). packets_with r.0 p.places p.storage r.1) (step_from (length p.storage) p.start p.entries h)

  pub skipped_stays : (p : Packets X) → starts_padded p.entries ≡ false → skipped p ≡ p
  unfolding skipped
  skipped_stays p h = ap (λ (r : List (Option X × List ℕ) × ℕ). packets_with r.0 p.places p.storage r.1) (stay_from (length p.storage) p.start p.entries h)

  -- padding is in no list of packets
  skip_packets : (m k : ℕ) (h : Option X) (bs : List ℕ) (es : List (Option X × List ℕ)) → packets (skipped_from m (place_of m k (length bs)) es).0 ≡ packets es
      → packets (cond (is_none h) (skipped_from m (place_of m k (length bs)) es) ((h, bs) ∷ es, k)).0 ≡ put_packet h bs (packets es)
  skip_packets m k None bs es same = same
  skip_packets m k (Some h) bs es same = refl

  packets_from : (m k : ℕ) (es : List (Option X × List ℕ)) → packets (skipped_from m k es).0 ≡ packets es
  packets_from m k [] = refl
  packets_from m k (e ∷ es) = skip_packets m k e.0 e.1 es (packets_from m (place_of m k (length e.1)) es)

  pub packets_skipped : (p : Packets X) → packets (skipped p).entries ≡ packets p.entries
  unfolding skipped
  packets_skipped p = packets_from (length p.storage) p.start p.entries

-- room for an entry where no payload byte is taken; and where some are
pub ruleset bare_room = (takes_bare, refuses_bare, stays_bare, restarts_bare, run_bare)

pub ruleset other_room = (takes_some, made_room_some, made_room_full, takes_full)
