-- Packets leave a queue in the order in which they came into it.
use Rattle.std.proofs.Common.{◌≡◌, ℕ, List, [], ◌∷◌, ◌++◌, length, map, take, drop, Bool, true, false, cond, Option, Some, Result, Ok, Err, refl, sym, ap, subst, ◌∙◌, append_assoc, append-nil}
use Rattle.std.proofs.lemmas.Bool.{false≢true}
use Rattle.std.proofs.lemmas.List.{map-append, take_at}
use Rattle.std.proofs.lemmas.Option.{none-some, same_Some}
use Rattle.std.specs.Borrow.{MutBor}
use Rattle.std.specs.Fn.{Once}
use Rattle.std.specs.Prelude.{◌+◌, IfOk, is_ok, nat_lt, slice_get, if◌then◌else◌}
use Rattle.net_base.specs.Packets.{Packets, packets}
use Rattle.net_base.specs.Ring.{overwrite}
use Rattle.sock_dgram.specs.Addressed as addressed
use Rattle.sock_dgram.specs.Datagrams.{answered, take_answer, copy_answer, copied, stored}
use Rattle.sock_dgram.specs.Transfers.{Cleared, Transfers, Written, nothing, followed_by, sends, exit_of, departs, queues, read, reads, copied_out, copies_out, clears, InOrder, Reads, Copies, Runs}
use Rattle.sock_dgram.specs.declared.error.BindError.{BindError}
use Rattle.sock_dgram.specs.declared.error.RecvError.{RecvError}
use Rattle.sock_dgram.specs.declared.error.RecvError.TheVariants as recv_error

-- ---- one queue: `outs` left it and `ins` came behind it, from x to y

module _ {P : Type 0} where
  pub still : (x y : List P) → y ≡ x → y ≡ x ++ []
  still x y e = e ∙ sym (append-nil x)

  pub added : (ok : Bool) (d : P) (x y : List P) → y ≡ cond ok (x ++ d ∷ []) x → y ≡ x ++ cond ok (d ∷ []) []
  added true d x y e = e
  added false d x y e = still x y e

module _ {P Q : Type 0} where
  abbrev pub Moves : List (P × Q) → List P → List P → List P → Type 0
  Moves outs ins x y = map (λ d. d.0) outs ++ y ≡ x ++ ins

  pub removed : (ok : Bool) (e : Q) (x y : List P) → y ≡ cond ok (drop 1 x) x → Moves (cond ok (map (λ d. (d, e)) (take 1 x)) []) [] x y
  removed true e [] y is = is
  removed true e (d ∷ ds) y is = ap (λ (l : List P). d ∷ l) (is ∙ sym (append-nil ds))
  removed false e x y is = still x y is

  pub cleared : (e : Q) (x : List P) → Moves (map (λ d. (d, e)) x) [] x []
  cleared e [] = refl
  cleared e (d ∷ ds) = ap (λ (l : List P). d ∷ l) (cleared e ds)

  pub chain : (o p : List (P × Q)) (i j x y z : List P) → Moves o i x y → Moves p j y z → Moves (o ++ p) (i ++ j) x z
  chain o p i j x y z first second =
      let firsts : List (P × Q) → List P = map (λ d. d.0) in
      ap (λ (l : List P). l ++ z) (map-append (λ (d : P × Q). d.0) o p) ∙ append_assoc (firsts o) (firsts p) z
      ∙ ap (λ (l : List P). firsts o ++ l) second ∙ sym (append_assoc (firsts o) y j)
      ∙ ap (λ (l : List P). l ++ j) first ∙ append_assoc x i j

-- ---- what is received

module _ {M : Type 0} where
  -- of a queue that stands so
  read_first : (ps qs : List (M × List ℕ)) (r : Result (M × List ℕ) RecvError) → answered r ≡ take_answer (slice_get ps 0) → IfOk r (λ d. slice_get ps 0 ≡ Some d) → qs ≡ drop 1 ps → Moves (read r) [] ps qs
  read_first [] qs (Ok d) a v e = absurd (none-some d v)
  read_first [] qs (Err x) a v e = e
  read_first (p ∷ ps) qs (Ok d) a v e = (λ i. sym (same_Some p d v) i ∷ (e ∙ sym (append-nil ps)) i)
  read_first (p ∷ ps) qs (Err x) a v e = absurd (false≢true (ap (λ o. is_ok o) a))

  pub reading : (p q : Packets M) (r : Result (M × List ℕ) RecvError) → Reads p r → packets q.entries ≡ drop 1 (packets p.entries) → Moves (read r) [] (packets p.entries) (packets q.entries)
  reading p q r h e = read_first (packets p.entries) (packets q.entries) r h.answer h.value e

  copy_first : (ps qs : List (M × List ℕ)) (slice left : List ℕ) → left ≡ copied (slice_get ps 0) slice → qs ≡ drop 1 ps → Moves (copied_out (copy_answer (slice_get ps 0) (length slice)) left (slice_get ps 0)) [] ps qs
  copy_first [] qs slice left l e = e
  copy_first (p ∷ ps) qs slice left l e = go (nat_lt (length slice) (length p.1)) l
    where
      rest : qs ≡ ps ++ []
      rest = e ∙ sym (append-nil ps)

      go : (b : Bool) → left ≡ (if b then slice else overwrite slice 0 p.1) → Moves (copied_out (if b then Err recv_error.Truncated else Ok (length p.1, p.0)) left (Some p)) [] (p ∷ ps) qs
      go true l = ap (λ (l : List (M × List ℕ)). p ∷ l) rest
      go false l =
          let whole : take (length p.1) left ≡ p.1 = ap (take (length p.1)) l ∙ take_at p.1 (drop (0 + length p.1) slice) (length p.1) refl in
          (λ i. (p.0, whole i) ∷ rest i)

  pub copying : (p q : Packets M) (slice left : List ℕ) (r : Result (ℕ × M) RecvError) → Copies p slice left r → packets q.entries ≡ drop 1 (packets p.entries)
      → Moves (copied_out r left (slice_get (packets p.entries) 0)) [] (packets p.entries) (packets q.entries)
  copying p q slice left r h e =
      subst (λ x. Moves (copied_out x left (slice_get (packets p.entries) 0)) [] (packets p.entries) (packets q.entries)) (sym h.answer)
      (copy_first (packets p.entries) (packets q.entries) slice left h.bytes e)

-- ---- both queues

module _ {M O : Type 0} {x r y q : List (M × List ℕ)} where
  pub idle : y ≡ x → q ≡ r → InOrder (nothing {M = M} {O = O}) x r y q
  idle transmit receive = record { transmit = still x y transmit; receive = still r q receive }

  pub sending : (ok : Bool) (d : M × List ℕ) → y ≡ cond ok (x ++ d ∷ []) x → q ≡ r → InOrder (sends {O = O} ok d) x r y q
  sending ok d transmit receive = record { transmit = added ok d x y transmit; receive = still r q receive }

  pub departing : (ok : Bool) (out : Option O) → y ≡ cond ok (drop 1 x) x → q ≡ r → InOrder (departs ok out x) x r y q
  departing ok out transmit receive = record { transmit = removed ok (exit_of out) x y transmit; receive = still r q receive }

  pub queueing : (ok : Bool) (d : M × List ℕ) → y ≡ x → q ≡ cond ok (r ++ d ∷ []) r → InOrder (queues {O = O} ok d) x r y q
  queueing ok d transmit receive = record { transmit = still x y transmit; receive = added ok d r q receive }

module _ {M O : Type 0} where
  pub clearing : (x r : List (M × List ℕ)) → InOrder (clears {O = O} x r) x r [] []
  clearing x r = record { transmit = cleared Cleared x; receive = cleared Cleared r }

  module _ {x y : List (M × List ℕ)} (p q : Packets M) where
    pub receiving : (r : Result (M × List ℕ) RecvError) → Reads p r → packets q.entries ≡ drop 1 (packets p.entries) → y ≡ x → InOrder (reads {O = O} r) x (packets p.entries) y (packets q.entries)
    receiving r h receive transmit = record { transmit = still x y transmit; receive = reading p q r h receive }

    pub copying_out : (slice left : List ℕ) (r : Result (ℕ × M) RecvError) → Copies p slice left r → packets q.entries ≡ drop 1 (packets p.entries) → y ≡ x
        → InOrder (copies_out {O = O} r left (slice_get (packets p.entries) 0)) x (packets p.entries) y (packets q.entries)
    copying_out slice left r h receive transmit = record { transmit = still x y transmit; receive = copying p q slice left r h receive }

  pub in_turn : (a b : Transfers M O) (x r y q z s : List (M × List ℕ)) → InOrder a x r y q → InOrder b y q z s → InOrder (followed_by a b) x r z s
  in_turn a b x r y q z s first second = record {
    transmit = chain a.departed b.departed a.sent b.sent x y z first.transmit second.transmit;
    receive = chain a.taken b.taken a.queued b.queued r q s first.receive second.receive;
  }

  -- of other transfers that are the same
  pub by_transfers : {t s : Transfers M O} {x r y q : List (M × List ℕ)} → t ≡ s → InOrder s x r y q → InOrder t x r y q
  by_transfers {t} {s} {x} {r} {y} {q} e h = subst (λ (u : Transfers M O). InOrder u x r y q) (sym e) h

-- ---- `send_with`, of a socket of which the transmit buffer alone changed

module _ {M O G E : Type 0} (write : Once G (MutBor (List ℕ) × Unit {0}) (ℕ × (MutBor (List ℕ) × Unit {0}))) where
  pub sent_with : (r : Result ℕ E) (size : ℕ) (m : M) (f : G) (t : Transfers M O) (old new : Packets M) (x y : List (M × List ℕ)) → Written write r size m f old t new → y ≡ x
      → InOrder t (packets old.entries) x (packets new.entries) y
  sent_with (Ok kept) size m f t old new x y h same = by_transfers h.1 (sending true (m, take kept h.0.0.appends.left) h.0.0.packets same)
  sent_with (Err e) size m f t old new x y h same = by_transfers h.1 (idle h.0.1 same)

-- ---- what other calls of a socket whose packets have an address leave as it was

module _ {E M : Type 0} where
  pub bound_waiting : (r : Result (Unit {0}) BindError) (v : addressed.View E M) (e : E) → addressed.waiting (addressed.after_bind r v e) ≡ addressed.waiting v
  bound_waiting (Ok u) v e = refl
  bound_waiting (Err x) v e = refl

  pub bound_received : (r : Result (Unit {0}) BindError) (v : addressed.View E M) (e : E) → addressed.received (addressed.after_bind r v e) ≡ addressed.received v
  bound_received (Ok u) v e = refl
  bound_received (Err x) v e = refl

  pub sent_received : (b : Bool) (v : addressed.View E M) (m : M) (bs : List ℕ) → addressed.received (if b then record v { tx_buffer = stored m bs v.tx_buffer } else v) ≡ addressed.received v
  sent_received true v m bs = refl
  sent_received false v m bs = refl

-- ---- lists of calls, whose packets are seen in some way

module _ {V K M O : Type 0} (effect : K → V → Transfers M O → V → Type 0) (waiting received : V → List (M × List ℕ)) (see : Transfers M O → Transfers M O) (none : see nothing ≡ nothing)
    (both : (a b : Transfers M O) → see (followed_by a b) ≡ followed_by (see a) (see b))
    (step : (k : K) (v : V) (t : Transfers M O) (w : V) → effect k v t w → InOrder (see t) (waiting v) (received v) (waiting w) (received w)) where
  pub runs : (ks : List K) (v : V) (t : Transfers M O) (w : V) → Runs effect ks v t w → InOrder (see t) (waiting v) (received v) (waiting w) (received w)
  runs [] v t w h = by_transfers (ap see h.0 ∙ none) (idle (ap waiting h.1) (ap received h.1))
  runs (k ∷ ks) v t w h =
      let u = h.0 in
      let a = h.1 in
      let b = h.2 in
      by_transfers (ap see h.5 ∙ both a b) (in_turn (see a) (see b) (waiting v) (received v) (waiting u) (received u) (waiting w) (received w) (step k v a u h.3) (runs ks u b w h.4))
