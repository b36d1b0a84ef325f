-- All bytes of a speaker come to a taker that agrees with it, and its FIN where it was closed.
use Rattle.std.proofs.Common.{◌≡◌, ℕ, zero, suc, ◌+◌, ◌<◌, ◌≤◌, ◌⊎◌, inl, inr, true, refl, sym, ap, subst, ◌∙◌, List, [], ◌++◌, length, drop, arith, append_assoc, length-drop, ◌/◌, ◌^◌, min}
use Rattle.std.proofs.lemmas.Int.{ints}
use Rattle.std.proofs.lemmas.List.{append-nil, drop_all}
use Rattle.net_base.specs.declared.time.Duration.{Duration}
use Rattle.net_base.specs.declared.time.Instant.{Instant}
use Rattle.sock_core.specs.Bounds.{IsMtu}
use Rattle.sock_core.specs.Facts.{Facts}
use Rattle.sock_tcp.specs.Content.{carries_data}
use Rattle.sock_tcp.specs.Due.{is_closing}
use Rattle.sock_tcp.specs.Queues.{may_send, read_off}
use Rattle.sock_tcp.specs.View.{View}
use Rattle.sock_tcp.specs.declared.state.State.{State}
use Rattle.sock_tcp.specs.declared.state.State.TheVariants as state
use Rattle.sock_tcp.specs.declared.tuple.Tuple.{Tuple}
use Rattle.tcp_laws.specs.Waking.{HasToSend}
use Rattle.progress_laws.specs.Agreement.{Agreement, AgreeingBytesArrive, AgreeingFinArrives, BytesArrive, Exchanges, FinArrives, IsMove, IsSpeaker, NextOne, NoMore}
use Rattle.progress_laws.specs.InStep.{Reads}
use Rattle.progress_laws.specs.Delivery.{has_counted}
use Rattle.progress_laws.specs.ShutWindows.{width}
use Rattle.progress_laws.proofs.Agrees.{all_read, nothing_left, reads_agree}
use Rattle.progress_laws.proofs.Begins.{some_or_none}
use Rattle.progress_laws.proofs.Comes.{Asked, Ended, Ends, Grew, Onward, Opened, Reason, Released, Round, WasShut, round}
use Rattle.progress_laws.proofs.Taking.{take_all}
use Rattle.progress_laws.proofs.Utters.{onward, utters}

carries_splits : (st : State) → carries_data st ≡ true → (may_send st ≡ true) ⊎ (is_closing st ≡ true)
carries_splits state.Established e = inl refl
carries_splits state.CloseWait e = inl refl
carries_splits state.FinWait1 e = inr refl
carries_splits state.Closing e = inr refl
carries_splits state.LastAck e = inr refl
carries_splits _ e = absurd cc

pub not_both : (st : State) → may_send st ≡ true → is_closing st ≡ true → ⊥
not_both state.Established e c = absurd cc
not_both state.CloseWait e c = absurd cc
not_both _ e c = absurd cc

-- all was sent, of one that was not closed; or the FIN came
pub data Comes (d : Duration) (t : Tuple) (f : Facts) (at : Instant) (v w : View) (got : List ℕ) (n h : ℕ) : Type 0 where
  AllSent : (o : Onward d t f at v w got n h)
      → length o.sender.tx_buffer.bytes ≡ 0
      → may_send v.state ≡ true
      → Comes d t f at v w got n h
  AllEnded : is_closing v.state ≡ true → Ends d t f at v w got n h → Comes d t f at v w got n h

module _ (d : Duration) (t : Tuple) (f : Facts) where
  -- ---- one thing after another

  module _ (at : Instant) (v w : View) (got : List ℕ) (n h : ℕ) (o : Onward d t f at v w got n h) where
    after : Onward d t f o.end o.sender o.receiver o.more o.taken o.heard → Onward d t f at v w got n h
    after p = record {
      end = p.end;
      sender = p.sender;
      receiver = p.receiver;
      more = p.more;
      taken = p.taken;
      heard = p.heard;
      exchanges = onward at o.end p.end v w o.sender o.receiver p.sender p.receiver got o.more p.more o.exchanges p.exchanges;
      agrees = p.agrees;
      read = p.read;
      state = p.state ∙ o.state;
      nothing_taken = p.nothing_taken ∙ o.nothing_taken;
      shift = p.shift ∙ o.shift;
      fewer = omega (arith, p.fewer, o.fewer);
      speaks = λ e r sp within field.
          let q : IsSpeaker e r o.receiver × (o.heard ≤ length o.receiver.tx_buffer.bytes) × (o.receiver.state ≡ w.state) = o.speaks e r sp within field in
          let z : IsSpeaker e r p.receiver × (p.heard ≤ length p.receiver.tx_buffer.bytes) × (p.receiver.state ≡ o.receiver.state) = p.speaks e r q.0 q.1 (subst (λ m. 0 < m) (λ i. min (length ((sym o.nothing_taken i).held) / 2 ^ sym o.shift i) 65535) field) in
          (z.0, z.1, z.2 ∙ q.2);
      whole = p.whole ∙ o.whole;
      nothing_lost = p.nothing_lost ∙ o.nothing_lost;
    }

    after_ends : Ends d t f o.end o.sender o.receiver o.more o.taken o.heard → Ends d t f at v w got n h
    after_ends p = record {
      end = p.end;
      sender = p.sender;
      receiver = p.receiver;
      exchanges = onward at o.end p.end v w o.sender o.receiver p.sender p.receiver got o.more (got ++ drop n v.tx_buffer.bytes) o.exchanges (subst (λ l. Exchanges f o.end o.sender o.receiver o.more p.end p.sender p.receiver l) o.whole p.exchanges);
      finished = p.finished;
      closing = ap is_closing (sym o.state) ∙ p.closing;
      speaker = p.speaker;
      state = p.state ∙ o.state;
      nothing_taken = p.nothing_taken ∙ o.nothing_taken;
      reach = p.reach;
      reached = p.reached;
      next = p.next;
      una = p.una;
      rest = p.rest ∙ o.nothing_lost;
      speaks = λ e r sp within field.
          let q : IsSpeaker e r o.receiver × (o.heard ≤ length o.receiver.tx_buffer.bytes) × (o.receiver.state ≡ w.state) = o.speaks e r sp within field in
          let z : IsSpeaker e r p.receiver × (has_counted p.receiver.state ≡ true) × (is_closing p.receiver.state ≡ is_closing o.receiver.state) × (p.receiver.state ≡ state.LastAck → ⊥) = p.speaks e r q.0 q.1 (subst (λ m. 0 < m) (λ i. min (length ((sym o.nothing_taken i).held) / 2 ^ sym o.shift i) 65535) field) in
          (z.0, z.1, z.2 ∙ ap is_closing q.2, z.3);
    }

    after_comes : Comes d t f o.end o.sender o.receiver o.more o.taken o.heard → Comes d t f at v w got n h
    unfolding after
    after_comes (AllSent p sent may) = AllSent (after p) sent (ap may_send (sym o.state) ∙ may)
    after_comes (AllEnded c p) = AllEnded (ap is_closing (sym o.state) ∙ c) (after_ends p)

  -- ---- something joins, or the FIN is counted

  data Grows (at : Instant) (v w : View) (got : List ℕ) (n h : ℕ) : Type 0 where
    Joined : (o : Onward d t f at v w got n h) → o.sender.tx_buffer.bytes ≡ v.tx_buffer.bytes → n < o.taken → Grows at v w got n h
    Ending : Ends d t f at v w got n h → Grows at v w got n h

  -- where it opened a window before, with nothing taken
  module _ (at : Instant) (v w : View) (got : List ℕ) (n h : ℕ) (zero_taken : n ≡ 0) (o : Onward d t f at v w got n h) (same : o.sender.tx_buffer.bytes ≡ drop n v.tx_buffer.bytes) where
    whole_queue : o.sender.tx_buffer.bytes ≡ v.tx_buffer.bytes
    whole_queue = same ∙ ap (λ m. drop m v.tx_buffer.bytes) zero_taken

    then_grows : Grows o.end o.sender o.receiver o.more o.taken o.heard → Grows at v w got n h
    unfolding after
    then_grows (Joined p q some) = Joined (after at v w got n h o p) (q ∙ whole_queue) (omega (arith, some, zero_taken))
    then_grows (Ending p) = Ending (after_ends at v w got n h o p)

  module _ (mtu : IsMtu f.mtu) (here : f.has_address t.local.addr ≡ true) where
    turn : (at : Instant) (v w : View) (got : List ℕ) (n h : ℕ) → Agreement d t v w n h → w.rx_buffer.bytes ≡ [] → HasToSend v → Round d t f at v w got n h
    turn at v w got n h i read work = round d t f at v w got n h read i (utters d t f mtu here at at (grind (arith, ints)) v w got i.speaker work)

    works : (v u : View) → u.state ≡ v.state → u.tx_buffer.bytes ≡ v.tx_buffer.bytes → HasToSend v → HasToSend u
    works v u st q (inl some) = inl (subst (λ (l : List ℕ). 0 < length l) (sym q) some)
    works v u st q (inr c) = inr (ap is_closing st ∙ c)

    -- with a window known, and a place in it
    with_both : (at : Instant) (v w : View) (got : List ℕ) (h : ℕ) → Agreement d t v w 0 h → w.rx_buffer.bytes ≡ [] → HasToSend v → 0 < width w → 0 < v.remote_win_len → Grows at v w got 0 h
    with_both at v w got h i read work place win = by (turn at v w got 0 h i read work)
      where
        no : (u : View) → Reason v w u 0 → ⊥
        no u (Released some) = omega (arith, some)
        no u (WasShut shut same) = omega (arith, shut, place)
        no u (Asked none told) = omega (arith, none, win)

        by : Round d t f at v w got 0 h → Grows at v w got 0 h
        by (Grew o q some) = Joined o q some
        by (Ended e) = Ending e
        by (Opened o none q open_ why) = absurd (no o.sender why)

    agrees_at : (v w : View) (m h : ℕ) → m ≡ 0 → Agreement d t v w m h → Agreement d t v w 0 h
    agrees_at v w m h e i = subst (λ m. Agreement d t v w m h) e i

    grows_at : (at : Instant) (v w : View) (got : List ℕ) (m h : ℕ) → m ≡ 0 → Grows at v w got 0 h → Grows at v w got m h
    grows_at at v w got m h e g = subst (λ m. Grows at v w got m h) (sym e) g

    -- with a place alone
    with_place : (at : Instant) (v w : View) (got : List ℕ) (h : ℕ) → Agreement d t v w 0 h → w.rx_buffer.bytes ≡ [] → HasToSend v → 0 < width w → Grows at v w got 0 h
    with_place at v w got h i read work place = by (turn at v w got 0 h i read work)
      where
        next : (o : Onward d t f at v w got 0 h) → o.taken ≡ 0 → o.sender.tx_buffer.bytes ≡ v.tx_buffer.bytes → 0 < width o.receiver → Reason v w o.sender 0 → Grows at v w got 0 h
        next o none q open_ (Released some) = absurd (omega (arith, some))
        next o none q open_ (WasShut shut same) = absurd (omega (arith, shut, place))
        next o none q open_ (Asked shut told) = then_grows at v w got 0 h refl o q (grows_at o.end o.sender o.receiver o.more o.taken o.heard none (with_both o.end o.sender o.receiver o.more o.heard (agrees_at o.sender o.receiver o.taken o.heard none o.agrees) o.read (works v o.sender o.state q work) open_ told))

        by : Round d t f at v w got 0 h → Grows at v w got 0 h
        by (Grew o q some) = Joined o q some
        by (Ended e) = Ending e
        by (Opened o none q open_ why) = next o none q open_ why

    -- or without
    with_none : (at : Instant) (v w : View) (got : List ℕ) (h : ℕ) → Agreement d t v w 0 h → w.rx_buffer.bytes ≡ [] → HasToSend v → Grows at v w got 0 h
    with_none at v w got h i read work = by (turn at v w got 0 h i read work)
      where
        by : Round d t f at v w got 0 h → Grows at v w got 0 h
        by (Grew o q some) = Joined o q some
        by (Ended e) = Ending e
        by (Opened o none q open_ why) = then_grows at v w got 0 h refl o q (grows_at o.end o.sender o.receiver o.more o.taken o.heard none (with_place o.end o.sender o.receiver o.more o.heard (agrees_at o.sender o.receiver o.taken o.heard none o.agrees) o.read (works v o.sender o.state q work) open_))

    -- ---- all of it

    abbrev Brings : ℕ → Type 0
    Brings m = (at : Instant) (v w : View) (got : List ℕ) (n h : ℕ) → Agreement d t v w n h → w.rx_buffer.bytes ≡ [] → length v.tx_buffer.bytes ≤ n + m → Comes d t f at v w got n h

    abbrev Before : ℕ → Type 0
    Before zero = Unit {0}
    Before (suc m) = Brings m

    -- the rest, once something joined
    rests : (m : ℕ) → Before m → (at : Instant) (v w : View) (got : List ℕ) (n h : ℕ) → length v.tx_buffer.bytes ≤ n + m → (o : Onward d t f at v w got n h) → o.sender.tx_buffer.bytes ≡ v.tx_buffer.bytes → n < o.taken → Comes d t f at v w got n h
    rests zero b at v w got n h few o q more = absurd (omega (arith, o.agrees.taken_within, ap (λ (l : List ℕ). length l) q, few, more))
    rests (suc m) b at v w got n h few o q more = after_comes at v w got n h o (b o.end o.sender o.receiver o.more o.taken o.heard o.agrees o.read (omega (arith, ap (λ (l : List ℕ). length l) q, few, more)))

    stay : (at : Instant) (v w : View) (got : List ℕ) (n h : ℕ) → Agreement d t v w n h → w.rx_buffer.bytes ≡ [] → Onward d t f at v w got n h
    stay at v w got n h i read = record { end = at; sender = v; receiver = w; more = got; taken = n; heard = h; exchanges = NoMore at v w got; agrees = i; read = read; state = refl; nothing_taken = refl; shift = refl; fewer = omega arith; speaks = λ e r sp within field. (sp, within, refl); whole = refl; nothing_lost = refl }

    -- where all that was taken is released
    from_zero : (m : ℕ) → Before m → (at : Instant) (v w : View) (got : List ℕ) (h : ℕ) → Agreement d t v w 0 h → w.rx_buffer.bytes ≡ [] → length v.tx_buffer.bytes ≤ m → Comes d t f at v w got 0 h
    unfolding stay
    from_zero m b at v w got h i read few = by (carries_splits v.state i.speaker.carries) (some_or_none (length v.tx_buffer.bytes))
      where
        grown : Grows at v w got 0 h → Comes d t f at v w got 0 h
        grown (Joined o q more) = rests m b at v w got 0 h (omega (arith, few)) o q more
        grown (Ending e) = AllEnded e.closing e

        by : (may_send v.state ≡ true) ⊎ (is_closing v.state ≡ true) → (length v.tx_buffer.bytes ≡ 0) ⊎ (0 < length v.tx_buffer.bytes) → Comes d t f at v w got 0 h
        by (inr c) q = grown (with_none at v w got h i read (inr c))
        by (inl may) (inr some) = grown (with_none at v w got h i read (inl some))
        by (inl may) (inl none) = AllSent (stay at v w got 0 h i read) none may

    from_any : (m : ℕ) → Before m → Brings m
    from_any m b at v w got n h i read few = by (some_or_none n)
      where
        zero_at : (at : Instant) (v w : View) (got : List ℕ) (k h : ℕ) → k ≡ 0 → Agreement d t v w k h → w.rx_buffer.bytes ≡ [] → length v.tx_buffer.bytes ≤ m → Comes d t f at v w got k h
        zero_at at v w got k h e i read few = subst (λ k. Comes d t f at v w got k h) (sym e) (from_zero m b at v w got h (agrees_at v w k h e i) read few)

        after_round : Round d t f at v w got n h → Comes d t f at v w got n h
        after_round (Grew o q more) = rests m b at v w got n h few o q more
        after_round (Ended e) = AllEnded e.closing e
        after_round (Opened o none q open_ why) = after_comes at v w got n h o (zero_at o.end o.sender o.receiver o.more o.taken o.heard none o.agrees o.read (omega (arith, ap (λ (l : List ℕ). length l) q, length-drop n v.tx_buffer.bytes, few)))

        by : (n ≡ 0) ⊎ (0 < n) → Comes d t f at v w got n h
        by (inl z) = zero_at at v w got n h z i read (omega (arith, few, z))
        by (inr some) = after_round (turn at v w got n h i read (inl (omega (arith, some, i.taken_within))))

    brings : (m : ℕ) → Brings m
    brings zero = from_any zero tt
    brings (suc m) = from_any (suc m) (brings m)

-- ---- the laws

module _ (d : Duration) (t : Tuple) (f : Facts) (at : Instant) (v w : View) (got : List ℕ) (n h : ℕ) (mtu : IsMtu f.mtu) (here : f.has_address t.local.addr ≡ true) (i : Agreement d t v w n h) where
  abbrev w' : View
  w' = all_read d t v w n h i

  abbrev got' : List ℕ
  got' = got ++ w.rx_buffer.bytes

  pub reads : Exchanges f at v w got at v w' got'
  reads = NextOne at at at v w v w' v w' got got' got' (grind (arith, ints)) (IsMove (Reads (length w.rx_buffer.bytes) (omega arith) refl refl (ap (λ (l : List ℕ). got ++ l) (sym (take_all w.rx_buffer.bytes))))) (NoMore at v w' got')

  pub comes : Comes d t f at v w' got' n h
  comes = brings d t f mtu here (length v.tx_buffer.bytes) at v w' got' n h (reads_agree d t v w n h i) (nothing_left d t v w n h i) (omega arith)

  regroup : got' ++ drop n v.tx_buffer.bytes ≡ got ++ (w.rx_buffer.bytes ++ drop n v.tx_buffer.bytes)
  regroup = append_assoc got w.rx_buffer.bytes (drop n v.tx_buffer.bytes)

  bytes : may_send v.state ≡ true → Comes d t f at v w' got' n h → BytesArrive d t f at v w got n h
  unfolding read_off
  bytes may (AllEnded c e) = absurd (not_both v.state may c)
  bytes may (AllSent o sent m) = record {
    end = o.end;
    sender = o.sender;
    receiver = o.receiver;
    exchanges = subst (λ l. Exchanges f at v w got o.end o.sender o.receiver l) (all ∙ regroup) (onward at at o.end v w v w' o.sender o.receiver got got' o.more reads o.exchanges);
    sent = sent;
    then_heard = o.heard;
    agrees = subst (λ k. Agreement d t o.sender o.receiver k o.heard) none o.agrees;
    state = o.state;
    nothing_taken = o.nothing_taken;
    nothing_lost = o.nothing_lost;
  }
    where
      none : o.taken ≡ 0
      none = omega (arith, o.agrees.taken_within, sent)

      all : o.more ≡ got' ++ drop n v.tx_buffer.bytes
      all = sym (append-nil o.more) ∙ ap (λ (l : List ℕ). o.more ++ l) (sym (drop_all o.taken o.sender.tx_buffer.bytes (omega (arith, sent)))) ∙ o.whole

  fin : is_closing v.state ≡ true → Comes d t f at v w' got' n h → FinArrives f at v w got n
  fin c (AllSent o sent may) = absurd (not_both v.state may c)
  fin c (AllEnded d e) = record {
    end = e.end;
    sender = e.sender;
    receiver = e.receiver;
    exchanges = subst (λ l. Exchanges f at v w got e.end e.sender e.receiver l) regroup (onward at at e.end v w v w' e.sender e.receiver got got' (got' ++ drop n v.tx_buffer.bytes) reads e.exchanges);
    finished = e.finished;
  }

pub agreeing_bytes_arrive : AgreeingBytesArrive
agreeing_bytes_arrive d t f at v w got n h mtu here may i = bytes d t f at v w got n h mtu here i may (comes d t f at v w got n h mtu here i)

pub agreeing_fin_arrives : AgreeingFinArrives
agreeing_fin_arrives d t f at v w got n h mtu here c i = fin d t f at v w got n h mtu here i c (comes d t f at v w got n h mtu here i)
