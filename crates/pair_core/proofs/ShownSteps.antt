-- What the steps of `process` come to: the verdict, the control bit that counts, what is acknowledged, and what the
-- steps behind the state table leave.
use Rattle.std.proofs.Common.{◌≡◌, ℕ, ◌+◌, ◌-◌, ◌⊎◌, Bool, true, false, cond, ◌||◌, refl, ap, ◌∙◌, List, length, Option, Some, None, inl, inr}
use Rattle.std.specs.Prelude.{if◌then◌else◌}
use Rattle.net_base.specs.declared.time.Instant.{Instant}
use Rattle.control_wire.specs.Seq.{seq_add, seq_sub, seq_eq}
use Rattle.control_wire.specs.Segment.{Segment}
use Rattle.control_wire.specs.declared.seq_number.TcpSeqNumber.{TcpSeqNumber}
use Rattle.control_wire.specs.declared.tcp.TcpControl.{TcpControl}
use Rattle.control_wire.specs.declared.tcp.TcpControl.TheVariants as control
use Rattle.sock_core.specs.Seq.{is_before, later_of}
use Rattle.sock_tcp.specs.Queue.{shortened}
use Rattle.sock_tcp.specs.View.{View}
use Rattle.sock_tcp.specs.Verdict.{fin_place, verdict_at}
use Rattle.sock_tcp.specs.Acked.{syn_place, acked_places, acked_at, nothing_acked}
use Rattle.sock_tcp.specs.Advance.{counted_control}
use Rattle.sock_tcp.specs.Process.{has_window}
use Rattle.sock_tcp.specs.Steps.{window_taken, is_window_changed, released, is_duplicate, duplicate_counted, ack_counted, una_advanced, ack_heard, acknowledged, timestamp_taken, timer_set, heard}
use Rattle.sock_tcp.specs.declared.acked.Acked.{Acked}
use Rattle.sock_tcp.specs.declared.state.State.{State}
use Rattle.sock_tcp.specs.declared.state.State.TheVariants as state
use Rattle.sock_tcp.specs.declared.verdict.Verdict.{Verdict}
use Rattle.sock_tcp.specs.declared.verdict.Verdict.TheVariants as verdicts
use Rattle.sock_tcp.specs.declared.window.Window.{Window}
use Rattle.pair_core.specs.PairNetwork.{phase_of, shown, is_fin, is_rst}
use Rattle.pair_core.specs.StreamViews.{SocketView, KnowsPeer}
use Rattle.tcp_laws.proofs.Frames.{brought}

-- ---- the verdict

never_reset : (a b : Bool) → cond a verdicts.Drop (cond b verdicts.Challenge verdicts.Pass) ≡ verdicts.Reset → ⊥
never_reset true b e = cc
never_reset false true e = cc
never_reset false false e = cc

never_challenged : (b : Bool) (x : Verdict) → (x ≡ verdicts.Challenge → ⊥) → cond b verdicts.Pass x ≡ verdicts.Challenge → ⊥
never_challenged true x n e = cc
never_challenged false x n e = n e

-- an RST answers an acknowledgement of something other than the SYN
pub record ResetSays (st : State) (c : TcpControl) (o : Option TcpSeqNumber) (una : TcpSeqNumber) : Type 0 where
  pub opening : (st ≡ state.SynSent) ⊎ (st ≡ state.SynReceived)
  pub plain : is_rst c ≡ false
  pub ack : TcpSeqNumber
  pub is : o ≡ Some ack
  pub other : seq_eq ack (seq_add una 1) ≡ false

other_ack : (b : Bool) (x : Verdict) → (x ≡ verdicts.Reset → ⊥) → cond b x verdicts.Reset ≡ verdicts.Reset → b ≡ false
other_ack true x n e = absurd (n e)
other_ack false x n e = refl

pub reset_says : (st : State) (c : TcpControl) (o : Option TcpSeqNumber) (una : TcpSeqNumber) (n : ℕ) → verdict_at st c o una n ≡ verdicts.Reset → ResetSays st c o una
unfolding verdict_at
reset_says state.SynSent control.Rst None una n e = cc
reset_says state.SynSent control.Rst (Some a) una n e = absurd (go (seq_eq a (seq_add una 1)) e)
  where
    go : (b : Bool) → cond b verdicts.Pass verdicts.Drop ≡ verdicts.Reset → ⊥
    go true e = cc
    go false e = cc
reset_says _ control.Rst o una n e = cc
reset_says state.Listen c None una n e = cc
reset_says state.SynSent control.Syn None una n e = cc
reset_says state.SynSent control.Syn (Some a) una n e = record { opening = inl refl; plain = refl; ack = a; is = refl; other = other_ack (seq_eq a (seq_add una 1)) verdicts.Pass (λ h. cc) e }
reset_says state.SynSent control.None None una n e = cc
reset_says state.SynSent control.None (Some a) una n e = record { opening = inl refl; plain = refl; ack = a; is = refl; other = other_ack (seq_eq a (seq_add una 1)) verdicts.Drop (λ h. cc) e }
reset_says state.SynSent control.Psh o una n e = cc
reset_says state.SynSent control.Fin o una n e = cc
reset_says _ c None una n e = cc
reset_says state.SynReceived control.None (Some a) una n e = record { opening = inr refl; plain = refl; ack = a; is = refl; other = other_ack (seq_eq a (seq_add una 1)) verdicts.Pass (λ h. cc) e }
reset_says state.SynReceived control.Psh (Some a) una n e = record { opening = inr refl; plain = refl; ack = a; is = refl; other = other_ack (seq_eq a (seq_add una 1)) verdicts.Pass (λ h. cc) e }
reset_says state.SynReceived control.Syn (Some a) una n e = record { opening = inr refl; plain = refl; ack = a; is = refl; other = other_ack (seq_eq a (seq_add una 1)) verdicts.Pass (λ h. cc) e }
reset_says state.SynReceived control.Fin (Some a) una n e = record { opening = inr refl; plain = refl; ack = a; is = refl; other = other_ack (seq_eq a (seq_add una 1)) verdicts.Pass (λ h. cc) e }
reset_says st c (Some a) una n e = absurd (never_reset (is_before a una) (is_before (seq_add una (n + fin_place st)) a) e)

-- only a state that knows the peer challenges, or CLOSED, where LISTEN lets in no segment with an acknowledgement
pub challenge_says : (st : State) (c : TcpControl) (o : Option TcpSeqNumber) (una : TcpSeqNumber) (n : ℕ) → (st ≡ state.Listen → o ≡ None) → verdict_at st c o una n ≡ verdicts.Challenge → has_window st ≡ true
unfolding verdict_at
challenge_says state.SynSent control.Rst None una n bare e = cc
challenge_says state.SynSent control.Rst (Some a) una n bare e = absurd (never_challenged (seq_eq a (seq_add una 1)) verdicts.Drop (λ h. cc) e)
challenge_says _ control.Rst o una n bare e = cc
challenge_says state.Listen c None una n bare e = cc
challenge_says state.Listen c (Some a) una n bare e = let no : Some a ≡ None = bare refl in cc
challenge_says state.SynSent control.Syn None una n bare e = cc
challenge_says state.SynSent control.Syn (Some a) una n bare e = absurd (never_challenged (seq_eq a (seq_add una 1)) verdicts.Reset (λ h. cc) e)
challenge_says state.SynSent control.None None una n bare e = cc
challenge_says state.SynSent control.None (Some a) una n bare e = absurd (go (seq_eq a (seq_add una 1)) e)
  where
    go : (b : Bool) → cond b verdicts.Drop verdicts.Reset ≡ verdicts.Challenge → ⊥
    go true e = cc
    go false e = cc
challenge_says state.SynSent control.Psh o una n bare e = cc
challenge_says state.SynSent control.Fin o una n bare e = cc
challenge_says st c o una n bare e = refl

-- a segment that passes in a state with a window acknowledges something, or is an RST
pub passes_with : (st : State) (c : TcpControl) (o : Option TcpSeqNumber) (una : TcpSeqNumber) (n : ℕ) → has_window st ≡ true → is_rst c ≡ false → verdict_at st c o una n ≡ verdicts.Pass → (k : TcpSeqNumber) × (o ≡ Some k)
unfolding verdict_at
passes_with st c (Some k) una n w plain e = (k, refl)
passes_with _ control.Rst None una n w plain e = cc
passes_with state.Listen c None una n w plain e = cc
passes_with state.SynSent c None una n w plain e = cc
passes_with _ c None una n w plain e = cc

-- in SYN-RECEIVED it acknowledges the SYN
pub passes_syn : (c : TcpControl) (k una : TcpSeqNumber) (n : ℕ) → is_rst c ≡ false → verdict_at state.SynReceived c (Some k) una n ≡ verdicts.Pass → seq_eq k (seq_add una 1) ≡ true
unfolding verdict_at
passes_syn c k una n plain e = by c plain e
  where
    go : (b : Bool) → cond b verdicts.Pass verdicts.Reset ≡ verdicts.Pass → b ≡ true
    go true e = refl
    go false e = cc

    by : (c : TcpControl) → is_rst c ≡ false → verdict_at state.SynReceived c (Some k) una n ≡ verdicts.Pass → seq_eq k (seq_add una 1) ≡ true
    by control.Rst plain e = cc
    by control.None plain e = go (seq_eq k (seq_add una 1)) e
    by control.Psh plain e = go (seq_eq k (seq_add una 1)) e
    by control.Syn plain e = go (seq_eq k (seq_add una 1)) e
    by control.Fin plain e = go (seq_eq k (seq_add una 1)) e

-- ---- the control bit that counts

module _ (w : Window) (number : TcpSeqNumber) (n : ℕ) where
  none_or : (b : Bool) → (if b then control.None else control.Fin) ≡ control.Rst → ⊥
  none_or true e = cc
  none_or false e = cc

  pub counted_rst : (c : TcpControl) → counted_control c w number n ≡ control.Rst → is_rst c ≡ true
  unfolding counted_control
  counted_rst control.Rst e = refl
  counted_rst control.Psh e = cc
  counted_rst control.Fin e = absurd (none_or (is_before w.start number || is_before w.end (seq_add number n)) e)
  counted_rst control.None e = cc
  counted_rst control.Syn e = cc

  pub counted_plain : (c : TcpControl) → (counted_control c w number n ≡ control.Rst → ⊥) → is_rst c ≡ false
  unfolding counted_control
  counted_plain control.Rst unreset = absurd (unreset refl)
  counted_plain control.Psh unreset = refl
  counted_plain control.Fin unreset = refl
  counted_plain control.None unreset = refl
  counted_plain control.Syn unreset = refl

  -- a FIN counts where the segment begins at the left edge or before it, and ends at the right edge or before it
  pub record FinInside (c : TcpControl) : Type 0 where
    pub is : is_fin c ≡ true
    pub begins : is_before w.start number ≡ false
    pub ends : is_before w.end (seq_add number n) ≡ false

  pub counted_fin : (c : TcpControl) → counted_control c w number n ≡ control.Fin → FinInside c
  unfolding counted_control
  counted_fin control.Rst e = cc
  counted_fin control.Psh e = cc
  counted_fin control.None e = cc
  counted_fin control.Syn e = cc
  counted_fin control.Fin e = go (is_before w.start number) refl (is_before w.end (seq_add number n)) refl e
    where
      go : (a : Bool) → is_before w.start number ≡ a → (b : Bool) → is_before w.end (seq_add number n) ≡ b → (if a || b then control.None else control.Fin) ≡ control.Fin → FinInside control.Fin
      go true x b y e = cc
      go false x true y e = cc
      go false x false y e = record { is = refl; begins = x; ends = y }

-- ---- what is acknowledged

-- n places, of which the last is that of the own FIN or not
abbrev pub acked_when : Bool → ℕ → Bool → Acked
acked_when t n all = record { len = if t then n - 1 else n; fin = t; all = all }

pub acked_none : (c : TcpControl) (st : State) (o : Option TcpSeqNumber) (una nxt : TcpSeqNumber) (q : ℕ) → o ≡ None → acked_at st c o una nxt q ≡ nothing_acked
unfolding acked_at
acked_none c st o una nxt q e = ap (λ x. acked_at st c x una nxt q) e ∙ by c
  where
    by : (c : TcpControl) → acked_at st c None una nxt q ≡ nothing_acked
    by control.Rst = refl
    by control.None = refl
    by control.Psh = refl
    by control.Syn = refl
    by control.Fin = refl

pub acked_some : (c : TcpControl) (st : State) (k una nxt : TcpSeqNumber) (q : ℕ) → is_rst c ≡ false → acked_at st c (Some k) una nxt q ≡ acked_places st k nxt q (seq_sub k una - syn_place st)
unfolding acked_at
acked_some control.Rst st k una nxt q e = cc
acked_some control.None st k una nxt q e = refl
acked_some control.Psh st k una nxt q e = refl
acked_some control.Syn st k una nxt q e = refl
acked_some control.Fin st k una nxt q e = refl

-- ---- the steps behind the state table

-- n bytes leave the transmit queue, and SND.UNA advances
abbrev pub acked_view : View → ℕ → Option TcpSeqNumber → View
acked_view u n None = record u { tx_buffer = shortened u.tx_buffer n }
acked_view u n (Some k) = record u { tx_buffer = shortened u.tx_buffer n; local_seq_no = k; remote_last_seq = later_of u.remote_last_seq k }

module _ (now : Instant) (a : Acked) (s : Segment) (o : ℕ) (bs : List ℕ) where
  -- with the bytes that come
  abbrev brought_view : View → SocketView
  brought_view w = shown (record w { rx_buffer = brought w.rx_buffer o bs })

  abbrev counted_with : Option TcpSeqNumber → View → Bool → View
  counted_with k w changed = timer_set (timestamp_taken (acknowledged w k now a.len (length s.payload) changed) s) now a

  counted_shown : (k : Option TcpSeqNumber) (u : View) (changed : Bool) → brought_view (counted_with k (released (window_taken u now s.control s.window_len) a.len) changed) ≡ brought_view (acked_view u a.len k)
  unfolding window_taken released acknowledged duplicate_counted ack_counted una_advanced timestamp_taken timer_set
  counted_shown None u changed = refl
  counted_shown (Some k) u changed = go (is_duplicate (released (window_taken u now s.control s.window_len) a.len) k (length s.payload) changed)
    where
      w : View
      w = released (window_taken u now s.control s.window_len) a.len

      go : (b : Bool) → brought_view (timer_set (timestamp_taken (ack_heard b w now k a.len) s) now a) ≡ brought_view (acked_view u a.len (Some k))
      go true = refl
      go false = refl

  pub heard_shown : (u : View) (k : Option TcpSeqNumber) → s.ack_number ≡ k → brought_view (heard u now a s) ≡ brought_view (acked_view u a.len k)
  unfolding heard
  heard_shown u k e = ap (λ x. brought_view (counted_with x (released (window_taken u now s.control s.window_len) a.len) (is_window_changed u s.control s.window_len))) e ∙ counted_shown k u (is_window_changed u s.control s.window_len)

-- ---- phases

pub knows_peer : (st : State) → has_window st ≡ true → (st ≡ state.Closed → ⊥) → KnowsPeer (phase_of st)
knows_peer state.Closed w open_ = absurd (open_ refl)
knows_peer state.Listen w open_ = cc
knows_peer state.SynSent w open_ = cc
knows_peer _ w open_ = tt
