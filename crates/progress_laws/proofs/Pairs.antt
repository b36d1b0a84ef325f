-- Of every pair: the agreement of its sides, and what follows of it.
use Rattle.std.proofs.Common.{◌≡◌, ℕ, zero, suc, ◌+◌, ◌%◌, ◌^◌, ◌<◌, ◌≤◌, ◌⊎◌, inl, inr, ⊎_elim, Bool, true, false, refl, sym, ap, subst, ◌∙◌, List, ◌++◌, length, drop, Option, Some, arith}
use Rattle.std.proofs.lemmas.List.{append_assoc}
use Rattle.net_base.specs.declared.time.Duration.{Duration}
use Rattle.net_base.specs.declared.time.Instant.{Instant}
use Rattle.control_wire.specs.Seq.{seq_add, seq_of}
use Rattle.sock_core.specs.Bounds.{IsMtu}
use Rattle.sock_core.specs.Facts.{Facts}
use Rattle.sock_core.specs.Streams.{fin_length}
use Rattle.sock_tcp.specs.Content.{carries_data}
use Rattle.sock_tcp.specs.Due.{is_closing}
use Rattle.sock_tcp.specs.Queues.{may_send, receives}
use Rattle.sock_tcp.specs.Verdict.{fin_place}
use Rattle.sock_tcp.specs.View.{FinSays, View}
use Rattle.sock_tcp.specs.Window.{next_ack}
use Rattle.sock_tcp.specs.declared.state.State.{State}
use Rattle.sock_tcp.specs.declared.state.State.TheVariants as state
use Rattle.sock_tcp.specs.declared.tuple.Tuple.{Tuple}
use Rattle.tcp_laws.proofs.Awake.{reached_by_own}
use Rattle.tcp_laws.specs.Laws.{IsPeered}
use Rattle.tcp_laws.proofs.OrderedCalls.{reached_ordered}
use Rattle.pair_core.specs.PairAddresses.{HasPeer, tuple_to}
use Rattle.pair_core.specs.PairAgrees.{SidesAgree, SynchronizedSidesAgree}
use Rattle.pair_core.specs.PairInvariant.{IsHost, IsPair}
use Rattle.pair_core.specs.PairNetwork.{phase_of}
use Rattle.pair_core.specs.PairViews.{HostView, PairView}
use Rattle.pair_core.specs.StreamViews.{IsSynchronized}
use Rattle.progress_laws.specs.Agreement.{AgreeBothWays, Agreement, AgreeingBytesArrive, AgreeingClosersFinish, AgreeingFinArrives, AgreeingStreamsArrive, EitherWays, Exchanges, IsSpeaker, IsTaking}
use Rattle.progress_laws.specs.Pairs.{BothCanAlways, BothCanComeOver, BothClosedCanAlways, BothComeOver, BothFinish, CanAlways, CanComeOver, ComesOver, MaySpeak, MayTake}

-- ---- what the states say

peered : (st : State) (o : Option Tuple) (t : Tuple) → carries_data st ≡ true → IsPeered st o t → o ≡ Some t
peered state.Established o t c h = h
peered state.CloseWait o t c h = h
peered state.FinWait1 o t c h = h
peered state.Closing o t c h = h
peered state.LastAck o t c h = h
peered _ o t c h = absurd cc

synced : (st : State) → receives st ≡ true → IsSynchronized (phase_of st)
synced state.Established c = tt
synced state.FinWait1 c = tt
synced state.FinWait2 c = tt
synced _ c = absurd cc

no_fin : (st : State) (fin : Bool) → receives st ≡ true → FinSays st fin → fin ≡ false
no_fin state.Established fin c h = h
no_fin state.FinWait1 fin c h = h
no_fin state.FinWait2 fin c h = h
no_fin _ fin c h = absurd cc

open_or_closing : (st : State) → carries_data st ≡ true → (may_send st ≡ true) ⊎ (is_closing st ≡ true)
open_or_closing state.Established c = inl refl
open_or_closing state.CloseWait c = inl refl
open_or_closing state.FinWait1 c = inr refl
open_or_closing state.Closing c = inr refl
open_or_closing state.LastAck c = inr refl
open_or_closing _ c = absurd cc

-- ---- one side and the other

module _ {G : Type 0} (h o : HostView G) (i : IsHost h) (peer : HasPeer h o.endpoint) where
  speaker : (d : Duration) → MaySpeak d h → IsSpeaker d (tuple_to h o.endpoint) h.control_block
  speaker d s = record { reached = reached_by_own h.control_block i.reached; carries = s.carries; peer = peered h.control_block.state h.control_block.tuple (tuple_to h o.endpoint) s.carries peer; no_timeout = s.no_timeout; smoltcp = s.smoltcp; keep_alive = s.keep_alive; waits = s.waits }

  taker : MayTake h → IsTaking h.control_block
  taker s = record { reached = reached_by_own h.control_block i.reached; state = s.receives; smoltcp = s.smoltcp; room = s.place }

module _ {G : Type 0} (h o : HostView G) (i : IsHost h) (j : IsHost o) (agree : SynchronizedSidesAgree h o) (d : Duration) (s : MaySpeak d h) (m : MayTake o) where
  abbrev v : View
  v = h.control_block

  abbrev w : View
  w = o.control_block

  sides : SidesAgree h o
  sides = agree s.carries s.closed (synced w.state m.receives)

  none_counted : w.rx_fin_received ≡ false
  none_counted = no_fin w.state w.rx_fin_received m.receives m.types.fin

  taken_to : next_ack w ≡ seq_add v.local_seq_no sides.taken
  taken_to =
      let alone : sides.taken + fin_length w.rx_fin_received ≡ sides.taken = omega (arith, ap fin_length none_counted) in
      sides.there ∙ ap (λ n. seq_add v.local_seq_no n) alone

  una_there : v.local_seq_no.0 < 2 ^ 32
  una_there = (reached_ordered v (reached_by_own v i.reached)).una_small

  none_taken : sides.taken ≡ 0 → next_ack w ≡ v.local_seq_no
  none_taken z =
      let same : (v.local_seq_no.0 + sides.taken) % 2 ^ 32 ≡ v.local_seq_no.0 = omega (arith, z, una_there) in
      taken_to ∙ ap seq_of same

  some_or_none : (n : ℕ) → sides.taken ≡ n → (0 < sides.taken) ⊎ (sides.taken ≡ 0)
  some_or_none zero e = inr e
  some_or_none (suc n) e = inl (omega (arith, e))

  all : o.handed_out ++ (w.rx_buffer.bytes ++ drop sides.taken v.tx_buffer.bytes) ≡ h.accepted
  all = sym (append_assoc o.handed_out w.rx_buffer.bytes (drop sides.taken v.tx_buffer.bytes)) ∙ sides.whole

module _ {G : Type 0} (h o : HostView G) (i : IsHost h) (j : IsHost o) (peer : HasPeer h o.endpoint) (agree : SynchronizedSidesAgree h o) (d : Duration) (c : CanComeOver d h o) where
  abbrev q : SidesAgree h o
  q = sides h o i j agree d c.speaks c.takes

  -- with what h heard of o, which it counted past SND.UNA of o
  agreement : (heard : ℕ) → heard ≤ length o.control_block.tx_buffer.bytes + fin_place o.control_block.state → next_ack h.control_block ≡ seq_add o.control_block.local_seq_no heard → Agreement d (tuple_to h o.endpoint) h.control_block o.control_block q.taken heard
  agreement heard within back = record {
    speaker = speaker h o i peer d c.speaks;
    taker = record { reached = reached_by_own o.control_block j.reached; state = c.takes.receives; smoltcp = c.takes.smoltcp; room = c.takes.place };
    taken_within = q.taken_within;
    there = taken_to h o i j agree d c.speaks c.takes;
    held = q.held;
    heard_within = within;
    back = back;
    in_reach = c.in_reach;
    last = λ e. ⊎_elim (λ some. inl some) (λ none. ⊎_elim (λ moved. absurd (moved (none_taken h o i j agree d c.speaks c.takes none))) (λ win. inr win) (c.last e)) (some_or_none h o i j agree d c.speaks c.takes q.taken refl);
  }

  comes_over : AgreeingBytesArrive → AgreeingFinArrives → (f : Facts) (at : Instant) → IsMtu f.mtu → f.has_address h.endpoint.addr ≡ true → ComesOver f at h o
  comes_over bytes fin f at mtu here = ⊎_elim
      (λ open_yet.
      let b = bytes d (tuple_to h o.endpoint) f at h.control_block o.control_block o.handed_out q.taken q.heard mtu here open_yet agreed in
      record { end = b.end; sender = b.sender; receiver = b.receiver; exchanges = whole b.end b.sender b.receiver b.exchanges; finished = λ e. absurd (not_both h.control_block.state open_yet e) })
      (λ closing.
      let b = fin d (tuple_to h o.endpoint) f at h.control_block o.control_block o.handed_out q.taken q.heard mtu here closing agreed in
      record { end = b.end; sender = b.sender; receiver = b.receiver; exchanges = whole b.end b.sender b.receiver b.exchanges; finished = λ e. b.finished })
      (open_or_closing h.control_block.state c.speaks.carries)
    where
      not_both : (st : State) → may_send st ≡ true → is_closing st ≡ true → ⊥
      not_both state.Established a b = cc
      not_both state.CloseWait a b = cc
      not_both _ a b = cc

      agreed : Agreement d (tuple_to h o.endpoint) h.control_block o.control_block q.taken q.heard
      agreed = agreement q.heard q.heard_within q.back

      whole : (end : Instant) (v w : View) → Exchanges f at h.control_block o.control_block o.handed_out end v w (o.handed_out ++ (o.control_block.rx_buffer.bytes ++ drop q.taken h.control_block.tx_buffer.bytes)) → Exchanges f at h.control_block o.control_block o.handed_out end v w h.accepted
      whole end v w x = subst (λ xs. Exchanges f at h.control_block o.control_block o.handed_out end v w xs) (all h o i j agree d c.speaks c.takes) x

module _ {G : Type 0} (h o : HostView G) (i : IsHost h) (j : IsHost o) (peer : HasPeer h o.endpoint) (peer_back : HasPeer o h.endpoint) (agree : SynchronizedSidesAgree h o) (agree_back : SynchronizedSidesAgree o h) (d e : Duration) (c : BothCanComeOver d e h o) where
  abbrev forth : SidesAgree h o
  forth = sides h o i j agree d c.over.speaks c.over.takes

  abbrev back : SidesAgree o h
  back = sides o h j i agree_back e c.speaks_back c.takes_back

  both : AgreeBothWays d e (tuple_to h o.endpoint) (tuple_to o h.endpoint) h.control_block o.control_block forth.taken back.taken
  both = record {
    over = agreement h o i j peer agree d c.over back.taken (omega (arith, back.taken_within)) (taken_to o h j i agree_back e c.speaks_back c.takes_back);
    here = taker h o i peer c.takes_back;
    across = speaker o h j peer_back e c.speaks_back;
    heard_within = back.taken_within;
    held = back.held;
  }

  both_come_over : AgreeingStreamsArrive → (f : Facts) (at : Instant) → IsMtu f.mtu → f.has_address h.endpoint.addr ≡ true → f.has_address o.endpoint.addr ≡ true → may_send h.control_block.state ≡ true → BothComeOver f at h o
  both_come_over streams f at mtu here there not_closed =
      let b = streams d e (tuple_to h o.endpoint) (tuple_to o h.endpoint) f at h.control_block o.control_block o.handed_out h.handed_out forth.taken back.taken mtu here there not_closed both in
      let x = subst (λ xs. EitherWays f at h.control_block o.control_block o.handed_out h.handed_out b.end b.here b.across xs (h.handed_out ++ (h.control_block.rx_buffer.bytes ++ drop back.taken o.control_block.tx_buffer.bytes))) (all h o i j agree d c.over.speaks c.over.takes) b.exchanges in
      record { end = b.end; here = b.here; across = b.across; exchanges = subst (λ ys. EitherWays f at h.control_block o.control_block o.handed_out h.handed_out b.end b.here b.across h.accepted ys) (all o h j i agree_back e c.speaks_back c.takes_back) x; finished = b.finished }

  both_finish : AgreeingClosersFinish → (f : Facts) (at : Instant) → IsMtu f.mtu → f.has_address h.endpoint.addr ≡ true → f.has_address o.endpoint.addr ≡ true → is_closing h.control_block.state ≡ true → is_closing o.control_block.state ≡ true → BothFinish f at h o
  both_finish closers f at mtu here there closed closed_across =
      let b = closers d e (tuple_to h o.endpoint) (tuple_to o h.endpoint) f at h.control_block o.control_block o.handed_out h.handed_out forth.taken back.taken mtu here there closed closed_across both in
      let waits : List ℕ = h.handed_out ++ h.control_block.rx_buffer.bytes in
      let gone = all h o i j agree d c.over.speaks c.over.takes in
      record {
        mid = b.mid;
        here = b.here;
        across = b.across;
        one = subst (λ xs. EitherWays f at h.control_block o.control_block o.handed_out h.handed_out b.mid b.here b.across xs waits) gone b.one;
        finished_across = b.finished_across;
        end = b.end;
        last_here = b.last_here;
        last_across = b.last_across;
        other = subst (λ xs. EitherWays f b.mid b.here b.across xs waits b.end b.last_here b.last_across xs o.accepted) gone (subst (λ ys. EitherWays f b.mid b.here b.across (o.handed_out ++ (o.control_block.rx_buffer.bytes ++ drop forth.taken h.control_block.tx_buffer.bytes)) waits b.end b.last_here b.last_across (o.handed_out ++ (o.control_block.rx_buffer.bytes ++ drop forth.taken h.control_block.tx_buffer.bytes)) ys) back.whole b.other);
        finished_here = b.finished_here;
      }

-- ---- of every pair

module _ {G : Type 0} (to_b : (p : PairView G) → IsPair p → SynchronizedSidesAgree p.a p.b) (to_a : (p : PairView G) → IsPair p → SynchronizedSidesAgree p.b p.a) (p : PairView G) (i : IsPair p) where
  pub a_can : AgreeingBytesArrive → AgreeingFinArrives → CanAlways p.a p.b
  a_can bytes fin d f at mtu here c = comes_over p.a p.b i.a i.b i.peer_of_a (to_b p i) d c bytes fin f at mtu here

  pub b_can : AgreeingBytesArrive → AgreeingFinArrives → CanAlways p.b p.a
  b_can bytes fin d f at mtu here c = comes_over p.b p.a i.b i.a i.peer_of_b (to_a p i) d c bytes fin f at mtu here

  pub a_first : AgreeingStreamsArrive → BothCanAlways p.a p.b
  a_first streams d e f at mtu here there not_closed c = both_come_over p.a p.b i.a i.b i.peer_of_a i.peer_of_b (to_b p i) (to_a p i) d e c streams f at mtu here there not_closed

  pub b_first : AgreeingStreamsArrive → BothCanAlways p.b p.a
  b_first streams d e f at mtu here there not_closed c = both_come_over p.b p.a i.b i.a i.peer_of_b i.peer_of_a (to_a p i) (to_b p i) d e c streams f at mtu here there not_closed

  pub both_closed : AgreeingClosersFinish → BothClosedCanAlways p.a p.b
  both_closed closers d e f at mtu here there closed closed_across c = both_finish p.a p.b i.a i.b i.peer_of_a i.peer_of_b (to_b p i) (to_a p i) d e c closers f at mtu here there closed closed_across
