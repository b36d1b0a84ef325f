-- What each event but a delivery keeps.
use Rattle.std.proofs.Common.{◌≡◌, ◌⊎◌, ℕ, ◌+◌, ◌-◌, ◌≤◌, ◌%◌, ◌^◌, arith, List, [], ◌∷◌, ◌++◌, length, Bool, true, false, true≢false, refl, sym, ap, subst, ◌∙◌, Option, is_some, inl, inr}
use Rattle.std.specs.Prelude.{nat_lt, ◌||◌, if◌then◌else◌}
use Rattle.std.proofs.lemmas.List.{append-nil}
use Rattle.ip_wire.specs.declared.endpoint.IpEndpoint.{IpEndpoint}
use Rattle.ip_wire.specs.declared.endpoint.IpListenEndpoint.{IpListenEndpoint}
use Rattle.sock_core.specs.Received.{byte_at}
use Rattle.sock_core.specs.Streams.{fin_length}
use Rattle.sock_tcp.specs.Closing.{closed, closed_from, waits_in}
use Rattle.sock_tcp.proofs.Late.{called_as}
use Rattle.sock_tcp.specs.Opening.{connected, is_open, listened, renewed}
use Rattle.sock_tcp.specs.Queues.{may_recv, may_send, queued, read_off}
use Rattle.sock_tcp.specs.Rfc.Scoreboard.{nothing_told}
use Rattle.sock_tcp.specs.View.{View, fresh}
use Rattle.sock_tcp.specs.Window.{next_ack}
use Rattle.sock_tcp.specs.declared.rules.Rules.{Rules}
use Rattle.sock_tcp.specs.declared.rules.Rules.TheVariants as rules
use Rattle.sock_tcp.specs.declared.state.State.{State}
use Rattle.sock_tcp.specs.declared.state.State.TheVariants as state
use Rattle.sock_tcp.specs.declared.tuple.Tuple.{Tuple}
use Rattle.tcp_laws.specs.Loss.{Tells}
use Rattle.tcp_laws.proofs.LossFollows.{tells_nothing}
use Rattle.tcp_laws.specs.Telling.{AllHeld}
use Rattle.pair_core.specs.Network.{Endpoint}
use Rattle.pair_core.specs.NetworkRuns.{unopened}
use Rattle.pair_core.specs.PairCalls.{listening, connecting, OpensAs, is_over, sending, Sends, SendsIf, SendsUnder, receiving, Receives, ReceivesIf, closing, Closes, aborting, Aborts, setting, Sets}
use Rattle.pair_core.specs.NetworkInvariant.{IsInvariant}
use Rattle.pair_core.specs.PairInvariant.{IsHost}
use Rattle.pair_core.specs.PairNetwork.{endpoint_of, network_at, phase_of, seen, shown}
use Rattle.pair_core.proofs.PairReaches.{idle_stores}
use Rattle.sack_laws.proofs.Heard.{answer_true}
use Rattle.pair_core.specs.PairSteps.{Dispatches, exchanged, stored_at}
use Rattle.pair_core.specs.PairViews.{HostView, StoredView, PairView, host_of, with_host}
use Rattle.pair_core.specs.Settings.{set_in}
use Rattle.pair_core.specs.Sides.{other_side}
use Rattle.pair_core.specs.StreamViews.{SocketView, Dead, IsSynchronized}
use Rattle.pair_core.specs.declared.host.Opening.{Opening}
use Rattle.pair_core.specs.declared.host.Opening.TheVariants as opening
use Rattle.pair_core.specs.declared.moment.Moment.{Moment}
use Rattle.pair_core.specs.declared.outcome.Outcome.{Outcome}
use Rattle.pair_core.specs.declared.setting.Setting.{Setting}
use Rattle.pair_core.specs.declared.setting.Setting.TheVariants as settings
use Rattle.pair_core.specs.declared.side.Side.{Side}
use Rattle.pair_core.specs.declared.side.Side.TheVariants.{A, B}
use Rattle.pair_core.proofs.PairAmounts.{takes_some, hands_some}
use Rattle.pair_core.proofs.ShownCalls.{read_shows}
use Rattle.sack_laws.specs.Told.{AllToldBy, IsTold, ScoreboardIsTrue, TrueIn, has_byte, keeps_scoreboard}
use Rattle.pair_core.proofs.DispatchTells.{Same, Stays, TellHeld, dispatch_held, dispatch_tells}
use Rattle.pair_core.specs.Moments.{facts_of}
use Rattle.sack_laws.proofs.Growing.{AllOf, Follows, Grows, SameBoard, acts_storing, same_scoreboard}

-- ---- what a side has stays

pub record Alike (e f : Endpoint) : Type 0 where
  pub held : (n : ℕ) → f.view.held n ≡ e.view.held n
  pub rcv_nxt : f.view.rcv_nxt ≡ e.view.rcv_nxt
  pub fin : f.view.fin_counted ≡ e.view.fin_counted
  pub taken : f.taken ≡ e.taken

pub alike_grows : (e f : Endpoint) → (e.view.phase ≡ Dead → f.view.phase ≡ Dead) → (IsSynchronized e.view.phase → (f.view.phase ≡ Dead) ⊎ IsSynchronized f.view.phase) → Alike e f → Grows e f
alike_grows e f dead synced a = record {
  dead = dead;
  follows = λ s. by (synced s);
  bytes = inr (λ n t. there n t);
}
  where
    there : (n : ℕ) → has_byte e n ≡ true → has_byte f n ≡ true
    there n t = (λ i. nat_lt n (a.taken i) || is_some (a.held (n - a.taken i) i)) ∙ t

    by : (f.view.phase ≡ Dead) ⊎ IsSynchronized f.view.phase → (f.view.phase ≡ Dead) ⊎ Follows e f
    by (inl d) = inl d
    by (inr s) = inr (record { synced = s; more = 0; counted = omega (arith, a.taken, ap fin_length a.fin); rcv_nxt = ap (λ n. n % 2 ^ 32) {x = f.view.rcv_nxt} {y = e.view.rcv_nxt + 0} (omega (arith, a.rcv_nxt)) })

-- a call that brings nothing
pub record Quietly (v w : View) : Type 0 where
  pub held : (n : ℕ) → byte_at w.rx_buffer.held n ≡ byte_at v.rx_buffer.held n
  pub rcv_nxt : (next_ack w).0 ≡ (next_ack v).0
  pub fin : w.rx_fin_received ≡ v.rx_fin_received
  pub dead : phase_of v.state ≡ Dead → phase_of w.state ≡ Dead
  pub synced : IsSynchronized (phase_of v.state) → (phase_of w.state ≡ Dead) ⊎ IsSynchronized (phase_of w.state)

module _ (v w : View) (q : Quietly v w) where
  seen_held : (o : Opening) (n : ℕ) → (seen o w).held n ≡ (seen o v).held n
  seen_held opening.Unopened n = refl
  seen_held opening.Listener n = q.held n
  seen_held opening.Connector n = q.held n

  seen_rcv : (o : Opening) → (seen o w).rcv_nxt ≡ (seen o v).rcv_nxt
  seen_rcv opening.Unopened = refl
  seen_rcv opening.Listener = q.rcv_nxt
  seen_rcv opening.Connector = q.rcv_nxt

  seen_fin : (o : Opening) → (seen o w).fin_counted ≡ (seen o v).fin_counted
  seen_fin opening.Unopened = refl
  seen_fin opening.Listener = q.fin
  seen_fin opening.Connector = q.fin

  seen_dead : (o : Opening) → (seen o v).phase ≡ Dead → (seen o w).phase ≡ Dead
  seen_dead opening.Unopened d = d
  seen_dead opening.Listener d = q.dead d
  seen_dead opening.Connector d = q.dead d

  seen_synced : (o : Opening) → IsSynchronized (seen o v).phase → ((seen o w).phase ≡ Dead) ⊎ IsSynchronized (seen o w).phase
  seen_synced opening.Unopened s = absurd s
  seen_synced opening.Listener s = q.synced s
  seen_synced opening.Connector s = q.synced s

-- one side, whose socket a call left so
pub quietly_grows : {G : Type 0} (h k : HostView G) → k.opening ≡ h.opening → k.taken ≡ h.taken → Quietly h.control_block k.control_block → Grows (endpoint_of h) (endpoint_of k)
quietly_grows h k o t q = alike_grows (endpoint_of h) (endpoint_of k)
    (subst (λ x. (seen h.opening v).phase ≡ Dead → (seen x w).phase ≡ Dead) (sym o) (seen_dead v w q h.opening))
    (subst (λ x. IsSynchronized (seen h.opening v).phase → ((seen x w).phase ≡ Dead) ⊎ IsSynchronized (seen x w).phase) (sym o) (seen_synced v w q h.opening))
    (record {
      held = λ n. ap (λ x. (seen x w).held n) o ∙ seen_held v w q h.opening n;
      rcv_nxt = ap (λ x. (seen x w).rcv_nxt) o ∙ seen_rcv v w q h.opening;
      fin = ap (λ x. (seen x w).fin_counted) o ∙ seen_fin v w q h.opening;
      taken = t;
    })
  where
    v : View
    v = h.control_block

    w : View
    w = k.control_block

dies_grows : (e f : Endpoint) → f.view.phase ≡ Dead → Grows e f
dies_grows e f d = record { dead = λ x. d; follows = λ s. inl d; bytes = inl d }

-- one side, whose socket is CLOSED then
closes_grows : {G : Type 0} (h k : HostView G) → k.opening ≡ h.opening → k.taken ≡ h.taken → k.control_block.state ≡ state.Closed → Grows (endpoint_of h) (endpoint_of k)
closes_grows h k o t c = go h.opening refl
  where
    dead_as : (x : Opening) → (x ≡ opening.Unopened → ⊥) → (seen x k.control_block).phase ≡ Dead
    dead_as opening.Unopened shut = absurd (shut refl)
    dead_as opening.Listener shut = ap phase_of c
    dead_as opening.Connector shut = ap phase_of c

    go : (x : Opening) → h.opening ≡ x → Grows (endpoint_of h) (endpoint_of k)
    go opening.Unopened e =
        let v : SocketView = (endpoint_of h).view in
        let same : (endpoint_of k).view ≡ (endpoint_of h).view = ap (λ x. seen x k.control_block) (o ∙ e) ∙ sym (ap (λ x. seen x h.control_block) e) in
        alike_grows (endpoint_of h) (endpoint_of k) (λ d. ap (λ (y : SocketView). y.phase) same ∙ d) (λ s. inr (subst (λ (y : SocketView). IsSynchronized y.phase) (sym same) s))
        (record { held = λ n. ap (λ (y : SocketView). y.held n) same; rcv_nxt = ap (λ (y : SocketView). y.rcv_nxt) same; fin = ap (λ (y : SocketView). y.fin_counted) same; taken = t })
    go opening.Listener e = dies_grows (endpoint_of h) (endpoint_of k) (dead_as k.opening (λ u. let no : opening.Listener ≡ opening.Unopened = sym e ∙ sym o ∙ u in cc))
    go opening.Connector e = dies_grows (endpoint_of h) (endpoint_of k) (dead_as k.opening (λ u. let no : opening.Connector ≡ opening.Unopened = sym e ∙ sym o ∙ u in cc))

-- a side is opened
opens_grows : (e f : Endpoint) → e.view ≡ unopened.view → f.taken ≡ e.taken → Grows e f
opens_grows e f is t = record {
  dead = λ d. let no : unopened.view.phase ≡ Dead = sym (ap (λ (y : SocketView). y.phase) is) ∙ d in cc;
  follows = λ s. absurd (subst (λ (y : SocketView). IsSynchronized y.phase) is s);
  bytes = inr there;
}
  where
    first : (a : Bool) → (a || false) ≡ true → a ≡ true
    first true h = refl
    first false h = h

    or_any : (a b : Bool) → a ≡ true → (a || b) ≡ true
    or_any true b h = refl
    or_any false b h = absurd (true≢false (sym h))

    there : (n : ℕ) → has_byte e n ≡ true → has_byte f n ≡ true
    there n h =
        let taken : nat_lt n e.taken ≡ true = first (nat_lt n e.taken) (sym (λ i. nat_lt n e.taken || is_some ((is i).held (n - e.taken))) ∙ h) in
        or_any (nat_lt n f.taken) _ (ap (nat_lt n) t ∙ taken)

-- ---- the calls, of a socket

queued_quiet : (v : View) (n : ℕ) (bs : List ℕ) → Quietly v (queued v n bs)
unfolding queued
queued_quiet v n bs = record { held = λ m. refl; rcv_nxt = refl; fin = refl; dead = λ d. d; synced = λ s. inr s }

read_quiet : (v : View) (n : ℕ) → n ≤ length v.rx_buffer.bytes → Quietly v (read_off v n)
read_quiet v n le = record {
  held = λ m. ap (λ (y : SocketView). y.held m) (read_shows v n le);
  rcv_nxt = ap (λ (y : SocketView). y.rcv_nxt) (read_shows v n le);
  fin = ap (λ (y : SocketView). y.fin_counted) (read_shows v n le);
  dead = λ d. ap (λ (y : SocketView). y.phase) (read_shows v n le) ∙ d;
  synced = λ s. inr (subst (λ (y : SocketView). IsSynchronized y.phase) (sym (read_shows v n le)) s);
}

closed_dead : (st : State) → phase_of st ≡ Dead → phase_of (closed_from st) ≡ Dead
closed_dead state.Closed d = refl
closed_dead state.Listen d = refl
closed_dead state.SynSent d = refl
closed_dead state.SynReceived d = cc
closed_dead state.Established d = cc
closed_dead state.FinWait1 d = d
closed_dead state.FinWait2 d = d
closed_dead state.CloseWait d = cc
closed_dead state.Closing d = d
closed_dead state.LastAck d = d
closed_dead state.TimeWait d = d

closed_synced : (st : State) → IsSynchronized (phase_of st) → (phase_of (closed_from st) ≡ Dead) ⊎ IsSynchronized (phase_of (closed_from st))
closed_synced state.Closed s = absurd s
closed_synced state.Listen s = absurd s
closed_synced state.SynSent s = absurd s
closed_synced state.SynReceived s = absurd s
closed_synced state.Established s = inr tt
closed_synced state.FinWait1 s = inr tt
closed_synced state.FinWait2 s = inr tt
closed_synced state.CloseWait s = inr tt
closed_synced state.Closing s = inr tt
closed_synced state.LastAck s = inr tt
closed_synced state.TimeWait s = inr tt

closed_quiet : (v : View) → Quietly v (closed v)
closed_quiet v = record { held = λ m. refl; rcv_nxt = refl; fin = refl; dead = λ d. called_as (λ st. phase_of st ≡ Dead) (waits_in v.state v.rules) v.state d (closed_dead v.state d); synced = λ s. called_as (λ st. (phase_of st ≡ Dead) ⊎ IsSynchronized (phase_of st)) (waits_in v.state v.rules) v.state (inr s) (closed_synced v.state s) }

set_quiet : (x : Setting) (v : View) → Quietly v (set_in x v)
set_quiet (settings.KeepAlive t) v = record { held = λ m. refl; rcv_nxt = refl; fin = refl; dead = λ d. d; synced = λ s. inr s }
set_quiet _ v = record { held = λ m. refl; rcv_nxt = refl; fin = refl; dead = λ d. d; synced = λ s. inr s }

kept_before_close : (st : State) → keeps_scoreboard (closed_from st) ≡ true → keeps_scoreboard st ≡ true
kept_before_close state.Closed k = k
kept_before_close state.Listen k = refl
kept_before_close state.SynSent k = refl
kept_before_close state.SynReceived k = refl
kept_before_close state.Established k = refl
kept_before_close state.FinWait1 k = k
kept_before_close state.FinWait2 k = k
kept_before_close state.CloseWait k = refl
kept_before_close state.Closing k = k
kept_before_close state.LastAck k = k
kept_before_close state.TimeWait k = k

kept_before : (v : View) → keeps_scoreboard (closed v).state ≡ true → keeps_scoreboard v.state ≡ true
kept_before v = called_as (λ st. keeps_scoreboard st ≡ true → keeps_scoreboard v.state ≡ true) (waits_in v.state v.rules) v.state (λ k. k) (kept_before_close v.state)

-- a state that keeps a scoreboard is open, and keeps its rules
kept_is_open : (st : State) → keeps_scoreboard st ≡ true → is_open st ≡ true
kept_is_open state.Closed k = k
kept_is_open state.Listen k = refl
kept_is_open state.SynSent k = refl
kept_is_open state.SynReceived k = refl
kept_is_open state.Established k = refl
kept_is_open state.FinWait1 k = refl
kept_is_open state.FinWait2 k = absurd (true≢false (sym k))
kept_is_open state.CloseWait k = refl
kept_is_open state.Closing k = refl
kept_is_open state.LastAck k = refl
kept_is_open state.TimeWait k = k

-- ---- the calls, of one side of a pair

module _ {G : Type 0} (p : PairView G) (s : Side) (told : IsTold p) where
  abbrev h : HostView G
  h = host_of s p

  abbrev e : Endpoint
  e = endpoint_of (host_of (other_side s) p)

  with_is : (s : Side) (k : HostView G) → exchanged s p k (p.segments ++ []) ≡ with_host s p k
  with_is A k = ap (λ ts. exchanged A p k ts) (append-nil p.segments)
  with_is B k = ap (λ ts. exchanged B p k ts) (append-nil p.segments)

  alone : (k : HostView G) → Grows (endpoint_of h) (endpoint_of k) → ScoreboardIsTrue k e → IsTold (with_host s p k)
  alone k g heard = subst IsTold (with_is s k) (acts_storing p k [] s told g tt tt heard)

  with_itself : (s : Side) → with_host s p (host_of s p) ≡ p
  with_itself A = refl
  with_itself B = refl

  pub unchanged : (k : HostView G) → k ≡ h → IsTold (with_host s p k)
  unchanged k is = subst IsTold (sym (ap (with_host s p) is ∙ with_itself s)) told

  -- a call that brings nothing, and of which nothing is heard
  quiet : (k : HostView G) → k.opening ≡ h.opening → k.taken ≡ h.taken → Quietly h.control_block k.control_block → SameBoard h k → IsTold (with_host s p k)
  quiet k o t q b = alone k (quietly_grows h k o t q) (same_scoreboard p k [] s told b)

  sent_told : (n : ℕ) (bs : List ℕ) → IsTold (with_host s p (sending h n bs))
  unfolding queued
  sent_told n bs = quiet (sending h n bs) refl refl (queued_quiet h.control_block n bs) (record { rules = λ r st. (r, st); sacked = λ x t. t; released = refl })

  pub sends : (size : Option ℕ) (bs : List ℕ) (o : Outcome) (k : HostView G) → Sends p.limit size bs h o k → IsTold (with_host s p k)
  sends size bs o k d = go (is_over p.limit (length h.accepted + length bs)) d
    where
      some : (b : Bool) → SendsIf b size bs h o k → IsTold (with_host s p k)
      some false d = unchanged k d.1
      some true d = let t = takes_some size bs h o k d in subst (λ z. IsTold (with_host s p z)) (sym t.host) (sent_told t.count bs)

      go : (b : Bool) → SendsUnder b size bs h o k → IsTold (with_host s p k)
      go true d = unchanged k d.1
      go false d = some (may_send h.control_block.state) d

  read_told : (n : ℕ) → n ≤ length h.control_block.rx_buffer.bytes → IsTold (with_host s p (receiving h n))
  unfolding read_off
  read_told n le = quiet (receiving h n) refl refl (read_quiet h.control_block n le) (record { rules = λ r st. (r, st); sacked = λ x t. t; released = refl })

  pub receives : (piece : Bool) (size : ℕ) (o : Outcome) (k : HostView G) → Receives piece size h o k → IsTold (with_host s p k)
  receives piece size o k d = go (may_recv h.control_block) d
    where
      go : (b : Bool) → ReceivesIf b piece size h o k → IsTold (with_host s p k)
      go false d = unchanged k d.1
      go true d = let t = hands_some piece size h o k d in subst (λ z. IsTold (with_host s p z)) (sym t.does.host) (read_told t.count t.within)

  pub closes : (o : Outcome) (k : HostView G) → Closes h o k → IsTold (with_host s p k)
  closes o k d = subst (λ z. IsTold (with_host s p z)) (sym d.1) (quiet (closing h) refl refl (closed_quiet h.control_block) (record { rules = λ r st. (r, kept_before h.control_block st); sacked = λ x t. t; released = refl }))

  pub aborts : (o : Outcome) (k : HostView G) → Aborts h o k → IsTold (with_host s p k)
  aborts o k d = subst (λ z. IsTold (with_host s p z)) (sym d.1) (alone (aborting h) (closes_grows h (aborting h) refl refl refl) (inr (λ r st x t. absurd (true≢false (sym st)))))

  pub sets : (x : Setting) (o : Outcome) (k : HostView G) → Sets x h o k → IsTold (with_host s p k)
  sets x o k d = subst (λ z. IsTold (with_host s p z)) (sym d.1) (quiet (setting h x) refl refl (set_quiet x h.control_block) (board x))
    where
      by_open : (b : Bool) (own new : Rules) → (b ≡ true) → (if b then own else new) ≡ rules.Rfc → own ≡ rules.Rfc
      by_open true own new is r = r
      by_open false own new is r = absurd (true≢false (sym is))

      board : (x : Setting) → SameBoard h (setting h x)
      board (settings.Rules y) = record { rules = λ r st. (by_open (is_open h.control_block.state) h.control_block.rules y (kept_is_open h.control_block.state st) r, st); sacked = λ x t. t; released = refl }
      board (settings.Timeout t) = record { rules = λ r st. (r, st); sacked = λ x t. t; released = refl }
      board (settings.AckDelay t) = record { rules = λ r st. (r, st); sacked = λ x t. t; released = refl }
      board (settings.KeepAlive t) = record { rules = λ r st. (r, st); sacked = λ x t. t; released = refl }
      board (settings.Nagle on) = record { rules = λ r st. (r, st); sacked = λ x t. t; released = refl }
      board (settings.HopLimit n) = record { rules = λ r st. (r, st); sacked = λ x t. t; released = refl }
      board (settings.Congestion c) = record { rules = λ r st. (r, st); sacked = λ x t. t; released = refl }
      board (settings.Pause on) = record { rules = λ r st. (r, st); sacked = λ x t. t; released = refl }

  listened_blank : (v : View) (l : IpListenEndpoint) → (listened v l).sacked ≡ nothing_told
  unfolding listened renewed fresh
  listened_blank v l = refl

  connected_blank : (v : View) (t : Tuple) (word : ℕ) → (connected v t word).sacked ≡ nothing_told
  unfolding connected renewed fresh
  connected_blank v t word = refl

  blank : (k : HostView G) → k.control_block.sacked ≡ nothing_told → ScoreboardIsTrue k e
  blank k is = inr (λ r st x t. absurd (tells_nothing x (subst (λ y. Tells y x) is t)))

  opened : (n k : HostView G) (o : Outcome) → n.taken ≡ h.taken → n.control_block.sacked ≡ nothing_told → OpensAs h.opening h n o k → IsTold (with_host s p k)
  opened n k o t is d = go h.opening refl d
    where
      go : (x : Opening) → h.opening ≡ x → OpensAs x h n o k → IsTold (with_host s p k)
      go opening.Unopened at d = subst (λ z. IsTold (with_host s p z)) (sym d.1) (alone n (opens_grows (endpoint_of h) (endpoint_of n) (ap (λ x. seen x h.control_block) at) t) (blank n is))
      go opening.Listener at d = unchanged k d.1
      go opening.Connector at d = unchanged k d.1

  pub listens : (o : Outcome) (k : HostView G) → OpensAs h.opening h (listening h) o k → IsTold (with_host s p k)
  listens o k d = opened (listening h) k o refl (listened_blank _ _) d

  pub connects : (m : Moment) (remote : IpEndpoint) (o : Outcome) (k : HostView G) → OpensAs h.opening h (connecting h m remote) o k → IsTold (with_host s p k)
  connects m remote o k d = opened (connecting h m remote) k o refl (connected_blank _ _ _) d

  -- ---- a dispatch

  held_of : (f : Endpoint) (w : View) → ((rs : List (Option (ℕ × ℕ))) → AllHeld w rs → TrueIn f.view.phase f f.taken rs) → (ts : List StoredView) → TellHeld s f.taken w ts → AllOf s ts × AllToldBy s f ts
  held_of f w says [] n = (tt, tt)
  held_of f w says (t ∷ ts) n =
      let rest = held_of f w says ts n.3 in
      ((n.0, rest.0), (λ own. subst (λ x. TrueIn f.view.phase f x t.segment.sack_ranges) (sym n.1) (says t.segment.sack_ranges n.2), rest.1))

  -- an opened side is shown as it is
  opened_as : (x : Opening) → (x ≡ opening.Unopened → ⊥) → (u : View) → seen x u ≡ shown u
  opened_as opening.Unopened shut u = absurd (shut refl)
  opened_as opening.Listener shut u = refl
  opened_as opening.Connector shut u = refl

  module _ (tells : G → ℕ → Type 0) (m : Moment) (fail : Bool) (o : Outcome) (k : HostView G) (ks : List StoredView) (host : IsHost h) (after : IsInvariant (network_at s k (host_of (other_side s) p) ks p.limit)) (d : Dispatches tells s m fail o h p.segments k ks) where
    abbrev left : View
    left = k.control_block

    abbrev n : HostView G
    n = record h { control_block = left }

    abbrev more : List StoredView
    more = stored_at s d.sent h.released h.taken

    then_held : TellHeld s h.taken left more
    then_held = dispatch_held tells s m fail o h k p.segments ks d

    open_told : (h.opening ≡ opening.Unopened → ⊥) → AllOf s more × AllToldBy s (endpoint_of n) more
    open_told shut =
        let i : IsInvariant (network_at s n (host_of (other_side s) p) ks p.limit) = subst (λ z. IsInvariant (network_at s z (host_of (other_side s) p) ks p.limit)) d.does.same after in
        let at_last : (endpoint_of n).view ≡ shown left = opened_as h.opening shut left in
        held_of (endpoint_of n) left
        (λ rs says. answer_true (endpoint_of n) (next_ack left) left.rx_buffer.held (ap (λ (y : SocketView). y.rcv_nxt) at_last) (ap (λ (y : SocketView). y.held) at_last) (endpoint_of (host_of (other_side s) p)) i.remote_origin i.incoming i.incoming_holds rs says)
        more then_held

    all_told : (x : Opening) → h.opening ≡ x → AllOf s more × AllToldBy s (endpoint_of n) more
    all_told opening.Unopened e = subst (λ r. AllOf s (stored_at s r h.released h.taken) × AllToldBy s (endpoint_of n) (stored_at s r h.released h.taken)) (sym (idle_stores tells h.source h.control_block left (facts_of m) fail d.sent (host.idle e).tuple d.does.socket)) (tt, tt)
    all_told opening.Listener e = open_told (λ u. let no : opening.Listener ≡ opening.Unopened = sym e ∙ u in cc)
    all_told opening.Connector e = open_told (λ u. let no : opening.Connector ≡ opening.Unopened = sym e ∙ u in cc)

  pub dispatches : (tells : G → ℕ → Type 0) (m : Moment) (fail : Bool) (o : Outcome) (k : HostView G) (ks : List StoredView) → IsHost h → IsInvariant (network_at s k (host_of (other_side s) p) ks p.limit) → Dispatches tells s m fail o h p.segments k ks → IsTold (exchanged s p k ks)
  dispatches tells m fail o k ks host after d =
      let t = dispatch_tells tells s m fail o h k p.segments ks d in
      let w : View = k.control_block in
      let n : HostView G = record h { control_block = w } in
      subst (λ z. IsTold (exchanged s p z ks)) (sym t.host)
      (subst (λ ts. IsTold (exchanged s p n ts)) (sym d.stored) (by n (stored_at s d.sent h.released h.taken) (all_told tells m fail o k ks host after d h.opening refl) refl refl refl t.stays))
    where
      same_quiet : (v w : View) → Same v w → Quietly v w
      same_quiet v w a = record {
        held = λ m. ap (λ b. byte_at b.held m) a.rx;
        rcv_nxt = λ i. (((a.seq i).0) + length (a.rx i).bytes) % 2 ^ 32;
        fin = a.fin;
        dead = λ d. ap phase_of a.state ∙ d;
        synced = λ s. inr (subst (λ st. IsSynchronized (phase_of st)) (sym a.state) s);
      }

      kept : (v w : View) → Same v w → (x : ℕ) → Tells w.sacked x → Tells v.sacked x
      kept v w a x t = go a.sacked
        where
          go : (w.sacked ≡ v.sacked) ⊎ (w.sacked ≡ nothing_told) → Tells v.sacked x
          go (inl is) = subst (λ y. Tells y x) is t
          go (inr is) = absurd (tells_nothing x (subst (λ y. Tells y x) is t))

      by : (n : HostView G) (more : List StoredView) → AllOf s more × AllToldBy s (endpoint_of n) more → n.opening ≡ h.opening → n.taken ≡ h.taken → n.released ≡ h.released → Stays h.control_block n.control_block → IsTold (exchanged s p n (p.segments ++ more))
      by n more all o t r (inl a) =
          acts_storing p n more s told (quietly_grows h n o t (same_quiet h.control_block n.control_block a)) all.0 all.1
          (same_scoreboard p n more s told (record { rules = λ y st. (sym a.rules ∙ y, ap keeps_scoreboard (sym a.state) ∙ st); sacked = kept h.control_block n.control_block a; released = r }))
      by n more all o t r (inr c) =
          acts_storing p n more s told (closes_grows h n o t c) all.0 all.1
          (inr (λ y st x z. absurd (true≢false (sym (ap keeps_scoreboard (sym c) ∙ st)))))
