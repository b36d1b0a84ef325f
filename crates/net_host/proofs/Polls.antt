-- When a socket wants to be asked, and what its guard has seen.
use Rattle.std.proofs.Common.{◌≡◌, ◌∙◌, ℕ, ℤ, Bool, true, false, not, nat_eq, Option, Some, None, refl, sym, subst, ap, arith}
use Rattle.std.specs.Prelude.{pos, IfSome, slice_get, int_lt, ◌<ℤ◌, ◌≤ℤ◌, ◌&&◌, ◌||◌, ◌==◌, if◌then◌else◌, List}
use Rattle.std.proofs.lemmas.Bool.{and_parts}
use Rattle.std.proofs.lemmas.Option.{slice_get_within}
use Rattle.std.proofs.lemmas.Int.{ints}
use Rattle.net_base.specs.declared.time.Duration.{Duration}
use Rattle.net_base.specs.declared.time.Instant.{Instant}
use Rattle.ip_wire.specs.declared.endpoint.IpListenEndpoint.{IpListenEndpoint}
use Rattle.sock_core.specs.Bounds.{IsMoment}
use Rattle.sock_core.specs.Facts.{Facts}
use Rattle.sock_core.specs.declared.context.PollAt.{PollAt}
use Rattle.sock_core.specs.declared.context.PollAt.TheVariants as poll
use Rattle.sock_tcp.specs.Closing.{aborted}
use Rattle.sock_tcp.specs.Due.{data_due}
use Rattle.sock_tcp.specs.Opening.{listened, renewed}
use Rattle.sock_tcp.specs.Poll.{poll_moment, poll_moment_to}
use Rattle.sock_tcp.specs.declared.tuple.Tuple.{Tuple}
use Rattle.sock_tcp.specs.Polls.{is_reached}
use Rattle.sock_tcp.specs.Timers.{after}
use Rattle.sock_tcp.specs.View.{View, moment_of}
use Rattle.smoltcp_socket.specs.Kinds.{polls}
use Rattle.smoltcp_socket.specs.declared.socket.Socket.{Socket}
use Rattle.smoltcp_socket.specs.declared.socket.Socket.TheVariants as socket
use Rattle.net_host.specs.Guards.{end_in, end_of, ended, ended_if, given_up, guarded_poll, lawful_limit, limit_of, moment_left, phase_left, phase_of, since_in, with_timeout}
use Rattle.net_host.specs.Looking.{asked_under, bound_of, facts_under, has_timeout, is_bound, is_moment, is_phase, is_seen, never, rests, seen_in, seen_with, sleeps, soonest}
use Rattle.net_host.specs.Sleeping.{is_marked, sleeps_at}
use Rattle.net_host.specs.Walks.{ChangesAt}
use Rattle.net_host.specs.Turns.{Watches, WatchesIn, asked_of, delayed, is_due, may_speak}
use Rattle.net_host.specs.Watching.{Looks, is_over_for}
use Rattle.net_host.specs.Remembered.{Remembered as Guard}
use Rattle.net_host.specs.declared.guard.GuardSettings.{GuardSettings}
use Rattle.net_host.specs.declared.guard.Phase.{Phase}
use Rattle.net_host.specs.declared.guard.Phase.TheVariants as phase
use Rattle.net_host.specs.declared.slot.Slot.{Slot}
use Rattle.net_host.specs.declared.terms.Terms.{Terms}
use Rattle.net_host.proofs.Each.{there}
use Rattle.net_host.proofs.Measure.{not_reached}

both : (a b : Bool) → a ≡ true → b ≡ true → (a && b) ≡ true
both true b h k = k
both false b h k = h

-- ---- by the MTU alone

polls_to : (o : Option Tuple) (v : View) (f : Facts) → poll_moment_to o v f ≡ poll_moment_to o v (facts_under f.mtu)
unfolding data_due
polls_to None v f = refl
polls_to (Some t) v f = refl

polls_by : {G : Type 0} (s : Socket G) (f : Facts) → polls s f ≡ polls s (facts_under f.mtu)
unfolding poll_moment
polls_by (socket.Raw x) f = refl
polls_by (socket.Icmp x) f = refl
polls_by (socket.Udp x) f = refl
polls_by (socket.Tcp x) f = polls_to x.control_block.tuple x.control_block f

asked_by : {G : Type 0} (p : Phase) (end last : Option Instant) (o : Option (Socket G)) (f : Facts) → asked_of p end last o f ≡ asked_of p end last o (facts_under f.mtu)
asked_by p end last None f = refl
asked_by p end last (Some s) f = ap (λ q. guarded_poll p end last q) (polls_by s f)

pub asks_under : {G : Type 0} (s : Slot G) (f : Facts) (mtu : ℕ) → mtu ≡ f.mtu → asked_of s.guard.phase s.guard.end s.guard.last s.socket f ≡ asked_under mtu s
asks_under s f mtu e = asked_by s.guard.phase s.guard.end s.guard.last s.socket f ∙ ap (λ m. asked_under m s) (sym e)

-- ---- bounds

pub bounds_it : (p : PollAt) → is_bound (bound_of p) p ≡ true
bounds_it p = grind (arith, ints)

pub bound_is : (b : ℤ) (p : PollAt) → is_bound b p ≡ true → b ≡ bound_of p
bound_is b p h = grind (arith, ints, h)

-- a moment that is asked for, of a bound that is not the first
pub time_bound : (t : Instant) (b : ℤ) → soonest <ℤ b → b ≡ bound_of (poll.Time t) → b ≡ (if int_lt t.micros never then t.micros else pos 9223372036854775806)
time_bound t b h is = go (int_lt t.micros never) is
  where
    by : (c : Bool) → b ≡ (if c then t.micros else soonest) → b ≡ t.micros
    by true e = e
    by false e = absurd (grind (arith, ints, h, e))

    go : (d : Bool) → b ≡ (if d then (if int_lt soonest t.micros then t.micros else soonest) else pos 9223372036854775806) → b ≡ (if d then t.micros else pos 9223372036854775806)
    go true e = by (int_lt soonest t.micros) e
    go false e = e

not_yet : (b now : ℤ) (p : PollAt) → soonest ≤ℤ now → now <ℤ b → b ≡ bound_of p → is_reached p (record { micros = now }) ≡ false
not_yet b now poll.Now from below h = absurd (grind (arith, ints, from, below, h))
not_yet b now (poll.Time t) from below h = go (int_lt t.micros never) refl (time_bound t b (grind (arith, ints, from, below)) h)
  where
    go : (d : Bool) → int_lt t.micros never ≡ d → b ≡ (if d then t.micros else pos 9223372036854775806) → is_reached (poll.Time t) (record { micros = now }) ≡ false
    go true e is = grind (arith, ints, below, is)
    go false e is = grind (arith, ints, below, is, e)
not_yet b now poll.Ingress from below h = refl

not_delayed : (may : Bool) (now : Instant) (p : PollAt) → is_reached p now ≡ false → is_reached (delayed may now p) now ≡ false
not_delayed true now p h = h
not_delayed false now p h = not_reached now p

pub not_due : {G : Type 0} (f : Facts) (mtu : ℕ) (b : ℤ) (s : Slot G) → IsMoment f.now → mtu ≡ f.mtu → f.now <ℤ b → is_bound b (asked_under mtu s) ≡ true → is_due f s ≡ false
not_due f mtu b s lawful same below h =
    let from : soonest ≤ℤ f.now = grind (arith, ints, lawful.0) in
    not_delayed (may_speak s (moment_of f)) (moment_of f) (asked_of s.guard.phase s.guard.end s.guard.last s.socket f)
    (subst (λ p. is_reached p (moment_of f) ≡ false) (sym (asks_under s f mtu same)) (not_yet b f.now (asked_under mtu s) from below (bound_is b (asked_under mtu s) h)))

resting : (a b : Bool) → a ≡ false → b ≡ true → (not a && b) ≡ true
resting false b h k = k
resting true b h k = absurd (nay h)
  where
    nay : true ≡ false → ⊥
    nay e = cc

pub rests_by : {G : Type 0} (f : Facts) (st : GuardSettings) (s : Slot G) → is_due f s ≡ false → is_seen st s ≡ true → rests f st s ≡ true
rests_by f st s d e = resting (is_due f s) (is_seen st s) d e

-- what sleeps until after now rests
pub sleeper_rests : {G : Type 0} (f : Facts) (t : Terms) (b : ℤ) (s : Slot G) → IsMoment f.now → t.mtu ≡ f.mtu → f.now <ℤ b → (is_marked b || sleeps t b s) ≡ true → rests f t.guards s ≡ true
sleeper_rests f t b s lawful same below h =
    let clear : is_marked b ≡ false = grind (arith, ints, lawful.0, below) in
    let all : sleeps t b s ≡ true = subst (λ z. (z || sleeps t b s) ≡ true) clear h in
    let parts = and_parts (is_bound b (asked_under t.mtu s)) (is_seen t.guards s) all in
    rests_by f t.guards s (not_due f t.mtu b s lawful same below parts.0) parts.1

-- ---- what a guard has seen after a look

same_number : (n : ℕ) → nat_eq n n ≡ true
same_number n = grind arith

itself : (p : Phase) → is_phase p p ≡ true
itself phase.Free = refl
itself phase.Handshake = refl
itself phase.FinWait2 = refl
itself (phase.Closing a) = grind arith
itself (phase.Stuck a) = grind arith

same_moment : (t : Option Instant) → is_moment t t ≡ true
same_moment None = refl
same_moment (Some t) = grind (arith, ints)

timed : (d : Option Duration) (v : View) → has_timeout d (with_timeout d v).timeout ≡ true
timed None v = refl
timed (Some d) v = grind arith

phase_timed : (d : Option Duration) (v : View) → phase_of (with_timeout d v) ≡ phase_of v
phase_timed None v = refl
phase_timed (Some d) v = refl

listened_phase : (v : View) (e : IpListenEndpoint) → phase_of (listened v e) ≡ phase.Free
unfolding listened
listened_phase v e = refl

listened_timeout : (v : View) (e : IpListenEndpoint) → (listened v e).timeout ≡ v.timeout
unfolding listened renewed
listened_timeout v e = refl

given_phase : (v : View) → phase_of (given_up v) ≡ phase.Free
given_phase v = go (v.listen_endpoint.port == 0)
  where
    go : (b : Bool) → phase_of (if b then aborted v else listened (aborted v) v.listen_endpoint) ≡ phase.Free
    go true = refl
    go false = listened_phase (aborted v) v.listen_endpoint

given_timeout : (v : View) → (given_up v).timeout ≡ v.timeout
given_timeout v = go (v.listen_endpoint.port == 0)
  where
    go : (b : Bool) → (if b then aborted v else listened (aborted v) v.listen_endpoint).timeout ≡ v.timeout
    go true = refl
    go false = listened_timeout (aborted v) v.listen_endpoint

ended_phase : (p : Phase) (v : View) → phase_of (ended p v) ≡ phase.Free
ended_phase phase.Free v = refl
ended_phase phase.Handshake v = given_phase v
ended_phase phase.FinWait2 v = refl
ended_phase (phase.Closing a) v = refl
ended_phase (phase.Stuck a) v = refl

ended_timeout : (p : Phase) (v : View) → (ended p v).timeout ≡ v.timeout
ended_timeout phase.Free v = refl
ended_timeout phase.Handshake v = given_timeout v
ended_timeout phase.FinWait2 v = refl
ended_timeout (phase.Closing a) v = refl
ended_timeout (phase.Stuck a) v = refl

seen_parts : (st : GuardSettings) (p : Phase) (since end : Option Instant) (w : View) → phase_of w ≡ p → end ≡ end_of (limit_of st p) since → has_timeout (lawful_limit st.timeout) w.timeout ≡ true → seen_with st p since end w ≡ true
seen_parts st p since end w a b c =
    both (is_phase p (phase_of w)) _ (ap (is_phase p) a ∙ itself p)
    (both (is_moment end (end_of (limit_of st p) since)) _ (ap (λ e. is_moment e (end_of (limit_of st p) since)) b ∙ same_moment (end_of (limit_of st p) since)) c)

looked_at : (st : GuardSettings) (now : Instant) (v w : View) (g h : Guard) → Looks st now v g h w → seen_with st h.phase h.since h.end w ≡ true
looked_at st now v w g h k = go (is_over_for st g v now) refl
  where
    go : (b : Bool) → is_over_for st g v now ≡ b → seen_with st h.phase h.since h.end w ≡ true
    go false e =
        let w_is : w ≡ with_timeout (lawful_limit st.timeout) v = k.socket ∙ ap (λ b. ended_if b (phase_of v) (with_timeout (lawful_limit st.timeout) v)) e in
        let p_is : h.phase ≡ phase_of v = k.phase ∙ ap (λ b. phase_left b (phase_of v)) e in
        let s_is : h.since ≡ since_in (phase_of v) g.phase g.since now = k.since ∙ ap (λ b. moment_left b (since_in (phase_of v) g.phase g.since now)) e in
        let e_is : h.end ≡ end_in st (phase_of v) g.phase g.since now = k.end ∙ ap (λ b. moment_left b (end_in st (phase_of v) g.phase g.since now)) e in
        seen_parts st h.phase h.since h.end w
        (ap phase_of w_is ∙ phase_timed (lawful_limit st.timeout) v ∙ sym p_is)
        (e_is ∙ ap (λ p. end_of (limit_of st p) (since_in (phase_of v) g.phase g.since now)) (sym p_is) ∙ ap (λ s. end_of (limit_of st h.phase) s) (sym s_is))
        (ap (λ (x : View). has_timeout (lawful_limit st.timeout) x.timeout) w_is ∙ timed (lawful_limit st.timeout) v)
    go true e =
        let w_is : w ≡ ended (phase_of v) (with_timeout (lawful_limit st.timeout) v) = k.socket ∙ ap (λ b. ended_if b (phase_of v) (with_timeout (lawful_limit st.timeout) v)) e in
        let p_is : h.phase ≡ phase.Free = k.phase ∙ ap (λ b. phase_left b (phase_of v)) e in
        let e_is : h.end ≡ None = k.end ∙ ap (λ b. moment_left b (end_in st (phase_of v) g.phase g.since now)) e in
        seen_parts st h.phase h.since h.end w
        (ap phase_of w_is ∙ ended_phase (phase_of v) (with_timeout (lawful_limit st.timeout) v) ∙ sym p_is)
        (e_is ∙ ap (λ p. end_of (limit_of st p) h.since) (sym p_is))
        (ap (λ (x : View). has_timeout (lawful_limit st.timeout) x.timeout) w_is ∙ ap (has_timeout (lawful_limit st.timeout)) (ended_timeout (phase_of v) (with_timeout (lawful_limit st.timeout) v)) ∙ timed (lawful_limit st.timeout) v)

seen_after : {G : Type 0} (st : GuardSettings) (now : Instant) (s t : Option (Socket G)) (g h : Guard) → WatchesIn st now s g t h → seen_in st t h ≡ true
seen_after st now (Some (socket.Tcp x)) (Some (socket.Tcp y)) g h w = looked_at st now x.control_block y.control_block g h w.0
seen_after st now (Some (socket.Tcp x)) (Some (socket.Raw y)) g h w = absurd w
seen_after st now (Some (socket.Tcp x)) (Some (socket.Udp y)) g h w = absurd w
seen_after st now (Some (socket.Tcp x)) (Some (socket.Icmp y)) g h w = absurd w
seen_after st now (Some (socket.Tcp x)) None g h w = absurd w
seen_after st now (Some (socket.Raw x)) t g h w = ap (λ o. seen_in st o h) w.0
seen_after st now (Some (socket.Udp x)) t g h w = ap (λ o. seen_in st o h) w.0
seen_after st now (Some (socket.Icmp x)) t g h w = ap (λ o. seen_in st o h) w.0
seen_after st now None t g h w = ap (λ o. seen_in st o h) w.0

pub watched_seen : {G : Type 0} (st : GuardSettings) (now : Instant) (before after : Slot G) → Watches st now before after → is_seen st after ≡ true
watched_seen st now before after w = seen_after st now before.socket after.socket before.guard after.guard w.looked

pub seen_there : {G : Type 0} (st : GuardSettings) (now : Instant) (ss ts : List (Slot G)) (i : ℕ) → ChangesAt (λ b a. Watches st now b a) ss i ts → IfSome (slice_get ts i) (λ s. is_seen st s ≡ true)
seen_there st now ss ts i c =
    let is : slice_get ts i ≡ Some c.after = ap (λ us. slice_get us i) c.now ∙ there ss i c.after (slice_get_within ss i c.before c.was) in
    subst (λ o. IfSome o (λ s. is_seen st s ≡ true)) (sym is) (watched_seen st now c.before c.after c.changed)

-- ---- what is noted after a look

or_true : (b : Bool) → (b || true) ≡ true
or_true true = refl
or_true false = refl

-- what a socket asks for
pub asks_there : {G : Type 0} (f : Facts) (mtu : ℕ) (p : PollAt) (o : Option (Slot G)) → mtu ≡ f.mtu → IfSome o (λ s. p ≡ asked_of s.guard.phase s.guard.end s.guard.last s.socket f) → IfSome o (λ s. p ≡ asked_under mtu s)
asks_there f mtu p None same asked = tt
asks_there f mtu p (Some s) same asked = asked ∙ asks_under s f mtu same

pub noted : {G : Type 0} (t : Terms) (p : PollAt) (b : ℤ) (o : Option (Slot G)) → b ≡ bound_of p → IfSome o (λ s. p ≡ asked_under t.mtu s) → IfSome o (λ s. is_seen t.guards s ≡ true) → (is_marked b || sleeps_at (λ u b s. sleeps u b s) t b o) ≡ true
noted t p b None is under seen = or_true (is_marked b)
noted t p b (Some s) is under seen =
    let bound : is_bound b (asked_under t.mtu s) ≡ true = subst (λ q. is_bound b q ≡ true) under (subst (λ m. is_bound m p ≡ true) (sym is) (bounds_it p)) in
    ap (λ z. is_marked b || z) (both (is_bound b (asked_under t.mtu s)) (is_seen t.guards s) bound seen) ∙ or_true (is_marked b)

pub due_if : {G : Type 0} (f : Facts) (o : Option (Slot G)) (r b : Bool) → r ≡ b → IfSome o (λ s. r ≡ is_due f s) → IfSome o (λ s. is_due f s ≡ b)
due_if f None r b e h = tt
due_if f (Some s) r b e h = sym h ∙ e
