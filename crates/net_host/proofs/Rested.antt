-- A socket in TIME-WAIT that listened for a segment, and one that serves its port, are filed under its port.
use Rattle.std.proofs.Common.{◌≡◌, ◌∙◌, ℕ, List, Bool, true, false, Option, Some, None, refl, sym, subst, ap, arith, nat_eq, ◌<◌}
use Rattle.std.specs.Prelude.{IfSome, slice_get, ◌≤ℤ◌, ◌<ℤ◌, ◌==◌, if◌then◌else◌}
use Rattle.std.proofs.lemmas.Bool.{and_parts}
use Rattle.ip_wire.specs.declared.repr.IpRepr.{IpRepr}
use Rattle.net_base.specs.declared.time.Instant.{Instant}
use Rattle.control_wire.specs.Segment.{Segment}
use Rattle.sock_tcp.specs.Ends.{close_end}
use Rattle.sock_tcp.specs.declared.state.State.{State}
use Rattle.sock_tcp.specs.declared.state.State.TheVariants as state
use Rattle.smoltcp_socket.specs.declared.socket.Socket.{Socket}
use Rattle.smoltcp_socket.specs.declared.socket.Socket.TheVariants as socket
use Rattle.host_index.specs.declared.entry.Entry.{Entry}
use Rattle.net_host.specs.declared.key.Key.TheVariants as key
use Rattle.net_host.specs.declared.slot.Slot.{Slot}
use Rattle.host_index.specs.Entries.{entry_at, has}
use Rattle.net_host.specs.Entries.{FindsEarliestListed, IsListedOf, is_ordered, order_of, ordered}
use Rattle.std.proofs.lemmas.Option.{slice_get_within}
use Rattle.net_host.specs.Finding.{RestsAt, with_minor}
use Rattle.net_host.specs.Filing.{keys_in, keys_of, opened_by, rest_by, rest_major, second_by, server_key}
use Rattle.net_host.specs.Indexing.{are_filed, is_filed, is_under}
use Rattle.net_host.specs.Resting.{EndsIn, FindsEarliest, OnlyOf, RestsIn, RestsUntil, ServesIn, is_resting, is_serving}

no_truth : false ≡ true → ⊥
no_truth e = cc

module _ (es : List Entry) (k : ℕ) (ip : IpRepr) (s : Segment) where
  listed_if : (b : Bool) (port : ℕ) (t : Instant) → is_ordered t ≡ b → is_ordered t ≡ true → is_under es k (rest_by (if b then Some (order_of t) else None) port) ≡ true → IsListedOf es (rest_major port) t k
  listed_if true port t e o f = (e, f)
  listed_if false port t e o f = absurd (no_truth (sym e ∙ o))

  -- the port of a listener is not 0
  opened : (st : State) (end : Option Instant) (port : ℕ) → 0 < port → is_under es k (second_by st end port) ≡ true → is_under es k (opened_by st end port) ≡ true
  opened st end port more f = go (nat_eq port 0) refl f
    where
      go : (b : Bool) → nat_eq port 0 ≡ b → is_under es k (if b then key.Nothing else opened_by st end port) ≡ true → is_under es k (opened_by st end port) ≡ true
      go true e h = absurd (grind (arith, e, more))
      go false e h = h

  ending : (st : State) (end : Option Instant) (port : ℕ) (t : Instant) → is_resting st ≡ true → end ≡ Some t → is_ordered t ≡ true → is_under es k (opened_by st end port) ≡ true → IsListedOf es (rest_major port) t k
  ending state.TimeWait end port t r is o f = listed_if (is_ordered t) port t refl o (subst (λ e. is_under es k (opened_by state.TimeWait e port) ≡ true) is f)
  ending state.Closed end port t r is o f = absurd (no_truth r)
  ending state.Listen end port t r is o f = absurd (no_truth r)
  ending state.SynSent end port t r is o f = absurd (no_truth r)
  ending state.SynReceived end port t r is o f = absurd (no_truth r)
  ending state.Established end port t r is o f = absurd (no_truth r)
  ending state.FinWait1 end port t r is o f = absurd (no_truth r)
  ending state.FinWait2 end port t r is o f = absurd (no_truth r)
  ending state.CloseWait end port t r is o f = absurd (no_truth r)
  ending state.Closing end port t r is o f = absurd (no_truth r)
  ending state.LastAck end port t r is o f = absurd (no_truth r)

  pub rest_in : {G : Type 0} (x : Option (Socket G)) (t : Instant) → are_filed es k (keys_in x) ≡ true → RestsIn x ip s → EndsIn x t → is_ordered t ≡ true → IsListedOf es (rest_major s.dst_port) t k
  rest_in None t f h e o = absurd h
  rest_in (Some (socket.Raw x)) t f h e o = absurd h
  rest_in (Some (socket.Icmp x)) t f h e o = absurd h
  rest_in (Some (socket.Udp x)) t f h e o = absurd h
  rest_in (Some (socket.Tcp x)) t f h e o = subst (λ p. IsListedOf es (rest_major p) t k) (sym h.served.port) (ending x.control_block.state (close_end x.control_block.timer) x.control_block.listen_endpoint.port t h.state e o (opened x.control_block.state (close_end x.control_block.timer) x.control_block.listen_endpoint.port (subst (λ p. 0 < p) h.served.port h.served.not_zero) (and_parts _ _ f).1))

  serving : (st : State) (end : Option Instant) (port : ℕ) → is_serving st ≡ true → is_under es k (opened_by st end port) ≡ true → has es (entry_at (server_key port) k) ≡ true
  serving state.Closed end port r f = absurd (no_truth r)
  serving state.Listen end port r f = absurd (no_truth r)
  serving state.TimeWait end port r f = absurd (no_truth r)
  serving state.SynSent end port r f = f
  serving state.SynReceived end port r f = f
  serving state.Established end port r f = f
  serving state.FinWait1 end port r f = f
  serving state.FinWait2 end port r f = f
  serving state.CloseWait end port r f = f
  serving state.Closing end port r f = f
  serving state.LastAck end port r f = f

  pub server_in : {G : Type 0} (x : Option (Socket G)) → are_filed es k (keys_in x) ≡ true → ServesIn x ip s → has es (entry_at (server_key s.dst_port) k) ≡ true
  server_in None f h = absurd h
  server_in (Some (socket.Raw x)) f h = absurd h
  server_in (Some (socket.Icmp x)) f h = absurd h
  server_in (Some (socket.Udp x)) f h = absurd h
  server_in (Some (socket.Tcp x)) f h = subst (λ p. has es (entry_at (server_key p) k) ≡ true) (sym h.1.port) (serving x.control_block.state (close_end x.control_block.timer) x.control_block.listen_endpoint.port h.0 (opened x.control_block.state (close_end x.control_block.timer) x.control_block.listen_endpoint.port (subst (λ p. 0 < p) h.1.port h.1.not_zero) (and_parts _ _ f).1))

-- what is found under the keys of a port is what a walk finds

module _ {G : Type 0} (ss : List (Slot G)) (es : List Entry) (ip : IpRepr) (s : Segment) (filed : (k : ℕ) → is_filed (λ s. keys_of s) es k (slice_get ss k) ≡ true) where
  listed : (Q : Instant → Slot G → Type 0) (k : ℕ) (u : Instant) (o : Option (Slot G)) → is_filed (λ s. keys_of s) es k o ≡ true → (IsListedOf es (rest_major s.dst_port) u k → IfSome o (λ x. RestsUntil ip s u x → Q u x)) → IfSome o (λ x. RestsUntil ip s u x → Q u x)
  listed Q k u None f h = tt
  listed Q k u (Some x) f h = λ r. h (rest_in es k ip s x.socket u f r.rests r.ends r.ordered) r

  pub found_earliest : (r : Option (ℕ × Instant)) → FindsEarliestListed (λ t x. RestsUntil ip s t x) ss es (rest_major s.dst_port) r → FindsEarliest (λ t x. RestsUntil ip s t x) ss r
  found_earliest None h = λ k u. listed (λ u x. ⊥) k u (slice_get ss k) (filed k) (h k u)
  found_earliest (Some p) h = record {
    within = h.within;
    holds = h.holds;
    others = λ k u. listed (λ u x. p.1.micros ≤ℤ u.micros) k u (slice_get ss k) (filed k) (h.others k u);
    before = λ k u less. listed (λ u x. p.1.micros <ℤ u.micros) k u (slice_get ss k) (filed k) (h.before k u less);
  }

-- a moment whose number an entry has
pub has_number : (o : Option ℕ) (b : Bool) (t u : Instant) (minor : ℕ) → is_ordered t ≡ b → o ≡ (if b then Some (order_of t) else None) → with_minor o minor t ≡ Some u → (u ≡ t) × (is_ordered t ≡ true) × (minor ≡ order_of t)
has_number None true t u minor e is h = cc
has_number None false t u minor e is h = cc
has_number (Some n) false t u minor e is h = cc
has_number (Some n) true t u minor e is h = go (n == minor) refl h
  where
    m : n ≡ order_of t
    m = out is
      where
        out : Some n ≡ Some (order_of t) → n ≡ order_of t
        out q = cc

    go : (c : Bool) → (n == minor) ≡ c → (if c then Some t else None) ≡ Some u → (u ≡ t) × (is_ordered t ≡ true) × (minor ≡ order_of t)
    go true q w = (sym (out w), e, (let r : n ≡ minor = grind (arith, q) in sym r ∙ m))
      where
        out : Some t ≡ Some u → t ≡ u
        out q = cc
    go false q w = cc

pub no_number : (o : Option ℕ) (b : Bool) (t : Instant) (minor : ℕ) → is_ordered t ≡ b → o ≡ (if b then Some (order_of t) else None) → with_minor o minor t ≡ None → is_ordered t ≡ true → minor ≡ order_of t → ⊥
no_number None true t minor e is h o m = cc
no_number None false t minor e is h o m = no_truth (sym e ∙ o)
no_number (Some n) false t minor e is h o m = no_truth (sym e ∙ o)
no_number (Some n) true t minor e is h o m = go (n == minor) refl h
  where
    same : n ≡ minor
    same = out is ∙ sym m
      where
        out : Some n ≡ Some (order_of t) → n ≡ order_of t
        out q = cc

    go : (c : Bool) → (n == minor) ≡ c → (if c then Some t else None) ≡ None → ⊥
    go true q w = cc
    go false q w = absurd (grind (arith, q, same))

pub rests_by : {G : Type 0} (ip : IpRepr) (s : Segment) (ss : List (Slot G)) (e : Entry) (slot : Slot G) (t : Instant) (r : Option Instant) → slice_get ss e.place ≡ Some slot → OnlyOf (λ u. RestsUntil ip s u slot) (Some t) → r ≡ with_minor (ordered t) e.minor t → RestsAt ip s ss e r
rests_by ip s ss e slot t (Some u) at only is =
    let p = has_number (ordered t) (is_ordered t) t u e.minor refl refl (sym is) in
    record {
      within = slice_get_within ss e.place slot at;
      holds = subst (λ o. IfSome o (RestsUntil ip s u)) (sym at) (subst (λ v. RestsUntil ip s v slot) (sym p.0) only.0);
      ordered = subst (λ v. is_ordered v ≡ true) (sym p.0) p.1;
      same = p.2 ∙ ap order_of (sym p.0);
    }
rests_by ip s ss e slot t None at only is = λ u o m. subst (λ q. IfSome q (λ x. RestsUntil ip s u x → ⊥)) (sym at) (λ h. no_number (ordered t) (is_ordered t) t e.minor refl refl (sym is) (subst (λ v. is_ordered v ≡ true) (only.1 u h) o) (m ∙ ap order_of (only.1 u h)))
