-- A source has as many connections as places between two of the index, at most.
use Rattle.std.proofs.Common.{◌≡◌, ℕ, ◌+◌, ◌-◌, ◌*◌, ◌^◌, ◌<◌, ◌≤◌, List, [], ◌∷◌, length, get_or, Bool, true, false, nat_lt, nat_eq, suc, zero, Option, Some, None, ⊎_elim, refl, sym, subst, ap, arith}
use Rattle.std.specs.Prelude.{IfSome, slice_get, ◌||◌}
use Rattle.std.specs.List.{IsDistinct, list_any}
use Rattle.std.proofs.lemmas.Bool.{and_parts}
use Rattle.std.proofs.lemmas.Cmp.{nat_eq_equiv}
use Rattle.std.proofs.lemmas.Option.{slice_get_cases}
use Rattle.std.proofs.lemmas.Map.Made.{length-le_from_is_member}
use Rattle.sock_tcp.specs.View.{View}
use Rattle.sock_tcp.specs.declared.state.State.{State}
use Rattle.sock_tcp.specs.declared.state.State.TheVariants as state
use Rattle.sock_tcp.specs.declared.tuple.Tuple.{Tuple}
use Rattle.smoltcp_socket.specs.declared.socket.Socket.{Socket}
use Rattle.smoltcp_socket.specs.declared.socket.Socket.TheVariants as socket
use Rattle.host_index.specs.Entries.{entry_at, has, nothing}
use Rattle.host_index.specs.declared.entry.Entry.{Entry}
use Rattle.host_index.proofs.Entered.{IsIn, find_in}
use Rattle.net_host.specs.Crowding.{AreFewer, Comes, IsOf, IsOfIn, first_of, has_peer, last_of}
use Rattle.net_host.specs.Filing.{connection_key, first_by, keys_in, keys_of}
use Rattle.net_host.specs.Indexing.{IsSettled, are_filed, is_filed, is_under}
use Rattle.net_host.specs.Spans.{LieWithin}
use Rattle.net_host.specs.Walks.{IsAt}
use Rattle.net_host.specs.declared.key.Key.TheVariants as key
use Rattle.net_host.specs.declared.slot.Slot.{Slot}
use Rattle.net_host.proofs.Places.{all_filed}
use Rattle.net_host.proofs.Runs.{place_at}

no_truth : false ≡ true → ⊥
no_truth e = cc

-- ---- a connection is filed under its peer

peer_key : (st : State) (t : Tuple) (port : ℕ) → has_peer st ≡ true → first_by st (Some t) port ≡ key.Under (connection_key t)
peer_key state.Closed t port h = absurd (no_truth h)
peer_key state.Listen t port h = absurd (no_truth h)
peer_key state.SynSent t port h = refl
peer_key state.SynReceived t port h = refl
peer_key state.Established t port h = refl
peer_key state.FinWait1 t port h = refl
peer_key state.FinWait2 t port h = refl
peer_key state.CloseWait t port h = refl
peer_key state.Closing t port h = refl
peer_key state.LastAck t port h = refl
peer_key state.TimeWait t port h = refl

-- an entry of this place between the two
record IsListed (es : List Entry) (k first last : ℕ) : Type 0 where
  entry : Entry
  listed : has es (entry_at entry k) ≡ true
  from : first ≤ entry.major
  to : entry.major ≤ last
  small : entry.minor < 2 ^ 64

filed_under : (es : List Entry) (k first last : ℕ) (v : View) → is_under es k (first_by v.state v.tuple v.listen_endpoint.port) ≡ true → IsOf first last v → IsListed es k first last
filed_under es k first last v f h =
    let e : first_by v.state (Some h.tuple) v.listen_endpoint.port ≡ key.Under (connection_key h.tuple) = peer_key v.state h.tuple v.listen_endpoint.port h.peer in
    let g : is_under es k (first_by v.state (Some h.tuple) v.listen_endpoint.port) ≡ true = subst (λ t. is_under es k (first_by v.state t v.listen_endpoint.port) ≡ true) h.known f in
    let l : has es (entry_at (connection_key h.tuple) k) ≡ true = subst (λ x. is_under es k x ≡ true) e g in
    let a : h.tuple.local.port < 65536 = h.local_port in
    let b : h.tuple.remote.port < 65536 = h.remote_port in
    record { entry = connection_key h.tuple; listed = l; from = h.behind; to = h.until; small = omega (arith, a, b) }

listed_in : {G : Type 0} (es : List Entry) (k first last : ℕ) (x : Option (Socket G)) → are_filed es k (keys_in x) ≡ true → IsOfIn first last x → IsListed es k first last
listed_in es k first last None f h = absurd h
listed_in es k first last (Some (socket.Raw x)) f h = absurd h
listed_in es k first last (Some (socket.Icmp x)) f h = absurd h
listed_in es k first last (Some (socket.Udp x)) f h = absurd h
listed_in es k first last (Some (socket.Tcp x)) f h = filed_under es k first last x.control_block (and_parts _ _ f).0 h

-- ---- the places of some entries, one behind the other

abbrev places : List Entry → ℕ → ℕ → List ℕ
places es start zero = []
places es start (suc m) = place_at es start ∷ places es (start + 1) m

as_many : (es : List Entry) (m start : ℕ) → length (places es start m) ≡ m
as_many es zero start = refl
as_many es (suc m) start = ap suc (as_many es m (start + 1))

any : (b c : Bool) → c ≡ true → (b || c) ≡ true
any true c h = refl
any false c h = h

same : (n : ℕ) → nat_eq n n ≡ true
same n = grind arith

among : (es : List Entry) (j m start : ℕ) → start ≤ j → j < start + m → list_any (nat_eq (place_at es j)) (places es start m) ≡ true
among es j zero start from below = absurd (omega (arith, from, below))
among es j (suc m) start from below = go (nat_eq start j) refl (λ f l. among es j m (start + 1) f l)
  where
    go : (b : Bool) → nat_eq start j ≡ b → (start + 1 ≤ j → j < start + 1 + m → list_any (nat_eq (place_at es j)) (places es (start + 1) m) ≡ true) → (nat_eq (place_at es j) (place_at es start) || list_any (nat_eq (place_at es j)) (places es (start + 1) m)) ≡ true
    go true e rest =
        let s : j ≡ start = grind (arith, e) in
        let h : nat_eq (place_at es j) (place_at es start) ≡ true = subst (λ i. nat_eq (place_at es j) (place_at es i) ≡ true) s (same (place_at es j)) in
        ap (λ b. b || list_any (nat_eq (place_at es j)) (places es (start + 1) m)) h
    go false e rest =
        let less : start + 1 ≤ j = grind (arith, e, from) in
        any (nat_eq (place_at es j) (place_at es start)) (list_any (nat_eq (place_at es j)) (places es (start + 1) m)) (rest less (omega (arith, below)))

-- ---- all together

module _ {G : Type 0} (ss : List (Slot G)) (es : List Entry) (n most : ℕ) (some : 0 < most) (small : length ss ≤ 2 ^ 64) (filed : (k : ℕ) → is_filed (λ s. keys_of s) es k (slice_get ss k) ≡ true) (span : LieWithin es (first_of n) (last_of n) most) where
  found : (k : ℕ) → k < length ss → IsListed es k (first_of n) (last_of n) → list_any (nat_eq k) (places es span.start (most - 1)) ≡ true
  found k within l =
      let i = find_in es (entry_at l.entry k) l.listed in
      let is : get_or es i.place nothing ≡ entry_at l.entry k = i.is in
      let major : (get_or es i.place nothing).major ≡ l.entry.major = ap (λ (d : Entry). d.major) is in
      let minor : (get_or es i.place nothing).minor ≡ l.entry.minor = ap (λ (d : Entry). d.minor) is in
      let at : (get_or es i.place nothing).place ≡ k = ap (λ (d : Entry). d.place) is in
      let f : first_of n ≤ l.entry.major = l.from in
      let t : l.entry.major ≤ last_of n = l.to in
      let m : l.entry.minor < 2 ^ 64 = l.small in
      let p = span.inside i.place i.within (subst (λ a. first_of n ≤ a) (sym major) f) (subst (λ a. a ≤ last_of n) (sym major) t) (subst (λ a. a < 2 ^ 64) (sym minor) m) (subst (λ a. a < 2 ^ 64) (sym at) (omega (arith, within, small))) in
      let a : span.start ≤ i.place = p.0 in
      let b : i.place + 1 < span.start + most = p.1 in
      subst (λ q. list_any (nat_eq q) (places es span.start (most - 1)) ≡ true) at (among es i.place (most - 1) span.start a (omega (arith, b, some)))

  there : (k : ℕ) → IsAt (λ x. Comes n x) ss k → list_any (nat_eq k) (places es span.start (most - 1)) ≡ true
  there k at = ⊎_elim (λ c. go c.0 c.2) (λ c. let past : length ss ≤ k = c.0 in let within : k < length ss = at.within in absurd (omega (arith, past, within))) (slice_get_cases ss k).1
    where
      go : (x : Slot G) → slice_get ss k ≡ Some x → list_any (nat_eq k) (places es span.start (most - 1)) ≡ true
      go x is = found k at.within (listed_in es k (first_of n) (last_of n) x.socket (subst (λ o. is_filed (λ s. keys_of s) es k o ≡ true) is (filed k)) (subst (λ o. IfSome o (λ y. Comes n y)) is at.holds))

  pub few : AreFewer (λ x. Comes n x) ss most
  few ps distinct each =
      let le : length ps ≤ length (places es span.start (most - 1)) = length-le_from_is_member nat_eq_equiv ps (places es span.start (most - 1)) distinct (λ k m. there k (each k m)) in
      let len : length (places es span.start (most - 1)) ≡ most - 1 = as_many es (most - 1) span.start in
      omega (arith, le, len, some)

-- of a set whose index is complete
pub few_in : {G : Type 0} (complete : Bool) (ss : List (Slot G)) (es : List Entry) (ws : List ℕ) (n most : ℕ) → complete ≡ true → IsSettled (λ s. keys_of s) complete ss es ws → 0 < most → length ss ≤ 2 ^ 64 → LieWithin es (first_of n) (last_of n) most → AreFewer (λ x. Comes n x) ss most
few_in complete ss es ws n most whole settled some small span = few ss es n most some small (all_filed (λ s. keys_of s) complete ss es ws whole settled) span
