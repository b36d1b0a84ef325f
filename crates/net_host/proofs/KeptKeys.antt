-- What leaves the keys of a place as they are.
use Rattle.std.proofs.Common.{◌≡◌, ◌∙◌, ◌<◌, ℕ, List, Bool, true, false, length, nat_eq, nat_lt, ◌/◌, Option, Some, None, refl, sym, subst, ap, arith}
use Rattle.std.specs.Prelude.{IfSome, slice_get, if◌then◌else◌}
use Rattle.std.proofs.lemmas.Option.{slice_get_within}
use Rattle.std.proofs.lemmas.Bool.{and_parts}
use Rattle.ip_wire.specs.declared.repr.IpRepr.{IpRepr}
use Rattle.control_wire.specs.declared.udp.UdpRepr.{UdpRepr}
use Rattle.net_base.specs.declared.time.Duration.{Duration}
use Rattle.net_base.specs.declared.time.Instant.{Instant}
use Rattle.sock_core.specs.Facts.{Facts}
use Rattle.sock_tcp.specs.View.{View}
use Rattle.sock_dgram.specs.Udp as udp
use Rattle.smoltcp_socket.specs.declared.socket.Socket.{Socket}
use Rattle.smoltcp_socket.specs.declared.socket.Socket.TheVariants as socket
use Rattle.net_host.specs.declared.guard.Guard.{Guard}
use Rattle.net_host.specs.declared.guard.GuardSettings.{GuardSettings}
use Rattle.net_host.specs.declared.guard.Phase.{Phase}
use Rattle.host_index.specs.declared.entry.Entry.{Entry}
use Rattle.net_host.specs.declared.slot.Slot.{Slot}
use Rattle.net_host.specs.Datagrams as datagrams
use Rattle.host_index.specs.Entries.{entry_at, has}
use Rattle.net_host.specs.Filing.{icmp_key, keys_by, keys_in, keys_of, one_key, raw_key, udp_key}
use Rattle.net_host.specs.Indexing.{IsIndexed, are_filed, is_filed, is_kept_of, is_noted, is_under}
use Rattle.net_host.specs.Guards.{ended_if, has_ended, lawful_limit, phase_of, with_timeout}
use Rattle.net_host.specs.Remembered.{moment_from}
use Rattle.net_host.specs.Sights.{IsSightIn, IsSightOf}
use Rattle.net_host.specs.declared.sight.Sight.{Sight}
use Rattle.net_host.specs.Messages as messages
use Rattle.net_host.specs.Messages.{AnyMail}
use Rattle.net_host.specs.RawCopies as raw_copies
use Rattle.net_host.specs.Turns.{Watches, WatchesIn, ends, ends_in}
use Rattle.net_host.specs.Unreachable.{RawTakes, TakesRaw}
use Rattle.net_host.specs.Walks.{Both, ChangesAt, ChangesEach}
use Rattle.net_host.specs.Watching.{is_over_for}
use Rattle.net_host.proofs.Places.{each_keeps, keeps_keys}

-- ---- a guard that ends nothing

timed : (d : Option Duration) (v : View) → keys_by (with_timeout d v) ≡ keys_by v
timed None v = refl
timed (Some t) v = refl

not_ended : (b : Bool) (p : Phase) (d : Option Duration) (v : View) → b ≡ false → keys_by (ended_if b p (with_timeout d v)) ≡ keys_by v
not_ended false p d v h = timed d v
not_ended true p d v h = absurd (nay h)
  where
    nay : true ≡ false → ⊥
    nay e = cc

watched_in : {G : Type 0} (st : GuardSettings) (now : Instant) (s t : Option (Socket G)) (g h : Guard) → WatchesIn st now s g t h → ends_in st now s g ≡ false → keys_in t ≡ keys_in s
watched_in st now (Some (socket.Tcp x)) (Some (socket.Tcp y)) g h w e = ap keys_by w.0.socket ∙ not_ended (is_over_for st g x.control_block now) (phase_of x.control_block) (lawful_limit st.timeout) x.control_block e
watched_in st now (Some (socket.Tcp x)) (Some (socket.Raw y)) g h w e = absurd w
watched_in st now (Some (socket.Tcp x)) (Some (socket.Udp y)) g h w e = absurd w
watched_in st now (Some (socket.Tcp x)) (Some (socket.Icmp y)) g h w e = absurd w
watched_in st now (Some (socket.Tcp x)) None g h w e = absurd w
watched_in st now (Some (socket.Raw x)) t g h w e = ap keys_in w.0
watched_in st now (Some (socket.Udp x)) t g h w e = ap keys_in w.0
watched_in st now (Some (socket.Icmp x)) t g h w e = ap keys_in w.0
watched_in st now None t g h w e = ap keys_in w.0

pub watch_keeps : {G : Type 0} (st : GuardSettings) (now : Instant) (complete : Bool) (lent : Option ℕ) (ss ts : List (Slot G)) (es : List Entry) (ws : List ℕ) (i : ℕ) → IfSome (slice_get ss i) (λ s. ends st now s ≡ false) → ChangesAt (λ b a. Watches st now b a) ss i ts → IsIndexed (λ s. keys_of s) complete lent ss es ws → IsIndexed (λ s. keys_of s) complete lent ts es ws
watch_keeps st now complete lent ss ts es ws i kept c h =
    let e : ends st now c.before ≡ false = subst (λ o. IfSome o (λ s. ends st now s ≡ false)) c.was kept in
    keeps_keys (λ s. keys_of s) (λ b a. Watches st now b a × (ends st now b ≡ false)) complete lent ss ts es ws i (λ b a w. watched_in st now b.socket a.socket b.guard a.guard w.0.looked w.1) (record { before = c.before; after = c.after; was = c.was; changed = (c.changed, e); now = c.now }) h

-- what was seen of a socket tells whether the guard ends it
pub ends_not : {G : Type 0} (st : GuardSettings) (now : Instant) (sight : Sight) (o : Option (Slot G)) → IfSome o (λ s. IsSightOf st now sight s) → has_ended (moment_from sight.end) now ≡ false → IfSome o (λ s. ends st now s ≡ false)
ends_not st now sight None seen kept = tt
ends_not {G = G} st now sight (Some s) seen kept = by s.socket seen
  where
    by : (x : Option (Socket G)) → IsSightIn st now x s.guard sight → ends_in st now x s.guard ≡ false
    by (Some (socket.Tcp x)) h = sym (ap (λ t. has_ended t now) h.end) ∙ kept
    by (Some (socket.Raw x)) h = refl
    by (Some (socket.Udp x)) h = refl
    by (Some (socket.Icmp x)) h = refl
    by None h = refl

-- ---- copies, and datagrams

raw_keeps : {G : Type 0} (f : Facts) (ip : IpRepr) (payload : List ℕ) (s t : Option (Socket G)) → raw_copies.SocketCopies f ip payload s t → keys_in t ≡ keys_in s
raw_keeps f ip payload (Some (socket.Raw x)) (Some (socket.Raw y)) h = refl
raw_keeps f ip payload (Some (socket.Raw x)) (Some (socket.Tcp y)) h = absurd h
raw_keeps f ip payload (Some (socket.Raw x)) (Some (socket.Udp y)) h = absurd h
raw_keeps f ip payload (Some (socket.Raw x)) (Some (socket.Icmp y)) h = absurd h
raw_keeps f ip payload (Some (socket.Raw x)) None h = absurd h
raw_keeps f ip payload (Some (socket.Tcp x)) t h = ap keys_in h
raw_keeps f ip payload (Some (socket.Udp x)) t h = ap keys_in h
raw_keeps f ip payload (Some (socket.Icmp x)) t h = ap keys_in h
raw_keeps f ip payload None t h = ap keys_in h

pub copies_keep : {G : Type 0} (f : Facts) (ip : IpRepr) (payload : List ℕ) (complete : Bool) (lent : Option ℕ) (ss ts : List (Slot G)) (es : List Entry) (ws : List ℕ) → ChangesEach (λ b a. raw_copies.CopiesPacket f ip payload b a) ss ts → IsIndexed (λ s. keys_of s) complete lent ss es ws → IsIndexed (λ s. keys_of s) complete lent ts es ws
copies_keep f ip payload complete lent ss ts es ws c h = each_keeps (λ s. keys_of s) (λ b a. raw_copies.CopiesPacket f ip payload b a) complete lent ss ts es ws (λ b a w. raw_keeps f ip payload b.socket a.socket w.copied) c h

mail_keeps : {G : Type 0} (f : Facts) (m : AnyMail) (s t : Option (Socket G)) → messages.SocketCopies f s m t → keys_in t ≡ keys_in s
mail_keeps f m (Some (socket.Icmp x)) (Some (socket.Icmp y)) h = refl
mail_keeps f m (Some (socket.Icmp x)) (Some (socket.Tcp y)) h = absurd h
mail_keeps f m (Some (socket.Icmp x)) (Some (socket.Udp y)) h = absurd h
mail_keeps f m (Some (socket.Icmp x)) (Some (socket.Raw y)) h = absurd h
mail_keeps f m (Some (socket.Icmp x)) None h = absurd h
mail_keeps f m (Some (socket.Tcp x)) t h = ap keys_in h
mail_keeps f m (Some (socket.Udp x)) t h = ap keys_in h
mail_keeps f m (Some (socket.Raw x)) t h = ap keys_in h
mail_keeps f m None t h = ap keys_in h

pub mails_keep : {G : Type 0} (f : Facts) (m : AnyMail) (complete : Bool) (lent : Option ℕ) (ss ts : List (Slot G)) (es : List Entry) (ws : List ℕ) → ChangesEach (λ b a. messages.Copies f m b a) ss ts → IsIndexed (λ s. keys_of s) complete lent ss es ws → IsIndexed (λ s. keys_of s) complete lent ts es ws
mails_keep f m complete lent ss ts es ws c h = each_keeps (λ s. keys_of s) (λ b a. messages.Copies f m b a) complete lent ss ts es ws (λ b a w. mail_keeps f m b.socket a.socket w.copied) c h

datagram_keeps : {G : Type 0} (ip : IpRepr) (u : UdpRepr) (payload : List ℕ) (room : Bool) (s t : Option (Socket G)) → datagrams.SocketHears s ip u payload room t → keys_in t ≡ keys_in s
datagram_keeps ip u payload room (Some (socket.Udp x)) (Some (socket.Udp y)) h = ap (λ (v : udp.View). one_key (udp_key v.endpoint.port)) h.0.0
datagram_keeps ip u payload room (Some (socket.Udp x)) (Some (socket.Tcp y)) h = absurd h
datagram_keeps ip u payload room (Some (socket.Udp x)) (Some (socket.Icmp y)) h = absurd h
datagram_keeps ip u payload room (Some (socket.Udp x)) (Some (socket.Raw y)) h = absurd h
datagram_keeps ip u payload room (Some (socket.Udp x)) None h = absurd h
datagram_keeps ip u payload room (Some (socket.Tcp x)) t h = absurd h
datagram_keeps ip u payload room (Some (socket.Icmp x)) t h = absurd h
datagram_keeps ip u payload room (Some (socket.Raw x)) t h = absurd h
datagram_keeps ip u payload room None t h = absurd h

pub heard_keeps : {G : Type 0} (found : Option ℕ) (ip : IpRepr) (u : UdpRepr) (payload : List ℕ) (room complete : Bool) (lent : Option ℕ) (ss ts : List (Slot G)) (es : List Entry) (ws : List ℕ) → datagrams.HeardBy found ss ip u payload room ts → IsIndexed (λ s. keys_of s) complete lent ss es ws → IsIndexed (λ s. keys_of s) complete lent ts es ws
heard_keeps None ip u payload room complete lent ss ts es ws c h = subst (λ us. IsIndexed (λ s. keys_of s) complete lent us es ws) (sym c) h
heard_keeps (Some i) ip u payload room complete lent ss ts es ws c h = keeps_keys (λ s. keys_of s) (λ b a. datagrams.Hears ip u payload room b a) complete lent ss ts es ws i (λ b a w. datagram_keeps ip u payload room b.socket a.socket w.heard) c h

-- ---- where the first key is no raw socket's, only the place that was lent may have one

module _ {G : Type 0} (ss : List (Slot G)) (es : List Entry) (ws : List ℕ) (none : (k : ℕ) → k < length ss → has es (entry_at raw_key k) ≡ false) where
  no_truth : false ≡ true → ⊥
  no_truth e = cc

  not_listed : (k : ℕ) (o : Option (Socket G)) → has es (entry_at raw_key k) ≡ false → is_under es k (keys_in o).first ≡ true → raw_copies.is_raw_in o ≡ false
  not_listed k (Some (socket.Raw x)) nay h = absurd (no_truth (sym nay ∙ h))
  not_listed k (Some (socket.Tcp x)) nay h = refl
  not_listed k (Some (socket.Udp x)) nay h = refl
  not_listed k (Some (socket.Icmp x)) nay h = refl
  not_listed k None nay h = refl

  kept_is_none : (k : ℕ) (o : Option (Slot G)) → slice_get ss k ≡ o → is_kept_of (λ s. keys_of s) true es ws k o ≡ true → IfSome o (λ s. raw_copies.is_raw s ≡ false)
  kept_is_none k None at h = tt
  kept_is_none k (Some s) at h =
      let filed : are_filed es k (keys_of s) ≡ true = (and_parts (are_filed es k (keys_of s)) (is_noted ws k (keys_of s).free) h).0 in
      not_listed k s.socket (none k (slice_get_within ss k s at)) (and_parts (is_under es k (keys_of s).first) (is_under es k (keys_of s).second) filed).0

  pub no_raw : (complete : Bool) (lent : Option ℕ) → complete ≡ true → IsIndexed (λ s. keys_of s) complete lent ss es ws → IfSome lent (λ l. IfSome (slice_get ss l) (λ s. raw_copies.is_raw s ≡ false)) → (k : ℕ) → IfSome (slice_get ss k) (λ s. raw_copies.is_raw s ≡ false)
  no_raw false lent whole h l k = absurd (no_truth whole)
  no_raw true None whole h l k = kept_is_none k (slice_get ss k) refl (h k)
  no_raw true (Some l) whole h not k = by (nat_eq k l) refl (h k)
    where
      by : (b : Bool) → nat_eq k l ≡ b → (if b then nat_lt (k / 64) (length ws) else is_kept_of (λ s. keys_of s) true es ws k (slice_get ss k)) ≡ true → IfSome (slice_get ss k) (λ s. raw_copies.is_raw s ≡ false)
      by true e f =
          let same : l ≡ k = grind (arith, e) in
          subst (λ j. IfSome (slice_get ss j) (λ s. raw_copies.is_raw s ≡ false)) same not
      by false e f = kept_is_none k (slice_get ss k) refl f

-- and where none is one, none takes a copy
pub none_copied : {G : Type 0} (f : Facts) (ip : IpRepr) (payload : List ℕ) (ss : List (Slot G)) → ((k : ℕ) → IfSome (slice_get ss k) (λ s. raw_copies.is_raw s ≡ false)) → ChangesEach (λ b a. raw_copies.CopiesPacket f ip payload b a) ss ss
none_copied {G = G} f ip payload ss none = λ k. by (slice_get ss k) (none k)
  where
    no_falsehood : true ≡ false → ⊥
    no_falsehood e = cc

    same : (o : Option (Socket G)) → raw_copies.is_raw_in o ≡ false → raw_copies.SocketCopies f ip payload o o
    same (Some (socket.Raw x)) h = absurd (no_falsehood h)
    same (Some (socket.Tcp x)) h = refl
    same (Some (socket.Udp x)) h = refl
    same (Some (socket.Icmp x)) h = refl
    same None h = refl

    by : (o : Option (Slot G)) → IfSome o (λ s. raw_copies.is_raw s ≡ false) → Both (λ b a. raw_copies.CopiesPacket f ip payload b a) o o
    by None h = tt
    by (Some s) h = record { generation = refl; opened = refl; guard = refl; copied = same s.socket h }

-- ---- what is not listed under the key of a kind of sockets is none of them

module _ {G : Type 0} (ss : List (Slot G)) (es : List Entry) (filed : (k : ℕ) → is_filed (λ s. keys_of s) es k (slice_get ss k) ≡ true) where
  first_of : (k : ℕ) (s : Slot G) → is_filed (λ s. keys_of s) es k (Some s) ≡ true → is_under es k (keys_of s).first ≡ true
  first_of k s h = (and_parts (is_under es k (keys_of s).first) (is_under es k (keys_of s).second) h).0

  -- a place that is not listed among the raw sockets takes no copy of a packet
  pub raw_idle : (f : Facts) (ip : IpRepr) (payload : List ℕ) (k : ℕ) → (has es (entry_at raw_key k) ≡ true → ⊥) → IfSome (slice_get ss k) (λ s. raw_copies.CopiesPacket f ip payload s s)
  raw_idle f ip payload k nay = by (slice_get ss k) (filed k)
    where
      same : (o : Option (Socket G)) → is_under es k (keys_in o).first ≡ true → raw_copies.SocketCopies f ip payload o o
      same (Some (socket.Raw x)) h = absurd (nay h)
      same (Some (socket.Tcp x)) h = refl
      same (Some (socket.Udp x)) h = refl
      same (Some (socket.Icmp x)) h = refl
      same None h = refl

      by : (o : Option (Slot G)) → is_filed (λ s. keys_of s) es k o ≡ true → IfSome o (λ s. raw_copies.CopiesPacket f ip payload s s)
      by None h = tt
      by (Some s) h = record { generation = refl; opened = refl; guard = refl; copied = same s.socket (first_of k s h) }

  -- nor the packet itself
  pub not_raw : (ip : IpRepr) (k : ℕ) → (has es (entry_at raw_key k) ≡ true → ⊥) → IfSome (slice_get ss k) (λ s. TakesRaw ip s → ⊥)
  not_raw ip k nay = by (slice_get ss k) (filed k)
    where
      never : (o : Option (Socket G)) → is_under es k (keys_in o).first ≡ true → RawTakes o ip → ⊥
      never (Some (socket.Raw x)) h r = absurd (nay h)
      never (Some (socket.Tcp x)) h r = r
      never (Some (socket.Udp x)) h r = r
      never (Some (socket.Icmp x)) h r = r
      never None h r = r

      by : (o : Option (Slot G)) → is_filed (λ s. keys_of s) es k o ≡ true → IfSome o (λ s. TakesRaw ip s → ⊥)
      by None h = tt
      by (Some s) h = never s.socket (first_of k s h)

  -- a place that is not listed among the ICMP sockets takes no copy of a message
  pub icmp_idle : (f : Facts) (m : AnyMail) (k : ℕ) → (has es (entry_at icmp_key k) ≡ true → ⊥) → IfSome (slice_get ss k) (λ s. messages.Copies f m s s)
  icmp_idle f m k nay = by (slice_get ss k) (filed k)
    where
      same : (o : Option (Socket G)) → is_under es k (keys_in o).first ≡ true → messages.SocketCopies f o m o
      same (Some (socket.Icmp x)) h = absurd (nay h)
      same (Some (socket.Tcp x)) h = refl
      same (Some (socket.Udp x)) h = refl
      same (Some (socket.Raw x)) h = refl
      same None h = refl

      by : (o : Option (Slot G)) → is_filed (λ s. keys_of s) es k o ≡ true → IfSome o (λ s. messages.Copies f m s s)
      by None h = tt
      by (Some s) h = record { generation = refl; opened = refl; guard = refl; copied = same s.socket (first_of k s h) }
