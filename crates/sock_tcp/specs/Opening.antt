-- Opening calls: listen, connect, and the reset that both begin with.
use Rattle.std.specs.Prelude.{ℕ, ◌≡◌, ◌<◌, Option, Some, None, Result, Ok, Err, is_ok, Bool, true, false, ◌==◌, ◌||◌}
use Rattle.std.specs.Prelude.{if◌then◌else◌}
use Rattle.ip_wire.specs.Address.{is_unspecified, same_version}
use Rattle.ip_wire.specs.declared.address.IpAddress.{IpAddress}
use Rattle.ip_wire.specs.declared.endpoint.IpEndpoint.{IpEndpoint}
use Rattle.ip_wire.specs.declared.endpoint.IpListenEndpoint.{IpListenEndpoint}
use Rattle.control_wire.specs.Seq.{seq_of}
use Rattle.sock_core.specs.Estimator.{begun_with}
use Rattle.sock_core.specs.Facts.{Facts}
use Rattle.sock_core.specs.Received.{cleared}
use Rattle.sock_tcp.specs.Draw.{Draws}
use Rattle.sock_tcp.specs.Queue.{emptied}
use Rattle.sock_tcp.specs.Rfc.UserTimeout.{timeout_chosen}
use Rattle.sock_tcp.specs.Settings.{kind_of, of_kind}
use Rattle.sock_tcp.specs.View.{View, fresh}
use Rattle.sock_tcp.specs.declared.rules.Rules.{Rules}
use Rattle.sock_tcp.specs.declared.rules.RulesError.{RulesError}
use Rattle.sock_tcp.specs.declared.rules.RulesError.TheVariants as rules_error
use Rattle.sock_tcp.specs.declared.state.State.{State}
use Rattle.sock_tcp.specs.declared.state.State.TheVariants as state
use Rattle.sock_tcp.specs.declared.tuple.Tuple.{Tuple}
use Rattle.sock_tcp.specs.declared.error.ListenError.{ListenError}
use Rattle.sock_tcp.specs.declared.error.ListenError.TheVariants as listen_error
use Rattle.sock_tcp.specs.declared.error.ConnectError.{ConnectError}
use Rattle.sock_tcp.specs.declared.error.ConnectError.TheVariants as connect_error

abbrev pub is_listening : State → Bool
is_listening state.Listen = true
is_listening _ = false

abbrev pub is_open : State → Bool
is_open state.Closed = false
is_open state.TimeWait = false
is_open _ = true

abbrev pub is_active : State → Bool
is_active state.Closed = false
is_active state.TimeWait = false
is_active state.Listen = false
is_active _ = true

-- ---- reset: a new socket, but for the settings of the user and a few memories

unfoldable pub renewed : View → View
renewed v =
    record (fresh (cleared v.rx_buffer) (emptied v.tx_buffer)) {
      timeout = v.timeout;
      keep_alive = v.keep_alive;
      hop_limit = v.hop_limit;
      ack_delay = v.ack_delay;
      nagle = v.nagle;
      synack_paused = v.synack_paused;
      stamps = v.stamps;
      rules = v.rules;
      rtte = begun_with v.rtte.least;
      congestion_controller = of_kind (kind_of v.congestion_controller);
      remote_has_sack = v.remote_has_sack;
      local_rx_last_seq = v.local_rx_last_seq;
      local_rx_last_ack = v.local_rx_last_ack;
      last_remote_tsval = v.last_remote_tsval;
    }

-- ---- the rules, which an open socket keeps

abbrev pub rules_set : View → Rules → View
rules_set v x =
    record v {
      rules = if is_open v.state then v.rules else x;
      timeout = if is_open v.state then v.timeout else timeout_chosen x v.timeout;
    }

abbrev pub rules_answer : View → Result (Unit {0}) RulesError
rules_answer v = if is_open v.state then Err rules_error.InvalidState else Ok tt

-- ---- listen

unfoldable pub listened : View → IpListenEndpoint → View
listened v e = record (renewed v) { state = state.Listen; listen_endpoint = e }

-- port zero first, then an open socket, which may be asked again only for the endpoint on which it listens
pub record Listens (v : View) (e : IpListenEndpoint) (result : Result (Unit {0}) ListenError) (w : View) : Type 0 where
  pub no_port : e.port ≡ 0 → (result ≡ Err listen_error.Unaddressable) × (w ≡ v)
  pub opens : 0 < e.port → is_open v.state ≡ false → (result ≡ Ok tt) × (w ≡ listened v e)
  pub again : 0 < e.port → v.state ≡ state.Listen → v.listen_endpoint ≡ e → (result ≡ Ok tt) × (w ≡ v)
  pub other : 0 < e.port → v.state ≡ state.Listen → (v.listen_endpoint ≡ e → ⊥)
      → (result ≡ Err listen_error.InvalidState) × (w ≡ v)
  pub busy : 0 < e.port → is_open v.state ≡ true → (v.state ≡ state.Listen → ⊥)
      → (result ≡ Err listen_error.InvalidState) × (w ≡ v)

-- ---- connect

abbrev pub no_address : Result Tuple ConnectError
no_address = Err connect_error.Unaddressable

abbrev pub checked_source : Option IpAddress → IpEndpoint → ℕ → Result Tuple ConnectError
checked_source None remote port = no_address
checked_source (Some a) remote port =
    if same_version a remote.addr
    then Ok (record { local = record { addr = a; port = port }; remote = remote })
    else no_address

abbrev pub checked_local : Option IpAddress → Facts → IpEndpoint → ℕ → Result Tuple ConnectError
checked_local None f remote port = checked_source (f.source remote.addr) remote port
checked_local (Some a) f remote port = if is_unspecified a then no_address else checked_source (Some a) remote port

-- the endpoints of a connection, or what forbids one, in the order of the tests
abbrev pub endpoints : View → Facts → IpEndpoint → IpListenEndpoint → Result Tuple ConnectError
endpoints v f remote local =
    if is_open v.state then Err connect_error.InvalidState
    else (if (remote.port == 0) || is_unspecified remote.addr then no_address
    else (if local.port == 0 then no_address else checked_local local.addr f remote local.port))

unfoldable pub connected : View → Tuple → ℕ → View
connected v t word =
    record (renewed v) {
      state = state.SynSent;
      tuple = Some t;
      local_seq_no = seq_of word;
      remote_last_seq = seq_of word;
    }

-- with a refusal nothing changes
abbrev pub after_connect : Result Tuple ConnectError → View → ℕ → View
after_connect (Ok t) v word = connected v t word
after_connect (Err e) v word = v

abbrev pub connect_answer : Result Tuple ConnectError → Result (Unit {0}) ConnectError
connect_answer (Ok t) = Ok tt
connect_answer (Err e) = Err e

-- the answer, the socket and the context after a call; the socket's number is the next random word
pub record Connects {C : Type 0} (facts : C → Facts) (word_at : C → ℕ → ℕ) (v : View) (cx : C)
    (remote : IpEndpoint) (local : IpListenEndpoint)
    (r : Result (Unit {0}) ConnectError) (w : View) (cx' : C) : Type 0 where
  pub answer : r ≡ connect_answer (endpoints v (facts cx) remote local)
  pub view : w ≡ after_connect (endpoints v (facts cx) remote local) v (word_at cx 0)
  pub context : Draws (is_ok r) facts word_at cx cx'
