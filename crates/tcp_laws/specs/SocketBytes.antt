-- The bytes of the peer's stream by their places, over any list of calls.
use Rattle.std.specs.Prelude.{ℕ, ◌≡◌, ◌+◌, ◌-◌, ◌<◌, ◌⊎◌, List, [], length, slice_get, nat_lt}
use Rattle.std.specs.Prelude.{Option, is_ok, Bool, true, false, if◌then◌else◌}
use Rattle.sock_core.specs.Received.{byte_at, merged}
use Rattle.sock_tcp.specs.Opening.{endpoints}
use Rattle.tcp_laws.specs.SocketRun.{Counts, Step, Listen, Connect, Process, Dispatch}
use Rattle.tcp_laws.specs.SocketRun.{is_reset, listens_again, opens_listener}
use Rattle.sock_tcp.specs.View.{View}
use Rattle.sock_tcp.specs.Window.{accepted_window, is_inside, cut_of, cut_bytes}

-- What a socket has at a place of the peer's stream, counted from the first byte that joined: a byte that joined, one
-- that is held behind a gap, or none
abbrev pub byte_of : Counts → View → ℕ → Option ℕ
byte_of k v p =
    if nat_lt p (length k.joined) then slice_get k.joined p else byte_at v.rx_buffer.held (p - length k.joined)

-- a connection begins with the call
abbrev pub begins : (v : View) (k : Counts) (w : View) (j : Counts) → Step v k w j → Bool
begins v k w j (Listen e r h is) = opens_listener v e
begins v k w j (Connect f word remote local small h is) = is_ok (endpoints v f remote local)
begins v k w j (Process r now word ip s small numbered short bare h is) = listens_again v.state w.state
begins v k w j (Dispatch f out h is) = is_reset v f
begins v k w j _ = false

-- what a call brings, and how far behind the bytes that joined: a segment what of it lies inside the window, or
-- nothing; any other call nothing
abbrev pub IsBrought : (v : View) (k : Counts) (w : View) (j : Counts) → Step v k w j → ℕ → List ℕ → Type 0
IsBrought v k w j (Process r now word ip s small numbered short bare h is) o bs =
    (bs ≡ []) ⊎ ((is_inside (accepted_window r v) s.seq_number (length s.payload) ≡ true)
    × (o ≡ (cut_of (accepted_window r v) s.seq_number (length s.payload)).offset)
    × (bs ≡ cut_bytes (cut_of (accepted_window r v) s.seq_number (length s.payload)) s.payload))
IsBrought v k w j _ o bs = bs ≡ []

-- Each byte that joined stays at its place, and so does each that is held, but where bytes come that replace it
pub record KeepsPlaces (v : View) (k : Counts) (w : View) (j : Counts) (s : Step v k w j) : Type 0 where
  pub offset : ℕ
  pub bytes : List ℕ
  pub brought : IsBrought v k w j s offset bytes
  pub joined : (p : ℕ) → p < length k.joined → byte_of j w p ≡ byte_of k v p
  pub behind : (d : ℕ) → byte_of j w (length k.joined + d) ≡ merged v.rx_buffer.held offset bytes d
