-- A TCP socket that lies at a pointer which C passes by value.
use Rattle.std.specs.Prelude.{ℕ, ℤ, List, ◌≡◌, true, false, is_some}
use Rattle.std.specs.Borrow.{full_share}
use Rattle.std.specs.Ptr.{Ptr, lies_at}
use base.Fml.{Fml, fex, fsep, ftrue}
use denote.Signature.{static_lft}
use Rattle.sock_tcp.specs.Ended.{ended_by_dispatch}
use Rattle.sock_tcp.specs.contracts.socket.Socket.{the_row as tcp_row}
use Rattle.sock_tcp.specs.declared.socket.Socket.{Socket}
use Rattle.smoltcp_c.specs.Answers.{error_context}
use Rattle.smoltcp_c.specs.Context.{is_context}
use Rattle.smoltcp_c.specs.Packets.{DispatchesInto}
use Rattle.smoltcp_c.specs.Tcp.{clock_at}
use Rattle.smoltcp_c.specs.contracts.clock.Clock.{the_row as clock_row}
use Rattle.smoltcp_c.specs.declared.clock.Clock.{Clock}
use Rattle.smoltcp_c.specs.declared.context.Cx.{Cx}

-- a socket lies at the pointer of which this holds
abbrev pub lies_so : Ptr → (Socket Clock → Type 0) → Fml
lies_so at P =
    fex (Socket Clock) (λ s. fsep (lies_at (tcp_row static_lft clock_row) full_share at s) (fex (P s) (λ _. ftrue)))

-- the whole of a dispatch: the packet that is due is in the buffer, or the context was refused and nothing changed
pub record Dispatched (cx : Cx) (s : Socket Clock) (out : List ℕ) (result : ℤ) (s' : Socket Clock)
    (out' : List ℕ) : Type 0 where
  pub context : is_context cx ≡ false → (result ≡ error_context) × (s' ≡ s) × (out' ≡ out)
  pub table : is_context cx ≡ true → DispatchesInto cx (clock_at s.tsval_generator cx.tsval) s.control_block out
      result s'.control_block out'
  pub clock : is_context cx ≡ true → s'.tsval_generator ≡ clock_at s.tsval_generator cx.tsval
  pub ended : is_context cx ≡ true → s'.ended ≡ ended_by_dispatch s.control_block.state s'.control_block.state
      (is_some s'.control_block.remote_last_ts) s.ended
