-- What the two sides of a connection agreed on.
use Rattle.std.specs.Prelude.{Option, Some, None}
use Rattle.sock_tcp.specs.View.{View}
use Rattle.sock_tcp.specs.declared.negotiated.Negotiated.{Negotiated}
use Rattle.sock_tcp.specs.declared.state.State.{State}
use Rattle.sock_tcp.specs.declared.state.State.TheVariants as state

-- as the SYN of the peer and the last window say
abbrev pub agreed : View → Negotiated
agreed v =
    record {
      remote_mss = v.remote_mss;
      remote_win_scale = v.remote_win_scale;
      local_win_scale = v.remote_win_shift;
      timestamps = v.stamps;
      sack = v.remote_has_sack;
      remote_window = v.remote_win_len;
    }

-- with no SYN of a peer there is nothing
abbrev pub negotiated_in : State → View → Option Negotiated
negotiated_in state.Closed v = None
negotiated_in state.Listen v = None
negotiated_in state.SynSent v = None
negotiated_in _ v = Some (agreed v)

abbrev pub negotiated : View → Option Negotiated
negotiated v = negotiated_in v.state v
