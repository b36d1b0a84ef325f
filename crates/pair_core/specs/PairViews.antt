-- A pair by value. G is the type of its sources of timestamps.
use Rattle.std.specs.Prelude.{ℕ, List, [], Option, is_some, Bool, false}
use Rattle.ip_wire.specs.declared.endpoint.IpEndpoint.{IpEndpoint}
use Rattle.ip_wire.specs.declared.repr.IpRepr.{IpRepr}
use Rattle.control_wire.specs.Segment.{Segment}
use Rattle.sock_tcp.specs.View.{View}
use Rattle.pair_core.specs.declared.side.Side.{Side}
use Rattle.pair_core.specs.declared.side.Side.TheVariants.{A, B}
use Rattle.pair_core.specs.declared.host.Opening.{Opening}
use Rattle.pair_core.specs.declared.host.Opening.TheVariants as opening

-- one side
pub record HostView (G : Type 0) : Type 0 where
  pub control_block : View  -- of its socket
  pub endpoint : IpEndpoint
  pub opening : Opening
  pub accepted : List ℕ  -- the bytes that its calls of send took, in order
  pub handed_out : List ℕ  -- the bytes that its calls of recv gave out, in order
  pub released : ℕ  -- how many bytes left its transmit queue by acknowledgement
  pub taken : ℕ  -- how many bytes joined its receive queue
  pub closed : Bool  -- a close was done in ESTABLISHED or CLOSE-WAIT, where one of SYN-RECEIVED may have waited
  pub source : Option G  -- of its socket's timestamps

-- a stored segment
pub record StoredView : Type 0 where
  pub emitter : Side
  pub ip : IpRepr
  pub segment : Segment
  pub released_at : ℕ
  pub taken_at : ℕ

pub record PairView (G : Type 0) : Type 0 where
  pub a : HostView G
  pub b : HostView G
  pub segments : List StoredView
  pub limit : Option ℕ

abbrev pub host_of : {G : Type 0} → Side → PairView G → HostView G
host_of A p = p.a
host_of B p = p.b

abbrev pub with_host : {G : Type 0} → Side → PairView G → HostView G → PairView G
with_host A p h = record p { a = h }
with_host B p h = record p { b = h }

abbrev pub new_host : {G : Type 0} → View → IpEndpoint → Option G → HostView G
new_host v e source =
    record {
      control_block = record v { stamps = is_some source };
      endpoint = e;
      opening = opening.Unopened;
      accepted = [];
      handed_out = [];
      released = 0;
      taken = 0;
      closed = false;
      source = source;
    }

abbrev pub new_pair : {G : Type 0} → HostView G → HostView G → Option ℕ → PairView G
new_pair a b limit = record { a = a; b = b; segments = []; limit = limit }
