-- A socket's dispatch into a buffer.
use Rattle.std.specs.Prelude.{ℕ, List, Result, Option, false}
use Rattle.sock_core.specs.Facts.{Facts}
use Rattle.sock_dgram.specs.Icmp as icmp
use Rattle.sock_dgram.specs.IcmpDispatch as icmp_dispatch
use Rattle.ip_wire.specs.Checksum.{is_sent}
use Rattle.sock_dgram.specs.Raw as raw
use Rattle.sock_dgram.specs.RawDispatch as raw_dispatch
use Rattle.sock_dgram.specs.Udp as udp
use Rattle.sock_dgram.specs.UdpDispatch.{Dispatched}
use Rattle.sock_tcp.specs.Dispatch.{Dispatches}
use Rattle.sock_tcp.specs.View.{View}
use Rattle.net_host.specs.Sheets.{Sheet, writing, writing_datagram, writing_message, writing_raw}
use Rattle.net_host.specs.declared.wire.Sent.{Sent}
use Rattle.net_host.specs.declared.wire.TooShort.{TooShort}

-- a buffer with no packet
abbrev pub empty_sheet : Facts → List ℕ → Sheet
empty_sheet facts out =
    record { checksums = facts.checksums; mtu = facts.mtu; octets = out; len = 0; lost = false }

-- a buffer with what was sent
abbrev pub sheet_with : Facts → List ℕ → Sent → Sheet
sheet_with facts out n =
    record { checksums = facts.checksums; mtu = facts.mtu; octets = out; len = n.len; lost = n.lost }

-- the socket's own dispatch, whose emit writes into the buffer
abbrev pub DispatchesSegment : {G : Type 0} → Facts → (G → ℕ → Type 0) → Option G → View → List ℕ
    → Result (Unit {0}) TooShort → Sent → View → List ℕ → Type 0
DispatchesSegment facts tells clock v out r n w out' =
    Dispatches writing tt facts tells clock v (empty_sheet facts out) r w (sheet_with facts out' n)

abbrev pub DispatchesDatagram : Facts → udp.View → List ℕ → Result (Unit {0}) TooShort → Sent → udp.View → List ℕ
    → Type 0
DispatchesDatagram facts v out r n w out' =
    Dispatched writing_datagram tt v facts (empty_sheet facts out) r (sheet_with facts out' n) w

abbrev pub DispatchesMessage : Facts → icmp.View → List ℕ → Result (Unit {0}) TooShort → Sent → icmp.View → List ℕ
    → Type 0
DispatchesMessage facts v out r n w out' =
    icmp_dispatch.Dispatched writing_message tt v facts (empty_sheet facts out) r (sheet_with facts out' n) w

abbrev pub DispatchesRaw : Facts → raw.View → List ℕ → Result (Unit {0}) TooShort → Sent → raw.View → List ℕ → Type 0
DispatchesRaw facts v out r n w out' =
    raw_dispatch.Dispatched writing_raw tt (is_sent facts.checksums.ipv4) v (empty_sheet facts out) r
    (sheet_with facts out' n) w
