-- A datagram that is refused leaves the socket as it was.
use Rattle.std.proofs.Common.{◌≡◌, ℕ, ℤ, pos, List, length, Bool, true, false, refl, not, ap, ◌∙◌}
use Rattle.std.specs.Prelude.{Result, Ok, Err, if◌then◌else◌}
use Rattle.net_base.specs.Packets.{Packets, made_room, takes}
use Rattle.net_base.proofs.PacketLists.{refused_room}
use Rattle.ip_wire.specs.declared.address.IpAddress.{IpAddress}
use Rattle.ip_wire.specs.Address.{is_unspecified}
use Rattle.sock_dgram.specs.Datagrams.{after_send_if, put, send_answer_if, stored}
use Rattle.sock_dgram.specs.Icmp as icmp
use Rattle.sock_dgram.specs.Raw as raw
use Rattle.sock_dgram.specs.Udp as udp
use Rattle.sock_dgram.specs.declared.error.SendError.{SendError}
use Rattle.sock_dgram.specs.declared.error.SendError.TheVariants as send_error
use Rattle.sock_dgram.specs.declared.raw.error.SendError.{SendError as RawError}
use Rattle.sock_dgram.specs.declared.raw.error.SendError.TheVariants as raw_error
use Rattle.sock_dgram.specs.declared.udp.socket.UdpMetadata.{UdpMetadata}
use Rattle.smoltcp_c.specs.Answers.{datagram_answer}
use Rattle.smoltcp_c.specs.Icmp as icmp_c
use Rattle.smoltcp_c.specs.Raw as raw_c
use Rattle.smoltcp_c.specs.Udp as udp_c
use Rattle.smoltcp_c.specs.declared.handles.IcmpHandle.{IcmpHandle}
use Rattle.smoltcp_c.specs.declared.handles.RawHandle.{RawHandle}
use Rattle.smoltcp_c.specs.declared.handles.UdpHandle.{UdpHandle}

module _ {M : Type 0} where
  stored_stays : (m : M) (bs : List ℕ) (p : Packets M) → takes (length bs) p ≡ false → stored m bs p ≡ p
  stored_stays m bs p h = ap (λ b. if b then put m bs (made_room (length bs) p) else made_room (length bs) p) h ∙ refused_room (length bs) p h

  module _ {V : Type 0} (tx : V → Packets M) (with_tx : V → Packets M → V) where
    stays_if : (b : Bool) (m : M) (bs : List ℕ) (v : V) → with_tx v (tx v) ≡ v → (datagram_answer (send_answer_if b (length bs) (tx v)) ≡ pos 0 → ⊥) → after_send_if tx with_tx b m bs v ≡ v
    stays_if false m bs v same refuses = refl
    stays_if true m bs v same refuses = by (takes (length bs) (tx v)) refl
      where
        by : (t : Bool) → takes (length bs) (tx v) ≡ t → with_tx v (stored m bs (tx v)) ≡ v
        by true h = absurd (refuses (ap (λ t. datagram_answer (if t then Ok tt else Err send_error.BufferFull)) h))
        by false h = ap (with_tx v) (stored_stays m bs (tx v) h) ∙ same

-- v is the socket before the call and w behind it, s what the call answered, r its number
pub udp_stays : (h : UdpHandle) (v w : udp.View) (m : UdpMetadata) (bs : List ℕ) (s : Result (Unit {0}) SendError) (r z : ℤ) → v ≡ h.socket → s ≡ udp.send_answer v m (length bs) → w ≡ udp.after_send v m bs → r ≡ datagram_answer s → z ≡ r → (z ≡ pos 0 → ⊥) → udp_c.with_socket h w ≡ h
udp_stays h v w m bs s r z same answer is number exact refuses =
    ap (udp_c.with_socket h) (is ∙ stays_if (λ v. v.tx_buffer) udp.with_tx (udp.is_sendable v m) m bs v refl (λ e. refuses (exact ∙ number ∙ ap datagram_answer answer ∙ e)) ∙ same)

pub icmp_stays : (h : IcmpHandle) (v w : icmp.View) (a : IpAddress) (bs : List ℕ) (s : Result (Unit {0}) SendError) (r z : ℤ) → v ≡ h.socket → s ≡ icmp.send_answer v a (length bs) → w ≡ icmp.after_send v a bs → r ≡ datagram_answer s → z ≡ r → (z ≡ pos 0 → ⊥) → icmp_c.with_socket h w ≡ h
icmp_stays h v w a bs s r z same answer is number exact refuses =
    ap (icmp_c.with_socket h) (is ∙ stays_if (λ v. v.tx_buffer) icmp.with_tx (not (is_unspecified a)) a bs v refl (λ e. refuses (exact ∙ number ∙ ap datagram_answer answer ∙ e)) ∙ same)

pub raw_stays : (h : RawHandle) (v w : raw.View) (bs : List ℕ) (s : Result (Unit {0}) RawError) (r z : ℤ) → v ≡ h.socket → s ≡ raw.send_answer v (length bs) → w ≡ record v { tx_buffer = stored tt bs v.tx_buffer } → r ≡ raw_c.packet_answer s → z ≡ r → (z ≡ pos 0 → ⊥) → raw_c.with_socket h w ≡ h
raw_stays h v w bs s r z same answer is number exact refuses = by (takes (length bs) v.tx_buffer) refl
  where
    by : (t : Bool) → takes (length bs) v.tx_buffer ≡ t → raw_c.with_socket h w ≡ h
    by true e = absurd (refuses (exact ∙ number ∙ ap raw_c.packet_answer answer ∙ ap (λ t. raw_c.packet_answer (if t then Ok tt else Err raw_error.BufferFull)) e))
    by false e = ap (raw_c.with_socket h) (is ∙ ap (λ p. record v { tx_buffer = p }) (stored_stays tt bs v.tx_buffer e) ∙ same)
