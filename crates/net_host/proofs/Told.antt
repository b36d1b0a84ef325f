-- What is told of a packet that nobody takes, from the answers of its steps.
use Rattle.std.proofs.Common.{◌≡◌, ◌∙◌, ℕ, ◌&&◌, ap, subst, sym, refl, List, length, min, Option, Some, None, is_some, Bool, true, false}
use Rattle.std.specs.Prelude.{pos, ◌+ℤ◌, if◌then◌else◌}
use Rattle.ip_wire.specs.IpHeader.{dst_addr_of, src_addr_of}
use Rattle.ip_wire.specs.declared.checksum.ChecksumCapabilities.{ChecksumCapabilities}
use Rattle.ip_wire.specs.declared.repr.IpRepr.{IpRepr}
use Rattle.net_base.specs.declared.time.Instant.{Instant}
use Rattle.sock_core.specs.Facts.{Facts}
use Rattle.sock_tcp.specs.View.{moment_of}
use Rattle.net_host.specs.Filing.{number_of}
use Rattle.net_host.specs.Limits.{allows, bucket_of, spent, taken_in}
use Rattle.net_host.specs.Messages.{AnyMail, answer_len, if_short, with_answer}
use Rattle.net_host.specs.Unreachable.{TakesRaw, TellsOf, error_of, spent_for, told_within, wanted}
use Rattle.net_host.specs.Walks.{Finds}
use Rattle.net_host.specs.declared.limit.Limit.{Limit}
use Rattle.net_host.specs.declared.slot.Slot.{Slot}
use Rattle.net_host.specs.declared.unreachable.Unmet.{Unmet}
use Rattle.net_host.proofs.Raws.{raw_or_none}

module _ {G : Type 0} (f : Facts) (what : Unmet) (ip : IpRepr) (octets : List ℕ) (ss : List (Slot G)) (l l' : Limit) (out out' : List ℕ) (n : ℕ) (raw : Option ℕ) (error answer : Option AnyMail) (mtu : ℕ) (now : Instant) (caps : ChecksumCapabilities) where
  pub tells : Finds (TakesRaw ip) ss raw → mtu ≡ f.mtu → now ≡ moment_of f → caps ≡ f.checksums → error ≡ wanted (f.has_address (dst_addr_of ip)) (is_some raw) (error_of what ip octets mtu) → answer ≡ told_within l ip now error → l' ≡ spent_for error l ip now → n ≡ answer_len (if_short (min mtu (length out)) answer) → out' ≡ with_answer caps (if_short (min mtu (length out)) answer) out → TellsOf f what ip octets ss l out n l' out'
  tells looked m at c e a s len bytes =
      let error_is : error ≡ wanted (f.has_address (dst_addr_of ip)) (is_some raw) (error_of what ip octets f.mtu) = e ∙ ap (λ k. wanted (f.has_address (dst_addr_of ip)) (is_some raw) (error_of what ip octets k)) m in
      let answer_is : answer ≡ told_within l ip (moment_of f) (wanted (f.has_address (dst_addr_of ip)) (is_some raw) (error_of what ip octets f.mtu)) = a ∙ ap (λ t. told_within l ip t error) at ∙ ap (told_within l ip (moment_of f)) error_is in
      record {
        raw = raw;
        looked = looked;
        len = len ∙ ap (λ k. answer_len (if_short (min k (length out)) answer)) m ∙ ap (λ o. answer_len (if_short (min f.mtu (length out)) o)) answer_is;
        octets_are = bytes ∙ ap (λ k. with_answer k (if_short (min mtu (length out)) answer) out) c ∙ ap (λ k. with_answer f.checksums (if_short (min k (length out)) answer) out) m ∙ ap (λ o. with_answer f.checksums (if_short (min f.mtu (length out)) o) out) answer_is;
        limit = s ∙ ap (λ t. spent_for error l ip t) at ∙ ap (λ o. spent_for o l ip (moment_of f)) error_is;
      }

-- ---- where nobody is told, whether a raw socket takes the packet or not

spent_none : (l : Limit) (source : ℕ) (now : Instant) → allows l source now ≡ false → spent l source now ≡ l
spent_none l source now h = ap (λ b. if b then taken_in l (bucket_of l.key source) now else l) h

module _ (l : Limit) (ip : IpRepr) (now : Instant) where
  none_told : (own raw : Bool) (error : Option AnyMail) → (own && (is_some error && allows l (number_of (src_addr_of ip)) now)) ≡ false → told_within l ip now (wanted own raw error) ≡ None
  none_told false raw error h = refl
  none_told true true error h = refl
  none_told true false None h = refl
  none_told true false (Some m) h = ap (λ b. if b then Some m else None) h

  none_spent : (own raw : Bool) (error : Option AnyMail) → (own && (is_some error && allows l (number_of (src_addr_of ip)) now)) ≡ false → spent_for (wanted own raw error) l ip now ≡ l
  none_spent false raw error h = refl
  none_spent true true error h = refl
  none_spent true false None h = refl
  none_spent true false (Some m) h = spent_none l (number_of (src_addr_of ip)) now h

module _ {G : Type 0} (f : Facts) (what : Unmet) (ip : IpRepr) (octets : List ℕ) (ss : List (Slot G)) (l : Limit) (out : List ℕ) where
  pub tells_none : (own : Bool) (error : Option AnyMail) (mtu : ℕ) (now : Instant) → own ≡ f.has_address (dst_addr_of ip) → error ≡ error_of what ip octets mtu → mtu ≡ f.mtu → now ≡ moment_of f → (own && (is_some error && allows l (number_of (src_addr_of ip)) now)) ≡ false → TellsOf f what ip octets ss l out 0 l out
  tells_none own error mtu now o e m t h =
      let raw = raw_or_none ip ss in
      let error_is : error ≡ error_of what ip octets f.mtu = e ∙ ap (λ k. error_of what ip octets k) m in
      let none : (f.has_address (dst_addr_of ip) && (is_some (error_of what ip octets f.mtu) && allows l (number_of (src_addr_of ip)) (moment_of f))) ≡ false = subst (λ b. (b && (is_some (error_of what ip octets f.mtu) && allows l (number_of (src_addr_of ip)) (moment_of f))) ≡ false) o (subst (λ x. (own && (is_some x && allows l (number_of (src_addr_of ip)) (moment_of f))) ≡ false) error_is (subst (λ u. (own && (is_some error && allows l (number_of (src_addr_of ip)) u)) ≡ false) t h)) in
      let told = none_told l ip (moment_of f) (f.has_address (dst_addr_of ip)) (is_some raw.0) (error_of what ip octets f.mtu) none in
      record {
        raw = raw.0;
        looked = raw.1;
        len = sym (ap (λ x. answer_len (if_short (min f.mtu (length out)) x)) told);
        octets_are = sym (ap (λ x. with_answer f.checksums (if_short (min f.mtu (length out)) x) out) told);
        limit = sym (none_spent l ip (moment_of f) (f.has_address (dst_addr_of ip)) (is_some raw.0) (error_of what ip octets f.mtu) none);
      }
