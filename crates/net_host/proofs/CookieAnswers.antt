-- What answers a SYN fits a packet; a segment for a connection is not answered so.
use Rattle.std.proofs.Common.{◌≡◌, ℕ, ℤ, ◌+◌, ◌*◌, ◌/◌, ◌≤◌, Bool, true, false, Option, Some, None, is_some, length, refl, ap, sym, subst, arith}
use Rattle.std.specs.Prelude.{IfSome, if◌then◌else◌}
use Rattle.std.specs.Option.{ForSome}
use Rattle.std.proofs.lemmas.Option.{none-some}
use Rattle.ip_wire.specs.declared.repr.IpRepr.{IpRepr}
use Rattle.ip_wire.specs.declared.repr.IpRepr.TheVariants as header
use Rattle.control_wire.specs.Fits.{FitsHeader, FitsPacket}
use Rattle.control_wire.specs.Segment.{Segment, options_len}
use Rattle.control_wire.specs.declared.tcp.TcpTimestampRepr.{TcpTimestampRepr}
use Rattle.sock_core.specs.Facts.{Facts}
use Rattle.sock_tcp.specs.Content.{scale_back}
use Rattle.sock_tcp.specs.Replies.{reply_ip}
use Rattle.host_cookies.specs.declared.cookies.SynCookies.{SynCookies}
use Rattle.net_host.specs.Cookies.{answer_of, class_if, course_of, plain_answer, with_options}
use Rattle.net_host.specs.declared.cookies.Course.TheVariants as course
use Rattle.net_host.specs.declared.segments.Taker.{Taker}
use Rattle.net_host.specs.declared.segments.Taker.TheVariants as taker

no_scale : ForSome None (λ n. n ≤ 14)
no_scale n e = absurd (none-some n e)

abbrev scale_or : Option ℕ → ℕ
scale_or None = 0
scale_or (Some n) = n

one_scale : (shift : ℕ) → shift ≤ 14 → ForSome (Some shift) (λ n. n ≤ 14)
one_scale shift h n e = subst (λ k. k ≤ 14) (ap scale_or e) h

scaled : (scale : Option ℕ) (shift : ℕ) → shift ≤ 14 → ForSome (scale_back scale shift) (λ n. n ≤ 14)
scaled None shift h = no_scale
scaled (Some n) shift h = one_scale shift h

-- a size of a segment, perhaps a scale, perhaps a permission, and a timestamp
few : (scale : Option ℕ) (shift : ℕ) (sack : Bool) → 4 + (if is_some (scale_back scale shift) then 3 else 0) + (if sack then 2 else 0) + 10 + 0 ≤ 40
few None shift true = omega arith
few None shift false = omega arith
few (Some n) shift true = omega arith
few (Some n) shift false = omega arith

module _ (f : Facts) (room number : ℕ) (ip : IpRepr) (s : Segment) where
  bare_fits : FitsHeader (plain_answer f room number ip s)
  bare_fits = record { scale = no_scale; permission = λ e. absurd cc; ranges = refl; options = omega arith }

  header_fits : (own clock : Option ℕ) (t : Option TcpTimestampRepr) → IfSome own (λ n. n ≤ 14) → FitsHeader (with_options own clock t s (plain_answer f room number ip s))
  header_fits None clock t h = bare_fits
  header_fits (Some shift) None t h = bare_fits
  header_fits (Some shift) (Some now) None h = bare_fits
  header_fits (Some shift) (Some now) (Some t) h = record { scale = scaled s.window_scale shift h; permission = λ e. refl; ranges = refl; options = few s.window_scale shift s.sack_permitted }

nothing_carried : (f : Facts) (room number : ℕ) (ip : IpRepr) (s : Segment) (own clock : Option ℕ) (t : Option TcpTimestampRepr) → length (with_options own clock t s (plain_answer f room number ip s)).payload ≡ 0
nothing_carried f room number ip s None clock t = refl
nothing_carried f room number ip s (Some shift) None t = refl
nothing_carried f room number ip s (Some shift) (Some now) None = refl
nothing_carried f room number ip s (Some shift) (Some now) (Some t) = refl

short : (o n : ℕ) → o ≤ 40 → n ≡ 0 → 40 + ((20 + o + 3) / 4 * 4 + n) ≤ 65535
short o n h e = omega (arith, h, e)

packet_fits : (ip : IpRepr) (a : Segment) → FitsHeader a → length a.payload ≡ 0 → FitsPacket (reply_ip ip a) a
packet_fits (header.Ipv4 p) a h e = record { header = h; protocol = refl; octets = refl; total = grind (arith, short (options_len a) (length a.payload) h.options e) }
packet_fits (header.Ipv6 p) a h e = record { header = h; protocol = refl; octets = refl; total = short (options_len a) (length a.payload) h.options e }

pub answer_fits : (f : Facts) (own clock : Option ℕ) (room number : ℕ) (ip : IpRepr) (s : Segment) (out : IpRepr × Segment) → IfSome own (λ n. n ≤ 14) → out ≡ answer_of f own clock room number ip s → FitsPacket out.0 out.1
answer_fits f own clock room number ip s out h e = subst (λ (r : IpRepr × Segment). FitsPacket r.0 r.1) (sym e) (packet_fits ip _ (header_fits f room number ip s own clock s.timestamp h) (nothing_carried f room number ip s own clock s.timestamp))

pub connection_is_plain : (o : Option SynCookies) (own : Option ℕ) (i : ℕ) (again : Taker) (now : ℤ) (ip : IpRepr) (s : Segment) → course.Plain ≡ course_of o own (taker.Connection i) again now ip s
connection_is_plain None own i again now ip s = refl
connection_is_plain (Some c) own i again now ip s = refl

pub connection_has_no_class : (o : Option SynCookies) (i : ℕ) (now : ℤ) (s : Segment) → class_if o (taker.Connection i) now s ≡ None
connection_has_no_class None i now s = refl
connection_has_no_class (Some c) i now s = refl
