-- The acknowledgement of an answer is believed.
use Rattle.std.proofs.Common.{◌≡◌, ◌∙◌, ℕ, ℤ, refl, ⊎_elim, ◌+◌, ◌*◌, ◌%◌, ◌<◌, ◌≤◌, Bool, true, false, Option, Some, None, ap, subst, sym, arith}
use Rattle.std.specs.Prelude.{if◌then◌else◌, nat_le, ◌⊎◌, ◌&&◌, IfSome, is_some, min, option_map}
use Rattle.std.proofs.lemmas.Bool.{and_parts}
use Rattle.ip_wire.specs.declared.address.IpAddress.{IpAddress}
use Rattle.ip_wire.specs.declared.repr.IpRepr.{IpRepr}
use Rattle.control_wire.specs.Segment.{Segment}
use Rattle.control_wire.specs.Seq.{seq_add, seq_minus, seq_of}
use Rattle.control_wire.specs.declared.seq_number.TcpSeqNumber.{TcpSeqNumber}
use Rattle.control_wire.specs.declared.tcp.TcpTimestampRepr.{TcpTimestampRepr}
use Rattle.rand_chacha.specs.ChaCha.{key_of}
use Rattle.host_cookies.specs.Classes.{class_of}
use Rattle.host_cookies.specs.Laws.{AnswersAreRecognised}
use Rattle.host_cookies.specs.Numbers.{awaited, mixed, recognised, step_of, tag_of}
use Rattle.host_cookies.specs.Offers.{OffersComeBack, sack_in, scale_in, told_number}
use Rattle.host_cookies.specs.declared.call.Call.{Call}
use Rattle.host_cookies.specs.declared.cookies.SynCookies.{SynCookies}
use Rattle.sock_tcp.specs.Advance.{scale_taken}
use Rattle.net_host.specs.Cookies.{AnswersAreBelieved, Echoes, OffersAreHeard, answer_number, answer_segment, believed_if}
use Rattle.net_host.specs.Cookies.{BelievesAwaited, call_of, class_told, clock_brought, doubted_by, is_anybody, kept_or}
use Rattle.net_host.specs.Cookies.{plain_answer, sack_brought, scale_brought, tested_if, told_by, told_to, with_options}
use Rattle.net_host.specs.declared.cookies.Course.{Course}
use Rattle.net_host.specs.declared.cookies.Course.TheVariants as course
use Rattle.net_host.specs.declared.segments.Taker.TheVariants as taker

either : (b : Bool) (x y n : ℕ) → x ≤ n → y ≤ n → (if b then x else y) ≤ n
either true x y n h k = h
either false x y n h k = k

class_small : (o : Option ℕ) → class_of o ≤ 7
class_small None = omega arith
class_small (Some m) = either (nat_le 1460 m) 7 _ 7 (omega arith) (either (nat_le 1440 m) 6 _ 7 (omega arith) (either (nat_le 1360 m) 5 _ 7 (omega arith) (either (nat_le 1220 m) 4 _ 7 (omega arith) (either (nat_le 536 m) 3 _ 7 (omega arith) (either (nat_le 256 m) 2 1 7 (omega arith) (omega arith))))))

number_small : (class m : ℕ) → class ≤ 7 → class * 536870912 + m % 536870912 < 4294967296
number_small class m h = omega (arith, h)

back : (n : ℕ) → n < 4294967296 → seq_minus (seq_add (seq_of n) 1) 1 ≡ seq_of n
back n h = ap seq_of (omega (arith, h))

abbrev made : IpAddress → IpAddress → ℕ → ℕ → ℕ → Call
made r l p q n = record { remote = r; local = l; remote_port = p; local_port = q; number = n }

same_call : (r r' l l' : IpAddress) (p p' q q' n n' : ℕ) → r' ≡ r → l' ≡ l → p' ≡ p → q' ≡ q → n' ≡ n → made r' l' p' q' n' ≡ made r l p q n
same_call r r' l l' p p' q q' n n' a b c d e =
    ap (λ x. made x l' p' q' n') a ∙ ap (λ x. made r x p' q' n') b ∙ ap (λ x. made r l x q' n') c ∙ ap (λ x. made r l p x n') d ∙ ap (λ x. made r l p q x) e

not_late : (heard sent last : ℕ) → (heard ≡ sent) ⊎ (heard ≡ sent + 1) → sent ≤ last → nat_le heard (last + 1) ≡ true
not_late heard sent last step before = ⊎_elim (λ h. grind (arith, h, before)) (λ h. grind (arith, h, before)) step

-- ---- what the answer told comes back

no_unit : {X : Type 0} → ⊥ → X
no_unit e = absurd e

none_some : false ≡ true → ⊥
none_some e = cc

record Brought (told : Bool) (s : Segment) (u : Option TcpTimestampRepr) : Type 0 where
  scale : scale_brought u ≡ (if told then scale_taken s.window_scale else None)
  sack : sack_brought u ≡ (if told then s.sack_permitted else false)
  stamps : is_some (clock_brought u) ≡ told

nothing_brought : (s : Segment) → Brought false s None
nothing_brought s = record { scale = refl; sack = refl; stamps = refl }

as_taken : (o : Option ℕ) → option_map (λ n. min n 14) o ≡ scale_taken o
as_taken None = refl
as_taken (Some n) = refl

module _ (law : OffersComeBack) (s plain : Segment) where
  -- the number of an acknowledgement stands for what that of the answer does
  told_same : (own clock : Option ℕ) (t u : Option TcpTimestampRepr) → is_some clock ≡ is_some own → IfSome clock (λ c. c < 4294967296) → plain.timestamp ≡ None → Echoes u (with_options own clock t s plain).timestamp → told_by u ≡ told_to own t s
  told_same None clock t None k h p e = refl
  told_same None clock t (Some u) k h p e = no_unit (subst (λ o. Echoes (Some u) o) p e)
  told_same (Some shift) None t u k h p e = absurd (none_some k)
  told_same (Some shift) (Some c) None None k h p e = refl
  told_same (Some shift) (Some c) None (Some u) k h p e = no_unit (subst (λ o. Echoes (Some u) o) p e)
  told_same (Some shift) (Some c) (Some t) None k h p e = no_unit e
  told_same (Some shift) (Some c) (Some t) (Some u) k h p e = ap (λ n. told_number (n % 32)) e ∙ ap told_number (law c s.window_scale s.sack_permitted h).bits

  -- and so are the options
  options_same : (own clock : Option ℕ) (t u : Option TcpTimestampRepr) → is_some clock ≡ is_some own → IfSome clock (λ c. c < 4294967296) → plain.timestamp ≡ None → Echoes u (with_options own clock t s plain).timestamp → Brought (is_some (with_options own clock t s plain).timestamp) s u
  options_same None clock t None k h p e = subst (λ o. Brought (is_some o) s None) (sym p) (nothing_brought s)
  options_same None clock t (Some u) k h p e = no_unit (subst (λ o. Echoes (Some u) o) p e)
  options_same (Some shift) None t u k h p e = absurd (none_some k)
  options_same (Some shift) (Some c) None None k h p e = subst (λ o. Brought (is_some o) s None) (sym p) (nothing_brought s)
  options_same (Some shift) (Some c) None (Some u) k h p e = no_unit (subst (λ o. Echoes (Some u) o) p e)
  options_same (Some shift) (Some c) (Some t) None k h p e = no_unit e
  options_same (Some shift) (Some c) (Some t) (Some u) k h p e = record {
    scale = ap scale_in e ∙ (law c s.window_scale s.sack_permitted h).scale ∙ as_taken s.window_scale;
    sack = ap sack_in e ∙ (law c s.window_scale s.sack_permitted h).sack;
    stamps = refl;
  }

pub heard : OffersComeBack → OffersAreHeard
heard law c own clock f room sent ip ip' s a class ans =
    let is : Brought (is_some (answer_segment f own clock room (answer_number c own sent ip s) ip s).timestamp) s a.timestamp = options_same law s (plain_answer f room (answer_number c own sent ip s) ip s) own clock s.timestamp a.timestamp ans.clocked ans.small refl ans.echoes in
    record { scale = is.scale; sack = is.sack; stamps = is.stamps }

pub believed : AnswersAreRecognised → OffersComeBack → AnswersAreBelieved
believed law back_law c own clock other f room again sent last heard ip ip' s a small anybody noted before ans step =
    let awaits : awaited c.answered heard ≡ true = ap (λ o. awaited o heard) noted ∙ not_late (step_of heard) (step_of sent) (step_of last) step before in
    let told : told_by a.timestamp ≡ told_to own s.timestamp s = told_same back_law s (plain_answer f room (answer_number c own sent ip s) ip s) own clock s.timestamp a.timestamp ans.clocked ans.small refl ans.echoes in
    let within : answer_number c own sent ip s < 4294967296 = number_small (class_of s.max_seg_size) (mixed (key_of c.key) (tag_of (key_of c.key) (call_of ip s s.seq_number)) ((step_of sent * 8 + class_of s.max_seg_size) * 65536 + told_to own s.timestamp s)) (class_small s.max_seg_size) in
    let first : seq_minus a.seq_number 1 ≡ s.seq_number = ap (λ x. seq_minus x 1) ans.number ∙ back s.seq_number.0 small in
    let call : call_of ip' a (seq_minus a.seq_number 1) ≡ call_of ip s s.seq_number = same_call _ _ _ _ _ _ _ _ _ _ ans.remote ans.local ans.src_port ans.dst_port (ap (λ (x : TcpSeqNumber). x.0) first) in
    let known : class_told c heard ip' a (seq_of (answer_number c own sent ip s)) ≡ Some (class_of s.max_seg_size) = ap (λ k. recognised (key_of c.key) k (step_of heard) (told_by a.timestamp) (answer_number c own sent ip s)) call ∙ ap (λ n. recognised (key_of c.key) (call_of ip s s.seq_number) (step_of heard) n (answer_number c own sent ip s)) told ∙ law (key_of c.key) (call_of ip s s.seq_number) s.max_seg_size (told_to own s.timestamp s) (step_of sent) (step_of heard) step in
    ap (λ b. tested_if (b && is_anybody again) c heard ip' a) awaits
    ∙ ap (λ b. tested_if b c heard ip' a) anybody
    ∙ ap (doubted_by c heard ip' a) ans.acked
    ∙ ap (λ x. believed_if (class_told c heard ip' a x) x.0) (back (answer_number c own sent ip s) within)
    ∙ ap (λ o. believed_if o (answer_number c own sent ip s)) known

-- ---- and none but while one is awaited

abbrev is_it : Course → Bool
is_it (course.Believed class number) = true
is_it _ = false

only_tested : (b : Bool) (c : SynCookies) (now : ℤ) (ip : IpRepr) (s : Segment) (class number : ℕ) → tested_if b c now ip s ≡ course.Believed class number → b ≡ true
only_tested true c now ip s class number e = refl
only_tested false c now ip s class number e = let no : false ≡ true = ap is_it e in cc

kept_not : (b : Bool) (k n class number : ℕ) → kept_or b k n ≡ course.Believed class number → ⊥
kept_not true k n class number e = let no : false ≡ true = ap is_it e in cc
kept_not false k n class number e = let no : false ≡ true = ap is_it e in cc

pub only_awaited : BelievesAwaited
only_awaited c own (taker.Listener k) again now ip s class number e = absurd (kept_not _ k _ class number e)
only_awaited c own taker.Nobody again now ip s class number e = and_parts (awaited c.answered now) (is_anybody again) (only_tested (awaited c.answered now && is_anybody again) c now ip s class number e)
only_awaited c own (taker.Connection k) again now ip s class number e = let no : false ≡ true = ap is_it e in cc
only_awaited c own (taker.Reopened k) again now ip s class number e = let no : false ≡ true = ap is_it e in cc
only_awaited c own (taker.Reused k) again now ip s class number e = let no : false ≡ true = ap is_it e in cc
only_awaited c own taker.Busy again now ip s class number e = let no : false ≡ true = ap is_it e in cc
