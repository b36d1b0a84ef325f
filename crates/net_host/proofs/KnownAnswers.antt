-- What a connection answers that took a segment is what its host answers.
use Rattle.std.proofs.Common.{◌≡◌, ◌∙◌, ℕ, Bool, true, false, List, Some, option_map, is_some, refl, ap, sym, subst}
use Rattle.ip_wire.specs.declared.address.IpAddress.{IpAddress}
use Rattle.ip_wire.specs.declared.repr.IpRepr.{IpRepr}
use Rattle.control_wire.specs.Segment.{Segment}
use Rattle.sock_core.specs.Facts.{Facts}
use Rattle.sock_tcp.specs.Draw.{Draws, draws}
use Rattle.sock_tcp.specs.Process.{Processes, processed, reply_of, responded, source_kept}
use Rattle.sock_tcp.specs.Replies.{Answers, IsReplyStamp, echoed}
use Rattle.sock_tcp.specs.Rfc.Numbers.{reply_numbered}
use Rattle.sock_tcp.specs.Verdict.{verdict_of}
use Rattle.sock_tcp.specs.View.{moment_of}
use Rattle.sock_tcp.specs.declared.duplicates.Response.{Response}
use Rattle.sock_tcp.specs.declared.socket.Socket as tcp
use Rattle.smoltcp_socket.specs.declared.socket.Socket.TheVariants as socket
use Rattle.net_host.specs.Answered.{HearsOut, PutsAnswer}
use Rattle.net_host.specs.Cookies.{AnswersSegment, IsAgain, course_among, noted_on, own_of}
use Rattle.net_host.specs.Crowding.{begins}
use Rattle.net_host.specs.Receiving.{TakesSegment, counted_on, facts_of, words_of}
use Rattle.net_host.specs.Segments.{IsTaker, SendsWithin, SocketHears, as_is}
use Rattle.net_host.specs.Walks.{ChangesAt}
use Rattle.net_host.specs.Wire.{with_reply}
use Rattle.net_host.specs.declared.cookies.Course.TheVariants as course
use Rattle.net_host.specs.declared.inner.InterfaceInner.{InterfaceInner}
use Rattle.net_host.specs.declared.interface.Interface.{Interface}
use Rattle.net_host.specs.declared.limit.Limit.{Limit}
use Rattle.net_host.specs.declared.segments.Taker.TheVariants as taker
use Rattle.net_host.specs.declared.slot.Slot.{Slot}
use Rattle.net_host.proofs.CookieAnswers.{connection_has_no_class, connection_is_plain}

facts_kept : {C : Type 0} (facts : C → Facts) (word_at : C → ℕ → ℕ) (old new : C) (b : Bool) → Draws b facts word_at old new → facts new ≡ facts old
facts_kept facts word_at old new true h = h.same
facts_kept facts word_at old new false h = ap facts h

-- x takes the segment and is m then, and y once it has answered
pub heard_out : {C G : Type 0} (facts : C → Facts) (word_at : C → ℕ → ℕ) (tells : G → ℕ → Type 0) (before : Slot G) (x m y : tcp.Socket G) (o : Response) (cx cx' : C) (l l' : Limit) (ip : IpRepr) (s : Segment) (out out' : List ℕ) (n : ℕ) → before.socket ≡ Some (socket.Tcp x) → responded o m.control_block s ≡ processed x.control_block (moment_of (facts cx)) (word_at cx 0) ip s → Draws (draws (verdict_of x.control_block s.control s.ack_number) x.control_block.state s.control) facts word_at cx cx' → m.tsval_generator ≡ source_kept m.control_block.stamps x.tsval_generator → PutsAnswer (IsReplyStamp tells m.tsval_generator (echoed y.control_block s.timestamp)) (facts cx') l ip (responded o m.control_block s) y.control_block out n l' out' → y.tsval_generator ≡ m.tsval_generator → HearsOut facts word_at tells before cx l ip s out n (record { generation = before.generation; socket = Some (socket.Tcp y); guard = before.guard; opened = before.opened }) cx' l' out'
heard_out facts word_at tells before x m y o cx cx' l l' ip s out out' n is table drawn source p same =
    let stamps : m.control_block.stamps ≡ y.control_block.stamps = sym m.stamped ∙ ap is_some (sym same) ∙ y.stamped in
    let call : Processes facts word_at (IsReplyStamp tells y.tsval_generator (echoed y.control_block s.timestamp)) x.control_block cx ip s p.reply y.control_block cx' = record {
      view = p.view ∙ ap (λ r. r.view) table;
      answer = subst (λ st. Answers (IsReplyStamp tells st (echoed y.control_block s.timestamp)) ip (reply_numbered y.control_block (processed x.control_block (moment_of (facts cx)) (word_at cx 0) ip s).reply) (option_map reply_of p.reply)) (sym same) (subst (λ r. Answers (IsReplyStamp tells m.tsval_generator (echoed y.control_block s.timestamp)) ip (reply_numbered y.control_block r.reply) (option_map reply_of p.reply)) table p.answer);
      bare = p.bare;
      fits = p.fits;
      context = drawn;
    } in
    record {
      reply = p.reply;
      heard = record {
        generation = refl;
        opened = refl;
        guard = refl;
        heard = subst (λ a. SocketHears facts word_at tells as_is a cx ip s p.reply (Some (socket.Tcp y)) cx') (sym is) (call, same ∙ source ∙ ap (λ b. source_kept b x.tsval_generator) stamps);
      };
      sent = p.sent;
      within = subst (λ f. SendsWithin l (moment_of f) ip p.reply p.sent l') (facts_kept facts word_at cx cx' _ drawn) p.within;
      len = p.len;
      octets = p.octets ∙ ap (λ f. with_reply f.checksums (option_map reply_of p.sent) out) (facts_kept facts word_at cx cx' _ drawn);
    }

pub known_answers : {C G : Type 0} (facts : C → Facts) (word_at : C → ℕ → ℕ) (tells : G → ℕ → Type 0) (ss ts : List (Slot G)) (i : ℕ) (cx cx' : C) (l l' : Limit) (ip : IpRepr) (s : Segment) (out out' : List ℕ) (n : ℕ) → ChangesAt (λ before after. HearsOut facts word_at tells before cx l ip s out n after cx' l' out') ss i ts → AnswersSegment facts word_at tells course.Plain (taker.Connection i) taker.Nobody ss cx l ip s out n ts cx' l' out'
known_answers facts word_at tells ss ts i cx cx' l l' ip s out out' n c = record {
  reply = c.changed.reply;
  taken = record { before = c.before; after = c.after; was = c.was; changed = c.changed.heard; now = c.now };
  sent = c.changed.sent;
  within = c.changed.within;
  len = c.changed.len;
  octets = c.changed.octets;
}

none_begins : false ≡ true → ⊥
none_begins e = cc

-- what is for a connection goes on by no cookie, begins none, and is not counted
pub known_taken : {W G : Type 0} (is : IpAddress → IpAddress → Bool) (word_at : W → ℕ → ℕ) (tells : G → ℕ → Type 0) (i : Interface W) (inner : InterfaceInner W) (l : Limit) (ss us ts : List (Slot G)) (k : ℕ) (ip : IpRepr) (s : Segment) (out out' : List ℕ) (n : ℕ) → IsTaker ss ip s (taker.Connection k) → us ≡ ss → AnswersSegment (facts_of is word_at tells) (words_of is word_at tells) tells course.Plain (taker.Connection k) taker.Nobody us i.inner i.resets ip s out n ts inner l out' → TakesSegment is word_at tells ip s i ss out n (record i { inner = inner; resets = l }) ts out'
known_taken is word_at tells i inner l ss us ts k ip s out out' n takes same h =
    let plain : course.Plain ≡ course_among ss i.cookies (taker.Connection k) taker.Nobody (facts_of is word_at tells i.inner).now ip s = connection_is_plain i.cookies (own_of ss (taker.Connection k)) k taker.Nobody _ ip s in
    record {
      taker = taker.Connection k;
      takes = takes;
      again = taker.Nobody;
      believes = subst (λ c. IsAgain c ss ip s taker.Nobody) (sym (connection_has_no_class i.cookies k (facts_of is word_at tells i.inner).now s)) refl;
      dropped = false;
      limited = record { few = λ e b m. absurd (none_begins (subst (λ c. begins c (taker.Connection k) s ≡ true) (sym plain) b)); unlimited = λ e. refl; others = λ e. refl };
      answers = subst (λ c. AnswersSegment (facts_of is word_at tells) (words_of is word_at tells) tells c (taker.Connection k) taker.Nobody ss i.inner i.resets ip s out n ts inner l out') plain (subst (λ xs. AnswersSegment (facts_of is word_at tells) (words_of is word_at tells) tells course.Plain (taker.Connection k) taker.Nobody xs i.inner i.resets ip s out n ts inner l out') same h);
      counters = ap (λ c. counted_on c (taker.Connection k) taker.Nobody i.counters) plain;
      turn = refl;
      errors = refl;
      guards = refl;
      cookies = ap (λ c. noted_on c (facts_of is word_at tells i.inner).now i.cookies) plain;
      groups = refl;
      most = refl;
    }
