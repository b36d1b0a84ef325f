-- By smoltcp's rules a fast retransmission sends the segment at SND.UNA again.
use Rattle.std.proofs.Common.{◌≡◌, length, ap}
use Rattle.std.specs.Prelude.{if◌then◌else◌}
use Rattle.sock_tcp.specs.Content.{hole_by, number_of, offset_of}
use Rattle.sock_tcp.specs.Due.{flight}
use Rattle.sock_tcp.specs.Rfc.Scoreboard.{hole_number, hole_start}
use Rattle.sock_tcp.specs.View.{View}
use Rattle.sock_tcp.specs.declared.rules.Rules.TheVariants as rules

pub number_again : (v : View) → v.rules ≡ rules.Smoltcp → number_of v ≡ (if v.pending_fast_retransmit then v.local_seq_no else v.remote_last_seq)
number_again v e = ap (λ r. if v.pending_fast_retransmit then hole_number (hole_by r v.recovery v.sacked v.local_seq_no v.remote_win_len) (length v.tx_buffer.bytes) v.local_seq_no else v.remote_last_seq) e

pub offset_again : (v : View) → v.rules ≡ rules.Smoltcp → offset_of v ≡ (if v.pending_fast_retransmit then 0 else flight v)
offset_again v e = ap (λ r. if v.pending_fast_retransmit then hole_start (hole_by r v.recovery v.sacked v.local_seq_no v.remote_win_len) (length v.tx_buffer.bytes) else flight v) e
