-- How many bytes a send takes and a read hands out, by whichever call.
use Rattle.std.proofs.Common.{◌≡◌, ℕ, ◌≤◌, List, length, Option, Some, None, Bool, true, false, arith}
use Rattle.std.specs.Prelude.{min}
use Rattle.sock_core.specs.Received.{first_piece}
use Rattle.sock_tcp.proofs.Lending.{free_within, first_within}
use Rattle.sock_tcp.specs.Queues.{fitting, readable}
use Rattle.pair_core.specs.PairCalls.{sending, piece_taken, TakesBytes, HandsOut, HandsOutBytes}
use Rattle.pair_core.specs.PairViews.{HostView}
use Rattle.pair_core.specs.declared.outcome.Outcome.{Outcome}
use Rattle.pair_core.specs.declared.outcome.Outcome.TheVariants as outcome

-- some of the bytes, that fit
pub record TakesSome {G : Type 0} (bs : List ℕ) (h : HostView G) (o : Outcome) (k : HostView G) : Type 0 where
  pub count : ℕ
  pub offered : count ≤ length bs
  pub fits : count ≤ h.control_block.tx_buffer.window
  pub answer : o ≡ outcome.Accepted count
  pub host : k ≡ sending h count bs

pub takes_some : {G : Type 0} (size : Option ℕ) (bs : List ℕ) (h : HostView G) (o : Outcome) (k : HostView G) → TakesBytes size bs h o k → TakesSome bs h o k
takes_some None bs h o k x = record { count = fitting h.control_block (length bs); offered = omega arith; fits = omega arith; answer = x.0; host = x.1 }
takes_some (Some size) bs h o k x = record { count = piece_taken size (length bs) h; offered = omega arith; fits = omega (arith, free_within h.control_block.tx_buffer); answer = x.0; host = x.1 }

-- some of the bytes that wait
pub record HandsSome {G : Type 0} (h : HostView G) (o : Outcome) (k : HostView G) : Type 0 where
  pub count : ℕ
  pub within : count ≤ length h.control_block.rx_buffer.bytes
  pub does : HandsOut count h o k

pub hands_some : {G : Type 0} (piece : Bool) (size : ℕ) (h : HostView G) (o : Outcome) (k : HostView G) → HandsOutBytes piece size h o k → HandsSome h o k
hands_some true size h o k x = record { count = min size (first_piece h.control_block.rx_buffer); within = omega (arith, first_within h.control_block.rx_buffer); does = x }
hands_some false size h o k x = record { count = readable h.control_block size; within = omega arith; does = x }
