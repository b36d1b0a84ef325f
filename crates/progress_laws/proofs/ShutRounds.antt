-- Both sides ask for a window that they do not know, and then both streams come to their end.
use Rattle.std.proofs.Common.{ℕ, ◌<◌, ap, ◌∙◌, List, ◌++◌}
use Rattle.sock_tcp.specs.View.{View}
use Rattle.progress_laws.specs.BothWays.{Toward}
use Rattle.progress_laws.specs.ShutWindows.{ShutFinish, ShutWindowsOpen, SidesShut, TowardShut, WindowsOpen}
use Rattle.progress_laws.proofs.BothFinish.{both_ways_finish}
use Rattle.progress_laws.proofs.BothRounds.{that_way, this_way, turns_then}
use Rattle.progress_laws.proofs.Shut.{Asked, ask}

toward : {v w : View} → TowardShut v w → 0 < v.remote_win_len → Toward v w
toward o some = record { taken = o.taken; taken_within = o.taken_within; there = o.there; scale = o.scale; some = some; window = o.window; at_most = o.at_most }

pub shut_windows_open : ShutWindowsOpen
unfolding toward
shut_windows_open d e t s f at v w got back mtu here there i = by (ask d e t s f mtu here at v w got i.sides)
  where
    -- seen from the other side
    swapped : (a : Asked d e t s f at v w got i.sides.over.taken i.sides.back.taken) → SidesShut e d s t a.across a.here
    swapped a = let j = a.in_shut in record { here = j.across; across = j.here; over = j.back; back = j.over; hears_here = j.hears_across; hears_across = j.hears_here }

    opens : (a : Asked d e t s f at v w got i.sides.over.taken i.sides.back.taken) → Asked e d s t f a.end a.across a.here back a.in_shut.back.taken a.in_shut.over.taken → WindowsOpen d e t s f at v w got back i
    opens a b = record {
      end = b.end;
      here = b.across;
      across = b.here;
      more = a.more;
      less = b.more;
      turns = turns_then at a.end b.end v w a.here a.across b.across b.here got back a.more back a.more b.more (this_way at a.end v w a.here a.across got a.more back a.moves) (that_way a.end b.end a.across a.here b.here b.across back b.more a.more b.moves);
      in_step = record {
        here = b.in_shut.across;
        across = b.in_shut.here;
        over = toward b.in_shut.back (b.still a.known);
        back = toward b.in_shut.over b.known;
        in_reach = b.reach_own (λ x. a.reach i.in_reach);
      };
      whole = ap (λ (l : List ℕ). a.more ++ l) b.others ∙ a.whole;
      whole_back = b.whole ∙ ap (λ (l : List ℕ). back ++ l) a.others;
    }

    by : Asked d e t s f at v w got i.sides.over.taken i.sides.back.taken → ShutFinish d e t s f at v w got back i
    by a = let o = opens a (ask e d s t f mtu there a.end a.across a.here back (swapped a)) in record { windows = o; ends = both_ways_finish d e t s f o.end o.here o.across o.more o.less mtu here there o.in_step }
