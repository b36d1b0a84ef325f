-- How many packets were dropped, by their reasons.
use Rattle.std.specs.Prelude.{ℕ, ◌+◌, ◌%◌, ◌^◌, Bool, true, false}
use Rattle.net_host.specs.declared.counters.Counters.{Counters}
use Rattle.net_host.specs.declared.counters.Reason.{Reason}
use Rattle.net_host.specs.declared.counters.Reason.TheVariants as reason

abbrev pub no_counts : Counters
no_counts = record {
  malformed = 0;
  source = 0;
  destination = 0;
  protocol = 0;
  segment = 0;
  datagram = 0;
  message = 0;
  busy = 0;
  nobody = 0;
  full = 0;
  too_many = 0;
  cookies_sent = 0;
  cookies_taken = 0;
  cookies_wrong = 0;
  too_long = 0;
  unsent = 0;
}

abbrev pub next : ℕ → ℕ
next n = (n + 1) % 2 ^ 64

abbrev pub counted : Reason → Counters → Counters
counted reason.Malformed k = record k { malformed = next k.malformed }
counted reason.Source k = record k { source = next k.source }
counted reason.Destination k = record k { destination = next k.destination }
counted reason.Protocol k = record k { protocol = next k.protocol }
counted reason.Segment k = record k { segment = next k.segment }
counted reason.Datagram k = record k { datagram = next k.datagram }
counted reason.Message k = record k { message = next k.message }
counted reason.Busy k = record k { busy = next k.busy }
counted reason.Nobody k = record k { nobody = next k.nobody }
counted reason.Full k = record k { full = next k.full }
counted reason.TooMany k = record k { too_many = next k.too_many }

-- ---- cookies

abbrev pub sent : Counters → Counters
sent k = record k { cookies_sent = next k.cookies_sent }

abbrev pub taken : Counters → Counters
taken k = record k { cookies_taken = next k.cookies_taken }

abbrev pub wrong : Counters → Counters
wrong k = record k { cookies_wrong = next k.cookies_wrong }

-- ---- packets of sockets

-- a turn that gave no packet: what was longer than the MTU, and what a socket beside TCP had, of which none can be made
abbrev pub lost_by : (lost of_tcp : Bool) → Counters → Counters
lost_by true of_tcp k = record k { too_long = next k.too_long }
lost_by false true k = k
lost_by false false k = record k { unsent = next k.unsent }
