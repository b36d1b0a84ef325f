-- Groups that an interface has joined.
use Rattle.std.specs.Prelude.{Bool, true, false, ◌||◌, Option, Some, None, Result, Ok, Err, if◌then◌else◌}
use Rattle.ip_wire.specs.Address.{is_multicast}
use Rattle.ip_wire.specs.declared.address.IpAddress.{IpAddress}
use Rattle.host_groups.specs.declared.joining.Groups.{Groups}
use Rattle.host_groups.specs.declared.joining.MulticastError.{MulticastError}
use Rattle.host_groups.specs.declared.joining.MulticastError.TheVariants as multicast_error

abbrev pub no_groups : Groups
no_groups = record { first = None; second = None; third = None; fourth = None }

abbrev pub put_by : Option IpAddress → Option IpAddress → Option IpAddress → Option IpAddress → IpAddress → Groups
put_by None b c d x = record { first = Some x; second = b; third = c; fourth = d }
put_by a None c d x = record { first = a; second = Some x; third = c; fourth = d }
put_by a b None d x = record { first = a; second = b; third = Some x; fourth = d }
put_by a b c None x = record { first = a; second = b; third = c; fourth = Some x }
put_by a b c d x = record { first = a; second = b; third = c; fourth = d }

abbrev pub full_by : Option IpAddress → Option IpAddress → Option IpAddress → Option IpAddress → Bool
full_by (Some a) (Some b) (Some c) (Some d) = true
full_by _ _ _ _ = false

-- `is` says which addresses are equal
module _ (is : IpAddress → IpAddress → Bool) where
  abbrev pub is_at : Option IpAddress → IpAddress → Bool
  is_at None x = false
  is_at (Some a) x = is a x

  abbrev pub has_group : Groups → IpAddress → Bool
  has_group g x = is_at g.first x || (is_at g.second x || (is_at g.third x || is_at g.fourth x))

  abbrev pub joined : Groups → IpAddress → Groups
  joined g x =
      if is_multicast x then (if has_group g x then g else put_by g.first g.second g.third g.fourth x) else g

  abbrev pub join_answer : Groups → IpAddress → Result (Unit {0}) MulticastError
  join_answer g x =
      if is_multicast x
      then (if has_group g x then Ok tt
      else (if full_by g.first g.second g.third g.fourth then Err multicast_error.GroupTableFull else Ok tt))
      else Err multicast_error.Unaddressable

  abbrev pub without : Option IpAddress → IpAddress → Option IpAddress
  without a x = if is_at a x then None else a

  abbrev pub left : Groups → IpAddress → Groups
  left g x = record {
    first = without g.first x;
    second = without g.second x;
    third = without g.third x;
    fourth = without g.fourth x;
  }

abbrev pub leave_answer : IpAddress → Result (Unit {0}) MulticastError
leave_answer x = if is_multicast x then Ok tt else Err multicast_error.Unaddressable
