-- The errors of a runtime: their numbers.
use Rattle.std.specs.Prelude.{ℕ}
use Rattle.wq_held.specs.declared.fault.NewError.{NewError}
use Rattle.wq_held.specs.declared.fault.NewError.TheVariants.{TooManyLanes, TooManyRows, TooManyHelpers, NotSafe}
use Rattle.wq_held.specs.declared.fault.NewError.TheVariants.{OutOfMemory as NewOutOfMemory}
use Rattle.wq_held.specs.declared.fault.SeatError.{SeatError}
use Rattle.wq_held.specs.declared.fault.SeatError.TheVariants.{TooManySeats, OutOfMemory}
use Rattle.wq_held.specs.declared.fault.CloseWhy.{CloseWhy}
use Rattle.wq_held.specs.declared.fault.CloseWhy.TheVariants.{NotIdle, SeatsMissing}

-- why no runtime is made
abbrev pub new_code : NewError → ℕ
new_code NewOutOfMemory = 20
new_code NotSafe = 67
new_code TooManyRows = 68
new_code TooManyLanes = 69
new_code TooManyHelpers = 74

-- why no seat is made
abbrev pub seat_code : SeatError → ℕ
seat_code OutOfMemory = 20
seat_code TooManySeats = 70

-- why a runtime isn't closed
abbrev pub close_code : CloseWhy → ℕ
close_code NotIdle = 71
close_code SeatsMissing = 72
