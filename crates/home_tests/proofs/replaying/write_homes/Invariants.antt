-- So far the lines below went to their homes.
use Rattle.std.proofs.Common.{take, Ok}
use Rattle.device_calls.specs.Leads.{Leads, Given}
use Rattle.nvm_layout.specs.Sizes.{sizes_of}
use Rattle.home_move.specs.Homes.{Aim, Keeps, Homes, over}
use Rattle.home_move.specs.Passing.{IsPassing}
use Rattle.home_tests.specs.Replay.{CanReplayAll, rewritten, known_with}
use Rattle.home_tests.proofs.replaying.write_homes.Given as goal

abbrev pub invariant-loop-at : goal.invariant-loop-at
invariant-loop-at g l =
    Leads {T = Unit {0}} Keeps (Given (CanReplayAll (sizes_of l.fn.geometry) l.fn.lines) (Homes (sizes_of l.fn.geometry) l.fn.passage.page))
    (λ (aim : Aim). Homes (sizes_of l.fn.geometry) l.passage.page (over (rewritten (take l.at l.fn.lines)) (known_with (take l.at l.fn.lines)) aim))
    (g.D.Devices.standing l.fn.dev) (g.D.Devices.standing l.dev) (Ok tt)
    × IsPassing (sizes_of l.fn.geometry) l.passage.page
