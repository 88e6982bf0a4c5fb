use Rattle.std.proofs.Common.{◌∙◌, ap}
use Rattle.clock_sweep.specs.Circles.{circle_of}
use Rattle.clock_sweep.proofs.CircleLaws.{circle-new}
use Rattle.clock_sweep.proofs.clock.Clock.new.Goals as goal

pub returns : goal.returns
returns c = ap (λ slots. circle_of slots 0) c.in_ok-empty_slots.ensures ∙ circle-new c.args.n
