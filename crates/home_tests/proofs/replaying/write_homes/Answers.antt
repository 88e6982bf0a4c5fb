-- One line more goes to its home, or it stops there.
use Rattle.std.proofs.Common.{refl, arith}
use Rattle.nvm_layout.specs.Sizes.{sizes_of}
use Rattle.device_calls.proofs.LeadsLaws.{leads_exit}
use Rattle.home_tests.specs.Replay.{nth}
use Rattle.home_tests.proofs.ReplayLaws.{none_written, one_written, all_written}
use Rattle.home_tests.proofs.replaying.write_homes.Goals as goal

pub loop-at-init : goal.loop-at-init
loop-at-init g c = (none_written (sizes_of c.args.geometry.now) c.args.passage.now.page c.args.lines.now (g.D.Devices.standing c.args.dev.now), c.requires.passing)

pub write_home-requires-clause-home : goal.write_home-requires-clause-home
write_home-requires-clause-home g c = (c.requires.places.each c.loop-at.at c.loop-at-test.true).home

pub write_home-requires-clause-page : goal.write_home-requires-clause-page
write_home-requires-clause-page g c = (c.requires.places.each c.loop-at.at c.loop-at-test.true).page

pub write_home-requires-clause-line : goal.write_home-requires-clause-line
write_home-requires-clause-line g c = (c.requires.places.each c.loop-at.at c.loop-at-test.true).line

pub returns-in_err-write_home-clause-call : goal.returns-in_err-write_home-clause-call
returns-in_err-write_home-clause-call g c =
    leads_exit c.from_residual.result c.from_residual.ensures.1
    (one_written (sizes_of c.args.geometry.now) c.args.passage.now.page c.loop-at.passage.page c.write_home.new.passage.page c.args.lines.now c.loop-at.at (nth c.args.lines.now c.loop-at.at)
    c.loop-at-test.true refl c.loop-at.invariant.0 c.in_err-write_home.ensures.call)

pub loop-at-preserved : goal.loop-at-preserved
loop-at-preserved g c = (
  one_written (sizes_of c.args.geometry.now) c.args.passage.now.page c.loop-at.passage.page c.write_home.new.passage.page c.args.lines.now c.loop-at.at (nth c.args.lines.now c.loop-at.at)
      c.loop-at-test.true refl c.loop-at.invariant.0 c.in_ok-write_home.ensures.call,
  c.in_ok-write_home.ensures.passing,
)

pub returns-clause-call : goal.returns-clause-call
returns-clause-call g c = all_written (sizes_of c.args.geometry.now) c.args.passage.now.page c.loop-at.passage.page c.args.lines.now c.loop-at.at (omega arith) c.loop-at.invariant.0
