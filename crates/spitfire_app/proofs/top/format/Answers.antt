-- The store is made, and then the line is sent.
use Rattle.std.proofs.Common.{IsTrue, subst, sym, arith}
use Rattle.flat_nvm_layout.specs.Sizes.{sizes_of}
use Rattle.spitfire_app.proofs.SettingsLaws.{none_by_goes, none_by_write}
use Rattle.spitfire_app.proofs.FormatLaws.{first_formats, format_failed, format_said}
use Rattle.spitfire_app.proofs.top.format.Goals as goal

pub returns-in-Ok-write_all-clause-formats : goal.returns-in-Ok-write_all-clause-formats
returns-in-Ok-write_all-clause-formats g c = λ told nvm ssd.
    let told_mid : IsTrue (g.W.Devices.standing c.format.new.dev).told = subst IsTrue (sym c.format.ensures.goes.told) told in
    let made = first_formats (sizes_of c.first_geometry.result) _ _ _ c.first_geometry.ensures c.in-Ok.ensures.formats told nvm ssd in
    let wrote = c.in-Ok-write_all.ensures.writes told_mid in
    format_said _ _ (g.met.W.World.timed c.args.world.now) c.format.ensures.goes _ made _ _ told_mid c.write_all.ensures.call wrote made.ok _ (λ is. wrote.ok)

pub returns-in-Err-clause-formats : goal.returns-in-Err-clause-formats
returns-in-Err-clause-formats g c = λ told nvm ssd.
    let told_mid : IsTrue (g.W.Devices.standing c.format.new.dev).told = subst IsTrue (sym c.format.ensures.goes.told) told in
    let made = first_formats (sizes_of c.first_geometry.result) _ _ _ c.first_geometry.ensures c.in-Ok.ensures.formats told nvm ssd in
    format_said _ _ (g.met.W.World.timed c.args.world.now) c.format.ensures.goes _ made _ _ told_mid c.write_all.ensures.call (c.write_all.ensures.writes told_mid) made.ok _ (λ is. absurd (omega arith))

pub returns-in-Err-Nvm-clause-formats : goal.returns-in-Err-Nvm-clause-formats
returns-in-Err-Nvm-clause-formats g c = λ told nvm ssd.
    format_failed _ _ (g.met.W.World.timed c.args.world.now) c.format.ensures.goes _
    (first_formats (sizes_of c.first_geometry.result) _ _ _ c.first_geometry.ensures c.format.ensures.formats told nvm ssd) _ (λ is. omega arith)

-- ---- the settings

pub returns-in-Ok-write_all-clause-settings : goal.returns-in-Ok-write_all-clause-settings
returns-in-Ok-write_all-clause-settings g c = none_by_write (none_by_goes c.format.ensures.goes) c.write_all.ensures.rest

pub returns-in-Err-clause-settings : goal.returns-in-Err-clause-settings
returns-in-Err-clause-settings g c = none_by_write (none_by_goes c.format.ensures.goes) c.write_all.ensures.rest

pub returns-in-Err-TooSmall-clause-settings : goal.returns-in-Err-TooSmall-clause-settings
returns-in-Err-TooSmall-clause-settings g c = none_by_goes c.format.ensures.goes

pub returns-in-Err-Nvm-clause-settings : goal.returns-in-Err-Nvm-clause-settings
returns-in-Err-Nvm-clause-settings g c = none_by_goes c.format.ensures.goes

pub returns-in-Err-Ssd-clause-settings : goal.returns-in-Err-Ssd-clause-settings
returns-in-Err-Ssd-clause-settings g c = none_by_goes c.format.ensures.goes
