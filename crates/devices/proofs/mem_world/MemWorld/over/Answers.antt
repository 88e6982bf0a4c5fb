use Rattle.std.proofs.Common.{◌∙◌, ap, ℕ, drop}
use Rattle.devices.specs.MemWorld.{rest_of}
use Rattle.devices.proofs.StartLaws.{fresh_start}
use Rattle.devices.proofs.mem_world.MemWorld.over.Goals as goal

pub returns-clause-fresh : goal.returns-clause-fresh
returns-clause-fresh c =
    let settings = c.in_ok-settings.settings in
    let script = c.in_ok-script.script in
    fresh_start c.args.past (rest_of settings) (rest_of script) c.requires.sound c.requires.starts c.args.settings.now c.args.script.now
    (ap (λ (n : ℕ). drop n settings.bytes.items) c.in_ok-settings.ensures.1 ∙ c.in_ok-settings.ensures.0)
    (ap (λ (n : ℕ). drop n script.bytes.items) c.in_ok-script.ensures.1 ∙ c.in_ok-script.ensures.0)
    _ _ _ _ _ c.uncalled.ensures.faults c.uncalled-2.ensures.faults c.uncalled-3.ensures.faults c.uncalled-4.ensures.faults c.uncalled-5.ensures.faults
