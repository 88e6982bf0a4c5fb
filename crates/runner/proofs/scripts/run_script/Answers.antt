-- Each end of the run has its status.
use Rattle.std.proofs.Common.{◌+◌, ◌^◌, ◌≤◌, ◌∙◌, refl, arith, subst, Bool, false, IsTrue}
use Rattle.script.specs.Machine.{State}
use Rattle.engine.specs.Engine.{IsSteadyFor, Shows, engine_reach, evidence_bytes, log_end}
use Rattle.engine.proofs.DoesLaws.{reach_near}
use Rattle.runner.specs.declared.stop.Ending.{Ending}
use Rattle.runner.specs.Run.{aim_of, AreSafe, Ends}
use Rattle.runner.proofs.StartLaws.{begun, begun_read, reached_by}
use Rattle.runner.proofs.TalkLaws.{said_by}
use Rattle.runner.proofs.StatusLaws.{damaged_causes, no_fault, shown_of, page_of, rose_on}
use Rattle.runner.proofs.scripts.run_script.Given as given
use Rattle.runner.proofs.scripts.run_script.Goals.{After-run_lines, After-show_damage}
use Rattle.runner.proofs.scripts.run_script.Goals as goal

pub run_lines-requires-clause-low : goal.run_lines-requires-clause-low
run_lines-requires-clause-low g c =
    let near : engine_reach c.args.engine.now ≤ log_end c.args.engine.now + 1920 = reach_near c.args.engine.now (g.W.Devices.standing c.args.world.now) c.requires.ready in
    let low : log_end c.args.engine.now ≤ 2 ^ 61 = c.requires.low in
    omega (arith, near, low)

-- ---- what it aims at

safe_by : (g : given.Over) (c : After-run_lines g) (s : State) (sure : Bool) → IsTrue (g.W.Devices.standing c.args.world.now).told → Shows c.args.engine.now (g.W.Devices.standing c.args.world.now) s
    → (IsTrue sure → IsSteadyFor c.args.engine.now (g.W.Devices.standing c.args.world.now))
    → AreSafe (aim_of c.args.engine.now s (g.W.Devices.standing c.args.world.now) sure) (g.W.Devices.standing c.args.world.now) (g.W.Devices.standing c.run_lines.new.world)
safe_by g c s sure told shows steady =
    c.run_lines.ensures.safe (aim_of c.args.engine.now s (g.W.Devices.standing c.args.world.now) sure) s told (begun c.args.engine.now s (g.W.Devices.standing c.args.world.now) sure shows steady)

pub returns-in-Ok-End-clause-safe : goal.returns-in-Ok-End-clause-safe
returns-in-Ok-End-clause-safe g c = safe_by g (goal.at.returns-in-Ok-End-clause-safe g c).After-run_lines

pub returns-in-Ok-Limit-clause-safe : goal.returns-in-Ok-Limit-clause-safe
returns-in-Ok-Limit-clause-safe g c = safe_by g (goal.at.returns-in-Ok-Limit-clause-safe g c).After-run_lines

pub returns-in-Err-Store-Nvm-clause-safe : goal.returns-in-Err-Store-Nvm-clause-safe
returns-in-Err-Store-Nvm-clause-safe g c = safe_by g (goal.at.returns-in-Err-Store-Nvm-clause-safe g c).After-run_lines

pub returns-in-Err-Store-Ssd-clause-safe : goal.returns-in-Err-Store-Ssd-clause-safe
returns-in-Err-Store-Ssd-clause-safe g c = safe_by g (goal.at.returns-in-Err-Store-Ssd-clause-safe g c).After-run_lines

pub returns-in-Err-Source-clause-safe : goal.returns-in-Err-Source-clause-safe
returns-in-Err-Source-clause-safe g c = safe_by g (goal.at.returns-in-Err-Source-clause-safe g c).After-run_lines

pub returns-in-Err-Sink-clause-safe : goal.returns-in-Err-Sink-clause-safe
returns-in-Err-Sink-clause-safe g c = safe_by g (goal.at.returns-in-Err-Sink-clause-safe g c).After-run_lines

pub returns-in-Ok-End-clause-ends : goal.returns-in-Ok-End-clause-ends
returns-in-Ok-End-clause-ends g c = λ s sure told shows steady done.
    let aim = aim_of c.args.engine.now s (g.W.Devices.standing c.args.world.now) sure in
    let owes = begun c.args.engine.now s (g.W.Devices.standing c.args.world.now) sure shows steady in
    reached_by aim c.run_lines.new.engine (g.W.Devices.standing c.run_lines.new.world)
    (subst (λ (x : Ending). Ends aim c.run_lines.new.engine x (g.W.Devices.standing c.run_lines.new.world)) c.in-Ok-End.field-0-is (c.in-Ok-End.ensures.ends aim s told owes))

-- over pages in order there is no damage
no_damage : (g : given.Over) (c : After-show_damage g) → IsTrue (g.W.Devices.standing c.args.world.now).told → (s : State) → Shows c.args.engine.now (g.W.Devices.standing c.args.world.now) s → ⊥
no_damage g c told s shows =
    no_fault c.in-Err-Store-Damaged.field-0 c.in-Err-Store-Damaged.field-0-0 c.in-Err-Store-Damaged.evidence c.in-Err-Store-Damaged.field-0-is c.in-Err-Store-Damaged.field-0-0-is
    (c.in-Err-Store-Damaged.ensures.sound (aim_of c.args.engine.now s (g.W.Devices.standing c.args.world.now) false) s told (begun_read c.args.engine.now s (g.W.Devices.standing c.args.world.now) shows))

pub returns-in-Err-Store-Damaged-clause-causes : goal.returns-in-Err-Store-Damaged-clause-causes
returns-in-Err-Store-Damaged-clause-causes g c =
    let found = c.in-Err-Store-Damaged in
    damaged_causes c.args.limit c.args.engine.now (g.W.Devices.standing c.args.world.now) c.run_lines.new.engine (g.W.Devices.standing c.show_damage.new.world) c.show_damage.result c.show_damage.ensures.known
    (λ five. c.show_damage.ensures.told c.args.engine.now (g.W.Devices.standing c.args.world.now) (shown_of found.field-0 found.field-0-0 found.evidence found.field-0-is found.field-0-0-is (g.W.Devices.standing c.args.world.now) c.run_lines.new.engine (g.W.Devices.standing c.run_lines.new.world) found.ensures.cause.failed)
    (λ told lines taken rests same are. page_of found.field-0 found.field-0-0 found.evidence found.field-0-is found.field-0-0-is lines (evidence_bytes c.run_lines.new.engine) (found.ensures.reads lines taken told rests same are))
    (λ told. said_by found.field-0 found.field-0-0 found.field-0-is (found.ensures.talks.stopped (subst IsTrue c.run_lines.ensures.goes.told told))) five)
    (λ nine. rose_on c.run_lines.ensures.goes.sink_faults (c.show_damage.ensures.sink nine))
    (no_damage g (goal.at.returns-in-Err-Store-Damaged-clause-causes g c).After-show_damage)

pub returns-in-Err-Store-Damaged-clause-safe : goal.returns-in-Err-Store-Damaged-clause-safe
returns-in-Err-Store-Damaged-clause-safe g c = λ s sure told shows steady.
    absurd (no_damage g (goal.at.returns-in-Err-Store-Damaged-clause-safe g c).After-show_damage told s shows)

-- ---- the settings

pub returns-in-Ok-End-clause-settings : goal.returns-in-Ok-End-clause-settings
returns-in-Ok-End-clause-settings g c = (c.run_lines.ensures.talks.settings, c.run_lines.ensures.talks.settings_faults)

pub returns-in-Ok-Limit-clause-settings : goal.returns-in-Ok-Limit-clause-settings
returns-in-Ok-Limit-clause-settings g c = (c.run_lines.ensures.talks.settings, c.run_lines.ensures.talks.settings_faults)

pub returns-in-Err-Store-Nvm-clause-settings : goal.returns-in-Err-Store-Nvm-clause-settings
returns-in-Err-Store-Nvm-clause-settings g c = (c.run_lines.ensures.talks.settings, c.run_lines.ensures.talks.settings_faults)

pub returns-in-Err-Store-Ssd-clause-settings : goal.returns-in-Err-Store-Ssd-clause-settings
returns-in-Err-Store-Ssd-clause-settings g c = (c.run_lines.ensures.talks.settings, c.run_lines.ensures.talks.settings_faults)

pub returns-in-Err-Source-clause-settings : goal.returns-in-Err-Source-clause-settings
returns-in-Err-Source-clause-settings g c = (c.run_lines.ensures.talks.settings, c.run_lines.ensures.talks.settings_faults)

pub returns-in-Err-Sink-clause-settings : goal.returns-in-Err-Sink-clause-settings
returns-in-Err-Sink-clause-settings g c = (c.run_lines.ensures.talks.settings, c.run_lines.ensures.talks.settings_faults)

pub returns-in-Err-Store-Damaged-clause-settings : goal.returns-in-Err-Store-Damaged-clause-settings
returns-in-Err-Store-Damaged-clause-settings g c = (
  (c.show_damage.ensures.rest.settings refl).0 ∙ c.run_lines.ensures.talks.settings,
  (c.show_damage.ensures.rest.settings refl).1 ∙ c.run_lines.ensures.talks.settings_faults,
)
