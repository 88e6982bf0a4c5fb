-- The opening, and then the script.
use Rattle.std.proofs.Common.{◌∙◌, IsTrue, Err, inl, refl, subst, sym, arith}
use Rattle.flat_recovery.specs.declared.errors.OpenError.{OpenError}
use Rattle.flat_recovery.specs.declared.errors.OpenError.TheVariants.{Nvm, Ssd, NotAStore, TooSmall, LogEnded, Damaged, NoMemory}
use Rattle.engine.specs.Opening.{Opens}
use Rattle.spitfire_app.proofs.OrderLaws.{order_holds}
use Rattle.spitfire_app.proofs.SettingsLaws.{none_by_goes, none_by_write}
use Rattle.spitfire_app.proofs.PromiseLaws.{Runs, refused_replies, refused_survives, run_replies, run_survives}
use Rattle.spitfire_app.proofs.RefusalLaws.{refused_as, complete_as}
use Rattle.spitfire_app.proofs.DamageLaws.{damaged_causes, damaged_complete, unsound}
use Rattle.spitfire_app.proofs.ScriptLaws.{script_causes, script_complete}
use Rattle.spitfire_app.proofs.top.run.Given.{Over}
use Rattle.spitfire_app.proofs.top.run.Goals as goal
use Rattle.spitfire_app.proofs.top.run.Goals.{After-drop-engine, After-show_damage}

-- ---- the script

runs_of : (g : Over) (c : After-drop-engine g) → IsTrue (g.W.Devices.standing c.args.world.now).told
    → Runs c.in-Ok.engine (g.W.Devices.standing c.open.new.world) c.run_script.new.engine (g.W.Devices.standing c.run_script.new.world) c.run_script.result
runs_of g c told =
    let told_mid : IsTrue (g.W.Devices.standing c.open.new.world).told = subst IsTrue (sym c.open.ensures.goes.told) told in
    record {
      goes = c.run_script.ensures.goes;
      safe = λ s sure shows steady. c.run_script.ensures.safe s sure told_mid shows steady;
      ends = λ s sure shows steady is. c.run_script.ensures.ends s sure told_mid shows steady is;
      stands = c.run_script.ensures.ready;
      read = λ is. c.run_script.ensures.read told_mid is;
    }

pub returns-in-Ok-clause-causes : goal.returns-in-Ok-clause-causes
returns-in-Ok-clause-causes g c =
    script_causes (g.W.Devices.standing c.args.world.now) (g.W.Devices.standing c.open.new.world) (g.met.W.World.timed c.args.world.now) c.open.ensures.goes c.in-Ok.engine c.in-Ok.ensures.opens (λ told sizes T holds. c.in-Ok.ensures.shows told sizes T holds) c.in-Ok.ensures.rests
    c.run_script.new.engine (g.W.Devices.standing c.run_script.new.world) c.run_script.ensures.goes c.run_script.result c.run_script.ensures.causes c.run_script.ensures.read

pub returns-in-Ok-clause-replies : goal.returns-in-Ok-clause-replies
returns-in-Ok-clause-replies g c = λ sizes T told holds.
    run_replies sizes T _ _ (g.met.W.World.timed c.args.world.now) c.open.ensures.goes c.in-Ok.engine c.run_script.new.engine _ _ (runs_of g c told) told
    (c.in-Ok.ensures.shows told sizes T holds)

pub returns-in-Ok-clause-survives : goal.returns-in-Ok-clause-survives
returns-in-Ok-clause-survives g c = λ sizes T told order.
    let holds = order_holds sizes T _ _ _ order in
    let keeps = c.in-Ok.ensures.order told sizes T order in
    run_survives sizes T _ _ (g.met.W.World.timed c.args.world.now) c.open.ensures.goes c.in-Ok.engine c.run_script.new.engine _ _ (runs_of g c told) told
    (c.in-Ok.ensures.shows told sizes T holds) keeps.steady keeps.moments

pub returns-in-Ok-clause-complete : goal.returns-in-Ok-clause-complete
returns-in-Ok-clause-complete g c = λ sizes T store holds few none.
    inl (script_complete (g.W.Devices.standing c.args.world.now) (g.W.Devices.standing c.open.new.world) (g.met.W.World.timed c.args.world.now) c.open.ensures.goes c.in-Ok.engine c.in-Ok.ensures.opens (λ told sizes T holds. c.in-Ok.ensures.shows told sizes T holds) c.in-Ok.ensures.rests
    c.run_script.new.engine (g.W.Devices.standing c.run_script.new.world) c.run_script.ensures.goes c.run_script.result c.run_script.ensures.causes c.run_script.ensures.read store.told sizes T holds few none)

-- ---- damage

opening_of : (g : Over) (c : After-show_damage g) → Opens (g.W.Devices.standing c.args.world.now) (g.W.Devices.standing c.open.new.world) (Err (Damaged c.in-Err-Damaged.evidence))
opening_of g c = subst (λ (x : OpenError). Opens (g.W.Devices.standing c.args.world.now) (g.W.Devices.standing c.open.new.world) (Err x)) c.in-Err-Damaged.field-0-is c.in-Err-Damaged.ensures.opens

pub returns-in-Err-Damaged-clause-causes : goal.returns-in-Err-Damaged-clause-causes
returns-in-Err-Damaged-clause-causes g c =
    damaged_causes _ _ (g.met.W.World.timed c.args.world.now) c.open.ensures.goes c.in-Err-Damaged.evidence (opening_of g c) _ _
    (record { call = c.show_damage.ensures.call; rest = c.show_damage.ensures.rest; known = c.show_damage.ensures.known; sink = c.show_damage.ensures.sink; ends = c.show_damage.ensures.ends })

pub returns-in-Err-Damaged-clause-replies : goal.returns-in-Err-Damaged-clause-replies
returns-in-Err-Damaged-clause-replies g c = λ sizes T told holds. unsound _ _ (g.met.W.World.timed c.args.world.now) c.open.ensures.goes c.in-Err-Damaged.evidence (opening_of g c) told sizes T holds

pub returns-in-Err-Damaged-clause-survives : goal.returns-in-Err-Damaged-clause-survives
returns-in-Err-Damaged-clause-survives g c = λ sizes T told order. unsound _ _ (g.met.W.World.timed c.args.world.now) c.open.ensures.goes c.in-Err-Damaged.evidence (opening_of g c) told sizes T (order_holds sizes T _ _ _ order)

pub returns-in-Err-Damaged-clause-complete : goal.returns-in-Err-Damaged-clause-complete
returns-in-Err-Damaged-clause-complete g c = λ sizes T store holds few none. damaged_complete _ _ (g.met.W.World.timed c.args.world.now) c.open.ensures.goes c.in-Err-Damaged.evidence (opening_of g c) store

-- ---- a refusal of another kind

pub returns-in-Err-TooSmall-clause-causes : goal.returns-in-Err-TooSmall-clause-causes
returns-in-Err-TooSmall-clause-causes g c = refused_as _ _ c.open.ensures.goes c.in-Err-TooSmall.field-0 TooSmall c.in-Err-TooSmall.field-0-is c.in-Err-TooSmall.ensures.opens _ refl tt

pub returns-in-Err-TooSmall-clause-replies : goal.returns-in-Err-TooSmall-clause-replies
returns-in-Err-TooSmall-clause-replies g c = λ sizes T told holds. refused_replies sizes T _ _ (g.met.W.World.timed c.args.world.now) c.open.ensures.goes _ (λ is. omega arith)

pub returns-in-Err-TooSmall-clause-survives : goal.returns-in-Err-TooSmall-clause-survives
returns-in-Err-TooSmall-clause-survives g c = λ sizes T told order. refused_survives sizes T _ _ (g.met.W.World.timed c.args.world.now) c.open.ensures.goes _ (λ is. omega arith) (c.open.ensures.order told sizes T order).moments

pub returns-in-Err-TooSmall-clause-complete : goal.returns-in-Err-TooSmall-clause-complete
returns-in-Err-TooSmall-clause-complete g c = λ sizes T store holds few none. complete_as _ _ c.open.ensures.goes c.in-Err-TooSmall.field-0 TooSmall c.in-Err-TooSmall.field-0-is c.in-Err-TooSmall.ensures.opens _ refl store none

pub returns-in-Err-Nvm-clause-causes : goal.returns-in-Err-Nvm-clause-causes
returns-in-Err-Nvm-clause-causes g c = refused_as _ _ c.open.ensures.goes c.in-Err-Nvm.field-0 Nvm c.in-Err-Nvm.field-0-is c.in-Err-Nvm.ensures.opens _ refl tt

pub returns-in-Err-Nvm-clause-replies : goal.returns-in-Err-Nvm-clause-replies
returns-in-Err-Nvm-clause-replies g c = λ sizes T told holds. refused_replies sizes T _ _ (g.met.W.World.timed c.args.world.now) c.open.ensures.goes _ (λ is. omega arith)

pub returns-in-Err-Nvm-clause-survives : goal.returns-in-Err-Nvm-clause-survives
returns-in-Err-Nvm-clause-survives g c = λ sizes T told order. refused_survives sizes T _ _ (g.met.W.World.timed c.args.world.now) c.open.ensures.goes _ (λ is. omega arith) (c.open.ensures.order told sizes T order).moments

pub returns-in-Err-Nvm-clause-complete : goal.returns-in-Err-Nvm-clause-complete
returns-in-Err-Nvm-clause-complete g c = λ sizes T store holds few none. complete_as _ _ c.open.ensures.goes c.in-Err-Nvm.field-0 Nvm c.in-Err-Nvm.field-0-is c.in-Err-Nvm.ensures.opens _ refl store none

pub returns-in-Err-Ssd-clause-causes : goal.returns-in-Err-Ssd-clause-causes
returns-in-Err-Ssd-clause-causes g c = refused_as _ _ c.open.ensures.goes c.in-Err-Ssd.field-0 Ssd c.in-Err-Ssd.field-0-is c.in-Err-Ssd.ensures.opens _ refl tt

pub returns-in-Err-Ssd-clause-replies : goal.returns-in-Err-Ssd-clause-replies
returns-in-Err-Ssd-clause-replies g c = λ sizes T told holds. refused_replies sizes T _ _ (g.met.W.World.timed c.args.world.now) c.open.ensures.goes _ (λ is. omega arith)

pub returns-in-Err-Ssd-clause-survives : goal.returns-in-Err-Ssd-clause-survives
returns-in-Err-Ssd-clause-survives g c = λ sizes T told order. refused_survives sizes T _ _ (g.met.W.World.timed c.args.world.now) c.open.ensures.goes _ (λ is. omega arith) (c.open.ensures.order told sizes T order).moments

pub returns-in-Err-Ssd-clause-complete : goal.returns-in-Err-Ssd-clause-complete
returns-in-Err-Ssd-clause-complete g c = λ sizes T store holds few none. complete_as _ _ c.open.ensures.goes c.in-Err-Ssd.field-0 Ssd c.in-Err-Ssd.field-0-is c.in-Err-Ssd.ensures.opens _ refl store none

pub returns-in-Err-NotAStore-clause-causes : goal.returns-in-Err-NotAStore-clause-causes
returns-in-Err-NotAStore-clause-causes g c = refused_as _ _ c.open.ensures.goes c.in-Err-NotAStore.field-0 NotAStore c.in-Err-NotAStore.field-0-is c.in-Err-NotAStore.ensures.opens _ refl tt

pub returns-in-Err-NotAStore-clause-replies : goal.returns-in-Err-NotAStore-clause-replies
returns-in-Err-NotAStore-clause-replies g c = λ sizes T told holds. refused_replies sizes T _ _ (g.met.W.World.timed c.args.world.now) c.open.ensures.goes _ (λ is. omega arith)

pub returns-in-Err-NotAStore-clause-survives : goal.returns-in-Err-NotAStore-clause-survives
returns-in-Err-NotAStore-clause-survives g c = λ sizes T told order. refused_survives sizes T _ _ (g.met.W.World.timed c.args.world.now) c.open.ensures.goes _ (λ is. omega arith) (c.open.ensures.order told sizes T order).moments

pub returns-in-Err-NotAStore-clause-complete : goal.returns-in-Err-NotAStore-clause-complete
returns-in-Err-NotAStore-clause-complete g c = λ sizes T store holds few none. complete_as _ _ c.open.ensures.goes c.in-Err-NotAStore.field-0 NotAStore c.in-Err-NotAStore.field-0-is c.in-Err-NotAStore.ensures.opens _ refl store none

pub returns-in-Err-LogEnded-clause-causes : goal.returns-in-Err-LogEnded-clause-causes
returns-in-Err-LogEnded-clause-causes g c = refused_as _ _ c.open.ensures.goes c.in-Err-LogEnded.field-0 LogEnded c.in-Err-LogEnded.field-0-is c.in-Err-LogEnded.ensures.opens _ refl tt

pub returns-in-Err-LogEnded-clause-replies : goal.returns-in-Err-LogEnded-clause-replies
returns-in-Err-LogEnded-clause-replies g c = λ sizes T told holds. refused_replies sizes T _ _ (g.met.W.World.timed c.args.world.now) c.open.ensures.goes _ (λ is. omega arith)

pub returns-in-Err-LogEnded-clause-survives : goal.returns-in-Err-LogEnded-clause-survives
returns-in-Err-LogEnded-clause-survives g c = λ sizes T told order. refused_survives sizes T _ _ (g.met.W.World.timed c.args.world.now) c.open.ensures.goes _ (λ is. omega arith) (c.open.ensures.order told sizes T order).moments

pub returns-in-Err-LogEnded-clause-complete : goal.returns-in-Err-LogEnded-clause-complete
returns-in-Err-LogEnded-clause-complete g c = λ sizes T store holds few none. complete_as _ _ c.open.ensures.goes c.in-Err-LogEnded.field-0 LogEnded c.in-Err-LogEnded.field-0-is c.in-Err-LogEnded.ensures.opens _ refl store none

pub returns-in-Err-NoMemory-clause-causes : goal.returns-in-Err-NoMemory-clause-causes
returns-in-Err-NoMemory-clause-causes g c = refused_as _ _ c.open.ensures.goes c.in-Err-NoMemory.field-0 NoMemory c.in-Err-NoMemory.field-0-is c.in-Err-NoMemory.ensures.opens _ refl tt

pub returns-in-Err-NoMemory-clause-replies : goal.returns-in-Err-NoMemory-clause-replies
returns-in-Err-NoMemory-clause-replies g c = λ sizes T told holds. refused_replies sizes T _ _ (g.met.W.World.timed c.args.world.now) c.open.ensures.goes _ (λ is. omega arith)

pub returns-in-Err-NoMemory-clause-survives : goal.returns-in-Err-NoMemory-clause-survives
returns-in-Err-NoMemory-clause-survives g c = λ sizes T told order. refused_survives sizes T _ _ (g.met.W.World.timed c.args.world.now) c.open.ensures.goes _ (λ is. omega arith) (c.open.ensures.order told sizes T order).moments

pub returns-in-Err-NoMemory-clause-complete : goal.returns-in-Err-NoMemory-clause-complete
returns-in-Err-NoMemory-clause-complete g c = λ sizes T store holds few none. complete_as _ _ c.open.ensures.goes c.in-Err-NoMemory.field-0 NoMemory c.in-Err-NoMemory.field-0-is c.in-Err-NoMemory.ensures.opens _ refl store none

-- ---- the settings

pub returns-in-Ok-clause-settings : goal.returns-in-Ok-clause-settings
returns-in-Ok-clause-settings g c =
    let opened = none_by_goes c.open.ensures.goes in
    record { settings = c.run_script.ensures.settings.0 ∙ opened.settings; faults = c.run_script.ensures.settings.1 ∙ opened.faults }

pub returns-in-Err-Damaged-clause-settings : goal.returns-in-Err-Damaged-clause-settings
returns-in-Err-Damaged-clause-settings g c = none_by_write (none_by_goes c.open.ensures.goes) c.show_damage.ensures.rest

pub returns-in-Err-TooSmall-clause-settings : goal.returns-in-Err-TooSmall-clause-settings
returns-in-Err-TooSmall-clause-settings g c = none_by_goes c.open.ensures.goes

pub returns-in-Err-Nvm-clause-settings : goal.returns-in-Err-Nvm-clause-settings
returns-in-Err-Nvm-clause-settings g c = none_by_goes c.open.ensures.goes

pub returns-in-Err-Ssd-clause-settings : goal.returns-in-Err-Ssd-clause-settings
returns-in-Err-Ssd-clause-settings g c = none_by_goes c.open.ensures.goes

pub returns-in-Err-NotAStore-clause-settings : goal.returns-in-Err-NotAStore-clause-settings
returns-in-Err-NotAStore-clause-settings g c = none_by_goes c.open.ensures.goes

pub returns-in-Err-LogEnded-clause-settings : goal.returns-in-Err-LogEnded-clause-settings
returns-in-Err-LogEnded-clause-settings g c = none_by_goes c.open.ensures.goes

pub returns-in-Err-NoMemory-clause-settings : goal.returns-in-Err-NoMemory-clause-settings
returns-in-Err-NoMemory-clause-settings g c = none_by_goes c.open.ensures.goes
