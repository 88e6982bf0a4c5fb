-- A line of a frame is stored and flushed.
use Rattle.std.proofs.Common.{[], ◌∷◌, subst}
use Rattle.devices.specs.State.Call.{store_line, flush}
use Rattle.device_calls.specs.Leads.{Made}
use Rattle.nvm_layout.specs.Sizes.{sizes_of}
use Rattle.home_move.proofs.PlaceFacts.{store_keeps}
use Rattle.home_move.proofs.frames.store_line.Goals as goal

pub returns-clause-made : goal.returns-clause-made
returns-clause-made g c =
    subst (λ n. Made (store_line n c.args.value.now ∷ flush n ∷ []) (g.D.Devices.standing c.args.dev.now) (g.D.Devices.standing c.put_line.new.dev) c.put_line.result) c.frame_line.ensures.place c.put_line.ensures

pub returns-clause-keeps : goal.returns-clause-keeps
returns-clause-keeps g c page = store_keeps (sizes_of c.args.geometry.now) c.args.frame page c.args.line c.args.value.now (returns-clause-made g c)
