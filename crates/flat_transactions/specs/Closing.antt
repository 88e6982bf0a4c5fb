-- What a checkpoint and an abort make of an open store: no transaction is open behind them.
use Rattle.std.specs.Prelude.{◌≡◌, ℕ, ◌+◌, ◌<◌, ◌≤◌, Result, OnOk, IfErr}
use Rattle.devices.specs.State.{State, current, fresh}
use Rattle.devices.specs.World.{Standing, now}
use Rattle.line_pages.specs.Lines.{Lines}
use Rattle.line_pages.specs.declared.stop.Stop.{Stop}
use Rattle.line_pages.specs.declared.stop.Stop.TheVariants.{Nvm}
use Rattle.flat_store_meaning.specs.Layout.{Sizes}
use Rattle.flat_store_laws.specs.OpenFacts.{OpenFacts}
use Rattle.flat_store_laws.specs.OpenGroup.{OpenGroup}
use Rattle.flat_store_laws.specs.ShownPages.{pages_in, committed_in}
use Rattle.flat_store_laws.specs.Steps.{MayLeave, HoldsFacts}

-- The facts of an open store hold, and no record stands behind the last end of its log.
pub record IsClosed (g : Sizes) (start tail : ℕ) (s : State) : Type 0 where
  pub facts : OpenFacts g start tail s
  pub group : OpenGroup g start tail (current s)

-- As one reads the devices: where the call answers ok, the log stands between these offsets, nothing is open, and these
-- are the current lines. The committed lines stay, whatever it answers.
pub record ClosesRead {T E : Type 0} (g : Sizes) (start tail : ℕ) (lines : Lines) (old new : Standing) (result : Result T E) : Type 0 where
  pub closed : OnOk result (IsClosed g start tail (fresh (current (now new))))
  pub current : OnOk result (pages_in g (now new) ≡ lines)
  pub committed : committed_in (now new) ≡ committed_in (now old)

-- Whatever a crash leaves: the facts where it answers ok, and at each moment nothing but the committed lines, and the facts
-- of a store.
pub record ClosesSteady {T E : Type 0} (g : Sizes) (start tail : ℕ) (old new : Standing) (result : Result T E) : Type 0 where
  pub closed : OnOk result (IsClosed g start tail (now new))
  pub during : (m : ℕ) → old.clock < m → m ≤ new.clock → (lines : Lines) → MayLeave g new m lines → lines ≡ committed_in (now old)
  pub held : (m : ℕ) → old.clock < m → m ≤ new.clock → HoldsFacts g (new.at m)

-- The log of a store in which nothing is open is emptied: it stands at its tail, and the current lines stay.
pub record Empties {T E : Type 0} (g : Sizes) (start tail : ℕ) (old new : Standing) (result : Result T E) : Type 0 where
  pub read : OpenFacts g start tail (fresh (current (now old))) → OpenGroup g start tail (current (now old)) → ClosesRead g tail tail (pages_in g (now old)) old new result
  pub steady : OpenFacts g start tail (now old) → OpenGroup g start tail (current (now old)) → ClosesSteady g tail tail old new result

-- The group that is open from this offset on is taken back, and ended: the current lines are those that were committed all
-- along. Nothing but a fault of the NVM stops it.
pub record Aborts {T : Type 0} (g : Sizes) (start tail first : ℕ) (old new : Standing) (result : Result T Stop) : Type 0 where
  pub stops : OpenFacts g start tail (fresh (current (now old))) → OpenGroup g start first (current (now old)) → IfErr result (λ why. why ≡ Nvm)
  pub read : OpenFacts g start tail (fresh (current (now old))) → OpenGroup g start first (current (now old)) → ClosesRead g start (tail + 1) (committed_in (now old)) old new result
  pub steady : OpenFacts g start tail (now old) → OpenGroup g start first (current (now old)) → ClosesSteady g start (tail + 1) old new result
