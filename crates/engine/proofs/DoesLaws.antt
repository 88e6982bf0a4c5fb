-- What a call on the store of an engine makes of the plain machine's state.
use Rattle.std.proofs.Common.{◌≡◌, ℕ, ◌+◌, ◌≤◌, List, sym, subst, inl, inr, IsTrue, Result, Ok, Err}
use Rattle.std.specs.Prelude.{OnOk, IfErr}
use Rattle.devices.specs.State.{Image, fresh}
use Rattle.devices.specs.World.{Standing, Goes, Moments, now}
use Rattle.line_pages.specs.declared.stop.Stop.{Stop}
use Rattle.rows.specs.Tables.{Table}
use Rattle.flat_transactions.specs.OpenStore.{committed_lines, LeavesCommitted, LeavesEither}
use Rattle.flat_transactions.specs.Order.{Fits, IsStoreOf}
use Rattle.flat_transactions.proofs.OpenStoreLaws.{ready_near, ready_store, steady_ordered, left_committed, left_either}
use Rattle.script.specs.Machine.{State, current as current_tables}
use Rattle.engine.specs.declared.engine.Engine.{Engine}
use Rattle.engine.specs.Holds.{HoldsTables, HasEither, InOrder, Holds}
use Rattle.engine.specs.Engine.{engine_sizes, engine_lines, engine_reach, log_end, StandsFor, IsSteadyFor, Shows}
use Rattle.line_pages.specs.Standing.{IsFault}
use Rattle.engine.specs.Steps.{Does}
use Rattle.engine.proofs.HoldsLaws.{in_order, image_in_order}

-- the store of an engine fits its devices
pub engine_fits : (engine : Engine) (d : Standing) → StandsFor engine d → Fits (engine_sizes engine) d.lines d.blocks
engine_fits engine d stands = record { nvm = stands.ready.fits; ssd = stands.disk }

-- The moments of a call.
module _ (old : Engine) (a b : Standing) (T U : List Table) (stands : StandsFor old a) (told : IsTrue a.told) (steady : IsSteadyFor old a) (goes : Goes a b) (holds : HoldsTables (engine_sizes old) (committed_lines a) T) where
  is_old : (i : Image) → IsStoreOf (engine_sizes old) (committed_lines a) i → InOrder (engine_sizes old) T a.lines a.blocks (fresh i)
  is_old i it = image_in_order (engine_sizes old) T a.lines a.blocks (committed_lines a) i (engine_fits old a stands) holds it

  -- where the committed lines stay
  pub kept_moments : LeavesCommitted old.book a b → Moments a b (HasEither (engine_sizes old) T U a.lines a.blocks)
  kept_moments during = record { each = λ m low high i left. inl (is_old i (left_committed old.book a b told steady goes during m low high i left)) }

  -- where they or the current ones may be left
  pub chosen_moments : HoldsTables (engine_sizes old) (engine_lines old a) U → LeavesEither old.book a b → Moments a b (HasEither (engine_sizes old) T U a.lines a.blocks)
  chosen_moments seen during = record {
    each = λ m low high i left. elim (left_either old.book a b told steady goes during m low high i left) [
      | inl it ↦ inl (is_old i it)
      | inr it ↦ inr (image_in_order (engine_sizes old) U a.lines a.blocks (engine_lines old a) i (engine_fits old a stands) seen it)
    ];
  }

-- What an engine shows is in order, and is what one reads.
module _ (engine : Engine) (d : Standing) (stands : StandsFor engine d) (told : IsTrue d.told) (s : State) (shows : Shows engine d s) where
  pub engine_in_order : IsSteadyFor engine d → InOrder (engine_sizes engine) s.tables d.lines d.blocks (now d)
  engine_in_order steady = in_order (engine_sizes engine) s.tables (committed_lines d) d.lines d.blocks (now d) shows.committed (steady_ordered engine.book d d.lines d.blocks steady told (engine_fits engine d stands))

  pub engine_holds : Holds (engine_sizes engine) s.tables (now d)
  engine_holds = record { lines = committed_lines d; is_store = ready_store engine.book d stands.ready told; holds = shows.committed }

-- ---- the same by other words

on_ok : {T E : Type 0} {P Q : Type 0} (r : Result T E) → (P → Q) → OnOk r P → OnOk r Q
on_ok (Ok v) f h = f h
on_ok (Err e) f h = tt

-- the state that it leads to, by other words for it
pub does_same : {T : Type 0} (f h : State → State) (old : Engine) (a : Standing) (new : Engine) (b : Standing) (r : Result T Stop) → Does f old a new b r
    → (IsTrue a.told → (s : State) → Shows old a s → f s ≡ h s) → Does h old a new b r
does_same f h old a new b r it same = record {
  shows = λ told s is. on_ok r (λ (after : Shows new b (f s)). subst (λ (x : State). Shows new b x) (same told s is) after) (it.shows told s is);
  sound = it.sound;
  moments = λ told steady s is. subst (λ (x : State). Moments a b (HasEither (engine_sizes old) s.tables x.tables a.lines a.blocks)) (same told s is) (it.moments told steady s is);
  steady = it.steady;
  ready = it.ready;
  sizes = it.sizes;
  reach_rises = it.reach_rises;
  goes = it.goes;
}

-- how far the log may come is near its tail
pub reach_near : (engine : Engine) (d : Standing) → StandsFor engine d → engine_reach engine ≤ log_end engine + 1920
reach_near engine d stands = ready_near engine.book d stands.ready

-- ---- calls of a store

-- A call that leaves the committed lines at each moment.
pub does_kept : {T : Type 0} (after : State → State) (old : Engine) (a : Standing) (new : Engine) (b : Standing) (r : Result T Stop) → StandsFor old a
    → engine_sizes new ≡ engine_sizes old → Goes a b
    → LeavesCommitted old.book a b
    → OnOk r (engine_reach new ≤ engine_reach old + 1921)
    → (IsSteadyFor old a → OnOk r (IsSteadyFor new b)) → OnOk r (StandsFor new b)
    → (IsTrue a.told → (s : State) → Shows old a s → IfErr r IsFault)
    → (IsTrue a.told → (s : State) → Shows old a s → OnOk r (Shows new b (after s)))
    → Does after old a new b r
does_kept after old a new b r stands sizes goes during rises steady ready sound shows = record {
  shows = shows;
  sound = sound;
  moments = λ told is_steady s is. kept_moments old a b s.tables (after s).tables stands told is_steady goes is.committed during;
  steady = steady;
  ready = ready;
  sizes = sizes;
  reach_rises = rises;
  goes = goes;
}

-- A call at each moment of which the committed or the current lines are left, which are the tables after it.
pub does_chosen : {T : Type 0} (after : State → State) (old : Engine) (a : Standing) (new : Engine) (b : Standing) (r : Result T Stop) → StandsFor old a
    → engine_sizes new ≡ engine_sizes old → Goes a b
    → LeavesEither old.book a b
    → OnOk r (engine_reach new ≤ engine_reach old + 1921)
    → (IsSteadyFor old a → OnOk r (IsSteadyFor new b)) → OnOk r (StandsFor new b)
    → (IsTrue a.told → (s : State) → Shows old a s → IfErr r IsFault)
    → (IsTrue a.told → (s : State) → Shows old a s → OnOk r (Shows new b (after s)))
    → ((s : State) → Shows old a s → (after s).tables ≡ current_tables s)
    → Does after old a new b r
does_chosen after old a new b r stands sizes goes during rises steady ready sound shows chosen = record {
  shows = shows;
  sound = sound;
  moments = λ told is_steady s is. chosen_moments old a b s.tables (after s).tables stands told is_steady goes is.committed
      (subst (λ (T : List Table). HoldsTables (engine_sizes old) (engine_lines old a) T) (sym (chosen s is)) is.seen) during;
  steady = steady;
  ready = ready;
  sizes = sizes;
  reach_rises = rises;
  goes = goes;
}
