-- What the calls of a log make of the groups that a crash leaves.
use Rattle.std.specs.Prelude.{◌≡◌, ◌⊎◌, List, [], ◌∷◌, ◌++◌, IsTrue, Result, OnOk}
use Rattle.nvm_model.specs.declared.line.Line.{Line}
use Rattle.devices.specs.State.{State, Image, Leaves, current}
use Rattle.devices.specs.World.{Standing, Moments, now}
use Rattle.store_model.specs.Layout.{Sizes}
use Rattle.store_model.specs.Log.{Log as Groups, Change, extended, no_log}
use Rattle.store_model.specs.Format.{Format}
use Rattle.store_model.specs.Format.Format.{whole_lines}
use Rattle.store_model.specs.Recovered.{log_of}
use Rattle.store_model.specs.Put.{CanPut}
use Rattle.store_model.specs.Pending.{with_records}
use Rattle.nvm_layout.specs.Sizes.{sizes_of}
use Rattle.nvm_log.specs.Entries.{change_of, record_lines, end_entry}
use Rattle.nvm_log.specs.Offsets.{Offsets, offsets_of}
use Rattle.nvm_log.specs.Standing.{IsLogOf, HasPending}
use Rattle.nvm_log.specs.declared.log.Log.{Log}
use Rattle.nvm_log.specs.declared.record.LineRecord.{LineRecord}
use Rattle.nvm_log.specs.declared.record.EndKind.{EndKind}

-- every image has these groups
abbrev pub HasGroups : Format → Groups → State → Type 0
HasGroups format groups s = (i : Image) → Leaves s i → log_of format i ≡ groups

-- each image has the one or the other
abbrev pub HasEither : Format → Groups → Groups → State → Type 0
HasEither format before after s = (i : Image) → Leaves s i → (log_of format i ≡ before) ⊎ (log_of format i ≡ after)

-- the groups that loads give
abbrev pub groups_now : Format → Standing → Groups
groups_now format d = log_of format (current (now d))

-- At each moment the groups of each image are the old ones or these; where the call answers ok they are these in every
-- image, and the log in memory is that of the devices.
pub record Regroups {T E : Type 0} (format : Format) (g : Sizes) (at : Offsets) (after : Groups) (old new : Standing) (result : Result T E) : Type 0 where
  pub part : Moments old new (HasEither format (groups_now format old) after)
  pub whole : OnOk result (HasGroups format after (now new))
  pub stands : OnOk result (IsLogOf g at (now new))

-- An append: the groups stay as they are, at each moment, and where it answers ok one record more is pending.
pub record AppendsPending {T E : Type 0} (format : Format) (g : Sizes) (at : Offsets) (lines : List Line) (pending : List Change) (old new : Standing) (result : Result T E) : Type 0 where
  pub part : Moments old new (HasGroups format (groups_now format old))
  pub whole : OnOk result (HasPending format g at lines pending (now new))

-- The clauses of the four calls, of whatever stands behind the tail.
abbrev pub AppendGroups : {T E : Type 0} → Log → Log → LineRecord → Standing → Standing → Result T E → Type 0
AppendGroups log new_log change old new result =
    (lines : List Line) (pending : List Change) → IsTrue old.told → HasPending whole_lines (sizes_of log.geometry) (offsets_of log) lines pending (now old)
    → AppendsPending whole_lines (sizes_of new_log.geometry) (offsets_of new_log) (lines ++ record_lines change) (pending ++ change_of change ∷ []) old new result

abbrev pub HardenGroups : {T E : Type 0} → Log → Log → Standing → Standing → Result T E → Type 0
HardenGroups log new_log old new result =
    (lines : List Line) (pending : List Change) → IsTrue old.told → HasPending whole_lines (sizes_of log.geometry) (offsets_of log) lines pending (now old)
    → Regroups whole_lines (sizes_of new_log.geometry) (offsets_of new_log) (with_records (groups_now whole_lines old) pending) old new result

abbrev pub EndGroups : {T E : Type 0} → EndKind → Log → Log → Standing → Standing → Result T E → Type 0
EndGroups kind log new_log old new result =
    (lines : List Line) (pending : List Change) → IsTrue old.told → HasPending whole_lines (sizes_of log.geometry) (offsets_of log) lines pending (now old)
    → Regroups whole_lines (sizes_of new_log.geometry) (offsets_of new_log) (extended (with_records (groups_now whole_lines old) pending) (end_entry kind)) old new result

abbrev pub StartGroups : {T E : Type 0} → Log → Log → Standing → Standing → Result T E → Type 0
StartGroups log new_log old new result =
    IsTrue old.told → IsLogOf (sizes_of log.geometry) (offsets_of log) (now old) → CanPut (now old) 0
    → Regroups whole_lines (sizes_of new_log.geometry) (offsets_of new_log) no_log old new result
