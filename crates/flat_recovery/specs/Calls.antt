-- The device calls of a store that is made, and of one that is recovered.
use Rattle.std.specs.Prelude.{ℕ, zero, suc, ◌+◌, ◌*◌, List, [], ◌∷◌, ◌++◌, if◌then◌else◌}
use Rattle.nvm_model.specs.declared.line.Line.{Line}
use Rattle.devices.specs.State.{Call}
use Rattle.devices.specs.State.Call.{store_line, flush, fence}
use Rattle.flat_store_meaning.specs.Layout.{Sizes, pages, frame_line}
use Rattle.flat_store_meaning.specs.Log.{Change, Entry, Group, Log, changes}
use Rattle.flat_store_meaning.specs.Log.Entry.{item, commit, abort}
use Rattle.flat_store_meaning.specs.Format.{magic}
use Rattle.flat_store_meaning.specs.Format.Format.{whole_lines}
use Rattle.flat_store_laws.specs.Calls.{checkpoint_calls}
use Rattle.flat_nvm_log.specs.Puts.{line_put, gate_put}
use Rattle.flat_recovery.specs.Empty.{catalog_line}

-- so many lines flushed, from this one on
abbrev pub flush_calls : ℕ → ℕ → List Call
flush_calls line zero = []
flush_calls line (suc n) = flush line ∷ flush_calls (line + 1) n

-- line 0 without its magic word, and a line of one number
abbrev pub sizes_line : Sizes → Line
sizes_line g = record { words = 0 ∷ g.tables ∷ g.rows ∷ g.writes ∷ g.frames ∷ g.log_blocks ∷ 0 ∷ 0 ∷ [] }

abbrev pub number_line : ℕ → Line
number_line n = record { words = n ∷ 0 ∷ 0 ∷ 0 ∷ 0 ∷ 0 ∷ 0 ∷ 0 ∷ [] }

-- the start, `drained` and the tail of an empty log
abbrev pub ends_puts : ℕ → List Call
ends_puts first = line_put 1 (number_line first) ++ (line_put 2 (number_line 0) ++ line_put 3 (number_line first))

-- the sizes, and these
abbrev pub super_puts : Sizes → ℕ → List Call
super_puts g first = line_put 0 (sizes_line g) ++ ends_puts first

-- all that stands in the frames flushed, and an empty catalog
abbrev pub pages_puts : Sizes → List Call
pages_puts g = flush_calls (frame_line g 0 0) (64 * (g.frames + 1)) ++ line_put (frame_line g 0 0) catalog_line

-- what an empty store has beside its magic word, durable
abbrev pub prepare_calls : Sizes → ℕ → List Call
prepare_calls g first = pages_puts g ++ (super_puts g first ++ fence ∷ [])

-- the magic word away, all else, the magic word
abbrev pub format_calls : Sizes → ℕ → List Call
format_calls g first = gate_put 0 0 ++ (prepare_calls g first ++ gate_put 0 (magic whole_lines))

-- the line after each record, in order
abbrev pub redo_calls : Sizes → List Change → List Call
redo_calls g [] = []
redo_calls g (c ∷ cs) = store_line (frame_line g c.page c.line) c.after ∷ redo_calls g cs

-- the line before each record, from last to first
abbrev pub undo_calls : Sizes → List Change → List Call
undo_calls g [] = []
undo_calls g (c ∷ cs) = undo_calls g cs ++ store_line (frame_line g c.page c.line) c.before ∷ []

-- what an entry makes of the records that stand before it in its group
abbrev pub ending_calls : Sizes → List Change → Entry → List Call
ending_calls g cs (item x) = []
ending_calls g cs commit = redo_calls g cs
ending_calls g cs abort = undo_calls g cs

-- a group, groups in order, and a whole log with what stands behind its last end
abbrev pub group_calls : Sizes → Group → List Call
group_calls g group = if group.committed then redo_calls g (changes group.items) else undo_calls g (changes group.items)

abbrev pub groups_calls : Sizes → List Group → List Call
groups_calls g [] = []
groups_calls g (group ∷ groups) = group_calls g group ++ groups_calls g groups

abbrev pub replay_calls : Sizes → Log → List Call
replay_calls g log = groups_calls g log.closed ++ undo_calls g (changes log.open_items)

-- every line of every page flushed, a fence, and an empty log
abbrev pub settle_calls : Sizes → ℕ → List Call
settle_calls g tail = flush_calls (frame_line g 0 0) (64 * pages g) ++ checkpoint_calls tail

-- the lines of the superblock flushed, and a fence
abbrev pub super_calls : List Call
super_calls = flush_calls 0 4 ++ fence ∷ []

-- the superblock as it was read is durable before anything is stored
abbrev pub recover_calls : Sizes → Log → ℕ → List Call
recover_calls g log tail = super_calls ++ (replay_calls g log ++ settle_calls g tail)
