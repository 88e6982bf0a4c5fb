-- The open group of a log, as lines: what an abort reads back.
use Rattle.std.specs.Prelude.{◌≡◌, ℕ, ◌+◌, ◌<◌, List, [], ◌∷◌, ◌++◌, length, drop, flat_map}
use Rattle.nvm_model.specs.declared.line.Line.{Line}
use Rattle.devices.specs.State.{Image}
use Rattle.flat_store_meaning.specs.Layout.{Sizes, pages}
use Rattle.flat_store_meaning.specs.Log.{Change, grouped, no_log}
use Rattle.flat_store_meaning.specs.Format.{IsWhole, entries}
use Rattle.flat_store_meaning.specs.Format.Format.{whole_lines}
use Rattle.flat_store_meaning.specs.Recovered.{log_lines}
use Rattle.flat_store_meaning.specs.Append.{head_line, record_of}

abbrev pub change_lines : Change → List Line
change_lines c = record_of c.page c.line c.before c.after

-- the record is one of a whole line of the store
pub record IsOfStore (g : Sizes) (c : Change) : Type 0 where
  pub page : c.page < pages g
  pub line : c.line < 64
  pub mask : c.mask ≡ 255

abbrev pub AreOfStore : Sizes → List Change → Type 0
AreOfStore g [] = Unit {0}
AreOfStore g (c ∷ cs) = IsOfStore g c × AreOfStore g cs

-- The log's lines are those of ended groups, and from this offset on the records of the open group, three lines each.
pub record OpenGroup (g : Sizes) (start first : ℕ) (i : Image) : Type 0 where
  pub front : List Line
  pub group : List Change
  pub lines : log_lines i ≡ front ++ flat_map change_lines group
  pub whole : IsWhole whole_lines 0 front
  pub ended : (grouped no_log (entries whole_lines 0 front)).open_items ≡ []
  pub begins : first ≡ start + length front
  pub of_store : AreOfStore g group

-- Record k of these stands at this offset: its head, and behind it the line before. Those from it on begin with it.
pub record RecordAt (line_at : ℕ → Line) (offset k : ℕ) (cs : List Change) : Type 0 where
  pub change : Change
  pub rest : List Change
  pub next : drop k cs ≡ change ∷ rest
  pub head : line_at offset ≡ head_line 1 change.page change.line 0
  pub before : line_at (offset + 1) ≡ change.before
