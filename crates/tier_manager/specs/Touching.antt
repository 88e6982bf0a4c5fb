-- A touch of one line, by the fields.
use Rattle.std.specs.Prelude.{◌≡◌, ℕ, ◌<◌, ⊤, Bool, true, false, nat_lt, IsTrue, Option, Some, None, Result, IfOk}
use Rattle.nvm_model.specs.declared.line.Line.{Line}
use Rattle.devices.specs.World.{Standing}
use Rattle.line_pages.specs.declared.stop.Stop.{Stop}
use Rattle.tier_map.specs.declared.place.Place.{Place}
use Rattle.tier_map.specs.declared.place.Place.TheVariants.{Absent, Full, Mini}
use Rattle.page_frame.specs.LineSets.{has_line, line_count}
use Rattle.page_frame.specs.Frames.{resident_lines, is_resident}
use Rattle.tier_rules.specs.Parts.{Parts, copy_at}
use Rattle.tier_pool.specs.Places.{frame_marked}
use Rattle.tier_pool.specs.FullRoom.{full_room}
use Rattle.tier_pool.specs.Bringing.{FetchedInto}
use Rattle.tier_pool.specs.Touching.{LoadedToFull, LoadedToMini, full_written, mini_written, promoted}
use Rattle.tier_manager.specs.Entering.{Opened}

-- the line is resident in the copy at this place; in place there is no copy
abbrev pub IsThere : Place → ℕ → Parts → Type 0
IsThere Absent line parts = ⊤
IsThere (Full i) line parts = IsTrue (is_resident (copy_at (Full i) parts.arena parts.minis) line)
IsThere (Mini j) line parts = IsTrue (is_resident (copy_at (Mini j) parts.arena parts.minis) line)

-- the page has a copy
abbrev pub IsCopy : Place → Type 0
IsCopy Absent = ⊥
IsCopy (Full i) = ⊤
IsCopy (Mini j) = ⊤

-- the lines of the copy at this place
abbrev pub lines_at : Place → Parts → ℕ
lines_at place parts = resident_lines (copy_at place parts.arena parts.minis)

-- by whether the line is there
abbrev pub FullReadied : Bool → ℕ → ℕ → Parts → Parts → Type 0
FullReadied true i line old new = new ≡ old
FullReadied false i line old new = LoadedToFull i line old new

-- Promotion, by the copy that the page still has once room was made.
abbrev pub PromotedTo : Place → ℕ → ℕ → ℕ → Parts → Parts → Type 0
PromotedTo (Mini j) page line i old new = LoadedToFull i line (promoted page j i old) new
PromotedTo Absent page line i old new = FetchedInto page i old new
PromotedTo (Full h) page line i old new = new ≡ old

abbrev pub Outgrown : ℕ → ℕ → Parts → Parts → Type 0
Outgrown page line old new = let room = full_room old in PromotedTo (room.parts.map.place page) page line room.place room.parts new

-- by whether the line is there, and whether a mini copy has room for it
abbrev pub MiniReadied : Bool → Bool → ℕ → ℕ → ℕ → Parts → Parts → Type 0
MiniReadied true fits page j line old new = new ≡ old
MiniReadied false true page j line old new = LoadedToMini j line old new
MiniReadied false false page j line old new = Outgrown page line old new

abbrev pub ReadiedAt : Place → ℕ → ℕ → Parts → Parts → Type 0
ReadiedAt Absent page line old new = new ≡ old
ReadiedAt (Full i) page line old new = FullReadied (has_line (lines_at (Full i) old) line) i line old new
ReadiedAt (Mini j) page line old new = let lines = lines_at (Mini j) old in MiniReadied (has_line lines line) (nat_lt (line_count lines) 16) page j line old new

-- the line is resident in the page's copy
abbrev pub Readied : ℕ → ℕ → Parts → Parts → Type 0
Readied page line old new = ReadiedAt (old.map.place page) page line old new

-- The access stands open, and the line is resident in the page's copy.
pub record Touched (page line : ℕ) (writes : Bool) (old new : Parts) : Type 0 where
  pub opened : Parts
  pub opens : Opened page writes old opened
  pub readied : Readied page line opened new

-- the page's frame, if it has one, may differ from its home block
abbrev pub marked_if : Option ℕ → Parts → Parts
marked_if None parts = parts
marked_if (Some k) parts = frame_marked k parts

-- the line of the copy at this place was written, or, in place, that of the frame
abbrev pub written_at : Place → ℕ → ℕ → Line → Parts → Parts
written_at Absent page line value parts = marked_if (parts.map.nvm page) parts
written_at (Full i) page line value parts = full_written i line value parts
written_at (Mini j) page line value parts = mini_written j line value parts

abbrev pub line_written : ℕ → ℕ → Line → Parts → Parts
line_written page line value parts = written_at (parts.map.place page) page line value parts

-- The touch for writing, and then the line was written.
pub record Wrote (page line : ℕ) (value : Line) (old new : Parts) : Type 0 where
  pub touched : Parts
  pub touch : Touched page line true old touched
  pub is : new ≡ line_written page line value touched
