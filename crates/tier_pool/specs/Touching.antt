-- A touch of one line in an access, by the fields.
use Rattle.std.specs.Prelude.{◌≡◌, ℕ, ◌<◌, Option, None, IsSome, IfSome, slice_set, slice_index}
use Rattle.nvm_model.specs.declared.line.Line.{Line}
use Rattle.page_frame.specs.LineSets.{with_line}
use Rattle.page_frame.specs.Frames.{with_value, frame_changed, with_frame}
use Rattle.mini_page.specs.MiniPages.{MiniPage, mini_at, added, changed_line, mini_changed, with_mini, empty_mini}
use Rattle.tier_rules.specs.Tallies.{lines_loaded, one_promotion}
use Rattle.store_model.specs.Layout.{Sizes, pages}
use Rattle.tier_rules.specs.Parts.{Parts, copy_line}
use Rattle.tier_pool.specs.Places.{copy_dropped}
use Rattle.tier_pool.specs.Bringing.{full_placed}

-- the access has a frame to work in, one of so many
pub record HasFrame (frame : Option ℕ) (frames : ℕ) : Type 0 where
  pub some : IsSome frame
  pub within : IfSome frame (λ k. k < frames)

-- The page stands in this frame, and its copy, if it has one, has not the line.
pub record LiesInFrame (g : Sizes) (page line : ℕ) (frame : Option ℕ) (parts : Parts) : Type 0 where
  pub in_store : page < pages g
  pub framed : parts.map.nvm page ≡ frame
  pub uncopied : copy_line parts page line ≡ None

-- a line was loaded into a full copy, and into a mini copy
abbrev pub loaded_to_full : ℕ → ℕ → Line → Parts → Parts
loaded_to_full i l value parts = record parts {
  arena = frame_changed i (with_value l value) parts.arena;
  tally = lines_loaded 1 parts.tally;
}

abbrev pub loaded_to_mini : ℕ → ℕ → Line → Parts → Parts
loaded_to_mini j l value parts = record parts {
  minis = mini_changed j (added l value) parts.minis;
  tally = lines_loaded 1 parts.tally;
}

pub record LoadedToFull (i l : ℕ) (old new : Parts) : Type 0 where
  pub value : Line
  pub is : new ≡ loaded_to_full i l value old

pub record LoadedToMini (j l : ℕ) (old new : Parts) : Type 0 where
  pub value : Line
  pub is : new ≡ loaded_to_mini j l value old

-- a line of a full copy was written
abbrev pub full_written : ℕ → ℕ → Line → Parts → Parts
full_written i l value parts = record parts {
  arena = frame_changed i (with_value l value) parts.arena;
  full_dirty = slice_set parts.full_dirty i (with_line (slice_index parts.full_dirty i) l);
}

-- a line of a mini copy was written
abbrev pub mini_written : ℕ → ℕ → Line → Parts → Parts
mini_written j l value parts = record parts { minis = mini_changed j (changed_line l value) parts.minis }

-- the lines of a mini page and its dirty ones stand in a full place
abbrev pub full_from : ℕ → MiniPage → Parts → Parts
full_from i mini parts = record parts {
  arena = with_frame i mini.places parts.arena;
  full_dirty = slice_set parts.full_dirty i mini.dirty;
}

-- they moved there from a mini place
abbrev pub lines_moved : ℕ → ℕ → Parts → Parts
lines_moved j i parts = record (full_from i (mini_at parts.minis j) parts) { minis = with_mini j empty_mini parts.minis }

-- the page's mini copy became a full one
abbrev pub promoted : ℕ → ℕ → ℕ → Parts → Parts
promoted page j i parts = let moved = full_placed page i (copy_dropped page (lines_moved j i parts)) in
    record moved { tally = one_promotion moved.tally }
