-- The fields of a manager of the tiers as plain data of the facts, and what a change of some fields leaves alone.
use Rattle.std.specs.Prelude.{◌≡◌, ◌≢◌, ℕ, false, slice_index_or}
use Rattle.page_frame.specs.LineSets.{has_line}
use Rattle.store_model.specs.Layout.{Sizes}
use Rattle.tier_rules.specs.Parts.{Parts, copy_line, dirty_at}
use Rattle.tier_facts.specs.Data.{Data}

-- the dirty lines of a page's copy
abbrev pub dirty_lines : Parts → ℕ → ℕ
dirty_lines parts page = dirty_at (parts.map.place page) parts.full_dirty parts.minis

abbrev pub data_of_parts : Sizes → Parts → Data
data_of_parts g parts = record {
  sizes = g;
  copy = copy_line parts;
  dirty = λ page l. has_line (dirty_lines parts page) l;
  frame = parts.map.nvm;
  owner = parts.map.frame_page;
  worn = λ k. slice_index_or parts.frame_dirty k false;
}

-- the copies of the other pages are as they were
pub record SameOthers (page : ℕ) (old new : Parts) : Type 0 where
  pub copies : (p l : ℕ) → p ≢ page → copy_line new p l ≡ copy_line old p l
  pub dirty : (p : ℕ) → p ≢ page → dirty_lines new p ≡ dirty_lines old p

-- all copies are
pub record SameCopies (old new : Parts) : Type 0 where
  pub copies : (p l : ℕ) → copy_line new p l ≡ copy_line old p l
  pub dirty : (p : ℕ) → dirty_lines new p ≡ dirty_lines old p

-- the pages stand in the frames in which they stood, and the marks of the frames are as they were
pub record SameFrames (old new : Parts) : Type 0 where
  pub nvm : (p : ℕ) → new.map.nvm p ≡ old.map.nvm p
  pub frame_page : (k : ℕ) → new.map.frame_page k ≡ old.map.frame_page k
  pub marks : new.frame_dirty ≡ old.frame_dirty
