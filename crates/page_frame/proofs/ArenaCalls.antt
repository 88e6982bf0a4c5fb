-- What follows for the frames of an arena at a call that names one of them.
use Rattle.std.proofs.Common.{◌≡◌, ℕ, ◌+◌, ◌*◌, ◌^◌, ◌%◌, ◌<◌, IsTrue, List, length, get_or, Some, None, refl, sym, ap, ◌∙◌, arith, slice_set}
use Rattle.std.specs.Int.RustNames.{bit_or}
use Rattle.nvm_model.specs.declared.line.Line.{Line}
use Rattle.page_frame.specs.declared.arena.FrameArena.{FrameArena}
use Rattle.page_frame.specs.declared.block.LineBlock.{LineBlock}
use Rattle.page_frame.specs.Places.{IsFilled, emptied, replaced}
use Rattle.page_frame.specs.Blocks.{places_of}
use Rattle.page_frame.specs.Frames.{Frame, empty_frame, line_at, with_value, filled, is_resident, frame_at, with_frame, lines_of_page}
use Rattle.page_frame.specs.LineSets.{all_lines}
use Rattle.page_frame.specs.Arena.{frames_of}
use Rattle.page_frame.proofs.Memory.{length-replaced}
use Rattle.page_frame.proofs.ArenaLaws.{frames_counted, frame_long, resident_line, Follows, line_put, blank_mask, whole_frame}
use Rattle.page_frame.proofs.FillLaws.{page_counted, page_mask}

module _ (self : FrameArena) (f : ℕ) (known : f < length (frames_of self)) where
  -- these masks and places are those of the frames that are told
  abbrev pub Becomes : List ℕ → LineBlock → List Frame → Type 0
  Becomes masks new frames = Follows self.resident.items (places_of self.lines) self.places self.masks masks (places_of new) frames

  pub in_masks : f < length self.resident.items
  in_masks = let counted = frames_counted (length self.resident.items) (places_of self.lines) in omega (arith, counted, known)

  pub sized : length (frame_at (frames_of self) f) ≡ 64
  sized = let long = self.places in frame_long (length self.resident.items) f (places_of self.lines) in_masks (omega (arith, long))

  pub lent : (l : ℕ) → IsTrue (is_resident (frame_at (frames_of self) f) l)
      → (l < 64) × IsFilled (places_of self.lines) (64 * f + l) × (line_at (frame_at (frames_of self) f) l ≡ get_or (places_of self.lines) (64 * f + l) None)
  lent l has = resident_line self.resident.items (places_of self.lines) self.places self.masks f l in_masks has

  pub put : (l mask : ℕ) (value : Line) (new : LineBlock) → l < 64 → mask ≡ get_or self.resident.items f 0 → places_of new ≡ slice_set (places_of self.lines) (64 * f + l) (Some value)
      → Becomes (slice_set self.resident.items f (bit_or mask (1 * 2 ^ l % 18446744073709551616))) new (with_frame f (with_value l value (frame_at (frames_of self) f)) (frames_of self))
  put l mask value new in_frame is stands = line_put self.resident.items (places_of self.lines) self.places self.masks f l mask value (places_of new) in_masks in_frame is stands

  pub cleared : (new : LineBlock) → places_of new ≡ emptied (64 * f) 64 (places_of self.lines)
      → Becomes (slice_set self.resident.items f 0) new (with_frame f empty_frame (frames_of self))
  cleared new none =
      let long = self.places in
      whole_frame self.resident.items (places_of self.lines) self.places self.masks f 0 empty_frame (places_of new) in_masks refl (sym blank_mask) none
      (ap length none ∙ length-replaced empty_frame (places_of self.lines) (64 * f) 64 (omega (arith, long, in_masks)) refl)

  pub page_put : (bytes : List ℕ) (new : LineBlock) → places_of new ≡ replaced (64 * f) 64 (filled (lines_of_page bytes)) (places_of self.lines)
      → Becomes (slice_set self.resident.items f all_lines) new (with_frame f (filled (lines_of_page bytes)) (frames_of self))
  page_put bytes new lines =
      let long = self.places in let frame = filled (lines_of_page bytes) in let whole = page_counted bytes in
      whole_frame self.resident.items (places_of self.lines) self.places self.masks f all_lines frame (places_of new) in_masks whole (page_mask bytes) lines
      (ap length lines ∙ length-replaced frame (places_of self.lines) (64 * f) 64 (omega (arith, long, in_masks)) whole)
