-- Laws of the images that choices leave of a memory.
use Rattle.std.proofs.Common.{◌≡◌, ℕ, zero, suc, ◌<◌, length, get_or, slice_index, refl, ap, ◌∙◌, arith}
use Rattle.std.proofs.lemmas.List.FromFn.{get_or-map-range_with_len, length-map-range_with_len}
use Rattle.nvm_model.specs.declared.line.Line.{Line}
use Rattle.nvm_model.specs.declared.line.Choice.{Choice}
use Rattle.nvm_model.specs.Word.{IsVersion}
use Rattle.nvm_model.specs.Memory.{Memory, line_of, fenced_memory}
use Rattle.nvm_model.specs.Choose.{chosen, chosen_line, image_of}
use Rattle.nvm_model.proofs.WordLaws.{IsKept, chosen_version, chosen_kept}

-- a word of a line
pub line_of-word : (f : ℕ → ℕ) (w : ℕ) → w < 8 → slice_index (line_of f).words w ≡ f w
line_of-word f zero h = refl
line_of-word f (suc zero) h = refl
line_of-word f (suc (suc zero)) h = refl
line_of-word f (suc (suc (suc zero))) h = refl
line_of-word f (suc (suc (suc (suc zero)))) h = refl
line_of-word f (suc (suc (suc (suc (suc zero))))) h = refl
line_of-word f (suc (suc (suc (suc (suc (suc zero)))))) h = refl
line_of-word f (suc (suc (suc (suc (suc (suc (suc zero))))))) h = refl
line_of-word f (suc (suc (suc (suc (suc (suc (suc (suc w)))))))) h = absurd (omega arith)

-- how many lines an image has, and each of its words
pub length-image_of : (choice : Choice) (memory : Memory) (lines : ℕ) → length (image_of choice memory lines) ≡ lines
length-image_of choice memory lines = length-map-range_with_len (chosen_line choice memory) 0 lines

pub image_word : (choice : Choice) (memory : Memory) (lines l w : ℕ) (d : Line) → l < lines → w < 8 → slice_index (get_or (image_of choice memory lines) l d).words w ≡ chosen choice l w (memory l w)
image_word choice memory lines l w d here small =
    ap (λ (line : Line). slice_index line.words w) (get_or-map-range_with_len (chosen_line choice memory) 0 lines l l d here (omega arith))
    ∙ line_of-word (λ p. chosen choice l p (memory l p)) w small

-- each word of an image is a version of the word
pub image_version : (choice : Choice) (memory : Memory) (lines l w : ℕ) (d : Line) → l < lines → w < 8 → IsVersion (memory l w) (slice_index (get_or (image_of choice memory lines) l d).words w)
image_version choice memory lines l w d here small = rw (image_word choice memory lines l w d here small) (chosen_version choice l w (memory l w))

-- and after a fence one from the mark on
pub image_kept : (choice : Choice) (memory : Memory) (lines l w : ℕ) (d : Line) → l < lines → w < 8 → IsKept (memory l w) (slice_index (get_or (image_of choice (fenced_memory memory) lines) l d).words w)
image_kept choice memory lines l w d here small = rw (image_word choice (fenced_memory memory) lines l w d here small) (chosen_kept choice l w (memory l w))
