-- What recovery sees of an image.
use Rattle.std.specs.Prelude.{◌≡◌, ℕ, ◌+◌, ◌<◌, List, ◌++◌, length}
use Rattle.nvm_model.specs.declared.line.Line.{Line}
use Rattle.devices.specs.State.{Image}
use Rattle.flat_store_meaning.specs.Layout.{pages}
use Rattle.flat_store_meaning.specs.Recovered.{super_of, home, log_lines}

-- two images with the same superblock, log and homes
pub record Alike (i j : Image) : Type 0 where
  pub super_words : super_of i ≡ super_of j
  pub log : log_lines i ≡ log_lines j
  pub homes : (p l w : ℕ) → p < pages (super_of j).sizes → l < 64 → w < 8 → home i p l w ≡ home j p l w

-- two images with the same sizes, log and homes, wherever the log stands: recovery gives the same pages
pub record Agree (i j : Image) : Type 0 where
  pub sizes : (super_of i).sizes ≡ (super_of j).sizes
  pub log : log_lines i ≡ log_lines j
  pub homes : (p l w : ℕ) → p < pages (super_of j).sizes → l < 64 → w < 8 → home i p l w ≡ home j p l w

-- the first image is as the second, with these lines more at the end of its log
pub record Extends (i j : Image) (lines : List Line) : Type 0 where
  pub super_words : super_of i ≡ record (super_of j) { tail = (super_of j).tail + length lines }
  pub log : log_lines i ≡ log_lines j ++ lines
  pub homes : (p l w : ℕ) → p < pages (super_of j).sizes → l < 64 → w < 8 → home i p l w ≡ home j p l w
