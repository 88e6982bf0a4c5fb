-- What a line is read as, where it is read as a head.
use Rattle.std.specs.Prelude.{◌≡◌, ℕ, true, false, ◌||◌, nat_le, Some, None, Result, Ok, Err}
use Rattle.store_model.specs.Layout.{pages}
use Rattle.nvm_model.specs.declared.line.Line.{Line}
use Rattle.nvm_layout.specs.Sizes.{sizes_of}
use Rattle.nvm_layout.specs.declared.geometry.Geometry.{Geometry}
use Rattle.store_model.specs.Format.{word_in, head_check}
use Rattle.store_model.specs.Format.Format.{whole_lines}
use Rattle.nvm_log.specs.declared.head.Head.{Head}
use Rattle.nvm_log.specs.declared.head.Head.TheVariants as head
use Rattle.nvm_log.specs.declared.record.EndKind.{EndKind}
use Rattle.nvm_log.specs.declared.record.EndKind.TheVariants.{Commit, Abort}

-- the kind of the end of a group
abbrev pub kind_of : EndKind → ℕ
kind_of Commit = 2
kind_of Abort = 3

-- A record's head names its page and its line.
pub record NamesLine (page l : ℕ) (line : Line) : Type 0 where
  pub kind : word_in line 0 ≡ 1
  pub page_is : word_in line 1 ≡ page
  pub line_is : word_in line 2 ≡ l

abbrev pub Says : Head → Line → Type 0
Says (head.Line page l) line = NamesLine page l line
Says (head.End kind) line = word_in line 0 ≡ kind_of kind

-- A head is read where no check fails, and else the first that fails is told.
abbrev pub IsRead : Geometry → Line → Result Head ℕ → Type 0
IsRead geometry line (Ok found) = (head_check whole_lines (sizes_of geometry) line ≡ None) × Says found line
IsRead geometry line (Err check) = head_check whole_lines (sizes_of geometry) line ≡ Some check

-- the same of a record's head with this page and this line
abbrev pub IsRecord : Geometry → ℕ → ℕ → Result Head ℕ → Type 0
IsRecord geometry page l (Ok found) = ((nat_le (pages (sizes_of geometry)) page || nat_le 64 l) ≡ false) × (found ≡ head.Line page l)
IsRecord geometry page l (Err check) = ((nat_le (pages (sizes_of geometry)) page || nat_le 64 l) ≡ true) × (check ≡ 8)
