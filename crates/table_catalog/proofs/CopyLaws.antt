-- A line that is put into a copy of its page.
use Rattle.std.proofs.Common.{◌≡◌, ◌≢◌, ℕ, ◌<◌, List, length, ap, ◌∙◌}
use Rattle.nvm_model.specs.declared.line.Line.{Line}
use Rattle.line_pages.specs.Lines.{Lines, IsLine}
use Rattle.line_pages.specs.Bytes.{bytes_of, line_at, with_line_bytes}
use Rattle.line_pages.proofs.ByteLaws.{line_at-written, line_at-other}
use Rattle.page_alloc.proofs.FailLaws.{written_itself}

-- the line stands in the copy, the other ones are as they were, and a copy of the page that has the line stays
pub kept_line : (old new : List ℕ) (at : ℕ) (whole line : Line) → new ≡ with_line_bytes old at whole → whole ≡ line → length old ≡ 4096 → at < 64 → IsLine whole → line_at new at ≡ line
kept_line old new at whole line is same size inside fits = ap (λ (bytes : List ℕ). line_at bytes at) is ∙ line_at-written old at whole size inside fits ∙ same

pub kept_others : (old new : List ℕ) (at other : ℕ) (whole : Line) → new ≡ with_line_bytes old at whole → length old ≡ 4096 → at < 64 → other < 64 → other ≢ at → line_at new other ≡ line_at old other
kept_others old new at other whole is size inside other_in apart = ap (λ (bytes : List ℕ). line_at bytes other) is ∙ line_at-other old at other whole size inside other_in apart

pub kept_same : (lines : Lines) (old new : List ℕ) (at : ℕ) (whole line : Line) → new ≡ with_line_bytes old at whole → whole ≡ line → at < 64 → old ≡ bytes_of lines 0 → line ≡ lines 0 at → new ≡ bytes_of lines 0
kept_same lines old new at whole line is same inside copy there =
    is ∙ ap (λ (bytes : List ℕ). with_line_bytes bytes at whole) copy ∙ written_itself lines 0 at whole inside (same ∙ there)
