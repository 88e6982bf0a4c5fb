-- Why the calls that read the pages of trees stop, by the pages before and after and the buffer that keeps a damaged page.
use Rattle.std.specs.Prelude.{◌≡◌, ℕ, List, IsTrue, Result}
use Rattle.damage.specs.declared.evidence.Evidence.{Evidence}
use Rattle.line_pages.specs.declared.pages.Pages.{Ghosts}
use Rattle.line_pages.specs.declared.stop.Stop.{Stop}
use Rattle.line_pages.specs.Bytes.{bytes_of}
use Rattle.line_pages.specs.Standing.{HasCause}
use Rattle.page_format.specs.declared.root.Expect.{Expect}
use Rattle.page_format.specs.Node.{IsWellFormed}
use Rattle.page_format.specs.Search.{IsNodeDamage}
use Rattle.page_search.specs.Answers.{IsShownDamage}

-- Damage only where some page fails a check of a node: the evidence names the first that it fails, and the buffer has its bytes.
abbrev pub NodeCause : {P T : Type 0} → Ghosts P → P → P → List ℕ → Result T Stop → Type 0
NodeCause g old new buffer result =
    HasCause (λ (e : Evidence). IsTrue (g.standing old).told → IsNodeDamage (g.standing old).count (g.standing old).current buffer e) (g.standing old) (g.standing new) result

-- Damage only where this page fails a check, as what was expected of it: the buffer fails it, and has the page's bytes.
abbrev pub ShownCause : {P T : Type 0} → Ghosts P → P → P → ℕ → Expect → List ℕ → Result T Stop → Type 0
ShownCause g old new page expect buffer result =
    HasCause (λ (e : Evidence). IsShownDamage page expect buffer e × (IsTrue (g.standing old).told → buffer ≡ bytes_of (g.standing old).current page)) (g.standing old) (g.standing new) result

-- A fact that holds where the pages are told and this page is well formed, as what was expected of it.
abbrev pub OnPage : {P : Type 0} → Ghosts P → P → ℕ → Expect → Type 0 → Type 0
OnPage g s page expect Fact = IsTrue (g.standing s).told → IsWellFormed (bytes_of (g.standing s).current page) expect → Fact
