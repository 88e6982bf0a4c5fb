-- Calls on pages in order answer no damage.
use Rattle.std.proofs.Common.{◌≡◌, ℕ, inl, inr, Bool, true, List, [], ◌∷◌, ◌++◌, None, Result, Ok, Err, IfErr, ◌||◌, refl, sym, ◌∙◌, nat_le}
use Rattle.std.proofs.lemmas.Bool.{cases_Bool, cases_eq, eq-eqb, ne_eqb}
use Rattle.line_pages.specs.declared.stop.Stop.{Stop}
use Rattle.line_pages.specs.declared.stop.Stop.TheVariants.{Nvm, Ssd, Damaged}
use Rattle.damage.specs.declared.evidence.Evidence.TheVariants.{Super, Frames, Log, Page, Walk}
use Rattle.line_pages.specs.Lines.{Lines}
use Rattle.page_format.specs.declared.root.Expect.{Expect}
use Rattle.damage.specs.Checks.{first_failure}
use Rattle.line_pages.specs.Bytes.{bytes_of}
use Rattle.page_format.specs.Room.{leaf_floor, inner_floor}
use Rattle.page_format.specs.Node.{entry_count, slots, bytes_used, first_failing, IsWellFormed}
use Rattle.node_edit.specs.Edit.{loose}
use Rattle.tree_search.specs.Tree.{IsTree}
use Rattle.tree_search.proofs.SearchLaws.{well_formed_top}
use Rattle.page_search.specs.Answers.{ShowsDamage}
use Rattle.page_search.proofs.DamageLaws.{leaf_front, inner_front}
use Rattle.page_alloc.specs.Stops.{IsFault}

-- a page that is well formed shows no damage
pub sound_page : {T : Type 0} (page : ℕ) (expect : Expect) (bytes : List ℕ) (result : Result T Stop) → IsWellFormed bytes expect → IfErr result (ShowsDamage page expect bytes) → IfErr result IsFault
sound_page page expect bytes (Ok v) well shows = tt
sound_page page expect bytes (Err Nvm) well shows = tt
sound_page page expect bytes (Err Ssd) well shows = tt
sound_page page expect bytes (Err (Damaged (Page n level low high check))) well shows = let broken = sym well ∙ shows.4 in absurd (cc)
sound_page page expect bytes (Err (Damaged (Super words check))) well shows = absurd shows
sound_page page expect bytes (Err (Damaged (Frames first second entry check))) well shows = absurd shows
sound_page page expect bytes (Err (Damaged (Log offset line tail check))) well shows = absurd shows
sound_page page expect bytes (Err (Damaged (Walk n kept found check))) well shows = absurd shows

-- what is expected of a page, but that it may be below the floor
last_holds : (xs : List (ℕ × Bool)) (n : ℕ) (b : Bool) → first_failure (xs ++ (n, b) ∷ []) ≡ None → first_failure (xs ++ (n, true) ∷ []) ≡ None
last_holds [] n b e = refl
last_holds (x ∷ xs) n b e =
    elim (cases_Bool x.1) [
      | inl holds ↦ rw holds (last_holds xs n b (rw holds at e))
      | inr fails ↦ let there = rw fails at e in absurd (cc)
    ]

pub loose_well : (bytes : List ℕ) (expect : Expect) → IsWellFormed bytes expect → IsWellFormed bytes (loose expect)
unfolding first_failing
loose_well bytes expect well =
    elim (cases_eq expect.level 0) [
      | inl leaf ↦ rw (eq-eqb expect.level 0 leaf) (last_holds (leaf_front bytes expect) 21 (expect.root || nat_le leaf_floor (bytes_used (slots bytes))) (rw (eq-eqb expect.level 0 leaf) at well))
      | inr inner ↦ rw (ne_eqb expect.level 0 inner) (last_holds (inner_front bytes expect) 22 (expect.root || nat_le inner_floor (entry_count bytes)) (rw (ne_eqb expect.level 0 inner) at well))
    ]

-- the page that heads a tree
pub loose_top : (count : ℕ) (lines : Lines) (level page low high : ℕ) (root : Bool) → IsTree count lines level page low high root
    → IsWellFormed (bytes_of lines page) (record { level = level; low = low; high = high; root = true; pages = count })
loose_top count lines level page low high root tree = loose_well (bytes_of lines page) _ (well_formed_top count lines level page low high root tree)
