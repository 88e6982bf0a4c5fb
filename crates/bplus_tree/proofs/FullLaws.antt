-- Stops for a full root, and pages that are cut.
use Rattle.std.proofs.Common.{◌≡◌, ◌≢◌, ◌-◌, ℕ, ◌<◌, ◌≤◌, inl, inr, Bool, true, false, List, [], ◌∷◌, length, Some, None, Result, Ok, Err, IfErr, IfOk, ◌==◌, refl, sym, ap, subst, ◌∙◌, arith}
use Rattle.std.proofs.lemmas.Bool.{cases_Bool, cases_eq, cases_lt, eq-eqb, ne_eqb}
use Rattle.damage.specs.declared.evidence.Evidence.{Evidence}
use Rattle.damage.specs.declared.evidence.Evidence.TheVariants.{Super, Frames, Log, Page, Walk}
use Rattle.line_pages.specs.declared.stop.Stop.{Stop}
use Rattle.line_pages.specs.declared.stop.Stop.TheVariants.{Nvm, Ssd, Damaged}
use Rattle.line_pages.specs.Bytes.{line_at}
use Rattle.line_pages.specs.Standing.{Standing, HasCause, Never}
use Rattle.page_format.specs.declared.root.Expect.{Expect}
use Rattle.damage.specs.Checks.{first_failure, fails}
use Rattle.rows.specs.Rows.{Row}
use Rattle.page_format.specs.Room.{leaf_room}
use Rattle.page_format.specs.Sound.{row_bytes}
use Rattle.page_format.specs.Node.{leaf_rows, leaf_checks, inner_checks, first_failing, entry_count, IsWellFormed}
use Rattle.page_format.proofs.PageFacts.{inner_facts}
use Rattle.page_format.specs.Search.{FailsNode, Keeps, is_root_span}
use Rattle.page_format.proofs.RowLemmas.{row_bytes-append}
use Rattle.node_edit.specs.declared.fit.Fit.{Fit}
use Rattle.node_edit.specs.declared.fit.Fit.TheVariants as fits
use Rattle.node_edit.specs.Edit.{Fits}
use Rattle.node_edit.specs.Record.{FitsLeaf}
use Rattle.page_alloc.specs.Space.{FailsSpace, IsPageEvidence, space_checks}
use Rattle.page_alloc.specs.Stops.{IsFault}
use Rattle.page_alloc.proofs.SoundLaws.{sound_never}
use Rattle.bplus_tree.specs.declared.outcome.Outcome.{Outcome}
use Rattle.bplus_tree.specs.declared.outcome.Outcome.TheVariants.{Whole, Short, Cut, Alone}
use Rattle.bplus_tree.specs.Edit.{IsOutcome}
use Rattle.bplus_tree.specs.Full.{NotFull, NamesFull, CutsFor, IsNeeded, IsOverfull}
use Rattle.bplus_tree.proofs.Joined.{leaf_enough}

-- checks of other numbers than that of a full root
abbrev Others : List (ℕ × Bool) → Type 0
Others [] = Unit {0}
Others (check ∷ checks) = ((check.0 == 39) ≡ false) × Others checks

others_first : (checks : List (ℕ × Bool)) → Others checks → first_failure checks ≢ Some 39
others_first [] others e = absurd (cc)
others_first (check ∷ checks) others e =
    elim (cases_Bool check.1) [
      | inl holds ↦ let rest : first_failure checks ≡ Some 39 = rw holds at e in others_first checks others.1 rest
      | inr broken ↦ let here : Some check.0 ≡ Some 39 = rw broken at e in
          let same : check.0 ≡ 39 = cc in
          let clash = sym others.0 ∙ eq-eqb check.0 39 same in absurd (cc)
    ]

others_failing : (bytes : List ℕ) (expect : Expect) → first_failing bytes expect ≢ Some 39
unfolding first_failing
others_failing bytes expect e =
    elim (cases_eq expect.level 0) [
      | inl leaf ↦ others_first (leaf_checks bytes expect) (refl, (refl, (refl, (refl, (refl, (refl, (refl, (refl, tt)))))))) (rw (eq-eqb expect.level 0 leaf) at e)
      | inr inner ↦ others_first (inner_checks bytes expect) (refl, (refl, (refl, (refl, (refl, (refl, tt)))))) (rw (ne_eqb expect.level 0 inner) at e)
    ]

-- a page that fails a check as a page of a tree, or before a page is taken, is no full root
pub node_not_full : {T : Type 0} (count : ℕ) (buffer : List ℕ) (result : Result T Stop) → IfErr result (Keeps (FailsNode count buffer)) → IfErr result NotFull
node_not_full count buffer (Ok value) kept = tt
node_not_full count buffer (Err Nvm) kept = tt
node_not_full count buffer (Err Ssd) kept = tt
node_not_full count buffer (Err (Damaged (Page page level low high check))) kept =
    λ e. others_failing buffer (record { level = level; low = low; high = high; root = is_root_span low high; pages = count }) (kept.1 ∙ ap (λ (n : ℕ). Some n) e)
node_not_full count buffer (Err (Damaged (Super words check))) kept = absurd kept
node_not_full count buffer (Err (Damaged (Frames first second entry check))) kept = absurd kept
node_not_full count buffer (Err (Damaged (Log offset line tail check))) kept = absurd kept
node_not_full count buffer (Err (Damaged (Walk page kept_pages found check))) kept = absurd kept

space_other : (count : ℕ) (buffer : List ℕ) (number page : ℕ) (e : Evidence) → fails (space_checks count (line_at buffer 0)) number ≡ true → IsPageEvidence page number e → NotFull (Damaged e)
space_other count buffer number page (Page n level low high check) failed shown = λ e.
    let wrong : fails (space_checks count (line_at buffer 0)) 39 ≡ true = subst (λ (k : ℕ). fails (space_checks count (line_at buffer 0)) k ≡ true) (sym shown.4 ∙ e) failed in
    absurd (cc)
space_other count buffer number page (Super words check) failed shown = shown
space_other count buffer number page (Frames first second entry check) failed shown = shown
space_other count buffer number page (Log offset line tail check) failed shown = shown
space_other count buffer number page (Walk n kept found check) failed shown = shown

pub space_not_full : {T : Type 0} (count : ℕ) (buffer : List ℕ) (result : Result T Stop) → IfErr result (Keeps (FailsSpace count buffer)) → IfErr result NotFull
space_not_full count buffer (Ok value) kept = tt
space_not_full count buffer (Err Nvm) kept = tt
space_not_full count buffer (Err Ssd) kept = tt
space_not_full count buffer (Err (Damaged e)) kept = space_other count buffer kept.number kept.page e kept.fails kept.shown

-- nor is a fault one
pub fault_not_full : {T : Type 0} (result : Result T Stop) → IfErr result IsFault → IfErr result NotFull
fault_not_full (Ok value) fault = tt
fault_not_full (Err Nvm) fault = tt
fault_not_full (Err Ssd) fault = tt
fault_not_full (Err (Damaged e)) fault = absurd fault

pub never_not_full : {A T : Type 0} {old new : Standing A} (result : Result T Stop) → HasCause Never old new result → IfErr result NotFull
never_not_full result cause = fault_not_full result (sound_never result cause)

pub not_full_names : {T : Type 0} (at : ℕ) (IsHigh : Type 0) (result : Result T Stop) → IfErr result NotFull → IfErr result (NamesFull at IsHigh)
not_full_names at IsHigh (Ok value) other = tt
not_full_names at IsHigh (Err Nvm) other = tt
not_full_names at IsHigh (Err Ssd) other = tt
not_full_names at IsHigh (Err (Damaged (Page page level low high check))) other = λ e. absurd (other e)
not_full_names at IsHigh (Err (Damaged (Super words check))) other = tt
not_full_names at IsHigh (Err (Damaged (Frames first second entry check))) other = tt
not_full_names at IsHigh (Err (Damaged (Log offset line tail check))) other = tt
not_full_names at IsHigh (Err (Damaged (Walk page kept found check))) other = tt

pub names_to : {T : Type 0} (at to : ℕ) (High IsHigh : Type 0) (result : Result T Stop) → (High → at ≡ to) → (High → IsHigh) → IfErr result (NamesFull at High) → IfErr result (NamesFull to IsHigh)
names_to at to High IsHigh (Ok value) same high names = tt
names_to at to High IsHigh (Err Nvm) same high names = tt
names_to at to High IsHigh (Err Ssd) same high names = tt
names_to at to High IsHigh (Err (Damaged (Page page level low top check))) same high names = λ e. let n = names e in (n.0 ∙ same n.1, high n.1)
names_to at to High IsHigh (Err (Damaged (Super words check))) same high names = tt
names_to at to High IsHigh (Err (Damaged (Frames first second entry check))) same high names = tt
names_to at to High IsHigh (Err (Damaged (Log offset line tail check))) same high names = tt
names_to at to High IsHigh (Err (Damaged (Walk page kept found check))) same high names = tt

-- stops that come only where a page has to be cut
pub fault_needed : {T : Type 0} (NoRoom IsFull : Type 0) (result : Result T Stop) → IfErr result IsFault → IfErr result (IsNeeded NoRoom IsFull)
fault_needed NoRoom IsFull (Ok value) fault = tt
fault_needed NoRoom IsFull (Err Nvm) fault = tt
fault_needed NoRoom IsFull (Err Ssd) fault = tt
fault_needed NoRoom IsFull (Err (Damaged e)) fault = absurd fault

pub cut_needed : {T : Type 0} (NoRoom IsFull : Type 0) (result : Result T Stop) → NoRoom → IfErr result NotFull → IfErr result (IsNeeded NoRoom IsFull)
cut_needed NoRoom IsFull (Ok value) cut other = tt
cut_needed NoRoom IsFull (Err Nvm) cut other = tt
cut_needed NoRoom IsFull (Err Ssd) cut other = tt
cut_needed NoRoom IsFull (Err (Damaged (Page page level low high check))) cut other = (cut, λ e. absurd (other e))
cut_needed NoRoom IsFull (Err (Damaged (Super words check))) cut other = absurd other
cut_needed NoRoom IsFull (Err (Damaged (Frames first second entry check))) cut other = absurd other
cut_needed NoRoom IsFull (Err (Damaged (Log offset line tail check))) cut other = absurd other
cut_needed NoRoom IsFull (Err (Damaged (Walk page kept found check))) cut other = absurd other

pub needed_wider : {T : Type 0} (A A' B B' : Type 0) → (A → A') → (A → B → B') → (result : Result T Stop) → IfErr result (IsNeeded A B) → IfErr result (IsNeeded A' B')
needed_wider A A' B B' cut full (Ok value) needed = tt
needed_wider A A' B B' cut full (Err Nvm) needed = tt
needed_wider A A' B B' cut full (Err Ssd) needed = tt
needed_wider A A' B B' cut full (Err (Damaged (Page page level low high check))) needed = (cut needed.0, λ e. full needed.0 (needed.1 e))
needed_wider A A' B B' cut full (Err (Damaged (Super words check))) needed = needed
needed_wider A A' B B' cut full (Err (Damaged (Frames first second entry check))) needed = needed
needed_wider A A' B B' cut full (Err (Damaged (Log offset line tail check))) needed = needed
needed_wider A A' B B' cut full (Err (Damaged (Walk page kept found check))) needed = needed

-- a page whose bytes were cut in memory is cut for the reason of that
pub cuts_of : {E : Type 0} (count : ℕ) (fit : Fit) (Reason : Type 0) (result : Result Outcome E) → ((key : ℕ) → fit ≡ fits.Cut key → Reason) → IfOk result (IsOutcome count fit) → IfOk result (CutsFor Reason)
cuts_of count fit Reason (Err e) reason is = tt
cuts_of count fit Reason (Ok Whole) reason is = tt
cuts_of count fit Reason (Ok Short) reason is = tt
cuts_of count fit Reason (Ok (Alone child)) reason is = tt
cuts_of count fits.Whole Reason (Ok (Cut key right)) reason is = absurd (cc)
cuts_of count fits.Short Reason (Ok (Cut key right)) reason is = absurd (cc)
cuts_of count (fits.Cut at) Reason (Ok (Cut key right)) reason is = reason at refl

-- and damage comes while it is written for that reason
pub needed_of : {T : Type 0} (fit : Fit) (Reason IsFull : Type 0) (result : Result T Stop) → ((key : ℕ) → fit ≡ fits.Cut key → Reason) → (((key : ℕ) → fit ≢ fits.Cut key) → IfErr result IsFault) → IfErr result NotFull
    → IfErr result (IsNeeded Reason IsFull)
needed_of fits.Whole Reason IsFull result reason plain other = fault_needed Reason IsFull result (plain (λ key e. cc))
needed_of fits.Short Reason IsFull result reason plain other = fault_needed Reason IsFull result (plain (λ key e. cc))
needed_of (fits.Cut at) Reason IsFull result reason plain other = cut_needed Reason IsFull result (reason at refl) other

-- a page that is not cut
pub uncut_cuts : {E : Type 0} (Reason : Type 0) (result : Result Outcome E) → IfOk result (λ outcome. (k r : ℕ) → outcome ≢ Cut k r) → IfOk result (CutsFor Reason)
uncut_cuts Reason (Err e) uncut = tt
uncut_cuts Reason (Ok Whole) uncut = tt
uncut_cuts Reason (Ok Short) uncut = tt
uncut_cuts Reason (Ok (Cut k r)) uncut = absurd (uncut k r refl)
uncut_cuts Reason (Ok (Alone child)) uncut = tt

-- a leaf is cut only where it has no room for its rows, however few bytes they take
pub leaf_overfull : (expect : Expect) (left right : List ℕ) (rows : List Row) (fit : Fit) → length left ≡ 4096 → expect.level ≡ 0 → Fits leaf_rows expect left right rows fit → (FitsLeaf (expect.root ≡ true) rows → fit ≡ fits.Whole)
    → (key : ℕ) → fit ≡ fits.Cut key → IsOverfull rows
leaf_overfull expect left right rows fit size ground held whole key cut =
    elim (cases_lt leaf_room (row_bytes rows)) [
      | inl over ↦ over
      | inr room ↦
          let d = subst (λ (f : Fit). Fits leaf_rows expect left right rows f) cut held in
          let well = subst (λ (l : ℕ). first_failing left (record { level = l; low = expect.low; high = key - 1; root = false; pages = expect.pages }) ≡ None) ground d.left_well in
          let enough = leaf_enough left expect.low (key - 1) expect.pages size well in
          let floor : 1344 ≤ row_bytes rows = omega (arith, ap row_bytes d.are, row_bytes-append (leaf_rows left) (leaf_rows right), enough) in
          let clash : fits.Whole ≡ fits.Cut key = sym (whole (room, inr floor)) ∙ cut in
          absurd (cc)
    ]

-- and an inner page only where it has 240 children
pub inner_many : (expect : Expect) (bytes : List ℕ) (fit : Fit) → 1 ≤ expect.level → IsWellFormed bytes expect → (entry_count bytes < 240 → fit ≡ fits.Whole) → (key : ℕ) → fit ≡ fits.Cut key → entry_count bytes ≡ 240
inner_many expect bytes fit above well room key cut =
    let facts = inner_facts bytes expect (λ ground. omega (arith, ground, above)) well in
    elim (cases_lt (entry_count bytes) 240) [
      | inl few ↦ let clash : fits.Whole ≡ fits.Cut key = sym (room few) ∙ cut in absurd (cc)
      | inr many ↦ omega (arith, many, facts.room)
    ]
