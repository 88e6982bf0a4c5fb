-- The lines that the touches of calls write.
use Rattle.std.proofs.Common.{◌≡◌, ℕ, true, false, inl, inr, List, [], ◌∷◌, ◌++◌, cond, filter, append_assoc, append-nil, Result, Ok, Err, OnOk, refl, sym, ap, subst, ◌∙◌}
use Rattle.std.proofs.lemmas.Bool.{cases_Bool}
use Rattle.nvm_model.specs.declared.line.Line.{Line}
use Rattle.line_pages.specs.declared.stop.Stop.{Stop}
use Rattle.line_pages.specs.Touch.{Touch, touch_of, writes_line}
use Rattle.line_pages.specs.Standing.{Standing, Writes, ReadsPage}
use Rattle.line_pages.proofs.TouchLaws.{writes-append, alone_reads}
use Rattle.rows.specs.Rows.{Each}
use Rattle.page_alloc.specs.Written.{WritesOnly, WritesNothing}

only-append : (page : ℕ) (Fact : ℕ → Type 0) (xs ys : List Touch) → Each (λ (t : Touch). t.writes ≡ true → (t.page ≡ page) × Fact t.line) xs
    → Each (λ (t : Touch). t.writes ≡ true → (t.page ≡ page) × Fact t.line) ys → Each (λ (t : Touch). t.writes ≡ true → (t.page ≡ page) × Fact t.line) (xs ++ ys)
only-append page Fact [] ys all more = more
only-append page Fact (x ∷ xs) ys all more = (all.0, only-append page Fact xs ys all.1 more)

none-only : (page : ℕ) (Fact : ℕ → Type 0) (ts : List Touch) → filter writes_line ts ≡ [] → Each (λ (t : Touch). t.writes ≡ true → (t.page ≡ page) × Fact t.line) ts
none-only page Fact [] none = tt
none-only page Fact (t ∷ ts) none =
    elim (cases_Bool t.writes) [
      | inl writes ↦ let some = subst (λ b. cond b (t ∷ filter writes_line ts) (filter writes_line ts) ≡ []) writes none in absurd (cc)
      | inr reads ↦
          let rest = subst (λ b. cond b (t ∷ filter writes_line ts) (filter writes_line ts) ≡ []) reads none in
          ((λ writes. let clash : true ≡ false = sym writes ∙ reads in absurd (cc)), none-only page Fact ts rest)
    ]

-- no touch
pub only_refl : {A : Type 0} (page : ℕ) (Fact : ℕ → Type 0) (s : Standing A) → WritesOnly page Fact s s
only_refl page Fact s = record { added = []; touches = sym (append-nil s.touches); only = tt }

-- one after the other
pub only_then : {A : Type 0} (page : ℕ) (Fact : ℕ → Type 0) {a b c : Standing A} → WritesOnly page Fact a b → WritesOnly page Fact b c → WritesOnly page Fact a c
only_then page Fact {a = a} first second = record {
  added = first.added ++ second.added;
  touches = second.touches ∙ ap (λ ts. ts ++ second.added) first.touches ∙ append_assoc a.touches first.added second.added;
  only = only-append page Fact first.added second.added first.only second.only;
}

pub only_weaker : {A : Type 0} (page : ℕ) (Fact Less : ℕ → Type 0) {a b : Standing A} → ((line : ℕ) → Fact line → Less line) → WritesOnly page Fact a b → WritesOnly page Less a b
only_weaker page Fact Less less w = record { added = w.added; touches = w.touches; only = each w.added w.only }
  where
    each : (ts : List Touch) → Each (λ (t : Touch). t.writes ≡ true → (t.page ≡ page) × Fact t.line) ts → Each (λ (t : Touch). t.writes ≡ true → (t.page ≡ page) × Less t.line) ts
    each [] all = tt
    each (t ∷ ts) all = ((λ writes. let is = all.0 writes in (is.0, less t.line is.1)), each ts all.1)

-- touches that do not write
pub only_nothing : {A : Type 0} (page : ℕ) (Fact : ℕ → Type 0) {a b : Standing A} → WritesNothing a b → WritesOnly page Fact a b
only_nothing page Fact w = record { added = w.added; touches = w.touches; only = none-only page Fact w.added w.none }

pub nothing_read : {A : Type 0} {page : ℕ} {a b : Standing A} → ReadsPage page a b → WritesNothing a b
nothing_read {page = page} r = record { added = r.added; touches = r.touches; none = alone_reads page r.added r.alone }

pub nothing_refl : {A : Type 0} (s : Standing A) → WritesNothing s s
nothing_refl s = record { added = []; touches = sym (append-nil s.touches); none = refl }

pub nothing_then : {A : Type 0} {a b c : Standing A} → WritesNothing a b → WritesNothing b c → WritesNothing a c
nothing_then {a = a} first second = record {
  added = first.added ++ second.added;
  touches = second.touches ∙ ap (λ ts. ts ++ second.added) first.touches ∙ append_assoc a.touches first.added second.added;
  none = writes-append first.added second.added first.none second.none;
}

-- a write of a line
pub only_write : {A : Type 0} {T : Type 0} (page line : ℕ) (value : Line) (Fact : ℕ → Type 0) {old new : Standing A} (result : Result T Stop) → Fact line → Writes page line value old new result → OnOk result (WritesOnly page Fact old new)
only_write page line value Fact {old = old} (Ok v) fact w = record { added = touch_of old.access page line true ∷ []; touches = w.touch.touches; only = ((λ writes. (refl, fact)), tt) }
only_write page line value Fact (Err e) fact w = tt
