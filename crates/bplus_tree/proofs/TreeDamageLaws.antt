-- Damage in the words of trees.
use Rattle.std.proofs.Common.{◌≡◌, ℕ, inl, inr, Bool, List, [], ◌∷◌, ◌++◌, Some, Result, Ok, Err, IfErr, IsTrue, sym, subst, not, ◌==◌, ◌&&◌, ◌||◌}
use Rattle.std.proofs.lemmas.Bool.{cases_Bool}
use Rattle.damage.specs.declared.evidence.Evidence.{Evidence}
use Rattle.line_pages.specs.declared.stop.Stop.{Stop}
use Rattle.line_pages.specs.declared.stop.Stop.TheVariants.{Nvm, Ssd, Damaged}
use Rattle.line_pages.specs.Lines.{Lines}
use Rattle.line_pages.specs.Standing.{Standing, HasCause}
use Rattle.damage.specs.Checks.{first_failure}
use Rattle.page_format.specs.Search.{IsNodeDamage, FailsNode, Keeps, Unchanged}
use Rattle.page_alloc.specs.Space.{free_head, high_of, is_free_page, header_checks, take_checks, IsSpaceDamage, FailsSpace}
use Rattle.bplus_tree.specs.Damage.{IsTreeDamage, IsFullRoot, FailsRoot, FailsTree}

node_damage : (told : Bool) (count : ℕ) (lines : Lines) (buffer : List ℕ) (e : Evidence) → (IsTrue told → IsNodeDamage count lines buffer e) → IsTreeDamage told count lines buffer e
unfolding IsTreeDamage
node_damage told count lines buffer e shown = λ is_told. inl (shown is_told)

take_damage : (told : Bool) (count : ℕ) (lines : Lines) (buffer : List ℕ) (e : Evidence) → (IsTrue told → IsSpaceDamage (take_checks count lines) lines buffer e) → IsTreeDamage told count lines buffer e
unfolding IsTreeDamage
take_damage told count lines buffer e shown = λ is_told. inr (inl (shown is_told))

pub root_damage : (told : Bool) (count : ℕ) (lines : Lines) (buffer : List ℕ) (e : Evidence) → (IsTrue told → IsFullRoot count lines buffer e) → IsTreeDamage told count lines buffer e
unfolding IsTreeDamage
root_damage told count lines buffer e shown = λ is_told. inr (inr (shown is_told))

earlier : {X : Type 0} (xs ys : List (X × Bool)) (x : X) → first_failure xs ≡ Some x → first_failure (xs ++ ys) ≡ Some x
earlier [] ys x e = absurd (cc)
earlier (c ∷ xs) ys x e =
    elim (cases_Bool c.1) [
      | inl holds ↦ let rest : first_failure xs ≡ Some x = rw holds at e in rw holds (earlier xs ys x rest)
      | inr fails ↦ let here : Some c.0 ≡ Some x = rw fails at e in rw fails here
    ]

give_damage : (told : Bool) (count : ℕ) (lines : Lines) (buffer : List ℕ) (e : Evidence) → (IsTrue told → IsSpaceDamage (header_checks count lines) lines buffer e) → IsTreeDamage told count lines buffer e
give_damage told count lines buffer e shown =
    take_damage told count lines buffer e (λ is_told.
    let d = shown is_told in
    record { number = d.number; page = d.page; first = earlier (header_checks count lines) (((36, free_head lines), (free_head lines == 0) || is_free_page lines (free_head lines)) ∷ ((37, 0), not ((free_head lines == 0) && (high_of lines == count))) ∷ []) (d.number, d.page) d.first; shown = d.shown; bytes = d.bytes; line = d.line })

-- damage shown of the lines before a call that changed none is damage of the lines after it
pub cause_at_stop : {A T : Type 0} (Shown More : Lines → Evidence → Type 0) (old new : Standing A) → ((lines : Lines) (e : Evidence) → (IsTrue old.told → Shown lines e) → More lines e) → (result : Result T Stop)
    → IfErr result (Unchanged old new) → HasCause (λ e. IsTrue old.told → Shown old.current e) old new result → HasCause (More new.current) old new result
cause_at_stop Shown More old new wider (Ok value) same cause = record { failed = tt; kept = cause.kept }
cause_at_stop Shown More old new wider (Err Nvm) same cause = record { failed = cause.failed; kept = tt }
cause_at_stop Shown More old new wider (Err Ssd) same cause = record { failed = cause.failed; kept = tt }
cause_at_stop Shown More old new wider (Err (Damaged e)) same cause =
    record { failed = wider new.current e (λ told. subst (λ lines. Shown lines e) (sym (same told)) (cause.failed told)); kept = tt }

pub node_cause : {A T : Type 0} (count : ℕ) (buffer : List ℕ) (old new : Standing A) (result : Result T Stop) → IfErr result (Unchanged old new)
    → HasCause (λ e. IsTrue old.told → IsNodeDamage count old.current buffer e) old new result → HasCause (IsTreeDamage old.told count new.current buffer) old new result
node_cause count buffer old new result same cause =
    cause_at_stop (λ lines e. IsNodeDamage count lines buffer e) (λ lines e. IsTreeDamage old.told count lines buffer e) old new (λ lines e shown. node_damage old.told count lines buffer e shown) result same cause

pub take_cause : {A T : Type 0} (count : ℕ) (buffer : List ℕ) (old new : Standing A) (result : Result T Stop) → IfErr result (Unchanged old new)
    → HasCause (λ e. IsTrue old.told → IsSpaceDamage (take_checks count old.current) old.current buffer e) old new result → HasCause (IsTreeDamage old.told count new.current buffer) old new result
take_cause count buffer old new result same cause =
    cause_at_stop (λ lines e. IsSpaceDamage (take_checks count lines) lines buffer e) (λ lines e. IsTreeDamage old.told count lines buffer e) old new (λ lines e shown. take_damage old.told count lines buffer e shown) result same cause

pub give_cause : {A T : Type 0} (count : ℕ) (buffer : List ℕ) (old new : Standing A) (result : Result T Stop) → IfErr result (Unchanged old new)
    → HasCause (λ e. IsTrue old.told → IsSpaceDamage (header_checks count old.current) old.current buffer e) old new result → HasCause (IsTreeDamage old.told count new.current buffer) old new result
give_cause count buffer old new result same cause =
    cause_at_stop (λ lines e. IsSpaceDamage (header_checks count lines) lines buffer e) (λ lines e. IsTreeDamage old.told count lines buffer e) old new (λ lines e shown. give_damage old.told count lines buffer e shown) result same cause

-- what a call answers whatever the store holds, in the words of trees
keeps_wider : {Fails More : Evidence → Type 0} → ((e : Evidence) → Fails e → More e) → (stop : Stop) → Keeps Fails stop → Keeps More stop
keeps_wider wider Nvm kept = tt
keeps_wider wider Ssd kept = tt
keeps_wider wider (Damaged e) kept = wider e kept

pub node_fails : {T : Type 0} (count : ℕ) (buffer : List ℕ) (result : Result T Stop) → IfErr result (Keeps (FailsNode count buffer)) → IfErr result (Keeps (FailsTree count buffer))
unfolding FailsTree
node_fails count buffer (Ok value) kept = tt
node_fails count buffer (Err stop) kept = keeps_wider {Fails = FailsNode count buffer} {More = FailsTree count buffer} (λ e shown. inl shown) stop kept

pub space_fails : {T : Type 0} (count : ℕ) (buffer : List ℕ) (result : Result T Stop) → IfErr result (Keeps (FailsSpace count buffer)) → IfErr result (Keeps (FailsTree count buffer))
unfolding FailsTree
space_fails count buffer (Ok value) kept = tt
space_fails count buffer (Err stop) kept = keeps_wider {Fails = FailsSpace count buffer} {More = FailsTree count buffer} (λ e shown. inr (inl shown)) stop kept

pub root_fails : (count : ℕ) (buffer : List ℕ) (e : Evidence) → FailsRoot count buffer e → FailsTree count buffer e
unfolding FailsTree
root_fails count buffer e shown = inr (inr shown)
