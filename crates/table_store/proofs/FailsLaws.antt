-- The bytes that a stop for damage keeps, in the words of each call.
use Rattle.std.proofs.Common.{◌≡◌, ℕ, inl, inr, List, refl, subst, Result, Ok, Err, IfErr}
use Rattle.damage.specs.declared.evidence.Evidence.{Evidence}
use Rattle.line_pages.specs.declared.stop.Stop.{Stop}
use Rattle.line_pages.specs.declared.stop.Stop.TheVariants.{Nvm, Ssd, Damaged}
use Rattle.page_format.specs.Search.{Keeps, FailsNode}
use Rattle.page_alloc.specs.Space.{FailsSpace}
use Rattle.bplus_tree.specs.Damage.{FailsTree}
use Rattle.rows.specs.declared.limits.Limits.{Limits}
use Rattle.table_catalog.specs.Catalog.{FailsCatalog}
use Rattle.table_store.specs.Created.{FailsCreate}
use Rattle.table_store.specs.Getting.{FailsLookup}
use Rattle.table_store.specs.Changed.{FailsChange}

-- a call whose damage fails one of more checks, after others that keep the number of pages
fails_wider : {T : Type 0} (Fails : ℕ → Evidence → Type 0) (More : Evidence → Type 0) (old now : ℕ) → now ≡ old → ((e : Evidence) → Fails old e → More e) → (result : Result T Stop)
    → IfErr result (Keeps (Fails now)) → IfErr result (Keeps More)
fails_wider Fails More old now same wider (Ok value) kept = tt
fails_wider Fails More old now same wider (Err Nvm) kept = tt
fails_wider Fails More old now same wider (Err Ssd) kept = tt
fails_wider Fails More old now same wider (Err (Damaged e)) kept = wider e (subst (λ (n : ℕ). Fails n e) same kept)

-- of a call that makes a table
pub create_by_catalog : (limits : Limits) (count : ℕ) (buffer : List ℕ) (stop : Stop) → Keeps (FailsCatalog limits count buffer) stop → Keeps (FailsCreate limits count buffer) stop
create_by_catalog limits count buffer stop kept = fails_wider {T = ℕ} (λ n. FailsCatalog limits n buffer) (FailsCreate limits count buffer) count count refl (λ e shown. inl shown) (Err stop) kept

pub create_by_space : {T : Type 0} (limits : Limits) (old now : ℕ) (buffer : List ℕ) (result : Result T Stop) → now ≡ old → IfErr result (Keeps (FailsSpace now buffer)) → IfErr result (Keeps (FailsCreate limits old buffer))
create_by_space limits old now buffer result same kept = fails_wider (λ n. FailsSpace n buffer) (FailsCreate limits old buffer) old now same (λ e shown. inr shown) result kept

-- of a look-up
pub lookup_by_catalog : (limits : Limits) (count : ℕ) (buffer : List ℕ) (stop : Stop) → Keeps (FailsCatalog limits count buffer) stop → Keeps (FailsLookup limits count buffer) stop
lookup_by_catalog limits count buffer stop kept = fails_wider {T = ℕ} (λ n. FailsCatalog limits n buffer) (FailsLookup limits count buffer) count count refl (λ e shown. inl shown) (Err stop) kept

pub lookup_by_node : {T : Type 0} (limits : Limits) (old now : ℕ) (buffer : List ℕ) (result : Result T Stop) → now ≡ old → IfErr result (Keeps (FailsNode now buffer)) → IfErr result (Keeps (FailsLookup limits old buffer))
lookup_by_node limits old now buffer result same kept = fails_wider (λ n. FailsNode n buffer) (FailsLookup limits old buffer) old now same (λ e shown. inr shown) result kept

-- of a call that changes a table
pub change_by_catalog : (limits : Limits) (count : ℕ) (buffer : List ℕ) (stop : Stop) → Keeps (FailsCatalog limits count buffer) stop → Keeps (FailsChange limits count buffer) stop
change_by_catalog limits count buffer stop kept = fails_wider {T = ℕ} (λ n. FailsCatalog limits n buffer) (FailsChange limits count buffer) count count refl (λ e shown. inl shown) (Err stop) kept

pub change_by_tree : {T : Type 0} (limits : Limits) (old now : ℕ) (buffer : List ℕ) (result : Result T Stop) → now ≡ old → IfErr result (Keeps (FailsTree now buffer)) → IfErr result (Keeps (FailsChange limits old buffer))
change_by_tree limits old now buffer result same kept = fails_wider (λ n. FailsTree n buffer) (FailsChange limits old buffer) old now same (λ e shown. inr shown) result kept
