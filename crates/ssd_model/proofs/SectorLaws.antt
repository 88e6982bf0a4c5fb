-- Laws of the entries of written blocks.
use Rattle.std.proofs.Common.{◌≡◌, ℕ, ◌+◌, ◌≤◌, ◌<◌, false, Option, Some, None, List, refl, sym, ap, ◌∙◌, subst, inl, inr, arith, ltb, IsTrue, Result, Ok, Err}
use mathlib.Core.Path.{fun_ext}
use Rattle.std.specs.Prelude.{OnOk, OnErr}
use Rattle.std.specs.Option.{ForSome, option_map}
use Rattle.std.proofs.lemmas.Bool.{lt-ltb, le-ltb, cases_eq, eq-eqb, ne_eqb, cond-true, cond-false}
use Rattle.std.specs.BTreeMap.{BTreeMap, get, IsEmpty, is_at}
use Rattle.std.specs.Map.{lookup}
use Rattle.ssd_model.specs.Page.{zero_page, filled_page}
use Rattle.std.specs.Ordering.{nat_cmp}
use Rattle.ssd_model.specs.declared.choice.BlockChoice.{BlockChoice}
use Rattle.ssd_model.specs.Choose.{chosen_bytes}
use Rattle.ssd_model.specs.declared.sector.Sector.{Sector}
use Rattle.ssd_model.specs.Block.{zero_disk, settled_block, with_block, all_settled}
use Rattle.ssd_model.specs.Sectors.{block_in, synced_in, disk_in, synced_disk_in, restarted, IsWritten, WritesBlock, SameSectors, AreUpTo, AreWithin, AreRestarted}

-- what both outcomes give
pub on_both : {T E P Q X : Type 0} (r : Result T E) → OnOk r P → OnErr r Q → (P → X) → (Q → X) → X
on_both (Ok v) p q f g = f p
on_both (Err e) p q f g = g q

-- one sync more
pub settled_next : (i : ℕ) (entry : Option Sector) → ForSome entry (λ sector. sector.interval ≤ i) → block_in (i + 1) entry ≡ settled_block (block_in i entry).bytes
settled_next i None h = refl
settled_next i (Some sector) h = let low : sector.interval ≤ i = h sector refl in rw (lt-ltb sector.interval (i + 1) (omega arith)) refl

pub synced_next : (i : ℕ) (entry : Option Sector) → ForSome entry (λ sector. sector.interval ≤ i) → synced_in (i + 1) entry ≡ (block_in i entry).bytes
synced_next i None h = refl
synced_next i (Some sector) h = let low : sector.interval ≤ i = h sector refl in rw (lt-ltb sector.interval (i + 1) (omega arith)) refl

pub settled_restarted : (i : ℕ) (entry : Option Sector) → block_in 1 (option_map restarted entry) ≡ settled_block (block_in i entry).bytes
settled_restarted i None = refl
settled_restarted i (Some sector) = refl

pub synced_restarted : (i : ℕ) (entry : Option Sector) → synced_in 1 (option_map restarted entry) ≡ (block_in i entry).bytes
synced_restarted i None = refl
synced_restarted i (Some sector) = refl

low_restarted : (entry : Option Sector) (x : Sector) → option_map restarted entry ≡ Some x → x.interval ≤ 1
low_restarted None x e = absurd (cc)
low_restarted (Some sector) x e = let none : 0 ≡ x.interval = cc in omega arith

-- a block that counts as settled
pub settled_synced : (i : ℕ) (entry : Option Sector) → IsTrue (block_in i entry).settled → synced_in i entry ≡ (block_in i entry).bytes
settled_synced i None h = refl
settled_synced i (Some sector) h = cond-true (ltb sector.interval i) sector.current.value sector.synced.value h

-- a block that was written in this interval
written_block : (i : ℕ) (bytes : List ℕ) (old : Option Sector) (new : Sector) → IsWritten i bytes old new → block_in i (Some new) ≡ record { bytes = bytes; settled = false }
written_block i bytes old new written = rw (written.current, written.interval, le-ltb i i (omega arith)) refl

written_synced : (i : ℕ) (bytes : List ℕ) (old : Option Sector) (new : Sector) → IsWritten i bytes old new → synced_in i (Some new) ≡ synced_in i old
written_synced i bytes old new written =
    cond-false (ltb new.interval i) new.current.value new.synced.value (rw written.interval (le-ltb i i (omega arith))) ∙ written.synced

module _ (old new : BTreeMap ℕ Sector) where
  -- the disk after a write
  pub disk_written : (i block : ℕ) (bytes : List ℕ) → WritesBlock i block bytes old new → disk_in i new ≡ with_block block bytes (disk_in i old)
  disk_written i block bytes writes = fun_ext (λ b. elim (cases_eq b block) [
    | inl same ↦ ap (λ q. block_in i (get nat_cmp new q)) same ∙ ap (block_in i) writes.here.1
        ∙ written_block i bytes (get nat_cmp old block) writes.here.0 writes.here.2 ∙ sym (rw (eq-eqb b block same) refl)
    | inr other ↦ ap (block_in i) (writes.others b other) ∙ sym (rw (ne_eqb b block other) refl)
  ])

  pub synced_written : (i block : ℕ) (bytes : List ℕ) → WritesBlock i block bytes old new → synced_disk_in i new ≡ synced_disk_in i old
  synced_written i block bytes writes = fun_ext (λ b. elim (cases_eq b block) [
    | inl same ↦ ap (λ q. synced_in i (get nat_cmp new q)) same ∙ ap (synced_in i) writes.here.1
        ∙ written_synced i bytes (get nat_cmp old block) writes.here.0 writes.here.2 ∙ ap (λ q. synced_in i (get nat_cmp old q)) (sym same)
    | inr other ↦ ap (synced_in i) (writes.others b other)
  ])

  pub up_to_written : (i block : ℕ) (bytes : List ℕ) → WritesBlock i block bytes old new → AreUpTo i old → AreUpTo i new
  up_to_written i block bytes writes up_to q x found = elim (cases_eq q block) [
    | inl same ↦
        let is : Some writes.here.0 ≡ Some x = sym writes.here.1 ∙ ap (get nat_cmp new) (sym same) ∙ found in
        let here : writes.here.0 ≡ x = cc in
        let at : x.interval ≡ i = subst (λ (s : Sector). s.interval ≡ i) here writes.here.2.interval in
        omega arith
    | inr other ↦ up_to q x (sym (writes.others q other) ∙ found)
  ]

  pub within_written : (i block blocks : ℕ) (bytes : List ℕ) → WritesBlock i block bytes old new → block < blocks → AreWithin blocks old → AreWithin blocks new
  within_written i block blocks bytes writes fits within q x found = elim (cases_eq q block) [
    | inl same ↦ omega arith
    | inr other ↦ within q x (sym (writes.others q other) ∙ found)
  ]

  -- and where none was
  pub disk_same : (i : ℕ) → SameSectors old new → disk_in i new ≡ disk_in i old
  disk_same i same = fun_ext (λ b. ap (block_in i) (same b))

  pub synced_same : (i : ℕ) → SameSectors old new → synced_disk_in i new ≡ synced_disk_in i old
  synced_same i same = fun_ext (λ b. ap (synced_in i) (same b))

  pub up_to_same : (i : ℕ) → SameSectors old new → AreUpTo i old → AreUpTo i new
  up_to_same i same up_to q x found = up_to q x (sym (same q) ∙ found)

  pub within_same : (blocks : ℕ) → SameSectors old new → AreWithin blocks old → AreWithin blocks new
  within_same blocks same within q x found = within q x (sym (same q) ∙ found)

  -- the disk once all blocks begin at the first interval again
  pub disk_restarted : (i : ℕ) → AreRestarted old new → disk_in 1 new ≡ all_settled (disk_in i old)
  disk_restarted i again = fun_ext (λ b. ap (block_in 1) (again b) ∙ settled_restarted i (get nat_cmp old b))

  pub disk_synced_restarted : (i : ℕ) → AreRestarted old new → synced_disk_in 1 new ≡ (λ b. (disk_in i old b).bytes)
  disk_synced_restarted i again = fun_ext (λ b. ap (synced_in 1) (again b) ∙ synced_restarted i (get nat_cmp old b))

  pub within_restarted : (blocks : ℕ) → AreRestarted old new → AreWithin blocks old → AreWithin blocks new
  within_restarted blocks again within q x found = some_within (get nat_cmp old q) x (within q) (sym (again q) ∙ found)
    where
      some_within : (entry : Option Sector) (y : Sector) → ForSome entry (λ _sector. q < blocks) → option_map restarted entry ≡ Some y → q < blocks
      some_within None y h e = absurd (cc)
      some_within (Some sector) y h e = h sector refl

  pub up_to_restarted : AreRestarted old new → AreUpTo 1 new
  up_to_restarted again q x found = low_restarted (get nat_cmp old q) x (sym (again q) ∙ found)

module _ (m : BTreeMap ℕ Sector) (i : ℕ) (up_to : AreUpTo i m) where
  pub disk_next : disk_in (i + 1) m ≡ all_settled (disk_in i m)
  disk_next = fun_ext (λ b. settled_next i (get nat_cmp m b) (up_to b))

  pub disk_synced_next : synced_disk_in (i + 1) m ≡ (λ b. (disk_in i m b).bytes)
  disk_synced_next = fun_ext (λ b. synced_next i (get nat_cmp m b) (up_to b))

  pub up_to_next : AreUpTo (i + 1) m
  up_to_next q x found = let low : x.interval ≤ i = up_to q x found in omega arith

-- where nothing was written
get_empty : (m : BTreeMap ℕ Sector) (b : ℕ) → IsEmpty m → get nat_cmp m b ≡ None
get_empty m b none = ap (lookup (is_at (nat_cmp b))) none

pub disk_empty : (m : BTreeMap ℕ Sector) (i : ℕ) → IsEmpty m → disk_in i m ≡ zero_disk
disk_empty m i none = fun_ext (λ b. ap (block_in i) (get_empty m b none))

pub synced_empty : (m : BTreeMap ℕ Sector) (i : ℕ) → IsEmpty m → synced_disk_in i m ≡ (λ _b. zero_page)
synced_empty m i none = fun_ext (λ b. ap (synced_in i) (get_empty m b none))

-- what a look-up that found an entry, or none, says of a block
pub found_bytes : (m : BTreeMap ℕ Sector) (i block : ℕ) (entry : Option Sector) → entry ≡ get nat_cmp m block → (block_in i entry).bytes ≡ (disk_in i m block).bytes
found_bytes m i block entry found = ap (λ (o : Option Sector). (block_in i o).bytes) found

pub found_choice : (m : BTreeMap ℕ Sector) (i block : ℕ) (choice : BlockChoice) (entry : Option Sector) → entry ≡ get nat_cmp m block
    → chosen_bytes choice block (block_in i entry) (synced_in i entry) ≡ chosen_bytes choice block (disk_in i m block) (synced_disk_in i m block)
found_choice m i block choice entry found = ap (λ (o : Option Sector). chosen_bytes choice block (block_in i o) (synced_in i o)) found

pub filled_zero : filled_page 0 ≡ zero_page
unfolding zero_page filled_page
filled_zero = refl

-- a block outside the size
pub outside_block : (i b blocks : ℕ) (entry : Option Sector) → ForSome entry (λ _sector. b < blocks) → blocks ≤ b → block_in i entry ≡ settled_block zero_page
outside_block i b blocks None h past = refl
outside_block i b blocks (Some sector) h past = let low : b < blocks = h sector refl in absurd (omega arith)

pub outside_synced : (i b blocks : ℕ) (entry : Option Sector) → ForSome entry (λ _sector. b < blocks) → blocks ≤ b → synced_in i entry ≡ zero_page
outside_synced i b blocks None h past = refl
outside_synced i b blocks (Some sector) h past = let low : b < blocks = h sector refl in absurd (omega arith)
