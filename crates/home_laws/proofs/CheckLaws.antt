-- What it says that no check fails, and that an entry at the end of the log keeps it.
use Rattle.std.proofs.Common.{◌≡◌, ◌⊎◌, ℕ, zero, suc, ◌+◌, ◌-◌, ◌*◌, ◌%◌, ◌<◌, ◌≤◌, Bool, true, false, not, ◌||◌, List, [], ◌∷◌, ◌++◌, length, refl, ap, ◌∙◌, inl, inr, arith, cond, eqb, ltb, IsTrue, Option, Some, None, length-append}
use Rattle.std.specs.Prelude.{nat_le}
use Rattle.std.proofs.lemmas.Bool.{or_parts, and_parts, leb-true, ltb-false, le-ltb, eqb-true, eq-eqb, cond-false}
use Rattle.nvm_model.specs.declared.line.Line.{Line}
use Rattle.devices.specs.State.{Image, fresh}
use Rattle.store_model.specs.Layout.{Sizes, is_allowed, is_between, pages, ring_lines, ring_blocks, floor64, nvm_lines, ssd_blocks}
use Rattle.store_model.specs.Format.{Format, head_check, entry_check, log_check, LogFault, lines_behind, IsWhole}
use Rattle.store_model.specs.Recovered.{Super, super_of, entry_at, super_check, table_check, image_table_check, image_log_check, first_check, log_lines, IsStore}
use Rattle.store_model.specs.Checked.{SuperPasses}
use Rattle.store_model.specs.InOrder.{Stands}
use Rattle.store_model.specs.View.{Alike, Extends}
use Rattle.home_laws.proofs.FreshLaws.{table_check-same}

-- tests one after the other, none of which answers
if_none : (b : Bool) (n : ℕ) (rest : Option ℕ) → cond b (Some n) rest ≡ None → (b ≡ false) × (rest ≡ None)
if_none true n rest h = cc
if_none false n rest h = (refl, h)

-- a superblock without a failing check passes them
pub super_passes : (sup : Super) → super_check sup ≡ None → SuperPasses sup
super_passes sup h =
    let a : (not (is_allowed sup.sizes) ≡ false) × _ = if_none (not (is_allowed sup.sizes)) 1 _ h in
    let b : ((ltb sup.tail sup.start || (ltb sup.tail sup.drained || not (eqb (sup.drained % 64) 0))) ≡ false) × _ = if_none (ltb sup.tail sup.start || (ltb sup.tail sup.drained || not (eqb (sup.drained % 64) 0))) 2 _ a.1 in
    let c : (ltb (ring_lines sup.sizes) (sup.tail - sup.drained) ≡ false) × _ = if_none (ltb (ring_lines sup.sizes) (sup.tail - sup.drained)) 3 _ b.1 in
    let d : (ltb (floor64 sup.start + 64 * ring_blocks sup.sizes) sup.drained ≡ false) × _ = if_none (ltb (floor64 sup.start + 64 * ring_blocks sup.sizes) sup.drained) 4 None c.1 in
    let e : (ltb sup.tail sup.start ≡ false) × ((ltb sup.tail sup.drained || not (eqb (sup.drained % 64) 0)) ≡ false) = or_parts (ltb sup.tail sup.start) _ b.0 in
    let f : (ltb sup.tail sup.drained ≡ false) × (not (eqb (sup.drained % 64) 0) ≡ false) = or_parts (ltb sup.tail sup.drained) _ e.1 in
    record {
      sizes = not_false (is_allowed sup.sizes) a.0;
      started = ltb-false sup.tail sup.start e.0;
      drained = ltb-false sup.tail sup.drained f.0;
      aligned = eqb-true (sup.drained % 64) 0 (not_false (eqb (sup.drained % 64) 0) f.1);
      in_ring = ltb-false (ring_lines sup.sizes) (sup.tail - sup.drained) c.0;
      in_blocks = ltb-false (floor64 sup.start + 64 * ring_blocks sup.sizes) sup.drained d.0;
    }
  where
    not_false : (b : Bool) → not b ≡ false → b ≡ true
    not_false true h = refl
    not_false false h = cc

-- and the other way round
pub super_check-none : (sup : Super) → SuperPasses sup → super_check sup ≡ None
super_check-none sup passes =
    cond-false (not (is_allowed sup.sizes)) (Some 1) _ (ap not passes.sizes)
    ∙ cond-false (ltb sup.tail sup.start || (ltb sup.tail sup.drained || not (eqb (sup.drained % 64) 0))) (Some 2) _
    (rw (le-ltb sup.tail sup.start passes.started, le-ltb sup.tail sup.drained passes.drained, eq-eqb (sup.drained % 64) 0 passes.aligned))
    ∙ cond-false (ltb (ring_lines sup.sizes) (sup.tail - sup.drained)) (Some 3) _ (le-ltb (ring_lines sup.sizes) (sup.tail - sup.drained) passes.in_ring)
    ∙ cond-false (ltb (floor64 sup.start + 64 * ring_blocks sup.sizes) sup.drained) (Some 4) None (le-ltb _ sup.drained passes.in_blocks)

-- a tail that rises within the ring
pub tail_passes : (sup : Super) (n : ℕ) → SuperPasses sup → sup.tail + n ≤ sup.drained + ring_lines sup.sizes → SuperPasses (record sup { tail = sup.tail + n })
tail_passes sup n passes room =
    let started : sup.start ≤ sup.tail = passes.started in
    let below : sup.drained ≤ sup.tail = passes.drained in
    record { sizes = passes.sizes; started = omega arith; drained = omega arith; aligned = passes.aligned; in_ring = omega arith; in_blocks = passes.in_blocks }

-- an entry without a failing check, and the lines behind it
entry_none : (e : Option ℕ) (b : Bool) → ◌≡◌ {A = Option ℕ} (elim e [ Some check ↦ Some check | None ↦ cond b (Some 9) None ]) None → (e ≡ None) × (b ≡ false)
entry_none (Some c) b h = cc
entry_none None b h = (refl, (if_none b 9 None h).0)

fault_none : (e : Option ℕ) (o : ℕ) (rest : Option LogFault) → ◌≡◌ {A = Option LogFault} (elim e [ Some check ↦ Some (record { offset = o; check = check }) | None ↦ rest ]) None → (e ≡ None) × (rest ≡ None)
fault_none (Some c) o rest h = cc
fault_none None o rest h = (refl, h)

pub entry_from : (e : Option ℕ) (b : Bool) → e ≡ None → b ≡ false → ◌≡◌ {A = Option ℕ} (elim e [ Some check ↦ Some check | None ↦ cond b (Some 9) None ]) None
entry_from (Some c) b h k = cc
entry_from None b h k = cond-false b (Some 9) None k

pub fault_from : (e : Option ℕ) (o : ℕ) (rest : Option LogFault) → e ≡ None → rest ≡ None → ◌≡◌ {A = Option LogFault} (elim e [ Some check ↦ Some (record { offset = o; check = check }) | None ↦ rest ]) None
fault_from (Some c) o rest h k = cc
fault_from None o rest h k = k

-- no entry of a log without a failing check is cut short
pub checked_whole : (format : Format) (g : Sizes) (o skip : ℕ) (xs : List Line) → log_check format g o skip xs ≡ None → skip ≤ length xs → IsWhole format skip xs
checked_whole format g o zero [] h fits = refl
checked_whole format g o (suc skip) [] h fits = absurd (omega arith)
checked_whole format g o (suc skip) (x ∷ xs) h fits = checked_whole format g (o + 1) skip xs h (omega arith)
checked_whole format g o zero (x ∷ xs) h fits =
    let parts : (entry_check format g x (length xs) ≡ None) × (log_check format g (o + 1) (lines_behind format x) xs ≡ None) = fault_none (entry_check format g x (length xs)) o _ h in
    let short : (head_check format g x ≡ None) × (ltb (length xs) (lines_behind format x) ≡ false) = entry_none (head_check format g x) (ltb (length xs) (lines_behind format x)) parts.0 in
    checked_whole format g (o + 1) (lines_behind format x) xs parts.1 (ltb-false (length xs) (lines_behind format x) short.1)

-- a log and the lines behind it, both without a failing check
pub log_check-append : (format : Format) (g : Sizes) (o skip : ℕ) (xs ys : List Line) → skip ≤ length xs → log_check format g o skip xs ≡ None
    → ((at : ℕ) → log_check format g at 0 ys ≡ None) → log_check format g o skip (xs ++ ys) ≡ None
log_check-append format g o zero [] ys fits h behind = behind o
log_check-append format g o (suc skip) [] ys fits h behind = absurd (omega arith)
log_check-append format g o (suc skip) (x ∷ xs) ys fits h behind = log_check-append format g (o + 1) skip xs ys (omega arith) h behind
log_check-append format g o zero (x ∷ xs) ys fits h behind =
    let parts : (entry_check format g x (length xs) ≡ None) × (log_check format g (o + 1) (lines_behind format x) xs ≡ None) = fault_none (entry_check format g x (length xs)) o _ h in
    let short : (head_check format g x ≡ None) × (ltb (length xs) (lines_behind format x) ≡ false) = entry_none (head_check format g x) (ltb (length xs) (lines_behind format x)) parts.0 in
    let fits' : lines_behind format x ≤ length xs = ltb-false (length xs) (lines_behind format x) short.1 in
    let long : length (xs ++ ys) ≡ length xs + length ys = length-append xs ys in
    let still : ltb (length (xs ++ ys)) (lines_behind format x) ≡ false = le-ltb (length (xs ++ ys)) (lines_behind format x) (omega arith) in
    let rest : log_check format g (o + 1) (lines_behind format x) (xs ++ ys) ≡ None = log_check-append format g (o + 1) (lines_behind format x) xs ys fits' parts.1 behind in
    fault_from (entry_check format g x (length (xs ++ ys))) o _ (entry_from (head_check format g x) (ltb (length (xs ++ ys)) (lines_behind format x)) short.0 still) rest

-- the three parts of an image without a failing check
pub checks_none : (format : Format) (i : Image) → first_check format i ≡ None → (super_check (super_of i) ≡ None) × (image_table_check i ≡ None) × (image_log_check format i ≡ None)
checks_none format i h = by_parts (super_check (super_of i)) (image_table_check i) (image_log_check format i) h
  where
    by_parts : (a b : Option ℕ) (c : Option LogFault)
        → ◌≡◌ {A = Option ℕ} (elim a [ Some check ↦ Some check | None ↦ elim b [ Some check ↦ Some check | None ↦ elim c [ Some fault ↦ Some fault.check | None ↦ None ] ] ]) None
        → (a ≡ None) × (b ≡ None) × (c ≡ None)
    by_parts (Some x) b c h = cc
    by_parts None (Some x) c h = cc
    by_parts None None (Some x) h = cc
    by_parts None None None h = (refl, refl, refl)

pub checks_from : (format : Format) (i : Image) → super_check (super_of i) ≡ None → image_table_check i ≡ None → image_log_check format i ≡ None → first_check format i ≡ None
checks_from format i a b c = by_parts (super_check (super_of i)) (image_table_check i) (image_log_check format i) a b c
  where
    by_parts : (a b : Option ℕ) (c : Option LogFault) → a ≡ None → b ≡ None → c ≡ None
        → ◌≡◌ {A = Option ℕ} (elim a [ Some check ↦ Some check | None ↦ elim b [ Some check ↦ Some check | None ↦ elim c [ Some fault ↦ Some fault.check | None ↦ None ] ] ]) None
    by_parts (Some x) b c h k m = cc
    by_parts None (Some x) c h k m = cc
    by_parts None None (Some x) h k m = cc
    by_parts None None None h k m = refl

-- The devices that are made of an image that is a store stand for it.
pub fresh_stands : (format : Format) (lines blocks : ℕ) (i : Image) → IsStore format i → nvm_lines (super_of i).sizes ≤ lines → ssd_blocks (super_of i).sizes ≤ blocks
    → Stands format lines blocks (fresh i)
fresh_stands format lines blocks i store nvm ssd =
    let checks : (super_check (super_of i) ≡ None) × (image_table_check i ≡ None) × (image_log_check format i ≡ None) = checks_none format i store.checks in
    record {
      gates = record { superblock = λ l w named. refl; entries = λ k h. refl; magic = store.magic_word; super_checks = checks.0; table_checks = checks.1; nvm_fits = nvm; ssd_fits = ssd };
      log = record { lines = λ o above below. record { in_nvm = λ drained w hw. refl; in_ssd = λ under. refl }; checks = checks.2 };
      homes = λ p l w hp hl hw h. record { in_frame = λ k found v version. one v version; in_block = λ none. refl };
    }
  where
    one : {x : ℕ} (v : ℕ) → (v ≡ x) ⊎ ⊥ → v ≡ x
    one v (inl e) = e
    one v (inr none) = absurd none

-- an image with the superblock, the log and the entries of a store is one
pub same_store : (format : Format) (i j : Image) → super_of i ≡ super_of j → log_lines i ≡ log_lines j → image_table_check i ≡ None → IsStore format j → IsStore format i
same_store format i j super_words log table store =
    let checks : (super_check (super_of j) ≡ None) × (image_table_check j ≡ None) × (image_log_check format j ≡ None) = checks_none format j store.checks in
    record {
      magic_word = ap (λ (x : Super). x.magic_word) super_words ∙ store.magic_word;
      checks = checks_from format i (ap super_check super_words ∙ checks.0) table
          (ap (λ (x : Super). log_check format x.sizes x.start 0 (log_lines i)) super_words
          ∙ ap (λ (xs : List Line). log_check format (super_of j).sizes (super_of j).start 0 xs) log ∙ checks.2);
    }

pub same_table : (i j : Image) → (super_of i).sizes ≡ (super_of j).sizes → ((k : ℕ) → k ≤ (super_of j).sizes.frames → entry_at i k ≡ entry_at j k) → image_table_check i ≡ image_table_check j
same_table i j sizes entries = ap (λ (g : Sizes). table_check (pages g) (g.frames + 1) (entry_at i)) sizes
    ∙ table_check-same (pages (super_of j).sizes) ((super_of j).sizes.frames + 1) (entry_at i) (entry_at j) (λ k less. entries k (omega arith))

-- an image that is as a store is one
pub alike_store : (format : Format) (i j : Image) → Alike i j → IsStore format j → IsStore format i
alike_store format i j alike store = same_store format i j alike.super_words alike.log
    (same_table i j (ap (λ (x : Super). x.sizes) alike.super_words) alike.entries ∙ (checks_none format j store.checks).1) store

-- no entry of the log of a store is cut short
pub store_whole : (format : Format) (i : Image) → IsStore format i → IsWhole format 0 (log_lines i)
store_whole format i store = checked_whole format (super_of i).sizes (super_of i).start 0 (log_lines i) (checks_none format i store.checks).2 (omega arith)

-- the superblock of a store passes its checks
pub store_passes : (format : Format) (i : Image) → IsStore format i → SuperPasses (super_of i)
store_passes format i store = super_passes (super_of i) (checks_none format i store.checks).0

-- the log ring has a place
pub allowed_ring : (g : Sizes) → IsTrue (is_allowed g) → 0 < g.log_blocks
allowed_ring g h =
    let a : (is_between 1 62 g.tables ≡ true) × _ = and_parts (is_between 1 62 g.tables) _ h in
    let b : (is_between 1 1000000 g.rows ≡ true) × _ = and_parts (is_between 1 1000000 g.rows) _ a.1 in
    let c : (is_between 1 1024 g.writes ≡ true) × _ = and_parts (is_between 1 1024 g.writes) _ b.1 in
    let d : (is_between 0 65535 g.frames ≡ true) × (is_between 2 1024 g.log_blocks ≡ true) = and_parts (is_between 0 65535 g.frames) _ c.1 in
    let e : (nat_le 2 g.log_blocks ≡ true) × _ = and_parts (nat_le 2 g.log_blocks) _ d.1 in
    let two : 2 ≤ g.log_blocks = leb-true 2 g.log_blocks e.0 in omega arith

-- and so is one whose log has more lines, which pass their checks and fit the ring
pub extends_store : (format : Format) (i j : Image) (xs : List Line) → Extends i j xs → IsStore format j → (super_of j).tail + length xs ≤ (super_of j).drained + ring_lines (super_of j).sizes
    → ((at : ℕ) → log_check format (super_of j).sizes at 0 xs ≡ None) → IsStore format i
extends_store format i j xs extends store room passes =
    let checks : (super_check (super_of j) ≡ None) × (image_table_check j ≡ None) × (image_log_check format j ≡ None) = checks_none format j store.checks in
    record {
      magic_word = ap (λ (x : Super). x.magic_word) extends.super_words ∙ store.magic_word;
      checks =
          let a : super_check (super_of i) ≡ None = ap super_check extends.super_words ∙ super_check-none _ (tail_passes (super_of j) (length xs) (super_passes (super_of j) checks.0) room) in
          let b : image_table_check i ≡ None =
          ap (λ (x : Super). table_check (pages x.sizes) (x.sizes.frames + 1) (entry_at i)) extends.super_words
          ∙ table_check-same (pages (super_of j).sizes) ((super_of j).sizes.frames + 1) (entry_at i) (entry_at j) (λ k less. extends.entries k (omega arith)) ∙ checks.1 in
          let c : image_log_check format i ≡ None =
          ap (λ (x : Super). log_check format x.sizes x.start 0 (log_lines i)) extends.super_words
          ∙ ap (λ (ys : List Line). log_check format (super_of j).sizes (super_of j).start 0 ys) extends.log
          ∙ log_check-append format (super_of j).sizes (super_of j).start 0 (log_lines j) xs (omega arith) checks.2 passes in
          checks_from format i a b c;
    }

-- a start that is moved to the tail
pub start_passes : (sup : Super) → SuperPasses sup → SuperPasses (record sup { start = sup.tail })
start_passes sup passes =
    let below : sup.drained ≤ sup.tail = passes.drained in
    let aligned : sup.drained % 64 ≡ 0 = passes.aligned in
    record { sizes = passes.sizes; started = omega arith; drained = below; aligned = aligned; in_ring = passes.in_ring; in_blocks = omega arith }
