-- What it says that no check fails, and that an entry at the end of the log keeps it.
use Rattle.std.proofs.Common.{◌≡◌, ℕ, zero, suc, ◌+◌, ◌-◌, ◌*◌, ◌<◌, ◌≤◌, Bool, true, false, not, List, [], ◌∷◌, ◌++◌, length, refl, ap, ◌∙◌, arith, cond, ltb, Option, Some, None, length-append}
use Rattle.std.proofs.lemmas.Bool.Decides.{nat_tests}
use Rattle.std.specs.Prelude.{nat_le}
use Rattle.std.proofs.lemmas.Bool.{and_parts, ltb-false, le-ltb, cond-false}
use Rattle.nvm_model.specs.declared.line.Line.{Line}
use Rattle.devices.specs.State.{Image}
use Rattle.flat_store_meaning.specs.Layout.{Sizes, is_allowed, in_ranges, pages, ring_lines}
use Rattle.flat_store_meaning.specs.Format.{Format, head_check, entry_check, log_check, LogFault, lines_behind, IsWhole}
use Rattle.flat_store_meaning.specs.Recovered.{Super, super_of, super_check, image_log_check, first_check, log_lines, IsStore}
use Rattle.flat_store_meaning.specs.Checked.{SuperPasses}
use Rattle.flat_store_meaning.specs.View.{Alike, Extends}

-- tests one after the other, none of which answers
if_none : (b : Bool) (n : ℕ) (rest : Option ℕ) → cond b (Some n) rest ≡ None → (b ≡ false) × (rest ≡ None)
if_none true n rest h = cc
if_none false n rest h = (refl, h)

-- a superblock without a failing check passes them
pub super_passes : (sup : Super) → super_check sup ≡ None → SuperPasses sup
super_passes sup h =
    let a : (not (is_allowed sup.sizes) ≡ false) × _ = if_none (not (is_allowed sup.sizes)) 1 _ h in
    let b : (ltb sup.tail sup.start ≡ false) × _ = if_none (ltb sup.tail sup.start) 2 _ a.1 in
    let c : (ltb (ring_lines sup.sizes) (sup.tail - sup.start) ≡ false) × _ = if_none (ltb (ring_lines sup.sizes) (sup.tail - sup.start)) 3 None b.1 in
    record {
      sizes = not_false (is_allowed sup.sizes) a.0;
      started = ltb-false sup.tail sup.start b.0;
      in_ring = ltb-false (ring_lines sup.sizes) (sup.tail - sup.start) c.0;
    }
  where
    not_false : (b : Bool) → not b ≡ false → b ≡ true
    not_false true h = refl
    not_false false h = cc

-- and the other way round
pub super_check-none : (sup : Super) → SuperPasses sup → super_check sup ≡ None
super_check-none sup passes =
    cond-false (not (is_allowed sup.sizes)) (Some 1) _ (ap not passes.sizes)
    ∙ cond-false (ltb sup.tail sup.start) (Some 2) _ (le-ltb sup.tail sup.start passes.started)
    ∙ cond-false (ltb (ring_lines sup.sizes) (sup.tail - sup.start)) (Some 3) None (le-ltb (ring_lines sup.sizes) (sup.tail - sup.start) passes.in_ring)

-- sizes that are allowed have a ring
pub allowed_ring : (g : Sizes) → is_allowed g ≡ true → 0 < g.log_blocks
allowed_ring g h =
    let last : nat_le (1920 * g.writes + 1) (ring_lines g) ≡ true = (and_parts (nat_le (pages g) g.frames) _ (and_parts (in_ranges g) _ h).1).1 in
    grind (arith, nat_tests, last)

-- a tail that rises within the ring
pub tail_passes : (sup : Super) (n : ℕ) → SuperPasses sup → sup.tail + n ≤ sup.start + ring_lines sup.sizes → SuperPasses (record sup { tail = sup.tail + n })
tail_passes sup n passes room =
    let started : sup.start ≤ sup.tail = passes.started in
    record { sizes = passes.sizes; started = omega arith; in_ring = omega arith }

-- a start that is moved to the tail
pub start_passes : (sup : Super) → SuperPasses sup → SuperPasses (record sup { start = sup.tail; drained = sup.tail })
start_passes sup passes = record { sizes = passes.sizes; started = omega arith; in_ring = omega arith }

-- an entry without a failing check, and the lines behind it
entry_none : (e : Option ℕ) (b : Bool) → ◌≡◌ {A = Option ℕ} (elim e [ Some check ↦ Some check | None ↦ cond b (Some 9) None ]) None → (e ≡ None) × (b ≡ false)
entry_none (Some c) b h = cc
entry_none None b h = (refl, (if_none b 9 None h).0)

fault_none : (e : Option ℕ) (o : ℕ) (rest : Option LogFault) → ◌≡◌ {A = Option LogFault} (elim e [ Some check ↦ Some (record { offset = o; check = check }) | None ↦ rest ]) None → (e ≡ None) × (rest ≡ None)
fault_none (Some c) o rest h = cc
fault_none None o rest h = (refl, h)

pub entry_from : (e : Option ℕ) (b : Bool) → e ≡ None → b ≡ false → ◌≡◌ {A = Option ℕ} (elim e [ Some check ↦ Some check | None ↦ cond b (Some 9) None ]) None
entry_from (Some c) b h k = cc
entry_from None b h k = cond-false b (Some 9) None k

pub fault_from : (e : Option ℕ) (o : ℕ) (rest : Option LogFault) → e ≡ None → rest ≡ None → ◌≡◌ {A = Option LogFault} (elim e [ Some check ↦ Some (record { offset = o; check = check }) | None ↦ rest ]) None
fault_from (Some c) o rest h k = cc
fault_from None o rest h k = k

-- no entry of a log without a failing check is cut short
pub checked_whole : (format : Format) (g : Sizes) (o skip : ℕ) (xs : List Line) → log_check format g o skip xs ≡ None → skip ≤ length xs → IsWhole format skip xs
checked_whole format g o zero [] h fits = refl
checked_whole format g o (suc skip) [] h fits = absurd (omega arith)
checked_whole format g o (suc skip) (x ∷ xs) h fits = checked_whole format g (o + 1) skip xs h (omega arith)
checked_whole format g o zero (x ∷ xs) h fits =
    let parts : (entry_check format g x (length xs) ≡ None) × (log_check format g (o + 1) (lines_behind format x) xs ≡ None) = fault_none (entry_check format g x (length xs)) o _ h in
    let short : (head_check format g x ≡ None) × (ltb (length xs) (lines_behind format x) ≡ false) = entry_none (head_check format g x) (ltb (length xs) (lines_behind format x)) parts.0 in
    checked_whole format g (o + 1) (lines_behind format x) xs parts.1 (ltb-false (length xs) (lines_behind format x) short.1)

-- a log and the lines behind it, both without a failing check
pub log_check-append : (format : Format) (g : Sizes) (o skip : ℕ) (xs ys : List Line) → skip ≤ length xs → log_check format g o skip xs ≡ None
    → ((at : ℕ) → log_check format g at 0 ys ≡ None) → log_check format g o skip (xs ++ ys) ≡ None
log_check-append format g o zero [] ys fits h behind = behind o
log_check-append format g o (suc skip) [] ys fits h behind = absurd (omega arith)
log_check-append format g o (suc skip) (x ∷ xs) ys fits h behind = log_check-append format g (o + 1) skip xs ys (omega arith) h behind
log_check-append format g o zero (x ∷ xs) ys fits h behind =
    let parts : (entry_check format g x (length xs) ≡ None) × (log_check format g (o + 1) (lines_behind format x) xs ≡ None) = fault_none (entry_check format g x (length xs)) o _ h in
    let short : (head_check format g x ≡ None) × (ltb (length xs) (lines_behind format x) ≡ false) = entry_none (head_check format g x) (ltb (length xs) (lines_behind format x)) parts.0 in
    let fits' : lines_behind format x ≤ length xs = ltb-false (length xs) (lines_behind format x) short.1 in
    let long : length (xs ++ ys) ≡ length xs + length ys = length-append xs ys in
    let still : ltb (length (xs ++ ys)) (lines_behind format x) ≡ false = le-ltb (length (xs ++ ys)) (lines_behind format x) (omega arith) in
    let rest : log_check format g (o + 1) (lines_behind format x) (xs ++ ys) ≡ None = log_check-append format g (o + 1) (lines_behind format x) xs ys fits' parts.1 behind in
    fault_from (entry_check format g x (length (xs ++ ys))) o _ (entry_from (head_check format g x) (ltb (length (xs ++ ys)) (lines_behind format x)) short.0 still) rest

-- the two parts of an image without a failing check
pub checks_none : (format : Format) (i : Image) → first_check format i ≡ None → (super_check (super_of i) ≡ None) × (image_log_check format i ≡ None)
checks_none format i h = by_parts (super_check (super_of i)) (image_log_check format i) h
  where
    by_parts : (a : Option ℕ) (c : Option LogFault)
        → ◌≡◌ {A = Option ℕ} (elim a [ Some check ↦ Some check | None ↦ elim c [ Some fault ↦ Some fault.check | None ↦ None ] ]) None
        → (a ≡ None) × (c ≡ None)
    by_parts (Some x) c h = cc
    by_parts None (Some x) h = cc
    by_parts None None h = (refl, refl)

pub checks_from : (format : Format) (i : Image) → super_check (super_of i) ≡ None → image_log_check format i ≡ None → first_check format i ≡ None
checks_from format i a c = by_parts (super_check (super_of i)) (image_log_check format i) a c
  where
    by_parts : (a : Option ℕ) (c : Option LogFault) → a ≡ None → c ≡ None
        → ◌≡◌ {A = Option ℕ} (elim a [ Some check ↦ Some check | None ↦ elim c [ Some fault ↦ Some fault.check | None ↦ None ] ]) None
    by_parts (Some x) c h m = cc
    by_parts None (Some x) h m = cc
    by_parts None None h m = refl

-- no entry of the log of a store is cut short
pub store_whole : (format : Format) (i : Image) → IsStore format i → IsWhole format 0 (log_lines i)
store_whole format i store = checked_whole format (super_of i).sizes (super_of i).start 0 (log_lines i) (checks_none format i store.checks).1 (omega arith)

-- the superblock of a store passes its checks
pub store_passes : (format : Format) (i : Image) → IsStore format i → SuperPasses (super_of i)
store_passes format i store = super_passes (super_of i) (checks_none format i store.checks).0

-- an image with the superblock and the log of a store is one
pub same_store : (format : Format) (i j : Image) → super_of i ≡ super_of j → log_lines i ≡ log_lines j → IsStore format j → IsStore format i
same_store format i j super_words log store =
    let checks : (super_check (super_of j) ≡ None) × (image_log_check format j ≡ None) = checks_none format j store.checks in
    record {
      magic_word = ap (λ (x : Super). x.magic_word) super_words ∙ store.magic_word;
      checks =
          let a : super_check (super_of i) ≡ None = ap super_check super_words ∙ checks.0 in
          let c : image_log_check format i ≡ None =
          ap (λ (x : Super). log_check format x.sizes x.start 0 (log_lines i)) super_words
          ∙ ap (λ (xs : List Line). log_check format (super_of j).sizes (super_of j).start 0 xs) log ∙ checks.1 in
          checks_from format i a c;
    }

pub alike_store : (format : Format) (i j : Image) → Alike i j → IsStore format j → IsStore format i
alike_store format i j alike store = same_store format i j alike.super_words alike.log store

-- and so is one whose log has more lines, which pass their checks and fit the ring
pub extends_store : (format : Format) (i j : Image) (xs : List Line) → Extends i j xs → IsStore format j → (super_of j).tail + length xs ≤ (super_of j).start + ring_lines (super_of j).sizes
    → ((at : ℕ) → log_check format (super_of j).sizes at 0 xs ≡ None) → IsStore format i
extends_store format i j xs extends store room passes =
    let checks : (super_check (super_of j) ≡ None) × (image_log_check format j ≡ None) = checks_none format j store.checks in
    record {
      magic_word = ap (λ (x : Super). x.magic_word) extends.super_words ∙ store.magic_word;
      checks =
          let a : super_check (super_of i) ≡ None = ap super_check extends.super_words ∙ super_check-none _ (tail_passes (super_of j) (length xs) (super_passes (super_of j) checks.0) room) in
          let c : image_log_check format i ≡ None =
          ap (λ (x : Super). log_check format x.sizes x.start 0 (log_lines i)) extends.super_words
          ∙ ap (λ (ys : List Line). log_check format (super_of j).sizes (super_of j).start 0 ys) extends.log
          ∙ log_check-append format (super_of j).sizes (super_of j).start 0 (log_lines j) xs (omega arith) checks.1 passes in
          checks_from format i a c;
    }
