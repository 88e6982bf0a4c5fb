-- What follows of what reading a superblock answers.
use Rattle.std.proofs.Common.{◌≡◌, ℕ, ◌+◌, ◌-◌, ◌*◌, ◌^◌, Bool, true, false, not, ◌||◌, eqb, ltb, cond, List, refl, sym, ap, ◌∙◌, subst, IsTrue, Option, Some, None, Result, Ok, Err}
use Rattle.devices.specs.State.{current}
use Rattle.devices.specs.World.{Standing, now}
use Rattle.damage.specs.declared.evidence.Evidence.{Evidence}
use Rattle.store_model.specs.Recovered.{Super, super_of, super_check}
use Rattle.std.specs.Prelude.{IfOk}
use Rattle.std.proofs.lemmas.Bool.{or_parts, ltb-false, cond-false}
use Rattle.store_model.specs.Layout.{is_allowed, nvm_lines, ssd_blocks, ring_lines, ring_blocks, floor64}
use Rattle.store_model.specs.Format.{magic}
use Rattle.store_model.specs.Format.Format.{whole_lines}
use Rattle.nvm_layout.specs.Sizes.{sizes_of}
use Rattle.nvm_layout.specs.Gates.{gates_of}
use Rattle.nvm_layout.specs.Opening.{IsOpen, Finding, finding, out_of_order, super_from, IsAnswer, Answers, NoFault, SuperCause}
use Rattle.nvm_layout.specs.Opening.Finding.{another, too_small, ended, sound, fails}
use Rattle.nvm_layout.specs.declared.superblock.Super.{Super as Gates}
use Rattle.nvm_layout.specs.declared.errors.SuperError.{SuperError}
use Rattle.nvm_layout.specs.declared.errors.SuperError.TheVariants.{Nvm, NotAStore, TooSmall, LogEnded, Damaged}

-- an answer that the words give counts no fault
pub answer_counted : (name : ℕ) (words : List ℕ) (what : Finding) (old new : Standing) (r : Result Gates SuperError) → IsAnswer name words what r → NoFault old new
    → new.block_reads ≡ old.block_reads → SuperCause old new r
answer_counted name words what old new (Ok gates) answer none reads = record { failed = tt; done = none; reads = reads }
answer_counted name words what old new (Err Nvm) answer none reads = absurd answer
answer_counted name words what old new (Err NotAStore) answer none reads = record { failed = none; done = tt; reads = reads }
answer_counted name words what old new (Err TooSmall) answer none reads = record { failed = none; done = tt; reads = reads }
answer_counted name words what old new (Err LogEnded) answer none reads = record { failed = none; done = tt; reads = reads }
answer_counted name words what old new (Err (Damaged kept)) answer none reads = record { failed = none; done = tt; reads = reads }

-- the sizes of the devices are those that they tell
pub answer_at : (name : ℕ) (words : List ℕ) (a b l k : ℕ) (sup : Super) (r : Result Gates SuperError) → a ≡ l → b ≡ k → IsAnswer name words (finding a b sup) r
    → IsAnswer name words (finding l k sup) r
answer_at name words a b l k sup r e f answer = subst (λ n. IsAnswer name words (finding l n sup) r) f (subst (λ n. IsAnswer name words (finding n b sup) r) e answer)

-- The tests of a superblock that is sound.
pub record Tests (lines blocks : ℕ) (sup : Super) : Type 0 where
  pub allowed : not (is_allowed sup.sizes) ≡ false
  pub fits : (ltb lines (nvm_lines sup.sizes) || ltb blocks (ssd_blocks sup.sizes)) ≡ false
  pub going_on : ltb (2 ^ 61) sup.tail ≡ false
  pub ordered : out_of_order sup ≡ false
  pub in_ring : ltb (ring_lines sup.sizes) (sup.tail - sup.drained) ≡ false
  pub in_blocks : ltb (floor64 sup.start + 64 * ring_blocks sup.sizes) sup.drained ≡ false

sound_tests : (lines blocks : ℕ) (sup : Super) → finding lines blocks sup ≡ sound → Tests lines blocks sup
sound_tests lines blocks sup h =
    let all : _ = by_tests (not (eqb sup.magic_word (magic whole_lines))) (not (is_allowed sup.sizes)) (ltb lines (nvm_lines sup.sizes) || ltb blocks (ssd_blocks sup.sizes))
    (ltb (2 ^ 61) sup.tail) (out_of_order sup)
    (ltb (ring_lines sup.sizes) (sup.tail - sup.drained)) (ltb (floor64 sup.start + 64 * ring_blocks sup.sizes) sup.drained) h in
    record { allowed = all.0; fits = all.1; going_on = all.2; ordered = all.3; in_ring = all.4; in_blocks = all.5 }
  where
    by_tests : (a b c d e f g : Bool) → cond a another (cond b (fails 1) (cond c too_small (cond d ended (cond e (fails 2) (cond f (fails 3) (cond g (fails 4) sound)))))) ≡ sound
        → (b ≡ false) × (c ≡ false) × (d ≡ false) × (e ≡ false) × (f ≡ false) × (g ≡ false)
    by_tests true b c d e f g h = cc
    by_tests false true c d e f g h = cc
    by_tests false false true d e f g h = cc
    by_tests false false false true e f g h = cc
    by_tests false false false false true f g h = cc
    by_tests false false false false false true g h = cc
    by_tests false false false false false false true h = cc
    by_tests false false false false false false false h = (refl, refl, refl, refl, refl, refl)

number_of : Finding → Option ℕ
number_of another = None
number_of too_small = None
number_of ended = None
number_of sound = None
number_of (fails n) = Some n

-- a check that is found to fail is the first that does
pub fails_check : (lines blocks : ℕ) (sup : Super) (check : ℕ) → finding lines blocks sup ≡ fails check → super_check sup ≡ Some check
unfolding number_of
fails_check lines blocks sup check h =
    by_tests (not (eqb sup.magic_word (magic whole_lines))) (not (is_allowed sup.sizes)) (ltb lines (nvm_lines sup.sizes) || ltb blocks (ssd_blocks sup.sizes))
    (ltb (2 ^ 61) sup.tail) (out_of_order sup)
    (ltb (ring_lines sup.sizes) (sup.tail - sup.drained)) (ltb (floor64 sup.start + 64 * ring_blocks sup.sizes) sup.drained) (ap number_of h)
  where
    by_tests : (a b c d e f g : Bool)
        → number_of (cond a another (cond b (fails 1) (cond c too_small (cond d ended (cond e (fails 2) (cond f (fails 3) (cond g (fails 4) sound))))))) ≡ Some check
        → cond b (Some 1) (cond e (Some 2) (cond f (Some 3) (cond g (Some 4) None))) ≡ Some check
    by_tests true b c d e f g h = cc
    by_tests false true c d e f g h = h
    by_tests false false true d e f g h = cc
    by_tests false false false true e f g h = cc
    by_tests false false false false true f g h = h
    by_tests false false false false false true g h = h
    by_tests false false false false false false true h = h
    by_tests false false false false false false false h = cc

-- The evidence of damage fails the check that it names, and where the device is told it has the words of the superblock.
pub damaged_fails : (old : Standing) (kept : Evidence) (answers : Answers old (Err (Damaged kept))) → super_check (super_from answers.name answers.words) ≡ Some (answers.answer).check
damaged_fails old kept answers = fails_check old.lines old.blocks (super_from answers.name answers.words) (answers.answer).check (answers.answer).fails_it

pub opened_super : (old : Standing) (gates : Gates) → IsTrue old.told → Answers old (Ok gates) → super_of (current (now old)) ≡ gates_of gates
opened_super old gates told answers =
    ap (λ (xs : List ℕ). super_from ((current (now old)).nvm 0 0) xs) (sym (answers.held told))
    ∙ ap (λ n. super_from n answers.words) (sym (answers.held_name told)) ∙ sym (answers.answer).1

pub opened_sound : (old : Standing) (gates : Gates) → Answers old (Ok gates) → IsOpen old.lines old.blocks gates
opened_sound old gates answers =
    let tests : Tests old.lines old.blocks (gates_of gates) =
    subst (λ (x : Super). Tests old.lines old.blocks x) (sym (answers.answer).1) (sound_tests old.lines old.blocks (super_from answers.name answers.words) (answers.answer).0) in
    let sizes : (ltb old.lines (nvm_lines (sizes_of gates.geometry)) ≡ false) × (ltb old.blocks (ssd_blocks (sizes_of gates.geometry)) ≡ false) = or_parts _ _ tests.fits in
    record {
      checks = cond-false (not (is_allowed (sizes_of gates.geometry))) (Some 1) _ tests.allowed ∙ cond-false (out_of_order (gates_of gates)) (Some 2) _ tests.ordered
          ∙ cond-false (ltb (ring_lines (sizes_of gates.geometry)) (gates.tail - gates.drained)) (Some 3) _ tests.in_ring
          ∙ cond-false (ltb (floor64 gates.start + 64 * ring_blocks (sizes_of gates.geometry)) gates.drained) (Some 4) None tests.in_blocks;
      nvm = ltb-false old.lines (nvm_lines (sizes_of gates.geometry)) sizes.0;
      ssd = ltb-false old.blocks (ssd_blocks (sizes_of gates.geometry)) sizes.1;
      tail = ltb-false (2 ^ 61) gates.tail tests.going_on;
    }

-- what follows for any answer
pub answer_opened : (old : Standing) (r : Result Gates SuperError) → IsTrue old.told → Answers old r → IfOk r (λ gates. super_of (current (now old)) ≡ gates_of gates)
answer_opened old (Ok gates) told answers = opened_super old gates told answers
answer_opened old (Err why) told answers = tt

pub answer_sound : (old : Standing) (r : Result Gates SuperError) → Answers old r → IfOk r (λ gates. IsOpen old.lines old.blocks gates)
answer_sound old (Ok gates) answers = opened_sound old gates answers
answer_sound old (Err why) answers = tt
