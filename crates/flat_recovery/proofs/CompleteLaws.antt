-- A store that fits its devices is opened, but for a fault or want of memory.
use Rattle.std.proofs.Common.{◌≡◌, ◌⊎◌, ℕ, ◌-◌, ◌≤◌, ◌^◌, Bool, false, not, ◌||◌, eqb, ltb, cond, List, refl, sym, ap, ◌∙◌, inl, inr, arith, slice_index, IsTrue, Some, None, Result, Ok, Err}
use Rattle.std.proofs.lemmas.Bool.{le-ltb, eq-eqb}
use Rattle.std.specs.Prelude.{IfErr}
use Rattle.devices.specs.State.{current}
use Rattle.devices.specs.World.{Standing, now}
use Rattle.damage.specs.declared.evidence.Evidence.{Evidence}
use Rattle.damage.specs.declared.evidence.Evidence.TheVariants as evidence
use Rattle.flat_nvm_layout.specs.Opening.{Finding, finding, super_from, sizes_from, IsEvidence}
use Rattle.flat_nvm_layout.specs.Opening.Finding.{another, too_small, ended, sound, fails}
use Rattle.flat_store_meaning.specs.Layout.{is_allowed, nvm_lines, ssd_blocks, ring_lines}
use Rattle.flat_store_meaning.specs.Format.{magic, LogFault}
use Rattle.flat_store_meaning.specs.Format.Format.{whole_lines}
use Rattle.flat_store_meaning.specs.Recovered.{Super, super_of, image_log_check}
use Rattle.flat_store_meaning.specs.Checked.{SuperPasses}
use Rattle.flat_store_meaning.proofs.CheckLaws.{checks_none, store_passes}
use Rattle.flat_recovery.specs.Heads.{IsLogEvidence}
use Rattle.flat_recovery.specs.Opening.{Answers, IsAnswer, IsFound, IsSuper, IsFirstIn, HoldsStore}
use Rattle.flat_recovery.specs.declared.opening.Parts.{Parts}
use Rattle.flat_recovery.specs.declared.errors.OpenError.{OpenError}
use Rattle.flat_recovery.specs.declared.errors.OpenError.TheVariants.{Nvm, Ssd, NotAStore, TooSmall, LogEnded, Damaged, NoMemory}

-- a sound superblock of devices that it fits
found_sound : (lines blocks : ℕ) (sup : Super) → sup.magic_word ≡ magic whole_lines → SuperPasses sup → nvm_lines sup.sizes ≤ lines → ssd_blocks sup.sizes ≤ blocks → sup.tail ≤ 2 ^ 61 → finding lines blocks sup ≡ sound
found_sound lines blocks sup name passes nvm ssd below =
    by_tests (not (eqb sup.magic_word (magic whole_lines))) (not (is_allowed sup.sizes)) (ltb lines (nvm_lines sup.sizes)) (ltb blocks (ssd_blocks sup.sizes))
    (ltb (2 ^ 61) sup.tail) (ltb sup.tail sup.start) (ltb (ring_lines sup.sizes) (sup.tail - sup.start))
    (ap not (eq-eqb sup.magic_word (magic whole_lines) name)) (ap not passes.sizes) (le-ltb lines (nvm_lines sup.sizes) nvm) (le-ltb blocks (ssd_blocks sup.sizes) ssd)
    (le-ltb (2 ^ 61) sup.tail below) (le-ltb sup.tail sup.start passes.started) (le-ltb (ring_lines sup.sizes) (sup.tail - sup.start) passes.in_ring)
  where
    by_tests : (a b c d e f h : Bool) → a ≡ false → b ≡ false → c ≡ false → d ≡ false → e ≡ false → f ≡ false → h ≡ false
        → cond a another (cond b (fails 1) (cond (c || d) too_small (cond e ended (cond f (fails 2) (cond h (fails 3) sound))))) ≡ sound
    by_tests a b c d e f h a₀ b₀ c₀ d₀ e₀ f₀ h₀ = rw (a₀, b₀, c₀, d₀, e₀, f₀, h₀) refl

pub complete : (a : Standing) (r : Result Parts OpenError) → (4 ≤ a.lines → Answers a r) → (IsTrue a.told → IsFound (current (now a)) r) → HoldsStore a → IfErr r (λ why. (why ≡ Nvm) ⊎ (why ≡ NoMemory))
complete a r answers finds holds =
    let nvm : nvm_lines (super_of (current (now a))).sizes ≤ a.lines = holds.nvm in
    let found : Answers a r = answers (omega arith) in
    let words_is : super_from found.name found.words ≡ super_of (current (now a)) =
    ap (λ n. super_from n found.words) (found.held_name holds.told) ∙ ap (super_from ((current (now a)).nvm 0 0)) (found.held holds.told) in
    let is : finding a.lines a.blocks (super_from found.name found.words) ≡ sound =
    ap (finding a.lines a.blocks) words_is
    ∙ found_sound a.lines a.blocks (super_of (current (now a))) holds.store.magic_word (store_passes whole_lines (current (now a)) holds.store) holds.nvm holds.ssd holds.tail in
    by_result r (finding a.lines a.blocks (super_from found.name found.words)) found.words is found.answer (finds holds.told)
  where
    no_fault : image_log_check whole_lines (current (now a)) ≡ None
    no_fault = (checks_none whole_lines (current (now a)) holds.store.checks).1

    clash : (fault : LogFault) → image_log_check whole_lines (current (now a)) ≡ Some fault → ⊥
    clash fault some = let both : Some fault ≡ None = sym some ∙ no_fault in absurd (cc)

    by_damage : (kept : Evidence) (what : Finding) (words : List ℕ) → what ≡ sound → IsEvidence words what kept ⊎ ((what ≡ sound) × IsLogEvidence (sizes_from words) (slice_index words 7) kept)
        → IsSuper kept ⊎ IsFirstIn (current (now a)) kept → ⊥
    by_damage kept what words is (inl superblock) found = let both : fails superblock.check ≡ sound = sym superblock.fails_it ∙ is in absurd (cc)
    by_damage kept what words is (inr line) (inr first) = clash (first.fault) first.first
    by_damage kept what words is (inr line) (inl superblock) =
        let here : kept ≡ evidence.Log (line.1).offset (line.1).line (slice_index words 7) ((line.1).fault).check = ((line.1).fault).keeps in
        let both : evidence.Super superblock.words superblock.check ≡ evidence.Log (line.1).offset (line.1).line (slice_index words 7) ((line.1).fault).check = sym superblock.keeps ∙ here in absurd (cc)

    by_result : (r : Result Parts OpenError) (what : Finding) (words : List ℕ) → what ≡ sound → IsAnswer words what r → IsFound (current (now a)) r → IfErr r (λ why. (why ≡ Nvm) ⊎ (why ≡ NoMemory))
    by_result (Ok parts) what words is answer found = tt
    by_result (Err Nvm) what words is answer found = inl refl
    by_result (Err Ssd) what words is answer found = absurd answer
    by_result (Err NotAStore) what words is answer found = let both : another ≡ sound = sym answer ∙ is in absurd (cc)
    by_result (Err TooSmall) what words is answer found = let both : too_small ≡ sound = sym answer ∙ is in absurd (cc)
    by_result (Err LogEnded) what words is answer found = let both : ended ≡ sound = sym answer ∙ is in absurd (cc)
    by_result (Err (Damaged kept)) what words is answer found = absurd (by_damage kept what words is answer found)
    by_result (Err NoMemory) what words is answer found = inr refl
