-- Why a run ends whose opening finds damage.
use Rattle.std.proofs.Common.{◌≡◌, ◌≢◌, ◌⊎◌, inl, inr, ℕ, ◌-◌, ◌^◌, ◌≤◌, Bool, true, false, not, ◌||◌, eqb, ltb, cond, List, [], ◌∷◌, ◌++◌, refl, sym, ◌∙◌, ap, subst, slice_index, IsTrue, None, Some, Result, Ok, Err}
use Rattle.std.proofs.lemmas.Bool.{cases_lt, le-ltb, eq-eqb}
use Rattle.std.proofs.lemmas.Result.{IfErr-at_err}
use Rattle.ssd_model.specs.Page.{zero_page}
use Rattle.devices.specs.State.{current}
use Rattle.devices.specs.World.{Standing, Outside, Goes, Stays, WorldCall, OnlyChanges, IsTimed, Rose, now, sent}
use Rattle.devices.proofs.MomentLaws.{Goes-on, Goes-sent}
use Rattle.devices.proofs.JoinLaws.{Stays-trans}
use Rattle.damage.specs.declared.evidence.Evidence.{Evidence}
use Rattle.damage.specs.declared.evidence.Evidence.TheVariants as evidence
use Rattle.flat_nvm_layout.specs.Opening.{finding, super_from}
use Rattle.flat_nvm_layout.specs.Opening.Finding.{another, too_small, ended, sound, fails}
use Rattle.flat_store_meaning.specs.Layout.{Sizes, is_allowed, nvm_lines, ssd_blocks, ring_lines}
use Rattle.flat_store_meaning.specs.Format.{magic}
use Rattle.flat_store_meaning.specs.Format.Format.{whole_lines}
use Rattle.flat_store_meaning.specs.Recovered.{Super, super_of, image_log_check}
use Rattle.flat_store_meaning.specs.Checked.{SuperPasses}
use Rattle.flat_store_meaning.proofs.CheckLaws.{checks_none, store_passes}
use Rattle.rows.specs.Tables.{Table}
use Rattle.flat_recovery.specs.Opening.{Answers, FindsInLog, HoldsStore}
use Rattle.flat_recovery.specs.declared.opening.Parts.{Parts}
use Rattle.flat_recovery.specs.declared.errors.OpenError.{OpenError}
use Rattle.flat_recovery.specs.declared.errors.OpenError.TheVariants.{Nvm, TooSmall, Damaged, NoMemory}
use Rattle.line_pages.specs.Lines.{Lines}
use Rattle.flat_transactions.specs.OpenStore.{committed_lines}
use Rattle.engine.specs.Holds.{Holds}
use Rattle.engine.specs.Resting.{IsPageOf}
use Rattle.engine.specs.Opening.{Opens as IsOpening}
use Rattle.damage.specs.DamageText.{damage_text}
use Rattle.runner.specs.Statuses.{IsOneOf}
use Rattle.spitfire_app.specs.Damage.{IsOpeningDamage}
use Rattle.spitfire_app.specs.Promises.{RunCauses}
use Rattle.spitfire_app.proofs.StatusLaws.{none_of, not_one, codes_of}
use Rattle.spitfire_app.proofs.CauseLaws.{found_err, Ran, causes_of}

-- no check of a superblock fails that passes them
not_failing : (lines blocks : ℕ) (sup : Super) → sup.magic_word ≡ magic whole_lines → SuperPasses sup → (check : ℕ) → finding lines blocks sup ≡ fails check → ⊥
not_failing lines blocks sup name passes check is =
    by_tests (not (eqb sup.magic_word (magic whole_lines))) (not (is_allowed sup.sizes)) (ltb lines (nvm_lines sup.sizes) || ltb blocks (ssd_blocks sup.sizes)) (ltb (2 ^ 61) sup.tail) (ltb sup.tail sup.start)
    (ltb (ring_lines sup.sizes) (sup.tail - sup.start)) (ap not (eq-eqb sup.magic_word (magic whole_lines) name)) (ap not passes.sizes) (le-ltb sup.tail sup.start passes.started)
    (le-ltb (ring_lines sup.sizes) (sup.tail - sup.start) passes.in_ring) is
  where
    by_rest : (small past : Bool) → cond small too_small (cond past ended sound) ≡ fails check → ⊥
    by_rest true past is = absurd (cc)
    by_rest false true is = absurd (cc)
    by_rest false false is = absurd (cc)

    by_tests : (other wrong small past above long : Bool) → other ≡ false → wrong ≡ false → above ≡ false → long ≡ false
        → cond other another (cond wrong (fails 1) (cond small too_small (cond past ended (cond above (fails 2) (cond long (fails 3) sound))))) ≡ fails check → ⊥
    by_tests other wrong small past above long no_other no_wrong no_above no_long is = by_rest small past (rw (no_other, no_wrong, no_above, no_long) at is)

module _ (old : Standing) (told : IsTrue old.told) (g : Sizes) (T : List Table) (holds : Holds g T (now old)) (kept : Evidence) where
  no_fault : image_log_check whole_lines (current (now old)) ≡ None
  no_fault = (checks_none whole_lines (current (now old)) holds.is_store.is_sized.store.checks).1

  -- over devices that hold tables it finds none
  no_damage : {A : Type 0} → Answers old (Err (Damaged kept)) → FindsInLog old (Err (Damaged kept)) → A
  no_damage answers finds = elim answers.answer [
    | inl words ↦ absurd (not_failing old.lines old.blocks (super_of (current (now old))) holds.is_store.is_sized.store.magic_word
        (store_passes whole_lines (current (now old)) holds.is_store.is_sized.store) words.check (sym same ∙ words.fails_it))
    | inr line ↦ elim (finds told) [
      | inl superblock ↦ (
          let clash : evidence.Super superblock.words superblock.check ≡ evidence.Log (line.1).offset (line.1).line (slice_index answers.words 7) ((line.1).fault).check = sym superblock.keeps ∙ ((line.1).fault).keeps in
          absurd (cc)
          )
      | inr first ↦ (let clash : Some first.fault ≡ None = sym first.first ∙ no_fault in absurd (cc))
    ]
  ]
    where
      same : finding old.lines old.blocks (super_from answers.name answers.words) ≡ finding old.lines old.blocks (super_of (current (now old)))
      same =
          ap (λ (n : ℕ). finding old.lines old.blocks (super_from n answers.words)) (answers.held_name told)
          ∙ ap (λ (words : List ℕ). finding old.lines old.blocks (super_from ((current (now old)).nvm 0 0) words)) (answers.held told)

-- What a telling of damage leaves.
pub record Tells (kept : Evidence) (mid new : Standing) (status : ℕ) : Type 0 where
  pub call : WorldCall mid new
  pub rest : OnlyChanges false false true mid new
  pub known : IsOneOf status (5 ∷ 9 ∷ [])
  pub sink : status ≡ 9 → Rose mid.outside.sink_faults new.outside.sink_faults
  pub ends : IsTrue mid.told → status ≡ 5 → sent new ≡ sent mid ++ damage_text kept zero_page

module _ (old mid : Standing) (timed : IsTimed old) (goes : Goes old mid) (kept : Evidence) (opening : IsOpening old mid (Err (Damaged kept))) where
  damage_is : opening.found ≡ Err (Damaged kept)
  damage_is = found_err opening.found (Damaged kept) opening.follows

  some_lines : 4 ≤ old.lines
  some_lines = elim (cases_lt old.lines 4) [
    | inl few ↦ (let clash : ◌≡◌ {A = Result Parts OpenError} (Err (Damaged kept)) (Err TooSmall) = sym damage_is ∙ opening.small few in absurd (cc))
    | inr some ↦ some
  ]

  damage_answers : Answers old (Err (Damaged kept))
  damage_answers = subst (λ (r : Result Parts OpenError). Answers old r) damage_is (opening.answers some_lines)

  damage_finds : FindsInLog old (Err (Damaged kept))
  damage_finds = subst (λ (r : Result Parts OpenError). FindsInLog old r) damage_is opening.finds

  stays_mid : Stays old mid
  stays_mid told = IfErr-at_err (λ (x : OpenError). x ≢ Nvm → Stays old mid) damage_is (opening.nothing told) (λ same. absurd (cc)) told

  opening_damage : (new : Standing) → WorldCall mid new → IsOpeningDamage old new kept
  opening_damage new call = record {
    name = damage_answers.name;
    words = damage_answers.words;
    held_name = damage_answers.held_name;
    held = damage_answers.held;
    fails = damage_answers.answer;
    first = damage_finds;
    stays = Stays-trans (Goes-on goes) call.goes stays_mid call.stays;
  }

  -- it is of no page
  no_page : (lines : Lines) → IsPageOf lines zero_page kept
  no_page lines = elim damage_answers.answer [
    | inl words ↦ subst (λ (e : Evidence). IsPageOf lines zero_page e) (sym words.keeps) tt
    | inr line ↦ subst (λ (e : Evidence). IsPageOf lines zero_page e) (sym ((line.1).fault).keeps) tt
  ]

  -- it is none over devices that hold tables
  pub unsound : {A : Type 0} → IsTrue old.told → (g : Sizes) (T : List Table) → Holds g T (now old) → A
  unsound told g T holds = no_damage old told g T holds kept damage_answers damage_finds

  pub damaged_complete : {A : Type 0} → HoldsStore old → A
  damaged_complete holds = elim (IfErr-at_err (λ (x : OpenError). (x ≡ Nvm) ⊎ (x ≡ NoMemory)) damage_is (opening.complete holds)) [
    | inl nvm ↦ absurd (cc)
    | inr memory ↦ absurd (cc)
  ]

  module _ (new : Standing) (status : ℕ) (tells : Tells kept mid new status) where
    damaged_ran : Ran old new opening.found status
    damaged_ran = record {
      is_one = subst (λ (r : Result Parts OpenError). IsOneOf status (codes_of r)) (sym damage_is) tells.known;
      answers = opening.answers;
      small = opening.small;
      finds = opening.finds;
      done = λ is. not_one status 0 (5 ∷ 9 ∷ []) refl tells.known is;
      read = λ told is. not_one status 0 (5 ∷ 9 ∷ []) refl tells.known is;
      damage = λ is. record {
        kept = kept;
        page = zero_page;
        shows = inl (opening_damage new tells.call);
        first = λ told taken same are. no_page (committed_lines old);
        ends = λ told. ([], tells.ends (subst IsTrue tells.call.goes.told told) is ∙ ap (λ (l : List ℕ). l ++ damage_text kept zero_page) (Goes-sent timed goes mid.clock goes.clock));
      };
      refused = λ among. none_of status (5 ∷ 9 ∷ []) (3 ∷ 4 ∷ 11 ∷ 13 ∷ []) refl tells.known among;
      nvm = λ is. not_one status 6 (5 ∷ 9 ∷ []) refl tells.known is;
      ssd = λ is. not_one status 7 (5 ∷ 9 ∷ []) refl tells.known is;
      source = λ is. not_one status 8 (5 ∷ 9 ∷ []) refl tells.known is;
      sink = λ is. subst (λ (o : Outside). Rose o.sink_faults new.outside.sink_faults) goes.outside (tells.sink is);
      long = λ parts same told. let clash : ◌≡◌ {A = Result Parts OpenError} (Err (Damaged kept)) (Ok parts) = sym damage_is ∙ same in absurd (cc);
      sound = λ told g T holds is. unsound told g T holds;
    }

    pub damaged_causes : RunCauses old new status
    damaged_causes = causes_of old new opening.found status damaged_ran
