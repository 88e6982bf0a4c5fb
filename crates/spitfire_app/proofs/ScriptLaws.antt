-- Why a run ends that answers a script.
use Rattle.std.proofs.Common.{◌≡◌, ◌≢◌, inl, inr, ℕ, ◌^◌, ◌<◌, ◌≤◌, List, [], ◌∷◌, ◌++◌, length, refl, sym, ◌∙◌, ap, subst, arith, IsTrue, Result, Ok}
use Rattle.std.proofs.lemmas.Result.{IfOk-at_ok}
use Rattle.devices.specs.World.{Standing, Outside, Goes, GoesOn, IsTimed, NoFault, Rose, now}
use Rattle.devices.proofs.MomentLaws.{Goes-sent}
use Rattle.damage.specs.DamageText.{damage_text}
use Rattle.script.specs.Replies.{text}
use Rattle.flat_nvm_layout.specs.Opening.{NoFault as NoneCame}
use Rattle.flat_transactions.specs.Order.{Sizes}
use Rattle.rows.specs.Tables.{Table}
use Rattle.script.specs.Machine.{opening as at_start}
use Rattle.flat_recovery.specs.declared.opening.Parts.{Parts}
use Rattle.flat_recovery.specs.declared.errors.OpenError.{OpenError}
use Rattle.engine.specs.declared.engine.Engine.{Engine}
use Rattle.flat_transactions.specs.OpenStore.{committed_lines}
use Rattle.engine.specs.Holds.{Holds}
use Rattle.engine.specs.Resting.{Rests}
use Rattle.engine.specs.Opening.{Opens as IsOpening, ShowsHeld}
use Rattle.runner.specs.Statuses.{IsOneOf, Exactly, Told, ScriptCauses}
use Rattle.runner.proofs.CauseLaws.{shown_since}
use Rattle.spitfire_app.specs.Promises.{RunCauses, NoFaultCame}
use Rattle.spitfire_app.proofs.StatusLaws.{first_or, only_one, none_of, quiet, rose_before, codes_of}
use Rattle.spitfire_app.proofs.CauseLaws.{found_ok, Ran, causes_of}

module _ (old mid : Standing) (timed : IsTimed old) (goes : Goes old mid) (engine : Engine) (opening : IsOpening old mid (Ok engine))
    (shows : IsTrue old.told → (g : Sizes) (T : List Table) → Holds g T (now old) → ShowsHeld g T mid engine) (rests : IsTrue old.told → Rests (committed_lines old) engine mid)
    (behind : Engine) (new : Standing) (next : GoesOn mid new) (status : ℕ) (script : ScriptCauses (2 ^ 32) engine mid behind new status)
    (read_all : IsTrue mid.told → status ≡ 0 → new.outside.input ≡ []) where
  found_parts : (parts : Parts) × (opening.found ≡ Ok parts)
  found_parts = found_ok opening.found engine opening.follows

  told_mid : IsTrue old.told → IsTrue mid.told
  told_mid told = subst IsTrue (sym goes.told) told

  none_before : NoneCame old mid
  none_before = IfOk-at_ok (λ (parts : Parts). NoneCame old mid) found_parts.1 opening.cause.done

  same_outside : mid.outside ≡ old.outside
  same_outside = goes.outside

  -- over devices that hold tables there is no damage
  script_sound : IsTrue old.told → (g : Sizes) (T : List Table) → Holds g T (now old) → status ≢ 5
  script_sound told g T holds = script.sound (told_mid told) (at_start T) (shows told g T holds).shows

  script_long : IsTrue old.told → Exactly status 12 (2 ^ 32 < length old.outside.input) (5 ∷ 6 ∷ 7 ∷ 8 ∷ 9 ∷ [])
  script_long told = subst (λ (o : Outside). Exactly status 12 (2 ^ 32 < length o.input) (5 ∷ 6 ∷ 7 ∷ 8 ∷ 9 ∷ [])) same_outside (script.long (told_mid told))

  script_ran : Ran old new opening.found status
  script_ran = record {
    is_one = subst (λ (r : Result Parts OpenError). IsOneOf status (codes_of r)) (sym found_parts.1) script.known;
    answers = opening.answers;
    small = opening.small;
    finds = opening.finds;
    done = λ is.
        let later : NoFault mid new = script.done is in
        record {
          nvm = later.nvm ∙ none_before.nvm;
          ssd = later.ssd ∙ none_before.ssd;
          settings = later.settings ∙ ap (λ (o : Outside). o.settings_faults) same_outside;
          source = later.source ∙ ap (λ (o : Outside). o.source_faults) same_outside;
          sink = later.sink ∙ ap (λ (o : Outside). o.sink_faults) same_outside;
        };
    read = λ told is. read_all (told_mid told) is;
    damage = λ is.
        let told : Told engine mid behind new = script.damage is in
        record {
          kept = told.kept;
          page = told.page;
          shows = inr (behind, shown_since told.page told.kept behind old mid new goes.clock told.shown);
          first = λ is_told taken same are. told.first (told_mid is_told) (committed_lines old) taken (rests is_told) (ap (λ (o : Outside). o.input) same_outside ∙ same) are;
          ends = λ is_told. ((told.ends is_told).0, (told.ends is_told).1 ∙ ap (λ (l : List ℕ). l ++ (text (told.ends is_told).0 ++ damage_text told.kept told.page)) (Goes-sent timed goes mid.clock goes.clock));
        };
    refused = λ among. none_of status (0 ∷ 5 ∷ 6 ∷ 7 ∷ 8 ∷ 9 ∷ 12 ∷ []) (3 ∷ 4 ∷ 11 ∷ 13 ∷ []) refl script.known among;
    nvm = λ is. rose_before old.nvm_faults mid.nvm_faults new.nvm_faults goes.nvm_faults (script.nvm is);
    ssd = λ is. rose_before old.ssd_faults mid.ssd_faults new.ssd_faults goes.ssd_faults (script.ssd is);
    source = λ is. subst (λ (o : Outside). Rose o.source_faults new.outside.source_faults) same_outside (script.source is);
    sink = λ is. subst (λ (o : Outside). Rose o.sink_faults new.outside.sink_faults) same_outside (script.sink is);
    long = λ parts same told. script_long told;
    sound = script_sound;
  }

  pub script_causes : RunCauses old new status
  script_causes = causes_of old new opening.found status script_ran

  -- where no fault comes it is done
  pub script_complete : IsTrue old.told → (g : Sizes) (T : List Table) → Holds g T (now old) → length old.outside.input ≤ 2 ^ 32 → NoFaultCame old new → status ≡ 0
  script_complete told g T holds few none = elim (first_or status 0 (5 ∷ 6 ∷ 7 ∷ 8 ∷ 9 ∷ 12 ∷ []) script.known) [
    | inl zero_status ↦ zero_status
    | inr a ↦ elim (first_or status 5 (6 ∷ 7 ∷ 8 ∷ 9 ∷ 12 ∷ []) a) [
      | inl five ↦ absurd (script_sound told g T holds five)
      | inr b ↦ elim (first_or status 6 (7 ∷ 8 ∷ 9 ∷ 12 ∷ []) b) [
        | inl six ↦ quiet old.nvm_faults new.nvm_faults none.nvm (script_ran.nvm six)
        | inr c ↦ elim (first_or status 7 (8 ∷ 9 ∷ 12 ∷ []) c) [
          | inl seven ↦ quiet old.ssd_faults new.ssd_faults none.ssd (script_ran.ssd seven)
          | inr d ↦ elim (first_or status 8 (9 ∷ 12 ∷ []) d) [
            | inl eight ↦ quiet old.outside.source_faults new.outside.source_faults none.source (script_ran.source eight)
            | inr e ↦ elim (first_or status 9 (12 ∷ []) e) [
              | inl nine ↦ quiet old.outside.sink_faults new.outside.sink_faults none.sink (script_ran.sink nine)
              | inr last ↦ (let long : 2 ^ 32 < length old.outside.input = (script_long told).only (only_one status 12 last) in absurd (omega arith))
            ]
          ]
        ]
      ]
    ]
  ]
