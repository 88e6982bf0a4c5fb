-- Why each status of a run comes, by what its opening found.
use Rattle.std.proofs.Common.{◌≡◌, ◌≢◌, ◌⊎◌, inl, inr, ℕ, ◌^◌, ◌<◌, ◌≤◌, List, [], ◌∷◌, length, refl, sym, ◌∙◌, ap, subst, arith, IsTrue, Result, Ok, Err}
use Rattle.std.proofs.lemmas.Bool.{cases_lt}
use Rattle.devices.specs.State.{current}
use Rattle.devices.specs.World.{Standing, NoFault, Rose, now}
use Rattle.flat_nvm_layout.specs.Opening.{Finding, finding, super_from}
use Rattle.flat_nvm_layout.specs.Opening.Finding.{another, too_small, ended, sound, fails}
use Rattle.flat_transactions.specs.Order.{Sizes}
use Rattle.rows.specs.Tables.{Table}
use Rattle.flat_recovery.specs.Opening.{Answers, IsAnswer, IsFound, FindsInLog}
use Rattle.flat_recovery.specs.declared.opening.Parts.{Parts}
use Rattle.flat_recovery.specs.declared.errors.OpenError.{OpenError}
use Rattle.flat_recovery.specs.declared.errors.OpenError.TheVariants.{TooSmall}
use Rattle.engine.specs.declared.engine.Engine.{Engine}
use Rattle.engine.specs.Holds.{Holds}
use Rattle.engine.specs.Opening.{Follows}
use Rattle.runner.specs.Statuses.{IsOneOf, Exactly}
use Rattle.spitfire_app.specs.Damage.{found_in, IsDamaged}
use Rattle.spitfire_app.specs.Promises.{Untouched, Opens, RunCauses}
use Rattle.spitfire_app.proofs.StatusLaws.{first_or, only_one, one_of, none_of, not_one, codes_of, known_of, refusal_of, codes_found, by_finding, is_another, is_small, is_ended, is_sound, comes_by}

pub found_err : (found : Result Parts OpenError) (why : OpenError) → Follows found (Err why) → found ≡ Err why
found_err (Ok parts) why follows = absurd follows
found_err (Err other) why follows = ap (λ (x : OpenError). Err x) (sym follows)

pub found_ok : (found : Result Parts OpenError) (engine : Engine) → Follows found (Ok engine) → (parts : Parts) × (found ≡ Ok parts)
found_ok (Ok parts) engine follows = (parts, refl)
found_ok (Err why) engine follows = absurd follows

-- What is known of a run that ends with this status.
pub record Ran (old new : Standing) (found : Result Parts OpenError) (status : ℕ) : Type 0 where
  pub is_one : IsOneOf status (codes_of found)
  pub answers : 4 ≤ old.lines → Answers old found
  pub small : old.lines < 4 → found ≡ Err TooSmall
  pub finds : FindsInLog old found
  pub done : status ≡ 0 → NoFault old new
  pub read : IsTrue old.told → status ≡ 0 → new.outside.input ≡ []
  pub damage : status ≡ 5 → IsDamaged old new
  pub refused : IsOneOf status (3 ∷ 4 ∷ 11 ∷ 13 ∷ []) → Untouched old new
  pub nvm : status ≡ 6 → Rose old.nvm_faults new.nvm_faults
  pub ssd : status ≡ 7 → Rose old.ssd_faults new.ssd_faults
  pub source : status ≡ 8 → Rose old.outside.source_faults new.outside.source_faults
  pub sink : status ≡ 9 → Rose old.outside.sink_faults new.outside.sink_faults
  pub long : (parts : Parts) → found ≡ Ok parts → IsTrue old.told → Exactly status 12 (2 ^ 32 < length old.outside.input) (5 ∷ 6 ∷ 7 ∷ 8 ∷ 9 ∷ [])
  pub sound : IsTrue old.told → (g : Sizes) (T : List Table) → Holds g T (now old) → status ≢ 5

module _ (old new : Standing) (found : Result Parts OpenError) (status : ℕ) (ran : Ran old new found status) where
  -- devices of a few lines
  few_is : old.lines < 4 → status ≡ 4
  few_is few = only_one status 4 (subst (λ (r : Result Parts OpenError). IsOneOf status (codes_of r)) (ran.small few) ran.is_one)

  many : {A : Type 0} (code : ℕ) → 4 ≢ code → status ≡ code → (4 ≤ old.lines → A) → A
  many code other is on = elim (cases_lt old.lines 4) [
    | inl few ↦ absurd (other (sym (few_is few) ∙ is))
    | inr some ↦ on some
  ]

  module _ (told : IsTrue old.told) where
    held_is : (some : 4 ≤ old.lines) → finding old.lines old.blocks (super_from (ran.answers some).name (ran.answers some).words) ≡ found_in old
    held_is some =
        ap (λ (n : ℕ). finding old.lines old.blocks (super_from n (ran.answers some).words)) ((ran.answers some).held_name told)
        ∙ ap (λ (words : List ℕ). finding old.lines old.blocks (super_from ((current (now old)).nvm 0 0) words)) ((ran.answers some).held told)

    by_found : 4 ≤ old.lines → IsOneOf status (6 ∷ codes_found (found_in old))
    by_found some =
        subst (λ (x : Finding). IsOneOf status (6 ∷ codes_found x)) (held_is some)
        (by_finding status found (ran.answers some).words (finding old.lines old.blocks (super_from (ran.answers some).name (ran.answers some).words)) (ran.answers some).answer ran.is_one)

    size_is : Exactly status 4 ((old.lines < 4) ⊎ ((4 ≤ old.lines) × (found_in old ≡ too_small))) (6 ∷ [])
    size_is = record {
      only = λ is. elim (cases_lt old.lines 4) [
        | inl few ↦ inl few
        | inr some ↦ inr (some, is_small status (found_in old) (by_found some) is)
      ];
      comes = λ condition. elim condition [
        | inl few ↦ subst (λ n. IsOneOf n (4 ∷ 6 ∷ [])) (sym (few_is few)) refl
        | inr small ↦ comes_by status (found_in old) too_small (4 ∷ 6 ∷ []) small.1 refl (by_found small.0)
      ];
    }

    magic_is : Exactly status 3 ((4 ≤ old.lines) × (found_in old ≡ another)) (6 ∷ [])
    magic_is = record {
      only = λ is. many 3 (λ e. omega arith) is (λ some. (some, is_another status (found_in old) (by_found some) is));
      comes = λ condition. comes_by status (found_in old) another (3 ∷ 6 ∷ []) condition.1 refl (by_found condition.0);
    }

    tail_is : Exactly status 13 ((4 ≤ old.lines) × (found_in old ≡ ended)) (6 ∷ [])
    tail_is = record {
      only = λ is. many 13 (λ e. omega arith) is (λ some. (some, is_ended status (found_in old) (by_found some) is));
      comes = λ condition. comes_by status (found_in old) ended (13 ∷ 6 ∷ []) condition.1 refl (by_found condition.0);
    }

    gates_are : (check : ℕ) → 4 ≤ old.lines → found_in old ≡ fails check → IsOneOf status (5 ∷ 6 ∷ 9 ∷ [])
    gates_are check some is = comes_by status (found_in old) (fails check) (5 ∷ 6 ∷ 9 ∷ []) is refl (by_found some)

    memory_is : status ≡ 11 → (4 ≤ old.lines) × (found_in old ≡ sound)
    memory_is is = many 11 (λ e. omega arith) is (λ some. (some, is_sound status (found_in old) (by_found some) is))

    -- a store that was opened
    opens_by : (parts : Parts) → found ≡ Ok parts → 4 ≤ old.lines → Opens old
    opens_by parts is some = record {
      lines = some;
      found = sym (held_is some)
          ∙ subst (λ (r : Result Parts OpenError). IsAnswer (ran.answers some).words (finding old.lines old.blocks (super_from (ran.answers some).name (ran.answers some).words)) r) is (ran.answers some).answer;
      log = subst (λ (r : Result Parts OpenError). IsFound (current (now old)) r) is (ran.finds told);
    }

    long_by : (r : Result Parts OpenError) → found ≡ r → Exactly status 12 (Opens old × (2 ^ 32 < length old.outside.input)) (5 ∷ 6 ∷ 7 ∷ 8 ∷ 9 ∷ 11 ∷ [])
    long_by (Ok parts) same = record {
      only = λ is. many 12 (λ e. omega arith) is (λ some. (opens_by parts same some, (ran.long parts same told).only is));
      comes = λ condition. one_of status (12 ∷ 5 ∷ 6 ∷ 7 ∷ 8 ∷ 9 ∷ []) (12 ∷ 5 ∷ 6 ∷ 7 ∷ 8 ∷ 9 ∷ 11 ∷ []) refl ((ran.long parts same told).comes condition.1);
    }
    long_by (Err why) same = record {
      only = λ is. not_one status 12 (3 ∷ 4 ∷ 5 ∷ 6 ∷ 7 ∷ 9 ∷ 11 ∷ 13 ∷ []) refl refused is;
      comes = λ condition.
          let one : IsOneOf status (6 ∷ 0 ∷ 5 ∷ 6 ∷ 7 ∷ 8 ∷ 9 ∷ 11 ∷ 12 ∷ []) = subst (λ (x : Finding). IsOneOf status (6 ∷ codes_found x)) (condition.0).found (by_found (condition.0).lines) in
          elim (first_or status 6 (0 ∷ 5 ∷ 6 ∷ 7 ∷ 8 ∷ 9 ∷ 11 ∷ 12 ∷ []) one) [
            | inl six ↦ subst (λ n. IsOneOf n (12 ∷ 5 ∷ 6 ∷ 7 ∷ 8 ∷ 9 ∷ 11 ∷ [])) (sym six) refl
            | inr later ↦ elim (first_or status 0 (5 ∷ 6 ∷ 7 ∷ 8 ∷ 9 ∷ 11 ∷ 12 ∷ []) later) [
              | inl none ↦ not_one status 0 (3 ∷ 4 ∷ 5 ∷ 6 ∷ 7 ∷ 9 ∷ 11 ∷ 13 ∷ []) refl refused none
              | inr rest ↦ one_of status (5 ∷ 6 ∷ 7 ∷ 8 ∷ 9 ∷ 11 ∷ 12 ∷ []) (12 ∷ 5 ∷ 6 ∷ 7 ∷ 8 ∷ 9 ∷ 11 ∷ []) refl rest
            ]
          ];
    }
      where
        refused : IsOneOf status (3 ∷ 4 ∷ 5 ∷ 6 ∷ 7 ∷ 9 ∷ 11 ∷ 13 ∷ [])
        refused = refusal_of status why (subst (λ (r : Result Parts OpenError). IsOneOf status (codes_of r)) same ran.is_one)

    opened_by : (r : Result Parts OpenError) → found ≡ r → IsOneOf status (0 ∷ 8 ∷ 12 ∷ []) → Opens old
    opened_by (Ok parts) same among = elim (cases_lt old.lines 4) [
      | inl few ↦ not_one status 4 (0 ∷ 8 ∷ 12 ∷ []) refl among (few_is few)
      | inr some ↦ opens_by parts same some
    ]
    opened_by (Err why) same among =
        none_of status (3 ∷ 4 ∷ 5 ∷ 6 ∷ 7 ∷ 9 ∷ 11 ∷ 13 ∷ []) (0 ∷ 8 ∷ 12 ∷ []) refl (refusal_of status why (subst (λ (r : Result Parts OpenError). IsOneOf status (codes_of r)) same ran.is_one)) among

  pub causes_of : RunCauses old new status
  causes_of = record {
    known = one_of status (codes_of found) (0 ∷ 3 ∷ 4 ∷ 5 ∷ 6 ∷ 7 ∷ 8 ∷ 9 ∷ 11 ∷ 12 ∷ 13 ∷ []) (known_of found) ran.is_one;
    done = ran.done;
    read = ran.read;
    opened = λ told among. opened_by told found refl among;
    few = few_is;
    size = λ told. size_is told;
    magic = λ told. magic_is told;
    tail = λ told. tail_is told;
    gates = λ told. gates_are told;
    memory = λ told. memory_is told;
    damage = ran.damage;
    refused = ran.refused;
    nvm = ran.nvm;
    ssd = ran.ssd;
    source = ran.source;
    sink = ran.sink;
    long = λ told. long_by told found refl;
    sound = ran.sound;
  }
