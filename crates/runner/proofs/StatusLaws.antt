-- The statuses of a script's run, where damage was found.
use Rattle.std.proofs.Common.{◌≡◌, ◌⊎◌, inl, inr, ℕ, ◌≤◌, List, [], ◌∷◌, ◌++◌, Ok, refl, sym, ◌∙◌, ap, subst, append_assoc, arith, false, IsTrue}
use Rattle.std.specs.Prelude.{◌==◌}
use Rattle.std.specs.List.{list_any}
use Rattle.std.proofs.lemmas.Bool.{eqb-true, or_cases}
use Rattle.devices.specs.World.{Standing, WorldCall, Rose, sent}
use Rattle.damage.specs.declared.evidence.Evidence.{Evidence}
use Rattle.line_pages.specs.Lines.{Lines}
use Rattle.line_pages.specs.declared.stop.Stop.{Stop}
use Rattle.line_pages.specs.declared.stop.Stop.TheVariants.{Damaged}
use Rattle.script.specs.Machine.{State}
use Rattle.script.specs.Replies.{text}
use Rattle.engine.specs.declared.engine.Engine.{Engine}
use Rattle.engine.specs.Engine.{Shows, evidence_bytes}
use Rattle.damage.specs.DamageText.{damage_text}
use Rattle.runner.specs.declared.stop.Halt.{Halt}
use Rattle.runner.specs.declared.stop.Halt.TheVariants.{Store}
use Rattle.runner.specs.Cause.{Shown, Caused, HaltsByFault}
use Rattle.runner.specs.Sent.{SendsBytes, SendsReplies}
use Rattle.runner.proofs.CauseLaws.{shown_later}
use Rattle.engine.specs.Resting.{IsPageOf}
use Rattle.runner.specs.Resting.{IsHaltOf}
use Rattle.runner.specs.Statuses.{IsOneOf, IsFirstPage, Told, ScriptCauses}

-- ---- the text of damage

-- what was shown is told
pub told_by : {T E : Type 0} {v : T} (page bytes : List ℕ) (kept : Evidence) (before engine : Engine) (begin old new : Standing) → bytes ≡ page → WorldCall old new → new.outside.input ≡ old.outside.input → (IsTrue old.told → SendsBytes {T = T} {E = E} (damage_text kept bytes) old new (Ok v))
    → Shown page kept engine begin old → IsFirstPage before begin page kept old → (IsTrue old.told → SendsReplies begin old) → Told before begin engine new
told_by page bytes kept before engine begin old new is call same writes shown first said = record {
  kept = kept;
  page = bytes;
  shown = subst (λ (p : List ℕ). Shown p kept engine begin new) (sym is) (shown_later page kept engine begin old new call.goes shown);
  first = λ told lines taken rests input are.
      subst (λ (p : List ℕ). IsPageOf lines p kept) (sym is) (first told lines taken rests (input ∙ ap (λ (l : List ℕ). taken ++ l) same) are);
  ends = λ told.
      let before_it = said (subst IsTrue call.goes.told told) in (
        before_it.replies,
        (writes (subst IsTrue call.goes.told told)).ok
            ∙ ap (λ (l : List ℕ). l ++ damage_text kept bytes) before_it.sends
            ∙ append_assoc (sent begin) (text before_it.replies) (damage_text kept bytes),
      );
}

-- ---- an error that is damage

module _ (why : Halt) (stop : Stop) (kept : Evidence) (first : why ≡ Store stop) (second : stop ≡ Damaged kept) where
  is_damage : why ≡ Store (Damaged kept)
  is_damage = first ∙ ap (λ (x : Stop). Store x) second

  -- it is no fault
  pub no_fault : HaltsByFault why → ⊥
  no_fault fault = subst HaltsByFault is_damage fault

  -- and its evidence is shown
  pub shown_of : (old : Standing) (engine : Engine) (new : Standing) → Caused why old engine new → Shown (evidence_bytes engine) kept engine old new
  shown_of old engine new caused = subst (λ (x : Halt). Caused x old engine new) is_damage caused

  -- and of these lines, if it is so of the error
  pub page_of : (lines : Lines) (buffer : List ℕ) → IsHaltOf lines buffer why → IsPageOf lines buffer kept
  page_of lines buffer shows = subst (λ (x : Halt). IsHaltOf lines buffer x) is_damage shows

-- ---- its status

-- a count that rose behind other calls
pub rose_on : {a b c : ℕ} → a ≤ b → Rose b c → Rose a c
rose_on low rose = omega arith

-- the status is one of two
two_of : (status : ℕ) → IsOneOf status (5 ∷ 9 ∷ []) → (status ≡ 5) ⊎ (status ≡ 9)
two_of status is =
    elim (or_cases (5 == status) (list_any (λ code. code == status) (9 ∷ [])) is) [
      | inl here ↦ inl (sym (eqb-true 5 status here))
      | inr rest ↦ elim (or_cases (9 == status) false rest) [ inl here ↦ inr (sym (eqb-true 9 status here)) | inr wrong ↦ absurd (cc) ]
    ]

module _ (limit : ℕ) (before : Engine) (old : Standing) (after : Engine) (new : Standing) where
  damage_told : Told before old after new → (IsTrue old.told → (s : State) → Shows before old s → ⊥) → ScriptCauses limit before old after new 5
  damage_told told sound = record {
    known = refl;
    done = λ e. absurd (omega arith);
    damage = λ e. told;
    nvm = λ e. absurd (omega arith);
    ssd = λ e. absurd (omega arith);
    source = λ e. absurd (omega arith);
    sink = λ e. absurd (omega arith);
    long = λ told. record { only = λ e. absurd (omega arith); comes = λ over. refl };
    sound = λ told s shows. absurd (sound told s shows);
  }

  not_sent : Rose old.outside.sink_faults new.outside.sink_faults → ScriptCauses limit before old after new 9
  not_sent rose = record {
    known = refl;
    done = λ e. absurd (omega arith);
    damage = λ e. absurd (omega arith);
    nvm = λ e. absurd (omega arith);
    ssd = λ e. absurd (omega arith);
    source = λ e. absurd (omega arith);
    sink = λ e. rose;
    long = λ told. record { only = λ e. absurd (omega arith); comes = λ over. refl };
    sound = λ told s shows e. absurd (omega arith);
  }

  -- where damage was found, and its text was sent or not
  pub damaged_causes : (status : ℕ) → IsOneOf status (5 ∷ 9 ∷ []) → (status ≡ 5 → Told before old after new) → (status ≡ 9 → Rose old.outside.sink_faults new.outside.sink_faults)
      → (IsTrue old.told → (s : State) → Shows before old s → ⊥) → ScriptCauses limit before old after new status
  damaged_causes status is told sink sound =
      elim (two_of status is) [
        | inl five ↦ subst (λ (n : ℕ). ScriptCauses limit before old after new n) (sym five) (damage_told (told five) sound)
        | inr nine ↦ subst (λ (n : ℕ). ScriptCauses limit before old after new n) (sym nine) (not_sent (sink nine))
      ]
