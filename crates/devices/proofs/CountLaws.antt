-- The numbers of the calls that were kept.
use Rattle.std.proofs.Common.{◌≡◌, ℕ, ◌≤◌, List, [], ◌∷◌, ◌++◌, refl, ◌∙◌, ap, arith}
use Rattle.std.specs.Prelude.{true, false, nat_le, ◌+◌, ◌<◌, min, length}
use Rattle.devices.specs.World.{last_count}
use Rattle.devices.specs.MemWorld.{moment_after, Marked}
use Rattle.std.proofs.lemmas.Bool.Decides.{nat_tests}
use Rattle.std.proofs.lemmas.List.Folds.{list_all-append}
use Rattle.devices.specs.declared.step.Entry.{Entry}
use Rattle.devices.specs.declared.step.Step.{Step}
use Rattle.devices.specs.Past.{are_by}
use Rattle.devices.specs.Laws.{and_first, and_second}

at_most : (event n : ℕ) → nat_le event n ≡ true → event ≤ n
at_most event n test = grind (arith, nat_tests)

passes : (event n : ℕ) → event ≤ n → nat_le event n ≡ true
passes event n le = grind (arith, nat_tests)

pub by_more : (entries : List Entry) (n m : ℕ) → n ≤ m → are_by n entries ≡ true → are_by m entries ≡ true
by_more [] n m le all = refl
by_more (e ∷ entries) n m le all =
    let low : e.event ≤ n = at_most e.event n (and_first (nat_le e.event n) (are_by n entries) all) in
    rw (passes e.event m (omega arith), by_more entries n m le (and_second (nat_le e.event n) (are_by n entries) all)) refl

pub by_one : (entries later : List Entry) (event n : ℕ) (step : Step) → later ≡ entries ++ record { event = event; step = step } ∷ [] → event ≤ n → are_by n entries ≡ true → are_by n later ≡ true
by_one entries later event n step is le all =
    ap (are_by n) is ∙ list_all-append (λ (e : Entry). nat_le e.event n) entries (record { event = event; step = step } ∷ []) ∙ rw (all, passes event n le) refl

-- after all events, all calls
pub moment_all : (entries : List Entry) (events : ℕ) → are_by events entries ≡ true → moment_after entries events ≡ length entries
moment_all [] events all = refl
moment_all (e ∷ entries) events all =
    rw (and_first (nat_le e.event events) (are_by events entries) all, moment_all entries events (and_second (nat_le e.event events) (are_by events entries) all)) (omega arith)

late : (event n : ℕ) → n < event → nat_le event n ≡ false
late event n lt = grind (arith, nat_tests)

-- a call with a later number changes no moment
moment_more : (entries : List Entry) (e : Entry) (events : ℕ) → nat_le e.event events ≡ false → moment_after (entries ++ e ∷ []) events ≡ moment_after entries events
moment_more [] e events test = rw test refl
moment_more (first ∷ entries) e events test = rw (moment_more entries e events test) refl

pub marks_kept : (entries later : List Entry) (events new : ℕ) (step : Step) → later ≡ entries ++ record { event = new; step = step } ∷ [] → new ≡ min (events + 1) last_count → Marked entries later events new
marks_kept entries later events new step is counted = record {
  counted = counted;
  earlier = λ low n le.
      let e : Entry = record { event = new; step = step } in
      let behind : n < new = omega (arith, counted, low, le) in
      ap (λ (es : List Entry). moment_after es n) is ∙ moment_more entries e n (late new n behind);
}

pub marks_same : (entries later : List Entry) (events new : ℕ) → later ≡ entries → new ≡ min (events + 1) last_count → Marked entries later events new
marks_same entries later events new is counted = record { counted = counted; earlier = λ low n le. ap (λ (es : List Entry). moment_after es n) is }
