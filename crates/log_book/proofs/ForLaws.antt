-- How the clauses for all tiers join, stop, and follow from the calls that are made.
use Rattle.std.proofs.Common.{◌≡◌, ℕ, Bool, true, false, ◌||◌, List, refl, sym, ap, ◌∙◌, subst, IsTrue, Result, Ok, Err}
use mathlib.Core.Path.{fun_ext}
use Rattle.std.specs.Prelude.{OnOk, ◌==◌, ◌&&◌, if◌then◌else◌}
use Rattle.std.proofs.lemmas.Result.{err_from_is_err_and}
use Rattle.std.specs.Result.{IsErrAnd}
use Rattle.devices.proofs.MomentLaws.{Goes-refl, Goes-trans}
use Rattle.devices.specs.State.{State, Call, after_all}
use Rattle.devices.specs.World.{Standing, Goes, MakesAll, now}
use Rattle.line_pages.specs.declared.stop.Stop.{Stop}
use Rattle.store_model.specs.Layout.{Sizes}
use Rattle.device_calls.specs.Stops.{StopCause}
use Rattle.device_calls.specs.Leads.{ReadsAs, Steps, Made, Leads}
use Rattle.device_calls.proofs.LeadsLaws.{leads_then, leads_exit, leads_step, leads_ok, leads_none, cause_then, cause_stop, cause_none}
use Rattle.line_pages.specs.Pairs.{with_pair}
use Rattle.tier_facts.specs.Data.{Data, with_mark}
use Rattle.transaction_facts.specs.Books.{Goal}
use Rattle.nvm_layout.specs.Sizes.{sizes_of}
use Rattle.nvm_layout.specs.declared.geometry.Geometry.{Geometry}
use Rattle.nvm_log.specs.Offsets.{Offsets}
use Rattle.log_book.specs.LogData.{LogData}
use Rattle.log_book.specs.Calls.{ForTiers}

OnOk_with : {T E : Type 0} {P Q R : Type 0} (r : Result T E) → (P → Q → R) → OnOk r P → OnOk r Q → OnOk r R
OnOk_with (Ok v) f p q = f p q
OnOk_with (Err e) f p q = tt

OnOk_all : {T E : Type 0} {P : Type 0} (r : Result T E) → P → OnOk r P
OnOk_all (Ok v) p = p
OnOk_all (Err e) p = tt

pub OnOk_map : {T E : Type 0} {P Q : Type 0} (r : Result T E) → (P → Q) → OnOk r P → OnOk r Q
OnOk_map (Ok v) f p = f p
OnOk_map (Err e) f p = tt

-- the exit of a `?`
pub stopped : {T : Type 0} {why : Stop} (r : Result T Stop) → IsErrAnd r (λ y. y ≡ why) → r ≡ Err why
stopped {T} r is =
    let exit = err_from_is_err_and r is in
    let stop : Stop → Result T Stop = (λ (y : Stop). Err y) in
    exit.1 ∙ ap stop exit.2

-- what is promised of plain data is promised of those that a call which answers ok gives
pub leads_becomes : {X Aim T : Type 0} {Held A : Aim → State → Type 0} {a b : Standing} {r : Result T Stop} (F : X → Aim → State → Type 0) {x y : X} → OnOk r (y ≡ x) → Leads Held A (F x) a b r → Leads Held A (F y) a b r
leads_becomes {X = X} {r = r} F same call = record {
  goes = call.goes;
  cause = call.cause;
  calls = call.calls;
  makes = call.makes;
  facts = λ told aim s reads before. OnOk_with r (λ e held. subst (λ (z : X). F z aim (after_all call.calls s)) (sym e) held) same (call.facts told aim s reads before);
  moments = call.moments;
}

module _ {g : Sizes} {Held : Goal → State → Type 0} where
  -- from the calls that are made, and the steps that they are
  pub for_made : {X T : Type 0} {a b : Standing} {r : Result T Stop} {calls : List Call} {Before : Data → Goal → State → Type 0} (After : X → Data → Goal → State → Type 0) {x y : X}
      → OnOk r (y ≡ x) → Made calls a b r → ((t : Data) → t.sizes ≡ g → (goal : Goal) (s : State) → Before t goal s → Steps Held (After x t) calls goal s)
      → ForTiers g Held Before (After y) a b r
  for_made After same made steps = record { goes = made.goes; cause = made.cause; each = λ t sizes. leads_becomes (λ z. After z t) same (leads_step made (steps t sizes)) }

  -- no call
  pub for_none : {T : Type 0} {v : T} {a : Standing} {A : Data → Goal → State → Type 0} → ((t : Data) (goal : Goal) (s : State) → A t goal s → Held goal s) → ForTiers {T = T} g Held A A a a (Ok v)
  for_none {a = a} held = record { goes = Goes-refl a; cause = cause_none a; each = λ t sizes. leads_none (held t) (λ goal s it. it) }

  pub for_then : {T U : Type 0} {v : U} {a b c : Standing} {r : Result T Stop} {A B C : Data → Goal → State → Type 0}
      → ForTiers {T = U} g Held A B a b (Ok v) → ForTiers g Held B C b c r → ForTiers g Held A C a c r
  for_then first second = record { goes = Goes-trans first.goes second.goes; cause = cause_then first.cause second.cause; each = λ t sizes. leads_then (first.each t sizes) (second.each t sizes) }

  pub for_exit : {T U : Type 0} {why : Stop} {a b : Standing} {A B C : Data → Goal → State → Type 0} (r : Result T Stop) → IsErrAnd r (λ y. y ≡ why)
      → ForTiers {T = U} g Held A B a b (Err why) → ForTiers g Held A C a b r
  for_exit r is call = record { goes = call.goes; cause = cause_stop call.cause r (stopped r is); each = λ t sizes. leads_exit r is (call.each t sizes) }

  -- another value
  pub for_ok : {T U : Type 0} {v : U} {w : T} {a b : Standing} {A B : Data → Goal → State → Type 0} → ForTiers {T = U} g Held A B a b (Ok v) → ForTiers {T = T} g Held A B a b (Ok w)
  for_ok call = record { goes = call.goes; cause = record { failed = tt; nvm = call.cause.nvm; ssd = call.cause.ssd }; each = λ t sizes. leads_ok (call.each t sizes) }

  -- the exit where the calls stop
  pub for_stop : {X T U : Type 0} {why : Stop} {a b : Standing} {calls : List Call} {Before C : Data → Goal → State → Type 0} (After : X → Data → Goal → State → Type 0) (x : X) (r : Result T Stop)
      → IsErrAnd r (λ y. y ≡ why) → Made {T = U} calls a b (Err why) → ((t : Data) → t.sizes ≡ g → (goal : Goal) (s : State) → Before t goal s → Steps Held (After x t) calls goal s)
      → ForTiers g Held Before C a b r
  for_stop After x r is made steps = for_exit r is (for_made After {x = x} {y = x} tt made steps)

-- books of equal parts
pub data_is : (x y : LogData) → x.log ≡ y.log → x.loose ≡ y.loose → x.first ≡ y.first → x ≡ y
data_is x y log loose first = λ i. record { log = log i; loose = loose i; first = first i }

either_true : (x y : Bool) → (x || y) ≡ (if x then true else y)
either_true true y = refl
either_true false y = refl

-- a line that is put into the set is marked
pub pair_marked : (page line : ℕ) (marks : ℕ → ℕ → Bool) → with_pair page line marks ≡ with_mark page line true marks
pair_marked page line marks = fun_ext (λ p. fun_ext (λ l. either_true ((p == page) && (l == line)) (marks p l)))

-- the sizes by another name
pub for_sizes : {x y : Geometry} → x ≡ y → {Held : Goal → State → Type 0} {T : Type 0} {a b : Standing} {r : Result T Stop} {A B : Data → Goal → State → Type 0} → ForTiers (sizes_of x) Held A B a b r → ForTiers (sizes_of y) Held A B a b r
for_sizes same {Held} {a = a} {b = b} {r = r} {A = A} {B = B} call = subst (λ (z : Geometry). ForTiers (sizes_of z) Held A B a b r) same call

-- from the calls that are made, where what was read counts
pub for_seen : {g : Sizes} {Held : Goal → State → Type 0} {X T : Type 0} {a b : Standing} {r : Result T Stop} {calls : List Call} {Before : Data → Goal → State → Type 0} (After : X → Data → Goal → State → Type 0) {x y : X}
    → OnOk r (y ≡ x) → Goes a b → StopCause a b r → MakesAll calls a b r
    → (IsTrue a.told → (t : Data) → t.sizes ≡ g → (goal : Goal) (s : State) → ReadsAs s (now a) → Before t goal s → Steps Held (After x t) calls goal s)
    → ForTiers g Held Before (After y) a b r
for_seen {g} {Held} {a = a} {b = b} {r = r} {calls = calls} {Before = Before} After {x} same goes cause makes steps = record {
  goes = goes;
  cause = cause;
  each = λ t sizes. leads_becomes (λ z. After z t) same (record {
    goes = goes;
    cause = cause;
    calls = calls;
    makes = makes;
    facts = λ told goal s reads before. OnOk_all r ((steps told t sizes goal s reads before).facts);
    moments = λ told goal s reads before. (steps told t sizes goal s reads before).moments;
  });
}

pub offsets_is : (x y : Offsets) → x.start ≡ y.start → x.drained ≡ y.drained → x.tail ≡ y.tail → x.written ≡ y.written → x ≡ y
offsets_is x y start drained tail written = λ i. record { start = start i; drained = drained i; tail = tail i; written = written i }
