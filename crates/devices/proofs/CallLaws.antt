-- How the promises of calls join, for functions that make several.
use Rattle.std.proofs.Common.{List, [], ◌∷◌, ◌++◌, refl, sym, ap, ◌∙◌, subst, inl, inr, IsTrue, Result, Ok, Err}
use Rattle.std.specs.Prelude.{OnOk, IsErr}
use Rattle.std.proofs.lemmas.Result.{IfOk-from_err}
use Rattle.devices.specs.State.{State, Call, Amid, after, after_all}
use Rattle.devices.specs.World.{Standing, Goes, Makes, MakesAll, now}
use Rattle.devices.proofs.MomentLaws.{Moments-trans, Moments-map}
use Rattle.devices.proofs.GrowthLaws.{Part-none, after_all_append}

-- at the beginning nothing was done
Amid_start : (s : State) (calls : List Call) → Amid s calls s
Amid_start s [] = refl
Amid_start s (call ∷ calls) = inl (Part-none call s)

-- the moments of the first calls, and of those behind them
Amid_front : (xs ys : List Call) (s mid : State) → Amid s xs mid → Amid s (xs ++ ys) mid
Amid_front [] ys s mid at = subst (λ (x : State). Amid s ys x) (sym at) (Amid_start s ys)
Amid_front (x ∷ xs) ys s mid (inl part) = inl part
Amid_front (x ∷ xs) ys s mid (inr later) = inr (Amid_front xs ys (after x s) mid later)

Amid_back : (xs ys : List Call) (s mid : State) → Amid (after_all xs s) ys mid → Amid s (xs ++ ys) mid
Amid_back [] ys s mid at = at
Amid_back (x ∷ xs) ys s mid at = inr (Amid_back xs ys (after x s) mid at)

OnOk_map : {T E : Type 0} {P Q : Type 0} (r : Result T E) → (P → Q) → OnOk r P → OnOk r Q
OnOk_map (Ok v) f p = f p
OnOk_map (Err e) f p = tt

-- one call
pub makes_one : {T E : Type 0} {call : Call} {a b : Standing} {r : Result T E} → Makes call a b r → MakesAll (call ∷ []) a b r
makes_one makes = record { whole = makes.whole; part = λ told. record { each = λ m low high. inl ((makes.part told).each m low high) } }

-- calls that all were made, and those behind them
pub makes_then : {T E U : Type 0} {xs ys : List Call} {a b c : Standing} {v : U} {r : Result T E} → Goes a b → Goes b c → MakesAll {T = U} {E = E} xs a b (Ok v) → MakesAll ys b c r → MakesAll (xs ++ ys) a c r
makes_then {xs = xs} {ys = ys} {a = a} {b = b} {c = c} {r = r} first second front back = record {
  whole = λ told. OnOk_map r (λ e. e ∙ ap (after_all ys) (front.whole told) ∙ sym (after_all_append xs ys (now a))) (back.whole (subst (λ t. IsTrue t) (sym first.told) told));
  part = λ told. Moments-trans second
      (Moments-map (λ mid at. Amid_front xs ys (now a) mid at) (front.part told))
      (Moments-map (λ mid at. Amid_back xs ys (now a) mid (subst (λ (s : State). Amid s ys mid) (front.whole told) at)) (back.part (subst (λ t. IsTrue t) (sym first.told) told)));
}

-- calls of which one failed
pub makes_stop : {T U E F : Type 0} {xs : List Call} (ys : List Call) {a b : Standing} {e : F} (r : Result T E) → IsErr r → MakesAll {T = U} {E = F} xs a b (Err e) → MakesAll (xs ++ ys) a b r
makes_stop {xs = xs} ys {a = a} r failed front = record {
  whole = λ told. IfOk-from_err r (λ v. _) failed;
  part = λ told. Moments-map (λ mid at. Amid_front xs ys (now a) mid at) (front.part told);
}
