-- How lists of device calls join: none, and one more in a loop.
use Rattle.std.proofs.Common.{◌≡◌, ℕ, zero, suc, ◌+◌, ◌-◌, ◌<◌, List, [], ◌∷◌, ◌++◌, refl, sym, ap, ◌∙◌, subst, arith, Result, Ok, Err}
use Rattle.std.specs.Prelude.{IsErr}
use Rattle.nvm_model.specs.declared.line.Line.{Line}
use Rattle.devices.specs.State.{Call}
use Rattle.devices.specs.State.Call.{flush}
use Rattle.devices.specs.World.{Standing, Goes, MakesAll, Makes}
use Rattle.devices.proofs.CallLaws.{makes_one, makes_then, makes_stop}
use Rattle.devices.proofs.JoinLaws.{Moments-at}
use Rattle.flat_nvm_log.specs.Puts.{line_put}
use Rattle.flat_recovery.specs.Calls.{flush_calls}

-- no call was made
pub makes_none : {E : Type 0} (a : Standing) → MakesAll {T = Unit {0}} {E = E} [] a a (Ok tt)
makes_none a = record { whole = λ told. refl; part = λ told. Moments-at refl }

-- the same calls, by another list
pub makes_as : {T E : Type 0} {old new : Standing} {r : Result T E} {calls calls' : List Call} → calls ≡ calls' → MakesAll calls old new r → MakesAll calls' old new r
makes_as {old = old} {new = new} {r = r} e makes = subst (λ (cs : List Call). MakesAll cs old new r) e makes

-- lines that are flushed, and those behind them
pub flush_calls-more : (first n m : ℕ) → flush_calls first (n + m) ≡ flush_calls first n ++ flush_calls (first + n) m
flush_calls-more first zero m = ap (λ k. flush_calls first k) (omega arith) ∙ ap (λ k. flush_calls k m) (omega arith)
flush_calls-more first (suc n) m =
    let e : suc n + m ≡ suc (n + m) = omega arith in
    let f : first + 1 + n ≡ first + suc n = omega arith in
    ap (λ k. flush_calls first k) e ∙ ap (λ (cs : List Call). flush first ∷ cs) (flush_calls-more (first + 1) n m ∙ ap (λ k. flush_calls (first + 1) n ++ flush_calls k m) f)

-- one more line was flushed
pub flush_more : {E : Type 0} (first i : ℕ) {a b c : Standing} → Goes a b → Goes b c → MakesAll {T = Unit {0}} {E = E} (flush_calls first i) a b (Ok tt) → Makes {T = Unit {0}} {E = E} (flush (first + i)) b c (Ok tt)
    → MakesAll {T = Unit {0}} {E = E} (flush_calls first (i + 1)) a c (Ok tt)
flush_more first i p q front back = makes_as (sym (flush_calls-more first i 1)) (makes_then p q front (makes_one back))

-- one more line was to be flushed
pub flush_stopped : {T E : Type 0} (first i count : ℕ) → i < count → {a b c : Standing} {e : E} (r : Result T E) → IsErr r → Goes a b → Goes b c → MakesAll {T = Unit {0}} {E = E} (flush_calls first i) a b (Ok tt)
    → Makes {T = Unit {0}} {E = E} (flush (first + i)) b c (Err e) → MakesAll (flush_calls first count) a c r
flush_stopped first i count less r failed p q front back =
    let n : i + (1 + (count - i - 1)) ≡ count = omega arith in
    makes_as (sym (flush_calls-more first i (1 + (count - i - 1))) ∙ ap (λ k. flush_calls first k) n)
    (makes_then p q front (makes_as (sym (flush_calls-more (first + i) 1 (count - i - 1))) (makes_stop (flush_calls (first + i + 1) (count - i - 1)) r failed (makes_one back))))

-- a line was put, whose value is known
pub put_is : {T E : Type 0} {old new : Standing} {r : Result T E} (at : ℕ) {v value : Line} → v ≡ value → MakesAll (line_put at v) old new r → MakesAll (line_put at value) old new r
put_is at e makes = makes_as (ap (λ (x : Line). line_put at x) e) makes

-- lines were flushed, which are known
pub flushes_are : {T E : Type 0} {old new : Standing} {r : Result T E} {a b n m : ℕ} → a ≡ b → n ≡ m → MakesAll (flush_calls a n) old new r → MakesAll (flush_calls b m) old new r
flushes_are {b = b} {n = n} e f makes = makes_as (ap (λ k. flush_calls k n) e ∙ ap (λ k. flush_calls b k) f) makes
