-- Where the records of the open group stand in the log.
use Rattle.std.proofs.Common.{◌≡◌, ℕ, zero, suc, ◌+◌, ◌-◌, ◌*◌, ◌<◌, ◌≤◌, List, [], ◌∷◌, ◌++◌, length, flat_map, refl, sym, ap, ◌∙◌, subst, arith}
use Rattle.nvm_model.specs.declared.line.Line.{Line}
use Rattle.devices.specs.State.{Image}
use Rattle.flat_store_meaning.specs.Layout.{Sizes}
use Rattle.flat_store_meaning.specs.Log.{Change}
use Rattle.flat_store_meaning.specs.Recovered.{Super, super_of, from, log_line}
use Rattle.flat_store_meaning.specs.Append.{head_line}
use Rattle.flat_store_laws.specs.OpenFacts.{super_with}
use Rattle.flat_store_laws.specs.OpenGroup.{OpenGroup, RecordAt, change_lines}

-- what stands behind the first lines
from_behind : (f : ℕ → Line) (at n : ℕ) (xs ys : List Line) → from f at n ≡ xs ++ ys → from f (at + length xs) (n - length xs) ≡ ys
from_behind f at n [] ys e =
    let place : at + 0 ≡ at = omega arith in
    let many : n - 0 ≡ n = omega arith in
    ap (λ o. from f o (n - 0)) place ∙ ap (λ m. from f at m) many ∙ e
from_behind f at zero (x ∷ xs) ys e = absurd (cc)
from_behind f at (suc n) (x ∷ xs) ys e =
    let rest : from f (at + 1) n ≡ xs ++ ys = cc in
    let place : at + suc (length xs) ≡ at + 1 + length xs = omega arith in
    let many : suc n - suc (length xs) ≡ n - length xs = omega arith in
    ap (λ o. from f o (suc n - suc (length xs))) place ∙ ap (λ m. from f (at + 1 + length xs) m) many ∙ from_behind f (at + 1) n xs ys rest

-- the first three lines, and those behind them
first_three : (f : ℕ → Line) (at n : ℕ) (x y z : Line) (zs : List Line) → from f at n ≡ x ∷ y ∷ z ∷ zs → (f at ≡ x) × (f (at + 1) ≡ y) × (from f (at + 1 + 1 + 1) (n - 3) ≡ zs)
first_three f at zero x y z zs e = absurd (cc)
first_three f at (suc zero) x y z zs e = absurd (cc)
first_three f at (suc (suc zero)) x y z zs e = absurd (cc)
first_three f at (suc (suc (suc n))) x y z zs e =
    let many : suc (suc (suc n)) - 3 ≡ n = omega arith in
    let rest : from f (at + 1 + 1 + 1) n ≡ zs = cc in
    (cc, cc, ap (λ m. from f (at + 1 + 1 + 1) m) many ∙ rest)

records_from : (f : ℕ → Line) (k at n : ℕ) (cs : List Change) → k < length cs → from f at n ≡ flat_map change_lines cs → RecordAt f (at + 3 * k) k cs
records_from f k at n [] less e = absurd (omega arith)
records_from f zero at n (c ∷ cs) less e =
    let three : (f at ≡ head_line 1 c.page c.line 0) × (f (at + 1) ≡ c.before) × (from f (at + 1 + 1 + 1) (n - 3) ≡ flat_map change_lines cs) =
    first_three f at n (head_line 1 c.page c.line 0) c.before c.after (flat_map change_lines cs) e in
    let place : at + 3 * 0 ≡ at = omega arith in
    record { change = c; rest = cs; next = refl; head = ap f place ∙ three.0; before = ap (λ o. f (o + 1)) place ∙ three.1 }
records_from f (suc k) at n (c ∷ cs) less e =
    let three : (f at ≡ head_line 1 c.page c.line 0) × (f (at + 1) ≡ c.before) × (from f (at + 1 + 1 + 1) (n - 3) ≡ flat_map change_lines cs) =
    first_three f at n (head_line 1 c.page c.line 0) c.before c.after (flat_map change_lines cs) e in
    let behind : RecordAt f (at + 1 + 1 + 1 + 3 * k) k cs = records_from f k (at + 1 + 1 + 1) (n - 3) cs (omega arith) three.2 in
    let place : at + 1 + 1 + 1 + 3 * k ≡ at + 3 * suc k = omega arith in
    record {
      change = behind.change;
      rest = behind.rest;
      next = behind.next;
      head = ap f (sym place) ∙ behind.head;
      before = ap (λ o. f (o + 1)) (sym place) ∙ behind.before;
    }

from_length : (f : ℕ → Line) (at n : ℕ) → length (from f at n) ≡ n
from_length f at zero = refl
from_length f at (suc n) = ap suc (from_length f (at + 1) n)

lines_length : (xs : List Line) (cs : List Change) → length (xs ++ flat_map change_lines cs) ≡ length xs + 3 * length cs
lines_length [] [] = refl
lines_length [] (c ∷ cs) = let rest : length (flat_map change_lines cs) ≡ 0 + 3 * length cs = lines_length [] cs in omega arith
lines_length (x ∷ xs) cs = let rest : length (xs ++ flat_map change_lines cs) ≡ length xs + 3 * length cs = lines_length xs cs in omega arith

module _ (g : Sizes) (start tail first : ℕ) (i : Image) (it : OpenGroup g start first i) (is : super_of i ≡ super_with g start tail) where
  same_lines : from (log_line g start i) start (tail - start) ≡ it.front ++ flat_map change_lines it.group
  same_lines = ap (λ (x : Super). from (log_line x.sizes x.drained i) x.start (x.tail - x.start)) (sym is) ∙ it.lines

  -- three lines a record, up to the tail
  pub group_tail : start ≤ tail → tail ≡ first + 3 * length it.group
  group_tail started =
      let begins : first ≡ start + length it.front = it.begins in
      let long : tail - start ≡ length it.front + 3 * length it.group =
      sym (from_length (log_line g start i) start (tail - start)) ∙ ap (λ (xs : List Line). length xs) same_lines ∙ lines_length it.front it.group in omega arith

  -- record k stands at its offset
  pub group_reads : (k : ℕ) → k < length it.group → RecordAt (log_line g start i) (first + 3 * k) k it.group
  group_reads k less =
      subst (λ o. RecordAt (log_line g start i) (o + 3 * k) k it.group) (sym it.begins)
      (records_from (log_line g start i) k (start + length it.front) (tail - start - length it.front) it.group less
      (from_behind (log_line g start i) start (tail - start) it.front (flat_map change_lines it.group) same_lines))
