-- The shapes that the forms of a script line have: what follows the first word.
use Rattle.std.specs.Prelude.{ℕ, suc, List, Option, Some, None, option_map, nat_le, if◌then◌else◌}
use Rattle.rows.specs.Names.{name_of}
use Rattle.rows.specs.Value.{value_of}
use Rattle.texts.specs.Numbers.{key_of, number_below}
use Rattle.texts.specs.Fields.{◌>>=◌, field, remainder, at_end}

-- a number from 1 to the most
abbrev pub count_up_to : ℕ → List ℕ → Option ℕ
count_up_to most bytes = number_below (suc most) bytes >>= (λ n. if nat_le 1 n then Some n else None)

module _ {C : Type 0} where
  -- nothing
  abbrev pub bare : C → Option (List ℕ) → Option C
  bare make left = at_end make left

  -- T
  abbrev pub one_name : (List ℕ → C) → Option (List ℕ) → Option C
  one_name make left = field name_of left >>= (λ t. at_end (make t.0) t.1)

  -- T K
  abbrev pub name_key : (List ℕ → ℕ → C) → Option (List ℕ) → Option C
  name_key make left = field name_of left >>= (λ t. field key_of t.1 >>= (λ k. at_end (make t.0 k.0) k.1))

  -- T LO HI
  abbrev pub name_two_keys : (List ℕ → ℕ → ℕ → C) → Option (List ℕ) → Option C
  name_two_keys make left = field name_of left >>= (λ t. field key_of t.1 >>= (λ low. field key_of low.1 >>= (λ high. at_end (make t.0 low.0 high.0) high.1)))

  -- T K V: the value is all that is left
  abbrev pub name_key_value : (List ℕ → ℕ → List ℕ → C) → Option (List ℕ) → Option C
  name_key_value make left = field name_of left >>= (λ t. field key_of t.1 >>= (λ k. option_map (make t.0 k.0) (remainder value_of k.1)))

  -- N, from 1 to the most
  abbrev pub one_count : ℕ → (ℕ → C) → Option (List ℕ) → Option C
  one_count most make left = field (count_up_to most) left >>= (λ n. at_end (make n.0) n.1)
