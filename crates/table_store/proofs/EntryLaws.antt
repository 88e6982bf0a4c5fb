-- The entry in a line of the catalog.
use Rattle.std.proofs.Common.{◌≡◌, ℕ, zero, suc, ◌+◌, ◌-◌, List, [], ◌∷◌, ◌++◌, length, take, drop, refl, ap, ◌∙◌, arith}
use Rattle.std.proofs.lemmas.List.{drop-replicate, take-replicate, take_at}
use Rattle.std.specs.Prelude.{true, replicate, nat_le, ◌&&◌}
use Rattle.std.specs.List.{list_all}
use Rattle.std.proofs.lemmas.Bool.{and_parts, and_from}
use borrow.Rule.Slice.PartMut.{post_of}
use Rattle.rows.specs.Names.{is_name, is_name_byte}
use Rattle.table_catalog.specs.Catalog.{name_in, is_name_field, is_zero}
use Rattle.table_store.specs.Created.{field_of}

-- a name put behind its length
pub field_put : (name : List ℕ) (k : ℕ) → k ≡ length name → post_of 1 k (length name ∷ 0 ∷ 0 ∷ 0 ∷ 0 ∷ 0 ∷ 0 ∷ 0 ∷ 0 ∷ 0 ∷ 0 ∷ 0 ∷ 0 ∷ 0 ∷ 0 ∷ 0 ∷ 0 ∷ 0 ∷ 0 ∷ 0 ∷ 0 ∷ 0 ∷ 0 ∷ 0 ∷ 0 ∷ 0 ∷ 0 ∷ 0 ∷ 0 ∷ 0 ∷ 0 ∷ 0 ∷ []) ≡ replicate (31 - length name) 0
field_put name k is = drop-replicate k 31 0 ∙ ap (λ n. replicate (31 - n) 0) is

-- the name is read back, and the field is one of a name
pub name_back : (name : List ℕ) → name_in (field_of name) ≡ name
unfolding field_of
name_back name = take_at name (replicate (31 - length name) 0) (1 + length name - 1) (omega arith)

zeros_hold : (n : ℕ) → list_all is_zero (replicate n 0) ≡ true
zeros_hold zero = refl
zeros_hold (suc n) = zeros_hold n

drop_front : (xs ys : List ℕ) → drop (length xs) (xs ++ ys) ≡ ys
drop_front [] ys = refl
drop_front (x ∷ xs) ys = drop_front xs ys

drop_past : (x k : ℕ) (l : List ℕ) → drop (1 + k) (x ∷ l) ≡ drop k l
drop_past x k l = let next : 1 + k ≡ suc k = omega arith in ap (λ (n : ℕ). drop n (x ∷ l)) next

pub field_named : (name : List ℕ) → is_name name ≡ true → is_name_field (field_of name) ≡ true
unfolding is_name_field field_of
field_named name is =
    let p = and_parts (nat_le 1 (length name) && nat_le (length name) 31) (list_all is_name_byte name) is in
    let named : list_all is_name_byte (take (1 + length name - 1) (name ++ replicate (31 - length name) 0)) ≡ true = rw (name_back_part name) p.1 in
    let behind : list_all is_zero (take (32 - (1 + length name)) (drop (1 + length name) (length name ∷ (name ++ replicate (31 - length name) 0)))) ≡ true = rw (drop_past (length name) (length name) (name ++ replicate (31 - length name) 0), drop_front name (replicate (31 - length name) 0), take-replicate {X = ℕ} (32 - (1 + length name)) (31 - length name) 0 (omega arith)) (zeros_hold (32 - (1 + length name))) in
    and_from (nat_le 1 (length name) && nat_le (length name) 31 && list_all is_name_byte (take (1 + length name - 1) (name ++ replicate (31 - length name) 0)))
    (list_all is_zero (take (32 - (1 + length name)) (drop (1 + length name) (length name ∷ (name ++ replicate (31 - length name) 0)))))
    (and_from (nat_le 1 (length name) && nat_le (length name) 31) (list_all is_name_byte (take (1 + length name - 1) (name ++ replicate (31 - length name) 0))) p.0 named) behind
  where
    name_back_part : (name : List ℕ) → take (1 + length name - 1) (name ++ replicate (31 - length name) 0) ≡ name
    name_back_part name = take_at name (replicate (31 - length name) 0) (1 + length name - 1) (omega arith)
