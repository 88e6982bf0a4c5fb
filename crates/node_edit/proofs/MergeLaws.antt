-- The entries of two neighbours, one after the other.
use Rattle.std.proofs.Common.{◌≡◌, ℕ, ◌+◌, ◌-◌, ◌<◌, ◌≤◌, ◌⊎◌, inl, inr, Bool, true, List, [], ◌∷◌, ◌++◌, length, get_or, Some, refl, sym, ap, subst, ◌∙◌, arith, length-append}
use Rattle.std.specs.List.{list_all}
use Rattle.std.proofs.lemmas.Bool.{le-leb, and_parts, and_from}
use Rattle.std.proofs.lemmas.List.{map-append}
use Rattle.rows.specs.Rows.{Row, keys, key_of, Ascends}
use Rattle.page_edit.specs.Cut.{rows_left, children_left}
use Rattle.page_format.specs.Node.{Child, leaf_rows, children, first_keys, begins_at, is_page_below, page_level, IsLeaf}
use Rattle.page_edit.specs.Join.{IsJoinedBranch, IsDividedBranch, IsJoined, IsDivided}
use Rattle.page_format.specs.Sound.{row_bytes}
use Rattle.page_format.proofs.RowLemmas.{row_bytes-append}
use Rattle.node_edit.specs.declared.pair.Pair.{Pair}
use Rattle.node_edit.specs.Edit.{part, Holds, Divides, AreChildren, left_of, right_of, whole_of, IsEnoughLeaf, IsEnoughInner, IsPair, IsCutIn}
use Rattle.rows.proofs.RowLaws.{Ascends-append}
use Rattle.node_edit.proofs.LeafLaws.{leaf_within, cut_divides}
use Rattle.node_edit.proofs.ChildEdits.{inner_within, cut_children_divide}

pub rows_order : (count : ℕ) (pair : Pair) (one two : List Row) → IsPair count pair → Ascends pair.low (pair.middle - 1) (keys one) → Ascends pair.middle pair.high (keys two) → Ascends pair.low pair.high (keys (one ++ two))
rows_order count pair one two is a b =
    subst (λ (ks : List ℕ). Ascends pair.low pair.high ks) (sym (map-append key_of one two))
    (Ascends-append pair.low (pair.middle - 1) pair.middle pair.high (keys one) (keys two) (omega (arith, is.order)) (omega (arith, is.order)) (omega (arith, is.within)) a b)

pub children_order : (count : ℕ) (pair : Pair) (one two : List Child) → IsPair count pair → Ascends pair.low (pair.middle - 1) (first_keys one) → Ascends pair.middle pair.high (first_keys two) → Ascends pair.low pair.high (first_keys (one ++ two))
children_order count pair one two is a b =
    subst (λ (ks : List ℕ). Ascends pair.low pair.high ks) (sym (map-append (λ (c : Child). c.0) one two))
    (Ascends-append pair.low (pair.middle - 1) pair.middle pair.high (first_keys one) (first_keys two) (omega (arith, is.order)) (omega (arith, is.order)) (omega (arith, is.within)) a b)

pub leaves_joined : (count : ℕ) (pair : Pair) (one two left : List ℕ) → length left ≡ 4096 → IsJoined one two left → Ascends pair.low pair.high (keys (leaf_rows one ++ leaf_rows two)) → (IsEnoughLeaf one ⊎ IsEnoughLeaf two)
    → Holds leaf_rows (whole_of count 0 pair) left (leaf_rows one ++ leaf_rows two)
leaves_joined count pair one two left size j order enough =
    let bytes : 1344 ≤ row_bytes (leaf_rows left) = omega (arith, ap row_bytes j.rows, row_bytes-append (leaf_rows one) (leaf_rows two), least enough) in
    record {
      well = leaf_within left (whole_of count 0 pair) size refl j.leaf (subst (λ (rows : List Row). Ascends pair.low pair.high (keys rows)) (sym j.rows) order) (le-leb 1344 (row_bytes (leaf_rows left)) bytes);
      are = j.rows;
    }
  where
    least : (IsEnoughLeaf one ⊎ IsEnoughLeaf two) → 1344 ≤ row_bytes (leaf_rows one) + row_bytes (leaf_rows two)
    least (inl a) = omega (arith, a)
    least (inr b) = omega (arith, b)

pub leaves_divided : (count : ℕ) (pair : Pair) (one two left right : List ℕ) (key : ℕ) (d : Row) → length left ≡ 4096 → length right ≡ 4096 → IsDivided one two left right → Ascends pair.low pair.high (keys (leaf_rows one ++ leaf_rows two))
    → key ≡ (get_or (leaf_rows right) 0 d).0 → Divides leaf_rows (whole_of count 0 pair) left right (leaf_rows one ++ leaf_rows two) key
leaves_divided count pair one two left right key d left_size right_size v order is =
    cut_divides (whole_of count 0 pair) left right (rows_left (leaf_rows one ++ leaf_rows two)) (leaf_rows one ++ leaf_rows two) key d left_size right_size refl v.left_leaf v.right_leaf v.left_rows v.right_rows order v.left_full v.right_full is

-- both are as full as they have to be
pub leaves_kept : (count : ℕ) (pair : Pair) (one two : List ℕ) → IsPair count pair → length one ≡ 4096 → length two ≡ 4096 → IsLeaf one → IsLeaf two → Ascends pair.low (pair.middle - 1) (keys (leaf_rows one)) → Ascends pair.middle pair.high (keys (leaf_rows two))
    → IsEnoughLeaf one → IsEnoughLeaf two → Divides leaf_rows (whole_of count 0 pair) one two (leaf_rows one ++ leaf_rows two) pair.middle
leaves_kept count pair one two is one_size two_size one_leaf two_leaf a b enough_one enough_two = record {
  above = is.order;
  within = is.within;
  left_well = leaf_within one (part (whole_of count 0 pair) pair.low (pair.middle - 1)) one_size refl one_leaf a (le-leb 1344 (row_bytes (leaf_rows one)) enough_one);
  right_well = leaf_within two (part (whole_of count 0 pair) pair.middle pair.high) two_size refl two_leaf b (le-leb 1344 (row_bytes (leaf_rows two)) enough_two);
  are = refl;
}

pub divided_in : (count : ℕ) (pair : Pair) (left right : List ℕ) {X : Type 0} (entries : List ℕ → List X) (all : List X) (key : ℕ) → Divides entries (whole_of count 0 pair) left right all key → IsCutIn pair (Some key)
divided_in count pair left right entries all key d = (d.above, d.within)

all_both : (p : Child → Bool) (xs ys : List Child) → list_all p xs ≡ true → list_all p ys ≡ true → list_all p (xs ++ ys) ≡ true
all_both p [] ys a b = b
all_both p (x ∷ xs) ys a b = let parts = and_parts (p x) (list_all p xs) a in and_from (p x) (list_all p (xs ++ ys)) parts.0 (all_both p xs ys parts.1 b)

begins_both : (low : ℕ) (xs ys : List Child) → 1 ≤ length xs → begins_at low xs ≡ true → begins_at low (xs ++ ys) ≡ true
begins_both low [] ys some begins = absurd (omega (arith, some))
begins_both low (x ∷ xs) ys some begins = begins

pub half_facts : (n : ℕ) → 240 < n → (80 ≤ children_left n) × (children_left n + 80 ≤ n) × (children_left n ≤ n)
unfolding children_left
half_facts n over = (omega (arith, over), omega (arith, over), omega (arith, over))

pub inner_joined : (count level : ℕ) (pair : Pair) (one two left : List ℕ) → IsPair count pair → AreChildren (left_of count level pair) (children one) → AreChildren (right_of count level pair) (children two) → page_level one ≡ level
    → IsJoinedBranch one two left → (IsEnoughInner one ⊎ IsEnoughInner two) → Holds children (whole_of count level pair) left (children one ++ children two)
inner_joined count level pair one two left is a b is_level j enough =
    let all = children one ++ children two in
    let size = length-append (children one) (children two) in
    record {
      well = inner_within left (whole_of count level pair) all (sym (j.level ∙ is_level)) j.branch j.children_are (omega (arith, size, a.some)) (begins_both pair.low (children one) (children two) (omega (arith, a.some)) a.begins)
          (children_order count pair (children one) (children two) is a.order b.order) (all_both (is_page_below count) (children one) (children two) a.below b.below) (le-leb 80 (length all) (omega (arith, size, least enough)));
      are = j.children_are;
    }
  where
    least : (IsEnoughInner one ⊎ IsEnoughInner two) → 80 ≤ length (children one) + length (children two)
    least (inl x) = omega (arith, x)
    least (inr y) = omega (arith, y)

pub inner_divided : (count level : ℕ) (pair : Pair) (one two left right : List ℕ) (key : ℕ) (d : Child) → IsPair count pair → AreChildren (left_of count level pair) (children one) → AreChildren (right_of count level pair) (children two)
    → page_level one ≡ level → page_level two ≡ level → IsDividedBranch one two left right → key ≡ (get_or (children right) 0 d).0 → Divides children (whole_of count level pair) left right (children one ++ children two) key
inner_divided count level pair one two left right key d is a b one_level two_level v is_key =
    let all = children one ++ children two in
    let half = half_facts (length all) v.over in
    cut_children_divide (whole_of count level pair) left right (children_left (length all)) all key d (sym (v.left_level ∙ one_level)) (sym (v.right_level ∙ two_level)) v.left_branch v.right_branch v.left_children v.right_children
    half.2 half.0 half.1 (begins_both pair.low (children one) (children two) (omega (arith, a.some)) a.begins) (children_order count pair (children one) (children two) is a.order b.order)
    (all_both (is_page_below count) (children one) (children two) a.below b.below) is_key
