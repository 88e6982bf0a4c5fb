-- Two neighbours of a tree before and after they were joined.
use Rattle.std.proofs.Common.{◌≡◌, ◌≢◌, ℕ, zero, suc, ◌+◌, ◌-◌, ◌≤◌, ◌⊎◌, inl, inr, Bool, false, List, [], ◌∷◌, ◌++◌, length, Option, Some, None, refl, sym, ap, subst, ◌∙◌, arith, append-nil}
use Rattle.std.proofs.lemmas.Bool.{eq-eqb}
use Rattle.std.proofs.lemmas.List.Concat.{flat_map-append}
use Rattle.line_pages.specs.Lines.{Lines}
use Rattle.line_pages.specs.Bytes.{bytes_of, page_bytes}
use Rattle.line_pages.proofs.ByteLaws.{length-page_bytes}
use Rattle.rows.specs.Rows.{Row, Each}
use Rattle.page_format.specs.Spans.{reach, spans}
use Rattle.page_format.specs.Node.{Child, leaf_rows, children, IsWellFormed}
use Rattle.page_format.proofs.FactLemmas.{leaf_used_is}
use Rattle.page_format.proofs.PageFacts.{leaf_facts, inner_facts}
use Rattle.page_format.proofs.InnerLemmas.{length_children}
use Rattle.node_edit.specs.declared.pair.Pair.{Pair}
use Rattle.page_alloc.specs.Space.{high_of, IsFreeList}
use Rattle.page_alloc.specs.Counted.{times, SameOn}
use Rattle.tree_search.specs.Tree.{IsTree, tree_rows, tree_pages, rows_of, pages_of}
use Rattle.page_alloc.specs.Moves.{ArePart, Moves, SameEntries}
use Rattle.node_edit.specs.Edit.{part, both, joined, whole_of, Merges, IsEnoughLeaf, IsEnoughInner}
use Rattle.bplus_tree.specs.Edit.{Turns, Joins, WritesJoined, WritesDivided, left_pages}
use Rattle.page_alloc.proofs.CountedLaws.{times-append, SameOn-first}
use Rattle.tree_search.proofs.OrderLaws.{IsChildTree, length-children}
use Rattle.tree_search.proofs.FanLaws.{spans-parts, spans-join, stay_under}
use Rattle.page_alloc.proofs.MovesLaws.{Moves-trans}
use Rattle.page_alloc.proofs.Places.{Moves-widen, Moves-write, in_part, part_after, same_beside}
use Rattle.bplus_tree.proofs.Editing.{tree_of, reach_begins}

-- the bytes of the right one, where it is left
abbrev pub RightIs : Lines → Pair → List ℕ → Option ℕ → Type 0
RightIs lines pair right None = Unit {0}
RightIs lines pair right (Some key) = bytes_of lines pair.right ≡ right

pub record JoinWritten (count : ℕ) (old new : Lines) (pair : Pair) (cut : Option ℕ) (left right free : List ℕ) : Type 0 where
  pub rest : List ℕ
  pub moves : Moves count old new (pair.left ∷ pair.right ∷ []) (left_pages pair cut) free rest
  pub entries : SameEntries old new
  pub left_is : bytes_of new pair.left ≡ left
  pub right_is : RightIs new pair right cut

pub two_apart : (lines : Lines) (a b : ℕ) (free : List ℕ) → ArePart lines (a ∷ b ∷ free) → a ≢ b
two_apart lines a b free part e =
    let here = in_part lines (a ∷ b ∷ free) a part (rw (eq-eqb a a refl) (omega arith)) in
    let own = rw (eq-eqb a a refl, eq-eqb b a (sym e)) at here.2 in omega (arith, own)

pub joined_written : (count : ℕ) (old new : Lines) (pair : Pair) (left right free : List ℕ) → WritesJoined count old new pair left → IsFreeList old free → ArePart old (pair.left ∷ pair.right ∷ free) → high_of old ≤ count
    → JoinWritten count old new pair None left right free
joined_written count old new pair left right free w is whole within =
    let w1 = Moves-write count old w.between pair.left left free w.first is (λ n. omega (arith, whole n)) within in
    let m1 = Moves-widen (pair.left ∷ pair.right ∷ []) (pair.left ∷ pair.right ∷ []) w1.moves (λ n. omega arith) (λ n. omega arith) in
    let part1 : ArePart w.between ((pair.left ∷ pair.right ∷ []) ++ free) = part_after whole m1 in
    let g = w.gives free w1.moves.is_free (λ n. omega (arith, part1 n)) w1.moves.within in
    let m2 = Moves-widen (pair.left ∷ pair.right ∷ []) (pair.left ∷ []) g.moves (λ n. omega arith) (λ n. omega arith) in
    let same : SameOn (pair.left ∷ []) w.between new = same_beside (pair.left ∷ pair.right ∷ []) (pair.left ∷ []) part1 g.moves (λ n. omega arith) in
    record {
      rest = pair.right ∷ free;
      moves = Moves-trans m1 m2;
      entries = λ l ne. g.entries l ne ∙ w1.entries l ne;
      left_is = ap (λ p. page_bytes p) (SameOn-first pair.left [] w.between new same) ∙ w.first.bytes_are;
      right_is = tt;
    }

pub divided_written : (count : ℕ) (old new : Lines) (pair : Pair) (key : ℕ) (left right free : List ℕ) → (pair.left ≢ pair.right → WritesDivided old new pair left right) → IsFreeList old free → ArePart old (pair.left ∷ pair.right ∷ free) → high_of old ≤ count
    → JoinWritten count old new pair (Some key) left right free
divided_written count old new pair key left right free writes is whole within =
    let apart = two_apart old pair.left pair.right free whole in
    let w = writes apart in
    let w1 = Moves-write count old w.between pair.left left free w.first is (λ n. omega (arith, whole n)) within in
    let m1 = Moves-widen (pair.left ∷ pair.right ∷ []) (pair.left ∷ pair.right ∷ []) w1.moves (λ n. omega arith) (λ n. omega arith) in
    let part1 : ArePart w.between ((pair.left ∷ pair.right ∷ []) ++ free) = part_after whole m1 in
    let w2 = Moves-write count w.between new pair.right right free w.second w1.moves.is_free (λ n. omega (arith, part1 n)) w1.moves.within in
    let m2 = Moves-widen (pair.left ∷ pair.right ∷ []) (pair.left ∷ pair.right ∷ []) w2.moves (λ n. omega arith) (λ n. omega arith) in
    record {
      rest = free;
      moves = Moves-trans m1 m2;
      entries = λ l ne. w2.entries l ne ∙ w1.entries l ne;
      left_is = ap (λ p. page_bytes p) (w.second.others pair.left apart) ∙ w.first.bytes_are;
      right_is = w.second.bytes_are;
    }

pub leaf_enough : (bytes : List ℕ) (low high pages : ℕ) → length bytes ≡ 4096 → IsWellFormed bytes (record { level = 0; low = low; high = high; root = false; pages = pages }) → IsEnoughLeaf bytes
leaf_enough bytes low high pages size well =
    let facts = leaf_facts bytes (record { level = 0; low = low; high = high; root = false; pages = pages }) refl well in
    omega (arith, facts.full refl, leaf_used_is bytes (record { size = size; kind = facts.kind; level = facts.level; below_heap = facts.below_heap; heap = facts.heap; in_heap = facts.in_heap; apart = facts.apart }))

inner_enough : (bytes : List ℕ) (level low high pages : ℕ) → IsWellFormed bytes (record { level = suc level; low = low; high = high; root = false; pages = pages }) → IsEnoughInner bytes
inner_enough bytes level low high pages well =
    let facts = inner_facts bytes (record { level = suc level; low = low; high = high; root = false; pages = pages }) (λ e. cc) well in
    omega (arith, facts.full refl, length_children bytes)

one_enough : (P Q : Type 0) (a b : Bool) → (a ≡ false → P) → (b ≡ false → Q) → (a ≡ false) ⊎ (b ≡ false) → P ⊎ Q
one_enough P Q a b f h (inl e) = inl (f e)
one_enough P Q a b f h (inr e) = inr (h e)

leaf_turns : (count : ℕ) (old new : Lines) (pair : Pair) (cut : Option ℕ) (left right free : List ℕ) → Merges leaf_rows (whole_of count 0 pair) left right (leaf_rows (bytes_of old pair.left) ++ leaf_rows (bytes_of old pair.right)) cut
    → JoinWritten count old new pair cut left right free → Turns count old new 0 (both pair) (joined pair cut) pair.high (rows_of old 0 (both pair)) free
leaf_turns count old new pair None left right free m w = record {
  rest = w.rest;
  moves = w.moves;
  entries = w.entries;
  trees = (subst (λ b. IsWellFormed b (whole_of count 0 pair)) (sym w.left_is) m.well, tt);
  rows = append-nil (leaf_rows (bytes_of new pair.left)) ∙ ap leaf_rows w.left_is ∙ m.are ∙ ap (λ r. leaf_rows (bytes_of old pair.left) ++ r) (sym (append-nil (leaf_rows (bytes_of old pair.right))));
}
leaf_turns count old new pair (Some key) left right free m w = record {
  rest = w.rest;
  moves = w.moves;
  entries = w.entries;
  trees = (
    subst (λ b. IsWellFormed b (part (whole_of count 0 pair) pair.low (key - 1))) (sym w.left_is) m.left_well,
    (subst (λ b. IsWellFormed b (part (whole_of count 0 pair) key pair.high)) (sym w.right_is) m.right_well, tt),
  );
  rows = ap (λ r. leaf_rows (bytes_of new pair.left) ++ r) (append-nil (leaf_rows (bytes_of new pair.right))) ∙ ap (λ b. leaf_rows b ++ leaf_rows (bytes_of new pair.right)) w.left_is ∙ ap (λ b. leaf_rows left ++ leaf_rows b) w.right_is
      ∙ m.are ∙ ap (λ r. leaf_rows (bytes_of old pair.left) ++ r) (sym (append-nil (leaf_rows (bytes_of old pair.right))));
}

turned : (count : ℕ) (old new : Lines) (level : ℕ) (pair : Pair) (cut : Option ℕ) (left right free : List ℕ) (cs : List Child) (rows' : List Row)
    → ((n : ℕ) → times n (pages_of old (suc level) (both pair)) ≡ times n (pair.left ∷ pair.right ∷ []) + times n (pages_of old level cs))
    → Merges children (whole_of count (suc level) pair) left right cs cut → (w : JoinWritten count old new pair cut left right free) → pages_of new level cs ≡ pages_of old level cs → rows_of new level cs ≡ rows'
    → Each (IsChildTree count new level) (spans cs pair.high) → Turns count old new (suc level) (both pair) (joined pair cut) pair.high rows' free
turned count old new level pair None left right free cs rows' counted m w pages rows trees =
    let kids : children (bytes_of new pair.left) ≡ cs = ap children w.left_is ∙ m.are in
    record {
      rest = w.rest;
      moves = Moves-widen (pages_of old (suc level) (both pair)) (pages_of new (suc level) (joined pair None)) w.moves
          (λ n. omega (arith, counted n, times-append n (tree_pages new (suc level) pair.left) [], ap (λ (all : List Child). times n (pages_of new level all)) kids, ap (times n) pages)) (λ n. omega (arith, counted n));
      entries = w.entries;
      trees = (tree_of count new level pair.left pair.low pair.high false left w.left_is m.well (subst (λ all. Each (IsChildTree count new level) (spans all pair.high)) (sym m.are) trees), tt);
      rows = append-nil (tree_rows new (suc level) pair.left) ∙ ap (rows_of new level) kids ∙ rows;
    }
turned count old new level pair (Some key) left right free cs rows' counted m w pages rows trees =
    let P = IsChildTree count new level in
    let facts = inner_facts right _ (λ e. cc) m.right_well in
    let bound : reach (children right) pair.high ≡ key - 1 = reach_begins key pair.high (children right) facts.begins (omega (arith, facts.some, length-children right)) in
    let parts = spans-parts P (children left) (children right) pair.high (subst (λ all. Each P (spans all pair.high)) (sym m.are) trees) in
    let kids_left : children (bytes_of new pair.left) ≡ children left = ap children w.left_is in
    let kids_right : children (bytes_of new pair.right) ≡ children right = ap children w.right_is in
    let pages_are : pages_of new level (children left) ++ pages_of new level (children right) ≡ pages_of old level cs =
    sym (flat_map-append (λ (child : Child). tree_pages new level child.1) (children left) (children right)) ∙ ap (pages_of new level) m.are ∙ pages in
    let rows_are : rows_of new level (children left) ++ rows_of new level (children right) ≡ rows' =
    sym (flat_map-append (λ (child : Child). tree_rows new level child.1) (children left) (children right)) ∙ ap (rows_of new level) m.are ∙ rows in
    record {
      rest = w.rest;
      moves = Moves-widen (pages_of old (suc level) (both pair)) (pages_of new (suc level) (joined pair (Some key))) w.moves
          (λ n. omega (
            arith,
            counted n,
            times-append n (tree_pages new (suc level) pair.left) (tree_pages new (suc level) pair.right ++ []),
            times-append n (tree_pages new (suc level) pair.right) [],
            ap (λ (all : List Child). times n (pages_of new level all)) kids_left,
            ap (λ (all : List Child). times n (pages_of new level all)) kids_right,
            ap (times n) pages_are,
            times-append n (pages_of new level (children left)) (pages_of new level (children right)),
          )) (λ n. omega (arith, counted n));
      entries = w.entries;
      trees = (
        tree_of count new level pair.left pair.low (key - 1) false left w.left_is m.left_well (subst (λ h. Each P (spans (children left) h)) bound parts.0),
        (tree_of count new level pair.right key pair.high false right w.right_is m.right_well parts.1, tt),
      );
      rows = ap (λ r. tree_rows new (suc level) pair.left ++ r) (append-nil (tree_rows new (suc level) pair.right)) ∙ ap (λ all. rows_of new level all ++ tree_rows new (suc level) pair.right) kids_left
          ∙ ap (λ all. rows_of new level (children left) ++ rows_of new level all) kids_right ∙ rows_are;
    }

inner_turns : (count : ℕ) (old new : Lines) (level : ℕ) (pair : Pair) (cut : Option ℕ) (left right free : List ℕ) (one two : Bool) → IsTree count old (suc level) pair.left pair.low (pair.middle - 1) one → IsTree count old (suc level) pair.right pair.middle pair.high two
    → ArePart old (pages_of old (suc level) (both pair) ++ free) → Merges children (whole_of count (suc level) pair) left right (children (bytes_of old pair.left) ++ children (bytes_of old pair.right)) cut
    → JoinWritten count old new pair cut left right free → Turns count old new (suc level) (both pair) (joined pair cut) pair.high (rows_of old (suc level) (both pair)) free
inner_turns count old new level pair cut left right free one two tree_one tree_two whole m w =
    let kids_one = children (bytes_of old pair.left) in
    let kids_two = children (bytes_of old pair.right) in
    let cs = kids_one ++ kids_two in
    let pages_cs : pages_of old level cs ≡ pages_of old level kids_one ++ pages_of old level kids_two = flat_map-append (λ (child : Child). tree_pages old level child.1) kids_one kids_two in
    let rows_cs : rows_of old level cs ≡ rows_of old level kids_one ++ rows_of old level kids_two = flat_map-append (λ (child : Child). tree_rows old level child.1) kids_one kids_two in
    let wide = pages_of old (suc level) (both pair) in
    let counted : (n : ℕ) → times n (pages_of old (suc level) (both pair)) ≡ times n (pair.left ∷ pair.right ∷ []) + times n (pages_of old level cs) =
    λ n. omega (arith, times-append n (tree_pages old (suc level) pair.left) (tree_pages old (suc level) pair.right ++ []), times-append n (tree_pages old (suc level) pair.right) [], ap (times n) pages_cs, times-append n (pages_of old level kids_one) (pages_of old level kids_two)) in
    let same : SameOn (pages_of old level cs) old new = same_beside wide (pages_of old level cs) whole w.moves (λ n. omega (arith, counted n)) in
    let stay = stay_under count old new level cs same in
    let facts = inner_facts (bytes_of old pair.right) _ (λ e. cc) tree_two.0 in
    let bound : reach kids_two pair.high ≡ pair.middle - 1 = reach_begins pair.middle pair.high kids_two facts.begins (omega (arith, facts.some, length-children (bytes_of old pair.right))) in
    let trees = stay.trees pair.high (spans-join (IsChildTree count old level) kids_one kids_two pair.high (subst (λ h. Each (IsChildTree count old level) (spans kids_one h)) (sym bound) tree_one.1) tree_two.1) in
    let rows_old : rows_of old (suc level) (both pair) ≡ rows_of old level cs = ap (λ r. rows_of old level kids_one ++ r) (append-nil (rows_of old level kids_two)) ∙ sym rows_cs in
    turned count old new level pair cut left right free cs (rows_of old (suc level) (both pair)) counted m w stay.pages (stay.rows ∙ sym rows_old) trees

-- the join of two neighbours, as the page above sees it
pub joins : (count : ℕ) (old first new : Lines) (level : ℕ) (pair : Pair) (cut : Option ℕ) (one two left right : List ℕ) → first ≡ old → one ≡ bytes_of old pair.left → two ≡ bytes_of old pair.right
    → (level ≡ 0 → (IsEnoughLeaf one ⊎ IsEnoughLeaf two) → Merges leaf_rows (whole_of count 0 pair) left right (leaf_rows one ++ leaf_rows two) cut)
    → (1 ≤ level → (IsEnoughInner one ⊎ IsEnoughInner two) → Merges children (whole_of count level pair) left right (children one ++ children two) cut)
    → ((free : List ℕ) → IsFreeList first free → ArePart first (pair.left ∷ pair.right ∷ free) → high_of first ≤ count → JoinWritten count first new pair cut left right free) → Joins count old new level pair cut
joins count old first new zero pair cut one two left right same one_is two_is leaves inner writes free one_loose two_loose tree_one tree_two enough is whole within =
    let w = subst (λ (lines : Lines). (free : List ℕ) → IsFreeList lines free → ArePart lines (pair.left ∷ pair.right ∷ free) → high_of lines ≤ count → JoinWritten count lines new pair cut left right free) same writes free is whole within in
    let fact = one_enough (IsEnoughLeaf (bytes_of old pair.left)) (IsEnoughLeaf (bytes_of old pair.right)) one_loose two_loose
    (λ e. leaf_enough (bytes_of old pair.left) pair.low (pair.middle - 1) count (length-page_bytes (old pair.left)) (subst (λ (b : Bool). IsWellFormed (bytes_of old pair.left) (record { level = 0; low = pair.low; high = pair.middle - 1; root = b; pages = count })) e tree_one))
    (λ e. leaf_enough (bytes_of old pair.right) pair.middle pair.high count (length-page_bytes (old pair.right)) (subst (λ (b : Bool). IsWellFormed (bytes_of old pair.right) (record { level = 0; low = pair.middle; high = pair.high; root = b; pages = count })) e tree_two)) enough in
    let m = subst (λ (b : List ℕ). (IsEnoughLeaf (bytes_of old pair.left) ⊎ IsEnoughLeaf b) → Merges leaf_rows (whole_of count 0 pair) left right (leaf_rows (bytes_of old pair.left) ++ leaf_rows b) cut) two_is
    (subst (λ (b : List ℕ). (IsEnoughLeaf b ⊎ IsEnoughLeaf two) → Merges leaf_rows (whole_of count 0 pair) left right (leaf_rows b ++ leaf_rows two) cut) one_is (leaves refl)) fact in
    leaf_turns count old new pair cut left right free m w
joins count old first new (suc level) pair cut one two left right same one_is two_is leaves inner writes free one_loose two_loose tree_one tree_two enough is whole within =
    let part : ArePart old (pair.left ∷ pair.right ∷ free) = λ n. omega (arith, whole n, times-append n (pages_of old (suc level) (both pair)) free, times-append n (tree_pages old (suc level) pair.left) (tree_pages old (suc level) pair.right ++ []), times-append n (tree_pages old (suc level) pair.right) []) in
    let w = subst (λ (lines : Lines). (free : List ℕ) → IsFreeList lines free → ArePart lines (pair.left ∷ pair.right ∷ free) → high_of lines ≤ count → JoinWritten count lines new pair cut left right free) same writes free is part within in
    let fact = one_enough (IsEnoughInner (bytes_of old pair.left)) (IsEnoughInner (bytes_of old pair.right)) one_loose two_loose
    (λ e. inner_enough (bytes_of old pair.left) level pair.low (pair.middle - 1) count (subst (λ (b : Bool). IsWellFormed (bytes_of old pair.left) (record { level = suc level; low = pair.low; high = pair.middle - 1; root = b; pages = count })) e tree_one.0))
    (λ e. inner_enough (bytes_of old pair.right) level pair.middle pair.high count (subst (λ (b : Bool). IsWellFormed (bytes_of old pair.right) (record { level = suc level; low = pair.middle; high = pair.high; root = b; pages = count })) e tree_two.0)) enough in
    let m = subst (λ (b : List ℕ). (IsEnoughInner (bytes_of old pair.left) ⊎ IsEnoughInner b) → Merges children (whole_of count (suc level) pair) left right (children (bytes_of old pair.left) ++ children b) cut) two_is
    (subst (λ (b : List ℕ). (IsEnoughInner b ⊎ IsEnoughInner two) → Merges children (whole_of count (suc level) pair) left right (children b ++ children two) cut) one_is (inner (omega arith))) fact in
    inner_turns count old new level pair cut left right free one_loose two_loose tree_one tree_two whole m w
