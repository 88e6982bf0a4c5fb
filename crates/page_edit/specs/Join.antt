-- What two pages are after a join.
use Rattle.std.specs.Prelude.{◌≡◌, ℕ, ◌<◌, ◌≤◌, ◌++◌, List, length, take, drop}
use Rattle.line_pages.specs.Bytes.{u64_at}
use Rattle.page_format.specs.Room.{leaf_room, leaf_floor, inner_room}
use Rattle.page_format.specs.Node.{page_level, leaf_rows, children, IsLeaf}
use Rattle.page_format.specs.Sound.{row_bytes}
use Rattle.page_format.specs.Inner.{IsBranch}
use Rattle.page_edit.specs.Cut.{rows_left, IsCut, IsFilled, children_left}
use Rattle.page_edit.specs.Packed.{IsPackedInOrder}

-- two leaves after a join: all rows are in the left one, or they are divided
pub record IsJoined (one two left : List ℕ) : Type 0 where
  pub fits : row_bytes (leaf_rows one ++ leaf_rows two) ≤ leaf_room
  pub rows : leaf_rows left ≡ leaf_rows one ++ leaf_rows two
  pub leaf : IsLeaf left
  pub packed : IsPackedInOrder left

pub record IsDivided (one two left right : List ℕ) : Type 0 where
  pub over : leaf_room < row_bytes (leaf_rows one ++ leaf_rows two)
  pub left_rows : leaf_rows left ≡ take (rows_left (leaf_rows one ++ leaf_rows two)) (leaf_rows one ++ leaf_rows two)
  pub right_rows : leaf_rows right ≡ drop (rows_left (leaf_rows one ++ leaf_rows two)) (leaf_rows one ++ leaf_rows two)
  pub left_leaf : IsLeaf left
  pub right_leaf : IsLeaf right
  pub left_full : leaf_floor ≤ row_bytes (leaf_rows left)
  pub right_full : leaf_floor ≤ row_bytes (leaf_rows right)
  pub halves : IsCut (leaf_rows one ++ leaf_rows two) (leaf_rows left) (leaf_rows right)
  pub left_filled : IsFilled (leaf_rows left)
  pub right_filled : IsFilled (leaf_rows right)
  pub left_packed : IsPackedInOrder left
  pub right_packed : IsPackedInOrder right

-- word 3 of an inner page, which has no use and is 0
abbrev pub unused_word : List ℕ → ℕ
unused_word bytes = u64_at bytes 24

-- two pages after a join: all children are in the left one, or they are divided
pub record IsJoinedBranch (one two left : List ℕ) : Type 0 where
  pub fits : length (children one ++ children two) ≤ inner_room
  pub children_are : children left ≡ children one ++ children two
  pub branch : IsBranch left
  pub level : page_level left ≡ page_level one
  pub unused : unused_word left ≡ unused_word one

pub record IsDividedBranch (one two left right : List ℕ) : Type 0 where
  pub over : inner_room < length (children one ++ children two)
  pub left_children : children left ≡ take (children_left (length (children one ++ children two))) (children one ++ children two)
  pub right_children : children right ≡ drop (children_left (length (children one ++ children two))) (children one ++ children two)
  pub left_branch : IsBranch left
  pub right_branch : IsBranch right
  pub left_level : page_level left ≡ page_level one
  pub right_level : page_level right ≡ page_level two
  pub left_unused : unused_word left ≡ unused_word one
  pub right_unused : unused_word right ≡ 0
