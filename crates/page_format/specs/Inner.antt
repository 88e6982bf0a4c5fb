-- An inner page, whatever its children are, and one whose keys ascend.
use Rattle.std.specs.Prelude.{◌≡◌, ℕ, ◌+◌, ◌*◌, ◌≤◌, List, length}
use Rattle.line_pages.specs.Bytes.{u64_at}
use Rattle.rows.specs.Rows.{Ascends, last_key}
use Rattle.page_format.specs.Room.{inner_room}
use Rattle.page_format.specs.Node.{Child, page_kind, page_level, entry_count, children, first_keys}

-- a page of children; its bytes have room for 252 of them
pub record IsInner (bytes : List ℕ) : Type 0 where
  pub size : length bytes ≡ 4096
  pub kind : page_kind bytes ≡ 2
  pub count : entry_count bytes ≤ 252

-- well formed but for the number of children (when few), their pages and the bounds
pub record IsBranch (bytes : List ℕ) : Type 0 where
  pub inner : IsInner bytes
  pub above : 1 ≤ page_level bytes
  pub room : length (children bytes) ≤ inner_room
  pub order : Ascends 0 last_key (first_keys (children bytes))

-- the entry at an index
abbrev pub entry_of : List ℕ → ℕ → Child
entry_of bytes i = (u64_at bytes (64 + 16 * i), u64_at bytes (72 + 16 * i))
