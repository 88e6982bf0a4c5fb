-- Entries that were cut in two.
use Rattle.std.proofs.Common.{◌≡◌, ◌<◌, ◌≤◌, ◌++◌, ℕ, List, [], ◌∷◌, length, length-take-le, take, drop, get_or, take-append-drop, refl, sym, ap, subst, ◌∙◌, arith}
use Rattle.rows.specs.Rows.{Row}
use Rattle.page_format.specs.Node.{Child, leaf_rows, children}
use Rattle.page_format.specs.Room.{leaf_room, inner_room}
use Rattle.page_format.specs.Sound.{row_bytes}
use Rattle.page_edit.specs.Cut.{IsCut, children_left}
use Rattle.page_edit.specs.Join.{IsDivided, IsDividedBranch}
use Rattle.node_edit.specs.Cuts.{BeginsWith, CutsRows, CutsChildren}

-- some entries begin with the key of the first one
pub begins_first : {X : Type 0} (key : ℕ) (entries : List (ℕ × X)) (d : ℕ × X) → 0 < length entries → key ≡ (get_or entries 0 d).0 → BeginsWith key entries
begins_first key [] d some is = absurd (omega (arith, some))
begins_first key (entry ∷ rest) d some is = sym is

pub rows_cut : (all left right : List Row) (key : ℕ) (d : Row) → leaf_room < row_bytes all → IsCut all left right → 0 < length right → key ≡ (get_or right 0 d).0 → CutsRows all left right key
rows_cut all left right key d over parts some is = record { over = over; parts = parts; first = begins_first key right d some is }

pub children_cut : (all left right : List Child) (key : ℕ) (d : Child) → inner_room < length all → children_left (length all) ≤ length all → left ≡ take (children_left (length all)) all → right ≡ drop (children_left (length all)) all
    → 0 < length right → key ≡ (get_or right 0 d).0 → CutsChildren all left right key
children_cut all left right key d over within left_is right_is some is = record {
  over = over;
  whole = ap (λ (l : List Child). l ++ right) left_is ∙ ap (λ (r : List Child). take (children_left (length all)) all ++ r) right_is ∙ take-append-drop (children_left (length all)) all;
  half = ap length left_is ∙ length-take-le (children_left (length all)) all within;
  first = begins_first key right d some is;
}
