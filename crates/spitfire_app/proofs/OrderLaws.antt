-- Devices in order: what a crash leaves of them, what one reads, and what an empty store is.
use Rattle.std.proofs.Common.{◌≡◌, ℕ, zero, suc, ◌+◌, ◌≤◌, Bool, true, false, ◌&&◌, List, [], ◌∷◌, ◌++◌, None, refl, sym, ap, ◌∙◌, subst, map, arith, cond, eqb}
use Rattle.std.specs.Prelude.{nat_le, nat_lt}
use Rattle.std.specs.List.{list_all}
use Rattle.std.proofs.lemmas.Bool.{and_parts, le-leb, leb-true, le-ltb, ne_eqb}
use Rattle.nvm_model.specs.declared.line.Line.{Line}
use Rattle.devices.specs.State.{State, Image, Leaves, current, fresh}
use Rattle.line_pages.specs.Lines.{Lines}
use Rattle.flat_transactions.specs.Order.{Sizes, is_allowed, in_ranges, is_between, pages, recovered_lines}
use Rattle.flat_transactions.proofs.OpenStoreLaws.{order_fits, current_left}
use Rattle.damage.specs.Checks.{first_failure}
use Rattle.page_alloc.specs.Space.{word}
use Rattle.page_alloc.specs.Moves.{below}
use Rattle.page_alloc.specs.Counted.{times}
use Rattle.rows.specs.declared.limits.Limits.{Limits}
use Rattle.table_catalog.specs.Catalog.{tables, table_of, entries, entries_from, catalog_checks, header_checks, is_entry, names_differ, name_of}
use Rattle.rows.specs.Tables.{Table}
use Rattle.table_catalog.specs.Stored.{IsStore, HasTree, all_pages}
use Rattle.rows.specs.Rows.{Each}
use Rattle.flat_recovery.specs.Empty.{catalog_line, IsEmptyStore}
use Rattle.flat_recovery.proofs.OrderLaws.{order_left, empty_ordered}
use Rattle.engine.specs.Holds.{AreLimits, HoldsTables, Holds, InOrder}
use Rattle.engine.proofs.HoldsLaws.{image_in_order}

module _ (g : Sizes) (T : List Table) (n k : ℕ) (s : State) (order : InOrder g T n k s) where
  -- what a crash leaves is in order
  pub left_in_order : (i : Image) → Leaves s i → InOrder g T n k (fresh i)
  left_in_order i left = image_in_order g T n k (recovered_lines i) i (order_fits g n k s order.order) (order.recovers i left) (order_left g n k s order.order i left)

  -- and one reads the tables
  pub order_holds : Holds g T s
  order_holds = record {
    lines = recovered_lines (current s);
    is_store = order_left g n k s order.order (current s) (current_left s);
    holds = order.recovers (current s) (current_left s);
  }

-- ---- an empty store

one_page : (p : ℕ) → times p (0 ∷ []) ≡ below p 1
one_page zero = refl
one_page (suc p) =
    let other : eqb 0 (suc p) ≡ false = ne_eqb 0 (suc p) (λ e. omega arith) in
    let above : nat_lt (suc p) 1 ≡ false = le-ltb (suc p) 1 (omega arith) in
    ap (λ (b : Bool). cond b 1 0 + 0) other ∙ sym (ap (λ (b : Bool). cond b 1 0) above)

module _ (lines : Lines) (is : lines 0 0 ≡ catalog_line) where
  no_entries : entries lines ≡ []
  unfolding entries
  no_entries = ap (λ (l : Line). entries_from lines 2 (word l 1)) is

  no_tables : tables lines ≡ []
  no_tables = ap (λ es. map (table_of lines) es) no_entries

  module _ (limits : Limits) (count : ℕ) (some : 1 ≤ count) where
    header_passes : first_failure (header_checks limits count catalog_line ++ (35, true) ∷ []) ≡ None
    header_passes =
        let few : nat_le 0 limits.tables ≡ true = le-leb 0 limits.tables (omega arith) in
        let within : nat_le 1 count ≡ true = le-leb 1 count some in
        rw (few, within) refl

    catalog_passes : first_failure (catalog_checks limits count lines) ≡ None
    catalog_passes =
        ap (λ es. first_failure (header_checks limits count (lines 0 0) ++ (35, list_all (is_entry limits lines) es && names_differ (map name_of es)) ∷ [])) no_entries
        ∙ ap (λ (l : Line). first_failure (header_checks limits count l ++ (35, true) ∷ [])) is
        ∙ header_passes

    empty_store : IsStore limits count lines
    empty_store = record {
      catalog = catalog_passes;
      trees = subst (λ es. Each (HasTree count lines) es) (sym no_entries) tt;
      free = [];
      is_free = ap (λ (l : Line). word l 3) is;
      exact = λ p.
          ap (λ es. times p (0 ∷ (all_pages lines es ++ []))) no_entries
          ∙ one_page p
          ∙ sym (ap (λ (l : Line). below p (word l 2)) is);
    }

-- the limits of sizes that are allowed
limits_of : (g : Sizes) → is_allowed g ≡ true → (limits : Limits) × AreLimits g limits
limits_of g allowed =
    let ranges : in_ranges g ≡ true = (and_parts (in_ranges g) _ allowed).0 in
    let first : (is_between 1 62 g.tables ≡ true) × _ = and_parts (is_between 1 62 g.tables) _ ranges in
    let second : (is_between 1 1000000 g.rows ≡ true) × _ = and_parts (is_between 1 1000000 g.rows) _ first.1 in
    let t : (nat_le 1 g.tables ≡ true) × (nat_le g.tables 62 ≡ true) = and_parts (nat_le 1 g.tables) (nat_le g.tables 62) first.0 in
    let r : (nat_le 1 g.rows ≡ true) × (nat_le g.rows 1000000 ≡ true) = and_parts (nat_le 1 g.rows) (nat_le g.rows 1000000) second.0 in (
      record {
        tables = g.tables;
        rows = g.rows;
        tables_some = leb-true 1 g.tables t.0;
        tables_few = leb-true g.tables 62 t.1;
        rows_some = leb-true 1 g.rows r.0;
        rows_few = leb-true g.rows 1000000 r.1;
      },
      record { tables = refl; rows = refl },
    )

empty_holds : (g : Sizes) → is_allowed g ≡ true → (lines : Lines) → lines 0 0 ≡ catalog_line → HoldsTables g lines []
empty_holds g allowed lines is =
    let limits : (limits : Limits) × AreLimits g limits = limits_of g allowed in
    record { limits = limits.0; are_limits = limits.1; store = empty_store lines is limits.0 (pages g) (omega arith); tables_are = no_tables lines is }

-- An empty store of allowed sizes is in order with no table.
pub empty_in_order : (g : Sizes) (first n k : ℕ) (s : State) → is_allowed g ≡ true → IsEmptyStore g first n k s → InOrder g [] n k s
empty_in_order g first n k s allowed it = record {
  order = empty_ordered g first n k s it;
  recovers = λ i left. empty_holds g allowed (recovered_lines i) (it.catalog i left);
}
