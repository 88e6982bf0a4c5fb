-- When devices are in order with the tables of a store.
use Rattle.std.proofs.Common.{◌≡◌, ℕ, ◌≤◌, sym, ap, ◌∙◌, subst, List}
use Rattle.std.proofs.Math.Bridge.{le_prop}
use Rattle.devices.specs.State.{State, Image, fresh}
use Rattle.line_pages.specs.Lines.{Lines}
use Rattle.flat_transactions.specs.Order.{Sizes, Fits, pages, recovered_lines, IsOrderedWith, IsStoreOf}
use Rattle.flat_transactions.proofs.OpenStoreLaws.{image_ordered}
use Rattle.rows.specs.declared.limits.Limits.{Limits}
use Rattle.table_catalog.specs.Catalog.{tables}
use Rattle.rows.specs.Tables.{Table}
use Rattle.table_catalog.specs.Stored.{IsStore}
use Rattle.engine.specs.Holds.{AreLimits, HoldsTables, InOrder}

-- The limits of a store are the only ones.
abbrev with_facts : (t r : ℕ) → 1 ≤ t → t ≤ 62 → 1 ≤ r → r ≤ 1000000 → Limits
with_facts t r h1 h2 h3 h4 = record { tables = t; rows = r; tables_some = h1; tables_few = h2; rows_some = h3; rows_few = h4 }

limits_at : (b : Limits) (t : ℕ) → b.tables ≡ t → (r : ℕ) → b.rows ≡ r → (h1 : 1 ≤ t) (h2 : t ≤ 62) (h3 : 1 ≤ r) (h4 : r ≤ 1000000)
    → b ≡ record { tables = t; rows = r; tables_some = h1; tables_few = h2; rows_some = h3; rows_few = h4 }
limits_at b t same_tables r same_rows =
    subst (λ (x : ℕ). (h1 : 1 ≤ x) (h2 : x ≤ 62) (h3 : 1 ≤ r) (h4 : r ≤ 1000000) → b ≡ record { tables = x; rows = r; tables_some = h1; tables_few = h2; rows_some = h3; rows_few = h4 }) same_tables
    (subst (λ (x : ℕ). (h1 : 1 ≤ b.tables) (h2 : b.tables ≤ 62) (h3 : 1 ≤ x) (h4 : x ≤ 1000000) → b ≡ record { tables = b.tables; rows = x; tables_some = h1; tables_few = h2; rows_some = h3; rows_few = h4 }) same_rows
    (λ h1 h2 h3 h4.
    ap (λ (h : 1 ≤ b.tables). with_facts b.tables b.rows h b.tables_few b.rows_some b.rows_few) (le_prop b.tables_some h1)
    ∙ ap (λ (h : b.tables ≤ 62). with_facts b.tables b.rows h1 h b.rows_some b.rows_few) (le_prop b.tables_few h2)
    ∙ ap (λ (h : 1 ≤ b.rows). with_facts b.tables b.rows h1 h2 h b.rows_few) (le_prop b.rows_some h3)
    ∙ ap (λ (h : b.rows ≤ 1000000). with_facts b.tables b.rows h1 h2 h3 h) (le_prop b.rows_few h4)))

pub same_limits : (g : Sizes) (a b : Limits) → AreLimits g a → AreLimits g b → a ≡ b
same_limits g a b ha hb = limits_at a b.tables (ha.tables ∙ sym hb.tables) b.rows (ha.rows ∙ sym hb.rows) b.tables_some b.tables_few b.rows_some b.rows_few

-- so what holds tables does it with these limits
pub holds_with : (g : Sizes) (lines : Lines) (T : List Table) (limits : Limits) → AreLimits g limits → HoldsTables g lines T → IsStore limits (pages g) lines
holds_with g lines T limits are holds = subst (λ (x : Limits). IsStore x (pages g) lines) (same_limits g holds.limits limits holds.are_limits are) holds.store

pub holds_by : (g : Sizes) (lines : Lines) (limits : Limits) → AreLimits g limits → IsStore limits (pages g) lines → (T : List Table) → tables lines ≡ T → HoldsTables g lines T
holds_by g lines limits are store T same = record { limits = limits; are_limits = are; store = store; tables_are = same }

pub holds_same : (g : Sizes) (a b : Lines) (T : List Table) → b ≡ a → HoldsTables g a T → HoldsTables g b T
holds_same g a b T same holds = subst (λ (l : Lines). HoldsTables g l T) (sym same) holds

-- Devices in order with some lines are in order with the tables that these hold.
pub in_order : (g : Sizes) (T : List Table) (kept : Lines) (n k : ℕ) (s : State) → HoldsTables g kept T → IsOrderedWith g kept n k s → InOrder g T n k s
in_order g T kept n k s holds it = record {
  order = it.order;
  recovers = λ i left. holds_same g kept (recovered_lines i) T (it.only i left) holds;
}

-- An image that recovers to pages that hold tables is in order with them.
pub image_in_order : (g : Sizes) (T : List Table) (n k : ℕ) (lines : Lines) (i : Image) → Fits g n k → HoldsTables g lines T → IsStoreOf g lines i → InOrder g T n k (fresh i)
image_in_order g T n k lines i fits holds it = in_order g T lines n k (fresh i) holds (image_ordered g n k lines i fits it)
