-- What an engine is that was made of a recovered store.
use Rattle.std.proofs.Common.{◌≡◌, ℕ, ◌^◌, ◌≤◌, List, sym, ap, ◌∙◌, subst, arith, true, false, IsTrue}
use Rattle.devices.specs.State.{current}
use Rattle.devices.specs.World.{Standing, Goes, Moments, now}
use Rattle.line_pages.specs.Lines.{Lines}
use Rattle.line_pages.specs.LineSets.{pages_of}
use Rattle.rows.specs.Tables.{Table}
use Rattle.flat_transactions.specs.OpenStore.{committed_lines}
use Rattle.flat_transactions.specs.Order.{Sizes, Fits, pages, nvm_lines, ssd_blocks}
use Rattle.flat_transactions.proofs.NewLaws.{new_ready, new_steady, new_sizes, new_lines, new_tail}
use Rattle.flat_transactions.proofs.OpenStoreLaws.{order_fits, current_left}
use Rattle.flat_recovery.specs.Opening.{Recovered, AreParts, KeepsStore, parts_sizes, log_sizes}
use Rattle.flat_recovery.specs.declared.opening.Parts.{Parts}
use Rattle.flat_recovery.proofs.OrderLaws.{same_sizes, log_fits, log_allowed, log_paged, log_read, log_steady, log_lines, found_sizes, order_kept}
use Rattle.engine.specs.declared.engine.Engine.{Engine}
use Rattle.engine.specs.Holds.{HoldsTables, Holds, HasOnly, InOrder}
use Rattle.engine.specs.Engine.{engine_sizes, engine_lines, engine_reach, has_open, log_end, StandsFor, IsSteadyFor}
use Rattle.engine.specs.Opening.{IsOver, ShowsHeld}
use Rattle.engine.specs.Resting.{Rests}
use Rattle.engine.proofs.HoldsLaws.{holds_same, image_in_order}

module _ (parts : Parts) (engine : Engine) (a b : Standing) (goes : Goes a b) (are : AreParts parts a.lines a.blocks) (is : IsOver parts engine) where
  -- the sizes of its log
  by_log : engine_sizes engine ≡ log_sizes parts
  by_log = new_sizes parts.log parts.loose engine.book b is.book are.empty

  pub over_sizes : engine_sizes engine ≡ parts_sizes parts
  over_sizes = by_log ∙ same_sizes parts a.lines a.blocks are

  told_before : IsTrue b.told → IsTrue a.told
  told_before told = subst IsTrue goes.told told

  fits : Fits (log_sizes parts) a.lines a.blocks
  fits = log_fits parts a.lines a.blocks are

  disk : ssd_blocks (log_sizes parts) ≤ b.blocks
  disk = subst (λ n. ssd_blocks (log_sizes parts) ≤ n) (sym goes.blocks) fits.ssd

  pub over_stands : (IsTrue a.told → Recovered parts a b) → StandsFor engine b
  over_stands recovered = record {
    ready = new_ready parts.log parts.loose engine.book b is.book are.empty
        (subst (λ n. nvm_lines (log_sizes parts) ≤ n) (sym goes.lines) fits.nvm)
        (log_allowed parts a.lines a.blocks are)
        (let same : pages_of parts.loose ≡ pages (log_sizes parts) = log_paged parts a.lines a.blocks are in omega (arith, same))
        (let low : parts.log.tail ≤ 2 ^ 61 = are.tail in omega (arith, low))
        (λ told. log_read parts a.lines a.blocks are a b (recovered (told_before told)));
    disk = subst (λ (x : Sizes). ssd_blocks x ≤ b.blocks) (sym by_log) disk;
    limits = record { tables = is.tables ∙ sym (ap (λ (x : Sizes). x.tables) over_sizes); rows = is.rows ∙ sym (ap (λ (x : Sizes). x.rows) over_sizes) };
    writes = is.writes ∙ sym (ap (λ (x : Sizes). x.writes) over_sizes);
    few = λ is_open. closed is_open;
    room = λ is_open more. closed is_open;
    counted = subst (λ n. n ≤ log_end engine) (sym is.commits) (omega arith);
  }
    where
      closed : {P : Type 0} → has_open engine ≡ true → P
      closed is_open = let bad : false ≡ true = sym is.book.is_open ∙ is_open in absurd (cc)

  pub over_low : engine_reach engine ≤ 2 ^ 61
  over_low =
      let low : parts.log.tail ≤ 2 ^ 61 = are.tail in
      let tail : log_end engine ≡ parts.log.tail = new_tail parts.log parts.loose engine.book b is.book are.empty in
      let none : engine.book.room ≡ 0 = is.book.room in omega (arith, low, tail, none)

  pub over_steady : (IsTrue a.told → Recovered parts a b) → IsSteadyFor engine b
  over_steady recovered = new_steady parts.log parts.loose engine.book b is.book are.empty (λ told. log_steady parts a.lines a.blocks are a b (recovered (told_before told)))

  module _ (recovered : Recovered parts a b) (keeps : KeepsStore a b) where
    -- its lines are those that recovery gave
    lines_are : engine_lines engine b ≡ committed_lines a
    lines_are = new_lines parts.log parts.loose engine.book b is.book are.empty (committed_lines a) (log_lines parts a.lines a.blocks are a b recovered)

    pub over_rests : Rests (committed_lines a) engine b
    over_rests = record { current = lines_are; committed = keeps.committed }

    pub over_shows : (g : Sizes) (T : List Table) → Holds g T (now a) → ShowsHeld g T b engine
    over_shows g T held =
        let found : engine_sizes engine ≡ g = over_sizes ∙ found_sizes parts a b recovered g held.lines held.is_store in
        let lines : committed_lines a ≡ held.lines = held.is_store.pages in
        record {
          shows = record {
            committed = subst (λ (x : Sizes). HoldsTables x (committed_lines b) T) (sym found) (holds_same g held.lines (committed_lines b) T (keeps.committed ∙ lines) held.holds);
            seen = subst (λ (x : Sizes). HoldsTables x (engine_lines engine b) T) (sym found) (holds_same g held.lines (engine_lines engine b) T (lines_are ∙ lines) held.holds);
            transaction = is.book.is_open;
            commits = is.commits;
          };
          sizes = found;
        }

-- Devices in order stay it.
pub order_stays : (g : Sizes) (T : List Table) (a b : Standing) → KeepsStore a b → InOrder g T a.lines a.blocks (now a) → Moments a b (HasOnly g T a.lines a.blocks)
order_stays g T a b keeps order = record {
  each = λ m low high i left.
      image_in_order g T a.lines a.blocks (committed_lines a) i (order_fits g a.lines a.blocks (now a) order.order)
      (order.recovers (current (now a)) (current_left (now a))) ((order_kept g a b keeps order.order).each m low high i left);
}
