-- A scan, row by row.
use Rattle.std.specs.Prelude.{◌≡◌, ℕ, ◌+◌, ◌≤◌, min, nat_le, ◌==◌, ◌&&◌, true, if◌then◌else◌}
use Rattle.line_pages.specs.Standing.{last_count}
use Rattle.table_store.specs.declared.answer.Next.{Next}
use Rattle.table_store.specs.declared.answer.Next.TheVariants as next
use Rattle.script.specs.declared.command.Reply.{Reply}
use Rattle.script.specs.declared.command.Reply.TheVariants.{Row, Finish}
use Rattle.engine.specs.declared.scan.Scan.{Scan}

-- the scan behind the row of a key: behind the greatest key its bounds are empty
abbrev pub behind : ℕ → Scan → Scan
behind key scan = record scan {
  from = if key == scan.to then 1 else key + 1;
  to = if key == scan.to then 0 else scan.to;
  count = min (scan.count + 1) last_count;
}

abbrev pub ended : Scan → Scan
ended scan = record scan { over = true }

-- the reply by what stands next in the table, and the scan behind it
abbrev pub reply_by : Scan → Next → Reply
reply_by scan (next.Row key value) = if nat_le scan.from key && nat_le key scan.to then Row key value else Finish scan.count
reply_by scan next.End = Finish scan.count
reply_by scan next.NoTable = Finish scan.count

abbrev pub scan_by : Scan → Next → Scan
scan_by scan (next.Row key value) = if nat_le scan.from key && nat_le key scan.to then behind key scan else ended scan
scan_by scan next.End = ended scan
scan_by scan next.NoTable = ended scan

-- A row of its bounds, and the scan behind it; or its end with the number of rows, and the scan is over.
abbrev pub Gives : Scan → Reply → Scan → Type 0
Gives old (Row key value) new = (old.from ≤ key) × (key ≤ old.to) × (new ≡ behind key old)
Gives old (Finish rows) new = (rows ≡ old.count) × (new ≡ ended old)
Gives old _ new = ⊥
