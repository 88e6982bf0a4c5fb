-- The key is in none of the rows so far.
use Rattle.page_format.proofs.KeyLaws.{Between}
use Rattle.page_format.proofs.scan.scan_rows.Given as goal

abbrev pub invariant-loop-i : goal.invariant-loop-i
invariant-loop-i l = record { between : Between l.page l.key l.i l.count }
