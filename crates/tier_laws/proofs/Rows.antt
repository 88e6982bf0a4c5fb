-- The worked examples, by computing.
use Rattle.std.proofs.Common.{refl}
use Rattle.std.specs.Fmt.{digits}
use Rattle.tier_laws.specs.Rows.{WorkedRows}
use Rattle.tier_rules.specs.Texts.{tally_text, trace_text}
use Rattle.tier_rules.specs.Printing.{printed}
use Rattle.tier_laws.proofs.Rules.{rules}

pub worked_rows : WorkedRows
unfolding rules tally_text trace_text printed digits
worked_rows = record {
  first_words = refl;
  queue_of_two = refl;
  three_set = refl;
  touched_once = refl;
  empty_run = refl;
  one_lookup = refl;
  one_frame = refl;
  two_lookups = refl;
  two_lookups_mini = refl;
  in_place = refl;
  in_place_again = refl;
  leaves_over_frame = (refl, refl, refl, refl, refl, refl, refl, refl);
  leaves_admitted = (refl, refl, refl, refl, refl);
  leaves_passing = (refl, refl, refl);
  leaves_clean = (refl, refl, refl);
  leaves_queued = (refl, refl, refl, refl, refl);
  over_victim = (refl, refl, refl, refl, refl, refl, refl);
  before_promotion = (refl, refl, refl, refl);
  promotion = (refl, refl, refl, refl, refl, refl, refl);
  promotion_frame_lost = (refl, refl, refl, refl, refl, refl, refl, refl);
  touched_again = (refl, refl);
  cleaned_one = (refl, refl, refl, refl, refl);
  settled_all = (refl, refl, refl, refl);
  sixteen_lines = (refl, refl, refl, refl);
  tally_lines = refl;
  trace_lines = refl;
  printed_touches = refl;
}
