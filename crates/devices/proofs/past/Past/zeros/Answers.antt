use Rattle.std.proofs.Common.{◌∙◌}
use Rattle.devices.proofs.StartLaws.{zero_base}
use Rattle.devices.proofs.past.Past.zeros.Goals as goal

pub returns-clause-starts : goal.returns-clause-starts
returns-clause-starts c =
    let starts = c.over.ensures.starts in
    record {
      lines = starts.lines;
      blocks = starts.blocks;
      base = starts.base ∙ zero_base (record { nvm = c.new.result; ssd_blocks = c.args.blocks; ssd = c.new-2.result }) c.new.ensures.items c.new-2.ensures.empty;
      entries = starts.entries;
      sent = starts.sent;
      sendings = starts.sendings;
    }
