-- The lines of what is put into a log, and the entries that they are.
use Rattle.std.specs.Prelude.{List, [], ◌∷◌}
use Rattle.nvm_model.specs.declared.line.Line.{Line}
use Rattle.store_model.specs.Log.{Change, Entry}
use Rattle.store_model.specs.Log.Item.{write}
use Rattle.store_model.specs.Log.Entry.{item, commit, abort}
use Rattle.store_model.specs.Append.{head_line, record_of}
use Rattle.nvm_log.specs.declared.record.LineRecord.{LineRecord}
use Rattle.nvm_log.specs.declared.record.EndKind.{EndKind}
use Rattle.nvm_log.specs.declared.record.EndKind.TheVariants.{Commit, Abort}

-- a record names the eight words of its line
abbrev pub change_of : LineRecord → Change
change_of r = record { page = r.page; line = r.line; mask = 255; before = r.before; after = r.after }

abbrev pub record_lines : LineRecord → List Line
record_lines r = record_of r.page r.line r.before r.after

abbrev pub record_entry : LineRecord → Entry
record_entry r = item (write (change_of r))

abbrev pub end_head : EndKind → Line
end_head Commit = head_line 2 0 0 0
end_head Abort = head_line 3 0 0 0

abbrev pub end_lines : EndKind → List Line
end_lines kind = end_head kind ∷ []

abbrev pub end_entry : EndKind → Entry
end_entry Commit = commit
end_entry Abort = abort
