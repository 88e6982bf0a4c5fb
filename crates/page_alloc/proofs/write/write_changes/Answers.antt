use Rattle.std.proofs.Common.{◌+◌, ℕ, ap, subst, sym, arith}
use Rattle.page_alloc.proofs.WrittenLaws.{changed_all}
use Rattle.page_alloc.proofs.LineLaws.{rewritten, same_bytes}
use Rattle.page_alloc.proofs.write.write_changes.Goals as goal

pub write_lines-requires-clause-room : goal.write_lines-requires-clause-room
write_lines-requires-clause-room g c = let all = changed_all c.args.old.now c.args.new.now in omega (arith, all, c.requires.room)

pub returns-clause-writes : goal.returns-clause-writes
returns-clause-writes g c = λ told is.
    let done = c.write_lines.ensures in
    let known = same_bytes 0 4096 _ _ is in
    rewritten c.args.page c.args.new.now _ _ c.write_lines.result done.size (done.put told known) (done.others told known)

pub returns-clause-room : goal.returns-clause-room
returns-clause-room g c = rw (changed_all c.args.old.now c.args.new.now) c.write_lines.ensures.room
