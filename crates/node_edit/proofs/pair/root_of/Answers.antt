use Rattle.std.proofs.Common.{◌∙◌, arith}
use Rattle.line_pages.proofs.NumberLaws.{u64_at-same}
use Rattle.node_edit.proofs.PairLaws.{two_children, new_root}
use Rattle.node_edit.proofs.pair.root_of.Goals as goal

pub returns-clause-is : goal.returns-clause-is
returns-clause-is c =
    let new = c.set_entry-2.new.page in
    let mid = c.set_entry.new.page in
    let start = c.set_header.new.page in
    let back = c.set_entry-2.ensures.before in
    let first = c.set_entry.ensures.before in
    let count = u64_at-same 0 80 8 mid new back (omega arith) (omega arith) ∙ u64_at-same 0 64 8 start mid first (omega arith) (omega arith) ∙ c.set_header.ensures.count in
    let kind = u64_at-same 0 80 0 mid new back (omega arith) (omega arith) ∙ u64_at-same 0 64 0 start mid first (omega arith) (omega arith) ∙ c.set_header.ensures.kind in
    let level = u64_at-same 0 80 16 mid new back (omega arith) (omega arith) ∙ u64_at-same 0 64 16 start mid first (omega arith) (omega arith) ∙ c.set_header.ensures.level in
    let kids = two_children new 0 c.args.first c.args.key c.args.second count (u64_at-same 0 80 64 mid new back (omega arith) (omega arith) ∙ c.set_entry.ensures.key) (u64_at-same 0 80 72 mid new back (omega arith) (omega arith) ∙ c.set_entry.ensures.child)
    c.set_entry-2.ensures.key c.set_entry-2.ensures.child in
    new_root new c.args.level c.args.first c.args.key c.args.second c.args.count c.set_entry-2.ensures.size kind level c.requires.level kids count c.requires.above (omega arith) c.requires.first_some c.requires.first c.requires.second_some c.requires.second

pub returns-clause-unused : goal.returns-clause-unused
returns-clause-unused c =
    u64_at-same 0 80 24 c.set_entry.new.page c.set_entry-2.new.page c.set_entry-2.ensures.before (omega arith) (omega arith)
    ∙ u64_at-same 0 64 24 c.set_header.new.page c.set_entry.new.page c.set_entry.ensures.before (omega arith) (omega arith) ∙ c.set_header.ensures.unused
