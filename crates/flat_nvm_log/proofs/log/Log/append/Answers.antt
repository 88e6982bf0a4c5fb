-- The lines stand at the places of the offsets from the tail on, and so the groups and the facts follow.
use Rattle.std.proofs.Common.{[], refl}
use Rattle.devices.proofs.CallLaws.{makes_stop}
use Rattle.flat_store_meaning.specs.Append.{head_line}
use Rattle.flat_nvm_layout.specs.Sizes.{sizes_of}
use Rattle.flat_nvm_log.specs.Entries.{record_lines, record_entry}
use Rattle.flat_nvm_log.proofs.CallsAt.{calls_placed, makes_placed}
use Rattle.flat_nvm_log.proofs.EntryLaws.{record_are_lines, puts_entry, puts_failed, record_keeps}
use Rattle.flat_nvm_log.proofs.log.Log.append.Goals as goal

pub returns-clause-makes : goal.returns-clause-makes
returns-clause-makes g c =
    let made = c.in_ok-append_at.ensures.makes in
    makes_placed (calls_placed (sizes_of c.args.self.now.geometry) c.args.self.now.tail c.ring_line.result c.ring_line-2.result c.ring_line-3.result
    (head_line 1 c.args.change.now.page c.args.change.now.line 0) c.record_head-head.result c.args.change.now.before c.args.change.now.after
    c.record_head-head.ensures c.ring_line.ensures.place c.ring_line-2.ensures.place c.ring_line-3.ensures.place) record { whole = made.whole; part = made.part }

pub returns-clause-puts : goal.returns-clause-puts
returns-clause-puts g c =
    puts_entry c.args.self.now _ (record_entry c.args.change.now) (record_lines c.args.change.now) refl (record_are_lines c.args.change.now c.eight.ensures c.eight-2.ensures)
    (returns-clause-makes g c) (record { geometry = refl; start = refl; ok = refl; err = tt })

pub returns-clause-keeps : goal.returns-clause-keeps
returns-clause-keeps g c = record_keeps c.args.self.now c.args.change.now c.eight.ensures c.eight-2.ensures c.requires.room (returns-clause-makes g c)

pub returns-in_err-append_at-clause-makes : goal.returns-in_err-append_at-clause-makes
returns-in_err-append_at-clause-makes g c =
    makes_placed (calls_placed (sizes_of c.args.self.now.geometry) c.args.self.now.tail c.ring_line.result c.ring_line-2.result c.ring_line-3.result
    (head_line 1 c.args.change.now.page c.args.change.now.line 0) c.record_head-head.result c.args.change.now.before c.args.change.now.after
    c.record_head-head.ensures c.ring_line.ensures.place c.ring_line-2.ensures.place c.ring_line-3.ensures.place)
    (makes_stop [] c.from_residual.result c.from_residual.ensures.0 c.in_err-append_at.ensures.makes)

pub returns-in_err-append_at-clause-puts : goal.returns-in_err-append_at-clause-puts
returns-in_err-append_at-clause-puts g c =
    puts_failed c.args.self.now (record_entry c.args.change.now) (record_lines c.args.change.now) refl (record_are_lines c.args.change.now c.eight.ensures c.eight-2.ensures)
    (returns-in_err-append_at-clause-makes g c) c.from_residual.ensures.0

pub returns-in_err-append_at-clause-keeps : goal.returns-in_err-append_at-clause-keeps
returns-in_err-append_at-clause-keeps g c =
    record_keeps c.args.self.now c.args.change.now c.eight.ensures c.eight-2.ensures c.requires.room (returns-in_err-append_at-clause-makes g c)
