-- The groups and the facts follow from the calls.
use Rattle.std.proofs.Common.{refl, []}
use Rattle.devices.proofs.CallLaws.{makes_stop}
use Rattle.flat_nvm_layout.specs.Sizes.{sizes_of}
use Rattle.flat_nvm_log.proofs.CallsAt.{end_placed, makes_placed}
use Rattle.flat_nvm_log.specs.Entries.{end_head, end_lines, end_entry}
use Rattle.flat_nvm_log.proofs.EntryLaws.{end_are_lines, end_entries, puts_entry, puts_failed, end_keeps}
use Rattle.flat_nvm_log.proofs.log.Log.end.Goals as goal

pub returns-clause-makes : goal.returns-clause-makes
returns-clause-makes g c =
    let made = c.in_ok-end_at.ensures.makes in
    makes_placed (end_placed (sizes_of c.args.self.now.geometry) c.args.self.now.tail c.ring_line-place.result (end_head c.args.kind) c.end_line-head.result
    c.end_line-head.ensures c.ring_line-place.ensures.place) record { whole = made.whole; part = made.part }

pub returns-clause-puts : goal.returns-clause-puts
returns-clause-puts g c =
    puts_entry c.args.self.now _ (end_entry c.args.kind) (end_lines c.args.kind) (end_entries c.args.kind) (end_are_lines c.args.kind) (returns-clause-makes g c)
    (record { geometry = refl; start = refl; ok = refl; err = tt })

pub returns-clause-keeps : goal.returns-clause-keeps
returns-clause-keeps g c = end_keeps c.args.self.now c.args.kind c.requires.room (returns-clause-makes g c)

pub returns-in_err-end_at-clause-makes : goal.returns-in_err-end_at-clause-makes
returns-in_err-end_at-clause-makes g c =
    makes_placed (end_placed (sizes_of c.args.self.now.geometry) c.args.self.now.tail c.ring_line-place.result (end_head c.args.kind) c.end_line-head.result
    c.end_line-head.ensures c.ring_line-place.ensures.place) (makes_stop [] c.from_residual.result c.from_residual.ensures.0 c.in_err-end_at.ensures.makes)

pub returns-in_err-end_at-clause-puts : goal.returns-in_err-end_at-clause-puts
returns-in_err-end_at-clause-puts g c =
    puts_failed c.args.self.now (end_entry c.args.kind) (end_lines c.args.kind) (end_entries c.args.kind) (end_are_lines c.args.kind) (returns-in_err-end_at-clause-makes g c)
    c.from_residual.ensures.0

pub returns-in_err-end_at-clause-keeps : goal.returns-in_err-end_at-clause-keeps
returns-in_err-end_at-clause-keeps g c = end_keeps c.args.self.now c.args.kind c.requires.room (returns-in_err-end_at-clause-makes g c)
