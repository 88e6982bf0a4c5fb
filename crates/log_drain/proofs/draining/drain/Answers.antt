-- What was made, and what follows of it for the log and for the facts.
use Rattle.std.proofs.Common.{◌+◌, ◌*◌, ◌<◌, refl, sym, ap, subst}
use Rattle.nvm_layout.specs.Sizes.{sizes_of}
use Rattle.nvm_log.specs.Offsets.{offsets_of}
use Rattle.log_drain.specs.Drains.{raised}
use Rattle.log_drain.proofs.CopyLaws.{not_ok}
use Rattle.log_drain.proofs.DrainClauses.{drains_of, lines_clause, keeps_clause, makes_unsettled, makes_unraised, makes_raised, reached_by}
use Rattle.log_drain.proofs.draining.drain.Goals as goal

pub returns-in_err-copy_blocks-clause-makes : goal.returns-in_err-copy_blocks-clause-makes
returns-in_err-copy_blocks-clause-makes g c =
    let copies = c.in_err-copy_blocks.ensures.copies in
    drains_of c.args.log.now c.args.count (offsets_of c.args.log.now).drained copies.blocks copies.most c.requires.lines c.requires.room c.requires.few
    (not_ok _ c.from_residual.result c.from_residual.ensures.0)
    (makes_unsettled (sizes_of c.args.log.now.geometry) c.args.log.now.drained copies.blocks c.from_residual.result c.from_residual.ensures.0 copies.makes)
    copies.copied

pub returns-in_err-copy_blocks-clause-lines : goal.returns-in_err-copy_blocks-clause-lines
returns-in_err-copy_blocks-clause-lines g c = lines_clause c.args.log.now c.args.count (offsets_of c.args.log.now) (offsets_of c.args.log.now).drained (returns-in_err-copy_blocks-clause-makes g c) c.args.log.now.aligned (not_ok _ c.from_residual.result c.from_residual.ensures.0)

pub returns-in_err-copy_blocks-clause-keeps : goal.returns-in_err-copy_blocks-clause-keeps
returns-in_err-copy_blocks-clause-keeps g c = keeps_clause c.args.log.now c.args.count (offsets_of c.args.log.now) (offsets_of c.args.log.now).drained (returns-in_err-copy_blocks-clause-makes g c) c.args.log.now.aligned (not_ok _ c.from_residual.result c.from_residual.ensures.0)

pub returns-in_err-settle-clause-makes : goal.returns-in_err-settle-clause-makes
returns-in_err-settle-clause-makes g c =
    let copies = c.in_ok-copy_blocks.ensures.copies in
    drains_of c.args.log.now c.args.count (offsets_of c.args.log.now).drained copies.blocks copies.most c.requires.lines c.requires.room c.requires.few
    (not_ok _ c.from_residual-in_err-settle.result c.from_residual-in_err-settle.ensures.0)
    (makes_unraised (sizes_of c.args.log.now.geometry) c.args.log.now.drained copies.blocks c.from_residual-in_err-settle.result c.from_residual-in_err-settle.ensures.0 (subst (λ n. 0 < n) (sym copies.count) c.requires.some) c.in_ok-copy_blocks.ensures.goes c.in_err-settle.ensures.goes copies.makes c.in_err-settle.ensures.makes)
    copies.copied

pub returns-in_err-settle-clause-lines : goal.returns-in_err-settle-clause-lines
returns-in_err-settle-clause-lines g c = lines_clause c.args.log.now c.args.count (offsets_of c.args.log.now) (offsets_of c.args.log.now).drained (returns-in_err-settle-clause-makes g c) c.args.log.now.aligned (not_ok _ c.from_residual-in_err-settle.result c.from_residual-in_err-settle.ensures.0)

pub returns-in_err-settle-clause-keeps : goal.returns-in_err-settle-clause-keeps
returns-in_err-settle-clause-keeps g c = keeps_clause c.args.log.now c.args.count (offsets_of c.args.log.now) (offsets_of c.args.log.now).drained (returns-in_err-settle-clause-makes g c) c.args.log.now.aligned (not_ok _ c.from_residual-in_err-settle.result c.from_residual-in_err-settle.ensures.0)

pub returns-in_err-raise-clause-makes : goal.returns-in_err-raise-clause-makes
returns-in_err-raise-clause-makes g c =
    let copies = c.in_ok-copy_blocks.ensures.copies in
    drains_of c.args.log.now c.args.count (offsets_of c.args.log.now).drained copies.blocks copies.most c.requires.lines c.requires.room c.requires.few
    (not_ok _ c.from_residual-in_err-raise.result c.from_residual-in_err-raise.ensures.0)
    (makes_raised (sizes_of c.args.log.now.geometry) c.args.log.now.drained c.args.count (c.args.log.now.drained + 64 * c.args.count) copies.blocks c.requires.some copies.count refl c.in_ok-copy_blocks.ensures.goes c.in_ok-settle.ensures.goes c.in_err-raise.ensures.goes copies.makes c.in_ok-settle.ensures.makes
    (record { whole = λ told. not_ok _ c.from_residual-in_err-raise.result c.from_residual-in_err-raise.ensures.0; part = c.in_err-raise.ensures.makes.part }))
    copies.copied

pub returns-in_err-raise-clause-lines : goal.returns-in_err-raise-clause-lines
returns-in_err-raise-clause-lines g c = lines_clause c.args.log.now c.args.count (offsets_of c.args.log.now) (offsets_of c.args.log.now).drained (returns-in_err-raise-clause-makes g c) c.args.log.now.aligned (not_ok _ c.from_residual-in_err-raise.result c.from_residual-in_err-raise.ensures.0)

pub returns-in_err-raise-clause-keeps : goal.returns-in_err-raise-clause-keeps
returns-in_err-raise-clause-keeps g c = keeps_clause c.args.log.now c.args.count (offsets_of c.args.log.now) (offsets_of c.args.log.now).drained (returns-in_err-raise-clause-makes g c) c.args.log.now.aligned (not_ok _ c.from_residual-in_err-raise.result c.from_residual-in_err-raise.ensures.0)

pub returns-clause-makes : goal.returns-clause-makes
returns-clause-makes g c =
    let copies = c.in_ok-copy_blocks.ensures.copies in
    drains_of c.args.log.now c.args.count (raised c.args.count (offsets_of c.args.log.now)).drained copies.blocks copies.most c.requires.lines c.requires.room c.requires.few
    (ap (λ n. c.args.log.now.drained + 64 * n) (sym copies.count))
    (makes_raised (sizes_of c.args.log.now.geometry) c.args.log.now.drained c.args.count (c.args.log.now.drained + 64 * c.args.count) copies.blocks c.requires.some copies.count refl c.in_ok-copy_blocks.ensures.goes c.in_ok-settle.ensures.goes c.in_ok-raise.ensures.goes copies.makes c.in_ok-settle.ensures.makes
    (let made = c.in_ok-raise.ensures.makes in record { whole = made.whole; part = made.part }))
    copies.copied

pub returns-clause-lines : goal.returns-clause-lines
returns-clause-lines g c = lines_clause c.args.log.now c.args.count (raised c.args.count (offsets_of c.args.log.now)) (raised c.args.count (offsets_of c.args.log.now)).drained (returns-clause-makes g c) c.args.log.now.aligned (reached_by (offsets_of c.args.log.now) _ _ (returns-clause-makes g c).count)

pub returns-clause-keeps : goal.returns-clause-keeps
returns-clause-keeps g c = keeps_clause c.args.log.now c.args.count (raised c.args.count (offsets_of c.args.log.now)) (raised c.args.count (offsets_of c.args.log.now)).drained (returns-clause-makes g c) c.args.log.now.aligned (reached_by (offsets_of c.args.log.now) _ _ (returns-clause-makes g c).count)
