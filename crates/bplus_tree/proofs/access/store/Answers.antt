use Rattle.bplus_tree.proofs.Storing.{stored_whole, stored_short}
use Rattle.bplus_tree.proofs.access.store.Goals as goal

pub returns-in_ok-write_changes-in-Whole-clause-stores : goal.returns-in_ok-write_changes-in-Whole-clause-stores
returns-in_ok-write_changes-in-Whole-clause-stores g c = λ told is.
    stored_whole (g.P.Pages.standing c.args.pages.now).count (g.P.Pages.standing c.args.pages.now).current (g.P.Pages.standing c.write_changes.new.pages).current c.args.page c.args.work.now.page c.args.work.now.right (c.in_ok-write_changes-in-Whole.ensures.writes told is)

pub returns-in_ok-write_changes-in-Short-clause-stores : goal.returns-in_ok-write_changes-in-Short-clause-stores
returns-in_ok-write_changes-in-Short-clause-stores g c = λ told is.
    stored_short (g.P.Pages.standing c.args.pages.now).count (g.P.Pages.standing c.args.pages.now).current (g.P.Pages.standing c.write_changes-in-Short.new.pages).current c.args.page c.args.work.now.page c.args.work.now.right (c.in_ok-write_changes-in-Short.ensures.writes told is)

pub returns-in_ok-write_changes-in-Whole-clause-shows : goal.returns-in_ok-write_changes-in-Whole-clause-shows
returns-in_ok-write_changes-in-Whole-clause-shows g c = λ told is uncut. (c.in_ok-write_changes-in-Whole.ensures.writes told is).bytes_are

pub returns-in_ok-write_changes-in-Short-clause-shows : goal.returns-in_ok-write_changes-in-Short-clause-shows
returns-in_ok-write_changes-in-Short-clause-shows g c = λ told is uncut. (c.in_ok-write_changes-in-Short.ensures.writes told is).bytes_are
