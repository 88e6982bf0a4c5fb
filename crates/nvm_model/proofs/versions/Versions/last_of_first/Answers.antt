use Rattle.nvm_model.proofs.WordLaws.{last_of-first}
use Rattle.nvm_model.proofs.versions.Versions.last_of_first.Goals as goal

pub returns-else-count-eq0 : goal.returns-else-count-eq0
returns-else-count-eq0 c = last_of-first c.args.self.now.newest c.args.self.now.older.items c.args.count c.index.result.now c.requires c.if-count-eq0.false c.index.ensures
