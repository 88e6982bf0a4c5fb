use Rattle.tree_search.proofs.lookup.+seek_in.Given as goal

abbrev pub decreases-seek_in : goal.decreases-seek_in
decreases-seek_in g l = l.expect.now.level
