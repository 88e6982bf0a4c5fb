use Rattle.page_format.specs.Node.{children}
use Rattle.page_format.proofs.ChildLaws.{begins_first}
use Rattle.page_tests.proofs.editing.join_inners.Goals as goal

pub inner_join-requires-clause-key : goal.inner_join-requires-clause-key
inner_join-requires-clause-key c = begins_first c.child_key-key.result (children c.args.right.now) c.child_key-key.ensures
