use Rattle.std.proofs.Common.{rules, ℕ, List, subst}
use Rattle.std.specs.Prelude.{Some}
use Rattle.std.specs.Ordering.{nat_cmp}
use Rattle.std.specs.BTreeMap.{Updates}
use Rattle.std.specs.Map.Iter.{deref_pair}
use Rattle.std.proofs.lemmas.Cmp.{nat_cmp_total}
use Rattle.std.proofs.lemmas.Map.Iter.{btree_map_turn, rest_more}
use Rattle.devices.proofs.StartLaws.{copied_more}
use Rattle.devices.proofs.copies.copy_blocks.Goals as goal

pub loop-block-preserved : goal.loop-block-preserved
loop-block-preserved c = λ q.
    let page = c.in-Some.page.now in
    let updates : Updates nat_cmp c.loop-block.copy c.insert.new.self c.in-Some.block.now (Some page) = subst (λ (bytes : List ℕ). Updates nat_cmp c.loop-block.copy c.insert.new.self c.in-Some.block.now (Some bytes)) c.copy.ensures.value c.in-Ok.ensures.updates in
    let turn = btree_map_turn deref_pair c.loop-block.yielded c.into_iter-block-iterator.result c.loop-block.block-iterator c.next.new.self c.next.result (c.in-Some.block, c.in-Some.page) c.loop-block.yielded_by c.in-Some.is c.next.ensures.steps nat_cmp_total c.args.from.now (search rules) (search rules) in
    copied_more c.args.from.now c.loop-block.copy c.insert.new.self c.loop-block.block-iterator c.next.new.self c.in-Some.block.now page q turn.1 (rest_more deref_pair _ _ _ (c.in-Some.block, c.in-Some.page) c.in-Some.is c.next.ensures.steps) updates (c.loop-block.invariant q)
