use Rattle.std.proofs.Common.{rules, refl, ◌<◌, subst, sym}
use Rattle.std.specs.Prelude.{Option, List, ℕ, IsSome}
use Rattle.std.specs.Map.Iter.{deref_pair}
use Rattle.std.proofs.lemmas.Cmp.{nat_cmp_total}
use Rattle.std.proofs.lemmas.Map.Iter.{btree_map_turn, rest_more}
use Rattle.ssd_model.specs.Contents.{blocks_of}
use Rattle.devices.proofs.LeavingLaws.{puts_one, puts_then, there_more}
use Rattle.devices.proofs.leaving.put_first.Goals as goal

pub put_block-requires : goal.put_block-requires
put_block-requires c =
    let turn = btree_map_turn deref_pair c.loop-block.yielded c.into_iter-block-iterator.result c.loop-block.block-iterator c.next.new.self c.next.result (c.in-Some.block, c.in-Some.field-0-1) c.loop-block.yielded_by c.in-Some.is c.next.ensures.steps nat_cmp_total c.args.base.now (search rules) (search rules) in
    c.requires c.in-Some.block.now (subst (λ (o : Option (List ℕ)). IsSome o) (sym turn.1) refl)

pub loop-block-preserved : goal.loop-block-preserved
loop-block-preserved c =
    let block = c.in-Some.block.now in
    let invariant = c.loop-block.invariant in
    let turn = btree_map_turn deref_pair c.loop-block.yielded c.into_iter-block-iterator.result c.loop-block.block-iterator c.next.new.self c.next.result (c.in-Some.block, c.in-Some.field-0-1) c.loop-block.yielded_by c.in-Some.is c.next.ensures.steps nat_cmp_total c.args.base.now (search rules) (search rules) in
    let room : block < blocks_of c.args.ssd.now = c.requires block (subst (λ (o : Option (List ℕ)). IsSome o) (sym turn.1) refl) in
    let puts = puts_one c.args.ssd.now c.args.choice c.loop-block.into c.put_block.new.into block room c.in_ok-put_block.ensures in
    record {
      puts = puts_then c.args.ssd.now c.args.choice c.args.into.now c.loop-block.into c.put_block.new.into invariant.puts puts;
      all = λ q some. there_more c.args.ssd.now c.args.choice c.loop-block.into c.put_block.new.into c.loop-block.block-iterator c.next.new.self block c.in-Some.field-0-1.now q
          (rest_more deref_pair _ _ _ (c.in-Some.block, c.in-Some.field-0-1) c.in-Some.is c.next.ensures.steps) puts c.in_ok-put_block.ensures (invariant.all q some);
    }
