use Rattle.std.proofs.Common.{rules, refl, ◌∙◌, ◌<◌, subst, sym}
use Rattle.std.specs.Prelude.{Option, List, ℕ, IsSome}
use Rattle.std.specs.Map.Iter.{deref_pair}
use Rattle.std.proofs.lemmas.Cmp.{nat_cmp_total}
use Rattle.std.proofs.lemmas.Map.Iter.{btree_map_turn, rest_more}
use Rattle.ssd_model.specs.Contents.{disk_of, blocks_of}
use Rattle.devices.proofs.ReplayLaws.{block_placed}
use Rattle.devices.proofs.replay.place_blocks.Goals as goal

pub write-requires : goal.write-requires
write-requires c =
    let turn = btree_map_turn deref_pair c.loop-block.yielded c.into_iter-block-iterator.result c.loop-block.block-iterator c.next.new.self c.next.result (c.in-Some.block, c.in-Some.page) c.loop-block.yielded_by c.in-Some.is c.next.ensures.steps nat_cmp_total c.args.blocks.now (search rules) (search rules) in
    let room : c.in-Some.block.now < blocks_of c.args.ssd.now = c.requires.room c.in-Some.block.now (subst (λ (o : Option (List ℕ)). IsSome o) (sym turn.1) refl) in
    subst (λ n. c.in-Some.block.now < n) (sym c.loop-block.invariant.size) room

pub loop-block-preserved : goal.loop-block-preserved
loop-block-preserved c =
    let turn = btree_map_turn deref_pair c.loop-block.yielded c.into_iter-block-iterator.result c.loop-block.block-iterator c.next.new.self c.next.result (c.in-Some.block, c.in-Some.page) c.loop-block.yielded_by c.in-Some.is c.next.ensures.steps nat_cmp_total c.args.blocks.now (search rules) (search rules) in
    record {
      placed = λ q. block_placed c.args.blocks.now (disk_of c.loop-block.ssd) (disk_of c.write.new.self) c.loop-block.block-iterator c.next.new.self c.in-Some.block.now c.in-Some.page.now q turn.1
          (rest_more deref_pair _ _ _ (c.in-Some.block, c.in-Some.page) c.in-Some.is c.next.ensures.steps) c.in_ok-write.ensures.written (c.loop-block.invariant.placed q);
      size = c.write.ensures.size ∙ c.loop-block.invariant.size;
    }
