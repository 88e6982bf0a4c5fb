use Rattle.std.proofs.Common.{arith}
use Rattle.page_frame.specs.Blocks.{places_of}
use Rattle.mini_page.proofs.MiniCalls.{in_masks}
use Rattle.mini_page.proofs.ChangeLaws.{all_gone}
use Rattle.mini_page.proofs.arena.MiniArena.clear.Goals as goal

pub index_mut-requires : goal.index_mut-requires
index_mut-requires c =
    let self = c.args.self.now in let below = in_masks self c.args.mini c.requires in
    omega (arith, below)

pub index_mut-requires-2 : goal.index_mut-requires-2
index_mut-requires-2 c =
    let self = c.args.self.now in let below = in_masks self c.args.mini c.requires in
    omega (arith, below, self.kept.dirty_long)

pub invariant_of-self : goal.invariant_of-self
invariant_of-self c =
    let self = c.args.self.now in let below = in_masks self c.args.mini c.requires in
    record { kept = (all_gone self.resident.items self.dirty.items self.table.items (places_of self.lines) self.kept c.args.mini below).are_kept }

pub returns : goal.returns
returns c =
    let self = c.args.self.now in let below = in_masks self c.args.mini c.requires in
    (all_gone self.resident.items self.dirty.items self.table.items (places_of self.lines) self.kept c.args.mini below).shown
