use Rattle.std.proofs.Common.{◌≡◌, get_or, arith, ◌∙◌}
use Rattle.std.proofs.lemmas.Grind.{get_or_default_zero}
use Rattle.page_frame.specs.Blocks.{places_of}
use Rattle.mini_page.proofs.MiniCalls.{in_masks}
use Rattle.mini_page.proofs.CallLaws.{place_within, put_old}
use Rattle.mini_page.proofs.arena.MiniArena.set.Goals as goal

pub place-place-requires-clause-mini : goal.place-place-requires-clause-mini
place-place-requires-clause-mini c =
    in_masks c.args.self.now c.args.mini c.requires.mini

pub put-requires : goal.put-requires
put-requires c =
    let self = c.args.self.now in let below = in_masks self c.args.mini c.requires.mini in
    place_within self.resident.items self.dirty.items self.table.items (places_of self.lines) self.kept c.args.mini below c.args.line c.place-place.result c.requires.line c.requires.resident c.place-place.ensures

pub index_mut-requires : goal.index_mut-requires
index_mut-requires c =
    let self = c.args.self.now in let below = in_masks self c.args.mini c.requires.mini in
    omega (arith, below, self.kept.dirty_long)

pub invariant_of-self : goal.invariant_of-self
invariant_of-self c =
    let self = c.args.self.now in let below = in_masks self c.args.mini c.requires.mini in
    let mask : c.index_mut.result.now ≡ get_or self.dirty.items c.args.mini 0 = c.index_mut.ensures.value ∙ get_or_default_zero self.dirty.items c.args.mini c.index_mut.result.now (omega (arith, below, self.kept.dirty_long)) in
    record { kept = (put_old self.resident.items self.dirty.items self.table.items (places_of self.lines) self.kept c.args.mini below c.args.line c.args.value.now c.index_mut.result.now c.place-place.result (places_of c.put.new.self) c.requires.line c.requires.resident mask c.place-place.ensures c.put.ensures).are_kept }

pub returns : goal.returns
returns c =
    let self = c.args.self.now in let below = in_masks self c.args.mini c.requires.mini in
    let mask : c.index_mut.result.now ≡ get_or self.dirty.items c.args.mini 0 = c.index_mut.ensures.value ∙ get_or_default_zero self.dirty.items c.args.mini c.index_mut.result.now (omega (arith, below, self.kept.dirty_long)) in
    (put_old self.resident.items self.dirty.items self.table.items (places_of self.lines) self.kept c.args.mini below c.args.line c.args.value.now c.index_mut.result.now c.place-place.result (places_of c.put.new.self) c.requires.line c.requires.resident mask c.place-place.ensures c.put.ensures).shown
