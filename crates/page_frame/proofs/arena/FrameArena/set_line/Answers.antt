use Rattle.std.proofs.Common.{◌∙◌}
use Rattle.std.proofs.lemmas.Grind.{get_or_default_zero}
use Rattle.page_frame.proofs.ArenaCalls.{in_masks, put}
use Rattle.page_frame.proofs.arena.FrameArena.set_line.Goals as goal

pub invariant_of-self-clause-places : goal.invariant_of-self-clause-places
invariant_of-self-clause-places c =
    let self = c.args.self.now in let old = c.index_mut.result.now in
    let mask = c.index_mut.ensures.value ∙ get_or_default_zero self.resident.items c.args.frame old (in_masks self c.args.frame c.requires.frame) in
    (put self c.args.frame c.requires.frame c.args.line old c.args.value.now c.put.new.self c.requires.line mask c.put.ensures).sized

pub invariant_of-self-clause-masks : goal.invariant_of-self-clause-masks
invariant_of-self-clause-masks c =
    let self = c.args.self.now in let old = c.index_mut.result.now in
    let mask = c.index_mut.ensures.value ∙ get_or_default_zero self.resident.items c.args.frame old (in_masks self c.args.frame c.requires.frame) in
    (put self c.args.frame c.requires.frame c.args.line old c.args.value.now c.put.new.self c.requires.line mask c.put.ensures).masked

pub returns : goal.returns
returns c =
    let self = c.args.self.now in let old = c.index_mut.result.now in
    let mask = c.index_mut.ensures.value ∙ get_or_default_zero self.resident.items c.args.frame old (in_masks self c.args.frame c.requires.frame) in
    (put self c.args.frame c.requires.frame c.args.line old c.args.value.now c.put.new.self c.requires.line mask c.put.ensures).shown
