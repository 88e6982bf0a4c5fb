use Rattle.std.proofs.Common.{arith, ℕ, IsTrue, sym, subst, ◌∙◌}
use Rattle.std.proofs.lemmas.Grind.{get_or_default_zero}
use Rattle.page_frame.specs.Blocks.{places_of}
use Rattle.page_frame.specs.LineSets.{has_line}
use Rattle.mini_page.proofs.MiniCalls.{in_masks}
use Rattle.mini_page.proofs.TableLaws.{resident_shown, dirty_shown, is_mini}
use Rattle.mini_page.proofs.arena.MiniArena.mask.Goals as goal

pub index-requires : goal.index-requires
index-requires c =
    let self = c.args.self.now in let below = in_masks self c.args.mini c.requires in
    omega (arith, below)

pub index-requires-2 : goal.index-requires-2
index-requires-2 c =
    let self = c.args.self.now in let below = in_masks self c.args.mini c.requires in
    omega (arith, below, self.kept.dirty_long)

pub invariant_of-result : goal.invariant_of-result
invariant_of-result c =
    let self = c.args.self.now in let below = in_masks self c.args.mini c.requires in
    let resident = c.index.ensures ∙ get_or_default_zero self.resident.items c.args.mini c.index.result.now below ∙ sym (resident_shown self.resident.items self.dirty.items self.table.items (places_of self.lines) self.kept c.args.mini below) in
    let dirty = c.index-2.ensures ∙ get_or_default_zero self.dirty.items c.args.mini c.index-2.result.now (omega (arith, below, self.kept.dirty_long)) ∙ sym (dirty_shown self.resident.items self.dirty.items self.table.items (places_of self.lines) c.args.mini below) in
    let mini = is_mini self.resident.items self.dirty.items self.table.items (places_of self.lines) self.kept c.args.mini below in
    record { covered = λ l low has. subst (λ (n : ℕ). IsTrue (has_line n l)) (sym resident) (mini.resident l low (subst (λ (n : ℕ). IsTrue (has_line n l)) dirty has)) }

pub returns-clause-resident : goal.returns-clause-resident
returns-clause-resident c =
    let self = c.args.self.now in let below = in_masks self c.args.mini c.requires in
    c.index.ensures ∙ get_or_default_zero self.resident.items c.args.mini c.index.result.now below ∙ sym (resident_shown self.resident.items self.dirty.items self.table.items (places_of self.lines) self.kept c.args.mini below)

pub returns-clause-dirty : goal.returns-clause-dirty
returns-clause-dirty c =
    let self = c.args.self.now in let below = in_masks self c.args.mini c.requires in
    c.index-2.ensures ∙ get_or_default_zero self.dirty.items c.args.mini c.index-2.result.now (omega (arith, below, self.kept.dirty_long)) ∙ sym (dirty_shown self.resident.items self.dirty.items self.table.items (places_of self.lines) c.args.mini below)

pub returns-clause-is_mini : goal.returns-clause-is_mini
returns-clause-is_mini c =
    let self = c.args.self.now in let below = in_masks self c.args.mini c.requires in
    is_mini self.resident.items self.dirty.items self.table.items (places_of self.lines) self.kept c.args.mini below
