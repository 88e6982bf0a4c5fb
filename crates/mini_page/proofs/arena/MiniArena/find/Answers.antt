use Rattle.std.proofs.Common.{None, get_or, ap, sym, ◌∙◌}
use Rattle.page_frame.specs.Blocks.{places_of}
use Rattle.mini_page.proofs.MiniCalls.{in_masks}
use Rattle.mini_page.proofs.TableLaws.{absent_shown, present_shown, stands_in}
use Rattle.mini_page.proofs.arena.MiniArena.find.Goals as goal

pub has-requires-clause-mini : goal.has-requires-clause-mini
has-requires-clause-mini c =
    in_masks c.args.self.now c.args.mini c.requires.mini

pub returns-then-not-has : goal.returns-then-not-has
returns-then-not-has c =
    let self = c.args.self.now in let below = in_masks self c.args.mini c.requires.mini in
    sym (absent_shown self.resident.items self.dirty.items self.table.items (places_of self.lines) self.kept c.args.mini c.args.line below c.requires.line (sym c.has.ensures ∙ c.if-not-has.true))

pub place-requires-clause-mini : goal.place-requires-clause-mini
place-requires-clause-mini c =
    in_masks c.args.self.now c.args.mini c.requires.mini

pub get-requires : goal.get-requires
get-requires c =
    let self = c.args.self.now in let below = in_masks self c.args.mini c.requires.mini in
    let there = stands_in (get_or self.resident.items c.args.mini 0) (get_or self.dirty.items c.args.mini 0) self.table.items (places_of self.lines) c.args.mini (self.kept.each c.args.mini below) c.args.line c.requires.line (sym c.has.ensures ∙ c.if-not-has.false) in
    (there.0, ap (λ k. get_or (places_of self.lines) k None) c.place.ensures ∙ there.1)

pub returns : goal.returns
returns c =
    let self = c.args.self.now in let below = in_masks self c.args.mini c.requires.mini in
    sym (present_shown self.resident.items self.dirty.items self.table.items (places_of self.lines) self.kept c.args.mini c.args.line below c.requires.line (sym c.has.ensures ∙ c.if-not-has.false) ∙ ap (λ k. get_or (places_of self.lines) k None) (sym c.place.ensures) ∙ c.get.ensures)
