use Rattle.std.proofs.Common.{◌≡◌, get_or, refl, arith, ◌∙◌}
use Rattle.std.proofs.lemmas.Grind.{get_or_default_zero}
use Rattle.page_frame.specs.Blocks.{places_of}
use Rattle.mini_page.proofs.MiniCalls.{in_masks}
use Rattle.mini_page.proofs.CallLaws.{full_if, full_only, room, put_new}
use Rattle.mini_page.proofs.arena.MiniArena.add.Goals as goal

pub index-requires : goal.index-requires
index-requires c =
    let self = c.args.self.now in let below = in_masks self c.args.mini c.requires.mini in
    omega (arith, below)

pub returns-then-count-eq16-clause-refused : goal.returns-then-count-eq16-clause-refused
returns-then-count-eq16-clause-refused c =
    let self = c.args.self.now in let below = in_masks self c.args.mini c.requires.mini in
    let mask : c.index.result.now ≡ get_or self.resident.items c.args.mini 0 = c.index.ensures ∙ get_or_default_zero self.resident.items c.args.mini c.index.result.now below in
    (λ e. full_if self.resident.items self.dirty.items self.table.items (places_of self.lines) self.kept c.args.mini below c.index.result.now mask c.if-count-eq16.true, λ full. refl)

pub put-requires : goal.put-requires
put-requires c =
    let self = c.args.self.now in let below = in_masks self c.args.mini c.requires.mini in
    let mask : c.index.result.now ≡ get_or self.resident.items c.args.mini 0 = c.index.ensures ∙ get_or_default_zero self.resident.items c.args.mini c.index.result.now below in
    room self.resident.items self.dirty.items self.table.items (places_of self.lines) self.kept c.args.mini below c.index.result.now mask c.if-count-eq16.false

pub index_mut-requires : goal.index_mut-requires
index_mut-requires c =
    let self = c.args.self.now in let below = in_masks self c.args.mini c.requires.mini in
    omega (arith, below, self.kept.table_long, c.requires.line)

pub index_mut-requires-2 : goal.index_mut-requires-2
index_mut-requires-2 c =
    let self = c.args.self.now in let below = in_masks self c.args.mini c.requires.mini in
    omega (arith, below)

pub invariant_of-self : goal.invariant_of-self
invariant_of-self c =
    let self = c.args.self.now in let below = in_masks self c.args.mini c.requires.mini in
    let mask : c.index.result.now ≡ get_or self.resident.items c.args.mini 0 = c.index.ensures ∙ get_or_default_zero self.resident.items c.args.mini c.index.result.now below in
    let again : c.index_mut-2.result.now ≡ get_or self.resident.items c.args.mini 0 = c.index_mut-2.ensures.value ∙ get_or_default_zero self.resident.items c.args.mini c.index_mut-2.result.now below in
    record { kept = (put_new self.resident.items self.dirty.items self.table.items (places_of self.lines) self.kept c.args.mini below c.args.line c.args.value.now c.index.result.now c.index_mut-2.result.now (places_of c.put.new.self) c.requires.line c.requires.absent mask again c.if-count-eq16.false c.put.ensures).are_kept }

pub returns-clause-refused : goal.returns-clause-refused
returns-clause-refused c =
    let self = c.args.self.now in let below = in_masks self c.args.mini c.requires.mini in
    let mask : c.index.result.now ≡ get_or self.resident.items c.args.mini 0 = c.index.ensures ∙ get_or_default_zero self.resident.items c.args.mini c.index.result.now below in
    (λ e. cc, λ full. absurd (c.if-count-eq16.false (full_only self.resident.items self.dirty.items self.table.items (places_of self.lines) self.kept c.args.mini below c.index.result.now mask full)))

pub returns-clause-added : goal.returns-clause-added
returns-clause-added c =
    let self = c.args.self.now in let below = in_masks self c.args.mini c.requires.mini in
    let mask : c.index.result.now ≡ get_or self.resident.items c.args.mini 0 = c.index.ensures ∙ get_or_default_zero self.resident.items c.args.mini c.index.result.now below in
    let again : c.index_mut-2.result.now ≡ get_or self.resident.items c.args.mini 0 = c.index_mut-2.ensures.value ∙ get_or_default_zero self.resident.items c.args.mini c.index_mut-2.result.now below in
    (put_new self.resident.items self.dirty.items self.table.items (places_of self.lines) self.kept c.args.mini below c.args.line c.args.value.now c.index.result.now c.index_mut-2.result.now (places_of c.put.new.self) c.requires.line c.requires.absent mask again c.if-count-eq16.false c.put.ensures).shown
