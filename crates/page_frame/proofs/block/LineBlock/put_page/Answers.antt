use Rattle.std.proofs.Common.{◌≡◌, length, Some, arith, ap, ◌∙◌, slice_set, ◌+◌}
use Rattle.page_frame.specs.Blocks.{places_of}
use Rattle.page_frame.proofs.FillLaws.{page_up_to, page_begins, page_long, page_goes_on, page_ends}
use Rattle.page_frame.proofs.block.LineBlock.put_page.Goals as goal

pub loop-line-init : goal.loop-line-init
loop-line-init c = page_begins c.args.page.now c.args.from (places_of c.args.self.now) c.requires

pub put-requires : goal.put-requires
put-requires c =
    let places = places_of c.args.self.now in let below = c.loop-line-test.true in
    let long = page_long c.args.page.now c.args.from places c.requires c.loop-line.line (omega (arith, below)) in
    omega (arith, below, c.requires, ap length c.loop-line.invariant, long)

pub loop-line-preserved : goal.loop-line-preserved
loop-line-preserved c =
    c.put.ensures
    ∙ ap (λ v. slice_set (places_of c.loop-line.self) (c.args.from + c.loop-line.line) (Some v)) c.page_line.ensures.value
    ∙ page_goes_on c.args.page.now c.args.from (places_of c.args.self.now) c.requires (places_of c.loop-line.self) c.loop-line.line c.loop-line-test.true c.loop-line.invariant

pub returns : goal.returns
returns c =
    let places = places_of c.args.self.now in
    let all : c.loop-line.line ≡ 64 = omega arith in
    c.loop-line.invariant
    ∙ ap (λ k. page_up_to c.args.page.now c.args.from k places) all
    ∙ page_ends c.args.page.now c.args.from places c.requires
