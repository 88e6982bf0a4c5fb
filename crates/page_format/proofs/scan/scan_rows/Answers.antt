use Rattle.std.proofs.Common.{◌≡◌, ◌≢◌, arith, sym, ◌∙◌}
use Rattle.page_format.specs.Node.{leaf_rows}
use Rattle.page_format.proofs.SlotLemmas.{length_rows}
use Rattle.page_format.proofs.KeyLaws.{key_is, row_is, gap_is, goes_right, goes_left}
use Rattle.page_format.proofs.scan.scan_rows.Goals as goal

pub leaf_key-found-requires-clause-at : goal.leaf_key-found-requires-clause-at
leaf_key-found-requires-clause-at c = omega (arith, c.loop-i-test.true, c.open_rows-count.ensures.count, length_rows c.args.page.now)

pub returns-then-found-key-clause-spot : goal.returns-then-found-key-clause-spot
returns-then-found-key-clause-spot c =
    let page = c.args.page.now in
    let size = length_rows page in
    let key = key_is (leaf_rows page) c.loop-i.i c.leaf_key-found.result (omega (arith, c.open_rows-count.ensures.count)) c.leaf_key-found.ensures in
    row_is page c.args.expect.now c.args.key c.loop-i.i c.requires.leaf (omega (arith, c.open_rows-count.ensures.count)) (sym key ∙ c.if-found-key.true)

pub returns-then-found-key-2-clause-spot : goal.returns-then-found-key-2-clause-spot
returns-then-found-key-2-clause-spot c =
    let page = c.args.page.now in
    let size = length_rows page in
    let key = key_is (leaf_rows page) c.loop-i.i c.leaf_key-found.result (omega (arith, c.open_rows-count.ensures.count)) c.leaf_key-found.ensures in
    gap_is page c.args.expect.now c.args.key c.loop-i.i c.requires.leaf (omega (arith, c.open_rows-count.ensures.count))
    (goes_left page c.args.expect.now c.args.key c.loop-i.i c.open_rows-count.result c.loop-i.i c.leaf_key-found.result c.requires.leaf c.requires.well (omega (arith, c.open_rows-count.ensures.count)) key c.if-found-key-2.true c.loop-i.invariant.between)

pub loop-i-preserved : goal.loop-i-preserved
loop-i-preserved c =
    let page = c.args.page.now in
    let size = length_rows page in
    let key = key_is (leaf_rows page) c.loop-i.i c.leaf_key-found.result (omega (arith, c.open_rows-count.ensures.count)) c.leaf_key-found.ensures in
    let other : c.leaf_key-found.result ≢ c.args.key = c.if-found-key.false in
    record {
      between = goes_right page c.args.expect.now c.args.key c.loop-i.i c.open_rows-count.result c.loop-i.i c.leaf_key-found.result c.requires.leaf c.requires.well (omega (arith, c.open_rows-count.ensures.count)) key (omega (arith, c.if-found-key-2.false, other)) c.loop-i.invariant.between;
    }

pub returns-clause-spot : goal.returns-clause-spot
returns-clause-spot c =
    let end : c.loop-i.i ≡ c.open_rows-count.result = omega arith in
    gap_is c.args.page.now c.args.expect.now c.args.key c.open_rows-count.result c.requires.leaf (omega (arith, c.open_rows-count.ensures.count))
    (rw end at c.loop-i.invariant.between)
