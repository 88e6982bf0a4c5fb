use Rattle.std.proofs.Common.{◌≡◌, ◌≢◌, ◌+◌, ◌-◌, ◌<◌, ℕ, arith, ap, subst, ◌∙◌, get_or}
use Rattle.page_format.specs.Node.{Child, children, is_page_below}
use Rattle.page_format.specs.Spans.{Reaches}
use Rattle.page_format.proofs.ChildLaws.{SafeBounds, span_is, narrow_child, narrow_one, child_below, page_is}
use Rattle.page_format.proofs.scan.scan_children.Goals as goal
use Rattle.page_format.proofs.scan.scan_children.Goals.{After-child}

none : Child
none = (0, 0)

reaches : (c : After-child) → Reaches (children c.args.page.now) (c.first_above-next.result - 1 + 1) c.args.expect.now.high c.bound_before-high.result
reaches c =
    let next : c.first_above-next.result ≡ c.first_above-next.result - 1 + 1 = omega arith in
    subst (λ (n : ℕ). Reaches (children c.args.page.now) n c.args.expect.now.high c.bound_before-high.result) next c.bound_before-high.ensures

pub returns-clause-spot : goal.returns-clause-spot
returns-clause-spot c =
    span_is (children c.args.page.now) (c.first_above-next.result - 1) c.args.expect.now.high c.child.result c.child_key-low.result c.bound_before-high.result none
    (omega (arith, c.open_inner-count.ensures.count)) (reaches c) (c.child.ensures none) (c.child_key-low.ensures none)

pub returns-clause-safe : goal.returns-clause-safe
returns-clause-safe c =
    let expect = c.args.expect.now in
    let page = c.args.page.now in
    let at = c.first_above-next.result - 1 in
    let count = c.open_inner-count.result in
    let low = c.child_key-low.result in
    let high = c.bound_before-high.result in
    let above : expect.level ≢ 0 = (λ e. omega (arith, e, c.requires.inner)) in
    let next : c.first_above-next.result ≡ at + 1 = omega arith in
    let narrow = narrow_child page expect c.args.key count at low high none above c.requires.well c.open_inner-count.ensures.count c.requires.above c.requires.within (omega arith) (c.child_key-low.ensures none)
    (λ some. omega (arith, c.child_key-low.ensures none, c.first_above-next.ensures.low none (omega (arith, some))))
    (λ less. let after = c.first_above-next.ensures.high none (omega (arith, less)) in subst (λ (n : ℕ). c.args.key < (get_or (children page) n none).0) next after) (reaches c) in
    let safe : SafeBounds expect c.args.key low high = narrow_one expect c.args.key count at (at + 1) low high narrow c.open_inner-count.ensures.some (omega arith) (omega arith) in
    let below = page_is expect.pages c.child.result (ap (λ (n : ℕ). is_page_below expect.pages (0, n)) (c.child.ensures none) ∙ child_below page expect at none above c.requires.well (omega (arith, c.open_inner-count.ensures.count))) in
    (c.requires.inner, below.0, below.1, safe.low, safe.above, safe.below, safe.high, safe.no_root)
