use Rattle.std.proofs.Common.{◌≡◌, ◌-◌, ◌≤◌, suc, IsTrue, arith, sym, subst}
use Rattle.page_search.proofs.ProbeLaws.{leaf_searched, inner_searched}
use Rattle.page_search.proofs.BoundLaws.{leaf_most, inner_most, header_bound, probes_bound}
use Rattle.page_search.proofs.OpenLaws.{then_reads}
use Rattle.page_search.proofs.probe.probe.Goals as goal

pub returns-then-expect-eq0-clause-reads : goal.returns-then-expect-eq0-clause-reads
returns-then-expect-eq0-clause-reads g c = then_reads (g.P.Pages.standing c.args.pages.now) (g.P.Pages.standing c.read_header.new.pages) (g.P.Pages.standing c.probe_rows.new.pages) c.probe_rows.result c.in_ok-header.ensures.reads c.probe_rows.ensures.reads

pub returns-clause-reads : goal.returns-clause-reads
returns-clause-reads g c = then_reads (g.P.Pages.standing c.args.pages.now) (g.P.Pages.standing c.read_header.new.pages) (g.P.Pages.standing c.probe_children.new.pages) c.probe_children.result c.in_ok-header.ensures.reads c.probe_children.ensures.reads

pub returns-then-expect-eq0-clause-lines : goal.returns-then-expect-eq0-clause-lines
returns-then-expect-eq0-clause-lines g c = λ told well.
    let old = g.P.Pages.standing c.args.pages.now in
    let mid = g.P.Pages.standing c.read_header.new.pages in
    leaf_searched old mid (g.P.Pages.standing c.probe_rows.new.pages) c.probe_rows.result old.current mid.current c.args.page c.in_ok-header.header.count c.args.expect.now
    (c.in_ok-header.ensures.reads.current told) c.if-expect-eq0.true (c.in_ok-header.ensures.header told).count well c.in_ok-header.ensures.lines
    (c.probe_rows.ensures.lines (subst IsTrue (sym c.in_ok-header.ensures.call.continues.told) told))

pub returns-clause-lines : goal.returns-clause-lines
returns-clause-lines g c = λ told well.
    let old = g.P.Pages.standing c.args.pages.now in
    let mid = g.P.Pages.standing c.read_header.new.pages in
    let level : c.args.expect.now.level ≡ suc (c.args.expect.now.level - 1) = omega (arith, c.if-expect-eq0.false) in
    inner_searched old mid (g.P.Pages.standing c.probe_children.new.pages) c.probe_children.result old.current mid.current c.args.page (c.args.expect.now.level - 1) c.args.expect.now
    (c.in_ok-header.ensures.reads.current told) level well c.in_ok-header.ensures.lines
    (c.probe_children.ensures.lines (subst IsTrue (sym c.in_ok-header.ensures.call.continues.told) told))

pub returns-then-not-header_fits-clause-bound : goal.returns-then-not-header_fits-clause-bound
returns-then-not-header_fits-clause-bound g c = header_bound c.args.expect.now.level c.in_ok-header.ensures.lines

pub returns-then-expect-eq0-clause-bound : goal.returns-then-expect-eq0-clause-bound
returns-then-expect-eq0-clause-bound g c =
    let level = c.args.expect.now.level in
    probes_bound level 30 (g.P.Pages.standing c.args.pages.now) (g.P.Pages.standing c.read_header.new.pages) (g.P.Pages.standing c.probe_rows.new.pages) c.probe_rows.result
    (omega (arith, leaf_most level c.if-expect-eq0.true)) c.in_ok-header.ensures.lines c.probe_rows.ensures.bound

pub returns-clause-bound : goal.returns-clause-bound
returns-clause-bound g c =
    let level = c.args.expect.now.level in
    let some : 1 ≤ level = omega (arith, c.if-expect-eq0.false) in
    probes_bound level 9 (g.P.Pages.standing c.args.pages.now) (g.P.Pages.standing c.read_header.new.pages) (g.P.Pages.standing c.probe_children.new.pages) c.probe_children.result
    (omega (arith, inner_most level some)) c.in_ok-header.ensures.lines c.probe_children.ensures.bound
