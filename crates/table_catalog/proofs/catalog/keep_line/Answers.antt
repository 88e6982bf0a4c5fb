use Rattle.table_catalog.proofs.CopyLaws.{kept_line, kept_others, kept_same}
use Rattle.table_catalog.proofs.catalog.keep_line.Goals as goal

pub returns-clause-line : goal.returns-clause-line
returns-clause-line c =
    let put = c.set_page_line.ensures in
    kept_line c.args.copy.now c.set_page_line.new.page c.args.at c.whole_line.result c.args.line.now put.bytes c.whole_line.ensures.value put.size_old c.requires.at c.whole_line.ensures.is_line

pub returns-clause-others : goal.returns-clause-others
returns-clause-others c = λ other inside apart.
    let put = c.set_page_line.ensures in
    kept_others c.args.copy.now c.set_page_line.new.page c.args.at other c.whole_line.result put.bytes put.size_old c.requires.at inside apart

pub returns-clause-same : goal.returns-clause-same
returns-clause-same c = λ lines copy there.
    kept_same lines c.args.copy.now c.set_page_line.new.page c.args.at c.whole_line.result c.args.line.now c.set_page_line.ensures.bytes c.whole_line.ensures.value c.requires.at copy there
