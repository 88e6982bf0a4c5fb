use Rattle.std.proofs.Common.{◌≡◌, IsTrue, Some, None, sym, subst, ap, ◌∙◌}
use Rattle.line_pages.specs.Lines.{Lines}
use Rattle.line_pages.specs.Bytes.{bytes_of}
use Rattle.bplus_tree.proofs.Joined.{joins, joined_written, divided_written}
use Rattle.bplus_tree.proofs.PageLaws.{pair_joined}
use Rattle.bplus_tree.proofs.joining.join.Goals as goal

pub returns-in_ok-write_joined-in-None-clause-joins : goal.returns-in_ok-write_joined-in-None-clause-joins
returns-in_ok-write_joined-in-None-clause-joins g c = λ told.
    let old = g.P.Pages.standing c.args.pages.now in
    let first = g.P.Pages.standing c.fetch.new.pages in
    let new = g.P.Pages.standing c.write_joined.new.pages in
    let told_on = subst IsTrue (sym c.in_ok-fetch.ensures.call.continues.told) told in
    let same = c.in_ok-fetch.ensures.keeps.current told in
    let pair = c.args.pair.now in
    let none : c.merge.result ≡ None = c.in-None.is in
    let spare : c.merge.new.work.spare ≡ bytes_of first.current pair.left =
    c.merge.ensures.spare ∙ c.in_ok-fetch.ensures.spare ∙ c.in_ok-fetch.ensures.left_is told ∙ ap (λ (lines : Lines). bytes_of lines pair.left) (sym same) in
    let w = c.in_ok-write_joined-in-None.ensures.writes told_on spare in
    joins c.args.count old.current first.current new.current c.args.level pair None c.fetch.new.work.left c.fetch.new.work.right c.merge.new.work.left c.merge.new.work.right same (c.in_ok-fetch.ensures.left_is told) (c.in_ok-fetch.ensures.right_is told)
    (rw none at c.merge.ensures.leaves) (rw none at c.merge.ensures.inner)
    (λ free is part within. joined_written c.args.count first.current new.current pair c.merge.new.work.left c.merge.new.work.right free w is part within)

pub returns-in_ok-write_divided-in-Some-clause-joins : goal.returns-in_ok-write_divided-in-Some-clause-joins
returns-in_ok-write_divided-in-Some-clause-joins g c = λ told.
    let old = g.P.Pages.standing c.args.pages.now in
    let first = g.P.Pages.standing c.fetch.new.pages in
    let new = g.P.Pages.standing c.write_divided.new.pages in
    let told_on = subst IsTrue (sym c.in_ok-fetch.ensures.call.continues.told) told in
    let same = c.in_ok-fetch.ensures.keeps.current told in
    let pair = c.args.pair.now in
    let some : c.merge.result ≡ Some c.in-Some.key = c.in-Some.is in
    let spare : c.merge.new.work.spare ≡ bytes_of first.current pair.left =
    c.merge.ensures.spare ∙ c.in_ok-fetch.ensures.spare ∙ c.in_ok-fetch.ensures.left_is told ∙ ap (λ (lines : Lines). bytes_of lines pair.left) (sym same) in
    let page : c.merge.new.work.page ≡ bytes_of first.current pair.right =
    c.merge.ensures.page ∙ c.in_ok-fetch.ensures.page ∙ c.in_ok-fetch.ensures.right_is told ∙ ap (λ (lines : Lines). bytes_of lines pair.right) (sym same) in
    joins c.args.count old.current first.current new.current c.args.level pair (Some c.in-Some.key) c.fetch.new.work.left c.fetch.new.work.right c.merge.new.work.left c.merge.new.work.right same (c.in_ok-fetch.ensures.left_is told) (c.in_ok-fetch.ensures.right_is told)
    (rw some at c.merge.ensures.leaves) (rw some at c.merge.ensures.inner)
    (λ free is part within. divided_written c.args.count first.current new.current pair c.in-Some.key c.merge.new.work.left c.merge.new.work.right free (λ apart. c.in_ok-write_divided-in-Some.ensures.writes told_on spare page apart) is part within)

pub returns-in_ok-write_joined-in-None-clause-pages : goal.returns-in_ok-write_joined-in-None-clause-pages
returns-in_ok-write_joined-in-None-clause-pages g c = λ told.
    let old = g.P.Pages.standing c.args.pages.now in
    let first = g.P.Pages.standing c.fetch.new.pages in
    let new = g.P.Pages.standing c.write_joined.new.pages in
    let told_on = subst IsTrue (sym c.in_ok-fetch.ensures.call.continues.told) told in
    let same = c.in_ok-fetch.ensures.keeps.current told in
    let pair = c.args.pair.now in
    let none : c.merge.result ≡ None = c.in-None.is in
    let spare : c.merge.new.work.spare ≡ bytes_of first.current pair.left =
    c.merge.ensures.spare ∙ c.in_ok-fetch.ensures.spare ∙ c.in_ok-fetch.ensures.left_is told ∙ ap (λ (lines : Lines). bytes_of lines pair.left) (sym same) in
    let w = c.in_ok-write_joined-in-None.ensures.writes told_on spare in
    pair_joined c.args.count old.current first.current new.current c.args.level pair None c.fetch.new.work.left c.fetch.new.work.right c.merge.new.work.left c.merge.new.work.right same (c.in_ok-fetch.ensures.left_is told) (c.in_ok-fetch.ensures.right_is told)
    (rw none at c.merge.ensures.rows) (rw none at c.merge.ensures.children)
    (λ free is part within. joined_written c.args.count first.current new.current pair c.merge.new.work.left c.merge.new.work.right free w is part within)

pub returns-in_ok-write_divided-in-Some-clause-pages : goal.returns-in_ok-write_divided-in-Some-clause-pages
returns-in_ok-write_divided-in-Some-clause-pages g c = λ told.
    let old = g.P.Pages.standing c.args.pages.now in
    let first = g.P.Pages.standing c.fetch.new.pages in
    let new = g.P.Pages.standing c.write_divided.new.pages in
    let told_on = subst IsTrue (sym c.in_ok-fetch.ensures.call.continues.told) told in
    let same = c.in_ok-fetch.ensures.keeps.current told in
    let pair = c.args.pair.now in
    let some : c.merge.result ≡ Some c.in-Some.key = c.in-Some.is in
    let spare : c.merge.new.work.spare ≡ bytes_of first.current pair.left =
    c.merge.ensures.spare ∙ c.in_ok-fetch.ensures.spare ∙ c.in_ok-fetch.ensures.left_is told ∙ ap (λ (lines : Lines). bytes_of lines pair.left) (sym same) in
    let page : c.merge.new.work.page ≡ bytes_of first.current pair.right =
    c.merge.ensures.page ∙ c.in_ok-fetch.ensures.page ∙ c.in_ok-fetch.ensures.right_is told ∙ ap (λ (lines : Lines). bytes_of lines pair.right) (sym same) in
    pair_joined c.args.count old.current first.current new.current c.args.level pair (Some c.in-Some.key) c.fetch.new.work.left c.fetch.new.work.right c.merge.new.work.left c.merge.new.work.right same (c.in_ok-fetch.ensures.left_is told) (c.in_ok-fetch.ensures.right_is told)
    (rw some at c.merge.ensures.rows) (rw some at c.merge.ensures.children)
    (λ free is part within. divided_written c.args.count first.current new.current pair c.in-Some.key c.merge.new.work.left c.merge.new.work.right free (λ apart. c.in_ok-write_divided-in-Some.ensures.writes told_on spare page apart) is part within)
