use Rattle.std.proofs.Common.{◌∙◌, arith}
use Rattle.line_pages.proofs.NumberLaws.{u64_at-same}
use Rattle.page_edit.proofs.ChildLemmas.{entry-same, children_kept}
use Rattle.page_edit.proofs.entries.keep_children.Goals as goal

pub returns-clause-children : goal.returns-clause-children
returns-clause-children c = children_kept c.args.count c.args.page.now c.set_page_word.new.page c.requires.few c.set_page_word.ensures.value
    (λ k k_in. entry-same 16 4096 k _ _ c.set_page_word.ensures.after (omega arith) (omega (arith, c.requires.few, c.requires.inner.count)))

pub returns-clause-inner : goal.returns-clause-inner
returns-clause-inner c = record {
  size = c.set_page_word.ensures.size;
  kind = u64_at-same 0 8 0 _ _ c.set_page_word.ensures.before (omega arith) (omega arith) ∙ c.requires.inner.kind;
  count = omega (arith, c.set_page_word.ensures.value, c.requires.few, c.requires.inner.count);
}

pub returns-clause-level : goal.returns-clause-level
returns-clause-level c = u64_at-same 16 4096 16 _ _ c.set_page_word.ensures.after (omega arith) (omega arith)

pub returns-clause-unused : goal.returns-clause-unused
returns-clause-unused c = u64_at-same 16 4096 24 _ _ c.set_page_word.ensures.after (omega arith) (omega arith)
