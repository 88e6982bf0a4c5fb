use Rattle.std.proofs.Common.{rules, IfErr, List, ◌≡◌, ◌≤◌, ◌+◌, ℕ, true, Result, Ok, Err, IfOk, OnOk, refl, arith, sym, subst, IsTrue, ap, ◌∙◌}
use Rattle.page_format.specs.declared.root.Expect.{Expect}
use Rattle.page_format.proofs.PageFacts.{inner_facts}
use Rattle.node_edit.specs.declared.fit.Fit.{Fit}
use Rattle.node_edit.specs.declared.fit.Fit.TheVariants as fits
use Rattle.bplus_tree.specs.declared.outcome.Outcome.{Outcome}
use Rattle.bplus_tree.specs.declared.outcome.Outcome.TheVariants.{Whole, Short, Cut, Alone}
use Rattle.page_alloc.specs.Written.{lines_changed}
use Rattle.line_pages.specs.declared.stop.Stop.{Stop}
use Rattle.damage.specs.declared.evidence.Evidence.TheVariants.{Page}
use Rattle.line_pages.specs.Lines.{Lines}
use Rattle.line_pages.specs.Bytes.{bytes_of}
use Rattle.line_pages.specs.Standing.{HasCause}
use Rattle.page_format.specs.Search.{Keeps}
use Rattle.bplus_tree.specs.Damage.{IsTreeDamage, FailsTree}
use Rattle.bplus_tree.specs.Edit.{IsOutcome, StaysBelow}
use Rattle.page_alloc.proofs.WrittenLaws.{changed_most}
use Rattle.bplus_tree.proofs.Storing.{spent_most, if_both, child_added}
use Rattle.bplus_tree.proofs.TreeDamageLaws.{root_damage, root_fails}
use Rattle.page_alloc.specs.Stops.{spare_pages}
use Rattle.bplus_tree.specs.Path.{IsFullAt}
use Rattle.page_alloc.proofs.LackLaws.{stops_wider, stored_sound}
use Rattle.page_format.specs.Node.{entry_count}
use Rattle.bplus_tree.specs.Full.{NamesFull, CutsFor, IsNeeded}
use Rattle.bplus_tree.proofs.FullLaws.{not_full_names, fault_needed, cuts_of, needed_of, inner_many}
use Rattle.bplus_tree.proofs.change.add_child.Goals as goal

stays : {E : Type 0} (count : ℕ) (e : Expect) (fit : Fit) (r : Result Outcome E) → (e.root ≡ true → e.level ≡ 3 → fit ≡ fits.Whole) → IfOk r (IsOutcome count fit) → IfOk r (StaysBelow e)
stays count e fit (Ok Whole) whole is = tt
stays count e fit (Ok Short) whole is = tt
stays count e fits.Whole (Ok (Cut key right)) whole is = absurd (cc)
stays count e fits.Short (Ok (Cut key right)) whole is = absurd (cc)
stays count e (fits.Cut at) (Ok (Cut key right)) whole is = λ root level. let e2 = whole root level in absurd (cc)
stays count e fit (Ok (Alone child)) whole is = tt
stays count e fit (Err stop) whole is = tt

pub returns-clause-below : goal.returns-clause-below
returns-clause-below g c =
    let e = c.args.expect.now in
    let bytes = c.load.new.work.page in
    stays _ e c.inner_put-fit.result c.store.result
    (λ root level.
    let not_full = c.is_full_root.ensures.room c.if-is_full_root.false root level in
    let facts = inner_facts bytes e (λ z. omega (arith, z, level)) c.in_ok-load.ensures.well in
    c.inner_put-fit.ensures.room (omega (arith, not_full, facts.room)))
    c.store.ensures.is

pub store-requires-clause-room : goal.store-requires-clause-room
store-requires-clause-room g c =
    let most = spent_most (lines_changed c.copy_from.new.self c.inner_put-fit.new.left) c.inner_put-fit.result (changed_most c.copy_from.new.self c.inner_put-fit.new.left) in
    omega (arith, most, c.requires.room, c.in_ok-load.ensures.keeps.room)

total : {T E : Type 0} (r : Result T E) (old mid new n : ℕ) → mid ≡ old → n ≤ 129 → OnOk r (mid ≤ new + n) → OnOk r (old ≤ new + 129)
total (Ok v) old mid new n a b e = omega (arith, a, b, e)
total (Err s) old mid new n a b e = tt

pub returns-clause-room : goal.returns-clause-room
returns-clause-room g c =
    total c.store.result _ _ _ _ c.in_ok-load.ensures.keeps.room (spent_most (lines_changed c.copy_from.new.self c.inner_put-fit.new.left) c.inner_put-fit.result (changed_most c.copy_from.new.self c.inner_put-fit.new.left)) c.store.ensures.room

pub returns-then-is_full_root-clause-cause : goal.returns-then-is_full_root-clause-cause
returns-then-is_full_root-clause-cause g c =
    let e = c.args.expect.now in
    let old = g.P.Pages.standing c.args.pages.now in
    let new = g.P.Pages.standing c.load.new.pages in
    let buffer = c.load.new.work.page in
    let yes_full = c.if-is_full_root.true in
    subst (λ (s : Stop). HasCause {T = Outcome} (IsTreeDamage old.told old.count new.current buffer) old new (Err s)) (sym c.full_root.ensures) (record {
      failed = root_damage old.told old.count new.current buffer (Page c.args.page e.level e.low e.high 39)
          (λ told. (c.requires.page, c.in_ok-load.ensures.bytes told ∙ ap (λ (lines : Lines). bytes_of lines c.args.page) (sym (c.in_ok-load.ensures.keeps.current told)), c.is_full_root.ensures.level yes_full, c.requires.span (c.is_full_root.ensures.root yes_full), refl, c.is_full_root.ensures.full yes_full));
      kept = tt;
    })

pub returns-then-is_full_root-clause-fails : goal.returns-then-is_full_root-clause-fails
returns-then-is_full_root-clause-fails g c =
    let e = c.args.expect.now in
    let old = g.P.Pages.standing c.args.pages.now in
    let buffer = c.load.new.work.page in
    let yes_full = c.if-is_full_root.true in
    subst (λ (s : Stop). Keeps (FailsTree old.count buffer) s) (sym c.full_root.ensures)
    (root_fails old.count buffer (Page c.args.page e.level e.low e.high 39)
    (c.requires.page, c.is_full_root.ensures.level yes_full, c.requires.span (c.is_full_root.ensures.root yes_full), refl, c.is_full_root.ensures.full yes_full))

pub returns-clause-adds : goal.returns-clause-adds
returns-clause-adds g c = λ told.
    let e = c.args.expect.now in
    let old = g.P.Pages.standing c.args.pages.now in
    let first = g.P.Pages.standing c.load.new.pages in
    let new = g.P.Pages.standing c.store.new.pages in
    let told_on = subst IsTrue (sym c.in_ok-load.ensures.call.continues.told) told in
    let same = c.in_ok-load.ensures.keeps.current told in
    let is = c.in_ok-load.ensures.bytes told in
    let spare = c.copy_from.ensures.value ∙ is ∙ ap (λ (lines : Lines). bytes_of lines c.args.page) (sym same) in
    if_both c.store.result
    (λ outcome stores outcome_is. child_added e old.current first.current new.current c.args.page c.args.key c.args.child first.count c.load.new.work.page c.inner_put-fit.new.left c.inner_put-fit.new.right c.inner_put-fit.result outcome
    (c.in_ok-load.ensures.call.continues.count ∙ sym c.requires.pages) same is c.inner_put-fit.ensures.fits c.inner_put-fit.ensures.long c.inner_put-fit.ensures.parts outcome_is stores)
    (c.store.ensures.stores told_on spare) c.store.ensures.is

pub returns-clause-sound : goal.returns-clause-sound
returns-clause-sound g c = λ told free well is_free part fits.
    let old = g.P.Pages.standing c.args.pages.now in
    let first = g.P.Pages.standing c.load.new.pages in
    let told_on = subst IsTrue (sym c.in_ok-load.ensures.call.continues.told) told in
    let same = c.in_ok-load.ensures.keeps.current told in
    let spare = c.copy_from.ensures.value ∙ c.in_ok-load.ensures.bytes told ∙ ap (λ (lines : Lines). bytes_of lines c.args.page) (sym same) in
    stops_wider (spare_pages old.count old.current free ≤ 0) (spare_pages old.count old.current free ≤ 0) ⊥ (IsFullAt old.current c.args.page c.args.expect.now) (λ none. none) (λ never. absurd never) c.store.result
    (stored_sound old.count first.count old.current first.current c.args.page c.copy_from.new.self free c.store.result c.in_ok-load.ensures.call.continues.count same spare is_free part fits (c.store.ensures.sound told_on))

pub returns-clause-cuts : goal.returns-clause-cuts
returns-clause-cuts g c = λ told.
    let first = g.P.Pages.standing c.load.new.pages in
    let bytes = c.load.new.work.page in
    let many = inner_many c.args.expect.now bytes c.inner_put-fit.result c.requires.level c.in_ok-load.ensures.well c.inner_put-fit.ensures.room in
    subst (λ (b : List ℕ). IfOk c.store.result (CutsFor (entry_count b ≡ 240))) (c.in_ok-load.ensures.bytes told)
    (cuts_of first.count c.inner_put-fit.result (entry_count bytes ≡ 240) c.store.result many c.store.ensures.is)

pub returns-in_err-load-clause-at : goal.returns-in_err-load-clause-at
returns-in_err-load-clause-at g c =
    let High : Type 0 = c.args.expect.now.level ≡ 3 in
    let h : IfErr c.load.result (NamesFull c.args.page High) = not_full_names c.args.page High c.load.result c.load.ensures.not_full in
    let k = subst (λ r. IfErr r (NamesFull c.args.page High)) c.in_err-load.was h in
    search (rules, k)

pub returns-then-is_full_root-clause-at : goal.returns-then-is_full_root-clause-at
returns-then-is_full_root-clause-at g c =
    subst (λ (s : Stop). NamesFull c.args.page (c.args.expect.now.level ≡ 3) s) (sym c.full_root.ensures) (λ e. (refl, c.is_full_root.ensures.level c.if-is_full_root.true))

pub returns-clause-at : goal.returns-clause-at
returns-clause-at g c = not_full_names c.args.page (c.args.expect.now.level ≡ 3) c.store.result c.store.ensures.not_full

pub returns-in_err-load-clause-needed : goal.returns-in_err-load-clause-needed
returns-in_err-load-clause-needed g c = λ told well.
    let old = g.P.Pages.standing c.args.pages.now in
    let Many : Type 0 = entry_count (bytes_of old.current c.args.page) ≡ 240 in
    let High : Type 0 = c.args.expect.now.level ≡ 3 in
    let h : IfErr c.load.result (IsNeeded Many High) = fault_needed Many High c.load.result (c.load.ensures.sound told well) in
    let k = subst (λ r. IfErr r (IsNeeded Many High)) c.in_err-load.was h in
    search (rules, k)

pub returns-then-is_full_root-clause-needed : goal.returns-then-is_full_root-clause-needed
returns-then-is_full_root-clause-needed g c = λ told well.
    let old = g.P.Pages.standing c.args.pages.now in
    let yes_full = c.if-is_full_root.true in
    let many = subst (λ (b : List ℕ). entry_count b ≡ 240) (c.in_ok-load.ensures.bytes told) (c.is_full_root.ensures.full yes_full) in
    subst (λ (s : Stop). IsNeeded (entry_count (bytes_of old.current c.args.page) ≡ 240) (c.args.expect.now.level ≡ 3) s) (sym c.full_root.ensures) (many, λ e. c.is_full_root.ensures.level yes_full)

pub returns-clause-needed : goal.returns-clause-needed
returns-clause-needed g c = λ told well.
    let bytes = c.load.new.work.page in
    let High : Type 0 = c.args.expect.now.level ≡ 3 in
    let many = inner_many c.args.expect.now bytes c.inner_put-fit.result c.requires.level c.in_ok-load.ensures.well c.inner_put-fit.ensures.room in
    subst (λ (b : List ℕ). IfErr c.store.result (IsNeeded (entry_count b ≡ 240) High)) (c.in_ok-load.ensures.bytes told)
    (needed_of c.inner_put-fit.result (entry_count bytes ≡ 240) High c.store.result many c.store.ensures.plain c.store.ensures.not_full)
