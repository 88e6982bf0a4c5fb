use Rattle.std.proofs.Common.{◌≡◌, ℕ, ◌+◌, ◌-◌, ◌*◌, ◌≤◌, inl, Bool, true, false, IsTrue, arith, refl, ap, sym, subst, ◌∙◌, cond, rules}
use Rattle.std.specs.Str.{bytes_eq}
use Rattle.line_pages.proofs.NumberLaws.{same_part}
use Rattle.line_pages.proofs.StandingLaws.{KeepsPages-trans, KeepsPages-then, KeepsPages-stops, KeepsPages-refl}
use Rattle.page_alloc.specs.Written.{Differs, line_part, changed_in}
use Rattle.page_alloc.proofs.WrittenLaws.{changed_none, visited_on}
use Rattle.page_alloc.proofs.TouchedLaws.{only_refl, only_then}
use Rattle.line_pages.proofs.CostLaws.{Costs-trans, Costs-weaker}
use Rattle.page_alloc.proofs.CostLaws.{costs_none}
use Rattle.page_alloc.proofs.LineLaws.{putting_start, putting_step, changed_next, still_writing}
use Rattle.page_alloc.proofs.write.write_lines.Goals as goal

pub loop-line-init : goal.loop-line-init
loop-line-init g c =
    let old = g.P.Pages.standing c.args.pages.now in
    record {
      call = KeepsPages-refl c.requires.ready;
      visited = inl (refl, refl);
      again = λ goes. omega arith;
      touched = only_refl c.args.page (Differs c.args.old.now c.args.new.now) old;
      costs = costs_none (c.args.from - c.args.from) old;
      nvm_kept = refl;
      ssd_kept = refl;
      room = refl;
      size_old = c.byte.ensures.size;
      size = c.byte-2.ensures.size;
      putting = λ told known. putting_start c.args.page c.args.from c.args.new.now old.current;
    }

one_left : (same : Bool) (now old all here rest : ℕ) → all ≤ old → now + all ≡ old + here → here ≡ cond same 0 1 + rest → 1 ≤ now + cond same 1 0
one_left true now old all here rest enough left step = omega arith
one_left false now old all here rest enough left step = omega (arith, enough, left, step)

pub write_changed-requires-clause-room : goal.write_changed-requires-clause-room
write_changed-requires-clause-room g c =
    let step = changed_next c.args.old.now c.args.new.now c.loop-line.line c.args.end c.loop-line-test.true in
    one_left (bytes_eq (line_part c.args.old.now c.loop-line.line) (line_part c.args.new.now c.loop-line.line)) _ _ _ _ _ c.requires.room c.loop-line.invariant.room step

pub loop-line-preserved : goal.loop-line-preserved
loop-line-preserved g c =
    let step = c.in_ok-write_changed.ensures in
    let before = c.loop-line.invariant in
    let l = c.loop-line.line in
    let old = g.P.Pages.standing c.args.pages.now in
    let mid = g.P.Pages.standing c.loop-line.pages in
    let new = g.P.Pages.standing c.write_changed.new.pages in
    record {
      call = KeepsPages-then before.call step.call;
      visited = visited_on c.args.page old mid new before.visited step.visited step.again;
      again = λ goes. let same = step.again (still_writing c.args.page old mid before.visited goes) in omega (arith, same, before.again goes);
      touched = only_then c.args.page (Differs c.args.old.now c.args.new.now) before.touched step.touches;
      costs = Costs-weaker (omega arith) (Costs-trans before.costs step.costs);
      nvm_kept = step.cause.kept.0 ∙ before.nvm_kept;
      ssd_kept = step.cause.kept.1 ∙ before.ssd_kept;
      room = omega (arith, before.room, step.room, changed_next c.args.old.now c.args.new.now l c.args.end c.loop-line-test.true);
      size_old = before.size_old;
      size = before.size;
      putting = λ told known.
          let told_on = subst IsTrue (sym before.call.continues.told) told in
          putting_step c.args.page c.args.from l c.args.old.now c.args.new.now old.current mid.current new.current (omega arith) (omega (arith, c.requires.within)) before.size_old before.size
          (same_part (64 * l) (64 * l + 64) (64 * c.args.from) (64 * c.args.end) _ _ known (omega arith) (omega arith)) (before.putting told known) (step.done told_on) (step.others told_on);
    }

pub returns-in_err-write_changed-clause-again : goal.returns-in_err-write_changed-clause-again
returns-in_err-write_changed-clause-again g c = λ goes.
    let before = c.loop-line.invariant in
    let same = c.write_changed.ensures.again (still_writing c.args.page (g.P.Pages.standing c.args.pages.now) (g.P.Pages.standing c.loop-line.pages) before.visited goes) in
    omega (arith, same, before.again goes)

pub returns-clause-room : goal.returns-clause-room
returns-clause-room g c =
    let none = changed_none c.args.old.now c.args.new.now c.args.end in
    let all : c.loop-line.line ≡ c.args.end = omega arith in
    let rest : changed_in c.args.old.now c.args.new.now c.loop-line.line (c.args.end - c.loop-line.line) ≡ 0 = ap (λ (n : ℕ). changed_in c.args.old.now c.args.new.now n (c.args.end - n)) all ∙ ap (changed_in c.args.old.now c.args.new.now c.args.end) (omega arith) ∙ none in
    omega (arith, c.loop-line.invariant.room, rest)

pub returns-clause-costs : goal.returns-clause-costs
returns-clause-costs g c = Costs-weaker (omega arith) c.loop-line.invariant.costs

pub returns-in_err-write_changed-clause-call : goal.returns-in_err-write_changed-clause-call
returns-in_err-write_changed-clause-call g c =
    let before = c.loop-line.invariant in
    KeepsPages-stops _ (search rules) (KeepsPages-trans before.call c.in_err-write_changed.ensures.call)
