use Rattle.std.proofs.Common.{◌≢◌, Result, Ok, Err, OnOk, IsTrue, sym, subst}
use Rattle.page_alloc.specs.Space.{word}
use Rattle.page_alloc.proofs.Places.{take_answer}
use Rattle.page_alloc.proofs.SoundLaws.{sound_take_on}
use Rattle.page_alloc.proofs.space.take_page.Goals as goal

always : {T E P : Type 0} (r : Result T E) → P → OnOk r P
always (Ok v) p = p
always (Err e) p = tt

on_ok : {T E P Q : Type 0} (r : Result T E) → (P → Q) → OnOk r P → OnOk r Q
on_ok (Ok v) to p = to p
on_ok (Err e) to p = tt

pub returns-then-header-eq0-clause-moves : goal.returns-then-header-eq0-clause-moves
returns-then-header-eq0-clause-moves g c = λ told.
    let old = g.P.Pages.standing c.args.pages.now in
    let first = g.P.Pages.standing c.read_header.new.pages in
    let new = g.P.Pages.standing c.take_fresh.new.pages in
    let told_on = subst IsTrue (sym c.in_ok-header.ensures.call.continues.told) told in
    let header = c.in_ok-header.header in
    take_answer old.count old.current first.current new.current header c.take_fresh.result (c.in_ok-header.ensures.keeps.current told) (c.take_fresh.ensures.taken told_on) (c.take_fresh.ensures.current told_on)
    (c.in_ok-header.ensures.header told) c.in_ok-header.ensures.line.eight c.in_ok-header.ensures.fits
    (on_ok c.take_fresh.result (λ left none. subst (λ n. word header 2 ≢ n) c.in_ok-header.ensures.call.continues.count left) c.take_fresh.ensures.left)

pub returns-clause-moves : goal.returns-clause-moves
returns-clause-moves g c = λ told.
    let old = g.P.Pages.standing c.args.pages.now in
    let first = g.P.Pages.standing c.read_header.new.pages in
    let new = g.P.Pages.standing c.take_free.new.pages in
    let told_on = subst IsTrue (sym c.in_ok-header.ensures.call.continues.told) told in
    let header = c.in_ok-header.header in
    take_answer old.count old.current first.current new.current header c.take_free.result (c.in_ok-header.ensures.keeps.current told) (c.take_free.ensures.taken told_on) (c.take_free.ensures.current told_on)
    (c.in_ok-header.ensures.header told) c.in_ok-header.ensures.line.eight c.in_ok-header.ensures.fits
    (always c.take_free.result (λ none. absurd (c.if-header-eq0.false none)))

pub returns-then-header-eq0-clause-sound : goal.returns-then-header-eq0-clause-sound
returns-then-header-eq0-clause-sound g c = λ told fits free is_free.
    let old = g.P.Pages.standing c.args.pages.now in
    let first = g.P.Pages.standing c.read_header.new.pages in
    let told_on = subst IsTrue (sym c.in_ok-header.ensures.call.continues.told) told in
    sound_take_on old.count first.count old.current first.current free c.take_fresh.result told_on c.in_ok-header.ensures.call.continues.count (c.in_ok-header.ensures.keeps.current told) fits is_free c.take_fresh.ensures.cause

pub returns-clause-sound : goal.returns-clause-sound
returns-clause-sound g c = λ told fits free is_free.
    let old = g.P.Pages.standing c.args.pages.now in
    let first = g.P.Pages.standing c.read_header.new.pages in
    let told_on = subst IsTrue (sym c.in_ok-header.ensures.call.continues.told) told in
    sound_take_on old.count first.count old.current first.current free c.take_free.result told_on c.in_ok-header.ensures.call.continues.count (c.in_ok-header.ensures.keeps.current told) fits is_free c.take_free.ensures.cause
