-- What every call on pages keeps, by the pages before it and after it.
use Rattle.std.specs.Prelude.{Result, Ok, Err}
use Rattle.line_pages.specs.declared.pages.Pages.{Ghosts}
use Rattle.line_pages.specs.declared.stop.Stop.{Stop}
use Rattle.line_pages.specs.Standing.{KeepsPages}

-- One call, with what it answered: it goes on from what it found, and after ok the pages are ready, and steady where they were.
abbrev pub PagesCall : {P T : Type 0} → Ghosts P → P → P → Result T Stop → Type 0
PagesCall g old new result =
    KeepsPages (g.may_leave old) (g.may_leave new) (g.is_steady old) (g.is_steady new) (g.is_ready new) (g.standing old) (g.standing new) result

-- calls that all answered ok, also none
abbrev pub PagesCalls : {P : Type 0} → Ghosts P → P → P → Type 0
PagesCalls g old new = PagesCall {T = Unit {0}} g old new (Ok tt)

-- a call that gives the stop itself
abbrev pub PagesStop : {P : Type 0} → Ghosts P → P → P → Stop → Type 0
PagesStop g old new stop = PagesCall {T = Unit {0}} g old new (Err stop)
