-- How the calls of an abort join: what stops it, and what it makes of the devices.
use Rattle.std.proofs.Common.{◌≡◌, ◌≢◌, ℕ, ◌+◌, ◌*◌, ◌%◌, ◌<◌, ◌≤◌, List, [], refl, sym, ap, ◌∙◌, subst, arith, IsTrue, Result, Ok, Err, nat_lt, if◌then◌else◌}
use Rattle.std.specs.Prelude.{IfErr, IsErr}
use mathlib.Core.Path.{fun_ext}
use Rattle.nvm_model.specs.declared.line.Line.{Line}
use Rattle.nvm_model.specs.Memory.{line_of}
use Rattle.devices.specs.State.{State, Call, current, after_all, line_stored}
use Rattle.devices.specs.World.{Standing, Goes, Stays, MakesAll, now}
use Rattle.devices.proofs.MomentLaws.{Goes-on}
use Rattle.devices.proofs.JoinLaws.{Stays-now}
use Rattle.devices.proofs.CallLaws.{makes_then, makes_stop}
use Rattle.devices.proofs.StateLaws.{line_stored_other, flushed_other}
use Rattle.line_pages.specs.declared.stop.Stop.{Stop}
use Rattle.line_pages.specs.declared.stop.Stop.TheVariants.{Nvm, Ssd, Damaged}
use Rattle.flat_store_meaning.specs.Layout.{Sizes, frame_line, ring_line, ring_block}
use Rattle.flat_store_meaning.specs.Log.{Change}
use Rattle.flat_store_meaning.specs.Format.{word_in}
use Rattle.flat_store_meaning.specs.Recovered.{log_line, block_line}
use Rattle.flat_store_meaning.specs.InPlace.{store_calls}
use Rattle.flat_store_meaning.proofs.AtEndLaws.{OnOk_map}
use Rattle.flat_transactions.specs.declared.undo.PageLine.{PageLine}
use Rattle.flat_transactions.specs.TakenBack.{AbortCause, IsDamage, IsNvm, NamesPlace, SameLog, StandsAt, TakesLine}

-- the log's lines where nothing changed, and over two stretches
pub log_refl : (g : Sizes) (start : ℕ) (a : Standing) → SameLog g start a a
log_refl g start a = record { lines = λ offset. refl }

pub log_trans : {g : Sizes} {start : ℕ} {a b c : Standing} → SameLog g start a b → SameLog g start b c → SameLog g start a c
log_trans first second = record { lines = λ offset. second.lines offset ∙ first.lines offset }

pub log_stays : (g : Sizes) (start : ℕ) (a b : Standing) → Goes a b → Stays a b → IsTrue a.told → SameLog g start a b
log_stays g start a b goes stays told = record { lines = λ offset. ap (λ (s : State). log_line g start (current s) offset) (Stays-now (Goes-on goes) stays told) }

-- what stops a call, after calls that stopped for nothing
pub cause_then : {T U : Type 0} {v : U} (g : Sizes) (start tail : ℕ) (a b c : Standing) (r : Result T Stop) → Goes a b → AbortCause {T = U} g start tail a b (Ok v) → (IsTrue a.told → SameLog g start a b)
    → AbortCause g start tail b c r → AbortCause g start tail a c r
cause_then g start tail a b c (Ok value) goes first same second = record { failed = tt; nvm = second.nvm ∙ first.nvm; ssd = second.ssd ∙ first.ssd; reads = second.reads ∙ first.reads }
cause_then g start tail a b c (Err Nvm) goes first same second = record { failed = omega (arith, first.nvm, second.failed); nvm = tt; ssd = tt; reads = second.reads ∙ first.reads }
cause_then g start tail a b c (Err Ssd) goes first same second = record { failed = second.failed; nvm = tt; ssd = tt; reads = second.reads ∙ first.reads }
cause_then g start tail a b c (Err (Damaged kept)) goes first same second = record { failed = earlier second.failed; nvm = tt; ssd = tt; reads = second.reads ∙ first.reads }
  where
    earlier : IsDamage g start tail b kept → IsDamage g start tail a kept
    earlier it = record {
      offset = it.offset;
      line = it.line;
      check = it.check;
      keeps = it.keeps;
      above = it.above;
      below = it.below;
      fails = it.fails;
      held = λ told. it.held (subst (λ t. IsTrue t) (sym goes.told) told) ∙ (same told).lines it.offset;
    }

-- a stop that is handed on
pub cause_on : {T U : Type 0} {why : Stop} (g : Sizes) (start tail : ℕ) (a b : Standing) (r : Result U Stop) → r ≡ Err why → AbortCause {T = T} g start tail a b (Err why) → AbortCause g start tail a b r
cause_on {U = U} {why = why} g start tail a b r is it =
    subst (λ (x : Result U Stop). AbortCause g start tail a b x) (sym is) (record { failed = it.failed; nvm = tt; ssd = tt; reads = it.reads })

-- a line that is stored in a frame changes no line of the log
pub ring_same : (g : Sizes) (start page line : ℕ) (value : Line) (s : State) → ((offset : ℕ) → ring_line g offset ≢ frame_line g page line) → (offset : ℕ)
    → log_line g start (current (after_all (store_calls g page line value) s)) offset ≡ log_line g start (current s) offset
ring_same g start page line value s apart offset =
    ap (λ (words : ℕ → ℕ). if nat_lt offset start then block_line (s.ssd (ring_block g offset)).bytes (offset % 64) else line_of words)
    (fun_ext (λ w. ap (λ x. x.newest) (flushed_other (frame_line g page line) (line_stored (frame_line g page line) value s) (ring_line g offset) w (apart offset)
    ∙ line_stored_other (frame_line g page line) value s (ring_line g offset) w (apart offset))))

-- calls behind loads, and calls that were never made
pub makes_behind : {T E : Type 0} {calls : List Call} {a b c : Standing} {r : Result T E} → Goes a b → Goes b c → Stays a b → MakesAll calls b c r → MakesAll calls a c r
makes_behind {T} {E} {calls} {a} {b} {c} {r} first second stays makes = makes_then {v = tt} first second (none first stays) makes
  where
    none : Goes a b → Stays a b → MakesAll {T = Unit {0}} {E = E} [] a b (Ok tt)
    none first stays = record { whole = λ told. Stays-now (Goes-on first) stays told; part = stays }

pub makes_nothing : {T E : Type 0} (calls : List Call) (a b : Standing) (r : Result T E) → IsErr r → Goes a b → Stays a b → MakesAll calls a b r
makes_nothing {T} {E} calls a b r failed goes stays = makes_stop {T = T} {U = Unit {0}} {E = E} {F = Unit {0}} calls r failed none
  where
    none : MakesAll {T = Unit {0}} {E = Unit {0}} [] a b (Err tt)
    none = record { whole = λ told. tt; part = stays }

-- the ring stands before the frames
pub ring_below : (g : Sizes) (offset page line : ℕ) → 2 ≤ g.log_blocks → ring_line g offset < frame_line g page line
ring_below g offset page line some = let within : offset % (64 * g.log_blocks) < 64 * g.log_blocks = omega arith in omega arith

-- stopped before anything was stored
pub takes_nothing : {T : Type 0} {why : Stop} (g : Sizes) (start offset : ℕ) (a b : Standing) (r : Result T Stop) → r ≡ Err why → Goes a b → Stays a b
    → ((change : Change) → StandsAt g (log_line g start (current (now a))) offset change → IsNvm why) → TakesLine g start offset a b r
takes_nothing {T = T} {why = why} g start offset a b r is goes stays stops =
    subst (λ (x : Result T Stop). TakesLine g start offset a b x) (sym is)
    (record { log = tt; stops = stops; makes = λ change at. makes_nothing {T = T} {E = Stop} (store_calls g change.page change.line change.before) a b (Err why) refl goes stays })

-- the line before was loaded, and then put in its place
module _ (g : Sizes) (start offset : ℕ) (place : PageLine) (before : Line) (a c : Standing) (r : Result (Unit {0}) Stop) (told : IsTrue a.told)
    (names : NamesPlace g (log_line g start (current (now a)) offset) place) (loaded : before ≡ log_line g start (current (now a)) (offset + 1))
    (apart : (o : ℕ) → ring_line g o < frame_line g place.page place.line) (makes : MakesAll (store_calls g place.page place.line before) a c r) (stops : IfErr r IsNvm) where
  same_calls : (change : Change) → StandsAt g (log_line g start (current (now a))) offset change → store_calls g place.page place.line before ≡ store_calls g change.page change.line change.before
  same_calls change at =
      let page : place.page ≡ change.page = sym names.page ∙ ap (λ (line : Line). word_in line 1) at.head in
      let line : place.line ≡ change.line = sym names.line ∙ ap (λ (line : Line). word_in line 2) at.head in
      ap (λ n. store_calls g n place.line before) page ∙ ap (λ n. store_calls g change.page n before) line
      ∙ ap (λ (value : Line). store_calls g change.page change.line value) (loaded ∙ at.before)

  not_in_ring : (o : ℕ) → ring_line g o ≢ frame_line g place.page place.line
  not_in_ring o same = let below : ring_line g o < frame_line g place.page place.line = apart o in absurd (omega arith)

  pub takes_behind : TakesLine g start offset a c r
  takes_behind = record {
    log = OnOk_map r (λ (done : now c ≡ after_all (store_calls g place.page place.line before) (now a)).
        record { lines = λ o. ap (λ (s : State). log_line g start (current s) o) done ∙ ring_same g start place.page place.line before (now a) not_in_ring o }) (makes.whole told);
    stops = λ change at. stops;
    makes = λ change at. subst (λ (calls : List Call). MakesAll calls a c r) (same_calls change at) makes;
  }
