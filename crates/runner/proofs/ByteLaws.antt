-- How the lines of a script come byte by byte.
use Rattle.std.proofs.Common.{◌≡◌, ◌≢◌, ℕ, ◌≤◌, List, [], ◌∷◌, ◌++◌, length, Result, Ok, Err, sym, ◌∙◌, ap, subst, append_assoc, Option, IsTrue}
use Rattle.std.specs.Prelude.{IsErr, IsErrAnd, IfErr}
use Rattle.std.proofs.lemmas.List.{append-nil}
use Rattle.devices.specs.World.{Standing, GoesOn, WorldCall, IsTimed, sent, sent_at, sent_by}
use Rattle.devices.proofs.JoinLaws.{Stays-now}
use Rattle.line_pages.specs.declared.stop.Stop.{Stop}
use Rattle.line_pages.specs.declared.stop.Stop.TheVariants.{Nvm, Ssd, Damaged}
use Rattle.texts.specs.Lines.{IsOneLine}
use Rattle.texts.proofs.LinesLaws.{commands_first, commands_dropped, commands_line}
use Rattle.script.specs.declared.command.Command.{Command}
use Rattle.script.specs.Grammar.{forms, command_in, commands}
use Rattle.script.specs.Machine.{State}
use Rattle.engine.specs.declared.engine.Engine.{Engine}
use Rattle.engine.specs.Engine.{StandsFor}
use Rattle.line_pages.specs.Standing.{IsFault}
use Rattle.runner.specs.declared.stop.Halt.{Halt}
use Rattle.runner.specs.declared.stop.Halt.TheVariants.{Store}
use Rattle.runner.specs.Cause.{HaltsByFault}
use Rattle.runner.specs.Run.{Aim, Owes, Comes}
use Rattle.runner.proofs.RunLaws.{still_safe, owes_still, idle_safe, comes_then, comes_ok, comes_err, handed_on}

-- ---- lines

-- a line feed ends the line
pub line_ends : (kept more : List ℕ) (b : ℕ) → IsOneLine kept → b ≡ 10 → commands (kept ++ b ∷ more) ≡ command_in kept ++ commands more
line_ends kept more b one is = ap (λ (x : ℕ). commands (kept ++ x ∷ more)) is ∙ commands_first forms kept more one

-- another byte is one of the line
pub line_grows : (kept more : List ℕ) (b : ℕ) → commands (kept ++ b ∷ more) ≡ commands ((kept ++ b ∷ []) ++ more)
line_grows kept more b = ap commands (sym (append_assoc kept (b ∷ []) more))

-- and is left out where the line is too long already
pub line_full : (kept more : List ℕ) (b : ℕ) → 1025 ≤ length kept → IsOneLine kept → b ≢ 10 → commands (kept ++ b ∷ more) ≡ commands (kept ++ more)
line_full kept more b full one other = commands_dropped forms kept b more full one other

-- at the end what is kept is the last line
pub line_last : (kept rest : List ℕ) → rest ≡ [] → commands (kept ++ rest) ≡ commands kept
line_last kept rest none = ap (λ (l : List ℕ). commands (kept ++ l)) none ∙ ap commands (append-nil kept)

pub line_whole : (line : List ℕ) → IsOneLine line → commands line ≡ command_in line ++ []
line_whole line one = commands_line forms line one ∙ sym (append-nil (command_in line))

-- ---- what is owed

-- what is owed by one list of commands is owed by one that is equal
pub owes_same : {aim : Aim} {engine : Engine} {s : State} {bytes : List ℕ} {xs ys : List (Option Command)} {w : Standing} → xs ≡ ys → Owes aim engine s bytes xs w → Owes aim engine s bytes ys w
owes_same {aim} {engine} {s} {bytes} {xs} {ys} {w} same owes = subst (λ (l : List (Option Command)). Owes aim engine s bytes l w) same owes

pub comes_same : {T : Type 0} {aim : Aim} {engine : Engine} {xs ys : List (Option Command)} {old new : Standing} {r : Result T Halt} → xs ≡ ys → Comes aim engine [] xs old new r → Comes aim engine [] ys old new r
comes_same {T} {aim} {engine} {xs} {ys} {old} {new} {r} same comes = subst (λ (l : List (Option Command)). Comes aim engine [] l old new r) same comes

-- a call that does nothing
pub idle : {T : Type 0} {aim : Aim} {engine : Engine} {s : State} {xs ys : List (Option Command)} {w : Standing} {v : T} → StandsFor engine w → IsTrue w.told → xs ≡ ys → Owes aim engine s [] xs w → Comes aim engine [] ys w w (Ok v)
idle {T} {aim} {engine} {s} {xs} {ys} {w} stands told same owes = record { s = s; proceeds = record { safe = idle_safe aim engine s [] xs w stands told owes; sound = tt; ok = owes_same same owes } }

-- a call behind others that went well
pub comes_on : {T U : Type 0} {aim : Aim} {between after : Engine} {xs ys : List (Option Command)} {a b c : Standing} {v : T} {r : Result U Halt} → Comes aim between [] xs a b (Ok v) → GoesOn b c
    → ((s : State) → Owes aim between s [] xs b → Comes aim after [] ys b c r) → Comes aim after [] ys a c r
comes_on first goes next = comes_then first.proceeds.safe goes (next first.s first.proceeds.ok)

-- what a call that went well gives, whatever its answer is
pub comes_well : {T U : Type 0} {aim : Aim} {engine : Engine} {xs : List (Option Command)} {old new : Standing} {r : Result T Halt} {v : T} (u : U) → r ≡ Ok v → Comes aim engine [] xs old new r → Comes aim engine [] xs old new (Ok u)
comes_well u is comes = record { s = comes.s; proceeds = record { safe = comes.proceeds.safe; sound = tt; ok = comes_ok comes is } }

-- a call that fails as another one did
pub comes_stopped : {T U : Type 0} {aim : Aim} {engine after : Engine} {xs ys : List (Option Command)} {old new : Standing} {r : Result T Halt} (q : Result U Halt) (why : Halt) → IsErr q × IsErrAnd q (λ found. found ≡ why) → r ≡ Err why
    → Comes aim engine [] xs old new r → Comes aim after [] ys old new q
comes_stopped {T} {U} {aim} {engine} {after} {xs} {ys} {old} {new} q why is was comes = comes_err q why is (subst (λ (x : Result T Halt). Comes aim engine [] xs old new x) was comes)

-- ---- a read of the script

module _ (aim : Aim) (engine : Engine) (s : State) (cs : List (Option Command)) (old new : Standing) (stands : StandsFor engine old) (told : IsTrue old.told) (timed : IsTimed old)
    (call : WorldCall old new) (same : new.outside.changes ≡ old.outside.changes) (owes : Owes aim engine s [] cs old) where
  sent_same : (m : ℕ) → old.clock ≤ m → sent_at new m ≡ sent old
  sent_same m low = ap (λ changes. sent_by changes m) same ∙ timed m low

  pub read_comes : Comes {T = Unit {0}} aim engine [] cs old new (Ok tt)
  read_comes = record {
    s = s;
    proceeds = record {
      safe = still_safe aim engine s [] cs old stands told owes new (λ m low high. (call.stays told).each m low high) (λ m low high. sent_same m low);
      sound = tt;
      ok = owes_still aim engine s [] cs old owes new call.goes (Stays-now call.goes call.stays told) (sent_same new.clock call.goes.clock);
    };
  }

-- one that fails
pub read_fails : {T U : Type 0} {aim : Aim} {engine after : Engine} {xs ys : List (Option Command)} {old new : Standing} {v : U} (q : Result T Halt) (why : Halt) → IsErr q × IsErrAnd q (λ found. found ≡ why) → HaltsByFault why
    → Comes aim engine [] xs old new (Ok v) → Comes aim after [] ys old new q
read_fails {T} {U} {aim} {engine} {after} {xs} {ys} {old} {new} {v} q why is fault comes =
    subst (λ (r : Result T Halt). Comes aim after [] ys old new r) (sym (handed_on q why is)) (record { s = comes.s; proceeds = record { safe = comes.proceeds.safe; sound = fault; ok = tt } })

-- ---- faults

-- a fault that `?` hands on
pub fault_err : {T : Type 0} (q : Result T Halt) (why : Halt) → IsErr q × IsErrAnd q (λ found. found ≡ why) → HaltsByFault why → IfErr q HaltsByFault
fault_err {T} q why is fault = subst (λ (r : Result T Halt). IfErr r HaltsByFault) (sym (handed_on q why is)) fault

-- a fault of the engine is one of the run
pub store_fault : (why : Stop) → IsFault why → HaltsByFault (Store why)
store_fault Nvm fault = fault
store_fault Ssd fault = fault
store_fault (Damaged kept) fault = fault
