-- Runs in which nothing was written so far.
use Rattle.std.proofs.Common.{◌≡◌, ◌∙◌, ℕ, List, [], ◌∷◌, ◌++◌, refl, sym, ap, subst, append_assoc, true, false, IsTrue, Result, Ok, Err, Option}
use Rattle.std.specs.Prelude.{OnOk, IfErr, IsErr, IsErrAnd, ◌&&◌}
use Rattle.std.specs.List.{list_all}
use Rattle.std.proofs.lemmas.Bool.{and_parts}
use Rattle.std.proofs.lemmas.List.{append-nil, append_cancel_right}
use Rattle.std.proofs.lemmas.List.Folds.{list_all-append}
use Rattle.devices.specs.World.{Standing, now}
use Rattle.line_pages.specs.Lines.{Lines}
use Rattle.flat_transactions.proofs.OpenStoreLaws.{lines_still, committed_still}
use Rattle.texts.specs.Lines.{IsOneLine}
use Rattle.script.specs.declared.command.Command.{Command}
use Rattle.script.specs.Grammar.{command_in, commands}
use Rattle.engine.specs.declared.engine.Engine.{Engine}
use Rattle.engine.specs.Engine.{engine_sizes, evidence_bytes}
use Rattle.engine.specs.Resting.{is_read, AreReads, Rests}
use Rattle.runner.specs.declared.stop.Halt.{Halt}
use Rattle.runner.specs.declared.stop.Halt.TheVariants.{Source, Sink}
use Rattle.runner.specs.Resting.{IsHaltOf, ReadsOn, Follows, TakesOn}
use Rattle.runner.proofs.CauseLaws.{OnOk-any}
use Rattle.runner.proofs.RunLaws.{handed_on}
use Rattle.runner.proofs.ByteLaws.{line_whole}

-- ---- commands that write nothing

reads_parts : (xs ys : List (Option Command)) → AreReads (xs ++ ys) → AreReads xs × AreReads ys
reads_parts xs ys are =
    let both : (list_all is_read xs && list_all is_read ys) ≡ true = sym (list_all-append is_read xs ys) ∙ are in
    and_parts (list_all is_read xs) (list_all is_read ys) both

pub reads_first : {cs : List (Option Command)} (xs ys : List (Option Command)) → cs ≡ xs ++ ys → AreReads cs → AreReads xs
reads_first xs ys same are = (reads_parts xs ys (subst AreReads same are)).0

pub reads_rest : {cs : List (Option Command)} (xs ys : List (Option Command)) → cs ≡ xs ++ ys → AreReads cs → AreReads ys
reads_rest xs ys same are = (reads_parts xs ys (subst AreReads same are)).1

-- ---- devices that stay

pub rests_still : (lines : Lines) (engine : Engine) (a b : Standing) → now b ≡ now a → Rests lines engine a → Rests lines engine b
rests_still lines engine a b same it = record {
  current = lines_still engine.book a b same ∙ it.current;
  committed = committed_still a b same ∙ it.committed;
}

-- ---- answers

-- one that went well, whatever its answer is
pub well : {T : Type 0} {lines : Lines} {engine : Engine} {left : List (Option Command)} {new : Standing} (v : T) → Rests lines engine new → AreReads left → ReadsOn lines engine left new (Ok v)
well v rests are = record { stays = rests; next = are; shows = tt }

-- one that stopped, of which the error is handed on
pub halted : {T : Type 0} {lines : Lines} {engine : Engine} {left : List (Option Command)} {new : Standing} (q : Result T Halt) (why : Halt) → IsErr q × IsErrAnd q (λ found. found ≡ why) → IsHaltOf lines (evidence_bytes engine) why → ReadsOn lines engine left new q
halted {T} {lines} {engine} {left} {new} q why is shows = subst (λ (x : Result T Halt). ReadsOn lines engine left new x) (sym (handed_on q why is)) (record { stays = tt; next = tt; shows = shows })

-- a fault of the output shows no page
sink_shows : {T : Type 0} (lines : Lines) (buffer : List ℕ) (r : Result T Halt) → IfErr r (λ why. why ≡ Sink) → IfErr r (IsHaltOf lines buffer)
sink_shows lines buffer (Ok v) is = tt
sink_shows lines buffer (Err why) is = subst (λ (x : Halt). IsHaltOf lines buffer x) (sym is) tt

pub sink_halt : (lines : Lines) (buffer : List ℕ) (why : Halt) → why ≡ Sink → IsHaltOf lines buffer why
sink_halt lines buffer why is = subst (λ (x : Halt). IsHaltOf lines buffer x) (sym is) tt

pub said_on : {T : Type 0} {lines : Lines} {engine : Engine} {new : Standing} (r : Result T Halt) → IfErr r (λ why. why ≡ Sink) → Rests lines engine new → ReadsOn lines engine [] new r
said_on {lines = lines} {engine = engine} r is rests = record { stays = OnOk-any r rests; next = OnOk-any r refl; shows = sink_shows lines (evidence_bytes engine) r is }

-- a fault of the script shows none either
pub read_halt : (lines : Lines) (buffer : List ℕ) (why : Halt) → why ≡ Source → IsHaltOf lines buffer why
read_halt lines buffer why is = subst (λ (x : Halt). IsHaltOf lines buffer x) (sym is) tt

pub on_error : {T : Type 0} (P : Type 0) (q : Result T Halt) → IsErr q → OnOk q P
on_error P (Ok v) is = let clash : false ≡ true = is in absurd (cc)
on_error P (Err why) is = tt

-- a stop by the same words of another call
pub shows_on : {T : Type 0} (lines : Lines) (buffer : List ℕ) (q : Result T Halt) (why : Halt) → IsErr q × IsErrAnd q (λ found. found ≡ why) → IsHaltOf lines buffer why → IfErr q (IsHaltOf lines buffer)
shows_on {T} lines buffer q why is shows = subst (λ (x : Result T Halt). IfErr x (IsHaltOf lines buffer)) (sym (handed_on q why is)) shows

-- ---- bytes behind bytes

-- a piece more was taken
pub follows_piece : (before piece later : List ℕ) → AreReads (commands ((before ++ piece) ++ later)) → AreReads (commands (before ++ (piece ++ later)))
follows_piece before piece later are = subst (λ (l : List ℕ). AreReads (commands l)) (append_assoc before piece later) are

-- what was taken is what was taken before and the piece
pub taken_is : (before piece taken rest input : List ℕ) → input ≡ piece ++ rest → before ++ input ≡ taken ++ rest → taken ≡ before ++ piece
taken_is before piece taken rest input is same =
    append_cancel_right taken (before ++ piece) rest (sym same ∙ ap (λ (l : List ℕ). before ++ l) is ∙ sym (append_assoc before piece rest))

-- what was taken up to the same place is the same
pub taken_all : (before taken input middle rest : List ℕ) → input ≡ before ++ middle → input ≡ taken ++ rest → rest ≡ middle → taken ≡ before
taken_all before taken input middle rest first second same =
    append_cancel_right taken before middle (ap (λ (l : List ℕ). taken ++ l) (sym same) ∙ sym second ∙ first)

-- at the end the line that is kept is the last
pub last_follows : {lines : Lines} {engine : Engine} {d : Standing} (before line : List ℕ) → Follows lines before line engine d → IsOneLine line → AreReads (commands before) → Rests lines engine d × AreReads (command_in line)
last_follows before line follows one are =
    let ends = follows [] (subst (λ (l : List ℕ). AreReads (commands l)) (sym (append-nil before)) are) in
    (ends.0, reads_first (command_in line) [] (line_whole line one) (subst (λ (l : List ℕ). AreReads (commands l)) (append-nil line) ends.1))
