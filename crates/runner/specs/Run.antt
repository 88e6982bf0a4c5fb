-- The way of a run: what was sent and stands at each moment, against what is to be sent and to stand in all.
use Rattle.std.specs.Prelude.{◌≡◌, ℕ, ◌+◌, ◌<◌, ◌≤◌, Bool, List, [], ◌∷◌, ◌++◌, length, Option, None, IfSome, Result, OnOk, IfErr, IsTrue}
use Rattle.devices.specs.State.{State as Devices, Image, Leaves, fresh}
use Rattle.devices.specs.World.{Standing, last_count, sent, sent_at}
use Rattle.flat_transactions.specs.Order.{Sizes}
use Rattle.rows.specs.Rows.{Row}
use Rattle.rows.specs.Tables.{Table}
use Rattle.script.specs.declared.command.Command.{Command}
use Rattle.script.specs.Grammar.{commands}
use Rattle.script.specs.Tables.{AreTables}
use Rattle.script.specs.Machine.{Open, State}
use Rattle.script.specs.Script.{machine}
use Rattle.script.specs.Replies.{text}
use Rattle.texts.specs.Runs as run
use Rattle.texts.specs.Output.{acked, IsWhole}
use Rattle.engine.specs.declared.engine.Engine.{Engine}
use Rattle.engine.specs.declared.scan.Scan.{Scan}
use Rattle.engine.specs.Steps.{rows_left}
use Rattle.engine.specs.Holds.{InOrder, bounds_in}
use Rattle.engine.specs.Engine.{engine_sizes, IsSteadyFor, Shows}
use Rattle.runner.specs.declared.stop.Ending.{Ending}
use Rattle.runner.specs.declared.stop.Ending.TheVariants.{End, Limit}
use Rattle.runner.specs.declared.stop.Halt.{Halt}
use Rattle.runner.specs.Cause.{HaltsByFault}

-- What is fixed for a whole run: what was sent before it, all that it is to send, the tables at its beginning and after each of
-- its commits, the sizes of the store and of the devices, and whether the store was in order when it began.
pub record Aim : Type 0 where
  pub before : List ℕ
  pub replies : List ℕ
  pub versions : List (List Table)
  pub sizes : Sizes
  pub lines : ℕ
  pub blocks : ℕ
  pub in_order : Bool

-- what a run is to do that begins with an engine which shows this state
abbrev pub aim_of : Engine → State → Standing → Bool → Aim
aim_of engine s old sure = record {
  before = sent old;
  replies = text (run.replies (machine (bounds_in (engine_sizes engine))) s (commands old.outside.input));
  versions = s.tables ∷ run.versions (machine (bounds_in (engine_sizes engine))) s (commands old.outside.input);
  sizes = engine_sizes engine;
  lines = old.lines;
  blocks = old.blocks;
  in_order = sure;
}

-- The aim is reached: all was sent, no transaction is open, and the engine shows the tables after the last commit.
pub record IsReached (aim : Aim) (engine : Engine) (w : Standing) : Type 0 where
  pub all_sent : sent w ≡ aim.before ++ aim.replies
  pub s : State
  pub past : List (List Table)
  pub last : past ++ s.tables ∷ [] ≡ aim.versions
  pub shows : Shows engine w s
  pub closed : s.transaction ≡ None
  pub sizes : engine_sizes engine ≡ aim.sizes
  pub lines : w.lines ≡ aim.lines
  pub blocks : w.blocks ≡ aim.blocks
  pub steady : IsTrue aim.in_order → IsSteadyFor engine w

-- Where a run stands: the engine shows this state of the plain machine, and these bytes and then the replies to these commands
-- are still to be sent.
pub record Owes (aim : Aim) (engine : Engine) (s : State) (bytes : List ℕ) (commands : List (Option Command)) (w : Standing) : Type 0 where
  pub said : List ℕ
  pub is_said : sent w ≡ aim.before ++ said
  pub to_send : said ++ (bytes ++ text (run.replies (machine (bounds_in aim.sizes)) s commands)) ≡ aim.replies
  pub past : List (List Table)
  pub to_commit : past ++ (s.tables ∷ run.versions (machine (bounds_in aim.sizes)) s commands) ≡ aim.versions
  pub counted : acked said + acked bytes ≡ length past
  pub at_most : acked bytes ≤ 1
  pub said_whole : IsWhole said
  pub bytes_whole : IsWhole bytes
  pub tables : AreTables s.tables
  pub copy : IfSome s.transaction (λ (o : Open). AreTables o.tables)
  pub shows : Shows engine w s
  pub sizes : engine_sizes engine ≡ aim.sizes
  pub lines : w.lines ≡ aim.lines
  pub blocks : w.blocks ≡ aim.blocks
  pub steady : IsTrue aim.in_order → IsSteadyFor engine w

-- What a crash leaves is in order with the tables after some of the commits: after every one that was acknowledged, and after at
-- most one more.
pub record IsKept (aim : Aim) (said : List ℕ) (i : Image) : Type 0 where
  pub tables : List Table
  pub past : List (List Table)
  pub later : List (List Table)
  pub version : past ++ (tables ∷ later) ≡ aim.versions
  pub in_order : InOrder aim.sizes tables aim.lines aim.blocks (fresh i)
  pub acknowledged : acked said ≤ length past
  pub one_more : length past ≤ acked said + 1

-- What is asked of a moment: what was sent is a beginning of the replies, and each image is kept.
pub record IsSafe (aim : Aim) (s : Devices) (out : List ℕ) : Type 0 where
  pub said : List ℕ
  pub is_said : out ≡ aim.before ++ said
  pub begins : (more : List ℕ) × (said ++ more ≡ aim.replies)
  pub images : IsTrue aim.in_order → (i : Image) → Leaves s i → IsKept aim said i

pub record AreSafe (aim : Aim) (old new : Standing) : Type 0 where
  pub each : (m : ℕ) → old.clock ≤ m → m ≤ new.clock → IsSafe aim (new.at m) (sent_at new m)

-- Each moment of the call is safe, it does not stop for damage, and after ok the run stands there.
pub record Proceeds {T : Type 0} (aim : Aim) (engine : Engine) (s : State) (bytes : List ℕ) (commands : List (Option Command)) (old new : Standing) (result : Result T Halt) : Type 0 where
  pub safe : AreSafe aim old new
  pub sound : IfErr result HaltsByFault
  pub ok : OnOk result (Owes aim engine s bytes commands new)

-- the same, with the state left open
pub record Comes {T : Type 0} (aim : Aim) (engine : Engine) (bytes : List ℕ) (commands : List (Option Command)) (old new : Standing) (result : Result T Halt) : Type 0 where
  pub s : State
  pub proceeds : Proceeds aim engine s bytes commands old new result

-- the rows that a scan gave and those that it has still to give can be counted
abbrev pub IsFew : Scan → List Row → Type 0
IsFew scan rows = scan.count + length (rows_left scan rows) < last_count

-- how far a script was read: to its end, which is within the limit, or to the limit, behind which there is more
abbrev pub Reaches : ℕ → Ending → Standing → Standing → Type 0
Reaches limit End old new = (length old.outside.input ≤ limit) × (new.outside.input ≡ [])
Reaches limit Limit old new = limit < length old.outside.input

-- at the end of a script nothing is owed, and no transaction is open
pub record IsDone (aim : Aim) (engine : Engine) (w : Standing) : Type 0 where
  pub s : State
  pub owes : Owes aim engine s [] [] w
  pub closed : s.transaction ≡ None

abbrev pub Ends : Aim → Engine → Ending → Standing → Type 0
Ends aim engine End w = IsDone aim engine w
Ends aim engine Limit w = Unit {0}
