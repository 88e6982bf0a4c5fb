-- How a run begins.
use Rattle.std.proofs.Common.{◌≡◌, ℕ, ◌∙◌, Bool, true, false, List, [], ◌++◌, refl, sym, ap, arith, IsTrue}
use Rattle.std.proofs.lemmas.List.{append-nil}
use Rattle.devices.specs.World.{Standing, sent}
use Rattle.script.specs.Grammar.{commands}
use Rattle.script.specs.Machine.{State}
use Rattle.texts.proofs.OutputLaws.{IsWhole-empty}
use Rattle.engine.specs.declared.engine.Engine.{Engine}
use Rattle.engine.specs.Engine.{IsSteadyFor, Shows}
use Rattle.runner.specs.Run.{Aim, aim_of, Owes, IsDone, IsReached}
use Rattle.runner.proofs.TablesLaws.{shows_tables, shows_copy}

module _ (engine : Engine) (s : State) (old : Standing) where
  pub begun : (sure : Bool) → Shows engine old s → (IsTrue sure → IsSteadyFor engine old) → Owes (aim_of engine s old sure) engine s [] (commands old.outside.input) old
  begun sure shows steady = record {
    said = [];
    is_said = sym (append-nil (sent old));
    to_send = refl;
    past = [];
    to_commit = refl;
    counted = refl;
    at_most = omega arith;
    said_whole = IsWhole-empty;
    bytes_whole = IsWhole-empty;
    tables = shows_tables shows;
    copy = shows_copy shows;
    shows = shows;
    sizes = refl;
    lines = refl;
    blocks = refl;
    steady = steady;
  }

  -- a run that may be of a store in no order
  pub begun_read : Shows engine old s → Owes (aim_of engine s old false) engine s [] (commands old.outside.input) old
  begun_read shows = begun false shows (λ sure. absurd (let wrong : false ≡ true = sure in cc))

-- a run that owes nothing more has reached its aim
pub reached_by : (aim : Aim) (engine : Engine) (w : Standing) → IsDone aim engine w → IsReached aim engine w
reached_by aim engine w done = record {
  all_sent = (done.owes).is_said ∙ ap (λ (l : List ℕ). aim.before ++ l) (sym (append-nil (done.owes).said) ∙ (done.owes).to_send);
  s = done.s;
  past = (done.owes).past;
  last = (done.owes).to_commit;
  shows = (done.owes).shows;
  closed = done.closed;
  sizes = (done.owes).sizes;
  lines = (done.owes).lines;
  blocks = (done.owes).blocks;
  steady = (done.owes).steady;
}
