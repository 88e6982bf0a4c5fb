-- How a run goes on.
use Rattle.std.proofs.Common.{◌≡◌, inl, inr, ⊎_elim, ℕ, ◌+◌, ◌≤◌, Bool, true, false, List, [], ◌∷◌, ◌++◌, length, take, drop, cond, Result, Ok, Err, refl, sym, ◌∙◌, ap, subst, arith, append_assoc, length-append, IsTrue, Option}
use Rattle.std.specs.Prelude.{IsErr, IsErrAnd}
use Rattle.std.proofs.lemmas.Bool.{cases_lt, cases_Bool}
use Rattle.std.proofs.lemmas.List.{append-nil, take-append-drop}
use Rattle.std.proofs.lemmas.List.Concat.{flat_map-append}
use Rattle.std.proofs.lemmas.Result.{IfOk-at_ok}
use Rattle.devices.specs.State.{State as Devices, Image, Leaves, fresh}
use Rattle.devices.specs.World.{Standing, GoesOn, WorldCall, IsTimed, now, sent, sent_at}
use Rattle.devices.proofs.MomentLaws.{Goes-sent}
use Rattle.line_pages.specs.declared.stop.Stop.{Stop}
use Rattle.line_pages.specs.declared.stop.Stop.TheVariants.{Nvm, Ssd, Damaged}
use Rattle.flat_transactions.specs.OpenStore.{committed_lines}
use Rattle.flat_transactions.specs.Order.{Sizes, ssd_blocks}
use Rattle.flat_transactions.proofs.OpenStoreLaws as store
use Rattle.rows.specs.Tables.{Table}
use Rattle.texts.specs.Lines.{is_silent}
use Rattle.texts.specs.Runs as run
use Rattle.texts.specs.Output.{acked, IsWhole}
use Rattle.texts.proofs.OutputLaws.{IsWhole-append, acked-whole, acked_prefix}
use Rattle.texts.proofs.TextLaws.{IsWhole-text}
use Rattle.texts.proofs.RunsLaws.{replies-append}
use Rattle.script.specs.declared.command.Command.{Command}
use Rattle.script.specs.Grammar.{command_of, command_in}
use Rattle.script.specs.Machine.{Bounds, State, current, step}
use Rattle.script.specs.Replies.{reply_line, reply_text, text}
use Rattle.script.specs.Script.{machine}
use Rattle.script.proofs.GrammarLaws.{IsCommand-read}
use Rattle.script.proofs.MachineLaws.{tells, step_keeps}
use Rattle.script.proofs.ScriptLaws.{IsState-line, acked-step}
use Rattle.script.proofs.ValuesLaws.{IsState}
use Rattle.engine.specs.declared.engine.Engine.{Engine}
use Rattle.engine.specs.Engine.{engine_sizes, engine_lines, StandsFor, IsSteadyFor, Shows}
use Rattle.line_pages.specs.Standing.{IsFault}
use Rattle.engine.specs.Holds.{bounds_in, InOrder}
use Rattle.engine.specs.Answers.{closed}
use Rattle.engine.specs.Steps.{Does, after_line}
use Rattle.engine.proofs.DoesLaws.{engine_fits}
use Rattle.engine.proofs.HoldsLaws.{holds_same, image_in_order}
use Rattle.runner.specs.declared.stop.Halt.{Halt}
use Rattle.runner.specs.declared.stop.Halt.TheVariants.{Store}
use Rattle.runner.specs.Cause.{HaltsByFault}
use Rattle.runner.specs.Sent.{SendsBytes}
use Rattle.runner.specs.Run.{Aim, Owes, IsSafe, AreSafe, Proceeds, Comes, IsDone}

-- ---- an engine over a call that leaves the devices

module _ (engine : Engine) (old new : Standing) (goes : GoesOn old new) (same : IsTrue old.told → now new ≡ now old) where
  pub stands_still : StandsFor engine old → StandsFor engine new
  stands_still it = record {
    ready = store.ready_still engine.book old new goes same it.ready;
    disk = subst (λ (n : ℕ). ssd_blocks (engine_sizes engine) ≤ n) (sym goes.blocks) it.disk;
    limits = it.limits;
    writes = it.writes;
    few = it.few;
    room = it.room;
    counted = it.counted;
  }

  pub steady_still : IsSteadyFor engine old → IsSteadyFor engine new
  steady_still it = store.steady_still engine.book old new goes same it

pub shows_still : (engine : Engine) (old new : Standing) (s : State) → now new ≡ now old → Shows engine old s → Shows engine new s
shows_still engine old new s same it = record {
  committed = holds_same (engine_sizes engine) (committed_lines old) (committed_lines new) s.tables (store.committed_still old new same) it.committed;
  seen = holds_same (engine_sizes engine) (engine_lines engine old) (engine_lines engine new) (current s) (store.lines_still engine.book old new same) it.seen;
  transaction = it.transaction;
  commits = it.commits;
}

-- ---- what is owed, over a call that leaves it

module _ (aim : Aim) (engine : Engine) (s : State) (bytes : List ℕ) (commands : List (Option Command)) (old : Standing) (owes : Owes aim engine s bytes commands old) where
  -- a call that leaves the devices and what was sent
  pub owes_still : (new : Standing) → GoesOn old new → now new ≡ now old → sent new ≡ sent old → Owes aim engine s bytes commands new
  owes_still new goes same same_sent = record {
    said = owes.said;
    is_said = same_sent ∙ owes.is_said;
    to_send = owes.to_send;
    past = owes.past;
    to_commit = owes.to_commit;
    counted = owes.counted;
    at_most = owes.at_most;
    said_whole = owes.said_whole;
    bytes_whole = owes.bytes_whole;
    tables = owes.tables;
    copy = owes.copy;
    shows = shows_still engine old new s same owes.shows;
    sizes = owes.sizes;
    lines = goes.lines ∙ owes.lines;
    blocks = goes.blocks ∙ owes.blocks;
    steady = λ in_order. steady_still engine old new goes (λ told. same) (owes.steady in_order);
  }

-- ---- part of what is owed is sent

-- what is in order for these sizes is so for the same ones by other words
pub order_by : {g h : Sizes} {n m k j : ℕ} {T : List Table} {x : Devices} → g ≡ h → n ≡ m → k ≡ j → InOrder g T n k x → InOrder h T m j x
order_by {g} {h} {n} {m} {k} {j} {T} {x} sizes lines blocks it =
    subst (λ (y : Sizes). InOrder y T m j x) sizes (subst (λ (y : ℕ). InOrder g T y j x) lines (subst (λ (y : ℕ). InOrder g T n y x) blocks it))

module _ (aim : Aim) (engine : Engine) (s : State) (bytes : List ℕ) (commands : List (Option Command)) (old : Standing) (stands : StandsFor engine old) (told : IsTrue old.told) (owes : Owes aim engine s bytes commands old) where
  behind : List ℕ
  behind = text (run.replies (machine (bounds_in aim.sizes)) s commands)

  image_kept : IsTrue aim.in_order → (i : Image) → Leaves (now old) i → InOrder aim.sizes s.tables aim.lines aim.blocks (fresh i)
  image_kept in_order i left = order_by owes.sizes owes.lines owes.blocks
      (image_in_order (engine_sizes engine) s.tables old.lines old.blocks (committed_lines old) i (engine_fits engine old stands) owes.shows.committed
      (store.steady_left engine.book old (owes.steady in_order) told i left))

  to_send_part : (front back : List ℕ) → front ++ back ≡ bytes → (owes.said ++ front) ++ (back ++ text (run.replies (machine (bounds_in aim.sizes)) s commands)) ≡ aim.replies
  to_send_part front back is =
      append_assoc owes.said front (back ++ text (run.replies (machine (bounds_in aim.sizes)) s commands))
      ∙ ap (λ (l : List ℕ). owes.said ++ l) (sym (append_assoc front back (text (run.replies (machine (bounds_in aim.sizes)) s commands))) ∙ ap (λ (l : List ℕ). l ++ text (run.replies (machine (bounds_in aim.sizes)) s commands)) is)
      ∙ owes.to_send

  -- with a first part of the bytes sent
  pub safe_part : (front back : List ℕ) → front ++ back ≡ bytes → IsSafe aim (now old) (sent old ++ front)
  safe_part front back is = record {
    said = owes.said ++ front;
    is_said = ap (λ (l : List ℕ). l ++ front) owes.is_said ∙ append_assoc aim.before owes.said front;
    begins = (back ++ text (run.replies (machine (bounds_in aim.sizes)) s commands), to_send_part front back is);
    images = λ in_order i left.
        let count : acked (owes.said ++ front) ≡ acked owes.said + acked front = acked-whole front owes.said_whole in
        let less : acked front ≤ acked bytes = subst (λ (l : List ℕ). acked front ≤ acked l) is (acked_prefix front back) in
        let whole : acked owes.said + acked bytes ≡ length owes.past = owes.counted in
        let most : acked bytes ≤ 1 = owes.at_most in
        record {
          tables = s.tables;
          past = owes.past;
          later = run.versions (machine (bounds_in aim.sizes)) s commands;
          version = owes.to_commit;
          in_order = image_kept in_order i left;
          acknowledged = omega arith;
          one_more = omega arith;
        };
  }

  -- at each moment nothing was done
  pub still_safe : (new : Standing) → ((m : ℕ) → old.clock ≤ m → m ≤ new.clock → new.at m ≡ now old) → ((m : ℕ) → old.clock ≤ m → m ≤ new.clock → sent_at new m ≡ sent old) → AreSafe aim old new
  still_safe new states outs = record {
    each = λ m low high.
        subst (λ (x : Devices). IsSafe aim x (sent_at new m)) (sym (states m low high))
        (subst (IsSafe aim (now old)) (sym (outs m low high)) (subst (IsSafe aim (now old)) (append-nil (sent old)) (safe_part [] bytes refl)));
  }

  pub idle_safe : AreSafe aim old old
  idle_safe = still_safe old
      (λ m low high. let same : m ≡ old.clock = omega arith in ap (λ (k : ℕ). old.at k) same)
      (λ m low high. let same : m ≡ old.clock = omega arith in ap (λ (k : ℕ). sent_at old k) same)

  -- the first of the bytes are sent, or a part of them
  pub said_safe : {T E : Type 0} (first more : List ℕ) (new : Standing) (r : Result T E) → first ++ more ≡ bytes → WorldCall old new → SendsBytes first old new r → AreSafe aim old new
  said_safe first more new r is call writes = record {
    each = λ m low high.
        let part = writes.part m low high in
        let all : take part.0 first ++ (drop part.0 first ++ more) ≡ bytes =
        sym (append_assoc (take part.0 first) (drop part.0 first) more) ∙ ap (λ (l : List ℕ). l ++ more) (take-append-drop part.0 first) ∙ is in
        subst (λ (x : Devices). IsSafe aim x (sent_at new m)) (sym ((call.stays told).each m low high)) (subst (IsSafe aim (now old)) (sym part.1) (safe_part (take part.0 first) (drop part.0 first ++ more) all));
  }

-- and all of them are sent
pub said_all : (aim : Aim) (engine : Engine) (s : State) (first more : List ℕ) (commands : List (Option Command)) (old new : Standing) → IsTrue old.told → Owes aim engine s (first ++ more) commands old
    → IsWhole first → IsWhole more → WorldCall old new → sent new ≡ sent old ++ first → Owes aim engine s more commands new
said_all aim engine s first more commands old new told owes whole_first whole_more call all =
    let same : now new ≡ now old = (call.stays told).each new.clock call.goes.clock (omega arith) in
    let front : acked (owes.said ++ first) ≡ acked owes.said + acked first = acked-whole first owes.said_whole in
    let parts : acked (first ++ more) ≡ acked first + acked more = acked-whole more whole_first in
    let whole : acked owes.said + acked (first ++ more) ≡ length owes.past = owes.counted in
    let most : acked (first ++ more) ≤ 1 = owes.at_most in
    record {
      said = owes.said ++ first;
      is_said = all ∙ ap (λ (l : List ℕ). l ++ first) owes.is_said ∙ append_assoc aim.before owes.said first;
      to_send = to_send_after owes.said first more (text (run.replies (machine (bounds_in aim.sizes)) s commands)) ∙ owes.to_send;
      past = owes.past;
      to_commit = owes.to_commit;
      counted = omega arith;
      at_most = omega arith;
      said_whole = IsWhole-append owes.said_whole whole_first;
      bytes_whole = whole_more;
      tables = owes.tables;
      copy = owes.copy;
      shows = shows_still engine old new s same owes.shows;
      sizes = owes.sizes;
      lines = call.goes.lines ∙ owes.lines;
      blocks = call.goes.blocks ∙ owes.blocks;
      steady = λ in_order. steady_still engine old new call.goes (λ known. same) (owes.steady in_order);
    }
  where
    to_send_after : (said front back rest : List ℕ) → (said ++ front) ++ (back ++ rest) ≡ said ++ ((front ++ back) ++ rest)
    to_send_after said front back rest = append_assoc said front (back ++ rest) ∙ ap (λ (l : List ℕ). said ++ l) (sym (append_assoc front back rest))

-- ---- one call after another

pub safe_then : {aim : Aim} {a b c : Standing} → AreSafe aim a b → GoesOn b c → AreSafe aim b c → AreSafe aim a c
safe_then {aim} {a} {b} {c} first goes second = record {
  each = λ m low high. elim (cases_lt b.clock m) [
    | inl after ↦ second.each m (omega (arith, after)) high
    | inr before ↦ subst (λ (x : Devices). IsSafe aim x (sent_at c m)) (sym (goes.earlier m before)) (subst (IsSafe aim (b.at m)) (sym (goes.earlier_sent m before)) (first.each m low before))
  ];
}

pub proceeds_then : {T : Type 0} {aim : Aim} {engine : Engine} {s : State} {bytes : List ℕ} {commands : List (Option Command)} {a b c : Standing} {r : Result T Halt}
    → AreSafe aim a b → GoesOn b c → Proceeds aim engine s bytes commands b c r → Proceeds aim engine s bytes commands a c r
proceeds_then first goes second = record { safe = safe_then first goes second.safe; sound = second.sound; ok = second.ok }

pub proceeds_ok : {T : Type 0} {aim : Aim} {engine : Engine} {s : State} {bytes : List ℕ} {commands : List (Option Command)} {old new : Standing} {r : Result T Halt} {x : T}
    → Proceeds aim engine s bytes commands old new r → r ≡ Ok x → Owes aim engine s bytes commands new
proceeds_ok {T} {aim} {engine} {s} {bytes} {commands} {old} {new} proceeds is = IfOk-at_ok (λ (y : T). Owes aim engine s bytes commands new) is proceeds.ok

-- an error that `?` hands on
pub handed_on : {T : Type 0} (q : Result T Halt) (why : Halt) → IsErr q × IsErrAnd q (λ found. found ≡ why) → q ≡ Err why
handed_on (Ok v) why is = let none : false ≡ true = is.0 in absurd (cc)
handed_on (Err found) why is = ap Err is.1

-- a call that fails, of which the error is handed on
pub proceeds_err : {T U : Type 0} {aim : Aim} {engine after : Engine} {s t : State} {bytes more : List ℕ} {xs ys : List (Option Command)} {old new : Standing} (q : Result U Halt) (why : Halt) → IsErr q × IsErrAnd q (λ found. found ≡ why)
    → Proceeds {T = T} aim engine s bytes xs old new (Err why) → Proceeds {T = U} aim after t more ys old new q
proceeds_err {T} {U} {aim} {engine} {after} {s} {t} {bytes} {more} {xs} {ys} {old} {new} q why is proceeds =
    subst (λ (x : Result U Halt). Proceeds {T = U} aim after t more ys old new x) (sym (handed_on q why is)) (record { safe = proceeds.safe; sound = proceeds.sound; ok = tt })

-- a fault of an engine is one of the run
fault_halt : (why : Stop) → IsFault why → HaltsByFault (Store why)
fault_halt Nvm h = tt
fault_halt Ssd h = tt
fault_halt (Damaged kept) h = h

-- a call of an engine that stops, of which the stop is handed on
pub proceeds_stop : {T : Type 0} {aim : Aim} {engine : Engine} {s : State} {bytes : List ℕ} {commands : List (Option Command)} {old new : Standing} (q : Result T Halt) (why : Stop) → IsErr q × IsErrAnd q (λ found. found ≡ Store why)
    → AreSafe aim old new → IsFault why → Proceeds {T = T} aim engine s bytes commands old new q
proceeds_stop {T} {aim} {engine} {s} {bytes} {commands} {old} {new} q why is safe fault =
    subst (λ (x : Result T Halt). Proceeds {T = T} aim engine s bytes commands old new x) (sym (handed_on q (Store why) is)) (record { safe = safe; sound = fault_halt why fault; ok = tt })

-- ---- the same with the state left open

pub comes_of : {T : Type 0} {aim : Aim} {engine : Engine} {s : State} {bytes : List ℕ} {commands : List (Option Command)} {old new : Standing} {r : Result T Halt}
    → Proceeds aim engine s bytes commands old new r → Comes aim engine bytes commands old new r
comes_of {s = s} proceeds = record { s = s; proceeds = proceeds }

pub comes_then : {T : Type 0} {aim : Aim} {engine : Engine} {bytes : List ℕ} {commands : List (Option Command)} {a b c : Standing} {r : Result T Halt}
    → AreSafe aim a b → GoesOn b c → Comes aim engine bytes commands b c r → Comes aim engine bytes commands a c r
comes_then first goes second = record { s = second.s; proceeds = proceeds_then first goes second.proceeds }

pub comes_ok : {T : Type 0} {aim : Aim} {engine : Engine} {bytes : List ℕ} {commands : List (Option Command)} {old new : Standing} {r : Result T Halt} {x : T}
    → (comes : Comes aim engine bytes commands old new r) → r ≡ Ok x → Owes aim engine comes.s bytes commands new
comes_ok comes is = proceeds_ok comes.proceeds is

pub comes_err : {T U : Type 0} {aim : Aim} {engine after : Engine} {bytes more : List ℕ} {xs ys : List (Option Command)} {old new : Standing} (q : Result U Halt) (why : Halt) → IsErr q × IsErrAnd q (λ found. found ≡ why)
    → Comes {T = T} aim engine bytes xs old new (Err why) → Comes {T = U} aim after more ys old new q
comes_err q why is comes = record { s = comes.s; proceeds = proceeds_err q why is comes.proceeds }

-- ---- a line

-- What a line adds to the tables that stand one after the other.
pub record Next (bounds : Bounds) (s : State) (line commands : List (Option Command)) : Type 0 where
  pub added : List (List Table)
  pub versions : s.tables ∷ run.versions (machine bounds) s (line ++ commands) ≡ added ++ (run.state_after (machine bounds) s line).tables ∷ run.versions (machine bounds) (run.state_after (machine bounds) s line) commands
  pub counted : acked (text (run.replies (machine bounds) s line)) ≡ length added
  pub few : length added ≤ 1
  pub is_state : IsState (run.state_after (machine bounds) s line)

next_command : (bounds : Bounds) (s : State) (bytes : List ℕ) (commands : List (Option Command)) → IsState s → Next bounds s (command_of bytes ∷ []) commands
next_command bounds s bytes commands is =
    let c = command_of bytes in
    let after : State = (step bounds s c).0 in
    let one : text ((step bounds s c).1 ++ []) ≡ text (step bounds s c).1 = ap text (append-nil (step bounds s c).1) in
    elim (cases_Bool (tells (step bounds s c))) [
      | inl commits ↦ record {
        added = s.tables ∷ [];
        versions = ap (λ (b : Bool). s.tables ∷ cond b (after.tables ∷ run.versions (machine bounds) after commands) (run.versions (machine bounds) after commands)) commits;
        counted = ap acked one ∙ acked-step bounds s c is (IsCommand-read bytes) ∙ ap (λ (b : Bool). cond b 1 0) commits;
        few = omega arith;
        is_state = IsState-line bounds s bytes is;
      }
      | inr none ↦ record {
        added = [];
        versions = ap (λ (b : Bool). s.tables ∷ cond b (after.tables ∷ run.versions (machine bounds) after commands) (run.versions (machine bounds) after commands)) none
            ∙ ap (λ (T : List Table). T ∷ run.versions (machine bounds) after commands) (sym (step_keeps bounds s c none));
        counted = ap acked one ∙ acked-step bounds s c is (IsCommand-read bytes) ∙ ap (λ (b : Bool). cond b 1 0) none;
        few = omega arith;
        is_state = IsState-line bounds s bytes is;
      }
    ]

pub next_line : (bounds : Bounds) (s : State) (line : List ℕ) (commands : List (Option Command)) → IsState s → Next bounds s (command_in line) commands
next_line bounds s line commands is = elim (is_silent line) as (λ b. Next bounds s (cond b [] (command_of line ∷ [])) commands) [
  | true ↦ record { added = []; versions = refl; counted = refl; few = omega arith; is_state = is }
  | false ↦ next_command bounds s line commands is
]

module _ (aim : Aim) (engine after : Engine) (s : State) (line : List ℕ) (commands : List (Option Command)) (old : Standing) (owes : Owes aim engine s [] (command_in line ++ commands) old) where
  next : Next (bounds_in aim.sizes) s (command_in line) commands
  next = next_line (bounds_in aim.sizes) s line commands (record { tables = owes.tables; copy = owes.copy })

  to_commit_next : (owes.past ++ next.added) ++ (run.state_after (machine (bounds_in aim.sizes)) s (command_in line)).tables ∷ run.versions (machine (bounds_in aim.sizes)) (run.state_after (machine (bounds_in aim.sizes)) s (command_in line)) commands ≡ aim.versions
  to_commit_next = append_assoc owes.past next.added _ ∙ ap (λ (l : List (List Table)). owes.past ++ l) (sym next.versions) ∙ owes.to_commit

  after_is : after_line engine (command_in line) s ≡ run.state_after (machine (bounds_in aim.sizes)) s (command_in line)
  after_is = ap (λ (g : Sizes). run.state_after (machine (bounds_in g)) s (command_in line)) owes.sizes

  -- each moment of the step is safe
  pub step_safe : {T : Type 0} (new : Standing) (r : Result T Stop) → IsTimed old → IsTrue old.told → Does (after_line engine (command_in line)) engine old after new r → AreSafe aim old new
  step_safe new r timed told does = record {
    each = λ m low high.
        let count : acked owes.said + 0 ≡ length owes.past = owes.counted in
        let few : length next.added ≤ 1 = next.few in
        let sizes : length (owes.past ++ next.added) ≡ length owes.past + length next.added = length-append owes.past next.added in
        subst (IsSafe aim (new.at m)) (sym (Goes-sent timed does.goes m low)) record {
          said = owes.said;
          is_said = owes.is_said;
          begins = (text (run.replies (machine (bounds_in aim.sizes)) s (command_in line ++ commands)), owes.to_send);
          images = λ in_order i left. ⊎_elim
              (λ before. record {
                tables = s.tables;
                past = owes.past;
                later = run.versions (machine (bounds_in aim.sizes)) s (command_in line ++ commands);
                version = owes.to_commit;
                in_order = order_by owes.sizes owes.lines owes.blocks before;
                acknowledged = omega arith;
                one_more = omega arith;
              })
              (λ behind. record {
                tables = (run.state_after (machine (bounds_in aim.sizes)) s (command_in line)).tables;
                past = owes.past ++ next.added;
                later = run.versions (machine (bounds_in aim.sizes)) (run.state_after (machine (bounds_in aim.sizes)) s (command_in line)) commands;
                version = to_commit_next;
                in_order = order_by owes.sizes owes.lines owes.blocks (subst (λ (x : State). InOrder (engine_sizes engine) x.tables old.lines old.blocks (fresh i)) after_is behind);
                acknowledged = omega arith;
                one_more = omega arith;
              })
              ((does.moments told (owes.steady in_order) s owes.shows).each m low high i left);
        };
  }

  to_send_next : text (run.replies (machine (bounds_in aim.sizes)) s (command_in line)) ++ text (run.replies (machine (bounds_in aim.sizes)) (run.state_after (machine (bounds_in aim.sizes)) s (command_in line)) commands)
      ≡ text (run.replies (machine (bounds_in aim.sizes)) s (command_in line ++ commands))
  to_send_next =
      sym (flat_map-append reply_text (run.replies (machine (bounds_in aim.sizes)) s (command_in line)) (run.replies (machine (bounds_in aim.sizes)) (run.state_after (machine (bounds_in aim.sizes)) s (command_in line)) commands))
      ∙ ap text (sym (replies-append (machine (bounds_in aim.sizes)) s (command_in line) commands))

  -- the step is made and its reply is owed
  reply_owed : {T : Type 0} (new : Standing) (x : T) → IsTimed old → IsTrue old.told → Does (after_line engine (command_in line)) engine old after new (Ok x)
      → Owes aim after (run.state_after (machine (bounds_in aim.sizes)) s (command_in line)) (text (run.replies (machine (bounds_in aim.sizes)) s (command_in line))) commands new
  reply_owed new x timed told does =
      let here = text (run.replies (machine (bounds_in aim.sizes)) s (command_in line)) in
      let count : acked owes.said + 0 ≡ length owes.past = owes.counted in
      let added : acked here ≡ length next.added = next.counted in
      let few : length next.added ≤ 1 = next.few in
      let sizes : length (owes.past ++ next.added) ≡ length owes.past + length next.added = length-append owes.past next.added in
      record {
        said = owes.said;
        is_said = Goes-sent timed does.goes new.clock does.goes.clock ∙ owes.is_said;
        to_send = ap (λ (l : List ℕ). owes.said ++ l) to_send_next ∙ owes.to_send;
        past = owes.past ++ next.added;
        to_commit = to_commit_next;
        counted = omega arith;
        at_most = omega arith;
        said_whole = owes.said_whole;
        bytes_whole = IsWhole-text reply_line (run.replies (machine (bounds_in aim.sizes)) s (command_in line));
        tables = next.is_state.tables;
        copy = next.is_state.copy;
        shows = subst (λ (x : State). Shows after new x) after_is (does.shows told s owes.shows);
        sizes = does.sizes ∙ owes.sizes;
        lines = does.goes.lines ∙ owes.lines;
        blocks = does.goes.blocks ∙ owes.blocks;
        steady = λ in_order. does.steady (owes.steady in_order);
      }

  -- the same in the words of the engine
  pub answered : {T : Type 0} (new : Standing) (x : T) (bytes : List ℕ) → IsTimed old → IsTrue old.told → Does (after_line engine (command_in line)) engine old after new (Ok x)
      → text (run.replies (machine (bounds_in (engine_sizes engine))) s (command_in line)) ≡ bytes → Owes aim after (after_line engine (command_in line) s) bytes commands new
  answered new x bytes timed told does said =
      subst (λ (y : State). Owes aim after y bytes commands new) (sym after_is)
      (subst (λ (l : List ℕ). Owes aim after (run.state_after (machine (bounds_in aim.sizes)) s (command_in line)) l commands new)
      (ap (λ (g : Sizes). text (run.replies (machine (bounds_in g)) s (command_in line))) (sym owes.sizes) ∙ said)
      (reply_owed new x timed told does))

-- ---- a call of an engine that makes no tables, as a row of a scan and the end of a run

module _ (aim : Aim) (engine after : Engine) (s : State) (bytes : List ℕ) (commands : List (Option Command)) (old : Standing) (owes : Owes aim engine s bytes commands old) where
  -- each moment is safe
  pub does_safe : {T : Type 0} (f : State → State) (new : Standing) (r : Result T Stop) → (f s).tables ≡ s.tables → IsTimed old → IsTrue old.told → Does f engine old after new r → AreSafe aim old new
  does_safe f new r same timed told does = record {
    each = λ m low high.
        let whole : acked owes.said + acked bytes ≡ length owes.past = owes.counted in
        let most : acked bytes ≤ 1 = owes.at_most in
        subst (IsSafe aim (new.at m)) (sym (Goes-sent timed does.goes m low)) record {
          said = owes.said;
          is_said = owes.is_said;
          begins = (bytes ++ text (run.replies (machine (bounds_in aim.sizes)) s commands), owes.to_send);
          images = λ in_order i left.
              let either = (does.moments told (owes.steady in_order) s owes.shows).each m low high i left in
              record {
                tables = s.tables;
                past = owes.past;
                later = run.versions (machine (bounds_in aim.sizes)) s commands;
                version = owes.to_commit;
                in_order = order_by owes.sizes owes.lines owes.blocks (⊎_elim (λ before. before) (λ behind. subst (λ (T : List Table). InOrder (engine_sizes engine) T old.lines old.blocks (fresh i)) same behind) either);
                acknowledged = omega arith;
                one_more = omega arith;
              };
        };
  }

  -- and where it leaves the state what is owed stays
  pub does_owes : {T : Type 0} (new : Standing) (x : T) → IsTimed old → IsTrue old.told → Does (λ (t : State). t) engine old after new (Ok x) → Owes aim after s bytes commands new
  does_owes new x timed told does = record {
    said = owes.said;
    is_said = Goes-sent timed does.goes new.clock does.goes.clock ∙ owes.is_said;
    to_send = owes.to_send;
    past = owes.past;
    to_commit = owes.to_commit;
    counted = owes.counted;
    at_most = owes.at_most;
    said_whole = owes.said_whole;
    bytes_whole = owes.bytes_whole;
    tables = owes.tables;
    copy = owes.copy;
    shows = does.shows told s owes.shows;
    sizes = does.sizes ∙ owes.sizes;
    lines = does.goes.lines ∙ owes.lines;
    blocks = does.goes.blocks ∙ owes.blocks;
    steady = λ in_order. does.steady (owes.steady in_order);
  }

-- the end of a run, of which nothing is left
pub done_by : {T : Type 0} (aim : Aim) (engine after : Engine) (s : State) (old new : Standing) (x : T) → Owes aim engine s [] [] old → IsTimed old → IsTrue old.told → Does closed engine old after new (Ok x) → IsDone aim after new
done_by aim engine after s old new x owes timed told does = record {
  s = closed s;
  owes = record {
    said = owes.said;
    is_said = Goes-sent timed does.goes new.clock does.goes.clock ∙ owes.is_said;
    to_send = owes.to_send;
    past = owes.past;
    to_commit = owes.to_commit;
    counted = owes.counted;
    at_most = owes.at_most;
    said_whole = owes.said_whole;
    bytes_whole = owes.bytes_whole;
    tables = owes.tables;
    copy = tt;
    shows = does.shows told s owes.shows;
    sizes = does.sizes ∙ owes.sizes;
    lines = does.goes.lines ∙ owes.lines;
    blocks = does.goes.blocks ∙ owes.blocks;
    steady = λ in_order. does.steady (owes.steady in_order);
  };
  closed = refl;
}
