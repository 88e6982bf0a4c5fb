-- The replay of a log is a fold of writes to homes: after images forwards, before images backwards, group by group; behind it
-- each home is the word that recovery gives.
use Rattle.std.proofs.Common.{◌≡◌, ◌≢◌, ◌⊎◌, ℕ, ◌+◌, ◌-◌, ◌<◌, arith, Bool, true, false, ◌&&◌, ◌||◌, zero, suc, List, [], ◌∷◌, ◌++◌, slice_index, refl, sym, ap, ◌∙◌, subst, inl, inr, eqb, cond, Option, Some, None, Result, Ok, IsTrue}
use Rattle.std.specs.Int.{bit_at}
use Rattle.std.proofs.lemmas.Bool.{cases_Bool, cases_eq, eq-eqb, ne_eqb, eqb-true, and_parts}
use Rattle.nvm_model.specs.declared.line.Line.{Line}
use Rattle.devices.specs.State.{State, Image, Leaves, Amid, current, fenced, after_all}
use Rattle.devices.specs.World.{Standing, now}
use Rattle.line_pages.specs.declared.stop.Stop.{Stop}
use Rattle.line_pages.specs.Pairs.{Pairs, no_pairs, with_pair}
use Rattle.device_calls.specs.Leads.{ReadsAs, Leads, Given}
use Rattle.device_calls.proofs.LeadsLaws.{leads_then, leads_from, leads_given, leads_map, leads_seen, leads_held}
use Rattle.store_model.specs.Layout.{Sizes, frame_line, entry_line, entry_word}
use Rattle.store_model.specs.Log.{Words, Change, Group, Log, no_log, grouped, is_logged, names, named_in, named_in_groups, changes, written, redone, undone, applied_all}
use Rattle.store_model.specs.Format.{entries, word_in}
use Rattle.store_model.specs.Recovered.{Super, super_of, entry_at, frame_of, home, log_line, log_of, from, replay}
use Rattle.store_model.specs.InOrder.{HomeStands}
use Rattle.store_model.specs.StoreFacts.{Gate, IsWord, StoreFacts}
use Rattle.store_model.specs.Copies.{with_line}
use Rattle.store_model.specs.Seen.{Moved, changing_to}
use Rattle.log_laws.proofs.HardenLaws.{fence_leaves}
use Rattle.log_laws.proofs.StartLaws.{start_calls, start_facts, start_done, from_none, moved_start}
use Rattle.home_laws.proofs.FactsLaws.{current_leaves, replay_other}
use Rattle.home_laws.proofs.SeenLaws.{facts_log}
use Rattle.home_laws.proofs.QuietLaws.{fence_facts}
use Rattle.home_laws.proofs.GateLaws.{moved_current}
use Rattle.home_laws.proofs.ShownLaws.{home_kept}
use Rattle.home_move.specs.Homes.{Aim, keeping, Keeps, KeepsBut, Homes, AreFlushed, IsKeptIn, CanWrite, CanReplay, NamesWholeLine, KnowsLogged, knowing, records_of, all_records, IsRecovered, aim_with, over, only_pair, log_in}
use Rattle.home_move.proofs.FlushLaws.{known_durable}

-- ---- a write behind other changes of the words

over_keeps : (change : Words → Words) (more : Pairs → Pairs) (aim : Aim) (s : State) → Keeps (over change more aim) s → Keeps aim s
over_keeps change more aim s keeps = record { changing = keeps.changing; facts = keeps.facts; super_words = keeps.super_words; log = keeps.log; entries = keeps.entries }

pub leads_over : {T : Type 0} {A B : Aim → State → Type 0} {a b : Standing} {r : Result T Stop} (change : Words → Words) (more : Pairs → Pairs) → Leads Keeps A B a b r
    → Leads Keeps (λ (aim : Aim). A (over change more aim)) (λ (aim : Aim). B (over change more aim)) a b r
leads_over change more call = record {
  goes = call.goes;
  cause = call.cause;
  calls = call.calls;
  makes = call.makes;
  facts = λ told aim s reads before. call.facts told (over change more aim) s reads before;
  moments = λ told aim s reads before mid at. over_keeps change more aim mid (call.moments told (over change more aim) s reads before mid at);
}

place_over : (g : Sizes) (page : ℕ) (at : Option ℕ) (change : Words → Words) (more : Pairs → Pairs) (aim : Aim) → IsKeptIn g page at aim → IsKeptIn g page at (over change more aim)
place_over g page None change more aim place = place
place_over g page (Some k) change more aim place = place

pub can_write : (g : Sizes) (page line : ℕ) (at : Option ℕ) (value : Line) (change : Words → Words) (more : Pairs → Pairs) (aim : Aim) → CanReplay g page line at aim
    → CanWrite g page line at value (over change more aim)
can_write g page line at value change more aim can = record {
  place = place_over g page at change more aim can.place;
  logged = λ w hw unlogged. absurd (true_false (sym (can.logged w hw) ∙ unlogged));
}
  where
    true_false : true ≡ false → ⊥
    true_false e = cc

-- A line that the log names is written, where the words were changed so before. That the log names it may follow from what was
-- read of the devices.
pub replay_write : {T U : Type 0} {v : U} {a b c : Standing} {r : Result T Stop} (g : Sizes) (first_passing passing new : Option ℕ) (at : Option ℕ) (page line : ℕ) (value : Line)
    (change : Words → Words) (more : Pairs → Pairs) (Of : Aim → Type 0) → (IsTrue b.told → (aim : Aim) (s : State) → ReadsAs s (now b) → Of aim → Homes g passing (over change more aim) s → CanReplay g page line at aim)
    → Leads {T = U} Keeps (Given Of (Homes g first_passing)) (λ (aim : Aim). Homes g passing (over change more aim)) a b (Ok v)
    → Leads (KeepsBut (only_pair page line)) (Given (CanWrite g page line at value) (Homes g passing)) (λ (aim : Aim). Homes g new (aim_with page line value aim)) b c r
    → Leads Keeps (Given Of (Homes g first_passing)) (λ (aim : Aim). Homes g new (over (λ (words : Words). with_line (change words) page line value) (λ (known : Pairs). with_pair page line (more known)) aim)) a c r
replay_write g first_passing passing new at page line value change more Of can before write =
    leads_then (leads_seen (λ told aim s reads so. record { of_aim = can_write g page line at value change more aim (can told aim s reads so.of_aim so.holds); holds = so.holds })
    (leads_from (λ aim s begin. record { of_aim = begin.of_aim; holds = begin }) (leads_given Of before)))
    (leads_over change more (leads_held (λ aim s keeps. keeps.keeps) write))

-- ---- the line is what a record of it writes

true_and : (x y : Bool) → x ≡ true → y ≡ true → (x && y) ≡ true
true_and true y h g = g
true_and false y h g = cc

and_first : (x y : Bool) → x ≡ false → (x && y) ≡ false
and_first true y h = cc
and_first false y h = refl

and_second : (x y : Bool) → y ≡ false → (x && y) ≡ false
and_second true y h = h
and_second false y h = refl

pick : {A : Type 0} (x y : Bool) (a b : A) → x ≡ y → cond x a b ≡ cond y a b
pick x y a b e = ap (λ t. cond t a b) e

pub written_line : (c : Change) (values : Line) (words : Words) → NamesWholeLine c → (p l w : ℕ) → w < 8 → with_line words c.page c.line values p l w ≡ written c values words p l w
written_line c values words whole p l w hw = pick _ _ (slice_index values.words w) (words p l w) (same (cases_eq p c.page) (cases_eq l c.line))
  where
    named : (eqb (bit_at c.mask w) 1) ≡ true
    named = eq-eqb (bit_at c.mask w) 1 (whole.each w hw)

    same : (p ≡ c.page) ⊎ (p ≢ c.page) → (l ≡ c.line) ⊎ (l ≢ c.line) → (eqb p c.page && eqb l c.line) ≡ (eqb c.page p && (eqb c.line l && eqb (bit_at c.mask w) 1))
    same (inr apart) any = and_first _ _ (ne_eqb p c.page apart) ∙ sym (and_first _ _ (ne_eqb c.page p (λ e. apart (sym e))))
    same (inl page) (inr apart) = and_second _ _ (ne_eqb l c.line apart) ∙ sym (and_second _ _ (and_first _ _ (ne_eqb c.line l (λ e. apart (sym e)))))
    same (inl page) (inl line) = true_and _ _ (eq-eqb p c.page page) (eq-eqb l c.line line) ∙ sym (true_and _ _ (eq-eqb c.page p (sym page)) (true_and _ _ (eq-eqb c.line l (sym line)) named))

pub homes_same : (g : Sizes) (passing : Option ℕ) (old new : Words → Words) (more : Pairs → Pairs) (aim : Aim) (s : State) → ((p l w : ℕ) → IsWord g p l w → old aim.words p l w ≡ new aim.words p l w)
    → Homes g passing (over old more aim) s → Homes g passing (over new more aim) s
homes_same g passing old new more aim s same homes = record {
  sizes = homes.sizes;
  facts = homes.facts;
  super_words = homes.super_words;
  log = homes.log;
  entries = homes.entries;
  passes = homes.passes;
  words = λ p l w word. homes.words p l w word ∙ same p l w word;
  flushed = homes.flushed;
}

-- so a write of that line is a step of the fold, forwards with the line after and backwards with the line before
pub fold_step : {T : Type 0} {a b : Standing} {r : Result T Stop} {A : Aim → State → Type 0} (g : Sizes) (passing : Option ℕ) (c : Change) (values : Line) (change : Words → Words) (more : Pairs → Pairs) → NamesWholeLine c
    → Leads Keeps A (λ (aim : Aim). Homes g passing (over (λ (words : Words). with_line (change words) c.page c.line values) more aim)) a b r
    → Leads Keeps A (λ (aim : Aim). Homes g passing (over (λ (words : Words). written c values (change words)) more aim)) a b r
fold_step g passing c values change more whole call =
    leads_map (λ aim s homes. homes_same g passing (λ (words : Words). with_line (change words) c.page c.line values) (λ (words : Words). written c values (change words)) more aim s (λ p l w word. written_line c values (change aim.words) whole p l w word.word) homes) call

pub redone_more : (cs : List Change) (c : Change) (words : Words) → redone (cs ++ c ∷ []) words ≡ written c c.after (redone cs words)
redone_more [] c words = refl
redone_more (x ∷ xs) c words = redone_more xs c (written x x.after words)

pub undone_more : (cs : List Change) (c : Change) (words : Words) → undone (c ∷ cs) words ≡ written c c.before (undone cs words)
undone_more cs c words = refl

pub applied_more : (apply : Group → Words → Words) (groups : List Group) (group : Group) (words : Words) → applied_all apply (groups ++ group ∷ []) words ≡ apply group (applied_all apply groups words)
applied_more apply [] group words = refl
applied_more apply (x ∷ xs) group words = applied_more apply xs group (apply x words)

-- ---- what the log names

or_first : (x y : Bool) → x ≡ true → (x || y) ≡ true
or_first true y h = refl
or_first false y h = cc

or_second : (x y : Bool) → y ≡ true → (x || y) ≡ true
or_second true y h = refl
or_second false y h = h

-- a record of a list names its words in it
pub named_among : (before after : List Change) (c : Change) (p l w : ℕ) → names c p l w ≡ true → named_in (before ++ c ∷ after) p l w ≡ true
named_among [] after c p l w h = or_first (names c p l w) (named_in after p l w) h
named_among (x ∷ xs) after c p l w h = or_second (names x p l w) (named_in (xs ++ c ∷ after) p l w) (named_among xs after c p l w h)

grouped_among : (before after : List Group) (group : Group) (p l w : ℕ) → named_in (changes group.items) p l w ≡ true → named_in_groups (before ++ group ∷ after) p l w ≡ true
grouped_among [] after group p l w h = or_first (named_in (changes group.items) p l w) (named_in_groups after p l w) h
grouped_among (x ∷ xs) after group p l w h = or_second (named_in (changes x.items) p l w) (named_in_groups (xs ++ group ∷ after) p l w) (grouped_among xs after group p l w h)

-- So a record of a group that was ended is logged,
pub logged_closed : (log : Log) (groups later : List Group) (group : Group) (before after : List Change) (c : Change) → log.closed ≡ groups ++ group ∷ later → changes group.items ≡ before ++ c ∷ after
    → (p l w : ℕ) → names c p l w ≡ true → is_logged log p l w ≡ true
logged_closed log groups later group before after c closed items p l w h =
    or_first (named_in_groups log.closed p l w) (named_in (changes log.open_items) p l w)
    (ap (λ gs. named_in_groups gs p l w) closed ∙ grouped_among groups later group p l w (ap (λ cs. named_in cs p l w) items ∙ named_among before after c p l w h))

-- and one that stands behind the last end.
pub logged_open : (log : Log) (before after : List Change) (c : Change) → changes log.open_items ≡ before ++ c ∷ after → (p l w : ℕ) → names c p l w ≡ true → is_logged log p l w ≡ true
logged_open log before after c items p l w h =
    or_second (named_in_groups log.closed p l w) (named_in (changes log.open_items) p l w) (ap (λ cs. named_in cs p l w) items ∙ named_among before after c p l w h)

-- a record of a whole line names each word of it
pub whole_names : (c : Change) → NamesWholeLine c → (w : ℕ) → w < 8 → names c c.page c.line w ≡ true
whole_names c whole w hw = true_and _ _ (eq-eqb c.page c.page refl) (true_and _ _ (eq-eqb c.line c.line refl) (eq-eqb (bit_at c.mask w) 1 (whole.each w hw)))

-- as does one with the mask of eight ones
pub whole_mask : (c : Change) → c.mask ≡ 255 → NamesWholeLine c
whole_mask c all = record { each = λ w hw. ap (λ n. bit_at n w) all ∙ ones w hw }
  where
    ones : (w : ℕ) → w < 8 → bit_at 255 w ≡ 1
    ones zero h = refl
    ones (suc zero) h = refl
    ones (suc (suc zero)) h = refl
    ones (suc (suc (suc zero))) h = refl
    ones (suc (suc (suc (suc zero)))) h = refl
    ones (suc (suc (suc (suc (suc zero))))) h = refl
    ones (suc (suc (suc (suc (suc (suc zero)))))) h = refl
    ones (suc (suc (suc (suc (suc (suc (suc zero))))))) h = refl
    ones (suc (suc (suc (suc (suc (suc (suc (suc n)))))))) h = absurd (omega arith)

-- ---- which lines are known

-- a known line stays so, and the line of each record is one
pub knowing_stays : (cs : List Change) (known : Pairs) (p l : ℕ) → known p l ≡ true → knowing cs known p l ≡ true
knowing_stays [] known p l h = h
knowing_stays (c ∷ cs) known p l h = or_second (eqb p c.page && eqb l c.line) (knowing cs known p l) (knowing_stays cs known p l h)

pub knowing_named : (cs : List Change) (known : Pairs) (p l w : ℕ) → named_in cs p l w ≡ true → knowing cs known p l ≡ true
knowing_named [] known p l w h = absurd (never h)
  where
    never : false ≡ true → ⊥
    never e = cc
knowing_named (c ∷ cs) known p l w h = elim (cases_Bool (names c p l w)) [
  | inl here ↦
      (let page : (eqb c.page p ≡ true) × _ = and_parts (eqb c.page p) _ here in
      let line : (eqb c.line l ≡ true) × _ = and_parts (eqb c.line l) _ page.1 in
      or_first (eqb p c.page && eqb l c.line) (knowing cs known p l) (true_and _ _ (eq-eqb p c.page (sym (eqb-true c.page p page.0))) (eq-eqb l c.line (sym (eqb-true c.line l line.0)))))
  | inr away ↦ or_second (eqb p c.page && eqb l c.line) (knowing cs known p l) (knowing_named cs known p l w (other (names c p l w) (named_in cs p l w) away h))
]
  where
    other : (x y : Bool) → x ≡ false → (x || y) ≡ true → y ≡ true
    other true y e f = cc
    other false y e f = f

named_front : (xs ys : List Change) (p l w : ℕ) → named_in xs p l w ≡ true → named_in (xs ++ ys) p l w ≡ true
named_front [] ys p l w h = absurd (never h)
  where
    never : false ≡ true → ⊥
    never e = cc
named_front (x ∷ xs) ys p l w h = by_first (names x p l w) (named_in xs p l w) (named_in (xs ++ ys) p l w) (named_front xs ys p l w) h
  where
    by_first : (x y z : Bool) → (y ≡ true → z ≡ true) → (x || y) ≡ true → (x || z) ≡ true
    by_first true y z f e = refl
    by_first false y z f e = f e

named_back : (xs ys : List Change) (p l w : ℕ) → named_in ys p l w ≡ true → named_in (xs ++ ys) p l w ≡ true
named_back [] ys p l w h = h
named_back (x ∷ xs) ys p l w h = or_second (names x p l w) (named_in (xs ++ ys) p l w) (named_back xs ys p l w h)

groups_named : (groups : List Group) (p l w : ℕ) → named_in_groups groups p l w ≡ true → named_in (records_of groups) p l w ≡ true
groups_named [] p l w h = h
groups_named (group ∷ groups) p l w h = by_first (named_in (changes group.items) p l w) refl (groups_named groups p l w) h
  where
    by_first : (x : Bool) → named_in (changes group.items) p l w ≡ x → (named_in_groups groups p l w ≡ true → named_in (records_of groups) p l w ≡ true) → (x || named_in_groups groups p l w) ≡ true
        → named_in (changes group.items ++ records_of groups) p l w ≡ true
    by_first true here later e = named_front (changes group.items) (records_of groups) p l w here
    by_first false here later e = named_back (changes group.items) (records_of groups) p l w (later e)

-- what the log names a record of it names
pub logged_named : (log : Log) (p l w : ℕ) → is_logged log p l w ≡ true → named_in (all_records log) p l w ≡ true
logged_named log p l w h = by_first (named_in_groups log.closed p l w) refl h
  where
    by_first : (x : Bool) → named_in_groups log.closed p l w ≡ x → (x || named_in (changes log.open_items) p l w) ≡ true → named_in (all_records log) p l w ≡ true
    by_first true closed e = named_front (records_of log.closed) (changes log.open_items) p l w (groups_named log.closed p l w closed)
    by_first false closed e = named_back (records_of log.closed) (changes log.open_items) p l w e

-- So behind the writes of all records, in whatever order, each line that the log names is known.
pub knows_logged : (change : Words → Words) (more : Pairs → Pairs) (aim : Aim) → ((p l : ℕ) → knowing (all_records (log_in aim)) no_pairs p l ≡ true → more aim.known p l ≡ true) → KnowsLogged (over change more aim)
knows_logged change more aim records p l w word logged = records p l (knowing_named (all_records (log_in aim)) no_pairs p l w (logged_named (log_in aim) p l w logged))

-- ---- behind the fold

-- Each home is the word that recovery gives, and one that the log doesn't name is what it was.
pub replay_gives : (g : Sizes) (passing : Option ℕ) (more : Pairs → Pairs) (aim : Aim) (s : State) → Homes g passing (over (replay aim.format (log_in aim)) more aim) s
    → (p l w : ℕ) → IsWord g p l w → home (current s) p l w ≡ aim.kept p l w
replay_gives g passing more aim s homes p l w word = elim (cases_Bool (is_logged (log_in aim) p l w)) [
  | inl logged ↦ homes.words p l w word ∙ ap (λ (x : Log). replay aim.format x aim.words p l w) (sym same_log)
      ∙ (homes.facts.log (current s) (current_leaves s)).logged p l w own (ap (λ (x : Log). is_logged x p l w) same_log ∙ logged) aim.words
  | inr unlogged ↦
      (let h : is_logged (log_of aim.format (current s)) p l w ≡ false = ap (λ (x : Log). is_logged x p l w) same_log ∙ unlogged in
      (homes.facts.homes (current s) (current_leaves s)).committed p l w own (rw h refl))
]
  where
    own : IsWord aim.sizes p l w
    own = subst (λ (x : Sizes). IsWord x p l w) (sym homes.sizes) word

    same_log : log_of aim.format (current s) ≡ log_in aim
    same_log = ap (λ (lines : List Line). grouped no_log (entries aim.format 0 lines)) homes.log

pub replay_stays : (aim : Aim) (p l w : ℕ) → is_logged (log_in aim) p l w ≡ false → replay aim.format (log_in aim) aim.words p l w ≡ aim.words p l w
replay_stays aim p l w unlogged = replay_other aim.format (log_in aim) aim.words p l w unlogged

-- Where every line that the log names is known to be flushed, a fence makes its home durable, and the home of every other word
-- is so by the facts. So the log can be emptied: at each moment the facts hold, and then the store is recovered.
module _ (g : Sizes) (passing : Option ℕ) (more : Pairs → Pairs) (aim : Aim) (s : State) (homes : Homes g passing (over (replay aim.format (log_in aim)) more aim) s)
    (known : KnowsLogged (over (replay aim.format (log_in aim)) more aim)) where
  own_word : (p l w : ℕ) → IsWord aim.sizes p l w → IsWord g p l w
  own_word p l w = subst (λ (x : Sizes). IsWord x p l w) homes.sizes

  home_given : (p l w : ℕ) → IsWord aim.sizes p l w → home (current s) p l w ≡ aim.kept p l w
  home_given p l w word = replay_gives g passing more aim s homes p l w (own_word p l w word)

  durable : StoreFacts (keeping aim) (fenced s)
  durable = fence_facts (keeping aim) s homes.facts refl

  no_copies : (j : Image) → Leaves (fenced s) j → (p l w : ℕ) (line : Line) → IsWord aim.sizes p l w → None ≡ Some line → word_in line w ≡ home j p l w
  no_copies j left p l w line word copied = absurd (none_some line copied)
    where
      none_some : (x : Line) → None ≡ Some x → ⊥
      none_some x e = cc

  stand : (j : Image) → Leaves (fenced s) j → (p l w : ℕ) → IsWord aim.sizes p l w → is_logged (log_of aim.format j) p l w ≡ true
      → HomeStands aim.sizes (frame_of (entry_at j) (aim.sizes.frames + 1) p) (fenced s) p l w × (home j p l w ≡ aim.kept p l w) × (home j p l w ≡ aim.kept p l w)
  stand j left p l w word logged =
      let named : is_logged (log_in aim) p l w ≡ true =
      sym (ap (λ (lines : List Line). is_logged (grouped no_log (entries aim.format 0 lines)) p l w) (facts_log (keeping aim) s homes.facts refl j (fence_leaves s j left) ∙ homes.log)) ∙ logged in
      let at : HomeStands aim.sizes (frame_of (entry_at j) (aim.sizes.frames + 1) p) (fenced s) p l w × (home j p l w ≡ home (current s) p l w) =
      known_durable (keeping aim) s homes.facts refl (more aim.known) (subst (λ (x : Sizes). AreFlushed x (more aim.known) s) (sym homes.sizes) homes.flushed) j left p l w word (known p l w word named) in
      (at.0, at.1 ∙ home_given p l w word, at.1 ∙ home_given p l w word)

  -- a fence leaves the facts, and each word that the log names has its home as what recovery gives, in every image
  pub replay_fenced : StoreFacts (keeping aim) (fenced s)
  replay_fenced = durable

  pub replay_homes : (j : Image) → Leaves (fenced s) j → (p l w : ℕ) → IsWord aim.sizes p l w → is_logged (log_of aim.format j) p l w ≡ true → (home j p l w ≡ aim.kept p l w) × (home j p l w ≡ aim.kept p l w)
  replay_homes j left p l w word logged = let at = stand j left p l w word logged in (at.1, at.2)

  pub replay_empties : (mid : State) → Amid (fenced s) (start_calls (super_of (current s)).tail) mid
      → StoreFacts (changing_to (keeping aim) Gate.start (super_of (current s)).start (super_of (current s)).tail (λ n. aim.kept)) mid
  replay_empties = start_facts (keeping aim) (fenced s) durable refl refl stand no_copies

  abbrev emptied : State
  emptied = after_all (start_calls (super_of (current s)).tail) (fenced s)

  moved : Moved Gate.start (super_of (current s)).tail (current emptied) (current s)
  moved = moved_current Gate.start (super_of (current s)).tail (fenced s)

  emptied_super : super_of (current emptied) ≡ record (super_of (current s)) { start = (super_of (current s)).tail }
  emptied_super = moved_start (current emptied) (current s) (super_of (current s)).tail (λ l w named h. moved.words l w h) moved.at_gate

  same_entry : (k : ℕ) → entry_at (current emptied) k ≡ entry_at (current s) k
  same_entry k = moved.words (entry_line k) (entry_word k) (inl (λ at. omega arith))

  same_sizes : (super_of (current s)).sizes ≡ aim.sizes
  same_sizes = homes.facts.sizes (current s) (current_leaves s)

  pub replay_recovers : IsRecovered g passing aim (after_all (start_calls (super_of (current s)).tail) (fenced s))
  replay_recovers = record {
    facts = start_done (keeping aim) (fenced s) durable refl refl stand no_copies;
    super_words = emptied_super ∙ ap (λ (x : Super). record x { start = x.tail }) homes.super_words;
    log = ap (λ (x : Super). from (log_line x.sizes x.drained (current emptied)) x.start (x.tail - x.start)) emptied_super ∙ from_none _ (super_of (current s)).tail ((super_of (current s)).tail - (super_of (current s)).tail) (omega arith);
    entries = λ k less. same_entry k ∙ homes.entries k less;
    passes = same_entry g.frames ∙ homes.passes;
    homes = λ p l w word. home_kept aim.sizes (current emptied) (current s) (ap (λ (x : Super). x.sizes) emptied_super ∙ same_sizes) same_sizes (λ k h. same_entry k) p l w
        (λ k h named. moved.words (frame_line aim.sizes k l) w (inl (λ at. omega arith))) (λ unnamed. refl)
        ∙ replay_gives g passing more aim s homes p l w word;
  }
