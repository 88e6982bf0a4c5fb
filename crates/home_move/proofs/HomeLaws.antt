-- A line that goes to its home, a page that comes into the frame through which pages pass, and one that leaves it.
use Rattle.std.proofs.Common.{◌≡◌, ◌≢◌, ◌⊎◌, ℕ, ◌+◌, ◌<◌, ◌≤◌, Bool, true, false, ◌&&◌, ◌||◌, List, [], refl, sym, ap, ◌∙◌, subst, inl, inr, arith, eqb, IsTrue, Option, Some, None, Result, Ok, Err}
use Rattle.std.specs.Prelude.{OnOk, IfSome}
use Rattle.std.specs.Option.{option_eq}
use Rattle.std.specs.Result.{IsErrAnd}
use Rattle.std.proofs.lemmas.Bool.{cases_eq, eq-eqb, ne_eqb}
use Rattle.nvm_model.specs.declared.line.Line.{Line}
use Rattle.devices.specs.State.{State, Call, Amid, after_all, current}
use Rattle.devices.specs.World.{Standing, now}
use Rattle.devices.proofs.GrowthLaws.{Amid_end}
use Rattle.line_pages.specs.declared.stop.Stop.{Stop}
use Rattle.device_calls.specs.Leads.{Steps, Made, Looked, Leads, Given}
use Rattle.device_calls.proofs.LeadsLaws.{looked_same, earlier_told, leads_none, leads_looked, leads_made, leads_then, leads_from, leads_given, leads_held, leads_exit}
use Rattle.store_model.specs.Layout.{Sizes, pages, page_block}
use Rattle.store_model.specs.Log.{Words, Log, no_log, grouped, is_logged}
use Rattle.store_model.specs.Format.{entries, word_in}
use Rattle.store_model.specs.Recovered.{entry_at, home, log_lines, block_word}
use Rattle.store_model.specs.StoreFacts.{Gate, Changing, IsWord, StoreFacts}
use Rattle.store_model.specs.Copies.{with_line}
use Rattle.store_model.specs.Shown.{Placed}
use Rattle.line_pages.specs.Pairs.{Pairs, no_pairs}
use Rattle.store_model.specs.Install.{store_calls, install_calls, release_calls, CanInstall, CanStore}
use Rattle.home_laws.proofs.FactsLaws.{current_leaves}
use Rattle.home_laws.proofs.StoreLaws.{store_facts}
use Rattle.home_laws.proofs.ReadyLaws.{install_ready, store_ready, home_unframed}
use Rattle.home_move.specs.Frames.{page_lines, HoldsFrame}
use Rattle.home_move.specs.Moves.{Releases, release_makes, ShowsSame, LineStays, LinePlaced}
use Rattle.home_move.specs.Homes.{Aim, keeping, KeepsBut, Homes, IsKeptIn, IsLoggedLine, CanWrite, aim_with, entry_of, only_pair}
use Rattle.home_move.proofs.FrameLaws.{page_lines-length}
use Rattle.home_move.proofs.FlushLaws.{store_flushed}
use Rattle.home_move.proofs.PlaceFacts.{Places, page_words, install_places, release_places, store_stays, stored_line}

-- before and behind a call all homes have the words of the aim
pub homes_keep : {g : Sizes} {passing : Option ℕ} (but : Pairs) (aim : Aim) (s : State) → Homes g passing aim s → KeepsBut but aim s
homes_keep but aim s homes = record {
  keeps = record {
    changing = None;
    facts = homes.facts;
    super_words = homes.super_words;
    log = homes.log;
    entries = subst (λ (x : Sizes). (k : ℕ) → k < x.frames → entry_at (current s) k ≡ aim.entry k) (sym homes.sizes) homes.entries;
  };
  words = λ p l w word h. homes.words p l w (subst (λ (x : Sizes). IsWord x p l w) homes.sizes word);
}

-- fewer lines are excepted
pub keeps_more : (but : Pairs) (aim : Aim) (s : State) → KeepsBut no_pairs aim s → KeepsBut but aim s
keeps_more but aim s keeps = record { keeps = keeps.keeps; words = λ p l w word h. keeps.words p l w word refl }

-- ---- a line is stored in its frame

line_here : (words : Words) (page line : ℕ) (value : Line) (p l w : ℕ) → p ≡ page → l ≡ line → with_line words page line value p l w ≡ word_in value w
line_here words page line value p l w same_page same_line = rw (eq-eqb p page same_page, eq-eqb l line same_line) refl

line_away : (words : Words) (page line : ℕ) (value : Line) (p l w : ℕ) → (p ≢ page) ⊎ (l ≢ line) → with_line words page line value p l w ≡ words p l w
line_away words page line value p l w (inl apart) = rw (ne_eqb p page apart) refl
line_away words page line value p l w (inr apart) = rw (and_false (eqb p page) (eqb l line) (ne_eqb l line apart)) refl
  where
    and_false : (x y : Bool) → y ≡ false → (x && y) ≡ false
    and_false true y h = h
    and_false false y h = refl

-- another line than this one
another : (page line p l : ℕ) → only_pair page line p l ≡ false → (p ≢ page) ⊎ (l ≢ line)
another page line p l h = elim (cases_eq p page) [
  | inr apart ↦ inl apart
  | inl same_page ↦ elim (cases_eq l line) [
    | inr apart ↦ inr apart
    | inl same_line ↦ absurd (both (eqb p page) (eqb l line) (eq-eqb p page same_page) (eq-eqb l line same_line) h)
  ]
]
  where
    both : (x y : Bool) → x ≡ true → y ≡ true → ((x && y) || false) ≡ false → ⊥
    both true true e f g = cc
    both true false e f g = cc
    both false y e f g = cc

-- with the sizes of the aim
stores_own : (passing : Option ℕ) (k page line : ℕ) (value : Line) (aim : Aim) (s : State) → Homes aim.sizes passing aim s → k ≤ aim.sizes.frames → page < pages aim.sizes → line < 64
    → entry_at (current s) k ≡ page + 1 → IsLoggedLine page line value aim
    → Steps (KeepsBut (only_pair page line)) (λ (a : Aim). Homes aim.sizes passing (aim_with page line value a)) (store_calls aim.sizes k line value) aim s
stores_own passing k page line value aim s homes framed in_store in_page named logged = record {
  facts = record {
    sizes = refl;
    facts = facts_at (after_all (store_calls aim.sizes k line value) s) (Amid_end (store_calls aim.sizes k line value) s);
    super_words = placed.super_words ∙ homes.super_words;
    log = placed.log ∙ homes.log;
    entries = λ n less. placed.entries n (omega arith) ∙ homes.entries n less;
    passes = placed.entries aim.sizes.frames (omega arith) ∙ homes.passes;
    words = λ p l w word. elim (cases_eq p page) [
      | inr apart ↦ placed.others p l w (inl apart) word ∙ homes.words p l w word ∙ sym (line_away aim.words page line value p l w (inl apart))
      | inl same_page ↦ elim (cases_eq l line) [
        | inr apart ↦ placed.others p l w (inr apart) word ∙ homes.words p l w word ∙ sym (line_away aim.words page line value p l w (inr apart))
        | inl same_line ↦
            ap (λ n. home (current (after_all (store_calls aim.sizes k line value) s)) n l w) same_page
            ∙ ap (λ n. home (current (after_all (store_calls aim.sizes k line value) s)) page n w) same_line
            ∙ placed.here w word.word ∙ sym (line_here aim.words page line value p l w same_page same_line)
      ]
    ];
    flushed = store_flushed aim.sizes (keeping aim) s homes.facts k page line value refl framed in_page named placed.entries aim.known homes.flushed;
  };
  moments = λ mid amid. let stays : LineStays aim.sizes s mid page line = store_stays (keeping aim) s homes.facts k page line value can mid amid in record {
    keeps = record {
      changing = None;
      facts = facts_at mid amid;
      super_words = stays.super_words ∙ homes.super_words;
      log = stays.log ∙ homes.log;
      entries = λ n less. stays.entries n (omega arith) ∙ homes.entries n less;
    };
    words = λ p l w word other. stays.others p l w (another page line p l other) word ∙ homes.words p l w word;
  };
}
  where
    same_log : grouped no_log (entries aim.format 0 (log_lines (current s))) ≡ grouped no_log (entries aim.format 0 aim.log)
    same_log = ap (λ (lines : List Line). grouped no_log (entries aim.format 0 lines)) homes.log

    can : CanStore aim.format s k page line value
    can = store_ready (keeping aim) s homes.facts refl k page line value in_store framed in_page named
        (λ w word h. logged w word.word (sym (ap (λ (x : Log). is_logged x page line w) same_log) ∙ h) ∙ sym (homes.words page line w word))

    facts_at : (mid : State) → Amid s (store_calls aim.sizes k line value) mid → StoreFacts (keeping aim) mid
    facts_at mid amid = store_facts (keeping aim) s homes.facts k page line value can aim.kept (λ i left p l w word h. refl) mid
        (subst (λ (x : Sizes). Amid s (store_calls x k line value) mid) (sym (homes.facts.sizes (current s) (current_leaves s))) amid)

    placed : LinePlaced aim.sizes s (after_all (store_calls aim.sizes k line value) s) page line value
    placed = stored_line (keeping aim) s homes.facts k page line value can

pub stores_line : (g : Sizes) (passing : Option ℕ) (k page line : ℕ) (value : Line) → k ≤ g.frames → page < pages g → line < 64 → (aim : Aim) (s : State) → Homes g passing aim s
    → entry_at (current s) k ≡ page + 1 → IsLoggedLine page line value aim
    → Steps (KeepsBut (only_pair page line)) (λ (a : Aim). Homes g passing (aim_with page line value a)) (store_calls g k line value) aim s
stores_line g passing k page line value framed in_store in_page aim s homes named logged =
    subst (λ (x : Sizes). Homes x passing aim s → k ≤ x.frames → page < pages x → Steps (KeepsBut (only_pair page line)) (λ (a : Aim). Homes x passing (aim_with page line value a)) (store_calls x k line value) aim s) homes.sizes
    (λ own own_framed own_in_store. stores_own passing k page line value aim s own own_framed own_in_store in_page named logged) homes framed in_store

-- ---- the place of a page changes, and its words stay

-- the page has its words then, and the others have theirs
placed_gives : (old : Option ℕ) (page is : ℕ) (words : ℕ → ℕ → ℕ) (aim : Aim) (s mid : State) → Homes aim.sizes old aim s → ((l w : ℕ) → IsWord aim.sizes page l w → words l w ≡ aim.words page l w)
    → Placed aim.sizes s mid aim.sizes.frames is page words → (p l w : ℕ) → IsWord aim.sizes p l w → home (current mid) p l w ≡ aim.words p l w
placed_gives old page is words aim s mid homes same placed p l w word = elim (cases_eq p page) [
  | inr apart ↦ placed.other_pages p l w apart word ∙ homes.words p l w word
  | inl here ↦
      (let word' : IsWord aim.sizes page l w = subst (λ n. IsWord aim.sizes n l w) here word in
      ap (λ n. home (current mid) n l w) here ∙ placed.page_words l w word' ∙ same l w word' ∙ ap (λ n. aim.words n l w) (sym here))
]

-- at each moment all is shown as before, or the page is in its new place
moved_shows : (old : Option ℕ) (page is : ℕ) (words : ℕ → ℕ → ℕ) (aim : Aim) (s mid : State) → Homes aim.sizes old aim s → ((l w : ℕ) → IsWord aim.sizes page l w → words l w ≡ aim.words page l w)
    → ShowsSame aim.sizes s mid ⊎ Placed aim.sizes s mid aim.sizes.frames is page words → (changing : Option Changing) → StoreFacts (record (keeping aim) { changing = changing }) mid → KeepsBut no_pairs aim mid
moved_shows old page is words aim s mid homes same (inl shows) changing facts = record {
  keeps = record {
    changing = changing;
    facts = facts;
    super_words = shows.super_words ∙ homes.super_words;
    log = shows.log ∙ homes.log;
    entries = λ n less. shows.entries n (omega arith) ∙ homes.entries n less;
  };
  words = λ p l w word h. shows.homes p l w word ∙ homes.words p l w word;
}
moved_shows old page is words aim s mid homes same (inr placed) changing facts = record {
  keeps = record {
    changing = changing;
    facts = facts;
    super_words = placed.super_words ∙ homes.super_words;
    log = placed.log ∙ homes.log;
    entries = λ n less. placed.others n (omega arith) (λ clash. omega arith) ∙ homes.entries n less;
  };
  words = λ p l w word h. placed_gives old page is words aim s mid homes same placed p l w word;
}

moved_own : (old new : Option ℕ) (page : ℕ) (calls : List Call) (words : ℕ → ℕ → ℕ) (aim : Aim) (s : State) → Homes aim.sizes old aim s
    → Places (keeping aim) aim.sizes.frames (entry_of old) (entry_of new) page words calls s → ((l w : ℕ) → IsWord aim.sizes page l w → words l w ≡ aim.words page l w)
    → Steps (KeepsBut no_pairs) (Homes aim.sizes new) calls aim s
moved_own old new page calls words aim s homes places same = record {
  facts = record {
    sizes = refl;
    facts = places.done;
    super_words = places.placed.super_words ∙ homes.super_words;
    log = places.placed.log ∙ homes.log;
    entries = λ n less. places.placed.others n (omega arith) (λ clash. omega arith) ∙ homes.entries n less;
    passes = places.placed.here;
    words = placed_gives old page (entry_of new) words aim s (after_all calls s) homes same places.placed;
    flushed = places.flushed aim.known homes.flushed;
  };
  moments = λ mid amid. moved_shows old page (entry_of new) words aim s mid homes same (places.shown mid amid)
      (Some (record { gate = Gate.frame aim.sizes.frames; old = entry_of old; new = entry_of new })) (places.moments mid amid);
}

-- ---- a page leaves the frame

leaves_own : (page : ℕ) (bytes : List ℕ) (aim : Aim) (s : State) → Homes aim.sizes (Some page) aim s → HoldsFrame aim.sizes aim.sizes.frames bytes s
    → Steps (KeepsBut no_pairs) (Homes aim.sizes None) (release_calls aim.sizes aim.sizes.frames page bytes) aim s
leaves_own page bytes aim s homes holds =
    moved_own (Some page) None page (release_calls aim.sizes aim.sizes.frames page bytes) (home (current s) page) aim s homes
    (release_places (keeping aim) s homes.facts refl aim.sizes.frames page bytes (omega arith) homes.passes holds) (λ l w word. homes.words page l w word)

pub leaves_page : (g : Sizes) (page : ℕ) (bytes : List ℕ) (aim : Aim) (s : State) → Homes g (Some page) aim s → HoldsFrame g g.frames bytes s
    → Steps (KeepsBut no_pairs) (Homes g None) (release_calls g g.frames page bytes) aim s
leaves_page g page bytes aim s homes holds =
    subst (λ (x : Sizes). Homes x (Some page) aim s → HoldsFrame x x.frames bytes s → Steps (KeepsBut no_pairs) (Homes x None) (release_calls x x.frames page bytes) aim s) homes.sizes
    (leaves_own page bytes aim s) homes holds

-- ---- a page enters the frame

enters_own : (page : ℕ) (bytes : List ℕ) (aim : Aim) (s : State) → Homes aim.sizes None aim s → page < pages aim.sizes → IsKeptIn aim.sizes page None aim → bytes ≡ (s.ssd (page_block aim.sizes page)).bytes
    → Steps (KeepsBut no_pairs) (Homes aim.sizes (Some page)) (install_calls aim.sizes aim.sizes.frames page (page_lines bytes)) aim s
enters_own page bytes aim s homes in_store unkept same =
    moved_own None (Some page) page (install_calls aim.sizes aim.sizes.frames page (page_lines bytes)) (block_word bytes) aim s homes
    (install_places (keeping aim) s homes.facts refl aim.sizes.frames page bytes can) (λ l w word. at_home l w word ∙ homes.words page l w word)
  where
    unnamed : (n : ℕ) → n ≤ aim.sizes.frames → entry_at (current s) n ≢ page + 1
    unnamed n h named = elim (cases_eq n aim.sizes.frames) [
      | inl last ↦ (let none : entry_at (current s) n ≡ 0 = ap (entry_at (current s)) last ∙ homes.passes in omega arith)
      | inr before ↦ (let less : n < aim.sizes.frames = omega arith in unkept n less (sym (homes.entries n less) ∙ named))
    ]

    at_home : (l w : ℕ) → IsWord aim.sizes page l w → block_word bytes l w ≡ home (current s) page l w
    at_home l w word = ap (λ xs. block_word xs l w) same ∙ sym (home_unframed (keeping aim) s homes.facts page l w unnamed)

    can : CanInstall aim.format s aim.sizes.frames page (page_lines bytes)
    can = install_ready (keeping aim) s homes.facts refl aim.sizes.frames page (page_lines bytes) in_store (omega arith) homes.passes unnamed (page_lines-length bytes)
        (λ l w word h. page_words bytes l w word.line word.word ∙ at_home l w word)

pub enters_page : (g : Sizes) (page : ℕ) (bytes : List ℕ) → page < pages g → (aim : Aim) (s : State) → Homes g None aim s → IsKeptIn g page None aim → bytes ≡ (s.ssd (page_block g page)).bytes
    → Steps (KeepsBut no_pairs) (Homes g (Some page)) (install_calls g g.frames page (page_lines bytes)) aim s
enters_page g page bytes in_store aim s homes unkept same =
    subst (λ (x : Sizes). Homes x None aim s → page < pages x → IsKeptIn x page None aim → bytes ≡ (s.ssd (page_block x page)).bytes
    → Steps (KeepsBut no_pairs) (Homes x (Some page)) (install_calls x x.frames page (page_lines bytes)) aim s) homes.sizes
    (enters_own page bytes aim s) homes in_store unkept same

-- ---- the calls

OnOk_never : {T E : Type 0} {P : Type 0} (Q : Type 0) (r : Result T E) → (P → ⊥) → OnOk r P → OnOk r Q
OnOk_never Q (Ok v) f p = absurd (f p)
OnOk_never Q (Err e) f p = tt

-- A release with a write, where each state that has those bytes in the frame is led from one fact to another.
pub release_leads : {Goal T : Type 0} {Held A B : Goal → State → Type 0} {a b : Standing} {r : Result T Stop} (g : Sizes) (k page : ℕ) → ((aim : Goal) (s : State) → A aim s → Held aim s)
    → ((bytes : List ℕ) (aim : Goal) (s : State) → A aim s → HoldsFrame g k bytes s → Steps Held B (release_calls g k page bytes) aim s) → Releases g k page true a b r → Leads Held A B a b r
release_leads {Goal = Goal} {Held = Held} {A = A} {B = B} {a = a} {b = b} {r = r} g k page held steps releases = by_loaded releases.loaded releases.made releases.holds releases.whole
  where
    by_loaded : (loaded : Option (List ℕ)) → Made (release_makes g k page true loaded) a b r → (IsTrue a.told → (bytes : List ℕ) → loaded ≡ Some bytes → HoldsFrame g k bytes (now a)) → OnOk r (IsTrue true → loaded ≢ None)
        → Leads Held A B a b r
    by_loaded None made holds whole = record {
      goes = made.goes;
      cause = made.cause;
      calls = [];
      makes = made.makes;
      facts = λ told aim s reads before. OnOk_never _ r (λ some. some refl refl) whole;
      moments = λ told aim s reads before mid at. subst (λ (x : State). Held aim x) (sym at) (held aim s before);
    }
    by_loaded (Some bytes) made holds whole = leads_made made (λ told aim s reads before. steps bytes aim s before
        (record { words = λ l w hl hw. (holds told bytes refl).words l w hl hw ∙ sym (reads.words _ w) }))

pub enter_leads : {T U : Type 0} {v : U} {a b c : Standing} {r : Result T Stop} (g : Sizes) (page : ℕ) (bytes : List ℕ) → page < pages g → Looked {T = U} a b (Ok v)
    → (IsTrue a.told → bytes ≡ ((now a).ssd (page_block g page)).bytes) → Made (install_calls g g.frames page (page_lines bytes)) b c r
    → Leads (KeepsBut no_pairs) (Given (IsKeptIn g page None) (Homes g None)) (Homes g (Some page)) a c r
enter_leads {b = b} g page bytes in_store looked value made =
    leads_then (leads_looked (λ aim s before. homes_keep no_pairs aim s before.holds) looked)
    (leads_made made (λ told aim s reads before. enters_page g page bytes in_store aim s before.holds before.of_aim
    (let first : IsTrue _ = earlier_told looked.goes told in
    value first ∙ ap (λ (x : State). (x.ssd (page_block g page)).bytes) (sym (looked_same looked first)) ∙ sym (reads.blocks (page_block g page)))))

-- a line of a page that has a frame
pub kept_leads : {T : Type 0} {a b : Standing} {r : Result T Stop} (g : Sizes) (passing : Option ℕ) (k page line : ℕ) (value : Line) → k < g.frames → page < pages g → line < 64
    → Made (store_calls g k line value) a b r → Leads (KeepsBut (only_pair page line)) (Given (CanWrite g page line (Some k) value) (Homes g passing)) (λ (aim : Aim). Homes g passing (aim_with page line value aim)) a b r
kept_leads g passing k page line value less in_store in_page made =
    leads_made made (λ told aim s reads before.
    stores_line g passing k page line value (omega arith) in_store in_page aim s before.holds (before.holds.entries k less ∙ before.of_aim.place) before.of_aim.logged)

-- a line of the page in the frame through which pages pass
pub passing_leads : {T : Type 0} {a b : Standing} {r : Result T Stop} (g : Sizes) (page line : ℕ) (value : Line) → page < pages g → line < 64
    → Made (store_calls g g.frames line value) a b r
    → Leads (KeepsBut (only_pair page line)) (Given (IsLoggedLine page line value) (Homes g (Some page))) (λ (aim : Aim). Homes g (Some page) (aim_with page line value aim)) a b r
passing_leads g page line value in_store in_page made =
    leads_made made (λ told aim s reads before.
    stores_line g (Some page) g.frames page line value (omega arith) in_store in_page aim s before.holds before.holds.passes before.of_aim)

-- behind the page's coming there
pub passed_leads : {T U : Type 0} {v : U} {a b c : Standing} {r : Result T Stop} (g : Sizes) (old new : Option ℕ) (page line : ℕ) (value : Line) → page < pages g → line < 64 → new ≡ Some page
    → Leads {T = U} (KeepsBut no_pairs) (Given (IsKeptIn g page None) (Homes g old)) (Homes g (Some page)) a b (Ok v) → Made (store_calls g g.frames line value) b c r
    → Leads (KeepsBut (only_pair page line)) (Given (CanWrite g page line None value) (Homes g old)) (λ (aim : Aim). Homes g new (aim_with page line value aim)) a c r
passed_leads {a = a} {c = c} {r = r} g old new page line value in_store in_page is first made =
    subst (λ (x : Option ℕ). Leads (KeepsBut (only_pair page line)) (Given (CanWrite g page line None value) (Homes g old)) (λ (aim : Aim). Homes g x (aim_with page line value aim)) a c r) (sym is)
    (leads_from (λ aim s before. record { of_aim = before.of_aim.logged; holds = record { of_aim = before.of_aim.place; holds = before.holds } })
    (leads_then (leads_held (keeps_more (only_pair page line)) (leads_given (IsLoggedLine page line value) first)) (passing_leads g page line value in_store in_page made)))

-- no page is there
pub ended_none : {T : Type 0} {v : T} {a : Standing} (g : Sizes) (old : Option ℕ) → old ≡ None → Leads {T = T} (KeepsBut no_pairs) (Homes g old) (Homes g None) a a (Ok v)
ended_none {T = T} {v = v} {a = a} g old is =
    leads_none (λ aim s homes. homes_keep no_pairs aim s homes) (λ aim s homes. subst (λ (x : Option ℕ). Homes g x aim s) is homes)

-- the page is there already
pub there_already : {T : Type 0} {v : T} {a : Standing} (g : Sizes) (old : Option ℕ) (page : ℕ) → old ≡ Some page → Leads {T = T} (KeepsBut no_pairs) (Given (IsKeptIn g page None) (Homes g old)) (Homes g (Some page)) a a (Ok v)
there_already {T = T} {v = v} {a = a} g old page is =
    leads_none (λ aim s before. homes_keep no_pairs aim s before.holds) (λ aim s before. subst (λ (x : Option ℕ). Homes g x aim s) is before.holds)

-- the same where the home is given
pub write_kept : {T : Type 0} {a b : Standing} {r : Result T Stop} (g : Sizes) (passing at : Option ℕ) (k page line : ℕ) (value : Line) → at ≡ Some k → IfSome at (λ n. n < g.frames) → page < pages g → line < 64
    → Made (store_calls g k line value) a b r → Leads (KeepsBut (only_pair page line)) (Given (CanWrite g page line at value) (Homes g passing)) (λ (aim : Aim). Homes g passing (aim_with page line value aim)) a b r
write_kept {a = a} {b = b} {r = r} g passing at k page line value is below in_store in_page made =
    subst (λ (x : Option ℕ). Leads (KeepsBut (only_pair page line)) (Given (CanWrite g page line x value) (Homes g passing)) (λ (aim : Aim). Homes g passing (aim_with page line value aim)) a b r) (sym is)
    (kept_leads g passing k page line value (subst (λ (x : Option ℕ). IfSome x (λ n. n < g.frames)) is below) in_store in_page made)

pub write_passed : {T U : Type 0} {v : U} {a b c : Standing} {r : Result T Stop} (g : Sizes) (at old new : Option ℕ) (page line : ℕ) (value : Line) → at ≡ None → page < pages g → line < 64 → new ≡ Some page
    → Leads {T = U} (KeepsBut no_pairs) (Given (IsKeptIn g page None) (Homes g old)) (Homes g (Some page)) a b (Ok v) → Made (store_calls g g.frames line value) b c r
    → Leads (KeepsBut (only_pair page line)) (Given (CanWrite g page line at value) (Homes g old)) (λ (aim : Aim). Homes g new (aim_with page line value aim)) a c r
write_passed {a = a} {c = c} {r = r} g at old new page line value is in_store in_page there first made =
    subst (λ (x : Option ℕ). Leads (KeepsBut (only_pair page line)) (Given (CanWrite g page line x value) (Homes g old)) (λ (aim : Aim). Homes g new (aim_with page line value aim)) a c r) (sym is)
    (passed_leads g old new page line value in_store in_page there first made)

-- where it could not come there
pub write_unpassed : {T U : Type 0} {why : Stop} {a b : Standing} {C : Aim → State → Type 0} (g : Sizes) (at old : Option ℕ) (page line : ℕ) (value : Line) (r : Result T Stop) → at ≡ None → IsErrAnd r (λ y. y ≡ why)
    → Leads {T = U} (KeepsBut no_pairs) (Given (IsKeptIn g page None) (Homes g old)) (Homes g (Some page)) a b (Err why)
    → Leads (KeepsBut (only_pair page line)) (Given (CanWrite g page line at value) (Homes g old)) C a b r
write_unpassed g at old page line value r is failed call =
    leads_exit r failed (leads_held (keeps_more (only_pair page line))
    (leads_from (λ aim s before. record { of_aim = subst (λ (x : Option ℕ). IsKeptIn g page x aim) is before.of_aim.place; holds = before.holds }) call))

-- ---- whether a page is in the frame through which pages pass

true_false : (x : Bool) → x ≡ true → x ≡ false → ⊥
true_false true e f = cc
true_false false e f = cc

pub is_there : (there : Option ℕ) (page : ℕ) → option_eq eqb there (Some page) ≡ true → there ≡ Some page
is_there None page h = cc
is_there (Some p) page h = elim (cases_eq p page) [
  | inl same ↦ ap (λ n. Some n) same
  | inr apart ↦ absurd (true_false (eqb p page) h (ne_eqb p page apart))
]

pub is_elsewhere : (there : Option ℕ) (page : ℕ) → option_eq eqb there (Some page) ≡ false → there ≢ Some page
is_elsewhere there page h same = true_false (eqb page page) (eq-eqb page page refl) (ap (λ (x : Option ℕ). option_eq eqb x (Some page)) (sym same) ∙ h)
