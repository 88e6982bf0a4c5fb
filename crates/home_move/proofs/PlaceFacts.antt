-- A change of a page's place keeps what a store keeps: the facts, what recovery gives, and all else.
use Rattle.std.proofs.Common.{◌≡◌, ◌≢◌, ◌⊎◌, ℕ, ◌+◌, ◌-◌, ◌<◌, ◌≤◌, List, [], get_or, refl, sym, ap, ◌∙◌, subst, true, inl, inr, arith, IsTrue, Option, Some, None, Result, Ok, Err}
use Rattle.std.specs.Prelude.{OnOk}
use Rattle.nvm_model.specs.declared.line.Line.{Line}
use Rattle.nvm_model.proofs.ImageLaws.{line_of-word}
use Rattle.devices.specs.State.{State, Image, Leaves, Call, Amid, after_all, current, line_stored}
use Rattle.devices.specs.World.{Standing, MakesAll, now}
use Rattle.devices.proofs.MomentLaws.{Moments-map}
use Rattle.line_pages.specs.declared.stop.Stop.{Stop}
use Rattle.device_calls.specs.Leads.{Made}
use Rattle.store_model.specs.Layout.{Sizes, pages, frame_line, page_block, entry_line, entry_word, ring_line}
use Rattle.store_model.specs.Format.{word_in, zero_line}
use Rattle.store_model.specs.Recovered.{Super, super_of, entry_at, home, log_lines, recovered, block_word}
use Rattle.store_model.specs.StoreFacts.{Gate, Bookkeeping, IsWord, StoreFacts}
use Rattle.store_model.specs.Append.{RecoversTo}
use Rattle.store_model.specs.Install.{entry_calls, install_calls, release_calls, store_calls, CanInstall, CanStore}
use Rattle.store_model.specs.Seen.{CanClear, CanGiveUp, changing_to}
use Rattle.store_model.specs.Shown.{Placed}
use Rattle.home_laws.proofs.FactsLaws.{current_leaves, facts_recover}
use Rattle.home_laws.proofs.SeenLaws.{facts_super, facts_changing}
use Rattle.home_laws.proofs.InstallFacts.{install_facts, install_done}
use Rattle.home_laws.proofs.ReleaseFacts.{give_up_facts, give_up_done, release_clean_facts, release_clean_done}
use Rattle.home_laws.proofs.PlacedFacts.{install_placed, release_placed}
use Rattle.home_laws.proofs.ShownLaws.{clear_placed}
use Rattle.home_laws.proofs.ShownLaws.{home_kept}
use Rattle.home_laws.proofs.StoreLaws.{store_facts}
use Rattle.home_laws.proofs.StoreLaws as RecoverLaws
use Rattle.home_laws.proofs.PutLaws.{log_line-same, super_same, named_low, lines_by}
use Rattle.home_laws.proofs.RecoveredLaws.{from-same}
use Rattle.home_laws.proofs.LayoutLaws.{frame_apart}
use Rattle.devices.proofs.GrowthLaws.{Amid_end}
use Rattle.devices.specs.Growth.{no_write}
use Rattle.devices.proofs.StateLaws.{line_stored_same, flushed_same}
use Rattle.devices.proofs.DurableLaws.{line_stores}
use Rattle.nvm_model.specs.Word.{Word, marked}
use Rattle.home_laws.proofs.ReadyLaws.{give_up_ready, home_framed}
use Rattle.home_move.specs.Frames.{page_lines, HoldsFrame}
use Rattle.home_move.specs.Moves.{Releases, release_makes, KeepsPlaced, InstallKeeps, ReleaseKeeps, ClearKeeps, ShowsSame, LineStays, LinePlaced, StoreKeeps}
use Rattle.home_move.specs.Homes.{AreFlushed}
use Rattle.home_move.proofs.FlushLaws.{install_flushed, release_flushed, clear_flushed}
use Rattle.home_move.proofs.ShowLaws.{ReadsOn, amid_on, install_shows, release_shows, clear_shows, shows_itself}
use Rattle.line_pages.specs.Pairs.{Pairs}
use Rattle.home_move.proofs.FrameLaws.{page_lines-at}

-- what the state recovers to is committed, whatever the tail
abbrev pub committed_now : Bookkeeping → State → Bookkeeping
committed_now b s = record b { committed = λ n. b.committed (super_of (current s)).tail }

pub committed_facts : (b : Bookkeeping) (s : State) → StoreFacts b s → b.changing ≡ None → StoreFacts (committed_now b s) s
committed_facts b s facts still =
    let tails : (i : Image) → Leaves s i → (p l w : ℕ) → b.committed (super_of i).tail p l w ≡ b.committed (super_of (current s)).tail p l w =
    (λ i left p l w. ap (λ (x : Super). b.committed x.tail p l w) (facts_super b s facts still i left)) in
    record {
      gates = record { sizes = facts.gates.sizes; others = facts.gates.others; changing = facts.gates.changing };
      sizes = facts.sizes;
      durable = λ i left. record { log = (facts.durable i left).log; homes = (facts.durable i left).homes };
      homes = λ i left. record {
        current = (facts.homes i left).current;
        committed = λ p l w word h. (facts.homes i left).committed p l w word h ∙ tails i left p l w;
      };
      log = λ i left. record {
        logged = λ p l w word h homes. (facts.log i left).logged p l w word h homes ∙ tails i left p l w;
        pending = λ p l w word h named. (facts.log i left).pending p l w word h named ∙ tails i left p l w;
      };
      copies = facts.copies;
      stores = facts.stores;
    }

-- where what is committed is the same for each tail, and the store recovered to these words before, it does still
pub recovers_still : (b c : Bookkeeping) (s t : State) → StoreFacts b s → b.changing ≡ None → StoreFacts c t → c.format ≡ b.format → c.sizes ≡ b.sizes
    → ((n p l w : ℕ) → c.committed n p l w ≡ b.committed (super_of (current s)).tail p l w)
    → (before : ℕ → ℕ → ℕ → ℕ) → RecoversTo b.format s before → RecoversTo b.format t before
recovers_still b c s t old still facts same_format same_sizes same before recovers i left p l w hp hl hw =
    let sized : (super_of i).sizes ≡ b.sizes = facts.sizes i left ∙ same_sizes in
    let in_store : p < pages b.sizes = subst (λ (g : Sizes). p < pages g) sized hp in
    let word : IsWord b.sizes p l w = record { page = in_store; line = hl; word = hw } in
    let word_c : IsWord c.sizes p l w = subst (λ (g : Sizes). IsWord g p l w) (sym same_sizes) word in
    let was : recovered b.format (current s) p l w ≡ before p l w =
    recovers (current s) (current_leaves s) p l w (subst (λ (g : Sizes). p < pages g) (sym (old.sizes (current s) (current_leaves s))) in_store) hl hw in
    ap (λ f. recovered f i p l w) (sym same_format) ∙ facts_recover c t facts i left p l w word_c ∙ same (super_of i).tail p l w
    ∙ sym (facts_recover b s old (current s) (current_leaves s) p l w word) ∙ was

-- What calls that change the place of a page do, for whatever the store keeps.
pub record Places (b : Bookkeeping) (k was is page : ℕ) (words : ℕ → ℕ → ℕ) (calls : List Call) (s : State) : Type 0 where
  pub moments : (mid : State) → Amid s calls mid → StoreFacts (changing_to b (Gate.frame k) was is b.committed) mid
  pub done : StoreFacts b (after_all calls s)
  pub flushed : (known : Pairs) → AreFlushed b.sizes known s → AreFlushed b.sizes known (after_all calls s)
  pub shown : (mid : State) → Amid s calls mid → ShowsSame b.sizes s mid ⊎ Placed b.sizes s mid k is page words
  pub placed : Placed b.sizes s (after_all calls s) k is page words

OnOk_map : {T E : Type 0} {P Q : Type 0} (r : Result T E) → (P → Q) → OnOk r P → OnOk r Q
OnOk_map (Ok v) f p = f p
OnOk_map (Err e) f p = tt

pub keeps_placed : {T : Type 0} {a d : Standing} {r : Result T Stop} (b : Bookkeeping) (k was is page : ℕ) (words : ℕ → ℕ → ℕ) (calls : List Call) → MakesAll calls a d r → IsTrue a.told
    → StoreFacts b (now a) → b.changing ≡ None → Places b k was is page words calls (now a) → Places (committed_now b (now a)) k was is page words calls (now a)
    → KeepsPlaced b k was is page words a d r
keeps_placed {a = a} {d = d} {r = r} b k was is page words calls makes told facts still places recovering = record {
  moments = Moments-map (λ mid amid. places.moments mid amid) (makes.part told);
  recovers = λ before recovers. Moments-map (λ mid amid.
      recovers_still b (changing_to (committed_now b (now a)) (Gate.frame k) was is (λ n. b.committed (super_of (current (now a))).tail)) (now a) mid facts still (recovering.moments mid amid) refl refl
      (λ n p l w. refl) before recovers) (makes.part told);
  shown = Moments-map places.shown (makes.part told);
  facts = OnOk_map r (λ same. subst (λ (s : State). StoreFacts b s) (sym same) places.done) (makes.whole told);
  placed = OnOk_map r (λ same. subst (λ (s : State). Placed b.sizes (now a) s k is page words) (sym same) places.placed) (makes.whole told);
}

-- the same words
placed_words : (g : Sizes) (s t : State) (k is page : ℕ) (old new : ℕ → ℕ → ℕ) → ((l w : ℕ) → IsWord g page l w → old l w ≡ new l w) → Placed g s t k is page old → Placed g s t k is page new
placed_words g s t k is page old new same placed = record {
  super_words = placed.super_words;
  log = placed.log;
  here = placed.here;
  others = placed.others;
  page_words = λ l w word. placed.page_words l w word ∙ same l w word;
  other_pages = placed.other_pages;
}

-- ---- an install

pub page_words : (bytes : List ℕ) (l w : ℕ) → l < 64 → w < 8 → word_in (get_or (page_lines bytes) l zero_line) w ≡ block_word bytes l w
page_words bytes l w hl hw = ap (λ (x : Line). word_in x w) (page_lines-at bytes l zero_line hl) ∙ line_of-word (block_word bytes l) w hw

pub install_places : (b : Bookkeeping) (s : State) → StoreFacts b s → b.changing ≡ None → (k page : ℕ) (bytes : List ℕ) → CanInstall b.format s k page (page_lines bytes)
    → Places b k 0 (page + 1) page (block_word bytes) (install_calls b.sizes k page (page_lines bytes)) s
install_places b s facts still k page bytes can = record {
  moments = install_facts b s facts still k page (page_lines bytes) can;
  done = install_done b s facts still k page (page_lines bytes) can;
  flushed = install_flushed b s facts still k page (page_lines bytes) can;
  shown = install_shows b s facts still k page (page_lines bytes) can (block_word bytes) placed;
  placed = placed;
}
  where
    placed : Placed b.sizes s (after_all (install_calls b.sizes k page (page_lines bytes)) s) k (page + 1) page (block_word bytes)
    placed = placed_words b.sizes s _ k (page + 1) page _ (block_word bytes) (λ l w word. page_words bytes l w word.line word.word) (install_placed b s facts still k page (page_lines bytes) can)

pub install_keeps : {T : Type 0} {a d : Standing} {r : Result T Stop} (g : Sizes) (k page : ℕ) (bytes : List ℕ) → Made (install_calls g k page (page_lines bytes)) a d r → InstallKeeps g k page bytes a d r
install_keeps {a = a} {d = d} {r = r} g k page bytes made told b sized facts still can =
    let makes : MakesAll (install_calls b.sizes k page (page_lines bytes)) a d r = subst (λ (x : Sizes). MakesAll (install_calls x k page (page_lines bytes)) a d r) (sym sized) made.makes in
    keeps_placed b k 0 (page + 1) page (block_word bytes) (install_calls b.sizes k page (page_lines bytes)) makes told facts still
    (install_places b (now a) facts still k page bytes can)
    (install_places (committed_now b (now a)) (now a) (committed_facts b (now a) facts still) still k page bytes can)

-- ---- a release with a write

frame_words : (b : Bookkeeping) (s : State) → StoreFacts b s → (k page : ℕ) (bytes : List ℕ) → k ≤ b.sizes.frames → entry_at (current s) k ≡ page + 1 → HoldsFrame b.sizes k bytes s
    → (l w : ℕ) → l < 64 → w < 8 → block_word bytes l w ≡ home (current s) page l w
frame_words b s facts k page bytes framed named holds l w hl hw = holds.words l w hl hw ∙ sym (home_framed b s facts k page l w framed named)

pub release_places : (b : Bookkeeping) (s : State) → StoreFacts b s → b.changing ≡ None → (k page : ℕ) (bytes : List ℕ) → k ≤ b.sizes.frames → entry_at (current s) k ≡ page + 1 → HoldsFrame b.sizes k bytes s
    → Places b k (page + 1) 0 page (home (current s) page) (release_calls b.sizes k page bytes) s
release_places b s facts still k page bytes framed named holds =
    let can : CanGiveUp b s k page bytes = give_up_ready b s facts still k page bytes framed named (λ l w word h. frame_words b s facts k page bytes framed named holds l w word.line word.word) in
    let placed : Placed b.sizes s (after_all (release_calls b.sizes k page bytes) s) k 0 page (home (current s) page) =
    placed_words b.sizes s _ k 0 page (block_word bytes) (home (current s) page) (λ l w word. frame_words b s facts k page bytes framed named holds l w word.line word.word) (release_placed b s facts still k page bytes can) in
    record {
      moments = give_up_facts b s facts still k page bytes can;
      done = give_up_done b s facts still k page bytes can;
      flushed = release_flushed b s facts still k page bytes can;
      shown = release_shows b s facts still k page bytes can (home (current s) page) placed;
      placed = placed;
    }

never_ok : {T E : Type 0} (r : Result T E) → OnOk r ⊥ → (P : Type 0) → OnOk r P
never_ok (Ok v) h P = absurd h
never_ok (Err e) h P = tt

-- where a frame could not be loaded nothing changed
unread_keeps : {T : Type 0} {a d : Standing} {r : Result T Stop} (b : Bookkeeping) (k was is page : ℕ) (words : ℕ → ℕ → ℕ) → MakesAll [] a d r → ((P : Type 0) → OnOk r P) → IsTrue a.told → StoreFacts b (now a) → b.changing ≡ None
    → k ≤ b.sizes.frames → entry_at (current (now a)) k ≡ was → KeepsPlaced b k was is page words a d r
unread_keeps {a = a} {d = d} b k was is page words makes failed told facts still framed named = record {
  moments = Moments-map (λ mid same. subst (λ (s : State). StoreFacts (changing_to b (Gate.frame k) was is b.committed) s) (sym same)
      (facts_changing b (now a) facts still (Gate.frame k) framed was is named b.committed (λ p l w. refl))) (makes.part told);
  recovers = λ before recovers. Moments-map (λ mid same. subst (λ (s : State). RecoversTo b.format s before) (sym same) recovers) (makes.part told);
  shown = Moments-map (λ mid same. inl (subst (λ (s : State). ShowsSame b.sizes (now a) s) (sym same) (shows_itself b.sizes (now a)))) (makes.part told);
  facts = failed _;
  placed = failed _;
}

pub release_keeps : {T : Type 0} {a d : Standing} {r : Result T Stop} (g : Sizes) (k page : ℕ) → k ≤ g.frames → Releases g k page true a d r → ReleaseKeeps g k page a d r
release_keeps {a = a} {d = d} {r = r} g k page framed releases told b sized facts still named = by_loaded releases.loaded releases.made (releases.holds told) releases.whole
  where
    in_frames : k ≤ b.sizes.frames
    in_frames = subst (λ (x : Sizes). k ≤ x.frames) (sym sized) framed

    by_loaded : (loaded : Option (List ℕ)) → Made (release_makes g k page true loaded) a d r → ((bytes : List ℕ) → loaded ≡ Some bytes → HoldsFrame g k bytes (now a)) → OnOk r (IsTrue true → loaded ≢ None)
        → KeepsPlaced b k (page + 1) 0 page (home (current (now a)) page) a d r
    by_loaded None made holds whole = unread_keeps b k (page + 1) 0 page (home (current (now a)) page) made.makes (never_ok r (OnOk_map r (λ some. some refl refl) whole)) told facts still in_frames named
    by_loaded (Some bytes) made holds whole =
        let held : HoldsFrame b.sizes k bytes (now a) = subst (λ (x : Sizes). HoldsFrame x k bytes (now a)) (sym sized) (holds bytes refl) in
        let makes : MakesAll (release_calls b.sizes k page bytes) a d r = subst (λ (x : Sizes). MakesAll (release_calls x k page bytes) a d r) (sym sized) made.makes in
        keeps_placed b k (page + 1) 0 page (home (current (now a)) page) (release_calls b.sizes k page bytes) makes told facts still
        (release_places b (now a) facts still k page bytes in_frames named held)
        (release_places (committed_now b (now a)) (now a) (committed_facts b (now a) facts still) still k page bytes in_frames named held)

-- ---- a release without a write

clear_places : (b : Bookkeeping) (s : State) → StoreFacts b s → b.changing ≡ None → (k page : ℕ) → CanClear b s k page
    → Places b k (page + 1) 0 page (block_word (s.ssd (page_block b.sizes page)).bytes) (entry_calls k 0) s
clear_places b s facts still k page can = record {
  moments = release_clean_facts b s facts still k page can;
  done = release_clean_done b s facts still k page can;
  flushed = clear_flushed b s facts still k page can;
  shown = clear_shows b.sizes s k page _ (clear_placed b s facts still k page can);
  placed = clear_placed b s facts still k page can;
}

pub clear_keeps : {T : Type 0} {a d : Standing} {r : Result T Stop} (g : Sizes) (k page : ℕ) → Made (entry_calls k 0) a d r → ClearKeeps g k page a d r
clear_keeps {a = a} {d = d} {r = r} g k page made told b sized facts still can =
    subst (λ (x : Sizes). KeepsPlaced b k (page + 1) 0 page (block_word ((now a).ssd (page_block x page)).bytes) a d r) sized
    (keeps_placed b k (page + 1) 0 page (block_word ((now a).ssd (page_block b.sizes page)).bytes) (entry_calls k 0) made.makes told facts still
    (clear_places b (now a) facts still k page can)
    (clear_places (committed_now b (now a)) (now a) (committed_facts b (now a) facts still) still k page
    (record { frame = can.frame; named = can.named; alone = can.alone; settled = can.settled; homes = can.homes })))

-- ---- a line that is stored in place

-- a state that reads as before outside of a line of a frame that has the page
module _ (b : Bookkeeping) (s : State) (facts : StoreFacts b s) (k page line : ℕ) (value : Line) (can : CanStore b.format s k page line value) (t : State)
    (elsewhere : (l w : ℕ) → l ≢ frame_line (super_of (current s)).sizes k line → (current t).nvm l w ≡ (current s).nvm l w) (blocks : (n : ℕ) → (current t).ssd n ≡ (current s).ssd n) where
  abbrev g : Sizes
  g = (super_of (current s)).sizes

  stored_super : super_of (current t) ≡ super_of (current s)
  stored_super = super_same (current t) (current s) (λ l w named. elsewhere l w (λ at. let four : l < 4 = named_low l w named in omega arith))

  stored_entry : (n : ℕ) → n ≤ g.frames → entry_at (current t) n ≡ entry_at (current s) n
  stored_entry n h = elsewhere (entry_line n) (entry_word n) (λ at. omega arith)

  stored_log : log_lines (current t) ≡ log_lines (current s)
  stored_log =
      let positive : 0 < g.log_blocks = (can.can).ring in
      ap (λ (x : Super). lines_by x (current t)) stored_super
      ∙ from-same _ _ (super_of (current s)).start ((super_of (current s)).tail - (super_of (current s)).start) (λ o above below. log_line-same g (super_of (current s)).drained (current t) (current s) o
      (λ drained w hw. elsewhere (ring_line g o) w (λ at. omega arith)) blocks)

  stored_other : (p l w : ℕ) → (p ≢ page) ⊎ (l ≢ line) → IsWord g p l w → home (current t) p l w ≡ home (current s) p l w
  stored_other p l w apart word = home_kept g (current t) (current s) (ap (λ (x : Super). x.sizes) stored_super) refl stored_entry p l w
      (λ n h named. elsewhere (frame_line g n l) w (λ at. away n named (frame_apart g n k l line word.line can.in_page at)))
      (λ none. blocks (page_block g p))
    where
      away : (n : ℕ) → entry_at (current s) n ≡ p + 1 → (n ≡ k) × (l ≡ line) → ⊥
      away n named same =
          let at_k : entry_at (current s) n ≡ page + 1 = ap (entry_at (current s)) same.0 ∙ can.named in
          elim apart [ inl page_apart ↦ page_apart (omega arith) | inr line_apart ↦ line_apart same.1 ]

  line_stays : LineStays b.sizes s t page line
  line_stays = subst (λ (x : Sizes). LineStays x s t page line) (facts.sizes (current s) (current_leaves s))
      (record { super_words = stored_super; log = stored_log; entries = stored_entry; others = stored_other })

-- so it is at each moment of a store in place
pub store_stays : (b : Bookkeeping) (s : State) (facts : StoreFacts b s) (k page line : ℕ) (value : Line) (can : CanStore b.format s k page line value)
    → (mid : State) → Amid s (store_calls b.sizes k line value) mid → LineStays b.sizes s mid page line
store_stays b s facts k page line value can mid amid =
    let sized : (super_of (current s)).sizes ≡ b.sizes = facts.sizes (current s) (current_leaves s) in
    let on : ReadsOn (line_stores (frame_line b.sizes k line) value) no_write s mid =
    amid_on (line_stores (frame_line b.sizes k line) value) no_write (store_calls b.sizes k line value) s mid ((λ w hw. (refl, hw, refl)), (tt, tt)) amid in
    line_stays b s facts k page line value can mid (λ l w apart. on.words l w (λ v st. apart (st.0 ∙ ap (λ (x : Sizes). frame_line x k line) (sym sized)))) (λ n. on.bytes n (λ written. written))

-- and in the end the line is this one
pub stored_line : (b : Bookkeeping) (s : State) (facts : StoreFacts b s) (k page line : ℕ) (value : Line) (can : CanStore b.format s k page line value)
    → LinePlaced b.sizes s (after_all (store_calls b.sizes k line value) s) page line value
stored_line b s facts k page line value can = record {
  super_words = stays.super_words;
  log = stays.log;
  entries = stays.entries;
  here = λ w hw. home_framed b t after k page line w framed (stays.entries k framed ∙ can.named) ∙ stored_here w hw;
  others = stays.others;
}
  where
    t : State
    t = after_all (store_calls b.sizes k line value) s

    sized : (super_of (current s)).sizes ≡ b.sizes
    sized = facts.sizes (current s) (current_leaves s)

    framed : k ≤ b.sizes.frames
    framed = subst (λ (x : Sizes). k ≤ x.frames) sized can.frame

    stays : LineStays b.sizes s t page line
    stays = store_stays b s facts k page line value can t (Amid_end (store_calls b.sizes k line value) s)

    after : StoreFacts b t
    after = subst (λ (x : Sizes). StoreFacts b (after_all (store_calls x k line value) s)) sized
        (store_facts b s facts k page line value can b.current (λ i left p l w word h. refl) _ (Amid_end (store_calls (super_of (current s)).sizes k line value) s))

    stored_here : (w : ℕ) → w < 8 → (current t).nvm (frame_line b.sizes k line) w ≡ word_in value w
    stored_here w hw = ap (λ (x : Word). x.newest) (flushed_same (frame_line b.sizes k line) (line_stored (frame_line b.sizes k line) value s) w)
        ∙ ap (λ (x : Word). (marked x).newest) (line_stored_same (frame_line b.sizes k line) value s w hw)

pub store_keeps : {T : Type 0} {a d : Standing} {r : Result T Stop} (g : Sizes) (k page line : ℕ) (value : Line) → Made (store_calls g k line value) a d r → StoreKeeps g k page line value a d r
store_keeps {a = a} {d = d} {r = r} g k page line value made told b sized facts still can =
    let same : (super_of (current (now a))).sizes ≡ g = facts.sizes (current (now a)) (current_leaves (now a)) ∙ sized in
    let makes : MakesAll (store_calls (super_of (current (now a))).sizes k line value) a d r = subst (λ (x : Sizes). MakesAll (store_calls x k line value) a d r) (sym same) made.makes in
    let makes_b : MakesAll (store_calls b.sizes k line value) a d r = subst (λ (x : Sizes). MakesAll (store_calls x k line value) a d r) (sym sized) made.makes in
    record {
      moments = λ words unwritten. Moments-map (λ mid amid. store_facts b (now a) facts k page line value can words unwritten mid amid) (makes.part told);
      recovers = λ before recovers. Moments-map (λ mid amid. RecoverLaws.store_keeps b.format (now a) k page line value can before recovers mid amid) (makes.part told);
      stays = Moments-map (store_stays b (now a) facts k page line value can) (makes_b.part told);
      placed = OnOk_map r (λ same. subst (λ (s : State). LinePlaced b.sizes (now a) s page line value) (sym same) (stored_line b (now a) facts k page line value can)) (makes_b.whole told);
    }
