-- A page is put into an empty frame with its current lines.
use Rattle.std.proofs.Common.{Bool, true, false, ◌≡◌, ◌≢◌, ◌⊎◌, ℕ, ◌+◌, ◌<◌, ◌≤◌, List, [], ◌∷◌, ◌++◌, length, get_or, refl, sym, ap, ◌∙◌, subst, inl, inr, arith, eqb, IsTrue, Option, Some, None}
use Rattle.std.proofs.lemmas.Bool.{cases_eq, eq-eqb, ne_eqb, cond-true, cond-false}
use Rattle.nvm_model.specs.declared.line.Line.{Line}
use Rattle.nvm_model.specs.Word.{Word}
use Rattle.devices.specs.State.{State, current, after_all}
use Rattle.devices.specs.State.Call.{fence}
use Rattle.devices.specs.Growth.{no_write}
use Rattle.store_model.specs.Layout.{Sizes, pages, entry_line, ring_line, frame_line, page_block}
use Rattle.store_model.specs.Log.{Log, is_logged}
use Rattle.store_model.specs.Format.{word_in, zero_line}
use Rattle.store_model.specs.Recovered.{Super, super_of, entry_at, home_in, block_word}
use Rattle.store_model.specs.Install.{frame_calls, entry_calls, install_calls, CanInstall}
use Rattle.store_model.specs.StoreFacts.{Gate, IsWord, StoreFacts}
use Rattle.store_model.specs.Seen.{CanName, changing_to, gate_stores}
use Rattle.store_model.specs.Shown.{Placed, HomesFlushed}
use Rattle.store_model.specs.Untouched.{Untouched}
use Rattle.devices.proofs.GrowthLaws.{after_all_append}
use Rattle.home_laws.proofs.LayoutLaws.{frame_apart}
use Rattle.home_laws.proofs.InstallLaws.{frame_stores, frame_within, frame_fits}
use Rattle.home_laws.proofs.InstallFacts.{frame_quiet, full, full_facts, can_name, frame_made_now, installed_is, install_done, install_facts}
use Rattle.home_laws.proofs.PlacedFacts.{install_placed}
use Rattle.home_laws.proofs.ShownLaws.{name_placed}
use Rattle.home_laws.proofs.UntouchedLaws.{calls_untouched}
use Rattle.kept_laws.proofs.FlushedFacts.{quiet_flushed, name_flushed}
use Rattle.tier_map.proofs.PlacementLaws.{changed-same, changed-other}
use Rattle.device_calls.specs.Leads.{Steps}
use Rattle.tier_facts.specs.Data.{Data, entry_of, or_home, home_of, current_in, installed}
use Rattle.tier_facts.specs.Facts.{Aim, Held, Facts, Hard, IsWritten, MayInstall, IsClean, AreCurrent, aim_sizes, keeping, log_in}
use Rattle.tier_facts.proofs.PlaceLaws.{IsPlaced, home_placed, can, positive, super_sizes, entry_frame, log_now, home_now, home_fixed, current_clean, current_hard, homes_flushed, frame_flushed, block_settled, clash, some_same}

pub none_some : {A X : Type 0} {x : X} → None ≡ Some x → A
none_some e = absurd (let no : ⊥ = cc in no)

module _ (t : Data) (aim : Aim) (s : State) (it : Facts t aim s) (k page : ℕ) (lines : List Line) (worn : Bool)
    (in_store : page < pages (aim_sizes aim)) (in_table : k ≤ (aim_sizes aim).frames) (homeless : t.frame page ≡ None) (empty : t.owner k ≡ None) (whole : length lines ≡ 64)
    (lines_are : (l w : ℕ) → l < 64 → w < 8 → word_in (get_or lines l zero_line) w ≡ current_in (aim_sizes aim) t (current s) page l w)
    (fixed : (l w : ℕ) → IsWord (aim_sizes aim) page l w → is_logged (log_in aim) page l w ≡ false → current_in (aim_sizes aim) t (current s) page l w ≡ home_of (aim_sizes aim) t (current s) page l w)
    (marked : worn ≡ false → (l : ℕ) → l < 64 → t.dirty page l ≡ false) where
  abbrev u : Data
  u = installed page k worn t

  abbrev next : State
  next = after_all (install_calls (aim_sizes aim) k page lines) s

  word_of : (l w : ℕ) → l < 64 → w < 8 → IsWord (aim_sizes aim) page l w
  word_of l w hl hw = record { page = in_store; line = hl; word = hw }

  not_page : (n : ℕ) → t.owner n ≡ Some page → ⊥
  not_page n at = none_some (sym homeless ∙ it.frame n page at)

  not_frame : (p : ℕ) → t.frame p ≡ Some k → ⊥
  not_frame p at = none_some (sym empty ∙ it.owner p k at)

  can_install : CanInstall aim.format s k page lines
  can_install = record {
    can = can t aim s it;
    in_store = subst (λ (g : Sizes). page < pages g) (sym (super_sizes t aim s it)) in_store;
    frame = subst (λ (g : Sizes). k ≤ g.frames) (sym (super_sizes t aim s it)) in_table;
    empty = it.entries_same k in_table ∙ ap entry_of empty;
    unnamed = λ n h named. none_some (sym homeless ∙ entry_frame t aim s it n page (subst (λ (g : Sizes). n ≤ g.frames) (super_sizes t aim s it) h) named);
    whole = whole;
    homes = λ i left l w hl hw unlogged.
        let not : is_logged (log_in aim) page l w ≡ false = sym (ap (λ (x : Log). is_logged x page l w) (log_now t aim s it i left)) ∙ unlogged in
        lines_are l w hl hw ∙ fixed l w (word_of l w hl hw) not ∙ sym (home_fixed t aim s it i left page l w (word_of l w hl hw) not);
  }

  placed : Placed (aim_sizes aim) s next k (page + 1) page (λ l w. word_in (get_or lines l zero_line) w)
  placed = install_placed (keeping t aim) s it.facts refl k page lines can_install

  done : StoreFacts (keeping u aim) next
  done = install_done (keeping t aim) s it.facts refl k page lines can_install

  owner_here : (n : ℕ) → n ≡ k → u.owner n ≡ Some page
  owner_here n same = changed-same k (Some page) t.owner n same

  owner_other : (n : ℕ) → n ≢ k → u.owner n ≡ t.owner n
  owner_other n other = changed-other k (Some page) t.owner n other

  frame_here : (p : ℕ) → p ≡ page → u.frame p ≡ Some k
  frame_here p same = changed-same page (Some k) t.frame p same

  frame_other : (p : ℕ) → p ≢ page → u.frame p ≡ t.frame p
  frame_other p other = changed-other page (Some k) t.frame p other

  owned_now : (n p : ℕ) → u.owner n ≡ Some p → ((n ≡ k) × (p ≡ page)) ⊎ ((n ≢ k) × (p ≢ page) × (t.owner n ≡ Some p))
  owned_now n p at = elim (cases_eq n k) [
    | inl same ↦ inl (same, some_same (sym at ∙ owner_here n same))
    | inr other ↦ (let was : t.owner n ≡ Some p = sym (owner_other n other) ∙ at in inr (other, (λ same. not_page n (was ∙ ap (λ (m : ℕ). Some m) same)), was))
  ]

  framed_now : (p n : ℕ) → u.frame p ≡ Some n → ((p ≡ page) × (n ≡ k)) ⊎ ((p ≢ page) × (n ≢ k) × (t.frame p ≡ Some n))
  framed_now p n at = elim (cases_eq p page) [
    | inl same ↦ inl (same, some_same (sym at ∙ frame_here p same))
    | inr other ↦ (let was : t.frame p ≡ Some n = sym (frame_other p other) ∙ at in inr (other, (λ same. not_frame p (was ∙ ap (λ (m : ℕ). Some m) same)), was))
  ]

  framed_low : (p n : ℕ) → u.frame p ≡ Some n → n ≤ (aim_sizes aim).frames
  framed_low p n at = elim (framed_now p n at) [ inl both ↦ subst (λ m. m ≤ (aim_sizes aim).frames) (sym both.1) in_table | inr was ↦ it.framed p n was.2 ]

  owner_of : (p n : ℕ) → u.frame p ≡ Some n → u.owner n ≡ Some p
  owner_of p n at = elim (framed_now p n at) [
    | inl both ↦ owner_here n both.1 ∙ ap (λ (m : ℕ). Some m) (sym both.0)
    | inr was ↦ owner_other n was.1 ∙ it.owner p n was.2
  ]

  frame_of_owner : (n p : ℕ) → u.owner n ≡ Some p → u.frame p ≡ Some n
  frame_of_owner n p at = elim (owned_now n p at) [
    | inl both ↦ frame_here p both.1 ∙ ap (λ (m : ℕ). Some m) (sym both.0)
    | inr was ↦ frame_other p was.1 ∙ it.frame n p was.2
  ]

  entries_now : (n : ℕ) → n ≤ (aim_sizes aim).frames → entry_at (current next) n ≡ entry_of (u.owner n)
  entries_now n h = elim (cases_eq n k) [
    | inl same ↦ ap (entry_at (current next)) same ∙ placed.here ∙ sym (ap entry_of (owner_here n same))
    | inr other ↦ placed.others n h other ∙ it.entries_same n h ∙ ap entry_of (sym (owner_other n other))
  ]

  placed_next : IsPlaced (aim_sizes aim) u (current next)
  placed_next = record { sizes = ap (λ (x : Super). x.sizes) (placed.super_words ∙ it.super_words); entries = entries_now; framed = framed_low; owner = owner_of; frame = frame_of_owner }

  -- the page's home is its lines, and the others are as they were
  home_here : (l w : ℕ) → l < 64 → w < 8 → home_of (aim_sizes aim) u (current next) page l w ≡ current_in (aim_sizes aim) t (current s) page l w
  home_here l w hl hw = sym (home_placed (aim_sizes aim) u (current next) placed_next page l w) ∙ placed.page_words l w (word_of l w hl hw) ∙ lines_are l w hl hw

  home_other : (p l w : ℕ) → p ≢ page → IsWord (aim_sizes aim) p l w → home_of (aim_sizes aim) u (current next) p l w ≡ home_of (aim_sizes aim) t (current s) p l w
  home_other p l w other word = sym (home_placed (aim_sizes aim) u (current next) placed_next p l w) ∙ placed.other_pages p l w other word ∙ home_now t aim s it p l w

  words_now : (p l w : ℕ) → IsWord (aim_sizes aim) p l w → current_in (aim_sizes aim) u (current next) p l w ≡ aim.words p l w
  words_now p l w word = elim (cases_eq p page) [
    | inr other ↦ ap (or_home (t.copy p l) w) (home_other p l w other word) ∙ it.words p l w word
    | inl same ↦ ap (λ q. current_in (aim_sizes aim) u (current next) q l w) same ∙ ap (or_home (t.copy page l) w) (home_here l w word.line word.word) ∙ twice (t.copy page l)
        ∙ ap (λ q. current_in (aim_sizes aim) t (current s) q l w) (sym same) ∙ it.words p l w word
  ]
    where
      twice : (c : Option Line) → or_home c w (or_home c w (home_of (aim_sizes aim) t (current s) page l w)) ≡ or_home c w (home_of (aim_sizes aim) t (current s) page l w)
      twice None = refl
      twice (Some x) = refl

  clean_now : (p l w : ℕ) (x : Line) → IsWord (aim_sizes aim) p l w → t.copy p l ≡ Some x → u.dirty p l ≡ false → word_in x w ≡ home_of (aim_sizes aim) u (current next) p l w
  clean_now p l w x word at not = elim (cases_eq p page) [
    | inr other ↦ it.clean p l w x word at (sym (cond-false (eqb p page) false (t.dirty p l) (ne_eqb p page other)) ∙ not) ∙ sym (home_other p l w other word)
    | inl same ↦ sym (ap (λ (c : Option Line). or_home c w (home_of (aim_sizes aim) t (current s) page l w)) (ap (λ q. t.copy q l) (sym same) ∙ at))
        ∙ sym (home_here l w word.line word.word) ∙ ap (λ q. home_of (aim_sizes aim) u (current next) q l w) (sym same)
  ]

  was_dirty : (p l : ℕ) → u.dirty p l ≡ true → t.dirty p l ≡ true
  was_dirty p l dirty = elim (cases_eq p page) [
    | inl same ↦ clash dirty (cond-true (eqb p page) false (t.dirty p l) (eq-eqb p page same))
    | inr other ↦ sym (cond-false (eqb p page) false (t.dirty p l) (ne_eqb p page other)) ∙ dirty
  ]

  -- what the calls leave alone
  abbrev filled : State
  filled = after_all (frame_calls (aim_sizes aim) k 0 lines ++ fence ∷ []) s

  next_is : next ≡ after_all (entry_calls k (page + 1)) filled
  next_is = after_all_append (frame_calls (aim_sizes aim) k 0 lines ++ fence ∷ []) (entry_calls k (page + 1)) s

  first : Untouched (frame_stores (aim_sizes aim) k) no_write s filled
  first = calls_untouched (frame_stores (aim_sizes aim) k) no_write (frame_calls (aim_sizes aim) k 0 lines ++ fence ∷ []) s (frame_within (aim_sizes aim) k 0 lines (frame_fits aim.format s k page lines can_install))

  second : Untouched (gate_stores (Gate.frame k) (page + 1)) no_write filled (after_all (entry_calls k (page + 1)) filled)
  second = calls_untouched (gate_stores (Gate.frame k) (page + 1)) no_write (entry_calls k (page + 1)) filled ((refl, refl, refl), (tt, (tt, tt)))

  newest_kept : (l w : ℕ) → l ≢ entry_line k → ((m : ℕ) → m < 64 → l ≢ frame_line (aim_sizes aim) k m) → (next.nvm l w).newest ≡ (s.nvm l w).newest
  newest_kept l w entry frame = ap (λ (x : State). (x.nvm l w).newest) next_is ∙ second.newest l w (λ v st. entry st.0) ∙ first.newest l w (λ v st. frame st.0 st.1 st.2)

  flush_kept : (l w : ℕ) → l ≢ entry_line k → ((m : ℕ) → m < 64 → l ≢ frame_line (aim_sizes aim) k m) → (s.nvm l w).kept ≡ 0 → (next.nvm l w).kept ≡ 0
  flush_kept l w entry frame was = ap (λ (x : State). (x.nvm l w).kept) next_is ∙ second.flushed l w (λ v st. entry st.0) (first.flushed l w (λ v st. frame st.0 st.1 st.2) was)

  block_kept : (n : ℕ) → (next.ssd n).bytes ≡ (s.ssd n).bytes
  block_kept n = ap (λ (x : State). (x.ssd n).bytes) next_is ∙ second.bytes n (λ none. none) ∙ first.bytes n (λ none. none)

  settled_kept : (n : ℕ) → IsTrue (s.ssd n).settled → IsTrue (next.ssd n).settled
  settled_kept n was = subst (λ (x : State). IsTrue (x.ssd n).settled) (sym next_is) (second.settled n (λ none. none) (first.settled n (λ none. none) was))

  ring_entry : (o : ℕ) → ring_line (aim_sizes aim) o ≢ entry_line k
  ring_entry o at = omega arith

  ring_frame : (o m : ℕ) → m < 64 → ring_line (aim_sizes aim) o ≢ frame_line (aim_sizes aim) k m
  ring_frame o m low at = let some : 0 < (aim_sizes aim).log_blocks = positive t aim s it in omega arith

  -- all homes are flushed
  flushed_next : HomesFlushed (keeping t aim) next
  flushed_next = subst (λ (x : State). HomesFlushed (keeping t aim) x) (sym (installed_is (keeping t aim) s it.facts refl k page lines can_install))
      (name_flushed (keeping t aim) full_now k page named (λ l w hl hw. ap (λ (x : Word). x.kept) (frame_made_now (keeping t aim) s it.facts refl k page lines can_install l w (word_of l w hl hw)))
      (name_placed (keeping t aim) full_now (full_facts (keeping t aim) s it.facts refl k page lines can_install) refl k page named).others
      (quiet_flushed (keeping t aim) s it.facts (frame_stores g k) no_write (frame_quiet (keeping t aim) s it.facts refl k page lines can_install) (frame_calls g k 0 lines ++ fence ∷ [])
      (frame_within g k 0 lines (frame_fits aim.format s k page lines can_install)) (homes_flushed t aim s it)))
    where
      g : Sizes
      g = (super_of (current s)).sizes

      full_now : State
      full_now = full (keeping t aim) s it.facts refl k page lines can_install

      named : CanName (keeping t aim) full_now k page
      named = can_name (keeping t aim) s it.facts refl k page lines can_install

  unworn_now : (n p : ℕ) → u.owner n ≡ Some p → u.worn n ≡ false → IsWritten (aim_sizes aim) p n next
  unworn_now n p at not = elim (owned_now n p at) [
    | inl both ↦
        (let clean : (l : ℕ) → l < 64 → t.dirty page l ≡ false = marked (sym (changed-same k worn t.worn n both.0) ∙ not) in
        subst (λ q. IsWritten (aim_sizes aim) q n next) (sym both.1) (subst (λ m. IsWritten (aim_sizes aim) page m next) (sym both.0) (record {
          settled = settled_kept (page_block (aim_sizes aim) page) (it.settled page in_store homeless);
          words = λ l w hl hw. ap (λ bytes. block_word bytes l w) (block_kept (page_block (aim_sizes aim) page))
              ∙ sym (ap (λ (f : Option ℕ). home_in (aim_sizes aim) (current s) f page l w) homeless)
              ∙ sym (current_clean t aim s it page l w (word_of l w hl hw) (clean l hl)) ∙ sym (home_here l w hl hw)
              ∙ ap (λ (f : Option ℕ). home_in (aim_sizes aim) (current next) f page l w) (frame_here page refl);
        })))
    | inr was ↦
        (let before : IsWritten (aim_sizes aim) p n s = it.unworn n p was.2 (sym (changed-other k worn t.worn n was.0) ∙ not) in record {
          settled = settled_kept (page_block (aim_sizes aim) p) before.settled;
          words = λ l w hl hw. ap (λ bytes. block_word bytes l w) (block_kept (page_block (aim_sizes aim) p)) ∙ before.words l w hl hw
              ∙ sym (newest_kept (frame_line (aim_sizes aim) n l) w (λ e. let low : k ≤ (aim_sizes aim).frames = in_table in omega arith) (λ m low e. was.0 (frame_apart (aim_sizes aim) n k l m hl low e).0));
        })
  ]

  install_steps : Steps Held (Facts u) (install_calls (aim_sizes aim) k page lines) aim s
  install_steps = record {
    facts = record {
      super_words = placed.super_words ∙ it.super_words;
      log_same = placed.log ∙ it.log_same;
      sizes_same = it.sizes_same;
      facts = done;
      entries_same = entries_now;
      owned = λ n p at. elim (owned_now n p at) [ inl both ↦ subst (λ q. q < pages (aim_sizes aim)) (sym both.1) in_store | inr was ↦ it.owned n p was.2 ];
      framed = framed_low;
      owner = owner_of;
      frame = frame_of_owner;
      words = words_now;
      loose = λ p l hp hl dirty. it.loose p l hp hl (was_dirty p l dirty);
      recorded = it.recorded;
      clean = clean_now;
      flushed = λ n p l w at hl hw. frame_flushed u (keeping t aim) next placed_next flushed_next n p l w at hl hw;
      settled = λ p hp at. block_settled u (keeping t aim) next placed_next flushed_next p hp at;
      unworn = unworn_now;
      waits = λ n w less hw. record {
        newest = newest_kept (ring_line (aim_sizes aim) (aim.super.tail + n)) w (ring_entry (aim.super.tail + n)) (ring_frame (aim.super.tail + n)) ∙ (it.waits n w less hw).newest;
        kept = flush_kept (ring_line (aim_sizes aim) (aim.super.tail + n)) w (ring_entry (aim.super.tail + n)) (ring_frame (aim.super.tail + n)) (it.waits n w less hw).kept;
      };
    };
    moments = λ mid amid. record {
      keeps = changing_to (keeping t aim) (Gate.frame k) 0 (page + 1) (λ n. aim.kept);
      format_is = refl;
      sizes = refl;
      committed = refl;
      facts = install_facts (keeping t aim) s it.facts refl k page lines can_install mid amid;
    };
  }

-- Where no record waits a page is installed with its current lines; the frame is worn where a line of the copy was dirty.
pub installs : (t : Data) (page k : ℕ) (lines : List Line) (worn : Bool) → MayInstall t page k → (worn ≡ false → IsClean t page)
    → (aim : Aim) (s : State) → AreCurrent t (current s) page lines → Hard t aim s → Steps Held (Hard (installed page k worn t)) (install_calls t.sizes k page lines) aim s
installs t page k lines worn may marked aim s are it =
    let same : t.sizes ≡ aim_sizes aim = it.holds.sizes_same in
    let steps = install_steps t aim s it.holds k page lines worn (subst (λ (g : Sizes). page < pages g) same may.in_store) (subst (λ (g : Sizes). k ≤ g.frames) same may.in_table) may.homeless may.empty are.whole
    (λ l w hl hw. are.words l w hl hw ∙ ap (λ (g : Sizes). current_in g t (current s) page l w) same)
    (λ l w word not. current_hard t aim s it.holds it.of_aim page l w word not)
    (λ not l low. (marked not).lines l low) in
    subst (λ (g : Sizes). Steps Held (Hard (installed page k worn t)) (install_calls g k page lines) aim s) (sym same)
    (record { facts = record { of_aim = it.of_aim; holds = steps.facts }; moments = steps.moments })

-- A page with no dirty line is installed, whatever waits.
pub installs_clean : (t : Data) (page k : ℕ) (lines : List Line) (worn : Bool) → MayInstall t page k → IsClean t page
    → (aim : Aim) (s : State) → AreCurrent t (current s) page lines → Facts t aim s → Steps Held (Facts (installed page k worn t)) (install_calls t.sizes k page lines) aim s
installs_clean t page k lines worn may clean aim s are it =
    let same : t.sizes ≡ aim_sizes aim = it.sizes_same in
    subst (λ (g : Sizes). Steps Held (Facts (installed page k worn t)) (install_calls g k page lines) aim s) (sym same)
    (install_steps t aim s it k page lines worn (subst (λ (g : Sizes). page < pages g) same may.in_store) (subst (λ (g : Sizes). k ≤ g.frames) same may.in_table) may.homeless may.empty are.whole
    (λ l w hl hw. are.words l w hl hw ∙ ap (λ (g : Sizes). current_in g t (current s) page l w) same)
    (λ l w word not. current_clean t aim s it page l w word (clean.lines l word.line))
    (λ not l low. clean.lines l low))
