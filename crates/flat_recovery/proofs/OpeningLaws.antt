-- What an opening answers and leaves, by what its parts do.
use Rattle.std.proofs.Common.{◌≡◌, ◌≢◌, ℕ, ◌<◌, ◌≤◌, refl, sym, ap, ◌∙◌, subst, inl, inr, slice_index, IsTrue, Option, Some, None, Result, Ok, Err}
use Rattle.std.proofs.lemmas.Bool.{cases_lt}
use Rattle.std.specs.Prelude.{IfErr, OnOk}
use Rattle.devices.specs.State.{State, Image, after_all, current, fresh}
use Rattle.devices.specs.World.{Standing, Goes, Stays, Moments, MakesAll, now}
use Rattle.devices.proofs.MomentLaws.{Goes-on, Moments-trans, Moments-map}
use Rattle.devices.proofs.JoinLaws.{Stays-now, Stays-trans}
use Rattle.line_pages.specs.declared.line_set.LineSet.{LineSet}
use Rattle.flat_nvm_log.specs.declared.log.Log.{Log}
use Rattle.flat_nvm_layout.specs.Gates.{gates_of}
use Rattle.flat_nvm_layout.specs.Opening.{finding, super_from, sizes_from, words_of, IsOpen, Answers as SuperAnswers}
use Rattle.flat_nvm_layout.specs.Sizes.{sizes_of}
use Rattle.flat_nvm_layout.specs.declared.errors.SuperError.{SuperError}
use Rattle.flat_nvm_layout.specs.declared.errors.SuperError.TheVariants as super_error
use Rattle.flat_nvm_layout.specs.declared.superblock.Super.{Super as Gates}
use Rattle.flat_store_meaning.specs.Layout.{Sizes, nvm_lines, ssd_blocks}
use Rattle.flat_store_meaning.specs.Format.{magic, LogFault}
use Rattle.flat_store_meaning.specs.Format.Format.{whole_lines}
use Rattle.flat_store_meaning.specs.Recovered.{Super, super_of, super_check, log_of, log_lines, log_line, image_log_check, IsStore}
use Rattle.flat_store_meaning.specs.InOrder.{Stands}
use Rattle.flat_store_meaning.proofs.CheckLaws.{checks_from}
use Rattle.flat_store_meaning.proofs.AtEndLaws.{OnOk_map}
use Rattle.flat_store_meaning.proofs.FactsLaws.{current_leaves}
use Rattle.flat_store_meaning.proofs.FreshLaws.{fresh_stands}
use Rattle.flat_store_laws.specs.OpenFacts.{OpenFacts, super_with}
use Rattle.flat_store_laws.specs.ShownPages.{pages_in, committed_in}
use Rattle.flat_store_laws.specs.Steps.{KeepsOpen}
use Rattle.flat_store_laws.proofs.StepLaws.{read_open, read_current, read_committed}
use Rattle.flat_store_laws.proofs.AsReadLaws.{current_as, after_as, fresh_as}
use Rattle.flat_recovery.specs.Calls.{recover_calls}
use Rattle.flat_recovery.specs.Errors.{open_error}
use Rattle.flat_recovery.specs.Heads.{IsLogEvidence, IsFoundFault, KeepsEvidence}
use Rattle.flat_recovery.specs.Recovering.{LeavesStores, HoldsFacts}
use Rattle.flat_recovery.specs.Opening.{Answers, IsAnswer, IsFound, KeepsStore, Recovered, ReopensLog}
use Rattle.flat_recovery.specs.declared.opening.Parts.{Parts}
use Rattle.flat_recovery.specs.declared.errors.OpenError.{OpenError}
use Rattle.flat_recovery.specs.declared.errors.OpenError.TheVariants.{Nvm, Ssd, NotAStore, TooSmall, LogEnded, Damaged, NoMemory}
use Rattle.flat_recovery.proofs.ReadingLaws.{checked_of_store}
use Rattle.flat_recovery.proofs.ReplayLaws.{LogOfStore}
use Rattle.flat_recovery.proofs.ReplayingLaws.{told_then}
use Rattle.flat_recovery.proofs.SettledLaws.{recover_settled, settled_open}
use Rattle.flat_recovery.proofs.RecoverLaws.{recover_step, recover_moment, recover_facts, stands_leave, stands_hold}

-- Where no device changes, what recovery gives stays.
pub keeps_still : (a b : Standing) → Goes a b → Stays a b → IsTrue a.told → KeepsStore a b
keeps_still a b goes stays told = record {
  committed = ap committed_in (Stays-now (Goes-on goes) stays told);
  during = λ stands.
      Moments-map (λ s same. subst (λ (x : State). LeavesStores (super_of (current (now a))).sizes (committed_in (now a)) x) (sym same) (stands_leave a.lines a.blocks (now a) stands)) (stays told);
  facts = λ stands.
      Moments-map (λ s same. subst (λ (x : State). HoldsFacts (super_of (current (now a))).sizes (committed_in (now a)) x) (sym same) (stands_hold a.lines a.blocks (now a) stands)) (stays told);
}

-- and before a part that keeps it
pub keeps_then : (a b d : Standing) → Goes a b → Goes b d → Stays a b → IsTrue a.told → KeepsStore b d → KeepsStore a d
keeps_then a b d goes goes_d stays told keeps =
    let same : now b ≡ now a = Stays-now (Goes-on goes) stays told in
    record {
      committed = keeps.committed ∙ ap committed_in same;
      during = λ stands.
          Moments-trans goes_d ((keeps_still a b goes stays told).during stands)
          (subst (λ (x : State). Moments b d (LeavesStores (super_of (current x)).sizes (committed_in x))) same (keeps.during (stands_then stands same)));
      facts = λ stands.
          Moments-trans goes_d ((keeps_still a b goes stays told).facts stands)
          (subst (λ (x : State). Moments b d (HoldsFacts (super_of (current x)).sizes (committed_in x))) same (keeps.facts (stands_then stands same)));
    }
  where
    stands_then : Stands whole_lines a.lines a.blocks (now a) → now b ≡ now a → Stands whole_lines b.lines b.blocks (now b)
    stands_then stands same =
        subst (λ (x : State). Stands whole_lines b.lines b.blocks x) (sym same)
        (subst (λ n. Stands whole_lines b.lines n (now a)) (sym goes.blocks) (subst (λ n. Stands whole_lines n a.blocks (now a)) (sym goes.lines) stands))

-- A recovery whose superblock is read and passes its checks, and in whose log no check fails.
module _ (gates : Gates) (a b : Standing) (goes : Goes a b) (told : IsTrue a.told) (is : super_of (current (now a)) ≡ gates_of gates) (sound_gates : IsOpen a.lines a.blocks gates)
    (none : image_log_check whole_lines (current (now a)) ≡ None) where
  abbrev i : Image
  i = current (now a)

  abbrev g : Sizes
  g = (super_of (current (now a))).sizes

  abbrev tail : ℕ
  tail = (super_of (current (now a))).tail

  sizes_are : (super_of (current (now a))).sizes ≡ sizes_of gates.geometry
  sizes_are = ap (λ (x : Super). x.sizes) is

  of_store : LogOfStore g (log_of whole_lines i)
  of_store = checked_of_store g (super_of (current (now a))).start (log_lines i) none

  store : IsStore whole_lines i
  store = record { magic_word = ap (λ (x : Super). x.magic_word) is; checks = checks_from whole_lines i (ap super_check is ∙ sound_gates.checks) none }

  seen_stands : Stands whole_lines a.lines a.blocks (fresh i)
  seen_stands = fresh_stands whole_lines a.lines a.blocks i store (subst (λ (x : Sizes). nvm_lines x ≤ a.lines) (sym sizes_are) sound_gates.nvm) (subst (λ (x : Sizes). ssd_blocks x ≤ a.blocks) (sym sizes_are) sound_gates.ssd)

  super_is : super_of i ≡ super_with g (super_of (current (now a))).start tail
  super_is = by_parts (super_of (current (now a))) (ap (λ (x : Super). x.magic_word) is) (ap (λ (x : Super). x.drained) is ∙ sym (ap (λ (x : Super). x.start) is))
    where
      by_parts : (x : Super) → x.magic_word ≡ magic whole_lines → x.drained ≡ x.start → x ≡ super_with x.sizes x.start x.tail
      by_parts x e f = let whole : record { magic_word = x.magic_word; sizes = x.sizes; start = x.start; drained = x.drained; tail = x.tail } ≡ super_with x.sizes x.start x.tail = cc in whole

  seen_step : KeepsOpen g tail tail (λ lines. committed_in (fresh i)) (recover_calls g (log_of whole_lines i) tail) (fresh i)
  seen_step = recover_step g (super_of (current (now a))).start tail a.lines a.blocks (fresh i) seen_stands super_is of_store

  -- what the calls leave of the devices, whatever stood behind what one reads
  made_open : OpenFacts g tail tail (after_all (recover_calls g (log_of whole_lines i) tail) (now a))
  made_open =
      let made : State = after_all (recover_calls g (log_of whole_lines i) tail) (now a) in
      let seen : State = after_all (recover_calls g (log_of whole_lines i) tail) (fresh i) in
      let same : current made ≡ current seen = current_as made seen (after_as (recover_calls g (log_of whole_lines i) tail) (now a) (fresh i) (fresh_as (now a))) in
      let facts : OpenFacts g tail tail seen = (seen_step.leads).facts in
      settled_open g tail made (recover_settled g (log_of whole_lines i) of_store tail (now a))
      (ap super_of same ∙ facts.super_words)
      (subst (λ (x : Image). IsStore whole_lines x) (sym same) ((facts.facts).stores (current seen) (current_leaves seen)))

  module _ {T : Type 0} (r : Result T OpenError) (makes : MakesAll (recover_calls (super_of (current (now a))).sizes (log_of whole_lines (current (now a))) (super_of (current (now a))).tail) a b r) where
    pub open_keeps : KeepsStore a b
    open_keeps = record {
      committed = read_committed (recover_calls g (log_of whole_lines i) tail) a b r goes makes told seen_step.leads;
      during = λ stands. Moments-map (λ s amid. recover_moment g (super_of (current (now a))).start tail a.lines a.blocks (now a) stands super_is of_store s amid) (makes.part told);
      facts = λ stands. Moments-map (λ s amid. recover_facts g (super_of (current (now a))).start tail a.lines a.blocks (now a) stands super_is of_store s amid) (makes.part told);
    }

    pub open_read : OnOk r (OpenFacts g tail tail (fresh (current (now b))))
    open_read = read_open (recover_calls g (log_of whole_lines i) tail) a b r goes makes told g tail tail seen_step

    pub open_current : OnOk r (pages_in g (now b) ≡ committed_in (now a))
    open_current = read_current (recover_calls g (log_of whole_lines i) tail) a b r goes makes told g tail tail seen_step

    pub open_steady : OnOk r (OpenFacts g tail tail (now b))
    open_steady = OnOk_map r (λ (done : now b ≡ after_all (recover_calls g (log_of whole_lines i) tail) (now a)). subst (λ (s : State). OpenFacts g tail tail s) (sym done) made_open) (makes.whole told)

-- The superblock is read at one moment, and its log recovered from the next one on.
module _ (gates : Gates) (a b d : Standing) (goes : Goes a b) (stays : Stays a b) (goes_d : Goes b d) (told : IsTrue a.told) (is : super_of (current (now a)) ≡ gates_of gates)
    (sound_gates : IsOpen a.lines a.blocks gates) where
  same_now : now b ≡ now a
  same_now = Stays-now (Goes-on goes) stays told

  told_b : IsTrue b.told
  told_b = told_then goes told

  is_b : super_of (current (now b)) ≡ gates_of gates
  is_b = ap (λ (x : State). super_of (current x)) same_now ∙ is

  sound_b : IsOpen b.lines b.blocks gates
  sound_b = subst (λ n. IsOpen b.lines n gates) (sym goes.blocks) (subst (λ n. IsOpen n a.blocks gates) (sym goes.lines) sound_gates)

  -- whatever is answered, recovery gives what it gave before
  pub reopened_keeps : {T : Type 0} (r : Result T OpenError) → ReopensLog gates b d r → KeepsStore a d
  reopened_keeps r reopens = keeps_then a b d goes goes_d stays told (by_check (image_log_check whole_lines (current (now b))) refl)
    where
      by_check : (found : Option LogFault) → image_log_check whole_lines (current (now b)) ≡ found → KeepsStore b d
      by_check None none = open_keeps gates b d goes_d told_b is_b sound_b none r (reopens.writes told_b is_b none).makes
      by_check (Some fault) some = keeps_still b d goes_d (reopens.refused told_b is_b fault some) told_b

  -- a refusal that is none of a fault changed nothing
  pub reopened_nothing : {T U : Type 0} (why : OpenError) (r : Result T OpenError) → r ≡ Err why → ReopensLog {T = U} gates b d (Err why) → IfErr r (λ why. why ≢ Nvm → Stays a d)
  reopened_nothing {T} why r e reopens =
      subst (λ (x : Result T OpenError). IfErr x (λ why. why ≢ Nvm → Stays a d)) (sym e) (λ other. Stays-trans (Goes-on goes) (Goes-on goes_d) stays (reopens.nothing told_b is_b other))

  -- what is recovered
  pub reopened_parts : (log : Log) (loose : LineSet) → ReopensLog {T = Log} gates b d (Ok log) → log.start ≡ gates.tail → log.tail ≡ gates.tail
      → Recovered (record { log = log; loose = loose; geometry = gates.geometry }) a d
  reopened_parts log loose reopens start tail_is =
      let none : image_log_check whole_lines (current (now b)) ≡ None = reopens.finds told_b is_b in
      let made = (reopens.writes told_b is_b none).makes in
      let sizes_is : (super_of (current (now b))).sizes ≡ sizes_of gates.geometry = ap (λ (x : Super). x.sizes) is_b in
      let tail_b : (super_of (current (now b))).tail ≡ gates.tail = ap (λ (x : Super). x.tail) is_b in
      let as_parts : (s : State) → OpenFacts (super_of (current (now b))).sizes (super_of (current (now b))).tail (super_of (current (now b))).tail s → OpenFacts (sizes_of gates.geometry) log.start log.tail s =
      (λ s facts. subst (λ n. OpenFacts (sizes_of gates.geometry) log.start n s) (tail_b ∙ sym tail_is) (subst (λ n. OpenFacts (sizes_of gates.geometry) n (super_of (current (now b))).tail s) (tail_b ∙ sym start)
      (subst (λ (x : Sizes). OpenFacts x (super_of (current (now b))).tail (super_of (current (now b))).tail s) sizes_is facts))) in
      record {
        sizes = sym (ap (λ (x : Super). x.sizes) is);
        tail = tail_is ∙ sym (ap (λ (x : Super). x.tail) is);
        read = as_parts (fresh (current (now d))) (open_read gates b d goes_d told_b is_b sound_b none {T = Log} (Ok log) made);
        steady = as_parts (now d) (open_steady gates b d goes_d told_b is_b sound_b none {T = Log} (Ok log) made);
        current = ap (λ (x : Sizes). pages_in x (now d)) (sym sizes_is) ∙ open_current gates b d goes_d told_b is_b sound_b none {T = Log} (Ok log) made ∙ ap committed_in same_now;
      }

  -- what is found of the log
  pub found_done : {T : Type 0} (done : T) → ReopensLog gates b d (Ok done) → image_log_check whole_lines (current (now a)) ≡ None
  found_done {T} done reopens = ap (λ (x : State). image_log_check whole_lines (current x)) (sym same_now) ∙ reopens.finds told_b is_b

  pub found_fault : {T : Type 0} (why : OpenError) (r : Result Parts OpenError) → r ≡ Err why → ReopensLog {T = T} gates b d (Err why) → IsFound (current (now a)) r
  found_fault why r e reopens =
      subst (λ (x : Result Parts OpenError). IsFound (current (now a)) x) (sym e) (by_why why (subst
      (λ (x : State). IsFoundFault (image_log_check whole_lines (current x)) (log_line (super_of (current x)).sizes (super_of (current x)).start (current x)) (super_of (current x)).tail why) same_now (reopens.finds told_b is_b)))
    where
      by_why : (why : OpenError) → IsFoundFault (image_log_check whole_lines (current (now a))) (log_line (super_of (current (now a))).sizes (super_of (current (now a))).start (current (now a))) (super_of (current (now a))).tail why
          → IsFound (current (now a)) (Err why)
      by_why (Damaged kept) first = inr first
      by_why Nvm first = tt
      by_why Ssd first = tt
      by_why NotAStore first = tt
      by_why TooSmall first = tt
      by_why LogEnded first = tt
      by_why NoMemory first = tt

-- What is found of the log where the superblock was not read: nothing, for damage is its own.
pub found_super : (a : Standing) (error : SuperError) (r : Result Parts OpenError) → r ≡ Err (open_error error)
    → (4 ≤ a.lines → ◌≢◌ {A = Result Gates SuperError} (Err error) (Err super_error.Nvm) → SuperAnswers a (Err error)) → (a.lines < 4 → ◌≡◌ {A = Result Gates SuperError} (Err error) (Err super_error.TooSmall))
    → IsFound (current (now a)) r
found_super a error r e answers small = subst (λ (x : Result Parts OpenError). IsFound (current (now a)) x) (sym e) (by_error error answers small)
  where
    by_error : (error : SuperError) → (4 ≤ a.lines → ◌≢◌ {A = Result Gates SuperError} (Err error) (Err super_error.Nvm) → SuperAnswers a (Err error))
        → (a.lines < 4 → ◌≡◌ {A = Result Gates SuperError} (Err error) (Err super_error.TooSmall)) → IsFound (current (now a)) (Err (open_error error))
    by_error super_error.Nvm answers small = tt
    by_error super_error.NotAStore answers small = tt
    by_error super_error.TooSmall answers small = tt
    by_error super_error.LogEnded answers small = tt
    by_error (super_error.Damaged kept) answers small = elim (cases_lt a.lines 4) [
      | inl few ↦ (let clash : ◌≡◌ {A = Result Gates SuperError} (Err (super_error.Damaged kept)) (Err super_error.TooSmall) = small few in absurd (cc))
      | inr some ↦ (let found : SuperAnswers a (Err (super_error.Damaged kept)) = answers some (λ same. absurd (cc)) in inl (record { words = found.words; check = (found.answer).check; keeps = (found.answer).keeps }))
    ]

-- Why an opening fails, by why the superblock was not read.
pub super_answers : (a : Standing) (error : SuperError) (r : Result Parts OpenError) → r ≡ Err (open_error error)
    → (4 ≤ a.lines → ◌≢◌ {A = Result Gates SuperError} (Err error) (Err super_error.Nvm) → SuperAnswers a (Err error)) → 4 ≤ a.lines → Answers a r
super_answers a error r e answers some = subst (λ (x : Result Parts OpenError). Answers a x) (sym e) (by_error error answers)
  where
    by_error : (error : SuperError) → (4 ≤ a.lines → ◌≢◌ {A = Result Gates SuperError} (Err error) (Err super_error.Nvm) → SuperAnswers a (Err error)) → Answers a (Err (open_error error))
    by_error super_error.Nvm answers = record { name = (current (now a)).nvm 0 0; words = words_of (current (now a)); held_name = λ told. refl; held = λ told. refl; answer = tt }
    by_error super_error.NotAStore answers = let found : SuperAnswers a (Err super_error.NotAStore) = answers some (λ same. absurd (cc)) in record { name = found.name; words = found.words; held_name = found.held_name; held = found.held; answer = found.answer }
    by_error super_error.TooSmall answers = let found : SuperAnswers a (Err super_error.TooSmall) = answers some (λ same. absurd (cc)) in record { name = found.name; words = found.words; held_name = found.held_name; held = found.held; answer = found.answer }
    by_error super_error.LogEnded answers = let found : SuperAnswers a (Err super_error.LogEnded) = answers some (λ same. absurd (cc)) in record { name = found.name; words = found.words; held_name = found.held_name; held = found.held; answer = found.answer }
    by_error (super_error.Damaged kept) answers = let found : SuperAnswers a (Err (super_error.Damaged kept)) = answers some (λ same. absurd (cc)) in record { name = found.name; words = found.words; held_name = found.held_name; held = found.held; answer = inl found.answer }

-- where it was read, memory or the log may fail
pub memory_answers : (a : Standing) (gates : Gates) (r : Result Parts OpenError) → r ≡ Err NoMemory → SuperAnswers a (Ok gates) → Answers a r
memory_answers a gates r e found =
    subst (λ (x : Result Parts OpenError). Answers a x) (sym e) (record { name = found.name; words = found.words; held_name = found.held_name; held = found.held; answer = (found.answer).0 })

pub log_answers : (a : Standing) (gates : Gates) (why : OpenError) (r : Result Parts OpenError) → r ≡ Err why → KeepsEvidence (sizes_of gates.geometry) gates.tail why → SuperAnswers a (Ok gates) → Answers a r
log_answers a gates why r e keeps found =
    subst (λ (x : Result Parts OpenError). Answers a x) (sym e) (record { name = found.name; words = found.words; held_name = found.held_name; held = found.held; answer = by_why why keeps })
  where
    sizes_is : sizes_of gates.geometry ≡ sizes_from found.words
    sizes_is = ap (λ (x : Super). x.sizes) (found.answer).1

    tail_is : gates.tail ≡ slice_index found.words 7
    tail_is = ap (λ (x : Super). x.tail) (found.answer).1

    by_why : (why : OpenError) → KeepsEvidence (sizes_of gates.geometry) gates.tail why → IsAnswer found.words (finding a.lines a.blocks (super_from found.name found.words)) (Err why)
    by_why (Damaged kept) keeps = inr ((found.answer).0, subst (λ (x : Sizes). IsLogEvidence x (slice_index found.words 7) kept) sizes_is (subst (λ n. IsLogEvidence (sizes_of gates.geometry) n kept) tail_is keeps))
    by_why Nvm keeps = tt
    by_why Ssd keeps = absurd keeps
    by_why NotAStore keeps = absurd keeps
    by_why TooSmall keeps = absurd keeps
    by_why LogEnded keeps = absurd keeps
    by_why NoMemory keeps = absurd keeps
