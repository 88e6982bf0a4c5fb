-- From a call of a store that leads from what holds to what holds to what the layers above see of it.
use Rattle.std.proofs.Common.{◌≡◌, ℕ, ◌&&◌, eqb, cond, refl, sym, ap, ◌∙◌, subst, inl, inr, Result, Ok, Err}
use Rattle.std.specs.Prelude.{OnOk}
use Rattle.nvm_model.specs.declared.line.Line.{Line}
use Rattle.devices.specs.State.{State, Image, Leaves, current, fresh}
use Rattle.devices.specs.World.{Standing, now}
use Rattle.devices.proofs.MomentLaws.{Moments-map}
use Rattle.line_pages.specs.declared.stop.Stop.{Stop}
use Rattle.store_model.specs.Layout.{Sizes, pages}
use Rattle.store_model.specs.Log.{Words}
use Rattle.store_model.specs.Format.{Format, word_in}
use Rattle.store_model.specs.Recovered.{lines_of, recovered, super_of}
use Rattle.store_model.specs.StoreFacts.{Bookkeeping, IsWord, StoreFacts}
use Rattle.store_model.specs.Copies.{with_line}
use Rattle.home_laws.proofs.FactsLaws.{facts_recover, current_leaves}
use Rattle.home_laws.proofs.RecoveredLaws.{lines_of-same}
use Rattle.device_calls.specs.Leads.{Leads}
use Rattle.device_calls.proofs.LeadsLaws.{leads_now, leads_read, leads_moments, leads_read_moments}
use Rattle.device_calls.proofs.ReadLaws.{current_as}
use Rattle.tier_facts.specs.Shown.{IsStoreOf}
use Rattle.tier_facts.proofs.ShownLaws.{current_now}
use Rattle.transaction_facts.specs.Books.{BookData, Goal, Holds, HoldsWith, HoldsCommitted, HeldGoal, HeldEnd, aim_of, goal_with, goal_committed}
use Rattle.transaction_facts.specs.Showing.{Showing, Committed, Either, lines_now}
use Rattle.transaction_facts.proofs.BookLaws.{holds_read}

-- the image of a store whose committed words in it are these
store_of : (b : Bookkeeping) (s : State) (kept : Words) → StoreFacts b s → (i : Image) → Leaves s i → b.committed (super_of i).tail ≡ kept → IsStoreOf b.format b.sizes kept i
store_of b s kept facts i left is =
    let same : (super_of i).sizes ≡ b.sizes = facts.sizes i left in
    record {
      store = facts.stores i left;
      sizes = same;
      pages_are = ap (λ (g : Sizes). lines_of (pages g) (recovered b.format i)) same
          ∙ lines_of-same (pages b.sizes) (recovered b.format i) kept (λ p l w hp hl hw.
          facts_recover b s facts i left p l w (record { page = hp; line = hl; word = hw }) ∙ ap (λ (c : Words). c p l w) is);
    }

store_is : {f g : Format} {x y : Sizes} {kept : Words} {i : Image} → f ≡ g → x ≡ y → IsStoreOf f x kept i → IsStoreOf g y kept i
store_is {f} {g} {x} {y} {kept} {i} format sizes it = subst (λ (h : Format). IsStoreOf h y kept i) format (subst (λ (z : Sizes). IsStoreOf f z kept i) sizes it)

pub goal_seen : (goal : Goal) (s : State) → HeldGoal goal s → (i : Image) → Leaves s i → Committed goal i
goal_seen goal s it i left = store_is it.format_is it.sizes (store_of it.keeps s goal.kept it.facts i left (ap (λ (c : ℕ → Words). c (super_of i).tail) it.committed))

pub end_seen : (goal : Goal) (s : State) → HeldEnd goal s → (i : Image) → Leaves s i → Either goal i
end_seen goal s it i left = elim (it.committed (super_of i).tail) [
  | inl old ↦ inl (store_is it.format_is it.sizes (store_of it.keeps s goal.kept it.facts i left old))
  | inr new ↦ inr (store_is it.format_is it.sizes (store_of it.keeps s goal.words it.facts i left new))
]

-- between two calls each image recovers to the committed lines
pub holds_seen : (b : BookData) (goal : Goal) (s : State) → Holds b goal s → (i : Image) → Leaves s i → Committed goal i
holds_seen b goal s it i left = store_of _ s goal.kept it.facts.facts i left refl

pub OnOk_map : {T E : Type 0} {P Q : Type 0} (r : Result T E) → (P → Q) → OnOk r P → OnOk r Q
OnOk_map (Ok v) f p = f p
OnOk_map (Err e) f p = tt

-- what is made of the words is made of equal ones
pub record Makes (changed : Words → Words) (later : Goal → Goal) : Type 0 where
  pub sizes : (goal : Goal) → (later goal).sizes ≡ goal.sizes
  pub words : (goal : Goal) (words : Words) → ((p l w : ℕ) → IsWord goal.sizes p l w → words p l w ≡ goal.words p l w) → (p l w : ℕ) → IsWord goal.sizes p l w → (later goal).words p l w ≡ changed words p l w

-- the current lines are those of the goal
pub lines_goal : (b : BookData) (d : Standing) (goal : Goal) → Holds b goal (fresh (current (now d))) → (p l w : ℕ) → IsWord b.tiers.sizes p l w → lines_now b d p l w ≡ goal.words p l w
lines_goal b d goal it = current_now b.tiers (aim_of b goal it.lines it.behind it.pending) (fresh (current (now d))) it.facts

module _ {T : Type 0} (Above : Goal → State → Type 0) (Seen : Goal → Image → Type 0) (see : (goal : Goal) (s : State) → Above goal s → (i : Image) → Leaves s i → Seen goal i)
    (changed : Words → Words) (later : Goal → Goal) (makes : Makes changed later) {old new : BookData} {a b : Standing} {r : Result T Stop}
    (call : Leads Above (Holds old) (λ (goal : Goal). Holds new (later goal)) a b r) where
  pub showing_by : Showing Seen changed later old a new b r
  showing_by = record {
    goes = call.goes;
    cause = call.cause;
    read = λ told goal before. leads_read call told goal (λ s it. holds_read new (later goal) s it) before;
    lines = λ told goal before. OnOk_map r (λ (then : Holds new (later goal) (fresh (current (now b)))). record {
      each = λ p l w word.
          let of_goal : IsWord goal.sizes p l w = subst (λ (g : Sizes). IsWord g p l w) (then.facts.sizes_same ∙ makes.sizes goal) word in
          lines_goal new b (later goal) then p l w word
          ∙ makes.words goal (lines_now old a) (λ p l w it. lines_goal old a goal before p l w (subst (λ (g : Sizes). IsWord g p l w) (sym before.facts.sizes_same) it)) p l w of_goal;
    }) (leads_read call told goal (λ s it. holds_read new (later goal) s it) before);
    read_seen = λ told goal before. Moments-map (λ mid like. subst (λ (i : Image). Seen goal i) (sym (current_as mid like.0 like.1)) (see goal like.0 like.2 (current like.0) (current_leaves like.0))) (leads_read_moments call told goal before);
    steady = λ told goal before. leads_now call told goal before;
    seen = λ told goal before. Moments-map (see goal) (leads_moments call told goal before);
  }

-- a call that changes no current line and commits none
pub shows_same : {T : Type 0} {old new : BookData} {a b : Standing} {r : Result T Stop} → Leads HeldGoal (Holds old) (Holds new) a b r → Showing Committed (λ words. words) (λ goal. goal) old a new b r
shows_same call = showing_by HeldGoal Committed goal_seen (λ words. words) (λ goal. goal) (record { sizes = λ goal. refl; words = λ goal words same p l w word. sym (same p l w word) }) call

-- a line that is written
pub shows_write : {T : Type 0} {old new : BookData} {a b : Standing} {r : Result T Stop} (page line : ℕ) (value : Line) → Leads HeldGoal (Holds old) (HoldsWith page line value new) a b r
    → Showing Committed (λ words. with_line words page line value) (goal_with page line value) old a new b r
shows_write page line value call = showing_by HeldGoal Committed goal_seen (λ words. with_line words page line value) (goal_with page line value)
    (record { sizes = λ goal. refl; words = λ goal words same p l w word. ap (λ n. cond (eqb p page && eqb l line) (word_in value w) n) (sym (same p l w word)) }) call

-- a commit
pub shows_commit : {T : Type 0} {old new : BookData} {a b : Standing} {r : Result T Stop} → Leads HeldEnd (Holds old) (HoldsCommitted new) a b r → Showing Either (λ words. words) goal_committed old a new b r
shows_commit call = showing_by HeldEnd Either end_seen (λ words. words) goal_committed (record { sizes = λ goal. refl; words = λ goal words same p l w word. sym (same p l w word) }) call
