-- From a call that leads from facts to facts to what the layers above see of it.
use Rattle.std.proofs.Common.{◌≡◌, ℕ, ◌<◌, refl, sym, ap, ◌∙◌, subst, inl, inr, Result, Ok, Err, IsTrue}
use Rattle.std.specs.Prelude.{OnOk}
use Rattle.devices.specs.State.{State, Image, Leaves, current, fresh}
use Rattle.devices.specs.World.{Standing, now}
use Rattle.store_model.specs.Layout.{Sizes, pages}
use Rattle.store_model.specs.Append.{RecoversTo}
use Rattle.store_model.specs.Format.{Format}
use Rattle.store_model.specs.Recovered.{IsStore, lines_of, recovered, super_of}
use Rattle.store_model.specs.Log.{Words}
use Rattle.store_model.specs.StoreFacts.{Bookkeeping, IsWord, StoreFacts}
use Rattle.devices.proofs.MomentLaws.{Moments-map}
use Rattle.devices.proofs.FreshLaws.{fresh_only}
use Rattle.home_laws.proofs.FactsLaws.{facts_recover, current_leaves}
use Rattle.home_laws.proofs.RecoveredLaws.{lines_of-same}
use Rattle.line_pages.specs.declared.stop.Stop.{Stop}
use Rattle.device_calls.specs.Leads.{Leads, ReadsAs, Looked}
use Rattle.device_calls.proofs.LeadsLaws.{leads_now, leads_read, leads_moments, leads_read_moments, earlier_told, looked_same}
use Rattle.device_calls.proofs.ReadLaws.{current_as}
use Rattle.tier_facts.specs.Data.{Data, current_in}
use Rattle.tier_facts.specs.Facts.{aim_sizes, Aim, Held, Facts, Hard, keeping}
use Rattle.tier_facts.specs.Shown.{IsStoreOf, SameWords, Keeping}

-- the facts of a state hold of what one reads of it
facts_fresh : (b : Bookkeeping) (s : State) → StoreFacts b s → StoreFacts b (fresh (current s))
facts_fresh b s facts = record {
  gates = record {
    sizes = λ w low high. refl;
    others = λ gate in_store none. refl;
    changing = λ change at in_store v version. elim version [ inl e ↦ facts.gates.changing change at in_store v (inl e) | inr none ↦ absurd none ];
  };
  sizes = λ i left. facts.sizes i (back i left);
  durable = λ i left. record {
    log = λ o above below. record { in_nvm = λ drained w hw. refl; in_ssd = λ under. refl };
    homes = λ p l w word unlogged. record { in_frame = λ k found v version. elim version [ inl e ↦ e | inr none ↦ absurd none ]; in_block = λ none. refl };
  };
  homes = λ i left. facts.homes i (back i left);
  log = λ i left. facts.log i (back i left);
  copies = λ i left. facts.copies i (back i left);
  stores = λ i left. facts.stores i (back i left);
}
  where
    back : (i : Image) → Leaves (fresh (current s)) i → Leaves s i
    back i left = subst (λ (x : Image). Leaves s x) (sym (fresh_only (current s) i left)) (current_leaves s)

pub facts_read : (t : Data) (aim : Aim) (s : State) → Facts t aim s → Facts t aim (fresh (current s))
facts_read t aim s it = record {
  super_words = it.super_words;
  log_same = it.log_same;
  sizes_same = it.sizes_same;
  facts = facts_fresh (keeping t aim) s it.facts;
  entries_same = it.entries_same;
  owned = it.owned;
  framed = it.framed;
  owner = it.owner;
  frame = it.frame;
  words = it.words;
  loose = it.loose;
  recorded = it.recorded;
  clean = it.clean;
  flushed = λ k p l w at hl hw. refl;
  settled = λ p low none. refl;
  unworn = λ k p at not. record { settled = refl; words = (it.unworn k p at not).words };
  waits = λ n w less hw. record { newest = (it.waits n w less hw).newest; kept = refl };
}

pub hard_read : (t : Data) (aim : Aim) (s : State) → Hard t aim s → Hard t aim (fresh (current s))
hard_read t aim s it = record { of_aim = it.of_aim; holds = facts_read t aim s it.holds }

-- every image recovers to the committed words
pub held_recovers : (aim : Aim) (s : State) → Held aim s → RecoversTo aim.format s aim.kept
held_recovers aim s it i left p l w in_store line word =
    let same : (super_of i).sizes ≡ it.keeps.sizes = it.facts.sizes i left in
    ap (λ (f : Format). recovered f i p l w) (sym it.format_is)
    ∙ facts_recover it.keeps s it.facts i left p l w (record { page = subst (λ (g : Sizes). p < pages g) same in_store; line = line; word = word })
    ∙ ap (λ (c : ℕ → Words). c (super_of i).tail p l w) it.committed

pub held_store : (aim : Aim) (s : State) → Held aim s → (i : Image) → Leaves s i → IsStoreOf aim.format (aim_sizes aim) aim.kept i
held_store aim s it i left =
    let same : (super_of i).sizes ≡ aim_sizes aim = it.facts.sizes i left ∙ it.sizes in
    record {
      store = subst (λ (f : Format). IsStore f i) it.format_is (it.facts.stores i left);
      sizes = same;
      pages_are = ap (λ (g : Sizes). lines_of (pages g) (recovered aim.format i)) same
          ∙ lines_of-same (pages (aim_sizes aim)) (recovered aim.format i) aim.kept (λ p l w hp hl hw. held_recovers aim s it i left p l w (subst (λ (g : Sizes). p < pages g) (sym same) hp) hl hw);
    }

pub shown : {T : Type 0} {A B : Aim → State → Type 0} {a b : Standing} {r : Result T Stop} → ((aim : Aim) (s : State) → B aim s → B aim (fresh (current s)))
    → Leads Held A B a b r → Keeping A B a b r
shown reads call = record {
  goes = call.goes;
  cause = call.cause;
  read = λ told aim before. leads_read call told aim (reads aim) before;
  steady = λ told aim before. leads_now call told aim before;
  read_held = λ told aim before. Moments-map (λ mid like p l w word. subst (λ (i : Image). recovered aim.format i p l w ≡ aim.kept p l w) (sym (current_as mid like.0 like.1))
      (held_recovers aim like.0 like.2 (current like.0) (current_leaves like.0) p l w (subst (λ (i : Image). p < pages (super_of i).sizes) (current_as mid like.0 like.1) word.page) word.line word.word)) (leads_read_moments call told aim before);
  held = λ told aim before. leads_moments call told aim before;
  stores = λ told aim before. Moments-map (held_store aim) (leads_moments call told aim before);
  recovers = λ told aim before. Moments-map (held_recovers aim) (leads_moments call told aim before);
}

-- the current words are the aim's, as one reads them
pub current_now : (t : Data) (aim : Aim) (s : State) → Facts t aim s → (p l w : ℕ) → IsWord t.sizes p l w → current_in t.sizes t (current s) p l w ≡ aim.words p l w
current_now t aim s it p l w word = ap (λ (g : Sizes). current_in g t (current s) p l w) it.sizes_same ∙ it.words p l w (subst (λ (g : Sizes). IsWord g p l w) it.sizes_same word)

OnOk_map : {T E : Type 0} {P Q : Type 0} (r : Result T E) → (P → Q) → OnOk r P → OnOk r Q
OnOk_map (Ok v) f p = f p
OnOk_map (Err e) f p = tt

-- so they stay over such a call
pub shown_words : {T : Type 0} {t u : Data} {a b : Standing} {r : Result T Stop} → Leads Held (Facts t) (Facts u) a b r
    → IsTrue a.told → (aim : Aim) → Facts t aim (fresh (current (now a))) → OnOk r (SameWords t a u b)
shown_words {t = t} {u = u} {a = a} {b = b} {r = r} call told aim before = OnOk_map r (λ (after : Facts u aim (fresh (current (now b)))). record {
  words = λ p l w word. current_now u aim (fresh (current (now b))) after p l w (subst (λ (g : Sizes). IsWord g p l w) (before.sizes_same ∙ sym after.sizes_same) word)
      ∙ sym (current_now t aim (fresh (current (now a))) before p l w word);
}) (leads_read call told aim (facts_read u aim) before)

-- what was read of the devices, of a state that reads as they do
pub image_seen : {T : Type 0} {r : Result T Stop} {a b : Standing} (P : Image → Type 0) (s : State) → Looked a b r → (IsTrue a.told → P (current (now a))) → IsTrue b.told → ReadsAs s (now b) → P (current s)
image_seen {a = a} {b = b} P s looked value told reads =
    let before : IsTrue a.told = earlier_told looked.goes told in
    subst P (sym (current_as s (now b) reads)) (subst (λ (x : State). P (current x)) (sym (looked_same looked before)) (value before))

-- the same of the devices before the call
pub image_as : (P : Image → Type 0) (s t : State) → ReadsAs s t → P (current t) → P (current s)
image_as P s t reads it = subst P (sym (current_as s t reads)) it
