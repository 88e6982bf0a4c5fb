-- Calls on devices that read the same leave devices that do.
use Rattle.std.proofs.Common.{◌≡◌, ◌⊎◌, ℕ, ap, sym, subst, inl, inr, ◌∙◌, Bool, true, false, List, [], ◌∷◌, refl, cond, eqb, ltb, slice_index}
use mathlib.Core.Path.{fun_ext}
use Rattle.std.proofs.lemmas.Bool.{cases_eq, eq-eqb, ne_eqb, cond-true, cond-false}
use Rattle.nvm_model.specs.Word.{Word, stored, marked}
use Rattle.ssd_model.specs.Block.{Block}
use Rattle.devices.specs.State.{State, Call, after, after_all, Between, Torn, Part, Amid, current, fresh}
use Rattle.devices.specs.State.Call.{store_word, store_line, flush, fence, write_block, sync}
use Rattle.device_calls.specs.Leads.{ReadsAs}

pub ReadsAs-refl : (s : State) → ReadsAs s s
ReadsAs-refl s = record { words = λ l w. refl; blocks = λ b. refl }

pub fresh_as : (s : State) → ReadsAs (fresh (current s)) s
fresh_as s = record { words = λ l w. refl; blocks = λ b. refl }

pub current_as : (s t : State) → ReadsAs s t → current s ≡ current t
current_as s t same = both (fun_ext (λ l. fun_ext (λ w. same.words l w))) (fun_ext (λ b. same.blocks b))
  where
    both : (current s).nvm ≡ (current t).nvm → (current s).ssd ≡ (current t).ssd → current s ≡ current t
    both p q = λ k. record { nvm = p k; ssd = q k }

stored_as : (b c : Bool) (v : ℕ) (x y : Word) → x.newest ≡ y.newest → (cond b (cond c (stored v x) x) x).newest ≡ (cond b (cond c (stored v y) y) y).newest
stored_as true true v x y e = refl
stored_as true false v x y e = e
stored_as false c v x y e = e

marked_as : (b : Bool) (x y : Word) → x.newest ≡ y.newest → (cond b (marked x) x).newest ≡ (cond b (marked y) y).newest
marked_as true x y e = e
marked_as false x y e = e

block_as : (b : Bool) (v x y : Block) → x.bytes ≡ y.bytes → (cond b v x).bytes ≡ (cond b v y).bytes
block_as true v x y e = refl
block_as false v x y e = e

pub call_as : (call : Call) (s t : State) → ReadsAs s t → ReadsAs (after call s) (after call t)
call_as (store_word line word value) s t same = record { words = λ l w. stored_as (eqb l line) (eqb w word) value (s.nvm l w) (t.nvm l w) (same.words l w); blocks = same.blocks }
call_as (store_line line value) s t same = record { words = λ l w. stored_as (eqb l line) (ltb w 8) (slice_index value.words w) (s.nvm l w) (t.nvm l w) (same.words l w); blocks = same.blocks }
call_as (flush line) s t same = record { words = λ l w. marked_as (eqb l line) (s.nvm l w) (t.nvm l w) (same.words l w); blocks = same.blocks }
call_as fence s t same = record { words = same.words; blocks = same.blocks }
call_as (write_block block bytes) s t same = record { words = same.words; blocks = λ b. block_as (eqb b block) (record { bytes = bytes; settled = false }) (s.ssd b) (t.ssd b) (same.blocks b) }
call_as sync s t same = record { words = same.words; blocks = same.blocks }

pub after_as : (calls : List Call) (s t : State) → ReadsAs s t → ReadsAs (after_all calls s) (after_all calls t)
after_as [] s t same = same
after_as (call ∷ calls) s t same = after_as calls (after call s) (after call t) (call_as call s t same)

abbrev pick : {A B X : Type 0} → A ⊎ B → X → X → X
pick (inl a) x y = x
pick (inr b) x y = y

picked : {A B X : Type 0} (h : A ⊎ B) (x y : X) → (pick h x y ≡ x) ⊎ (pick h x y ≡ y)
picked (inl a) x y = inl refl
picked (inr b) x y = inr refl

picked_word : (m x y x' y' : Word) (h : (m ≡ x) ⊎ (m ≡ y)) → x.newest ≡ x'.newest → y.newest ≡ y'.newest → m.newest ≡ (pick h x' y').newest
picked_word m x y x' y' (inl a) e f = ap (λ (k : Word). k.newest) a ∙ e
picked_word m x y x' y' (inr a) e f = ap (λ (k : Word). k.newest) a ∙ f

picked_block : (m x y x' y' : Block) (h : (m ≡ x) ⊎ (m ≡ y)) → x.bytes ≡ x'.bytes → y.bytes ≡ y'.bytes → m.bytes ≡ (pick h x' y').bytes
picked_block m x y x' y' (inl a) e f = ap (λ (k : Block). k.bytes) a ∙ e
picked_block m x y x' y' (inr a) e f = ap (λ (k : Block). k.bytes) a ∙ f

between_as : (s s' t t' mid : State) → ReadsAs s t → ReadsAs s' t' → Between s s' mid → (m : State) × Between t t' m × ReadsAs mid m
between_as s s' t t' mid old new h = (
  record { nvm = λ l w. pick (h.words l w) (t.nvm l w) (t'.nvm l w); ssd = λ b. pick (h.blocks b) (t.ssd b) (t'.ssd b) },
  record { words = λ l w. picked (h.words l w) (t.nvm l w) (t'.nvm l w); blocks = λ b. picked (h.blocks b) (t.ssd b) (t'.ssd b) },
  record {
    words = λ l w. picked_word (mid.nvm l w) (s.nvm l w) (s'.nvm l w) (t.nvm l w) (t'.nvm l w) (h.words l w) (old.words l w) (new.words l w);
    blocks = λ b. picked_block (mid.ssd b) (s.ssd b) (s'.ssd b) (t.ssd b) (t'.ssd b) (h.blocks b) (old.blocks b) (new.blocks b);
  },
)

torn_as : (block : ℕ) (s t mid : State) → ReadsAs s t → Torn block s mid → (m : State) × Torn block t m × ReadsAs mid m
torn_as block s t mid same h = (
  record { nvm = t.nvm; ssd = λ b. cond (eqb b block) (record { bytes = (mid.ssd block).bytes; settled = false }) (t.ssd b) },
  record {
    words = λ l w. refl;
    others = λ b other. cond-false (eqb b block) _ (t.ssd b) (ne_eqb b block other);
    torn = inr (ap (λ (x : Block). x.settled) (cond-true (eqb block block) _ (t.ssd block) (eq-eqb block block refl)));
  },
  record {
    words = λ l w. ap (λ (x : Word). x.newest) (h.words l w) ∙ same.words l w;
    blocks = λ b. elim (cases_eq b block) [
      | inl here ↦ ap (λ n. (mid.ssd n).bytes) here ∙ sym (ap (λ (x : Block). x.bytes) (cond-true (eqb b block) _ (t.ssd b) (eq-eqb b block here)))
      | inr other ↦ ap (λ (x : Block). x.bytes) (h.others b other) ∙ same.blocks b ∙ sym (ap (λ (x : Block). x.bytes) (cond-false (eqb b block) _ (t.ssd b) (ne_eqb b block other)))
    ];
  },
)

part_as : (call : Call) (s t mid : State) → ReadsAs s t → Part call s mid → (m : State) × Part call t m × ReadsAs mid m
part_as (store_word line word value) s t mid same h = between_as s _ t _ mid same (call_as (store_word line word value) s t same) h
part_as (store_line line value) s t mid same h = between_as s _ t _ mid same (call_as (store_line line value) s t same) h
part_as (flush line) s t mid same h = between_as s _ t _ mid same (call_as (flush line) s t same) h
part_as fence s t mid same h = between_as s _ t _ mid same (call_as fence s t same) h
part_as (write_block block bytes) s t mid same h = torn_as block s t mid same h
part_as sync s t mid same h = between_as s _ t _ mid same (call_as sync s t same) h

-- a moment of calls on one of them has its like on the other
pub amid_as : (calls : List Call) (s t mid : State) → ReadsAs s t → Amid s calls mid → (m : State) × Amid t calls m × ReadsAs mid m
amid_as [] s t mid same at = (t, refl, subst (λ (x : State). ReadsAs x t) (sym at) same)
amid_as (call ∷ calls) s t mid same (inl part) =
    let found : (m : State) × Part call t m × ReadsAs mid m = part_as call s t mid same part in (found.0, inl found.1, found.2)
amid_as (call ∷ calls) s t mid same (inr later) =
    let found : (m : State) × Amid (after call t) calls m × ReadsAs mid m = amid_as calls (after call s) (after call t) mid (call_as call s t same) later in (found.0, inr found.1, found.2)

pub ReadsAs-sym : {s t : State} → ReadsAs s t → ReadsAs t s
ReadsAs-sym same = record { words = λ l w. sym (same.words l w); blocks = λ b. sym (same.blocks b) }
