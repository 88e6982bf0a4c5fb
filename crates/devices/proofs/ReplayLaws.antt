-- The states of both devices as calls are made again.
use Rattle.std.proofs.Common.{◌≡◌, ◌≢◌, ◌⊎◌, inl, inr, ℕ, ◌+◌, ◌<◌, ◌≤◌, List, [], ◌∷◌, ◌++◌, length, take, refl, sym, ◌∙◌, ap, subst, arith}
use Rattle.std.specs.Prelude.{Bool, true, false, cond, nat_lt, slice_index, get_or, Option, Some, IsSome}
use Rattle.std.specs.Map.{lookup}
use Rattle.std.specs.Option.{unwrap_or}
use Rattle.std.specs.Ordering.{nat_cmp}
use Rattle.std.specs.BTreeMap.{BTreeMap, get, is_at}
use Rattle.std.proofs.lemmas.Bool.{cases_eq, cases_lt, eq-eqb, ne_eqb}
use Rattle.std.proofs.lemmas.List.{get_or_past, take_more}
use mathlib.Core.Path.{fun_ext}
use Rattle.nvm_model.specs.declared.line.Line.{Line}
use Rattle.nvm_model.specs.Word.{single, trimmed}
use Rattle.nvm_model.specs.Memory.{Memory, fenced_memory}
use Rattle.ssd_model.specs.Block.{Block, Disk, with_block}
use Rattle.ssd_model.specs.Page.{zero_page}
use Rattle.devices.specs.declared.step.Entry.{Entry}
use Rattle.devices.specs.declared.step.Step.{Step}
use Rattle.devices.specs.State.{State}
use Rattle.devices.specs.Past.{made, replay_from, word_in, page_in, zero_line}
use Rattle.devices.specs.Replay.{word_at, synced_by, synced_from}
use Rattle.devices.proofs.PastLaws.{replay_from_push}
use Rattle.devices.proofs.StartLaws.{zero_word, apart}

-- one call more
pub replay_more : (s : State) (entries : List Entry) (i : ℕ) (e : Entry) → i < length entries → e ≡ get_or entries i e → replay_from s (take (i + 1) entries) ≡ made e.step (replay_from s (take i entries))
replay_more s entries i e lt is =
    ap (λ (es : List Entry). replay_from s es) (take_more entries i e lt ∙ ap (λ (x : Entry). take i entries ++ x ∷ []) (sym is)) ∙ replay_from_push s (take i entries) e

synced_push : (s : State) (synced : ℕ → List ℕ) (entries : List Entry) (e : Entry) → synced_from s synced (entries ++ e ∷ []) ≡ synced_by e.step (replay_from s entries) (synced_from s synced entries)
synced_push s synced [] e = refl
synced_push s synced (first ∷ entries) e = synced_push (made first.step s) (synced_by first.step s synced) entries e

pub synced_more : (s : State) (synced : ℕ → List ℕ) (entries : List Entry) (i : ℕ) (e : Entry) → i < length entries → e ≡ get_or entries i e
    → synced_from s synced (take (i + 1) entries) ≡ synced_by e.step (replay_from s (take i entries)) (synced_from s synced (take i entries))
synced_more s synced entries i e lt is =
    ap (λ (es : List Entry). synced_from s synced es) (take_more entries i e lt ∙ ap (λ (x : Entry). take i entries ++ x ∷ []) (sym is)) ∙ synced_push s synced (take i entries) e

pub synced_step : {s t : State} {x y : ℕ → List ℕ} (step : Step) → s ≡ t → x ≡ y → synced_by step s x ≡ synced_by step t y
synced_step {s} {t} {x} {y} step p q = ap (λ (a : State). synced_by step a x) p ∙ ap (λ (a : ℕ → List ℕ). synced_by step t a) q

-- the words of lines, and beyond them
pub word_beyond : (lines : List Line) (l w : ℕ) → length lines ≤ l → word_at lines l w ≡ 0
word_beyond lines l w le = either (nat_lt w 8) (word_in lines l w) (ap (λ (x : Line). slice_index x.words w) (get_or_past lines l zero_line le) ∙ zero_word w)
  where
    either : (b : Bool) (x : ℕ) → x ≡ 0 → cond b x 0 ≡ 0
    either true x e = e
    either false x e = refl

pub all_placed : (memory : Memory) (lines : List Line) (n : ℕ) → length lines ≤ n → ((k w : ℕ) → k < n → trimmed (memory k w) ≡ single (word_at lines k w)) → ((k w : ℕ) → n ≤ k → memory k w ≡ single 0)
    → fenced_memory memory ≡ (λ l w. single (word_at lines l w))
all_placed memory lines n le placed ahead = fun_ext (λ l. fun_ext (λ w. word l w))
  where
    word : (l w : ℕ) → trimmed (memory l w) ≡ single (word_at lines l w)
    word l w = elim (cases_lt l n) [
      | inl low ↦ placed l w low
      | inr high ↦ ap trimmed (ahead l w high) ∙ ap single (sym (word_beyond lines l w (omega (arith, le, high))))
    ]

-- one block more
pub block_placed : (m : BTreeMap ℕ (List ℕ)) (disk next : Disk) (left rest : List (ℕ × List ℕ)) (k : ℕ) (v : List ℕ) (q : ℕ) → get nat_cmp m k ≡ Some v → left ≡ (k, v) ∷ rest → next ≡ with_block k v disk
    → IsSome (lookup (is_at (nat_cmp q)) left) ⊎ ((disk q).bytes ≡ page_in m q) → IsSome (lookup (is_at (nat_cmp q)) rest) ⊎ ((next q).bytes ≡ page_in m q)
block_placed m disk next left rest k v q found is written before = elim (cases_eq q k) [
  | inl same ↦ inr (rw same (ap (λ (d : Disk). (d k).bytes) written ∙ ap (λ (x : Block). x.bytes) here ∙ sym (ap (λ (o : Option (List ℕ)). unwrap_or o zero_page) found)))
  | inr other ↦ elim before [
    | inr kept ↦ inr (ap (λ (d : Disk). (d q).bytes) written ∙ ap (λ (x : Block). x.bytes) (there other) ∙ kept)
    | inl coming ↦ inl (subst (λ (b : Bool). IsSome (cond b (Some v) (lookup (is_at (nat_cmp q)) rest))) (apart q k (λ e. other (sym e))) (subst (λ (l : List (ℕ × List ℕ)). IsSome (lookup (is_at (nat_cmp q)) l)) is coming))
  ]
]
  where
    here : with_block k v disk k ≡ record { bytes = v; settled = false }
    here = simp (eq-eqb k k refl)

    there : q ≢ k → with_block k v disk q ≡ disk q
    there other = simp (ne_eqb q k other)
