-- Devices at their start, and copies of what they hold.
use Rattle.std.proofs.Common.{◌≡◌, ◌≢◌, ◌⊎◌, inl, inr, zero, suc, ℕ, List, [], ◌∷◌, length, refl, sym, ◌∙◌, ap, subst, arith}
use Rattle.std.specs.Prelude.{Bool, true, false, cond, nat_lt, slice_index, Option, Some, IsSome, Result, Ok, Err, IfOk}
use Rattle.std.specs.Map.{lookup}
use Rattle.std.specs.Option.{unwrap_or}
use Rattle.std.specs.Ordering.{nat_cmp}
use Rattle.std.specs.BTreeMap.{BTreeMap, get, is_at, Updates}
use Rattle.std.proofs.lemmas.Bool.{cases_eq, lt-ltb}
use Rattle.std.proofs.lemmas.Grind.{common_steps}
use mathlib.Core.Path.{fun_ext}
use Rattle.nvm_model.specs.declared.line.Line.{Line}
use Rattle.ssd_model.specs.Page.{zero_page}
use Rattle.devices.specs.declared.images.Images.{Images}
use Rattle.devices.specs.declared.step.Entry.{Entry}
use Rattle.devices.specs.declared.past.Past.{Past}
use Rattle.devices.specs.State.{State, Image, fresh}
use Rattle.devices.specs.World.{sent_by}
use Rattle.devices.specs.Past.{image_of, zero_image, zero_line, word_in, replay, standing_state, IsSound, Begins, Copies, Starts}
use Rattle.devices.specs.declared.mem_world.MemWorld.{MemWorld}
use Rattle.devices.specs.MemWorld.{standing_of, world, IsFresh}

pub apart : (block b : ℕ) → b ≢ block → is_at (nat_cmp block) b ≡ false
apart block b other = grind (arith, common_steps)

here : (b : ℕ) → is_at (nat_cmp b) b ≡ true
here b = grind (arith, common_steps)

-- one block more of a map was copied
pub copied_more : (m copy next : BTreeMap ℕ (List ℕ)) (left rest : List (ℕ × List ℕ)) (k : ℕ) (v : List ℕ) (q : ℕ) → get nat_cmp m k ≡ Some v → left ≡ (k, v) ∷ rest → Updates nat_cmp copy next k (Some v)
    → IsSome (lookup (is_at (nat_cmp q)) left) ⊎ (get nat_cmp copy q ≡ get nat_cmp m q) → IsSome (lookup (is_at (nat_cmp q)) rest) ⊎ (get nat_cmp next q ≡ get nat_cmp m q)
copied_more m copy next left rest k v q found is updates before = elim (cases_eq q k) [
  | inl same ↦ inr (rw same (updates.1 ∙ sym found))
  | inr other ↦ elim before [
    | inr kept ↦ inr (updates.2 q (apart k q other) ∙ kept)
    | inl coming ↦ inl (subst (λ (b : Bool). IsSome (cond b (Some v) (lookup (is_at (nat_cmp q)) rest))) (apart q k (λ e. other (sym e))) (subst (λ (l : List (ℕ × List ℕ)). IsSome (lookup (is_at (nat_cmp q)) l)) is coming))
  ]
]

-- a word of zeros
pub zero_word : (w : ℕ) → slice_index zero_line.words w ≡ 0
unfolding zero_line
zero_word w = eight w
  where
    eight : (w : ℕ) → slice_index (0 ∷ 0 ∷ 0 ∷ 0 ∷ 0 ∷ 0 ∷ 0 ∷ 0 ∷ []) w ≡ 0
    eight zero = refl
    eight (suc zero) = refl
    eight (suc (suc zero)) = refl
    eight (suc (suc (suc zero))) = refl
    eight (suc (suc (suc (suc zero)))) = refl
    eight (suc (suc (suc (suc (suc zero))))) = refl
    eight (suc (suc (suc (suc (suc (suc zero)))))) = refl
    eight (suc (suc (suc (suc (suc (suc (suc zero))))))) = refl
    eight (suc (suc (suc (suc (suc (suc (suc (suc n)))))))) = refl

pub same_image : (a b : Image) → ((l w : ℕ) → a.nvm l w ≡ b.nvm l w) → ((k : ℕ) → a.ssd k ≡ b.ssd k) → a ≡ b
same_image a b nvm ssd =
    let words : a.nvm ≡ b.nvm = fun_ext (λ l. fun_ext (λ w. nvm l w)) in
    let pages : a.ssd ≡ b.ssd = fun_ext (λ k. ssd k) in
    λ i. record { nvm = words i; ssd = pages i }

pub no_lines : (nvm : List Line) (l w : ℕ) → nvm ≡ [] → word_in nvm l w ≡ 0
no_lines nvm l w none = ap (λ (n : List Line). word_in n l w) none ∙ zero_word w

pub zero_base : (i : Images) → i.nvm.items ≡ [] → i.ssd.entries ≡ [] → image_of i ≡ zero_image
zero_base i lines blocks = same_image (image_of i) zero_image
    (λ l w. either (nat_lt w 8) (word_in i.nvm.items l w) (no_lines i.nvm.items l w lines))
    (λ k. ap (λ (es : List (ℕ × List ℕ)). unwrap_or (lookup (is_at (nat_cmp k)) es) zero_page) blocks)
  where
    either : (b : Bool) (x : ℕ) → x ≡ 0 → cond b x 0 ≡ 0
    either true x e = e
    either false x e = refl

pub copied_image : (i copy : Images) → Copies i copy → image_of copy ≡ image_of i
copied_image i copy copies = same_image (image_of copy) (image_of i)
    (λ l w. ap (λ (n : List Line). cond (nat_lt w 8) (word_in n l w) 0) copies.nvm)
    (λ k. ap (λ (o : Option (List ℕ)). unwrap_or o zero_page) (copies.ssd k))

pub sound_start : (p : Past) → Begins p.lines p.base p.current → p.entries.items ≡ [] → p.sent.items ≡ [] → p.sendings.items ≡ [] → IsSound p
unfolding replay sent_by
sound_start p begins entries sent sendings = record {
  size = begins.size;
  base_size = begins.base_size;
  base_blocks = begins.base_blocks;
  words = λ l w lt lt8. begins.words l w lt lt8 ∙ sym (ap (λ (b : Bool). cond b (word_in p.base.nvm.items l w) 0) (lt-ltb w 8 lt8)) ∙ sym (ap (λ (s : State). (s.nvm l w).newest) at_start);
  pages = λ b. begins.pages b ∙ sym (ap (λ (s : State). (s.ssd b).bytes) at_start);
  within = rw entries refl;
  sendings = rw sendings refl;
  all_sent = rw (sendings, sent) refl;
}
  where
    at_start : standing_state p ≡ fresh (image_of p.base)
    at_start = ap (λ (es : List Entry). replay (image_of p.base) es) entries

-- the standing at the start
pub fresh_start : (p : Past) (settings script : List ℕ) → IsSound p → Starts p.lines p.current.ssd_blocks (image_of p.base) p → (old_settings old_script : List ℕ) → settings ≡ old_settings → script ≡ old_script
    → (nvm_faults ssd_faults settings_faults source_faults sink_faults : ℕ) → nvm_faults ≡ 0 → ssd_faults ≡ 0 → settings_faults ≡ 0 → source_faults ≡ 0 → sink_faults ≡ 0
    → IsFresh p.lines p.current.ssd_blocks (image_of p.base) old_settings old_script (standing_of p nvm_faults ssd_faults 0 settings script settings_faults source_faults sink_faults)
unfolding replay
fresh_start p settings script sound starts old_settings old_script settings_is script_is nvm_faults ssd_faults settings_faults source_faults sink_faults a b d e f = record {
  lines = refl;
  blocks = refl;
  told = refl;
  honest = refl;
  clock = ap length starts.entries;
  state = rw starts.entries refl;
  settings_left = settings_is;
  script_left = script_is;
  sent_none = sound.all_sent ∙ starts.sent;
  nvm_faults = a;
  ssd_faults = b;
  block_reads = refl;
  settings_faults = d;
  source_faults = e;
  sink_faults = f;
}

pub fresh_as : {E : Type 0} {lines blocks : ℕ} {image : Image} (p : Past) (settings script : List ℕ) (r : Result MemWorld E) → Starts lines blocks image p
    → IfOk r (λ made. IsFresh p.lines p.current.ssd_blocks (image_of p.base) settings script (world made)) → IfOk r (λ made. IsFresh lines blocks image settings script (world made))
fresh_as p settings script (Err e) starts fresh = tt
fresh_as {lines = lines} {blocks = blocks} {image = image} p settings script (Ok made) starts fresh =
    subst (λ (n : ℕ). IsFresh n blocks image settings script (world made)) starts.lines
    (subst (λ (n : ℕ). IsFresh p.lines n image settings script (world made)) starts.blocks
    (subst (λ (i : Image). IsFresh p.lines p.current.ssd_blocks i settings script (world made)) starts.base fresh))
