-- Devices that were made of an image are in order where the image came from devices in order.
use Rattle.std.proofs.Common.{◌≡◌, ◌⊎◌, ℕ, zero, suc, ◌+◌, ◌-◌, ◌%◌, ◌<◌, ◌≤◌, Bool, not, ◌&&◌, List, refl, sym, ap, ◌∙◌, subst, inl, inr, arith, eqb, ltb, Option}
use Rattle.std.proofs.lemmas.Bool.{cases_Bool, ltb-true, ltb-false, cond-true, cond-false}
use Rattle.nvm_model.specs.declared.line.Line.{Line}
use Rattle.devices.specs.State.{State, Image, Leaves, current, fresh}
use Rattle.store_model.specs.Layout.{pages, entry_line, entry_word, ring_line, ring_block, nvm_lines, ssd_blocks}
use Rattle.store_model.specs.Format.{Format, log_check}
use Rattle.store_model.specs.Recovered.{Super, super_of, entry_at, log_line, log_lines, from, any_below, table_check, image_table_check, image_log_check, super_check, recovered_pages, block_line}
use Rattle.store_model.specs.InOrder.{LineStands, IsInOrder}
use Rattle.devices.proofs.FreshLaws.{fresh_only}
use Rattle.nvm_model.proofs.WordLaws.{single_version}
use Rattle.home_laws.proofs.RecoveredLaws.{line_of-same, from-same}
use Rattle.home_laws.proofs.PutLaws.{super_same}

-- a test of the numbers below n depends on those alone
any_below-same : (n : ℕ) (f g : ℕ → Bool) → ((k : ℕ) → k < n → f k ≡ g k) → any_below n f ≡ any_below n g
any_below-same zero f g h = refl
any_below-same (suc n) f g h =
    let last : f n ≡ g n = h n (omega arith) in
    let rest : any_below n f ≡ any_below n g = any_below-same n f g (λ k less. h k (omega arith)) in
    rw (last, rest)

pub table_check-same : (pages n : ℕ) (e f : ℕ → ℕ) → ((k : ℕ) → k < n → e k ≡ f k) → table_check pages n e ≡ table_check pages n f
table_check-same pages n e f h =
    let fifth : any_below n (λ k. ltb pages (e k)) ≡ any_below n (λ k. ltb pages (f k)) = any_below-same n _ _ (λ k less. ap (ltb pages) (h k less)) in
    let sixth : any_below n (λ k. not (eqb (e k) 0) && any_below k (λ j. eqb (e j) (e k))) ≡ any_below n (λ k. not (eqb (f k) 0) && any_below k (λ j. eqb (f j) (f k))) =
    any_below-same n _ _ (λ k less. rw (h k less) (ap (λ b. not (eqb (f k) 0) && b) (any_below-same k _ _ (λ j under. ap (λ x. eqb x (f k)) (h j (omega arith)))))) in
    rw (fifth, sixth)

-- a durable line is the same in each image
pub log_line-durable : (sup : Super) (s : State) (i : Image) (o : ℕ) → Leaves s i → LineStands sup s o → log_line sup.sizes sup.drained i o ≡ log_line sup.sizes sup.drained (current s) o
log_line-durable sup s i o leaves stands = elim (cases_Bool (ltb o sup.drained)) [
  | inl below ↦ cond-true (ltb o sup.drained) _ _ below
      ∙ ap (λ bytes. block_line bytes (o % 64)) (leaves.blocks (ring_block sup.sizes o) (stands.in_ssd (ltb-true o sup.drained below)))
      ∙ sym (cond-true (ltb o sup.drained) _ _ below)
  | inr above ↦ cond-false (ltb o sup.drained) _ _ above
      ∙ line_of-same _ _ (λ w hw. single_version (s.nvm (ring_line sup.sizes o) w) (i.nvm (ring_line sup.sizes o) w) (stands.in_nvm (ltb-false o sup.drained above) w hw) (leaves.words (ring_line sup.sizes o) w))
      ∙ sym (cond-false (ltb o sup.drained) _ _ above)
]

module _ {Tables : Type 0} (tables : (ℕ → ℕ → Line) → Option Tables) (format : Format) (lines blocks : ℕ) (s : State) (T : Tables)
    (in_order : IsInOrder tables format lines blocks s T) (i : Image) (leaves : Leaves s i) where
  same_super : super_of i ≡ super_of (current s)
  same_super = super_same i (current s) (λ l w named. single_version (s.nvm l w) (i.nvm l w) (in_order.stands.gates.superblock l w named) (leaves.words l w))

  same_log : log_lines i ≡ log_lines (current s)
  same_log = ap (λ (x : Super). from (log_line x.sizes x.drained i) x.start (x.tail - x.start)) same_super
      ∙ from-same _ _ _ _ (λ o above below. log_line-durable (super_of (current s)) s i o leaves (in_order.stands.log.lines o above (omega arith)))

  same_table : image_table_check i ≡ image_table_check (current s)
  same_table = ap (λ (x : Super). table_check (pages x.sizes) (x.sizes.frames + 1) (entry_at i)) same_super
      ∙ table_check-same (pages (super_of (current s)).sizes) ((super_of (current s)).sizes.frames + 1) (entry_at i) (entry_at (current s))
      (λ k less. single_version (s.nvm (entry_line k) (entry_word k)) (entry_at i k) (in_order.stands.gates.entries k (omega arith)) (leaves.words (entry_line k) (entry_word k)))

  same_log_check : image_log_check format i ≡ image_log_check format (current s)
  same_log_check = ap (λ (x : Super). log_check format x.sizes x.start 0 (log_lines i)) same_super
      ∙ ap (λ (xs : List Line). log_check format (super_of (current s)).sizes (super_of (current s)).start 0 xs) same_log

  -- Devices that were made of an image of devices in order are in order, with the same tables.
  pub fresh_in_order : IsInOrder tables format lines blocks (fresh i) T
  fresh_in_order = record {
    stands = record {
      gates = record {
        superblock = λ l w named. refl;
        entries = λ k h. refl;
        magic = ap (λ (x : Super). x.magic_word) same_super ∙ in_order.stands.gates.magic;
        super_checks = ap super_check same_super ∙ in_order.stands.gates.super_checks;
        table_checks = same_table ∙ in_order.stands.gates.table_checks;
        nvm_fits = subst (λ (x : Super). nvm_lines x.sizes ≤ lines) (sym same_super) in_order.stands.gates.nvm_fits;
        ssd_fits = subst (λ (x : Super). ssd_blocks x.sizes ≤ blocks) (sym same_super) in_order.stands.gates.ssd_fits;
      };
      log = record {
        lines = λ o above below. record { in_nvm = λ drained w hw. refl; in_ssd = λ under. refl };
        checks = same_log_check ∙ in_order.stands.log.checks;
      };
      homes = λ p l w hp hl hw h. record {
        in_frame = λ k found v version. one v version;
        in_block = λ none. refl;
      };
    };
    recovers = λ j left. ap (λ (x : Image). tables (recovered_pages format x)) (fresh_only i j left) ∙ in_order.recovers i leaves;
  }
    where
      one : {x : ℕ} (v : ℕ) → (v ≡ x) ⊎ ⊥ → v ≡ x
      one v (inl e) = e
      one v (inr none) = absurd none
