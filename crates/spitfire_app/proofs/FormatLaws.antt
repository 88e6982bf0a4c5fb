-- What a format leaves and says.
use Rattle.std.proofs.Common.{◌≡◌, inl, inr, ℕ, ◌+◌, ◌≤◌, List, [], ◌++◌, length, take, drop, Result, refl, sym, ◌∙◌, ap, subst, arith, length-append, IsTrue}
use Rattle.std.proofs.lemmas.Bool.{cases_lt}
use Rattle.std.proofs.lemmas.List.{append-nil, take-append-drop}
use Rattle.devices.specs.State.{State as Devices, Image, Leaves, fresh}
use Rattle.devices.specs.World.{Standing, Goes, WorldCall, IsTimed, Moments, now, sent, sent_at}
use Rattle.devices.proofs.MomentLaws.{Goes-sent, Moments-map}
use Rattle.flat_transactions.specs.Order.{Sizes, nvm_lines, ssd_blocks}
use Rattle.flat_recovery.specs.Empty.{IsEmptyStore, MayFormat as MayLeaveEmpty, Formats, MakesEmpty}
use Rattle.engine.specs.Holds.{InOrder}
use Rattle.runner.specs.Sent.{SendsBytes}
use Rattle.spitfire_app.specs.Promises.{first_sizes, formatted, MayFormat, Formatted}
use Rattle.spitfire_app.proofs.OrderLaws.{left_in_order, empty_in_order}

-- nothing was sent, so not the whole line
unsent : {A : Type 0} (front out : List ℕ) → out ≡ front → out ≡ front ++ formatted → A
unsent front out none whole =
    let sizes : length front ≡ length front + length formatted = ap length (sym none ∙ whole) ∙ length-append front formatted in
    absurd (omega arith)

-- an empty store is in order with no table
may_format : (n k : ℕ) (entry s : Devices) → MayLeaveEmpty first_sizes 0 n k entry s → MayFormat n k entry s
may_format n k entry s may i left = elim (may i left) [
  | inl was ↦ inl was
  | inr other ↦ elim other [
    | inl none ↦ inr (inl none)
    | inr empty ↦ inr (inr (empty_in_order first_sizes 0 n k (fresh i) refl empty))
  ]
]

module _ (old mid : Standing) (timed : IsTimed old) (goes : Goes old mid) {T E : Type 0} (r : Result T E) (formats : Formats first_sizes 0 old mid r) where
  moments : Moments old mid (MayFormat old.lines old.blocks (now old))
  moments = Moments-map (λ s may. may_format old.lines old.blocks (now old) s may) formats.moments

  -- the store could not be made
  pub format_failed : (status : ℕ) → (status ≡ 0 → ⊥) → Formatted old mid status
  format_failed status other = record {
    crash = moments;
    told = λ m low high whole. unsent (sent old) (sent_at mid m) (Goes-sent timed goes m low) whole;
    begin = λ m low high. ([], Goes-sent timed goes m low ∙ sym (append-nil (sent old)), (formatted, refl));
    whole = λ is. absurd (other is);
    in_order = λ is. absurd (other is);
  }

  -- it was made, and the line is sent
  module _ {U F : Type 0} (new : Standing) (result : Result U F) (told : IsTrue mid.told) (call : WorldCall mid new) (writes : SendsBytes formatted mid new result) (made : IsEmptyStore first_sizes 0 old.lines old.blocks (now mid)) where
    order : InOrder first_sizes [] old.lines old.blocks (now mid)
    order = empty_in_order first_sizes 0 old.lines old.blocks (now mid) refl made

    kept : (m : ℕ) → mid.clock ≤ m → m ≤ new.clock → (i : Image) → Leaves (new.at m) i → InOrder first_sizes [] old.lines old.blocks (fresh i)
    kept m low high i left = left_in_order first_sizes [] old.lines old.blocks (now mid) order i (subst (λ (x : Devices). Leaves x i) ((call.stays told).each m low high) left)

    same_sent : sent mid ≡ sent old
    same_sent = Goes-sent timed goes mid.clock goes.clock

    out_at : (m : ℕ) → old.clock ≤ m → m ≤ new.clock → (said : List ℕ) × (sent_at new m ≡ sent old ++ said) × ((more : List ℕ) × (said ++ more ≡ formatted))
    out_at m low high = elim (cases_lt m mid.clock) [
      | inl before ↦ ([], call.goes.earlier_sent m (omega arith) ∙ Goes-sent timed goes m low ∙ sym (append-nil (sent old)), (formatted, refl))
      | inr after ↦
          let part = writes.part m after high in
          (take part.0 formatted, part.1 ∙ ap (λ (l : List ℕ). l ++ take part.0 formatted) same_sent, (drop part.0 formatted, take-append-drop part.0 formatted))
    ]

    both : Moments old new (MayFormat old.lines old.blocks (now old))
    both = record {
      each = λ m low high. elim (cases_lt mid.clock m) [
        | inl after ↦ (λ i left. inr (inr (kept m (omega arith) high i left)))
        | inr before ↦ subst (λ (x : Devices). MayFormat old.lines old.blocks (now old) x) (sym (call.goes.earlier m before)) (moments.each m low before)
      ];
    }

    pub format_said : (status : ℕ) → (status ≡ 0 → sent new ≡ sent mid ++ formatted) → Formatted old new status
    format_said status all = record {
      crash = both;
      told = λ m low high whole i left. elim (cases_lt m mid.clock) [
        | inl before ↦ unsent (sent old) (sent_at new m) (call.goes.earlier_sent m (omega arith) ∙ Goes-sent timed goes m low) whole
        | inr after ↦ kept m after high i left
      ];
      begin = out_at;
      whole = λ is. all is ∙ ap (λ (l : List ℕ). l ++ formatted) same_sent;
      in_order = λ is. subst (λ (x : Devices). InOrder first_sizes [] old.lines old.blocks x) (sym ((call.stays told).each new.clock call.goes.clock (omega arith))) order;
    }

-- the format is of the first sizes
pub first_formats : {T E : Type 0} (g : Sizes) (old mid : Standing) (r : Result T E) → g ≡ first_sizes → MakesEmpty g 0 old mid r
    → IsTrue old.told → nvm_lines first_sizes ≤ old.lines → ssd_blocks first_sizes ≤ old.blocks → Formats first_sizes 0 old mid r
first_formats g old mid r is makes told nvm ssd = subst (λ (x : Sizes). MakesEmpty x 0 old mid r) is makes told nvm ssd refl
