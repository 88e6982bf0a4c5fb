-- An image that is a store with an empty log: the facts hold of a device that was made of it.
use Rattle.std.proofs.Common.{◌≡◌, ℕ, zero, suc, ◌-◌, true, false, List, [], refl, sym, ap, ◌∙◌, subst, inl, inr, arith}
use Rattle.nvm_model.specs.declared.line.Line.{Line}
use Rattle.devices.specs.State.{Image, Leaves, fresh}
use Rattle.flat_store_meaning.specs.Layout.{Sizes, frame_line}
use Rattle.flat_store_meaning.specs.Log.{Log, is_logged, no_log, grouped}
use Rattle.flat_store_meaning.specs.Format.{entries}
use Rattle.flat_store_meaning.specs.Format.Format.{whole_lines}
use Rattle.flat_store_meaning.specs.Recovered.{Super, super_of, from, log_line, log_lines, log_of, home, IsStore}
use Rattle.flat_store_meaning.specs.StoreFacts.{StoreFacts}
use Rattle.flat_store_meaning.specs.AtEnd.{LogEnds}
use Rattle.flat_store_meaning.proofs.EndsLaws.{none_ends}
use Rattle.devices.proofs.FreshLaws.{fresh_only}
use Rattle.flat_store_laws.specs.OpenFacts.{OpenFacts, keeping, super_with}

module _ (g : Sizes) (start : ℕ) (i : Image) (super_words : super_of i ≡ super_with g start start) (store : IsStore whole_lines i) where
  nothing : (f : ℕ → Line) (n : ℕ) → n ≡ 0 → from f start n ≡ []
  nothing f zero e = refl
  nothing f (suc n) e = absurd (omega arith)

  no_lines : log_lines i ≡ []
  no_lines = ap (λ (x : Super). from (log_line x.sizes x.drained i) x.start (x.tail - x.start)) super_words ∙ nothing (log_line g start i) (start - start) (omega arith)

  empty : (j : Image) → Leaves (fresh i) j → log_of whole_lines j ≡ no_log
  empty j left = ap (log_of whole_lines) (fresh_only i j left) ∙ ap (λ (lines : List Line). grouped no_log (entries whole_lines 0 lines)) no_lines

  unlogged : (j : Image) → Leaves (fresh i) j → (p l w : ℕ) → is_logged (log_of whole_lines j) p l w ≡ true → ⊥
  unlogged j left p l w h =
      let none : is_logged (log_of whole_lines j) p l w ≡ false = ap (λ (x : Log). is_logged x p l w) (empty j left) in
      let both : true ≡ false = sym h ∙ none in absurd (cc)

  same_home : (j : Image) → Leaves (fresh i) j → (p l w : ℕ) → home j p l w ≡ home i p l w
  same_home j left p l w = ap (λ (x : Image). home x p l w) (fresh_only i j left)

  facts : StoreFacts (keeping g (home i) (home i)) (fresh i)
  facts = record {
    gates = record { sizes = λ w low high. refl; others = λ gate none. refl; changing = λ change at v version. absurd (cc) };
    sizes = λ j left. ap (λ (x : Image). (super_of x).sizes) (fresh_only i j left) ∙ ap (λ (x : Super). x.sizes) super_words;
    durable = λ j left. record {
      log = λ o above below. record { in_nvm = λ drained w hw. refl; in_ssd = λ under. refl };
      homes = λ p l w word h v version. elim version [ inl e ↦ e | inr none ↦ absurd none ];
    };
    homes = λ j left. record { current = λ p l w word h. same_home j left p l w; committed = λ p l w word h. same_home j left p l w };
    log = λ j left. record { logged = λ p l w word h homes. absurd (unlogged j left p l w h); pending = λ p l w word h named. same_home j left p l w };
    copies = λ j left p l w line word none h. absurd (cc);
    stores = λ j left. subst (λ (x : Image). IsStore whole_lines x) (sym (fresh_only i j left)) store;
  }

  -- A device in this state is ready and steady, and its current words are its committed ones.
  pub open_empty : OpenFacts g start start (fresh i)
  open_empty = record {
    words = home i;
    kept = home i;
    super_words = super_words;
    facts = facts;
    newest = λ p l w word. sym (ap (λ (x : Super). i.nvm (frame_line x.sizes p l) w) super_words);
    flushed = λ p l w word. refl;
    ends = λ j left. subst (λ (log : Log). LogEnds g log (home i)) (sym (empty j left)) (none_ends g (home i));
  }
