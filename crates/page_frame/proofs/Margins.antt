-- A block is cut into its places and the bytes beside them, and joined again. Assumes `Logic`.
use mathlib.Core.Path.{◌≡◌, refl, sym, ap, subst, ◌∙◌}
use Prim.Native.Nat.{ℕ, zero, suc, ◌+◌, ◌*◌, ◌<◌, ◌^◌}
use native.Mathlib.Omega.{arith}
use mathlib.Core.List.{[], ◌∷◌}
use seplogic.Ra.Ura.{Ura}
use base.Logic.{ent, sep}
use base.Fml.{Fml, froom, fwand}
use mir.Syntax.{Ty, w64, ty_int, ty_array}
use prog.Memory.{size, align, capped}
use prog.Align.{Dv, dv_self}
use prog.Capped.{capped_is}
use types.Logic.{Logic, sem}
use types.Kit.{‵, ◌⊛◌, ◌$◌, ◌∵◌, !, qed, move, keep, use1, use2, split, fsplit, fjoin, rewrite, done}
use denote.RawPtr.Room.{past, room_cut, room_glue}
use Rattle.core.proofs.mem.Param.{El, R, elτ}
use Rattle.page_frame.specs.Ownership.{IsCacheLine, words, block_type, margins}

abbrev word : Ty
word = ty_int w64

-- so many words further on
further : (n o : ℕ) → past word n o ≡ o + n * 8
further zero o = omega arith
further (suc n) o = further n (o + 8) ∙ omega arith

module _ (E : El) (line : IsCacheLine (R E)) where
  pub size_of_block : (len : ℕ) → (len + 1) * size (elτ E) < 2 ^ 64 → capped (size (block_type len)) ≡ (len + 1) * size (elτ E)
  size_of_block len fits =
      let same : size (block_type len) ≡ (len + 1) * size (elτ E) = in_words len ∙ sym (ap (λ (s : ℕ). (len + 1) * s) line.0) in
      ap capped same ∙ capped_is ((len + 1) * size (elτ E)) fits
    where
      in_words : (len : ℕ) → (8 * len + 8) * 8 ≡ (len + 1) * 64
      in_words len = omega arith

  pub align_of_block : (len : ℕ) → capped (align (block_type len)) ≡ capped (align (elτ E))
  align_of_block len = ap capped (sym line.1)

  module _ {M : Type 1} {𝓤 : Ura M} (𝓛 : Logic 𝓤) (len b o : ℕ) where
    open 𝓛 use {H}

    abbrev Row : Fml
    Row = froom (ty_array (elτ E) len) b (o + 48)

    abbrev Words : ℕ → ℕ → Fml
    Words n at = froom (words n) b at

    in_row : size (words (8 * len)) ≡ size (ty_array (elτ E) len)
    in_row = in_words len ∙ sym (ap (λ (s : ℕ). len * s) line.0)
      where
        in_words : (len : ℕ) → 8 * len * 8 ≡ len * 64
        in_words len = omega arith

    -- rows of words and of lines have one size and one alignment
    as_row : ent 𝓤 (sem 𝓛 (Words (8 * len) (o + 48))) (sem 𝓛 Row)
    as_row = qed 𝓛 (‵ (Words (8 * len) (o + 48)) ∷ []) ∵
        use1 𝓛 (‵ Row ⊛ ‵ (fwand Row (Words (8 * len) (o + 48)))) (𝓛.laws.room_as (words (8 * len)) (ty_array (elτ E) len) b (o + 48) (sym in_row) (subst (λ (k : ℕ). Dv k 8) (sym line.1) (dv_self 8))) $
        split ! $ keep ! (0 ∷ []) $ done !

    as_words : ent 𝓤 (sem 𝓛 Row) (sem 𝓛 (Words (8 * len) (o + 48)))
    as_words = qed 𝓛 (‵ Row ∷ []) ∵
        use1 𝓛 (‵ (Words (8 * len) (o + 48)) ⊛ ‵ (fwand (Words (8 * len) (o + 48)) Row)) (𝓛.laws.room_as (ty_array (elτ E) len) (words (8 * len)) b (o + 48) in_row (subst (λ (k : ℕ). Dv 8 k) (sym line.1) (dv_self 8))) $
        split ! $ keep ! (0 ∷ []) $ done !

    all : 8 * len + 8 ≡ 6 + (8 * len + 2)
    all = omega arith

    behind : past word (8 * len) (o + 48) ≡ o + 48 + len * 64
    behind = further (8 * len) (o + 48) ∙ omega arith

    pub cut_margins : ent 𝓤 (H.room (block_type len) b o) (sep 𝓤 (sem 𝓛 (margins b o len)) (sem 𝓛 Row))
    cut_margins = qed 𝓛 (‵ (Words (8 * len + 8) o) ∷ []) ∵ rewrite ! 0 (λ (n : ℕ). ‵ (Words n o)) all refl $
        use1 𝓛 (‵ (Words 6 o) ⊛ ‵ (Words (8 * len + 2) (past word 6 o))) (room_cut 𝓛 word 6 (8 * len + 2) b o) $ split ! $ move ! (1 ∷ []) $
        rewrite ! 0 (λ (at : ℕ). ‵ (Words (8 * len + 2) at)) (further 6 o) refl $
        use1 𝓛 (‵ (Words (8 * len) (o + 48)) ⊛ ‵ (Words 2 (past word (8 * len) (o + 48)))) (room_cut 𝓛 word (8 * len) 2 b (o + 48)) $ split ! $
        use1 𝓛 (‵ Row) as_row $ move ! (1 ∷ []) $ rewrite ! 0 (λ (at : ℕ). ‵ (Words 2 at)) behind refl $ move ! (2 ∷ 0 ∷ 1 ∷ []) $ fjoin ! $ done !

    pub with_margins : ent 𝓤 (sep 𝓤 (sem 𝓛 (margins b o len)) (sem 𝓛 Row)) (H.room (block_type len) b o)
    with_margins = qed 𝓛 (‵ (margins b o len) ∷ ‵ Row ∷ []) ∵ fsplit ! $ move ! (2 ∷ []) $ use1 𝓛 (‵ (Words (8 * len) (o + 48))) as_words $ move ! (2 ∷ []) $
        rewrite ! 0 (λ (at : ℕ). ‵ (Words 2 at)) (sym behind) refl $ move ! (1 ∷ 0 ∷ []) $
        use2 𝓛 (‵ (Words (8 * len + 2) (o + 48))) (room_glue 𝓛 word (8 * len) 2 b (o + 48)) $
        rewrite ! 0 (λ (at : ℕ). ‵ (Words (8 * len + 2) at)) (sym (further 6 o)) refl $ move ! (1 ∷ 0 ∷ []) $
        use2 𝓛 (‵ (Words (6 + (8 * len + 2)) o)) (room_glue 𝓛 word 6 (8 * len + 2) b o) $ rewrite ! 0 (λ (n : ℕ). ‵ (Words n o)) (sym all) refl $ done !
