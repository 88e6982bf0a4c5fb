-- The places can be lent as their values can. Assumes `Logic`.
use Prim.Native.Nat.{ℕ, ◌+◌}
use Rattle.std.specs.Prelude.{List, [], ◌∷◌, Option, Some, None}
use Rattle.std.specs.Mem.{type_size}
use seplogic.Ra.Ura.{Ura}
use base.Fml.{Lft, Incl, ftrue, ffalse}
use types.Logic.{Logic}
use denote.RattleType.{RattleType, RowLaws}
use denote.Param.Laws.{Laws}
use denote.RawPtr.{Ptr, block_ptr, null_ptr}
use denote.Sharing.{ShrLaws, said}
use denote.SharingLaws.{beside_shr_laws, nothing_shr_laws, said_shr_laws}
use denote.Shares.{Shares-less}
use denote.Struct.Lending.{Lends, Lends-both, Lends-nothing, Lends-said, Lends-false}
use Rattle.page_frame.specs.Ownership.{place_at, places_at, place_lent, places_lent, countable, owns_places, lends_places}

module _ (R : RattleType) (rows : RowLaws R) where
  place_laws : (b o : ℕ) (place : Option R.Denot) → ShrLaws (place_lent R b o place)
  place_laws b o None = nothing_shr_laws
  place_laws b o (Some value) = rows value b o

  row_laws : (b o : ℕ) (places : List (Option R.Denot)) → ShrLaws (places_lent R b o places)
  row_laws b o [] = nothing_shr_laws
  row_laws b o (place ∷ places) = beside_shr_laws _ _ (place_laws b o place) (row_laws b (o + type_size R) places)

  pub lent_laws : (at : Ptr) (places : List (Option R.Denot)) → ShrLaws (lends_places R at places)
  lent_laws null_ptr places = said_shr_laws ffalse tt
  lent_laws (block_ptr b o) places = beside_shr_laws _ _ (said_shr_laws (countable R places) tt) (row_laws b o places)

module _ {M : Type 1} {𝓤 : Ura M} (𝓛 : Logic 𝓤) (l : Lft) (R : RattleType) (laws : Laws R) (lives : Incl l R.lives) where
  lends_one : (b o : ℕ) (place : Option R.Denot) → Lends 𝓛 (place_at R b o place) (place_lent R b o place) l
  lends_one b o None = Lends-nothing 𝓛 (place_at R b o None) l
  lends_one b o (Some value) = λ κ ts. Shares-less 𝓛 R R.lives l lives (laws.shares 𝓛) value κ ts b o

  lends_row : (b o : ℕ) (places : List (Option R.Denot)) → Lends 𝓛 (places_at R b o places) (places_lent R b o places) l
  lends_row b o [] = Lends-nothing 𝓛 ftrue l
  lends_row b o (place ∷ places) =
      let next = o + type_size R in
      Lends-both 𝓛 (place_at R b o place) (places_at R b next places) (place_lent R b o place) (places_lent R b next places) l (lends_one b o place) (lends_row b next places)

  pub lends_all : (at : Ptr) (places : List (Option R.Denot)) → Lends 𝓛 (owns_places R at places) (lends_places R at places) l
  lends_all null_ptr places = Lends-false 𝓛 (said ffalse) l
  lends_all (block_ptr b o) places =
      let fits = countable R places in
      Lends-both 𝓛 fits (places_at R b o places) (said fits) (places_lent R b o places) l (Lends-said 𝓛 fits tt l) (lends_row b o places)
