-- A `&` to the places is a `&` to each value in them. Assumes `Logic`.
use mathlib.Core.List.{[], ◌++◌}
use base.Fml.{Incl-trans}
use contract.BorrowLft.{meet_⊑_left}
use denote.RattleType.{RattleType}
use denote.RawPtr.{RawPtr}
use denote.Param.Laws.{Laws}
use denote.Param.Shared.{copy_shared}
use denote.Struct.Laws.{field_copy}
use denote.Struct.Lending.{of_Lends}
use Rattle.core.specs.contracts.marker.PhantomData as marker
use Rattle.page_frame.specs.contracts.cells.Cells as cells
use Rattle.page_frame.proofs.cells.Cells.TheLaw.Statement.{statement}
use Rattle.page_frame.proofs.Sharing.{lent_laws, lends_all}

pub shares : (R : RattleType) (laws : Laws R) → statement R laws
shares R laws =
    let live = Incl-trans (meet_⊑_left (R.lives ++ []) _) (meet_⊑_left R.lives []) in
    of_Lends (cells.struct R) (cells.the_codes R.Denot R.coded (marker.the_row RawPtr).coded) (cells.the_heap R) (cells.the_lent R)
    (λ d p. lent_laws R laws.shr_laws d.at d.slots) (copy_shared (marker.the_field RawPtr) (field_copy (marker.the_type RawPtr) tt), tt)
    (λ M 𝓤 𝓛 d p. lends_all 𝓛 (cells.the_row R).lives R laws live d.at d.slots)
