use Rattle.std.proofs.Common.{◌+◌, ◌-◌, ℕ, length, List, ◌∷◌, ◌++◌, ap, ◌∙◌, arith, replicate}
use Rattle.table_store.specs.Created.{field_of as field_of_name}
use Rattle.table_store.proofs.EntryLaws.{field_put}
use Rattle.table_store.proofs.creation.field_of.Goals as goal

pub returns-clause-field : goal.returns-clause-field
unfolding field_of_name
returns-clause-field c =
    let bytes = c.bytes-bytes.result.now in
    ap (λ (l : List ℕ). length bytes ∷ (c.copy_from_slice.new.self ++ l)) (field_put bytes (1 + length bytes - 1) (omega arith))
    ∙ ap (λ (l : List ℕ). length bytes ∷ (l ++ replicate (31 - length bytes) 0)) c.copy_from_slice.ensures.after
    ∙ ap (λ (l : List ℕ). length l ∷ (l ++ replicate (31 - length l) 0)) c.bytes-bytes.ensures.value
