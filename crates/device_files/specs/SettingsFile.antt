-- What a read of the settings does, as far as the file's type says what it has left.
use Rattle.std.specs.Prelude.{◌≡◌, ℕ, List, Option, IsSomeAnd, take}
use Rattle.std.specs.Io.KnownBytes.{Consumes, IsAtEnd}

-- The next bytes of an open file were taken, none of them only at its end, and it is still open.
pub record TakesOn {F : Type 0} (remaining : F → Option (List ℕ)) (file : F) (new_file : Option F) (count : ℕ) (into : List ℕ) : Type 0 where
  pub taken : IsSomeAnd new_file (λ after. Consumes (remaining file) (remaining after) (take count into))
  pub end : IsSomeAnd new_file (λ after. count ≡ 0 → IsAtEnd (remaining after))
