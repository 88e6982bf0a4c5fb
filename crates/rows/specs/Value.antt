-- The bytes that a row's value may have.
use Rattle.std.specs.Prelude.{ℕ, Bool, ◌&&◌, nat_le, List, length, Option, Some, None, if◌then◌else◌, IsTrue}
use Rattle.std.specs.List.{list_all}

-- from the space to the tilde
abbrev pub is_printable : ℕ → Bool
is_printable byte = nat_le 0x20 byte && nat_le byte 0x7E

-- at most 480 printable bytes of ASCII, the space among them
abbrev pub is_value : List ℕ → Bool
is_value bytes = nat_le (length bytes) 480 && list_all is_printable bytes

abbrev pub IsValue : List ℕ → Type 0
IsValue bytes = IsTrue (is_value bytes)

-- the value that the bytes are
abbrev pub value_of : List ℕ → Option (List ℕ)
value_of bytes = if is_value bytes then Some bytes else None
