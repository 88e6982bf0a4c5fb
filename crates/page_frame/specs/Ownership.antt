-- What the parts of a block own and lend, where each place has room for one value of the row R, of 64 bytes.
use Rattle.std.specs.Prelude.{◌≡◌, ℕ, ◌+◌, ◌*◌, ◌^◌, List, [], ◌∷◌, length, Option, Some, None}
use Rattle.std.specs.Mem.{type_size}
use base.Fraction.{full_share}
use base.Fml.{Lft, Fml, ftrue, ffalse, fsep, flt, froom}
use mir.Syntax.{Ty, w64, ty_int, ty_array}
use mir.Raw.{raw}
use prog.Memory.{align}
use denote.RattleType.{RattleType}
use denote.Memory.{lone, part_at, shared_of}
use denote.Sharing.{nothing, said, beside}
use denote.RawPtr.{Ptr, block_ptr, null_ptr}

module _ (R : RattleType) where
  -- the place that begins with byte o of block b: a value, or room for one of which nothing is known
  abbrev pub place_at : ℕ → ℕ → Option R.Denot → Fml
  place_at b o (Some value) = part_at R full_share value b o
  place_at b o None = froom (raw (lone R.mir)) b o

  -- places side by side
  abbrev pub places_at : ℕ → ℕ → List (Option R.Denot) → Fml
  places_at b o [] = ftrue
  places_at b o (place ∷ places) = fsep (place_at b o place) (places_at b (o + type_size R) places)

  -- what a `&` to the places lends of one of them
  abbrev pub place_lent : ℕ → ℕ → Option R.Denot → Lft → Fml
  place_lent b o (Some value) = shared_of R value b o
  place_lent b o None = nothing

  abbrev pub places_lent : ℕ → ℕ → List (Option R.Denot) → Lft → Fml
  places_lent b o [] = nothing
  places_lent b o (place ∷ places) = beside (place_lent b o place) (places_lent b (o + type_size R) places)

  -- the bytes of the places can be counted by a pointer's offset
  abbrev pub countable : List (Option R.Denot) → Fml
  countable places = flt (length places * type_size R) (2 ^ 63)

  abbrev pub owns_places : Ptr → List (Option R.Denot) → Fml
  owns_places (block_ptr b o) places = fsep (countable places) (places_at b o places)
  owns_places null_ptr places = ffalse

  abbrev pub lends_places : Ptr → List (Option R.Denot) → Lft → Fml
  lends_places (block_ptr b o) places = beside (said (countable places)) (places_lent b o places)
  lends_places null_ptr places = said ffalse

-- a value of the row takes 64 bytes, and begins at a multiple of eight
abbrev pub IsCacheLine : RattleType → Type 0
IsCacheLine R = (type_size R ≡ 64) × (align (lone R.mir) ≡ 8)

-- the bytes before the first place: six words
abbrev pub front : ℕ
front = 48

-- this many words of eight bytes
abbrev pub words : ℕ → Ty
words n = ty_array (ty_int w64) n

-- what a block of this many places is allocated as: eight words for each, and eight beside them
abbrev pub block_type : ℕ → Ty
block_type len = words (8 * len + 8)

-- the bytes beside the places: six words before them and two behind
abbrev pub margins : ℕ → ℕ → ℕ → Fml
margins b o len = fsep (froom (words 6) b o) (froom (words 2) b (o + front + len * 64))

-- the allocator's token for a block of this many places, and the bytes beside them
abbrev pub may_free : (Ty → Ptr → Fml) → Ptr → ℕ → Fml
may_free token (block_ptr b o) len = fsep (token (block_type len) (block_ptr b o)) (margins b o len)
may_free token null_ptr len = ffalse
