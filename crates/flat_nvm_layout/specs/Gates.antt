-- The superblock that a value stands for.
use Rattle.flat_store_meaning.specs.Format.{magic}
use Rattle.flat_store_meaning.specs.Format.Format.{whole_lines}
use Rattle.flat_store_meaning.specs.Recovered.{Super}
use Rattle.flat_nvm_layout.specs.Sizes.{sizes_of}
use Rattle.flat_nvm_layout.specs.declared.superblock.Super.{Super as Gates}

-- While the log stays in NVM, `drained` is ignored, and counts as the start.
abbrev pub gates_of : Gates → Super
gates_of s = record { magic_word = magic whole_lines; sizes = sizes_of s.geometry; start = s.start; drained = s.start; tail = s.tail }
