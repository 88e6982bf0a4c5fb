-- The superblock that a value stands for.
use Rattle.store_model.specs.Format.{magic}
use Rattle.store_model.specs.Format.Format.{whole_lines}
use Rattle.store_model.specs.Recovered.{Super}
use Rattle.nvm_layout.specs.Sizes.{sizes_of}
use Rattle.nvm_layout.specs.declared.superblock.Super.{Super as Gates}

abbrev pub gates_of : Gates → Super
gates_of s = record { magic_word = magic whole_lines; sizes = sizes_of s.geometry; start = s.start; drained = s.drained; tail = s.tail }
