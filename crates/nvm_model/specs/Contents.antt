-- What the state of an NVM stands for: its size, and its words by line and place.
use Rattle.std.specs.Prelude.{ℕ, ◌+◌, ◌*◌, List, get_or, nat_lt, if◌then◌else◌}
use Rattle.nvm_model.specs.declared.state.NvmState.{NvmState}
use Rattle.nvm_model.specs.Word.{Word, single}
use Rattle.nvm_model.specs.Memory.{Memory}
use Rattle.nvm_model.specs.Held.{helds_of, words_in}

-- the words of a list, eight a line; a word outside it is 0, with one version
abbrev pub memory_from : List Word → Memory
memory_from words line place = if nat_lt place 8 then get_or words (8 * line + place) (single 0) else single 0

-- the words of a state
unfoldable pub memory_of : NvmState → Memory
memory_of state = memory_from (words_in state.interval (helds_of state.words.items))

-- how many lines it has
abbrev pub lines_of : NvmState → ℕ
lines_of state = state.lines
