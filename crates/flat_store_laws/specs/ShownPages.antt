-- The lines that a state of the devices shows: the current ones and the committed ones.
use Rattle.devices.specs.State.{State, current}
use Rattle.line_pages.specs.Lines.{Lines}
use Rattle.flat_store_meaning.specs.Layout.{Sizes, pages, frame_line}
use Rattle.flat_store_meaning.specs.Log.{Words}
use Rattle.flat_store_meaning.specs.Format.Format.{whole_lines}
use Rattle.flat_store_meaning.specs.Recovered.{lines_of, recovered_pages}

-- the newest words of the frames
abbrev pub words_in : Sizes → State → Words
words_in g s p l w = (s.nvm (frame_line g p l) w).newest

abbrev pub pages_in : Sizes → State → Lines
pages_in g s = lines_of (pages g) (words_in g s)

-- what recovery gives of the newest words
abbrev pub committed_in : State → Lines
committed_in s = recovered_pages whole_lines (current s)
