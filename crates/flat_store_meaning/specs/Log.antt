-- A log of changed words: its groups, what they name, and what replay makes of the pages.
use Rattle.std.specs.Prelude.{ℕ, Bool, true, false, ◌&&◌, ◌||◌, List, [], ◌∷◌, ◌++◌, take, slice_index, if◌then◌else◌, ◌==◌}
use Rattle.std.specs.Int.{bit_at}
use Rattle.nvm_model.specs.declared.line.Line.{Line}

-- a value for each word of each line of each page
abbrev pub Words : Type 0
Words = ℕ → ℕ → ℕ → ℕ

-- A record of a write: the line of a page, a mask whose bit w names word w, and the line before and after.
pub record Change : Type 0 where
  pub page : ℕ
  pub line : ℕ
  pub mask : ℕ
  pub before : Line
  pub after : Line

-- the record names word w of line l of page p
abbrev pub names : Change → ℕ → ℕ → ℕ → Bool
names change p l w = (change.page == p) && ((change.line == l) && (bit_at change.mask w == 1))

-- one of the records names it
abbrev pub named_in : List Change → ℕ → ℕ → ℕ → Bool
named_in [] p l w = false
named_in (change ∷ changes) p l w = names change p l w || named_in changes p l w

-- What stands in a group: a record, or a cut, which drops all but the first n records that are kept.
pub data Item : Type 0 where
  write : Change → Item
  cut : ℕ → Item

-- What stands in a log.
pub data Entry : Type 0 where
  item : Item → Entry
  commit abort : Entry

-- A group is what stands since the last end, with the commit or abort that ended it.
pub record Group : Type 0 where
  pub items : List Item
  pub committed : Bool

-- A log is the groups that were ended, in order, and what stands behind the last end.
pub record Log : Type 0 where
  pub closed : List Group
  pub open_items : List Item

abbrev pub no_log : Log
no_log = record { closed = []; open_items = [] }

-- a log with one entry more
abbrev pub extended : Log → Entry → Log
extended log (item x) = record log { open_items = log.open_items ++ x ∷ [] }
extended log commit = record { closed = log.closed ++ record { items = log.open_items; committed = true } ∷ []; open_items = [] }
extended log abort = record { closed = log.closed ++ record { items = log.open_items; committed = false } ∷ []; open_items = [] }

-- a log with these entries more, the first of them first
abbrev pub grouped : Log → List Entry → Log
grouped log [] = log
grouped log (entry ∷ entries) = grouped (extended log entry) entries

-- the records among these, cut or not
abbrev pub changes : List Item → List Change
changes [] = []
changes (write change ∷ items) = change ∷ changes items
changes (cut n ∷ items) = changes items

-- The records that are kept: a record is put last, and a cut leaves the first n, or all where fewer stand.
abbrev pub kept : List Change → List Item → List Change
kept so_far [] = so_far
kept so_far (write change ∷ items) = kept (so_far ++ change ∷ []) items
kept so_far (cut n ∷ items) = kept (take n so_far) items

-- the triples that the records of a log name
abbrev pub named_in_groups : List Group → ℕ → ℕ → ℕ → Bool
named_in_groups [] p l w = false
named_in_groups (group ∷ groups) p l w = named_in (changes group.items) p l w || named_in_groups groups p l w

abbrev pub is_logged : Log → ℕ → ℕ → ℕ → Bool
is_logged log p l w = named_in_groups log.closed p l w || named_in (changes log.open_items) p l w

-- the words that the record names have these values, and all others stay
abbrev pub written : Change → Line → Words → Words
written change values pages p l w = if names change p l w then slice_index values.words w else pages p l w

-- the after values, record by record in order
abbrev pub redone : List Change → Words → Words
redone [] pages = pages
redone (change ∷ changes) pages = redone changes (written change change.after pages)

-- the before values, record by record from last to first
abbrev pub undone : List Change → Words → Words
undone [] pages = pages
undone (change ∷ changes) pages = written change change.before (undone changes pages)

-- A group that ends by a commit writes the after values, any other the before values.
abbrev pub applied : Group → Words → Words
applied group pages = if group.committed then redone (changes group.items) pages else undone (changes group.items) pages

-- With cuts a group writes the before values of all its records, and where it ends by a commit then the after values
-- of those that are kept.
abbrev pub applied_with_cuts : Group → Words → Words
applied_with_cuts group pages =
    let back = undone (changes group.items) pages in
    if group.committed then redone (kept [] group.items) back else back

-- groups in order
abbrev pub applied_all : (Group → Words → Words) → List Group → Words → Words
applied_all apply [] pages = pages
applied_all apply (group ∷ groups) pages = applied_all apply groups (apply group pages)

-- what stands behind the last end is a group that didn't commit
abbrev pub last_group : Log → Group
last_group log = record { items = log.open_items; committed = false }

-- what the groups of a log make of the pages, in order, the last one too
abbrev pub replayed_by : (Group → Words → Words) → Log → Words → Words
replayed_by apply log pages = apply (last_group log) (applied_all apply log.closed pages)

abbrev pub replayed : Log → Words → Words
replayed log pages = replayed_by applied log pages

abbrev pub replayed_with_cuts : Log → Words → Words
replayed_with_cuts log pages = replayed_by applied_with_cuts log pages
