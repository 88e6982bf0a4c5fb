-- The grammar read both ways: a line is a command exactly where it is that command's spelling.
use Rattle.std.proofs.Common.{◌≡◌, ◌≤◌, List, [], ◌∷◌, ◌++◌, length, refl, ap, sym, ◌∙◌, arith, Option, Some, None, subst}
use Rattle.std.proofs.lemmas.Bool.{le-leb}
use Rattle.std.specs.Prelude.{codes, map, IfSome}
use Rattle.std.proofs.lemmas.List.{append-nil}
use Rattle.std.specs.List.{AllByRecursion}
use Rattle.texts.specs.Fields.{cut}
use Rattle.script.specs.Shapes.{bare, one_name, name_key, name_two_keys, name_key_value, one_count}
use Rattle.texts.specs.Forms.{by_word, longest_line}
use Rattle.texts.specs.Lines.{lines}
use Rattle.script.specs.Grammar.{forms, command_of, commands, IsCommand, spelling}
use Rattle.script.specs.declared.command.Command.{Command}
use Rattle.script.specs.declared.command.Command.TheVariants.{Create, Begin, Put, Del, Get, Scan, Commit, Abort, Checkpoint, Drain, Clean}
use Rattle.texts.proofs.FieldsLaws.{left_text}
use Rattle.texts.proofs.FormsLaws.{by_word_all, read_by_parts}
use Rattle.script.proofs.ShapesLaws.{Text, bare_sound, one_name_sound, one_name_complete, name_key_sound, name_key_complete, name_two_keys_sound, name_two_keys_complete, name_key_value_sound, name_key_value_complete, one_count_sound, one_count_complete}

module _ (word : Text) (left : Option Text) where
  -- what the words and the fields spell
  abbrev Spells : Command → Type 0
  Spells c = IsCommand c × (word ++ left_text left ≡ spelling c)

  bare_spells : (name : Text) (make : Command) → IsCommand make → spelling make ≡ name → (c : Command) → word ≡ name → bare make left ≡ Some c → Spells c
  bare_spells name make fits spelled c e h =
      let b = bare_sound make c left h in
      subst Spells b.1 (fits, ap (λ l. word ++ l) b.0 ∙ append-nil word ∙ e ∙ sym spelled)

  create_spells : (c : Command) → word ≡ codes "create" → one_name Create left ≡ Some c → Spells c
  create_spells c e h = let s = one_name_sound Create c left h in subst Spells s.2 (s.1, rw (e, s.3) refl)

  put_spells : (c : Command) → word ≡ codes "put" → name_key_value Put left ≡ Some c → Spells c
  put_spells c e h = let s = name_key_value_sound Put c left h in subst Spells s.6 ((s.3, s.4, s.5), rw (e, s.7) refl)

  del_spells : (c : Command) → word ≡ codes "del" → name_key Del left ≡ Some c → Spells c
  del_spells c e h = let s = name_key_sound Del c left h in subst Spells s.4 ((s.2, s.3), rw (e, s.5) refl)

  get_spells : (c : Command) → word ≡ codes "get" → name_key Get left ≡ Some c → Spells c
  get_spells c e h = let s = name_key_sound Get c left h in subst Spells s.4 ((s.2, s.3), rw (e, s.5) refl)

  scan_spells : (c : Command) → word ≡ codes "scan" → name_two_keys Scan left ≡ Some c → Spells c
  scan_spells c e h = let s = name_two_keys_sound Scan c left h in subst Spells s.6 ((s.3, s.4, s.5), rw (e, s.7) refl)

  clean_spells : (c : Command) → word ≡ codes "clean" → one_count 65536 Clean left ≡ Some c → Spells c
  clean_spells c e h = let s = one_count_sound 65536 (omega arith) Clean c left h in subst Spells s.2 (s.1, rw (e, s.3) refl)

  form_spells : (c : Command) → by_word forms word left ≡ Some c → Spells c
  form_spells c h = by_word_all Spells word left forms (
    create_spells,
    (
      bare_spells (codes "begin") Begin tt refl,
      (
        put_spells,
        (
          del_spells,
          (
            get_spells,
            (
              scan_spells,
              (
                bare_spells (codes "commit") Commit tt refl,
                (
                  bare_spells (codes "abort") Abort tt refl,
                  (
                    bare_spells (codes "checkpoint") Checkpoint tt refl,
                    (bare_spells (codes "drain") Drain tt refl, (clean_spells, tt)),
                  ),
                ),
              ),
            ),
          ),
        ),
      ),
    ),
  ) c h

-- a line that is a command is its spelling
pub command_sound : (line : Text) (c : Command) → command_of line ≡ Some c → IsCommand c × (line ≡ spelling c) × (length line ≤ longest_line)
command_sound line c h =
    let p = read_by_parts forms line c h in
    let s = form_spells (cut line).0 (cut line).1 c p.0 in
    (s.0, p.1 ∙ s.1, p.2)

-- and the spelling of a command is read as that command
spelled : (c : Command) → IsCommand c → by_word forms (cut (spelling c)).0 (cut (spelling c)).1 ≡ Some c
spelled (Create t) h = one_name_complete Create t h
spelled Begin h = refl
spelled (Put t k v) h = name_key_value_complete Put t k v h.0 h.1 h.2
spelled (Del t k) h = name_key_complete Del t k h.0 h.1
spelled (Get t k) h = name_key_complete Get t k h.0 h.1
spelled (Scan t low high) h = name_two_keys_complete Scan t low high h.0 h.1 h.2
spelled Commit h = refl
spelled Abort h = refl
spelled Checkpoint h = refl
spelled Drain h = refl
spelled (Clean n) h = one_count_complete 65536 (omega arith) Clean n h

pub command_complete : (c : Command) → IsCommand c → length (spelling c) ≤ longest_line → command_of (spelling c) ≡ Some c
command_complete c h short = rw (le-leb (length (spelling c)) longest_line short) (spelled c h)

-- ---- what is read can be written

can_be_written : (line : Text) (o : Option Command) → command_of line ≡ o → IfSome o IsCommand
can_be_written line None h = tt
can_be_written line (Some c) h = (command_sound line c h).0

pub IsCommand-read : (line : Text) → IfSome (command_of line) IsCommand
IsCommand-read line = can_be_written line (command_of line) refl

are_commands : (ls : List Text) → AllByRecursion (λ c. IfSome c IsCommand) (map command_of ls)
are_commands [] = tt
are_commands (l ∷ ls) = (IsCommand-read l, are_commands ls)

-- the commands of a script
pub IsCommand-script : (script : Text) → AllByRecursion (λ c. IfSome c IsCommand) (commands script)
IsCommand-script script = are_commands (lines script)
