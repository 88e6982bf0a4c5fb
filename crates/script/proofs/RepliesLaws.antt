-- The text of replies: each is one line, none stands aside, and the commits among them are what is acknowledged.
use Rattle.std.proofs.Common.{◌≡◌, ℕ, ◌≤◌, true, false, List, [], ◌∷◌, refl, ◌∙◌, arith}
use Rattle.std.proofs.lemmas.Bool.{and_parts, leb-true, ne_eqb}
use Rattle.std.proofs.lemmas.List.Folds.{list_any-append}
use Rattle.std.specs.Prelude.{nat_le, ◌==◌, decimal}
use Rattle.std.specs.List.{list_all}
use Rattle.rows.specs.Value.{is_printable}
use Rattle.rows.specs.Value.{IsValue}
use Rattle.texts.specs.Lines.{line_feed, has_line_feed}
use Rattle.texts.specs.Fields.{space}
use Rattle.script.specs.Replies.{IsReply, reply_line, reply_text, is_committed}
use Rattle.texts.specs.Output.{acknowledges}
use Rattle.script.specs.declared.command.Reason.TheVariants.{Form, Transaction, Table, Writes, Tables, Full}
use Rattle.script.specs.declared.command.Reply.{Reply}
use Rattle.script.specs.declared.command.Reply.TheVariants.{Fine, Found, Absent, Row, Finish, Committed, Aborted, Refused}
use Rattle.texts.proofs.NumbersLaws.{decimal_not}
use Rattle.texts.proofs.OutputLaws.{keeps}
use Rattle.texts.proofs.TextLaws.{ends, AreLines}

bytes_not : (v : List ℕ) → list_all is_printable v ≡ true → has_line_feed v ≡ false
bytes_not [] h = refl
bytes_not (b ∷ v) h =
    let p = and_parts (is_printable b) (list_all is_printable v) h in
    let low : 32 ≤ b = leb-true 32 b (and_parts (nat_le 32 b) (nat_le b 126) p.0).0 in
    rw (ne_eqb b line_feed (λ e. omega arith), bytes_not v p.1) refl

value_not : (v : List ℕ) → IsValue v → has_line_feed v ≡ false
value_not v h = bytes_not v (and_parts _ (list_all is_printable v) h).1

number_not : (n : ℕ) → has_line_feed (decimal n) ≡ false
number_not n = decimal_not line_feed n (omega arith)

pub reply_is_line : (r : Reply) → IsReply r → has_line_feed (reply_line r) ≡ false
reply_is_line Fine h = refl
reply_is_line (Found v) h = value_not v h
reply_is_line Absent h = refl
reply_is_line (Row k v) h = list_any-append (λ b. b == line_feed) (decimal k) (space ∷ v) ∙ rw (number_not k, value_not v h) refl
reply_is_line (Finish n) h = number_not n
reply_is_line (Committed n) h = number_not n
reply_is_line Aborted h = refl
reply_is_line (Refused Form) h = refl
reply_is_line (Refused Transaction) h = refl
reply_is_line (Refused Table) h = refl
reply_is_line (Refused Writes) h = refl
reply_is_line (Refused Tables) h = refl
reply_is_line (Refused Full) h = refl

pub reply_keeps : (r : Reply) → keeps (reply_text r) ≡ true
reply_keeps Fine = refl
reply_keeps (Found v) = refl
reply_keeps Absent = refl
reply_keeps (Row k v) = refl
reply_keeps (Finish n) = refl
reply_keeps (Committed n) = refl
reply_keeps Aborted = refl
reply_keeps (Refused r) = refl

pub reply_acknowledges : (r : Reply) → acknowledges (reply_text r) ≡ is_committed r
reply_acknowledges Fine = refl
reply_acknowledges (Found v) = refl
reply_acknowledges Absent = refl
reply_acknowledges (Row k v) = refl
reply_acknowledges (Finish n) = refl
reply_acknowledges (Committed n) = ends (decimal n)
reply_acknowledges Aborted = refl
reply_acknowledges (Refused r) = refl

pub are_lines : AreLines reply_line IsReply is_committed
are_lines = record { one_line = reply_is_line; stands = reply_keeps; told = reply_acknowledges }
