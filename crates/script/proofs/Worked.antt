-- Worked examples of scripts, computed.
use Rattle.std.proofs.Common.{◌≡◌, ℕ, List, [], ◌∷◌, ◌++◌, refl, replicate}
use Rattle.std.specs.Prelude.{codes}
use Rattle.std.specs.Fmt.{digits}
use Rattle.script.specs.Replies.{text}
use Rattle.rows.specs.Tables.{Table}
use Rattle.script.specs.Machine.{Bounds}
use Rattle.script.specs.Script.{replies, commits, after}
use Rattle.texts.specs.Output.{strip, acked}

-- the default bounds
abbrev usual : Bounds
usual = record { tables = 4; rows = 20000; writes = 32 }

-- some lines, each with its line feed
abbrev lines_of : List (List ℕ) → List ℕ
lines_of [] = []
lines_of (l ∷ ls) = l ++ 10 ∷ lines_of ls

abbrev answers : Bounds → List (List ℕ) → List ℕ
answers bounds script = text (replies bounds [] (lines_of script))

first : answers usual (codes "begin" ∷ codes "create a" ∷ codes "put a 7 x" ∷ codes "commit" ∷ codes "get a 7" ∷ [])
    ≡ lines_of (codes "ok" ∷ codes "ok" ∷ codes "ok" ∷ codes "committed 1" ∷ codes "value x" ∷ [])
unfolding digits
first = refl

-- what is refused outside a transaction, and within one
refusals : answers usual (codes "put a 1 x" ∷ codes "begin" ∷ codes "begin" ∷ codes "put a 1 x" ∷ codes "commit" ∷ codes "commit" ∷ [])
    ≡ lines_of (codes "refused transaction" ∷ codes "ok" ∷ codes "refused transaction" ∷ codes "refused table" ∷ codes "committed 1" ∷ codes "refused transaction" ∷ [])
unfolding digits
refusals = refl

-- values of 480 and 481 bytes
long_values : answers usual (codes "begin" ∷ codes "create a" ∷ (codes "put a 1 " ++ replicate 480 118) ∷ (codes "put a 1 " ++ replicate 481 118) ∷ [])
    ≡ lines_of (codes "ok" ∷ codes "ok" ∷ codes "ok" ∷ codes "refused line" ∷ [])
unfolding digits
long_values = refl

-- an empty value, and what is no form
edges : answers usual (codes "begin" ∷ codes "create a" ∷ codes "put a 1 " ∷ codes "get a 1" ∷ codes "put a 1" ∷ codes "put a 007 x" ∷ replicate 1025 118 ∷ (35 ∷ replicate 2000 118) ∷ codes "" ∷ codes "put a 1 b c " ∷ codes "get a 1" ∷ codes "get  a 1" ∷ codes "get a 1 " ∷ codes " get a 1" ∷ codes "begin " ∷ codes "get A 1" ∷ codes "clean 0" ∷ codes "clean 65536" ∷ codes "clean 65537" ∷ (codes "drain" ++ 13 ∷ []) ∷ [])
    ≡ lines_of (codes "ok" ∷ codes "ok" ∷ codes "ok" ∷ codes "value " ∷ codes "refused line" ∷ codes "refused line" ∷ codes "refused line" ∷ codes "ok" ∷ codes "value b c " ∷ codes "refused line" ∷ codes "refused line" ∷ codes "refused line" ∷ codes "refused line" ∷ codes "refused line" ∷ codes "refused line" ∷ codes "ok" ∷ codes "refused line" ∷ codes "refused line" ∷ [])
unfolding digits
edges = refl

-- the whole range of keys, and one beyond it
whole_range : answers usual (codes "begin" ∷ codes "create a" ∷ codes "put a 18446744073709551615 q" ∷ codes "put a 0 p" ∷ codes "scan a 0 18446744073709551615" ∷ codes "scan a 5 4" ∷ codes "get a 18446744073709551616" ∷ [])
    ≡ lines_of (codes "ok" ∷ codes "ok" ∷ codes "ok" ∷ codes "ok" ∷ codes "row 0 p" ∷ codes "row 18446744073709551615 q" ∷ codes "end 2" ∷ codes "end 0" ∷ codes "refused line" ∷ [])
unfolding digits
whole_range = refl

-- a table of three rows at most
three_rows : answers (record { tables = 4; rows = 3; writes = 32 }) (codes "begin" ∷ codes "create a" ∷ codes "put a 1 x" ∷ codes "put a 2 x" ∷ codes "put a 3 x" ∷ codes "put a 4 x" ∷ codes "put a 2 y" ∷ codes "del a 1" ∷ codes "put a 4 x" ∷ [])
    ≡ lines_of (codes "ok" ∷ codes "ok" ∷ codes "ok" ∷ codes "ok" ∷ codes "ok" ∷ codes "refused full" ∷ codes "ok" ∷ codes "ok" ∷ codes "ok" ∷ [])
unfolding digits
three_rows = refl

-- a transaction of four writes at most
four_writes : answers (record { tables = 4; rows = 20000; writes = 4 }) (codes "begin" ∷ codes "create a" ∷ codes "put a 1 x" ∷ codes "put a 2 x" ∷ codes "put a 3 x" ∷ codes "put a 4 x" ∷ codes "del a 9" ∷ codes "commit" ∷ codes "scan a 0 9" ∷ [])
    ≡ lines_of (codes "ok" ∷ codes "ok" ∷ codes "ok" ∷ codes "ok" ∷ codes "ok" ∷ codes "refused writes" ∷ codes "refused writes" ∷ codes "committed 1" ∷ codes "row 1 x" ∷ codes "row 2 x" ∷ codes "row 3 x" ∷ codes "end 3" ∷ [])
unfolding digits
four_writes = refl

-- one table at most
one_table : answers (record { tables = 1; rows = 20000; writes = 32 }) (codes "begin" ∷ codes "create a" ∷ codes "create a" ∷ codes "create b" ∷ [])
    ≡ lines_of (codes "ok" ∷ codes "ok" ∷ codes "refused table" ∷ codes "refused tables" ∷ [])
unfolding digits
one_table = refl

abbrev nine_rows : List (List ℕ)
nine_rows = codes "begin" ∷ codes "create a" ∷ codes "put a 1 v" ∷ codes "put a 2 v" ∷ codes "put a 3 v" ∷ codes "put a 4 v" ∷ codes "put a 5 v" ∷ codes "put a 6 v" ∷ codes "put a 7 v" ∷ codes "put a 8 v" ∷ codes "put a 9 v" ∷ codes "commit" ∷ []

abbrev nine_tables : List Table
nine_tables = after usual [] (lines_of nine_rows) 1

nine_are : nine_tables ≡ (codes "a", (1, codes "v") ∷ (2, codes "v") ∷ (3, codes "v") ∷ (4, codes "v") ∷ (5, codes "v") ∷ (6, codes "v") ∷ (7, codes "v") ∷ (8, codes "v") ∷ (9, codes "v") ∷ []) ∷ []
unfolding digits
nine_are = refl

-- a later run changes three of nine rows, and removes one
after_nine : text (replies usual nine_tables (lines_of (codes "begin" ∷ codes "put a 1 y" ∷ codes "put a 2 y" ∷ codes "put a 3 y" ∷ codes "del a 9" ∷ codes "del a 9" ∷ codes "commit" ∷ codes "scan a 2 4" ∷ codes "get a 9" ∷ [])))
    ≡ lines_of (codes "ok" ∷ codes "ok" ∷ codes "ok" ∷ codes "ok" ∷ codes "ok" ∷ codes "none" ∷ codes "committed 1" ∷ codes "row 2 y" ∷ codes "row 3 y" ∷ codes "row 4 v" ∷ codes "end 3" ∷ codes "none" ∷ [])
unfolding digits
after_nine = refl

-- an open transaction at the end of the input is no commit, nor is an aborted one
unfinished : (answers usual (codes "begin" ∷ codes "create a" ∷ codes "put a 1 x" ∷ []) ≡ lines_of (codes "ok" ∷ codes "ok" ∷ codes "ok" ∷ []))
    × (commits usual [] (lines_of (codes "begin" ∷ codes "create a" ∷ codes "put a 1 x" ∷ [])) ≡ 0)
    × (after usual [] (lines_of (codes "begin" ∷ codes "create a" ∷ codes "put a 1 x" ∷ [])) 0 ≡ [])
    × (answers usual (codes "get a 1" ∷ codes "begin" ∷ codes "checkpoint" ∷ codes "drain" ∷ codes "clean 7" ∷ codes "create b" ∷ codes "abort" ∷ codes "get b 1" ∷ codes "checkpoint" ∷ [])
    ≡ lines_of (codes "refused table" ∷ codes "ok" ∷ codes "refused transaction" ∷ codes "ok" ∷ codes "ok" ∷ codes "ok" ∷ codes "aborted" ∷ codes "refused table" ∷ codes "ok" ∷ []))
unfolding digits
unfinished = (refl, refl, refl, refl)

-- a last line without a line feed counts where it is not empty
last_line : (text (replies usual [] (codes "begin" ++ 10 ∷ codes "abort")) ≡ lines_of (codes "ok" ∷ codes "aborted" ∷ []))
    × (text (replies usual [] (codes "begin" ++ 10 ∷ 10 ∷ [])) ≡ lines_of (codes "ok" ∷ []))
    × (text (replies usual [] []) ≡ [])
unfolding digits
last_line = (refl, refl, refl)

-- what stands aside of the replies is left out, an unfinished line too
stripped : (strip (lines_of (codes "+ read 0 0" ∷ codes "refused table" ∷ codes "# dram_hits 0" ∷ codes "! page 1" ∷ [])) ≡ lines_of (codes "refused table" ∷ []))
    × (strip (codes "ok" ++ 10 ∷ codes "# dra") ≡ lines_of (codes "ok" ∷ []))
    × (strip (codes "ok" ++ 10 ∷ codes "commi") ≡ codes "ok" ++ 10 ∷ codes "commi")
    × (strip (10 ∷ codes "ok") ≡ 10 ∷ codes "ok")
stripped = (refl, refl, refl, refl)

-- whole lines alone acknowledge
acknowledged : (acked (lines_of (codes "ok" ∷ codes "committed 1" ∷ codes "value committed 1" ∷ codes "committed 2" ∷ [])) ≡ 2)
    × (acked (codes "ok" ++ 10 ∷ codes "committed 1") ≡ 0)
    × (acked (codes "ok" ++ 10 ∷ codes "committed 1" ++ 10 ∷ []) ≡ 1)
acknowledged = (refl, refl, refl)
