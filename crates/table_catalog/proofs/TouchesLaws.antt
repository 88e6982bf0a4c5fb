-- The touches of a look-up of a name.
use Rattle.std.proofs.Common.{◌≡◌, ℕ, zero, suc, ◌+◌, false, List, [], ◌∷◌, ◌++◌, sym, ap, ◌∙◌, arith, append_assoc, append-nil, Some, Option, Result, Ok, Err, OnOk, IfOk}
use Rattle.line_pages.specs.declared.stop.Stop.{Stop}
use Rattle.line_pages.specs.Lines.{Lines}
use Rattle.line_pages.specs.Touch.{Touch, Access, touch_of}
use Rattle.line_pages.specs.Standing.{Standing}
use Rattle.table_catalog.specs.declared.entry.TableEntry.{TableEntry}
use Rattle.table_catalog.specs.Catalog.{entries, place_of, table_count, entry_touches, entries_read, lookup_touches}
use Rattle.table_catalog.specs.Lookup.{LooksUp}

entry_touches-more : (l n : ℕ) → entry_touches l (suc n) ≡ entry_touches l n ++ touch_of (Some (0, false)) 0 (l + n) false ∷ []
entry_touches-more l zero = let here : l ≡ l + 0 = omega arith in ap (λ (k : ℕ). touch_of (Some (0, false)) 0 k false ∷ []) here
entry_touches-more l (suc n) =
    let next : suc l + n ≡ l + suc n = omega arith in
    ap (λ ts. touch_of (Some (0, false)) 0 l false ∷ ts) (entry_touches-more (suc l) n ∙ ap (λ (k : ℕ). entry_touches (suc l) n ++ touch_of (Some (0, false)) 0 k false ∷ []) next)

-- one more entry read
pub touches_step : (old now new : List Touch) (i : ℕ) → now ≡ old ++ entry_touches 2 i → new ≡ now ++ touch_of (Some (0, false)) 0 (2 + i) false ∷ [] → new ≡ old ++ entry_touches 2 (i + 1)
touches_step old now new i so_far one =
    let next : suc i ≡ i + 1 = omega arith in
    one ∙ ap (λ ts. ts ++ touch_of (Some (0, false)) 0 (2 + i) false ∷ []) so_far ∙ append_assoc old (entry_touches 2 i) (touch_of (Some (0, false)) 0 (2 + i) false ∷ [])
    ∙ ap (λ ts. old ++ ts) (sym (entry_touches-more 2 i) ∙ ap (entry_touches 2) next)

-- line 0, then the entries
pub lines_then : (access : Option Access) (old mid new : List Touch) (lines : Lines) (name : List ℕ) (n : ℕ) (result : Result (Option TableEntry) Stop) → mid ≡ old ++ touch_of access 0 0 false ∷ [] → n ≡ table_count lines
    → IfOk result (λ place. place ≡ place_of name 0 (entries lines)) → IfOk result (λ place. new ≡ mid ++ entry_touches 2 (entries_read n place)) → OnOk result (new ≡ old ++ lookup_touches access lines name)
lines_then access old mid new lines name n (Ok place) first count is then_lines =
    then_lines ∙ ap (λ ts. ts ++ entry_touches 2 (entries_read n place)) first ∙ append_assoc old (touch_of access 0 0 false ∷ []) (entry_touches 2 (entries_read n place))
    ∙ ap (λ (k : ℕ). old ++ touch_of access 0 0 false ∷ entry_touches 2 (entries_read k place)) count
    ∙ ap (λ (o : Option TableEntry). old ++ touch_of access 0 0 false ∷ entry_touches 2 (entries_read (table_count lines) o)) is
lines_then access old mid new lines name n (Err e) first count is then_lines = tt

-- a first touch stays the first
pub first_on : {T : Type 0} (old mid new : List Touch) (t : Touch) (rest : List Touch) (result : Result T Stop) → mid ≡ old ++ t ∷ rest → (added : List Touch) × (new ≡ mid ++ added)
    → OnOk result ((more : List Touch) × (new ≡ old ++ t ∷ more))
first_on old mid new t rest (Ok v) first grown = (rest ++ grown.0, grown.1 ∙ ap (λ ts. ts ++ grown.0) first ∙ append_assoc old (t ∷ rest) grown.0)
first_on old mid new t rest (Err e) first grown = tt

-- a look-up alone, and one with what comes after it
pub looks_up : {A : Type 0} (name : List ℕ) (old new : Standing A) → new.touches ≡ old.touches ++ lookup_touches old.access old.current name → LooksUp name old new
looks_up name old new are = record {
  rest = [];
  touches = are ∙ ap (λ ts. old.touches ++ ts) (sym (append-nil (lookup_touches old.access old.current name)));
}

pub looks_up_on : {A T : Type 0} (name : List ℕ) (old mid new : Standing A) (result : Result T Stop) → mid.touches ≡ old.touches ++ lookup_touches old.access old.current name
    → (added : List Touch) × (new.touches ≡ mid.touches ++ added) → OnOk result (LooksUp name old new)
looks_up_on name old mid new (Ok v) first grown = record {
  rest = grown.0;
  touches = grown.1 ∙ ap (λ ts. ts ++ grown.0) first ∙ append_assoc old.touches (lookup_touches old.access old.current name) grown.0;
}
looks_up_on name old mid new (Err e) first grown = tt
