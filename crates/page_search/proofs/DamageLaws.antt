-- The damage of a page, by what was expected of it and by its bounds alone.
use Rattle.std.proofs.Common.{◌≡◌, ℕ, ◌+◌, ◌*◌, ◌<◌, Bool, true, false, refl, List, [], ◌∷◌, ◌++◌, Some, not, nat_eq, nat_le, ◌==◌, ◌&&◌, ◌||◌, inl, inr, sym, subst, ◌∙◌}
use Rattle.std.specs.List.{list_all}
use Rattle.std.proofs.lemmas.Bool.{cases_Bool, cases_eq, eq-eqb, ne_eqb}
use Rattle.damage.specs.declared.evidence.Evidence.TheVariants.{Page}
use Rattle.line_pages.specs.Lines.{Lines}
use Rattle.line_pages.specs.Bytes.{bytes_of}
use Rattle.page_format.specs.declared.root.Expect.{Expect}
use Rattle.damage.specs.Checks.{first_failure, fails}
use Rattle.rows.specs.Rows.{keys, ascends}
use Rattle.page_format.specs.Room.{leaf_room, leaf_floor, inner_room, inner_floor}
use Rattle.page_format.specs.Node.{page_kind, page_level, entry_count, heap_start, slots, bytes_used, is_in_heap, all_apart, has_printable_value, begins_at, first_keys, is_page_below, leaf_rows, children, checks, first_failing}
use Rattle.page_format.specs.Search.{is_root_span, IsNodeDamage, FailsNode}

-- the same page, expected as a root or not
abbrev pub as_root : Expect → Bool → Expect
as_root expect root = record expect { root = root }

-- the first check that fails of a root's checks fails of the others too, which are those and one more behind them
last_more : {X : Type 0} (xs : List (X × Bool)) (n c : X) (b : Bool) → first_failure (xs ++ (n, true) ∷ []) ≡ Some c → first_failure (xs ++ (n, b) ∷ []) ≡ Some c
last_more [] n c b e = absurd (cc)
last_more (x ∷ xs) n c b e =
    elim (cases_Bool x.1) [
      | inl holds ↦ rw holds (last_more xs n c b (rw holds at e))
      | inr fails ↦ let there = rw fails at e in rw fails there
    ]

-- the checks of a leaf and of an inner page, but the last, which a root need not pass
abbrev pub leaf_front : List ℕ → Expect → List (ℕ × Bool)
leaf_front bytes expect =
    (11, page_kind bytes == 1)
    ∷ (12, page_level bytes == expect.level)
    ∷ (13, nat_le (64 + 4 * entry_count bytes) (heap_start bytes) && nat_le (heap_start bytes) 4096)
    ∷ (14, list_all (is_in_heap (heap_start bytes)) (slots bytes) && all_apart (slots bytes))
    ∷ (15, nat_le (bytes_used (slots bytes)) leaf_room)
    ∷ (16, ascends expect.low expect.high (keys (leaf_rows bytes)))
    ∷ (17, list_all has_printable_value (leaf_rows bytes)) ∷ []

abbrev pub inner_front : List ℕ → Expect → List (ℕ × Bool)
inner_front bytes expect =
    (11, page_kind bytes == 2)
    ∷ (12, page_level bytes == expect.level)
    ∷ (18, nat_le 2 (entry_count bytes) && nat_le (entry_count bytes) inner_room)
    ∷ (19, begins_at expect.low (children bytes) && ascends expect.low expect.high (first_keys (children bytes)))
    ∷ (20, list_all (is_page_below expect.pages) (children bytes)) ∷ []

root_less : (bytes : List ℕ) (expect : Expect) (check : ℕ) (root : Bool) → first_failing bytes (as_root expect true) ≡ Some check → first_failing bytes (as_root expect root) ≡ Some check
unfolding first_failing
root_less bytes expect check root e =
    elim (cases_eq expect.level 0) [
      | inl zero_level ↦ rw (eq-eqb expect.level 0 zero_level) (last_more (leaf_front bytes expect) 21 check (root || nat_le leaf_floor (bytes_used (slots bytes))) (rw (eq-eqb expect.level 0 zero_level) at e))
      | inr above ↦ rw (ne_eqb expect.level 0 above) (last_more (inner_front bytes expect) 22 check (root || nat_le inner_floor (entry_count bytes)) (rw (ne_eqb expect.level 0 above) at e))
    ]

pub by_bounds : (bytes : List ℕ) (expect : Expect) (check : ℕ) → (is_root_span expect.low expect.high ≡ true → expect.root ≡ true) → first_failing bytes expect ≡ Some check
    → first_failing bytes (as_root expect (is_root_span expect.low expect.high)) ≡ Some check
by_bounds bytes expect check root e =
    elim (cases_Bool expect.root) [
      | inl yes_it ↦ root_less bytes expect check (is_root_span expect.low expect.high) (subst (λ b. first_failing bytes (as_root expect b) ≡ Some check) yes_it e)
      | inr no_it ↦ elim (cases_Bool (is_root_span expect.low expect.high)) [
        | inl whole ↦ let wrong = root whole in absurd (cc)
        | inr part ↦ subst (λ b. first_failing bytes (as_root expect b) ≡ Some check) (no_it ∙ sym part) e
      ]
    ]

-- what read_page answers, whatever the store holds
pub fails_of : (count page check : ℕ) (expect : Expect) (buffer : List ℕ) → page < count → expect.pages ≡ count → (is_root_span expect.low expect.high ≡ true → expect.root ≡ true)
    → first_failing buffer expect ≡ Some check → FailsNode count buffer (Page page expect.level expect.low expect.high check)
fails_of count page check expect buffer inside pages root first = (
  inside,
  subst (λ n. first_failing buffer (record { level = expect.level; low = expect.low; high = expect.high; root = is_root_span expect.low expect.high; pages = n }) ≡ Some check) pages (by_bounds buffer expect check root first),
)

-- and where the buffer has the page's bytes
pub damage_of : (count page check : ℕ) (expect : Expect) (lines : Lines) (buffer : List ℕ) → page < count → expect.pages ≡ count → (is_root_span expect.low expect.high ≡ true → expect.root ≡ true)
    → buffer ≡ bytes_of lines page → first_failing buffer expect ≡ Some check → IsNodeDamage count lines buffer (Page page expect.level expect.low expect.high check)
damage_of count page check expect lines buffer inside pages root is first =
    let failing = fails_of count page check expect buffer inside pages root first in
    (failing.0, is, failing.1)

or_last : (x y : Bool) → y ≡ true → (x || y) ≡ true
or_last true y e = refl
or_last false y e = e

-- the first check that fails is one that fails
pub first_fails : (list : List (ℕ × Bool)) (number : ℕ) → first_failure list ≡ Some number → fails list number ≡ true
first_fails [] number first = absurd (cc)
first_fails (check ∷ rest) number first =
    elim (cases_Bool check.1) [
      | inl holds ↦ or_last (nat_eq check.0 number && not check.1) (fails rest number) (first_fails rest number (rw holds at first))
      | inr broken ↦ let here : Some check.0 ≡ Some number = rw broken at first in let same : check.0 ≡ number = cc in rw (broken, eq-eqb check.0 number same) refl
    ]

-- the bytes beside the evidence fail the check that it names
pub damage_fails : (count page level low high check : ℕ) (lines : Lines) (buffer : List ℕ) → IsNodeDamage count lines buffer (Page page level low high check)
    → fails (checks buffer (record { level = level; low = low; high = high; root = is_root_span low high; pages = count })) check ≡ true
unfolding first_failing
damage_fails count page level low high check lines buffer damage =
    first_fails (checks buffer (record { level = level; low = low; high = high; root = is_root_span low high; pages = count })) check damage.2
