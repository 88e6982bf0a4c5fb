-- Between a well-formed inner page and one in short.
use Rattle.std.proofs.Common.{◌≡◌, ℕ, ◌+◌, ◌≤◌, true, List, [], ◌∷◌, length, nat_le, ◌||◌, refl, ap, sym, ◌∙◌, arith}
use Rattle.std.specs.List.{list_all}
use Rattle.std.proofs.lemmas.Bool.{leb-true, le-leb, eq-eqb, eqb-true, ne_eqb, and_parts}
use Rattle.page_format.specs.declared.root.Expect.{Expect}
use Rattle.rows.specs.Rows.{Ascends, ascends, last_key}
use Rattle.page_format.specs.Node.{children, first_keys, begins_at, is_page_below, inner_checks, page_kind, page_level, entry_count, first_failing, IsWellFormed}
use Rattle.page_format.specs.Inner.{IsBranch}
use Rattle.page_format.proofs.InnerLemmas.{length_children}
use Rattle.page_format.proofs.FactLemmas.{AllHold, all_hold, none_fails, ascends-true, ascends-is}

Ascends-wider : (low lower high higher : ℕ) (ks : List ℕ) → lower ≤ low → high ≤ higher → Ascends low high ks → Ascends lower higher ks
Ascends-wider low lower high higher [] h k up = tt
Ascends-wider low lower high higher (x ∷ xs) h k up = (omega (arith, h, up.0), omega (arith, k, up.1), Ascends-wider (x + 1) (x + 1) high higher xs (omega arith) k up.2)

-- What a well-formed inner page has, in short, and what makes one.
pub branch_from : (bytes : List ℕ) (expect : Expect) → length bytes ≡ 4096 → 1 ≤ expect.level → expect.high ≤ last_key → IsWellFormed bytes expect → IsBranch bytes
unfolding first_failing
branch_from bytes expect size above high well =
    let all : AllHold (inner_checks bytes expect) = all_hold (inner_checks bytes expect) (rw (ne_eqb expect.level 0 (λ e. omega (arith, e, above))) at well) in
    let number = and_parts (nat_le 2 (entry_count bytes)) (nat_le (entry_count bytes) 240) all.1.1.0 in
    let order = and_parts (begins_at expect.low (children bytes)) (ascends expect.low expect.high (first_keys (children bytes))) all.1.1.1.0 in
    record {
      inner = record { size = size; kind = eqb-true (page_kind bytes) 2 all.0; count = omega (arith, leb-true (entry_count bytes) 240 number.1) };
      above = omega (arith, eqb-true (page_level bytes) expect.level all.1.0, above);
      room = omega (arith, leb-true (entry_count bytes) 240 number.1, length_children bytes);
      order = Ascends-wider expect.low 0 expect.high last_key (first_keys (children bytes)) (omega arith) high (ascends-true expect.low expect.high (first_keys (children bytes)) order.1);
    }

pub branch_to : (bytes : List ℕ) (expect : Expect) → expect.level ≡ page_level bytes → IsBranch bytes → 2 ≤ length (children bytes) → begins_at expect.low (children bytes) ≡ true
    → Ascends expect.low expect.high (first_keys (children bytes)) → list_all (is_page_below expect.pages) (children bytes) ≡ true → (expect.root || nat_le 80 (length (children bytes))) ≡ true → IsWellFormed bytes expect
unfolding first_failing
branch_to bytes expect level branch some begins order below broad =
    let count = length_children bytes in
    rw (ne_eqb expect.level 0 (λ e. omega (arith, e, level, branch.above)))
    (none_fails (inner_checks bytes expect) (
      eq-eqb (page_kind bytes) 2 branch.inner.kind,
      (
        eq-eqb (page_level bytes) expect.level (sym level),
        (
          rw (le-leb 2 (entry_count bytes) (omega arith), le-leb (entry_count bytes) 240 (omega (arith, branch.room))) refl,
          (
            rw (begins, ascends-is expect.low expect.high (first_keys (children bytes)) order) refl,
            (
              below,
              (
                ap (λ (n : ℕ). expect.root || nat_le 80 n) (sym count) ∙ broad,
                tt,
              ),
            ),
          ),
        ),
      ),
    ))
