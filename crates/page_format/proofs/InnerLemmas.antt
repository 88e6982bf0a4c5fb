-- The children of an inner page, by index.
use Rattle.std.proofs.Common.{◌≡◌, ℕ, zero, suc, ◌+◌, ◌*◌, ◌<◌, List, [], length, get_or, refl, ap, ◌∙◌, arith}
use Rattle.std.proofs.lemmas.List.{same_lists}
use Rattle.line_pages.specs.Bytes.{u64_at}
use Rattle.page_format.specs.Node.{Child, children, children_from, entry_count}
use Rattle.page_format.specs.Inner.{entry_of}

children_from-length : (bytes : List ℕ) (at n : ℕ) → length (children_from bytes at n) ≡ n
children_from-length bytes at zero = refl
children_from-length bytes at (suc n) = ap suc (children_from-length bytes (at + 16) n)

children_from-get : (bytes : List ℕ) (at n i : ℕ) (d : Child) → i < n → get_or (children_from bytes at n) i d ≡ (u64_at bytes (at + 16 * i), u64_at bytes (at + 8 + 16 * i))
children_from-get bytes at zero i d h = absurd (omega arith)
children_from-get bytes at (suc n) zero d h = ap (λ (k : ℕ). (u64_at bytes k, u64_at bytes (k + 8))) (plus at) ∙ ap (λ (k : ℕ). (u64_at bytes (at + 16 * 0), u64_at bytes k)) (plus8 at)
  where
    plus : (at : ℕ) → at ≡ at + 16 * 0
    plus at = omega arith

    plus8 : (at : ℕ) → at + 16 * 0 + 8 ≡ at + 8 + 16 * 0
    plus8 at = omega arith
children_from-get bytes at (suc n) (suc i) d h =
    children_from-get bytes (at + 16) n i d (omega arith)
    ∙ ap (λ (k : ℕ). (u64_at bytes k, u64_at bytes (at + 16 + 8 + 16 * i))) (plus at i) ∙ ap (λ (k : ℕ). (u64_at bytes (at + 16 * suc i), u64_at bytes k)) (plus8 at i)
  where
    plus : (at i : ℕ) → at + 16 + 16 * i ≡ at + 16 * suc i
    plus at i = omega arith

    plus8 : (at i : ℕ) → at + 16 + 8 + 16 * i ≡ at + 8 + 16 * suc i
    plus8 at i = omega arith

pub length_children : (bytes : List ℕ) → length (children bytes) ≡ entry_count bytes
unfolding children
length_children bytes = children_from-length bytes 64 (entry_count bytes)

pub child_at : (bytes : List ℕ) (i : ℕ) (d : Child) → i < entry_count bytes → get_or (children bytes) i d ≡ entry_of bytes i
unfolding children
child_at bytes i d h = children_from-get bytes 64 (entry_count bytes) i d h

-- a page's children are a list where each entry is
pub children_are : (bytes : List ℕ) (all : List Child) → entry_count bytes ≡ length all → ((k : ℕ) (d : Child) → k < length all → entry_of bytes k ≡ get_or all k d) → children bytes ≡ all
children_are bytes all count each =
    same_lists (children bytes) all (length_children bytes ∙ count) (λ k d k_in. child_at bytes k d (omega (arith, length_children bytes)) ∙ each k d (omega (arith, count, length_children bytes)))

pub no_children : (bytes : List ℕ) → entry_count bytes ≡ 0 → children bytes ≡ []
no_children bytes none = children_are bytes [] none (λ k d k_in. absurd (omega arith))
