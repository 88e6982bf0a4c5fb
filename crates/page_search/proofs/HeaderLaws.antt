-- The first words of a well-formed page.
use Rattle.std.proofs.Common.{◌≡◌, ◌≢◌, ℕ, true, List, refl, ◌∙◌, arith, nat_le, ◌==◌, ◌&&◌}
use Rattle.std.proofs.lemmas.Bool.{le-leb}
use Rattle.page_format.specs.declared.root.Expect.{Expect}
use Rattle.page_format.specs.Node.{IsWellFormed}
use Rattle.page_format.proofs.PageFacts.{leaf_facts, inner_facts}
use Rattle.page_search.specs.declared.probe.Header.{Header}
use Rattle.page_search.specs.Answers.{IsHeader}

-- what the first words of a leaf and of an inner page are
pub leaf_header : (bytes : List ℕ) (expect : Expect) (header : Header) → IsHeader bytes header → expect.level ≡ 0 → IsWellFormed bytes expect → (header.kind == 1 && nat_le header.count 1008) ≡ true
leaf_header bytes expect header is zero_level well =
    let facts = leaf_facts bytes expect zero_level well in
    rw (is.kind ∙ facts.kind, le-leb header.count 1008 (omega (arith, is.count, facts.below_heap, facts.heap))) refl

pub inner_header : (bytes : List ℕ) (expect : Expect) (header : Header) → IsHeader bytes header → expect.level ≢ 0 → IsWellFormed bytes expect → (header.kind == 2 && nat_le 2 header.count && nat_le header.count 240) ≡ true
inner_header bytes expect header is above well =
    let facts = inner_facts bytes expect above well in
    rw (is.kind ∙ facts.kind, le-leb 2 header.count (omega (arith, is.count, facts.some)), le-leb header.count 240 (omega (arith, is.count, facts.room))) refl
