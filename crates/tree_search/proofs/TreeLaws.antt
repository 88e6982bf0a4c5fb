-- Laws of trees: what a page's checks give, order, frame, the way to a key, and how many pages a tree has.
use Rattle.std.proofs.Common.{◌≡◌, ℕ, zero, suc, Bool, false, List, [], ◌∷◌, refl, ap, flat_map}
use Rattle.line_pages.specs.Lines.{Lines}
use Rattle.line_pages.specs.Bytes.{bytes_of}
use Rattle.page_format.specs.Node.{Child, children}
use Rattle.page_alloc.specs.Counted.{SameOn}
use Rattle.tree_search.specs.Tree.{IsTree, tree_rows, tree_pages}
use Rattle.rows.specs.Rows.{Each}
use Rattle.page_format.specs.Spans.{Span, spans}
use Rattle.page_alloc.proofs.CountedLaws.{SameOn-left, SameOn-right, SameOn-first, SameOn-rest}

pub flat_map-same : {X Y : Type 0} (f g : X → List Y) (xs : List X) → Each (λ x. f x ≡ g x) xs → flat_map f xs ≡ flat_map g xs
flat_map-same f g [] same = refl
flat_map-same f g (x ∷ xs) same = rw (same.0, flat_map-same f g xs same.1) refl

pub Each-map : {X : Type 0} (P Q : X → Type 0) (xs : List X) → ((x : X) → P x → Q x) → Each P xs → Each Q xs
Each-map P Q [] to all = tt
Each-map P Q (x ∷ xs) to all = (to x all.0, Each-map P Q xs to all.1)

-- each child's pages are the same, where all of them are
pub each_same : (old new : Lines) (level : ℕ) (cs : List Child) → SameOn (flat_map (λ (child : Child). tree_pages old level child.1) cs) old new
    → Each (λ (child : Child). SameOn (tree_pages old level child.1) old new) cs
each_same old new level [] same = tt
each_same old new level (c ∷ cs) same =
    let rest = flat_map (λ (child : Child). tree_pages old level child.1) cs in
    (SameOn-left (tree_pages old level c.1) rest old new same, each_same old new level cs (SameOn-right (tree_pages old level c.1) rest old new same))

pub Each-spans : (P : ℕ → Type 0) (cs : List Child) (high : ℕ) → Each (λ (child : Child). P child.1) cs → Each (λ (s : Span). P s.page) (spans cs high)
Each-spans P [] high all = tt
Each-spans P (c ∷ cs) high all = (all.0, Each-spans P cs high all.1)

pub Each-both : {X : Type 0} (P Q R : X → Type 0) (xs : List X) → ((x : X) → P x → Q x → R x) → Each P xs → Each Q xs → Each R xs
Each-both P Q R [] to ps qs = tt
Each-both P Q R (x ∷ xs) to ps qs = (to x ps.0 qs.0, Each-both P Q R xs to ps.1 qs.1)

-- a tree is as it was where its pages are as they were
pub tree_pages-same : (old new : Lines) (level page : ℕ) → SameOn (tree_pages old level page) old new → tree_pages new level page ≡ tree_pages old level page
tree_pages-same old new zero page same = refl
tree_pages-same old new (suc level) page same =
    let cs = children (bytes_of old page) in
    let rest = flat_map (λ (child : Child). tree_pages old level child.1) cs in
    let below = Each-map (λ (child : Child). SameOn (tree_pages old level child.1) old new) (λ (child : Child). tree_pages new level child.1 ≡ tree_pages old level child.1) cs
    (λ child. tree_pages-same old new level child.1) (each_same old new level cs (SameOn-rest page rest old new same)) in
    rw (SameOn-first page rest old new same)
    (ap (λ r. page ∷ r) (flat_map-same (λ (child : Child). tree_pages new level child.1) (λ (child : Child). tree_pages old level child.1) cs below))

pub tree_rows-same : (old new : Lines) (level page : ℕ) → SameOn (tree_pages old level page) old new → tree_rows new level page ≡ tree_rows old level page
tree_rows-same old new zero page same = rw (SameOn-first page [] old new same) refl
tree_rows-same old new (suc level) page same =
    let cs = children (bytes_of old page) in
    let rest = flat_map (λ (child : Child). tree_pages old level child.1) cs in
    let below = Each-map (λ (child : Child). SameOn (tree_pages old level child.1) old new) (λ (child : Child). tree_rows new level child.1 ≡ tree_rows old level child.1) cs
    (λ child. tree_rows-same old new level child.1) (each_same old new level cs (SameOn-rest page rest old new same)) in
    rw (SameOn-first page rest old new same)
    (flat_map-same (λ (child : Child). tree_rows new level child.1) (λ (child : Child). tree_rows old level child.1) cs below)

pub IsTree-same : (count : ℕ) (old new : Lines) (level page low high : ℕ) (root : Bool) → SameOn (tree_pages old level page) old new
    → IsTree count old level page low high root → IsTree count new level page low high root
IsTree-same count old new zero page low high root same is = rw (SameOn-first page [] old new same) is
IsTree-same count old new (suc level) page low high root same is =
    let cs = children (bytes_of old page) in
    let rest = flat_map (λ (child : Child). tree_pages old level child.1) cs in
    let below = Each-spans (λ p. SameOn (tree_pages old level p) old new) cs high (each_same old new level cs (SameOn-rest page rest old new same)) in
    rw (SameOn-first page rest old new same)
    ((
      is.0,
      Each-both (λ (s : Span). SameOn (tree_pages old level s.page) old new) (λ (s : Span). IsTree count old level s.page s.low s.high false) (λ (s : Span). IsTree count new level s.page s.low s.high false)
          (spans cs high) (λ s. IsTree-same count old new level s.page s.low s.high false) below is.1,
    ))
