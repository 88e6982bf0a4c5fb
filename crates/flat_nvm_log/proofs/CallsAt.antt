-- The calls of an append, by the places of its lines.
use Rattle.std.proofs.Common.{◌≡◌, ℕ, ◌+◌, List, [], ◌∷◌, ap, ◌∙◌, subst, arith, Result}
use Rattle.nvm_model.specs.declared.line.Line.{Line}
use Rattle.devices.specs.State.{Call}
use Rattle.devices.specs.State.Call.{store_word, store_line, flush, fence}
use Rattle.devices.specs.World.{Standing, MakesAll}
use Rattle.flat_store_meaning.specs.Layout.{Sizes, ring_line}
use Rattle.flat_store_meaning.specs.Put.{append_calls}

abbrev pub calls_at : ℕ → ℕ → ℕ → Line → Line → Line → ℕ → List Call
calls_at x y z head before after tail = store_line x head ∷ flush x ∷ store_line y before ∷ flush y ∷ store_line z after ∷ flush z ∷ fence ∷ store_word 3 0 tail ∷ flush 3 ∷ fence ∷ []

pub calls_placed : (g : Sizes) (tail x y z : ℕ) (head made before after : Line) → made ≡ head → x ≡ ring_line g tail → y ≡ ring_line g (tail + 1) → z ≡ ring_line g (tail + 2)
    → calls_at x y z made before after (tail + 3) ≡ append_calls g tail (head ∷ before ∷ after ∷ [])
calls_placed g tail x y z head made before after h a b c =
    let two : tail + 2 ≡ tail + 1 + 1 = omega arith in
    ap (λ (line : Line). calls_at x y z line before after (tail + 3)) h
    ∙ ap (λ n. calls_at n y z head before after (tail + 3)) a
    ∙ ap (λ n. calls_at (ring_line g tail) n z head before after (tail + 3)) b
    ∙ ap (λ n. calls_at (ring_line g tail) (ring_line g (tail + 1)) n head before after (tail + 3)) (c ∙ ap (ring_line g) two)

abbrev pub calls_end : ℕ → Line → ℕ → List Call
calls_end x head tail = store_line x head ∷ flush x ∷ fence ∷ store_word 3 0 tail ∷ flush 3 ∷ fence ∷ []

pub end_placed : (g : Sizes) (tail x : ℕ) (head made : Line) → made ≡ head → x ≡ ring_line g tail → calls_end x made (tail + 1) ≡ append_calls g tail (head ∷ [])
end_placed g tail x head made h a = ap (λ (line : Line). calls_end x line (tail + 1)) h ∙ ap (λ n. calls_end n head (tail + 1)) a

pub makes_placed : {T E : Type 0} {old new : Standing} {r : Result T E} {calls calls' : List Call} → calls ≡ calls' → MakesAll calls old new r → MakesAll calls' old new r
makes_placed {old = old} {new = new} {r = r} e makes = subst (λ (cs : List Call). MakesAll cs old new r) e makes
