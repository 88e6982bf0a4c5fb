use Rattle.std.proofs.Common.{◌≡◌, ◌<◌, ℕ, refl, sym, ap, ◌∙◌, subst, arith}
use Rattle.std.specs.Prelude.{IfSome, Option, None}
use Rattle.store_model.specs.Layout.{pages}
use Rattle.nvm_layout.specs.Sizes.{sizes_of}
use Rattle.tier_rules.specs.Parts.{Parts}
use Rattle.tier_pool.specs.Fields.{parts_of}
use Rattle.tier_pool.specs.Opening.{entries_placed}
use Rattle.tier_pool.proofs.OpeningLaws.{free_at, named_homeless, named_within, next_placed, next_same}
use Rattle.tier_pool.proofs.pool.TierPool.place_frames.Goals as goal

pub loop-frame-init : goal.loop-frame-init
unfolding entries_placed
loop-frame-init c = record { parts = refl; same = record { geometry = refl; policy = refl; access = refl } }

pub place_named-requires-clause-within : goal.place_named-requires-clause-within
place_named-requires-clause-within c =
    let here : IfSome c.named_page.result (λ page. page < pages (sizes_of c.args.self.now.geometry)) =
    subst (λ (o : Option ℕ). IfSome o (λ page. page < pages (sizes_of c.args.self.now.geometry))) (sym c.named_page.ensures)
    (named_within c.args.words.now (pages (sizes_of c.args.self.now.geometry)) c.loop-frame.frame c.requires.within) in
    rw c.loop-frame.invariant.same.geometry here

pub place_named-requires-clause-homeless : goal.place_named-requires-clause-homeless
place_named-requires-clause-homeless c =
    subst (λ (o : Option ℕ). IfSome o (λ page. (parts_of c.loop-frame.self).map.nvm page ≡ None)) (sym c.named_page.ensures)
    (named_homeless c.args.words.now (parts_of c.args.self.now) (parts_of c.loop-frame.self) c.loop-frame.frame c.requires.nothing c.requires.table c.loop-frame.invariant.parts)

pub place_named-requires-clause-free : goal.place_named-requires-clause-free
place_named-requires-clause-free c =
    ap (λ (parts : Parts). parts.map.frame_page c.loop-frame.frame) c.loop-frame.invariant.parts
    ∙ free_at c.args.words.now (parts_of c.args.self.now) c.requires.nothing c.loop-frame.frame c.loop-frame.frame (omega arith)

pub loop-frame-preserved : goal.loop-frame-preserved
loop-frame-preserved c = record {
  parts = next_placed c.args.words.now (parts_of c.args.self.now) (parts_of c.loop-frame.self) (parts_of c.place_named.new.self) c.loop-frame.frame c.named_page.result
      c.loop-frame.invariant.parts c.named_page.ensures c.place_named.ensures.parts;
  same = next_same c.args.self.now c.loop-frame.self c.place_named.new.self c.loop-frame.invariant.same c.place_named.ensures.same;
}
