-- `forget` lets go of what stands in a run of places. It does nothing when it runs. Assumes `Logic`.
use mathlib.Core.Path.{◌≡◌, refl, sym, subst}
use Prim.Native.Nat.{ℕ, ◌+◌, ◌*◌, ◌<◌, ◌≤◌, ◌^◌}
use mathlib.Core.List.{List, [], ◌∷◌, ◌++◌}
use lib.ListN.{length}
use seplogic.Ra.Ura.{Ura}
use base.Logic.{SProp, ent, never, id⊢}
use base.Fml.{Lft, GName, Share, ftrue, flft, fobs, fbor}
use mir.Syntax.{Fn, named, w64}
use mir.MapTy.{inst_fn}
use mir.Val.{Val, vptr, vint, vunit}
use prog.Wp.{Env, Calls, Loops, WpFn, Tables}
use types.Logic.{Logic}
use types.SemTy.{Body as Borrowed}
use types.Kit.{Item, ⋆, ‵, ◌⊛◌, ◌$◌, ◌∵◌, !, qed, by, move, keep, use1, split, join, rewrite, fsplit, fsplit3, fjoin, fjoin3, feq_i, feq_l, flt_i, flt_l, suffices, frame, done}
use types.Run.{unit_lit, of_opd, returns, enter}
use types.ByLocal.{alloc_all, pass_all, free_all, look_at, sets, env}
use contract.Monad.{fact}
use contract.Running.{tables, tables_of}
use sound.WpLaws.{WpFn-mono}
use denote.Exit.{yes, no}
use denote.RattleType.{owns}
use denote.Memory.{mem}
use denote.RawPtr.{Ptr, in_a_block}
use denote.Ref.{MutBor, MutRef}
use denote.Builtin.{RefMutOf, unit, usize}
use denote.Signature.{plain}
use denote.Steps.{nothing, opens, closes}
use denote.Triple.Carry.{spared}
use denote.Triple.Clauses.{Clauses, Ended, closing}
use denote.Triple.Entry.{on_entry}
use denote.Triple.Spec.{Meets, triple_of}
use denote.Triple.Table.{entered, run_framed}
use denote.Triple.Walked.{says, needs, Stays, stay_dropped, stay_ref, walk_of, ends_at, Goes-dropped, Goes-ref, walk_Meets}
use Rattle.core.proofs.mem.Param.{El, R, args}
use Rattle.page_frame.specs.Places.{emptied}
use Rattle.page_frame.specs.Ownership.{places_at, owns_places}
use Rattle.page_frame.proofs.Memory.{CellsRow, wide, length-emptied, run_emptied}
use Rattle.page_frame.specs.contracts.cells.Cells.forget.Key.{name as #forget}
use Rattle.page_frame.proofs.cells.Cells.forget.Statement as stated
use Rattle.page_frame.proofs.cells.Cells.forget.Code as code

module _ (E : El) where
  abbrev function : Fn
  function = inst_fn (args E) code.function

  abbrev ended : Ended
  ended = record {
    signature = record {
      lifetimes = 1;
      outlives = [];
      params = RefMutOf (0 ∷ []) tt (plain (λ _. CellsRow E)) (λ _. tt) ∷ plain (λ _. usize) ∷ plain (λ _. usize) ∷ [];
      result = plain (λ _. unit);
    };
    kept = (yes, (no, (no, tt)));
  }

  abbrev stayed : Stays ended.signature.params ended.kept
  stayed = (stay_ref (0 ∷ []) tt (plain (λ _. CellsRow E)), (stay_dropped (plain (λ _. usize)) no, (stay_dropped (plain (λ _. usize)) no, tt)))

  abbrev Asks : (CellsRow E).Denot → ℕ → ℕ → Type 0
  Asks cells from len = from + len ≤ length cells.slots

  abbrev Gives : (CellsRow E).Denot → ℕ → ℕ → (CellsRow E).Denot → Type 0
  Gives cells from len new = (new.at ≡ cells.at) × (new.slots ≡ emptied from len cells.slots)

  abbrev clauses : {M : Type 1} {𝓤 : Ura M} (𝓛 : Logic 𝓤) → Clauses 𝓤 ended
  clauses {𝓤 = 𝓤} 𝓛 κs a = record { ghost = Unit {0}; requires = λ _. fact 𝓤 (Asks a.0.now a.1.0 a.1.1.0); ensures = λ _ r w. fact 𝓤 (Gives a.0.now a.1.0 a.1.1.0 w.0.now) }

module _ (E : El) {M : Type 1} {𝓤 : Ura M} (𝓛 : Logic 𝓤) (C : Calls 𝓤 𝓛.H) (Λ : Loops 𝓤 𝓛.H) (κ : Lft) (q : Share) (rb ro : ℕ) (γ : GName) (cells : (CellsRow E).Denot) (from len : ℕ) (us0 us1 us2 : List Val) where
  open 𝓛 use {H, A}

  abbrev self : MutBor (CellsRow E).Denot
  self = record { ref_ptr = (rb, ro); ghost_name = γ; now = cells }

  abbrev bound : (walk_of 𝓛 (ended E) (stayed E) (clauses E 𝓛)).Ghost
  bound = (((κ, tt), (q, tt), tt, (self, (from, (len, tt))), (us0, (us1, (us2, tt)))), tt)

  abbrev Post : Val → SProp 𝓤
  Post = (walk_of 𝓛 (ended E) (stayed E) (clauses E 𝓛)).post bound

  abbrev Borrowed_places : (CellsRow E).Denot → List (Item 𝓤)
  Borrowed_places now = ‵ (fobs γ ((CellsRow E).coded.code now)) ∷ ‵ (fbor κ (Borrowed (mem (CellsRow E)) rb ro γ)) ∷ ‵ (flft κ q) ∷ []

  exits : us0 ≡ vptr rb ro ∷ [] → (new : (CellsRow E).Denot) → Gives E cells from len new → ent 𝓤 (⋆ 𝓛 (Borrowed_places new ++ ‵ ((unit).own_val tt (vunit ∷ [])) ∷ [])) (Post vunit)
  exits passed new given =
      qed 𝓛 (Borrowed_places new ++ ‵ ((unit).own_val tt (vunit ∷ [])) ∷ []) ∵
      suffices ! _ (ends_at 𝓛 (ended E) (stayed E) (clauses E 𝓛) bound vunit tt (new, (tt, (tt, tt))) (tt, (tt, (tt, tt)))) $ says ! given $
      nothing ! $ move ! (3 ∷ 0 ∷ []) $ join ! $ frame ! $ feq_i ! (List Val) us0 (vptr rb ro ∷ []) passed $ fjoin3 ! $
      nothing ! $ nothing ! $ fjoin ! $ nothing ! $ fjoin ! $ move ! (1 ∷ 0 ∷ []) $ fjoin ! $ done !

  abbrev Had : List (Item 𝓤)
  Had = Borrowed_places cells

  walk : us0 ≡ vptr rb ro ∷ [] → Asks E cells from len → from < 2 ^ 64 → len < 2 ^ 64 → ent 𝓤 (⋆ 𝓛 Had) (WpFn 𝓤 H C Λ (function E) (vptr rb ro ∷ vint w64 from ∷ vint w64 len ∷ []) Post)
  walk passed asked fits_from fits_len =
      let new : (CellsRow E).Denot = record { mark = cells.mark; at = cells.at; slots = emptied from len cells.slots } in
      qed 𝓛 Had ∵ enter ! C Λ (function E) (vptr rb ro ∷ vint w64 from ∷ vint w64 len ∷ []) _ $
      alloc_all ! (λ l. pass_all ! refl ((tt, tt), ((tt, record { fits = fits_from }), ((tt, record { fits = fits_len }), tt))) $
      let En : Env 𝓤 H = env (function E).locals l in let s = wide E in
      opens ! tt (CellsRow E) {h = cells} rb ro (λ vs. move ! (1 ∷ []) $ fsplit ! $ move ! (1 ∷ []) $
      in_a_block ! cells.at (λ p. owns_places (R E) p cells.slots) (id⊢ 𝓤 (never 𝓤)) (λ b o e. fsplit ! $ flt_l ! (λ countable.
      use1 𝓛 (‵ (places_at (R E) b o new.slots)) (run_emptied E 𝓛 b o cells.slots from len asked) $
      flt_i ! (length new.slots * s) (2 ^ 63) (subst (λ k. k * s < 2 ^ 63) (sym (length-emptied cells.slots from len asked)) countable) $ fjoin ! $
      rewrite ! 0 (λ (p : Ptr). ‵ (owns_places (R E) p new.slots)) (sym e) refl $ move ! (1 ∷ 0 ∷ []) $ fjoin ! $ move ! (1 ∷ 0 ∷ []) $ closes ! tt (CellsRow E) new vs rb ro $
      sets ! (of_opd ! (unit_lit !)) refl (tt, tt) $ returns ! (look_at ! 0 refl) $ free_all ! refl $ keep ! (0 ∷ 1 ∷ 2 ∷ []) $
      feq_i ! (List Val) (vunit ∷ []) (vunit ∷ []) refl $ move ! (1 ∷ 2 ∷ 3 ∷ 0 ∷ []) $ by ! (exits passed new (refl, refl))))))

  entry : Asks E cells from len → ent 𝓤 (on_entry 𝓛 (ended E).signature (κ, tt) (q, tt) (self, (from, (len, tt))) (us0, (us1, (us2, tt)))) (WpFn 𝓤 H C Λ (function E) (us0 ++ (us1 ++ (us2 ++ []))) Post)
  entry asked =
      qed 𝓛 ((‵ (flft κ q) ⊛ ‵ ftrue) ∷ ‵ (owns (MutRef (named 0) κ (CellsRow E) ∷ usize ∷ usize ∷ []) (self, (from, (len, tt))) (us0, (us1, (us2, tt)))) ∷ []) ∵
      split ! $ move ! (2 ∷ []) $ fsplit ! $ fsplit3 ! $ feq_l ! (λ e0. move ! (2 ∷ []) $ fsplit ! $ fsplit ! $ feq_l ! (λ e1. flt_l ! (λ fits_from. fsplit ! $ fsplit ! $ feq_l ! (λ e2. flt_l ! (λ fits_len.
      keep ! (1 ∷ 2 ∷ 3 ∷ []) $
      by ! (subst (λ (ws : List Val × List Val × List Val). ent 𝓤 (⋆ 𝓛 Had) (WpFn 𝓤 H C Λ (function E) (ws.0 ++ (ws.1 ++ (ws.2 ++ []))) Post)) (λ j. (sym e0 j, sym e1 j, sym e2 j)) (walk e0 asked fits_from fits_len)))))))

meets : (E : El) {M : Type 1} {𝓤 : Ura M} (𝓛 : Logic 𝓤) (𝓣 : Tables 𝓤 𝓛.H) → Meets 𝓛 (ended E).signature (WpFn 𝓤 𝓛.H 𝓣.C 𝓣.Λ (function E)) (closing 𝓛 (ended E) (clauses E 𝓛))
meets E {𝓤 = 𝓤} 𝓛 𝓣 =
    walk_Meets 𝓛 (ended E) (stayed E)
    (Goes-ref 𝓛 1 0 tt (plain (λ _. CellsRow E)), (Goes-dropped 𝓛 1 (plain (λ _. usize)) no (λ κs x f. refl), (Goes-dropped 𝓛 1 (plain (λ _. usize)) no (λ κs x f. refl), tt)))
    (clauses E 𝓛) (WpFn 𝓤 𝓛.H 𝓣.C 𝓣.Λ (function E)) (WpFn-mono 𝓤 𝓛.H 𝓛.laws 𝓣 (function E))
    (λ z. let a = z.0.3 in let us = z.0.4 in let me = a.0 in
    needs 𝓤 (Asks E me.now a.1.0 a.1.1.0) _ (entry E 𝓛 𝓣.C 𝓣.Λ z.0.0.0 z.0.1.0 me.ref_ptr.0 me.ref_ptr.1 me.ghost_name me.now a.1.0 a.1.1.0 us.0 us.1.0 us.1.1.0))

pub forget_spec : {M : Type 1} → stated.statement M
unfolding tables_of
forget_spec 𝓤 𝓛 𝓜 𝓡 wired X LX y =
    let E : El = record { row = X; laws = LX } in
    let 𝓣 : Tables 𝓤 𝓛.H = tables_of 𝓤 𝓛.H 𝓜 (tables 𝓤 𝓛.H 𝓜 𝓡 𝓡.env) in
    let key = #forget (args E) in let closed = closing 𝓛 (ended E) (clauses E 𝓛) in
    spared 𝓛 (ended E).signature (𝓡.run (𝓡.env key)) (run_framed 𝓤 𝓛.H 𝓜 𝓡 (𝓡.env key)) 1 (X.lives, tt) closed
    (entered 𝓤 𝓛.H (triple_of 𝓛 (ended E).signature closed) 𝓣.C 𝓣.Λ key (function E) (code.unfolded 𝓤 𝓛.H 𝓜 𝓡 wired (X, tt)) (meets E 𝓛 𝓣))
    ((y.0.0, y.0.1, tt, y.0.3, y.0.4), y.1)
