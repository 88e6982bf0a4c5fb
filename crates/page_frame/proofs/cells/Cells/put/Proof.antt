-- `put` lets go of what stands in a place, and fills it. Assumes `Logic`.
use mathlib.Core.Path.{◌≡◌, refl, sym, subst, ◌∙◌}
use Prim.Native.Nat.{ℕ, ◌+◌, ◌*◌, ◌<◌, ◌^◌}
use native.Mathlib.Omega.{arith}
use mathlib.Core.List.{List, [], ◌∷◌, ◌++◌}
use lib.ListN.{length, set, get_or, length-set}
use seplogic.Ra.Ura.{Ura}
use base.Fraction.{full_share}
use base.Logic.{SProp, ent, never, id⊢}
use base.Fml.{Lft, GName, Share, ftrue, fat, flft, fobs, fbor}
use mir.Syntax.{Fn, named, w64}
use mir.MapTy.{inst_fn}
use mir.Val.{Val, vptr, vint, vunit}
use prog.Wp.{Env, Calls, Loops, WpFn, Tables}
use types.Logic.{Logic}
use types.SemTy.{Body as Borrowed}
use types.Kit.{Item, ⋆, ‵, ◌⊛◌, at_ret, ◌$◌, ◌∵◌, !, qed, by, move, keep, use1, use2, split, join, rewrite, fsplit, fsplit3, fjoin, fjoin3, feq_i, feq_l, flt_i, flt_l, suffices, frame, done}
use types.Part.{whole, sub}
use types.Run.{init, stop, fld, unit_lit, of_opd, assigns_last, first, blocks, exec, returns, enter, bin, size_lit}
use types.ByLocal.{alloc_all, pass_all, free_all, look_at, get, get_in, through, sets, take_at, give_at, env}
use contract.Monad.{fact}
use contract.Running.{tables, tables_of}
use sound.WpLaws.{WpFn-mono}
use denote.Exit.{yes, no}
use denote.RattleType.{owns}
use denote.Memory.{mem}
use denote.Param.{layout}
use denote.RawPtr.{Ptr, in_a_block}
use denote.Ref.{MutBor, MutRef}
use denote.Builtin.{RefMutOf, unit, usize}
use denote.Signature.{plain}
use denote.Steps.{nothing, opens, closes}
use denote.Triple.Carry.{spared}
use denote.Triple.Clauses.{Clauses, Ended, closing}
use denote.Triple.Entry.{on_entry}
use denote.Triple.Spec.{Meets, triple_of}
use denote.Triple.Table.{entered, run_framed}
use denote.Triple.Walked.{says, needs, Stays, stay_dropped, stay_ref, walk_of, ends_at, Goes-dropped, Goes-ref, walk_Meets}
use Rattle.std.specs.Prelude.{Some, None}
use Rattle.core.proofs.mem.Param.{El, R, args, elτ}
use Rattle.core.proofs.ptr.Rows.{times_below, one_below}
use Rattle.std_alloc.proofs.VecSteps.Shapes.{after}
use Rattle.std_alloc.proofs.RcSteps.{Good, word, word-Good}
use Rattle.std_alloc.proofs.RawLayout.{as_written}
use Rattle.page_frame.specs.Ownership.{place_at, places_at, owns_places}
use Rattle.page_frame.proofs.Memory.{CellsRow, BaseRow, wide, pointer_had, value_in, tells, place_emptied, Others, place_out, place_in}
use Rattle.page_frame.specs.contracts.cells.Cells.put.Key.{name as #put}
use Rattle.page_frame.proofs.cells.Cells.put.Statement as stated
use Rattle.page_frame.proofs.cells.Cells.put.Code as code

module _ (E : El) where
  abbrev function : Fn
  function = inst_fn (args E) code.function

  abbrev ended : Ended
  ended = record {
    signature = record {
      lifetimes = 1;
      outlives = [];
      params = RefMutOf (0 ∷ []) tt (plain (λ _. CellsRow E)) (λ _. tt) ∷ plain (λ _. BaseRow E) ∷ plain (λ _. usize) ∷ plain (λ _. R E) ∷ [];
      result = plain (λ _. unit);
    };
    kept = (yes, (no, (no, (no, tt))));
  }

  abbrev stayed : Stays ended.signature.params ended.kept
  stayed = (stay_ref (0 ∷ []) tt (plain (λ _. CellsRow E)), (stay_dropped (plain (λ _. BaseRow E)) no, (stay_dropped (plain (λ _. usize)) no, (stay_dropped (plain (λ _. R E)) no, tt))))

  abbrev Asks : (CellsRow E).Denot → (BaseRow E).Denot → ℕ → Type 0
  Asks cells base place = (base.ptr ≡ cells.at) × (place < length cells.slots)

  abbrev Gives : (CellsRow E).Denot → ℕ → (R E).Denot → (CellsRow E).Denot → Type 0
  Gives cells place value new = (new.at ≡ cells.at) × (new.slots ≡ set cells.slots place (Some value))

  abbrev clauses : {M : Type 1} {𝓤 : Ura M} (𝓛 : Logic 𝓤) → Clauses 𝓤 ended
  clauses {𝓤 = 𝓤} 𝓛 κs a = record { ghost = Unit {0}; requires = λ _. fact 𝓤 (Asks a.0.now a.1.0 a.1.1.0); ensures = λ _ r w. fact 𝓤 (Gives a.0.now a.1.1.0 a.1.1.1.0 w.0.now) }

module _ (E : El) {M : Type 1} {𝓤 : Ura M} (𝓛 : Logic 𝓤) (C : Calls 𝓤 𝓛.H) (Λ : Loops 𝓤 𝓛.H) (κ : Lft) (q : Share) (rb ro : ℕ) (γ : GName) (cells : (CellsRow E).Denot) (base : (BaseRow E).Denot) (place : ℕ) (value : (R E).Denot) (us0 us1 us2 us3 : List Val) where
  open 𝓛 use {H, A}

  abbrev self : MutBor (CellsRow E).Denot
  self = record { ref_ptr = (rb, ro); ghost_name = γ; now = cells }

  abbrev bound : (walk_of 𝓛 (ended E) (stayed E) (clauses E 𝓛)).Ghost
  bound = (((κ, tt), (q, tt), tt, (self, (base, (place, (value, tt)))), (us0, (us1, (us2, (us3, tt))))), tt)

  abbrev Post : Val → SProp 𝓤
  Post = (walk_of 𝓛 (ended E) (stayed E) (clauses E 𝓛)).post bound

  abbrev Borrowed_places : (CellsRow E).Denot → List (Item 𝓤)
  Borrowed_places now = ‵ (fobs γ ((CellsRow E).coded.code now)) ∷ ‵ (fbor κ (Borrowed (mem (CellsRow E)) rb ro γ)) ∷ ‵ (flft κ q) ∷ []

  exits : us0 ≡ vptr rb ro ∷ [] → (new : (CellsRow E).Denot) → Gives E cells place value new → ent 𝓤 (⋆ 𝓛 (Borrowed_places new ++ ‵ ((unit).own_val tt (vunit ∷ [])) ∷ [])) (Post vunit)
  exits passed new given =
      qed 𝓛 (Borrowed_places new ++ ‵ ((unit).own_val tt (vunit ∷ [])) ∷ []) ∵
      suffices ! _ (ends_at 𝓛 (ended E) (stayed E) (clauses E 𝓛) bound vunit tt (new, (tt, (tt, (tt, tt)))) (tt, (tt, (tt, (tt, tt))))) $ says ! given $
      nothing ! $ move ! (3 ∷ 0 ∷ []) $ join ! $ frame ! $ feq_i ! (List Val) us0 (vptr rb ro ∷ []) passed $ fjoin3 ! $
      nothing ! $ nothing ! $ fjoin ! $ nothing ! $ fjoin ! $ nothing ! $ fjoin ! $ move ! (1 ∷ 0 ∷ []) $ fjoin ! $ done !

  abbrev Had : Val → List (Item 𝓤)
  Had v = Borrowed_places cells ++ ‵ ((R E).own_val value (v ∷ [])) ∷ []

  walk : us0 ≡ vptr rb ro ∷ [] → Asks E cells base place → place < 2 ^ 64 → (v : Val) → Good (layout (R E)) v
      → ent 𝓤 (⋆ 𝓛 (Had v)) (WpFn 𝓤 H C Λ (function E) (vptr rb ro ∷ word base.ptr ∷ vint w64 place ∷ v ∷ []) Post)
  walk passed asked fits v good =
      let within = asked.1 in
      let new : (CellsRow E).Denot = record { mark = cells.mark; at = cells.at; slots = set cells.slots place (Some value) } in
      qed 𝓛 (Had v) ∵ enter ! C Λ (function E) (vptr rb ro ∷ word base.ptr ∷ vint w64 place ∷ v ∷ []) _ $
      alloc_all ! (λ l. pass_all ! refl ((tt, tt), (word-Good [] base.ptr, ((tt, record { fits = fits }), (good, tt)))) $
      let En : Env 𝓤 H = env (function E).locals l in
      opens ! tt (CellsRow E) {h = cells} rb ro (λ vs. move ! (1 ∷ []) $ fsplit ! $ move ! (1 ∷ []) $
      in_a_block ! cells.at (λ p. owns_places (R E) p cells.slots) (id⊢ 𝓤 (never 𝓤)) (λ b o e. fsplit ! $ flt_l ! (λ countable.
      let s = wide E in let at = place * s + o in
      let one : s < 2 ^ 64 = omega (arith, one_below (length cells.slots) s (2 ^ 63) (omega arith) countable) in
      let far : place * s < 2 ^ 64 = omega (arith, times_below place (length cells.slots) s (2 ^ 63) (omega arith) countable) in
      take_at ! 2 $ rewrite ! 0 (λ (p : Ptr). ‵ (fat full_share (layout (BaseRow E)) (l 2) 0 (word p))) (asked.0 ∙ e) refl $ give_at ! 2 $ first ! $ blocks ! $
      sets ! (bin ! (get ! refl) (size_lit ! (record { fits = one })) (record { fits = far })) refl (tt, record { fits = far }) $
      sets ! (bin ! (get_in ! (fld ! refl (stop !)) (sub ! 0 refl (whole !))) (get ! refl) tt) refl (tt, tt) $
      use1 𝓛 (‵ (place_at (R E) b at (get_or cells.slots place None)) ⊛ ‵ (Others E 𝓛 b o cells.slots place)) (place_out E 𝓛 b o cells.slots place within) $ split ! $
      use1 𝓛 (‵ (place_at (R E) b at None)) (place_emptied E 𝓛 b at (get_or cells.slots place None)) $ as_written ! (elτ E) b at $
      -- [the room; the other places; the mark; its cell; the open borrow; obs; auth; what the value owns]
      sets ! (of_opd ! (get ! refl)) refl good $ assigns_last ! (of_opd ! (get ! refl)) (through ! refl (stop !)) (init ! 0 refl good) $
      exec ! C Λ En (after 1 (function E).body) (at_ret En Post) $ sets ! (of_opd ! (unit_lit !)) refl (tt, tt) $
      move ! (0 ∷ 7 ∷ []) $ use2 𝓛 (‵ (place_at (R E) b at (Some value))) (value_in 0 E.row E.laws 𝓛 value b at v) $
      use2 𝓛 (‵ (places_at (R E) b o new.slots)) (place_in E 𝓛 b o cells.slots place within (Some value)) $
      flt_i ! (length new.slots * s) (2 ^ 63) (subst (λ k. k * s < 2 ^ 63) (sym (length-set cells.slots place (Some value))) countable) $ fjoin ! $
      rewrite ! 0 (λ (p : Ptr). ‵ (owns_places (R E) p new.slots)) (sym e) refl $ move ! (1 ∷ 0 ∷ []) $ fjoin ! $ move ! (1 ∷ 0 ∷ []) $ closes ! tt (CellsRow E) new vs rb ro $
      returns ! (look_at ! 0 refl) $ free_all ! refl $ keep ! (0 ∷ 1 ∷ 2 ∷ []) $ feq_i ! (List Val) (vunit ∷ []) (vunit ∷ []) refl $ move ! (1 ∷ 2 ∷ 3 ∷ 0 ∷ []) $
      by ! (exits passed new (refl, refl))))))

  entry : Asks E cells base place → ent 𝓤 (on_entry 𝓛 (ended E).signature (κ, tt) (q, tt) (self, (base, (place, (value, tt)))) (us0, (us1, (us2, (us3, tt))))) (WpFn 𝓤 H C Λ (function E) (us0 ++ (us1 ++ (us2 ++ (us3 ++ [])))) Post)
  entry asked =
      qed 𝓛 ((‵ (flft κ q) ⊛ ‵ ftrue) ∷ ‵ (owns (MutRef (named 0) κ (CellsRow E) ∷ BaseRow E ∷ usize ∷ R E ∷ []) (self, (base, (place, (value, tt)))) (us0, (us1, (us2, (us3, tt))))) ∷ []) ∵
      split ! $ move ! (2 ∷ []) $ fsplit ! $ fsplit3 ! $ feq_l ! (λ e0. move ! (2 ∷ []) $ fsplit ! $ pointer_had ! base.ptr us1 (λ e1. fsplit ! $ fsplit ! $ feq_l ! (λ e2. flt_l ! (λ fits.
      fsplit ! $ tells E.row E.laws ! value us3 (λ v e3 good. keep ! (2 ∷ 3 ∷ 4 ∷ 0 ∷ []) $
      by ! (subst (λ (ws : List Val × List Val × List Val × List Val). ent 𝓤 (⋆ 𝓛 (Had v)) (WpFn 𝓤 H C Λ (function E) (ws.0 ++ (ws.1 ++ (ws.2 ++ (ws.3 ++ [])))) Post))
      (λ j. (sym e0 j, sym e1 j, sym e2 j, sym e3 j)) (walk e0 asked fits v good)))))))

meets : (E : El) {M : Type 1} {𝓤 : Ura M} (𝓛 : Logic 𝓤) (𝓣 : Tables 𝓤 𝓛.H) → Meets 𝓛 (ended E).signature (WpFn 𝓤 𝓛.H 𝓣.C 𝓣.Λ (function E)) (closing 𝓛 (ended E) (clauses E 𝓛))
meets E {𝓤 = 𝓤} 𝓛 𝓣 =
    walk_Meets 𝓛 (ended E) (stayed E)
    (Goes-ref 𝓛 1 0 tt (plain (λ _. CellsRow E)), (Goes-dropped 𝓛 1 (plain (λ _. BaseRow E)) no (λ κs x f. refl), (Goes-dropped 𝓛 1 (plain (λ _. usize)) no (λ κs x f. refl), (Goes-dropped 𝓛 1 (plain (λ _. R E)) no (λ κs x f. refl), tt))))
    (clauses E 𝓛) (WpFn 𝓤 𝓛.H 𝓣.C 𝓣.Λ (function E)) (WpFn-mono 𝓤 𝓛.H 𝓛.laws 𝓣 (function E))
    (λ z. let a = z.0.3 in let us = z.0.4 in let me = a.0 in
    needs 𝓤 (Asks E me.now a.1.0 a.1.1.0) _ (entry E 𝓛 𝓣.C 𝓣.Λ z.0.0.0 z.0.1.0 me.ref_ptr.0 me.ref_ptr.1 me.ghost_name me.now a.1.0 a.1.1.0 a.1.1.1.0 us.0 us.1.0 us.1.1.0 us.1.1.1.0))

pub put_spec : {M : Type 1} → stated.statement M
unfolding tables_of
put_spec 𝓤 𝓛 𝓜 𝓡 wired X LX y =
    let E : El = record { row = X; laws = LX } in
    let 𝓣 : Tables 𝓤 𝓛.H = tables_of 𝓤 𝓛.H 𝓜 (tables 𝓤 𝓛.H 𝓜 𝓡 𝓡.env) in
    let key = #put (args E) in let closed = closing 𝓛 (ended E) (clauses E 𝓛) in
    spared 𝓛 (ended E).signature (𝓡.run (𝓡.env key)) (run_framed 𝓤 𝓛.H 𝓜 𝓡 (𝓡.env key)) 1 (X.lives, tt) closed
    (entered 𝓤 𝓛.H (triple_of 𝓛 (ended E).signature closed) 𝓣.C 𝓣.Λ key (function E) (code.unfolded 𝓤 𝓛.H 𝓜 𝓡 wired (X, tt)) (meets E 𝓛 𝓣))
    ((y.0.0, y.0.1, tt, y.0.3, y.0.4), y.1)
