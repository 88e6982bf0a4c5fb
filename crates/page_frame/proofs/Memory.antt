-- What the five walks over raw pointers share. Assumes `Logic`.
--     pointer_had, pointer_made, mark_had, mark_made      a struct of one pointer, and one of no bytes
--     holds, value_in, tells      a value in its bytes
--     place_emptied, all_emptied      what stood in a place is let go
--     place_out, place_in, run_emptied, place_seen      places are taken out of the row, put back, emptied, or looked at
--     of_room, to_room      room for an array is a row of empty places
use mathlib.Core.Path.{◌≡◌, refl, sym, ap, subst, ◌∙◌}
use Prim.Native.Nat.{ℕ, zero, suc, ◌+◌, ◌*◌, ◌<◌, ◌≤◌}
use native.Mathlib.Omega.{arith}
use native.Mathlib.Nat.{zero-mul, suc-mul}
use mathlib.Core.List.{List, [], ◌∷◌, ◌++◌}
use lib.ListN.{length, take, drop, set, get_or, replicate, take-append-drop, length-take, length-drop, length-append, length-replicate}
use lib.Seq.{drop-cons, drop-drop, set_split}
use seplogic.Ra.Ura.{Ura}
use base.Fraction.{full_share}
use mir.Syntax.{Ty, ty_array}
use mir.Val.{Val, vstruct, vcons, vnil, of_list}
use base.Logic.{ent, sep, emp, ex, guard, via, snd∗, id⊢}
use base.Fml.{Fml, Lft, ftrue, fsep, fat, froom}
use types.Logic.{Logic, sem}
use types.Kit.{Item, Goal, Seq, Step, step, ‵, some, given, ◌⊛◌, ◌$◌, ◌∵◌, !, qed, by, move, keep, drop as skip, use1, use2, pick, learn, split, check, show, frame, fsplit, fjoin, fpick, fpack, feq_i, feq_l, rewrite, done}
use denote.RattleType.{RattleType, Valss}
use denote.Laws.{Typed, Is, shows}
use denote.Param.{param, layout}
use denote.Param.Laws.{Laws, param_laws}
use denote.Memory.{part_at}
use denote.RawPtr.{Ptr, RawPtr, ptr_val}
use denote.Shadow.{makes_shadow}
use denote.Steps.{nothing, peeks}
use denote.Struct.Struct.{Shape, Struct, within}
use denote.Struct.Owning.{shape}
use denote.Struct.Declared as Declared
use denote.Struct.Tuple.{Tuple, tuple_type}
use borrow.Table.OneValue.{part_in, part_out}
use Rattle.std.specs.Prelude.{Option, Some, None}
use Rattle.std.specs.Mem.{type_size}
use Rattle.core.proofs.mem.Param.{El, R, el_x, elτ}
use Rattle.std_alloc.proofs.RcSteps.{Good, word}
use Rattle.page_frame.specs.Places.{emptied, replaced}
use Rattle.page_frame.specs.Ownership.{place_at, places_at, place_lent, places_lent}
use Rattle.page_frame.specs.contracts.cells.Cells as cells-type
use Rattle.page_frame.specs.contracts.cells.Base as base-type

module _ (E : El) where
  abbrev pub CellsRow : RattleType
  CellsRow = cells-type.the_row (R E)

  abbrev pub BaseRow : RattleType
  BaseRow = base-type.the_row (R E)

  -- the one field of `Cells`, which takes no bytes
  abbrev pub MarkRow : RattleType
  MarkRow = Struct (shape (cells-type.the_type (R E)))

  -- the bytes of a place
  abbrev pub wide : ℕ
  wide = type_size (R E)

  abbrev pub Place : Type 0
  Place = Option (el_x E)

abbrev pointer_shape : Shape
pointer_shape = record { name = []; args = []; types = []; fields = RawPtr ∷ [] }

abbrev pub PointerRow : RattleType
PointerRow = Struct pointer_shape

abbrev pub mark : Val
mark = vstruct (vcons (vstruct vnil) vnil)

pub mark_made : (E : El) {M : Type 1} {𝓤 : Ura M} (𝓛 : Logic 𝓤) → ent 𝓤 (emp 𝓤) (sem 𝓛 ((MarkRow E).own_val (tt, tt) (mark ∷ [])))
mark_made E 𝓛 =
    makes_shadow 𝓛 ((MarkRow E).own_val (tt, tt) (mark ∷ [])) (λ vss. (tt, ((λ uss. (tt, tt)), tt))) ((vstruct vnil ∷ [], tt), (refl, ((tt, (refl, tt)), tt)))

module _ {M : Type 1} {𝓤 : Ura M} {𝓛 : Logic 𝓤} {K : Type 0} {Γ : List (Item 𝓤)} {G : Goal 𝓤 𝓛.H} where
  pub pointer_had : K → (p : Ptr) (vs : List Val) → (vs ≡ word p ∷ [] → Seq K 𝓛 Γ G) → Seq K 𝓛 (‵ (PointerRow.own_val (p, tt) vs) ∷ Γ) G
  pointer_had t p vs rest = fpick t (λ vss. fsplit t $ feq_l t (λ whole. fsplit t $ feq_l t (λ part. skip t $
      rest (subst (λ (ws : List Val). vs ≡ vstruct (of_list (ws ++ [])) ∷ []) part whole))))

  pub mark_had : K → (E : El) (vs : List Val) → (vs ≡ mark ∷ [] → Seq K 𝓛 Γ G) → Seq K 𝓛 (‵ ((MarkRow E).own_val (tt, tt) vs) ∷ Γ) G
  mark_had t E vs rest = fpick t (λ vss. fsplit t $ feq_l t (λ whole. fsplit t $ fpick t (λ uss. fsplit t $ feq_l t (λ part. skip t $ skip t $
      rest (subst (λ (ws : List Val). vs ≡ vstruct (of_list (ws ++ [])) ∷ []) part whole)))))

  pub pointer_made : K → (p : Ptr) → Step K 𝓛 (‵ (PointerRow.own_val (p, tt) (word p ∷ [])) ∷ Γ) G Γ G
  pointer_made t p = step (λ s.
      nothing t $ feq_i t (List Val) (ptr_val p ∷ []) (ptr_val p ∷ []) refl $ fjoin t $ feq_i t (List Val) (word p ∷ []) (word p ∷ []) refl $ fjoin t $
      fpack t (Valss (RawPtr ∷ [])) (within pointer_shape (p, tt) (word p ∷ [])) (ptr_val p ∷ [], tt) $ s)

module _ (i : ℕ) (Y : RattleType) (L : Laws Y) {M : Type 1} {𝓤 : Ura M} (𝓛 : Logic 𝓤) where
  open 𝓛 use {H}

  -- the bytes of a value, and what it owns
  pub holds : (x : Y.Denot) (b o : ℕ) → ent 𝓤 (sem 𝓛 (part_at (param i Y) full_share x b o)) (ex 𝓤 (λ (v : Val). guard 𝓤 (Good (layout Y) v) (sep 𝓤 (H.at full_share (layout Y) b o v) (sem 𝓛 (Y.own_val x (v ∷ []))))))
  holds x b o = qed 𝓛 (‵ (part_at (param i Y) full_share x b o) ∷ []) ∵
      use1 𝓛 (some (λ (v : Val). ‵ (fat full_share (layout Y) b o v) ⊛ ‵ (Y.own_val x (v ∷ [])))) (part_out 𝓛 (param i Y) refl full_share x b o) $
      pick ! (λ v. split ! $ move ! (1 ∷ []) $ peeks ! (param i Y) (Is (param i Y)) (shows 𝓛 (param i Y)) x (v ∷ []) (λ p.
      show ! (λ (w : Val). guard 𝓤 (Good (layout Y) w) (sep 𝓤 (H.at full_share (layout Y) b o w) (sem 𝓛 (Y.own_val x (w ∷ []))))) v $
      check ! (((param_laws i Y L).lawful 𝓛).typed x (v ∷ []) p).0 $ move ! (1 ∷ 0 ∷ []) $ done !))

  pub value_in : (x : Y.Denot) (b o : ℕ) (v : Val) → ent 𝓤 (sep 𝓤 (H.at full_share (layout Y) b o v) (sem 𝓛 (Y.own_val x (v ∷ [])))) (sem 𝓛 (part_at (param i Y) full_share x b o))
  value_in x b o v = part_in 𝓛 (param i Y) refl full_share x b o v

abbrev pub three_val : Val → Val → Val → Val
three_val u v w = vstruct (vcons u (vcons v (vcons w vnil)))

-- a tuple of three from its parts
pub three_of : {M : Type 1} {𝓤 : Ura M} (𝓛 : Logic 𝓤) (A B C : RattleType) (x : A.Denot) (y : B.Denot) (z : C.Denot) (u v w : Val)
    → ent 𝓤 (sep 𝓤 (sem 𝓛 (A.own_val x (u ∷ []))) (sep 𝓤 (sem 𝓛 (B.own_val y (v ∷ []))) (sem 𝓛 (C.own_val z (w ∷ []))))) (sem 𝓛 ((Tuple (A ∷ B ∷ C ∷ [])).own_val (x, y, z) (three_val u v w ∷ [])))
three_of 𝓛 A B C x y z u v w =
    qed 𝓛 (‵ (A.own_val x (u ∷ [])) ∷ ‵ (B.own_val y (v ∷ [])) ∷ ‵ (C.own_val z (w ∷ [])) ∷ []) ∵
    nothing ! $ move ! (3 ∷ 0 ∷ []) $ fjoin ! $ move ! (2 ∷ 0 ∷ []) $ fjoin ! $ move ! (1 ∷ 0 ∷ []) $ fjoin ! $
    feq_i ! (List Val) (three_val u v w ∷ []) (three_val u v w ∷ []) refl $ fjoin ! $
    fpack ! (Valss (A ∷ B ∷ C ∷ [])) (within (Declared.shape (tuple_type (A ∷ B ∷ C ∷ []))) (x, (y, (z, tt))) (three_val u v w ∷ [])) (u ∷ [], (v ∷ [], (w ∷ [], tt))) $ done !

one_value : (τ : Ty) (vs : List Val) → Typed (τ ∷ []) vs → (v : Val) × ((vs ≡ v ∷ []) × Good τ v)
one_value τ [] t = absurd t
one_value τ (v ∷ []) t = (v, (refl, t.0))
one_value τ (v ∷ w ∷ vs) t = absurd t.1

module _ (Y : RattleType) (L : Laws Y) {M : Type 1} {𝓤 : Ura M} {𝓛 : Logic 𝓤} {K : Type 0} {Γ : List (Item 𝓤)} {G : Goal 𝓤 𝓛.H} where
  -- who owns a value has one machine value, of its type
  pub tells : K → (x : Y.Denot) (vs : List Val) → ((v : Val) → vs ≡ v ∷ [] → Good (layout Y) v → Seq K 𝓛 (‵ (Y.own_val x (v ∷ [])) ∷ Γ) G) → Seq K 𝓛 (‵ (Y.own_val x vs) ∷ Γ) G
  tells t x vs rest =
      peeks t (param 0 Y) (Is (param 0 Y)) (shows 𝓛 (param 0 Y)) x vs (λ is.
      let one = one_value (layout Y) vs (((param_laws 0 Y L).lawful 𝓛).typed x vs is) in
      rewrite t 0 (λ (us : List Val). ‵ (Y.own_val x us)) one.1.0 refl $ rest one.0 one.1.0 one.1.1)

pub filled_within : {X : Type 0} (places : List (Option X)) (i : ℕ) (x : X) → get_or places i None ≡ Some x → i < length places
filled_within [] i x e = cc
filled_within (place ∷ places) zero x e = omega arith
filled_within (place ∷ places) (suc i) x e = omega (arith, filled_within places i x e)

pub length-replaced : {X : Type 0} (others places : List (Option X)) (from len : ℕ) → from + len ≤ length places → length others ≡ len
    → length (replaced from len others places) ≡ length places
length-replaced others places from len le as_many =
    omega (
      arith,
      as_many,
      length-append (take from places) (others ++ drop (from + len) places),
      length-append others (drop (from + len) places),
      length-take from places,
      length-drop (from + len) places,
    )

pub length-emptied : {X : Type 0} (places : List (Option X)) (from len : ℕ) → from + len ≤ length places → length (emptied from len places) ≡ length places
length-emptied {X} places from len le = length-replaced (replicate len None) places from len le (length-replicate {A = Option X} len None)

module _ (E : El) {M : Type 1} {𝓤 : Ura M} (𝓛 : Logic 𝓤) (b : ℕ) where
  open 𝓛 use {H}

  abbrev s : ℕ
  s = wide E

  abbrev Row : ℕ → List (Place E) → Fml
  Row = places_at (R E) b

  abbrev One : ℕ → Place E → Fml
  One = place_at (R E) b

  -- what stood in a place is let go, and its bytes are room
  pub place_emptied : (o : ℕ) (place : Place E) → ent 𝓤 (sem 𝓛 (One o place)) (sem 𝓛 (One o None))
  place_emptied o None = id⊢ 𝓤 (sem 𝓛 (One o None))
  place_emptied o (Some x) = qed 𝓛 (‵ (One o (Some x)) ∷ []) ∵
      use1 𝓛 (some (λ (v : Val). given (Good (elτ E) v) (‵ (fat full_share (elτ E) b o v) ⊛ ‵ (E.row.own_val x (v ∷ []))))) (holds 0 E.row E.laws 𝓛 x b o) $
      pick ! (λ v. learn ! (λ good. split ! $ keep ! (0 ∷ []) $ use1 𝓛 (‵ (froom (elτ E) b o)) (𝓛.laws.at_room (elτ E) b o v) $ by ! (𝓛.laws.room-raw (elτ E) b o)))

  pub all_emptied : (places : List (Place E)) (o : ℕ) → ent 𝓤 (sem 𝓛 (Row o places)) (sem 𝓛 (Row o (replicate (length places) None)))
  all_emptied [] o = id⊢ 𝓤 (sem 𝓛 (Row o []))
  all_emptied (place ∷ places) o = qed 𝓛 (‵ (Row o (place ∷ places)) ∷ []) ∵ fsplit ! $
      use1 𝓛 (‵ (One o None)) (place_emptied o place) $ move ! (1 ∷ []) $
      use1 𝓛 (‵ (Row (o + s) (replicate (length places) None))) (all_emptied places (o + s)) $ move ! (1 ∷ 0 ∷ []) $ fjoin ! $ done !

  -- a row is cut in two, and joined again
  cut : (xs ys : List (Place E)) (o at : ℕ) → at ≡ length xs * s + o → ent 𝓤 (sem 𝓛 (Row o (xs ++ ys))) (sep 𝓤 (sem 𝓛 (Row o xs)) (sem 𝓛 (Row at ys)))
  cut [] ys o at e =
      let here : o ≡ at = omega (arith, e, zero-mul s) in
      qed 𝓛 (‵ (Row o ys) ∷ []) ∵ rewrite ! 0 (λ (k : ℕ). ‵ (Row k ys)) here refl $ nothing ! $ done !
  cut (x ∷ xs) ys o at e =
      let next : at ≡ length xs * s + (o + s) = omega (arith, e, suc-mul (length xs) s) in
      qed 𝓛 (‵ (Row o (x ∷ xs ++ ys)) ∷ []) ∵ fsplit ! $ move ! (1 ∷ []) $
      use1 𝓛 (‵ (Row (o + s) xs) ⊛ ‵ (Row at ys)) (cut xs ys (o + s) at next) $ split ! $ move ! (2 ∷ 0 ∷ []) $ fjoin ! $ done !

  joined : (xs ys : List (Place E)) (o at : ℕ) → at ≡ length xs * s + o → ent 𝓤 (sep 𝓤 (sem 𝓛 (Row o xs)) (sem 𝓛 (Row at ys))) (sem 𝓛 (Row o (xs ++ ys)))
  joined [] ys o at e =
      let here : at ≡ o = omega (arith, e, zero-mul s) in
      qed 𝓛 (‵ ftrue ∷ ‵ (Row at ys) ∷ []) ∵ skip ! $ rewrite ! 0 (λ (k : ℕ). ‵ (Row k ys)) here refl $ done !
  joined (x ∷ xs) ys o at e =
      let next : at ≡ length xs * s + (o + s) = omega (arith, e, suc-mul (length xs) s) in
      qed 𝓛 (‵ (Row o (x ∷ xs)) ∷ ‵ (Row at ys) ∷ []) ∵ fsplit ! $ move ! (1 ∷ 2 ∷ []) $
      use2 𝓛 (‵ (Row (o + s) (xs ++ ys))) (joined xs ys (o + s) at next) $ move ! (1 ∷ 0 ∷ []) $ fjoin ! $ done !

  module _ (o : ℕ) (places : List (Place E)) (i : ℕ) where
    -- the places but for place i
    abbrev pub Others : Fml
    Others = fsep (Row o (take i places)) (Row (i * s + o + s) (drop (suc i) places))

    before : i ≤ length places → i * s + o ≡ length (take i places) * s + o
    before le = let long : i ≡ length (take i places) = omega (arith, length-take i places) in ap (λ k. k * s + o) long

    pub place_out : i < length places → ent 𝓤 (sem 𝓛 (Row o places)) (sep 𝓤 (sem 𝓛 (One (i * s + o) (get_or places i None))) (sem 𝓛 Others))
    place_out lt =
        let back = get_or places i None ∷ drop (suc i) places in
        qed 𝓛 (‵ (Row o places) ∷ []) ∵
        rewrite ! 0 (λ (l : List (Place E)). ‵ (Row o l)) (sym (take-append-drop i places) ∙ ap (λ l. take i places ++ l) (drop-cons places i None lt)) refl $
        use1 𝓛 (‵ (Row o (take i places)) ⊛ ‵ (Row (i * s + o) back)) (cut (take i places) back o (i * s + o) (before (omega arith))) $
        split ! $ move ! (1 ∷ []) $ fsplit ! $ move ! (2 ∷ 1 ∷ []) $ fjoin ! $ move ! (1 ∷ []) $ done !

    pub place_in : i < length places → (place : Place E) → ent 𝓤 (sep 𝓤 (sem 𝓛 (One (i * s + o) place)) (sem 𝓛 Others)) (sem 𝓛 (Row o (set places i place)))
    place_in lt place =
        let back = place ∷ drop (suc i) places in
        qed 𝓛 (‵ (One (i * s + o) place) ∷ ‵ Others ∷ []) ∵ move ! (1 ∷ []) $ fsplit ! $ move ! (2 ∷ 1 ∷ []) $ fjoin ! $ move ! (1 ∷ 0 ∷ []) $
        use2 𝓛 (‵ (Row o (take i places ++ back))) (joined (take i places) back o (i * s + o) (before (omega arith))) $
        rewrite ! 0 (λ (l : List (Place E)). ‵ (Row o l)) (sym (set_split places i place lt)) refl $ done !

    -- the n places from place i on are emptied
    pub run_emptied : (n : ℕ) → i + n ≤ length places → ent 𝓤 (sem 𝓛 (Row o places)) (sem 𝓛 (Row o (emptied i n places)))
    run_emptied n le =
        let run = take n (drop i places) in let back = drop (i + n) places in let front = take i places in
        let none : List (Place E) = replicate n None in
        let long : length run ≡ n = omega (arith, length-take n (drop i places), length-drop i places) in
        let whole : places ≡ front ++ (run ++ back) = sym (take-append-drop i places) ∙ ap (λ l. front ++ l) (sym (take-append-drop n (drop i places)) ∙ ap (λ l. run ++ l) (drop-drop n i places)) in
        let here = i * s + o in let behind = n * s + here in
        qed 𝓛 (‵ (Row o places) ∷ []) ∵ rewrite ! 0 (λ (l : List (Place E)). ‵ (Row o l)) whole refl $
        use1 𝓛 (‵ (Row o front) ⊛ ‵ (Row here (run ++ back))) (cut front (run ++ back) o here (before (omega arith))) $ split ! $ move ! (1 ∷ []) $
        use1 𝓛 (‵ (Row here run) ⊛ ‵ (Row behind back)) (cut run back here behind (ap (λ k. k * s + here) (sym long))) $ split ! $
        use1 𝓛 (‵ (Row here (replicate (length run) None))) (all_emptied run here) $ rewrite ! 0 (λ (k : ℕ). ‵ (Row here (replicate k None))) long refl $
        use2 𝓛 (‵ (Row here (none ++ back))) (joined none back here behind (ap (λ k. k * s + here) (sym (length-replicate {A = Place E} n None)))) $ move ! (1 ∷ 0 ∷ []) $
        by ! (joined front (none ++ back) o here (before (omega arith)))

  pub of_room : (n o : ℕ) → ent 𝓤 (H.room (ty_array (elτ E) n) b o) (sem 𝓛 (Row o (replicate n None)))
  of_room zero o = qed 𝓛 (‵ (froom (ty_array (elτ E) 0) b o) ∷ []) ∵ keep ! [] $ done !
  of_room (suc n) o = qed 𝓛 (‵ (froom (ty_array (elτ E) (suc n)) b o) ∷ []) ∵
      use1 𝓛 (‵ (froom (elτ E) b o) ⊛ ‵ (froom (ty_array (elτ E) n) b (o + s))) (𝓛.laws.room_uncons (elτ E) n b o) $ split ! $
      use1 𝓛 (‵ (One o None)) (𝓛.laws.room-raw (elτ E) b o) $ frame ! $ by ! (of_room n (o + s))

  pub to_room : (n o : ℕ) → ent 𝓤 (sem 𝓛 (Row o (replicate n None))) (H.room (ty_array (elτ E) n) b o)
  to_room zero o = 𝓛.laws.room_nil (elτ E) b o
  to_room (suc n) o = qed 𝓛 (‵ (One o None) ∷ ‵ (Row (o + s) (replicate n None)) ∷ []) ∵
      use1 𝓛 (‵ (froom (elτ E) b o)) (𝓛.laws.raw-room (elτ E) b o) $ move ! (1 ∷ []) $
      use1 𝓛 (‵ (froom (ty_array (elτ E) n) b (o + s))) (to_room n (o + s)) $ move ! (1 ∷ []) $ by ! (𝓛.laws.room_cons (elτ E) n b o)

  module _ (κ : Lft) where
    abbrev Lent : ℕ → List (Place E) → Fml
    Lent o places = places_lent (R E) b o places κ

    from_on : (places : List (Place E)) (i o at : ℕ) → i ≤ length places → at ≡ i * s + o → ent 𝓤 (sem 𝓛 (Lent o places)) (sem 𝓛 (Lent at (drop i places)))
    from_on places zero o at le e =
        let here : o ≡ at = omega (arith, zero-mul s) in subst (λ k. ent 𝓤 (sem 𝓛 (Lent o places)) (sem 𝓛 (Lent k places))) here (id⊢ 𝓤 _)
    from_on [] (suc i) o at le e = absurd (omega arith)
    from_on (place ∷ places) (suc i) o at le e =
        let rest = Lent (o + s) places in
        via 𝓤 (sem 𝓛 rest) (snd∗ 𝓤 (sem 𝓛 (place_lent (R E) b o place κ)) (sem 𝓛 rest)) (from_on places i (o + s) at (omega arith) (omega (arith, suc-mul i s)))

    pub place_seen : (o : ℕ) (places : List (Place E)) (i : ℕ) → i < length places → ent 𝓤 (sem 𝓛 (Lent o places)) (sem 𝓛 (place_lent (R E) b (i * s + o) (get_or places i None) κ))
    place_seen o places i lt = qed 𝓛 (‵ (Lent o places) ∷ []) ∵
        use1 𝓛 (‵ (Lent (i * s + o) (drop i places))) (from_on places i o (i * s + o) (omega arith) refl) $
        rewrite ! 0 (λ (l : List (Place E)). ‵ (Lent (i * s + o) l)) (drop-cons places i None lt) refl $ fsplit ! $ keep ! (0 ∷ []) $ done !
