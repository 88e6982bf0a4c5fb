-- Runs over one list of commands after another.
use Rattle.std.proofs.Common.{◌≡◌, ℕ, ◌+◌, ◌≤◌, true, false, cond, List, [], ◌∷◌, ◌++◌, length, get_or, refl, ap, sym, ◌∙◌, arith, append_assoc, length-append, inl, inr}
use Rattle.std.proofs.lemmas.List.{get_or_default, get_or_append_left}
use Rattle.std.proofs.lemmas.Bool.{cases_Bool}
use Rattle.std.specs.List.{list_any}
use Rattle.texts.specs.Runs.{Machine, state_after, replies, versions, commits, after}

module _ {S C R T : Type 0} (m : Machine S C R T) where
  pub state_after-append : (s : S) (xs ys : List C) → state_after m s (xs ++ ys) ≡ state_after m (state_after m s xs) ys
  state_after-append s [] ys = refl
  state_after-append s (x ∷ xs) ys = state_after-append (m.step s x).0 xs ys

  pub replies-append : (s : S) (xs ys : List C) → replies m s (xs ++ ys) ≡ replies m s xs ++ replies m (state_after m s xs) ys
  replies-append s [] ys = refl
  replies-append s (x ∷ xs) ys =
      ap (λ rs. (m.step s x).1 ++ rs) (replies-append (m.step s x).0 xs ys)
      ∙ sym (append_assoc (m.step s x).1 (replies m (m.step s x).0 xs) (replies m (state_after m (m.step s x).0 xs) ys))

  pub versions-append : (s : S) (xs ys : List C) → versions m s (xs ++ ys) ≡ versions m s xs ++ versions m (state_after m s xs) ys
  versions-append s [] ys = refl
  versions-append s (x ∷ xs) ys =
      rw (versions-append (m.step s x).0 xs ys)
      (elim (list_any m.tells_commit (m.step s x).1) as (λ b.
      cond b (m.tables (m.step s x).0 ∷ (versions m (m.step s x).0 xs ++ versions m (state_after m (m.step s x).0 xs) ys)) (versions m (m.step s x).0 xs ++ versions m (state_after m (m.step s x).0 xs) ys)
      ≡ cond b (m.tables (m.step s x).0 ∷ versions m (m.step s x).0 xs) (versions m (m.step s x).0 xs) ++ versions m (state_after m (m.step s x).0 xs) ys)
      [ true ↦ refl | false ↦ refl ])

  pub commits-append : (s : S) (xs ys : List C) → commits m s (xs ++ ys) ≡ commits m s xs + commits m (state_after m s xs) ys
  commits-append s xs ys = ap length (versions-append s xs ys) ∙ length-append (versions m s xs) (versions m (state_after m s xs) ys)

  -- later commands do not change what stands after the commits of earlier ones
  pub after-append : (s : S) (xs ys : List C) (k : ℕ) → k ≤ commits m s xs → after m s (xs ++ ys) k ≡ after m s xs k
  after-append s xs ys k h =
      ap (λ vs. get_or (m.tables s ∷ vs) k (m.tables s)) (versions-append s xs ys)
      ∙ get_or_append_left (m.tables s ∷ versions m s xs) (versions m (state_after m s xs) ys) (m.tables s) k (omega arith)

  -- A machine whose committed tables change only where a reply tells of a commit.
  module _ (keeps : (s : S) (c : C) → list_any m.tells_commit (m.step s c).1 ≡ false → m.tables (m.step s c).0 ≡ m.tables s) where
    -- after all commits so far there stand the committed tables
    pub after_all : (s : S) (xs : List C) → after m s xs (commits m s xs) ≡ m.tables (state_after m s xs)
    after_all s [] = refl
    after_all s (x ∷ xs) =
        elim (cases_Bool (list_any m.tells_commit (m.step s x).1)) [
          | inl e ↦ rw e (get_or_default (m.tables (m.step s x).0 ∷ versions m (m.step s x).0 xs) (length (versions m (m.step s x).0 xs)) (m.tables s) (m.tables (m.step s x).0) (omega arith)
              ∙ after_all (m.step s x).0 xs)
          | inr e ↦ rw (e, ← keeps s x e) (after_all (m.step s x).0 xs)
        ]

    -- so they do where more commands follow
    pub after_so_far : (s : S) (xs ys : List C) → after m s (xs ++ ys) (commits m s xs) ≡ m.tables (state_after m s xs)
    after_so_far s xs ys = after-append s xs ys (commits m s xs) (omega arith) ∙ after_all s xs

    -- and the tables after one commit more are those that the step which commits leaves
    pub after_next : (s : S) (xs : List C) (c : C) (ys : List C) → list_any m.tells_commit (m.step (state_after m s xs) c).1 ≡ true →
        after m s (xs ++ c ∷ ys) (commits m s xs + 1) ≡ m.tables (m.step (state_after m s xs) c).0
    after_next s xs c ys e =
        let counted : commits m s (xs ++ c ∷ []) ≡ commits m s xs + 1 = commits-append s xs (c ∷ []) ∙ rw e (omega arith) in
        let regrouped : (xs ++ c ∷ []) ++ ys ≡ xs ++ c ∷ ys = append_assoc xs (c ∷ []) ys in
        rw (← counted, ← regrouped) (after_so_far s (xs ++ c ∷ []) ys ∙ ap m.tables (state_after-append s xs (c ∷ [])))
