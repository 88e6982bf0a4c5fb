-- One line more goes to its home: the writes so far and this one are the replay of one record more.
use Rattle.std.proofs.Common.{◌≡◌, ℕ, suc, ◌+◌, ◌<◌, List, [], ◌∷◌, ◌++◌, length, take, refl, sym, ap, ◌∙◌, subst, arith, Option, Result, Ok}
use Rattle.std.proofs.Math.Seq.{take-suc}
use Rattle.devices.specs.State.{State}
use Rattle.devices.specs.World.{Standing}
use Rattle.line_pages.specs.declared.stop.Stop.{Stop}
use Rattle.line_pages.specs.Pairs.{Pairs, with_pair}
use Rattle.device_calls.specs.Leads.{Leads, Given}
use Rattle.device_calls.proofs.LeadsLaws.{leads_none, leads_map}
use Rattle.store_model.specs.Layout.{Sizes}
use Rattle.store_model.specs.Log.{Words, Change, redone, written}
use Rattle.home_move.specs.Homes.{Aim, Keeps, KeepsBut, Homes, CanWrite, CanReplay, aim_with, over, only_pair}
use Rattle.home_move.proofs.HomeLaws.{homes_keep}
use Rattle.home_move.proofs.ReplayLaws.{replay_write, fold_step, redone_more, whole_mask}
use Rattle.line_pages.specs.Pairs.{no_pairs}
use Rattle.home_tests.specs.declared.replaying.HomeLine.{HomeLine}
use Rattle.home_tests.specs.Replay.{nth, no_line, CanReplayAll, as_change, as_changes, rewritten, known_with}

changes_more : (xs : List HomeLine) (x : HomeLine) → as_changes (xs ++ x ∷ []) ≡ as_changes xs ++ as_change x ∷ []
changes_more [] x = refl
changes_more (y ∷ ys) x = ap (λ (cs : List Change). as_change y ∷ cs) (changes_more ys x)

known_more : (xs : List HomeLine) (x : HomeLine) (known : Pairs) → known_with (xs ++ x ∷ []) known ≡ with_pair x.page x.line (known_with xs known)
known_more [] x known = refl
known_more (y ∷ ys) x known = known_more ys x (with_pair y.page y.line known)

-- before the first of them
pub none_written : (g : Sizes) (passing : Option ℕ) (lines : List HomeLine) (a : Standing) → Leads {T = Unit {0}} Keeps (Given (CanReplayAll g lines) (Homes g passing)) (λ (aim : Aim). Homes g passing (over (rewritten []) (known_with []) aim)) a a (Ok tt)
none_written g passing lines a = leads_none (λ aim s before. (homes_keep no_pairs aim s before.holds).keeps) (λ aim s before. before.holds)

-- line k behind those before it
pub one_written : {T U : Type 0} {v : U} {a b c : Standing} {r : Result T Stop} (g : Sizes) (first passing new : Option ℕ) (lines : List HomeLine) (k : ℕ) (x : HomeLine) → k < length lines → x ≡ nth lines k
    → Leads {T = U} Keeps (Given (CanReplayAll g lines) (Homes g first)) (λ (aim : Aim). Homes g passing (over (rewritten (take k lines)) (known_with (take k lines)) aim)) a b (Ok v)
    → Leads (KeepsBut (only_pair x.page x.line)) (Given (CanWrite g x.page x.line x.home x.value) (Homes g passing)) (λ (aim : Aim). Homes g new (aim_with x.page x.line x.value aim)) b c r
    → Leads Keeps (Given (CanReplayAll g lines) (Homes g first)) (λ (aim : Aim). Homes g new (over (rewritten (take (k + 1) lines)) (known_with (take (k + 1) lines)) aim)) a c r
one_written g first passing new lines k x less same before write =
    leads_map (λ aim s homes. subst (λ (xs : List HomeLine). Homes g new (over (rewritten xs) (known_with xs) aim) s) (sym taken) (longer aim s homes))
    (fold_step g new (as_change x) x.value (rewritten (take k lines)) (λ (known : Pairs). with_pair x.page x.line (known_with (take k lines) known)) (whole_mask (as_change x) refl)
    (replay_write g first passing new x.home x.page x.line x.value (rewritten (take k lines)) (known_with (take k lines)) (CanReplayAll g lines)
    (λ told aim s reads can so. subst (λ (y : HomeLine). CanReplay g y.page y.line y.home aim) (sym same) (can.each k less)) before write))
  where
    taken : take (k + 1) lines ≡ take k lines ++ x ∷ []
    taken = (let e : k + 1 ≡ suc k = omega arith in ap (λ n. take n lines) e) ∙ take-suc lines k no_line less ∙ ap (λ (y : HomeLine). take k lines ++ y ∷ []) (sym same)

    longer : (aim : Aim) (s : State) → Homes g new (over (λ (words : Words). written (as_change x) x.value (rewritten (take k lines) words)) (λ (known : Pairs). with_pair x.page x.line (known_with (take k lines) known)) aim) s
        → Homes g new (over (rewritten (take k lines ++ x ∷ [])) (known_with (take k lines ++ x ∷ [])) aim) s
    longer aim s homes =
        let words : rewritten (take k lines ++ x ∷ []) aim.words ≡ written (as_change x) x.value (rewritten (take k lines) aim.words) =
        ap (λ (cs : List Change). redone cs aim.words) (changes_more (take k lines) x) ∙ redone_more (as_changes (take k lines)) (as_change x) aim.words in
        subst (λ (w : Words). Homes g new (record aim { words = w; known = known_with (take k lines ++ x ∷ []) aim.known }) s) (sym words)
        (subst (λ (q : Pairs). Homes g new (record aim { words = written (as_change x) x.value (rewritten (take k lines) aim.words); known = q }) s) (sym (known_more (take k lines) x aim.known)) homes)

-- all of them
pub all_written : {T : Type 0} {a b : Standing} {r : Result T Stop} (g : Sizes) (first passing : Option ℕ) (lines : List HomeLine) (k : ℕ) → k ≡ length lines
    → Leads Keeps (Given (CanReplayAll g lines) (Homes g first)) (λ (aim : Aim). Homes g passing (over (rewritten (take k lines)) (known_with (take k lines)) aim)) a b r
    → Leads Keeps (Given (CanReplayAll g lines) (Homes g first)) (λ (aim : Aim). Homes g passing (over (rewritten lines) (known_with lines) aim)) a b r
all_written g first passing lines k all call =
    leads_map (λ aim s homes. subst (λ (xs : List HomeLine). Homes g passing (over (rewritten xs) (known_with xs) aim) s) (ap (λ n. take n lines) all ∙ take-all lines) homes) call
  where
    take-all : (xs : List HomeLine) → take (length xs) xs ≡ xs
    take-all [] = refl
    take-all (y ∷ ys) = ap (λ (zs : List HomeLine). y ∷ zs) (take-all ys)
