-- How many blocks are written while lines go to their homes.
use Rattle.std.proofs.Common.{◌≡◌, ◌≢◌, ℕ, ◌+◌, List, [], ◌∷◌, ◌++◌, refl, sym, ap, ◌∙◌, subst, arith, eqb, true, IsTrue, Option, Some, None, Result, Ok, Err}
use Rattle.std.specs.Prelude.{OnOk}
use Rattle.std.specs.Result.{IsErrAnd}
use Rattle.std.proofs.lemmas.Bool.{eq-eqb, ne_eqb, cond-true, cond-false}
use Rattle.std.proofs.lemmas.Result.{err_from_is_err_and}
use Rattle.nvm_model.specs.declared.line.Line.{Line}
use Rattle.devices.specs.State.{Call}
use Rattle.devices.specs.State.Call.{store_word, store_line, flush, fence, write_block, sync}
use Rattle.devices.specs.World.{Standing, Goes}
use Rattle.devices.proofs.CallLaws.{makes_then, makes_stop}
use Rattle.line_pages.specs.declared.stop.Stop.{Stop}
use Rattle.device_calls.specs.Leads.{Made, Looked}
use Rattle.store_model.specs.Layout.{Sizes}
use Rattle.store_model.specs.Install.{frame_calls, install_calls, release_calls, store_calls}
use Rattle.home_move.specs.Moves.{Releases, release_makes}
use Rattle.home_move.specs.Passing.{block_writes, block_syncs, WritesBlocks, leaving, leaving_for}

-- ---- the counts

writes-append : (xs ys : List Call) → block_writes (xs ++ ys) ≡ block_writes xs + block_writes ys
writes-append [] ys = let e : block_writes ys ≡ 0 + block_writes ys = omega arith in e
writes-append (store_word line word value ∷ xs) ys = writes-append xs ys
writes-append (store_line line value ∷ xs) ys = writes-append xs ys
writes-append (flush line ∷ xs) ys = writes-append xs ys
writes-append (fence ∷ xs) ys = writes-append xs ys
writes-append (write_block block bytes ∷ xs) ys = let rest : block_writes (xs ++ ys) ≡ block_writes xs + block_writes ys = writes-append xs ys in omega arith
writes-append (sync ∷ xs) ys = writes-append xs ys

syncs-append : (xs ys : List Call) → block_syncs (xs ++ ys) ≡ block_syncs xs + block_syncs ys
syncs-append [] ys = let e : block_syncs ys ≡ 0 + block_syncs ys = omega arith in e
syncs-append (store_word line word value ∷ xs) ys = syncs-append xs ys
syncs-append (store_line line value ∷ xs) ys = syncs-append xs ys
syncs-append (flush line ∷ xs) ys = syncs-append xs ys
syncs-append (fence ∷ xs) ys = syncs-append xs ys
syncs-append (write_block block bytes ∷ xs) ys = syncs-append xs ys
syncs-append (sync ∷ xs) ys = let rest : block_syncs (xs ++ ys) ≡ block_syncs xs + block_syncs ys = syncs-append xs ys in omega arith

frame_writes : (g : Sizes) (k l : ℕ) (lines : List Line) → block_writes (frame_calls g k l lines) ≡ 0
frame_writes g k l [] = refl
frame_writes g k l (line ∷ lines) = frame_writes g k (l + 1) lines

frame_syncs : (g : Sizes) (k l : ℕ) (lines : List Line) → block_syncs (frame_calls g k l lines) ≡ 0
frame_syncs g k l [] = refl
frame_syncs g k l (line ∷ lines) = frame_syncs g k (l + 1) lines

-- ---- the calls

pub writes_none : {T : Type 0} {v : T} (a : Standing) → WritesBlocks {T = T} 0 a a (Ok v)
writes_none a = record { calls = []; makes = record { whole = λ told. refl; part = λ told. record { each = λ m low high. ap a.at (omega arith) } }; writes = refl; syncs = refl }

OnOk_all : {T E : Type 0} {P : Type 0} (r : Result T E) → P → OnOk r P
OnOk_all (Ok v) p = p
OnOk_all (Err e) p = tt

pub looked_writes : {T : Type 0} {a b : Standing} {r : Result T Stop} → Looked a b r → WritesBlocks 0 a b r
looked_writes {b = b} {r = r} looked = record {
  calls = [];
  makes = record { whole = λ told. OnOk_all r ((looked.stays told).each b.clock looked.goes.clock (omega arith)); part = looked.stays };
  writes = refl;
  syncs = refl;
}

pub store_writes : {T : Type 0} {a b : Standing} {r : Result T Stop} (g : Sizes) (k line : ℕ) (value : Line) → Made (store_calls g k line value) a b r → WritesBlocks 0 a b r
store_writes g k line value made = record { calls = store_calls g k line value; makes = made.makes; writes = refl; syncs = refl }

pub install_writes : {T : Type 0} {a b : Standing} {r : Result T Stop} (g : Sizes) (k page : ℕ) (lines : List Line) → Made (install_calls g k page lines) a b r → WritesBlocks 0 a b r
install_writes g k page lines made = record {
  calls = install_calls g k page lines;
  makes = made.makes;
  writes = writes-append (frame_calls g k 0 lines ++ fence ∷ []) _ ∙ ap (λ n. n + 0) (writes-append (frame_calls g k 0 lines) (fence ∷ []) ∙ ap (λ n. n + 0) (frame_writes g k 0 lines));
  syncs = syncs-append (frame_calls g k 0 lines ++ fence ∷ []) _ ∙ ap (λ n. n + 0) (syncs-append (frame_calls g k 0 lines) (fence ∷ []) ∙ ap (λ n. n + 0) (frame_syncs g k 0 lines));
}

-- where the frame could not be loaded nothing was made of the one write
pub release_writes : {T : Type 0} {a b : Standing} {r : Result T Stop} (g : Sizes) (k page : ℕ) → Releases g k page true a b r → WritesBlocks 1 a b r
release_writes {T = T} {a = a} {b = b} {r = r} g k page releases = by_loaded r releases.loaded releases.made releases.whole
  where
    by_loaded : (r : Result T Stop) (loaded : Option (List ℕ)) → Made (release_makes g k page true loaded) a b r → OnOk r (IsTrue true → loaded ≢ None) → WritesBlocks 1 a b r
    by_loaded r (Some bytes) made whole = record { calls = release_calls g k page bytes; makes = made.makes; writes = refl; syncs = refl }
    by_loaded (Ok v) None made whole = absurd (whole refl refl)
    by_loaded (Err why) None made whole = record { calls = release_calls g k page []; makes = makes_stop {T = T} (release_calls g k page []) (Err why) refl made.makes; writes = refl; syncs = refl }

pub writes_then : {T U : Type 0} {v : U} {n m : ℕ} {a b c : Standing} {r : Result T Stop} → Goes a b → Goes b c → WritesBlocks {T = U} n a b (Ok v) → WritesBlocks m b c r → WritesBlocks (n + m) a c r
writes_then {n = n} {m = m} goes later first second = record {
  calls = first.calls ++ second.calls;
  makes = makes_then goes later first.makes second.makes;
  writes = (let x : block_writes first.calls ≡ n = first.writes in let y : block_writes second.calls ≡ m = second.writes in let z : block_writes (first.calls ++ second.calls) ≡ block_writes first.calls + block_writes second.calls = writes-append first.calls second.calls in omega arith);
  syncs = (let x : block_syncs first.calls ≡ n = first.syncs in let y : block_syncs second.calls ≡ m = second.syncs in let z : block_syncs (first.calls ++ second.calls) ≡ block_syncs first.calls + block_syncs second.calls = syncs-append first.calls second.calls in omega arith);
}

pub writes_number : {T : Type 0} {n m : ℕ} {a b : Standing} {r : Result T Stop} → n ≡ m → WritesBlocks n a b r → WritesBlocks m a b r
writes_number {a = a} {b = b} {r = r} same writes = subst (λ k. WritesBlocks k a b r) same writes

-- the exit of a `?`
pub at_exit : {T : Type 0} {why : Stop} (P : Result T Stop → Type 0) (r : Result T Stop) → IsErrAnd r (λ y. y ≡ why) → P (Err why) → P r
at_exit {T = T} P r is holds =
    let exit = err_from_is_err_and r is in
    let stop : Stop → Result T Stop = (λ (y : Stop). Err y) in
    subst P (sym (exit.1 ∙ ap stop exit.2)) holds

-- ---- how many pages leave

pub none_leaves : (there : Option ℕ) → there ≡ None → 0 ≡ leaving there
none_leaves there none = sym (ap leaving none)

pub one_leaves : (there : Option ℕ) (page : ℕ) → there ≡ Some page → 1 ≡ leaving there
one_leaves there page some = sym (ap leaving some)

pub kept_leaves : (home : Option ℕ) (frame page : ℕ) (there : Option ℕ) → home ≡ Some frame → 0 ≡ leaving_for home page there
kept_leaves home frame page there some = sym (ap (λ (x : Option ℕ). leaving_for x page there) some)

pub there_stays : (page : ℕ) (there : Option ℕ) → there ≡ Some page → 0 ≡ leaving_for None page there
there_stays page there some = sym (ap (leaving_for None page) some ∙ cond-true (eqb page page) 0 1 (eq-eqb page page refl))

pub elsewhere_leaves : (page : ℕ) (there : Option ℕ) → there ≢ Some page → leaving there + 0 ≡ leaving_for None page there
elsewhere_leaves page None apart = refl
elsewhere_leaves page (Some p) apart = sym (cond-false (eqb p page) 0 1 (ne_eqb p page (λ same. apart (ap (λ n. Some n) same))))

pub passed_leaves : (home : Option ℕ) (page : ℕ) (there : Option ℕ) → home ≡ None → leaving_for None page there + 0 ≡ leaving_for home page there
passed_leaves home page there none = (let e : leaving_for None page there + 0 ≡ leaving_for None page there = omega arith in e) ∙ sym (ap (λ (x : Option ℕ). leaving_for x page there) none)
