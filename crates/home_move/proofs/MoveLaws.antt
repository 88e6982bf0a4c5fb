-- What an install and a release make, call by call.
use Rattle.std.proofs.Common.{◌≡◌, ◌≢◌, ℕ, ◌+◌, List, [], ◌∷◌, ◌++◌, append_assoc, sym, subst, arith, true, false, IsTrue, Some, None, Result, Ok, Err}
use Rattle.std.specs.Prelude.{OnOk, IsErr}
use Rattle.std.specs.Result.{IsErrAnd}
use Rattle.devices.specs.State.{Call}
use Rattle.devices.specs.State.Call.{fence, write_block, sync}
use Rattle.devices.specs.World.{Standing, now}
use Rattle.line_pages.specs.declared.stop.Stop.{Stop}
use Rattle.device_calls.specs.Leads.{Made, Looked}
use Rattle.device_calls.proofs.LeadsLaws.{looked_exit, made_then, made_exit}
use Rattle.store_model.specs.Layout.{Sizes, page_block}
use Rattle.store_model.specs.Install.{frame_calls, entry_calls, install_calls, release_calls}
use Rattle.home_move.specs.Frames.{page_lines, HoldsFrame}
use Rattle.home_move.specs.Moves.{Releases}

-- ---- an install

pub install_unfilled : {T U : Type 0} {why : Stop} {a b : Standing} (g : Sizes) (k page : ℕ) (bytes : List ℕ) (r : Result T Stop) → IsErr r → IsErrAnd r (λ y. y ≡ why)
    → Made {T = U} (frame_calls g k 0 (page_lines bytes)) a b (Err why) → Made (install_calls g k page (page_lines bytes)) a b r
install_unfilled {a = a} {b = b} g k page bytes r failed is made =
    subst (λ (calls : List Call). Made calls a b r) (sym (append_assoc (frame_calls g k 0 (page_lines bytes)) (fence ∷ []) (entry_calls k (page + 1))))
    (made_exit (fence ∷ [] ++ entry_calls k (page + 1)) r failed is made)

pub install_unfenced : {T U V : Type 0} {v : V} {why : Stop} {a b c : Standing} (g : Sizes) (k page : ℕ) (bytes : List ℕ) (r : Result T Stop) → IsErr r → IsErrAnd r (λ y. y ≡ why)
    → Made {T = V} (frame_calls g k 0 (page_lines bytes)) a b (Ok v) → Made {T = U} (fence ∷ []) b c (Err why) → Made (install_calls g k page (page_lines bytes)) a c r
install_unfenced g k page bytes r failed is filled made = made_exit (entry_calls k (page + 1)) r failed is (made_then filled made)

pub install_then : {T U V : Type 0} {v : V} {u : U} {r : Result T Stop} {a b c d : Standing} (g : Sizes) (k page : ℕ) (bytes : List ℕ)
    → Made {T = V} (frame_calls g k 0 (page_lines bytes)) a b (Ok v) → Made {T = U} (fence ∷ []) b c (Ok u) → Made (entry_calls k (page + 1)) c d r → Made (install_calls g k page (page_lines bytes)) a d r
install_then g k page bytes filled fenced named = made_then (made_then filled fenced) named

-- ---- a release

OnOk_all : {T E : Type 0} {P : Type 0} (r : Result T E) → P → OnOk r P
OnOk_all (Ok v) p = p
OnOk_all (Err e) p = tt

not_ok : {T E : Type 0} (P : Type 0) (r : Result T E) → IsErr r → OnOk r P
not_ok P (Ok v) failed = cc
not_ok P (Err e) failed = tt

-- loads alone make no call
looked_made : {T : Type 0} {a b : Standing} {r : Result T Stop} → Looked a b r → b.block_reads ≡ a.block_reads → Made [] a b r
looked_made {a = a} {b = b} {r = r} looked reads = record {
  goes = looked.goes;
  cause = looked.cause;
  reads = reads;
  makes = record { whole = λ told. OnOk_all r ((looked.stays told).each b.clock looked.goes.clock (omega arith)); part = looked.stays };
}

pub release_unread : {T U : Type 0} {why : Stop} {a b : Standing} (g : Sizes) (k page : ℕ) (r : Result T Stop) → IsErr r → IsErrAnd r (λ y. y ≡ why)
    → Looked {T = U} a b (Err why) → b.block_reads ≡ a.block_reads → Releases g k page true a b r
release_unread g k page r failed is looked reads = record {
  loaded = None;
  made = looked_made (looked_exit r is looked) reads;
  holds = λ told bytes e. absurd (none_some bytes e);
  whole = not_ok _ r failed;
}
  where
    none_some : (xs : List ℕ) → None ≡ Some xs → ⊥
    none_some xs e = cc

-- behind the loads of the frame
written : {T V : Type 0} {v : V} {r : Result T Stop} {a b c : Standing} (g : Sizes) (k page : ℕ) (bytes : List ℕ) → Looked {T = V} a b (Ok v) → b.block_reads ≡ a.block_reads
    → (IsTrue a.told → HoldsFrame g k bytes (now a)) → Made (release_calls g k page bytes) b c r → Releases g k page true a c r
written {r = r} {a = a} g k page bytes looked reads holds made = record {
  loaded = Some bytes;
  made = made_then (looked_made looked reads) made;
  holds = λ told xs e. subst (λ ys. HoldsFrame g k ys (now a)) (some_same bytes xs e) (holds told);
  whole = OnOk_all r (λ write. some_none bytes);
}
  where
    some_same : (xs ys : List ℕ) → Some xs ≡ Some ys → xs ≡ ys
    some_same xs ys e = cc

    some_none : (xs : List ℕ) → Some xs ≢ None
    some_none xs e = cc

pub release_unwritten : {T U V : Type 0} {v : V} {why : Stop} {a b c : Standing} (g : Sizes) (k page block : ℕ) (bytes : List ℕ) (r : Result T Stop) → IsErr r → IsErrAnd r (λ y. y ≡ why)
    → block ≡ page_block g page → Looked {T = V} a b (Ok v) → b.block_reads ≡ a.block_reads → (IsTrue a.told → HoldsFrame g k bytes (now a))
    → Made {T = U} (write_block block bytes ∷ sync ∷ []) b c (Err why) → Releases g k page true a c r
release_unwritten {U = U} {why = why} {b = b} {c = c} g k page block bytes r failed is at looked reads holds made =
    written g k page bytes looked reads holds
    (made_exit (entry_calls k 0) r failed is (subst (λ n. Made {T = U} (write_block n bytes ∷ sync ∷ []) b c (Err why)) at made))

pub release_then : {T U V : Type 0} {v : V} {u : U} {r : Result T Stop} {a b c d : Standing} (g : Sizes) (k page block : ℕ) (bytes : List ℕ)
    → block ≡ page_block g page → Looked {T = V} a b (Ok v) → b.block_reads ≡ a.block_reads → (IsTrue a.told → HoldsFrame g k bytes (now a))
    → Made {T = U} (write_block block bytes ∷ sync ∷ []) b c (Ok u) → Made (entry_calls k 0) c d r → Releases g k page true a d r
release_then {U = U} {u = u} {b = b} {c = c} g k page block bytes at looked reads holds made cleared =
    written g k page bytes looked reads holds (made_then (subst (λ n. Made {T = U} (write_block n bytes ∷ sync ∷ []) b c (Ok u)) at made) cleared)

-- a release without a write
pub release_clean : {T : Type 0} {r : Result T Stop} {a b : Standing} (g : Sizes) (k page : ℕ) → Made (entry_calls k 0) a b r → Releases g k page false a b r
release_clean {r = r} g k page made = record {
  loaded = None;
  made = made;
  holds = λ told bytes e. absurd (none_some bytes e);
  whole = OnOk_all r (λ write. absurd (false_true write));
}
  where
    none_some : (xs : List ℕ) → None ≡ Some xs → ⊥
    none_some xs e = cc

    false_true : IsTrue false → ⊥
    false_true e = cc
