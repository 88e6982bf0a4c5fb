use Rattle.std.proofs.Common.{◌≤◌, ◌+◌, ◌≡◌, ℕ, Result, Ok, Err, OnOk, arith}
use Rattle.page_alloc.proofs.WrittenLaws.{changed_most}
use Rattle.bplus_tree.proofs.joining.write_joined.Goals as goal

pub write_changes-requires-clause-room : goal.write_changes-requires-clause-room
write_changes-requires-clause-room g c = let most = changed_most c.args.work.now.spare c.args.work.now.left in omega (arith, most, c.requires.room)

pub give-requires-clause-room : goal.give-requires-clause-room
give-requires-clause-room g c = let most = changed_most c.args.work.now.spare c.args.work.now.left in omega (arith, most, c.requires.room, c.in_ok-write_changes.ensures.room)

total : {T E : Type 0} (r : Result T E) (old mid new n : ℕ) → mid + n ≡ old → n ≤ 64 → OnOk r (new + 2 ≡ mid) → OnOk r (old ≤ new + 128)
total (Ok v) old mid new n a b e = omega (arith, a, b, e)
total (Err s) old mid new n a b e = tt

pub returns-clause-room : goal.returns-clause-room
returns-clause-room g c = total c.give.result _ _ _ _ c.in_ok-write_changes.ensures.room (changed_most c.args.work.now.spare c.args.work.now.left) c.give.ensures.room
