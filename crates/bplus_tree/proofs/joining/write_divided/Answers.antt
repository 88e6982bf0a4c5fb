use Rattle.std.proofs.Common.{◌≡◌, ◌≤◌, ◌+◌, ℕ, Result, Ok, Err, OnOk, arith}
use Rattle.page_alloc.proofs.WrittenLaws.{changed_most}
use Rattle.bplus_tree.proofs.joining.write_divided.Goals as goal

pub write_changes-requires-clause-room : goal.write_changes-requires-clause-room
write_changes-requires-clause-room g c = let most = changed_most c.args.work.now.spare c.args.work.now.left in omega (arith, most, c.requires.room)

pub write_changes-requires-2-clause-room : goal.write_changes-requires-2-clause-room
write_changes-requires-2-clause-room g c =
    let most = changed_most c.args.work.now.spare c.args.work.now.left in
    let more = changed_most c.args.work.now.page c.args.work.now.right in
    omega (arith, most, more, c.requires.room, c.in_ok-write_changes.ensures.room)

total : {T E : Type 0} (r : Result T E) (old mid new n m : ℕ) → mid + n ≡ old → n ≤ 64 → m ≤ 64 → OnOk r (new + m ≡ mid) → OnOk r (old ≤ new + 128)
total (Ok v) old mid new n m a b d e = omega (arith, a, b, d, e)
total (Err s) old mid new n m a b d e = tt

pub returns-clause-room : goal.returns-clause-room
returns-clause-room g c =
    total c.write_changes-2.result _ _ _ _ _ c.in_ok-write_changes.ensures.room (changed_most c.args.work.now.spare c.args.work.now.left) (changed_most c.args.work.now.page c.args.work.now.right) c.write_changes-2.ensures.room
