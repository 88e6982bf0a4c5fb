-- Each walk comes to its end by computing.
use Rattle.std.proofs.Common.{refl}
use Rattle.tier_laws.specs.Walks.{Comes, AllCome}
use Rattle.tier_laws.specs.WrittenWalks.{walk_0, walk_1, walk_2, walk_3, walk_4, written_walks, touches_0, touches_1, touches_2, touches_3, touches_4}
use Rattle.tier_laws.specs.GeneratedWalks.{generated_0, generated_1, generated_2, generated_3, generated_4, generated_5, generated_6, generated_7, generated_8, generated_9, generated_10, generated_walks, touches, generated}
use Rattle.tier_laws.proofs.Rules.{rules}

walk_0-comes : Comes walk_0
unfolding rules walk_0 touches_0
walk_0-comes = refl

walk_1-comes : Comes walk_1
unfolding rules walk_1 touches_1
walk_1-comes = refl

walk_2-comes : Comes walk_2
unfolding rules walk_2 touches_2
walk_2-comes = refl

walk_3-comes : Comes walk_3
unfolding rules walk_3 touches_3
walk_3-comes = refl

walk_4-comes : Comes walk_4
unfolding rules walk_4 touches_4
walk_4-comes = refl

generated_0-comes : Comes generated_0
unfolding rules generated_0 touches generated
generated_0-comes = refl

generated_1-comes : Comes generated_1
unfolding rules generated_1 touches generated
generated_1-comes = refl

generated_2-comes : Comes generated_2
unfolding rules generated_2 touches generated
generated_2-comes = refl

generated_3-comes : Comes generated_3
unfolding rules generated_3 touches generated
generated_3-comes = refl

generated_4-comes : Comes generated_4
unfolding rules generated_4 touches generated
generated_4-comes = refl

generated_5-comes : Comes generated_5
unfolding rules generated_5 touches generated
generated_5-comes = refl

generated_6-comes : Comes generated_6
unfolding rules generated_6 touches generated
generated_6-comes = refl

generated_7-comes : Comes generated_7
unfolding rules generated_7 touches generated
generated_7-comes = refl

generated_8-comes : Comes generated_8
unfolding rules generated_8 touches generated
generated_8-comes = refl

generated_9-comes : Comes generated_9
unfolding rules generated_9 touches generated
generated_9-comes = refl

generated_10-comes : Comes generated_10
unfolding rules generated_10 touches generated
generated_10-comes = refl

pub written : AllCome written_walks
written = (walk_0-comes, (walk_1-comes, (walk_2-comes, (walk_3-comes, (walk_4-comes, tt)))))

pub generated_ones : AllCome generated_walks
generated_ones = (generated_0-comes, (generated_1-comes, (generated_2-comes, (generated_3-comes, (generated_4-comes, (generated_5-comes, (generated_6-comes, (generated_7-comes, (generated_8-comes, (generated_9-comes, (generated_10-comes, tt)))))))))))
