use Rattle.std.proofs.Common.{rules}
use Rattle.std.proofs.lemmas.Map.Made.{map_same_pairs, lookup-map_values}
use Rattle.std.specs.BTreeMap.{is_at}
use Rattle.std.specs.Ordering.{nat_cmp}
use Rattle.ssd_model.specs.Sectors.{restarted}
use Rattle.ssd_model.proofs.sectors.restart_all.Goals as goal

pub returns : goal.returns
returns c =
    let e = map_same_pairs _ restarted _ (λ k v b w f' t. search rules) _ _ c.retain.ensures.filtered in
    λ q. rw e (lookup-map_values restarted (is_at (nat_cmp q)) c.args.written.now.entries)
