-- `seed::relevant_rising` meets its contract.
use borrow.Author.Rules.{rules}
use borrow.Author.Tests.{tests, le-ltb}
use mathlib.Core.Path.{◌∙◌}
use Rattle.std.proofs.lemmas.List.Sorted.{IsPartitionPoint-from_clause}
use Rattle.seed.proofs.Rising.{precedes, partitioned, point_end, point_at}
use Rattle.seed.proofs.relevant_rising.Goals as goal

pub returns-then-place-list : goal.returns-then-place-list
returns-then-place-list c =
    let e = c.as_chunks.ensures in
    point_at _ _ e.front e.front_len c.args.address c.requires _
    (IsPartitionPoint-from_clause (precedes _ _ e.front e.front_len c.args.address) _ _ c.partition_point-place.ensures.partitioned (partitioned _ _ e.front e.front_len c.args.address c.requires) (λ x r f k. search (rules, tests)))
    _ _ c.if-place-list.true c.is_address.ensures

pub returns-else-place-list : goal.returns-else-place-list
returns-else-place-list c =
    let e = c.as_chunks.ensures in
    le-ltb _ _ c.if-place-list.false
    ∙ point_end _ _ e.front e.front_len c.args.address c.requires _
    (IsPartitionPoint-from_clause (precedes _ _ e.front e.front_len c.args.address) _ _ c.partition_point-place.ensures.partitioned (partitioned _ _ e.front e.front_len c.args.address c.requires) (λ x r f k. search (rules, tests)))
    c.if-place-list.false c.partition_point-place.ensures.bound
