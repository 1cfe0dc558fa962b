use Rattle.std.proofs.Common.{rules}
use Rattle.star_store.specs.Fields.{is_before}
use Rattle.star_visit.proofs.Members.{fields_rank}
use Rattle.star_visit.proofs.Sorting.{sorted_by}
use Rattle.star_builtin.proofs.structs.in_order.Goals as goal

pub returns : goal.returns
returns c = sorted_by is_before fields_rank _ _ c.in_ok-sort_by.ensures.sorted c.in_ok-sort_by.ensures.stable (λ a r q k. search rules)
