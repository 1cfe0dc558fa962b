use Rattle.std.proofs.Common.{rules}
use Rattle.std.proofs.lemmas.List.Sorted.{answers_always}
use Rattle.star_module.proofs.ByName.{sorted_by_name}
use Rattle.star_module.proofs.globals.sort_by_name.Goals as goal

pub returns : goal.returns
returns c =
    sorted_by_name _ _
    (c.in_ok-sort_by_key.ensures.sorted (λ x. x.0) (answers_always _ _ _ (λ f a r g k. search rules)))
    (c.in_ok-sort_by_key.ensures.stable (λ x. x.0) (answers_always _ _ _ (λ f a r g k. search rules)))
