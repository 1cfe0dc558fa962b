use Rattle.std.proofs.Common.{◌∙◌, ◌++◌, ap}
use Rattle.std.proofs.lemmas.List.{append-nil}
use Rattle.star_outcome.specs.Reaches.{row_of, shared_of}
use Rattle.star_outcome.proofs.Blocks.{shared_last}
use Rattle.star_outcome.proofs.store_row.StoreRow.settled.Goals as goal

pub returns : goal.returns
returns c =
    ap (λ xs. shared_of c.push.new.self.items ++ xs) c.new-3.ensures.items
    ∙ (append-nil (shared_of c.push.new.self.items)
    ∙ (ap shared_of c.in_ok-push.ensures.items
    ∙ (shared_last c.self.inside.blocks.items c.in_ok-new-2.field-0
    ∙ (ap (λ v. shared_of c.self.inside.blocks.items ++ v) (c.in_ok-new-2.ensures.ok ∙ c.in_ok-new.ensures)
    ∙ ap row_of c.self.view_is))))
