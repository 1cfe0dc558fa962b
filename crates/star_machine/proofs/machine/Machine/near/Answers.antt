use Rattle.std.proofs.Common.{◌≡◌, subst, IfSome, Some}
use Rattle.star_store.specs.Store.{Shelf, look, slot_value}
use Rattle.star_meaning.specs.Run.{State}
use Rattle.star_machine.proofs.machine.Machine.near.Goals as goal

pub returns : goal.returns
returns c =
    subst (λ (s : State). IfSome c.near.result (λ v. (shelf : Shelf) → slot_value (look s.store shelf c.args.frame) c.args.slot ≡ Some v)) c.self.view_is c.near.ensures
