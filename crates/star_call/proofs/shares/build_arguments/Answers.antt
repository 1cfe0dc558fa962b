use Rattle.star_call.proofs.shares.build_arguments.Goals as goal

pub returns : goal.returns
returns c = rw (← c.shares.view_is) (rw (c.deref.ensures.value, c.deref-2.ensures.value) at c.build_each.ensures)
