use Rattle.std.proofs.Common.{List, Ok, Err, ap, sym, ◌∙◌, subst}
use Rattle.std.proofs.lemmas.List.{with_items_is}
use Rattle.std.specs.Vec.{with_items}
use Rattle.std.proofs.lemmas.Result.{err_from_is_err_and}
use Rattle.star_store.specs.declared.values.HeapCell.{HeapCell}
use Rattle.star_store.specs.Index.{AreIndexed, Indexes}
use Rattle.star_store.specs.Write.{Writes, write}
use Rattle.star_store.proofs.Indexes.{write_indexed}
use Rattle.star_store.proofs.Writing.{write_within}
use Rattle.star_store.proofs.arena.Arena.write.Goals as goal

pub returns-in_err-old : goal.returns-in_err-old
returns-in_err-old c =
    let p = err_from_is_err_and c.from_residual-in_err-old.result c.from_residual-in_err-old.ensures.1 in
    rw (p.1, p.2)
    (subst (λ (cells : List HeapCell). Writes (write c.args.self.now c.args.homes.now c.args.target c.args.change) (Err c.in_err-old.field-0.0) c.args.self.now (record { home = c.self.inside.home; cells = cells }))
    (sym (with_items_is c.self.inside.cells c.change_at.new.cells (c.change_at.auto.cells ∙ c.deref_mut.ensures.len)))
    (write_within c.args.self.now c.args.homes.now c.args.target c.args.change c.in-Ref.home c.in-Ref.at c.self.inside.home (Err c.in_err-old.field-0.0) c.place_in-place.result c.self.inside.cells.items c.deref_mut.result.now c.change_at.new.cells c.self.view_is c.in-Ref.is (sym c.allow.ensures ∙ c.in_ok-allow.was) c.place_in-place.ensures c.deref_mut.ensures.value c.in_err-old.ensures))

pub invariant_of-self-2 : goal.invariant_of-self-2
invariant_of-self-2 c =
    subst (λ (cells : List HeapCell). AreIndexed (record { home = c.self.inside.home; cells = cells }) (with_items c.self.inside.indexes c.change_index_at.new.indexes).items)
    (sym (with_items_is c.self.inside.cells c.change_at.new.cells (c.change_at.auto.cells ∙ c.deref_mut.ensures.len)))
    (subst (λ (indexes : Indexes). AreIndexed (record { home = c.self.inside.home; cells = c.change_at.new.cells }) indexes)
    (sym (with_items_is c.self.inside.indexes c.change_index_at.new.indexes (c.change_index_at.auto.indexes ∙ c.deref_mut-2.ensures.len)))
    (write_indexed c.self.inside.home c.self.inside.cells.items c.deref_mut.result.now c.change_at.new.cells c.self.inside.indexes.items c.deref_mut-2.result.now c.change_index_at.new.indexes c.args.self.now c.in-Ref.at c.args.change c.place_in-place.result c.new_content-content.result c.in_ok-old.old
    c.self.view_is c.self.invariant c.deref_mut.ensures.value c.deref_mut-2.ensures.value c.change_index_at.ensures c.new_content-content.ensures c.in_ok-old.ensures))

pub returns : goal.returns
returns c =
    subst (λ (cells : List HeapCell). Writes (write c.args.self.now c.args.homes.now c.args.target c.args.change) (Ok c.in_ok-old.old) c.args.self.now (record { home = c.self.inside.home; cells = cells }))
    (sym (with_items_is c.self.inside.cells c.change_at.new.cells (c.change_at.auto.cells ∙ c.deref_mut.ensures.len)))
    (write_within c.args.self.now c.args.homes.now c.args.target c.args.change c.in-Ref.home c.in-Ref.at c.self.inside.home (Ok c.in_ok-old.old) c.place_in-place.result c.self.inside.cells.items c.deref_mut.result.now c.change_at.new.cells c.self.view_is c.in-Ref.is (sym c.allow.ensures ∙ c.in_ok-allow.was) c.place_in-place.ensures c.deref_mut.ensures.value c.in_ok-old.ensures)
    ∙ ap (λ s. Ok (c.in_ok-old.old, s)) (sym c.index_if_due.ensures)
