use Rattle.std.proofs.Common.{List, ℕ, Bool, if◌then◌else◌, ◌∷◌, [], ◌++◌, ap, sym, ◌∙◌}
use Rattle.star_store.proofs.Tables.{added_here, added_new}
use Rattle.star_store.proofs.table.Rows.add.Goals as goal

pub returns-in-Some-clause-added : goal.returns-in-Some-clause-added
returns-in-Some-clause-added c = added_here c.args.content c.args.at c.args.self.now.contents c.args.self.now.addresses.items c.add_at.new.rows.items c.in-Some.place (sym c.place.ensures ∙ c.in-Some.is) c.in_ok-add_at.ensures.within c.in_ok-add_at.ensures.added

pub returns-clause-added : goal.returns-clause-added
returns-clause-added c =
    let contents = c.args.self.now.contents in
    added_new c.args.content c.args.at contents c.push-2.new.self c.args.self.now.addresses.items c.push.new.self.items (sym c.place.ensures ∙ c.in_default.is) c.requires
    (c.push-2.ensures ∙ ap (λ (b : Bool). if b then contents ++ c.args.content ∷ [] else contents) c.if-not-push.false)
    (c.in_ok-push.ensures.items ∙ ap (λ (others : List ℕ). c.args.self.now.addresses.items ++ (c.args.at ∷ others) ∷ []) c.new-others.ensures.items)
