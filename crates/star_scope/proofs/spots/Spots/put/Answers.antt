use Rattle.std.proofs.Common.{◌≡◌, Some, None, refl, ap, sym, ◌∙◌}
use Rattle.std.specs.Option.{option_flatten}
use Rattle.star_scope.specs.declared.spots.Entry.TheVariants as entry
use Rattle.star_scope.specs.Spots.{spot_at, spot_in}
use Rattle.star_scope.proofs.Spotted.{far_still, is_put, keeps, none_of, on_ok}
use Rattle.star_scope.proofs.spots.Spots.put.Goals as goal

pub returns-in-Some-entry_of-clause-keeps : goal.returns-in-Some-entry_of-clause-keeps
returns-in-Some-entry_of-clause-keeps c =
    let none : spot_at c.args.self.now c.args.token ≡ None = sym c.get.ensures ∙ none_of c.get.result c.in_default.not-Some in
    on_ok c.put_at.result
    (λ put. keeps c.args.self.now c.self.inside.entries.items c.put_at.new.row.items c.self.inside.far.items c.self.inside.far.items c.args.token c.in-Some-entry_of.entry c.self.view_is none put (λ i apart. refl))
    c.put_at.ensures

pub returns-in-Some-entry_of-clause-put : goal.returns-in-Some-entry_of-clause-put
returns-in-Some-entry_of-clause-put c =
    on_ok c.put_at.result
    (λ put. is_put c.self.inside.entries.items c.put_at.new.row.items c.self.inside.far.items c.args.token c.in-Some-entry_of.entry put
    ∙ c.in-Some-entry_of.ensures (spot_at c.self.inside.far.items c.args.token))
    c.put_at.ensures

pub returns-in_ok-put_at-in-None-clause-keeps : goal.returns-in_ok-put_at-in-None-clause-keeps
returns-in_ok-put_at-in-None-clause-keeps c =
    let none : spot_at c.args.self.now c.args.token ≡ None = sym c.get.ensures ∙ none_of c.get.result c.in_default.not-Some in
    let far = far_still c.self.inside.far.items c.put_at-in-None.new.row.items c.args.token (Some c.args.spot) c.in_ok-put_at-in-None.ensures in
    on_ok c.put_at-in-None-2.result
    (λ put. keeps c.args.self.now c.self.inside.entries.items c.put_at-in-None-2.new.row.items c.self.inside.far.items c.put_at-in-None.new.row.items c.args.token entry.Far c.self.view_is none put far)
    c.put_at-in-None-2.ensures

pub returns-in_ok-put_at-in-None-clause-put : goal.returns-in_ok-put_at-in-None-clause-put
unfolding spot_in
returns-in_ok-put_at-in-None-clause-put c =
    on_ok c.put_at-in-None-2.result
    (λ put. is_put c.self.inside.entries.items c.put_at-in-None-2.new.row.items c.put_at-in-None.new.row.items c.args.token entry.Far put
    ∙ ap option_flatten c.in_ok-put_at-in-None.ensures.put)
    c.put_at-in-None-2.ensures
