use Rattle.std.proofs.Common.{◌≡◌, ◌<◌, ◌∙◌, Ok, Err, ap, length, rules, subst, sym, true}
use Rattle.std.specs.List.Sorted.{IsBinarySearchResult}
use Rattle.std.proofs.lemmas.Fn.{always_returns_same}
use Rattle.star_store.specs.Fields.{names_of, rises}
use Rattle.star_store.specs.Store.{global_of}
use Rattle.star_store.proofs.Structs.{absent, asked, found, names_beside, rise_ascends}
use Rattle.star_store.proofs.fields.Fields.get.Goals as goal

pub returns-in-Ok : goal.returns-in-Ok
returns-in-Ok c =
    let name = c.args.name.now in
    let ns = c.self.inside.names in
    let vs = c.self.inside.values in
    let own : names_of c.args.self.now ≡ ns = ap names_of (sym c.self.view_is) ∙ names_beside ns vs c.self.invariant in
    let same : c.names.result.now ≡ ns = c.names.ensures.names ∙ own in
    let order : rises ns ≡ true = ap rises (sym own) ∙ c.names.ensures.order in
    let r = c.in-Ok.ensures.position (asked name) (always_returns_same _ _ _ (λ a r f h. (search rules, search rules))) in
    let at = subst (λ xs. IsBinarySearchResult (asked name) xs (Ok c.in-Ok.at)) same r in
    let less : c.in-Ok.at < length ns = subst (λ xs. c.in-Ok.at < length xs) same c.in-Ok.ensures.bound in
    c.get.ensures ∙ (found name ns vs c.in-Ok.at (rise_ascends ns order) c.self.invariant at less ∙ ap (global_of name) c.self.view_is)

pub returns-in-Err : goal.returns-in-Err
returns-in-Err c =
    let name = c.args.name.now in
    let ns = c.self.inside.names in
    let vs = c.self.inside.values in
    let own : names_of c.args.self.now ≡ ns = ap names_of (sym c.self.view_is) ∙ names_beside ns vs c.self.invariant in
    let same : c.names.result.now ≡ ns = c.names.ensures.names ∙ own in
    let order : rises ns ≡ true = ap rises (sym own) ∙ c.names.ensures.order in
    let r = c.in-Err.ensures.position (asked name) (always_returns_same _ _ _ (λ a r f h. (search rules, search rules))) in
    absent name ns vs c.in-Err._place (rise_ascends ns order) (subst (λ xs. IsBinarySearchResult (asked name) xs (Err c.in-Err._place)) same r) ∙ ap (global_of name) c.self.view_is
