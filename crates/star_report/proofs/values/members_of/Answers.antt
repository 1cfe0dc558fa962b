use Rattle.std.proofs.Common.{rules, ◌≡◌, ◌∙◌, ℕ, List, Option, [], ap, filter, fold, map, string_bytes, subst}
use Rattle.std.specs.Arc.{arc_value}
use Rattle.std.proofs.lemmas.Result.{IfOk-weaker}
use Rattle.serde_json.specs.Data.{Data, no_members, string}
use Rattle.star_store.specs.Store.{Store}
use Rattle.star_report.specs.Shelf.{among_data, stored_data}
use Rattle.star_report.specs.Texts.{AreTexts}
use Rattle.star_report.specs.Values.{is_opaque, with_value}
use Rattle.star_report.proofs.Stores.{names_are}
use Rattle.star_report.proofs.values.members_of.Goals as goal

pub returns-clause-values : goal.returns-clause-values
returns-clause-values c =
    let n = c.args.n in
    let arena : Store = c.new-arena.result in
    let homes = c.in_ok-homes.homes in
    let shown = c.globals.result.now in
    let blank : arena ≡ record { home = c.args.files; cells = [] } = search rules in
    let same : map (λ g. string_bytes g.0) shown ≡ map (λ (g : List ℕ × List ℕ). g.0) (arc_value c.args.body.now.shown) = names_are shown ∙ ap (map (λ (g : List ℕ × List ℕ). g.0)) (c.globals.ensures ∙ c.deref.ensures) in
    let names = λ (f : List ℕ → Option Data). ap (fold (with_value f) no_members) same in
    IfOk-weaker c.values_among.result _ _ (λ v h. subst (λ ms. AreTexts v.values.entries ms)
    (ap (λ s. fold (with_value (among_data s homes n)) no_members (map (λ g. string_bytes g.0) shown)) blank
    ∙ (ap (λ s. fold (with_value (among_data (record { home = c.args.files; cells = [] }) s n)) no_members (map (λ g. string_bytes g.0) shown)) c.in_ok-homes.ensures
    ∙ names (stored_data c.args.files n c.args.body.now))) h) c.values_among.ensures.values

pub returns-clause-opaque : goal.returns-clause-opaque
returns-clause-opaque c =
    let n = c.args.n in
    let shown = c.globals.result.now in
    let arena : Store = c.new-arena.result in
    let blank : arena ≡ record { home = c.args.files; cells = [] } = search rules in
    let same : map (λ g. string_bytes g.0) shown ≡ map (λ (g : List ℕ × List ℕ). g.0) (arc_value c.args.body.now.shown) = names_are shown ∙ ap (map (λ (g : List ℕ × List ℕ). g.0)) (c.globals.ensures ∙ c.deref.ensures) in
    let names = λ (f : List ℕ → Option Data). ap (λ ns. map string (filter (is_opaque f) ns)) same in
    IfOk-weaker c.values_among.result _ _ (λ v h.
    h
    ∙ (ap (λ s. map string (filter (is_opaque (among_data s c.in_ok-homes.homes n)) (map (λ g. string_bytes g.0) shown))) blank
    ∙ (ap (λ s. map string (filter (is_opaque (among_data (record { home = c.args.files; cells = [] }) s n)) (map (λ g. string_bytes g.0) shown))) c.in_ok-homes.ensures
    ∙ names (stored_data c.args.files n c.args.body.now)))) c.values_among.ensures.opaque
