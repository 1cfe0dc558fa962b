use Rattle.std.proofs.Common.{◌≡◌, ◌++◌, ◌∷◌, [], ap, sym, ◌∙◌, ℕ, List}
use Rattle.std.specs.Prelude.{slice_set}
use Rattle.std.proofs.lemmas.List.{get_or-map, map-set}
use Rattle.star_sound.specs.Waiting.{list_of, lists}
use Rattle.star_sound.proofs.sound.Waits.wait.Goals as goal

pub returns-clause-lists : goal.returns-clause-lists
returns-clause-lists c =
    let rows = lists c.args.self.now in
    let old : list_of rows c.args.m ≡ c.index_mut.result.now.items = get_or-map (λ v. v.items) c.args.self.now.waiting.items c.args.m c.index_mut.result.now [] c.requires ∙ ap (λ v. v.items) (sym c.index_mut.ensures.value) in
    let new : c.push.new.self.items ≡ list_of rows c.args.m ++ c.args.n ∷ [] = c.in_ok-push.ensures.items ∙ ap (λ (l : List ℕ). l ++ c.args.n ∷ []) (sym old) in
    map-set (λ v. v.items) c.args.self.now.waiting.items c.args.m c.push.new.self ∙ ap (slice_set rows c.args.m) new
