use Rattle.std.proofs.Common.{◌≡◌, [], ap, ◌∙◌}
use Rattle.std.specs.Prelude.{slice_set}
use Rattle.std.proofs.lemmas.List.{map-set}
use Rattle.star_sound.specs.Waiting.{lists}
use Rattle.star_sound.proofs.sound.Waits.take.Goals as goal

pub returns-clause-lists : goal.returns-clause-lists
returns-clause-lists c =
    let none : c.replace.new.dest.items ≡ [] = ap (λ v. v.items) c.replace.ensures.after ∙ c.new.ensures.items in
    map-set (λ v. v.items) c.args.self.now.waiting.items c.args.m c.replace.new.dest ∙ ap (slice_set (lists c.args.self.now) c.args.m) none
