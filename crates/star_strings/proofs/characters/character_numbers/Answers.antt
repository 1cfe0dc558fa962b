use Rattle.std.proofs.Common.{◌≡◌, ap, sym, ◌∙◌}
use Rattle.std.specs.Str.{chars}
use Rattle.std.proofs.lemmas.Iterator.{YieldsList-from_chars}
use Rattle.std.proofs.lemmas.Iterator.Consumers.{YieldsList-end}
use Rattle.star_strings.specs.Strings.{numbers}
use Rattle.star_strings.proofs.Titles.{map_self}
use Rattle.star_strings.proofs.characters.character_numbers.Goals as goal

pub returns : goal.returns
returns c =
    let t = YieldsList-end (YieldsList-from_chars c.args.text.now c.utf8.text cc) c.loop-c.yielded _ c.loop-c.yielded_by _ _ c.in-None.is c.next.ensures.steps in
    let same : c.loop-c.yielded ≡ chars c.args.text.now = sym (map_self c.loop-c.yielded) ∙ t.0 in
    c.loop-c.invariant ∙ ap (λ cs. numbers cs) same
