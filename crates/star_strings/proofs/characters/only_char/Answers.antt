use Rattle.std.specs.Str.{chars}
use Rattle.std.proofs.lemmas.Iterator.{YieldsList-from_chars}
use Rattle.star_strings.proofs.Only.{one_there, more_there}
use Rattle.star_strings.proofs.characters.only_char.Goals as goal

pub returns-in-None-next : goal.returns-in-None-next
returns-in-None-next c =
    one_there (chars c.args.text.now) (YieldsList-from_chars c.args.text.now c.utf8.text cc) _ _ c.next.ensures.steps c.in-Some.only c.in-Some.is _ _ c.next-in-Some.ensures.steps c.in-None-next.is

pub returns-in-Some-next : goal.returns-in-Some-next
returns-in-Some-next c =
    more_there (chars c.args.text.now) (YieldsList-from_chars c.args.text.now c.utf8.text cc) _ _ c.next.ensures.steps c.in-Some.only c.in-Some.is _ _ c.next-in-Some.ensures.steps c.in-Some-next.field-0 c.in-Some-next.is
