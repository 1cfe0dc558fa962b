use Rattle.star_method.proofs.texts.front_stripped.Goals as goal

pub returns-then-front : goal.returns-then-front
returns-then-front c = rw c.if-front.true c.without_front.ensures
