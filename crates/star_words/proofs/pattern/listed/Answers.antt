use Rattle.star_words.proofs.pattern.listed.Goals as goal

pub returns-clause-walked : goal.returns-clause-walked
returns-clause-walked g c = λ top here walked. c.in_ok-enter_all.ensures.walked top here (record { places = walked.places; found = walked.found })
