use Rattle.star_session.proofs.folder.look.Goals as goal

pub new-empty-requires : goal.new-empty-requires
new-empty-requires g c = c.new-kept.ensures c.args.empty
