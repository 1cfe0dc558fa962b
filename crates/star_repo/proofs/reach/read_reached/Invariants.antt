use Rattle.std.proofs.Common.{◌≡◌, ◌-◌, [], ℕ}
use Rattle.star_repo.specs.Views.{AllRead, IsOnWay, labels_of, words_of}
use Rattle.star_repo.proofs.reach.read_reached.Given as goal

abbrev pub invariant-rounds : goal.invariant-rounds
invariant-rounds g l = record {
  on_way : (d : ℕ) × IsOnWay (g.F.Repo.says l.initial.folder) (words_of l.fn.words.keys) d l.round.found (labels_of l.round.waiting.keys);
  all_read : AllRead l.round.found.looked;
  fresh : l.round.found.fresh.items ≡ [];
  same : g.F.Repo.says l.folder ≡ g.F.Repo.says l.initial.folder;
  failed : g.F.Repo.failed l.folder ≡ g.F.Repo.failed l.initial.folder;
}

abbrev pub decreases-rounds : goal.decreases-rounds
decreases-rounds g l = 10000 - l.round.found.count
