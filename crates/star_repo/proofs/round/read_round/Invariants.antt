use Rattle.std.proofs.Common.{◌≡◌, ◌+◌, ℕ, length, vec_len}
use Rattle.star_repo.specs.Reach.{Words}
use Rattle.star_repo.specs.Views.{AllRead, IsOnWay, labels_of}
use Rattle.star_repo.proofs.round.read_round.Given as goal

abbrev pub invariant-loop-label : goal.invariant-loop-label
invariant-loop-label g l = record {
  on_way : (words : Words) (d : ℕ) → IsOnWay (g.F.Repo.says l.initial.folder) words d l.initial.found (labels_of l.initial.waiting.keys)
      → IsOnWay (g.F.Repo.says l.initial.folder) words d l.found (labels_of l.waiting.keys);
  all_read : AllRead l.initial.found.looked → AllRead l.found.looked;
  counted : l.found.count + vec_len l.initial.found.fresh ≡ l.initial.found.count + vec_len l.found.fresh;
  same : g.F.Repo.says l.folder ≡ g.F.Repo.says l.initial.folder;
  failed : g.F.Repo.failed l.folder ≡ g.F.Repo.failed l.initial.folder;
}

abbrev pub decreases-loop-label : goal.decreases-loop-label
decreases-loop-label g l = length l.waiting.keys
