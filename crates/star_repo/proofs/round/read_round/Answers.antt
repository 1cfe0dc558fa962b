use Rattle.std.proofs.Common.{◌∙◌, ◌∷◌, subst, sym, arith}
use Rattle.star_bundle.proofs.Members.{nothing_left}
use Rattle.star_label.specs.View.{text_of}
use Rattle.star_repo.specs.Held.{Said}
use Rattle.star_repo.specs.Views.{IsOnWay, Says, labels_of}
use Rattle.star_repo.proofs.Labels.{below_keys}
use Rattle.star_repo.proofs.round.read_round.Goals as goal

pub returns-in-Err-clause-refused : goal.returns-in-Err-clause-refused
returns-in-Err-clause-refused g c = λ words d way.
    let same = c.loop-label.invariant.same in
    let now = c.loop-label.invariant.on_way words d way in
    let first = subst (λ ks. IsOnWay (g.F.Repo.says c.args.folder.now) words d c.loop-label.found (labels_of ks)) c.in-Some.ensures.removal now in
    subst (λ (s : Said). Says s words c.in-Err.error) same
    (c.in-Err.ensures.refused words d (labels_of c.pop_first.new.self.keys) (below_keys c.in-Some.label c.pop_first.new.self.keys c.in-Some.ensures.all_above)
    (subst (λ (s : Said). IsOnWay s words d c.loop-label.found (text_of c.in-Some.label ∷ labels_of c.pop_first.new.self.keys)) (sym same) first))

pub loop-label-preserved : goal.loop-label-preserved
loop-label-preserved g c =
    let inv = c.loop-label.invariant in
    let left = c.pop_first.new.self.keys in
    record {
      on_way = λ words d way.
          let first = subst (λ ks. IsOnWay (g.F.Repo.says c.args.folder.now) words d c.loop-label.found (labels_of ks)) c.in-Some.ensures.removal (inv.on_way words d way) in
          subst (λ (s : Said). IsOnWay s words d c.in-Ok.after (labels_of left)) inv.same
          (c.in-Ok.ensures.on_way words d (labels_of left) (below_keys c.in-Some.label left c.in-Some.ensures.all_above)
          (subst (λ (s : Said). IsOnWay s words d c.loop-label.found (text_of c.in-Some.label ∷ labels_of left)) (sym inv.same) first));
      all_read = λ all. c.in-Ok.ensures.read (inv.all_read all);
      counted = omega (arith, inv.counted, c.in-Ok.ensures.counted);
      same = c.in-Ok.ensures.same ∙ inv.same;
      failed = omega (arith, inv.failed, c.in-Ok.ensures.failed);
    }

pub returns-clause-on_way : goal.returns-clause-on_way
returns-clause-on_way g c = λ words d way.
    let none = nothing_left c.loop-label.waiting.keys (λ h. c.in_default.ensures.variant.1 h) in
    subst (λ ks. IsOnWay (g.F.Repo.says c.args.folder.now) words d c.loop-label.found (labels_of ks)) none (c.loop-label.invariant.on_way words d way)
