use Rattle.std.proofs.Common.{◌∙◌, ap, map, sym, take}
use Rattle.std.specs.Prelude.{option_map}
use Rattle.std.proofs.lemmas.Result.{IfOk-weaker}
use Rattle.star_label.specs.View.{text_of}
use Rattle.star_session.specs.Changes.{change_of}
use Rattle.star_session.proofs.Named.{told_known, told_new}
use Rattle.star_session.proofs.folder.KnownRepoRepo.find.Goals as goal

pub returns-in_ok-front_of-in-Some-clause-tells : goal.returns-in_ok-front_of-in-Some-clause-tells
returns-in_ok-front_of-in-Some-clause-tells g c =
    let self = c.args.self.now in
    told_known (g.F.Repo.says self.folder) self.files.now (map change_of self.changes.now) (text_of c.args.label.now) c.in-Some.text.now _
    (sym (ap (option_map (λ t. t.now)) (sym c.in-Some.is) ∙ c.known_text.ensures)) (c.in_ok-front_of-in-Some.ensures ∙ ap (take 1048577) c.as_bytes.ensures.value)

pub returns-in-None-clause-tells : goal.returns-in-None-clause-tells
returns-in-None-clause-tells g c =
    let self = c.args.self.now in
    IfOk-weaker c.find.result _ _ (λ found said. told_new (g.F.Repo.says self.folder) self.files.now (map change_of self.changes.now) (text_of c.args.label.now) (option_map (λ bytes. bytes.items) found)
    (sym (ap (option_map (λ t. t.now)) (sym c.in-None.is) ∙ c.known_text.ensures)) said) c.find.ensures.tells
