use Rattle.std.proofs.Common.{Some, ap, map, subst, sym, ◌∙◌}
use Rattle.star_label.specs.Files.{file_of}
use Rattle.star_repo.specs.Held.{Fits, Held}
use Rattle.star_repo.specs.Parsed.{AreFilesParsed}
use Rattle.star_repo.specs.Reach.{AreReachedFiles}
use Rattle.star_repo.specs.Refusal.{Pass}
use Rattle.star_repo.proofs.Ended.{all_pass, are_reached, files_parsed, within}
use Rattle.star_repo.proofs.reach.ended.Goals as goal

pub numbered-requires : goal.numbered-requires
numbered-requires c =
    let found = c.args.found in
    let r = c.requires in
    let files = map file_of c.in_ok-texts.texts.entries in
    within files (all_pass r.0 r.1 r.2 found.fresh.items found.looked.entries found.count found.size r.3 r.4 files c.in_ok-texts.ensures.ordered c.in_ok-texts.ensures.files)

pub returns-clause-files : goal.returns-clause-files
returns-clause-files c = λ said words d way none.
    let found = c.args.found in
    let files = map file_of c.in_ok-texts.texts.entries in
    subst (λ fs. (held : Held) × Fits said held × AreReachedFiles held words fs × Pass fs) (sym c.in_ok-files.ensures)
    (are_reached said words d found.fresh.items found.looked.entries found.count found.size way none files c.in_ok-texts.ensures.ordered c.in_ok-texts.ensures.files)

pub returns-clause-parsed : goal.returns-clause-parsed
returns-clause-parsed c = λ all.
    let parses = c.in_ok-texts.parses.items in
    subst (λ row. AreFilesParsed c.in_ok-files.files row) (sym (c.in_ok-there.ensures ∙ ap (λ ps. map (λ p. Some p) ps) c.as_slice.ensures.value))
    (subst (λ fs. AreFilesParsed fs (map (λ p. Some p) parses)) (sym c.in_ok-files.ensures) (files_parsed c.in_ok-texts.texts.entries parses (c.in_ok-texts.ensures.parsed all)))
