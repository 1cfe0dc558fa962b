use Rattle.std.proofs.Common.{map, sym, ◌∙◌, subst, Ok, Err}
use Rattle.std.specs.Prelude.{IfOk, IfErr, Result, option_map}
use Rattle.star_label.specs.Files.{file_of}
use Rattle.star_label.specs.View.{text_of}
use Rattle.star_repo.specs.Held.{TellsFront}
use Rattle.star_repo.specs.Views.{answer_of, answers_in, fresh_answer}
use Rattle.star_repo.proofs.Labels.{in_back, known, unknown}
use Rattle.star_repo.proofs.Steps.{failed_so, no_file_told}
use Rattle.star_repo.proofs.Ways.{skips}
use Rattle.star_repo.proofs.read.after_label.Goals as goal

if_ok : {A E : Type 0} (P Q : A → Type 0) (r : Result A E) → IfOk r P → ((x : A) → P x → Q x) → IfOk r Q
if_ok P Q (Ok x) h k = k x h
if_ok P Q (Err e) h k = tt

if_err : {A E : Type 0} (P Q : E → Type 0) (r : Result A E) → IfErr r P → ((x : E) → P x → Q x) → IfErr r Q
if_err P Q (Ok x) h k = tt
if_err P Q (Err e) h k = k e h

pub returns-then-contains_key-clause-on_way : goal.returns-then-contains_key-clause-on_way
returns-then-contains_key-clause-on_way g c = λ words d rest below way.
    let found = c.args.found in
    let looked = known found.looked.entries c.args.label (sym c.contains_key.ensures ∙ c.if-contains_key.true) in
    skips (g.F.Repo.says c.args.folder.now) words d (answers_in found.fresh.items found.looked.entries) (map file_of found.fresh.items) rest found.count found.size (text_of c.args.label)
    (looked.0, in_back (text_of c.args.label, looked.0) (map fresh_answer found.fresh.items) (map answer_of found.looked.entries) looked.1) way

pub returns-in-Ok-Some-clause-on_way : goal.returns-in-Ok-Some-clause-on_way
returns-in-Ok-Some-clause-on_way g c =
    let new = unknown c.args.found.looked.entries c.args.label (sym c.contains_key.ensures ∙ c.if-contains_key.false) in
    let told = subst (λ o. TellsFront (g.F.Repo.says c.args.folder.now (text_of c.args.label)) (option_map (λ b. b.items) o)) c.in-Ok-Some.field-0-is c.in-Ok-Some.ensures.tells in
    if_ok _ _ c.with_file.result c.with_file.ensures.on_way (λ after h words d rest below way. h (g.F.Repo.says c.args.folder.now) words d rest new below told way)

pub returns-in-Ok-Some-clause-refused : goal.returns-in-Ok-Some-clause-refused
returns-in-Ok-Some-clause-refused g c =
    let new = unknown c.args.found.looked.entries c.args.label (sym c.contains_key.ensures ∙ c.if-contains_key.false) in
    let told = subst (λ o. TellsFront (g.F.Repo.says c.args.folder.now (text_of c.args.label)) (option_map (λ b. b.items) o)) c.in-Ok-Some.field-0-is c.in-Ok-Some.ensures.tells in
    if_err _ _ c.with_file.result c.with_file.ensures.refused (λ e h words d rest below way. h (g.F.Repo.says c.args.folder.now) words d rest new below told way)

pub returns-in-Ok-None-clause-on_way : goal.returns-in-Ok-None-clause-on_way
returns-in-Ok-None-clause-on_way g c =
    let new = unknown c.args.found.looked.entries c.args.label (sym c.contains_key.ensures ∙ c.if-contains_key.false) in
    let told = subst (λ o. TellsFront (g.F.Repo.says c.args.folder.now (text_of c.args.label)) (option_map (λ b. b.items) o)) c.in-Ok-None.field-0-is c.in-Ok-None.ensures.tells in
    if_ok _ _ c.without_file.result c.without_file.ensures.on_way (λ after h words d rest below way. h (g.F.Repo.says c.args.folder.now) words d rest new below (no_file_told _ told) way)

pub returns-in-Err-Failed-clause-refused : goal.returns-in-Err-Failed-clause-refused
returns-in-Err-Failed-clause-refused g c = λ words d rest below way.
    let found = c.args.found in
    let new = unknown found.looked.entries c.args.label (sym c.contains_key.ensures ∙ c.if-contains_key.false) in
    failed_so (g.F.Repo.says c.args.folder.now) words d found.fresh.items found.looked.entries rest found.count found.size c.args.label new below way
