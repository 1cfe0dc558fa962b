use Rattle.std.proofs.Common.{◌∙◌, ap, sym}
use Rattle.std.specs.Prelude.{option_and_then, option_map}
use Rattle.serde_json.specs.Find.{as_str}
use Rattle.serde_json.specs.View.{view}
use Rattle.star_lsp.proofs.service.method_of.Goals as goal

pub returns-in-Some : goal.returns-in-Some
returns-in-Some c =
    c.as_str.ensures ∙ ap (option_and_then as_str) (sym (ap (option_map (λ v. view v.now)) c.in-Some.is) ∙ c.get.ensures)

pub returns-in-None : goal.returns-in-None
returns-in-None c = ap (option_and_then as_str) (sym (ap (option_map (λ v. view v.now)) c.in-None.is) ∙ c.get.ensures)
