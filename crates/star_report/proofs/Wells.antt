-- The text of a module that went well, around the JSON of its globals.
use Rattle.std.proofs.Common.{◌≡◌, ℕ, List, ◌++◌, refl, ap, sym, subst, ◌∙◌, append_assoc}
use Rattle.std.specs.Arc.{arc_value}
use Rattle.std.specs.declared.alloc.Global.{Global}
use Rattle.std.specs.declared.sync.Arc.{Arc}
use Rattle.serde_json.proofs.OnLiterals.{serde_json_on_literals}
use Rattle.serde_json.specs.Data.{Data, no_members, string}
use Rattle.serde_json.specs.Written.{compact_text}
use Rattle.star_label.specs.Files.{File, label_at}
use Rattle.star_cause.specs.Ways.{Nexts}
use Rattle.star_scope.specs.declared.loads.Load.{Load}
use Rattle.star_plan.specs.Text.{globals_data, lines_in, texts_data, well_data}
use Rattle.star_outcome.specs.declared.module.Body.{Body}
use Rattle.star_outcome.specs.declared.module.Ended.TheVariants.{Good}
use Rattle.star_outcome.specs.declared.module.Module.{Module}
use Rattle.star_report.specs.Pages.{IsTextOf, text_around}
use Rattle.star_report.specs.Shelf.{more_of}
use Rattle.star_report.specs.Shown.{IsShown}
use Rattle.star_report.specs.Wanted.{IsPlain, added}
use Rattle.star_report.specs.declared.wanted.Wanted.{Wanted}

-- seven texts, one after another
pub seven : (a b c d e f g : List ℕ) → (((((a ++ b) ++ c) ++ d) ++ e) ++ f) ++ g ≡ a ++ (b ++ (c ++ (d ++ (e ++ (f ++ g)))))
seven a b c d e f g =
    append_assoc ((((a ++ b) ++ c) ++ d) ++ e) f g
    ∙ (append_assoc (((a ++ b) ++ c) ++ d) e (f ++ g)
    ∙ (append_assoc ((a ++ b) ++ c) d (e ++ (f ++ g))
    ∙ (append_assoc (a ++ b) c (d ++ (e ++ (f ++ g))) ∙ append_assoc a b (c ++ (d ++ (e ++ (f ++ g)))))))

pub well_text : (label : List ℕ) (texts : List (List ℕ × List ℕ)) (lines : List (List ℕ)) → text_around (compact_text (globals_data texts)) (compact_text (string label)) (compact_text (texts_data lines)) ≡ compact_text (well_data label texts lines)
unfolding serde_json_on_literals
well_text label texts lines = refl

plain_more : (wanted : Wanted) (files : List File) (loads : List Load) (m : Module) → IsPlain wanted → more_of wanted files loads m ≡ no_members
plain_more wanted files loads m plain = rw (plain.0, plain.1, plain.2) refl

-- it is the text of the module, if no further members are wanted
pub well_is : (wanted : Wanted) (files : List File) (nexts : Nexts) (loads : List Load) (m : Module) (b : Arc Body Global) (text : List ℕ) → IsPlain wanted → m.ended ≡ Good b → text ≡ compact_text (well_data (label_at files m.number) (arc_value (arc_value b).shown) (lines_in (arc_value b).lines.items)) → IsTextOf wanted files nexts loads m text
well_is wanted files nexts loads m b text plain ended is =
    let d : Data = well_data (label_at files m.number) (arc_value (arc_value b).shown) (lines_in (arc_value b).lines.items) in
    (d, subst (λ e. IsShown files nexts m.number e d) (sym ended) refl, λ none. is ∙ ap (λ ms. compact_text (added ms d)) (sym (plain_more wanted files loads m plain)))
