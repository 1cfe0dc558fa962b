-- The end of a file, by its reading.
use Rattle.std.proofs.Common.{◌≡◌, ◌<◌, ℕ, List, length, get_or, Option, Some, None, refl, ap, sym, ◌∙◌, subst, arith}
use Rattle.std.specs.Prelude.{IfSome, slice_get}
use Rattle.std.specs.Option.{option_flatten, option_map}
use Rattle.std.proofs.lemmas.List.{length-map}
use Rattle.std.proofs.lemmas.Option.{slice_get-get_or, slice_get-map, slice_get_within}
use Rattle.star_label.specs.Files.{File}
use Rattle.star_meaning.specs.Places.{Stands}
use Rattle.star_meaning.specs.Programs.{Files, PlacedFile, file_in, placed_file, trees_of}
use Rattle.star_scope.specs.declared.loads.Load.{Load}
use Rattle.star_scope.specs.declared.program.Program.{Program}
use Rattle.star_plan.specs.Plan.{Plan, Reading, loaded, loads_of, read_of}
use Rattle.star_plan.specs.Results.{IsFirstBad}
use Rattle.star_reading.specs.declared.code.StaticFault.{StaticFault}
use Rattle.star_reading.specs.declared.reading.Read.{Read}
use Rattle.star_reading.specs.declared.reading.Read.TheVariants as read
use Rattle.star_outcome.specs.Fits.{IsAsked}
use Rattle.star_reading.specs.Readings.{Row, loads_at, read_at, reading_of, readings}
use Rattle.star_outcome.specs.Views.{IsModule, IsTold, ToldView, ended_well}
use Rattle.star_outcome.specs.declared.module.Module.{Module}
use Rattle.star_reading.proofs.Rows.{loads_are, read_is}

-- a file that may be asked for has a program or a static fault
pub never_unread : (files : List File) (plan : Plan) (row : Row) (n : ℕ) → readings row ≡ plan.reads → IsAsked files plan n
    → ((p : Program) → read_at row n ≡ Some (read.Program p) → ⊥) → ((f : StaticFault) → read_at row n ≡ Some (read.Fault f) → ⊥) → ⊥
never_unread files plan row n is a no_program no_fault = split (read_at row n) refl
  where
    split : (o : Option Read) → read_at row n ≡ o → ⊥
    split (Some (read.Program p)) e = no_program p e
    split (Some (read.Fault f)) e = no_fault f e
    split None e =
        let there : (r : Reading) × (read_of plan n ≡ Some r) = a.0.read n a.1 in
        let none : read_of plan n ≡ None = read_is plan row n is ∙ ap (option_map reading_of) e in
        let both : None ≡ Some there.0 = sym none ∙ there.1 in
        let no : ⊥ = cc in
        no

flat_some : {X : Type 0} (o : Option (Option X)) (x : X) → option_flatten o ≡ Some x → o ≡ Some (Some x)
flat_some None x e = absurd (let no : ⊥ = cc in no)
flat_some (Some None) x e = absurd (let no : ⊥ = cc in no)
flat_some (Some (Some y)) x e = let same : y ≡ x = cc in ap (λ z. Some (Some z)) same

-- the statements of a placed file are among the trees
pub stands_tree : (table : Files) (n : ℕ) (p : Program) → file_in table n ≡ Some (placed_file p) → Stands (trees_of table) n p.statements.now
stands_tree table n p e =
    slice_get-map (option_map (λ (f : PlacedFile). f.statements)) table n ∙ ap (option_map (option_map (λ (f : PlacedFile). f.statements))) (flat_some (slice_get table n) (placed_file p) e)

-- the first load that is not good is there
pub load_there : (plan : Plan) (row : Row) (n index : ℕ) (failed : Option ℕ) → readings row ≡ plan.reads → failed ≡ Some index → IfSome failed (IsFirstBad plan (loaded plan n)) → slice_get (loads_at row n) index ≡ None → ⊥
load_there plan row n index failed is same fits none =
    let bad : IsFirstBad plan (loaded plan n) index = subst (λ o. IfSome o (IsFirstBad plan (loaded plan n))) same fits in
    let within = slice_get_within (loaded plan n) index bad.file bad.there in
    let long = length-map (loads_of plan n) (λ (l : Load). l.file) in
    let inside : index < length (loads_of plan n) = omega (arith, within, long) in
    let here : index < length (loads_at row n) = subst (λ ls. index < length ls) (loads_are plan row n is) inside in
    let d : Load = record { file = 0; line = 0; token = None } in
    let there : slice_get (loads_at row n) index ≡ Some (get_or (loads_at row n) index d) = slice_get-get_or (loads_at row n) index d here in
    let both : None ≡ Some (get_or (loads_at row n) index d) = sym none ∙ there in
    let no : ⊥ = cc in
    no

pub told_is : (files : List File) (plan : Plan) (n : ℕ) (m : Module) (t : ToldView) → t.number ≡ n → IsAsked files plan n → t.known ≡ Some m → IsModule plan n m → t.good ≡ ended_well m.ended → IsTold files plan n t
told_is files plan n m t number asked known right good = record { number = number; asked = asked; found = m; known = known; right = right; good = good }
