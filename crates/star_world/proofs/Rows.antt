-- More files, and the facts of a setting about the files whose outlines it has.
use Rattle.std.proofs.Common.{◌≡◌, ℕ, List, [], ◌∷◌, ◌++◌, map, Option, Some, None, Result, Ok, Err, refl, ap, sym, ◌∙◌, slice_get}
use Rattle.std.specs.Prelude.{IfOk, IfSome}
use Rattle.std.specs.Option.{option_and_then, option_flatten, option_map}
use Rattle.std.proofs.lemmas.List.{map-append}
use denote.Ref.{Bor}
use Rattle.star_label.specs.Files.{File}
use Rattle.star_tree.specs.declared.tree.Statement.{Statement}
use Rattle.star_scope.specs.declared.error.ScopeFault.{ScopeFault}
use Rattle.star_scope.specs.declared.program.Program.{Program}
use Rattle.star_outline.specs.Definitions.{definition_in}
use Rattle.star_outline.specs.Names.{has_name}
use Rattle.star_outline.specs.Outlines.{names_in}
use Rattle.star_scope.specs.Resolve.{Outside, Resolves}
use Rattle.star_meaning.specs.Module.{loaded_names}
use Rattle.star_meaning.specs.Program.{Setting, blocks_in, definition_of, names_of, outline_of}
use Rattle.star_meaning.specs.Programs.{Files, IsOfFile, outline_at, placed_file, tables_of, trees_of}
use Rattle.star_world.proofs.ProgramRows.{outline_there}
use Rattle.star_world.specs.declared.orders.Order.{Order}
use Rattle.star_world.specs.LaidOut.{IsLaidOut}
use Rattle.star_world.specs.World.{AreOutlined}

rows : List (Option (Bor (List Statement))) → List (Option (List Statement))
rows xs = map (option_map (λ ss. ss.now)) xs

of_placed : (o : Option (Bor Program)) → option_map (λ p. p.now.statements.now) o ≡ option_map (λ f. f.statements) (option_map (λ p. placed_file p.now) o)
of_placed None = refl
of_placed (Some p) = refl

-- one file more
pub trees_pushed : (xs : List (Option (Bor (List Statement)))) (files : Files) (x : Option (Bor (List Statement))) (p : Option (Bor Program))
    → map (option_map (λ ss. ss.now)) xs ≡ trees_of files
    → option_map (λ ss. ss.now) x ≡ option_map (λ p. p.now.statements.now) p
    → map (option_map (λ ss. ss.now)) (xs ++ x ∷ []) ≡ trees_of (files ++ option_map (λ p. placed_file p.now) p ∷ [])
trees_pushed xs files x p h k =
    map-append (option_map (λ ss. ss.now)) xs (x ∷ [])
    ∙ ap (λ ys. ys ++ option_map (λ ss. ss.now) x ∷ []) h
    ∙ ap (λ y. trees_of files ++ y ∷ []) (k ∙ of_placed p)
    ∙ sym (map-append (option_map (λ f. f.statements)) files (option_map (λ p. placed_file p.now) p ∷ []))

-- a resolved program is of a file
pub of_file : (labels : List File) (n : ℕ) (seen : Outside) (ss : List Statement) (o : Result Program ScopeFault) → Resolves labels n seen ss o → IfOk o (λ p. IsOfFile p)
of_file labels n seen ss (Ok p) h = (n, seen, ss, h.0, h.3)
of_file labels n seen ss (Err e) h = tt

outline_in : (w : Setting) (files : Files) (file : ℕ) → AreOutlined w files → option_flatten (slice_get w.outlines file) ≡ outline_at files file
outline_in w files file h = ap (λ os. option_flatten (slice_get os file)) h ∙ outline_there files file

pub definition_there : (w : Setting) (files : Files) (file number : ℕ) → AreOutlined w files
    → option_and_then (λ o. definition_in o.definitions number) (outline_at files file) ≡ definition_of w file number
definition_there w files file number h = sym (ap (option_and_then (λ o. definition_in o.definitions number)) (outline_in w files file h))

pub names_there : (w : Setting) (files : Files) (file number : ℕ) → AreOutlined w files
    → names_in (blocks_in (outline_at files file)) number ≡ names_of w file number
names_there w files file number h = sym (ap (λ o. names_in (blocks_in o) number) (outline_in w files file h))

pub loaded_there : (w : Setting) (files : Files) (file : ℕ) (name : List ℕ) → AreOutlined w files
    → has_name (loaded_names (outline_at files file)) name ≡ has_name (loaded_names (outline_of w file)) name
loaded_there w files file name h = sym (ap (λ o. has_name (loaded_names o) name) (outline_in w files file h))

pub order_given : (w : Setting) (files : Files) (file number : ℕ) (o : Option Order) → AreOutlined w files
    → IfSome o (IsLaidOut ((tables_of files).spots file) (option_and_then (λ t. definition_in t.definitions number) (outline_at files file)))
    → IfSome o (IsLaidOut ((tables_of files).spots file) (definition_of w file number))
order_given w files file number None h k = tt
order_given w files file number (Some r) h k = λ d e. k d (definition_there w files file number h ∙ e)
