-- The programs of files: the facts of each, and the outlines of all.
use Rattle.std.proofs.Common.{◌≡◌, ℕ, ◌+◌, Bool, true, false, not, ◌&&◌, ◌||◌, List, [], ◌∷◌, length, slice_get, Option, Some, None, refl, ap, sym, subst, ◌∙◌}
use Rattle.std.specs.Prelude.{IfSome}
use Rattle.std.specs.Option.{is_some, option_and_then, option_flatten, option_map}
use Rattle.std.proofs.lemmas.Option.{slice_get-map}
use Rattle.std.proofs.lemmas.Map.Views.{any-filter_same}
use Rattle.std.proofs.lemmas.Slice.Eq.{bytes_eq-Decides}
use Rattle.star_scope.specs.declared.program.Program.{Program}
use Rattle.star_outline.specs.Definitions.{Definition, definition_in}
use Rattle.star_outline.specs.Names.{Names, has_name, once, same_name, slot_of}
use Rattle.star_outline.specs.Outlines.{names_in, outline}
use Rattle.star_scope.specs.Spots.{spot_at}
use Rattle.star_outline.proofs.Numbers.{position_any}
use Rattle.star_meaning.specs.Local.{outlines}
use Rattle.star_meaning.specs.Programs.{Files, IsOfFile, PlacedFile, file_in, outline_at, slots_in, spots_in, tables_of, trees_of}
use Rattle.star_world.specs.declared.orders.Order.{Order}
use Rattle.star_world.specs.LaidOut.{IsLaidOut}
use Rattle.star_world.specs.Orders.{AreLaidOut, HasLayout, Layout}

-- the facts of the program of some file
pub definitions_are : (p : Program) → IsOfFile p → p.definitions ≡ (outline p.statements.now).definitions
definitions_are p h = h.4.definitions ∙ ap (λ ss. (outline ss).definitions) (sym h.4.statements)

pub blocks_are : (p : Program) → IsOfFile p → p.blocks ≡ (outline p.statements.now).blocks
blocks_are p h = h.4.blocks ∙ ap (λ ss. (outline ss).blocks) (sym h.4.statements)

-- the order of a definition
pub order_known : (p : Program) (number : ℕ) (l : Layout) (names : Names) → IsOfFile p → HasLayout p number l → names ≡ names_in p.blocks (1 + number)
    → (d : Definition) → definition_in (outline p.statements.now).definitions number ≡ Some d → AreLaidOut (spot_at p.spots) names l d.parameters
order_known p number l names h k e d there =
    subst (λ (ns : Names). AreLaidOut (spot_at p.spots) ns l d.parameters) (sym e) (k d (ap (λ ds. definition_in ds number) (definitions_are p h) ∙ there))

-- a name has the same place among names as among these, each once
here_or_later : (b c : Bool) → (b || (not b && c)) ≡ (b || c)
here_or_later true c = refl
here_or_later false c = refl

same_once : (name : List ℕ) (ns : Names) → has_name (once ns) name ≡ has_name ns name
same_once name [] = refl
same_once name (n ∷ ns) =
    ap (λ b. same_name name n || b) (any-filter_same (same_name name) (λ m. not (same_name m n)) (not (same_name name n)) (λ m e. ap (λ a. not (same_name a n)) (sym ((bytes_eq-Decides name m).0 e))) (once ns))
    ∙ here_or_later (same_name name n) (has_name (once ns) name)
    ∙ ap (λ b. same_name name n || b) (same_once name ns)

pub loaded_are : (p : Program) (name : List ℕ) → IsOfFile p → is_some (slot_of name p.loaded) ≡ has_name (outline p.statements.now).loaded name
loaded_are p name h =
    position_any (same_name name) p.loaded
    ∙ ap (λ ns. has_name ns name) (h.4.loaded ∙ ap (λ ss. once (outline ss).loaded) (sym h.4.statements))
    ∙ same_once name (outline p.statements.now).loaded

-- the outline of a file among the outlines of all
flat_outline : (o : Option (Option PlacedFile)) → option_flatten (option_map (option_map outline) (option_map (option_map (λ f. f.statements)) o)) ≡ option_map (λ f. outline f.statements) (option_flatten o)
flat_outline None = refl
flat_outline (Some None) = refl
flat_outline (Some (Some f)) = refl

pub outline_there : (files : Files) (file : ℕ) → option_flatten (slice_get (outlines (trees_of files)) file) ≡ outline_at files file
outline_there files file =
    ap option_flatten (slice_get-map (option_map outline) (trees_of files) file ∙ ap (option_map (option_map outline)) (slice_get-map (option_map (λ f. f.statements)) files file))
    ∙ flat_outline (slice_get files file)

-- the order of a definition of the file at a place, and its slots
pub order_there : (files : Files) (file number : ℕ) (f : PlacedFile) (o : Option Order) → Some f ≡ file_in files file
    → IfSome o (IsLaidOut (spot_at f.spots) (definition_in (outline f.statements).definitions number))
    → IfSome o (IsLaidOut ((tables_of files).spots file) (option_and_then (λ t. definition_in t.definitions number) (outline_at files file)))
order_there files file number f None e h = tt
order_there files file number f (Some r) e h = λ d there.
    let found : definition_in (outline f.statements).definitions number ≡ Some d = ap (λ g. option_and_then (λ t. definition_in t.definitions number) (option_map (λ x. outline x.statements) g)) e ∙ there in
    subst (λ (g : Option PlacedFile). AreLaidOut (spots_in g) r.names.now r.layout.now d.parameters) e (h d found)

pub slots_there : (files : Files) (file number : ℕ) (f : PlacedFile) (o : Option Order) → Some f ≡ file_in files file
    → IfSome o (λ r. r.names.now ≡ names_in (outline f.statements).blocks (1 + number))
    → IfSome o (λ r. length r.names.now ≡ (tables_of files).slots file (1 + number))
slots_there files file number f None e h = tt
slots_there files file number f (Some r) e h = ap length h ∙ ap (λ g. slots_in g (1 + number)) e
