-- A file without a static fault: nothing is misplaced in it, nor in the bodies of its functions; its outline is that of
-- its statements; and the file of a load statement is one of its loads.
use Rattle.std.proofs.Common.{◌≡◌, ◌⊎◌, inl, inr, ℕ, nat_eq, Bool, true, false, List, [], ◌∷◌, map, Option, Some, None, refl, ap, sym, ◌∙◌, subst, if◌then◌else◌}
use Rattle.std.specs.Prelude.{Contains, slice_get}
use Rattle.std.specs.List.{find}
use Rattle.std.specs.Option.{option_and_then, option_flatten, option_map}
use Rattle.std.proofs.lemmas.Option.{slice_get-map}
use Rattle.star_label.specs.Files.{File}
use Rattle.star_tree.specs.declared.tree.Statement.{Statement}
use Rattle.star_outline.specs.Definitions.{Definition, definition_in}
use Rattle.star_outline.specs.Outlines.{Outline, outline}
use Rattle.star_scope.specs.declared.loads.Load.{Load}
use Rattle.star_scope.specs.declared.program.Prelude.{Prelude}
use Rattle.star_scope.specs.Placement.{in_statements, misplaced, of_file, of_prelude}
use Rattle.star_scope.specs.Resolve.{faults_in, outside, standing_in}
use Rattle.star_scope.proofs.FirstFaults.{none_first}
use Rattle.star_meaning.specs.Module.{Local}
use Rattle.star_meaning.specs.Program.{definition_of, outline_of}
use Rattle.star_meaning.specs.Programs.{load_files, with_load}
use Rattle.star_plan.specs.Plan.{Plan, Reading, Sound, read_of, tree_in, trees}
use Rattle.star_plan.specs.Reading.{IsPlanOf, IsRead}
use Rattle.star_plan.specs.Runs.{given}
use Rattle.star_plan.proofs.Causes.{here, there}
use Rattle.star_plan.proofs.Options.{chained, mapped}
use Rattle.star_plan.proofs.Tables.{sound_read}
use Rattle.star_unseen.specs.Shelves.{BodyIsPlaced}
use Rattle.star_needs.proofs.PlacedBodies.{bodies_placed, left_none}

-- ---- nothing is misplaced

none_misplaced : (files : List File) (plan : Plan) (is : IsPlanOf files plan) (n : ℕ) (ss : List Statement) → tree_in (read_of plan n) ≡ Some ss → in_statements ss (standing_in n is.prelude) ≡ []
none_misplaced files plan is n ss e =
    let read = sound_read (read_of plan n) ss e in
    let right : IsRead files (outside is.prelude plan.mode.language) n (Sound ss read.0) = is.right n (Sound ss read.0) read.1 in
    let resolves = right.3.1 in
    let none : faults_in n (outside is.prelude plan.mode.language) ss resolves.0 ≡ [] = none_first (faults_in n (outside is.prelude plan.mode.language) ss resolves.0) resolves.2 in
    left_none (in_statements ss (standing_in n is.prelude)) _ none

by_standing : (n : ℕ) (p : Option Prelude) (ss : List Statement) → in_statements ss (standing_in n p) ≡ [] → (misplaced ss ≡ []) ⊎ (in_statements ss of_prelude ≡ [])
by_standing n None ss e = inl e
by_standing n (Some p) ss e = turn (nat_eq p.file n) refl
  where
    turn : (b : Bool) → nat_eq p.file n ≡ b → (misplaced ss ≡ []) ⊎ (in_statements ss of_prelude ≡ [])
    turn true is = inr (ap (λ b. in_statements ss (if b then of_prelude else of_file)) (sym is) ∙ e)
    turn false is = inl (ap (λ b. in_statements ss (if b then of_prelude else of_file)) (sym is) ∙ e)

-- nothing is misplaced in a file that may load, or in one that may not
pub file_placed : (files : List File) (plan : Plan) → IsPlanOf files plan → (n : ℕ) (ss : List Statement) → tree_in (read_of plan n) ≡ Some ss → (misplaced ss ≡ []) ⊎ (in_statements ss of_prelude ≡ [])
file_placed files plan is n ss e = by_standing n is.prelude ss (none_misplaced files plan is n ss e)

-- ---- outlines

flat_outline : (o : Option (Option Reading)) → option_flatten (option_map (option_map outline) (option_map tree_in o)) ≡ option_map outline (tree_in (option_flatten o))
flat_outline None = refl
flat_outline (Some r) = refl

pub outline_is : (plan : Plan) (n : ℕ) (ms : List Local) (file : ℕ) → outline_of (given plan n ms) file ≡ option_map outline (tree_in (read_of plan file))
outline_is plan n ms file =
    ap option_flatten (slice_get-map (option_map outline) (trees plan) file)
    ∙ (ap (λ o. option_flatten (option_map (option_map outline) o)) (slice_get-map tree_in plan.reads file)
    ∙ flat_outline (slice_get plan.reads file))

-- nothing is misplaced in the body of a definition of any file
pub definitions_placed : (files : List File) (plan : Plan) → IsPlanOf files plan → (n : ℕ) (ms : List Local) (file number : ℕ) (d : Definition) → definition_of (given plan n ms) file number ≡ Some d → BodyIsPlaced d.body
definitions_placed files plan is n ms file number d e =
    let known : option_and_then (λ (o : Outline). definition_in o.definitions number) (option_map outline (tree_in (read_of plan file))) ≡ Some d = ap (λ o. option_and_then (λ (z : Outline). definition_in z.definitions number) o) (sym (outline_is plan n ms file)) ∙ e in
    let one = chained (λ (o : Outline). definition_in o.definitions number) (option_map outline (tree_in (read_of plan file))) d known in
    let of = mapped outline (tree_in (read_of plan file)) one.0 one.1 in
    bodies_placed of.0 (standing_in file is.prelude) (none_misplaced files plan is file of.0 of.1) number d (ap (λ (o : Outline). definition_in o.definitions number) of.2 ∙ one.2)

-- ---- loads

-- the file of a load statement is one of the loads
pub load_among : (token m : ℕ) (ls : List Load) → option_map (λ l. l.1) (find (λ l. nat_eq l.0 token) (load_files ls)) ≡ Some m → Contains (map (λ l. l.file) ls) m
load_among token m [] e = absurd (let no : ⊥ = cc in no)
load_among token m (l ∷ ls) e = by_token l.token (λ k. there l.file m (map (λ x. x.file) ls) (load_among token m ls k)) e
  where
    one_more : (b : Bool) (t : ℕ) → (option_map (λ x. x.1) (find (λ x. nat_eq x.0 token) (load_files ls)) ≡ Some m → Contains (map (λ x. x.file) (l ∷ ls)) m)
        → option_map (λ x. x.1) (if b then Some (t, l.file) else find (λ x. nat_eq x.0 token) (load_files ls)) ≡ Some m → Contains (map (λ x. x.file) (l ∷ ls)) m
    one_more true t rest e = let same : l.file ≡ m = cc in subst (λ z. Contains (l.file ∷ map (λ x. x.file) ls) z) same (here l.file (map (λ x. x.file) ls))
    one_more false t rest e = rest e

    by_token : (o : Option ℕ) → (option_map (λ x. x.1) (find (λ x. nat_eq x.0 token) (load_files ls)) ≡ Some m → Contains (map (λ x. x.file) (l ∷ ls)) m)
        → option_map (λ x. x.1) (find (λ x. nat_eq x.0 token) (with_load o l.file (load_files ls))) ≡ Some m → Contains (map (λ x. x.file) (l ∷ ls)) m
    by_token None rest e = rest e
    by_token (Some t) rest e = one_more (nat_eq t token) t rest e
