-- The tables that the programs of files give are right for each of these files.
use Rattle.std.proofs.Common.{◌≡◌, ℕ, List, map, length, Option, Some, None, Bool, true, false, slice_get, if◌then◌else◌, nat_eq, refl, ap, sym, ◌∙◌, subst}
use Rattle.std.specs.Option.{option_map, option_flatten}
use Rattle.std.proofs.lemmas.Option.{slice_get-map}
use Rattle.star_tree.specs.declared.tree.Statement.{Statement}
use Rattle.star_scope.specs.declared.program.Prelude.{Prelude}
use Rattle.star_scope.specs.declared.program.Program.{Program}
use Rattle.star_outline.specs.declared.blocks.Block.{Block}
use Rattle.star_outline.specs.Definitions.{AllDiffer, Definition}
use Rattle.star_outline.specs.Names.{Names}
use Rattle.star_outline.specs.Outlines.{names_in, outline}
use Rattle.star_scope.specs.Places.{AllPlaced, Outer, Spots}
use Rattle.star_scope.specs.Resolve as scope
use Rattle.star_scope.specs.Resolve.{prelude_names, seen_by}
use Rattle.star_scope.specs.Spots.{spot_at}
use Rattle.star_scope.specs.Uses.{uses}
use Rattle.star_meaning.specs.Program.{Setting, blocks_in, blocks_of, names_of, outline_of}
use Rattle.star_meaning.specs.Local.{Trees, outlines}
use Rattle.star_meaning.specs.Places.{IsResolved, Stands, outer_names, outer_at}
use Rattle.star_meaning.specs.Programs.{Files, PlacedFile, ProgramsPlaceNames, file_in, placed_file, prelude_in, slots_in, spots_in, tables_of, trees_of}

-- a file with statements is placed
stands_by : (o : Option (Option PlacedFile)) (ss : List Statement) → option_map (option_map (λ f. f.statements)) o ≡ Some (Some ss) → (f : PlacedFile) × (option_flatten o ≡ Some f) × (f.statements ≡ ss)
stands_by None ss h = elim (let e : None ≡ Some (Some ss) = h in none_at ss e) [ ]
  where
    none_at : (ss : List Statement) → None ≡ Some (Some ss) → ⊥
    none_at ss e = cc
stands_by (Some None) ss h = elim (none_in ss h) [ ]
  where
    none_in : (ss : List Statement) → Some None ≡ Some (Some ss) → ⊥
    none_in ss e = cc
stands_by (Some (Some f)) ss h = (f, refl, same f.statements ss h)
  where
    same : (xs ys : List Statement) → Some (Some xs) ≡ Some (Some ys) → xs ≡ ys
    same xs ys e = cc

stands_placed : (files : Files) (file : ℕ) (ss : List Statement) → Stands (trees_of files) file ss → (f : PlacedFile) × (file_in files file ≡ Some f) × (f.statements ≡ ss)
stands_placed files file ss h = stands_by (slice_get files file) ss (sym (slice_get-map (option_map (λ f. f.statements)) files file) ∙ h)

-- the outline of a file
outline_by : (w : Setting) (trees : Trees) (file : ℕ) → w.outlines ≡ outlines trees → outline_of w file ≡ option_flatten (option_map (option_map outline) (slice_get trees file))
outline_by w trees file o = ap (λ os. option_flatten (slice_get os file)) o ∙ ap option_flatten (slice_get-map (option_map outline) trees file)

blocks_by : (w : Setting) (trees : Trees) (file : ℕ) (ss : List Statement) → w.outlines ≡ outlines trees → Stands trees file ss → blocks_of w file ≡ (outline ss).blocks
blocks_by w trees file ss o h = ap blocks_in (outline_by w trees file o ∙ ap (λ x. option_flatten (option_map (option_map outline) x)) h)

-- the names of the prelude's block are the names that its file's block binds
keywords_of : (o : Option (Option (List Statement))) → names_in (blocks_in (option_flatten (option_map (option_map outline) o))) 0 ≡ prelude_names (option_flatten o)
keywords_of None = refl
keywords_of (Some None) = refl
keywords_of (Some (Some ss)) = refl

seen_names : (w : Setting) (trees : Trees) (prelude file : ℕ) (b : Bool) → w.outlines ≡ outlines trees
    → option_map (λ (q : Prelude). q.names) (if b then None else Some (record { file = prelude; names = prelude_names (option_flatten (slice_get trees prelude)) })) ≡ (if b then None else Some (names_of w prelude 0))
seen_names w trees prelude file true o = refl
seen_names w trees prelude file false o = ap Some (sym (ap (λ x. names_in (blocks_in x) 0) (outline_by w trees prelude o) ∙ keywords_of (slice_get trees prelude)))

outer_by : (w : Setting) (files : Files) (file : ℕ) (prelude : Option ℕ) → w.outlines ≡ outlines (trees_of files) → option_map (λ q. q.names) (seen_by file (prelude_in files prelude)) ≡ outer_names w file prelude
outer_by w files file None o = refl
outer_by w files file (Some prelude) o = seen_names w (trees_of files) prelude file (nat_eq prelude file) o

-- what is outside of a file, with the dialect
all_outer : (w : Setting) (files : Files) (file : ℕ) → w.outlines ≡ outlines (trees_of files) → scope.outer_for file (record { prelude = prelude_in files w.prelude; language = w.language }) ≡ outer_at w file
all_outer w files file o = ap (λ (ns : Option Names). record { names = ns; language = w.language }) (outer_by w files file w.prelude o)

-- a part placed by equal spots, in equal blocks, with equal names outside
all_placed : (s t : Spots) (a b : List Block) (m n : Outer) (ss : List Statement) → s ≡ t → a ≡ b → m ≡ n → AllPlaced s a m (uses ss) → AllPlaced t b n (uses ss)
all_placed s t a b m n ss e f g h = subst (λ x. AllPlaced t b x (uses ss)) g (subst (λ x. AllPlaced t x m (uses ss)) f (subst (λ x. AllPlaced x a m (uses ss)) e h))

resolved_by : (files : Files) (w : Setting) (file : ℕ) (ss : List Statement) (f : PlacedFile) (p : Program) → w.outlines ≡ outlines (trees_of files) → Stands (trees_of files) file ss → file_in files file ≡ Some f → f.statements ≡ ss → placed_file p ≡ f
    → p.definitions ≡ (outline f.statements).definitions → AllDiffer (map (λ d. d.number) p.definitions)
    → AllPlaced (spot_at p.spots) (outline f.statements).blocks (scope.outer_for file (record { prelude = prelude_in files w.prelude; language = w.language })) (uses f.statements)
    → IsResolved (tables_of files) w file ss
resolved_by files w file ss f p o h there same is definitions numbers spots =
    let blocks : blocks_of w file ≡ (outline ss).blocks = blocks_by w (trees_of files) file ss o h in
    let table : spot_at p.spots ≡ spots_in (file_in files file) = ap (λ x. spot_at x.spots) is ∙ sym (ap spots_in there) in
    let placed_ss : AllPlaced (spot_at p.spots) (outline ss).blocks (scope.outer_for file (record { prelude = prelude_in files w.prelude; language = w.language })) (uses ss) =
    subst (λ xs. AllPlaced (spot_at p.spots) (outline xs).blocks (scope.outer_for file (record { prelude = prelude_in files w.prelude; language = w.language })) (uses xs)) same spots in
    record {
      numbers = subst (λ (ds : List Definition). AllDiffer (map (λ d. d.number) ds)) (definitions ∙ ap (λ xs. (outline xs).definitions) same) numbers;
      names = all_placed (spot_at p.spots) (spots_in (file_in files file)) (outline ss).blocks (blocks_of w file) (scope.outer_for file (record { prelude = prelude_in files w.prelude; language = w.language })) (outer_at w file) ss table (sym blocks) (all_outer w files file o) placed_ss;
      blocks = λ number. ap (λ x. slots_in x number) there ∙ ap (λ xs. length (names_in (outline xs).blocks number)) same ∙ sym (ap (λ bs. length (names_in bs number)) blocks);
    }

pub programs_place_names : ProgramsPlaceNames
programs_place_names files w o are file ss h =
    let r = stands_placed files file ss h in
    let k = are file r.0 r.1 in
    resolved_by files w file ss r.0 k.1 o h r.1 r.2 k.2 k.3.definitions k.3.numbers k.3.spots
