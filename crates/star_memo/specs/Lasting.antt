-- Ends that last though files that they need have changed: what is loaded of these is the same data as before.
use Rattle.std.specs.Prelude.{◌≡◌, ◌⊎◌, ℕ, nat_eq, Bool, true, List, Option, Some, Contains, slice_get}
use Rattle.std.specs.List.{find}
use Rattle.std.specs.Option.{option_map}
use Rattle.star_dialect.specs.declared.Mode.{Mode}
use Rattle.star_label.specs.Files.{File, text_at}
use Rattle.star_scope.specs.declared.loads.Load.{Load}
use Rattle.star_store.specs.declared.values.Value.{Value}
use Rattle.star_store.specs.Store.{Published, global_of}
use Rattle.star_tree.specs.declared.tree.Statement.{Statement}
use Rattle.star_outline.specs.Syntax.{form_of, position_of}
use Rattle.star_meaning.specs.Module.{most_levels}
use Rattle.star_meaning.specs.Programs.{load_files}
use Rattle.star_plan.specs.Shelves.{IsOwn}
use Rattle.star_outcome.specs.GoodEnds.{IsGoodEnd}
use Rattle.star_outcome.specs.declared.good_end.GoodEnd.{GoodEnd}
use Rattle.star_needs.specs.Changed.{FormLoads, SharesLoads, same_data}
use Rattle.star_needs.specs.Ends.{AreLoadsUnder, InEachPlan}
use Rattle.star_memo.specs.Outcomes.{AreAlike, AreOutcomes, is_marked}
use Rattle.star_memo.specs.Readings.{AreKnown}
use Rattle.star_memo.specs.declared.lasting.Change.{Change}
use Rattle.star_memo.specs.declared.outcomes.Terms.{Terms}

-- ---- ends as they are now

-- this is the good end of the file n, which may be stale, in each run of these files with this prelude and this mode,
-- whatever the roots; and these are the files that it loads
pub record IsEndNow (files : List File) (prelude : Option ℕ) (mode : Mode) (n : ℕ) (e : GoodEnd) : Type 0 where
  pub loads : AreLoadsUnder files prelude mode n e.loads.items
  pub end : InEachPlan files prelude mode n (λ plan. IsGoodEnd plan n e)

-- so it is with whatever is there for a file, by its number
abbrev pub AreEndsNow : List File → Option ℕ → Mode → List (Option GoodEnd) → Type 0
AreEndsNow files prelude mode all =
    (n : ℕ) (e : GoodEnd) → slice_get all n ≡ Some (Some e) → IsEndNow files prelude mode n e

-- if two rows are outcomes of some files, so is a third
abbrev pub AreJoined : List (Option GoodEnd) → List (Option GoodEnd) → List (Option GoodEnd) → Type 0
AreJoined one other all =
    (files : List File) (prelude : Option ℕ) (mode : Mode) → AreOutcomes files prelude mode one
    → AreOutcomes files prelude mode other → AreOutcomes files prelude mode all

-- ---- what is shared

-- the stores of a file before and after a change
pub record StoresView : Type 0 where
  pub file : ℕ
  pub before : Published
  pub after : Published

-- a value is the same data in both, if at most this many levels are opened
abbrev pub is_data : StoresView → ℕ → Value → Bool
is_data s levels v = same_data s.before.cells s.after.cells s.file levels v

-- a global with this name has the same value in both, which is the same data
pub record IsShared (s : StoresView) (name : List ℕ) : Type 0 where
  pub same : global_of name s.before.globals ≡ global_of name s.after.globals
  pub as_data : (v : Value) → global_of name s.before.globals ≡ Some v → is_data s most_levels v ≡ true

-- the file of the load statement that begins at this token
abbrev pub file_at : List Load → ℕ → Option ℕ
file_at loads token = option_map (λ l. l.1) (find (λ l. nat_eq l.0 token) (load_files loads))

-- a statement that begins at a load of the file m loads this name
pub record LoadsIt (loads : List Load) (m : ℕ) (x : Statement) (name : List ℕ) : Type 0 where
  pub file : file_at loads (position_of x).token ≡ Some m
  pub names : FormLoads (form_of x) name

-- each name that these statements load of the stores' file is shared
abbrev pub AreShared : StoresView → List Load → List Statement → Type 0
AreShared s loads xs =
    (at : ℕ) (x : Statement) (name : List ℕ) → slice_get xs at ≡ Some x → LoadsIt loads s.file x name → IsShared s name

-- in a run of the files before and a run of the files after, which both reach the file n, it shares what it loads of m
abbrev pub SharesIn : List File → List File → Option ℕ → Mode → ℕ → ℕ → Type 0
SharesIn before files prelude mode n m =
    InEachPlan before prelude mode n (λ p. InEachPlan files prelude mode n (λ q. SharesLoads p q n m))

-- ---- which ends last

-- the file n has the same text, and each file that it loads is marked or shares with it
pub record Lasts (before files : List File) (prelude : Option ℕ) (mode : Mode) (marks : List Bool) (n : ℕ) : Type 0 where
  pub text : text_at before n ≡ text_at files n
  pub loads : List ℕ
  pub are_loads : AreLoadsUnder files prelude mode n loads
  pub each : (m : ℕ) → Contains loads m → (is_marked marks m ≡ true) ⊎ SharesIn before files prelude mode n m

-- so it is with all marked files. Then an end that one of them had before is its end now, but for the stores of other
-- files: `ends_last` of `proofs/EndsLast`
abbrev pub AllLast : List File → List File → Option ℕ → Mode → List Bool → Type 0
AllLast before files prelude mode marks =
    (n : ℕ) → is_marked marks n ≡ true → Lasts before files prelude mode marks n

-- the prelude, if there is one, is marked if any file is
abbrev pub HasPreludeMarked : Option ℕ → List Bool → Type 0
HasPreludeMarked prelude marks =
    (n q : ℕ) → is_marked marks n ≡ true → prelude ≡ Some q → is_marked marks q ≡ true

-- ---- a change

-- the files before and after a change are alike. The ends are outcomes of the files before and of the files after, and
-- the readings are of the files after
pub record IsChange (c : Change) : Type 0 where
  pub alike : AreAlike c.compared.now.before c.compared.now.files c.terms.now.prelude
  pub former : AreOutcomes c.compared.now.before c.terms.now.prelude c.terms.now.mode c.former.now
  pub ends : AreOutcomes c.compared.now.files c.terms.now.prelude c.terms.now.mode c.ends.now
  pub reads : AreKnown c.compared.now.files c.terms.now.prelude c.terms.now.mode.language c.reads.now

-- these are the stores of the file n before and after the change: in each run that reaches it they are its own
pub record AreStoresOf (c : Change) (n : ℕ) (s : StoresView) : Type 0 where
  pub file : s.file ≡ n
  pub before : InEachPlan c.compared.now.before c.terms.now.prelude c.terms.now.mode n (λ plan. IsOwn plan n s.before)
  pub after : InEachPlan c.compared.now.files c.terms.now.prelude c.terms.now.mode n (λ plan. IsOwn plan n s.after)

-- so it is with whatever is there for a file, by its number
abbrev pub AreAllStores : Change → List (Option StoresView) → Type 0
AreAllStores c all = (n : ℕ) (s : StoresView) → slice_get all n ≡ Some (Some s) → AreStoresOf c n s

-- the file n loads m after the change
abbrev pub LoadsNow : Change → ℕ → ℕ → Type 0
LoadsNow c n m =
    (loads : List ℕ) × AreLoadsUnder c.compared.now.files c.terms.now.prelude c.terms.now.mode n loads × Contains loads m

-- the file n shares what it loads of m in each run before and each run after the change
abbrev pub SharesAcross : Change → ℕ → ℕ → Type 0
SharesAcross c n m = SharesIn c.compared.now.before c.compared.now.files c.terms.now.prelude c.terms.now.mode n m

-- the file m is marked, or the file n shares what it loads of m
abbrev pub IsMarkedOrShared : Change → List Bool → ℕ → ℕ → Type 0
IsMarkedOrShared c marks n m = (is_marked marks m ≡ true) ⊎ SharesAcross c n m

-- the end of the file n lasts over the change, if those of the marked files do
abbrev pub LastsOver : Change → List Bool → ℕ → Type 0
LastsOver c marks n = Lasts c.compared.now.before c.compared.now.files c.terms.now.prelude c.terms.now.mode marks n

-- so it is with all marked files
abbrev pub AllLastOver : Change → List Bool → Type 0
AllLastOver c marks = AllLast c.compared.now.before c.compared.now.files c.terms.now.prelude c.terms.now.mode marks

-- ---- ends that are added

-- whatever is there after was there before, or is this end at the number n
abbrev pub IsFilled : ℕ → Option GoodEnd → List (Option GoodEnd) → List (Option GoodEnd) → Type 0
IsFilled n end before after =
    (k : ℕ) (e : GoodEnd) → slice_get after k ≡ Some (Some e)
    → (slice_get before k ≡ Some (Some e)) ⊎ ((k ≡ n) × (end ≡ Some e))

-- this is the end at the number n, and stale
abbrev pub IsStaleOf : List (Option GoodEnd) → ℕ → GoodEnd → Type 0
IsStaleOf ends n s =
    (e : GoodEnd) × (slice_get ends n ≡ Some (Some e)) × (s ≡ record e { is_stale = true })

-- if a row has outcomes of files before a change, whose marked ends last, and another those of the files after it, then a
-- third has ends of the files after it as they are now
abbrev pub AreAddedTo : Terms → List Bool → List (Option GoodEnd) → List (Option GoodEnd) → List (Option GoodEnd) → Type 0
AreAddedTo terms marks former ends all =
    (before files : List File) → AreAlike before files terms.prelude
    → AreOutcomes before terms.prelude terms.mode former → AreOutcomes files terms.prelude terms.mode ends
    → AllLast before files terms.prelude terms.mode marks → HasPreludeMarked terms.prelude marks
    → AreEndsNow files terms.prelude terms.mode all
