-- Actions by places and by names that do the same wherever a chain of frames fits a chain of blocks, and all functions
-- fit.
use Rattle.std.proofs.Common.{◌≡◌, ℕ, zero, suc, ◌+◌, ◌<◌, List, [], ◌∷◌, ◌++◌, length, slice_get, replicate, Option, Some, None, Bool, true, false, if◌then◌else◌, refl, ap, sym, ◌∙◌, arith, subst, nat_eq, slice_index_or}
use Rattle.std.specs.List.{Contains}
use Rattle.star_store.specs.declared.values.Value.{Value}
use Rattle.star_store.specs.declared.values.Value.TheVariants as value
use Rattle.star_store.specs.declared.values.Cell.{Cell}
use Rattle.star_store.specs.declared.values.Cell.TheVariants as cell
use Rattle.star_store.specs.declared.values.Frame.{Frame}
use Rattle.star_store.specs.declared.values.HeapCell.{HeapCell}
use Rattle.star_store.specs.declared.values.Function.{Function}
use Rattle.star_store.specs.Store.{made, next_value, published_cells}
use Rattle.star_store.specs.Write.{cell_at}
use Rattle.star_outline.specs.declared.blocks.Block.{Block}
use Rattle.star_scope.specs.Places.{Outer, Spots, AllPlaced, IsPlaced}
use Rattle.star_scope.specs.Uses.{Use, Named, Defined, uses}
use Rattle.star_tree.specs.declared.tree.Name.{Name}
use Rattle.star_tree.specs.declared.tree.Statement.{Statement}
use Rattle.star_meaning.specs.declared.fault.FaultCode.{FaultCode}
use Rattle.star_meaning.specs.declared.site.Site.{Site}
use Rattle.star_meaning.specs.declared.site.Flow.{Flow}
use Rattle.star_meaning.specs.declared.site.Flow.TheVariants as flow
use Rattle.star_meaning.specs.Run.{State, Outcome, Done, Failed, Action, and_then, ◌>>=◌, give, fail, make, build, each, all_of}
use Rattle.star_meaning.specs.Program.{Setting, names_of, blocks_of, seen}
use Rattle.star_meaning.specs.Variables.{bind_name, new_frame, read_name}
use Rattle.star_meaning.specs.Semantics.{then_go, block, then_turn, turns, repeat}
use Rattle.star_meaning.specs.Laws.{KeepsFrame}
use Rattle.star_meaning.specs.Local.{Trees, outlines}
use Rattle.star_meaning.specs.Places.{AllFit, FitsBlock, FitsChain, FitsFunction, IsResolved, Stands, Tables, bind_spot, new_slots, outer_at, read_spot}
use Rattle.star_meaning.proofs.ReadPlaces.{spots_mean_names}
use Rattle.star_meaning.proofs.Keeps.{Keeps}
use Rattle.star_meaning.proofs.Quiet as quiet
use Rattle.star_meaning.proofs.KeepsVariables.{keeps-bind_name, keeps-read_name}

-- after it all frames are the same frames
pub record Carries (s t : State) : Type 0 where
  pub home : t.store.home ≡ s.store.home
  pub frames : (at : ℕ) (f : Frame) → cell_at s.store.cells at ≡ Some (cell.Frame f) → (g : Frame) × (cell_at t.store.cells at ≡ Some (cell.Frame g)) × KeepsFrame f g

pub carries_follows : (s t : State) → quiet.Follows s t → Carries s t
carries_follows s t h = record { home = h.home; frames = h.frames }

pub carries_on : (s t u : State) → Carries s t → Carries t u → Carries s u
carries_on s t u h k = record {
  home = k.home ∙ h.home;
  frames = λ at f e. let g = h.frames at f e in let i = k.frames at g.0 g.1 in (i.0, i.1, quiet.frame_on f g.0 i.0 g.2 i.2);
}

abbrev cell_by : (w : Setting) (s : State) (home at : ℕ) → Bool → Option Cell
cell_by w s home at b = cell_at (if b then s.store.cells else published_cells (slice_get w.shelf home)) at

carried_by : (w : Setting) (s t : State) → Carries s t → (home at : ℕ) (b : Bool) (f : Frame) → cell_by w s home at b ≡ Some (cell.Frame f) → (g : Frame) × (cell_by w t home at b ≡ Some (cell.Frame g)) × KeepsFrame f g
carried_by w s t c home at true f h = c.frames at f h
carried_by w s t c home at false f h = (f, h, quiet.frame_same f)

carried : (w : Setting) (s t : State) → Carries s t → (v : Value) (f : Frame) → seen w s v ≡ Some (cell.Frame f) → (g : Frame) × (seen w t v ≡ Some (cell.Frame g)) × KeepsFrame f g
carried w s t c (value.Ref home at) f h =
    let g = carried_by w s t c home at (nat_eq home s.store.home) f h in
    (g.0, ap (λ n. cell_by w t home at (nat_eq home n)) c.home ∙ g.1, g.2)
carried w s t c _ f h = cc

-- a chain that fits still fits
pub chain_carries : (w : Setting) (s t : State) → Carries s t → (file : ℕ) (chain : List ℕ) (frame : Option Value) → FitsChain w s file chain frame → FitsChain w t file chain frame
chain_carries w s t c file [] frame h = h
chain_carries w s t c file (b ∷ bs) frame h =
    let g = carried w s t c h.0 h.1 h.3 in
    let fits : FitsBlock w file b g.0 = record { file_is = g.2.file ∙ h.4.file_is; block_is = g.2.block ∙ h.4.block_is; slots_are = g.2.slots ∙ h.4.slots_are } in
    (h.0, g.0, h.2, g.1, fits, subst (λ o. FitsChain w t file bs o) (sym g.2.parent) (chain_carries w s t c file bs h.1.parent h.5))

-- and so does a function
pub function_carries : (trees : Trees) (w : Setting) (s t : State) → Carries s t → (f : Function) → FitsFunction trees w s f → FitsFunction trees w t f
function_carries trees w s t c f h = record { statements = h.statements; chain = h.chain; stands = h.stands; is_there = h.is_there; fits = chain_carries w s t c f.file h.chain (Some f.frame) h.fits }

function_by : (w : Setting) (s t : State) → quiet.Follows s t → (home at : ℕ) (b : Bool) (f : Function) → cell_by w t home at b ≡ Some (cell.Func f) → cell_by w s home at b ≡ Some (cell.Func f)
function_by w s t c home at true f h = c.functions at f h
function_by w s t c home at false f h = h

function_before : (w : Setting) (s t : State) → quiet.Follows s t → (v : Value) (f : Function) → seen w t v ≡ Some (cell.Func f) → seen w s v ≡ Some (cell.Func f)
function_before w s t c (value.Ref home at) f h = function_by w s t c home at (nat_eq home s.store.home) f (ap (λ n. cell_by w t home at (nat_eq home n)) (sym c.home) ∙ h)
function_before w s t c _ f h = cc

pub fit_follows : (trees : Trees) (w : Setting) (s t : State) → quiet.Follows s t → AllFit trees w s → AllFit trees w t
fit_follows trees w s t c h v f e = function_carries trees w s t (carries_follows s t c) f (h v f (function_before w s t c v f e))

-- a fact that holds after an action
abbrev pub Good : {A : Type 0} → Trees → Setting → State → Outcome A → Type 0
Good trees w s (Done x t) = Carries s t × AllFit trees w t
Good trees w s (Failed f lines) = Unit {0}

-- two actions do the same if the chain fits, and after them all functions fit
pub record Agree {A : Type 0} (trees : Trees) (w : Setting) (file : ℕ) (chain : List ℕ) (frame : Option Value) (a b : Action A) : Type 0 where
  pub holds : (s : State) → AllFit trees w s → FitsChain w s file chain frame → (a s ≡ b s) × Good trees w s (b s)

pub good_on : {A : Type 0} (trees : Trees) (w : Setting) (s u : State) → Carries s u → (o : Outcome A) → Good trees w u o → Good trees w s o
good_on trees w s u h (Done x t) k = (carries_on s u t h k.0, k.1)
good_on trees w s u h (Failed f lines) k = tt

good_followed : {A : Type 0} (trees : Trees) (w : Setting) (s : State) → AllFit trees w s → (o : Outcome A) → quiet.Followed s o → Good trees w s o
good_followed trees w s h (Done x t) k = (carries_follows s t k, fit_follows trees w s t k h)
good_followed trees w s h (Failed f lines) k = tt

pub agree_quiet : {A : Type 0} (trees : Trees) (w : Setting) (file : ℕ) (chain : List ℕ) (frame : Option Value) (m : Action A) → quiet.Keeps m → Agree trees w file chain frame m m
agree_quiet trees w file chain frame m k = record { holds = λ s fit fits. (refl, good_followed trees w s fit (m s) (k.holds s)) }

pub agree_kept : {A : Type 0} (trees : Trees) (w : Setting) (file : ℕ) (chain : List ℕ) (frame : Option Value) (m : Action A) → Keeps true m → Agree trees w file chain frame m m
agree_kept trees w file chain frame m k = agree_quiet trees w file chain frame m (k.follows refl)

-- a fact of the answer may be used after it
agreed_then : {A B : Type 0} (trees : Trees) (w : Setting) (file : ℕ) (chain : List ℕ) (frame : Option Value) (s : State) (o : Outcome A) (f g : A → Action B)
    → FitsChain w s file chain frame → Good trees w s o
    → ((x : A) (t : State) → o ≡ Done x t → Agree trees w file chain frame (f x) (g x))
    → (and_then o f ≡ and_then o g) × Good trees w s (and_then o g)
agreed_then trees w file chain frame s (Done x t) f g fits h k =
    let r = (k x t refl).holds t h.1 (chain_carries w s t h.0 file chain frame fits) in
    (r.0, good_on trees w s t h.0 (g x t) r.1)
agreed_then trees w file chain frame s (Failed e lines) f g fits h k = (refl, tt)

pub agree_such : {A B : Type 0} (trees : Trees) (w : Setting) (file : ℕ) (chain : List ℕ) (frame : Option Value) (m n : Action A) (f g : A → Action B)
    → Agree trees w file chain frame m n
    → ((s : State) (x : A) (t : State) → n s ≡ Done x t → Agree trees w file chain frame (f x) (g x))
    → Agree trees w file chain frame (m >>= f) (n >>= g)
agree_such trees w file chain frame m n f g h k = record {
  holds = λ s fit fits.
      let r = h.holds s fit fits in
      let q = agreed_then trees w file chain frame s (n s) f g fits r.1 (k s) in
      (ap (λ o. and_then o f) r.0 ∙ q.0, q.1);
}

pub agree_then : {A B : Type 0} (trees : Trees) (w : Setting) (file : ℕ) (chain : List ℕ) (frame : Option Value) (m n : Action A) (f g : A → Action B)
    → Agree trees w file chain frame m n
    → ((x : A) → Agree trees w file chain frame (f x) (g x))
    → Agree trees w file chain frame (m >>= f) (n >>= g)
agree_then trees w file chain frame m n f g h k = agree_such trees w file chain frame m n f g h (λ s x t e. k x)

pub agree_give : {A : Type 0} (trees : Trees) (w : Setting) (file : ℕ) (chain : List ℕ) (frame : Option Value) (x : A) → Agree trees w file chain frame (give x) (give x)
agree_give trees w file chain frame x = agree_quiet trees w file chain frame (give x) (quiet.keeps_give x)

pub agree_fail : (A : Type 0) (trees : Trees) (w : Setting) (file : ℕ) (chain : List ℕ) (frame : Option Value) (c : FaultCode) (line : ℕ) → Agree {A = A} trees w file chain frame (fail c line) (fail c line)
agree_fail A trees w file chain frame c line = agree_quiet trees w file chain frame (fail c line) (quiet.keeps_fail A c line)

pub agree_if : {A : Type 0} (trees : Trees) (w : Setting) (file : ℕ) (chain : List ℕ) (frame : Option Value) (b : Bool) (m m' n n' : Action A)
    → Agree trees w file chain frame m m' → Agree trees w file chain frame n n' → Agree trees w file chain frame (if b then m else n) (if b then m' else n')
agree_if trees w file chain frame true m m' n n' h k = h
agree_if trees w file chain frame false m m' n n' h k = k

-- ---- loops

-- each item of a list is such
abbrev pub Every : {A : Type 0} → (A → Type 0) → List A → Type 0
Every P [] = Unit {0}
Every P (x ∷ xs) = P x × Every P xs

pub agree_each : {A B : Type 0} (trees : Trees) (w : Setting) (file : ℕ) (chain : List ℕ) (frame : Option Value) (P : A → Type 0) (f g : A → Action B)
    → ((x : A) → P x → Agree trees w file chain frame (f x) (g x)) → (xs : List A) → Every P xs
    → Agree trees w file chain frame (each f xs) (each g xs)
agree_each {B = B} trees w file chain frame P f g k [] h = agree_give {A = List B} trees w file chain frame []
agree_each {B = B} trees w file chain frame P f g k (x ∷ xs) h =
    agree_then trees w file chain frame _ _ _ _ (k x h.0) (λ y. agree_then trees w file chain frame _ _ _ _ (agree_each trees w file chain frame P f g k xs h.1) (λ ys. agree_give trees w file chain frame (y ∷ ys)))

pub agree_all_of : {A : Type 0} (trees : Trees) (w : Setting) (file : ℕ) (chain : List ℕ) (frame : Option Value) (P : A → Type 0) (f g : A → Action (Unit {0}))
    → ((x : A) → P x → Agree trees w file chain frame (f x) (g x)) → (xs : List A) → Every P xs
    → Agree trees w file chain frame (all_of f xs) (all_of g xs)
agree_all_of trees w file chain frame P f g k [] h = agree_give {A = Unit {0}} trees w file chain frame tt
agree_all_of trees w file chain frame P f g k (x ∷ xs) h = agree_then trees w file chain frame _ _ _ _ (k x h.0) (λ _. agree_all_of trees w file chain frame P f g k xs h.1)

agree_then_go : (trees : Trees) (w : Setting) (file : ℕ) (chain : List ℕ) (frame : Option Value) (m n : Action Flow) (f : Flow) → Agree trees w file chain frame m n → Agree trees w file chain frame (then_go m f) (then_go n f)
agree_then_go trees w file chain frame m n flow.Next k = k
agree_then_go trees w file chain frame m n flow.Break k = agree_give trees w file chain frame _
agree_then_go trees w file chain frame m n flow.Continue k = agree_give trees w file chain frame _
agree_then_go trees w file chain frame m n (flow.Return v) k = agree_give trees w file chain frame _

pub agree_block : {A : Type 0} (trees : Trees) (w : Setting) (file : ℕ) (chain : List ℕ) (frame : Option Value) (P : A → Type 0) (f g : A → Action Flow)
    → ((x : A) → P x → Agree trees w file chain frame (f x) (g x)) → (xs : List A) → Every P xs
    → Agree trees w file chain frame (block f xs) (block g xs)
agree_block trees w file chain frame P f g k [] h = agree_give trees w file chain frame _
agree_block trees w file chain frame P f g k (x ∷ xs) h = agree_then trees w file chain frame _ _ _ _ (k x h.0) (λ y. agree_then_go trees w file chain frame _ _ y (agree_block trees w file chain frame P f g k xs h.1))

agree_then_turn : (trees : Trees) (w : Setting) (file : ℕ) (chain : List ℕ) (frame : Option Value) (m n : Action Flow) (f : Flow) → Agree trees w file chain frame m n → Agree trees w file chain frame (then_turn m f) (then_turn n f)
agree_then_turn trees w file chain frame m n flow.Next k = k
agree_then_turn trees w file chain frame m n flow.Break k = agree_give trees w file chain frame _
agree_then_turn trees w file chain frame m n flow.Continue k = k
agree_then_turn trees w file chain frame m n (flow.Return v) k = agree_give trees w file chain frame _

pub agree_turns : (trees : Trees) (w : Setting) (file : ℕ) (chain : List ℕ) (frame : Option Value) (f g : ℕ → Action Flow) (n i : ℕ)
    → ((i : ℕ) → Agree trees w file chain frame (f i) (g i)) → Agree trees w file chain frame (turns f n i) (turns g n i)
agree_turns trees w file chain frame f g zero i k = agree_give trees w file chain frame _
agree_turns trees w file chain frame f g (suc n) i k = agree_then trees w file chain frame _ _ _ _ (k i) (λ y. agree_then_turn trees w file chain frame _ _ y (agree_turns trees w file chain frame f g n (i + 1) k))

pub agree_repeat : (trees : Trees) (w : Setting) (file : ℕ) (chain : List ℕ) (frame : Option Value) (f g : ℕ → Action (Unit {0})) (n i : ℕ)
    → ((i : ℕ) → Agree trees w file chain frame (f i) (g i)) → Agree trees w file chain frame (repeat f n i) (repeat g n i)
agree_repeat trees w file chain frame f g zero i k = agree_give {A = Unit {0}} trees w file chain frame tt
agree_repeat trees w file chain frame f g (suc n) i k = agree_then trees w file chain frame _ _ _ _ (k i) (λ _. agree_repeat trees w file chain frame f g n (i + 1) k)

-- ---- variables

-- the facts of a program: its outlines are the outlines of its trees, and the tables are right for each
pub record Resolved (tables : Tables) (trees : Trees) (w : Setting) : Type 0 where
  pub outlines : w.outlines ≡ outlines trees
  pub files : (file : ℕ) (ss : List Statement) → Stands trees file ss → IsResolved tables w file ss

placed_at : (spots : Spots) (blocks : List Block) (outer : Outer) (us : List Use) (u d : Use) (k : ℕ) → AllPlaced spots blocks outer us → k < length us → slice_index_or us k d ≡ u → IsPlaced spots blocks outer u
placed_at spots blocks outer [] u d k h l e = absurd (omega (arith, l))
placed_at spots blocks outer (x ∷ us) u d zero h l e = subst (λ z. IsPlaced spots blocks outer z) e h.0
placed_at spots blocks outer (x ∷ us) u d (suc k) h l e = placed_at spots blocks outer us u d k h.1 (omega (arith, l)) e

pub is_placed : (tables : Tables) (trees : Trees) (w : Setting) → Resolved tables trees w → (file : ℕ) (ss : List Statement) (u : Use) → Stands trees file ss → Contains (uses ss) u → IsPlaced (tables.spots file) (blocks_of w file) (outer_at w file) u
is_placed tables trees w r file ss u stands h = placed_at (tables.spots file) (blocks_of w file) (outer_at w file) (uses ss) u u h.0 (r.files file ss stands).names h.1 h.2

pub agree_read : (tables : Tables) (trees : Trees) (w : Setting) → Resolved tables trees w → (p : Site) (n : Name) (ss : List Statement) (chain : List ℕ)
    → Stands trees p.file ss → Contains (uses ss) (Named n chain) → Agree trees w p.file chain (Some p.frame) (read_spot tables w p n) (read_name w p n)
agree_read tables trees w r p n ss chain stands h = record {
  holds = λ s fit fits. ((spots_mean_names tables w p n chain s (is_placed tables trees w r p.file ss (Named n chain) stands h) fits).0, good_followed trees w s fit (read_name w p n s) (((keeps-read_name w p n).follows refl).holds s));
}

pub agree_bind : (tables : Tables) (trees : Trees) (w : Setting) → Resolved tables trees w → (p : Site) (n : Name) (v : Value) (ss : List Statement) (chain : List ℕ)
    → Stands trees p.file ss → Contains (uses ss) (Named n chain) → Agree trees w p.file chain (Some p.frame) (bind_spot tables p n v) (bind_name w p n v)
agree_bind tables trees w r p n v ss chain stands h = record {
  holds = λ s fit fits. ((spots_mean_names tables w p n chain s (is_placed tables trees w r p.file ss (Named n chain) stands h) fits).1 v, good_followed trees w s fit (bind_name w p n v s) (((keeps-bind_name w p n v).follows refl).holds s));
}

-- ---- a new frame

last_cell : (xs : List HeapCell) (x : HeapCell) → cell_at (xs ++ x ∷ []) (length xs) ≡ Some x.cell
last_cell [] x = refl
last_cell (y ∷ xs) x = last_cell xs x

own_number : (n : ℕ) → nat_eq n n ≡ true
own_number n = grind arith

new_seen : (w : Setting) (s : State) (c : Cell) → seen w (record s { store = made c s.store }) (next_value s.store) ≡ Some c
new_seen w s c = ap (λ b. cell_by w (record s { store = made c s.store }) s.store.home (length s.store.cells) b) (own_number s.store.home) ∙ last_cell s.store.cells (record { iterations = 0; cell = c })

length_replicate : {A : Type 0} (n : ℕ) (x : A) → length (replicate n x) ≡ n
length_replicate zero x = refl
length_replicate (suc n) x = ap suc (length_replicate n x)

abbrev empty_frame : Setting → ℕ → ℕ → Option Value → Frame
empty_frame w file number parent = record { file = file; block = number; parent = parent; slots = replicate (length (names_of w file number)) None }

made_frame : {B : Type 0} (trees : Trees) (w : Setting) (file number : ℕ) (chain : List ℕ) (parent : Option Value) (f g : Value → Action B)
    → ((v : Value) → Agree trees w file (number ∷ chain) (Some v) (f v) (g v)) → (s : State) → AllFit trees w s → FitsChain w s file chain parent
    → (and_then (make (cell.Frame (empty_frame w file number parent)) s) f ≡ and_then (make (cell.Frame (empty_frame w file number parent)) s) g) × Good trees w s (and_then (make (cell.Frame (empty_frame w file number parent)) s) g)
unfolding make
made_frame trees w file number chain parent f g k s fit fits =
    let x : Frame = empty_frame w file number parent in
    let t : State = record s { store = made (cell.Frame x) s.store } in
    let v : Value = next_value s.store in
    let c : quiet.Follows s t = (quiet.keeps_make_frame x).holds s in
    let around : FitsChain w t file chain parent = chain_carries w s t (carries_follows s t c) file chain parent fits in
    let block : FitsBlock w file number x = record { file_is = refl; block_is = refl; slots_are = length_replicate (length (names_of w file number)) None } in
    let r = (k v).holds t (fit_follows trees w s t c fit) (v, x, refl, new_seen w s (cell.Frame x), block, around) in
    (r.0, good_on trees w s t (carries_follows s t c) (g v t) r.1)

same_frame : (tables : Tables) (w : Setting) (file number : ℕ) (parent : Option Value) → tables.slots file number ≡ length (names_of w file number) → new_slots tables file number parent ≡ make (cell.Frame (empty_frame w file number parent))
unfolding new_slots
same_frame tables w file number parent h = ap (λ n. make (cell.Frame (record { file = file; block = number; parent = parent; slots = replicate n None }))) h

pub agree_frame : {B : Type 0} (tables : Tables) (trees : Trees) (w : Setting) → Resolved tables trees w → (file number : ℕ) (ss : List Statement) (chain : List ℕ) (parent : Option Value) (f g : Value → Action B)
    → Stands trees file ss → ((v : Value) → Agree trees w file (number ∷ chain) (Some v) (f v) (g v))
    → Agree trees w file chain parent (new_slots tables file number parent >>= f) (new_frame w file number parent >>= g)
unfolding new_frame
agree_frame tables trees w r file number ss chain parent f g stands k = record {
  holds = λ s fit fits.
      let q = made_frame trees w file number chain parent f g k s fit fits in
      (ap (λ m. and_then (m s) f) (same_frame tables w file number parent ((r.files file ss stands).blocks number)) ∙ q.0, q.1);
}

-- ---- a new function

function_in : (P : Function → Type 0) (xs : List HeapCell) (g f : Function) (at : ℕ) → cell_at (xs ++ record { iterations = 0; cell = cell.Func g } ∷ []) at ≡ Some (cell.Func f) → P g → (cell_at xs at ≡ Some (cell.Func f) → P f) → P f
function_in P [] g f at h here before = subst P (let e : cell.Func g ≡ cell.Func f = quiet.one_there (record { iterations = 0; cell = cell.Func g }) at (cell.Func f) h in let i : g ≡ f = cc in i) here
function_in P (y ∷ xs) g f zero h here before = before h
function_in P (y ∷ xs) g f (suc at) h here before = function_in P xs g f at h here before

function_seen : (P : Function → Type 0) (w : Setting) (s : State) (g f : Function) (home at : ℕ) (b : Bool) → cell_by w (record s { store = made (cell.Func g) s.store }) home at b ≡ Some (cell.Func f) → P g → (cell_by w s home at b ≡ Some (cell.Func f) → P f) → P f
function_seen P w s g f home at true h here before = function_in P s.store.cells g f at h here before
function_seen P w s g f home at false h here before = before h

fit_made : (trees : Trees) (w : Setting) (s : State) (g : Function) → Carries s (record s { store = made (cell.Func g) s.store }) → AllFit trees w s → FitsFunction trees w s g → AllFit trees w (record s { store = made (cell.Func g) s.store })
fit_made trees w s g c fit h (value.Ref home at) f e =
    let t : State = record s { store = made (cell.Func g) s.store } in
    function_seen (FitsFunction trees w t) w s g f home at (nat_eq home s.store.home) e (function_carries trees w s t c g h) (λ before. function_carries trees w s t c f (fit (value.Ref home at) f before))
fit_made trees w s g c fit h _ f e = cc

carries_made : (s : State) (c : Cell) → Carries s (record s { store = made c s.store })
carries_made s c = record { home = refl; frames = λ at f h. (f, quiet.cell_more s.store.cells _ at (cell.Frame f) h, quiet.frame_same f) }

made_function : (trees : Trees) (w : Setting) (g : Function) (ss : List Statement) (chain : List ℕ) → Stands trees g.file ss → Contains (uses ss) (Defined g.definition chain)
    → Agree trees w g.file chain (Some g.frame) (make (cell.Func g)) (make (cell.Func g))
unfolding make
made_function trees w g ss chain stands h = record {
  holds = λ s fit fits. (refl, (carries_made s (cell.Func g), fit_made trees w s g (carries_made s (cell.Func g)) fit (record { statements = ss; chain = chain; stands = stands; is_there = h; fits = fits })));
}

pub agree_function : (trees : Trees) (w : Setting) (line cost : ℕ) (g : Function) (ss : List Statement) (chain : List ℕ) → Stands trees g.file ss → Contains (uses ss) (Defined g.definition chain)
    → Agree trees w g.file chain (Some g.frame) (build line cost (cell.Func g)) (build line cost (cell.Func g))
unfolding build
agree_function trees w line cost g ss chain stands h = agree_then trees w g.file chain (Some g.frame) _ _ _ _ (agree_quiet trees w g.file chain (Some g.frame) _ (quiet.keeps_pay line cost)) (λ _. made_function trees w g ss chain stands h)
