-- Variables over both shelves: the same frames, and what is read from them is visible.
use Rattle.std.proofs.Common.{◌≡◌, ℕ, zero, suc, ◌+◌, List, [], ◌∷◌, ◌++◌, length, replicate, map, Option, Some, None, Bool, true, false, not, ◌&&◌, nat_eq, if◌then◌else◌, slice_get, refl, ap, subst, ◌∙◌}
use Rattle.std.specs.Cmp.Lexicographic.{pointwise}
use Rattle.std.specs.List.{list_any}
use Rattle.std.specs.Option.{option_and_then}
use Rattle.star_store.specs.declared.names.BuiltIn.{BuiltIn}
use Rattle.star_store.specs.declared.values.Cell.{Cell}
use Rattle.star_store.specs.declared.values.Cell.TheVariants as cell
use Rattle.star_store.specs.declared.values.Frame.{Frame}
use Rattle.star_store.specs.declared.values.Value.{Value}
use Rattle.star_store.specs.declared.values.Value.TheVariants as value
use Rattle.star_dialect.specs.declared.Language.{Language}
use Rattle.star_store.specs.Names.{built_in_name}
use Rattle.star_store.specs.Store.{global_of}
use Rattle.star_tree.specs.declared.tree.Name.{Name}
use Rattle.star_scope.specs.Loads.{is_private}
use Rattle.star_scope.specs.Places.{chain_length}
use Rattle.star_outline.specs.Names.{same_name, slot_of}
use Rattle.star_outline.specs.Outlines.{names_in}
use Rattle.star_meaning.specs.declared.fault.FaultCode.TheVariants as code
use Rattle.star_meaning.specs.declared.site.Site.{Site}
use Rattle.star_meaning.specs.Run.{State, found, make}
use Rattle.star_meaning.specs.Program.{Setting, blocks_in, names_of, published_of, seen}
use Rattle.star_meaning.specs.Variables.{bind_at, bind_name, built_ins, else_in, frame_of, in_frame, keyword_slot, nearest, new_frame, outermost, outside, outside_prelude, own_values, recorded_from, prelude_has, read_found, read_name}
use Rattle.star_unseen.specs.Veil.{CellIsVisible, Every, FileIsVisible, Hides, IsVisible, Maybe, VisibleIfThere, StateIsVisible}
use Rattle.star_unseen.specs.Shelves.{IsShared, Veil, with_other}
use Rattle.star_unseen.proofs.Rows.{every_get, every_replicate, maybe_then}
use Rattle.star_unseen.proofs.Looks.{visible_seen, same_seen}
use Rattle.star_unseen.proofs.Visible.{SiteIsVisible}
use Rattle.star_unseen.proofs.Alike.{Alike, Any, alike_bound, alike_finds, alike_found, alike_give, alike_if, alike_make, alike_seeing}

-- ---- frames

-- the names of a block of a file that is not hidden
pub same-names_of : {w : Setting} (k : Veil w) (file number : ℕ) → FileIsVisible k.hides file → names_of w file number ≡ names_of (with_other k.other w) file number
same-names_of k file number h = ap (λ o. names_in (blocks_in o) number) (k.outline file h)

abbrev pub FrameIsVisible : Hides → Frame → Type 0
FrameIsVisible hides f = VisibleIfThere hides f.parent × Every (VisibleIfThere hides) f.slots × FileIsVisible hides f.file

frame_visible : (hides : Hides) (o : Option Cell) → Maybe (CellIsVisible hides) o → Maybe (FrameIsVisible hides) (frame_of o)
frame_visible hides None h = tt
frame_visible hides (Some (cell.Frame f)) h = h
frame_visible hides (Some (cell.Text t)) h = tt
frame_visible hides (Some (cell.Range r)) h = tt
frame_visible hides (Some (cell.Tuple xs)) h = tt
frame_visible hides (Some (cell.List xs)) h = tt
frame_visible hides (Some (cell.Dict es)) h = tt
frame_visible hides (Some (cell.Set es)) h = tt
frame_visible hides (Some (cell.Func f)) h = tt
frame_visible hides (Some (cell.Bound m v)) h = tt
frame_visible hides (Some (cell.Struct fs)) h = tt

pub visible-frame_of : {w : Setting} (k : Veil w) (s : State) (v : Value) → StateIsVisible k.hides w.home s → IsVisible k.hides v → Maybe (FrameIsVisible k.hides) (frame_of (seen w s v))
visible-frame_of {w = w} k s v c h = frame_visible k.hides (seen w s v) (visible_seen k s v c h)

pub same-frame_of : {w : Setting} (k : Veil w) (s : State) (v : Value) → IsVisible k.hides v → frame_of (seen w s v) ≡ frame_of (seen (with_other k.other w) s v)
same-frame_of k s v h = ap frame_of (same_seen k s v h)

slot_visible : (hides : Hides) (slots : List (Option Value)) → Every (VisibleIfThere hides) slots → (o : Option ℕ) → Maybe (VisibleIfThere hides) (option_and_then (λ i. slice_get slots i) o)
slot_visible hides slots h None = tt
slot_visible hides slots h (Some i) = every_get (VisibleIfThere hides) slots i h

pub visible-in_frame : {w : Setting} (k : Veil w) (name : List ℕ) (f : Frame) → FrameIsVisible k.hides f → Maybe (VisibleIfThere k.hides) (in_frame w name f)
visible-in_frame {w = w} k name f h = slot_visible k.hides f.slots h.1 (slot_of name (names_of w f.file f.block))

pub same-in_frame : {w : Setting} (k : Veil w) (name : List ℕ) (f : Frame) → FrameIsVisible k.hides f → in_frame w name f ≡ in_frame (with_other k.other w) name f
same-in_frame k name f h = ap (λ names. option_and_then (λ i. slice_get f.slots i) (slot_of name names)) (same-names_of k f.file f.block h.2)

-- .. of the frame that may be there
same_inside : {w : Setting} (k : Veil w) (name : List ℕ) (o : Option Frame) → Maybe (FrameIsVisible k.hides) o → option_and_then (in_frame w name) o ≡ option_and_then (in_frame (with_other k.other w) name) o
same_inside k name None h = refl
same_inside k name (Some f) h = same-in_frame k name f h

-- the frame that a value leads to, if it is there
abbrev frame_at : Setting → State → Option Value → Option Frame
frame_at w s frame = option_and_then (λ v. frame_of (seen w s v)) frame

abbrev parent_of : Option Frame → Option Value
parent_of o = option_and_then (λ f. f.parent) o

visible_at : {w : Setting} (k : Veil w) (s : State) (frame : Option Value) → StateIsVisible k.hides w.home s → VisibleIfThere k.hides frame → Maybe (FrameIsVisible k.hides) (frame_at w s frame)
visible_at k s None c h = tt
visible_at k s (Some v) c h = visible-frame_of k s v c h

same_at : {w : Setting} (k : Veil w) (s : State) (frame : Option Value) → VisibleIfThere k.hides frame → frame_at w s frame ≡ frame_at (with_other k.other w) s frame
same_at k s None h = refl
same_at k s (Some v) h = same-frame_of k s v h

parent_visible : (hides : Hides) (o : Option Frame) → Maybe (FrameIsVisible hides) o → VisibleIfThere hides (parent_of o)
parent_visible hides None h = tt
parent_visible hides (Some f) h = h.0

else_visible : (hides : Hides) (o p : Option (Option Value)) → Maybe (VisibleIfThere hides) o → Maybe (VisibleIfThere hides) p → Maybe (VisibleIfThere hides) (else_in o p)
else_visible hides None p h k = k
else_visible hides (Some v) p h k = h

pub same-nearest : {w : Setting} (k : Veil w) (s : State) (name : List ℕ) (n : ℕ) (frame : Option Value) → StateIsVisible k.hides w.home s → VisibleIfThere k.hides frame → nearest w s name n frame ≡ nearest (with_other k.other w) s name n frame
same-nearest k s name zero frame c h = refl
same-nearest {w = w} k s name (suc n) frame c h =
    ap (λ r. else_in (option_and_then (in_frame w name) (frame_at w s frame)) r) (same-nearest k s name n (parent_of (frame_at w s frame)) c (parent_visible k.hides _ (visible_at k s frame c h)))
    ∙ ap (λ r. else_in r (nearest (with_other k.other w) s name n (parent_of (frame_at w s frame)))) (same_inside k name (frame_at w s frame) (visible_at k s frame c h))
    ∙ ap (λ o. else_in (option_and_then (in_frame (with_other k.other w) name) o) (nearest (with_other k.other w) s name n (parent_of o))) (same_at k s frame h)

pub visible-nearest : {w : Setting} (k : Veil w) (s : State) (name : List ℕ) (n : ℕ) (frame : Option Value) → StateIsVisible k.hides w.home s → VisibleIfThere k.hides frame → Maybe (VisibleIfThere k.hides) (nearest w s name n frame)
visible-nearest k s name zero frame c h = tt
visible-nearest {w = w} k s name (suc n) frame c h =
    let f : Maybe (FrameIsVisible k.hides) (frame_at w s frame) = visible_at k s frame c h in
    else_visible k.hides _ _ (maybe_then (FrameIsVisible k.hides) (VisibleIfThere k.hides) (in_frame w name) (λ g i. visible-in_frame k name g i) (frame_at w s frame) f)
    (visible-nearest k s name n (parent_of (frame_at w s frame)) c (parent_visible k.hides _ f))

-- ---- the outermost block, and the prelude

-- what is known of what is there
pub if_there : {A : Type 0} (P : A → Type 0) (o : Option A) → ((x : A) → o ≡ Some x → P x) → Maybe P o
if_there P None h = tt
if_there P (Some x) h = h x refl

abbrev pub GlobalsAreVisible : Hides → List (List ℕ × Value) → Type 0
GlobalsAreVisible hides = Every (λ g. IsVisible hides g.1)

global_if : (hides : Hides) (b : Bool) (v : Value) (o : Option Value) → IsVisible hides v → VisibleIfThere hides o → VisibleIfThere hides (if b then Some v else o)
global_if hides true v o h k = h
global_if hides false v o h k = k

pub visible-global_of : (hides : Hides) (name : List ℕ) (gs : List (List ℕ × Value)) → GlobalsAreVisible hides gs → VisibleIfThere hides (global_of name gs)
visible-global_of hides name [] h = tt
visible-global_of hides name (g ∷ gs) h = global_if hides (pointwise nat_eq g.0 name) g.1 (global_of name gs) h.0 (visible-global_of hides name gs h.1)

every_built_in : {w : Setting} (k : Veil w) (bs : List BuiltIn) → GlobalsAreVisible k.hides (map (λ b. (built_in_name b, value.Builtin b)) bs)
every_built_in k [] = tt
every_built_in k (b ∷ bs) = (tt, every_built_in k bs)

every_recorded : {w : Setting} (k : Veil w) (i : ℕ) (ns : List (List ℕ)) → GlobalsAreVisible k.hides (recorded_from i ns)
every_recorded k i [] = tt
every_recorded k i (n ∷ ns) = (tt, every_recorded k (i + 1) ns)

both_visible : (hides : Hides) (gs hs : List (List ℕ × Value)) → GlobalsAreVisible hides gs → GlobalsAreVisible hides hs → GlobalsAreVisible hides (gs ++ hs)
both_visible hides [] hs v w = w
both_visible hides (g ∷ gs) hs v w = (v.0, both_visible hides gs hs v.1 w)

pub visible-outermost : {w : Setting} (k : Veil w) (l : Language) → GlobalsAreVisible k.hides (outermost l)
visible-outermost k l =
    both_visible k.hides (own_values l.dialect) (recorded_from 0 l.recorded) (tt, (tt, (tt, every_built_in k (built_ins l.dialect)))) (every_recorded k 0 l.recorded)

pub alike-outside_prelude : {w : Setting} (k : Veil w) (d : Language) (line : ℕ) (name : List ℕ) → Alike k (IsVisible k.hides) (outside_prelude d line name) (outside_prelude d line name)
alike-outside_prelude k d line name = alike_found (IsVisible k.hides) code.Unbound line (global_of name (outermost d)) (visible-global_of k.hides name (outermost d) (visible-outermost k d))

same_prelude : {w : Setting} (k : Veil w) (name : List ℕ) (file : ℕ) → FileIsVisible k.hides file → prelude_has w name file ≡ prelude_has (with_other k.other w) name file
same_prelude k name file h = ap (λ names. not (is_private name) && list_any (same_name name) names) (same-names_of k file 0 h)

pub alike-outside : {w : Setting} (k : Veil w) (prelude : Option ℕ) (file line : ℕ) (name : List ℕ) → Maybe (FileIsVisible k.hides) prelude → IsShared k prelude name → Alike k (IsVisible k.hides) (outside w prelude file line name) (outside (with_other k.other w) prelude file line name)
alike-outside {w = w} k None file line name c h = alike-outside_prelude k w.language line name
alike-outside {w = w} k (Some prelude) file line name c h =
    subst (λ b. Alike k (IsVisible k.hides) (outside w (Some prelude) file line name)
    (if not (nat_eq prelude file) && b then found code.Unbound line (option_and_then (λ p. global_of name p.globals) (published_of (with_other k.other w) prelude)) else outside_prelude w.language line name)) (same_prelude k name prelude c)
    (alike_if (IsVisible k.hides) (not (nat_eq prelude file) && prelude_has w name prelude) _ _ _ _
    (alike_finds (IsVisible k.hides) code.Unbound line _ _ h.0 h.1)
    (alike-outside_prelude k w.language line name))

-- ---- reading and binding

pub alike-read_found : {w : Setting} (k : Veil w) (p : Site) (name : List ℕ) (o : Option (Option Value)) → SiteIsVisible k.hides p → Maybe (VisibleIfThere k.hides) o → Alike k (IsVisible k.hides) (read_found w p name o) (read_found (with_other k.other w) p name o)
alike-read_found k p name (Some v) h c = alike_found (IsVisible k.hides) code.Unbound p.line v c
alike-read_found {w = w} k p name None h c = alike-outside k w.prelude p.file p.line name (if_there (FileIsVisible k.hides) w.prelude k.prelude_file) (k.prelude name)

pub alike-read_name : {w : Setting} (k : Veil w) (p : Site) (n : Name) → SiteIsVisible k.hides p → Alike k (IsVisible k.hides) (read_name w p n) (read_name (with_other k.other w) p n)
unfolding read_name
alike-read_name {w = w} k p n h = alike_seeing (IsVisible k.hides) _ _ (λ s c.
    subst (λ o. Alike k (IsVisible k.hides) (read_found w p n.text (nearest w s n.text chain_length (Some p.frame))) (read_found (with_other k.other w) p n.text o)) (same-nearest k s n.text chain_length (Some p.frame) c h.0)
    (alike-read_found k p n.text (nearest w s n.text chain_length (Some p.frame)) h (visible-nearest k s n.text chain_length (Some p.frame) c h.0)))

same_slot : {w : Setting} (k : Veil w) (name : List ℕ) (o : Option Frame) → Maybe (FrameIsVisible k.hides) o → option_and_then (λ f. slot_of name (names_of w f.file f.block)) o ≡ option_and_then (λ f. slot_of name (names_of (with_other k.other w) f.file f.block)) o
same_slot k name None h = refl
same_slot k name (Some f) h = ap (slot_of name) (same-names_of k f.file f.block h.2)

pub same-keyword_slot : {w : Setting} (k : Veil w) (s : State) (frame : Value) (name : List ℕ) → StateIsVisible k.hides w.home s → IsVisible k.hides frame → keyword_slot w s frame name ≡ keyword_slot (with_other k.other w) s frame name
same-keyword_slot {w = w} k s frame name c h =
    same_slot k name (frame_of (seen w s frame)) (visible-frame_of k s frame c h)
    ∙ ap (λ o. option_and_then (λ f. slot_of name (names_of (with_other k.other w) f.file f.block)) o) (same-frame_of k s frame h)

pub alike-bind_at : {w : Setting} (k : Veil w) (frame v : Value) (o : Option ℕ) → IsVisible k.hides frame → IsVisible k.hides v → Alike k Any (bind_at frame v o) (bind_at frame v o)
alike-bind_at k frame v None h c = alike_give {A = Unit {0}} Any tt tt
alike-bind_at k frame v (Some i) h c = alike_bound frame i v c

pub alike-bind_name : {w : Setting} (k : Veil w) (p : Site) (n : Name) (v : Value) → SiteIsVisible k.hides p → IsVisible k.hides v → Alike k Any (bind_name w p n v) (bind_name (with_other k.other w) p n v)
unfolding bind_name
alike-bind_name {w = w} k p n v h c = alike_seeing Any _ _ (λ s i.
    subst (λ o. Alike k Any (bind_at p.frame v (keyword_slot w s p.frame n.text)) (bind_at p.frame v o)) (same-keyword_slot k s p.frame n.text i h.0)
    (alike-bind_at k p.frame v (keyword_slot w s p.frame n.text) h.0 c))

-- all names of a new frame are unbound
abbrev fresh : ℕ → ℕ → Option Value → ℕ → Cell
fresh file number parent slots = cell.Frame (record { file = file; block = number; parent = parent; slots = replicate slots None })

pub alike-new_frame : {w : Setting} (k : Veil w) (file number : ℕ) (parent : Option Value) → FileIsVisible k.hides file → VisibleIfThere k.hides parent → Alike k (IsVisible k.hides) (new_frame w file number parent) (new_frame (with_other k.other w) file number parent)
unfolding new_frame
alike-new_frame {w = w} k file number parent c h =
    subst (λ names. Alike k (IsVisible k.hides) (make (fresh file number parent (length (names_of w file number)))) (make (fresh file number parent (length names)))) (same-names_of k file number c)
    (alike_make (fresh file number parent (length (names_of w file number))) (h, every_replicate (VisibleIfThere k.hides) (length (names_of w file number)) None tt, c))
