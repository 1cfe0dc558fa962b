-- A name that is read, or bound, by its place is read and bound as by its name, in every chain of frames that fits the
-- blocks around it.
use Rattle.std.proofs.Common.{◌≡◌, ◌≤◌, ◌<◌, ℕ, zero, suc, ◌+◌, Bool, true, false, not, ◌&&◌, List, [], ◌∷◌, ◌++◌, Option, Some, None, length, refl, ap, sym, ◌∙◌, subst, arith, if◌then◌else◌, nat_eq, ◌||◌, map}
use Rattle.std.specs.Prelude.{slice_get}
use Rattle.std.specs.Option.{option_and_then}
use Rattle.std.proofs.lemmas.List.{map-append}
use Rattle.std.proofs.lemmas.List.Quantifiers.{position-Some}
use Rattle.std.proofs.lemmas.Option.{slice_get-get_or}
use Rattle.star_store.specs.declared.values.Value.{Value}
use Rattle.star_store.specs.declared.values.Cell.TheVariants as cell
use Rattle.star_store.specs.declared.values.Frame.{Frame}
use Rattle.star_store.specs.Store.{global_of}
use Rattle.star_dialect.specs.declared.Dialect.{Dialect}
use Rattle.star_dialect.specs.declared.Dialect.TheVariants as dialect
use Rattle.star_dialect.specs.declared.Language.{Language}
use Rattle.star_scope.specs.declared.spot.Spot.{Spot}
use Rattle.star_scope.specs.declared.spot.Spot.TheVariants as spot
use Rattle.star_outline.specs.Names.{Names, same_name, slot_of, has_name}
use Rattle.star_outline.specs.declared.blocks.Block.{Block}
use Rattle.star_outline.specs.Outlines.{names_in}
use Rattle.star_scope.specs.Places.{IsPlaced, Outer, chain_length, or_further, spot_in, outside_spot, outermost_names, own_names}
use Rattle.star_scope.specs.Uses.{Named}
use Rattle.star_tree.specs.declared.tree.Name.{Name}
use Rattle.star_scope.specs.Places as scope
use Rattle.star_meaning.specs.declared.fault.FaultCode.TheVariants as code
use Rattle.star_meaning.specs.declared.site.Site.{Site}
use Rattle.star_meaning.specs.Run.{State, found}
use Rattle.star_meaning.specs.Program.{Setting, names_of, blocks_of, published_of, seen}
use Rattle.star_meaning.specs.Variables.{frame_of, in_frame, bind_at, bind_name, else_in, nearest, keyword_slot, read_name, read_found, outside, outside_prelude, own_values, prelude_has, outermost, recorded_from}
use Rattle.star_meaning.specs.Places.{Tables, SpotsMeanNames, bind_spot, frame_above, own_spot, read_spot, slot_in, joined, at_spot, outer_names, outer_at, FitsBlock, FitsChain}

-- the frame that a value leads to
abbrev framed : Setting → State → Option Value → Option Frame
framed w s frame = option_and_then (λ v. frame_of (seen w s v)) frame

abbrev around : Option Frame → Option Value
around f = option_and_then (λ f. f.parent) f

-- without a frame nothing is found
nearest_none : (w : Setting) (s : State) (name : List ℕ) (n : ℕ) → nearest w s name n None ≡ None
nearest_none w s name zero = refl
nearest_none w s name (suc n) = nearest_none w s name n

-- a frame is framed
is_framed : (w : Setting) (s : State) (frame : Option Value) (v : Value) (f : Frame) → frame ≡ Some v → seen w s v ≡ Some (cell.Frame f) → framed w s frame ≡ Some f
is_framed w s frame v f a b = ap (framed w s) a ∙ ap frame_of b

nearest_next : (w : Setting) (s : State) (name : List ℕ) (n : ℕ) (frame : Option Value) (f : Frame) → framed w s frame ≡ Some f
    → nearest w s name (suc n) frame ≡ else_in (in_frame w name f) (nearest w s name n f.parent)
nearest_next w s name n frame f h = ap (λ x. else_in (option_and_then (in_frame w name) x) (nearest w s name n (around x))) h

above_suc : (w : Setting) (s : State) (up : ℕ) (frame : Option Value) → frame_above w s (suc up) frame ≡ around (framed w s (frame_above w s up frame))
above_suc w s zero frame = refl
above_suc w s (suc up) frame = above_suc w s up (around (framed w s frame))

above_next : (w : Setting) (s : State) (up : ℕ) (frame : Option Value) → frame_above w s (up + 1) frame ≡ around (framed w s (frame_above w s up frame))
above_next w s up frame = ap (λ k. frame_above w s k frame) (let e : up + 1 ≡ suc up = omega arith in e) ∙ above_suc w s up frame

-- a frame that fits a block has a slot for each of its names
has_slot : (names : Names) (name : List ℕ) (slots : List (Option Value)) (i : ℕ) → length slots ≡ length names → slot_of name names ≡ Some i → (v : Option Value) × (slice_get slots i ≡ Some v)
has_slot names name slots i h e =
    let there : i < length names = (position-Some (same_name name) names i [] e).0 in
    let within : i < length slots = subst (λ k. i < k) (sym h) there in
    (_, slice_get-get_or slots i None within)

-- the names of a frame's block
in_block : (w : Setting) (file b : ℕ) (name : List ℕ) (f : Frame) → FitsBlock w file b f → in_frame w name f ≡ option_and_then (λ i. slice_get f.slots i) (slot_of name (names_in (blocks_of w file) b))
in_block w file b name f h =
    ap (λ k. option_and_then (λ i. slice_get f.slots i) (slot_of name (names_of w k f.block))) h.file_is
    ∙ ap (λ k. option_and_then (λ i. slice_get f.slots i) (slot_of name (names_of w file k))) h.block_is

-- ---- outside of the file

swap_nats : (x y : ℕ) → nat_eq x y ≡ nat_eq y x
swap_nats x y = grind arith

swap_names : (a b : List ℕ) → same_name a b ≡ same_name b a
swap_names [] [] = refl
swap_names [] (y ∷ ys) = refl
swap_names (x ∷ xs) [] = refl
swap_names (x ∷ xs) (y ∷ ys) = ap (λ b. b && same_name xs ys) (swap_nats x y) ∙ ap (λ b. nat_eq y x && b) (swap_names xs ys)

neither : {A : Type 0} (b c : Bool) (v : A) (rest : Option A) → (b || c) ≡ false → (c ≡ false → rest ≡ None) → (if b then Some v else rest) ≡ None
neither true c v rest h k = absurd cc
neither false c v rest h k = k h

no_global_in : (gs : List (List ℕ × Value)) (name : List ℕ) → has_name (map (λ g. g.0) gs) name ≡ false → global_of name gs ≡ None
no_global_in [] name h = refl
no_global_in (g ∷ gs) name h = neither (same_name g.0 name) (has_name (map (λ g. g.0) gs) name) g.1 (global_of name gs) (ap (λ b. b || has_name (map (λ g. g.0) gs) name) (swap_names g.0 name) ∙ h) (no_global_in gs name)

-- a name that the outermost block does not have has no value there
own_is : (d : Dialect) → map (λ g. g.0) (own_values d) ≡ own_names d
own_is dialect.Core = refl
own_is dialect.Extended = refl

recorded_is : (i : ℕ) (ns : List (List ℕ)) → map (λ g. g.0) (recorded_from i ns) ≡ ns
recorded_is i [] = refl
recorded_is i (n ∷ ns) = ap (λ ms. n ∷ ms) (recorded_is (i + 1) ns)

outermost_is : (l : Language) → map (λ g. g.0) (outermost l) ≡ outermost_names l
outermost_is l =
    map-append (λ (g : List ℕ × Value). g.0) (own_values l.dialect) (recorded_from 0 l.recorded)
    ∙ ap (λ ns. ns ++ map (λ g. g.0) (recorded_from 0 l.recorded)) (own_is l.dialect)
    ∙ ap (λ ns. own_names l.dialect ++ ns) (recorded_is 0 l.recorded)

no_global : (l : Language) (name : List ℕ) → has_name (outermost_names l) name ≡ false → global_of name (outermost l) ≡ None
no_global l name h = no_global_in (outermost l) name (ap (λ ns. has_name ns name) (outermost_is l) ∙ h)

at_outermost : (w : Setting) (s : State) (p : Site) (name : List ℕ) (b : Bool) → has_name (outermost_names w.language) name ≡ b
    → at_spot w s p name (if b then Some spot.Outermost else None) ≡ global_of name (outermost w.language)
at_outermost w s p name true h = refl
at_outermost w s p name false h = sym (no_global w.language name h)

at_outermost_now : (w : Setting) (s : State) (p : Site) (name : List ℕ) → at_spot w s p name (if has_name (outermost_names w.language) name then Some spot.Outermost else None) ≡ global_of name (outermost w.language)
at_outermost_now w s p name = at_outermost w s p name (has_name (outermost_names w.language) name) refl

-- the prelude's names, with its published values
in_prelude : (w : Setting) (s : State) (p : Site) (name : List ℕ) (q : ℕ) (b : Bool) → w.prelude ≡ Some q
    → (if b then found code.Unbound p.line (option_and_then (λ x. global_of name x.globals) (published_of w q)) else outside_prelude w.language p.line name)
    ≡ found code.Unbound p.line (at_spot w s p name (if b then Some spot.Prelude else if has_name (outermost_names w.language) name then Some spot.Outermost else None))
in_prelude w s p name q true e = ap (λ o. found code.Unbound p.line (option_and_then (λ x. global_of name x.globals) (option_and_then (published_of w) o))) (sym e)
in_prelude w s p name q false e = ap (found code.Unbound p.line) (sym (at_outermost_now w s p name))

outside_own : (w : Setting) (s : State) (p : Site) (name : List ℕ) (q : ℕ) (own : Bool) → w.prelude ≡ Some q
    → (if not own && prelude_has w name q then found code.Unbound p.line (option_and_then (λ x. global_of name x.globals) (published_of w q)) else outside_prelude w.language p.line name)
    ≡ found code.Unbound p.line (at_spot w s p name (outside_spot (record { names = if own then None else Some (names_of w q 0); language = w.language }) name))
outside_own w s p name q true e = ap (found code.Unbound p.line) (sym (at_outermost_now w s p name))
outside_own w s p name q false e = in_prelude w s p name q (prelude_has w name q) e

outside_by : (w : Setting) (s : State) (p : Site) (name : List ℕ) (o : Option ℕ) → w.prelude ≡ o
    → outside w o p.file p.line name ≡ found code.Unbound p.line (at_spot w s p name (outside_spot (record { names = outer_names w p.file o; language = w.language }) name))
outside_by w s p name None e = ap (found code.Unbound p.line) (sym (at_outermost_now w s p name))
outside_by w s p name (Some q) e = outside_own w s p name q (nat_eq q p.file) e

-- ---- in a chain

-- if a block has the name
at_slot : (w : Setting) (s : State) (p : Site) (name : List ℕ) (names : Names) (f : Frame) (up : ℕ) (o : Option ℕ) (rest : Option (Option Value)) (further : Option Spot)
    → length f.slots ≡ length names
    → slot_of name names ≡ o
    → framed w s (frame_above w s up (Some p.frame)) ≡ Some f
    → read_found w p name rest ≡ found code.Unbound p.line (at_spot w s p name further)
    → read_found w p name (else_in (option_and_then (λ i. slice_get f.slots i) o) rest) ≡ found code.Unbound p.line (at_spot w s p name (or_further up o further))
at_slot w s p name names f up None rest further h e g k = k
at_slot w s p name names f up (Some i) rest further h e g k =
    let there : (v : Option Value) × (slice_get f.slots i ≡ Some v) = has_slot names name f.slots i h e in
    let here : slot_in w s i (frame_above w s up (Some p.frame)) ≡ Some there.0 = ap (option_and_then (λ x. slice_get x.slots i)) g ∙ there.1 in
    ap (λ r. read_found w p name (else_in r rest)) there.1 ∙ sym (ap (λ r. found code.Unbound p.line (joined r)) here)

read_in : (w : Setting) (s : State) (p : Site) (name : List ℕ) (chain : List ℕ) (n up : ℕ) (frame : Option Value)
    → frame_above w s up (Some p.frame) ≡ frame → FitsChain w s p.file chain frame → length chain ≤ n
    → read_found w p name (nearest w s name n frame) ≡ found code.Unbound p.line (at_spot w s p name (spot_in (blocks_of w p.file) (outer_at w p.file) name up chain))
read_in w s p name [] n up frame a h l =
    ap (read_found w p name) (ap (nearest w s name n) h ∙ nearest_none w s name n) ∙ outside_by w s p name w.prelude refl
read_in w s p name (b ∷ bs) zero up frame a h l = absurd (omega (arith, l))
read_in w s p name (b ∷ bs) (suc n) up frame a h l =
    let f : Frame = h.1 in
    let here : framed w s frame ≡ Some f = is_framed w s frame h.0 f h.2 h.3 in
    let above : framed w s (frame_above w s up (Some p.frame)) ≡ Some f = ap (framed w s) a ∙ here in
    let next : frame_above w s (up + 1) (Some p.frame) ≡ f.parent = above_next w s up (Some p.frame) ∙ ap around above in
    let step : nearest w s name (suc n) frame ≡ else_in (option_and_then (λ i. slice_get f.slots i) (slot_of name (names_in (blocks_of w p.file) b))) (nearest w s name n f.parent) =
    nearest_next w s name n frame f here ∙ ap (λ x. else_in x (nearest w s name n f.parent)) (in_block w p.file b name f h.4) in
    ap (read_found w p name) step
    ∙ at_slot w s p name (names_in (blocks_of w p.file) b) f up (slot_of name (names_in (blocks_of w p.file) b)) (nearest w s name n f.parent) (spot_in (blocks_of w p.file) (outer_at w p.file) name (up + 1) bs)
    h.4.slots_are refl above (read_in w s p name bs n (up + 1) f.parent next h.5 (omega (arith, l)))

-- ---- binding

own_above : (slot up k : ℕ) → up ≡ suc k → own_spot (Some (spot.Frame up slot)) ≡ None
own_above slot up k e = ap (λ u. own_spot (Some (spot.Frame u slot))) e

own_outside : (a b : Bool) → own_spot (if a then Some spot.Prelude else if b then Some spot.Outermost else None) ≡ None
own_outside true b = refl
own_outside false true = refl
own_outside false false = refl

own_or : (up k : ℕ) (o : Option ℕ) (further : Option Spot) → up ≡ suc k → own_spot further ≡ None → own_spot (or_further up o further) ≡ None
own_or up k None further e h = h
own_or up k (Some slot) further e h = own_above slot up k e

-- a spot that is found further out is not in the innermost frame
own_further : (blocks : List Block) (outer : Outer) (name : List ℕ) (chain : List ℕ) (up k : ℕ) → up ≡ suc k → own_spot (spot_in blocks outer name up chain) ≡ None
own_further blocks outer name [] up k e = own_outside (scope.prelude_has outer.names name) (has_name (outermost_names outer.language) name)
own_further blocks outer name (b ∷ bs) up k e = own_or up k (slot_of name (names_in blocks b)) (spot_in blocks outer name (up + 1) bs) e (own_further blocks outer name bs (up + 1) up (omega arith))

own_first : (o : Option ℕ) (further : Option Spot) → own_spot further ≡ None → own_spot (or_further 0 o further) ≡ o
own_first None further h = h
own_first (Some slot) further h = refl

bind_in : (w : Setting) (s : State) (p : Site) (name : List ℕ) (chain : List ℕ) → FitsChain w s p.file chain (Some p.frame)
    → own_spot (spot_in (blocks_of w p.file) (outer_at w p.file) name 0 chain) ≡ keyword_slot w s p.frame name
bind_in w s p name [] h = absurd cc
bind_in w s p name (b ∷ bs) h =
    let f : Frame = h.1 in
    let here : frame_of (seen w s p.frame) ≡ Some f = is_framed w s (Some p.frame) h.0 f h.2 h.3 in
    let names : names_of w f.file f.block ≡ names_in (blocks_of w p.file) b = ap (λ k. names_of w k f.block) h.4.file_is ∙ ap (names_of w p.file) h.4.block_is in
    let own : keyword_slot w s p.frame name ≡ slot_of name (names_in (blocks_of w p.file) b) = ap (option_and_then (λ x. slot_of name (names_of w x.file x.block))) here ∙ ap (slot_of name) names in
    own_first (slot_of name (names_in (blocks_of w p.file) b)) _ (own_further (blocks_of w p.file) (outer_at w p.file) name bs (0 + 1) 0 (omega arith)) ∙ sym own

-- ---- the law

reads : (tables : Tables) (w : Setting) (p : Site) (n : Name) (chain : List ℕ) (s : State)
    → IsPlaced (tables.spots p.file) (blocks_of w p.file) (outer_at w p.file) (Named n chain) → FitsChain w s p.file chain (Some p.frame)
    → read_spot tables w p n s ≡ read_name w p n s
unfolding read_spot read_name
reads tables w p n chain s placed fits =
    ap (λ x. found code.Unbound p.line (at_spot w s p n.text x) s) placed.1
    ∙ sym (ap (λ act. act s) (read_in w s p n.text chain chain_length 0 (Some p.frame) refl fits placed.0))

binds : (tables : Tables) (w : Setting) (p : Site) (n : Name) (chain : List ℕ) (s : State) (v : Value)
    → IsPlaced (tables.spots p.file) (blocks_of w p.file) (outer_at w p.file) (Named n chain) → FitsChain w s p.file chain (Some p.frame)
    → bind_spot tables p n v s ≡ bind_name w p n v s
unfolding bind_spot bind_name
binds tables w p n chain s v placed fits =
    ap (λ x. bind_at p.frame v (own_spot x) s) placed.1
    ∙ ap (λ o. bind_at p.frame v o s) (bind_in w s p n.text chain fits)

pub spots_mean_names : SpotsMeanNames
spots_mean_names tables w p n chain s placed fits = (reads tables w p n chain s placed fits, λ v. binds tables w p n chain s v placed fits)
