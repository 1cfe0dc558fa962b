-- Parameters in order, one after another; and the layouts of a program's definitions.
use Rattle.std.proofs.Common.{◌≡◌, ◌<◌, ◌≤◌, ℕ, ◌+◌, List, ◌∷◌, drop, get_or, length, Option, Some, None, Result, Ok, Err, ap, sym, subst, ◌∙◌, ⊎_elim, arith}
use Rattle.std.specs.Prelude.{IfOk, IfSome}
use Rattle.std.specs.BTreeMap.{BTreeMap, IsEmpty, Updates, get}
use Rattle.std.specs.Cmp.{unsigned_tied}
use Rattle.std.specs.Option.{option_map}
use Rattle.std.specs.Ordering.{nat_cmp}
use Rattle.std.proofs.lemmas.Bool.{cases_eq, ne_eqb}
use Rattle.std.proofs.lemmas.Grind.{common_steps}
use Rattle.std.proofs.lemmas.List.{drop_more}
use Rattle.std.proofs.Math.ListN.{drop_of_length-le}
use Rattle.star_tree.specs.declared.tree.Parameter.{Parameter}
use Rattle.star_outline.specs.declared.outline.Definition.{Definition as OneDefinition}
use Rattle.star_scope.specs.declared.program.Program.{Program}
use Rattle.star_outline.specs.Definitions.{Definition, definition_in, definition_of}
use Rattle.star_outline.specs.Names.{Names}
use Rattle.star_outline.specs.Outlines.{names_in}
use Rattle.star_scope.specs.Places.{Spots}
use Rattle.star_scope.specs.Spots.{spot_at}
use Rattle.star_outline.specs.Syntax.{parameter}
use Rattle.star_world.specs.declared.layouts.Cursor.{Cursor}
use Rattle.star_world.specs.Orders.{AreLaidOut, HasLayout, HaveLayouts, InOrder, Layout, MayEnd, StandsAt, after}

-- one parameter more
pub in_order_next : (spots : Spots) (names : Names) (l : Layout) (c next : Cursor) (ps : List Parameter) (i : ℕ) (p : Parameter) → i < length ps → p ≡ get_or ps i p
    → StandsAt spots names l c (parameter p) → next ≡ after c (parameter p) → InOrder spots names l next (drop (i + 1) ps) → InOrder spots names l c (drop i ps)
in_order_next spots names l c next ps i p h e s k more =
    let cut : drop i ps ≡ p ∷ drop (i + 1) ps = drop_more ps i p h ∙ ap (λ q. q ∷ drop (i + 1) ps) (sym e) in
    rw cut (s, subst (λ d. InOrder spots names l d (drop (i + 1) ps)) k more)

-- after the last one
pub in_order_end : (spots : Spots) (names : Names) (l : Layout) (c : Cursor) (ps : List Parameter) (i : ℕ) → length ps ≤ i → c.slot ≡ l.count → MayEnd l c.stage c.slot
    → InOrder spots names l c (drop i ps)
in_order_end spots names l c ps i h e m = rw (drop_of_length-le ps h) (e, m)

some_same : {A : Type 0} (a b : A) → Some a ≡ Some b → a ≡ b
some_same a b h = cc

-- the layout of the definition that is found at a number
has_layout : (p : Program) (number : ℕ) (found : Option OneDefinition) (x : OneDefinition) (o : Option Layout) → option_map definition_of found ≡ definition_in p.definitions number → found ≡ Some x
    → IfSome o (λ l. AreLaidOut (spot_at p.spots) (names_in p.blocks (1 + number)) l x.parameters.now) → IfSome o (HasLayout p number)
has_layout p number found x None h e k = tt
has_layout p number found x (Some l) h e k = λ d there.
    subst (λ (b : Definition). AreLaidOut (spot_at p.spots) (names_in p.blocks (1 + number)) l b.parameters)
    (some_same (definition_of x) d (ap (option_map definition_of) (sym e) ∙ h ∙ there)) k

pub layout_there : {E : Type 0} (p : Program) (number : ℕ) (found : Option OneDefinition) (x : OneDefinition) (r : Result (Option Layout) E) → option_map definition_of found ≡ definition_in p.definitions number → found ≡ Some x
    → IfOk r (λ o. IfSome o (λ l. AreLaidOut (spot_at p.spots) (names_in p.blocks (1 + number)) l x.parameters.now)) → IfOk r (λ o. IfSome o (HasLayout p number))
layout_there p number found x (Ok o) h e k = has_layout p number found x o h e k
layout_there p number found x (Err _) h e k = tt

-- no layouts, and one more
pub layouts_none : (p : Program) (layouts : BTreeMap ℕ Layout) → IsEmpty layouts → HaveLayouts p layouts
layouts_none p layouts h = λ q m e. grind (arith, common_steps, h, e)

pub layouts_more : (p : Program) (old new : BTreeMap ℕ Layout) (number : ℕ) (l : Layout) → HaveLayouts p old → HasLayout p number l → Updates nat_cmp old new number (Some l) → HaveLayouts p new
layouts_more p old new number l h k u = λ q m e.
    ⊎_elim
    (λ (same : number ≡ q). subst (λ b. HasLayout p b m) same (subst (HasLayout p number) (some_same l m (sym u.1 ∙ ap (get nat_cmp new) same ∙ e)) k))
    (λ (apart : number ≡ q → ⊥). h q m (sym (u.2 q (unsigned_tied number q ∙ ne_eqb number q apart)) ∙ e))
    (cases_eq number q)
