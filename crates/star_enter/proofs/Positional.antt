-- Positional arguments, of parameters that have names alone.
use Rattle.std.proofs.Common.{◌≡◌, ℕ, Bool, true, false, ◌&&◌, List, [], ◌∷◌, ◌++◌, length, map, Some, None, Result, refl, ap, sym, subst, ◌∙◌, arith}
use Rattle.std.specs.List.{list_all}
use Rattle.std.specs.Option.{option_and_then}
use Rattle.star_store.specs.declared.values.Value.{Value}
use Rattle.star_store.specs.declared.values.Function.{Function}
use Rattle.star_tree.specs.declared.tree.Argument.{Argument}
use Rattle.star_tree.specs.declared.tree.Argument.TheOpen as tree
use Rattle.star_tree.specs.declared.tree.Expression.{Expression}
use Rattle.star_tree.specs.declared.tree.Name.{Name}
use Rattle.star_tree.specs.declared.tree.Parameter.{Parameter}
use Rattle.star_outline.specs.Definitions.{Definition}
use Rattle.star_outline.specs.Syntax.{ArgumentForm, ParameterForm, argument, parameter}
use Rattle.star_meaning.specs.declared.given.Arguments.{Arguments}
use Rattle.star_meaning.specs.declared.given.KeywordArgument.{KeywordArgument}
use Rattle.star_meaning.specs.declared.site.Site.{Site}
use Rattle.star_meaning.specs.Arguments.{EvaluatedArgument, Plain, given, named_of, positional_of, star_of, star_star_of}
use Rattle.star_meaning.specs.Binding.{BindingState, One, also, bound_to, build_arguments, shares, step}
use Rattle.star_meaning.specs.Calls.{Callee, call_node, callee, called, pass, pass_form, run}
use Rattle.star_meaning.specs.Semantics.{Semantics}
use Rattle.star_meaning.specs.Program.{Setting}
use Rattle.star_meaning.specs.Run.{Action, Done, Failed, Outcome, State, and_then, each, give}
use Rattle.star_machine.specs.declared.fault.EvalError.{EvalError}
use Rattle.star_machine.specs.Refines.{Refines}
use Rattle.star_enter.specs.Positional.{FitPositionally, positional, called_positional, called_with, expression_in, expression_of, is_plain, is_plain_form, is_positional, is_positional_form, named_by, positional_arguments}
use Rattle.star_enter.specs.Entering.{entering, framed, left}
use Rattle.star_world.specs.World.{World, semantics, variables}
use Rattle.star_enter.proofs.Entering.{run_is}

both : (a b : Bool) → (a && b) ≡ true → (a ≡ true) × (b ≡ true)
both true b h = (refl, h)
both false b h = cc

-- positional arguments alone
no_star : (vs : List Value) → star_of (map Plain vs) ≡ None
no_star [] = refl
no_star (v ∷ vs) = no_star vs

no_star_star : (vs : List Value) → star_star_of (map Plain vs) ≡ None
no_star_star [] = refl
no_star_star (v ∷ vs) = no_star_star vs

no_names : (vs : List Value) → named_of (map Plain vs) ≡ []
no_names [] = refl
no_names (v ∷ vs) = no_names vs

all_plain : (vs : List Value) → (positional_of (map Plain vs) ++ []) ≡ vs
all_plain [] = refl
all_plain (v ∷ vs) = ap (λ xs. v ∷ xs) (all_plain vs)

given_plain : (w : Setting) (line : ℕ) (vs : List Value) (s : State) → given w line (map Plain vs) s ≡ Done (record { positional = vs; named = [] }) s
unfolding given
given_plain w line vs s = simp (no_star vs, no_star_star vs, no_names vs, all_plain vs)

-- positional values are passed as they are
after_both : (o : Outcome (List Value)) (v : Value) (q : Outcome (List EvaluatedArgument)) → q ≡ and_then o (λ vs. give (map Plain vs))
    → and_then q (λ ys. give (Plain v ∷ ys)) ≡ and_then (and_then o (λ vs. give (v ∷ vs))) (λ vs. give (map Plain vs))
after_both (Done vs t) v q h = ap (λ (r : Outcome (List EvaluatedArgument)). and_then r (λ ys. give (Plain v ∷ ys))) h
after_both (Failed e lines) v q h = ap (λ (r : Outcome (List EvaluatedArgument)). and_then r (λ ys. give (Plain v ∷ ys))) h

abbrev value : Semantics → Site → Argument → Action Value
value m p a = m.expr p (expression_of a)

abbrev PassedAlike : Semantics → Site → List Argument → State → Type 0
PassedAlike m p es s = each (pass m p) es s ≡ and_then (each (value m p) es s) (λ vs. give (map Plain vs))

pass_then : (o : Outcome Value) (m : Semantics) (p : Site) (es : List Argument) → ((t : State) → PassedAlike m p es t)
    → and_then (and_then o (λ v. give (Plain v))) (λ y t. and_then (each (pass m p) es t) (λ ys. give (y ∷ ys))) ≡ and_then (and_then o (λ v t. and_then (each (value m p) es t) (λ vs. give (v ∷ vs)))) (λ vs. give (map Plain vs))
pass_then (Done v t) m p es k = after_both (each (value m p) es t) v (each (pass m p) es t) (k t)
pass_then (Failed e lines) m p es k = refl

pass_more : (m : Semantics) (p : Site) (f : ArgumentForm) (es : List Argument) (s : State) → is_positional_form f ≡ true → ((t : State) → PassedAlike m p es t)
    → and_then (pass_form m p f s) (λ y t. and_then (each (pass m p) es t) (λ ys. give (y ∷ ys))) ≡ and_then (and_then (m.expr p (expression_in f) s) (λ v t. and_then (each (value m p) es t) (λ vs. give (v ∷ vs)))) (λ vs. give (map Plain vs))
pass_more m p (tree.Positional e) es s h k = pass_then (m.expr p e s) m p es k
pass_more m p (tree.Named n e) es s h k = cc
pass_more m p (tree.Argument-F.Argument::Star e) es s h k = cc
pass_more m p (tree.Argument-F.Argument::StarStar e) es s h k = cc

passed_alike : (m : Semantics) (p : Site) (es : List Argument) (s : State) → list_all is_positional es ≡ true → PassedAlike m p es s
passed_alike m p [] s h = refl
passed_alike m p (a ∷ es) s h =
    let q = both (is_positional a) (list_all is_positional es) h in
    pass_more m p (argument a) es s q.0 (λ t. passed_alike m p es t q.1)

-- the rest of a call once the value of its callee is known
by_callee : (o : Outcome Callee) (w : Setting) (levels : ℕ) (m : Semantics) (p : Site) (vs : List Value)
    → and_then o (λ c u. and_then (given w p.line (map Plain vs) u) (λ g. called w levels m p c g)) ≡ and_then o (λ c. called w levels m p c (record { positional = vs; named = [] }))
by_callee (Done c u) w levels m p vs = ap (λ (r : Outcome Arguments). and_then r (λ g. called w levels m p c g)) (given_plain w p.line vs u)
by_callee (Failed e lines) w levels m p vs = refl

by_values : (o : Outcome (List Value)) (w : Setting) (levels : ℕ) (m : Semantics) (p : Site) (v : Value)
    → and_then (and_then o (λ vs. give (map Plain vs))) (λ ps t. and_then (callee w p.line v t) (λ c u. and_then (given w p.line ps u) (λ g. called w levels m p c g))) ≡ and_then o (λ vs t. and_then (callee w p.line v t) (λ c. called w levels m p c (record { positional = vs; named = [] })))
by_values (Done vs t) w levels m p v = by_callee (callee w p.line v t) w levels m p vs
by_values (Failed e lines) w levels m p v = refl

positional_is : (w : World) (levels : ℕ) (p : Site) (v : Value) (es : List Argument) (s : State) → list_all is_positional es ≡ true → called_positional w levels p v es s ≡ called_with w levels p v es s
positional_is w levels p v es s h =
    let m = semantics w levels in
    sym (ap (λ (r : Outcome (List EvaluatedArgument)). and_then r (λ ps t. and_then (callee w.setting p.line v t) (λ c u. and_then (given w.setting p.line ps u) (λ g. called w.setting levels m p c g)))) (passed_alike m p es s h)
    ∙ by_values (each (value m p) es s) w.setting levels m p v)

-- the arguments of a positional call
pub call_gives : (w : World) (levels : ℕ) (p : Site) (f : Expression) (es : List Argument) (v : Value) (s u : State) (r : Result Value EvalError) (t : State) → list_all is_positional es ≡ true → (semantics w levels).expr p f s ≡ Done v u
    → Refines (called_positional w levels p v es u) r t → Refines (call_node w.setting levels (semantics w levels) p f es s) r t
call_gives w levels p f es v s u r t h run g =
    let e = ap (λ (o : Outcome Value). and_then o (λ x. called_with w levels p x es)) run in
    subst (λ (o : Outcome Value). Refines o r t) (positional_is w levels p v es u h ∙ sym e) g

-- positional values are the shares of parameters that have names alone
abbrev progress : List Value → List Value → BindingState
progress vs ds = record { by_name = false; positional = vs; defaults = ds }

share_more : (f : ParameterForm) (ps : List Parameter) (v : Value) (vs ds : List Value) → is_plain_form f ≡ true → shares [] [] ps (progress vs ds) ≡ Some (positional_arguments ps vs)
    → option_and_then (λ r. also r.0 (shares [] [] ps r.1)) (step [] [] (progress (v ∷ vs) ds) f) ≡ Some (map (λ x. (x.0, One x.1)) (named_by f v (positional ps vs)))
share_more (tree.Plain n) ps v vs ds h k = ap (also ((n, One v) ∷ [])) k
share_more (tree.Default n e) ps v vs ds h k = cc
share_more (tree.Parameter-F.Parameter::Star n) ps v vs ds h k = cc
share_more tree.BareStar ps v vs ds h k = cc
share_more (tree.Parameter-F.Parameter::StarStar n) ps v vs ds h k = cc

shares_are : (ps : List Parameter) (vs ds : List Value) → list_all is_plain ps ≡ true → length ps ≡ length vs → shares [] [] ps (progress vs ds) ≡ Some (positional_arguments ps vs)
shares_are [] [] ds h k = refl
shares_are [] (v ∷ vs) ds h k = absurd (omega arith)
shares_are (p ∷ ps) [] ds h k = absurd (omega arith)
shares_are (p ∷ ps) (v ∷ vs) ds h k =
    let q = both (is_plain p) (list_all is_plain ps) h in
    let l : length ps ≡ length vs = omega arith in
    share_more (parameter p) ps v vs ds q.0 (shares_are ps vs ds q.1 l)

bound_of : (ps : List Parameter) (ds vs : List Value) (ns : List KeywordArgument) → list_all is_plain ps ≡ true → length ps ≡ length vs → length ns ≡ 0 → bound_to ps ds (record { positional = vs; named = ns }) ≡ Some (positional_arguments ps vs)
unfolding bound_to
bound_of ps ds vs [] h k l = shares_are ps vs ds h k
bound_of ps ds vs (n ∷ ns) h k l = absurd (omega arith)

pub bound_positional : (ps : List Parameter) (ds : List Value) (g : Arguments) → FitPositionally ps g → bound_to ps ds g ≡ Some (positional_arguments ps g.positional)
bound_positional ps ds g h = bound_of ps ds g.positional g.named h.plain h.as_many h.unnamed

-- such shares are the values themselves
pub made_positional : (line : ℕ) (xs : List (Name × Value)) (s : State) → build_arguments line (map (λ x. (x.0, One x.1)) xs) s ≡ Done xs s
unfolding build_arguments
made_positional line [] s = refl
made_positional line (x ∷ xs) s = ap (λ (r : Outcome (List (Name × Value))). and_then r (λ ys. give (x ∷ ys))) (made_positional line xs s)

entered_positional : (w : World) (line file number : ℕ) (parent : Value) (ps : List Parameter) (vs : List Value) (s : State) → entering w line file number parent (positional_arguments ps vs) give s ≡ framed w line file number parent (positional ps vs) give s
entered_positional w line file number parent ps vs s = ap (λ (r : Outcome (List (Name × Value))). and_then r (λ xs. framed w line file number parent xs give)) (made_positional line (positional ps vs) s)

pub run_positional_is : (w : World) (m : Semantics) (p : Site) (f : Function) (d : Definition) (ps : List Parameter) (vs : List Value) (s : State)
    → run (variables w) m p f d (positional_arguments ps vs) s ≡ and_then (framed w p.line f.file f.definition f.frame (positional ps vs) give s) (left m d)
run_positional_is w m p f d ps vs s =
    run_is w m p f d (positional_arguments ps vs) s
    ∙ ap (λ (r : Outcome Site). and_then r (left m d)) (entered_positional w p.line f.file f.definition f.frame ps vs s)
