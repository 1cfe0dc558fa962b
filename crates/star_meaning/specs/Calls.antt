-- Calls: the callee, and the run of a function.
use Rattle.std.specs.Prelude.{ℕ, ◌+◌, nat_eq, Bool, true, false, not, ◌&&◌, List, [], ◌∷◌, map, Option, Some, None, codes}
use Rattle.std.specs.List.{list_any}
use Rattle.std.specs.Ordering.{is_lt, is_gt}
use Rattle.std.specs.declared.cmp.Ordering.{Ordering}
use Rattle.star_store.specs.declared.values.Value.{Value}
use Rattle.star_store.specs.declared.values.Value.TheVariants as value
use Rattle.star_store.specs.declared.values.Cell.TheVariants as cell
use Rattle.star_store.specs.declared.values.Function.{Function}
use Rattle.star_store.specs.declared.names.BuiltIn.{BuiltIn}
use Rattle.star_store.specs.declared.names.BuiltIn.TheVariants as built_in
use Rattle.star_store.specs.Names.{is_function}
use Rattle.star_store.specs.declared.names.Method.{Method}
use Rattle.star_tree.specs.declared.tree.Argument.{Argument}
use Rattle.star_tree.specs.declared.tree.Expression.{Expression}
use Rattle.star_tree.specs.declared.tree.Name.{Name}
use Rattle.star_tree.specs.declared.tree.Argument.TheOpen as tree
use Rattle.star_dialect.specs.declared.Dialect.{Dialect}
use Rattle.star_dialect.specs.declared.Dialect.TheVariants as dialect
use Rattle.star_meaning.specs.declared.fault.FaultCode.TheVariants as code
use Rattle.star_meaning.specs.declared.site.Site.{Site}
use Rattle.star_meaning.specs.declared.site.Flow.{Flow}
use Rattle.star_meaning.specs.declared.site.Flow.TheVariants as flow
use Rattle.star_outline.specs.Syntax.{ArgumentForm, argument}
use Rattle.star_meaning.specs.Run.{State, Action, Done, ◌>>=◌, give, fail, pay, check, found, each, all_of, seeing}
use Rattle.star_outline.specs.Definitions.{Definition, Body, Statements, Answer}
use Rattle.star_meaning.specs.Program.{Setting, Variables, definition_of}
use Rattle.star_meaning.specs.Values.{Content, BuiltInFunction, Held, with_content}
use Rattle.star_meaning.specs.declared.given.Arguments.{Arguments}
use Rattle.star_meaning.specs.Arguments.{EvaluatedArgument, Plain, Named, Star, StarStar, given}
use Rattle.star_meaning.specs.BuiltIns.{call_built_in}
use Rattle.star_meaning.specs.Methods.{call_method}
use Rattle.star_meaning.specs.Orders.{asked_for_best, asked_to_sort, best_by, by_itself, is_named, sort_by}
use Rattle.star_meaning.specs.Binding.{BoundArgument, bound_to, build_arguments}
use Rattle.star_meaning.specs.Semantics.{Semantics, block}

-- an argument's value
abbrev pub pass_form : Semantics → Site → ArgumentForm → Action EvaluatedArgument
pass_form m p (tree.Positional e) = m.expr p e >>= λ v. give (Plain v)
pass_form m p (tree.Named n e) = m.expr p e >>= λ v. give (Named n.text v)
pass_form m p (tree.Argument-F.Argument::Star e) = m.expr p e >>= λ v. give (Star v)
pass_form m p (tree.Argument-F.Argument::StarStar e) = m.expr p e >>= λ v. give (StarStar v)

abbrev pub pass : Semantics → Site → Argument → Action EvaluatedArgument
pass m p a = pass_form m p (argument a)

-- a callee
pub data Callee : Type 0 where
  AFunction : Function → Definition → Callee
  ABuiltIn : BuiltIn → Callee
  AMethod : Method → Value → Callee

-- whether a definition is active
abbrev pub is_active : State → Function → Bool
is_active s f = list_any (λ a. nat_eq a.0 f.file && nat_eq a.1 f.definition) s.active

-- a function may be called unless its definition is active: two closures of one definition are the same
abbrev pub function_callee : Setting → ℕ → Function → Action Callee
function_callee w line f = do
  _ ← seeing (λ s. check code.Recursion line (not (is_active s f)))
  d ← found code.BadType line (definition_of w f.file f.definition)
  give (AFunction f d)

abbrev pub callee_of : Setting → ℕ → Content → Action Callee
callee_of w line (Held (cell.Func f)) = function_callee w line f
callee_of w line (BuiltInFunction b) = check code.BadType line (is_function b) >>= λ _. give (ABuiltIn b)
callee_of w line (Held (cell.Bound m x)) = give (AMethod m x)
callee_of w line _ = fail code.BadType line

-- a value that is called: `type` if it is not callable, then `recursion`
unfoldable pub callee : Setting → ℕ → Value → Action Callee
callee w line v = with_content w v (callee_of w line)

-- a plain call with these arguments: a function's are bound, or `args`; then it runs, at a level of its own
abbrev pub called_plainly : Setting → ℕ → Semantics → Site → Callee → Arguments → Action Value
called_plainly w levels m p (AFunction f d) g =
    found code.Args p.line (bound_to d.parameters f.defaults g) >>= m.call p f d
called_plainly w levels m p (ABuiltIn b) g = call_built_in w levels p.line b g
called_plainly w levels m p (AMethod b x) g = call_method w levels p.line b x g

-- the arguments of a call with one value
abbrev pub only : Value → Arguments
only x = record { positional = x ∷ []; named = [] }

-- the key of an item: the answer of a function that is called with it, by all rules of calls
abbrev pub key_of : Setting → ℕ → Semantics → Site → Value → Value → Action Value
key_of w levels m p f x = callee w p.line f >>= λ c. called_plainly w levels m p c (only x)

abbrev pub keyed : Setting → ℕ → Semantics → Site → Value → Value → Action (Value × Value)
keyed w levels m p f x = key_of w levels m p f x >>= λ k. give (k, x)

-- items beside their keys, which are there before any comparison: without a function each is its own key
abbrev pub with_keys : Setting → ℕ → Semantics → Site → Option Value → List Value → Action (List (Value × Value))
with_keys w levels m p None xs = give (map by_itself xs)
with_keys w levels m p (Some f) xs = each (keyed w levels m p f) xs

-- sorted(it, key=None, reverse=False)
abbrev pub sorted_by_key : Setting → ℕ → Semantics → Site → Arguments → Action Value
sorted_by_key w levels m p g = do
  a ← asked_to_sort w p.line g
  ps ← with_keys w levels m p a.1 a.0
  sort_by w levels p.line a.2 ps

-- max(x, .., key=None) and min(x, .., key=None)
abbrev pub best_by_key : Setting → ℕ → Semantics → Site → (Ordering → Bool) → Arguments → Action Value
best_by_key w levels m p better g = do
  a ← asked_for_best w p.line g
  ps ← with_keys w levels m p a.1 a.0
  best_by w levels p.line better ps

-- a call of a built-in function with `key`: `sorted`, `max` and `min` take it
abbrev pub called_by_key : Setting → ℕ → Semantics → Site → BuiltIn → Arguments → Action Value
called_by_key w levels m p built_in.Sorted g = sorted_by_key w levels m p g
called_by_key w levels m p built_in.Max g = best_by_key w levels m p is_gt g
called_by_key w levels m p built_in.Min g = best_by_key w levels m p is_lt g
called_by_key w levels m p b g = call_built_in w levels p.line b g

-- whether there may be a function of `key`: in the extended language, if the name is given
abbrev pub takes_key : Dialect → Arguments → Bool
takes_key dialect.Core g = false
takes_key dialect.Extended g = is_named (codes "key") g.named

-- a call with these arguments
abbrev pub called_built_in : Setting → ℕ → Semantics → Site → BuiltIn → Arguments → Bool → Action Value
called_built_in w levels m p b g true = called_by_key w levels m p b g
called_built_in w levels m p b g false = call_built_in w levels p.line b g

abbrev pub called : Setting → ℕ → Semantics → Site → Callee → Arguments → Action Value
called w levels m p (AFunction f d) g = called_plainly w levels m p (AFunction f d) g
called w levels m p (ABuiltIn b) g = called_built_in w levels m p b g (takes_key w.language.dialect g)
called w levels m p (AMethod b x) g = called_plainly w levels m p (AMethod b x) g

-- a call: the callee, the arguments in source order, then the checks in order, then the work
abbrev pub call_node : Setting → ℕ → Semantics → Site → Expression → List Argument → Action Value
call_node w levels m p f es = do
  v ← m.expr p f
  ps ← each (pass m p) es
  c ← callee w p.line v
  g ← given w p.line ps
  called w levels m p c g

-- a definition becomes active, and ceases to be
unfoldable pub activate : Function → Action (Unit {0})
activate f = λ s. Done tt (record s { active = (f.file, f.definition) ∷ s.active })

abbrev pub rest_of : List (ℕ × ℕ) → List (ℕ × ℕ)
rest_of [] = []
rest_of (a ∷ more) = more

unfoldable pub deactivate : Action (Unit {0})
deactivate = λ s. Done tt (record s { active = rest_of s.active })

-- a function without `return` answers None
abbrev pub answer_of : Flow → Value
answer_of (flow.Return v) = v
answer_of _ = value.NoneValue

-- the body that a call runs
abbrev pub run_body : Semantics → Site → Body → Action Value
run_body m p (Statements body) = block (m.stmt p) body >>= λ f. give (answer_of f)
run_body m p (Answer e) = m.expr p e

-- the run of a function: the tuple of `*name`, the strings and the dictionary of `**name`, the frame, the parameters in
-- it, the body
abbrev pub run : Variables → Semantics → Site → Function → Definition → List (Name × BoundArgument) → Action Value
run vs m p f d shares = do
  values ← build_arguments p.line shares
  _ ← pay p.line 1
  frame ← vs.frame f.file (1 + f.definition) (Some f.frame)
  let q : Site = record { file = f.file; frame = frame; line = p.line } in do
    _ ← all_of (λ x. vs.bind q x.0 x.1) values
    _ ← activate f
    v ← run_body m q d.body
    _ ← deactivate
    give v
