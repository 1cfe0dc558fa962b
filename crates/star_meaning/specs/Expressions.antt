-- Expressions: one equation for each form.
use Rattle.std.specs.Prelude.{ℕ, ◌+◌, not, List, [], ◌∷◌, Option, Some, None, is_some, if◌then◌else◌, codes}
use Rattle.star_store.specs.declared.values.Value.{Value}
use Rattle.star_store.specs.declared.values.Value.TheVariants as value
use Rattle.star_store.specs.declared.values.Cell.TheVariants as cell
use Rattle.star_tree.specs.declared.tree.Expression.{Expression}
use Rattle.star_tree.specs.declared.tree.Entry.{Entry, out-Entry}
use Rattle.star_tree.specs.declared.tree.Parameter.{Parameter}
use Rattle.star_tree.specs.declared.tree.Argument.TheOpen as tree
use Rattle.star_meaning.specs.declared.fault.FaultCode.TheVariants as code
use Rattle.star_meaning.specs.declared.site.Site.{Site}
use Rattle.star_outline.specs.Syntax.{ExpressionForm, ParameterForm, parameter}
use Rattle.star_meaning.specs.Run.{Action, ◌>>=◌, give, check, each, build, seeing}
use Rattle.star_meaning.specs.Program.{Setting, Variables}
use Rattle.star_meaning.specs.Values.{is_true, check_key, new_text, new_tuple, new_list, new_dict, place_in}
use Rattle.star_meaning.specs.Operators.{operate, prefix, comparison}
use Rattle.star_meaning.specs.Entries.{with_entry}
use Rattle.star_meaning.specs.Subscript.{index, slice}
use Rattle.star_meaning.specs.Attributes.{attribute}
use Rattle.star_meaning.specs.Semantics.{Semantics}
use Rattle.star_meaning.specs.Calls.{call_node}
use Rattle.star_meaning.specs.Comprehensions.{list_comprehension, dict_comprehension}

-- the defaults of parameters, in order
abbrev pub defaults_after : Action (List Value) → Semantics → Site → ParameterForm → Action (List Value)
defaults_after rest m p (tree.Default n e) = m.expr p e >>= λ v. rest >>= λ vs. give (v ∷ vs)
defaults_after rest m p _ = rest

abbrev pub defaults : Semantics → Site → List Parameter → Action (List Value)
defaults m p [] = give []
defaults m p (q ∷ qs) = defaults_after (defaults m p qs) m p (parameter q)

-- a new function: its defaults in order, then 1
abbrev pub new_function : Semantics → Site → ℕ → List ℕ → List Parameter → Action Value
new_function m p number name ps = do
  vs ← defaults m p ps
  build p.line 1 (cell.Func (record {
    file = p.file;
    definition = number;
    name = name;
    defaults = vs;
    frame = p.frame;
  }))

-- a key and a value of a display
abbrev pub entry_of : Semantics → Site → Entry → Action (Value × Value)
entry_of m p e = do
  k ← m.expr p (out-Entry e).key
  v ← m.expr p (out-Entry e).value
  give (k, v)

-- the entries of a display: each key is checked, and must not be there yet
abbrev pub fresh_entry : Setting → ℕ → ℕ → List (Value × Value) → Value × Value → Action (List (Value × Value))
fresh_entry w levels line es e = do
  _ ← check_key w levels line e.0
  _ ← seeing (λ s. check code.Key line (not (is_some (place_in w s e.0 es))))
  seeing (λ s. give (with_entry w s es e))

abbrev pub fresh_entries : Setting → ℕ → ℕ → List (Value × Value) → List (Value × Value) → Action (List (Value × Value))
fresh_entries w levels line es [] = give es
fresh_entries w levels line es (e ∷ more) = fresh_entry w levels line es e >>= λ fs. fresh_entries w levels line fs more

-- a part of a slice, if it is there
abbrev pub maybe : Semantics → Site → Option Expression → Action (Option Value)
maybe m p None = give None
maybe m p (Some e) = m.expr p e >>= λ v. give (Some v)

-- the node of an expression; its parts have the meaning m, and its visits may open this many levels
abbrev pub node : Variables → Setting → ℕ → Semantics → Site → ExpressionForm → Action Value
node vs w levels m p (tree.Expression-F.Expression::Name n) = vs.read p n
node vs w levels m p (tree.Int n) = give (value.Int n)
node vs w levels m p (tree.Text t) = new_text p.line t
node vs w levels m p (tree.Expression-F.Expression::Tuple es) = each (m.expr p) es >>= new_tuple p.line
node vs w levels m p (tree.Expression-F.Expression::List es) = each (m.expr p) es >>= new_list p.line
node vs w levels m p (tree.Dict es) = each (entry_of m p) es >>= fresh_entries w levels p.line [] >>= new_dict p.line
node vs w levels m p (tree.ListComprehension at e cs) = list_comprehension vs w m p (1 + at.token) e cs
node vs w levels m p (tree.DictComprehension at e cs) = dict_comprehension vs w levels m p (1 + at.token) e cs
node vs w levels m p (tree.Unary op e) = m.expr p e >>= prefix w p.line op
node vs w levels m p (tree.Binary op a b) = do
  x ← m.expr p a
  y ← m.expr p b
  operate w levels p.line op x y
node vs w levels m p (tree.Compare c a b) = do
  x ← m.expr p a
  y ← m.expr p b
  comparison w levels p.line c x y
node vs w levels m p (tree.And a b) = do
  x ← m.expr p a
  t ← is_true w x
  if t then m.expr p b else give x
node vs w levels m p (tree.Or a b) = do
  x ← m.expr p a
  t ← is_true w x
  if t then give x else m.expr p b
node vs w levels m p (tree.Conditional c a b) = do
  x ← m.expr p c
  t ← is_true w x
  if t then m.expr p a else m.expr p b
node vs w levels m p (tree.Lambda at ps e) = new_function m p at.token (codes "lambda") ps
node vs w levels m p (tree.Call f es) = call_node w levels m p f es
node vs w levels m p (tree.Attribute e n) = m.expr p e >>= λ x. attribute w p.line x n.text
node vs w levels m p (tree.Expression-F.Expression::Index e i) = do
  x ← m.expr p e
  k ← m.expr p i
  index w levels p.line x k
node vs w levels m p (tree.Slice e a b c) = do
  x ← m.expr p e
  i ← maybe m p a
  j ← maybe m p b
  k ← maybe m p c
  slice w p.line x i j k
