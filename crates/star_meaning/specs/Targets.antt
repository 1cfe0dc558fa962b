-- Targets: binding a name, writing an item, unpacking.
use Rattle.std.specs.Prelude.{ℕ, nat_eq, List, [], ◌∷◌, length}
use Rattle.star_store.specs.declared.values.Value.{Value}
use Rattle.star_tree.specs.declared.tree.Target.{Target}
use Rattle.star_tree.specs.declared.tree.Expression.{Expression}
use Rattle.star_tree.specs.declared.tree.Argument.TheOpen as tree
use Rattle.star_meaning.specs.declared.fault.FaultCode.TheVariants as code
use Rattle.star_meaning.specs.declared.site.Site.{Site}
use Rattle.star_outline.specs.Syntax.{TargetForm, target}
use Rattle.star_meaning.specs.Run.{Action, ◌>>=◌, give, fail, check}
use Rattle.star_meaning.specs.Program.{Setting, Variables}
use Rattle.star_meaning.specs.Values.{take_all}
use Rattle.star_meaning.specs.Subscript.{index, set_index}
use Rattle.star_meaning.specs.Semantics.{Semantics, Read}

-- a value to a target: a plain name is bound, and is not a node
abbrev pub to_form : Variables → Semantics → Site → Target → Value → TargetForm → Action (Unit {0})
to_form vs m p t v (tree.Target-F.Target::Name n) = vs.bind p n v
to_form vs m p t v _ = m.assign p t v

abbrev pub to_target : Variables → Semantics → Site → Target → Value → Action (Unit {0})
to_target vs m p t v = to_form vs m p t v (target t)

-- values to as many targets, in order; another number is `value`
abbrev pub to_each : Variables → Semantics → Site → List Target → List Value → Action (Unit {0})
to_each vs m p [] [] = give tt
to_each vs m p (t ∷ ts) (v ∷ xs) = to_target vs m p t v >>= λ _. to_each vs m p ts xs
to_each vs m p _ _ = fail code.BadValue p.line

-- unpacking: all items are taken, then there must be as many as targets, then they are assigned
abbrev pub unpack : Variables → Setting → Semantics → Site → List Target → Value → Action (Unit {0})
unpack vs w m p ts v = do
  xs ← take_all w p.line v
  _ ← check code.BadValue p.line (nat_eq (length xs) (length ts))
  to_each vs m p ts xs

-- the node of a target that is not a plain name
abbrev pub target_node : Variables → Setting → ℕ → Semantics → Site → TargetForm → Value → Action (Unit {0})
target_node vs w levels m p (tree.Target-F.Target::Name n) v = vs.bind p n v
target_node vs w levels m p (tree.Target-F.Target::Index e i) v = do
  x ← m.expr p e
  k ← m.expr p i
  set_index w levels p.line x k v
target_node vs w levels m p (tree.Target-F.Target::Tuple ts) v = unpack vs w m p ts v
target_node vs w levels m p (tree.Target-F.Target::List ts) v = unpack vs w m p ts v

-- the node of an index target that is read before it is written
abbrev pub parts_node : Setting → ℕ → Semantics → Site → Expression → Expression → Action Read
parts_node w levels m p e i = do
  x ← m.expr p e
  k ← m.expr p i
  v ← index w levels p.line x k
  give (record { base = x; index = k; old = v })
