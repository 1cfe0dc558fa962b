-- Comprehensions: a frame, a list or dictionary, and a list of clauses that are run in order.
use Rattle.std.specs.Prelude.{ℕ, List, [], ◌∷◌, Some, if◌then◌else◌}
use Rattle.star_store.specs.declared.values.Value.{Value}
use Rattle.star_store.specs.declared.values.Cell.TheVariants as cell
use Rattle.star_store.specs.declared.arena.write.Change.TheVariants as change_to
use Rattle.star_tree.specs.declared.tree.Target.{Target}
use Rattle.star_tree.specs.declared.tree.Expression.{Expression}
use Rattle.star_tree.specs.declared.tree.Clause.{Clause}
use Rattle.star_tree.specs.declared.tree.Clauses.{Clauses, out-Clauses}
use Rattle.star_tree.specs.declared.tree.Entry.{Entry, out-Entry}
use Rattle.star_tree.specs.declared.tree.Argument.TheOpen as tree
use Rattle.star_meaning.specs.declared.site.Site.{Site}
use Rattle.star_outline.specs.Syntax.{ClauseForm, clause}
use Rattle.star_meaning.specs.Run.{Action, ◌>>=◌, give, pay, build}
use Rattle.star_meaning.specs.Program.{Setting, Variables}
use Rattle.star_meaning.specs.Values.{take_item, iterate, leave, is_true, check_key, change}
use Rattle.star_meaning.specs.Subscript.{put_entry}
use Rattle.star_meaning.specs.Semantics.{Semantics, repeat}
use Rattle.star_meaning.specs.Targets.{to_target}

-- a turn of a `for` clause: the next item is taken and assigned, and the clauses after it run
abbrev pub clause_turn : Variables → Setting → Semantics → Site → Target → Value → Action (Unit {0}) → ℕ
    → Action (Unit {0})
clause_turn vs w m p t v rest i = do
  x ← take_item w p.line v i
  _ ← to_target vs m p t x
  rest

-- a `for` clause over a value: it is being iterated while the clauses after it run
abbrev pub over : Variables → Setting → Semantics → Site → Target → Value → Action (Unit {0}) → Action (Unit {0})
over vs w m p t v rest = do
  n ← iterate w p.line v
  _ ← repeat (clause_turn vs w m p t v rest) n 0
  leave v

-- a further clause: a `for` over its iterable, or a test
abbrev pub clause_node : Variables → Setting → Semantics → Site → ClauseForm → Action (Unit {0}) → Action (Unit {0})
clause_node vs w m p (tree.For t e) rest = m.expr p e >>= λ v. over vs w m p t v rest
clause_node vs w m p (tree.If e) rest = m.expr p e >>= is_true w >>= λ b. if b then rest else give tt

-- further clauses in order, with the action after the last
abbrev pub clauses : Variables → Setting → Semantics → Site → List Clause → Action (Unit {0}) → Action (Unit {0})
clauses vs w m p [] last = last
clauses vs w m p (c ∷ cs) last = clause_node vs w m p (clause c) (clauses vs w m p cs last)

-- all clauses, over the first iterable
abbrev pub all_clauses : Variables → Setting → Semantics → Site → Clauses → Value → Action (Unit {0})
    → Action (Unit {0})
all_clauses vs w m p cs v last = over vs w m p (out-Clauses cs).target v (clauses vs w m p (out-Clauses cs).more last)

-- an item of a list comprehension: the element, then 1
abbrev pub add_element : Setting → Semantics → Site → Expression → Value → Action (Unit {0})
add_element w m p e l = do
  x ← m.expr p e
  _ ← pay p.line 1
  _ ← change w p.line l (change_to.Append x)
  give tt

-- an entry of a dictionary comprehension: the key, the value, the key check, then 1 if the key is new
abbrev pub add_entry : Setting → ℕ → Semantics → Site → Entry → Value → Action (Unit {0})
add_entry w levels m p e d = do
  k ← m.expr p (out-Entry e).key
  v ← m.expr p (out-Entry e).value
  _ ← check_key w levels p.line k
  put_entry w p.line d k v

-- the frame of a comprehension, whose parent is the running one: 1 is paid
abbrev pub inner : Variables → Site → ℕ → Action Site
inner vs p number = do
  _ ← pay p.line 1
  f ← vs.frame p.file number (Some p.frame)
  give (record p { frame = f })

-- a list comprehension: the first iterable, the frame, the list, the clauses
abbrev pub list_comprehension : Variables → Setting → Semantics → Site → ℕ → Expression → Clauses → Action Value
list_comprehension vs w m p number e cs = do
  v ← m.expr p (out-Clauses cs).iterable
  q ← inner vs p number
  l ← build p.line 1 (cell.List [])
  _ ← all_clauses vs w m q cs v (add_element w m q e l)
  give l

-- a dictionary comprehension
abbrev pub dict_comprehension : Variables → Setting → ℕ → Semantics → Site → ℕ → Entry → Clauses → Action Value
dict_comprehension vs w levels m p number e cs = do
  v ← m.expr p (out-Clauses cs).iterable
  q ← inner vs p number
  d ← build p.line 1 (cell.Dict [])
  _ ← all_clauses vs w m q cs v (add_entry w levels m q e d)
  give d
