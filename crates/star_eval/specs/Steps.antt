-- Words for the rest of the loops of the evaluator, and for the meaning of its structures.
use Rattle.std.specs.Prelude.{◌≡◌, ℕ, ◌-◌, ◌+◌, List, [], ◌∷◌, Option, Some, None, Result, Ok, Err}
use Rattle.star_store.specs.declared.values.Value.{Value}
use Rattle.star_tree.specs.declared.tree.Argument.TheOpen as tree
use Rattle.star_tree.specs.declared.tree.Clause.{Clause}
use Rattle.star_outline.specs.Syntax.{ExpressionForm}
use Rattle.star_meaning.specs.declared.site.Flow.{Flow}
use Rattle.star_meaning.specs.declared.site.Site.{Site}
use Rattle.star_tree.specs.declared.tree.Clauses.{Clauses}
use Rattle.star_tree.specs.declared.tree.Entry.{Entry}
use Rattle.star_tree.specs.declared.tree.Expression.{Expression}
use Rattle.star_meaning.specs.Run.{State, Outcome, Action, ◌>>=◌, give}
use Rattle.star_meaning.specs.Values.{leave}
use Rattle.star_meaning.specs.Semantics.{Read, repeat}
use Rattle.star_meaning.specs.Statements.{loop, loop_turn}
use Rattle.star_meaning.specs.Comprehensions.{clause_turn, clauses, all_clauses, add_element, add_entry, dict_comprehension, list_comprehension}
use Rattle.star_machine.specs.declared.fault.EvalError.{EvalError}
use Rattle.star_machine.specs.Refines.{Ends}
use Rattle.star_eval.specs.declared.execute.ForLoop.{ForLoop}
use Rattle.star_eval.specs.declared.nodes.SliceParts.{SliceParts}
use Rattle.star_eval.specs.declared.output.Output.{Output}
use Rattle.star_eval.specs.declared.output.Output.TheVariants as output
use Rattle.star_eval.specs.declared.open_clause.OpenClause.{OpenClause}
use Rattle.star_eval.specs.declared.targets.TargetParts.{TargetParts}
use Rattle.star_world.specs.World.{World, semantics, variables}

-- the addition of a comprehension after its clauses
abbrev pub last : World → ℕ → Site → Output → Action (Unit {0})
last c levels p (output.Element e l) = add_element c.setting (semantics c levels) p e.now l
last c levels p (output.Entry e d) = add_entry c.setting levels (semantics c levels) p e.now d

-- the clauses of a comprehension from one on, and the addition after them
abbrev pub after : World → ℕ → Site → List Clause → Output → Action (Unit {0})
after c levels p cs o = clauses (variables c) c.setting (semantics c levels) p cs (last c levels p o)

-- a turn of an open `for` clause
abbrev pub turn_of : World → ℕ → Site → Output → OpenClause → ℕ → Action (Unit {0})
turn_of c levels p o f i =
    clause_turn (variables c) c.setting (semantics c levels) p f.target.now f.value (after c levels p f.more.now o) i

-- the rest of an open clause: its turns from the next item on, and then its iteration ends
abbrev pub remaining_turns : World → ℕ → Site → Output → OpenClause → Action (Unit {0})
remaining_turns c levels p o f = repeat (turn_of c levels p o f) (f.count - f.next) f.next >>= λ _. leave f.value

-- the rest of a clause that may have been opened
abbrev pub opened_left : World → ℕ → Site → Output → Option OpenClause → Action (Unit {0})
opened_left c levels p o None = give tt
opened_left c levels p o (Some f) = remaining_turns c levels p o f

-- the rest of open clauses, each opened in a turn of the one before it: the innermost ends first
abbrev pub all_left : World → ℕ → Site → Output → List OpenClause → Action (Unit {0})
all_left c levels p o [] = give tt
all_left c levels p o (f ∷ fs) = all_left c levels p o fs >>= λ _. remaining_turns c levels p o f

-- the next turn of an open clause
abbrev pub next_turn : World → ℕ → Site → Output → OpenClause → Action (Unit {0})
next_turn c levels p o f = turn_of c levels p o f f.next

-- The rest before the call is the rest of the clause that the call opened, if it opened one. If the call stopped, it is
-- the end of such a run.
abbrev pub Opens : World → ℕ → Site → Output → Outcome (Unit {0}) → Result (Option OpenClause) EvalError → State → Type 0
Opens c levels p o rest (Ok x) new = rest ≡ opened_left c levels p o x new
Opens c levels p o rest (Err e) new = Ends rest e new

-- a turn of a `for` loop, and the loop
abbrev pub turn_in : World → ℕ → Site → ForLoop → ℕ → Action Flow
turn_in c levels p f i = loop_turn (variables c) c.setting (semantics c levels) p f.target.now f.body.now f.value i

abbrev pub looping : World → ℕ → Site → ForLoop → Action Flow
looping c levels p f = loop (variables c) c.setting (semantics c levels) p f.target.now f.body.now f.value

-- a slice with these parts
abbrev pub slice_of : Expression → SliceParts → ExpressionForm
slice_of e f = tree.Slice e f.start.now f.stop.now f.stride.now

-- the parts of an index target, and the old value there
abbrev pub shown_parts : TargetParts → Read
shown_parts r = record { base = r.base; index = r.index; old = r.old }

-- the list or dictionary that a comprehension fills
abbrev pub container : Output → Value
container (output.Element e l) = l
container (output.Entry e d) = d

-- all clauses of a comprehension over the first iterable, and then the list or dictionary that they filled
abbrev pub filled : World → ℕ → Site → Clauses → Value → Output → Action Value
filled w levels p cs v o = do
  _ ← all_clauses (variables w) w.setting (semantics w levels) p cs v (last w levels p o)
  give (container o)

-- a list comprehension with a frame of the block that begins at a token, and a dictionary comprehension
abbrev pub making_list : World → ℕ → Site → ℕ → Expression → Clauses → Action Value
making_list w levels p token e cs =
    list_comprehension (variables w) w.setting (semantics w levels) p (1 + token) e cs

abbrev pub making_dict : World → ℕ → Site → ℕ → Entry → Clauses → Action Value
making_dict w levels p token e cs =
    dict_comprehension (variables w) w.setting levels (semantics w levels) p (1 + token) e cs
