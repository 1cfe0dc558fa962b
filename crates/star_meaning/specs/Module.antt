-- The meaning of a program by the levels that may still be opened, and the run of a whole file.
use Rattle.std.specs.Prelude.{ℕ, zero, suc, ◌+◌, nat_eq, List, [], ◌∷◌, length, Option, Some, None, if◌then◌else◌}
use Rattle.std.specs.List.{list_any}
use Rattle.std.specs.Ordering.{nat_cmp, is_lt}
use Rattle.std.specs.Cmp.Lexicographic.{slice_cmp}
use Rattle.star_store.specs.declared.values.Value.{Value}
use Rattle.star_store.specs.declared.values.Frame.{Frame}
use Rattle.star_store.specs.Store.{Shelf, Published, put_up}
use Rattle.star_tree.specs.declared.tree.Statement.{Statement}
use Rattle.star_meaning.specs.declared.fault.FaultCode.TheVariants as code
use Rattle.star_meaning.specs.declared.fault.Fault.{Fault}
use Rattle.star_meaning.specs.declared.said.Said.{Said}
use Rattle.star_meaning.specs.declared.site.Site.{Site}
use Rattle.star_outline.specs.Syntax.{expression, target, position_of, form_of}
use Rattle.star_meaning.specs.Run.{State, Action, Outcome, Done, Failed, ◌>>=◌, give, fail, pay, each, seeing}
use Rattle.star_outline.specs.Outlines.{Outline}
use Rattle.star_outline.specs.Names.{same_name}
use Rattle.star_meaning.specs.Program.{Setting, Variables, outline_of, names_of, seen}
use Rattle.star_meaning.specs.Variables.{frame_of, by_names}
use Rattle.star_meaning.specs.Values.{repr}
use Rattle.star_meaning.specs.Semantics.{Semantics, block}
use Rattle.star_meaning.specs.Targets.{target_node, parts_node}
use Rattle.star_meaning.specs.Expressions.{node}
use Rattle.star_meaning.specs.Statements.{statement}
use Rattle.star_meaning.specs.Calls.{run}

-- a fault gets the line of the innermost statement of the running module's own file
abbrev pub at_line : Setting → Site → Statement → Site
at_line w p s = if nat_eq p.file w.home then record p { line = (position_of s).line } else p

-- if no level may be opened
abbrev pub nothing_opens : Setting → Semantics
nothing_opens w = record {
  expr = λ p e. fail code.Deep p.line;
  stmt = λ p s. fail code.Deep (at_line w p s).line;
  assign = λ p t v. fail code.Deep p.line;
  parts = λ p e i. fail code.Deep p.line;
  call = λ p f d shares. fail code.Deep p.line;
}

-- the parts of a program if one more level than n may be opened, and m is their meaning within it: a statement, an
-- expression and a target that is not a plain name pay 1 as they begin
abbrev pub one_more : Variables → Setting → ℕ → Semantics → Semantics
one_more vs w n m = record {
  expr = λ p e. pay p.line 1 >>= λ _. node vs w n m p (expression e);
  stmt = λ p s. pay (at_line w p s).line 1 >>= λ _. statement vs w n m (at_line w p s) (position_of s) (form_of s);
  assign = λ p t v. pay p.line 1 >>= λ _. target_node vs w n m p (target t) v;
  parts = λ p e i. pay p.line 1 >>= λ _. parts_node w n m p e i;
  call = run vs m;
}

-- the effect of each part of a program if this many levels may be opened
unfoldable pub meaning : Variables → Setting → ℕ → Semantics
meaning vs w zero = nothing_opens w
meaning vs w (suc n) = one_more vs w n (meaning vs w n)

-- how many levels may be open at a time
abbrev pub most_levels : ℕ
most_levels = 400

-- the line of the last statement
abbrev pub last_line : ℕ → List Statement → ℕ
last_line line [] = line
last_line line (s ∷ ss) = last_line (position_of s).line ss

-- names with values in byte order of the names
abbrev pub put_by_name : {A : Type 0} → List ℕ × A → List (List ℕ × A) → List (List ℕ × A)
put_by_name x [] = x ∷ []
put_by_name x (y ∷ ys) = if is_lt (slice_cmp nat_cmp y.0 x.0) then y ∷ put_by_name x ys else x ∷ y ∷ ys

abbrev pub by_name : {A : Type 0} → List (List ℕ × A) → List (List ℕ × A)
by_name [] = []
by_name (x ∷ xs) = put_by_name x (by_name xs)

-- the names of a frame that are bound, each with its value
abbrev pub if_bound : List ℕ → Option Value → List (List ℕ × Value) → List (List ℕ × Value)
if_bound name None rest = rest
if_bound name (Some v) rest = (name, v) ∷ rest

abbrev pub bound_names : List (List ℕ) → List (Option Value) → List (List ℕ × Value)
bound_names [] slots = []
bound_names (n ∷ ns) [] = []
bound_names (n ∷ ns) (v ∷ vs) = if_bound n v (bound_names ns vs)

-- without the names that the file loads
abbrev pub without_loaded : List (List ℕ) → List (List ℕ × Value) → List (List ℕ × Value)
without_loaded loaded [] = []
without_loaded loaded (g ∷ gs) =
    if list_any (same_name g.0) loaded then without_loaded loaded gs else g ∷ without_loaded loaded gs

abbrev pub loaded_names : Option Outline → List (List ℕ)
loaded_names None = []
loaded_names (Some o) = o.loaded

abbrev pub slots_of : Option Frame → List (Option Value)
slots_of None = []
slots_of (Some f) = f.slots

-- the globals of a file: the bound names of its own frame, without those that it loads, in byte order
abbrev pub globals_of : Setting → State → Value → List (List ℕ × Value)
globals_of w s frame =
    by_name (without_loaded (loaded_names (outline_of w w.home))
    (bound_names (names_of w w.home 0) (slots_of (frame_of (seen w s frame)))))

-- the text of a global is visited and paid as a new string is
abbrev pub global_text : Setting → ℕ → ℕ → List ℕ × Value → Action (List ℕ × List ℕ)
global_text w levels line g = do
  t ← repr w levels line g.1
  _ ← pay line (1 + length t)
  give (g.0, t)

-- a module at its end: its globals, and their texts
pub record Ended : Type 0 where
  pub globals : List (List ℕ × Value)
  pub texts : List (List ℕ × List ℕ)

abbrev pub end : Setting → ℕ → ℕ → Value → Action Ended
end w levels line frame =
    seeing (λ s. each (global_text w levels line) (globals_of w s frame)
    >>= λ ts. give (record { globals = globals_of w s frame; texts = ts }))

-- the run of a file: its own frame, which is the first cell, its statements, and the texts of its globals
abbrev pub run_file : Variables → Setting → ℕ → List Statement → Action Ended
run_file vs w levels statements = do
  frame ← vs.frame w.home 0 None
  _ ← block ((meaning vs w levels).stmt (record { file = w.home; frame = frame; line = 1 })) statements
  end w levels (last_line 1 statements) frame

-- the state before a run
abbrev pub start : Setting → ℕ → State
start w steps = record { store = record { home = w.home; cells = [] }; active = []; steps = steps; lines = [] }

-- the local meaning of a file: good, with the modules that it reaches and itself, its globals, their texts, and what it
-- said, the lines printed and the calls recorded; or a fault, with what it said before it
pub data Local : Type 0 where
  Good : Shelf → List (List ℕ × Value) → List (List ℕ × List ℕ) → List Said → Local
  Stopped : Fault → List Said → Local

abbrev pub local_of : Setting → Outcome Ended → Local
local_of w (Done e s) =
    Good (put_up w.home (record { cells = s.store.cells; globals = e.globals }) w.shelf) e.globals e.texts s.lines
local_of w (Failed f lines) = Stopped f lines

abbrev pub local : Setting → ℕ → List Statement → Local
local w steps statements = local_of w (run_file (by_names w) w most_levels statements (start w steps))

-- the shelf of a module that loads others: all that is on their shelves
abbrev pub put_place : ℕ → Option Published → Shelf → Shelf
put_place i None shelf = shelf
put_place i (Some p) shelf = put_up i p shelf

abbrev pub put_places : ℕ → Shelf → Shelf → Shelf
put_places i [] shelf = shelf
put_places i (p ∷ ps) shelf = put_places (i + 1) ps (put_place i p shelf)

abbrev pub union : List Shelf → Shelf
union [] = []
union (s ∷ ss) = put_places 0 s (union ss)
