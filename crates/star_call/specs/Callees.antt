-- Callees of the code, as contracts see them.
use Rattle.std.specs.Prelude.{◌≡◌, ℕ, not, Result, List, [], Option, Some, None}
use Rattle.std.specs.Option.{option_and_then, option_map}
use Rattle.star_store.specs.declared.values.Value.{Value}
use Rattle.star_store.specs.declared.values.Cell.TheVariants as cell
use Rattle.star_store.specs.declared.values.Function.{Function}
use Rattle.star_store.specs.Names.{is_function}
use Rattle.star_outline.specs.Definitions.{Definition, definition_of}
use Rattle.star_outline.specs.declared.outline.Definition.{Definition as HeldDefinition}
use Rattle.star_tree.specs.declared.tree.Name.{Name}
use Rattle.star_meaning.specs.declared.fault.FaultCode.TheVariants as code
use Rattle.star_machine.specs.declared.fault.EvalError.{EvalError}
use Rattle.star_machine.specs.Refines.{RefinesBy}
use Rattle.star_meaning.specs.Run.{State, Outcome, Action, ◌>>=◌, give, fail, check, found, seeing}
use Rattle.star_meaning.specs.Program.{Setting, definition_of as in_setting}
use Rattle.star_meaning.specs.Values.{Content, BuiltInFunction, Held, content}
use Rattle.star_meaning.specs.Binding.{BoundArgument, bound_to}
use Rattle.star_meaning.specs.declared.given.Arguments.{Arguments}
use Rattle.star_meaning.specs.Calls.{Callee, AFunction, ABuiltIn, AMethod, is_active}
use Rattle.star_call.specs.declared.callee.Called.{Called}
use Rattle.star_call.specs.declared.callee.Callee.{Callee as HeldCallee}
use Rattle.star_call.specs.declared.callee.Callee.TheVariants as held

-- the name and the defaults of a function
abbrev pub name_in : Content → List ℕ
name_in (Held (cell.Func f)) = f.name
name_in _ = []

abbrev pub defaults_in : Content → List Value
defaults_in (Held (cell.Func f)) = f.defaults
defaults_in _ = []

-- a function that is called: its value leads to its name and its defaults
abbrev pub function_of : Content → Called → Function
function_of c f =
    record { file = f.file; definition = f.number; name = name_in c; defaults = defaults_in c; frame = f.frame }

-- a callee, from the function that the value leads to
abbrev pub shown : (Value → Content) → HeldCallee → Callee
shown read (held.AFunction f) = AFunction (function_of (read f.value) f) (definition_of f.definition)
shown read (held.ABuiltIn b) = ABuiltIn b
shown read (held.AMethod m v) = AMethod m v

-- a function that is called, with its definition, if it has one
abbrev pub with_definition : ℕ → Function → Option Definition → Action Callee
with_definition line f d = do
  _ ← seeing (λ s. check code.Recursion line (not (is_active s f)))
  e ← found code.BadType line d
  give (AFunction f e)

-- The answer of a function is this one in each state in which its value leads to it.
abbrev pub GivesCallee : Value → Function → Outcome Callee → Result HeldCallee EvalError → State → Type 0
GivesCallee v f o result new =
    (read : Value → Content) → read v ≡ Held (cell.Func f) → RefinesBy (shown read) o result new

-- the file and the number of the definition of a function
abbrev pub number_in : Content → Option (ℕ × ℕ)
number_in (Held (cell.Func f)) = Some (f.file, f.definition)
number_in _ = None

-- the definition of a function, if it has one
abbrev pub definition_for : Setting → Content → Option Definition
definition_for w c = option_and_then (λ n. in_setting w n.0 n.1) (number_in c)

-- a function that is called has the definition that its file has at its number
abbrev pub HasDefinition : Function → Option Definition → HeldCallee → Type 0
HasDefinition f d (held.AFunction c) =
    (c.file ≡ f.file) × (c.number ≡ f.definition) × (d ≡ Some (definition_of c.definition))
HasDefinition f d (held.ABuiltIn b) = Unit {0}
HasDefinition f d (held.AMethod m v) = Unit {0}

abbrev pub IsDefined : Setting → Called → Type 0
IsDefined w c = in_setting w c.file c.number ≡ Some (definition_of c.definition)

abbrev pub IsFound : Setting → HeldCallee → Type 0
IsFound w (held.AFunction c) = IsDefined w c
IsFound w (held.ABuiltIn b) = Unit {0}
IsFound w (held.AMethod m v) = Unit {0}

-- the callee that a value is, if this is the definition of a function, if it has one
abbrev pub callee_in : ℕ → Option Definition → Content → Action Callee
callee_in line d (Held (cell.Func f)) = with_definition line f d
callee_in line d (BuiltInFunction b) = check code.BadType line (is_function b) >>= λ _. give (ABuiltIn b)
callee_in line d (Held (cell.Bound m x)) = give (AMethod m x)
callee_in line d _ = fail code.BadType line

-- The answer is this callee, and the state stays.
abbrev pub FindsCallee : Setting → Action Callee → Result HeldCallee EvalError → State → Type 0
FindsCallee w callee result s = RefinesBy (shown (content w s)) (callee s) result s

-- the code has the definition of a value, if it is a function and has one
abbrev pub IsDefinitionOf : Setting → State → Value → Option HeldDefinition → Type 0
IsDefinitionOf w s v d = option_map definition_of d ≡ definition_for w (content w s v)

-- the arguments of a call are bound to the parameters of its function, or `args`
abbrev pub bound_arguments : Setting → ℕ → Called → Arguments → Action (List (Name × BoundArgument))
bound_arguments w line f g =
    λ s. found code.Args line (bound_to f.definition.parameters.now (defaults_in (content w s f.value)) g) s
