-- Calls of functions whose parameters have a layout: the slots of the frame, once the parameters are bound.
use Rattle.std.specs.Prelude.{◌≡◌, ◌≤◌, ◌+◌, ℕ, suc, Bool, true, not, List, [], ◌∷◌, drop, filter, length, take, Option, Some, None, is_some, slice_get, slice_set, if◌then◌else◌}
use denote.Ref.{Bor}
use Rattle.std.specs.List.{find}
use Rattle.std.specs.Option.{option_map, option_or}
use Rattle.star_store.specs.declared.values.Value.{Value}
use Rattle.star_store.specs.declared.values.Cell.TheVariants as cell
use Rattle.star_store.specs.Slots.{default_at, row}
use Rattle.star_tree.specs.declared.tree.Name.{Name}
use Rattle.star_tree.specs.declared.tree.Parameter.{Parameter}
use Rattle.star_outline.specs.Names.{Names, slot_of}
use Rattle.star_meaning.specs.declared.given.Arguments.{Arguments}
use Rattle.star_meaning.specs.declared.given.KeywordArgument.{KeywordArgument}
use Rattle.star_meaning.specs.declared.site.Site.{Site}
use Rattle.star_meaning.specs.Binding.{BoundArgument, bound_to, build_argument}
use Rattle.star_meaning.specs.Binding as share
use Rattle.star_meaning.specs.Places.{joined}
use Rattle.star_meaning.specs.Run.{Action, State, ◌>>=◌, build, give}
use Rattle.star_meaning.specs.Values.{content}
use Rattle.star_call.specs.declared.callee.Called.{Called}
use Rattle.star_call.specs.Callees.{defaults_in}
use Rattle.star_call.specs.BoundArguments.{all_named}
use Rattle.star_world.specs.declared.orders.Order.{Order}
use Rattle.star_world.specs.Orders.{Layout, is_at, takes_keyword}
use Rattle.star_world.specs.World.{World}
use Rattle.star_enter.specs.declared.ordered.Bound.{Bound}
use Rattle.star_enter.specs.Entering.{begin, entering}

-- the slot of a keyword argument; none if no parameter can be given under that keyword
abbrev pub own_in : Layout → Option ℕ → Option ℕ
own_in l None = None
own_in l (Some i) = if takes_keyword l i then Some i else None

abbrev pub keyword_slot : Layout → Names → KeywordArgument → Option ℕ
keyword_slot l names n = own_in l (slot_of n.name names)

-- the keyword value that a slot gets
abbrev pub named_at : Layout → Names → List KeywordArgument → ℕ → Option Value
named_at l names ns i = option_map (λ n. n.value) (find (λ n. is_at (keyword_slot l names n) i) ns)

-- the keyword arguments that name no parameter
abbrev pub extra_in_order : Layout → Names → List KeywordArgument → List KeywordArgument
extra_in_order l names ns = filter (λ n. not (is_some (keyword_slot l names n))) ns

-- these are the keyword arguments that name no parameter of this order
abbrev pub AreExtraInOrder : Order → List KeywordArgument → List (Bor KeywordArgument) → Type 0
AreExtraInOrder o ns left = all_named left ≡ extra_in_order o.layout.now o.names.now ns

-- the positional values that parameters get, each its own; and those that are left
abbrev pub placed : Layout → Arguments → List Value
placed l g = take l.positional g.positional

abbrev pub unplaced : Layout → Arguments → List Value
unplaced l g = drop l.positional g.positional

-- the value of a parameter's slot: the positional argument at its place, else the keyword argument, else its default
abbrev pub bound_at : Layout → Names → List Value → Arguments → ℕ → Option Value
bound_at l names ds g i =
    option_or (slice_get (placed l g) i) (option_or (named_at l names g.named i) (default_at l.ranks ds i))

-- all slots of a frame, except the slots of `*name` and `**name`
abbrev pub bound_row : Layout → Names → List Value → Arguments → List (Option Value)
bound_row l names ds g = row (bound_at l names ds g) (length names)

-- a keyword value can be taken: by its parameter, which gets no positional one, or by `**name`
abbrev pub IsTaken : Layout → ℕ → Option ℕ → Type 0
IsTaken l from None = is_some l.names ≡ true
IsTaken l from (Some i) = from ≤ i

abbrev pub AreTaken : Layout → Names → ℕ → List KeywordArgument → Type 0
AreTaken l names from [] = Unit {0}
AreTaken l names from (n ∷ ns) = IsTaken l from (keyword_slot l names n) × AreTaken l names from ns

-- the arguments of a call fit a layout: none is left over, no parameter gets two, each that needs one gets it
pub record FitsLayout (l : Layout) (names : Names) (ds : List Value) (g : Arguments) : Type 0 where
  pub places : l.rest ≡ None → unplaced l g ≡ []
  pub taken : AreTaken l names (length (placed l g)) g.named
  pub defaults : l.defaults ≤ length ds
  pub needed : (k i : ℕ) → slice_get l.needed k ≡ Some i → is_some (bound_at l names ds g i) ≡ true

-- arguments bound so: the slots, and the arguments that are left for `*name` and `**name`, if there are such parameters
pub record IsBoundBy (l : Layout) (names : Names) (ds : List Value) (g : Arguments) (b : Bound) : Type 0 where
  pub fits : FitsLayout l names ds g
  pub slots : b.slots ≡ bound_row l names ds g
  pub rest : b.rest ≡ l.rest
  pub more : b.more.now ≡ unplaced l g
  pub others : b.names ≡ l.names
  pub left : all_named b.left.items ≡ extra_in_order l names g.named

-- slots with a share in one, if there is such a slot: the share is made first
abbrev pub with_share : ℕ → Option ℕ → BoundArgument → List (Option Value) → Action (List (Option Value))
with_share line None x slots = give slots
with_share line (Some i) x slots = build_argument line x >>= λ v. give (slice_set slots i (Some v))

-- a call whose frame is made with these slots: it is paid for, then the definition is active
abbrev pub entering_with : {A : Type 0} → ℕ → ℕ → ℕ → Value → List (Option Value) → (Site → Action A) → Action A
entering_with line file number parent slots k = do
  frame ← build line 1 (cell.Frame (record { file = file; block = 1 + number; parent = Some parent; slots = slots }))
  _ ← begin file number
  k (record { file = file; frame = frame; line = line })

-- the same for bound arguments, after the tuple of `*name` and the dictionary of `**name` are made
abbrev pub entering_bound : {A : Type 0} → ℕ → ℕ → ℕ → Value → Bound → (Site → Action A) → Action A
entering_bound line file number parent b k = do
  slots ← with_share line b.rest (share.Rest b.more.now) b.slots
  all ← with_share line b.names (share.Names (all_named b.left.items)) slots
  entering_with line file number parent all k

-- so a call is entered whose parameters get these shares
abbrev pub HasBound : World → ℕ → ℕ → Value → List (Name × BoundArgument) → Bound → Type 0
HasBound w file number parent shares b =
    (line : ℕ) (s : State) → entering w line file number parent shares give s
    ≡ entering_bound line file number parent b give s

-- and the parameters get these shares
abbrev pub AreBound : World → ℕ → ℕ → Value → List Parameter → List Value → Arguments → Bound → Type 0
AreBound w file number parent ps ds g b =
    (shares : List (Name × BoundArgument)) × (bound_to ps ds g ≡ Some shares) × HasBound w file number parent shares b

-- the arguments of a call of this function are bound so
abbrev pub AreBoundFor : World → State → Called → Arguments → Bound → Type 0
AreBoundFor w s f g b =
    AreBound w f.file f.number f.frame f.definition.parameters.now (defaults_in (content w.setting s f.value)) g b

-- slots with keyword values: the first of each name
abbrev pub with_slot : Option ℕ → Value → List (Option Value) → List (Option Value)
with_slot None v xs = xs
with_slot (Some i) v xs = slice_set xs i (Some v)

abbrev pub with_named : Layout → Names → List KeywordArgument → List (Option Value) → List (Option Value)
with_named l names [] xs = xs
with_named l names (n ∷ ns) xs = with_slot (keyword_slot l names n) n.value (with_named l names ns xs)

-- slots with positional values, from a slot on
abbrev pub with_plain : ℕ → List Value → List (Option Value) → List (Option Value)
with_plain i [] xs = xs
with_plain i (v ∷ vs) xs = with_plain (suc i) vs (slice_set xs i (Some v))

-- whether a slot is bound
abbrev pub is_set : List (Option Value) → ℕ → Bool
is_set xs i = is_some (joined (slice_get xs i))
