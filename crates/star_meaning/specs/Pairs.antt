-- The pairs that `dict` and `update` put into a dictionary.
use Rattle.std.specs.Prelude.{ℕ, Bool, true, false, List, [], ◌∷◌, Option, Some, None, if◌then◌else◌}
use Rattle.star_store.specs.declared.values.Value.{Value}
use Rattle.star_store.specs.declared.values.Cell.TheVariants as cell
use Rattle.star_meaning.specs.declared.fault.FaultCode.TheVariants as code
use Rattle.star_meaning.specs.Run.{Action, ◌>>=◌, give, fail, pay, each, all_of, seeing}
use Rattle.star_meaning.specs.Program.{Setting}
use Rattle.star_meaning.specs.Values.{Content, Held, with_content, count_of, take_items, take_all, check_key, new_dict}
use Rattle.star_meaning.specs.Subscript.{put_entry}
use Rattle.star_meaning.specs.Entries.{with_entry}
use Rattle.star_meaning.specs.declared.given.KeywordArgument.{KeywordArgument}
use Rattle.star_meaning.specs.Arguments.{key_for}

-- entries to put in, and whether their keys are keys already
pub record Pairs : Type 0 where
  pub are_keys : Bool
  pub pairs : List (Value × Value)

-- a pair's two items: all are taken, then there must be two
abbrev pub two_items : ℕ → List Value → Action (Value × Value)
two_items line (k ∷ v ∷ []) = give (k, v)
two_items line _ = fail code.BadValue line

abbrev pub pair_of : Setting → ℕ → Value → Action (Value × Value)
pair_of w line x = take_all w line x >>= two_items line

-- the entries of a dictionary, with 1 paid before each
abbrev pub taken_entries : ℕ → List (Value × Value) → Action (List (Value × Value))
taken_entries line es = each (λ e. pay line 1 >>= λ _. give e) es

-- the pairs of a dictionary are its entries; the pairs of another iterable are its items, which are iterables of two
-- items
abbrev pub pairs_in : Setting → ℕ → Value → ℕ → Content → Action Pairs
pairs_in w line x n (Held (cell.Dict es)) =
    taken_entries line es >>= λ ps. give (record { are_keys = true; pairs = ps })
pairs_in w line x n _ =
    take_items w line x n >>= λ xs. each (pair_of w line) xs >>= λ ps. give (record { are_keys = false; pairs = ps })

-- no argument has no pairs
unfoldable pub pairs_of : Setting → ℕ → Option Value → ℕ → Action Pairs
pairs_of w line None n = give (record { are_keys = true; pairs = [] })
pairs_of w line (Some x) n = with_content w x (pairs_in w line x n)

-- the number of items of the argument: `type` if it is not iterable
abbrev pub pairs_count : Setting → ℕ → Option Value → Action ℕ
pairs_count w line None = give 0
pairs_count w line (Some x) = count_of w line x

-- a key is checked unless it is one already
abbrev pub check_pair : Setting → ℕ → ℕ → Bool → Value → Action (Unit {0})
check_pair w levels line are_keys k = if are_keys then give tt else check_key w levels line k

-- puts a pair, or a keyword argument, into an existing dictionary
abbrev pub put_pair : Setting → ℕ → ℕ → Value → Bool → Value × Value → Action (Unit {0})
put_pair w levels line d are_keys e = check_pair w levels line are_keys e.0 >>= λ _. put_entry w line d e.0 e.1

abbrev pub put_named : Setting → ℕ → Value → KeywordArgument → Action (Unit {0})
put_named w line d n = key_for line n >>= λ k. put_entry w line d k n.value

-- puts all pairs, then all keyword arguments, into an existing dictionary
unfoldable pub put_pairs : Setting → ℕ → ℕ → Value → Pairs → List KeywordArgument → Action (Unit {0})
put_pairs w levels line d ps ns =
    all_of (put_pair w levels line d ps.are_keys) ps.pairs >>= λ _. all_of (put_named w line d) ns

-- the entries of a new dictionary with a pair, or a named value, put in
abbrev pub with_pair : Setting → ℕ → ℕ → Bool → List (Value × Value) → Value × Value → Action (List (Value × Value))
with_pair w levels line are_keys es e =
    check_pair w levels line are_keys e.0 >>= λ _. seeing (λ s. give (with_entry w s es e))

abbrev pub with_pairs : Setting → ℕ → ℕ → Bool → List (Value × Value) → List (Value × Value)
    → Action (List (Value × Value))
with_pairs w levels line are_keys es [] = give es
with_pairs w levels line are_keys es (e ∷ ps) =
    with_pair w levels line are_keys es e >>= λ fs. with_pairs w levels line are_keys fs ps

abbrev pub with_named : Setting → ℕ → List (Value × Value) → List KeywordArgument → Action (List (Value × Value))
with_named w line es [] = give es
with_named w line es (n ∷ ns) =
    key_for line n >>= λ k. seeing (λ s. with_named w line (with_entry w s es (k, n.value)) ns)

-- a new dictionary of pairs and named values
unfoldable pub dict_of : Setting → ℕ → ℕ → Pairs → List KeywordArgument → Action Value
dict_of w levels line ps ns =
    with_pairs w levels line ps.are_keys [] ps.pairs >>= λ es. with_named w line es ns >>= new_dict line

-- `update`: the argument is iterable, the write guard, all pairs, then the puts
unfoldable pub update_with : Setting → ℕ → ℕ → Value → Option Value → List KeywordArgument → Action (Unit {0})
    → Action (Unit {0})
update_with w levels line d x ns guarded = do
  n ← pairs_count w line x
  _ ← guarded
  ps ← pairs_of w line x n
  put_pairs w levels line d ps ns
