-- Operations on values ask for no outlines.
use Rattle.std.proofs.Common.{◌≡◌, ℕ, List, [], ◌∷◌, ◌++◌, cond, nat_eq, length, Option, Some, refl, ap, ◌∙◌, Bool}
use Rattle.star_store.specs.declared.values.Cell.TheVariants as cell
use Rattle.star_tree.specs.declared.tree.BinaryOperator.TheVariants as binary
use Rattle.star_meaning.specs.declared.given.KeywordArgument.{KeywordArgument}
use Rattle.star_meaning.specs.Run.{Action, ◌>>=◌, check, give, pay}
use Rattle.star_store.specs.declared.values.Value.{Value}
use Rattle.star_store.specs.declared.names.BuiltIn.{BuiltIn}
use Rattle.star_store.specs.declared.names.Method.{Method}
use Rattle.star_store.specs.declared.arena.write.Change.{Change}
use Rattle.star_tree.specs.declared.tree.BinaryOperator.{BinaryOperator}
use Rattle.star_tree.specs.declared.tree.UnaryOperator.{UnaryOperator}
use Rattle.star_tree.specs.declared.tree.Comparator.{Comparator}
use Rattle.star_outline.specs.Outlines.{Outline}
use Rattle.star_meaning.specs.declared.given.Arguments.{Arguments}
use Rattle.star_meaning.specs.Arguments.{EvaluatedArgument}
use Rattle.star_meaning.specs.Program.{Setting}
use Rattle.star_needs.proofs.Outlines.{with_outlines}
use Rattle.star_meaning.specs.Arguments.{given, name_key}
use Rattle.std.specs.declared.cmp.Ordering.{Ordering}
use Rattle.star_meaning.specs.BuiltIns.{call_built_in}
use Rattle.star_meaning.specs.Orders.{asked_for_best, asked_to_sort, best_by, sort_by}
use Rattle.star_meaning.specs.Expressions.{fresh_entries}
use Rattle.star_meaning.specs.ListMethods.{extend}
use Rattle.star_meaning.specs.Attributes.{attribute}
use Rattle.star_meaning.specs.declared.merge.Merge.{Merge}
use Rattle.star_meaning.specs.declared.merge.Merge.TheVariants as merge
use Rattle.star_meaning.specs.Sets.{augment_set, merge_into, merge_new, relate, take_elements}
use Rattle.star_meaning.specs.SetMethods.{call_on_set}
use Rattle.star_meaning.specs.Methods.{call_method}
use Rattle.star_meaning.specs.Operators.{comparison, on_contents, on_others, operate, prefix}
use Rattle.star_meaning.specs.Percent.{Between, Format, Name, Named, Position, filled, format_letter, is_letter, letter_in, named_text, next_text, opens, percent, put_in, value_for}
use Rattle.star_meaning.specs.declared.fault.FaultCode.TheVariants as code
use Rattle.star_dialect.specs.declared.Dialect.{Dialect}
use Rattle.star_dialect.specs.declared.Dialect.TheVariants as dialect
use Rattle.star_meaning.specs.Pairs.{dict_of, pairs_of, put_pairs, update_with}
use Rattle.star_meaning.specs.Statements.{augment_content, augmented}
use Rattle.star_meaning.specs.Subscript.{index, put_entry, set_index, slice}
use Rattle.star_meaning.specs.Values.{BuiltInFunction, Content, Held, Nothing, Nowhere, Number, Truth, change, check_key, compare, count_of, encoded, equal, guard, is_true, iterate, new_text, repr, str, take_all, take_item, want_int, with_content}

pub same-given : (os : List (Option Outline)) (w : Setting) (line : ℕ) (ps : List EvaluatedArgument) → given (with_outlines os w) line ps ≡ given w line ps
unfolding given name_key count_of take_item
same-given os w line ps = refl

pub same-call_built_in : (os : List (Option Outline)) (w : Setting) (levels line : ℕ) (b : BuiltIn) (g : Arguments) → call_built_in (with_outlines os w) levels line b g ≡ call_built_in w levels line b g
unfolding call_built_in operate prefix comparison pairs_of put_pairs dict_of update_with index put_entry set_index slice count_of take_item iterate is_true equal compare check_key repr encoded str guard change extend name_key take_elements merge_new merge_into relate call_on_set
same-call_built_in os w levels line b g = refl

pub same-asked_to_sort : (os : List (Option Outline)) (w : Setting) (line : ℕ) (g : Arguments) → asked_to_sort (with_outlines os w) line g ≡ asked_to_sort w line g
unfolding count_of take_item
same-asked_to_sort os w line g = refl

pub same-asked_for_best : (os : List (Option Outline)) (w : Setting) (line : ℕ) (g : Arguments) → asked_for_best (with_outlines os w) line g ≡ asked_for_best w line g
unfolding count_of take_item
same-asked_for_best os w line g = refl

pub same-sort_by : (os : List (Option Outline)) (w : Setting) (levels line : ℕ) (backwards : Bool) (ps : List (Value × Value)) → sort_by (with_outlines os w) levels line backwards ps ≡ sort_by w levels line backwards ps
unfolding compare
same-sort_by os w levels line backwards ps = refl

pub same-best_by : (os : List (Option Outline)) (w : Setting) (levels line : ℕ) (better : Ordering → Bool) (ps : List (Value × Value)) → best_by (with_outlines os w) levels line better ps ≡ best_by w levels line better ps
unfolding compare
same-best_by os w levels line better ps = refl

pub same-call_method : (os : List (Option Outline)) (w : Setting) (levels line : ℕ) (b : Method) (x : Value) (g : Arguments) → call_method (with_outlines os w) levels line b x g ≡ call_method w levels line b x g
unfolding call_method call_built_in attribute operate prefix comparison pairs_of put_pairs dict_of update_with index put_entry set_index slice count_of take_item iterate is_true equal compare check_key repr encoded str guard change extend name_key take_elements merge_new merge_into relate call_on_set
same-call_method os w levels line b x g = refl

pub same-attribute : (os : List (Option Outline)) (w : Setting) (line : ℕ) (x : Value) (name : List ℕ) → attribute (with_outlines os w) line x name ≡ attribute w line x name
unfolding attribute
same-attribute os w line x name = refl

same-letter_in : (os : List (Option Outline)) (w : Setting) (levels line : ℕ) (d : Dialect) (letter : ℕ) (x : Value) → letter_in d (with_outlines os w) levels line letter x ≡ letter_in d w levels line letter x
unfolding str repr
same-letter_in os w levels line dialect.Core letter x = refl
same-letter_in os w levels line dialect.Extended letter x = refl

same-format_letter : (os : List (Option Outline)) (w : Setting) (levels line : ℕ) (letter : ℕ) (x : Value) → format_letter (with_outlines os w) levels line letter x ≡ format_letter w levels line letter x
unfolding str repr
same-format_letter os w levels line letter x =
    ap (λ m. cond (nat_eq letter 115) (str w levels line x) (cond (nat_eq letter 114) (repr w levels line x) (cond (nat_eq letter 100) (want_int w line x >>= λ n. repr w levels line x) m)))
    (same-letter_in os w levels line w.language.dialect letter x)

same-next_text : (os : List (Option Outline)) (w : Setting) (levels line : ℕ) (letter : ℕ) (xs : List Value) → next_text (with_outlines os w) levels line letter xs ≡ next_text w levels line letter xs
same-next_text os w levels line letter [] = refl
same-next_text os w levels line letter (x ∷ xs) = ap (λ m. m >>= λ t. give (t, xs)) (same-format_letter os w levels line letter x)

same-value_for : (os : List (Option Outline)) (w : Setting) (line : ℕ) (k : List ℕ) (c : Content) → value_for (with_outlines os w) line k c ≡ value_for w line k c
same-value_for os w line k c = refl

same-named_text : (os : List (Option Outline)) (w : Setting) (levels line : ℕ) (y : Value) (k : List ℕ) (letter : ℕ) → named_text (with_outlines os w) levels line y k letter ≡ named_text w levels line y k letter
same-named_text os w levels line y k letter =
    λ i. check code.BadValue line (is_letter letter) >>= λ _. with_content w y (λ c. same-value_for os w line k c i) >>= λ x. same-format_letter os w levels line letter x i

same-filled : (os : List (Option Outline)) (w : Setting) (levels line : ℕ) (y : Value) (p : Position) (bs : List ℕ) (xs : List Value) (out : List ℕ) → filled (with_outlines os w) levels line y p bs xs out ≡ filled w levels line y p bs xs out
same-filled os w levels line y Between [] [] out = refl
same-filled os w levels line y Between [] (x ∷ xs) out = refl
same-filled os w levels line y Format [] xs out = refl
same-filled os w levels line y (Name k) [] xs out = refl
same-filled os w levels line y (Named k) [] xs out = refl
same-filled os w levels line y Between (b ∷ bs) xs out =
    λ i. cond (nat_eq b 37) (same-filled os w levels line y Format bs xs out i) (same-filled os w levels line y Between bs xs (out ++ b ∷ []) i)
same-filled os w levels line y Format (b ∷ bs) xs out =
    λ i. cond (nat_eq b 37) (same-filled os w levels line y Between bs xs (out ++ b ∷ []) i)
    (cond (opens w.language.dialect b) (same-filled os w levels line y (Name []) bs xs out i)
    (same-next_text os w levels line b xs i >>= λ r. same-filled os w levels line y Between bs r.1 (out ++ r.0) i))
same-filled os w levels line y (Name k) (b ∷ bs) xs out =
    λ i. cond (nat_eq b 41) (same-filled os w levels line y (Named k) bs xs out i) (same-filled os w levels line y (Name (k ++ b ∷ [])) bs xs out i)
same-filled os w levels line y (Named k) (b ∷ bs) xs out =
    λ i. same-named_text os w levels line y k b i >>= λ t. same-filled os w levels line y Between bs [] (out ++ t) i

same-percent : (os : List (Option Outline)) (w : Setting) (levels line : ℕ) (t : List ℕ) (d : Content) (y : Value) → percent (with_outlines os w) levels line t d y ≡ percent w levels line t d y
same-percent os w levels line t d y = ap (λ m. pay line (length t) >>= λ _. m >>= new_text line) (same-filled os w levels line y Between t (put_in d y) [])

same-remainder : (os : List (Option Outline)) (w : Setting) (levels line : ℕ) (c d : Content) (y : Value) → on_others (with_outlines os w) levels line binary.Modulo c d y ≡ on_others w levels line binary.Modulo c d y
same-remainder os w levels line Nothing d y = refl
same-remainder os w levels line (Truth b) d y = refl
same-remainder os w levels line (Number z) d y = refl
same-remainder os w levels line (BuiltInFunction b) d y = refl
same-remainder os w levels line Nowhere d y = refl
same-remainder os w levels line (Held (cell.Text t)) d y = same-percent os w levels line t d y
same-remainder os w levels line (Held (cell.Range r)) d y = refl
same-remainder os w levels line (Held (cell.Tuple xs)) d y = refl
same-remainder os w levels line (Held (cell.List xs)) d y = refl
same-remainder os w levels line (Held (cell.Dict es)) d y = refl
same-remainder os w levels line (Held (cell.Func f)) d y = refl
same-remainder os w levels line (Held (cell.Frame f)) d y = refl
same-remainder os w levels line (Held (cell.Bound m x)) d y = refl
same-remainder os w levels line (Held (cell.Struct fs)) d y = refl
same-remainder os w levels line (Held (cell.Set es)) d y = refl

same-on_others : (os : List (Option Outline)) (w : Setting) (levels line : ℕ) (op : BinaryOperator) (c d : Content) (y : Value) → on_others (with_outlines os w) levels line op c d y ≡ on_others w levels line op c d y
unfolding equal compare check_key repr str is_true count_of take_item guard change iterate take_elements merge_new
same-on_others os w levels line binary.Add c d y = refl
same-on_others os w levels line binary.Subtract c d y = refl
same-on_others os w levels line binary.Multiply c d y = refl
same-on_others os w levels line binary.FloorDivide c d y = refl
same-on_others os w levels line binary.ShiftLeft c d y = refl
same-on_others os w levels line binary.ShiftRight c d y = refl
same-on_others os w levels line binary.BitAnd c d y = refl
same-on_others os w levels line binary.BitXor c d y = refl
same-on_others os w levels line binary.BitOr c d y = refl
same-on_others os w levels line binary.Modulo c d y = same-remainder os w levels line c d y

same-on_contents : (os : List (Option Outline)) (w : Setting) (levels line : ℕ) (op : BinaryOperator) (c d : Content) (y : Value) → on_contents (with_outlines os w) levels line op c d y ≡ on_contents w levels line op c d y
same-on_contents os w levels line op (Number x) (Number z) y = refl
same-on_contents os w levels line op (Number x) Nothing y = same-on_others os w levels line op (Number x) Nothing y
same-on_contents os w levels line op (Number x) (Truth b) y = same-on_others os w levels line op (Number x) (Truth b) y
same-on_contents os w levels line op (Number x) (BuiltInFunction b) y = same-on_others os w levels line op (Number x) (BuiltInFunction b) y
same-on_contents os w levels line op (Number x) (Held h) y = same-on_others os w levels line op (Number x) (Held h) y
same-on_contents os w levels line op (Number x) Nowhere y = same-on_others os w levels line op (Number x) Nowhere y
same-on_contents os w levels line op Nothing d y = same-on_others os w levels line op Nothing d y
same-on_contents os w levels line op (Truth b) d y = same-on_others os w levels line op (Truth b) d y
same-on_contents os w levels line op (BuiltInFunction b) d y = same-on_others os w levels line op (BuiltInFunction b) d y
same-on_contents os w levels line op (Held h) d y = same-on_others os w levels line op (Held h) d y
same-on_contents os w levels line op Nowhere d y = same-on_others os w levels line op Nowhere d y

pub same-operate : (os : List (Option Outline)) (w : Setting) (levels line : ℕ) (op : BinaryOperator) (x y : Value) → operate (with_outlines os w) levels line op x y ≡ operate w levels line op x y
unfolding operate equal compare check_key repr str is_true count_of take_item guard change iterate take_elements merge_new
same-operate os w levels line op x y = λ i. with_content w x (λ c. with_content w y (λ d. same-on_contents os w levels line op c d y i))

pub same-prefix : (os : List (Option Outline)) (w : Setting) (line : ℕ) (op : UnaryOperator) (v : Value) → prefix (with_outlines os w) line op v ≡ prefix w line op v
unfolding prefix is_true
same-prefix os w line op v = refl

pub same-comparison : (os : List (Option Outline)) (w : Setting) (levels line : ℕ) (c : Comparator) (x y : Value) → comparison (with_outlines os w) levels line c x y ≡ comparison w levels line c x y
unfolding comparison equal compare check_key
same-comparison os w levels line c x y = refl

pub same-index : (os : List (Option Outline)) (w : Setting) (levels line : ℕ) (x i : Value) → index (with_outlines os w) levels line x i ≡ index w levels line x i
unfolding index check_key
same-index os w levels line x i = refl

pub same-put_entry : (os : List (Option Outline)) (w : Setting) (line : ℕ) (d k v : Value) → put_entry (with_outlines os w) line d k v ≡ put_entry w line d k v
unfolding put_entry guard change
same-put_entry os w line d k v = refl

pub same-set_index : (os : List (Option Outline)) (w : Setting) (levels line : ℕ) (x i v : Value) → set_index (with_outlines os w) levels line x i v ≡ set_index w levels line x i v
unfolding set_index put_entry guard change check_key
same-set_index os w levels line x i v = refl

pub same-slice : (os : List (Option Outline)) (w : Setting) (line : ℕ) (x : Value) (a b c : Option Value) → slice (with_outlines os w) line x a b c ≡ slice w line x a b c
unfolding slice
same-slice os w line x a b c = refl

pub same-take_item : (os : List (Option Outline)) (w : Setting) (line : ℕ) (v : Value) (i : ℕ) → take_item (with_outlines os w) line v i ≡ take_item w line v i
unfolding take_item count_of
same-take_item os w line v i = refl

pub same-take_all : (os : List (Option Outline)) (w : Setting) (line : ℕ) (v : Value) → take_all (with_outlines os w) line v ≡ take_all w line v
unfolding take_item count_of
same-take_all os w line v = refl

pub same-is_true : (os : List (Option Outline)) (w : Setting) (v : Value) → is_true (with_outlines os w) v ≡ is_true w v
unfolding is_true
same-is_true os w v = refl

pub same-iterate : (os : List (Option Outline)) (w : Setting) (line : ℕ) (v : Value) → iterate (with_outlines os w) line v ≡ iterate w line v
unfolding iterate count_of
same-iterate os w line v = refl

pub same-change : (os : List (Option Outline)) (w : Setting) (line : ℕ) (v : Value) (c : Change) → change (with_outlines os w) line v c ≡ change w line v c
unfolding change guard
same-change os w line v c = refl

pub same-check_key : (os : List (Option Outline)) (w : Setting) (levels line : ℕ) (k : Value) → check_key (with_outlines os w) levels line k ≡ check_key w levels line k
unfolding check_key
same-check_key os w levels line k = refl

ext : {A B : Type 0} (f g : A → B) → ((x : A) → f x ≡ g x) → f ≡ g
ext f g h = λ i x. h x i

same-extend : (os : List (Option Outline)) (w : Setting) (line : ℕ) (x y : Value) → extend (with_outlines os w) line x y ≡ extend w line x y
unfolding extend count_of take_item guard change
same-extend os w line x y = refl

same-guard : (os : List (Option Outline)) (w : Setting) (line : ℕ) (x : Value) → guard (with_outlines os w) line x ≡ guard w line x
unfolding guard
same-guard os w line x = refl

same-update_with : (os : List (Option Outline)) (w : Setting) (levels line : ℕ) (x : Value) (o : Option Value) (ns : List KeywordArgument) (a : Action (Unit {0})) → update_with (with_outlines os w) levels line x o ns a ≡ update_with w levels line x o ns a
unfolding update_with put_pairs pairs_of put_entry check_key count_of take_item guard change name_key
same-update_with os w levels line x o ns a = refl

same-augment_set : (os : List (Option Outline)) (w : Setting) (levels line : ℕ) (m : Merge) (x y : Value) → augment_set (with_outlines os w) levels line m x y ≡ augment_set w levels line m x y
unfolding merge_into take_elements put_entry check_key count_of take_item guard change
same-augment_set os w levels line m x y = refl

augments : (os : List (Option Outline)) (w : Setting) (levels line : ℕ) (op : BinaryOperator) (x y : Value) (c : Content) → augment_content (with_outlines os w) levels line op x y c ≡ augment_content w levels line op x y c
augments os w levels line binary.Add x y (Held (cell.List xs)) = ap (λ a. a >>= λ _. give x) (same-extend os w line x y)
augments os w levels line binary.BitOr x y (Held (cell.Dict es)) = ap (λ a. a >>= λ _. give x) (same-update_with os w levels line x (Some y) [] (guard (with_outlines os w) line x) ∙ ap (update_with w levels line x (Some y) []) (same-guard os w line x))
augments os w levels line binary.BitOr x y (Held (cell.Set es)) = same-augment_set os w levels line merge.Union x y
augments os w levels line binary.BitAnd x y (Held (cell.Set es)) = same-augment_set os w levels line merge.Intersection x y
augments os w levels line binary.Subtract x y (Held (cell.Set es)) = same-augment_set os w levels line merge.Difference x y
augments os w levels line binary.BitXor x y (Held (cell.Set es)) = same-augment_set os w levels line merge.SymmetricDifference x y
augments os w levels line op x y c = same-operate os w levels line op x y

pub same-augmented : (os : List (Option Outline)) (w : Setting) (levels line : ℕ) (op : BinaryOperator) (x y : Value) → augmented (with_outlines os w) levels line op x y ≡ augmented w levels line op x y
same-augmented os w levels line op x y = ap (λ f. with_content w x f) (ext _ _ (augments os w levels line op x y))

pub same-fresh_entries : (os : List (Option Outline)) (w : Setting) (levels line : ℕ) (es xs : List (Value × Value)) → fresh_entries (with_outlines os w) levels line es xs ≡ fresh_entries w levels line es xs
unfolding equal check_key
same-fresh_entries os w levels line es xs = refl
