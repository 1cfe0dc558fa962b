-- Values that are all strings.
use Rattle.std.proofs.Common.{◌≡◌, List, [], ◌∷◌, ℕ, true, false, Option, Some, None, is_some, refl, ap}
use Rattle.star_store.specs.declared.values.Value.{Value}
use Rattle.star_store.specs.declared.values.Cell.TheVariants as cell
use Rattle.star_meaning.specs.Run.{State}
use Rattle.star_meaning.specs.Program.{Setting}
use Rattle.star_meaning.specs.Arguments.{before_all}
use Rattle.star_machine.specs.Kinds.{bytes_of}
use Rattle.star_meaning.specs.TextMethods.{texts_of}
use Rattle.star_meaning.specs.Values.{Content, Nothing, Truth, Number, BuiltInFunction, Held, Nowhere, content, text_of}
use Rattle.star_method.specs.Ends.{bytes_each}

before_some : (c : Content) (r : Option (List (List ℕ))) (us : List (List ℕ)) → (is_some r ≡ true → r ≡ Some us) → is_some (before_all (text_of c) r) ≡ true → before_all (text_of c) r ≡ Some (bytes_of c ∷ us)
before_some (Held (cell.Text t)) (Some ts) us f h = ap (before_all (Some t)) (f refl)
before_some (Held (cell.Text t)) None us f h = cc
before_some (Held (cell.Range q)) r us f h = cc
before_some (Held (cell.Tuple xs)) r us f h = cc
before_some (Held (cell.List xs)) r us f h = cc
before_some (Held (cell.Dict es)) r us f h = cc
before_some (Held (cell.Func g)) r us f h = cc
before_some (Held (cell.Frame g)) r us f h = cc
before_some (Held (cell.Bound m v)) r us f h = cc
before_some (Held (cell.Struct fs)) r us f h = cc
before_some (Held (cell.Set es)) r us f h = cc
before_some Nothing r us f h = cc
before_some (Truth b) r us f h = cc
before_some (Number n) r us f h = cc
before_some (BuiltInFunction b) r us f h = cc
before_some Nowhere r us f h = cc

pub texts_each : (w : Setting) (s : State) (xs : List Value) → is_some (texts_of w s xs) ≡ true → texts_of w s xs ≡ Some (bytes_each w s xs)
texts_each w s [] h = refl
texts_each w s (x ∷ xs) h = before_some (content w s x) (texts_of w s xs) (bytes_each w s xs) (texts_each w s xs) h

no_some : (r : Option (List (List ℕ))) → is_some r ≡ false → r ≡ None
no_some None h = refl
no_some (Some ts) h = cc

pub no_texts : (w : Setting) (s : State) (xs : List Value) → is_some (texts_of w s xs) ≡ false → texts_of w s xs ≡ None
no_texts w s xs h = no_some (texts_of w s xs) h

some_before : (o : Option (List ℕ)) (r : Option (List (List ℕ))) → is_some o ≡ true → is_some (before_all o r) ≡ is_some r
some_before (Some t) (Some ts) h = refl
some_before (Some t) None h = refl
some_before None r h = cc

none_before : (o : Option (List ℕ)) (r : Option (List (List ℕ))) → is_some o ≡ false → is_some (before_all o r) ≡ false
none_before (Some t) r h = cc
none_before None (Some ts) h = refl
none_before None None h = refl

-- one more value, which is a string or not
pub some_more : (w : Setting) (s : State) (x : Value) (xs : List Value) → is_some (text_of (content w s x)) ≡ true → is_some (texts_of w s (x ∷ xs)) ≡ is_some (texts_of w s xs)
some_more w s x xs h = some_before (text_of (content w s x)) (texts_of w s xs) h

pub none_more : (w : Setting) (s : State) (x : Value) (xs : List Value) → is_some (text_of (content w s x)) ≡ false → is_some (texts_of w s (x ∷ xs)) ≡ false
none_more w s x xs h = none_before (text_of (content w s x)) (texts_of w s xs) h
