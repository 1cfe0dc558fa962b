-- Keys: on them, to be the same key is to be equal.
use Rattle.std.proofs.Common.{◌≡◌, ◌⊎◌, inl, inr, ℕ, zero, suc, ◌+◌, ◌-◌, ◌<◌, ◌≤◌, nat_eq, nat_lt, Bool, true, false, ◌&&◌, List, [], ◌∷◌, length, slice_get, Option, Some, None, if◌then◌else◌, refl, ap, sym, ◌∙◌, arith}
use Rattle.std.specs.List.{list_all}
use Rattle.std.specs.Bool.{beq}
use Rattle.std.specs.Ordering.{int_eq}
use Rattle.std.specs.Cmp.Lexicographic.{pointwise}
use Rattle.std.proofs.lemmas.Bool.{le-ltb, ltb-true, ltb-false}
use Rattle.star_store.specs.declared.values.Value.{Value}
use Rattle.star_store.specs.declared.values.Value.TheVariants as value
use Rattle.star_store.specs.declared.values.Cell.{Cell}
use Rattle.star_store.specs.declared.values.Cell.TheVariants as cell
use Rattle.star_store.specs.declared.fault.StoreFault.TheVariants.{Steps}
use Rattle.star_store.specs.Spend.{Spend, Spent, Enough, Lacks, answer, visited, spend_then, all_places}
use Rattle.star_store.specs.Fields.{Fields, names_of, same_names, values_of}
use Rattle.star_store.specs.Key.{all_pass, is_key, key_cell, key_value, same_key, same_key_cell, same_key_fields, same_key_items, same_key_pair, same_key_place, same_key_value}
use Rattle.star_store.specs.Equal.{same, same_cells, same_fields, same_items, same_pair, same_place, same_values}
use Rattle.star_laws.specs.Keys.{Costs, OneIsKey}

-- a relation between a visiting test and an answer that passes from the parts of a comparison to the whole
record Passes (P : Spend Bool → Bool → Type 0) : Type 0 where
  answers : (b : Bool) → P (answer b) b
  visits : (f : Spend Bool) (b : Bool) → P f b → P (visited f) b
  follows : (f g : Spend Bool) (a b : Bool) → P f a → P g b → P (λ left. spend_then (f left) (λ c. if c then g else answer false)) (if a then b else false)

-- one of two tests passes
Either : Bool → Bool → Type 0
Either a b = (a ≡ true) ⊎ (b ≡ true)

-- items

all_at : (g : Value → Bool) (xs : List Value) (i : ℕ) (x : Value) → list_all g xs ≡ true → slice_get xs i ≡ Some x → g x ≡ true
all_at g [] i x h e = absurd cc
all_at g (y ∷ ys) zero x h e = let w : y ≡ x = cc in ap g (sym w) ∙ first (g y) (list_all g ys) h
  where
    first : (a b : Bool) → (a && b) ≡ true → a ≡ true
    first true b k = refl
    first false b k = k
all_at g (y ∷ ys) (suc i) x h e = all_at g ys i x (second (g y) (list_all g ys) h) e
  where
    second : (a b : Bool) → (a && b) ≡ true → b ≡ true
    second true b k = k
    second false b k = absurd cc

pair : (P : Spend Bool → Bool → Type 0) → Passes P → (f : Value → Value → Spend Bool) (s : Value → Value → Bool) (a b : Option Value) → ((x y : Value) → a ≡ Some x → b ≡ Some y → P (f x y) (s x y)) → P (same_pair f a b) (same_key_pair s a b)
pair P k f s (Some x) (Some y) h = h x y refl refl
pair P k f s (Some x) None h = k.answers true
pair P k f s None b h = k.answers true

places : (P : Spend Bool → Bool → Type 0) → Passes P → (f : Value → Value → Spend Bool) (s : Value → Value → Bool) (xs ys : List Value) → ((i : ℕ) → P (same_place f xs ys i) (same_key_place s xs ys i)) → (n i : ℕ) → P (all_places (same_place f xs ys) n i) (all_pass (same_key_place s xs ys) n i)
places P k f s xs ys h zero i = k.answers true
places P k f s xs ys h (suc n) i = k.follows (same_place f xs ys i) (all_places (same_place f xs ys) n (i + 1)) (same_key_place s xs ys i) (all_pass (same_key_place s xs ys) n (i + 1)) (h i) (places P k f s xs ys h n (i + 1))

of_lengths : (P : Spend Bool → Bool → Type 0) → Passes P → (e : Bool) (f : Spend Bool) (b : Bool) → P f b → P (if e then f else answer false) (if e then b else false)
of_lengths P k true f b h = h
of_lengths P k false f b h = k.answers false

-- the relation holds for the values below, if one of the two is a key
Below : (P : Spend Bool → Bool → Type 0) → (Value → Value → Spend Bool) → (Value → Value → Bool) → (Value → Bool) → Type 0
Below P f s g = (x y : Value) → Either (g x) (g y) → P (f x y) (s x y)

items : (P : Spend Bool → Bool → Type 0) → Passes P → (f : Value → Value → Spend Bool) (s : Value → Value → Bool) (g : Value → Bool) → Below P f s g → (xs ys : List Value) → Either (list_all g xs) (list_all g ys) → P (same_items f xs ys) (same_key_items s xs ys)
unfolding Below Either
items P k f s g h xs ys e = of_lengths P k (nat_eq (length xs) (length ys)) (all_places (same_place f xs ys) (length xs) 0) (all_pass (same_key_place s xs ys) (length xs) 0) (places P k f s xs ys (λ i. pair P k f s (slice_get xs i) (slice_get ys i) (λ x y a b. h x y (one e i x y a b))) (length xs) 0)
  where
    one : (list_all g xs ≡ true) ⊎ (list_all g ys ≡ true) → (i : ℕ) (x y : Value) → slice_get xs i ≡ Some x → slice_get ys i ≡ Some y → (g x ≡ true) ⊎ (g y ≡ true)
    one (inl e) i x y a b = inl (all_at g xs i x e a)
    one (inr e) i x y a b = inr (all_at g ys i y e b)

-- structs: names first
of_names : (P : Spend Bool → Bool → Type 0) → Passes P → (b : Bool) (m : Spend Bool) (c : Bool) → P m c → P (if b then m else answer false) (b && c)
of_names P k true m c h = h
of_names P k false m c h = k.answers false

fields : (P : Spend Bool → Bool → Type 0) → Passes P → (f : Value → Value → Spend Bool) (s : Value → Value → Bool) (g : Value → Bool) → Below P f s g → (xs ys : Fields) → Either (list_all g (values_of xs)) (list_all g (values_of ys)) → P (same_fields f xs ys) (same_key_fields s xs ys)
fields P k f s g h xs ys e = of_names P k (same_names (names_of xs) (names_of ys)) (same_items f (values_of xs) (values_of ys)) (same_key_items s (values_of xs) (values_of ys)) (items P k f s g h (values_of xs) (values_of ys) e)

-- cells

-- a cell that is a key is a string, a tuple or a struct
key_is : (Q : Option Cell → Type 0) (g : Value → Bool) → ((t : List ℕ) → Q (Some (cell.Text t))) → ((xs : List Value) → Q (Some (cell.Tuple xs))) → ((fs : Fields) → Q (Some (cell.Struct fs))) → (c : Option Cell) → key_cell g c ≡ true → Q c
key_is Q g ht hx hs (Some (cell.Text t)) e = ht t
key_is Q g ht hx hs (Some (cell.Tuple xs)) e = hx xs
key_is Q g ht hx hs (Some (cell.Struct fs)) e = hs fs
key_is Q g ht hx hs (Some (cell.Range r)) e = absurd cc
key_is Q g ht hx hs (Some (cell.List xs)) e = absurd cc
key_is Q g ht hx hs (Some (cell.Dict es)) e = absurd cc
key_is Q g ht hx hs (Some (cell.Set es)) e = absurd cc
key_is Q g ht hx hs (Some (cell.Func d)) e = absurd cc
key_is Q g ht hx hs (Some (cell.Frame d)) e = absurd cc
key_is Q g ht hx hs (Some (cell.Bound m v)) e = absurd cc
key_is Q g ht hx hs None e = absurd cc

cells : (P : Spend Bool → Bool → Type 0) → Passes P → (look : Value → Option Cell) (f : Value → Value → Spend Bool) (s : Value → Value → Bool) (g : Value → Bool) → Below P f s g → (one : Bool) (c d : Option Cell) → Either (key_cell g c) (key_cell g d) → P (same_cells look f one c d) (same_key_cell s c d)
unfolding Either
cells P k look f s g h one (Some (cell.Text t)) (Some (cell.Text u)) e = k.answers (pointwise nat_eq t u)
cells P k look f s g h one (Some (cell.Text t)) _ e = k.answers false
cells P k look f s g h one (Some (cell.Tuple xs)) (Some (cell.Tuple ys)) e = items P k f s g h xs ys e
cells P k look f s g h one (Some (cell.Tuple xs)) _ e = k.answers false
cells P k look f s g h one (Some (cell.Struct xs)) (Some (cell.Struct ys)) e = fields P k f s g h xs ys e
cells P k look f s g h one (Some (cell.Struct xs)) _ e = k.answers false
cells P k look f s g h one c d (inl e) = absurd cc
cells P k look f s g h one (Some (cell.Range r)) d (inr e) = key_is (λ d. P (same_cells look f one (Some (cell.Range r)) d) (same_key_cell s (Some (cell.Range r)) d)) g (λ t. k.answers false) (λ xs. k.answers false) (λ fs. k.answers false) d e
cells P k look f s g h one (Some (cell.List zs)) d (inr e) = key_is (λ d. P (same_cells look f one (Some (cell.List zs)) d) (same_key_cell s (Some (cell.List zs)) d)) g (λ t. k.answers false) (λ xs. k.answers false) (λ fs. k.answers false) d e
cells P k look f s g h one (Some (cell.Dict es)) d (inr e) = key_is (λ d. P (same_cells look f one (Some (cell.Dict es)) d) (same_key_cell s (Some (cell.Dict es)) d)) g (λ t. k.answers false) (λ xs. k.answers false) (λ fs. k.answers false) d e
cells P k look f s g h one (Some (cell.Set es)) d (inr e) = key_is (λ d. P (same_cells look f one (Some (cell.Set es)) d) (same_key_cell s (Some (cell.Set es)) d)) g (λ t. k.answers false) (λ xs. k.answers false) (λ fs. k.answers false) d e
cells P k look f s g h one (Some (cell.Func r)) d (inr e) = key_is (λ d. P (same_cells look f one (Some (cell.Func r)) d) (same_key_cell s (Some (cell.Func r)) d)) g (λ t. k.answers false) (λ xs. k.answers false) (λ fs. k.answers false) d e
cells P k look f s g h one (Some (cell.Frame r)) d (inr e) = key_is (λ d. P (same_cells look f one (Some (cell.Frame r)) d) (same_key_cell s (Some (cell.Frame r)) d)) g (λ t. k.answers false) (λ xs. k.answers false) (λ fs. k.answers false) d e
cells P k look f s g h one (Some (cell.Bound m v)) d (inr e) = key_is (λ d. P (same_cells look f one (Some (cell.Bound m v)) d) (same_key_cell s (Some (cell.Bound m v)) d)) g (λ t. k.answers false) (λ xs. k.answers false) (λ fs. k.answers false) d e
cells P k look f s g h one None d (inr e) = k.answers false

-- values

values : (P : Spend Bool → Bool → Type 0) → Passes P → (look : Value → Option Cell) (f : Value → Value → Spend Bool) (s : Value → Value → Bool) (g : Value → Bool) → Below P f s g → (x y : Value) → Either (key_value look g x) (key_value look g y) → P (same_values look f x y) (same_key_value look s x y)
unfolding Either
values P k look f s g h value.NoneValue value.NoneValue e = k.answers true
values P k look f s g h value.NoneValue (value.Bool c) e = k.answers false
values P k look f s g h value.NoneValue (value.Int n) e = k.answers false
values P k look f s g h value.NoneValue (value.Builtin c) e = k.answers false
values P k look f s g h value.NoneValue (value.Ref m a) e = k.answers false
values P k look f s g h (value.Bool b) value.NoneValue e = k.answers false
values P k look f s g h (value.Bool b) (value.Bool c) e = k.answers (beq b c)
values P k look f s g h (value.Bool b) (value.Int n) e = k.answers false
values P k look f s g h (value.Bool b) (value.Builtin c) e = k.answers false
values P k look f s g h (value.Bool b) (value.Ref m a) e = k.answers false
values P k look f s g h (value.Int i) value.NoneValue e = k.answers false
values P k look f s g h (value.Int i) (value.Bool c) e = k.answers false
values P k look f s g h (value.Int i) (value.Int n) e = k.answers (int_eq i n)
values P k look f s g h (value.Int i) (value.Builtin c) e = k.answers false
values P k look f s g h (value.Int i) (value.Ref m a) e = k.answers false
values P k look f s g h (value.Builtin b) value.NoneValue e = k.answers false
values P k look f s g h (value.Builtin b) (value.Bool c) e = k.answers false
values P k look f s g h (value.Builtin b) (value.Int n) e = k.answers false
values P k look f s g h (value.Builtin b) (value.Builtin c) (inl e) = absurd cc
values P k look f s g h (value.Builtin b) (value.Builtin c) (inr e) = absurd cc
values P k look f s g h (value.Builtin b) (value.Ref m a) e = k.answers false
values P k look f s g h (value.Ref m a) value.NoneValue e = k.answers false
values P k look f s g h (value.Ref m a) (value.Bool c) e = k.answers false
values P k look f s g h (value.Ref m a) (value.Int n) e = k.answers false
values P k look f s g h (value.Ref m a) (value.Builtin c) e = k.answers false
values P k look f s g h (value.Ref m a) (value.Ref l b) e = cells P k look f s g h (nat_eq m l && nat_eq a b) (look (value.Ref m a)) (look (value.Ref l b)) e

no_key : (look : Value → Option Cell) (x y : Value) → OneIsKey look 0 x y → ⊥
unfolding is_key
no_key look x y (inl e) = cc
no_key look x y (inr e) = cc

-- equality answers whether the keys are the same

Agrees : Spend Bool → Bool → Type 0
Agrees f b = (steps left : ℕ) (a : Bool) → f steps ≡ Enough a left → a ≡ b

agrees : Passes Agrees
unfolding Agrees
agrees = record {
  answers = λ b steps left a h. sym (one b a steps left h);
  visits = λ f b h steps left a e. paid f b h steps left a (nat_lt steps 1) e;
  follows = λ f g a b h l steps left c e. then_one f g a b h l steps left c (f steps) refl e;
}
  where
    one : (b a : Bool) (m n : ℕ) → Enough b m ≡ Enough a n → b ≡ a
    one b a m n h = cc

    paid : (f : Spend Bool) (b : Bool) → ((steps left : ℕ) (a : Bool) → f steps ≡ Enough a left → a ≡ b) → (steps left : ℕ) (a c : Bool) → (if c then Lacks Steps steps else f (steps - 1)) ≡ Enough a left → a ≡ b
    paid f b h steps left a true e = absurd cc
    paid f b h steps left a false e = h (steps - 1) left a e

    then_one : (f g : Spend Bool) (a b : Bool) → ((steps left : ℕ) (c : Bool) → f steps ≡ Enough c left → c ≡ a) → ((steps left : ℕ) (c : Bool) → g steps ≡ Enough c left → c ≡ b) → (steps left : ℕ) (c : Bool) (o : Spent Bool) → f steps ≡ o → spend_then o (λ c. if c then g else answer false) ≡ Enough c left → c ≡ (if a then b else false)
    then_one f g a b h l steps left c (Enough true m) p e = l m left c e ∙ ap (λ q. if q then b else false) (h steps m true p)
    then_one f g a b h l steps left c (Enough false m) p e = sym (one false c m left e) ∙ ap (λ q. if q then b else false) (h steps m false p)
    then_one f g a b h l steps left c (Lacks code m) p e = absurd cc

equal_at : (look : Value → Option Cell) (n levels : ℕ) (x y : Value) → OneIsKey look n x y → Agrees (same look levels x y) (same_key look n x y)
unfolding Agrees Below Either is_key same same_key
equal_at look zero levels x y k = absurd (no_key look x y k)
equal_at look (suc n) zero x y k = λ steps left a e. absurd cc
equal_at look (suc n) (suc levels) x y k = agrees.visits (same_values look (same look levels) x y) (same_key_value look (same_key look n) x y) (values Agrees agrees look (same look levels) (same_key look n) (is_key look n) (equal_at look n levels) x y k)

pub equal_keys_are_the_same : (look : Value → Option Cell) (n levels steps left : ℕ) (x y : Value) (b : Bool) → OneIsKey look n x y → same look levels x y steps ≡ Enough b left → b ≡ same_key look n x y
unfolding Agrees
equal_keys_are_the_same look n levels steps left x y b k e = equal_at look n levels x y k steps left b e

-- equality has a price

Priced : Spend Bool → Bool → Type 0
Priced f b = (price : ℕ) × Costs f price b

priced : Passes Priced
unfolding Priced
priced = record {
  answers = λ b. (0, ((λ more. ap (Enough b) (let e : 0 + more ≡ more = omega arith in e)), (λ steps h. absurd (omega arith))));
  visits = λ f b h. (suc (h.0), ((λ more. paid f more (h.0) ∙ h.1.0 more), (λ steps l. short f (h.0) (h.1.1) steps l)));
  follows = then_one;
}
  where
    paid : (f : Spend Bool) (more price : ℕ) → visited f (suc price + more) ≡ f (price + more)
    paid f more price = ap (λ c. if c then Lacks Steps (suc price + more) else f (suc price + more - 1)) (le-ltb (suc price + more) 1 (omega arith)) ∙ ap f (let e : suc price + more - 1 ≡ price + more = omega arith in e)

    short : (f : Spend Bool) (price : ℕ) → ((steps : ℕ) → steps < price → f steps ≡ Lacks Steps 0) → (steps : ℕ) → steps < suc price → visited f steps ≡ Lacks Steps 0
    short f price h zero l = refl
    short f price h (suc m) l = ap (λ c. if c then Lacks Steps (suc m) else f (suc m - 1)) (le-ltb (suc m) 1 (omega arith)) ∙ h (suc m - 1) (omega arith)

    then_one : (f g : Spend Bool) (a b : Bool) → (price : ℕ) × Costs f price a → (price : ℕ) × Costs g price b → (price : ℕ) × Costs (λ left. spend_then (f left) (λ c. if c then g else answer false)) price (if a then b else false)
    then_one f g true b h l = (h.0 + l.0, ((λ more. whole more), (λ steps k. few steps k)))
      where
        whole : (more : ℕ) → spend_then (f (h.0 + l.0 + more)) (λ c. if c then g else answer false) ≡ Enough b more
        whole more = ap (λ m. spend_then (f m) (λ c. if c then g else answer false)) (let e : h.0 + l.0 + more ≡ h.0 + (l.0 + more) = omega arith in e) ∙ ap (λ o. spend_then o (λ c. if c then g else answer false)) (h.1.0 (l.0 + more)) ∙ l.1.0 more

        few : (steps : ℕ) → steps < h.0 + l.0 → spend_then (f steps) (λ c. if c then g else answer false) ≡ Lacks Steps 0
        few steps k = by (nat_lt steps (h.0)) refl
          where
            by : (e : Bool) → nat_lt steps (h.0) ≡ e → spend_then (f steps) (λ c. if c then g else answer false) ≡ Lacks Steps 0
            by true e = ap (λ o. spend_then o (λ c. if c then g else answer false)) (h.1.1 steps (ltb-true steps (h.0) e))
            by false e =
                let r : h.0 ≤ steps = ltb-false steps (h.0) e in
                ap (λ m. spend_then (f m) (λ c. if c then g else answer false)) (let e : steps ≡ h.0 + (steps - h.0) = omega arith in e) ∙ ap (λ o. spend_then o (λ c. if c then g else answer false)) (h.1.0 (steps - h.0)) ∙ l.1.1 (steps - h.0) (omega arith)
    then_one f g false b h l = (h.0, ((λ more. ap (λ o. spend_then o (λ c. if c then g else answer false)) (h.1.0 more)), (λ steps k. ap (λ o. spend_then o (λ c. if c then g else answer false)) (h.1.1 steps k))))

keys_at : (look : Value → Option Cell) (n levels : ℕ) (x y : Value) → OneIsKey look n x y → n ≤ levels → Priced (same look levels x y) (same_key look n x y)
unfolding Below Either is_key same same_key
keys_at look zero levels x y k l = absurd (no_key look x y k)
keys_at look (suc n) zero x y k l = absurd (omega arith)
keys_at look (suc n) (suc levels) x y k l = priced.visits (same_values look (same look levels) x y) (same_key_value look (same_key look n) x y) (values Priced priced look (same look levels) (same_key look n) (is_key look n) (λ a b e. keys_at look n levels a b e (omega arith)) x y k)

pub keys_have_equality : (look : Value → Option Cell) (n levels : ℕ) (x y : Value) → OneIsKey look n x y → n ≤ levels → (price : ℕ) × Costs (same look levels x y) price (same_key look n x y)
unfolding Priced
keys_have_equality look n levels x y k l = keys_at look n levels x y k l
