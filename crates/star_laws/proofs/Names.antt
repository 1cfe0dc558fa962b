-- The names of the keyword arguments of a call differ.
use Rattle.std.proofs.Common.{◌≡◌, ℕ, zero, suc, Bool, true, false, not, ◌||◌, List, [], ◌∷◌, ◌++◌, slice_get, Some, refl, ap, sym, ◌∙◌}
use Rattle.std.proofs.lemmas.Slice.Eq.{bytes_eq-Decides}
use Rattle.star_store.specs.declared.values.Value.{Value}
use Rattle.star_outline.specs.Names.{same_name}
use Rattle.star_meaning.specs.declared.fault.FaultCode.{FaultCode}
use Rattle.star_meaning.specs.declared.fault.FaultCode.TheVariants as code
use Rattle.star_meaning.specs.declared.given.Arguments.{Arguments}
use Rattle.star_meaning.specs.declared.given.KeywordArgument.{KeywordArgument}
use Rattle.star_meaning.specs.Program.{Setting}
use Rattle.star_meaning.specs.Run.{Action, Done, Failed, Outcome, State, ◌>>=◌, and_then, check, give}
use Rattle.star_meaning.specs.Arguments.{EvaluatedArgument, comes_twice, given, is_given, named_of, positional_of, star_count, star_of, star_star_names, star_star_of, take_names, take_star}

neither : (a b : Bool) → (a || b) ≡ false → (a ≡ false) × (b ≡ false)
neither true b h = absurd cc
neither false b h = (refl, h)

given_first : (a b : Bool) → a ≡ true → (a || b) ≡ true
given_first true b h = refl
given_first false b h = absurd cc

given_later : (a b : Bool) → b ≡ true → (a || b) ≡ true
given_later true b h = refl
given_later false b h = h

given_at : (ns : List KeywordArgument) (j : ℕ) (n : KeywordArgument) (name : List ℕ) → slice_get ns j ≡ Some n → n.name ≡ name → is_given name ns ≡ true
given_at [] j n name e h = absurd cc
given_at (m ∷ ms) zero n name e h = let s : m ≡ n = cc in given_first (same_name m.name name) (is_given name ms) ((bytes_eq-Decides m.name name).1 (ap (λ (n : KeywordArgument). n.name) s ∙ h))
given_at (m ∷ ms) (suc j) n name e h = given_later (same_name m.name name) (is_given name ms) (given_at ms j n name e h)

all_differ : (ns : List KeywordArgument) → comes_twice ns ≡ false → (i j : ℕ) (m n : KeywordArgument) → slice_get ns i ≡ Some m → slice_get ns j ≡ Some n → m.name ≡ n.name → i ≡ j
all_differ [] h i j m n e f q = absurd cc
all_differ (x ∷ xs) h zero zero m n e f q = refl
all_differ (x ∷ xs) h zero (suc j) m n e f q =
    let s : x ≡ m = cc in
    let g : is_given x.name xs ≡ true = given_at xs j n x.name f (sym q ∙ ap (λ (n : KeywordArgument). n.name) (sym s)) in
    let k : is_given x.name xs ≡ false = (neither (is_given x.name xs) (comes_twice xs) h).0 in
    absurd cc
all_differ (x ∷ xs) h (suc i) zero m n e f q =
    let s : x ≡ n = cc in
    let g : is_given x.name xs ≡ true = given_at xs i m x.name e (q ∙ ap (λ (n : KeywordArgument). n.name) (sym s)) in
    let k : is_given x.name xs ≡ false = (neither (is_given x.name xs) (comes_twice xs) h).0 in
    absurd cc
all_differ (x ∷ xs) h (suc i) (suc j) m n e f q = ap suc (all_differ xs ((neither (is_given x.name xs) (comes_twice xs) h).1) i j m n e f q)

-- an action whose arguments have no name twice if it ends well
NamesOnce : Action Arguments → Type 0
NamesOnce m = (s t : State) (g : Arguments) → m s ≡ Done g t → comes_twice g.named ≡ false

after : {A : Type 0} (m : Action A) (f : A → Action Arguments) → ((x : A) → NamesOnce (f x)) → NamesOnce (m >>= f)
unfolding NamesOnce
after {A = A} m f h s t g e = by (m s) e
  where
    by : (o : Outcome A) → and_then o f ≡ Done g t → comes_twice g.named ≡ false
    by (Done x u) k = h x u t g k
    by (Failed fault lines) k = absurd cc

checked : (c : FaultCode) (line : ℕ) (ns : List KeywordArgument) (b : Bool) (xs : List Value) (s t : State) (g : Arguments) → comes_twice ns ≡ b → and_then (check c line (not b) s) (λ _. give (record { positional = xs; named = ns })) ≡ Done g t → comes_twice g.named ≡ false
checked c line ns true xs s t g e h = absurd cc
checked c line ns false xs s t g e h = let k : Done (record { positional = xs; named = ns }) s ≡ Done g t = h in ap comes_twice (sym (same ns xs g s t k)) ∙ e
  where
    same : (ns : List KeywordArgument) (xs : List Value) (g : Arguments) (s t : State) → Done (record { positional = xs; named = ns }) s ≡ Done g t → ns ≡ g.named
    same ns xs g s t k = let e : record { positional = xs; named = ns } ≡ g = cc in ap (λ (g : Arguments). g.named) e

last : (line : ℕ) (xs : List Value) (ns : List KeywordArgument) → NamesOnce (check code.Args line (not (comes_twice ns)) >>= λ _. give (record { positional = xs; named = ns }))
unfolding NamesOnce
last line xs ns s t g h = checked code.Args line ns (comes_twice ns) xs s t g refl h

no_name_twice : (w : Setting) (line : ℕ) (ps : List EvaluatedArgument) → NamesOnce (given w line ps)
unfolding given
no_name_twice w line ps =
    after (star_count w line (star_of ps)) (λ n. star_star_names w line (star_star_of ps) >>= λ names. take_star w line (star_of ps) n >>= λ xs. take_names line names >>= λ ns. check code.Args line (not (comes_twice (named_of ps ++ ns))) >>= λ _. give (record { positional = positional_of ps ++ xs; named = named_of ps ++ ns }))
    (λ n. after (star_star_names w line (star_star_of ps)) (λ names. take_star w line (star_of ps) n >>= λ xs. take_names line names >>= λ ns. check code.Args line (not (comes_twice (named_of ps ++ ns))) >>= λ _. give (record { positional = positional_of ps ++ xs; named = named_of ps ++ ns }))
    (λ names. after (take_star w line (star_of ps) n) (λ xs. take_names line names >>= λ ns. check code.Args line (not (comes_twice (named_of ps ++ ns))) >>= λ _. give (record { positional = positional_of ps ++ xs; named = named_of ps ++ ns }))
    (λ xs. after (take_names line names) (λ ns. check code.Args line (not (comes_twice (named_of ps ++ ns))) >>= λ _. give (record { positional = positional_of ps ++ xs; named = named_of ps ++ ns }))
    (λ ns. last line (positional_of ps ++ xs) (named_of ps ++ ns)))))

pub given_names_differ : (w : Setting) (line : ℕ) (ps : List EvaluatedArgument) (s t : State) (g : Arguments) → given w line ps s ≡ Done g t → (i j : ℕ) (m n : KeywordArgument) → slice_get g.named i ≡ Some m → slice_get g.named j ≡ Some n → m.name ≡ n.name → i ≡ j
unfolding NamesOnce
given_names_differ w line ps s t g h = all_differ g.named (no_name_twice w line ps s t g h)
