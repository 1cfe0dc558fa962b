-- `%` on a string: names in parentheses.
use Rattle.std.proofs.Common.{◌≡◌, ℕ, nat_eq, Bool, true, false, ◌||◌, nat_lt, arith, List, [], ◌∷◌, ◌++◌, if◌then◌else◌, refl, ap, sym, ◌∙◌, append_assoc, append-nil}
use Rattle.std.proofs.lemmas.Bool.{and_parts}
use Rattle.std.proofs.lemmas.Bool.Decides.{nat_tests}
use Rattle.std.specs.List.{list_all}
use Rattle.star_dialect.specs.declared.Dialect.{Dialect}
use Rattle.star_dialect.specs.declared.Dialect.TheVariants as dialect
use Rattle.star_store.specs.declared.values.Value.{Value}
use Rattle.star_meaning.specs.declared.fault.FaultCode.TheVariants.{BadValue}
use Rattle.star_meaning.specs.Run.{State, Outcome, Done, and_then, fail}
use Rattle.star_meaning.specs.Program.{Setting}
use Rattle.star_meaning.specs.Percent.{Between, Format, Name, Named, filled, is_letter, named_text, opens}
use Rattle.star_machine.specs.Cuts.{is_neither, begins_plainly}
use Rattle.star_operators.proofs.Filling.{if_same, just_it, not_it}

-- a name takes no value of those that are left
named_forgets : (w : Setting) (levels line : ℕ) (y : Value) (k bs : List ℕ) (xs : List Value) (out : List ℕ) → filled w levels line y (Named k) bs xs out ≡ filled w levels line y (Named k) bs [] out
named_forgets w levels line y k [] xs out = refl
named_forgets w levels line y k (b ∷ bs) xs out = refl

name_forgets : (w : Setting) (levels line : ℕ) (y : Value) (k bs : List ℕ) (xs : List Value) (out : List ℕ) → filled w levels line y (Name k) bs xs out ≡ filled w levels line y (Name k) bs [] out
name_forgets w levels line y k [] xs out = refl
name_forgets w levels line y k (b ∷ bs) xs out =
    if_same (nat_eq b 41) (filled w levels line y (Named k) bs xs out) (filled w levels line y (Name (k ++ b ∷ [])) bs xs out)
    (filled w levels line y (Named k) bs [] out) (filled w levels line y (Name (k ++ b ∷ [])) bs [] out)
    (named_forgets w levels line y k bs xs out) (name_forgets w levels line y (k ++ b ∷ []) bs xs out)

-- a name begins after a `%`
parenthesis : (d : Dialect) (b : ℕ) → opens d b ≡ true → nat_eq b 40 ≡ true
parenthesis dialect.Core b h = cc
parenthesis dialect.Extended b h = h

pub filled_name : (w : Setting) (levels line : ℕ) (y : Value) (after : List ℕ) (b : ℕ) (bs : List ℕ) (xs : List Value) (out : List ℕ) (s : State) → after ≡ b ∷ bs → opens w.language.dialect b ≡ true → filled w levels line y Format after xs out s ≡ filled w levels line y (Name []) bs [] out s
filled_name w levels line y after b bs xs out s e h =
    let q : nat_eq b 40 ≡ true = parenthesis w.language.dialect b h in
    let p : nat_eq b 37 ≡ false = grind (arith, nat_tests) in
    rw (e, p, h) (ap (λ f. f s) (name_forgets w levels line y [] bs xs out))

-- bytes inside of a name are its own
name_before : (w : Setting) (levels line : ℕ) (y : Value) (before after k : List ℕ) (xs : List Value) (out : List ℕ) → list_all (is_neither 41 41) before ≡ true → filled w levels line y (Name k) (before ++ after) xs out ≡ filled w levels line y (Name (k ++ before)) after xs out
name_before w levels line y [] after k xs out h = ap (λ n. filled w levels line y (Name n) after xs out) (sym (append-nil k))
name_before w levels line y (b ∷ bs) after k xs out h =
    let all = and_parts (is_neither 41 41 b) (list_all (is_neither 41 41) bs) h in
    let p = not_it (nat_eq b 41) all.0 in
    ap (λ e. if e then filled w levels line y (Named k) (bs ++ after) xs out else filled w levels line y (Name (k ++ b ∷ [])) (bs ++ after) xs out) p ∙ name_before w levels line y bs after (k ++ b ∷ []) xs out all.1 ∙ ap (λ n. filled w levels line y (Name n) after xs out) (append_assoc k (b ∷ []) bs)

-- up to the end of the name
name_cut : (w : Setting) (levels line : ℕ) (y : Value) (t name after : List ℕ) (b : ℕ) (xs : List Value) (out : List ℕ) → t ≡ name ++ b ∷ after → list_all (is_neither 41 41) name ≡ true → is_neither 41 41 b ≡ false → filled w levels line y (Name []) t xs out ≡ filled w levels line y (Named name) after xs out
name_cut w levels line y t name after b xs out e h k =
    rw e (name_before w levels line y name (b ∷ after) [] xs out h
    ∙ ap (λ c. if c then filled w levels line y (Named name) after xs out else filled w levels line y (Name (name ++ b ∷ [])) after xs out) (just_it (nat_eq b 41) k))

-- a name that does not end
pub name_open : (w : Setting) (levels line : ℕ) (y : Value) (t : List ℕ) (xs : List Value) (out : List ℕ) (s : State) → list_all (is_neither 41 41) t ≡ true → filled w levels line y (Name []) t xs out s ≡ fail BadValue line s
name_open w levels line y t xs out s h = ap (λ u. filled w levels line y (Name []) u xs out s) (sym (append-nil t)) ∙ ap (λ f. f s) (name_before w levels line y t [] [] xs out h)

-- no letter after a name
unknown : (b : ℕ) → nat_lt b 128 ≡ false → is_letter b ≡ false
unknown b h =
    let l : nat_eq b 115 ≡ false = grind (arith, nat_tests) in
    let r : nat_eq b 114 ≡ false = grind (arith, nat_tests) in
    let d : nat_eq b 100 ≡ false = grind (arith, nat_tests) in
    let x1 : nat_eq b 120 ≡ false = grind (arith, nat_tests) in
    let x2 : nat_eq b 88 ≡ false = grind (arith, nat_tests) in
    let o : nat_eq b 111 ≡ false = grind (arith, nat_tests) in
    let c : nat_eq b 99 ≡ false = grind (arith, nat_tests) in
    rw (l, r, d, x1, x2, o, c) refl

named_badly : (w : Setting) (levels line : ℕ) (y : Value) (k after : List ℕ) (xs : List Value) (out : List ℕ) (s : State) → begins_plainly after ≡ false → filled w levels line y (Named k) after xs out s ≡ fail BadValue line s
named_badly w levels line y k [] xs out s h = refl
named_badly w levels line y k (b ∷ bs) xs out s h = rw (unknown b h) refl

pub name_without_letter : (w : Setting) (levels line : ℕ) (y : Value) (t name after : List ℕ) (b : ℕ) (xs : List Value) (out : List ℕ) (s : State) → t ≡ name ++ b ∷ after → list_all (is_neither 41 41) name ≡ true → is_neither 41 41 b ≡ false → begins_plainly after ≡ false → filled w levels line y (Name []) t xs out s ≡ fail BadValue line s
name_without_letter w levels line y t name after b xs out s e h k j = ap (λ f. f s) (name_cut w levels line y t name after b xs out e h k) ∙ named_badly w levels line y name after xs out s j

-- the text of the value under a name
pub name_done : (w : Setting) (levels line : ℕ) (y : Value) (t name after more : List ℕ) (b l : ℕ) (xs : List Value) (out : List ℕ) (s : State) → t ≡ name ++ b ∷ after → list_all (is_neither 41 41) name ≡ true → is_neither 41 41 b ≡ false → after ≡ l ∷ more → filled w levels line y (Name []) t xs out s ≡ and_then (named_text w levels line y name l s) (λ u. filled w levels line y Between more [] (out ++ u))
name_done w levels line y t name after more b l xs out s e h k j = ap (λ f. f s) (name_cut w levels line y t name after b xs out e h k) ∙ rw j refl
