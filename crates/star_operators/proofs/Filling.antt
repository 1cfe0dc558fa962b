-- `%` on a string: its bytes are read from one `%` to the next.
use Rattle.std.proofs.Common.{◌≡◌, ℕ, nat_eq, Bool, true, false, not, ◌||◌, nat_lt, ◌<◌, arith, List, [], ◌∷◌, ◌++◌, length, if◌then◌else◌, refl, ap, sym, ◌∙◌, append_assoc, append-nil}
use Rattle.std.proofs.lemmas.Bool.{and_parts}
use Rattle.std.proofs.lemmas.Bool.Decides.{nat_tests}
use Rattle.std.specs.List.{list_all}
use Rattle.star_dialect.specs.declared.Dialect.{Dialect}
use Rattle.star_dialect.specs.declared.Dialect.TheVariants as dialect
use Rattle.star_store.specs.declared.values.Value.{Value}
use Rattle.star_meaning.specs.declared.fault.FaultCode.TheVariants.{BadValue}
use Rattle.star_meaning.specs.Run.{State, Outcome, Done, Failed, Action, ◌>>=◌, and_then, give, fail}
use Rattle.star_meaning.specs.Program.{Setting}
use Rattle.star_meaning.specs.Percent.{Between, Format, Name, Named, filled, further_letter, is_letter, letter_in, named_text, next_text, opens}
use Rattle.star_machine.specs.Cuts.{is_neither, begins_plainly}
use Rattle.star_operators.specs.Fills.{letter_put}

pub not_it : (e : Bool) → not (e || e) ≡ true → e ≡ false
not_it true h = cc
not_it false h = refl

pub just_it : (e : Bool) → not (e || e) ≡ false → e ≡ true
just_it true h = refl
just_it false h = cc

pub if_same : {A : Type 0} (e : Bool) (x y u v : A) → x ≡ u → y ≡ v → (if e then x else y) ≡ (if e then u else v)
if_same true x y u v p q = p
if_same false x y u v p q = q

filled_before : (w : Setting) (levels line : ℕ) (y : Value) (before after : List ℕ) (xs : List Value) (out : List ℕ) → list_all (is_neither 37 37) before ≡ true → filled w levels line y Between (before ++ after) xs out ≡ filled w levels line y Between after xs (out ++ before)
filled_before w levels line y [] after xs out h = ap (λ t. filled w levels line y Between after xs t) (sym (append-nil out))
filled_before w levels line y (b ∷ bs) after xs out h =
    let all = and_parts (is_neither 37 37 b) (list_all (is_neither 37 37) bs) h in
    let p = not_it (nat_eq b 37) all.0 in
    let q = all.1 in
    ap (λ e. if e then filled w levels line y Format (bs ++ after) xs out else filled w levels line y Between (bs ++ after) xs (out ++ b ∷ [])) p ∙ filled_before w levels line y bs after xs (out ++ b ∷ []) q ∙ ap (λ t. filled w levels line y Between after xs t) (append_assoc out (b ∷ []) bs)

filled_at : (w : Setting) (levels line : ℕ) (y : Value) (b : ℕ) (after : List ℕ) (xs : List Value) (out : List ℕ) → is_neither 37 37 b ≡ false → filled w levels line y Between (b ∷ after) xs out ≡ filled w levels line y Format after xs out
filled_at w levels line y b after xs out h = ap (λ e. if e then filled w levels line y Format after xs out else filled w levels line y Between after xs (out ++ b ∷ [])) (just_it (nat_eq b 37) h)

-- up to after the first `%`
pub filled_format : (w : Setting) (levels line : ℕ) (y : Value) (t before after : List ℕ) (b : ℕ) (xs : List Value) (out made : List ℕ) (s : State) → t ≡ before ++ b ∷ after → list_all (is_neither 37 37) before ≡ true → is_neither 37 37 b ≡ false → made ≡ out ++ before → filled w levels line y Between t xs out s ≡ filled w levels line y Format after xs made s
filled_format w levels line y t before after b xs out made s e h k m =
    rw (e, m) (ap (λ f. f s) (filled_before w levels line y before (b ∷ after) xs out h ∙ filled_at w levels line y b after xs (out ++ before) k))

-- if there is no further `%`
filled_last : (w : Setting) (levels line : ℕ) (y : Value) (t : List ℕ) (xs : List Value) (out : List ℕ) → list_all (is_neither 37 37) t ≡ true → filled w levels line y Between t xs out ≡ filled w levels line y Between [] xs (out ++ t)
filled_last w levels line y t xs out h = ap (λ u. filled w levels line y Between u xs out) (sym (append-nil t)) ∙ filled_before w levels line y t [] xs out h

-- the letter after a `%`
letter_done : (w : Setting) (levels line : ℕ) (y : Value) (bs : List ℕ) (out : List ℕ) (o : Outcome (List ℕ × List Value)) → and_then o (λ r. filled w levels line y Between bs r.1 (out ++ r.0)) ≡ and_then {A = List Value × List ℕ} (and_then o (λ r. give (r.1, out ++ r.0))) (λ r. filled w levels line y Between bs r.0 r.1)
letter_done w levels line y bs out (Done r s) = refl
letter_done w levels line y bs out (Failed f lines) = refl

letter_if : (w : Setting) (levels line : ℕ) (y : Value) (b : ℕ) (bs : List ℕ) (xs : List Value) (out : List ℕ) (m : Action (List ℕ × List Value)) (s : State) (e : Bool) → (if e then filled w levels line y Between bs xs (out ++ b ∷ []) else (m >>= λ r. filled w levels line y Between bs r.1 (out ++ r.0))) s ≡ and_then {A = List Value × List ℕ} ((if e then give (xs, out ++ b ∷ []) else (m >>= λ r. give (r.1, out ++ r.0))) s) (λ r. filled w levels line y Between bs r.0 r.1)
letter_if w levels line y b bs xs out m s true = refl
letter_if w levels line y b bs xs out m s false = letter_done w levels line y bs out (m s)

pub filled_letter : (w : Setting) (levels line : ℕ) (y : Value) (after : List ℕ) (b : ℕ) (bs : List ℕ) (xs : List Value) (out : List ℕ) (s : State) → after ≡ b ∷ bs → opens w.language.dialect b ≡ false → filled w levels line y Format after xs out s ≡ and_then (letter_put w levels line b xs out s) (λ r. filled w levels line y Between bs r.0 r.1)
filled_letter w levels line y after b bs xs out s e h = rw (e, h) (letter_if w levels line y b bs xs out (next_text w levels line b xs) s (nat_eq b 37))

-- a byte that is not ASCII is not a letter, and begins no name
no_further : (w : Setting) (levels line b : ℕ) (x : Value) → nat_lt b 128 ≡ false → further_letter w levels line b x ≡ fail BadValue line
no_further w levels line b x h =
    let x1 : nat_eq b 120 ≡ false = grind (arith, nat_tests) in
    let x2 : nat_eq b 88 ≡ false = grind (arith, nat_tests) in
    let o : nat_eq b 111 ≡ false = grind (arith, nat_tests) in
    let c : nat_eq b 99 ≡ false = grind (arith, nat_tests) in
    rw (x1, x2, o, c) refl

none_in : (d : Dialect) (w : Setting) (levels line b : ℕ) (x : Value) → nat_lt b 128 ≡ false → letter_in d w levels line b x ≡ fail BadValue line
none_in dialect.Core w levels line b x h = refl
none_in dialect.Extended w levels line b x h = no_further w levels line b x h

no_letter : (w : Setting) (levels line b : ℕ) (xs : List Value) (s : State) → nat_lt b 128 ≡ false → next_text w levels line b xs s ≡ fail BadValue line s
no_letter w levels line b [] s h = refl
no_letter w levels line b (x ∷ xs) s h =
    let l : nat_eq b 115 ≡ false = grind (arith, nat_tests) in
    let r : nat_eq b 114 ≡ false = grind (arith, nat_tests) in
    let d : nat_eq b 100 ≡ false = grind (arith, nat_tests) in
    rw (l, r, d, none_in w.language.dialect w levels line b x h) refl

no_opening : (d : Dialect) (b : ℕ) → nat_lt b 128 ≡ false → opens d b ≡ false
no_opening dialect.Core b h = refl
no_opening dialect.Extended b h = grind (arith, nat_tests)

pub filled_badly : (w : Setting) (levels line : ℕ) (y : Value) (after : List ℕ) (xs : List Value) (out : List ℕ) (s : State) → begins_plainly after ≡ false → filled w levels line y Format after xs out s ≡ fail BadValue line s
filled_badly w levels line y [] xs out s h = refl
filled_badly w levels line y (b ∷ bs) xs out s h =
    let p : nat_eq b 37 ≡ false = grind (arith, nat_tests) in
    rw (p, no_opening w.language.dialect b h, no_letter w levels line b xs s h) refl

-- the end
pub filled_well : (w : Setting) (levels line : ℕ) (y : Value) (t : List ℕ) (xs : List Value) (out : List ℕ) (s : State) → list_all (is_neither 37 37) t ≡ true → length xs ≡ 0 → filled w levels line y Between t xs out s ≡ Done (out ++ t) s
filled_well w levels line y t [] out s h k = ap (λ f. f s) (filled_last w levels line y t [] out h)
filled_well w levels line y t (x ∷ xs) out s h k = absurd (omega arith)

pub filled_too_few : (w : Setting) (levels line : ℕ) (y : Value) (t : List ℕ) (xs : List Value) (out : List ℕ) (s : State) → list_all (is_neither 37 37) t ≡ true → 0 < length xs → filled w levels line y Between t xs out s ≡ fail BadValue line s
filled_too_few w levels line y t [] out s h k = absurd (omega arith)
filled_too_few w levels line y t (x ∷ xs) out s h k = ap (λ f. f s) (filled_last w levels line y t (x ∷ xs) out h)
