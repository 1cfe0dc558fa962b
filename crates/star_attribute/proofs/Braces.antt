-- The method `format`: its string is read from one brace to the next.
use Rattle.std.proofs.Common.{◌≡◌, ℕ, nat_eq, Bool, true, false, not, ◌||◌, List, [], ◌∷◌, ◌++◌, length, if◌then◌else◌, refl, ap, sym, ◌∙◌, append_assoc, append-nil, arith}
use Rattle.std.proofs.lemmas.Bool.{and_parts, not-true, or_parts}
use Rattle.std.proofs.lemmas.Bool.Decides.{nat_tests}
use Rattle.std.specs.List.{list_all}
use Rattle.star_meaning.specs.declared.fault.FaultCode.TheVariants.{BadValue}
use Rattle.star_meaning.specs.declared.given.Arguments.{Arguments}
use Rattle.star_meaning.specs.Run.{State, Done, and_then, fail}
use Rattle.star_meaning.specs.Program.{Setting}
use Rattle.star_machine.specs.Cuts.{is_neither, begins_plainly}
use Rattle.star_meaning.specs.Format.{Numbering, Outside, Field, Closing, formatted, field_text}

-- bytes outside of braces are copied
outside_before : (w : Setting) (levels line : ℕ) (g : Arguments) (before after : List ℕ) (k : Numbering) (out : List ℕ) → list_all (is_neither 123 125) before ≡ true → formatted w levels line g (before ++ after) Outside k out ≡ formatted w levels line g after Outside k (out ++ before)
outside_before w levels line g [] after k out h = ap (λ t. formatted w levels line g after Outside k t) (sym (append-nil out))
outside_before w levels line g (b ∷ bs) after k out h =
    let all = and_parts (is_neither 123 125 b) (list_all (is_neither 123 125) bs) h in
    let other = or_parts (nat_eq b 123) (nat_eq b 125) (not-true (nat_eq b 123 || nat_eq b 125) all.0) in
    rw (other.0, other.1) (outside_before w levels line g bs after k (out ++ b ∷ []) all.1 ∙ ap (λ t. formatted w levels line g after Outside k t) (append_assoc out (b ∷ []) bs))

-- bytes inside of a field are its own
field_before : (w : Setting) (levels line : ℕ) (g : Arguments) (before after f : List ℕ) (k : Numbering) (out : List ℕ) → list_all (is_neither 123 125) before ≡ true → formatted w levels line g (before ++ after) (Field f) k out ≡ formatted w levels line g after (Field (f ++ before)) k out
field_before w levels line g [] after f k out h = ap (λ t. formatted w levels line g after (Field t) k out) (sym (append-nil f))
field_before w levels line g (b ∷ bs) after f k out h =
    let all = and_parts (is_neither 123 125 b) (list_all (is_neither 123 125) bs) h in
    let other = or_parts (nat_eq b 123) (nat_eq b 125) (not-true (nat_eq b 123 || nat_eq b 125) all.0) in
    rw (other.0, other.1) (field_before w levels line g bs after (f ++ b ∷ []) k out all.1 ∙ ap (λ t. formatted w levels line g after (Field t) k out) (append_assoc f (b ∷ []) bs))

-- up to the first brace
pub outside_cut : (w : Setting) (levels line : ℕ) (g : Arguments) (t before after : List ℕ) (b : ℕ) (k : Numbering) (out : List ℕ) → t ≡ before ++ b ∷ after → list_all (is_neither 123 125) before ≡ true → formatted w levels line g t Outside k out ≡ formatted w levels line g (b ∷ after) Outside k (out ++ before)
outside_cut w levels line g t before after b k out e h = rw e (outside_before w levels line g before (b ∷ after) k out h)

-- if there is no further brace
pub outside_last : (w : Setting) (levels line : ℕ) (g : Arguments) (t : List ℕ) (k : Numbering) (out : List ℕ) (s : State) → list_all (is_neither 123 125) t ≡ true → formatted w levels line g t Outside k out s ≡ Done (out ++ t) s
outside_last w levels line g t k out s h = ap (λ u. formatted w levels line g u Outside k out s) (sym (append-nil t)) ∙ ap (λ f. f s) (outside_before w levels line g t [] k out h)

-- a field that does not end
pub field_open : (w : Setting) (levels line : ℕ) (g : Arguments) (t : List ℕ) (k : Numbering) (out : List ℕ) (s : State) → list_all (is_neither 123 125) t ≡ true → formatted w levels line g t (Field []) k out s ≡ fail BadValue line s
field_open w levels line g t k out s h = ap (λ u. formatted w levels line g u (Field []) k out s) (sym (append-nil t)) ∙ ap (λ f. f s) (field_before w levels line g t [] [] k out h)

field_cut : (w : Setting) (levels line : ℕ) (g : Arguments) (t field more : List ℕ) (b : ℕ) (k : Numbering) (out : List ℕ) → t ≡ field ++ b ∷ more → list_all (is_neither 123 125) field ≡ true → formatted w levels line g t (Field []) k out ≡ formatted w levels line g (b ∷ more) (Field field) k out
field_cut w levels line g t field more b k out e h = rw e (field_before w levels line g field (b ∷ more) [] k out h)

-- the end of a field
pub field_closed : (w : Setting) (levels line : ℕ) (g : Arguments) (t field more : List ℕ) (b : ℕ) (k : Numbering) (out : List ℕ) (s : State) → t ≡ field ++ b ∷ more → list_all (is_neither 123 125) field ≡ true → b ≡ 125 → formatted w levels line g t (Field []) k out s ≡ and_then (field_text w levels line g field k s) (λ r. formatted w levels line g more Outside r.1 (out ++ r.0))
field_closed w levels line g t field more b k out s e h j =
    ap (λ f. f s) (field_cut w levels line g t field more b k out e h) ∙ rw j refl

-- the brace that is not the other one
other_one : (p q : Bool) → not (p || q) ≡ false → q ≡ false → p ≡ true
other_one true q h k = refl
other_one false true h k = cc
other_one false false h k = cc

other_two : (p q : Bool) → not (p || q) ≡ false → p ≡ false → q ≡ true
other_two true q h k = cc
other_two false true h k = refl
other_two false false h k = cc

pub opening : (b : ℕ) → is_neither 123 125 b ≡ false → nat_eq b 125 ≡ false → b ≡ 123
opening b h k =
    let e : nat_eq b 123 ≡ true = other_one (nat_eq b 123) (nat_eq b 125) h k in
    grind (arith, nat_tests)

pub closing : (b : ℕ) → is_neither 123 125 b ≡ false → nat_eq b 123 ≡ false → b ≡ 125
closing b h k =
    let e : nat_eq b 125 ≡ true = other_two (nat_eq b 123) (nat_eq b 125) h k in
    grind (arith, nat_tests)

-- a `{` after a `{`
pub field_opened : (w : Setting) (levels line : ℕ) (g : Arguments) (t field more : List ℕ) (b : ℕ) (k : Numbering) (out : List ℕ) → t ≡ field ++ b ∷ more → list_all (is_neither 123 125) field ≡ true → b ≡ 123 → formatted w levels line g t (Field []) k out ≡ (if nat_eq (length field) 0 then formatted w levels line g more Outside k (out ++ 123 ∷ []) else fail BadValue line)
field_opened w levels line g t field more b k out e h j = field_cut w levels line g t field more b k out e h ∙ rw j refl

-- a byte other than `}` after a `}`
pub closed_badly : (w : Setting) (levels line : ℕ) (g : Arguments) (t : List ℕ) (k : Numbering) (out : List ℕ) → begins_plainly t ≡ false → formatted w levels line g t Closing k out ≡ fail BadValue line
closed_badly w levels line g [] k out h = refl
closed_badly w levels line g (b ∷ bs) k out h =
    let p : nat_eq b 125 ≡ false = grind (arith, nat_tests) in
    rw p refl
