-- Actions that respect every invariant of runs: % on strings.
use Rattle.star_store.specs.declared.values.Value.{Value}
use Rattle.star_store.specs.declared.values.Cell.TheVariants as cell
use Rattle.star_dialect.specs.declared.Dialect.{Dialect}
use Rattle.star_dialect.specs.declared.Dialect.TheVariants as dialect
use Rattle.star_strings.specs.declared.ints.Notation.{Notation}
use Rattle.star_meaning.specs.Program.{Setting}
use Rattle.star_meaning.specs.Values.{Content, Number, Held}
use Rattle.std.proofs.Common.{ℕ, List, [], ◌∷◌}
use Rattle.star_meaning.specs.Percent.{int_as, character_in, character_of, further_letter, letter_in, format_letter, next_text, value_for, named_text, Position, Between, Format, Name, Named, filled, percent}
use Rattle.star_meaning.proofs.Invariants.{Invariant, Respects, respects}
use Rattle.star_meaning.proofs.KeepsValues.{respects-with_content, respects-want_int, respects-new_text, respects-repr, respects-str}

pub respects-int_as : (w : Setting) {inv : Invariant w} (levels : ℕ) (line : ℕ) (n : Notation) (x : Value) → Respects inv (int_as w levels line n x)
respects-int_as w levels line n x = search (respects, respects-want_int, respects-str) depth 14

pub respects-character_in : {w : Setting} {inv : Invariant w} → (line : ℕ) (a1 : Content) → Respects inv (character_in line a1)
respects-character_in line (Number z) = search respects depth 14
respects-character_in line (Held (cell.Text t)) = search respects depth 14
respects-character_in line _ = search respects depth 14

pub respects-character_of : (w : Setting) {inv : Invariant w} (levels : ℕ) (line : ℕ) (x : Value) → Respects inv (character_of w levels line x)
respects-character_of w levels line x = search (respects, respects-with_content, respects-str, respects-character_in) depth 14

pub respects-further_letter : (w : Setting) {inv : Invariant w} (levels : ℕ) (line : ℕ) (letter : ℕ) (x : Value) → Respects inv (further_letter w levels line letter x)
respects-further_letter w levels line letter x = search (respects, respects-int_as, respects-character_of) depth 14

pub respects-letter_in : (w : Setting) {inv : Invariant w} (a0 : Dialect) (levels : ℕ) (line : ℕ) (letter : ℕ) (x : Value) → Respects inv (letter_in a0 w levels line letter x)
respects-letter_in w dialect.Core levels line letter x = search respects depth 14
respects-letter_in w dialect.Extended levels line letter x = search (respects, respects-further_letter) depth 14

pub respects-format_letter : (w : Setting) {inv : Invariant w} (levels : ℕ) (line : ℕ) (letter : ℕ) (x : Value) → Respects inv (format_letter w levels line letter x)
respects-format_letter w levels line letter x = search (respects, respects-want_int, respects-repr, respects-str, respects-letter_in) depth 14

pub respects-next_text : (w : Setting) {inv : Invariant w} (levels : ℕ) (line : ℕ) (letter : ℕ) (a4 : List Value) → Respects inv (next_text w levels line letter a4)
respects-next_text w levels line letter [] = search respects depth 14
respects-next_text w levels line letter (x ∷ xs) = search (respects, respects-format_letter) depth 14

pub respects-value_for : (w : Setting) {inv : Invariant w} (line : ℕ) (k : List ℕ) (a3 : Content) → Respects inv (value_for w line k a3)
respects-value_for w line k (Held (cell.Dict es)) = search respects depth 14
respects-value_for w line k _ = search respects depth 14

pub respects-named_text : (w : Setting) {inv : Invariant w} (levels : ℕ) (line : ℕ) (y : Value) (k : List ℕ) (letter : ℕ) → Respects inv (named_text w levels line y k letter)
respects-named_text w levels line y k letter = search (respects, respects-with_content, respects-value_for, respects-format_letter) depth 14

pub respects-filled : (w : Setting) {inv : Invariant w} (levels : ℕ) (line : ℕ) (y : Value) (a4 : Position) (a5 : List ℕ) (a6 : List Value) (out : List ℕ) → Respects inv (filled w levels line y a4 a5 a6 out)
respects-filled w levels line y Between [] [] out = search respects depth 14
respects-filled w levels line y Between [] (x ∷ xs) out = search respects depth 14
respects-filled w levels line y Format [] xs out = search respects depth 14
respects-filled w levels line y (Name k) [] xs out = search respects depth 14
respects-filled w levels line y (Named k) [] xs out = search respects depth 14
respects-filled w {inv = inv} levels line y Between (b ∷ bs) xs out = let h1 : (z4 : Position) (z6 : List Value) (z7 : List ℕ) → Respects inv (filled w levels line y z4 bs z6 z7) = λ z4 z6 z7. respects-filled w levels line y z4 bs z6 z7 in search (respects, h1) depth 14
respects-filled w {inv = inv} levels line y Format (b ∷ bs) xs out = let h1 : (z4 : Position) (z6 : List Value) (z7 : List ℕ) → Respects inv (filled w levels line y z4 bs z6 z7) = λ z4 z6 z7. respects-filled w levels line y z4 bs z6 z7 in search (respects, respects-next_text, h1) depth 14
respects-filled w {inv = inv} levels line y (Name k) (b ∷ bs) xs out = let h1 : (z4 : Position) (z6 : List Value) (z7 : List ℕ) → Respects inv (filled w levels line y z4 bs z6 z7) = λ z4 z6 z7. respects-filled w levels line y z4 bs z6 z7 in search (respects, h1) depth 14
respects-filled w {inv = inv} levels line y (Named k) (b ∷ bs) xs out = let h1 : (z4 : Position) (z6 : List Value) (z7 : List ℕ) → Respects inv (filled w levels line y z4 bs z6 z7) = λ z4 z6 z7. respects-filled w levels line y z4 bs z6 z7 in search (respects, respects-named_text, h1) depth 14

pub respects-percent : (w : Setting) {inv : Invariant w} (levels : ℕ) (line : ℕ) (t : List ℕ) (c : Content) (y : Value) → Respects inv (percent w levels line t c y)
respects-percent w levels line t c y = search (respects, respects-new_text, respects-filled) depth 14
