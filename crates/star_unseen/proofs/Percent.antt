-- Pairs of actions that do the same over two shelves: % on strings.
use Rattle.std.proofs.Common.{ℕ, List, [], ◌∷◌, ◌++◌, length, Bool, nat_eq}
use Rattle.std.specs.Char.{encode_utf8}
use Rattle.std.specs.Str.{chars}
use Rattle.star_store.specs.declared.values.Value.{Value}
use Rattle.star_store.specs.declared.values.Cell.TheVariants as cell
use Rattle.star_dialect.specs.declared.Dialect.{Dialect}
use Rattle.star_dialect.specs.declared.Dialect.TheVariants as dialect
use Rattle.star_strings.specs.Characters.{char_of, only_char}
use Rattle.star_strings.specs.Ints.{int_text}
use Rattle.star_strings.specs.declared.ints.Notation.{Notation}
use Rattle.star_strings.specs.declared.ints.Notation.TheVariants as notation
use Rattle.star_meaning.specs.declared.fault.FaultCode.TheVariants as code
use Rattle.star_meaning.specs.Program.{Setting}
use Rattle.star_meaning.specs.Values.{Content, Number, Held, text_value}
use Rattle.star_meaning.specs.Percent.{put_in, int_as, character_in, character_of, further_letter, letter_in, format_letter, next_text, value_for, is_letter, named_text, Position, Between, Format, Name, Named, opens, filled, percent}
use Rattle.star_unseen.specs.Veil.{AreVisible, Hides, IsVisible}
use Rattle.star_unseen.specs.Shelves.{Veil, with_other}
use Rattle.star_unseen.proofs.Looks.{ContentIsVisible}
use Rattle.star_unseen.proofs.Alike.{Alike, Any, alike_check, alike_content, alike_fail, alike_finds, alike_found, alike_give, alike_if, alike_pay, alike_seeing, alike_then}
use Rattle.star_unseen.proofs.Values.{any_found, alike-want_int, alike-new_text, alike-repr, alike-str, same-text_value_in, visible-text_value_in}

pub visible-put_in : {w : Setting} (k : Veil w) (c : Content) (y : Value) → ContentIsVisible k.hides c → IsVisible k.hides y → AreVisible k.hides (put_in c y)
visible-put_in k (Held (cell.Tuple xs)) y h l = h
visible-put_in k c y h l = (l, tt)

pub alike-int_as : {w : Setting} (k : Veil w) (levels line : ℕ) (n : Notation) (x : Value) → IsVisible k.hides x → Alike k Any (int_as w levels line n x) (int_as (with_other k.other w) levels line n x)
alike-int_as k levels line n x h =
    alike_then (alike-want_int k line x h) (λ z _. alike_then (alike-str k levels line x h) (λ _ _. alike_give {A = List ℕ} Any (int_text n z) tt))

pub alike-character_in : {w : Setting} (k : Veil w) (line : ℕ) (c : Content) → Alike k Any (character_in line c) (character_in line c)
alike-character_in k line (Number z) = alike_then (alike_found Any code.BadValue line (char_of z) (any_found (char_of z))) (λ c _. alike_give {A = List ℕ} Any (encode_utf8 c) tt)
alike-character_in k line (Held (cell.Text t)) = alike_then (alike_found Any code.BadValue line (only_char (chars t)) (any_found (only_char (chars t)))) (λ c _. alike_give {A = List ℕ} Any t tt)
alike-character_in k line _ = alike_fail (List ℕ) Any code.BadType line

pub alike-character_of : {w : Setting} (k : Veil w) (levels line : ℕ) (x : Value) → IsVisible k.hides x → Alike k Any (character_of w levels line x) (character_of (with_other k.other w) levels line x)
alike-character_of k levels line x h =
    alike_then (alike_content Any x _ _ h (λ c _. alike-character_in k line c)) (λ t _. alike_then (alike-str k levels line x h) (λ _ _. alike_give {A = List ℕ} Any t tt))

pub alike-further_letter : {w : Setting} (k : Veil w) (levels line letter : ℕ) (x : Value) → IsVisible k.hides x → Alike k Any (further_letter w levels line letter x) (further_letter (with_other k.other w) levels line letter x)
alike-further_letter k levels line letter x h =
    alike_if Any (nat_eq letter 120) _ _ _ _ (alike-int_as k levels line notation.LowerHex x h)
    (alike_if Any (nat_eq letter 88) _ _ _ _ (alike-int_as k levels line notation.UpperHex x h)
    (alike_if Any (nat_eq letter 111) _ _ _ _ (alike-int_as k levels line notation.Octal x h)
    (alike_if Any (nat_eq letter 99) _ _ _ _ (alike-character_of k levels line x h)
    (alike_fail (List ℕ) Any code.BadValue line))))

pub alike-letter_in : {w : Setting} (k : Veil w) (d : Dialect) (levels line letter : ℕ) (x : Value) → IsVisible k.hides x → Alike k Any (letter_in d w levels line letter x) (letter_in d (with_other k.other w) levels line letter x)
alike-letter_in k dialect.Core levels line letter x h = alike_fail (List ℕ) Any code.BadValue line
alike-letter_in k dialect.Extended levels line letter x h = alike-further_letter k levels line letter x h

pub alike-format_letter : {w : Setting} (k : Veil w) (levels line letter : ℕ) (x : Value) → IsVisible k.hides x → Alike k Any (format_letter w levels line letter x) (format_letter (with_other k.other w) levels line letter x)
alike-format_letter {w = w} k levels line letter x h =
    alike_if Any (nat_eq letter 115) _ _ _ _ (alike-str k levels line x h)
    (alike_if Any (nat_eq letter 114) _ _ _ _ (alike-repr k levels line x h)
    (alike_if Any (nat_eq letter 100) _ _ _ _ (alike_then (alike-want_int k line x h) (λ n _. alike-repr k levels line x h))
    (alike-letter_in k w.language.dialect levels line letter x h)))

-- a text with values that are left
abbrev pub WithRest : Hides → List ℕ × List Value → Type 0
WithRest hides r = AreVisible hides r.1

pub alike-next_text : {w : Setting} (k : Veil w) (levels line letter : ℕ) (xs : List Value) → AreVisible k.hides xs → Alike k (WithRest k.hides) (next_text w levels line letter xs) (next_text (with_other k.other w) levels line letter xs)
alike-next_text k levels line letter [] h = alike_fail (List ℕ × List Value) (WithRest k.hides) code.BadValue line
alike-next_text k levels line letter (x ∷ xs) h = alike_then (alike-format_letter k levels line letter x h.0) (λ t _. alike_give (WithRest k.hides) (t, xs) h.1)

pub alike-value_for : {w : Setting} (k : Veil w) (line : ℕ) (t : List ℕ) (c : Content) → ContentIsVisible k.hides c → Alike k (IsVisible k.hides) (value_for w line t c) (value_for (with_other k.other w) line t c)
alike-value_for {w = w} k line t (Held (cell.Dict es)) h =
    alike_seeing (IsVisible k.hides) _ _ (λ s c. alike_finds (IsVisible k.hides) code.Key line (text_value w s t es) _ (same-text_value_in k s t es c h) (visible-text_value_in k s t es h))
alike-value_for k line t _ h = alike_fail Value (IsVisible k.hides) code.BadType line

pub alike-named_text : {w : Setting} (k : Veil w) (levels line : ℕ) (y : Value) (t : List ℕ) (letter : ℕ) → IsVisible k.hides y → Alike k Any (named_text w levels line y t letter) (named_text (with_other k.other w) levels line y t letter)
alike-named_text k levels line y t letter h =
    alike_then (alike_check code.BadValue line (is_letter letter)) (λ _ _. alike_then (alike_content (IsVisible k.hides) y _ _ h (λ c l. alike-value_for k line t c l)) (λ x l. alike-format_letter k levels line letter x l))

pub alike-filled : {w : Setting} (k : Veil w) (levels line : ℕ) (y : Value) (p : Position) (t : List ℕ) (xs : List Value) (out : List ℕ) → IsVisible k.hides y → AreVisible k.hides xs → Alike k Any (filled w levels line y p t xs out) (filled (with_other k.other w) levels line y p t xs out)
alike-filled k levels line y Between [] [] out l h = alike_give {A = List ℕ} Any out tt
alike-filled k levels line y Between [] (x ∷ xs) out l h = alike_fail (List ℕ) Any code.BadValue line
alike-filled k levels line y Format [] xs out l h = alike_fail (List ℕ) Any code.BadValue line
alike-filled k levels line y (Name n) [] xs out l h = alike_fail (List ℕ) Any code.BadValue line
alike-filled k levels line y (Named n) [] xs out l h = alike_fail (List ℕ) Any code.BadValue line
alike-filled k levels line y Between (b ∷ bs) xs out l h =
    alike_if Any (nat_eq b 37) _ _ _ _ (alike-filled k levels line y Format bs xs out l h) (alike-filled k levels line y Between bs xs (out ++ b ∷ []) l h)
alike-filled {w = w} k levels line y Format (b ∷ bs) xs out l h =
    alike_if Any (nat_eq b 37) _ _ _ _ (alike-filled k levels line y Between bs xs (out ++ b ∷ []) l h)
    (alike_if Any (opens w.language.dialect b) _ _ _ _ (alike-filled k levels line y (Name []) bs xs out l h)
    (alike_then (alike-next_text k levels line b xs h) (λ r q. alike-filled k levels line y Between bs r.1 (out ++ r.0) l q)))
alike-filled k levels line y (Name n) (b ∷ bs) xs out l h =
    alike_if Any (nat_eq b 41) _ _ _ _ (alike-filled k levels line y (Named n) bs xs out l h) (alike-filled k levels line y (Name (n ++ b ∷ [])) bs xs out l h)
alike-filled k levels line y (Named n) (b ∷ bs) xs out l h =
    alike_then (alike-named_text k levels line y n b l) (λ t _. alike-filled k levels line y Between bs [] (out ++ t) l tt)

pub alike-percent : {w : Setting} (k : Veil w) (levels line : ℕ) (t : List ℕ) (c : Content) (y : Value) → ContentIsVisible k.hides c → IsVisible k.hides y → Alike k (IsVisible k.hides) (percent w levels line t c y) (percent (with_other k.other w) levels line t c y)
alike-percent k levels line t c y h l =
    alike_then (alike_pay line (length t)) (λ _ _. alike_then (alike-filled k levels line y Between t (put_in c y) [] l (visible-put_in k c y h l)) (λ u _. alike-new_text k line u))
