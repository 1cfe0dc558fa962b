-- Pairs of actions that do the same over two shelves: the method format.
use Rattle.std.proofs.Common.{ℕ, ◌+◌, List, [], ◌∷◌, ◌++◌, length, Some, Bool, true, false, nat_eq, slice_get}
use Rattle.std.specs.List.{find, list_all}
use Rattle.std.specs.Option.{option_map}
use Rattle.star_store.specs.declared.values.Value.{Value}
use Rattle.star_outline.specs.Names.{same_name}
use Rattle.star_meaning.specs.declared.fault.FaultCode.TheVariants as code
use Rattle.star_meaning.specs.declared.given.Arguments.{Arguments}
use Rattle.star_meaning.specs.declared.given.KeywordArgument.{KeywordArgument}
use Rattle.star_meaning.specs.Program.{Setting}
use Rattle.star_meaning.specs.Spelling.{is_digit, number_from}
use Rattle.star_meaning.specs.Format.{Automatic, ByNumber, Closing, Field, Numbering, Outside, Reading, Unused, conversion, converted, field_text, field_value, formatted, is_field_name, named_value, next_place, numbered_place, placed_value, text_by}
use Rattle.star_unseen.specs.Veil.{AreVisible, Every, Hides, IsVisible, Maybe}
use Rattle.star_unseen.specs.Shelves.{Veil, with_other}
use Rattle.star_unseen.proofs.Rows.{every_get, maybe_if, maybe_map}
use Rattle.star_unseen.proofs.Visible.{ArgumentsAreVisible, KeywordIsVisible, KeywordsAreVisible}
use Rattle.star_unseen.proofs.Alike.{Alike, Any, alike_fail, alike_found, alike_give, alike_if, alike_then}
use Rattle.star_unseen.proofs.Values.{alike-repr, alike-str}

pub every_find : {A : Type 0} (P : A → Type 0) (f : A → Bool) (xs : List A) → Every P xs → Maybe P (find f xs)
every_find P f [] h = tt
every_find P f (x ∷ xs) h = maybe_if P (f x) (Some x) (find f xs) h.0 (every_find P f xs h.1)

-- a value with a numbering
abbrev pub WithNumbering : Hides → Value × Numbering → Type 0
WithNumbering hides r = IsVisible hides r.0

pub alike-next_place : {w : Setting} (k : Veil w) (line : ℕ) (n : Numbering) → Alike k Any (next_place line n) (next_place line n)
alike-next_place k line Unused = alike_give {A = ℕ × Numbering} Any (0, Automatic 1) tt
alike-next_place k line (Automatic n) = alike_give {A = ℕ × Numbering} Any (n, Automatic (n + 1)) tt
alike-next_place k line ByNumber = alike_fail (ℕ × Numbering) Any code.BadValue line

pub alike-numbered_place : {w : Setting} (k : Veil w) (line n : ℕ) (m : Numbering) → Alike k Any (numbered_place line n m) (numbered_place line n m)
alike-numbered_place k line n (Automatic m) = alike_fail (ℕ × Numbering) Any code.BadValue line
alike-numbered_place k line n _ = alike_give {A = ℕ × Numbering} Any (n, ByNumber) tt

pub alike-placed_value : {w : Setting} (k : Veil w) (line : ℕ) (xs : List Value) (p : ℕ × Numbering) → AreVisible k.hides xs → Alike k (WithNumbering k.hides) (placed_value line xs p) (placed_value line xs p)
alike-placed_value k line xs p h =
    alike_then (alike_found (IsVisible k.hides) code.Index line (slice_get xs p.0) (every_get (IsVisible k.hides) xs p.0 h)) (λ v l. alike_give (WithNumbering k.hides) (v, p.1) l)

pub alike-named_value : {w : Setting} (k : Veil w) (line : ℕ) (ns : List KeywordArgument) (name : List ℕ) (n : Numbering) → KeywordsAreVisible k.hides ns → Alike k (WithNumbering k.hides) (named_value line ns name n) (named_value line ns name n)
alike-named_value k line ns name n h =
    alike_then (alike_found (IsVisible k.hides) code.Key line (option_map (λ (a : KeywordArgument). a.value) (find (λ (a : KeywordArgument). same_name a.name name) ns))
    (maybe_map (KeywordIsVisible k.hides) (IsVisible k.hides) (λ (a : KeywordArgument). a.value) (λ a p. p.1) (find (λ (a : KeywordArgument). same_name a.name name) ns) (every_find (KeywordIsVisible k.hides) _ ns h)))
    (λ v l. alike_give (WithNumbering k.hides) (v, n) l)

pub alike-field_value : {w : Setting} (k : Veil w) (line : ℕ) (g : Arguments) (f : List ℕ) (n : Numbering) → ArgumentsAreVisible k.hides g → Alike k (WithNumbering k.hides) (field_value line g f n) (field_value line g f n)
alike-field_value k line g f n h =
    alike_if (WithNumbering k.hides) (nat_eq (length f) 0) _ _ _ _ (alike_then (alike-next_place k line n) (λ p _. alike-placed_value k line g.positional p h.0))
    (alike_if (WithNumbering k.hides) (list_all is_digit f) _ _ _ _ (alike_then (alike-numbered_place k line (number_from 0 f) n) (λ p _. alike-placed_value k line g.positional p h.0))
    (alike_if (WithNumbering k.hides) (is_field_name f) _ _ _ _ (alike-named_value k line g.named f n h.1)
    (alike_fail (Value × Numbering) (WithNumbering k.hides) code.BadValue line)))

pub alike-text_by : {w : Setting} (k : Veil w) (levels line : ℕ) (b : Bool) (x : Value) → IsVisible k.hides x → Alike k Any (text_by w levels line b x) (text_by (with_other k.other w) levels line b x)
alike-text_by k levels line true x h = alike-repr k levels line x h
alike-text_by k levels line false x h = alike-str k levels line x h

pub alike-converted : {w : Setting} (k : Veil w) (levels line : ℕ) (g : Arguments) (c : List ℕ × Bool) (n : Numbering) → ArgumentsAreVisible k.hides g → Alike k Any (converted w levels line g c n) (converted (with_other k.other w) levels line g c n)
alike-converted k levels line g c n h =
    alike_then (alike-field_value k line g c.0 n h) (λ r l. alike_then (alike-text_by k levels line c.1 r.0 l) (λ t _. alike_give {A = List ℕ × Numbering} Any (t, r.1) tt))

pub alike-field_text : {w : Setting} (k : Veil w) (levels line : ℕ) (g : Arguments) (f : List ℕ) (n : Numbering) → ArgumentsAreVisible k.hides g → Alike k Any (field_text w levels line g f n) (field_text (with_other k.other w) levels line g f n)
alike-field_text {w = w} k levels line g f n h = alike-converted k levels line g (conversion w.language.dialect f) n h

pub alike-formatted : {w : Setting} (k : Veil w) (levels line : ℕ) (g : Arguments) (t : List ℕ) (r : Reading) (n : Numbering) (out : List ℕ) → ArgumentsAreVisible k.hides g → Alike k Any (formatted w levels line g t r n out) (formatted (with_other k.other w) levels line g t r n out)
alike-formatted k levels line g [] Outside n out h = alike_give {A = List ℕ} Any out tt
alike-formatted k levels line g [] (Field f) n out h = alike_fail (List ℕ) Any code.BadValue line
alike-formatted k levels line g [] Closing n out h = alike_fail (List ℕ) Any code.BadValue line
alike-formatted k levels line g (b ∷ bs) Outside n out h =
    alike_if Any (nat_eq b 123) _ _ _ _ (alike-formatted k levels line g bs (Field []) n out h)
    (alike_if Any (nat_eq b 125) _ _ _ _ (alike-formatted k levels line g bs Closing n out h)
    (alike-formatted k levels line g bs Outside n (out ++ b ∷ []) h))
alike-formatted k levels line g (b ∷ bs) Closing n out h =
    alike_if Any (nat_eq b 125) _ _ _ _ (alike-formatted k levels line g bs Outside n (out ++ b ∷ []) h) (alike_fail (List ℕ) Any code.BadValue line)
alike-formatted k levels line g (b ∷ bs) (Field f) n out h =
    alike_if Any (nat_eq b 123) _ _ _ _
    (alike_if Any (nat_eq (length f) 0) _ _ _ _ (alike-formatted k levels line g bs Outside n (out ++ b ∷ []) h) (alike_fail (List ℕ) Any code.BadValue line))
    (alike_if Any (nat_eq b 125) _ _ _ _
    (alike_then (alike-field_text k levels line g f n h) (λ r _. alike-formatted k levels line g bs Outside r.1 (out ++ r.0) h))
    (alike-formatted k levels line g bs (Field (f ++ b ∷ [])) n out h))
