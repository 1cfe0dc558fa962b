-- Actions that respect every invariant of runs: the method format.
use Rattle.star_store.specs.declared.values.Value.{Value}
use Rattle.star_meaning.specs.Program.{Setting}
use Rattle.star_meaning.specs.declared.given.Arguments.{Arguments}
use Rattle.star_meaning.specs.declared.given.KeywordArgument.{KeywordArgument}
use Rattle.std.proofs.Common.{ℕ, Bool, true, false, List, [], ◌∷◌}
use Rattle.star_meaning.specs.Format.{next_place, numbered_place, placed_value, named_value, field_value, text_by, converted, field_text, formatted, Numbering, Reading, Unused, Automatic, ByNumber, Outside, Field, Closing}
use Rattle.star_meaning.proofs.Invariants.{Invariant, Respects, respects}
use Rattle.star_meaning.proofs.KeepsValues.{respects-repr, respects-str}

pub respects-next_place : {w : Setting} {inv : Invariant w} → (line : ℕ) (a1 : Numbering) → Respects inv (next_place line a1)
respects-next_place line Unused = search respects depth 14
respects-next_place line (Automatic n) = search respects depth 14
respects-next_place line ByNumber = search respects depth 14

pub respects-numbered_place : {w : Setting} {inv : Invariant w} → (line : ℕ) (n : ℕ) (a2 : Numbering) → Respects inv (numbered_place line n a2)
respects-numbered_place line n (Automatic m) = search respects depth 14
respects-numbered_place line n _ = search respects depth 14

pub respects-placed_value : {w : Setting} {inv : Invariant w} → (line : ℕ) (xs : List Value) (p : ℕ × Numbering) → Respects inv (placed_value line xs p)
respects-placed_value line xs p = search respects depth 14

pub respects-named_value : {w : Setting} {inv : Invariant w} → (line : ℕ) (ns : List KeywordArgument) (name : List ℕ) (k : Numbering) → Respects inv (named_value line ns name k)
respects-named_value line ns name k = search respects depth 14

pub respects-field_value : {w : Setting} {inv : Invariant w} → (line : ℕ) (g : Arguments) (f : List ℕ) (k : Numbering) → Respects inv (field_value line g f k)
respects-field_value line g f k = search (respects, respects-next_place, respects-numbered_place, respects-placed_value, respects-named_value) depth 14

pub respects-text_by : (w : Setting) {inv : Invariant w} (levels : ℕ) (line : ℕ) (a3 : Bool) (x : Value) → Respects inv (text_by w levels line a3 x)
respects-text_by w levels line true x = search (respects, respects-repr) depth 14
respects-text_by w levels line false x = search (respects, respects-str) depth 14

pub respects-converted : (w : Setting) {inv : Invariant w} (levels : ℕ) (line : ℕ) (g : Arguments) (c : List ℕ × Bool) (k : Numbering) → Respects inv (converted w levels line g c k)
respects-converted w levels line g c k = search (respects, respects-field_value, respects-text_by) depth 14

pub respects-field_text : (w : Setting) {inv : Invariant w} (levels : ℕ) (line : ℕ) (g : Arguments) (f : List ℕ) (k : Numbering) → Respects inv (field_text w levels line g f k)
respects-field_text w levels line g f k = search (respects, respects-converted) depth 14

pub respects-formatted : (w : Setting) {inv : Invariant w} (levels : ℕ) (line : ℕ) (g : Arguments) (a4 : List ℕ) (a5 : Reading) (k : Numbering) (out : List ℕ) → Respects inv (formatted w levels line g a4 a5 k out)
respects-formatted w levels line g [] Outside k out = search respects depth 14
respects-formatted w levels line g [] (Field f) k out = search respects depth 14
respects-formatted w levels line g [] Closing k out = search respects depth 14
respects-formatted w {inv = inv} levels line g (b ∷ bs) Outside k out = let h1 : (z5 : Reading) → Respects inv (formatted w levels line g bs z5 k out) = λ z5. respects-formatted w levels line g bs z5 k out in let h2 : (z3 : Arguments) → Respects inv (formatted w levels line z3 bs Closing k out) = λ z3. respects-formatted w levels line z3 bs Closing k out in let h3 : (z7 : List ℕ) → Respects inv (formatted w levels line g bs Outside k z7) = λ z7. respects-formatted w levels line g bs Outside k z7 in search (respects, h1, h2, h3) depth 14
respects-formatted w {inv = inv} levels line g (b ∷ bs) Closing k out = let h1 : (z7 : List ℕ) → Respects inv (formatted w levels line g bs Outside k z7) = λ z7. respects-formatted w levels line g bs Outside k z7 in search (respects, h1) depth 14
respects-formatted w {inv = inv} levels line g (b ∷ bs) (Field f) k out = let h1 : (z7 : List ℕ) → Respects inv (formatted w levels line g bs Outside k z7) = λ z7. respects-formatted w levels line g bs Outside k z7 in let h2 : (z6 : Numbering) (z7 : List ℕ) → Respects inv (formatted w levels line g bs Outside z6 z7) = λ z6 z7. respects-formatted w levels line g bs Outside z6 z7 in let h3 : (z5 : Reading) → Respects inv (formatted w levels line g bs z5 k out) = λ z5. respects-formatted w levels line g bs z5 k out in search (respects, respects-field_text, h1, h2, h3) depth 14
