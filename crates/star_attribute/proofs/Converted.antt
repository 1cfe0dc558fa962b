-- The text of a field whose conversion is taken off.
use Rattle.std.proofs.Common.{◌≡◌, ℕ, Bool, List, ap, ◌∙◌}
use Rattle.star_dialect.specs.declared.Dialect.{Dialect}
use Rattle.star_meaning.specs.declared.given.Arguments.{Arguments}
use Rattle.star_meaning.specs.Run.{State}
use Rattle.star_meaning.specs.Program.{Setting}
use Rattle.star_meaning.specs.Format.{Numbering, conversion, converted, field_text}

pub converted_is : (w : Setting) (levels line : ℕ) (g : Arguments) (d : Dialect) (f part : List ℕ) (b : Bool) (k : Numbering) (s : State) → d ≡ w.language.dialect → part ≡ (conversion d f).0 → b ≡ (conversion d f).1 → converted w levels line g (part, b) k s ≡ field_text w levels line g f k s
converted_is w levels line g d f part b k s e p q =
    ap (λ u. converted w levels line g (u, b) k s) p
    ∙ ap (λ u. converted w levels line g ((conversion d f).0, u) k s) q
    ∙ ap (λ u. converted w levels line g (conversion u f) k s) e
