-- Readings that are known before files are read.
use Rattle.std.proofs.Common.{◌≡◌, ℕ, List, [], length, Option, Some, None, ap, sym, ◌∙◌, subst, arith}
use Rattle.star_dialect.specs.declared.Language.{Language}
use Rattle.star_label.specs.Files.{File, text_at}
use Rattle.star_parser.proofs.Once.{one_answer}
use Rattle.star_scope.specs.Resolve.{outside, prelude_names}
use Rattle.star_scope.specs.declared.program.Prelude.{Prelude}
use Rattle.star_plan.specs.Reading.{IsPrelude, statements_in}
use Rattle.star_reading.specs.Found.{AreKnown, IsReadOf}
use Rattle.star_reading.specs.Readings.{AreReadAs, Row}

-- nothing is known
pub none_known : (files : List File) (prelude : Option ℕ) (d : Language) (row : Row) → row ≡ [] → AreKnown files prelude d row
none_known files prelude d row e block is n o h = absurd (let l : length row ≡ 0 = ap length e in let no : ⊥ = omega (arith, l, h) in no)

-- files have one prelude
one_prelude : (files : List File) (o : Option ℕ) (a b : Option Prelude) → IsPrelude files o a → IsPrelude files o b → a ≡ b
one_prelude files None a b x y = x ∙ sym y
one_prelude files (Some n) a b (r, parses, other, is) (t, also, another, at) =
    let same : r ≡ t = one_answer (text_at files n) r t other another parses also in
    is ∙ (ap (λ z. let q : Prelude = record { file = n; names = prelude_names (statements_in z) } in Some q) same ∙ sym at)

-- readings by the prelude of the files are known
pub known_by : (files : List File) (prelude : Option ℕ) (d : Language) (block : Option Prelude) (row : Row) → IsPrelude files prelude block → AreReadAs files (outside block d) row → AreKnown files prelude d row
known_by files prelude d block row is right other also = subst (λ p. AreReadAs files (outside p d) row) (one_prelude files prelude block other is also) right

-- the readings of files are known when the same files are read again, by any roots
pub known_again : (files : List File) (roots : List ℕ) (prelude : Option ℕ) (d : Language) (row : Row) → IsReadOf files roots prelude d row → AreKnown files prelude d row
known_again files roots prelude d row (block, is, rows) = known_by files prelude d block row is rows.right
