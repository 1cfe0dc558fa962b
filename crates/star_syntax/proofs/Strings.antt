-- The value of a string without escapes and line ends.
use Rattle.std.proofs.Common.{◌≡◌, ℕ, ◌==◌, Bool, true, false, not, ◌&&◌, ◌||◌, ◌-◌, [], ◌∷◌, ◌++◌, Option, Some, None, refl, ap, sym, ◌∙◌, if◌then◌else◌}
use Rattle.std.proofs.lemmas.Bool.{true≢false}
use Rattle.star_lex.specs.declared.value.Quoting.{Quoting}
use Rattle.star_lex.specs.declared.value.EscapeValue.TheVariants.{Byte}
use Rattle.star_lex.specs.Values.{Text, Part, after, as_byte, as_kept, decoded, decoded_from, escape, is_line_end, line_end_size, meant, part, plain}
use Rattle.star_syntax.specs.Leaves.{means_itself}

first-bare : (a c m : Bool) → (not (a || c) && m) ≡ true → (a ≡ false) × ((c ≡ false) × (m ≡ true))
first-bare true c m e = absurd (true≢false (sym e))
first-bare false true m e = absurd (true≢false (sym e))
first-bare false false m e = (refl, (refl, e))

itself : (q : Quoting) (b : ℕ) (z : Text) → (b == 92) ≡ false → is_line_end b ≡ false → part q (b ∷ z) ≡ Some (1, Byte b)
unfolding part
itself q b z e l =
    ap (λ c. if c then (if q.raw then as_kept (plain q.triple z) else after 1 (escape z)) else as_byte (plain q.triple (b ∷ z))) e
    ∙ ap (λ c. as_byte (if c then (if q.triple then Some (line_end_size (b ∷ z), 10) else None) else Some (1, b))) l

abbrev decoded_by : Quoting → Text → Option Part → Text
decoded_by q z None = []
decoded_by q z (Some p) = meant p.1 ++ decoded_from (p.0 - 1) q z

pub decoded_itself : (q : Quoting) (z : Text) → means_itself z ≡ true → decoded q z ≡ z
unfolding decoded
decoded_itself q [] e = refl
decoded_itself q (b ∷ z) e =
    let f = first-bare (b == 92) (is_line_end b) (means_itself z) e in
    ap (decoded_by q z) (itself q b z f.0 f.1.0) ∙ ap (λ y. b ∷ y) (decoded_itself q z f.1.1)
