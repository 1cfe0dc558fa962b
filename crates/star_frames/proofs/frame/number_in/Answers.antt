use Rattle.std.proofs.Common.{rules, arith, ◌≡◌, ◌<◌, ◌^◌, ◌++◌, ◌∷◌, [], List, ℕ, true, sym, ◌∙◌, ap, subst, append-nil}
use Rattle.std.proofs.lemmas.Fmt.{IsAscii-decimal, decimal_nonempty, digits_decimal, parse-decimal}
use Rattle.std.proofs.lemmas.Str.{IsUtf8-from_ascii}
use Rattle.std.proofs.lemmas.Str.Parse.{IsNumeralModel, numerals_by_value, tells_all_ascii_digits, trim_to_digits}
use Rattle.std.specs.Fmt.{decimal}
use Rattle.std.specs.Str.{IsUtf8, all_ascii_digits}
use Rattle.std.specs.Str.Parse.{digits_value}
use Rattle.star_frames.proofs.frame.number_in.Goals as goal

own : IsNumeralModel (λ ds. all_ascii_digits ds ≡ true) (digits_value 10)
own = numerals_by_value _ tells_all_ascii_digits

pub returns-in-Ok : goal.returns-in-Ok
returns-in-Ok c n small e =
    let big : n < 2 ^ 64 = omega arith in
    let there : c.in-Ok.text.now ≡ (32 ∷ []) ++ (decimal n ++ []) =
    c.in-Ok.ensures.cases.0 ∙ e ∙ ap (λ xs. 32 ∷ xs) (sym (append-nil (decimal n))) in
    let t = trim_to_digits own c.in-Ok.text.now c.trim.result.now (32 ∷ []) (decimal n) [] c.trim.ensures.value there (search rules) tt (digits_decimal own n big) (decimal_nonempty n big) in
    search (rules, parse-decimal 64 n c.trim.result.now c.parse.result big big t c.parse.ensures.value.0)

pub returns-in-Err : goal.returns-in-Err
returns-in-Err c n small e =
    let big : n < 2 ^ 64 = omega arith in
    absurd (c.in-Err.ensures.cases.0 (subst IsUtf8 (sym e) (IsUtf8-from_ascii (32 ∷ decimal n) (search (rules, IsAscii-decimal n big)))))
