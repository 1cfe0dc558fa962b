use Rattle.std.proofs.Common.{◌∙◌, ◌∷◌, ◌++◌, ◌*◌, [], List, ℕ, Vec, Global, ap, arith, drop, length, length-append, subst, string_bytes, sym, take}
use Rattle.std.proofs.Math.Seq.{get_or-append_seam}
use Rattle.std.proofs.lemmas.List.{get_or_append_left}
use Rattle.std.specs.Prelude.{IfOk, Result}
use Rattle.std.specs.declared.alloc.AllocError.{AllocError}
use Rattle.star_repo.specs.Parsed.{AreParsed, ArePartsParsed}
use Rattle.star_reading.specs.Parsed.{IsParsed, ParsedView}
use Rattle.star_repo.proofs.Parts.{take_parts}
use Rattle.star_repo.proofs.Settled.{zip_append}
use Rattle.star_repo.proofs.Steps.{Fresh}
use Rattle.star_repo.proofs.parse.joined.Goals as goal

abbrev Part : Type 0
Part = Result (Vec ParsedView Global) AllocError

parts_front : (files : List Fresh) (size : ℕ) (parts : List Part) (part : Part) → ArePartsParsed files size (parts ++ part ∷ []) → ArePartsParsed files size parts
parts_front files size parts part h n d low =
    subst (λ (r : Part). IfOk r (λ parses. AreParsed (take size (drop (n * size) files)) parses.items)) (get_or_append_left parts (part ∷ []) d n low)
    (h n d (let e = length-append parts (part ∷ []) in omega (arith, e, low)))

part_last : (files : List Fresh) (size : ℕ) (parts : List Part) (part : Part) → ArePartsParsed files size (parts ++ part ∷ []) → IfOk part (λ parses. AreParsed (take size (drop (length parts * size) files)) parses.items)
part_last files size parts part h =
    subst (λ (r : Part). IfOk r (λ parses. AreParsed (take size (drop (length parts * size) files)) parses.items)) (get_or-append_seam parts part [] part)
    (h (length parts) part (let e = length-append parts (part ∷ []) in omega (arith, e)))

pub loop-part-preserved : goal.loop-part-preserved
loop-part-preserved c = λ files size parts.
    let yielded = c.loop-part.yielded in
    let before = c.loop-part.invariant files size (parts_front files size yielded c.in-Some.part parts) in
    let here = subst (λ (r : Part). IfOk r (λ parses. AreParsed (take size (drop (length yielded * size) files)) parses.items)) c.in_ok-part.was (part_last files size yielded c.in-Some.part parts) in
    let both = zip_append (λ (f : Fresh) (p : ParsedView). IsParsed (string_bytes f.1) p) (take (length yielded * size) files) (take size (drop (length yielded * size) files)) c.loop-part.parses.items c.in_ok-part.field-0.items before here in
    let cut = ap (λ n. take (n * size) files) (length-append yielded (c.in-Some.part ∷ [])) ∙ take_parts (length yielded) size files in
    subst (AreParsed (take (length (yielded ++ c.in-Some.part ∷ []) * size) files)) (sym c.in_ok-append.ensures.items) (subst (λ fs. AreParsed fs (c.loop-part.parses.items ++ c.in_ok-part.field-0.items)) (sym cut) both)
