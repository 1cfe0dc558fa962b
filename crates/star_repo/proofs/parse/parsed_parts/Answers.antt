use Rattle.std.proofs.Common.{◌∙◌, ◌*◌, ◌≤◌, Vec, Global, length, subst, sym}
use Rattle.std.specs.Prelude.{IfOk, Result, Ok, Err, slice_index_or}
use Rattle.std.specs.declared.alloc.AllocError.{AllocError}
use Rattle.std.proofs.lemmas.List.{take_all}
use Rattle.star_repo.specs.Parsed.{AreParsed, ArePartsParsed}
use Rattle.star_reading.specs.Parsed.{ParsedView}
use Rattle.star_repo.proofs.Parts.{parts_hold}
use Rattle.star_repo.proofs.parse.parsed_parts.Goals as goal

if_ok : {A E : Type 0} (P Q : A → Type 0) (r : Result A E) → IfOk r P → ((x : A) → P x → Q x) → IfOk r Q
if_ok P Q (Ok x) h k = k x h
if_ok P Q (Err e) h k = tt

pub returns : goal.returns
returns g c =
    let files = c.args.files.now in
    let size = c.args.size in
    let parts = c.in_ok-parts.parts in
    let are : ArePartsParsed files size parts.items = λ n d low.
    let given = c.in_ok-parts.ensures.each n d low in
    subst (λ fs. IfOk {T = Vec ParsedView Global} {E = AllocError} (slice_index_or parts.items n d) (λ (v : Vec ParsedView Global). AreParsed fs v.items)) given.1.argument_is.value given.1.call in
    let whole : length files ≤ length parts.items * size = subst (λ k. length files ≤ k * size) (sym c.in_ok-parts.ensures.len ∙ parts.ok.0) (parts_hold (length files) size c.requires) in
    if_ok _ _ c.joined.result c.joined.ensures (λ parses h. subst (λ fs. AreParsed fs parses.items) (take_all (length parts.items * size) files whole) (h files size are))
