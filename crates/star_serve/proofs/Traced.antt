-- The lines of the trace.
use Rattle.std.proofs.Common.{◌≡◌, ◌<◌, ◌+◌, ℕ, List, [], ◌∷◌, ◌++◌, Option, None, Some, Result, Ok, Err, length, take, get_or, suc, refl, ap, sym, ◌∙◌, append_assoc}
use Rattle.std.proofs.lemmas.List.{append-nil}
use Rattle.std.specs.Prelude.{IfOk}
use Rattle.std.proofs.Math.Seq.{take-suc}
use Rattle.star_label.specs.Files.{File}
use Rattle.star_outcome.specs.declared.trace.CyclicLoad.{CyclicLoad}
use Rattle.star_serve.specs.Stream.{Adds}
use Rattle.star_serve.specs.Trace.{trace_line, trace_text}
use Rattle.star_serve.proofs.Streams.{Adds-more}

text-append : (files : List File) (xs ys : List CyclicLoad) → trace_text files (xs ++ ys) ≡ trace_text files xs ++ trace_text files ys
text-append files [] ys = refl
text-append files (x ∷ xs) ys = ap (λ t. trace_line files x ++ t) (text-append files xs ys) ∙ sym (append_assoc (trace_line files x) (trace_text files xs) (trace_text files ys))

pub text-suc : (files : List File) (rs : List CyclicLoad) (i : ℕ) (d : CyclicLoad) → i < length rs
    → trace_text files (take (suc i) rs) ≡ trace_text files (take i rs) ++ trace_line files (get_or rs i d)
text-suc files rs i d h =
    ap (trace_text files) (take-suc rs i d h)
    ∙ (text-append files (take i rs) (get_or rs i d ∷ [])
    ∙ ap (λ t. trace_text files (take i rs) ++ t) (append-nil (trace_line files (get_or rs i d))))

-- nothing went through
pub Adds-nothing : (o : Option (List ℕ)) → Adds o o []
Adds-nothing None = tt
Adds-nothing (Some s) = ap Some (sym (append-nil s))

-- one line more
pub Adds-line : (files : List File) (rs : List CyclicLoad) (i k : ℕ) (d : CyclicLoad) (a b c : Option (List ℕ)) → k ≡ suc i → i < length rs
    → Adds a b (trace_text files (take i rs)) → Adds b c (trace_line files (get_or rs i d))
    → Adds a c (trace_text files (take k rs))
Adds-line files rs i k d a b c next h before line = rw (next, text-suc files rs i d h) (Adds-more a b c _ _ before line)

-- two facts of an answer
pub if_ok_both : {T E : Type 0} (r : Result T E) (P Q : T → Type 0) → IfOk r P → IfOk r Q → IfOk r (λ x. P x × Q x)
if_ok_both (Ok x) P Q p q = (p, q)
if_ok_both (Err e) P Q p q = tt
