-- Calls that modules recorded: their rows, and the lines of roots.
use Rattle.std.proofs.Common.{◌≡◌, ◌<◌, ◌+◌, ℕ, Bool, true, false, ◌||◌, List, [], ◌∷◌, ◌++◌, get_or, length, map, take, drop, zero, suc, if◌then◌else◌, refl, ap, sym, subst, ◌∙◌, arith}
use Rattle.std.specs.Prelude.{Contains, flat_map}
use Rattle.std.proofs.lemmas.List.{append-nil, append_assoc, get_or_default, take_all, take_more}
use Rattle.serde_json.specs.Written.{comma_if}
use Rattle.star_label.specs.Files.{File}
use Rattle.star_meaning.specs.declared.said.RecordedCall.{RecordedCall}
use Rattle.star_meaning.specs.declared.said.Said.{Said}
use Rattle.star_meaning.specs.declared.said.Said.TheVariants.{Call, Line}
use Rattle.star_meaning.specs.Module.{Good as WentWell, Stopped as HadFault}
use Rattle.star_plan.specs.Plan.{Plan}
use Rattle.star_plan.specs.Results.{Ran, Static as StaticOutcome, Unloaded as UnloadedOutcome}
use Rattle.star_reading.specs.Codes.{fault_of}
use Rattle.std.specs.Arc.{arc_value}
use Rattle.star_outcome.specs.Views.{IsEnd, IsModule, ended_well}
use Rattle.star_outcome.specs.declared.module.Ended.{Ended}
use Rattle.star_outcome.specs.declared.module.Ended.TheVariants.{Static, Load as Unloaded, Stopped, Good}
use Rattle.star_outcome.specs.declared.module.Module.{Module}
use Rattle.star_report.specs.Calls.{AddsRoot, AreCalls, CallsOf, HasFailed, HasSaid, IsFirstNotOk, call_row, calls_from, calls_in, is_call, label_json, line_if, row_of, said_of}
use Rattle.star_report.proofs.SaidRows.{calls_more}
use Rattle.star_report.proofs.Sheets.{SoFar, page_more}

-- ---- the rows of calls

abbrev pub rows_of : List Said → List (List ℕ)
rows_of xs = map call_row (calls_in xs)

rows_append : (cs ds : List RecordedCall) → map call_row (cs ++ ds) ≡ map call_row cs ++ map call_row ds
rows_append [] ds = refl
rows_append (c ∷ cs) ds = ap (λ r. call_row c ∷ r) (rows_append cs ds)

one_row : (x : Said) → map call_row (calls_in (x ∷ [])) ≡ (if is_call x then row_of x ∷ [] else [])
one_row (Line t) = refl
one_row (Call c) = refl

pub rows_begin : (first : List ℕ) → SoFar first [] false first
rows_begin first = record { some = λ h. absurd (let no : ⊥ = cc in no); none = λ h. refl; text = sym (append-nil first) }

pub rows_next : (first : List ℕ) (xs : List Said) (i : ℕ) (x : Said) (old new : List ℕ) (later now : Bool) → i < length xs → SoFar first (rows_of (take i xs)) later old → now ≡ (later || is_call (get_or xs i x))
    → new ≡ old ++ (if is_call (get_or xs i x) then comma_if later ++ row_of (get_or xs i x) else []) → SoFar first (rows_of (take (i + 1) xs)) now new
rows_next first xs i x old new later now less so_far is more =
    let y : Said = get_or xs i x in
    let rows : rows_of (take (i + 1) xs) ≡ rows_of (take i xs) ++ (if is_call y then row_of y ∷ [] else []) =
    ap (map call_row) (calls_more xs i x less) ∙ (rows_append (calls_in (take i xs)) (calls_in (y ∷ [])) ∙ ap (λ r. rows_of (take i xs) ++ r) (one_row y)) in
    subst (λ ts. SoFar first ts now new) (sym rows) (page_more first (rows_of (take i xs)) (row_of y) old new later now (is_call y) so_far is more)

-- ---- the lines of the calls of a name

lines_append : (label name : List ℕ) (xs ys : List Said) → calls_from label name (xs ++ ys) ≡ calls_from label name xs ++ calls_from label name ys
lines_append label name [] ys = refl
lines_append label name (x ∷ xs) ys = ap (λ t. line_if label name x ++ t) (lines_append label name xs ys) ∙ sym (append_assoc (line_if label name x) (calls_from label name xs) (calls_from label name ys))

pub lines_next : (label name : List ℕ) (xs : List Said) (i : ℕ) (x : Said) (first old new : List ℕ) → i < length xs → old ≡ first ++ calls_from label name (take i xs) → new ≡ old ++ line_if label name (get_or xs i x) → new ≡ first ++ calls_from label name (take (i + 1) xs)
lines_next label name xs i x first old new less was more =
    let y : Said = get_or xs i x in
    more
    ∙ (ap (λ t. t ++ line_if label name y) was
    ∙ (append_assoc first (calls_from label name (take i xs)) (line_if label name y)
    ∙ ap (λ t. first ++ t) (ap (λ t. calls_from label name (take i xs) ++ t) (sym (append-nil (line_if label name y))) ∙ sym (lines_append label name (take i xs) (y ∷ [])) ∙ ap (calls_from label name) (sym (take_more xs i x less)))))

-- ---- roots

pub said_by_end : (plan : Plan) (n : ℕ) (e : Ended) → IsEnd plan n e → ended_well e ≡ true → HasSaid plan n (said_of e)
said_by_end plan n (Static f) is well = absurd (let no : ⊥ = cc in no)
said_by_end plan n (Unloaded index line) is well = absurd (let no : ⊥ = cc in no)
said_by_end plan n (Stopped code line lines story) is well = absurd (let no : ⊥ = cc in no)
said_by_end plan n (Good b) is well = (Ran (WentWell is.shelf is.globals (arc_value (arc_value b).shown) (arc_value b).lines.items), is.outcome, refl)

pub failed_by_end : (plan : Plan) (n : ℕ) (e : Ended) → IsEnd plan n e → ended_well e ≡ false → HasFailed plan n
failed_by_end plan n (Static f) is bad = (StaticOutcome (fault_of f), is, tt)
failed_by_end plan n (Unloaded index line) is bad = (UnloadedOutcome index, is.0, tt)
failed_by_end plan n (Stopped code line lines story) is bad = (Ran (HadFault (record { code = code; line = line }) lines.items), is, tt)
failed_by_end plan n (Good b) is bad = absurd (let no : ⊥ = cc in no)

-- the root of a plan is added, if its module is
pub root_added : (files : List File) (plan : Plan) (n : ℕ) (name : List ℕ) (m : Module) (old new : List ℕ) (ok : Bool) → IsModule plan n m → CallsOf files n name m old new ok → AddsRoot files plan name n old new ok
root_added files plan n name m old new true is (well, more) = (said_of m.ended, said_by_end plan n m.ended is.ended well, more)
root_added files plan n name m old new false is (bad, same) = (failed_by_end plan n m.ended is.ended bad, same)

are_push : (files : List File) (plan : Plan) (name ns : List ℕ) (n : ℕ) (text : List ℕ) (xs : List Said) → AreCalls files plan name ns text → HasSaid plan n xs → AreCalls files plan name (ns ++ n ∷ []) (text ++ calls_from (label_json files n) name xs)
are_push files plan name [] n text xs none has = (xs, [], has, refl, ap (λ t. t ++ calls_from (label_json files n) name xs) none ∙ sym (append-nil (calls_from (label_json files n) name xs)))
are_push files plan name (m ∷ ns) n text xs (ys, more, own, rest, is) has =
    (ys, more ++ calls_from (label_json files n) name xs, own, are_push files plan name ns n more xs rest has, ap (λ t. t ++ calls_from (label_json files n) name xs) is ∙ append_assoc (calls_from (label_json files m) name ys) more (calls_from (label_json files n) name xs))

pub root_next : (files : List File) (plan : Plan) (name roots : List ℕ) (i n : ℕ) (old new : List ℕ) → i < length roots → ((d : ℕ) → get_or roots i d ≡ n) → AddsRoot files plan name n old new true → AreCalls files plan name (take i roots) old → AreCalls files plan name (take (i + 1) roots) new
root_next files plan name roots i n old new less at (xs, has, more) are =
    subst (AreCalls files plan name (take (i + 1) roots)) (sym more)
    (subst (λ ns. AreCalls files plan name ns (old ++ calls_from (label_json files n) name xs)) (ap (λ k. take i roots ++ k ∷ []) (sym (at 0)) ∙ sym (take_more roots i 0 less)) (are_push files plan name (take i roots) n old xs are has))

split_at : (roots : List ℕ) (i n : ℕ) → i < length roots → ((d : ℕ) → get_or roots i d ≡ n) → roots ≡ take i roots ++ n ∷ drop (i + 1) roots
split_at [] i n less at = absurd (let no : ⊥ = omega (arith, less) in no)
split_at (x ∷ xs) zero n less at = ap (λ y. y ∷ xs) (at 0)
split_at (x ∷ xs) (suc i) n less at =
    let same : drop (suc i + 1) (x ∷ xs) ≡ drop (i + 1) xs = ap (λ k. drop k (x ∷ xs)) (let e : suc i + 1 ≡ suc (i + 1) = omega arith in e) in
    ap (λ ys. x ∷ ys) (split_at xs i n (omega (arith, less)) at) ∙ ap (λ ys. x ∷ (take i xs ++ n ∷ ys)) (sym same)

pub first_failed : (files : List File) (plan : Plan) (name roots : List ℕ) (i n : ℕ) (old new : List ℕ) → i < length roots → ((d : ℕ) → get_or roots i d ≡ n) → AddsRoot files plan name n old new false → AreCalls files plan name (take i roots) old → IsFirstNotOk files plan name roots n
first_failed files plan name roots i n old new less at (bad, same) are = record {
  before = take i roots;
  after = drop (i + 1) roots;
  text_before = old;
  files_are = split_at roots i n less at;
  calls = are;
  lacks = bad;
}

pub all_roots : (files : List File) (plan : Plan) (name roots : List ℕ) (i : ℕ) (text : List ℕ) → i ≡ length roots → AreCalls files plan name (take i roots) text → AreCalls files plan name roots text
all_roots files plan name roots i text end was = subst (λ ns. AreCalls files plan name ns text) (take_all i roots (let e : i ≡ length roots = end in omega arith)) was
