-- The files of a session stay in order, and their bundle has its reports.
use Rattle.std.proofs.Common.{◌≡◌, ℕ, Bool, true, false, List, [], ◌∷◌, map, cond, Option, Some, None, Ok, refl, sym, subst, inl, inr}
use Rattle.std.specs.BTreeMap.{is_at}
use Rattle.std.specs.Cmp.Lexicographic.{slice_cmp}
use Rattle.std.specs.declared.cmp.Ordering.{Ordering}
use Rattle.std.specs.declared.cmp.Ordering.TheVariants.{Less}
use Rattle.std.specs.List.{AllByRecursion}
use Rattle.std.specs.List.Sorted.{IsStrictlySortedBy}
use Rattle.std.specs.Map.{remove_entry}
use Rattle.std.specs.Ordering.{nat_cmp}
use Rattle.star_label.specs.declared.error.LabelError.{LabelError}
use Rattle.star_label.specs.declared.error.LabelError.TheVariants as limit
use Rattle.star_label.specs.Files.{File, IsOrdered, limit_passed}
use Rattle.star_bundle.specs.Bundle.{asked_among, within_limits}
use Rattle.star_session.specs.Answers.{AreAnswered, IsAnswered}
use Rattle.star_session.specs.Changes.{Change, changed, files_after}
use Rattle.star_session.specs.declared.request.Defaults.{Defaults}
use Rattle.star_reply.proofs.Ordered.{before as parts, put_ordered}
use Rattle.star_alike.specs.Laws.{BundlesReply, FilesInOrder}
use Rattle.star_alike.proofs.Bundles.{bundles_are_files}
use Rattle.star_alike.proofs.Sessions.{not_refused, sessions_reply}

abbrev R : List ℕ → List ℕ → Ordering
R = slice_cmp nat_cmp

abbrev label_of : File → List ℕ
label_of f = f.0

-- a property of all labels is one of those that are left
all_left : (P : List ℕ → Type 0) (p : List ℕ → Bool) (fs : List File) → AllByRecursion P (map label_of fs) → AllByRecursion P (map label_of (remove_entry p fs))
all_left P p [] a = tt
all_left P p (f ∷ fs) a = by (p f.0) (all_left P p fs a.1)
  where
    by : (b : Bool) → AllByRecursion P (map label_of (remove_entry p fs)) → AllByRecursion P (map label_of (cond b fs (f ∷ remove_entry p fs)))
    by true more = a.1
    by false more = (a.0, more)

left_ordered : (p : List ℕ → Bool) (fs : List File) → IsOrdered fs → IsOrdered (remove_entry p fs)
unfolding IsStrictlySortedBy
left_ordered p [] s = s
left_ordered p (f ∷ fs) s = by (p f.0) (left_ordered p fs s.1)
  where
    by : (b : Bool) → IsOrdered (remove_entry p fs) → IsOrdered (cond b fs (f ∷ remove_entry p fs))
    by true more = s.1
    by false more = (all_left (λ z. R f.0 z ≡ Less) p fs s.0, more)

changed_ordered : (files : List File) (label : List ℕ) (text : Option (List ℕ)) → IsOrdered files → IsOrdered (changed files label text)
changed_ordered files label None s = left_ordered (is_at (R label)) files s
changed_ordered files label (Some text) s = put_ordered files label text s

after_ordered : (cs : List Change) (files : List File) → IsOrdered files → IsOrdered (files_after files cs)
unfolding files_after
after_ordered [] files s = s
after_ordered (c ∷ cs) files s = after_ordered cs (changed files c.0 c.1) (changed_ordered files c.0 c.1 s)

one_line : (defaults : Defaults) (before after : List File) (line answer : List ℕ) → IsOrdered before → IsAnswered defaults before line after answer → IsOrdered after
one_line defaults before after line answer s (inl (a, asks, r)) = subst IsOrdered (sym r.after_is) (after_ordered a.changes before s)
one_line defaults before after line answer s (inr refused) = subst IsOrdered (sym refused.0) s

all_lines : (defaults : Defaults) (lines answers : List (List ℕ)) (before after : List File) → IsOrdered before → AreAnswered (IsAnswered defaults) before lines after answers → IsOrdered after
all_lines defaults [] [] before after s h = subst IsOrdered (sym h) s
all_lines defaults [] (x ∷ xs) before after s h = absurd h
all_lines defaults (l ∷ ls) [] before after s h = absurd h
all_lines defaults (l ∷ ls) (x ∷ xs) before after s (between, one, rest) = all_lines defaults ls xs between after (one_line defaults before between l x s one) rest

pub files_in_order : FilesInOrder
files_in_order defaults before after lines answers s h = all_lines defaults lines answers before after s h

no_limit : (files out : List File) (o : Option LabelError) → within_limits files o ≡ Ok out → o ≡ None
no_limit files out None e = refl
no_limit files out (Some limit.TooMany) e = absurd (let no : ⊥ = cc in no)
no_limit files out (Some limit.TooLong) e = absurd (let no : ⊥ = cc in no)
no_limit files out (Some limit.BadLabel) e = absurd (let no : ⊥ = cc in no)
no_limit files out (Some limit.Memory) e = absurd (let no : ⊥ = cc in no)

pub bundles_reply : BundlesReply
bundles_reply files a report h s labels texts =
    let both = parts (within_limits files (limit_passed files)) (λ fs. asked_among a.roots a.prelude fs) h.asked (not_refused _ _ _ h.asked h.asks) in
    let is = bundles_are_files files s labels texts (no_limit files both.0 (limit_passed files) both.1) in
    let it = sessions_reply files a report h in
    (it.ok, it.is_reply _ [] is)
