-- The files of their bundle are these files.
use Rattle.std.proofs.Common.{arith, ◌≡◌, ◌≤◌, max, ℕ, Bool, true, false, List, [], ◌∷◌, ◌++◌, map, IsUtf8, Some, None, Ok, Err, append_assoc, append-nil, option_map, option_and_then, if◌then◌else◌, refl, ap, sym, ◌∙◌}
use Rattle.std.specs.BTreeMap.{insert_entry}
use Rattle.std.specs.Cmp.Lexicographic.{slice_cmp}
use Rattle.std.specs.declared.cmp.Ordering.{Ordering}
use Rattle.std.specs.declared.cmp.Ordering.TheVariants.{Less, Greater}
use Rattle.std.specs.List.{AllByRecursion, list_all}
use Rattle.std.specs.List.Sorted.{IsStrictlySortedBy}
use Rattle.std.specs.Ordering.{match_ordering, nat_cmp, ordering_reverse}
use Rattle.std.specs.Str.{is_utf8}
use Rattle.std.proofs.lemmas.Cmp.{nat_list_cmp_total}
use Rattle.std.proofs.lemmas.Str.{IsUtf8-append, is_utf8-from_IsUtf8}
use Rattle.json.specs.Json as json
use Rattle.json.specs.Lex.{tokens}
use Rattle.json.specs.Print.{quoted}
use Rattle.json.specs.Tree as tree
use Rattle.json.proofs.Printed.Tokens.{tokens-print}
use Rattle.json.proofs.Printed.Trees.{ArePrintable-json_tokens, value-json_tokens}
use Rattle.json.proofs.Printed.Utf8.{IsUtf8-are_ascii, IsUtf8-quoted}
use Rattle.serde_json.specs.Data.{Data, member, object, put, string}
use Rattle.serde_json.specs.Find.{as_object}
use Rattle.serde_json.specs.Read.{max_depth, of_json, of_members, read}
use Rattle.serde_json.specs.Written.{comma_if, members_outline, members_text, outline}
use Rattle.serde_json.proofs.Texts.{print-outline}
use Rattle.star_label.specs.Files.{File, IsOrdered, limit_passed}
use Rattle.star_bundle.specs.Bundle.{files_of, is_label, json_of, labelled, texts_of, there_or, with_files, within_limits, ◌>>=◌}
use Rattle.star_bundle.specs.declared.error.ServeError.TheVariants.{BadBundle, BadKey}
use Rattle.star_alike.specs.Bundles.{BundlesAreFiles, IsText, bundle_text, members_of}

abbrev R : List ℕ → List ℕ → Ordering
R = slice_cmp nat_cmp

abbrev label_of : File → List ℕ
label_of f = f.0

-- ---- labels in order, one after another

-- this label is above all of these
abbrev Ends : List File → List ℕ → Type 0
Ends gs k = AllByRecursion (λ l. R k l ≡ Greater) (map label_of gs)

-- each of these files in turn comes after all before it
abbrev Grows : List File → List File → Type 0
Grows gs [] = Unit {0}
Grows gs (f ∷ fs) = Ends gs f.0 × Grows (gs ++ f ∷ []) fs

ends_on : (gs : List File) (f : File) (k : List ℕ) → Ends gs k → R k f.0 ≡ Greater → Ends (gs ++ f ∷ []) k
ends_on [] f k e h = (h, tt)
ends_on (g ∷ gs) f k e h = (e.0, ends_on gs f k e.1 h)

all_on : (gs : List File) (f : File) (ks : List (List ℕ)) → AllByRecursion (λ k. Ends gs k) ks → AllByRecursion (λ k. R f.0 k ≡ Less) ks → AllByRecursion (λ k. Ends (gs ++ f ∷ []) k) ks
all_on gs f [] a b = tt
all_on gs f (k ∷ ks) a b = (ends_on gs f k a.0 (nat_list_cmp_total.antisymm k f.0 ∙ ap ordering_reverse b.0), all_on gs f ks a.1 b.1)

grows : (gs fs : List File) → IsOrdered fs → AllByRecursion (λ k. Ends gs k) (map label_of fs) → Grows gs fs
unfolding IsStrictlySortedBy
grows gs [] s a = tt
grows gs (f ∷ fs) s a = (a.0, grows (gs ++ f ∷ []) fs s.1 (all_on gs f (map label_of fs) a.1 s.0))

none_before : (ks : List (List ℕ)) → AllByRecursion (λ k. Ends [] k) ks
none_before [] = tt
none_before (k ∷ ks) = (tt, none_before ks)

-- ---- the files are built in their order

put_last : (gs : List File) (k v : List ℕ) → Ends gs k → insert_entry R gs k v ≡ gs ++ (k, v) ∷ []
put_last [] k v e = refl
put_last (g ∷ gs) k v e = ap (λ o. match_ordering o ((k, v) ∷ g ∷ gs) ((g.0, v) ∷ gs) (g ∷ insert_entry R gs k v)) e.0 ∙ ap (λ xs. g ∷ xs) (put_last gs k v e.1)

built : (gs fs : List File) → Grows gs fs → with_files gs fs ≡ gs ++ fs
unfolding with_files
built gs [] h = sym (append-nil gs)
built gs (f ∷ fs) h = ap (λ xs. with_files xs fs) (put_last gs f.0 f.1 h.0) ∙ (built (gs ++ f ∷ []) fs h.1 ∙ append_assoc gs (f ∷ []) fs)

-- ---- the object is read as it was written

member_last : (gs : List File) (k v : List ℕ) → Ends gs k → put k (string v) (members_of gs) ≡ members_of (gs ++ (k, v) ∷ [])
member_last [] k v e = refl
member_last (g ∷ gs) k v e = ap (λ o. match_ordering o (member k (string v) (member g.0 (string g.1) (members_of gs))) (member g.0 (string v) (members_of gs)) (member g.0 (string g.1) (put k (string v) (members_of gs)))) e.0 ∙ ap (member g.0 (string g.1)) (member_last gs k v e.1)

reads : (gs fs : List File) → Grows gs fs → of_members (members_outline (members_of fs)) (members_of gs) ≡ Some (members_of (gs ++ fs))
reads gs [] h = ap (λ xs. Some (members_of xs)) (sym (append-nil gs))
reads gs (f ∷ fs) h = ap (of_members (members_outline (members_of fs))) (member_last gs f.0 f.1 h.0) ∙ (reads (gs ++ f ∷ []) fs h.1 ∙ ap (λ xs. Some (members_of xs)) (append_assoc gs (f ∷ []) fs))

shallow : (fs : List File) → tree.members_depth (members_outline (members_of fs)) ≡ 0
shallow [] = refl
shallow (f ∷ fs) = ap (λ n. max 0 n) (shallow fs)

numbers : (fs : List File) → tree.MembersHaveNumbers (members_outline (members_of fs))
numbers [] = tt
numbers (f ∷ fs) = (tt, numbers fs)

abbrev whole : List File → Data
whole fs = object (members_of fs)

read_tokens : (fs : List File) → json.value max_depth (tokens (bundle_text fs)) ≡ Some (outline (whole fs), [])
read_tokens fs =
    let low : tree.depth (outline (whole fs)) ≤ max_depth = (let e = shallow fs in omega (arith, e)) in
    ap (λ t. json.value max_depth (tokens t)) (sym (print-outline (whole fs)))
    ∙ (ap (json.value max_depth) (tokens-print (tree.json_tokens (outline (whole fs))) (ArePrintable-json_tokens (outline (whole fs)) (numbers fs)) ∙ sym (append-nil (tree.json_tokens (outline (whole fs)))))
    ∙ value-json_tokens (outline (whole fs)) max_depth [] low)

reads_whole : (fs : List File) → IsOrdered fs → read (bundle_text fs) ≡ Some (whole fs)
reads_whole fs s =
    ap (λ r. option_and_then of_json (option_and_then (λ p. json.if_last p.0 p.1) r)) (read_tokens fs)
    ∙ ap (option_map object) (reads [] fs (grows [] fs s (none_before (map label_of fs))))

-- ---- it is UTF-8

one_byte : (x : ℕ) (xs : List ℕ) → IsUtf8 (x ∷ []) → IsUtf8 xs → IsUtf8 (x ∷ xs)
one_byte x xs a u = IsUtf8-append (x ∷ []) xs a u

comma : (later : Bool) → IsUtf8 (comma_if later)
comma true = IsUtf8-are_ascii (44 ∷ []) refl
comma false = IsUtf8-are_ascii [] refl

members_utf8 : (later : Bool) (fs : List File) → AllByRecursion IsText fs → IsUtf8 (members_text later (members_of fs))
members_utf8 later [] a = IsUtf8-are_ascii (125 ∷ []) refl
members_utf8 later (f ∷ fs) a =
    IsUtf8-append (comma_if later) _ (comma later) (IsUtf8-append (quoted f.0) _ (IsUtf8-quoted f.0 a.0.0)
    (one_byte 58 _ (IsUtf8-are_ascii (58 ∷ []) refl) (IsUtf8-append (quoted f.1) _ (IsUtf8-quoted f.1 a.0.1) (members_utf8 true fs a.1))))

bundle_utf8 : (fs : List File) → AllByRecursion IsText fs → is_utf8 (bundle_text fs) ≡ true
bundle_utf8 fs a = is_utf8-from_IsUtf8 (bundle_text fs) (one_byte 123 _ (IsUtf8-are_ascii (123 ∷ []) refl) (members_utf8 false fs a))

-- ---- the files

texts : (fs : List File) → texts_of (members_of fs) ≡ Some fs
unfolding texts_of
texts [] = refl
texts (f ∷ fs) = ap (option_map (λ gs. f ∷ gs)) (texts fs)

json_is : (fs : List File) → IsOrdered fs → AllByRecursion IsText fs → json_of (bundle_text fs) ≡ Some (whole fs)
unfolding json_of
json_is fs s a = ap (λ b. if b then read (bundle_text fs) else None) (bundle_utf8 fs a) ∙ reads_whole fs s

labels : (fs : List File) → IsOrdered fs → list_all (λ f. is_label f.0) fs ≡ true → labelled fs ≡ Ok fs
unfolding labelled
labels fs s e =
    ap (λ b. if b then Ok (with_files [] fs) else Err BadKey) e
    ∙ ap Ok (built [] fs (grows [] fs s (none_before (map label_of fs))))

pub bundles_are_files : BundlesAreFiles
unfolding files_of
bundles_are_files fs s e a limit =
    ap (λ o. there_or BadBundle o >>= λ d. there_or BadBundle (as_object d) >>= λ ms. there_or BadBundle (texts_of ms) >>= λ members. labelled members >>= λ files. within_limits files (limit_passed files)) (json_is fs s a)
    ∙ (ap (λ o. there_or BadBundle o >>= λ members. labelled members >>= λ files. within_limits files (limit_passed files)) (texts fs)
    ∙ (ap (λ r. r >>= λ files. within_limits files (limit_passed files)) (labels fs s e)
    ∙ ap (within_limits fs) limit))
