-- Data that is read back from its text.
use Rattle.std.proofs.Common.{arith, ◌≡◌, ◌≤◌, ◌<◌, ◌^◌, [], ℕ, suc, pos, negsuc, List, Bool, Some, refl, ap, sym, ◌∙◌, append-nil}
use Rattle.std.specs.Option.{option_and_then, option_map}
use Rattle.std.specs.Cmp.Lexicographic.{slice_cmp}
use Rattle.std.specs.Ordering.{match_ordering, nat_cmp, ordering_reverse}
use Rattle.std.specs.declared.cmp.Ordering.{Ordering}
use Rattle.std.specs.declared.cmp.Ordering.TheVariants.{Less, Equal, Greater}
use Rattle.std.proofs.lemmas.Cmp.{nat_list_cmp_total}
use Rattle.json.specs.Json.{if_last, value}
use Rattle.json.specs.Lex.{tokens}
use Rattle.json.specs.Tree as tree
use Rattle.json.specs.Tree.{HasNumbers, ItemsHaveNumbers, MembersHaveNumbers, json_tokens}
use Rattle.json.proofs.Printed.Decimals.{IsNumber-decimal, IsNumber-signed_decimal}
use Rattle.json.proofs.Printed.Tokens.{tokens-print}
use Rattle.json.proofs.Printed.Trees.{ArePrintable-json_tokens, value-json_tokens}
use Rattle.serde_json.specs.Data.{Data, Items, Members, array, boolean, item, member, no_items, no_members, null, number, object, put, string}
use Rattle.serde_json.specs.Find.{of_integer}
use Rattle.serde_json.specs.Read.{of_items, of_json, of_members}
use Rattle.serde_json.specs.Written.{compact_text, items_outline, members_outline, outline}
use Rattle.serde_json.proofs.Numbers.{number_of-decimal, number_of-negative}
use Rattle.serde_json.proofs.Texts.{print-outline}
use Rattle.star_data.specs.Reading.{read_within}
use Rattle.star_data.proofs.Rising.{IsBelow, Rises}

-- data that its outline gives back, which nests at most n deep, and whose numbers are numbers of JSON
pub record ComesBack (n : ℕ) (d : Data) : Type 0 where
  pub back : of_json (outline d) ≡ Some d
  pub numbers : HasNumbers (outline d)
  pub deep : tree.depth (outline d) ≤ n

abbrev pub ItemsComeBack : ℕ → Items → Type 0
ItemsComeBack n no_items = Unit {0}
ItemsComeBack n (item d ds) = ComesBack n d × ItemsComeBack n ds

abbrev pub MembersComeBack : ℕ → Members → Type 0
MembersComeBack n no_members = Unit {0}
MembersComeBack n (member k d ms) = ComesBack n d × MembersComeBack n ms

-- ---- items

items_back : (n : ℕ) (ds : Items) → ItemsComeBack n ds → of_items (items_outline ds) ≡ Some ds
items_back n no_items h = refl
items_back n (item d ds) h = ap (option_and_then (λ e. option_map (item e) (of_items (items_outline ds)))) h.0.back ∙ ap (option_map (item d)) (items_back n ds h.1)

items_numbers : (n : ℕ) (ds : Items) → ItemsComeBack n ds → ItemsHaveNumbers (items_outline ds)
items_numbers n no_items h = tt
items_numbers n (item d ds) h = (h.0.numbers, items_numbers n ds h.1)

items_deep : (n : ℕ) (ds : Items) → ItemsComeBack n ds → tree.items_depth (items_outline ds) ≤ n
items_deep n no_items h = omega arith
items_deep n (item d ds) h = let one = h.0.deep in let more = items_deep n ds h.1 in omega (arith, one, more)

pub array_back : (n : ℕ) (ds : Items) → ItemsComeBack n ds → ComesBack (suc n) (array ds)
array_back n ds h = record { back = ap (option_map array) (items_back n ds h); numbers = items_numbers n ds h; deep = let deep = items_deep n ds h in omega (arith, deep) }

-- ---- members

-- members and then others
abbrev followed : Members → Members → Members
followed no_members others = others
followed (member k d ms) others = member k d (followed ms others)

-- a key is above all keys
abbrev IsAbove : List ℕ → Members → Type 0
IsAbove k no_members = Unit {0}
IsAbove k (member l d ms) = (slice_cmp nat_cmp k l ≡ Greater) × IsAbove k ms

-- each key is above all of these
abbrev AreAbove : Members → Members → Type 0
AreAbove no_members found = Unit {0}
AreAbove (member k d ms) found = IsAbove k found × AreAbove ms found

put_last : (k : List ℕ) (d : Data) (found : Members) → IsAbove k found → put k d found ≡ followed found (member k d no_members)
put_last k d no_members h = refl
put_last k d (member l e ms) h = ap (λ o. match_ordering o (member k d (member l e ms)) (member l d ms) (member l e (put k d ms))) h.0 ∙ ap (member l e) (put_last k d ms h.1)

followed_twice : (found : Members) (k : List ℕ) (d : Data) (ms : Members) → followed (followed found (member k d no_members)) ms ≡ followed found (member k d ms)
followed_twice no_members k d ms = refl
followed_twice (member l e found) k d ms = ap (member l e) (followed_twice found k d ms)

followed_none : (found : Members) → followed found no_members ≡ found
followed_none no_members = refl
followed_none (member l e found) = ap (member l e) (followed_none found)

turned : (k l : List ℕ) → slice_cmp nat_cmp k l ≡ Less → slice_cmp nat_cmp l k ≡ Greater
turned k l e = nat_list_cmp_total.antisymm l k ∙ ap ordering_reverse e

above_last : (l : List ℕ) (found : Members) (k : List ℕ) (d : Data) → IsAbove l found → slice_cmp nat_cmp l k ≡ Greater → IsAbove l (followed found (member k d no_members))
above_last l no_members k d h more = (more, tt)
above_last l (member m e found) k d h more = (h.0, above_last l found k d h.1 more)

are_above_last : (ms found : Members) (k : List ℕ) (d : Data) → AreAbove ms found → IsBelow k ms → AreAbove ms (followed found (member k d no_members))
are_above_last no_members found k d h below = tt
are_above_last (member l e ms) found k d h below = (above_last l found k d h.0 (turned k l below.0), are_above_last ms found k d h.1 below.1)

above_none : (ms : Members) → AreAbove ms no_members
above_none no_members = tt
above_none (member k d ms) = (tt, above_none ms)

members_back : (n : ℕ) (ms found : Members) → MembersComeBack n ms → Rises ms → AreAbove ms found → of_members (members_outline ms) found ≡ Some (followed found ms)
members_back n no_members found h rises above = ap Some (sym (followed_none found))
members_back n (member k d ms) found h rises above =
    ap (option_and_then (λ e. of_members (members_outline ms) (put k e found))) h.0.back
    ∙ (ap (of_members (members_outline ms)) (put_last k d found above.0)
    ∙ (members_back n ms (followed found (member k d no_members)) h.1 rises.1 (are_above_last ms found k d above.1 rises.0)
    ∙ ap Some (followed_twice found k d ms)))

members_numbers : (n : ℕ) (ms : Members) → MembersComeBack n ms → MembersHaveNumbers (members_outline ms)
members_numbers n no_members h = tt
members_numbers n (member k d ms) h = (h.0.numbers, members_numbers n ms h.1)

members_deep : (n : ℕ) (ms : Members) → MembersComeBack n ms → tree.members_depth (members_outline ms) ≤ n
members_deep n no_members h = omega arith
members_deep n (member k d ms) h = let one = h.0.deep in let more = members_deep n ms h.1 in omega (arith, one, more)

pub object_back : (n : ℕ) (ms : Members) → MembersComeBack n ms → Rises ms → ComesBack (suc n) (object ms)
object_back n ms h rises = record {
  back = ap (option_map object) (members_back n ms no_members h rises (above_none ms));
  numbers = members_numbers n ms h;
  deep = let deep = members_deep n ms h in omega (arith, deep);
}

-- one member more
pub put_back : (n : ℕ) (k : List ℕ) (d : Data) (ms : Members) → ComesBack n d → MembersComeBack n ms → MembersComeBack n (put k d ms)
put_back n k d no_members one h = (one, tt)
put_back n k d (member l e ms) one h = turn (slice_cmp nat_cmp k l) (put_back n k d ms one h.1)
  where
    turn : (o : Ordering) → MembersComeBack n (put k d ms) → MembersComeBack n (match_ordering o (member k d (member l e ms)) (member l d ms) (member l e (put k d ms)))
    turn Less rest = (one, h)
    turn Equal rest = (one, h.1)
    turn Greater rest = (h.0, rest)

-- ---- data without parts

pub null_back : (n : ℕ) → ComesBack n null
null_back n = record { back = refl; numbers = tt; deep = omega arith }

pub boolean_back : (n : ℕ) (b : Bool) → ComesBack n (boolean b)
boolean_back n b = record { back = refl; numbers = tt; deep = omega arith }

pub string_back : (n : ℕ) (t : List ℕ) → ComesBack n (string t)
string_back n t = record { back = refl; numbers = tt; deep = omega arith }

pub unsigned_back : (n m : ℕ) → m < 2 ^ 63 → ComesBack n (number (of_integer (pos m)))
unsigned_back n m less = record { back = ap (option_map number) (number_of-decimal m (omega (arith, less))); numbers = IsNumber-decimal m (omega (arith, less)); deep = omega arith }

pub negative_back : (n m : ℕ) → m < 2 ^ 63 → ComesBack n (number (of_integer (negsuc m)))
negative_back n m less = record { back = ap (option_map number) (number_of-negative m less); numbers = IsNumber-signed_decimal (negsuc m) (omega (arith, less)); deep = omega arith }

-- ---- the text

pub read_back : (n m : ℕ) (d : Data) → ComesBack n d → n ≤ m → read_within m (compact_text d) ≡ Some d
read_back n m d h le =
    let deep = h.deep in
    let read : tokens (compact_text d) ≡ json_tokens (outline d) = ap tokens (sym (print-outline d)) ∙ tokens-print (json_tokens (outline d)) (ArePrintable-json_tokens (outline d) h.numbers) in
    ap (λ ts. option_and_then of_json (option_and_then (λ p. if_last p.0 p.1) (value m ts))) (read ∙ sym (append-nil (json_tokens (outline d))))
    ∙ (ap (λ o. option_and_then of_json (option_and_then (λ p. if_last p.0 p.1) o)) (value-json_tokens (outline d) m [] (omega (arith, deep, le)))
    ∙ h.back)
