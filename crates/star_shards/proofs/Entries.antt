-- Entries at the front of a text.
use Rattle.std.proofs.Common.{◌≡◌, ℕ, List, ◌++◌, Option, Some, None, drop, ap, sym, ◌∙◌, subst}
use Rattle.std.specs.Option.{IsSome, option_and_then}
use Rattle.star_shards.specs.Entries.{IsEntry, IsObject, member_in, string_in}
use Rattle.star_shards.specs.Places.{front_end}
use Rattle.star_shards.proofs.Objects.{one_object}

-- what was looked up is the member
pub is_member : (f o members : List ℕ) (key : Option ℕ) (r : Option (List ℕ)) → members ≡ drop 1 o → key ≡ front_end f (drop 1 o)
    → r ≡ option_and_then (λ n. string_in (drop n members)) key → r ≡ member_in f o
is_member f o members key r same found e =
    e ∙ ap (λ k. option_and_then (λ n. string_in (drop n members)) k) found ∙ ap (λ m. option_and_then (λ n. string_in (drop n m)) (front_end f (drop 1 o))) same

not_some : (o : Option (List ℕ)) → o ≡ None → IsSome o → ⊥
not_some None e h = cc
not_some (Some x) e h = cc

-- an object without a member is no entry that needs it
pub no_entry : (f text o more t rest : List ℕ) → IsObject o → text ≡ o ++ more → IsObject t → text ≡ t ++ rest → member_in f o ≡ None → IsSome (member_in f t) → ⊥
no_entry f text o more t rest one front other e none some =
    let same : o ≡ t = one_object o t more rest one other (sym front ∙ e) in
    not_some (member_in f t) (sym (ap (member_in f) same) ∙ none) some

-- one entry stands at the front of a text
pub one_entry : (t u r s : List ℕ) → IsEntry t → IsEntry u → t ++ r ≡ u ++ s → t ≡ u
one_entry t u r s one other e = one_object t u r s one.object other.object e
