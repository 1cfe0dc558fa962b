-- Names that are placed one after another.
use Rattle.std.proofs.Common.{arith, ◌≡◌, ◌<◌, ◌≤◌, ◌+◌, ℕ, List, [], ◌∷◌, ◌++◌, Option, Some, None, true, false, if◌then◌else◌, refl, ap, sym, ◌∙◌, subst, length, take, append-nil}
use Rattle.std.proofs.Math.ListN.{get_or}
use Rattle.std.proofs.Math.Seq.{take-length}
use Rattle.std.proofs.lemmas.List.{append_assoc, take_more}
use Rattle.std.proofs.lemmas.Grind.{flat_map-append}
use Rattle.star_tree.specs.declared.tree.Name.{Name}
use Rattle.star_scope.specs.declared.chain.Scope.{Scope}
use Rattle.star_scope.specs.declared.error.LocatedFault.{LocatedFault}
use Rattle.star_scope.specs.declared.spot.Spot.{Spot}
use Rattle.star_scope.specs.declared.uses.ResolvedNames.{ResolvedNames}
use Rattle.star_scope.specs.Chains.{outer_shown}
use Rattle.star_scope.specs.Faults.{first_from, comes_before}
use Rattle.star_outline.specs.declared.blocks.Block.{Block}
use Rattle.star_scope.specs.ResolvedNames.{AllHaveSpots, HasSpot, Places}
use Rattle.star_scope.specs.Places.{AllPlaced, IsPlaced, Outer, Spots, chain_length, spot_of, undefined, undefined_at, undefined_in}
use Rattle.star_scope.specs.Spots.{Keeps, spot_at}
use Rattle.star_scope.specs.Uses.{Defined, Named, Use, Within, all_uses, one_use}
use Rattle.star_scope.proofs.Faults.{first_joined, first_none}

has_still : (blocks : List Block) (outer : Outer) (old new : List (Option Spot)) (u : Use) → Keeps old new → HasSpot (spot_at old) blocks outer u → HasSpot (spot_at new) blocks outer u
has_still blocks outer old new (Named n chain) k h = (h.0, λ s e. k n.position.token s (h.1 s e))
has_still blocks outer old new (Defined number chain) k h = tt

have_still : (blocks : List Block) (outer : Outer) (old new : List (Option Spot)) (us : List Use) → Keeps old new → AllHaveSpots (spot_at old) blocks outer us → AllHaveSpots (spot_at new) blocks outer us
have_still blocks outer old new [] k h = tt
have_still blocks outer old new (u ∷ us) k h = (has_still blocks outer old new u k h.0, have_still blocks outer old new us k h.1)

have_both : (spots : Spots) (blocks : List Block) (outer : Outer) (us vs : List Use) → AllHaveSpots spots blocks outer us → AllHaveSpots spots blocks outer vs → AllHaveSpots spots blocks outer (us ++ vs)
have_both spots blocks outer [] vs h k = k
have_both spots blocks outer (u ∷ us) vs h k = (h.0, have_both spots blocks outer us vs h.1 k)

-- nothing is placed
pub place_none : (scope : Scope) (p : ResolvedNames) → Places scope [] p p
place_none scope p = record { kept = λ t s e. e; have = tt; found = sym (first_none p.first) }

-- one name, with its spot
pub place_one : (scope : Scope) (n : Name) (chain : List ℕ) (s : Spot) (old new : ResolvedNames)
    → length chain ≤ chain_length → spot_of scope.blocks.now (outer_shown scope.prelude scope.language) n.text chain ≡ Some s
    → Keeps old.spots new.spots → spot_at new.spots n.position.token ≡ Some s → new.first ≡ old.first → Places scope (one_use n chain) old new
place_one scope n chain s old new short is keeps put same = record {
  kept = keeps;
  have = ((short, λ t e. put ∙ sym is ∙ e), tt);
  found = same ∙ sym (first_none old.first) ∙ ap (λ fs. first_from old.first fs) (sym (append-nil (undefined_at n (spot_of scope.blocks.now (outer_shown scope.prelude scope.language) n.text chain)) ∙ ap (undefined_at n) is));
}

-- one undefined name
pub place_undefined : (scope : Scope) (n : Name) (chain : List ℕ) (old new : ResolvedNames)
    → length chain ≤ chain_length → spot_of scope.blocks.now (outer_shown scope.prelude scope.language) n.text chain ≡ None
    → new.spots ≡ old.spots → new.first ≡ first_from old.first (undefined_at n None) → Places scope (one_use n chain) old new
place_undefined scope n chain old new short is same found = record {
  kept = λ t s e. ap (λ spots. spot_at spots t) same ∙ e;
  have = ((short, λ t e. absurd (not_both t (sym is ∙ e))), tt);
  found = found ∙ ap (λ fs. first_from old.first fs) (sym (append-nil (undefined_at n (spot_of scope.blocks.now (outer_shown scope.prelude scope.language) n.text chain)) ∙ ap (undefined_at n) is));
}
  where
    not_both : (t : Spot) → None ≡ Some t → ⊥
    not_both t e = cc

-- a definition takes no spot
pub place_defined : (scope : Scope) (number : ℕ) (chain : List ℕ) (us : List Use) (a b : ResolvedNames) → Places scope us a b → Places scope (Defined number chain ∷ us) a b
place_defined scope number chain us a b p = record { kept = p.kept; have = (tt, p.have); found = p.found }

-- some names, and then others
pub place_both : (scope : Scope) (us vs : List Use) (a b c : ResolvedNames) → Places scope us a b → Places scope vs b c → Places scope (us ++ vs) a c
place_both scope us vs a b c x y =
    let blocks = scope.blocks.now in
    let outer = outer_shown scope.prelude scope.language in
    record {
      kept = λ t s e. y.kept t s (x.kept t s e);
      have = have_both (spot_at c.spots) blocks outer us vs (have_still blocks outer b.spots c.spots us y.kept x.have) y.have;
      found = y.found ∙ ap (λ o. first_from o (undefined blocks outer vs)) x.found ∙ sym (first_joined a.first (undefined blocks outer us) (undefined blocks outer vs))
          ∙ ap (λ fs. first_from a.first fs) (sym (flat_map-append (undefined_in blocks outer) us vs));
    }

-- some names and others, and then still others
pub place_third : (scope : Scope) (us vs ws : List Use) (a b c : ResolvedNames) → Places scope (us ++ vs) a b → Places scope ws b c → Places scope (us ++ (vs ++ ws)) a c
place_third scope us vs ws a b c x y = subst (λ xs. Places scope xs a c) (append_assoc us vs ws) (place_both scope (us ++ vs) ws a b c x y)

-- the same names under another form
pub place_as : (scope : Scope) (us vs : List Use) (a b : ResolvedNames) → vs ≡ us → Places scope us a b → Places scope vs a b
place_as scope us vs a b e p = subst (λ ws. Places scope ws a b) (sym e) p

-- the same part by another name
pub place_part : {A : Type 0} (one : A → List Use) (scope : Scope) (x y : A) (a b : ResolvedNames) → x ≡ y → Places scope (one x) a b → Places scope (one y) a b
place_part one scope x y a b e p = subst (λ z. Places scope (one z) a b) e p

-- a turn of a loop that places the names of a list's items, and its end
uses_next : {A : Type 0} (one : A → Within) (xs : List A) (x : A) (chain : List ℕ) → all_uses one (xs ++ x ∷ []) chain ≡ all_uses one xs chain ++ one x chain
uses_next one [] x chain = append-nil (one x chain)
uses_next one (y ∷ ys) x chain = ap (λ us. one y chain ++ us) (uses_next one ys x chain) ∙ sym (append_assoc (one y chain) (all_uses one ys chain) (one x chain))

pub place_turn : {A : Type 0} (one : A → Within) (scope : Scope) (chain : List ℕ) (xs : List A) (i : ℕ) (x : A) (a b c : ResolvedNames) → i < length xs → x ≡ get_or xs i x
    → Places scope (all_uses one (take i xs) chain) a b → Places scope (one x chain) b c → Places scope (all_uses one (take (i + 1) xs) chain) a c
place_turn one scope chain xs i x a b c lt is f g =
    place_as scope (all_uses one (take i xs) chain ++ one x chain) (all_uses one (take (i + 1) xs) chain) a c
    (ap (λ ys. all_uses one ys chain) (take_more xs i x lt ∙ ap (λ y. take i xs ++ y ∷ []) (sym is)) ∙ uses_next one (take i xs) x chain)
    (place_both scope (all_uses one (take i xs) chain) (one x chain) a b c f g)

pub place_done : {A : Type 0} (one : A → Within) (scope : Scope) (chain : List ℕ) (xs : List A) (i : ℕ) (a b : ResolvedNames) → length xs ≤ i → i ≤ length xs
    → Places scope (all_uses one (take i xs) chain) a b → Places scope (all_uses one xs chain) a b
place_done one scope chain xs i a b le ge f = subst (λ ys. Places scope (all_uses one ys chain) a b) (ap (λ k. take k xs) (omega (arith, le, ge)) ∙ take-length xs) f

-- ---- if no name is undefined, each has its spot

pub found_stays : (fs : List LocatedFault) (found : LocatedFault) → first_from (Some found) fs ≡ None → ⊥
unfolding first_from
found_stays [] found e = absurd (not_none found e)
  where
    not_none : (r : LocatedFault) → Some r ≡ None → ⊥
    not_none r e = cc
found_stays (f ∷ fs) found e = elim (comes_before f found) as (λ b. first_from (if b then Some f else Some found) fs ≡ None → ⊥) [ true ↦ found_stays fs f | false ↦ found_stays fs found ] e

none_undefined : (us : List LocatedFault) (vs : List LocatedFault) → first_from None (us ++ vs) ≡ None → (us ≡ []) × (first_from None vs ≡ None)
unfolding first_from
none_undefined [] vs e = (refl, e)
none_undefined (f ∷ fs) vs e = absurd (found_stays (fs ++ vs) f e)

one_placed : (spots : Spots) (blocks : List Block) (outer : Outer) (n : Name) (chain : List ℕ) (o : Option Spot) → spot_of blocks outer n.text chain ≡ o
    → undefined_at n o ≡ [] → HasSpot spots blocks outer (Named n chain) → IsPlaced spots blocks outer (Named n chain)
one_placed spots blocks outer n chain (Some s) is none h = (h.0, h.1 s is ∙ sym is)
one_placed spots blocks outer n chain None is none h = absurd (one_is_some none)
  where
    one_is_some : {f : LocatedFault} → f ∷ [] ≡ [] → ⊥
    one_is_some e = cc

is_placed : (spots : Spots) (blocks : List Block) (outer : Outer) (u : Use) → undefined_in blocks outer u ≡ [] → HasSpot spots blocks outer u → IsPlaced spots blocks outer u
is_placed spots blocks outer (Named n chain) none h = one_placed spots blocks outer n chain (spot_of blocks outer n.text chain) refl none h
is_placed spots blocks outer (Defined number chain) none h = tt

pub all_placed : (spots : Spots) (blocks : List Block) (outer : Outer) (us : List Use) → first_from None (undefined blocks outer us) ≡ None
    → AllHaveSpots spots blocks outer us → AllPlaced spots blocks outer us
all_placed spots blocks outer [] none h = tt
all_placed spots blocks outer (u ∷ us) none h =
    let both = none_undefined (undefined_in blocks outer u) (undefined blocks outer us) none in
    (is_placed spots blocks outer u both.0 h.0, all_placed spots blocks outer us both.1 h.1)
