-- A name of the innermost frame has the value that its slot has there.
use Rattle.std.proofs.Common.{◌≡◌, ℕ, zero, suc, List, refl, sym, ap, ◌∙◌, Option, Some, None}
use Rattle.std.specs.Option.{option_and_then, option_flatten}
use Rattle.std.specs.Prelude.{slice_get}
use Rattle.std.proofs.lemmas.Option.{none-some}
use Rattle.star_store.specs.declared.values.Value.{Value}
use Rattle.star_store.specs.declared.values.Cell.{Cell}
use Rattle.star_store.specs.declared.values.Cell.TheVariants as cell
use Rattle.star_store.specs.Store.{slot_value}
use Rattle.star_scope.specs.declared.spot.Spot.{Spot}
use Rattle.star_scope.specs.declared.spot.Spot.TheVariants as spot
use Rattle.star_meaning.specs.declared.fault.FaultCode.TheVariants.{Unbound}
use Rattle.star_meaning.specs.declared.site.Site.{Site}
use Rattle.star_meaning.specs.Run.{State, Done, found}
use Rattle.star_meaning.specs.Program.{Setting, seen}
use Rattle.star_meaning.specs.Variables.{frame_of}
use Rattle.star_meaning.specs.Places.{at_spot, joined, own_spot}

flat : (o : Option (Option Value)) → joined o ≡ option_flatten o
flat None = refl
flat (Some o) = refl

in_cell : (c : Option Cell) (slot : ℕ) → joined (option_and_then (λ f. slice_get f.slots slot) (frame_of c)) ≡ slot_value c slot
in_cell (Some (cell.Frame f)) slot = flat (slice_get f.slots slot)
in_cell _ slot = refl

own : (sp : Option Spot) (slot : ℕ) → own_spot sp ≡ Some slot → sp ≡ Some (spot.Frame zero slot)
own (Some (spot.Frame zero slot)) other h = ap (λ o. elim o [ None ↦ Some (spot.Frame zero slot) | Some k ↦ Some (spot.Frame zero k) ]) h
own (Some (spot.Frame (suc up) slot)) other h = absurd (none-some other h)
own (Some spot.Prelude) other h = absurd (none-some other h)
own (Some spot.Outermost) other h = absurd (none-some other h)
own None other h = absurd (none-some other h)

pub near_spot : (w : Setting) (s : State) (p : Site) (name : List ℕ) (sp : Option Spot) (slot : ℕ) (v : Value)
    → own_spot sp ≡ Some slot → slot_value (seen w s p.frame) slot ≡ Some v
    → found Unbound p.line (at_spot w s p name sp) s ≡ Done v s
near_spot w s p name sp slot v h e =
    ap (λ o. found Unbound p.line (at_spot w s p name o) s) (own sp slot h)
    ∙ ap (λ o. found Unbound p.line o s) (in_cell (seen w s p.frame) slot ∙ e)
