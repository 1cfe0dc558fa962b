-- Texts have no float, so their JSON is exact.
use Rattle.std.proofs.Common.{◌≡◌, ℕ, List, [], ◌∷◌, false, fold, refl}
use Rattle.std.specs.declared.cmp.Ordering.{Ordering}
use Rattle.std.specs.declared.cmp.Ordering.TheVariants.{Less, Equal, Greater}
use Rattle.std.specs.Ordering.{nat_cmp, match_ordering}
use Rattle.std.specs.Cmp.Lexicographic.{slice_cmp}
use Rattle.std.proofs.lemmas.Bool.{or_parts}
use Rattle.serde_json.specs.Data.{Data, Members, member, no_members, put, string}
use Rattle.serde_json.specs.Written.{has_float, members_have_float}
use Rattle.star_plan.specs.Text.{globals_data, with_global}

at_ordering : (o : Ordering) (a b c : Members) → members_have_float a ≡ false → members_have_float b ≡ false → members_have_float c ≡ false → members_have_float (match_ordering o a b c) ≡ false
at_ordering Less a b c h g f = h
at_ordering Equal a b c h g f = g
at_ordering Greater a b c h g f = f

pub put_none : (k : List ℕ) (d : Data) (ms : Members) → has_float d ≡ false → members_have_float ms ≡ false → members_have_float (put k d ms) ≡ false
put_none k d no_members g h = rw g refl
put_none k d (member l e ms) g h =
    let both = or_parts (has_float e) (members_have_float ms) h in
    at_ordering (slice_cmp nat_cmp k l) (member k d (member l e ms)) (member l d ms) (member l e (put k d ms))
    (rw g h) (rw g both.1) (rw both.0 (put_none k d ms g both.1))

globals_from : (gs : List (List ℕ × List ℕ)) (ms : Members) → members_have_float ms ≡ false → members_have_float (fold with_global ms gs) ≡ false
globals_from [] ms h = h
globals_from (g ∷ gs) ms h = globals_from gs (with_global ms g) (put_none g.0 (string g.1) ms refl h)

pub globals_none : (gs : List (List ℕ × List ℕ)) → has_float (globals_data gs) ≡ false
globals_none gs = globals_from gs no_members refl
