-- The load that a file asks for next.
use Rattle.std.proofs.Common.{◌≡◌, ◌+◌, ◌^◌, ◌<◌, ◌≤◌, ℕ, List, length, Option, Some, None, ap, sym, ◌∙◌, subst}
use Rattle.std.specs.Prelude.{IfSome, MatchOption, slice_get}
use Rattle.std.specs.Option.{option_map}
use Rattle.std.proofs.lemmas.Option.{slice_get-map, slice_get_within, get_or_from_slice_get}
use Rattle.star_cache.specs.State.{Loads}
use Rattle.star_label.specs.Files.{File}
use Rattle.star_scope.specs.declared.loads.Load.{Load}
use Rattle.star_plan.specs.Plan.{Plan, loaded, loads_of}
use Rattle.star_outcome.specs.Fits.{IsAsked, asked_next}
use Rattle.star_host.specs.Worlds.{IsNextLoad}
use Rattle.star_reading.specs.Readings.{Row, loads_at, readings}
use Rattle.star_outcome.proofs.Opens.{at_end}
use Rattle.star_reading.proofs.Rows.{loads_are}

-- a load at a place is a load
place_loads : (plan : Plan) (n i : ℕ) (l : Load) → slice_get (loads_of plan n) i ≡ Some l → Loads (loaded plan) n l.file
place_loads plan n i l there =
    let at : slice_get (loaded plan n) i ≡ Some l.file = slice_get-map (λ l. l.file) (loads_of plan n) i ∙ ap (option_map (λ l. l.file)) there in
    (i, slice_get_within (loaded plan n) i l.file at, get_or_from_slice_get (loaded plan n) i l.file l.file at)

place_file : (plan : Plan) (n i : ℕ) (l : Load) → slice_get (loads_of plan n) i ≡ Some l → slice_get (loaded plan n) i ≡ Some l.file
place_file plan n i l there = slice_get-map (λ l. l.file) (loads_of plan n) i ∙ ap (option_map (λ l. l.file)) there

next_some : (files : List File) (plan : Plan) (n i : ℕ) (l : Load) → IsAsked files plan n → slice_get (loads_of plan n) i ≡ Some l → i + 1 < 2 ^ 64 → IsNextLoad files plan n i l
next_some files plan n i l a at fits = record {
  within = slice_get_within (loads_of plan n) i l at;
  fits = fits;
  loads = place_loads plan n i l at;
  there = place_file plan n i l at;
  asked = asked_next files plan n l.file a (place_loads plan n i l at);
  refused = λ c. record { there = place_file plan n i l at; cycle = c };
}

pub next_is : (files : List File) (plan : Plan) (row : Row) (n m i j : ℕ) (o : Option Load) → readings row ≡ plan.reads → IsAsked files plan m → m ≡ n → j ≡ i → i ≤ length (loads_of plan n) → o ≡ slice_get (loads_at row m) j → IfSome o (λ l. j + 1 < 2 ^ 64)
    → MatchOption o (i ≡ length (loads_of plan n)) (IsNextLoad files plan n i)
next_is files plan row n m i j None is a same at most e fits =
    at_end (loads_of plan n) i most (ap (λ ls. slice_get ls i) (loads_are plan row n is) ∙ (ap (λ k. slice_get (loads_at row k) i) (sym same) ∙ (ap (slice_get (loads_at row m)) (sym at) ∙ sym e)))
next_is files plan row n m i j (Some l) is a same at most e fits =
    let here : slice_get (loads_of plan n) i ≡ Some l = ap (λ ls. slice_get ls i) (loads_are plan row n is) ∙ (ap (λ k. slice_get (loads_at row k) i) (sym same) ∙ (ap (slice_get (loads_at row m)) (sym at) ∙ sym e)) in
    next_some files plan n i l (subst (IsAsked files plan) same a) here (subst (λ k. k + 1 < 2 ^ 64) at fits)
