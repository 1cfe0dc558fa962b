-- Files whose loads are answered.
use Rattle.std.proofs.Common.{◌≡◌, ◌+◌, ◌<◌, ◌≤◌, ◌⊎◌, inl, inr, ℕ, zero, suc, true, false, List, [], ◌∷◌, ◌++◌, map, length, Option, Some, None, refl, ap, sym, ◌∙◌, subst, arith, length-append}
use denote.Ref.{Bor}
use Rattle.std.specs.Arc.{arc_value}
use Rattle.std.specs.Prelude.{IsSome, is_some, slice_get}
use Rattle.std.proofs.lemmas.List.{map-append}
use Rattle.std.proofs.lemmas.Bool.{cases_order}
use Rattle.star_cache.specs.State.{Loads}
use Rattle.star_cache.specs.Walk.{IsOnCycle}
use Rattle.star_label.specs.Files.{File}
use Rattle.star_meaning.specs.Module.{Good as WentWell, Stopped as HadFault}
use Rattle.star_plan.specs.Plan.{Plan, loaded, loads_of}
use Rattle.star_plan.specs.Results.{IsGood, Ran, Static as StaticOutcome, Unloaded as UnloadedOutcome}
use Rattle.star_plan.proofs.Goodness.{from_good, to_good}
use Rattle.star_plan.proofs.Seen.{cycle_is_bad}
use Rattle.star_reading.specs.Codes.{fault_of}
use Rattle.star_reading.proofs.PlacesRead.{some_of}
use Rattle.star_outcome.specs.Frames.{FrameView, IsOpen}
use Rattle.star_outcome.specs.Views.{AreGoodLoads, IsBadLoad, IsEnd, IsGoodModule, IsModule, IsModuleAt, ended_well}
use Rattle.star_outcome.specs.declared.module.Ended.{Ended}
use Rattle.star_outcome.specs.declared.module.Ended.TheVariants.{Static, Load as Unloaded, Stopped, Good}
use Rattle.star_outcome.specs.declared.module.Module.{Module}

end_good : (plan : Plan) (n : ℕ) (e : Ended) → IsEnd plan n e → ended_well e ≡ true → IsGood plan n
end_good plan n (Static f) is well = absurd (let no : ⊥ = cc in no)
end_good plan n (Unloaded index line) is well = absurd (let no : ⊥ = cc in no)
end_good plan n (Stopped code line lines left) is well = absurd (let no : ⊥ = cc in no)
end_good plan n (Good b) is well = to_good plan n (Ran (WentWell is.shelf is.globals (arc_value (arc_value b).shown) (arc_value b).lines.items)) is.outcome refl

end_bad : (plan : Plan) (n : ℕ) (e : Ended) → IsEnd plan n e → ended_well e ≡ false → IsGood plan n → ⊥
end_bad plan n (Static f) is ill g = let both : false ≡ true = from_good plan n (StaticOutcome (fault_of f)) is g in let no : ⊥ = cc in no
end_bad plan n (Unloaded index line) is ill g = let both : false ≡ true = from_good plan n (UnloadedOutcome index) is.0 g in let no : ⊥ = cc in no
end_bad plan n (Stopped code line lines left) is ill g = let both : false ≡ true = from_good plan n (Ran (HadFault (record { code = code; line = line }) lines.items)) is g in let no : ⊥ = cc in no
end_bad plan n (Good b) is ill g = let no : ⊥ = cc in no

-- the module of a file says whether the file is good
pub module_good : (plan : Plan) (n : ℕ) (m : Module) → IsModule plan n m → ended_well m.ended ≡ true → IsGood plan n
module_good plan n m is well = end_good plan n m.ended is.ended well

pub module_bad : (plan : Plan) (n i : ℕ) (m : Module) → IsModuleAt plan n i m → ended_well m.ended ≡ false → IsBadLoad plan n i
module_bad plan n i m is ill = (is.0, is.1, end_bad plan is.0 m.ended is.2.ended ill)

-- a load on a cycle is not good
pub cycle_bad : (plan : Plan) (n i m : ℕ) → slice_get (loaded plan n) i ≡ Some m → IsOnCycle (Loads (loaded plan)) n m → IsBadLoad plan n i
cycle_bad plan n i m there cycle = (m, there, λ g. (cycle_is_bad plan g.0 n m cycle).1 g.1)

pub get_front : {X : Type 0} (xs ys : List X) (i : ℕ) (x : X) → slice_get xs i ≡ Some x → slice_get (xs ++ ys) i ≡ Some x
get_front [] ys i x e = absurd (let no : ⊥ = cc in no)
get_front (y ∷ xs) ys zero x e = e
get_front (y ∷ xs) ys (suc i) x e = get_front xs ys i x e

pub get_last : {X : Type 0} (xs : List X) (x : X) → slice_get (xs ++ x ∷ []) (length xs) ≡ Some x
get_last [] x = refl
get_last (y ∷ xs) x = get_last xs x

none_some : {X : Type 0} (o : Option X) (x : X) → o ≡ Some x → o ≡ None → ⊥
none_some o x e h = let both : Some x ≡ None = sym e ∙ h in let no : ⊥ = cc in no

-- the next load is the first that is not good
pub open_bad : (files : List File) (plan : Plan) (f : FrameView) → IsOpen files plan f → f.failed ≡ None → f.told < length (loads_of plan f.n) → IsBadLoad plan f.n f.told
    → IsOpen files plan (record { n = f.n; told = f.told + 1; failed = Some f.told; modules = f.modules })
open_bad files plan f is none less bad = record {
  asked = is.asked;
  told = omega (arith, less);
  bad = record {
    file = bad.0;
    there = bad.1;
    bad = bad.2;
    before = λ j m short at. let one = (is.good none).each j m short at in module_good plan m one.0 one.2.0 one.2.1;
  };
  good = λ e. absurd (none_some (Some f.told) f.told refl e);
}

-- the next load follows one that is not good
pub open_on : (files : List File) (plan : Plan) (f : FrameView) (i : ℕ) → IsOpen files plan f → f.failed ≡ Some i → f.told < length (loads_of plan f.n) → IsOpen files plan (record { n = f.n; told = f.told + 1; failed = f.failed; modules = f.modules })
open_on files plan f i is some less = record {
  asked = is.asked;
  told = omega (arith, less);
  bad = is.bad;
  good = λ e. absurd (none_some f.failed i some e);
}

-- the next load is good, as are all before it
pub open_more : (files : List File) (plan : Plan) (f : FrameView) (it : Module) → IsOpen files plan f → f.failed ≡ None → f.told < length (loads_of plan f.n) → IsModuleAt plan f.n f.told it → ended_well it.ended ≡ true
    → IsOpen files plan (record { n = f.n; told = f.told + 1; failed = f.failed; modules = f.modules ++ it ∷ [] })
open_more files plan f it is none less right well = record {
  asked = is.asked;
  told = omega (arith, less);
  bad = is.bad;
  good = λ e. record { count = let l = length-append f.modules (it ∷ []) in let c = before.count in omega (arith, l, c); each = each };
}
  where
    before : AreGoodLoads plan f.n f.told f.modules
    before = is.good none

    each : (i m : ℕ) → i < f.told + 1 → slice_get (loaded plan f.n) i ≡ Some m → (x : Module) × (slice_get (f.modules ++ it ∷ []) i ≡ Some x) × IsGoodModule plan m x
    each i m short at = by_order (cases_order i f.told)
      where
        by_order : ((i ≡ f.told) ⊎ ((i < f.told) ⊎ (f.told < i))) → (x : Module) × (slice_get (f.modules ++ it ∷ []) i ≡ Some x) × IsGoodModule plan m x
        by_order (inl same) =
            let both : Some right.0 ≡ Some m = sym right.1 ∙ (ap (slice_get (loaded plan f.n)) (sym same) ∙ at) in
            let file : right.0 ≡ m = cc in
            let place : length f.modules ≡ i = before.count ∙ sym same in
            (it, subst (λ k. slice_get (f.modules ++ it ∷ []) k ≡ Some it) place (get_last f.modules it), (subst (λ k. IsModule plan k it) file right.2, well))
        by_order (inr (inl small)) = let one = before.each i m small at in (one.0, get_front f.modules (it ∷ []) i one.0 one.1, one.2)
        by_order (inr (inr big)) = absurd (let no : ⊥ = omega (arith, big, short) in no)

-- an index of at most the length that finds nothing is the length
pub at_end : {X : Type 0} (xs : List X) (i : ℕ) → i ≤ length xs → slice_get xs i ≡ None → i ≡ length xs
at_end [] zero h e = refl
at_end [] (suc i) h e = absurd (let no : ⊥ = omega (arith, h) in no)
at_end (x ∷ xs) zero h e = absurd (let no : ⊥ = cc in no)
at_end (x ∷ xs) (suc i) h e = ap suc (at_end xs i (omega (arith, h)) e)

none_of : {X : Type 0} (o : Option X) → is_some o ≡ false → o ≡ None
none_of None e = refl
none_of (Some x) e = absurd (let no : ⊥ = cc in no)

-- the module of a good load is kept beside those before it
open_push : (files : List File) (plan : Plan) (n told : ℕ) (failed : Option ℕ) (xs ys : List (Bor Module)) (it : Bor Module) → ys ≡ xs ++ it ∷ [] → IsOpen files plan (record { n = n; told = told; failed = failed; modules = map (λ (m : Bor Module). m.now) xs })
    → failed ≡ None → told < length (loads_of plan n) → IsModuleAt plan n told it.now → ended_well it.now.ended ≡ true → IsOpen files plan (record { n = n; told = told + 1; failed = failed; modules = map (λ (m : Bor Module). m.now) ys })
open_push files plan n told failed xs ys it same is none less right well =
    let f : FrameView = record { n = n; told = told; failed = failed; modules = map (λ (m : Bor Module). m.now) xs } in
    let more : map (λ (m : Bor Module). m.now) ys ≡ map (λ (m : Bor Module). m.now) xs ++ it.now ∷ [] = ap (map (λ (m : Bor Module). m.now)) same ∙ map-append (λ (m : Bor Module). m.now) xs (it ∷ []) in
    subst (λ ms. IsOpen files plan (record { n = n; told = told + 1; failed = failed; modules = ms })) (sym more) (open_more files plan f it.now is none less right well)

-- a file by its parts
abbrev pub frame : ℕ → ℕ → Option ℕ → List (Bor Module) → FrameView
frame n told failed xs = record { n = n; told = told; failed = failed; modules = map (λ (m : Bor Module). m.now) xs }

-- a file that is open, whose next load is answered
module _ (files : List File) (plan : Plan) (g : FrameView) (n told : ℕ) (failed : Option ℕ) (xs : List (Bor Module)) (same : g ≡ frame n told failed xs) (is : IsOpen files plan (frame n told failed xs)) (less : g.told < length (loads_of plan g.n)) where
  next_less : told < length (loads_of plan n)
  next_less = subst (λ (x : FrameView). x.told < length (loads_of plan x.n)) same less

  -- .. after one that is not good
  pub open_passed : IsSome failed → IsOpen files plan (frame n (told + 1) failed xs)
  open_passed some = let one = some_of failed some in open_on files plan (frame n told failed xs) one.0 is one.1 next_less

  -- .. and is the first that is not good
  pub open_refused : is_some failed ≡ false → IsBadLoad plan g.n g.told → IsOpen files plan (frame n (told + 1) (Some told) xs)
  open_refused none bad = open_bad files plan (frame n told failed xs) is (none_of failed none) next_less (subst (λ (x : FrameView). IsBadLoad plan x.n x.told) same bad)

  -- .. and is good, as are all before it
  pub open_told : (ys : List (Bor Module)) (it : Bor Module) → ys ≡ xs ++ it ∷ [] → is_some failed ≡ false → IsModuleAt plan g.n g.told it.now → ended_well it.now.ended ≡ true → IsOpen files plan (frame n (told + 1) failed ys)
  open_told ys it more none right well = open_push files plan n told failed xs ys it more is (none_of failed none) next_less (subst (λ (x : FrameView). IsModuleAt plan x.n x.told it.now) same right) well
