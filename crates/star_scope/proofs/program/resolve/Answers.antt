use Rattle.std.proofs.Common.{◌≡◌, Option, None, refl, ap, sym, ◌∙◌, ◌++◌, subst, Ok, Err, inr}
use Rattle.std.specs.List.{flat_map}
use Rattle.std.specs.Option.{option_copied, option_map}
use Rattle.star_scope.specs.declared.program.Program.{Program}
use Rattle.star_scope.specs.Faults.{first}
use Rattle.star_scope.specs.Loads.{load_of, prelude_loads}
use Rattle.star_outline.specs.Names.{Names}
use Rattle.star_dialect.specs.declared.Language.{Language}
use Rattle.star_scope.specs.Chains.{outer_shown}
use Rattle.star_scope.specs.Places.{AllPlaced, Outer}
use Rattle.star_scope.specs.Resolve.{Resolves, faults_in, outer_for, outside, seen_by}
use Rattle.star_scope.specs.Spots.{spot_at}
use Rattle.star_scope.specs.Uses.{uses}
use Rattle.star_scope.proofs.FirstFaults.{none_of}
use Rattle.star_scope.proofs.Resolved.{first_all}
use Rattle.star_scope.proofs.program.resolve.Goals as goal

abbrev outer_by : Option Names → Language → Outer
outer_by ns d = record { names = ns; language = d }

pub returns-in-Some : goal.returns-in-Some
returns-in-Some c =
    let ss = c.as_slice-statements.result.now in
    let prelude = option_copied c.args.prelude in
    let seen = outside prelude c.args.language.now in
    let adds = c.in_ok-loads.ensures.loads in
    let outer : outer_shown c.names_of.result c.args.language ≡ outer_for c.args.n seen = ap (λ (ns : Option Names). outer_by ns c.args.language.now) (c.names_of.ensures ∙ ap (option_map (λ q. q.names)) c.seen_by-outer.ensures) in
    let all : c.in_ok-first.first ≡ first (faults_in c.args.n seen ss adds.reads) =
    first_all c.args.n seen ss adds.reads c.in_ok-loads.loads.first c.in_ok-placed.placed.first c.in_ok-first.first c.standing_in.result c.in_ok-found.found.definitions c.in_ok-found.found.blocks
    (outer_shown c.names_of.result c.args.language) adds.faults c.standing_in.ensures c.in_ok-found.ensures.definitions c.in_ok-found.ensures.blocks outer c.in_ok-placed.ensures.first c.in_ok-first.ensures.first in
    subst (λ s. Resolves c.args.files.now c.args.n seen s (Err c.in-Some.refusal.fault)) c.as_slice-statements.ensures
    (inr (adds.reads, adds.are, (c.in-Some.refusal, sym all ∙ c.in-Some.is, refl)))

pub returns : goal.returns
returns c =
    let ss = c.as_slice-statements.result.now in
    let prelude = option_copied c.args.prelude in
    let seen = outside prelude c.args.language.now in
    let adds = c.in_ok-loads.ensures.loads in
    let outer : outer_shown c.names_of.result c.args.language ≡ outer_for c.args.n seen = ap (λ (ns : Option Names). outer_by ns c.args.language.now) (c.names_of.ensures ∙ ap (option_map (λ q. q.names)) c.seen_by-outer.ensures) in
    let file : c.file_of.result ≡ option_map (λ q. q.file) (seen_by c.args.n prelude) = c.file_of.ensures ∙ ap (option_map (λ q. q.file)) c.seen_by-outer.ensures in
    let all : c.in_ok-first.first ≡ first (faults_in c.args.n seen ss adds.reads) =
    first_all c.args.n seen ss adds.reads c.in_ok-loads.loads.first c.in_ok-placed.placed.first c.in_ok-first.first c.standing_in.result c.in_ok-found.found.definitions c.in_ok-found.found.blocks
    (outer_shown c.names_of.result c.args.language) adds.faults c.standing_in.ensures c.in_ok-found.ensures.definitions c.in_ok-found.ensures.blocks outer c.in_ok-placed.ensures.first c.in_ok-first.ensures.first in
    let none : c.in_ok-first.first ≡ None = c.in_default.is in
    let placed = c.in_ok-placed.ensures.spots (none_of _ c.in_ok-placed.placed.first (sym c.in_ok-first.ensures.first ∙ none)) in
    let p : Program = record {
      loads = c.in_ok-loads.loads.loads;
      statements = c.as_slice-statements.result;
      definitions = c.in_ok-found.found.definitions;
      blocks = c.in_ok-found.found.blocks;
      loaded = c.in_ok-loaded.loaded;
      spots = c.in_ok-placed.placed.spots;
    } in
    subst (λ s. Resolves c.args.files.now c.args.n seen s (Ok p)) c.as_slice-statements.ensures (
      adds.reads,
      adds.are,
      sym all ∙ none,
      record {
        loads = adds.loads ∙ ap (λ f. prelude_loads f ++ flat_map load_of adds.reads) file;
        statements = refl;
        numbers = c.in_ok-first.ensures.differ;
        definitions = c.in_ok-found.ensures.definitions;
        blocks = c.in_ok-found.ensures.blocks;
        loaded = c.in_ok-loaded.ensures;
        spots = subst (λ bs. AllPlaced (spot_at c.in_ok-placed.placed.spots) bs (outer_for c.args.n seen) (uses ss)) c.in_ok-found.ensures.blocks
            (subst (λ o. AllPlaced (spot_at c.in_ok-placed.placed.spots) c.in_ok-found.found.blocks o (uses ss)) outer placed);
      },
    )
