-- The first of all static faults of a file, from the first of each kind.
use Rattle.std.proofs.Common.{◌≡◌, ℕ, List, ◌++◌, Option, None, ap, sym, ◌∙◌}
use Rattle.std.specs.List.{flat_map}
use Rattle.star_tree.specs.declared.tree.Statement.{Statement}
use Rattle.star_scope.specs.declared.error.LocatedFault.{LocatedFault}
use Rattle.star_scope.specs.declared.placement.StatementContext.{StatementContext}
use Rattle.star_scope.specs.Conflicts.{block_conflicts}
use Rattle.star_scope.specs.Faults.{first, first_from, first_of}
use Rattle.star_scope.specs.Loads.{Read, faults_of}
use Rattle.star_outline.specs.Outlines.{outline}
use Rattle.star_outline.specs.declared.blocks.Block.{Block}
use Rattle.star_outline.specs.Definitions.{Definition}
use Rattle.star_scope.specs.Placement.{in_statements}
use Rattle.star_scope.specs.Places.{Outer, undefined}
use Rattle.star_scope.specs.Resolve.{Outside, faults_in, outer_for, repeated, standing_in}
use Rattle.star_scope.specs.Uses.{uses}
use Rattle.star_scope.proofs.Faults.{first_joined}
use Rattle.star_scope.proofs.FirstFaults.{first_apart}

after : (found : Option LocatedFault) (fs gs : List LocatedFault) → first_from found (fs ++ gs) ≡ first_from (first_of found (first fs)) gs
after found fs gs = first_joined found fs gs ∙ ap (λ o. first_from o gs) (first_apart found fs)

five : (a b c d e : List LocatedFault) → first (a ++ (b ++ (c ++ (d ++ e)))) ≡ first_of (first_of (first_of (first_of (first a) (first b)) (first c)) (first d)) (first e)
five a b c d e =
    first_joined None a (b ++ (c ++ (d ++ e))) ∙ after (first a) b (c ++ (d ++ e)) ∙ after (first_of (first a) (first b)) c (d ++ e)
    ∙ after (first_of (first_of (first a) (first b)) (first c)) d e ∙ first_apart (first_of (first_of (first_of (first a) (first b)) (first c)) (first d)) e

pub first_all : (n : ℕ) (outside : Outside) (ss : List Statement) (reads : List Read) (load unknown result : Option LocatedFault) (here : StatementContext) (ds : List Definition) (bs : List Block) (outer : Outer)
    → load ≡ first (flat_map faults_of reads) → here ≡ standing_in n outside.prelude → ds ≡ (outline ss).definitions → bs ≡ (outline ss).blocks
    → outer ≡ outer_for n outside → unknown ≡ first (undefined bs outer (uses ss))
    → result ≡ first_of (first_of (first_of (first_of (first (in_statements ss here)) load) (first (block_conflicts ss))) (first (repeated ds))) unknown
    → result ≡ first (faults_in n outside ss reads)
first_all n outside ss reads load unknown result here ds bs outer l h d b o u r =
    r
    ∙ ap (λ x. first_of (first_of (first_of (first_of (first (in_statements ss x)) load) (first (block_conflicts ss))) (first (repeated ds))) unknown) h
    ∙ ap (λ x. first_of (first_of (first_of (first_of (first (in_statements ss (standing_in n outside.prelude))) x) (first (block_conflicts ss))) (first (repeated ds))) unknown) l
    ∙ ap (λ x. first_of (first_of (first_of (first_of (first (in_statements ss (standing_in n outside.prelude))) (first (flat_map faults_of reads))) (first (block_conflicts ss))) (first (repeated x))) unknown) d
    ∙ ap (λ x. first_of (first_of (first_of (first_of (first (in_statements ss (standing_in n outside.prelude))) (first (flat_map faults_of reads))) (first (block_conflicts ss))) (first (repeated (outline ss).definitions))) x)
    (u ∙ ap (λ x. first (undefined x outer (uses ss))) b ∙ ap (λ x. first (undefined (outline ss).blocks x (uses ss))) o)
    ∙ sym (five (in_statements ss (standing_in n outside.prelude)) (flat_map faults_of reads) (block_conflicts ss) (repeated (outline ss).definitions)
    (undefined (outline ss).blocks (outer_for n outside) (uses ss)))
