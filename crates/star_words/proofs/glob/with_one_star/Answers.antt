use Rattle.std.proofs.Common.{◌≡◌, ◌∷◌, [], arith, drop}
use Rattle.std.proofs.lemmas.Bool.Decides.{Decides-eqb}
use Rattle.std.proofs.lemmas.Slice.Eq.{starts_is}
use Rattle.star_words.proofs.Globs.{both_ways, one_less, one_shorter}
use Rattle.star_words.proofs.glob.with_one_star.Goals as goal

pub loop-rest-init : goal.loop-rest-init
loop-rest-init c = ((λ name. ((λ m. m), (λ m. m))), omega arith)

pub loop-rest-smaller : goal.loop-rest-smaller
loop-rest-smaller c =
    let xs = c.loop-rest.rest.now in
    let starts : xs ≡ 42 ∷ 42 ∷ drop 2 xs = (starts_is Decides-eqb xs (42 ∷ 42 ∷ []) c.starts_with.result c.starts_with.ensures.value).0 c.loop-rest-test.true in
    one_shorter xs (drop 2 xs) starts

pub loop-rest-preserved : goal.loop-rest-preserved
loop-rest-preserved c =
    let xs = c.loop-rest.rest.now in
    let starts : xs ≡ 42 ∷ 42 ∷ drop 2 xs = (starts_is Decides-eqb xs (42 ∷ 42 ∷ []) c.starts_with.result c.starts_with.ensures.value).0 c.loop-rest-test.true in
    let shorter = one_shorter xs (drop 2 xs) starts in
    ((λ name. both_ways _ xs c.args.pattern.now name (one_less xs (drop 2 xs) starts name) (c.loop-rest.invariant.0 name)), omega (arith, shorter, c.loop-rest.invariant.1))

pub returns-clause-same : goal.returns-clause-same
returns-clause-same c = c.loop-rest.invariant.0

pub returns-clause-len : goal.returns-clause-len
returns-clause-len c = c.loop-rest.invariant.1
