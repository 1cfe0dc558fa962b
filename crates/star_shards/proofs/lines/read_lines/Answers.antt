use Rattle.std.proofs.Common.{◌≡◌, ◌+◌, ◌≤◌, true, length, refl, arith, subst}
use Rattle.std.specs.Prelude.{IfSome, Some}
use Rattle.star_shards.specs.Read.{IsOfLine}
use Rattle.star_shards.proofs.Reading.{begins, one_more, refused}
use Rattle.star_shards.proofs.lines.read_lines.Goals as goal

pub loop-line-init : goal.loop-line-init
loop-line-init c =
    record {
      so_far = begins c.args.input.now (record { entries = c.new.result; are_runs = true; are_checks = true }) c.new.ensures.items refl refl;
      fits = omega arith;
    }

pub returns-in_default-2-clause-err : goal.returns-in_default-2-clause-err
returns-in_default-2-clause-err c =
    refused c.args.input.now c.loop-line.rest.now c.in-Some.more.now c.in-Some.line.now c.loop-line.count c.loop-line.lines c.loop-line.invariant.so_far c.in-Some.ensures.line (c.in_ok-line.ensures.none c.in_default-2.is)

pub loop-line-preserved : goal.loop-line-preserved
loop-line-preserved c =
    let of = subst (λ o. IfSome o (IsOfLine c.in-Some.line.now)) c.in-Some-2.is c.in_ok-line.ensures.some in
    let fewer = c.in-Some.ensures.less in
    record {
      so_far = one_more c.args.input.now c.loop-line.rest.now c.in-Some.more.now c.in-Some.line.now c.loop-line.count c.loop-line.lines c.take.new.self c.in-Some-2.line c.loop-line.invariant.so_far c.in-Some.ensures.line of
          c.in_ok-take.ensures.entries c.in_ok-take.ensures.runs c.in_ok-take.ensures.checks;
      fits = omega (arith, fewer, c.loop-line.invariant.fits);
    }
