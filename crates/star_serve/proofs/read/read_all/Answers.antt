use Rattle.std.proofs.Common.{◌<◌, ◌-◌, ◌++◌, length, take, arith}
use Rattle.star_serve.proofs.Streams.{Gives-more, longer}
use Rattle.star_serve.proofs.read.read_all.Goals as goal

pub returns-then-count-len-clause-too_big : goal.returns-then-count-len-clause-too_big
returns-then-count-len-clause-too_big g c =
    let got = take c.in-Ok.count c.read.new.buffer in
    let over : 268435456 - length c.loop-count.bytes.items < c.in-Ok.count = omega (arith, c.loop-count.bytes.ok.0, c.len.ensures) in
    let long = longer 268435456 c.loop-count.bytes.items c.read.new.buffer c.in-Ok.count c.in-Ok.ensures.within over in
    λ _. (c.loop-count.bytes.items ++ got, Gives-more (g.R.Source.said c.args.reader.now) (g.R.Source.said c.loop-count.reader) (g.R.Source.said c.read.new.self) _ _ c.loop-count.invariant.gives c.in-Ok.ensures.gives, long)
