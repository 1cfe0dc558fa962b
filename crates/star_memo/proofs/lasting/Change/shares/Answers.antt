use Rattle.std.proofs.Common.{◌≡◌, Some, slice_get}
use Rattle.star_reading.specs.declared.reading.Read.TheVariants as read
use Rattle.star_memo.proofs.EndsLast.{shares_across}
use Rattle.star_memo.proofs.lasting.Change.shares.Goals as goal

pub returns-in-Some-Program : goal.returns-in-Some-Program
returns-in-Some-Program c = λ h.
    let there : slice_get c.args.self.now.reads.now c.args.n ≡ Some (Some (read.Program c.in-Some-Program.program)) = cc (c.in-Some-Program.ensures) in
    shares_across c.args.self.now c.requires.change c.args.n c.args.m c.requires.text c.requires.load (record {
      program = c.in-Some-Program.program;
      there = there;
      stores = c.in-Some.stores.now;
      own = c.requires.stores c.args.m c.in-Some.stores.now c.in-Some.ensures;
      shared = c.shares_loads.ensures h;
    })
