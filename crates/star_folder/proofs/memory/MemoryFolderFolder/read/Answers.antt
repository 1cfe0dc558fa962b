use Rattle.std.proofs.Common.{ap, arith, take, ◌∙◌}
use Rattle.star_folder.proofs.Fronts.{same_front}
use Rattle.star_folder.specs.Memory.{bytes_among}
use Rattle.star_folder.proofs.memory.MemoryFolderFolder.read.Goals as goal

pub returns-clause-tells : goal.returns-clause-tells
returns-clause-tells c =
    let bytes = c.in_ok-bytes.bytes.now in
    c.in_ok-from_slice.ensures.items ∙ same_front c.min.result 1048577 bytes (λ h. omega (arith, h, c.min.ensures)) (λ h. omega (arith, h, c.min.ensures))
    ∙ ap (take 1048577) (c.in_ok-bytes.ensures.bytes ∙ ap (λ l. bytes_among l c.args.self.now.rows.now) c.text.ensures)
