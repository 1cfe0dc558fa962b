use Rattle.std.proofs.Common.{◌≡◌, ◌≤◌, drop}
use Rattle.std.specs.Option.{option_or}
use Rattle.star_shards.specs.Places.{end_from, front_end, later_from, start}
use Rattle.star_shards.specs.Entries.{label_front, status_front}
use Rattle.star_shards.proofs.members.look.Given as goal

abbrev pub invariant-loop-i : goal.invariant-loop-i
invariant-loop-i l = record {
  depth : l.place.depth ≤ l.i;
  end : end_from l.place l.i (drop l.i l.bytes) ≡ end_from start 0 l.bytes;
  label : option_or l.keys.label (later_from label_front l.place l.i (drop l.i l.bytes)) ≡ front_end label_front l.bytes;
  status : option_or l.keys.status (later_from status_front l.place l.i (drop l.i l.bytes)) ≡ front_end status_front l.bytes;
}
