-- The number of members of an object.
use Rattle.std.specs.Prelude.{ℕ, zero, suc}
use Rattle.serde_json.specs.Data.{Members, member, no_members}

abbrev pub member_count : Members → ℕ
member_count no_members = zero
member_count (member k d ms) = suc (member_count ms)
