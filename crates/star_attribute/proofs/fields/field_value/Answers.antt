use Rattle.std.proofs.Common.{◌≡◌, nat_eq, true, false, length, sym, rules}
use Rattle.std.specs.List.{list_all}
use Rattle.star_meaning.specs.Spelling.{is_digit}
use Rattle.star_meaning.specs.Format.{is_field_name}
use Rattle.star_attribute.proofs.fields.field_value.Goals as goal

pub returns-then-is_field_name : goal.returns-then-is_field_name
returns-then-is_field_name c =
    let z : nat_eq (length c.args.field.now) 0 ≡ false = search rules in
    let d : list_all is_digit c.args.field.now ≡ false = search rules in
    let h : is_field_name c.args.field.now ≡ true = search rules in
    rw (z, d, h, sym c.as_slice-then-is_field_name.ensures) c.named_value.ensures
