-- The fields follow one another, and there is room for the end field behind any name.
use Rattle.std.proofs.Common.{◌≡◌, ℕ, ◌+◌, ◌≤◌, List, [], ◌∷◌, length, refl, ap, arith, length-append}
use Rattle.label.specs.Written.{name_field, end_field, label_bytes}
use Rattle.label.proofs.write_label.Goals as goal

short : (name : List ℕ) → length (name_field name) ≤ length name + 3
short [] = omega arith
short (x ∷ xs) = omega arith

pub add-requires-5 : goal.add-requires-5
add-requires-5 c =
    let s = short c.args.name.now in
    rw (c.add_name.ensures, c.add-4.ensures, c.add-3.ensures, c.add-2.ensures, c.add.ensures, c.empty-label.ensures, c.number_field.ensures, c.number_field-2.ensures, c.number_field-3.ensures, c.number_field-4.ensures) (omega arith)

pub returns : goal.returns
returns c =
    let name = c.args.name.now in
    let whole : c.add-5.new.self ≡ label_bytes c.args.sizes name =
    rw (c.add-5.ensures, c.add_name.ensures, c.add-4.ensures, c.add-3.ensures, c.add-2.ensures, c.add.ensures, c.empty-label.ensures, c.number_field.ensures, c.number_field-2.ensures, c.number_field-3.ensures, c.number_field-4.ensures) refl in
    record {
      short = omega arith;
      bytes = whole;
      some = rw whole (omega arith);
      most = omega (arith, ap length whole, length-append (name_field name) end_field, short name);
    }
