-- A page of ones with the bytes in it does what the bytes do.
use Rattle.std.proofs.Common.{◌≡◌, ℕ, ◌+◌, ◌-◌, ◌*◌, ◌%◌, List, length, replicate, ◌∙◌, subst, arith, rules}
use lib.ListN.{length-replicate}
use Rattle.rows.specs.Rows.{Masked, Placed}
use Rattle.buffered_chip.proofs.Through.{through}
use Rattle.buffered_chip.proofs.steps.burn.Goals as goal

pub returns : goal.returns
returns c =
    let image = c.args.image.now in
    let given = c.args.given.now in
    let buffer = c.copy_in.new.row in
    let new = c.clear_bits.new.row in
    let at = c.args.at in
    let base = c.args.block.0 * 4096 + (at - at % 512) in
    let ones : c.fill.new.self ≡ replicate 512 255 = search rules in
    let P : List ℕ → Type 0 = λ l. Placed l (at % 512) given buffer in
    let placed = subst P ones c.copy_in.ensures in
    let long : length buffer ≡ 512 = placed.outside.long ∙ length-replicate {A = ℕ} 512 255 in
    let masked : Masked image base 512 buffer 0 new = rw (c.place_of.ensures, long) at c.clear_bits.ensures in
    let Q : ℕ → Type 0 = λ i. Masked image i (length given) given 0 new in
    let joined : base + at % 512 ≡ c.args.block.0 * 4096 + at = omega arith in
    subst Q joined (through image new buffer given base (at % 512) c.requires.bytes placed c.requires.fits masked)
