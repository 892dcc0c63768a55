-- An erase that has begun is ended; or else the last claimed slot is mended.
use Rattle.std.proofs.Common.{◌≡◌, ◌%◌, refl, rules}
use Rattle.std.proofs.lemmas.Result.{err_from_is_err_and}
use Rattle.upkeep.specs.Repairs as repairs
use Rattle.upkeep.proofs.repairs.repair.Goals as goal

pub returns-in_err-rebook : goal.returns-in_err-rebook
returns-in_err-rebook g c =
    let out = err_from_is_err_and c.from_residual.result c.from_residual.ensures.1 in
    let odd : c.args.log.layout.cleared % 2 ≡ 1 = search rules in
    rw (out.1, out.2) (_, _, repairs.book odd, c.in_err-rebook.ensures)

pub returns-then-begun : goal.returns-then-begun
returns-then-begun g c =
    let odd : c.args.log.layout.cleared % 2 ≡ 1 = search rules in
    (_, _, repairs.book odd, c.in_ok-rebook.ensures, record { sizes = refl; cleared = refl; claimed = refl })
