-- Behind the newest slot there is none, so nothing counts there.
use Rattle.std.proofs.Common.{refl, sym, arith}
use Rattle.std.proofs.lemmas.Option.{none-some}
use Rattle.lookup.proofs.Backward.{counts_none}
use Rattle.lookup.proofs.walk.Walk.from_newest.Goals as goal

pub returns-clause-walks : goal.returns-clause-walks
returns-clause-walks c s le = record {
  bound = le;
  inside = omega arith;
  group = sym (counts_none s c.args.log.layout.sizes c.args.log.layout.cleared c.args.log.claimed);
  has = λ other _. absurd (other refl);
  held = λ ds is ne. absurd (none-some ds is);
}
