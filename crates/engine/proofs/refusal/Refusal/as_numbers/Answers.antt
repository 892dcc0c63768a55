-- A rule, its place and a home are numbers of 16 bits.
use Rattle.std.proofs.Common.{ℕ, zero, suc, ◌<◌, [], ◌∷◌, arith}
use Rattle.std.specs.List.{All}
use Rattle.engine.proofs.refusal.Refusal.as_numbers.Goals as goal

three : (a b c : ℕ) → a < 65536 → b < 65536 → c < 65536 → All (λ n. n < 65536) (a ∷ b ∷ c ∷ [])
three a b c ha hb hc zero d lt = ha
three a b c ha hb hc (suc zero) d lt = hb
three a b c ha hb hc (suc (suc zero)) d lt = hc
three a b c ha hb hc (suc (suc (suc k))) d lt = absurd (omega (arith, lt))

pub returns-in-Rule-clause-words : goal.returns-in-Rule-clause-words
returns-in-Rule-clause-words c = rw c.in-Rule.is (three _ _ _ (omega arith) c.word.ensures.small c.word-in-Rule.ensures.small)

pub returns-in-Cut-clause-words : goal.returns-in-Cut-clause-words
returns-in-Cut-clause-words c = rw c.in-Cut.is (three _ _ _ (omega arith) c.word-in-Cut.ensures.small c.word-in-Cut-2.ensures.small)
