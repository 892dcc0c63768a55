-- What the breach of each rule is.
use Rattle.std.proofs.Common.{ℕ}
use Rattle.chip.specs.Flash.{Flash}
use Rattle.label.specs.declared.Sizes.{Sizes}
use Rattle.ring.specs.Places.{block_at, slot_at}
use Rattle.ring.specs.Rules as rules
use Rattle.ring.specs.Rules.{At, Breach, Disordered, Scribbled, Illegal, Unclean, Misplaced, Beyond, Unended, Crowded, Astray}

module _ (s : Flash) (z : Sizes) (c : ℕ) where
  pub of_tally : (n : ℕ) → Breach s z c 1 n → Disordered s z.tally n
  of_tally n (rules.tally x) = x

  pub of_directory : (n : ℕ) → Breach s z c 2 n → At z c (block_at z c) (Scribbled s z c) n
  of_directory n (rules.directory x) = x

  pub of_flags : (n : ℕ) → Breach s z c 3 n → At z c (slot_at z c) (Illegal s z c) n
  of_flags n (rules.flags x) = x

  pub of_blank : (n : ℕ) → Breach s z c 4 n → At z c (slot_at z c) (Unclean s z c) n
  of_blank n (rules.blank x) = x

  pub of_order : (n : ℕ) → Breach s z c 5 n → At z c (slot_at z c) (Misplaced s z c) n
  of_order n (rules.order x) = x

  pub of_sector : (n : ℕ) → Breach s z c 6 n → At z c (slot_at z c) (Beyond s z c) n
  of_sector n (rules.sector x) = x

  pub of_group : (n : ℕ) → Breach s z c 7 n → At z c (slot_at z c) (Unended s z c) n
  of_group n (rules.group x) = x

  pub of_room : (n : ℕ) → Breach s z c 8 n → At z c (slot_at z c) (Crowded s z c) n
  of_room n (rules.room x) = x

  pub of_copy : (n : ℕ) → Breach s z c 9 n → At z c (slot_at z c) (Astray s z c) n
  of_copy n (rules.copy x) = x
