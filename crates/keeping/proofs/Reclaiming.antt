-- One reclaim: the image keeps the rules, and its sectors hold what they held.
use Rattle.std.proofs.Common.{◌≡◌, ℕ, ◌+◌, ◌-◌, ◌%◌, ◌<◌, ◌≤◌, true, List, length, drop, Ok, Err, Result, ap, ◌∙◌, arith, length-drop}
use Rattle.chip.specs.declared.Fault.{Fault}
use Rattle.chip.specs.Flash.{Flash}
use Rattle.chip.specs.Plans.{Performs}
use Rattle.chip.proofs.Performed.{performed_frame, performs_on}
use Rattle.label.specs.declared.Sizes.{Sizes}
use Rattle.ring.specs.Tally.{tally_bits}
use Rattle.ring.specs.Logs.{Entry, holds, is_live}
use Rattle.ring.specs.Turns.{Shaped}
use Rattle.laid.specs.Writing.{freeing}
use Rattle.laid.specs.Sane.{Ended, Sane}
use Rattle.holding.proofs.Dropping.{holds_dropped, is_live_dropped}
use Rattle.slots.specs.Left.{AllPast}
use Rattle.slots.proofs.Besides.{front_kept}
use Rattle.booking.specs.Freed as freed
use Rattle.booking.specs.Freed.{FreeCut}
use Rattle.booking.proofs.Freeing.{more_shaped, free_whole, free_cut}
use Rattle.upkeep.specs.Reclaims as reclaims
use Rattle.upkeep.specs.Reclaims.{Reclaims}
use Rattle.keeping.proofs.Orders.{ended_behind}
use Rattle.keeping.proofs.Changing.{ended_none, sane_relaid, sane_begun, sane_freed}
use Rattle.keeping.proofs.Moving.{StillBy, still_by, Moved, moves_sane, moves_cut, past_copy, past_moves, blocks_moves, on_moves}

-- after a reclaim of the log es, with u claimed slots: the log that the image t carries. What is live in it: the copies,
-- which are behind the end of es, and what was live in es behind its first block
pub record Reclaimed (t : Flash) (z : Sizes) (c : ℕ) (es : List Entry) (u : ℕ) : Type 0 where
  pub entries : List Entry
  pub shaped : Shaped z (c + 2)
  pub sane : Sane t z (c + 2) entries
  pub claimed : u ≡ length entries
  pub ended : Ended entries
  pub same : (x : ℕ) → holds x entries ≡ holds x es
  pub shorter : length entries ≤ length es
  pub copies : (p : ℕ) → p < length entries → length es ≤ p + 7 → is_live entries p ≡ true
  pub kept : (p : ℕ) → p + 7 < length es → is_live es (p + 7) ≡ true → is_live entries p ≡ true

-- two bits more are within the limits
pub two_shaped : (z : Sizes) (c : ℕ) → Shaped z c → c + 2 ≤ tally_bits z.tally → Shaped z (c + 2)
two_shaped z c h le = record {
  ring_least = h.ring_least;
  ring_most = h.ring_most;
  tally_most = h.tally_most;
  cleared_most = omega (arith, h.tally_most);
}

module _ {s : Flash} {z : Sizes} {c q : ℕ} (es : List Entry) (shaped : Shaped z c) (even : c % 2 ≡ 0) (sane : Sane s z c es) (ended : Ended es) (enough : 7 ≤ length es) (is : q ≡ length es) (left : c < tally_bits z.tally) where
  two_left : c + 2 ≤ tally_bits z.tally
  two_left = omega arith

  -- the first block has nothing live, and is given back
  module _ {m : Flash} {k : ℕ} (h : Moved m z c es 7 k) where
    same_behind : (x : ℕ) → holds x (drop 7 h.entries) ≡ holds x es
    same_behind x = holds_dropped 7 h.entries h.moved x ∙ h.same x

    live_behind : (p : ℕ) → is_live (drop 7 h.entries) p ≡ is_live h.entries (p + 7)
    live_behind p =
        let turn : 7 + p ≡ p + 7 = omega arith in
        is_live_dropped 7 h.entries p ∙ ap (is_live h.entries) turn

    freed_whole : {t : Flash} → Performs (freeing z c) m (Ok tt) t → Reclaimed t z c es (q + k - 7)
    freed_whole {t} done =
        let fs = h.entries in
        let len = length-drop 7 fs in
        record {
          entries = drop 7 fs;
          shaped = two_shaped z c shaped two_left;
          sane = sane_freed fs h.sane even h.ended (omega (arith, shaped.ring_least)) (free_whole m t z c fs shaped even two_left h.sane.laid done);
          claimed = omega (arith, len, h.longer);
          ended = ended_behind z.sectors 7 fs h.ended;
          same = same_behind;
          shorter = omega (arith, len, h.longer, h.few);
          copies = λ p lt le. live_behind p ∙ h.copies (p + 7) le (omega (arith, len));
          kept = λ p lt alive. live_behind p ∙ h.unmoved (p + 7) (omega arith) lt ∙ alive;
        }

    freed_cut : {t : Flash} {f : Fault} → Performs (freeing z c) m (Err f) t → StillBy t z es (c + 2)
    freed_cut {t} {f} torn = go (free_cut m t z c fs f shaped even two_left h.sane.laid torn)
      where
        fs : List Entry
        fs = h.entries

        go : FreeCut t z c fs → StillBy t z es (c + 2)
        go (freed.before laid) = still_by fs shaped (sane_relaid fs h.sane (ended_none fs h.ended) laid) h.same (omega arith)
        go (freed.midway laid) = still_by (drop 7 fs) (more_shaped z c shaped left) (sane_begun fs h.sane even h.ended laid) same_behind (omega arith)
        go (freed.after laid) =
            still_by (drop 7 fs) (two_shaped z c shaped two_left)
            (sane_freed fs h.sane even h.ended (omega (arith, shaped.ring_least)) laid) same_behind (omega arith)

  -- a reclaim, whole and cut
  pub reclaims_sane : {t : Flash} {u : ℕ} → Reclaims s z c q (Ok u) t → Reclaimed t z c es u
  reclaims_sane (reclaims.done moves done) = freed_whole (moves_sane es shaped even sane ended enough is moves) done

  pub reclaims_cut : {t : Flash} {f : Fault} → Reclaims s z c q (Err f) t → StillBy t z es (c + 2)
  reclaims_cut (reclaims.copy_cut moves front alive torn) =
      let x = moves_cut es shaped even sane ended enough is moves front alive torn in (x.0, omega (arith, x.1))
  reclaims_cut (reclaims.free_cut moves torn) = freed_cut (moves_sane es shaped even sane ended enough is moves) torn

-- a reclaim leaves block 0 and the number of blocks alone, and a whole one the power on
pub freeing_past : (z : Sizes) (c : ℕ) → AllPast (freeing z c)
freeing_past z c = (λ e. omega (arith, e), (λ e. omega (arith, e), (λ e. omega (arith, e), tt)))

module _ {s : Flash} {z : Sizes} {c q : ℕ} where
  pub past_reclaims : {r : Result ℕ Fault} {t : Flash} → Reclaims s z c q r t → (o : ℕ) → t.byte 0 o ≡ s.byte 0 o
  past_reclaims (reclaims.done h done) o = front_kept done (freeing_past z c) o ∙ past_moves h o
  past_reclaims (reclaims.copy_cut {k = k} h front alive torn) o = past_copy (q + k) torn o ∙ past_moves h o
  past_reclaims (reclaims.free_cut h torn) o = front_kept torn (freeing_past z c) o ∙ past_moves h o

  pub blocks_reclaims : {r : Result ℕ Fault} {t : Flash} → Reclaims s z c q r t → t.blocks ≡ s.blocks
  blocks_reclaims (reclaims.done h done) = (performed_frame done).blocks ∙ blocks_moves h
  blocks_reclaims (reclaims.copy_cut h front alive (readable, torn)) = (performed_frame torn).blocks ∙ blocks_moves h
  blocks_reclaims (reclaims.free_cut h torn) = (performed_frame torn).blocks ∙ blocks_moves h

  pub on_reclaims : {u : ℕ} {t : Flash} → Reclaims s z c q (Ok u) t → s.on ≡ true → t.on ≡ true
  on_reclaims (reclaims.done h done) on = performs_on done (on_moves h on)
