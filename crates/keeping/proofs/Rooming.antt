-- Reclaims until there is room: the image keeps the rules, its sectors hold what they held, and there are no more reclaims
-- than blocks in the ring.
use Rattle.std.proofs.Common.{◌≡◌, ℕ, ◌+◌, ◌-◌, ◌*◌, ◌%◌, ◌<◌, ◌≤◌, true, List, length, Ok, Err, Result, refl, ◌∙◌, ⊎_elim, arith}
use Rattle.std.proofs.lemmas.Bool.{cases_lt}
use Rattle.chip.specs.declared.Fault.{Fault}
use Rattle.chip.specs.Flash.{Flash}
use Rattle.label.specs.declared.Sizes.{Sizes}
use Rattle.ring.specs.Tally.{tally_bits}
use Rattle.ring.specs.Places.{positions}
use Rattle.ring.specs.Logs.{Entry, holds, is_live}
use Rattle.ring.specs.Turns.{Shaped}
use Rattle.laid.specs.Sane.{Ended, Sane}
use Rattle.holding.proofs.Growing.{live_numbered}
use Rattle.holding.proofs.Fitting.{all_live_fit}
use Rattle.upkeep.specs.Reclaims as reclaims
use Rattle.upkeep.specs.Reclaims.{Reclaims, Room, Rooms}
use Rattle.keeping.proofs.Moving.{StillBy, still_since}
use Rattle.keeping.proofs.Reclaiming.{Reclaimed, reclaims_sane, reclaims_cut, past_reclaims, blocks_reclaims, on_reclaims}

-- after reclaims that began at the log es with c cleared bits: the log that the image t carries, with d cleared bits and u
-- claimed slots
pub record Roomed (t : Flash) (z : Sizes) (c : ℕ) (es : List Entry) (d u : ℕ) : Type 0 where
  pub entries : List Entry
  pub shaped : Shaped z d
  pub sane : Sane t z d entries
  pub claimed : u ≡ length entries
  pub ended : Ended entries
  pub even : d % 2 ≡ 0
  pub same : (x : ℕ) → holds x entries ≡ holds x es
  pub most : d ≤ c + 2 * z.ring

-- what comes of making room for n slots, by the result
abbrev pub RoomsLeft : ℕ → Sizes → ℕ → List Entry → Result Room Fault → Flash → Type 0
RoomsLeft n z c es (Ok (reclaims.made d u)) t = Roomed t z c es d u × (n ≤ positions z d - u)
RoomsLeft n z c es (Ok (reclaims.spent d u)) t = Roomed t z c es d u × (positions z d - u < n) × (tally_bits z.tally ≤ d)
RoomsLeft n z c es (Err f) t = StillBy t z es (c + 2 * z.ring)

-- after j reclaims, all that lies behind the end of the first log is live; that log had so many slots
abbrev Fresh : ℕ → ℕ → List Entry → Type 0
Fresh first j es = (p : ℕ) → p < length es → first ≤ p + 7 * j → is_live es p ≡ true

fresh_more : {t : Flash} {z : Sizes} {c u : ℕ} (first j : ℕ) (es : List Entry) → Fresh first j es → (h : Reclaimed t z c es u) → Fresh first (j + 1) h.entries
fresh_more first j es fresh h p lt le =
    ⊎_elim
    (λ old. h.kept p old (fresh (p + 7) old (omega arith)))
    (λ new. h.copies p lt new)
    (cases_lt (p + 7) (length es))

-- a log all of which is live is no longer than there are sectors
all_fresh : {s : Flash} {z : Sizes} {c : ℕ} (es : List Entry) → Sane s z c es → ((p : ℕ) → p < length es → is_live es p ≡ true) → length es ≤ z.sectors
all_fresh {s} {z} {c} es sane alive =
    all_live_fit z.sectors es alive (λ p lt. live_numbered z.sectors es p sane.orderly sane.laid.claimed (alive p lt))

-- which leaves more than 21 slots free; so a reclaim that is due has fewer before it than there are blocks
rounds : {s : Flash} {z : Sizes} {c q n : ℕ} (first j : ℕ) (es : List Entry) → 5 ≤ z.ring → c % 2 ≡ 0 → Sane s z c es → q ≡ length es → z.sectors ≤ 7 * (z.ring - 4) → n ≤ 21 → first ≤ 7 * z.ring → Fresh first j es → positions z c - q < n → j < z.ring
rounds {s} {z} {c} {q} {n} first j es least even sane is fits small begun fresh due =
    ⊎_elim (λ lt. lt)
    (λ le. absurd (omega (arith, all_fresh es sane (λ p lt. fresh p lt (omega arith)))))
    (cases_lt j z.ring)

-- from the log that is there after j reclaims on
module _ {n : ℕ} {z : Sizes} (c0 : ℕ) (es0 : List Entry) (fits : z.sectors ≤ 7 * (z.ring - 4)) (small : n ≤ 21) (begun : length es0 ≤ 7 * z.ring) where
  rooms_from : {s t : Flash} {c q : ℕ} {r : Result Room Fault} (j : ℕ) (es : List Entry) → Fresh (length es0) j es → c ≡ c0 + 2 * j → j ≤ z.ring → ((x : ℕ) → holds x es ≡ holds x es0) → Shaped z c → c % 2 ≡ 0 → Sane s z c es → Ended es → q ≡ length es → Rooms n z s c q r t → RoomsLeft n z c0 es0 r t
  rooms_from j es fresh bits most same shaped even sane ended is (reclaims.enough {s} {c} {q} room) = (
    record { entries = es; shaped = shaped; sane = sane; claimed = is; ended = ended; even = even; same = same; most = omega arith },
    room,
  )
  rooms_from j es fresh bits most same shaped even sane ended is (reclaims.no_bits {s} {c} {q} due none) = (
    record { entries = es; shaped = shaped; sane = sane; claimed = is; ended = ended; even = even; same = same; most = omega arith },
    due,
    none,
  )
  rooms_from j es fresh bits most same shaped even sane ended is (reclaims.round {s} {m} {t} {c} {q} {u} {r} due left reclaim rest) =
      let lt : j < z.ring = rounds (length es0) j es shaped.ring_least even sane is fits small begun fresh due in
      let h = reclaims_sane es shaped even sane ended (omega (arith, shaped.ring_least)) is left reclaim in
      rooms_from (j + 1) h.entries (fresh_more (length es0) j es fresh h) (omega arith) (omega arith) (λ x. h.same x ∙ same x)
      h.shaped (omega arith) h.sane h.ended h.claimed rest
  rooms_from j es fresh bits most same shaped even sane ended is (reclaims.cut {s} {t} {c} {q} {f} due left reclaim) =
      let lt : j < z.ring = rounds (length es0) j es shaped.ring_least even sane is fits small begun fresh due in
      let x = reclaims_cut es shaped even sane ended (omega (arith, shaped.ring_least)) is left reclaim in
      let y = still_since es same x in (y.0, omega (arith, y.1))

-- making room
module _ {s : Flash} {z : Sizes} {c q n : ℕ} (es : List Entry) (shaped : Shaped z c) (even : c % 2 ≡ 0) (sane : Sane s z c es) (ended : Ended es) (is : q ≡ length es) (fits : z.sectors ≤ 7 * (z.ring - 4)) (small : n ≤ 21) where
  pub rooms_sane : {r : Result Room Fault} {t : Flash} → Rooms n z s c q r t → RoomsLeft n z c es r t
  rooms_sane h =
      rooms_from c es fits small (omega (arith, sane.laid.room)) 0 es (λ p lt le. absurd (omega arith)) (omega arith) (omega arith) (λ x. refl)
      shaped even sane ended is h

  pub rooms_made : {t : Flash} {d u : ℕ} → Rooms n z s c q (Ok (reclaims.made d u)) t → Roomed t z c es d u × (n ≤ positions z d - u)
  rooms_made h = rooms_sane h

  pub rooms_spent : {t : Flash} {d u : ℕ} → Rooms n z s c q (Ok (reclaims.spent d u)) t → Roomed t z c es d u × (positions z d - u < n) × (tally_bits z.tally ≤ d)
  rooms_spent h = rooms_sane h

  pub rooms_cut : {t : Flash} {f : Fault} → Rooms n z s c q (Err f) t → StillBy t z es (c + 2 * z.ring)
  rooms_cut h = rooms_sane h

-- making room leaves block 0 and the number of blocks alone, and the power on unless it was cut
module _ {n : ℕ} {z : Sizes} where
  pub past_rooms : {s t : Flash} {c q : ℕ} {r : Result Room Fault} → Rooms n z s c q r t → (o : ℕ) → t.byte 0 o ≡ s.byte 0 o
  past_rooms (reclaims.enough room) o = refl
  past_rooms (reclaims.no_bits due none) o = refl
  past_rooms (reclaims.round due left reclaim rest) o = past_rooms rest o ∙ past_reclaims reclaim o
  past_rooms (reclaims.cut due left reclaim) o = past_reclaims reclaim o

  pub blocks_rooms : {s t : Flash} {c q : ℕ} {r : Result Room Fault} → Rooms n z s c q r t → t.blocks ≡ s.blocks
  blocks_rooms (reclaims.enough room) = refl
  blocks_rooms (reclaims.no_bits due none) = refl
  blocks_rooms (reclaims.round due left reclaim rest) = blocks_rooms rest ∙ blocks_reclaims reclaim
  blocks_rooms (reclaims.cut due left reclaim) = blocks_reclaims reclaim

  pub on_rooms : {s t : Flash} {c q : ℕ} {x : Room} → Rooms n z s c q (Ok x) t → s.on ≡ true → t.on ≡ true
  on_rooms (reclaims.enough room) on = on
  on_rooms (reclaims.no_bits due none) on = on
  on_rooms (reclaims.round due left reclaim rest) on = on_rooms rest (on_reclaims reclaim on)
