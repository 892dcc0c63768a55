-- One copy of a live slot, and the copies of what is live in the oldest block: the image keeps the rules, and its sectors
-- hold what they held.
use Rattle.std.proofs.Common.{◌≡◌, ℕ, ◌+◌, ◌%◌, ◌<◌, ◌≤◌, Bool, true, false, List, [], ◌∷◌, ◌++◌, length, get_or, Ok, Err, Result, sym, refl, ap, ◌∙◌, subst, ⊎_elim, arith}
use Rattle.std.proofs.lemmas.Bool.{both_ways, cases_eq, cases_lt}
use Rattle.chip.specs.declared.Fault.{Fault}
use Rattle.chip.specs.Flash.{Flash}
use Rattle.chip.proofs.Performed.{performed_frame, performs_on}
use Rattle.label.specs.declared.Sizes.{Sizes}
use Rattle.ring.specs.Places.{positions, sector_at, page_at}
use Rattle.ring.specs.Logs.{Entry, no_entry, unclosed_copy, holds, is_live, entry_at, log_of}
use Rattle.ring.specs.Rules.{Covers}
use Rattle.ring.specs.Turns.{Shaped}
use Rattle.ring.proofs.Searching.{least_unique, row_is}
use Rattle.laid.specs.Laid.{Laid}
use Rattle.laid.specs.Writing.{copying}
use Rattle.laid.specs.Sane.{last_flags, Ended, front_live, source, Sane}
use Rattle.holding.proofs.Growing.{holds_quiet, live_numbered}
use Rattle.holding.proofs.Copying.{copy_of, holds_copied, old_not_live, others_live, copy_live}
use Rattle.holding.proofs.Fitting.{count_zero_back}
use Rattle.slots.specs.Left as left
use Rattle.slots.specs.Left.{entry_of, CopyCut}
use Rattle.slots.proofs.Besides.{front_kept, slot_past, others_kept, copying_of}
use Rattle.slots.proofs.Copies.{copy_whole, copy_cut}
use Rattle.upkeep.specs.Reclaims as reclaims
use Rattle.upkeep.specs.Reclaims.{Copies, Moves}
use Rattle.keeping.proofs.Orders.{length_one, ended_by}
use Rattle.keeping.proofs.Changing.{roomy_closed, ended_none, sane_relaid}
use Rattle.keeping.proofs.Copying.{Movable, sane_copied, quiet, sane_copying, small, long, fit, covers_of}
use Rattle.keeping.proofs.Stills.{Still}

-- an image that keeps the rules and holds what es says, with no more than so many bits of its tally cleared
abbrev pub StillBy : Flash → Sizes → List Entry → ℕ → Type 0
StillBy t z es most = (x : Still t z es) × (x.cleared ≤ most)

pub still_by : {t : Flash} {z : Sizes} {c most : ℕ} {es : List Entry} (fs : List Entry) → Shaped z c → Sane t z c fs → ((x : ℕ) → holds x fs ≡ holds x es) → c ≤ most → StillBy t z es most
still_by {t} {z} {c} {most} {es} fs shaped sane same le =
    (record { cleared = c; entries = fs; shaped = shaped; sane = sane; same = same }, le)

-- it holds what any log says that says the same
pub still_since : {t : Flash} {z : Sizes} {most : ℕ} {es : List Entry} (fs : List Entry) → ((x : ℕ) → holds x fs ≡ holds x es) → StillBy t z fs most → StillBy t z es most
still_since fs same (x, le) = still_by x.entries x.shaped x.sane (λ n. x.same n ∙ same n) le

-- a log that ends a group, and a live slot of its front
module _ {s : Flash} {z : Sizes} {c : ℕ} (es : List Entry) (i : ℕ) (shaped : Shaped z c) (even : c % 2 ≡ 0) (sane : Sane s z c es) (ended : Ended es) (enough : 7 ≤ length es) (front : i < 7) (alive : is_live es i ≡ true) where
  closed : unclosed_copy (last_flags es) ≡ false
  closed = ended_none es ended

  movable : Movable z c es i
  movable = record {
    even = even;
    orderly = sane.orderly;
    claimed = sane.laid.claimed;
    ended = ended;
    room = roomy_closed es sane even closed;
    long = enough;
    front = front;
    alive = alive;
  }

  some_live : 0 < front_live es
  some_live =
      ⊎_elim
      (λ none. absurd (both_ways (is_live es i) (count_zero_back (is_live es) 7 none i front) alive))
      (λ ne. omega (arith, ne))
      (cases_eq (front_live es) 0)

  -- there is room for a copy
  pub room_copy : length es < positions z c
  room_copy = omega (arith, some_live, movable.room)

  -- the slot as it is read
  read : entry_at s z c i ≡ get_or es i no_entry
  read = sane.laid.entries i (omega arith)

  below : sector_at s z c i < z.sectors
  below = omega (arith, ap (λ (e : Entry). e.sector) read, live_numbered z.sectors es i sane.orderly sane.laid.claimed alive)

  written : entry_of 143 (sector_at s z c i) (page_at s z c i) ≡ copy_of es i
  written = ap (λ (e : Entry). entry_of 143 e.sector e.page) read

  module _ {t : Flash} where
    as_copy : Laid t z c (es ++ (entry_of 143 (sector_at s z c i) (page_at s z c i) ∷ [])) → Sane t z c (es ++ (copy_of es i ∷ []))
    as_copy laid = sane_copied t z c es i movable (subst (λ (e : Entry). Laid t z c (es ++ (e ∷ []))) written laid)

    -- the copy is whole
    pub copy_sane : Copies s z c i (length es) (Ok tt) t → Sane t z c (es ++ (copy_of es i ∷ []))
    copy_sane (readable, done) =
        as_copy
        (copy_whole s t z c es (sector_at s z c i) (page_at s z c i) shaped sane.laid room_copy
        (long s z c i readable) (fit s z c i readable) (small s z c i readable) done)

    -- the copy was cut
    pub copy_cut_by : {f : Fault} → source es ≡ i → Copies s z c i (length es) (Err f) t → StillBy t z es c
    copy_cut_by {f} first (readable, torn) =
        go
        (copy_cut s t z c es (sector_at s z c i) (page_at s z c i) shaped sane.laid room_copy
        (long s z c i readable) (fit s z c i readable) (small s z c i readable) torn z.sectors below)
      where
        go : CopyCut t z c es (sector_at s z c i) (page_at s z c i) z.sectors → StillBy t z es c
        go (left.none laid) = still_by es shaped (sane_relaid es sane closed laid) (λ x. refl) (omega arith)
        go (left.unclosed e flags over laid number) =
            let kept = others_kept z c (length es) i shaped torn (copying_of z c (length es) (sector_at s z c i) (page_at s z c i)) room_copy (omega (arith, room_copy)) (λ same. omega arith) in
            let covers : Covers t z c (length es) i = covers_of s z c i readable t (length es) kept.0 kept.1 over in
            still_by (es ++ (e ∷ [])) shaped (sane_copying t z c es i movable e flags first number covers laid)
            (λ x. holds_quiet x es e (quiet t z c es i movable e flags)) (omega arith)
        go (left.closed laid) = still_by (es ++ (copy_of es i ∷ [])) shaped (as_copy laid) (holds_copied es i ended alive) (omega arith)

    pub copy_cut_still : {f : Fault} → source es ≡ i → Copies s z c i (length es) (Err f) t → Still t z es
    copy_cut_still first torn = (copy_cut_by first torn).0

-- after the copies of the live slots among the first i of the log es, k in number: the log that the image m carries
pub record Moved (m : Flash) (z : Sizes) (c : ℕ) (es : List Entry) (i k : ℕ) : Type 0 where
  pub entries : List Entry
  pub sane : Sane m z c entries
  pub longer : length entries ≡ length es + k
  pub ended : Ended entries
  pub long : 7 ≤ length entries
  pub same : (x : ℕ) → holds x entries ≡ holds x es
  pub moved : (j : ℕ) → j < i → is_live entries j ≡ false
  pub unmoved : (j : ℕ) → i ≤ j → j < length es → is_live entries j ≡ is_live es j
  pub copies : (j : ℕ) → length es ≤ j → j < length entries → is_live entries j ≡ true
  pub few : k ≤ i
  pub front : i ≤ 7

-- the log that is read from an image
pub log_read : {s : Flash} {z : Sizes} {c q : ℕ} (es : List Entry) → Laid s z c es → q ≡ length es → log_of s z c q ≡ es
log_read {s} {z} {c} {q} es laid is =
    sym (row_is (entry_at s z c) es q no_entry (sym is) (λ p lt. sym (laid.entries p (omega arith))))

module _ {s : Flash} {z : Sizes} {c q : ℕ} (es : List Entry) (shaped : Shaped z c) (even : c % 2 ≡ 0) (sane : Sane s z c es) (ended : Ended es) (enough : 7 ≤ length es) (is : q ≡ length es) where
  -- whether a slot is live, as it is read
  alive_read : (i : ℕ) (b : Bool) → is_live (log_of s z c q) i ≡ b → is_live es i ≡ b
  alive_read i b h = ap (λ es. is_live es i) (sym (log_read es sane.laid is)) ∙ h

  -- where the slot i is live, it is the first that is live after the copies of those before it
  module _ {m : Flash} {i k : ℕ} (h : Moved m z c es i k) (front : i < 7) (alive : is_live (log_of s z c q) i ≡ true) where
    pub moved_alive : is_live h.entries i ≡ true
    moved_alive = h.unmoved i (omega arith) (omega arith) ∙ alive_read i true alive

    pub moved_first : source h.entries ≡ i
    moved_first =
        least_unique (is_live h.entries) 7 i
        record { bound = omega arith; before = h.moved; hit = λ _. moved_alive }

  moved_skip : {m : Flash} {i k : ℕ} → Moved m z c es i k → i < 7 → is_live (log_of s z c q) i ≡ false → Moved m z c es (i + 1) k
  moved_skip {m} {i} {k} h front dead = record {
    entries = h.entries;
    sane = h.sane;
    longer = h.longer;
    ended = h.ended;
    long = h.long;
    same = h.same;
    moved = λ j lt.
        ⊎_elim
        (h.moved j)
        (λ le.
        let here : j ≡ i = omega arith in
        ap (is_live h.entries) here ∙ h.unmoved i (omega arith) (omega arith) ∙ alive_read i false dead)
        (cases_lt j i);
    unmoved = λ j le lt. h.unmoved j (omega arith) lt;
    copies = h.copies;
    few = omega (arith, h.few);
    front = omega arith;
  }

  moved_copy : {m n : Flash} {i k : ℕ} → Moved m z c es i k → i < 7 → is_live (log_of s z c q) i ≡ true → Copies m z c i (q + k) (Ok tt) n → Moved n z c es (i + 1) (k + 1)
  moved_copy {m} {n} {i} {k} h front alive done =
      let fs = h.entries in
      let live : is_live fs i ≡ true = moved_alive h front alive in
      let place : q + k ≡ length fs = omega (arith, h.longer) in
      let one = length_one fs (copy_of fs i) in
      record {
        entries = fs ++ (copy_of fs i ∷ []);
        sane = copy_sane fs i shaped even h.sane h.ended h.long front live (subst (λ p. Copies m z c i p (Ok tt) n) place done);
        longer = omega (arith, one, h.longer);
        ended = ended_by fs (copy_of fs i) refl;
        long = omega (arith, one, h.long);
        same = λ x. holds_copied fs i h.ended live x ∙ h.same x;
        moved = λ j lt.
            ⊎_elim
            (λ before. others_live fs i h.ended live j (omega (arith, h.long)) (λ e. omega arith) ∙ h.moved j before)
            (λ le.
            let here : j ≡ i = omega arith in
            ap (is_live (fs ++ (copy_of fs i ∷ []))) here ∙ old_not_live fs i h.ended live)
            (cases_lt j i);
        unmoved = λ j le lt.
            others_live fs i h.ended live j (omega (arith, h.longer)) (λ e. omega arith) ∙ h.unmoved j (omega arith) lt;
        copies = λ j le lt.
            ⊎_elim
            (λ before. others_live fs i h.ended live j before (λ e. omega arith) ∙ h.copies j le before)
            (λ behind.
            let here : j ≡ length fs = omega (arith, one) in
            ap (is_live (fs ++ (copy_of fs i ∷ []))) here ∙ copy_live fs i h.ended live)
            (cases_lt j (length fs));
        few = omega (arith, h.few);
        front = omega arith;
      }

  -- the copies of the live slots among the first i
  pub moves_sane : {m : Flash} {i k : ℕ} → Moves s z c q i k m → Moved m z c es i k
  moves_sane reclaims.none = record {
    entries = es;
    sane = sane;
    longer = omega arith;
    ended = ended;
    long = enough;
    same = λ x. refl;
    moved = λ j lt. absurd (omega arith);
    unmoved = λ j le lt. refl;
    copies = λ j le lt. absurd (omega arith);
    few = omega arith;
    front = omega arith;
  }
  moves_sane (reclaims.skip h front dead) = moved_skip (moves_sane h) front dead
  moves_sane (reclaims.copy h front alive done) = moved_copy (moves_sane h) front alive done

  -- the next copy was cut
  pub moves_cut : {m t : Flash} {i k : ℕ} {f : Fault} → Moves s z c q i k m → i < 7 → is_live (log_of s z c q) i ≡ true → Copies m z c i (q + k) (Err f) t → StillBy t z es c
  moves_cut {m} {t} {i} {k} {f} moves front alive torn =
      let h = moves_sane moves in
      let place : q + k ≡ length h.entries = omega (arith, h.longer) in
      still_since h.entries h.same
      (copy_cut_by h.entries i shaped even h.sane h.ended h.long front (moved_alive h front alive) (moved_first h front alive)
      (subst (λ p. Copies m z c i p (Err f) t) place torn))

-- a copy and the copies of the first i leave block 0 and the number of blocks alone, and the power on
pub past_copy : {s t : Flash} {z : Sizes} {c i : ℕ} {r : Result (Unit {0}) Fault} (p : ℕ) → Copies s z c i p r t → (o : ℕ) → t.byte 0 o ≡ s.byte 0 o
past_copy {s} {t} {z} {c} {i} p (readable, done) o =
    front_kept done
    (slot_past z c p (copying z c p (sector_at s z c i) (page_at s z c i)) (copying_of z c p (sector_at s z c i) (page_at s z c i))) o

module _ {s : Flash} {z : Sizes} {c q : ℕ} where
  pub past_moves : {i k : ℕ} {m : Flash} → Moves s z c q i k m → (o : ℕ) → m.byte 0 o ≡ s.byte 0 o
  past_moves reclaims.none o = refl
  past_moves (reclaims.skip h front dead) o = past_moves h o
  past_moves (reclaims.copy {k = k} h front alive done) o = past_copy (q + k) done o ∙ past_moves h o

  pub blocks_moves : {i k : ℕ} {m : Flash} → Moves s z c q i k m → m.blocks ≡ s.blocks
  blocks_moves reclaims.none = refl
  blocks_moves (reclaims.skip h front dead) = blocks_moves h
  blocks_moves (reclaims.copy h front alive (readable, done)) = (performed_frame done).blocks ∙ blocks_moves h

  pub on_moves : {i k : ℕ} {m : Flash} → Moves s z c q i k m → s.on ≡ true → m.on ≡ true
  on_moves reclaims.none on = on
  on_moves (reclaims.skip h front dead) on = on_moves h on
  on_moves (reclaims.copy h front alive (readable, done)) on = performs_on done (on_moves h on)
