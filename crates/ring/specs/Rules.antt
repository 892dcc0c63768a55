-- The nine rules that an image keeps, each by what breaks it, with the place of the breach. The block that is being
-- erased has no position, so it is exempt.
use Rattle.std.specs.Prelude.{◌≡◌, ℕ, suc, ◌+◌, ◌-◌, ◌/◌, ◌%◌, ◌<◌, ◌≤◌, Bool, true, false, cond, ◌||◌, ◌⊎◌, ◌==◌, ◌≢◌, bit_and}
use Rattle.chip.specs.Flash.{Flash}
use Rattle.label.specs.declared.Sizes.{Sizes}
use Rattle.ring.specs.Searches.{least, count}
use Rattle.ring.specs.Tally.{tally_bit, tally_bits, begun}
use Rattle.ring.specs.Places.{positions, block_at, slot_at, chip_block, descriptor_byte, flags_at, sector_at, page_byte}
use Rattle.ring.specs.Logs.{ends, is_copy, unclosed_copy, claimed, unclaimed, log, is_live}

-- legal flags: FF; 7F, 5F, 4F, 77, 57 of puts; BF, 9F, 8F of copies
abbrev pub legal : ℕ → Bool
legal f = f == 255 || (f == 127 || (f == 95 || (f == 79 || (f == 119 || (f == 87 || (is_copy f))))))

-- flags that only the last claimed slot may have: 7F, BF, 9F
abbrev pub unfilled : ℕ → Bool
unfilled f = f == 127 || unclosed_copy f

-- flags of a slot that has a sector number: 5F, 4F, 57, 9F, 8F
abbrev pub numbered : ℕ → Bool
numbered f = f == 95 || (f == 79 || (f == 87 || (f == 159 || f == 143)))

-- 1: the byte j of the tally has a cleared bit behind one that is not cleared
pub record Disordered (s : Flash) (k j : ℕ) : Type 0 where
  pub bit : ℕ
  pub inside : bit < tally_bits k
  pub byte : bit / 8 ≡ j
  pub cleared : tally_bit s bit ≡ 0
  pub earlier : ℕ
  pub before : earlier < bit
  pub uncleared : tally_bit s earlier ≡ 1

-- 2: the directory of a position's block has another byte than FF hex behind its descriptors, or at the end of one
pub record Scribbled (s : Flash) (z : Sizes) (c p : ℕ) : Type 0 where
  pub offset : ℕ
  pub inside : offset < 512
  pub spare : (28 ≤ offset) ⊎ (offset % 4 ≡ 3)
  pub marked : s.byte (chip_block z (block_at z c p)) offset ≡ 255 → ⊥

-- 3: the flags of a position are not legal
abbrev pub Illegal : Flash → Sizes → ℕ → ℕ → Type 0
Illegal s z c p = legal (flags_at s z c p) ≡ false

-- 4: a position from the first unclaimed one on has another byte than FF hex in its descriptor or page
pub record Unclean (s : Flash) (z : Sizes) (c p : ℕ) : Type 0 where
  pub behind : claimed s z c ≤ p
  pub marked : ((i : ℕ) × (i < 4) × (descriptor_byte s z c p i ≢ 255)) ⊎ ((o : ℕ) × (o < 512) × (page_byte s z c p o ≢ 255))

-- 5: a claimed position before the last is not filled, or a copy behind another slot does not follow a group's end
pub data Misplaced (s : Flash) (z : Sizes) (c p : ℕ) : Type 0 where
  unfinished : suc p < claimed s z c → unfilled (flags_at s z c p) ≡ true → Misplaced s z c p
  inside_group : 0 < p → p < claimed s z c → is_copy (flags_at s z c p) ≡ true → ends (flags_at s z c (p - 1)) ≡ false → Misplaced s z c p

-- 6: the sector number of a position is too large
pub record Beyond (s : Flash) (z : Sizes) (c p : ℕ) : Type 0 where
  pub numbered : numbered (flags_at s z c p) ≡ true
  pub large : z.sectors ≤ sector_at s z c p

-- the last claimed position is that before q
abbrev pub LastIs : Flash → Sizes → ℕ → ℕ → Type 0
LastIs s z c p = suc p ≡ claimed s z c

-- how many of the first seven positions are live, and the first of them
abbrev pub live_front : Flash → Sizes → ℕ → ℕ
live_front s z c = count (is_live (log s z c)) 7

abbrev pub first_live : Flash → Sizes → ℕ → ℕ
first_live s z c = least (is_live (log s z c)) 7

-- 7: an erase has begun, and the last claimed slot does not end a group
pub record Unended (s : Flash) (z : Sizes) (c p : ℕ) : Type 0 where
  pub begun : begun c ≡ true
  pub last : LastIs s z c p
  pub inside : ends (flags_at s z c p) ≡ false

-- 8: no erase has begun, and the unclaimed slots, with one for an unclosed copy, are too few for the live slots of
-- positions 0 to 6
pub record Crowded (s : Flash) (z : Sizes) (c p : ℕ) : Type 0 where
  pub idle : begun c ≡ false
  pub last : LastIs s z c p
  pub few : unclaimed s z c + cond (unclosed_copy (flags_at s z c p)) 1 0 < live_front s z c

-- position q shows a 1 in its number and page wherever position p does
pub record Covers (s : Flash) (z : Sizes) (c q p : ℕ) : Type 0 where
  pub number : (i : ℕ) → i < 2 → bit_and (descriptor_byte s z c q (i + 1)) (descriptor_byte s z c p (i + 1)) ≡ descriptor_byte s z c p (i + 1)
  pub page : (o : ℕ) → o < 512 → bit_and (page_byte s z c q o) (page_byte s z c p o) ≡ page_byte s z c p o

-- 9: an unclosed copy is right: it is at position 7 or later, there is a live slot before that, and it covers the first
pub record Copying (s : Flash) (z : Sizes) (c p : ℕ) : Type 0 where
  pub late : 7 ≤ p
  pub source : first_live s z c < 7
  pub covers : Covers s z c p (first_live s z c)

pub record Astray (s : Flash) (z : Sizes) (c p : ℕ) : Type 0 where
  pub last : LastIs s z c p
  pub copy : unclosed_copy (flags_at s z c p) ≡ true
  pub wrong : Copying s z c p → ⊥

-- a breach of a rule at a place: a byte of the tally, a ring block, or a slot
abbrev pub At : Sizes → ℕ → (ℕ → ℕ) → (ℕ → Type 0) → ℕ → Type 0
At z c place P n = (p : ℕ) × (p < positions z c) × (place p ≡ n) × P p

pub data Breach (s : Flash) (z : Sizes) (c : ℕ) : ℕ → ℕ → Type 0 where
  tally : {n : ℕ} → Disordered s z.tally n → Breach s z c 1 n
  directory : {n : ℕ} → At z c (block_at z c) (Scribbled s z c) n → Breach s z c 2 n
  flags : {n : ℕ} → At z c (slot_at z c) (Illegal s z c) n → Breach s z c 3 n
  blank : {n : ℕ} → At z c (slot_at z c) (Unclean s z c) n → Breach s z c 4 n
  order : {n : ℕ} → At z c (slot_at z c) (Misplaced s z c) n → Breach s z c 5 n
  sector : {n : ℕ} → At z c (slot_at z c) (Beyond s z c) n → Breach s z c 6 n
  group : {n : ℕ} → At z c (slot_at z c) (Unended s z c) n → Breach s z c 7 n
  room : {n : ℕ} → At z c (slot_at z c) (Crowded s z c) n → Breach s z c 8 n
  copy : {n : ℕ} → At z c (slot_at z c) (Astray s z c) n → Breach s z c 9 n

-- a rule that is kept, and an image that keeps the first n
abbrev pub Kept : Flash → Sizes → ℕ → ℕ → Type 0
Kept s z c rule = (place : ℕ) → Breach s z c rule place → ⊥

abbrev pub Lawful : Flash → Sizes → ℕ → Type 0
Lawful s z c = (rule : ℕ) → rule ≤ 9 → Kept s z c rule

-- the lowest broken rule, and its lowest place
pub record Broken (s : Flash) (z : Sizes) (c rule place : ℕ) : Type 0 where
  pub breach : Breach s z c rule place
  pub lowest : (q : ℕ) → q < place → Breach s z c rule q → ⊥
  pub before : (r : ℕ) → r < rule → Kept s z c r
