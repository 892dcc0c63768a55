-- What the descriptors of a block say of the positions of its turn.
use Rattle.std.proofs.Common.{◌≡◌, ℕ, ◌+◌, ◌*◌, ◌%◌, ◌<◌, List, get_or, sym, ap, ◌∙◌, subst, arith}
use Rattle.chip.specs.Flash.{Flash}
use Rattle.label.specs.declared.Sizes.{Sizes}
use Rattle.ring.specs.declared.directory.Descriptor.{Descriptor}
use Rattle.ring.specs.Directories.{none}
use Rattle.ring.specs.Places.{chip_block, first_block, descriptor_byte, flags_at}
use Rattle.rules.specs.Breaches.{Shows}
use Rattle.rules.proofs.Going.{turn_is, slot_is}

-- the bytes of a position's descriptor lie in the block of its turn
byte_of : (s : Flash) (z : Sizes) (c i j k : ℕ) → j < 7 → descriptor_byte s z c (7 * i + j) k ≡ s.byte (chip_block z ((first_block z c + i) % z.ring)) (4 * j + k)
byte_of s z c i j k lt =
    ap (λ t. s.byte (chip_block z ((first_block z c + t) % z.ring)) (4 * ((7 * i + j) % 7) + k)) (turn_is i j lt)
    ∙ ap (λ t. s.byte (chip_block z ((first_block z c + i) % z.ring)) (4 * t + k)) (slot_is i j lt)

-- a chip that is as it was shows the same
pub shows_as : {s t : Flash} {z : Sizes} {c i : ℕ} {slots : List Descriptor} → t ≡ s → Shows t z c i slots → Shows s z c i slots
shows_as {z = z} {c = c} {i = i} {slots = slots} e h = subst (λ u. Shows u z c i slots) e h

pub flags_of : (s : Flash) (z : Sizes) (c i : ℕ) (slots : List Descriptor) (j : ℕ) → Shows s z c i slots → j < 7 → flags_at s z c (7 * i + j) ≡ (get_or slots j none).flags
flags_of s z c i slots j h lt =
    let zero : 4 * j + 0 ≡ 4 * j = omega arith in
    byte_of s z c i j 0 lt ∙ ap (s.byte (chip_block z ((first_block z c + i) % z.ring))) zero ∙ sym (h.describes.flags j lt)
