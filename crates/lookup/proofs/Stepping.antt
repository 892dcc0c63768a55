-- One step of a walk, from the directory that describes the slot before, whichever directory the walk held until then.
use Rattle.std.proofs.Common.{◌≡◌, ℕ, ◌+◌, ◌-◌, ◌%◌, ◌<◌, ◌≤◌, Bool, cond, List, get_or, drop, Some, sym, refl, ap, ◌∙◌, ap₂, subst, arith}
use Rattle.std.proofs.lemmas.Option.{same_Some}
use Rattle.chip.specs.Flash.{Flash}
use Rattle.label.specs.declared.Sizes.{Sizes}
use Rattle.ring.specs.declared.directory.Descriptor.{Descriptor}
use Rattle.ring.specs.Places.{positions, chip_block, block_at, flags_at, sector_at}
use Rattle.ring.specs.Directories.{Describes, none}
use Rattle.ring.specs.Logs.{closes, ends, counts}
use Rattle.lookup.specs.declared.walk.Walk.{Walk}
use Rattle.ring.specs.declared.layout.Log.{Log}
use Rattle.lookup.specs.Walks.{slots_of, Stepped}
use Rattle.lookup.proofs.Backward.{counts_step}

-- a directory gives the flags and the sector of a position of its block
flags_there : (s : Flash) (z : Sizes) (c p : ℕ) (ds : List Descriptor) → Describes s (chip_block z (block_at z c p)) ds → (get_or ds (p % 7) none).flags ≡ flags_at s z c p
flags_there s z c p ds h = h.flags (p % 7) (omega arith) ∙ ap (s.byte (chip_block z (block_at z c p))) (omega arith)

sector_there : (s : Flash) (z : Sizes) (c p : ℕ) (ds : List Descriptor) → Describes s (chip_block z (block_at z c p)) ds → (get_or ds (p % 7) none).sector.0 ≡ sector_at s z c p
sector_there s z c p ds h = h.sector (p % 7) (omega arith)

pub stepped : (s : Flash) (log : Log) (w : Walk) (ds : List Descriptor) (k : ℕ) (b : Bool) → log.claimed ≤ positions log.layout.sizes log.layout.cleared → w.position ≤ log.claimed → w.counting ≡ counts (drop w.position (slots_of s log)) → 0 < w.position → Describes s (chip_block log.layout.sizes (block_at log.layout.sizes log.layout.cleared (w.position - 1))) ds → k ≡ (w.position - 1) % 7 → b ≡ cond (ends (get_or ds k none).flags) (closes (get_or ds k none).flags) w.counting → Stepped s log w (Some record { position = w.position - 1; sector = (get_or ds k none).sector; counts = b }) record { position = w.position - 1; counting = b; held = Some ds }
stepped s log w ds k b bound inside group some d at e =
    let z = log.layout.sizes in
    let c = log.layout.cleared in
    let p = w.position - 1 in
    let lt : p < log.claimed = omega (arith, inside) in
    let next : p + 1 ≡ w.position = omega arith in
    let flags : (get_or ds k none).flags ≡ flags_at s z c p = ap (λ i. (get_or ds i none).flags) at ∙ flags_there s z c p ds d in
    let sector : (get_or ds k none).sector.0 ≡ sector_at s z c p = ap (λ i. (get_or ds i none).sector.0) at ∙ sector_there s z c p ds d in
    let counting : b ≡ counts (drop p (slots_of s log)) =
    e ∙ ap₂ (λ f t. cond (ends f) (closes f) t) flags (group ∙ ap (λ i. counts (drop i (slots_of s log))) (sym next))
    ∙ sym (counts_step s z c log.claimed p lt) in (
      next,
      refl,
      record { inside = lt; number = sector; group = counting },
      record { bound = bound; inside = omega (arith, inside); group = counting; has = λ _ _. (ds, refl); held = λ es is _. subst (Describes s (chip_block z (block_at z c p))) (same_Some _ _ is) d },
    )
