-- The last claimed slot, case by case.
use Rattle.std.proofs.Common.{◌≡◌, ℕ, ◌+◌, ◌≤◌, true, false, cond, sym, ap, ◌∙◌, subst, arith}
use Rattle.chip.specs.Flash.{Flash}
use Rattle.ring.specs.Places.{flags_at}
use Rattle.ring.specs.Tally.{begun}
use Rattle.ring.specs.Turns.{Ready}
use Rattle.ring.specs.Logs.{unclaimed, ends, unclosed_copy, is_live, log as log_in}
use Rattle.ring.specs.Rules.{LastIs, Copying, live_front}
use Rattle.image.proofs.Lasting.{front_count, ended_closed, ended_idle, ended, roomy_begun, roomy, straight_closed, straight, kept_all, breaks_group, breaks_room, breaks_copy}
use Rattle.image.specs.Sevens.{FirstOf}
use Rattle.image.proofs.Sevens.{first_same}
use Rattle.image.proofs.last.check_last.Goals as goal

pub returns-then-ends_group : goal.returns-then-ends_group
returns-then-ends_group g c =
    let s = g.C.Chip.flash c.args.chip.now in
    let z = c.args.log.layout.sizes in
    let n = c.args.log.layout.cleared in
    let p = c.in-Some.last.0 in
    let last : LastIs s z n p = omega (arith, c.in-Some.ensures, c.requires.claimed) in
    let end : ends (flags_at s z n p) ≡ true = ap ends (sym c.read_flags-flags.ensures.flags) ∙ sym c.ends_group.ensures ∙ c.if-ends_group.true in
    let on : begun n ≡ true = sym c.begun.ensures ∙ c.if-begun.true in
    record {
      checked = kept_all s z n (ended s z n p last end) (roomy_begun s z n on) (straight_closed s z n p last (ended_closed (flags_at s z n p) end));
      keeps = c.read_flags-flags.ensures.keeps;
    }

pub returns-then-begun : goal.returns-then-begun
returns-then-begun g c =
    let s = g.C.Chip.flash c.args.chip.now in
    let z = c.args.log.layout.sizes in
    let n = c.args.log.layout.cleared in
    let p = c.in-Some.last.0 in
    let last : LastIs s z n p = omega (arith, c.in-Some.ensures, c.requires.claimed) in
    let open-group : ends (flags_at s z n p) ≡ false = ap ends (sym c.read_flags-flags.ensures.flags) ∙ sym c.ends_group.ensures ∙ c.if-ends_group.false in
    let on : begun n ≡ true = sym c.begun.ensures ∙ c.if-begun.true in
    record {
      checked = breaks_group s z n p c.slot-place.result.0 last (omega (arith, c.in-Some.ensures, c.requires.inside)) c.slot-place.ensures record { begun = on; last = last; inside = open-group };
      keeps = c.read_flags-flags.ensures.keeps;
    }

pub returns-then-spare_slots-how_many : goal.returns-then-spare_slots-how_many
returns-then-spare_slots-how_many g c =
    let s = g.C.Chip.flash c.args.chip.now in
    let z = c.args.log.layout.sizes in
    let n = c.args.log.layout.cleared in
    let p = c.in-Some.last.0 in
    let last : LastIs s z n p = omega (arith, c.in-Some.ensures, c.requires.claimed) in
    let idle : begun n ≡ false = sym c.begun.ensures ∙ c.if-begun.false in
    let copying : c.is_unclosed_copy-copying.result ≡ unclosed_copy (flags_at s z n p) = c.is_unclosed_copy-copying.ensures ∙ ap unclosed_copy c.read_flags-flags.ensures.flags in
    let spare = ap (λ b. cond {A = ℕ} b 1 0) copying in
    let live = c.how_many.ensures ∙ front_count s z n c.args.front c.requires.front in
    record {
      checked = breaks_room s z n p c.slot-place.result.0 last (omega (arith, c.in-Some.ensures, c.requires.inside)) c.slot-place.ensures (ended_idle s z n idle) record { idle = idle; last = last; few = omega (arith, spare, live, c.spare_slots.ensures, c.if-spare_slots-how_many.true, c.requires.claimed) };
      keeps = c.read_flags-flags.ensures.keeps;
    }

pub is_right_copy-requires : goal.is_right_copy-requires
is_right_copy-requires g c =
    let kept = sym c.read_flags-flags.ensures.keeps in
    let z = c.args.log.layout.sizes in
    let n = c.args.log.layout.cleared in
    record {
      ready = subst (λ (x : Flash). Ready x z n) kept c.requires.ready;
      source = subst (λ (x : Flash). FirstOf (is_live (log_in x z n)) c.first_of.result) kept (first_same _ _ c.first_of.result c.requires.front c.first_of.ensures);
    }

pub returns-then-not-copying : goal.returns-then-not-copying
returns-then-not-copying g c =
    let s = g.C.Chip.flash c.args.chip.now in
    let z = c.args.log.layout.sizes in
    let n = c.args.log.layout.cleared in
    let p = c.in-Some.last.0 in
    let last : LastIs s z n p = omega (arith, c.in-Some.ensures, c.requires.claimed) in
    let idle : begun n ≡ false = sym c.begun.ensures ∙ c.if-begun.false in
    let copying : c.is_unclosed_copy-copying.result ≡ unclosed_copy (flags_at s z n p) = c.is_unclosed_copy-copying.ensures ∙ ap unclosed_copy c.read_flags-flags.ensures.flags in
    let spare = ap (λ b. cond {A = ℕ} b 1 0) copying in
    let live = c.how_many.ensures ∙ front_count s z n c.args.front c.requires.front in
    let room : live_front s z n ≤ unclaimed s z n + cond (unclosed_copy (flags_at s z n p)) 1 0 = omega (arith, spare, live, c.spare_slots.ensures, c.if-spare_slots-how_many.false, c.requires.claimed) in
    record {
      checked = kept_all s z n (ended_idle s z n idle) (roomy s z n p last room) (straight_closed s z n p last (sym copying ∙ c.if-not-copying.true));
      keeps = c.read_flags-flags.ensures.keeps;
    }

pub returns-then-is_right_copy : goal.returns-then-is_right_copy
returns-then-is_right_copy g c =
    let s = g.C.Chip.flash c.args.chip.now in
    let z = c.args.log.layout.sizes in
    let n = c.args.log.layout.cleared in
    let p = c.in-Some.last.0 in
    let last : LastIs s z n p = omega (arith, c.in-Some.ensures, c.requires.claimed) in
    let idle : begun n ≡ false = sym c.begun.ensures ∙ c.if-begun.false in
    let copying : c.is_unclosed_copy-copying.result ≡ unclosed_copy (flags_at s z n p) = c.is_unclosed_copy-copying.ensures ∙ ap unclosed_copy c.read_flags-flags.ensures.flags in
    let spare = ap (λ b. cond {A = ℕ} b 1 0) copying in
    let live = c.how_many.ensures ∙ front_count s z n c.args.front c.requires.front in
    let room : live_front s z n ≤ unclaimed s z n + cond (unclosed_copy (flags_at s z n p)) 1 0 = omega (arith, spare, live, c.spare_slots.ensures, c.if-spare_slots-how_many.false, c.requires.claimed) in
    let right = subst (λ (x : Flash). Copying x z n p) c.read_flags-flags.ensures.keeps c.if-is_right_copy.ensures.tells in
    record {
      checked = kept_all s z n (ended_idle s z n idle) (roomy s z n p last room) (straight s z n p last right);
      keeps = c.is_right_copy.ensures.keeps ∙ c.read_flags-flags.ensures.keeps;
    }

pub returns : goal.returns
returns g c =
    let s = g.C.Chip.flash c.args.chip.now in
    let z = c.args.log.layout.sizes in
    let n = c.args.log.layout.cleared in
    let p = c.in-Some.last.0 in
    let last : LastIs s z n p = omega (arith, c.in-Some.ensures, c.requires.claimed) in
    let idle : begun n ≡ false = sym c.begun.ensures ∙ c.if-begun.false in
    let copying : c.is_unclosed_copy-copying.result ≡ unclosed_copy (flags_at s z n p) = c.is_unclosed_copy-copying.ensures ∙ ap unclosed_copy c.read_flags-flags.ensures.flags in
    let spare = ap (λ b. cond {A = ℕ} b 1 0) copying in
    let live = c.how_many.ensures ∙ front_count s z n c.args.front c.requires.front in
    let room : live_front s z n ≤ unclaimed s z n + cond (unclosed_copy (flags_at s z n p)) 1 0 = omega (arith, spare, live, c.spare_slots.ensures, c.if-spare_slots-how_many.false, c.requires.claimed) in
    let wrong = subst (λ (x : Flash). Copying x z n p → ⊥) c.read_flags-flags.ensures.keeps c.if-is_right_copy.ensures.tells in
    record {
      checked = breaks_copy s z n p c.slot-place.result.0 last (omega (arith, c.in-Some.ensures, c.requires.inside)) c.slot-place.ensures (ended_idle s z n idle) (roomy s z n p last room) record { last = last; copy = sym copying ∙ c.if-not-copying.false; wrong = wrong };
      keeps = c.is_right_copy.ensures.keeps ∙ c.read_flags-flags.ensures.keeps;
    }
